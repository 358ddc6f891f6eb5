-- The numbers of the frame of a procedure have 16 bits, where its module is within.
use Rattle.std.proofs.Common.{◌≡◌, ℕ, zero, suc, ◌<◌, Bool, true, ◌&&◌, List, [], ◌∷◌, length, map, Option, Some, None, slice_get, refl, sym, subst, arith}
use Rattle.std.specs.List.{AllByRecursion, list_all}
use Rattle.std.proofs.lemmas.Bool.{and_parts}
use Rattle.rt_modes.specs.declared.mode.Mode.{Mode, out-Mode}
use Rattle.rt_tree_nodes.specs.declared.brick.Brick.{Brick}
use Rattle.rt_tree_nodes.specs.declared.brick.BrickSort.{BrickSort}
use Rattle.rt_tree_nodes.specs.declared.brick.BrickSort.TheVariants as sort
use Rattle.rt_tree_nodes.specs.declared.brick.Kind.{Kind}
use Rattle.rt_tree_nodes.specs.declared.brick.ModuleParts.{ModuleParts}
use Rattle.rt_tree_nodes.specs.declared.brick.ProcBody.{ProcBody}
use Rattle.rt_tree_nodes.specs.declared.statement.Body.{out-Body}
use Rattle.rt_tree_nodes.specs.Scopes.{Scope, with, passes, scope_of, with_locals}
use Rattle.rt_tree_nodes.specs.Typing.{Signature, signature_by}
use Rattle.rt_tree.specs.Depth.{sequence_depth}
use Rattle.rt_tree.specs.Modules.{record_stands, brick_fits, sort_fits, procedure_fits, body_fits, proc_fits, is_here, stands_alone, parameters_first, local_stands, numbers_all, numbers_behind, is_last, closes, is_short, first_sight}
use Rattle.rt_tree.specs.Statements.{body_tree, labels_end, marked, next_by}
use Rattle.rt_tree.specs.Within.{SortWithin, BodyWithin, parameters_of, tree_of}
use Rattle.rt_frames.specs.declared.frame.CallPoint.{CallPoint}
use Rattle.rt_frames.specs.declared.frame.Frame.{Frame}
use Rattle.rt_frames.specs.Frames.{body_frame, frame_by, frame_in}
use Rattle.rt_frames.specs.Points.{body_points}
use Rattle.rt_frames.specs.Small.{IsSmall, IsSmallPoint, NumbersAreSmall}
use Rattle.rt_frames.proofs.Spread.{body_under}
use Rattle.rt_frames.proofs.Under.{AllUnder, there_with, there_passes}

pub tested_at : {A : Type 0} (test : A → Bool) (xs : List A) (k : ℕ) (x : A) → list_all test xs ≡ true → slice_get xs k ≡ Some x → test x ≡ true
tested_at test [] k x h e = absurd cc
tested_at test (y ∷ ys) zero x h e = let same : y ≡ x = cc in rw (sym same) (and_parts (test y) (list_all test ys) h).0
tested_at test (y ∷ ys) (suc k) x h e = tested_at test ys k x (and_parts (test y) (list_all test ys) h).1 e

held_at : {A : Type 0} (P : A → Type 0) (xs : List A) (k : ℕ) (x : A) → AllByRecursion P xs → slice_get xs k ≡ Some x → P x
held_at P [] k x h e = absurd cc
held_at P (y ∷ ys) zero x h e = let same : y ≡ x = cc in subst P same h.0
held_at P (y ∷ ys) (suc k) x h e = held_at P ys k x h.1 e

small_points : (t : ℕ) (ps : List CallPoint) → t < 65536 → AllUnder t ps → AllByRecursion IsSmallPoint ps
small_points t [] l h = tt
small_points t (p ∷ ps) l h = (record { depth = omega (arith, l, h.0.depth); args = omega (arith, l, h.0.args) }, small_points t ps l h.1)

-- a procedure that fits has its points below its depth
points_under : (c : Scope) (ms : List Mode) (r : Option Mode) (b : ProcBody) → proc_fits c ms r b ≡ true → AllUnder (sequence_depth (body_tree (with_locals c b.locals) b.body)) (body_points (with_locals c b.locals) b.body)
points_under c ms r b h =
    let first = and_parts (parameters_first ms b.locals) _ h in
    let second = and_parts (list_all (local_stands (length c.records)) b.locals) _ first.1 in
    let third = and_parts (numbers_all c (length ms) r b) (closes r b.body) second.1 in
    let there = there_passes (is_last b) (numbers_behind (with_locals c b.locals) (length ms) r b.body) third.0 in
    let outermost = there_with (labels_end 0 (map (marked (with_locals c b.locals)) (out-Body b.body).statements)) _ there in
    body_under (with_locals c b.locals) b.body (first_sight r outermost.0) (next_by 0 (length ms)) outermost.1.1

small_by : (p : ModuleParts) (k : Kind) (m : Mode) (o : Option ProcBody) (f : Frame) → procedure_fits (scope_of p) k m o ≡ true → BodyWithin p (parameters_of m) o → frame_by p m o ≡ Some f → IsSmall f
small_by p k m None f h w e = absurd cc
small_by p k m (Some b) f h w e =
    let same : body_frame p (parameters_of m) b ≡ f = cc in
    subst IsSmall same (by_signature (signature_by (out-Mode m)) h) where
      by_signature : (o : Option Signature) → passes (λ s. stands_alone (length (scope_of p).records) m && body_fits (scope_of p) k s (Some b)) o ≡ true → IsSmall (body_frame p (parameters_of m) b)
      by_signature None g = absurd cc
      by_signature (Some s) g =
          let here = and_parts (stands_alone (length (scope_of p).records) m) (body_fits (scope_of p) k s (Some b)) g in
          let fits = and_parts (is_here k) (proc_fits (scope_of p) s.parameters s.answer b) here.1 in
          record {
            params = w.parameters;
            locals = w.locals;
            deep = w.depth;
            calls = small_points (sequence_depth (tree_of p b)) _ w.depth (points_under (scope_of p) s.parameters s.answer b fits.1);
          }

small_in : (p : ModuleParts) (k : Kind) (n : List ℕ) (s : BrickSort) (f : Frame) → sort_fits (scope_of p) k n s ≡ true → SortWithin p s → frame_in p s ≡ Some f → IsSmall f
small_in p k n (sort.Proc m o) f h w e = small_by p k m o f h w e
small_in p k n (sort.Data fs ss) f h w e = absurd cc
small_in p k n (sort.Stack words) f h w e = absurd cc

pub all_small : NumbersAreSmall
all_small p b f h w e = by_brick (slice_get p.bricks b) refl e where
  by_brick : (o : Option Brick) → slice_get p.bricks b ≡ o → with o (λ d. frame_in p d.sort) ≡ Some f → IsSmall f
  by_brick None o g = absurd cc
  by_brick (Some d) o g =
      let first = and_parts (list_all (record_stands (length p.modes.records)) p.modes.records) _ h in
      let second = and_parts (list_all (brick_fits (scope_of p)) p.bricks) (list_all is_short p.strings) first.1 in
      small_in p d.kind d.name d.sort f (tested_at (brick_fits (scope_of p)) p.bricks b d second.0 o) (held_at (λ (x : Brick). SortWithin p x.sort) p.bricks b d w o) g
