-- The points of the frames of procedures.
use Rattle.std.proofs.Common.{◌≡◌, ℕ, true, ◌&&◌, List, length, map, Option, Some, None, slice_get, refl, subst}
use Rattle.std.specs.List.{list_all}
use Rattle.std.proofs.lemmas.Bool.{and_parts}
use Rattle.rt_modes.specs.declared.mode.Mode.{Mode, out-Mode}
use Rattle.rt_tree_nodes.specs.declared.brick.Brick.{Brick}
use Rattle.rt_tree_nodes.specs.declared.brick.BrickSort.{BrickSort}
use Rattle.rt_tree_nodes.specs.declared.brick.BrickSort.TheVariants as sort
use Rattle.rt_tree_nodes.specs.declared.brick.Kind.{Kind}
use Rattle.rt_tree_nodes.specs.declared.brick.ModuleParts.{ModuleParts}
use Rattle.rt_tree_nodes.specs.declared.brick.ProcBody.{ProcBody}
use Rattle.rt_tree_nodes.specs.declared.statement.Body.{out-Body}
use Rattle.rt_tree_nodes.specs.Scopes.{Scope, with, passes, scope_of, with_locals}
use Rattle.rt_tree_nodes.specs.Tree.{Seq}
use Rattle.rt_tree_nodes.specs.Typing.{Signature, signature_by}
use Rattle.rt_tree.specs.Modules.{record_stands, brick_fits, sort_fits, procedure_fits, body_fits, proc_fits, is_here, stands_alone, parameters_first, local_stands, numbers_all, numbers_behind, is_last, closes, is_short, first_sight}
use Rattle.rt_tree.specs.Statements.{body_tree, labels_end, marked, next_by}
use Rattle.rt_tree.specs.Within.{parameters_of, tree_of}
use Rattle.rt_frames.specs.declared.frame.Frame.{Frame}
use Rattle.rt_frames.specs.Frames.{body_frame, frame_by, frame_in}
use Rattle.rt_frames.specs.Points.{body_points}
use Rattle.rt_frames.proofs.Under.{there_with, there_passes}
use Rattle.rt_frames.proofs.Within.{tested_at}
use Rattle.rt_frames_laws.specs.Laws.{tree_in, IsPlain, PointsArePlain}
use Rattle.rt_frames_laws.specs.Plain.{sequence_points}
use Rattle.rt_frames_laws.proofs.Bodies.{body_is}

-- a procedure that fits has the points of its plain tree
points_are : (c : Scope) (ms : List Mode) (r : Option Mode) (b : ProcBody) → proc_fits c ms r b ≡ true → body_points (with_locals c b.locals) b.body ≡ sequence_points (body_tree (with_locals c b.locals) b.body)
points_are c ms r b h =
    let first = and_parts (parameters_first ms b.locals) _ h in
    let second = and_parts (list_all (local_stands (length c.records)) b.locals) _ first.1 in
    let third = and_parts (numbers_all c (length ms) r b) (closes r b.body) second.1 in
    let there = there_passes (is_last b) (numbers_behind (with_locals c b.locals) (length ms) r b.body) third.0 in
    let outermost = there_with (labels_end 0 (map (marked (with_locals c b.locals)) (out-Body b.body).statements)) _ there in
    body_is (with_locals c b.locals) b.body (first_sight r outermost.0) (next_by 0 (length ms)) outermost.1.1

plain_by : (p : ModuleParts) (k : Kind) (m : Mode) (b : ProcBody) → procedure_fits (scope_of p) k m (Some b) ≡ true → IsPlain (body_frame p (parameters_of m) b) (tree_of p b)
plain_by p k m b h = by_signature (signature_by (out-Mode m)) h
  where
    by_signature : (o : Option Signature) → passes (λ s. stands_alone (length (scope_of p).records) m && body_fits (scope_of p) k s (Some b)) o ≡ true → IsPlain (body_frame p (parameters_of m) b) (tree_of p b)
    by_signature None g = absurd cc
    by_signature (Some s) g =
        let here = and_parts (stands_alone (length (scope_of p).records) m) (body_fits (scope_of p) k s (Some b)) g in
        let fits = and_parts (is_here k) (proc_fits (scope_of p) s.parameters s.answer b) here.1 in
        record { calls = points_are (scope_of p) s.parameters s.answer b fits.1; deep = refl }

plain_proc : (p : ModuleParts) (k : Kind) (m : Mode) (o : Option ProcBody) (f : Frame) (q : Seq) → procedure_fits (scope_of p) k m o ≡ true → frame_by p m o ≡ Some f → tree_in p (sort.Proc m o) ≡ Some q → IsPlain f q
plain_proc p k m None f q h e t = absurd cc
plain_proc p k m (Some b) f q h e t =
    let same : body_frame p (parameters_of m) b ≡ f = cc in
    let tree : tree_of p b ≡ q = cc in
    subst (λ (g : Frame). IsPlain g q) same (subst (λ (s : Seq). IsPlain (body_frame p (parameters_of m) b) s) tree (plain_by p k m b h))

plain_in : (p : ModuleParts) (k : Kind) (n : List ℕ) (s : BrickSort) (f : Frame) (q : Seq) → sort_fits (scope_of p) k n s ≡ true → frame_in p s ≡ Some f → tree_in p s ≡ Some q → IsPlain f q
plain_in p k n (sort.Proc m o) f q h e t = plain_proc p k m o f q h e t
plain_in p k n (sort.Data fs ss) f q h e t = absurd cc
plain_in p k n (sort.Stack words) f q h e t = absurd cc

pub all_plain : PointsArePlain
all_plain p b f q h e t = by_brick (slice_get p.bricks b) refl e t
  where
    by_brick : (o : Option Brick) → slice_get p.bricks b ≡ o → with o (λ d. frame_in p d.sort) ≡ Some f → with o (λ d. tree_in p d.sort) ≡ Some q → IsPlain f q
    by_brick None o g u = absurd cc
    by_brick (Some d) o g u =
        let first = and_parts (list_all (record_stands (length p.modes.records)) p.modes.records) _ h in
        let second = and_parts (list_all (brick_fits (scope_of p)) p.bricks) (list_all is_short p.strings) first.1 in
        plain_in p d.kind d.name d.sort f q (tested_at (brick_fits (scope_of p)) p.bricks b d second.0 o) g u
