-- The values that the code of a procedure holds.
use Rattle.std.proofs.Common.{◌≡◌, ℕ, zero, suc, ◌+◌, ◌-◌, ◌≤◌, true, false, ◌&&◌, List, [], ◌∷◌, ◌++◌, length, map, Option, Some, None, slice_get, refl, sym, ap, ◌∙◌, subst, arith}
use Rattle.std.specs.List.{AllByRecursion, list_all}
use Rattle.std.proofs.lemmas.Bool.{and_parts}
use Rattle.rt_modes.specs.declared.mode.Mode.{Mode, out-Mode}
use Rattle.rt_tree_nodes.specs.declared.brick.Brick.{Brick}
use Rattle.rt_tree_nodes.specs.declared.brick.BrickSort.{BrickSort}
use Rattle.rt_tree_nodes.specs.declared.brick.BrickSort.TheVariants as sort
use Rattle.rt_tree_nodes.specs.declared.brick.Kind.{Kind}
use Rattle.rt_tree_nodes.specs.declared.brick.ModuleParts.{ModuleParts}
use Rattle.rt_tree_nodes.specs.declared.brick.ProcBody.{ProcBody}
use Rattle.rt_tree_nodes.specs.declared.statement.Body.{out-Body}
use Rattle.rt_tree_nodes.specs.Scopes.{with, passes, scope_of, with_locals}
use Rattle.rt_tree_nodes.specs.Tree.{Seq}
use Rattle.rt_tree_nodes.specs.Typing.{Signature, signature_by}
use Rattle.rt_tree.specs.Depth.{sequence_depth}
use Rattle.rt_tree.specs.Modules.{record_stands, brick_fits, sort_fits, procedure_fits, body_fits, proc_fits, is_here, stands_alone, parameters_first, local_stands, numbers_all, numbers_behind, is_last, closes, is_short, first_sight, every_node_fits}
use Rattle.rt_tree.specs.Statements.{labels_end, marked, next_by}
use Rattle.rt_tree.specs.Within.{tree_of}
use Rattle.rt_frames.proofs.Under.{there_with, there_passes}
use Rattle.rt_frames.proofs.Within.{tested_at}
use Rattle.rt_frames_laws.specs.Laws.{tree_in, plain_tree, PointsArePlain}
use Rattle.rt_frames_laws.specs.Plain.{sequence_points}
use Rattle.rt_icode.specs.declared.ins.Ins.{Ins}
use Rattle.rt_icode.specs.declared.ins.Ins.TheVariants as ins
use Rattle.rt_icode.specs.Within.{leads, goes_on}
use Rattle.rt_lower.specs.declared.layouts.Layouts.{Layouts}
use Rattle.rt_lower.specs.Layouts.{number}
use Rattle.rt_lower.specs.Code.{leads_in, sequence, place, code_of}
use Rattle.rt_lower_frames_laws.specs.Heights.{takes, leaves, brings, behind, heights, Holds, points_of, told}
use Rattle.rt_lower_frames_laws.specs.Laws.{ValuesAreThoseOfFrames}
use Rattle.rt_lower_frames_laws.proofs.Held.{Enough, Low, Held, held_first, held_then, points_are}
use Rattle.rt_lower_frames_laws.proofs.Sound.{SeqSound}
use Rattle.rt_lower_frames_laws.proofs.Statements.{sequence_held}
use Rattle.rt_lower_frames_laws.proofs.Places.{svc_bare}
use Rattle.rt_lower_frames_laws.proofs.Bodies.{body_sound}
use Rattle.rt_lower_frames_laws.proofs.Ways.{There, Lands, AllLand, Ground, lands_append, some_same, sequence_lands}
use Rattle.rt_lower_frames_laws.proofs.Labels.{Grounded, place_ground}

-- ---- the values before each instruction, by its number

as_long : (h : ℕ) (is : List Ins) → length (heights h is) ≡ length is
as_long h [] = refl
as_long h (i ∷ is) = ap suc (as_long (behind i h) is)

all_low : (most h : ℕ) (is : List Ins) → Low most h is → AllByRecursion (λ n. n ≤ most) (heights h is)
all_low most h [] e = tt
all_low most h (i ∷ is) e = (e.0, all_low most (behind i h) is e.1)

enough_at : (h : ℕ) (is : List Ins) (k g : ℕ) (i : Ins) → Enough h is → slice_get is k ≡ Some i → slice_get (heights h is) k ≡ Some g → takes i ≤ g
enough_at h [] k g i e a b = absurd cc
enough_at h (x ∷ is) zero g i e a b =
    let one : x ≡ i = some_same x i a in
    let two : h ≡ g = some_same h g b in
    subst (λ z. takes z ≤ g) one (subst (λ n. takes x ≤ n) two e.0)
enough_at h (x ∷ is) (suc k) g i e a b = enough_at (behind x h) is k g i e.1 a b

-- the last of them goes on to nothing
abbrev Stops : List Ins → Type 0
Stops [] = Unit {0}
Stops (i ∷ []) = goes_on i ≡ false
Stops (i ∷ j ∷ is) = Stops (j ∷ is)

stops_last : (is : List Ins) (i : Ins) → goes_on i ≡ false → Stops (is ++ i ∷ [])
stops_last [] i e = e
stops_last (x ∷ []) i e = e
stops_last (x ∷ y ∷ is) i e = stops_last (y ∷ is) i e

next_at : (h : ℕ) (is : List Ins) (k g : ℕ) (i : Ins) → Stops is → slice_get is k ≡ Some i → slice_get (heights h is) k ≡ Some g → goes_on i ≡ true → slice_get (heights h is) (suc k) ≡ Some (g - takes i + leaves i)
next_at h [] k g i s a b e = absurd cc
next_at h (x ∷ []) zero g i s a b e =
    absurd (
    let one : x ≡ i = some_same x i a in
    let both : false ≡ true = sym s ∙ ap goes_on one ∙ e in cc)
next_at h (x ∷ []) (suc k) g i s a b e = absurd cc
next_at h (x ∷ y ∷ is) zero g i s a b e =
    let one : x ≡ i = some_same x i a in
    let two : h ≡ g = some_same h g b in
    ap Some (ap (λ z. behind z h) one ∙ ap (behind i) two)
next_at h (x ∷ y ∷ is) (suc k) g i s a b e = next_at (behind x h) (y ∷ is) k g i s a b e

lands_by : (hs : List ℕ) (n h : ℕ) (is : List Ins) (k g to : ℕ) (i : Ins) → AllLand hs n h is → slice_get is k ≡ Some i → slice_get (heights h is) k ≡ Some g → leads (n + k) i ≡ Some to → slice_get hs to ≡ Some (g - takes i + brings i)
lands_by hs n h [] k g to i l a b e = absurd cc
lands_by hs n h (x ∷ is) zero g to i l a b e =
    let one : x ≡ i = some_same x i a in
    let two : h ≡ g = some_same h g b in
    let there : n + 0 ≡ n = omega arith in
    subst (λ m. Lands hs n m i) two (subst (λ z. Lands hs n h z) one l.0) to (ap (λ m. leads m i) (sym there) ∙ e)
lands_by hs n h (x ∷ is) (suc k) g to i l a b e =
    let there : n + suc k ≡ suc n + k = omega arith in
    lands_by hs (suc n) (behind x h) is k g to i l.1 a b (ap (λ m. leads m i) (sym there) ∙ e)

-- ---- one that stands behind others

there_shift : (hs : List ℕ) (g k h : ℕ) (is : List Ins) → There hs k h is → There (g ∷ hs) (suc k) h is
there_shift hs g k h [] t = t
there_shift hs g k h (i ∷ is) t = (t.0, there_shift hs g (suc k) (behind i h) is t.1)

there_before : (h : ℕ) (xs : List Ins) (y : Ins) (ys : List Ins) → There (heights h (xs ++ y ∷ ys)) 0 h xs
there_before h [] y ys = refl
there_before h (x ∷ xs) y ys = (refl, there_shift (heights (behind x h) (xs ++ y ∷ ys)) h 0 (behind x h) xs (there_before (behind x h) xs y ys))

-- ---- the code of a procedure

module _ (l : Layouts) (b parameters locals : ℕ) (q : Seq) (s : SeqSound q) where
  abbrev enter : Ins
  enter = ins.Enter b parameters locals false

  abbrev body : List Ins
  body = sequence l (leads_in l q) 1 q

  abbrev code : List Ins
  code = code_of l b parameters locals q

  abbrev before : List ℕ
  before = heights 0 code

  held_body : Held 0 0 (sequence_depth q) body (sequence_points q)
  held_body = sequence_held l q s (leads_in l q) 1

  held : Held 0 0 (sequence_depth q) code (sequence_points q)
  held =
      held_first 0 0 0 (sequence_depth q) (sequence_depth q) enter (body ++ ins.Leave ∷ []) (sequence_points q) refl (omega arith) refl (omega arith) (omega arith) (omega arith)
      (held_then 0 0 0 (sequence_depth q) (sequence_depth q) body ins.Leave (sequence_points q) held_body (omega arith) refl (omega arith) refl (omega arith))

  there : There before 1 0 body
  there = there_shift (heights 0 (body ++ ins.Leave ∷ [])) 0 0 0 body (there_before 0 body ins.Leave [])

  labels : (k : ℕ) → Ground before (leads_in l q k)
  labels k = by (place l k 1 q) (place_ground l before (leads_in l q) k 1 q s there)
    where
      by : (o : Option ℕ) → Grounded before o → Ground before (number o)
      by None g = refl
      by (Some at) g = g

  nowhere_lands : (k h : ℕ) → Lands before k h ins.Leave
  nowhere_lands k h to e = absurd cc

  lands : AllLand before 0 0 code
  lands = ((λ to e. absurd cc), lands_append before 1 0 (1 + length body) 0 body (ins.Leave ∷ []) refl held_body.ends (sequence_lands l before (leads_in l q) labels 1 q s there) (nowhere_lands (1 + length body) 0, tt))

  pub holds : Holds code before
  holds = record {
    long = as_long 0 code;
    begins = refl;
    enough = λ k h i e f. enough_at 0 code k h i held.enough e f;
    next = λ k h i e f g. let same : suc k ≡ k + 1 = omega arith in
        ap (slice_get before) (sym same) ∙ next_at 0 code k h i (stops_last (enter ∷ body) ins.Leave refl) e f g;
    ways = λ k h to i e f g. let same : 0 + k ≡ k = omega arith in
        lands_by before 0 0 code k h to i lands e f (ap (λ m. leads m i) same ∙ g);
  }

  pub points : points_of code before ≡ map told (sequence_points q)
  points = points_are 0 code ∙ held.points

  pub deep : AllByRecursion (λ n. n ≤ sequence_depth q) before
  deep = all_low (sequence_depth q) 0 code held.low

-- ---- the plain trees of procedures that fit

sound_body : (p : ModuleParts) (ms : List Mode) (r : Option Mode) (b : ProcBody) → proc_fits (scope_of p) ms r b ≡ true → SeqSound (tree_of p b)
sound_body p ms r b h =
    let c = with_locals (scope_of p) b.locals in
    let first = and_parts (parameters_first ms b.locals) _ h in
    let second = and_parts (list_all (local_stands (length (scope_of p).records)) b.locals) _ first.1 in
    let third = and_parts (numbers_all (scope_of p) (length ms) r b) (closes r b.body) second.1 in
    let passed = there_passes (is_last b) (numbers_behind c (length ms) r b.body) third.0 in
    let outermost = there_with (labels_end 0 (map (marked c) (out-Body b.body).statements)) _ passed in
    body_sound c (svc_bare p) b.body (first_sight r outermost.0) (next_by 0 (length ms)) outermost.1.1

sound_by : (p : ModuleParts) (k : Kind) (m : Mode) (b : ProcBody) → procedure_fits (scope_of p) k m (Some b) ≡ true → SeqSound (tree_of p b)
sound_by p k m b h = by_signature (signature_by (out-Mode m)) h
  where
    by_signature : (o : Option Signature) → passes (λ s. stands_alone (length (scope_of p).records) m && body_fits (scope_of p) k s (Some b)) o ≡ true → SeqSound (tree_of p b)
    by_signature None g = absurd cc
    by_signature (Some s) g =
        let here = and_parts (stands_alone (length (scope_of p).records) m) (body_fits (scope_of p) k s (Some b)) g in
        let fits = and_parts (is_here k) (proc_fits (scope_of p) s.parameters s.answer b) here.1 in
        sound_body p s.parameters s.answer b fits.1

sound_in : (p : ModuleParts) (k : Kind) (n : List ℕ) (s : BrickSort) (q : Seq) → sort_fits (scope_of p) k n s ≡ true → tree_in p s ≡ Some q → SeqSound q
sound_in p k n (sort.Proc m None) q h t = absurd cc
sound_in p k n (sort.Proc m (Some b)) q h t = subst SeqSound (some_same (tree_of p b) q t) (sound_by p k m b h)
sound_in p k n (sort.Data fs ss) q h t = absurd cc
sound_in p k n (sort.Stack words) q h t = absurd cc

pub sound_tree : (p : ModuleParts) (b : ℕ) (q : Seq) → every_node_fits p ≡ true → plain_tree p b ≡ Some q → SeqSound q
sound_tree p b q h t = by_brick (slice_get p.bricks b) refl t
  where
    by_brick : (o : Option Brick) → slice_get p.bricks b ≡ o → with o (λ d. tree_in p d.sort) ≡ Some q → SeqSound q
    by_brick None o u = absurd cc
    by_brick (Some d) o u =
        let first = and_parts (list_all (record_stands (length p.modes.records)) p.modes.records) _ h in
        let second = and_parts (list_all (brick_fits (scope_of p)) p.bricks) (list_all is_short p.strings) first.1 in
        sound_in p d.kind d.name d.sort q (tested_at (brick_fits (scope_of p)) p.bricks b d second.0 o) u

pub all_framed : PointsArePlain → ValuesAreThoseOfFrames
all_framed plain l p b parameters locals f q h e t =
    let s = sound_tree p b q h t in
    let is = plain p b f q h e t in
    record {
      held = holds l b parameters locals q s;
      points = points l b parameters locals q s ∙ ap (map told) (sym is.calls);
      deep = subst (λ m. AllByRecursion (λ n. n ≤ m) (heights 0 (code_of l b parameters locals q))) (sym is.deep) (deep l b parameters locals q s);
    }
