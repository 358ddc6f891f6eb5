-- The code of a procedure is within, and so is that of a module.
use Rattle.std.proofs.Common.{◌≡◌, ◌⊎◌, inl, inr, ℕ, zero, suc, ◌+◌, ◌-◌, ◌*◌, ◌<◌, ◌≤◌, ◌==◌, true, false, ◌&&◌, List, [], ◌∷◌, ◌++◌, length, Option, Some, None, slice_get, refl, sym, ap, ◌∙◌, subst, arith, length-append}
use Rattle.std.specs.List.{AllByRecursion, list_all}
use Rattle.std.proofs.lemmas.Bool.{and_parts}
use Rattle.std.proofs.lemmas.Bool.Decides.{eqb_tells}
use Rattle.std.proofs.lemmas.Option.{slice_get_within}
use Rattle.rt_modes.specs.declared.mode.Mode.{Mode, out-Mode}
use Rattle.rt_tree_nodes.specs.declared.brick.Brick.{Brick}
use Rattle.rt_tree_nodes.specs.declared.brick.BrickSort.{BrickSort}
use Rattle.rt_tree_nodes.specs.declared.brick.BrickSort.TheVariants as sort
use Rattle.rt_tree_nodes.specs.declared.brick.ModuleParts.{ModuleParts}
use Rattle.rt_tree_nodes.specs.declared.brick.ProcBody.{ProcBody}
use Rattle.rt_tree_nodes.specs.Scopes.{passes, scope_of}
use Rattle.rt_tree_nodes.specs.Tree.{Seq}
use Rattle.rt_tree_nodes.specs.Typing.{Signature, signature_by}
use Rattle.rt_tree.specs.Modules.{record_stands, brick_fits, sort_fits, body_fits, proc_fits, is_here, stands_alone, is_short}
use Rattle.rt_tree.specs.Weights.{sequence_weight}
use Rattle.rt_tree.specs.Within.{SortWithin, ProcWithin, parameters_by, parameters_of, tree_of}
use Rattle.rt_icode.specs.declared.ins.Division.{Division}
use Rattle.rt_icode.specs.declared.ins.OwnItem.TheVariants as item
use Rattle.rt_icode.specs.declared.ins.Ins.{Ins}
use Rattle.rt_icode.specs.declared.ins.Ins.TheVariants as ins
use Rattle.rt_icode.specs.declared.procedure.IModule.{IModule}
use Rattle.rt_icode.specs.Within.{leads, goes_on, is_enter, IsWithin}
use Rattle.rt_lower.specs.declared.layouts.Layouts.{Layouts}
use Rattle.rt_lower.specs.Code.{leads_in, sequence, code_of, procedure, procedure_by, procedures}
use Rattle.rt_lower.proofs.Lengths.{sequence_length}
use Rattle.rt_lower_laws.specs.Laws.{CodeIsWithin, NoneRecovers, IsPlain, is_plain, room_in}
use Rattle.rt_lower_laws.proofs.Sums.{Light, light_one, light_both, light_behind}
use Rattle.rt_lower_laws.proofs.Calm.{reported, reported_at, first_true, second_true, plainly}
use Rattle.rt_lower_laws.proofs.Leading.{Fine, FineFrom, Led, calm_led, led_both, sequence_led, lead_below, some_same}
use Rattle.rt_lower_laws.proofs.Weighing.{sequence_light}
use Rattle.rt_lower_laws.proofs.Rooms.{locals_have_room}

fine_at : (n k j : ℕ) (is : List Ins) (i : Ins) → FineFrom n k is → slice_get is j ≡ Some i → Fine n (k + j) i
fine_at n k j [] i h e = absurd cc
fine_at n k zero (x ∷ is) i h e = let same : x ≡ i = cc in let at : k ≡ k + 0 = omega arith in subst (λ m. Fine n m i) at (subst (λ y. Fine n k y) same h.0)
fine_at n k (suc j) (x ∷ is) i h e = let at : k + 1 + j ≡ k + suc j = omega arith in subst (λ m. Fine n m i) at (fine_at n (k + 1) j is i h.1 e)

same_or_not : (n m : ℕ) → (n ≡ m) ⊎ (n ≡ m → ⊥)
same_or_not n m = told (eqb_tells n m) where
  told : ((n == m) ≡ true) × (n ≡ m) ⊎ ((n == m) ≡ false) × (n ≡ m → ⊥) → (n ≡ m) ⊎ (n ≡ m → ⊥)
  told (inl h) = inl h.1
  told (inr h) = inr h.1

-- a report stands behind its division
pair_at : (is : List Ins) (d : Division) → reported_at (ins.DivideOr d) is ≡ true → (slice_get is 0 ≡ Some (ins.LoadOwn item.Erp)) × (slice_get is 1 ≡ Some ins.Report)
pair_at [] d e = absurd cc
pair_at (i ∷ []) d e = absurd cc
pair_at (ins.LoadOwn item.Erp ∷ ins.Report ∷ is) d e = (refl, refl)
pair_at (i ∷ j ∷ is) d e = absurd cc

report_at : (is : List Ins) (k : ℕ) (d : Division) → reported is ≡ true → slice_get is k ≡ Some (ins.DivideOr d) → (slice_get is (k + 1) ≡ Some (ins.LoadOwn item.Erp)) × (slice_get is (k + 2) ≡ Some ins.Report)
report_at [] k d e f = absurd cc
report_at (i ∷ is) zero d e f = let same : i ≡ ins.DivideOr d = cc in pair_at is d (subst (λ x. reported_at x is ≡ true) same (first_true (reported_at i is) (reported is) e))
report_at (i ∷ is) (suc k) d e f =
    let a : suc k + 1 ≡ suc (k + 1) = omega arith in
    let b : suc k + 2 ≡ suc (k + 2) = omega arith in
    let rest = report_at is k d (second_true (reported_at i is) (reported is) e) f in
    (ap (λ n. slice_get (i ∷ is) n) a ∙ rest.0, ap (λ n. slice_get (i ∷ is) n) b ∙ rest.1)

last_is : (is : List Ins) (i : Ins) → slice_get (is ++ i ∷ []) (length is) ≡ Some i
last_is [] i = refl
last_is (x ∷ is) i = last_is is i

module _ (l : Layouts) (b params locals : ℕ) (q : Seq) where
  abbrev enter : Ins
  enter = ins.Enter b params locals false

  abbrev body : List Ins
  body = sequence l (leads_in l q) 1 q

  abbrev code : List Ins
  code = code_of l b params locals q

  long : length code ≡ 1 + length body + 1
  long = omega (arith, length-append body (ins.Leave ∷ []))

  inside : (k : ℕ) → leads_in l q k < length code
  inside k = omega (arith, lead_below l q k, sequence_length l (leads_in l q) (λ m. 0) 1 0 q, long)

  led : Led (length code) 1 (body ++ ins.Leave ∷ [])
  led = led_both (length code) 1 (1 + length body) body (ins.Leave ∷ []) refl (sequence_led l (leads_in l q) (length code) inside 1 q (omega (arith, long))) (calm_led (length code) (1 + length body) (ins.Leave ∷ []) (plainly ins.Leave refl refl))

  all_reported : reported code ≡ true
  all_reported = led.reported

  fine : (k : ℕ) (i : Ins) → slice_get code (suc k) ≡ Some i → Fine (length code) (1 + k) i
  fine k i e = fine_at (length code) 1 k (body ++ ins.Leave ∷ []) i led.fine e

  enters : (k : ℕ) (i : Ins) → slice_get code k ≡ Some i → is_enter i ≡ (k == 0)
  enters zero i e = let same : enter ≡ i = cc in ap is_enter (sym same)
  enters (suc k) i e = let none : (suc k == 0) ≡ false = grind arith in (fine k i e).enters ∙ sym none

  plain : (k : ℕ) (i : Ins) → slice_get code k ≡ Some i → is_plain i ≡ true
  plain zero i e = let same : enter ≡ i = cc in ap is_plain (sym same)
  plain (suc k) i e = (fine k i e).plain

  next : (k : ℕ) (i : Ins) → slice_get code k ≡ Some i → goes_on i ≡ true → k + 1 < length code
  next k i e g = by (same_or_not k (1 + length body)) where
    by : (k ≡ 1 + length body) ⊎ (k ≡ 1 + length body → ⊥) → k + 1 < length code
    by (inl h) = absurd (
        let last : slice_get code (suc (length body)) ≡ Some ins.Leave = last_is body ins.Leave in
        let there : slice_get code k ≡ Some ins.Leave = ap (λ n. slice_get code n) (h ∙ (let m : 1 + length body ≡ suc (length body) = omega arith in m)) ∙ last in
        let same : i ≡ ins.Leave = cc in
        let bad : false ≡ true = sym (ap goes_on same) ∙ g in cc)
    by (inr h) = omega (arith, slice_get_within code k i e, long, h)

  ways_by : (k : ℕ) (i : Ins) (to : ℕ) → Fine (length code) (suc k) i → slice_get code (suc k) ≡ Some i → leads (suc k) i ≡ Some to → to < length code
  ways_by k (ins.DivideOr d) to h e f =
      let there = report_at code (suc k) d all_reported e in
      let far : suc k + 2 + 1 < length code = next (suc k + 2) ins.Report there.1 refl in
      let same : suc k + 3 ≡ to = some_same (suc k + 3) to f in
      omega (arith, far, same)
  ways_by k i to h e f = h.way to refl f

  ways : (k : ℕ) (i : Ins) (to : ℕ) → slice_get code k ≡ Some i → leads k i ≡ Some to → to < length code
  ways zero i to e f = absurd (let same : enter ≡ i = cc in let none : None ≡ leads 0 i = ap (leads 0) same in let bad : None ≡ Some to = none ∙ f in cc)
  ways (suc k) i to e f = let one : 1 + k ≡ suc k = omega arith in ways_by k i to (subst (λ n. Fine (length code) n i) one (fine k i e)) e f

  light : locals ≤ room_in q → Light code 0 (sequence_weight q + 5)
  light h =
      let rest = light_both body (ins.Leave ∷ []) (room_in q) 0 (sequence_weight q) 3 (room_in q) (sequence_weight q + 3) (sequence_light l (leads_in l q) 1 q) (light_one ins.Leave 0 3 (omega arith) (omega arith)) (omega arith) (omega arith) in
      light_behind enter (body ++ ins.Leave ∷ []) (room_in q) (sequence_weight q + 3) 0 (sequence_weight q + 5) rest (omega (arith, h)) (omega (arith, h))

  pub within : (name : List ℕ) (items : ℕ) → locals ≤ room_in q → sequence_weight q + 88 ≤ 12 * items + 16 → 2 * sequence_weight q + 144 ≤ 24 * items → IsWithin (record { name = name; items = items; code = code })
  within name items h w u =
      let weight = light h in
      record {
        enters = enters;
        begins = omega (arith, long);
        next = next;
        ways = ways;
        reports = λ k d e. report_at code k d all_reported e;
        words = omega (arith, weight.words, w);
        unmarked = omega (arith, weight.made, u);
      }

-- ---- modules

all_append : {A : Type 0} (P : A → Type 0) (xs ys : List A) → AllByRecursion P xs → AllByRecursion P ys → AllByRecursion P (xs ++ ys)
all_append P [] ys h k = k
all_append P (x ∷ xs) ys h k = (h.0, all_append P xs ys h.1 k)

module _ (l : Layouts) (p : ModuleParts) where
  proc_within : (k : ℕ) (d : Brick) (m : Mode) (b : ProcBody) (o : Option Signature) → signature_by (out-Mode m) ≡ o → passes (λ s. stands_alone (length (scope_of p).records) m && body_fits (scope_of p) d.kind s (Some b)) o ≡ true
      → ProcWithin p (parameters_of m) b → IsWithin (procedure l p k d m b)
  proc_within k d m b None e f w = absurd cc
  proc_within k d m b (Some s) e f w =
      let here = and_parts (stands_alone (length (scope_of p).records) m) (body_fits (scope_of p) d.kind s (Some b)) f in
      let fits = and_parts (is_here d.kind) (proc_fits (scope_of p) s.parameters s.answer b) here.1 in
      let count : parameters_of m ≡ length s.parameters = ap parameters_by e in
      let few = locals_have_room p s.parameters s.answer b fits.1 in
      within l k (parameters_of m) (length b.locals - parameters_of m) (tree_of p b) d.name b.items (omega (arith, few, count)) w.words w.unmarked_made

  sort_within : (k : ℕ) (d : Brick) (s : BrickSort) → sort_fits (scope_of p) d.kind d.name s ≡ true → SortWithin p s → AllByRecursion IsWithin (procedure_by l p k d s)
  sort_within k d (sort.Proc m None) f w = tt
  sort_within k d (sort.Proc m (Some b)) f w = (proc_within k d m b (signature_by (out-Mode m)) refl f w, tt)
  sort_within k d (sort.Data fs ss) f w = tt
  sort_within k d (sort.Stack n) f w = tt

  bricks_within : (k : ℕ) (ds : List Brick) → list_all (brick_fits (scope_of p)) ds ≡ true → AllByRecursion (λ b. SortWithin p b.sort) ds → AllByRecursion IsWithin (procedures l p k ds)
  bricks_within k [] f w = tt
  bricks_within k (d ∷ ds) f w =
      let parts = and_parts (brick_fits (scope_of p) d) (list_all (brick_fits (scope_of p)) ds) f in
      all_append IsWithin (procedure_by l p k d d.sort) (procedures l p (k + 1) ds) (sort_within k d d.sort parts.0 w.0) (bricks_within (k + 1) ds parts.1 w.1)

  sort_plain : (k : ℕ) (d : Brick) (s : BrickSort) → AllByRecursion IsPlain (procedure_by l p k d s)
  sort_plain k d (sort.Proc m None) = tt
  sort_plain k d (sort.Proc m (Some b)) = (λ j i e. plain l k (parameters_of m) (length b.locals - parameters_of m) (tree_of p b) j i e, tt)
  sort_plain k d (sort.Data fs ss) = tt
  sort_plain k d (sort.Stack n) = tt

  bricks_plain : (k : ℕ) (ds : List Brick) → AllByRecursion IsPlain (procedures l p k ds)
  bricks_plain k [] = tt
  bricks_plain k (d ∷ ds) = all_append IsPlain (procedure_by l p k d d.sort) (procedures l p (k + 1) ds) (sort_plain k d d.sort) (bricks_plain (k + 1) ds)

pub all_within : CodeIsWithin
all_within p m h w i =
    let first = and_parts (list_all (record_stands (length p.modes.records)) p.modes.records) _ h in
    let second = and_parts (list_all (brick_fits (scope_of p)) p.bricks) (list_all is_short p.strings) first.1 in
    subst (λ (x : IModule). AllByRecursion IsWithin x.procs) (sym i.code) (bricks_within i.layouts p 0 p.bricks second.0 w)

pub none_recovers : NoneRecovers
none_recovers p m i = subst (λ (x : IModule). AllByRecursion IsPlain x.procs) (sym i.code) (bricks_plain i.layouts p 0 p.bricks)
