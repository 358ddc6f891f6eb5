-- The faults of items, and the fault that counts of a brick.
use Rattle.std.proofs.Common.{◌≡◌, ℕ, ◌+◌, ◌<◌, List, [], ◌∷◌, ◌++◌, Option, Some, None, length, drop, get_or, sym, ap, ◌∙◌, subst}
use Rattle.rt_bricks.specs.declared.tree.DataItem.{DataItem}
use Rattle.rt_bricks.specs.declared.tree.DataLine.{DataLine}
use Rattle.rt_check_declared.specs.declared.parts.Part.{Part}
use Rattle.rt_check_declared.specs.Totals.{LargeFault}
use Rattle.rt_tree_nodes.specs.declared.brick.DataStart.{DataStart}
use Rattle.rt_check_faults.specs.declared.fault.CheckFault.{CheckFault}
use Rattle.rt_exprs.specs.Sights.{Sight}
use Rattle.rt_check_faults.specs.Outcomes.{IsLeast, UnlessMemory}
use Rattle.rt_check_faults.proofs.Joins.{given}
use Rattle.rt_check_declared.specs.Heads.{noted}
use Rattle.rt_check_declared.specs.Records.{Counts}
use Rattle.rt_check_declared.proofs.RecordSteps.{drop_next, noted_some}
use Rattle.rt_sizes.specs.Sizes.{Table}
use Rattle.rt_check_declared.specs.Verdicts.{with_fault, with_faults, IsIn, GatheredCounts}
use Rattle.rt_check_declared.proofs.Least.{gathers_least}
use Rattle.rt_check_module.specs.Bricks.{BrickFault, in_items, in_whole, AreStarts}
use Rattle.rt_check_module.specs.Items.{or_else, faults_by, items_faults, brick_faults, brick_starts}
use Rattle.rt_check_module.proofs.Steps.{noted_step}

-- ---- what was gathered of some

gathered_by : (fs : List CheckFault) (o : Option CheckFault) → with_faults None fs ≡ o → GatheredCounts fs o
gathered_by fs o e = subst (GatheredCounts fs) e (gathers_least fs)

pub none_stands : (fs : List CheckFault) (r : Option CheckFault) → r ≡ with_faults None fs → r ≡ None → fs ≡ []
none_stands fs r is none = gathered_by fs None (sym is ∙ none)

pub one_counts : (fs : List CheckFault) (r : Option CheckFault) (g : CheckFault) → r ≡ with_faults None fs → r ≡ Some g → IsLeast (λ h. IsIn h fs) g
one_counts fs r g is some = gathered_by fs (Some g) (sym is ∙ some)

-- where a fault stands, what holds it isn't judged
pub first_judged : (o n r : Option CheckFault) (fs other : List CheckFault) (g : CheckFault) → r ≡ with_faults None fs → r ≡ Some g → n ≡ with_fault o g → n ≡ with_faults o (or_else fs other)
first_judged o n r [] other g is some note = absurd ((one_counts [] r g is some).stands)
first_judged o n r (f ∷ fs) other g is some note = note ∙ ap (noted o) (sym some ∙ is) ∙ noted_some o (f ∷ fs)

pub else_judged : (o n r : Option CheckFault) (fs other : List CheckFault) → r ≡ with_faults None fs → r ≡ None → n ≡ with_faults o other → n ≡ with_faults o (or_else fs other)
else_judged o n r fs other is none note = note ∙ sym (ap (λ (x : List CheckFault). with_faults o (or_else x other)) (none_stands fs r is none))

-- ---- one more item, one more line

module _ (s : Sight) where
  pub item_step : (is : List DataItem) (i : ℕ) (x : DataItem) (ps rest : List Part) (p : Part) (o q t : Option CheckFault) → i < length is → x ≡ get_or is i x → ps ≡ p ∷ rest → q ≡ with_faults o (faults_by s x.name.at x.start p.has)
      → with_faults o (items_faults s (drop i is) ps) ≡ t → with_faults q (items_faults s (drop (i + 1) is) rest) ≡ t
  item_step is i x ps rest p o q t h e next note kept =
      noted_step o q t (faults_by s x.name.at x.start p.has) (items_faults s (drop (i + 1) is) rest) note
      (sym (ap (λ (y : List DataItem). with_faults o (items_faults s y ps)) (drop_next is i x h e) ∙ ap (λ (y : List Part). with_faults o (items_faults s (x ∷ drop (i + 1) is) y)) next) ∙ kept)

  pub line_step : (ls : List DataLine) (i : ℕ) (x : DataLine) (ys : List DataItem) (ps rest : List Part) (o q t : Option CheckFault) → i < length ls → x ≡ get_or ls i x → ys ≡ x.items → rest ≡ drop (length ys) ps → q ≡ with_faults o (items_faults s ys ps)
      → with_faults o (brick_faults s (drop i ls) ps) ≡ t → with_faults q (brick_faults s (drop (i + 1) ls) rest) ≡ t
  line_step ls i x ys ps rest o q t h e same behind note kept =
      noted_step o q t (items_faults s ys ps) (brick_faults s (drop (i + 1) ls) rest) note
      (ap (λ (y : List Part). with_faults o (items_faults s ys ps ++ brick_faults s (drop (i + 1) ls) y)) behind
      ∙ ap (λ (y : List DataItem). with_faults o (items_faults s y ps ++ brick_faults s (drop (i + 1) ls) (drop (length y) ps))) same
      ∙ sym (ap (λ (y : List DataLine). with_faults o (brick_faults s y ps)) (drop_next ls i x h e)) ∙ kept)

-- ---- the brick

not_in : (fs : List CheckFault) (g : CheckFault) → fs ≡ [] → IsIn g fs → ⊥
not_in fs g e h = subst (λ (x : List CheckFault). IsIn g x) e h

module _ (t : Table) (s : Sight) (ls : List DataLine) (ps : List Part) where
  pub item_counts : (r : Option CheckFault) (g : CheckFault) → r ≡ with_faults None (brick_faults s ls ps) → r ≡ Some g → UnlessMemory g (IsLeast (BrickFault t s ls ps) g)
  item_counts r g is some =
      let one = one_counts (brick_faults s ls ps) r g is some in
      given g (IsLeast (BrickFault t s ls ps) g) (record { stands = in_items one.stands; least = λ h k. elim k [ in_items i ↦ one.least h i | in_whole none l ↦ absurd (not_in (brick_faults s ls ps) g none one.stands) ] })

  pub whole_counts : (r : Option CheckFault) (g : CheckFault) → r ≡ with_faults None (brick_faults s ls ps) → r ≡ None → Counts (LargeFault t ps) (Some g) → UnlessMemory g (IsLeast (BrickFault t s ls ps) g)
  whole_counts r g is none one =
      let clear = none_stands (brick_faults s ls ps) r is none in
      given g (IsLeast (BrickFault t s ls ps) g) (record { stands = in_whole clear one.stands; least = λ h k. elim k [ in_items i ↦ absurd (not_in (brick_faults s ls ps) h clear i) | in_whole c l ↦ one.least h l ] })

  pub none_in_brick : (r : Option CheckFault) → r ≡ with_faults None (brick_faults s ls ps) → r ≡ None → Counts (LargeFault t ps) None → (g : CheckFault) → BrickFault t s ls ps g → ⊥
  none_in_brick r is none small g k =
      let clear = none_stands (brick_faults s ls ps) r is none in
      elim k [ in_items i ↦ not_in (brick_faults s ls ps) g clear i | in_whole c l ↦ small g l ]

  pub are_starts : (r : Option CheckFault) (ss : List DataStart) → r ≡ with_faults None (brick_faults s ls ps) → r ≡ None → Counts (LargeFault t ps) None → ss ≡ brick_starts s ls ps → AreStarts t s ls ps ss
  are_starts r ss is none small are = record { no_fault = none_in_brick r is none small; are = are }
