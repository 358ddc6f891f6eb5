-- Values, conditions and statements make no frame and don't recover; behind a division that may fail its report stands.
use Rattle.std.proofs.Common.{◌≡◌, ℕ, Bool, true, false, ◌&&◌, List, [], ◌∷◌, ◌++◌, refl}
use Rattle.rt_tree_nodes.specs.declared.operators.Op1.{Op1}
use Rattle.rt_tree_nodes.specs.declared.operators.Op1.TheVariants as one
use Rattle.rt_tree_nodes.specs.declared.operators.Op2.{Op2}
use Rattle.rt_tree_nodes.specs.declared.operators.Op2.TheVariants as two
use Rattle.rt_tree_nodes.specs.Tree.{Term, Num, Str, Name, Own, Get, Ref, RefRow, Count, CountRow, One, Two, Over, Apply, ApplyBy, Path, ItemAt, Svc, FieldOf, Elem, ElemRow, Past, Terms, NoTerm, MoreTerms}
use Rattle.rt_icode.specs.declared.ins.OwnItem.TheVariants as item
use Rattle.rt_icode.specs.declared.ins.Width.{Width}
use Rattle.rt_icode.specs.declared.ins.Ins.{Ins}
use Rattle.rt_icode.specs.declared.ins.Ins.TheVariants as ins
use Rattle.rt_lower.specs.declared.layouts.Layouts.{Layouts}
use Rattle.rt_lower.specs.declared.site.Site.{Site}
use Rattle.rt_lower.specs.declared.site.Site.TheVariants as site
use Rattle.rt_lower.specs.Values.{width_of, site_of, wanted, read, written, reached, row_reached, told, element, altered, merged, is_sure, divided, value, address, values, alone}

-- ---- instructions that lead nowhere but on

-- neither a frame nor recovery, and no way of its own but that of a division
abbrev pub is_still : Ins → Bool
is_still (ins.Enter b p l r) = false
is_still (ins.Test r w n) = false
is_still (ins.Skip n) = false
is_still (ins.Go to) = false
is_still (ins.Case to) = false
is_still (ins.CountFor i n) = false
is_still (ins.CountTo i n) = false
is_still (ins.TurnFor i to) = false
is_still (ins.TurnTo i to) = false
is_still (ins.Recover to) = false
is_still ins.Restore = false
is_still _ = true

abbrev pub all_still : List Ins → Bool
all_still [] = true
all_still (i ∷ is) = is_still i && all_still is

-- ---- reports

abbrev is_erp : Ins → Bool
is_erp (ins.LoadOwn item.Erp) = true
is_erp _ = false

abbrev is_report : Ins → Bool
is_report ins.Report = true
is_report _ = false

abbrev begins_report : List Ins → Bool
begins_report (i ∷ j ∷ is) = is_erp i && is_report j
begins_report _ = false

abbrev pub reported_at : Ins → List Ins → Bool
reported_at (ins.DivideOr d) is = begins_report is
reported_at _ is = true

abbrev pub reported : List Ins → Bool
reported [] = true
reported (i ∷ is) = reported_at i is && reported is

pub both_true : (a b : Bool) → a ≡ true → b ≡ true → (a && b) ≡ true
both_true a b e f = rw (e, f) refl

pub first_true : (a b : Bool) → (a && b) ≡ true → a ≡ true
first_true true b e = refl
first_true false b e = absurd cc

pub second_true : (a b : Bool) → (a && b) ≡ true → b ≡ true
second_true true b e = e
second_true false b e = absurd cc

begins_longer : (is js : List Ins) → begins_report is ≡ true → begins_report (is ++ js) ≡ true
begins_longer [] js e = absurd cc
begins_longer (i ∷ []) js e = absurd cc
begins_longer (i ∷ j ∷ is) js e = e

longer_at : (i : Ins) (is js : List Ins) → reported_at i is ≡ true → reported_at i (is ++ js) ≡ true
longer_at (ins.DivideOr d) is js e = begins_longer is js e
longer_at i is js e = refl

pub reported_append : (is js : List Ins) → reported is ≡ true → reported js ≡ true → reported (is ++ js) ≡ true
reported_append [] js e f = f
reported_append (i ∷ is) js e f = both_true _ _ (longer_at i is js (first_true (reported_at i is) (reported is) e)) (reported_append is js (second_true (reported_at i is) (reported is) e) f)

still_append : (is js : List Ins) → all_still is ≡ true → all_still js ≡ true → all_still (is ++ js) ≡ true
still_append [] js e f = f
still_append (i ∷ is) js e f = both_true _ _ (first_true (is_still i) (all_still is) e) (still_append is js (second_true (is_still i) (all_still is) e) f)

-- ---- both

pub record Calm (is : List Ins) : Type 0 where
  pub still : all_still is ≡ true
  pub reported : reported is ≡ true

pub calm_none : Calm []
calm_none = record { still = refl; reported = refl }

pub calm_both : (is js : List Ins) → Calm is → Calm js → Calm (is ++ js)
calm_both is js a b = record { still = still_append is js a.still b.still; reported = reported_append is js a.reported b.reported }

pub plainly : (i : Ins) → is_still i ≡ true → reported_at i [] ≡ true → Calm (i ∷ [])
plainly i e f = record { still = both_true _ _ e refl; reported = both_true _ _ f refl }

read_calm : (z : Width) (s : Site) → Calm (read z s ∷ [])
read_calm z (site.Own k) = plainly _ refl refl
read_calm z (site.Fixed f) = plainly _ refl refl
read_calm z site.Stacked = plainly _ refl refl

written_calm : (z : Width) (s : Site) → Calm (written z s ∷ [])
written_calm z (site.Own k) = plainly _ refl refl
written_calm z (site.Fixed f) = plainly _ refl refl
written_calm z site.Stacked = plainly _ refl refl

reached_calm : (s : Site) → Calm (reached s)
reached_calm (site.Own k) = calm_none
reached_calm (site.Fixed f) = plainly _ refl refl
reached_calm site.Stacked = calm_none

row_calm : (n : ℕ) (more : List Ins) (s : Site) → Calm more → Calm (row_reached n more s)
row_calm n more (site.Own k) h = h
row_calm n more (site.Fixed f) h = plainly _ refl refl
row_calm n more site.Stacked h = h

told_calm : (n : ℕ) (s : Site) → Calm (told n s ∷ [])
told_calm n (site.Own k) = plainly _ refl refl
told_calm n (site.Fixed f) = plainly _ refl refl
told_calm n site.Stacked = plainly _ refl refl

element_calm : (n z : ℕ) (s : Site) → Calm (element n z s ∷ [])
element_calm n z (site.Own k) = plainly _ refl refl
element_calm n z (site.Fixed f) = plainly _ refl refl
element_calm n z site.Stacked = plainly _ refl refl

wanted_calm : (s : Site) (code : List Ins) → Calm code → Calm (wanted s code)
wanted_calm (site.Own k) code h = calm_none
wanted_calm (site.Fixed f) code h = calm_none
wanted_calm site.Stacked code h = h

altered_calm : (o : Op1) → Calm (altered o)
altered_calm one.Plus = calm_none
altered_calm one.Minus = plainly _ refl refl
altered_calm one.Abs = plainly _ refl refl
altered_calm one.Not = plainly _ refl refl
altered_calm one.Byte = plainly _ refl refl
altered_calm one.Int = calm_none
altered_calm one.Frac = calm_none

merged_calm : (o : Op2) → Calm (merged o ∷ [])
merged_calm two.Sll = plainly _ refl refl
merged_calm two.Srl = plainly _ refl refl
merged_calm two.Sla = plainly _ refl refl
merged_calm two.Sra = plainly _ refl refl
merged_calm two.Times = plainly _ refl refl
merged_calm two.FracTimes = plainly _ refl refl
merged_calm two.Divide = plainly _ refl refl
merged_calm two.Mod = plainly _ refl refl
merged_calm two.Land = plainly _ refl refl
merged_calm two.Plus = plainly _ refl refl
merged_calm two.Minus = plainly _ refl refl
merged_calm two.Lor = plainly _ refl refl
merged_calm two.Nev = plainly _ refl refl

divided_calm : (o : Op2) (sure : Bool) → Calm (divided o sure)
divided_calm o true = plainly _ refl refl
divided_calm o false = record { still = refl; reported = refl }

module _ (l : Layouts) where
  mutual
    pub value_calm : (t : Term) → Calm (value l t)
    value_calm (Num n) = plainly _ refl refl
    value_calm (Str n) = plainly _ refl refl
    value_calm (Name b) = plainly _ refl refl
    value_calm (Own i) = plainly _ refl refl
    value_calm (Get m p) = calm_both _ _ (wanted_calm (site_of l p) (address l p) (address_calm p)) (read_calm (width_of m) (site_of l p))
    value_calm (Ref p) = calm_both _ _ (wanted_calm (site_of l p) (address l p) (address_calm p)) (reached_calm (site_of l p))
    value_calm (RefRow (FieldOf p r k) n) = calm_both _ _ (wanted_calm (site_of l (FieldOf p r k)) (address l p) (address_calm p)) (row_calm n _ (site_of l (FieldOf p r k)) (plainly _ refl refl))
    value_calm (RefRow (ItemAt b i) n) = plainly _ refl refl
    value_calm (RefRow (Svc k) n) = calm_none
    value_calm (RefRow (Elem p v k m) n) = calm_both _ _ (address_calm (Elem p v k m)) calm_none
    value_calm (RefRow (ElemRow a v m) n) = calm_both _ _ (address_calm (ElemRow a v m)) calm_none
    value_calm (RefRow (Past v) n) = calm_both _ _ (value_calm v) calm_none
    value_calm (Count p n) = calm_both _ _ (wanted_calm (site_of l p) (address l p) (address_calm p)) (told_calm n (site_of l p))
    value_calm (CountRow v) = calm_both _ _ (value_calm v) (plainly _ refl refl)
    value_calm (One o v) = calm_both _ _ (value_calm v) (altered_calm o)
    value_calm (Two o a b) = calm_both _ _ (value_calm a) (calm_both _ _ (value_calm b) (merged_calm o))
    value_calm (Over o a b) = calm_both _ _ (value_calm a) (calm_both _ _ (value_calm b) (divided_calm o (is_sure b)))
    value_calm (Apply b vs) = calm_both _ _ (values_calm vs) (plainly _ refl refl)
    value_calm (ApplyBy m f vs) = calm_both _ _ (value_calm f) (calm_both _ _ (values_calm vs) (plainly _ refl refl))

    pub address_calm : (p : Path) → Calm (address l p)
    address_calm (ItemAt b i) = calm_none
    address_calm (Svc k) = calm_none
    address_calm (FieldOf p r k) = calm_both _ _ (address_calm p) (plainly _ refl refl)
    address_calm (Elem p v n m) = calm_both _ _ (wanted_calm (site_of l p) (address l p) (address_calm p)) (calm_both _ _ (value_calm v) (element_calm n _ (site_of l p)))
    address_calm (ElemRow a v m) = calm_both _ _ (value_calm a) (calm_both _ _ (value_calm v) (plainly _ refl refl))
    address_calm (Past v) = value_calm v

    pub values_calm : (vs : Terms) → Calm (values l vs)
    values_calm NoTerm = calm_none
    values_calm (MoreTerms v vs) = calm_both _ _ (value_calm v) (values_calm vs)

  pub alone_calm : (v : Term) → Calm (alone l v)
  alone_calm (Apply b vs) = calm_both _ _ (values_calm vs) (plainly _ refl refl)
  alone_calm (ApplyBy m f vs) = calm_both _ _ (value_calm f) (calm_both _ _ (values_calm vs) (plainly _ refl refl))
  alone_calm v = calm_both _ _ (value_calm v) (plainly _ refl refl)

  pub assigned_calm : (z : Width) (p : Path) (v : Term) → Calm (wanted (site_of l p) (address l p) ++ (value l v ++ written z (site_of l p) ∷ []))
  assigned_calm z p v = calm_both _ _ (wanted_calm (site_of l p) (address l p) (address_calm p)) (calm_both _ _ (value_calm v) (written_calm z (site_of l p)))

  pub followed_calm : (v : Term) (i : Ins) → Calm (i ∷ []) → Calm (value l v ++ i ∷ [])
  followed_calm v i h = calm_both _ _ (value_calm v) h
