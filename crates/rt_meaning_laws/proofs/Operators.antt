-- What operators and relations ask of the modes of their operands, and what they give.
use Rattle.std.proofs.Common.{◌≡◌, ◌&&◌, ◌||◌, Bool, true, false, if◌then◌else◌, Some, None, refl, sym, ap, ◌∙◌, subst}
use Rattle.rt_modes.specs.declared.mode.Mode.{Mode, out-Mode}
use Rattle.rt_modes.specs.declared.mode.Mode.TheOpen.{Mode-F}
use Rattle.rt_modes.specs.declared.mode.Mode.TheVariants as mode
use Rattle.rt_tree_nodes.specs.declared.operators.Op1.{Op1}
use Rattle.rt_tree_nodes.specs.declared.operators.Op1.TheVariants as one
use Rattle.rt_tree_nodes.specs.declared.operators.Op2.{Op2}
use Rattle.rt_tree_nodes.specs.declared.operators.Op2.TheVariants as two
use Rattle.rt_tree_nodes.specs.declared.operators.Rel.{Rel}
use Rattle.rt_tree_nodes.specs.declared.operators.Rel.TheVariants as rel
use Rattle.rt_tree_nodes.specs.Scopes.{same}
use Rattle.rt_tree_nodes.specs.Typing.{is_byte, is_int, is_frac, both, signed_mode, monadic_mode, whole_mode, alike_mode, shift_mode, dyadic_mode, is_reference, compare_fits}
use Rattle.rt_tree_nodes.proofs.Same.{same_equal}
use Rattle.rt_meaning_laws.specs.Slots.{IsByte}
use Rattle.rt_meaning_laws.specs.Trees.{of_number, of_word, IsNumber, IsWord}
use Rattle.rt_meaning_laws.proofs.Modes.{out_int, out_byte, out_frac, number_is_word}
use Rattle.rt_meaning_laws.proofs.Small.{two_true, only_is}

-- what a monadic operator gives: BYTE a byte, each other one a number
abbrev pub GivesOne : Op1 → Mode → Type 0
GivesOne one.Byte m = IsByte m
GivesOne _ m = IsNumber m

abbrev pub Dyadic : Mode → Mode → Mode → Type 0
Dyadic j k m = IsNumber j × IsNumber k × IsNumber m

-- numbers, or references to places, or references to arrays
abbrev pub alike : Mode-F Mode → Mode-F Mode → Bool
alike (Mode-F.Ref a) (Mode-F.Ref b) = true
alike (Mode-F.RefArray a) (Mode-F.RefArray b) = true
alike a b = of_number a && of_number b

-- ---- operators

pub int_out : (m : Mode) → is_int m ≡ true → out-Mode m ≡ Mode-F.Int
int_out m e = ap out-Mode (sym (same_equal mode.Int m e)) ∙ out_int

pub byte_out : (m : Mode) → is_byte m ≡ true → out-Mode m ≡ Mode-F.Byte
byte_out m e = ap out-Mode (sym (same_equal mode.Byte m e)) ∙ out_byte

pub frac_number : (m : Mode) → is_frac m ≡ true → IsNumber m
frac_number m e = ap (λ (x : Mode). of_number (out-Mode x)) (sym (same_equal mode.Frac m e)) ∙ ap of_number out_frac

pub int_number : (m : Mode) → is_int m ≡ true → IsNumber m
int_number m e = ap of_number (int_out m e)

either_number : (m : Mode) → is_int m || is_frac m ≡ true → IsNumber m
either_number m e = by_int (is_int m) refl e
  where
    by_int : (b : Bool) → is_int m ≡ b → b || is_frac m ≡ true → IsNumber m
    by_int true i e = int_number m i
    by_int false i e = frac_number m e

signed_number : (k m : Mode) → signed_mode k ≡ Some m → IsNumber k × IsNumber m
signed_number k m e =
    let o = only_is (is_int k || is_frac k) k m e in
    let h : IsNumber k = either_number k o.0 in
    (h, subst IsNumber o.1 h)

int_is : (m : Mode) → mode.Int ≡ m → IsNumber m
int_is m e = ap (λ (x : Mode). of_number (out-Mode x)) (sym e) ∙ ap of_number out_int

pub monadic_gives : (o : Op1) (k m : Mode) → monadic_mode o k ≡ Some m → IsWord k × GivesOne o m
monadic_gives one.Plus k m e = let h = signed_number k m e in (number_is_word k h.0, h.1)
monadic_gives one.Minus k m e = let h = signed_number k m e in (number_is_word k h.0, h.1)
monadic_gives one.Abs k m e = let h = signed_number k m e in (number_is_word k h.0, h.1)
monadic_gives one.Not k m e = let o = only_is (is_int k) mode.Int m e in (number_is_word k (int_number k o.0), int_is m o.1)
monadic_gives one.Byte k m e = let o = only_is (is_int k) mode.Byte m e in (number_is_word k (int_number k o.0), ap out-Mode (sym o.1) ∙ out_byte)
monadic_gives one.Int k m e = let o = only_is (is_byte k || (is_int k || is_frac k)) mode.Int m e in (any_word (is_byte k) refl o.0, int_is m o.1)
  where
    any_word : (b : Bool) → is_byte k ≡ b → b || (is_int k || is_frac k) ≡ true → IsWord k
    any_word true i e = ap of_word (byte_out k i)
    any_word false i e = number_is_word k (either_number k e)
monadic_gives one.Frac k m e = let o = only_is (is_int k || is_frac k) mode.Frac m e in (number_is_word k (either_number k o.0), ap (λ (x : Mode). of_number (out-Mode x)) (sym o.1) ∙ ap of_number out_frac)

whole_dyadic : (j k m : Mode) → whole_mode j k ≡ Some m → Dyadic j k m
whole_dyadic j k m e =
    let o = only_is (both is_int j k) mode.Int m e in
    let h = two_true (is_int j) (is_int k) o.0 in
    (int_number j h.0, int_number k h.1, int_is m o.1)

frac_is : (m : Mode) → mode.Frac ≡ m → IsNumber m
frac_is m e = ap (λ (x : Mode). of_number (out-Mode x)) (sym e) ∙ ap of_number out_frac

alike_dyadic : (j k m : Mode) → alike_mode j k ≡ Some m → Dyadic j k m
alike_dyadic j k m e = by_frac (both is_frac j k) refl e
  where
    by_frac : (b : Bool) → both is_frac j k ≡ b → (if b then Some mode.Frac else whole_mode j k) ≡ Some m → Dyadic j k m
    by_frac true f e = let h = two_true (is_frac j) (is_frac k) f in let is : mode.Frac ≡ m = cc in (frac_number j h.0, frac_number k h.1, frac_is m is)
    by_frac false f e = whole_dyadic j k m e

shift_dyadic : (j k m : Mode) → shift_mode j k ≡ Some m → Dyadic j k m
shift_dyadic j k m e = by_int (is_int k) refl e
  where
    by_int : (b : Bool) → is_int k ≡ b → (if b then signed_mode j else None) ≡ Some m → Dyadic j k m
    by_int true f e = let h = signed_number j m e in (h.0, int_number k f, h.1)
    by_int false f e = absurd cc

pub dyadic_gives : (o : Op2) (j k m : Mode) → dyadic_mode o j k ≡ Some m → Dyadic j k m
dyadic_gives two.Sll j k m e = shift_dyadic j k m e
dyadic_gives two.Srl j k m e = shift_dyadic j k m e
dyadic_gives two.Sla j k m e = shift_dyadic j k m e
dyadic_gives two.Sra j k m e = shift_dyadic j k m e
dyadic_gives two.Times j k m e = whole_dyadic j k m e
dyadic_gives two.FracTimes j k m e = let o = only_is (both is_frac j k) mode.Frac m e in let h = two_true (is_frac j) (is_frac k) o.0 in (frac_number j h.0, frac_number k h.1, frac_is m o.1)
dyadic_gives two.Divide j k m e = whole_dyadic j k m e
dyadic_gives two.Mod j k m e = whole_dyadic j k m e
dyadic_gives two.Land j k m e = whole_dyadic j k m e
dyadic_gives two.Plus j k m e = alike_dyadic j k m e
dyadic_gives two.Minus j k m e = alike_dyadic j k m e
dyadic_gives two.Lor j k m e = whole_dyadic j k m e
dyadic_gives two.Nev j k m e = whole_dyadic j k m e

-- ---- relations

numbers_alike : (l n : Mode-F Mode) → of_number l ≡ true → of_number n ≡ true → alike l n ≡ true
numbers_alike Mode-F.Int n h g = g
numbers_alike Mode-F.Frac n h g = g
numbers_alike _ n h g = absurd cc

references_alike : (l : Mode-F Mode) → is_reference l ≡ true → alike l l ≡ true
references_alike (Mode-F.Ref m) h = refl
references_alike (Mode-F.RefArray m) h = refl
references_alike _ h = absurd cc

numbers_compared : (j k : Mode) → both is_int j k || both is_frac j k ≡ true → alike (out-Mode j) (out-Mode k) ≡ true
numbers_compared j k e = by_int (both is_int j k) refl e
  where
    by_int : (b : Bool) → both is_int j k ≡ b → b || both is_frac j k ≡ true → alike (out-Mode j) (out-Mode k) ≡ true
    by_int true f e = let h = two_true (is_int j) (is_int k) f in numbers_alike (out-Mode j) (out-Mode k) (int_number j h.0) (int_number k h.1)
    by_int false f e = let h = two_true (is_frac j) (is_frac k) e in numbers_alike (out-Mode j) (out-Mode k) (frac_number j h.0) (frac_number k h.1)

references_compared : (j k : Mode) → is_reference (out-Mode j) && same j k ≡ true → alike (out-Mode j) (out-Mode k) ≡ true
references_compared j k e =
    let h = two_true (is_reference (out-Mode j)) (same j k) e in
    let is : j ≡ k = same_equal j k h.1 in
    subst (λ (z : Mode). alike (out-Mode j) (out-Mode z) ≡ true) is (references_alike (out-Mode j) h.0)

pub compared_alike : (r : Rel) (j k : Mode) → compare_fits r j k ≡ true → alike (out-Mode j) (out-Mode k) ≡ true
compared_alike rel.Same j k e = references_compared j k e
compared_alike rel.Different j k e = references_compared j k e
compared_alike rel.Equal j k e = numbers_compared j k e
compared_alike rel.Unequal j k e = numbers_compared j k e
compared_alike rel.Less j k e = numbers_compared j k e
compared_alike rel.LessOrEqual j k e = numbers_compared j k e
compared_alike rel.Greater j k e = numbers_compared j k e
compared_alike rel.GreaterOrEqual j k e = numbers_compared j k e
