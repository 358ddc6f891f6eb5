-- A line of a tick text is read as it is defined.
use Rattle.std.proofs.Common.{◌≡◌, ℕ, zero, suc, ◌⊎◌, inl, inr, ◌+◌, ◌≤◌, Bool, true, false, cond, nat_le, eqb, List, [], ◌∷◌, ◌++◌, length, take, drop, Option, Some, None, refl, sym, ap, subst, ◌∙◌, add-one, arith}
use Rattle.std.specs.Prelude.{take_while}
use Rattle.std.specs.List.{AllByRecursion, list_all, prefix_len}
use Rattle.std.proofs.lemmas.Bool.Decides.{nat_tests}
use Rattle.std.proofs.lemmas.List.{length-take, length-drop}
use Rattle.rt_pieces.specs.Bytes.{Ends}
use Rattle.rt_system.specs.Lines.{IsBlank}
use Rattle.rt_system.specs.Numbers.{IsDigit}
use Rattle.rt_system.specs.Reading.{is_blank, number, plain_number, run}
use Rattle.rt_system.specs.Ticks.{IsGap, IsRepeated, IsTickLine}
use Rattle.rt_system.specs.ReadingTicks.{is_no_star, gap, with_count, repeated, one_or, tick_line}
use Rattle.rt_system.specs.declared.ticks.TickLine.{TickLine}
use Rattle.rt_system.specs.declared.ticks.TickLine.TheVariants.{Blank, Gap, Gaps}
use Rattle.rt_system.proofs.Tests.{none_some, some_inj, all_means, all_is}
use Rattle.rt_system.proofs.Runs.{run_sound, run_complete, each_of}
use Rattle.rt_system.proofs.Says.{takes_next}
use Rattle.rt_system.proofs.NumberReads.{number_means, number_is, plain_means, plain_is}

pub blank_is : (c : ℕ) → IsBlank c → is_blank c ≡ true
blank_is c h = grind (arith, nat_tests)

pub blank_means : (c : ℕ) → is_blank c ≡ true → IsBlank c
blank_means c h = grind (arith, nat_tests)

digit_no_blank : (c : ℕ) → IsDigit c → is_blank c ≡ false
digit_no_blank c h = grind (arith, nat_tests)

digit_no_star : (c : ℕ) → IsDigit c → is_no_star c ≡ true
digit_no_star c h = grind (arith, nat_tests)

star_means : (c : ℕ) → is_no_star c ≡ false → c ≡ 42
star_means c h = grind (arith, nat_tests)

-- ---- a gap

pub gap_by : {A : Type 0} (b : Bool) (o : Option A) (x : A) → cond b o None ≡ Some x → (b ≡ true) × (o ≡ Some x)
gap_by true o x e = (refl, e)
gap_by false o x e = none_some e

pub le_means : (n m : ℕ) → nat_le n m ≡ true → n ≤ m
le_means n m h = grind (arith, nat_tests)

pub le_is : (n m : ℕ) → n ≤ m → nat_le n m ≡ true
le_is n m h = grind (arith, nat_tests)

gap_means : (t : List ℕ) (n : ℕ) → gap t ≡ Some n → IsGap t n
unfolding gap
gap_means t n e =
    let h = gap_by (nat_le (length t) 10) (number 4000000000 t) n e in
    let k = number_means 4000000000 t n h.1 in
    record { number = k.0; short = le_means (length t) 10 h.0; most = k.1 }

gap_is : (t : List ℕ) (n : ℕ) → IsGap t n → gap t ≡ Some n
unfolding gap
gap_is t n h = rw (le_is (length t) 10 h.short) (number_is 4000000000 t n h.number h.most)

-- ---- gap*count

abbrev star_of : List ℕ → ℕ
star_of line = length (take_while is_no_star line)

repeated_by : (star : Bool) (g n : Option ℕ) (kind : TickLine) → cond star None (with_count g n) ≡ Some kind → (star ≡ false) × ((left : ℕ) × (right : ℕ) × (g ≡ Some left) × (n ≡ Some right) × (Gaps left right ≡ kind))
repeated_by true g n kind e = none_some e
repeated_by false None n kind e = none_some e
repeated_by false (Some g) None kind e = none_some e
repeated_by false (Some g) (Some n) kind e = (refl, (g, n, refl, refl, some_inj e))

star_first : (n : ℕ) (line rest : List ℕ) → drop n line ≡ rest → Ends is_no_star rest → (eqb n (length line) ≡ false) → n ≤ length line → rest ≡ 42 ∷ drop (suc n) line
star_first n line rest e ends test le = go n line rest e ends (grind (arith, nat_tests))
  where
    go : (n : ℕ) (line rest : List ℕ) → drop n line ≡ rest → Ends is_no_star rest → suc n ≤ length line → rest ≡ 42 ∷ drop (suc n) line
    go n [] rest e ends lt = absurd (omega arith)
    go zero (c ∷ cs) [] e ends lt = absurd cc
    go zero (c ∷ cs) (r ∷ rs) e ends lt = let star = star_means r ends in cc
    go (suc n) (c ∷ cs) rest e ends lt = go n cs rest e ends (omega arith)

front_short : (n : ℕ) (l : List ℕ) → length (take n l) ≤ length l
front_short n l = omega (arith, length-take n l)

some_left : (n : ℕ) (l : List ℕ) (c : ℕ) (cs : List ℕ) → drop n l ≡ c ∷ cs → suc n ≤ length l
some_left n l c cs e = omega (arith, length-drop n l, ap length e)

repeated_means : (line : List ℕ) (kind : TickLine) → repeated (star_of line) line ≡ Some kind → IsTickLine line kind
unfolding repeated
repeated_means line kind e =
    let h = repeated_by (eqb (star_of line) (length line)) (gap (take (star_of line) line)) (plain_number 200000 (drop (star_of line + 1) line)) kind e in
    let r = run_sound is_no_star line (take (star_of line) line) (drop (star_of line) line) refl in
    let le : star_of line ≤ length line = front_short (prefix_len is_no_star line) line in
    let star = star_first (star_of line) line (drop (star_of line) line) refl r.ends h.0 le in
    let count = plain_means 200000 (drop (star_of line + 1) line) h.1.1 h.1.3 in
    subst (λ (k : TickLine). IsTickLine line k) h.1.4 (record {
      left = take (star_of line) line;
      right = drop (star_of line + 1) line;
      parts = rw (add-one) (r.parts ∙ ap (λ (t : List ℕ). take (star_of line) line ++ t) star);
      gap_is = gap_means (take (star_of line) line) h.1.0 h.1.2;
      count_is = record { number = count.0; most = count.1 };
    })

other_length : (n m : ℕ) → suc n ≤ m → eqb n m ≡ false
other_length n m h = grind (arith, nat_tests)

repeated_is : (line : List ℕ) (g n : ℕ) → IsRepeated line g n → repeated (star_of line) line ≡ Some (Gaps g n)
unfolding repeated
repeated_is line g n h =
    let parts = run_complete is_no_star h.left (42 ∷ h.right) (each_of is_no_star IsDigit digit_no_star h.left h.gap_is.number.digits) refl in
    let run_is : run is_no_star line ≡ (h.left, 42 ∷ h.right) = ap (run is_no_star) h.parts ∙ parts in
    let left : take (star_of line) line ≡ h.left = ap (λ (x : List ℕ × List ℕ). x.0) run_is in
    let rest : drop (star_of line) line ≡ 42 ∷ h.right = ap (λ (x : List ℕ × List ℕ). x.1) run_is in
    let right : drop (star_of line + 1) line ≡ h.right = rw add-one ((takes_next (star_of line) line 42 h.right rest).left) in
    let far : eqb (star_of line) (length line) ≡ false = other_length (star_of line) (length line) (some_left (star_of line) line 42 h.right rest) in
    rw (far, left, right, gap_is h.left g h.gap_is, plain_is 200000 h.right n h.count_is.number h.count_is.most) refl

-- ---- a line

line_by : (b : Bool) (o : Option TickLine) (kind : TickLine) → cond b (Some Blank) o ≡ Some kind → ((b ≡ true) × (Blank ≡ kind)) ⊎ (o ≡ Some kind)
line_by true o kind e = inl (refl, some_inj e)
line_by false o kind e = inr e

one_by : (line : List ℕ) (kind : TickLine) (o : Option ℕ) → gap line ≡ o → one_or o (repeated (star_of line) line) ≡ Some kind → IsTickLine line kind
one_by line kind (Some g) h e = subst (λ (k : TickLine). IsTickLine line k) (some_inj e) (gap_means line g h)
one_by line kind None h e = repeated_means line kind e

pub tick_line_means : (line : List ℕ) (kind : TickLine) → tick_line line ≡ Some kind → IsTickLine line kind
unfolding tick_line
tick_line_means line kind e =
    elim (line_by (list_all is_blank line) (one_or (gap line) (repeated (star_of line) line)) kind e) [
      | inl h ↦ subst (λ (k : TickLine). IsTickLine line k) h.1 (all_means is_blank IsBlank blank_means line h.0)
      | inr k ↦ one_by line kind (gap line) refl k
    ]

no_blank : (t : List ℕ) → 1 ≤ length t → AllByRecursion IsDigit t → list_all is_blank t ≡ false
no_blank [] some h = absurd (omega arith)
no_blank (c ∷ cs) some h = rw (digit_no_blank c h.0) refl

no_blank_front : (t rest : List ℕ) → 1 ≤ length t → AllByRecursion IsDigit t → list_all is_blank (t ++ rest) ≡ false
no_blank_front [] rest some h = absurd (omega arith)
no_blank_front (c ∷ cs) rest some h = rw (digit_no_blank c h.0) refl

all_at : (P : ℕ → Type 0) (a b : List ℕ) (c : ℕ) → AllByRecursion P (a ++ c ∷ b) → P c
all_at P [] b c h = h.0
all_at P (d ∷ a) b c h = all_at P a b c h.1

no_gap : (line : List ℕ) (g n : ℕ) → IsRepeated line g n → (o : Option ℕ) → gap line ≡ o → o ≡ None
no_gap line g n h None e = refl
no_gap line g n h (Some x) e =
    let digits = (gap_means line x e).number.digits in
    let star = all_at IsDigit h.left h.right 42 (subst (λ (t : List ℕ). AllByRecursion IsDigit t) h.parts digits) in
    absurd (omega (arith, star.0))

pub tick_line_is : (line : List ℕ) (kind : TickLine) → IsTickLine line kind → tick_line line ≡ Some kind
unfolding tick_line
tick_line_is line Blank h = rw (all_is is_blank IsBlank blank_is line h) refl
tick_line_is line (Gap g) h = rw (no_blank line h.number.some h.number.digits, gap_is line g h) refl
tick_line_is line (Gaps g n) h =
    let front = no_blank_front h.left (42 ∷ h.right) h.gap_is.number.some h.gap_is.number.digits in
    let no : list_all is_blank line ≡ false = ap (list_all is_blank) h.parts ∙ front in
    let none : gap line ≡ None = no_gap line g n h (gap line) refl in
    rw (no, none) (repeated_is line g n h)

-- a line says one thing
pub one_kind : (line : List ℕ) (k m : TickLine) → IsTickLine line k → IsTickLine line m → k ≡ m
one_kind line k m h i = some_inj (sym (tick_line_is line k h) ∙ tick_line_is line m i)
