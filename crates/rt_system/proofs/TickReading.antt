-- Each tick text has one reading.
use Rattle.std.proofs.Common.{◌≡◌, ℕ, zero, suc, ◌+◌, ◌≤◌, Bool, true, false, nat_le, List, [], ◌∷◌, ◌++◌, length, Option, Some, None, refl, sym, ap, subst, ◌∙◌, arith}
use Rattle.rt_system.specs.Lines.{lines}
use Rattle.rt_system.specs.Reading.{first_line, after_line}
use Rattle.rt_system.specs.Ticks.{ticks_of}
use Rattle.rt_system.specs.ReadingTicks.{tick_line}
use Rattle.rt_system.specs.Laws.{TickReading, Ticks, BadTicks, ReadsTicks}
use Rattle.rt_system.specs.declared.ticks.TickLine.{TickLine}
use Rattle.rt_system.proofs.Tests.{none_some, some_inj, true_false}
use Rattle.rt_system.proofs.Says.{one_bad, none_bad}
use Rattle.rt_system.proofs.TickLineReads.{le_means, le_is}
use Rattle.rt_system.proofs.TickReads.{HasTicks, fronts, one_gaps, IsRead, starts, goes_on, finds_end, finds_bad}
use Rattle.rt_system.proofs.SomeReading.{after_shorter}

pub one_tick_reading : (bytes : List ℕ) (r q : TickReading) → ReadsTicks bytes r → ReadsTicks bytes q → r ≡ q
one_tick_reading bytes (Ticks a) (Ticks b) h k = ap (λ (g : List ℕ). Ticks g) (one_gaps (lines bytes) a b h k)
one_tick_reading bytes (Ticks a) (BadTicks n) h k = absurd (none_bad HasTicks fronts bytes n (a, h) k)
one_tick_reading bytes (BadTicks n) (Ticks a) h k = absurd (none_bad HasTicks fronts bytes n (a, k) h)
one_tick_reading bytes (BadTicks n) (BadTicks m) h k = ap (λ (i : ℕ). BadTicks i) (one_bad HasTicks fronts bytes n m h k)

abbrev HasReading : List ℕ → Type 0
HasReading bytes = (r : TickReading) × ReadsTicks bytes r

-- ---- a line

module _ (bytes rest : List ℕ) (n : ℕ) (gaps : List ℕ) (r : IsRead bytes rest n gaps) (some : 1 ≤ length rest) (go : (more : List ℕ) → IsRead bytes (after_line rest) (n + 1) more → HasReading bytes) where
  too_many : (kind k : TickLine) → tick_line (first_line rest) ≡ Some kind → nat_le (length (gaps ++ ticks_of kind)) 200000 ≡ false → tick_line (first_line rest) ≡ Some k → length (gaps ++ ticks_of k) ≤ 200000 → ⊥
  too_many kind k e full is few =
      let same : k ≡ kind = some_inj (sym is ∙ e) in
      true_false (nat_le (length (gaps ++ ticks_of kind)) 200000) (le_is (length (gaps ++ ticks_of kind)) 200000 (subst (λ (m : TickLine). length (gaps ++ ticks_of m) ≤ 200000) same few)) full

  by_room : (kind : TickLine) → tick_line (first_line rest) ≡ Some kind → (b : Bool) → nat_le (length (gaps ++ ticks_of kind)) 200000 ≡ b → HasReading bytes
  by_room kind e true room =
      go (gaps ++ ticks_of kind) (goes_on bytes rest (first_line rest) (after_line rest) n gaps (gaps ++ ticks_of kind) r some refl refl
      (record { kind = kind; is = e; added = refl; few = le_means (length (gaps ++ ticks_of kind)) 200000 room }))
  by_room kind e false full = (BadTicks (n + 1), finds_bad bytes rest (first_line rest) n gaps r some refl (λ k is few. too_many kind k e full is few))

  by_line : (o : Option TickLine) → tick_line (first_line rest) ≡ o → HasReading bytes
  by_line None e = (BadTicks (n + 1), finds_bad bytes rest (first_line rest) n gaps r some refl (λ k is few. none_some (sym e ∙ is)))
  by_line (Some kind) e = by_room kind e (nat_le (length (gaps ++ ticks_of kind)) 200000) refl

-- ---- a text

reading_of : (most : ℕ) (bytes rest : List ℕ) (n : ℕ) (gaps : List ℕ) → length rest ≤ most → IsRead bytes rest n gaps → HasReading bytes
reading_of most bytes [] n gaps le r = (Ticks gaps, finds_end bytes [] n gaps r refl)
reading_of zero bytes (c ∷ cs) n gaps le r = absurd (omega arith)
reading_of (suc most) bytes (c ∷ cs) n gaps le r =
    let some : 1 ≤ length (c ∷ cs) = omega arith in
    let shorter = after_shorter (c ∷ cs) some in
    by_line bytes (c ∷ cs) n gaps r some (λ more is. reading_of most bytes (after_line (c ∷ cs)) (n + 1) more (omega arith) is) (tick_line (first_line (c ∷ cs))) refl

pub some_tick_reading : (bytes : List ℕ) → HasReading bytes
some_tick_reading bytes = reading_of (length bytes) bytes bytes 0 [] (omega arith) (starts bytes)
