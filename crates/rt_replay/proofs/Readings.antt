-- Each text has one reading.
use Rattle.std.proofs.Common.{◌≡◌, ℕ, zero, suc, ◌+◌, ◌≤◌, Bool, true, false, List, [], ◌∷◌, length, Option, Some, None, refl, ap, arith}
use Rattle.rt_system.specs.Reading.{after_line}
use Rattle.rt_system.proofs.SomeReading.{after_shorter}
use Rattle.rt_replay.specs.declared.report.Report.{Report}
use Rattle.rt_replay.specs.declared.draft.Draft.{Draft}
use Rattle.rt_replay.specs.Reading.{first_line, take_line, is_complete, report_of, start}
use Rattle.rt_replay.specs.Laws.{Reading, Says, Bad, Reads}
use Rattle.rt_replay.proofs.ReportReads.{IsRead, starts, goes_on, finds_end, finds_bad, ends_early, one_report, none_bad, one_bad}

pub one_reading : (bytes : List ℕ) (r q : Reading) → Reads bytes r → Reads bytes q → r ≡ q
one_reading bytes (Says r) (Says q) h k = ap (λ (x : Report). Says x) (one_report bytes r q h k)
one_reading bytes (Says r) (Bad n) h k = absurd (none_bad bytes r n h k)
one_reading bytes (Bad n) (Says r) h k = absurd (none_bad bytes r n k h)
one_reading bytes (Bad n) (Bad m) h k = ap (λ (x : ℕ). Bad x) (one_bad bytes n m h k)

abbrev HasReading : List ℕ → Type 0
HasReading bytes = (r : Reading) × Reads bytes r

at_end : (bytes : List ℕ) (n : ℕ) (d : Draft) → IsRead bytes [] n d → (b : Bool) → is_complete d ≡ b → HasReading bytes
at_end bytes n d r true e = (Says (report_of d), finds_end bytes [] n d r refl e)
at_end bytes n d r false e = (Bad (n + 1), ends_early bytes [] n d r refl e)

by_line : (bytes rest : List ℕ) (n : ℕ) (d : Draft) → IsRead bytes rest n d → 1 ≤ length rest → ((e : Draft) → IsRead bytes (after_line rest) (n + 1) e → HasReading bytes) → (o : Option Draft) → take_line d (first_line rest) ≡ o → HasReading bytes
by_line bytes rest n d r some go None e = (Bad (n + 1), finds_bad bytes rest (first_line rest) n d r some refl e)
by_line bytes rest n d r some go (Some x) e = go x (goes_on bytes rest (first_line rest) (after_line rest) n d x r some refl refl e)

reading_of : (most : ℕ) (bytes rest : List ℕ) (n : ℕ) (d : Draft) → length rest ≤ most → IsRead bytes rest n d → HasReading bytes
reading_of most bytes [] n d le r = at_end bytes n d r (is_complete d) refl
reading_of zero bytes (c ∷ cs) n d le r = absurd (omega (arith, le))
reading_of (suc most) bytes (c ∷ cs) n d le r =
    let some : 1 ≤ length (c ∷ cs) = omega arith in
    let shorter = after_shorter (c ∷ cs) some in
    by_line bytes (c ∷ cs) n d r some (λ e is. reading_of most bytes (after_line (c ∷ cs)) (n + 1) e (omega (arith, le, shorter)) is) (take_line d (first_line (c ∷ cs))) refl

pub some_reading : (bytes : List ℕ) → HasReading bytes
some_reading bytes = reading_of (length bytes) bytes bytes 0 start (omega arith) (starts bytes)
