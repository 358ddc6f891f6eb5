-- Each text has a reading.
use Rattle.std.proofs.Common.{◌≡◌, ℕ, zero, suc, ◌+◌, ◌≤◌, inl, inr, Bool, true, false, List, [], ◌∷◌, length, Option, Some, None, refl, sym, ap, ◌∙◌, arith}
use Rattle.std.proofs.lemmas.List.{length-drop}
use Rattle.rt_system.specs.Reading.{inside, first_line, after_line}
use Rattle.rt_system.specs.Systems.{Line, Blank, Module, Object, Library, Task}
use Rattle.rt_system.specs.ReadingSystems.{system_line, is_taken, has_room, with_line}
use Rattle.rt_system.specs.Laws as laws
use Rattle.rt_system.specs.Laws.{Reading, Reads}
use Rattle.rt_system.specs.declared.parts.Task as parts
use Rattle.rt_system.specs.declared.parts.SystemParts.{SystemParts}
use Rattle.rt_system.proofs.Tests.{none_some}
use Rattle.rt_system.proofs.SystemReads.{no_room, adds, IsRead, starts, next, finds_end, lacks_task, finds_bad, finds_object}

abbrev HasReading : Bool → List ℕ → Type 0
HasReading objects bytes = (r : Reading) × Reads objects bytes r

pub after_shorter : (text : List ℕ) → 1 ≤ length text → suc (length (after_line text)) ≤ length text
unfolding after_line
after_shorter text some = omega (arith, length-drop (inside text + 1) text)

-- ---- the end of the text

at_end : (objects : Bool) (bytes : List ℕ) (n : ℕ) (s : SystemParts) → IsRead objects bytes [] n s → (ts : List parts.Task) → s.tasks ≡ ts → HasReading objects bytes
at_end objects bytes n s r [] e = (laws.Bad (n + 1), inr (lacks_task objects bytes [] n s r refl (ap length e)))
at_end objects bytes n s r (t ∷ ts) e =
    let some : 1 ≤ length s.tasks = omega (arith, ap length e) in
    (laws.System s, finds_end objects bytes [] n s r refl some)

-- ---- a line

module _ (objects : Bool) (bytes rest : List ℕ) (n : ℕ) (s : SystemParts) (r : IsRead objects bytes rest n s) (some : 1 ≤ length rest) (go : (more : SystemParts) → IsRead objects bytes (after_line rest) (n + 1) more → HasReading objects bytes) where
  not_taken : (k : Line) → system_line (first_line rest) ≡ Some k → is_taken objects k ≡ false → HasReading objects bytes
  not_taken Blank e h = absurd cc
  not_taken (Module file) e h = absurd cc
  not_taken (Object file) e h = (laws.Object (n + 1), finds_object objects bytes rest file n s r some h e)
  not_taken Library e h = absurd cc
  not_taken (Task t) e h = absurd cc

  by_room : (k : Line) → system_line (first_line rest) ≡ Some k → is_taken objects k ≡ true → (b : Bool) → has_room s k ≡ b → HasReading objects bytes
  by_room k e taken true room =
      go (with_line (n + 1) s k) (next objects bytes rest n s (with_line (n + 1) s k) r some (adds objects s (first_line rest) (n + 1) k (with_line (n + 1) s k) r.read.limits e taken room refl))
  by_room k e taken false room = (laws.Bad (n + 1), inl (finds_bad objects bytes rest n s r some (no_room objects s (first_line rest) (n + 1) k e taken room)))

  by_taken : (k : Line) → system_line (first_line rest) ≡ Some k → (b : Bool) → is_taken objects k ≡ b → HasReading objects bytes
  by_taken k e true h = by_room k e h (has_room s k) refl
  by_taken k e false h = not_taken k e h

  by_line : (o : Option Line) → system_line (first_line rest) ≡ o → HasReading objects bytes
  by_line None e = (laws.Bad (n + 1), inl (finds_bad objects bytes rest n s r some (λ k is. none_some (sym e ∙ is))))
  by_line (Some k) e = by_taken k e (is_taken objects k) refl

-- ---- a text

reading_of : (most : ℕ) (objects : Bool) (bytes rest : List ℕ) (n : ℕ) (s : SystemParts) → length rest ≤ most → IsRead objects bytes rest n s → HasReading objects bytes
reading_of most objects bytes [] n s le r = at_end objects bytes n s r s.tasks refl
reading_of zero objects bytes (c ∷ cs) n s le r = absurd (omega arith)
reading_of (suc most) objects bytes (c ∷ cs) n s le r =
    let some : 1 ≤ length (c ∷ cs) = omega arith in
    let shorter = after_shorter (c ∷ cs) some in
    by_line objects bytes (c ∷ cs) n s r some (λ more is. reading_of most objects bytes (after_line (c ∷ cs)) (n + 1) more (omega arith) is) (system_line (first_line (c ∷ cs))) refl

pub some_reading : (objects : Bool) (bytes : List ℕ) → HasReading objects bytes
some_reading objects bytes =
    let none : SystemParts = record { entries = []; tasks = [] } in
    reading_of (length bytes) objects bytes bytes 0 none (omega arith) (starts objects bytes none refl refl)
