-- Formats as functions from the bytes that stand there: what they mean and the bytes left, or how many bytes are left from
-- the first field on that is cut or out of range.
use Rattle.std.specs.Prelude.{◌≡◌, ℕ, zero, suc, ◌+◌, ◌*◌, ◌==◌, nat_eq, nat_le, Bool, ◌&&◌, if◌then◌else◌, List, [], ◌∷◌, ◌++◌, length, take, drop, Option, Some, None, Result, Ok, Err}
use Rattle.std.specs.List.{starts_with}
use Rattle.rt_words.specs.declared.stop.Stop.{Stop}
use Rattle.rt_words.specs.declared.stop.Stop.TheVariants as stop

abbrev pub Outcome : Type 0 → Type 0
Outcome A = Result (A × List ℕ) ℕ

abbrev pub Reader : Type 0 → Type 0
Reader A = List ℕ → Outcome A

-- ---- one field, or none

abbrev pub nothing : {A : Type 0} → A → Reader A
nothing a = λ l. Ok (a, l)

abbrev pub never : {A : Type 0} → Reader A
never = λ l. Err (length l)

-- what a field means, by a table, or that all of l is left
abbrev pub taken : {A : Type 0} → List ℕ → List ℕ → Option A → Outcome A
taken l r (Some a) = Ok (a, r)
taken l r None = Err (length l)

abbrev pub byte : {A : Type 0} → (ℕ → Option A) → Reader A
byte of [] = Err 0
byte of (b ∷ r) = taken (b ∷ r) r (of b)

abbrev pub word : {A : Type 0} → (ℕ → Option A) → Reader A
word of [] = Err 0
word of (low ∷ []) = Err 1
word of (low ∷ (high ∷ r)) = taken (low ∷ (high ∷ r)) r (of (low + 256 * high))

-- what a field means, where it passes a test, or that all of l is left
abbrev pub taken_if : {A : Type 0} → Bool → List ℕ → A → List ℕ → Outcome A
taken_if test l a r = if test then Ok (a, r) else Err (length l)

abbrev pub block : ℕ → Reader (List ℕ)
block count l = taken_if (nat_le count (length l)) l (take count l) (drop count l)

abbrev pub tag : List ℕ → Reader (Unit {0})
tag bytes l = taken_if (starts_with nat_eq l bytes) l tt (drop (length bytes) l)

-- whether a name of so many bytes stands here
abbrev pub is_name : ℕ → List ℕ → Bool
is_name count l = nat_le 1 count && nat_le count 32 && nat_le count (length l)

abbrev pub name : Reader (List ℕ)
name [] = Err 0
name (count ∷ l) = taken_if (is_name count l) (count ∷ l) (take count l) (drop count l)

-- ---- several fields

abbrev pub and_then : {A B : Type 0} → Outcome A → (A → Reader B) → Outcome B
and_then (Ok x) f = f x.0 x.1
and_then (Err n) f = Err n

infixl 10 ◌>>=◌
abbrev pub ◌>>=◌ : {A B : Type 0} → Reader A → (A → Reader B) → Reader B
p >>= q = λ l. and_then (p l) q

unfoldable pub each : {A : Type 0} → (List A → Reader A) → ℕ → List A → Reader (List A)
each p zero found = nothing found
each p (suc n) found = p found >>= (λ x. each p n (found ++ x ∷ []))

abbrev pub times : {A : Type 0} → Reader A → ℕ → List A → Reader (List A)
times p = each (λ _. p)

abbrev pub or_zero : {A : Type 0} → Reader A → Reader (Option A)
or_zero p [] = (p >>= (λ a. nothing (Some a))) []
or_zero p (b ∷ l) = if b == 0 then Ok (None, l) else (p >>= (λ a. nothing (Some a))) (b ∷ l)

abbrev pub passed : {A : Type 0} → (A → Bool) → List ℕ → Outcome A → Outcome A
passed test l (Ok x) = taken_if (test x.0) l x.0 x.1
passed test l (Err n) = Err n

abbrev pub passing : {A : Type 0} → (A → Bool) → Reader A → Reader A
passing test p = λ l. passed test l (p l)

-- what was read, where nothing is left
abbrev pub ended : {A : Type 0} → A → List ℕ → Outcome A
ended a [] = Ok (a, [])
ended a (b ∷ r) = Err (length (b ∷ r))

abbrev pub whole : {A : Type 0} → Reader A → Reader A
whole p = p >>= ended

-- ---- what a function of the code answers

-- the word that the bytes begin with, and the bytes behind it, where there are two
abbrev pub word_at : List ℕ → Option (ℕ × List ℕ)
word_at [] = None
word_at (low ∷ []) = None
word_at (low ∷ (high ∷ r)) = Some (low + 256 * high, r)

abbrev pub Fails : {Y : Type 0} → Stop → Result Y ℕ → Type 0
Fails stop.Memory read = Unit {0}
Fails (stop.Refused n) read = read ≡ Err n

-- unless memory runs out, what the function of the definitions answers
abbrev pub Gives : {X Y : Type 0} → (X → Y) → Result X Stop → Result Y ℕ → Type 0
Gives view (Ok x) read = read ≡ Ok (view x)
Gives view (Err e) read = Fails e read
