-- Formats that are read field by field.
use Rattle.std.specs.Prelude.{◌≡◌, ℕ, zero, suc, ◌+◌, ◌-◌, ◌*◌, ◌<◌, ◌≤◌, ◌⊎◌, Bool, true, false, ◌&&◌, nat_le, if◌then◌else◌, List, [], ◌∷◌, ◌++◌, length, Option, Some, None}
use Rattle.rt_words.specs.Named.{IsNameLength}

-- A format is a pair of relations on the list l of the bytes that stand there.
-- Fits l r a: the bytes of l before r are the format's, and mean a.
-- Refuses l n: the first field of l that is cut or out of range begins where n bytes are left.
pub record Format (A : Type 0) : Type 1 where
  pub Fits : List ℕ → List ℕ → A → Type 0
  pub Refuses : List ℕ → ℕ → Type 0

-- ---- one field, or none

-- no field at all
abbrev pub nothing : {A : Type 0} → A → Format A
nothing a = record { Fits = λ l r x. (l ≡ r) × (a ≡ x); Refuses = λ l n. ⊥ }

-- a field that no bytes can be
abbrev pub never : {A : Type 0} → Format A
never = record { Fits = λ l r x. ⊥; Refuses = λ l n. n ≡ length l }

-- a byte that means something by a table
abbrev pub byte : {A : Type 0} → (ℕ → Option A) → Format A
byte of = record {
  Fits = λ l r x. (b : ℕ) × (l ≡ b ∷ r) × (of b ≡ Some x);
  Refuses = λ l n. (n ≡ length l) × ((b : ℕ) (r : List ℕ) → l ≡ b ∷ r → of b ≡ None);
}

-- a word, the low byte first, that means something by a table
abbrev pub word : {A : Type 0} → (ℕ → Option A) → Format A
word of = record {
  Fits = λ l r x. (low : ℕ) × (high : ℕ) × (l ≡ low ∷ (high ∷ r)) × (of (low + 256 * high) ≡ Some x);
  Refuses = λ l n. (n ≡ length l) × ((low high : ℕ) (r : List ℕ) → l ≡ low ∷ (high ∷ r) → of (low + 256 * high) ≡ None);
}

-- so many bytes, whatever they are
abbrev pub block : ℕ → Format (List ℕ)
block count = record {
  Fits = λ l r x. (l ≡ x ++ r) × (length x ≡ count);
  Refuses = λ l n. (n ≡ length l) × (length l < count);
}

-- these bytes and no others
abbrev pub tag : List ℕ → Format (Unit {0})
tag bytes = record {
  Fits = λ l r x. l ≡ bytes ++ r;
  Refuses = λ l n. (n ≡ length l) × ((r : List ℕ) → l ≡ bytes ++ r → ⊥);
}

-- a name: its length, 1 to 32, as a byte, and so many bytes
abbrev pub name : Format (List ℕ)
name = record {
  Fits = λ l r x. (l ≡ length x ∷ (x ++ r)) × IsNameLength (length x);
  Refuses = λ l n. (n ≡ length l) × ((x r : List ℕ) → l ≡ length x ∷ (x ++ r) → IsNameLength (length x) → ⊥);
}

-- ---- the tables of numbers

-- a number that passes a test stands for itself
abbrev pub where_true : (ℕ → Bool) → ℕ → Option ℕ
where_true test n = if test n then Some n else None

-- any number stands for itself
abbrev pub any : ℕ → Option ℕ
any n = Some n

-- a number from one to another stands for itself
abbrev pub within : ℕ → ℕ → ℕ → Option ℕ
within least most = where_true (λ n. nat_le least n && nat_le n most)

-- ---- several fields

-- a format and then another, which may depend on what the first one means
infixl 10 ◌>>=◌
abbrev pub ◌>>=◌ : {A B : Type 0} → Format A → (A → Format B) → Format B
◌>>=◌ {A} p q = record {
  Fits = λ l r b. (m : List ℕ) × (a : A) × p.Fits l m a × (q a).Fits m r b;
  Refuses = λ l n. p.Refuses l n ⊎ ((m : List ℕ) × (a : A) × p.Fits l m a × (q a).Refuses m n);
}

-- Formats one behind another, so many times. Each may depend on what those before it mean; what it means stands behind
-- what was found before.
unfoldable pub each : {A : Type 0} → (List A → Format A) → ℕ → List A → Format (List A)
each p zero found = nothing found
each p (suc n) found = p found >>= (λ x. each p n (found ++ x ∷ []))

-- the same format so many times
abbrev pub times : {A : Type 0} → Format A → ℕ → List A → Format (List A)
times p = each (λ _. p)

-- the byte 0, or a format that begins with another byte
abbrev pub or_zero : {A : Type 0} → Format A → Format (Option A)
or_zero {A} p = record {
  Fits = λ l r x. (l ≡ 0 ∷ r) × (x ≡ None) ⊎ (((m : List ℕ) → l ≡ 0 ∷ m → ⊥) × ((a : A) × p.Fits l r a × (x ≡ Some a)));
  Refuses = λ l n. ((m : List ℕ) → l ≡ 0 ∷ m → ⊥) × p.Refuses l n;
}

-- a format whose meaning passes a test; where it doesn't, the refusal is that of the first byte
abbrev pub passing : {A : Type 0} → (A → Bool) → Format A → Format A
passing {A} test p = record {
  Fits = λ l r x. p.Fits l r x × (test x ≡ true);
  Refuses = λ l n. p.Refuses l n ⊎ ((n ≡ length l) × (r : List ℕ) × (x : A) × p.Fits l r x × (test x ≡ false));
}

-- a format behind which no byte stands; where one does, it is refused
abbrev pub whole : {A : Type 0} → Format A → Format A
whole {A} p = record {
  Fits = λ l r x. p.Fits l [] x × (r ≡ []);
  Refuses = λ l n. p.Refuses l n ⊎ ((b : ℕ) × (r : List ℕ) × (x : A) × p.Fits l (b ∷ r) x × (n ≡ length (b ∷ r)));
}

-- ---- all of some bytes

-- the bytes, all of them, are the format's, and mean a
abbrev pub Spell : {A : Type 0} → Format A → List ℕ → A → Type 0
Spell format bytes a = format.Fits bytes [] a

-- they are not: the first field that is cut or out of range, or the first byte behind the last field, stands at p
pub record AreRefusedAt {A : Type 0} (format : Format A) (bytes : List ℕ) (p : ℕ) : Type 0 where
  pub inside : p ≤ length bytes
  pub refused : (whole format).Refuses bytes (length bytes - p)
