-- What each format made of these has: `proofs/Determined.antt` and `proofs/Front.antt` have it of every combinator.
use Rattle.std.specs.Prelude.{◌≡◌, ℕ, ◌≤◌, ◌⊎◌, List, [], ◌++◌, length}
use Rattle.rt_words.specs.Format.{Format, Spell}

-- At each place something fits or a field is refused, never both; what fits is one, and so is the field.
pub record IsDetermined {A : Type 0} (format : Format A) : Type 0 where
  pub either : (l : List ℕ) → ((r : List ℕ) × (a : A) × format.Fits l r a) ⊎ ((n : ℕ) × format.Refuses l n)
  pub never_both : (l r : List ℕ) (a : A) (n : ℕ) → format.Fits l r a → format.Refuses l n → ⊥
  pub one_meaning : (l r s : List ℕ) (a b : A) → format.Fits l r a → format.Fits l s b → (r ≡ s) × (a ≡ b)
  pub one_place : (l : List ℕ) (m n : ℕ) → format.Refuses l m → format.Refuses l n → m ≡ n

-- What fits is bytes in front, which fit in the same way whatever follows them.
pub record IsReadBack {A : Type 0} (format : Format A) : Type 0 where
  pub back : (l r : List ℕ) (a : A) → format.Fits l r a → (front : List ℕ) × (l ≡ front ++ r) × ((s : List ℕ) → format.Fits (front ++ s) s a)

-- No bytes that are the format's begin others that are.
abbrev pub NoneBegins : {A : Type 0} → Format A → Type 0
NoneBegins {A} format = (bytes rest : List ℕ) (a b : A) → Spell format bytes a → Spell format (bytes ++ rest) b → (rest ≡ []) × (a ≡ b)

-- The field that is refused lies within the bytes that stand there.
abbrev pub RefusesWithin : {A : Type 0} → Format A → Type 0
RefusesWithin format = (l : List ℕ) (n : ℕ) → format.Refuses l n → n ≤ length l
