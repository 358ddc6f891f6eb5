-- Walks over edges of any kind.
use Rattle.std.specs.Prelude.{◌≡◌, ℕ, ◌+◌, ◌<◌, List, ◌∷◌, [], ◌++◌, Some, slice_get}

-- an element of a list
abbrev pub Has : {A : Type 0} → List A → A → Type 0
Has xs a = (i : ℕ) × (slice_get xs i ≡ Some a)

-- no element stands twice in a list
abbrev pub AreDifferent : {A : Type 0} → List A → Type 0
AreDifferent {A = A} xs = (i j : ℕ) (a : A) → slice_get xs i ≡ Some a → slice_get xs j ≡ Some a → i ≡ j

module _ {A : Type 0} (Edge : A → A → Type 0) where
  -- one or more edges, from a to b
  pub data Walk : A → A → Type 0 where
    one : {a b : A} → Edge a b → Walk a b
    more : {a b c : A} → Walk a b → Edge b c → Walk a c

  -- a root, or where an edge from something reached leads
  pub data Reached (IsRoot : A → Type 0) : A → Type 0 where
    root : {a : A} → IsRoot a → Reached IsRoot a
    next : {a b : A} → Reached IsRoot a → Edge a b → Reached IsRoot b

  -- a walk that returns leads through it
  abbrev pub IsOnCycle : A → Type 0
  IsOnCycle a = Walk a a

  -- from each element of a list an edge leads to the next
  abbrev pub EachLeads : List A → Type 0
  EachLeads xs = (i : ℕ) (a b : A) → slice_get xs i ≡ Some a → slice_get xs (i + 1) ≡ Some b → Edge a b

  -- where an edge from an element leads stands before that element
  abbrev pub HaveAllBefore : List A → Type 0
  HaveAllBefore xs = (i : ℕ) (a b : A) → slice_get xs i ≡ Some a → Edge a b → (j : ℕ) × (j < i) × (slice_get xs j ≡ Some b)

  -- a walk that begins and ends with a, and repeats no other
  pub record IsCycleOf (a : A) (xs : List A) : Type 0 where
    pub turn : List A
    pub whole : xs ≡ turn ++ a ∷ []
    pub begins : slice_get turn 0 ≡ Some a
    pub different : AreDifferent turn
    pub edges : EachLeads xs

  -- each that the roots reach, once, behind all to which edges from it lead
  pub record IsOrder (IsRoot : A → Type 0) (xs : List A) : Type 0 where
    pub once : AreDifferent xs
    pub reached : (a : A) → Has xs a → Reached IsRoot a
    pub all : (a : A) → Reached IsRoot a → Has xs a
    pub before : HaveAllBefore xs
