-- What is found, or the first fault: the one at the least item, and of those the one of least number.
use Rattle.std.specs.Prelude.{◌≡◌, ◌⊎◌, IsTrue, ℕ, Bool, nat_lt, nat_le, ◌==◌, ◌||◌, ◌&&◌, not, true, false, if◌then◌else◌, List, [], ◌∷◌, ◌++◌, Option, Some, None, Result, Ok, Err}
use Rattle.rt_grammar.specs.declared.at.At.{At}
use Rattle.rt_check_faults.specs.declared.fault.CheckFault.{CheckFault}
use Rattle.rt_check_faults.specs.declared.fault.CheckFault.TheVariants.{Memory, UnknownName, WrongMode, NotAssignable, WrongCount, RefOfLocal, LeftOut, DeclaredTwice, BadStart, UnknownLabel, NoResult, Unknown}

abbrev pub number_of : CheckFault → ℕ
number_of Memory = 0
number_of (UnknownName at) = 20
number_of (WrongMode at) = 21
number_of (NotAssignable at) = 22
number_of (WrongCount at) = 23
number_of (RefOfLocal at) = 24
number_of (LeftOut form at) = 25
number_of (DeclaredTwice at) = 26
number_of (BadStart at) = 27
number_of (UnknownLabel at) = 28
number_of (NoResult at) = 29
number_of Unknown = 0

-- where it stands
abbrev pub at_of : CheckFault → Option At
at_of Memory = None
at_of (UnknownName at) = Some at
at_of (WrongMode at) = Some at
at_of (NotAssignable at) = Some at
at_of (WrongCount at) = Some at
at_of (RefOfLocal at) = Some at
at_of (LeftOut form at) = Some at
at_of (DeclaredTwice at) = Some at
at_of (BadStart at) = Some at
at_of (UnknownLabel at) = Some at
at_of (NoResult at) = Some at
at_of Unknown = None

abbrev pub item_at : Option At → ℕ
item_at None = 0
item_at (Some at) = at.item

-- the item where it stands; want of memory goes before every fault
abbrev pub item_of : CheckFault → ℕ
item_of f = item_at (at_of f)

-- what can't be known is no fault
abbrev pub is_unknown : CheckFault → Bool
is_unknown Unknown = true
is_unknown _ = false

abbrev pub stands_before : CheckFault → CheckFault → Bool
stands_before f g = nat_lt (item_of f) (item_of g) || (item_of f == item_of g && nat_le (number_of f) (number_of g))

-- every fault goes before what can't be known
abbrev pub is_before : CheckFault → CheckFault → Bool
is_before f g = is_unknown g || (not (is_unknown f) && stands_before f g)

abbrev pub sooner : CheckFault → CheckFault → CheckFault
sooner f g = if is_before f g then f else g

abbrev pub Outcome : Type 0 → Type 0
Outcome A = Result A CheckFault

-- A third answer, beside what something is and its fault: it can't be known, since a declaration is unfit.
abbrev pub unknown : {A : Type 0} → Outcome A
unknown = Err Unknown

-- A node that holds an unfit one, or one that can't be known, isn't judged.
infixl 10 ◌>>=◌
abbrev pub ◌>>=◌ : {A B : Type 0} → Outcome A → (A → Outcome B) → Outcome B
Ok a >>= q = q a
Err f >>= q = Err f

-- a fault, and what is judged apart from it
abbrev pub earlier : {A : Type 0} → CheckFault → Outcome A → CheckFault
earlier f (Ok x) = f
earlier f (Err g) = sooner f g

-- two that are judged apart
abbrev pub both : {A B : Type 0} → Outcome A → Outcome B → Outcome (A × B)
both (Ok x) (Ok y) = Ok (x, y)
both (Ok x) (Err g) = Err g
both (Err f) y = Err (earlier f y)

-- one more, judged apart from those before it
abbrev pub after : {A : Type 0} → Outcome (List A) → Outcome A → Outcome (List A)
after (Ok xs) (Ok y) = Ok (xs ++ y ∷ [])
after (Ok xs) (Err g) = Err g
after (Err f) y = Err (earlier f y)

abbrev pub or_fault : {A : Type 0} → CheckFault → Option A → Outcome A
or_fault f (Some x) = Ok x
or_fault f None = Err f

-- a thing, and whether it is known: where it can't be known another stands for it, at which nothing looks
abbrev pub or_other : {A : Type 0} → A → Bool → Outcome A → Outcome (A × Bool)
or_other other known (Ok x) = Ok (x, known)
or_other other known (Err Unknown) = Ok (other, false)
or_other other known (Err g) = Err g

-- the fault of an outcome; where there is none, what can't be known
abbrev pub fault_of : {A : Type 0} → Outcome A → CheckFault
fault_of (Ok x) = Unknown
fault_of (Err g) = g

-- both, where both are known
abbrev pub pair_of : {A B : Type 0} → Option A → Option B → Option (A × B)
pair_of (Some a) (Some b) = Some (a, b)
pair_of _ _ = None

-- what is said where a thing is known, and where it can't be
abbrev pub told : {A : Type 0} → Option A → Outcome A
told None = unknown
told (Some a) = Ok a

-- a thing or another, and whether it is known
abbrev pub or_any : {A : Type 0} → A → Bool → Option A → A × Bool
or_any other known None = (other, false)
or_any other known (Some a) = (a, known)

abbrev pub UnlessMemory : CheckFault → Type 0 → Type 0
UnlessMemory Memory P = Unit {0}
UnlessMemory _ P = P

-- What is answered is the outcome, unless memory runs out.
abbrev pub Gives : {X Y : Type 0} → (X → Y) → Result X CheckFault → Outcome Y → Type 0
Gives view (Ok x) outcome = outcome ≡ Ok (view x)
Gives view (Err f) outcome = UnlessMemory f (outcome ≡ Err f)

-- The fault that counts of those that stand: that of the least item, and of those of that item the least number.
pub record IsLeast (Stands : CheckFault → Type 0) (g : CheckFault) : Type 0 where
  pub stands : Stands g
  pub least : (h : CheckFault) → Stands h → IsTrue (is_before g h)

-- A fault that is answered: want of memory, or the fault that counts of those that stand. Where it can't be known none stands.
abbrev pub Settles : (CheckFault → Type 0) → CheckFault → Type 0
Settles Stands Memory = Unit {0}
Settles Stands Unknown = (g : CheckFault) → Stands g → ⊥
Settles Stands g = IsLeast Stands g

-- what holds is answered, unless memory runs out
abbrev pub IsAnswered : {A : Type 0} → A → Result A CheckFault → Type 0
IsAnswered x r = (r ≡ Ok x) ⊎ (r ≡ Err Memory)

-- the same of an answer that stands for it
abbrev pub IsAnsweredAs : {X A : Type 0} → (X → A) → A → Result X CheckFault → Type 0
IsAnsweredAs view x (Ok y) = view y ≡ x
IsAnsweredAs view x (Err g) = g ≡ Memory
