-- Outcomes that are joined.
use Rattle.std.proofs.Common.{◌≡◌, ℕ, ◌==◌, ◌&&◌, ◌||◌, Bool, true, false, not, List, Result, Ok, Err, ◌⊎◌, inl, inr, arith, lit<, refl, sym, ap, ◌∙◌, subst}
use Rattle.std.proofs.lemmas.Bool.Decides.{nat_tests}
use Rattle.std.specs.Prelude.{◌<◌, nat_lt, nat_le}
use Rattle.rt_check_faults.specs.declared.fault.CheckFault.{CheckFault}
use Rattle.rt_check_faults.specs.declared.fault.CheckFault.TheVariants.{Memory, UnknownName, WrongMode, NotAssignable, WrongCount, RefOfLocal, LeftOut, DeclaredTwice, BadStart, UnknownLabel, NoResult, Unknown}
use Rattle.rt_check_faults.specs.Outcomes.{Outcome, Gives, both, after, earlier, sooner, is_before, is_unknown, item_of, number_of, fault_of, UnlessMemory}
use Rattle.rt_check_faults.proofs.Counting.{choose_no, choose_yes}

pub given : (f : CheckFault) (P : Type 0) → P → UnlessMemory f P
given Memory P h = tt
given (UnknownName at) P h = h
given (WrongMode at) P h = h
given (NotAssignable at) P h = h
given (WrongCount at) P h = h
given (RefOfLocal at) P h = h
given (LeftOut form at) P h = h
given (DeclaredTwice at) P h = h
given (BadStart at) P h = h
given (UnknownLabel at) P h = h
given (NoResult at) P h = h
given Unknown P h = h

pub told : (f : CheckFault) (P : Type 0) → UnlessMemory f P → (f ≡ Memory) ⊎ P
told Memory P h = inl refl
told (UnknownName at) P h = inr h
told (WrongMode at) P h = inr h
told (NotAssignable at) P h = inr h
told (WrongCount at) P h = inr h
told (RefOfLocal at) P h = inr h
told (LeftOut form at) P h = inr h
told (DeclaredTwice at) P h = inr h
told (BadStart at) P h = inr h
told (UnknownLabel at) P h = inr h
told (NoResult at) P h = inr h
told Unknown P h = inr h

-- want of memory goes before every fault
before_memory : (u : Bool) (n k : ℕ) → 0 < k → (not u && (nat_lt n 0 || (n == 0 && nat_le k 0))) ≡ false
before_memory true n k h = refl
before_memory false n k h = grind (arith, nat_tests)

memory_before : (u : Bool) (n k : ℕ) → (u || (nat_lt 0 n || (0 == n && nat_le 0 k))) ≡ true
memory_before true n k = refl
memory_before false n k = grind (arith, nat_tests)

later : (f : CheckFault) → 0 < number_of f → is_before f Memory ≡ false
later f h = before_memory (is_unknown f) (item_of f) (number_of f) h

counts : (f : CheckFault) → (f ≡ Memory) ⊎ (is_before f Memory ≡ false)
counts Memory = inl refl
counts (UnknownName at) = inr (later (UnknownName at) (lit< tt))
counts (WrongMode at) = inr (later (WrongMode at) (lit< tt))
counts (NotAssignable at) = inr (later (NotAssignable at) (lit< tt))
counts (WrongCount at) = inr (later (WrongCount at) (lit< tt))
counts (RefOfLocal at) = inr (later (RefOfLocal at) (lit< tt))
counts (LeftOut form at) = inr (later (LeftOut form at) (lit< tt))
counts (DeclaredTwice at) = inr (later (DeclaredTwice at) (lit< tt))
counts (BadStart at) = inr (later (BadStart at) (lit< tt))
counts (UnknownLabel at) = inr (later (UnknownLabel at) (lit< tt))
counts (NoResult at) = inr (later (NoResult at) (lit< tt))
counts Unknown = inr refl

pub sooner_right : (f : CheckFault) → sooner f Memory ≡ Memory
sooner_right f = elim (counts f) [
  | inl e ↦ rw e refl
  | inr h ↦ choose_no (is_before f Memory) f Memory h
]

pub sooner_left : (f : CheckFault) → sooner Memory f ≡ Memory
sooner_left f = choose_yes (is_before Memory f) Memory f (memory_before (is_unknown f) (item_of f) (number_of f))

pub free : (f : CheckFault) (P : Type 0) → f ≡ Memory → UnlessMemory f P
free f P e = subst (λ (g : CheckFault). UnlessMemory g P) (sym e) tt

pub earlier_left : {A : Type 0} (y : Outcome A) → earlier Memory y ≡ Memory
earlier_left (Ok y) = refl
earlier_left (Err g) = sooner_left g

-- a fault and what was judged apart from it
earlier_gives : {X Y Z : Type 0} (view : X → Y) (f : CheckFault) (next : Result X CheckFault) (y : Outcome Y) (whole : Outcome Z) → Gives view next y
    → whole ≡ Err (earlier f y) → UnlessMemory (earlier f next) (whole ≡ Err (earlier f next))
earlier_gives view f (Ok x) y whole h e = given f (whole ≡ Err f) (e ∙ ap (λ (o : Outcome _). Err (earlier f o)) h)
earlier_gives view f (Err g) y whole h e = elim (told g (y ≡ Err g) h) [
  | inl m ↦ free (sooner f g) (whole ≡ Err (sooner f g)) (ap (sooner f) m ∙ sooner_right f)
  | inr s ↦ given (sooner f g) (whole ≡ Err (sooner f g)) (e ∙ ap (λ (o : Outcome _). Err (earlier f o)) s)
]

pub both_gives : {X Y A B : Type 0} (u : X → A) (v : Y → B) (left : Result X CheckFault) (right : Result Y CheckFault) (l : Outcome A) (r : Outcome B)
    → Gives u left l → Gives v right r → Gives (λ x. (u x.0, v x.1)) (both left right) (both l r)
both_gives u v (Ok x) (Ok y) l r h k = rw (h, k) refl
both_gives u v (Ok x) (Err g) l r h k = elim (told g (r ≡ Err g) k) [
  | inl m ↦ free g (both l r ≡ Err g) m
  | inr s ↦ given g (both l r ≡ Err g) (rw (h, s) refl)
]
both_gives u v (Err f) right l r h k = elim (told f (l ≡ Err f) h) [
  | inl m ↦ free (earlier f right) (both l r ≡ Err (earlier f right)) (ap (λ (g : CheckFault). earlier g right) m ∙ earlier_left right)
  | inr s ↦ earlier_gives v f right r (both l r) k (rw s refl)
]

pub after_gives : {X : Type 0} (so_far : Result (List X) CheckFault) (next : Result X CheckFault) (xs : Outcome (List X)) (x : Outcome X)
    → Gives (λ y. y) so_far xs → Gives (λ y. y) next x → Gives (λ y. y) (after so_far next) (after xs x)
after_gives (Ok ys) (Ok y) xs x h k = rw (h, k) refl
after_gives (Ok ys) (Err g) xs x h k = elim (told g (x ≡ Err g) k) [
  | inl m ↦ free g (after xs x ≡ Err g) m
  | inr s ↦ given g (after xs x ≡ Err g) (rw (h, s) refl)
]
after_gives {X = X} (Err f) next xs x h k = elim (told f (xs ≡ Err f) h) [
  | inl m ↦ free (earlier f next) (after xs x ≡ Err (earlier f next)) (ap (λ (g : CheckFault). earlier g next) m ∙ earlier_left next)
  | inr s ↦ earlier_gives (λ (y : X). y) f next x (after xs x) k (rw s refl)
]

pub both_err : {X Y A B : Type 0} (u : X → A) (v : Y → B) (f r : CheckFault) (left : Result X CheckFault) (right : Result Y CheckFault) → left ≡ Err f → r ≡ earlier f right → (l : Outcome A) (m : Outcome B)
    → Gives u left l → Gives v right m → UnlessMemory r (both l m ≡ Err r)
both_err u v f r left right e i l m h k =
    subst (λ (g : CheckFault). UnlessMemory g (both l m ≡ Err g)) (sym i) (both_gives u v (Err f) right l m (subst (λ (x : Result _ CheckFault). Gives u x l) e h) k)

pub after_err : {X : Type 0} (f r : CheckFault) (so_far : Result (List X) CheckFault) (next : Result X CheckFault) → so_far ≡ Err f → r ≡ earlier f next → (xs : Outcome (List X)) (x : Outcome X)
    → Gives (λ y. y) so_far xs → Gives (λ y. y) next x → UnlessMemory r (after xs x ≡ Err r)
after_err f r so_far next e i xs x h k =
    subst (λ (g : CheckFault). UnlessMemory g (after xs x ≡ Err g)) (sym i) (after_gives (Err f) next xs x (subst (λ (y : Result _ CheckFault). Gives (λ z. z) y xs) e h) k)

-- the fault that counts of two, each of which may be want of memory
pub sooner_told : (f g x y : CheckFault) → UnlessMemory f (f ≡ x) → UnlessMemory g (g ≡ y) → UnlessMemory (sooner f g) (sooner f g ≡ sooner x y)
sooner_told f g x y h k = elim (told f (f ≡ x) h) [
  | inl m ↦ free (sooner f g) (sooner f g ≡ sooner x y) (ap (λ (q : CheckFault). sooner q g) m ∙ sooner_left g)
  | inr e ↦ elim (told g (g ≡ y) k) [
    | inl m ↦ free (sooner f g) (sooner f g ≡ sooner x y) (ap (sooner f) m ∙ sooner_right f)
    | inr d ↦ given (sooner f g) (sooner f g ≡ sooner x y) (rw (e, d) refl)
  ]
]

-- the fault of an answer
pub fault_given : {X Y : Type 0} (view : X → Y) (f : CheckFault) (t : Outcome Y) → Gives view (Err f) t → UnlessMemory f (f ≡ fault_of t)
fault_given view f t h = elim (told f (t ≡ Err f) h) [
  | inl m ↦ free f (f ≡ fault_of t) m
  | inr e ↦ given f (f ≡ fault_of t) (rw e refl)
]
