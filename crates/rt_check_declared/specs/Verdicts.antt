-- What a node is where it is fit, or else the faults that stand in it.
use Rattle.std.specs.Prelude.{◌≡◌, ◌⊎◌, Option, Some, None, List, [], ◌∷◌, ◌++◌, Result, Ok, Err}
use Rattle.rt_check_faults.specs.declared.fault.CheckFault.{CheckFault}
use Rattle.rt_check_faults.specs.Outcomes.{Outcome, sooner, Gives, IsLeast}

-- A fit node is something; in an unfit one a fault stands, and perhaps others.
pub data Verdict (A : Type 0) : Type 0 where
  fit : A → Verdict A
  unfit : CheckFault → List CheckFault → Verdict A

-- all faults that stand
abbrev pub faults_of : {A : Type 0} → Verdict A → List CheckFault
faults_of (fit a) = []
faults_of (unfit f fs) = f ∷ fs

-- A node that holds an unfit one isn't judged itself.
infixl 10 ◌>>=◌
abbrev pub ◌>>=◌ : {A B : Type 0} → Verdict A → (A → Verdict B) → Verdict B
fit a >>= q = q a
unfit f fs >>= q = unfit f fs

-- two that are judged apart
abbrev pub both : {A B : Type 0} → Verdict A → Verdict B → Verdict (A × B)
both (fit a) (fit b) = fit (a, b)
both (fit a) (unfit g gs) = unfit g gs
both (unfit f fs) (fit b) = unfit f fs
both (unfit f fs) (unfit g gs) = unfit f (fs ++ g ∷ gs)

-- one more, judged apart from those before it
abbrev pub after : {A : Type 0} → Verdict (List A) → Verdict A → Verdict (List A)
after (fit xs) (fit b) = fit (xs ++ b ∷ [])
after (fit xs) (unfit g gs) = unfit g gs
after (unfit f fs) (fit b) = unfit f fs
after (unfit f fs) (unfit g gs) = unfit f (fs ++ g ∷ gs)

-- some that are judged apart, behind those before them
abbrev pub all_from : {A : Type 0} → Verdict (List A) → List (Verdict A) → Verdict (List A)
all_from so_far [] = so_far
all_from so_far (v ∷ vs) = all_from (after so_far v) vs

-- the fault that counts of some
abbrev pub first_of : CheckFault → List CheckFault → CheckFault
first_of f [] = f
first_of f (g ∷ gs) = sooner f (first_of g gs)

-- what is answered of a node, by the fault that counts
abbrev pub outcome : {A : Type 0} → Verdict A → Outcome A
outcome (fit a) = Ok a
outcome (unfit f fs) = Err (first_of f fs)

-- What is answered is what the node is, or the fault that counts, unless memory runs out.
abbrev pub Answers : {X Y : Type 0} → (X → Y) → Result X CheckFault → Verdict Y → Type 0
Answers view r v = Gives view r (outcome v)

-- a fault is among some
abbrev pub IsIn : CheckFault → List CheckFault → Type 0
IsIn g [] = ⊥
IsIn g (f ∷ fs) = (g ≡ f) ⊎ IsIn g fs

-- it stands in the node
abbrev pub Stands : {A : Type 0} → Verdict A → CheckFault → Type 0
Stands v g = IsIn g (faults_of v)

-- ---- faults that are gathered

-- the fault that counts of those so far, if there are any, and one more
abbrev pub with_fault : Option CheckFault → CheckFault → Option CheckFault
with_fault None f = Some f
with_fault (Some g) f = Some (sooner g f)

-- the same of some more
unfoldable pub with_faults : Option CheckFault → List CheckFault → Option CheckFault
with_faults so_far [] = so_far
with_faults so_far (f ∷ fs) = with_faults (with_fault so_far f) fs

-- What is gathered of some faults counts: none where there is none, else the one that counts of all.
abbrev pub GatheredCounts : List CheckFault → Option CheckFault → Type 0
GatheredCounts fs None = fs ≡ []
GatheredCounts fs (Some g) = IsLeast (λ h. IsIn h fs) g

abbrev pub GathersLeast : Type 0
GathersLeast = (fs : List CheckFault) → GatheredCounts fs (with_faults None fs)
