-- What is answered of parts that are judged apart: what can be known of them, or a fault that stands.
use Rattle.std.proofs.Common.{◌≡◌, Bool, true, false, Option, Some, None, Ok, Err, ◌⊎◌, inl, inr, refl, sym, subst}
use Rattle.std.specs.Prelude.{if◌then◌else◌, not, ◌&&◌, ◌||◌}
use Rattle.rt_check_faults.specs.declared.fault.CheckFault.{CheckFault}
use Rattle.rt_check_faults.specs.declared.fault.CheckFault.TheVariants.{Memory, UnknownName, WrongMode, NotAssignable, WrongCount, RefOfLocal, LeftOut, DeclaredTwice, BadStart, UnknownLabel, NoResult, Unknown}
use Rattle.rt_check_faults.specs.Outcomes.{Outcome, ◌>>=◌, both, sooner, is_before, is_unknown, stands_before, or_other, pair_of, told, or_any}

-- H holds where it can't be known, and F of a fault that stands
pub data Bad (H : Type 0) (F : CheckFault → Type 0) : CheckFault → Type 0 where
  hid : H → Bad H F Unknown
  bad : {g : CheckFault} → is_unknown g ≡ false → F g → Bad H F g

-- T holds of what can be known of it, and F of a fault
abbrev pub Tells : {A : Type 0} → (Option A → Type 0) → (CheckFault → Type 0) → Outcome A → Type 0
Tells T F (Ok x) = T (Some x)
Tells T F (Err g) = Bad (T None) F g

pub is_it : (g : CheckFault) → is_unknown g ≡ true → g ≡ Unknown
is_it Memory e = absurd cc
is_it (UnknownName at) e = absurd cc
is_it (WrongMode at) e = absurd cc
is_it (NotAssignable at) e = absurd cc
is_it (WrongCount at) e = absurd cc
is_it (RefOfLocal at) e = absurd cc
is_it (LeftOut form at) e = absurd cc
is_it (DeclaredTwice at) e = absurd cc
is_it (BadStart at) e = absurd cc
is_it (UnknownLabel at) e = absurd cc
is_it (NoResult at) e = absurd cc
is_it Unknown e = refl

-- ---- the one of two that counts

goes_first : (u v b : Bool) → (v || (not u && b)) ≡ true → v ≡ false → u ≡ false
goes_first false v b e n = refl
goes_first true true b e n = absurd cc
goes_first true false b e n = absurd cc

-- what goes before a fault is one
pub real_before : (f g : CheckFault) → is_before f g ≡ true → is_unknown g ≡ false → is_unknown f ≡ false
real_before f g e n = goes_first (is_unknown f) (is_unknown g) (stands_before f g) e n

real_by : (f g : CheckFault) (c : Bool) → is_before f g ≡ c → is_unknown g ≡ false → is_unknown (if c then f else g) ≡ false
real_by f g true e n = real_before f g e n
real_by f g false e n = n

pub real_right : (f g : CheckFault) → is_unknown g ≡ false → is_unknown (sooner f g) ≡ false
real_right f g n = real_by f g (is_before f g) refl n

real_if : (f g : CheckFault) (c : Bool) → is_before f g ≡ c → is_unknown f ≡ false → is_unknown (if c then f else g) ≡ false
real_if f g true e n = n
real_if f g false e n = behind (is_unknown g) refl where
  behind : (v : Bool) → is_unknown g ≡ v → is_unknown g ≡ false
  behind false is = is
  behind true is = absurd (let first : is_before f g ≡ true = rw is refl in cc)

pub real_left : (f g : CheckFault) → is_unknown f ≡ false → is_unknown (sooner f g) ≡ false
real_left f g n = real_if f g (is_before f g) refl n

pub unknown_first : (g : CheckFault) → is_unknown g ≡ false → sooner Unknown g ≡ g
unknown_first g n = rw n refl

chosen : (Q : CheckFault → Type 0) (f g : CheckFault) (c : Bool) → Q f → Q g → Q (if c then f else g)
chosen Q f g true x y = x
chosen Q f g false x y = y

pub joined : {H J K : Type 0} {F G Q : CheckFault → Type 0} → (H → J → K) → ((q : CheckFault) → F q → Q q) → ((q : CheckFault) → G q → Q q) → (f g : CheckFault) → Bad H F f → Bad J G g → Bad K Q (sooner f g)
joined hs fs gs _ _ (hid h) (hid j) = hid (hs h j)
joined {K = K} {Q = Q} hs fs gs _ g (hid h) (bad n y) = subst (λ (q : CheckFault). Bad K Q q) (sym (unknown_first g n)) (bad n (gs g y))
joined hs fs gs f _ (bad n x) (hid j) = bad n (fs f x)
joined {Q = Q} hs fs gs f g (bad n x) (bad m y) = bad (real_left f g n) (chosen Q f g (is_before f g) (fs f x) (gs g y))

-- ---- two that are judged apart

abbrev pub Pair : {A B : Type 0} → (Option A → Type 0) → (Option B → Type 0) → Option (A × B) → Type 0
Pair T U r = (o : Option _) × (p : Option _) × T o × U p × (pair_of o p ≡ r)

abbrev pub Either : (CheckFault → Type 0) → (CheckFault → Type 0) → CheckFault → Type 0
Either F G q = F q ⊎ G q

pub both_tells : {A B : Type 0} (T : Option A → Type 0) (U : Option B → Type 0) (F G : CheckFault → Type 0) (x : Outcome A) (y : Outcome B) → Tells T F x → Tells U G y → Tells (Pair T U) (Either F G) (both x y)
both_tells T U F G (Ok x) (Ok y) h k = (Some x, Some y, h, k, refl)
both_tells T U F G (Ok x) (Err _) h (hid k) = hid (Some x, None, h, k, refl)
both_tells T U F G (Ok x) (Err g) h (bad n k) = bad n (inr k)
both_tells T U F G (Err _) (Ok y) (hid h) k = hid (None, Some y, h, k, refl)
both_tells T U F G (Err f) (Ok y) (bad n h) k = bad n (inl h)
both_tells T U F G (Err f) (Err g) h k = joined (λ h k. (None, None, h, k, refl)) (λ q x. inl x) (λ q y. inr y) f g h k

-- ---- a thing or another

pub or_other_fault : {A : Type 0} (other : A) (known : Bool) (g : CheckFault) → is_unknown g ≡ false → or_other other known (Err g) ≡ Err g
or_other_fault other known Memory n = refl
or_other_fault other known (UnknownName at) n = refl
or_other_fault other known (WrongMode at) n = refl
or_other_fault other known (NotAssignable at) n = refl
or_other_fault other known (WrongCount at) n = refl
or_other_fault other known (RefOfLocal at) n = refl
or_other_fault other known (LeftOut form at) n = refl
or_other_fault other known (DeclaredTwice at) n = refl
or_other_fault other known (BadStart at) n = refl
or_other_fault other known (UnknownLabel at) n = refl
or_other_fault other known (NoResult at) n = refl
or_other_fault other known Unknown n = absurd cc

-- what is told of it, is told of what is made of it
pub or_other_tells : {A B : Type 0} (T : Option A → Type 0) (F G : CheckFault → Type 0) (U : Option B → Type 0) (other : A) (known : Bool) (make : A × Bool → B) → ((o : Option A) → T o → U (Some (make (or_any other known o))))
    → ((g : CheckFault) → F g → G g) → (t : Outcome A) → Tells T F t → Tells U G (or_other other known t >>= λ x. Ok (make x))
or_other_tells T F G U other known make holds faults (Ok x) h = holds (Some x) h
or_other_tells T F G U other known make holds faults (Err _) (hid h) = holds None h
or_other_tells T F G U other known make holds faults (Err g) (bad n h) = subst (λ (t : Outcome _). Tells U G (t >>= λ x. Ok (make x))) (sym (or_other_fault other known g n)) (bad n (faults g h))

-- an outcome that is known to be this
pub tells_told : {A : Type 0} (T : Option A → Type 0) (F : CheckFault → Type 0) (o : Option A) → T o → Tells T F (told o)
tells_told T F None h = hid h
tells_told T F (Some x) h = h
