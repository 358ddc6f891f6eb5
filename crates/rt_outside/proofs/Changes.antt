-- Which files and counts change.
use Rattle.std.proofs.Common.{◌≡◌, ◌≢◌, inl, inr, ℕ, ◌≤◌, Bool, true, false, if◌then◌else◌, List, [], ◌∷◌, Option, Some, None, refl, sym, ap, ◌∙◌, subst, arith}
use Rattle.std.specs.Str.{bytes_eq}
use Rattle.std.proofs.lemmas.Slice.Eq.{bytes_eq-Decides}
use Rattle.std.specs.Io.KnownBytes.{Appends}
use Rattle.rt_words.specs.Causes.{Rose}
use Rattle.rt_outside.specs.Appending.{AppendsStart}
use Rattle.rt_outside.specs.Files.{Files, WhereTold, Has, ChangesOnly}
use Rattle.rt_outside.specs.Deeds.{Deed, Writes, Puts, Outside, IsLater, IsDone, HasFailed, Performed, nothing, done, failed}
use Rattle.rt_outside.specs.Laws.{Both, Among, with_file, applied, names_in, IsEarlier}

-- ---- counts

one_later : (d : Deed) (a b : Outside) → IsDone d a b → IsLater a b
one_later (Writes name bytes) a b h = h.3
one_later (Puts bytes) a b h = h.2

failed_later : (d : Deed) (a b : Outside) → HasFailed d a b → IsLater a b
failed_later (Writes name bytes) a b h = h.3
failed_later (Puts bytes) a b h = h.3

pub two_later : (a b c : Outside) → IsLater a b → IsLater b c → IsLater a c
two_later a b c h k = record { writes = λ n. omega (arith, h.writes n, k.writes n); faults = omega (arith, h.faults, k.faults) }

pub later : (ds : List Deed) (a b : Outside) (all : Bool) → Performed ds a b all → IsLater a b
later [] a b all nothing = record { writes = λ n. omega arith; faults = omega arith }
later (d ∷ ds) a c all (done {b = b} h k) = two_later a b c (one_later d a b h) (later ds b c all k)
later (d ∷ ds) a b all (failed h) = failed_later d a b h

-- ---- files before and after

abbrev Change : Type 1
Change = Files → Files → Type 0

both_same : (x y : Option Files) (P : Change) → y ≡ x → ((f : Files) → P f f) → Both x y P
both_same x y P e h = subst (λ (z : Option Files). Both x z P) (sym e) (alike x)
  where
    alike : (z : Option Files) → Both z z P
    alike None = tt
    alike (Some f) = h f

both_onward : (x y z : Option Files) (P Q R : Change) → ((f g h : Files) → P f g → Q g h → R f h) → Both x y P → Both y z Q → Both x z R
both_onward None y z P Q R go p q = tt
both_onward (Some f) None z P Q R go p q = absurd p
both_onward (Some f) (Some g) None P Q R go p q = absurd q
both_onward (Some f) (Some g) (Some h) P Q R go p q = go f g h p q

-- all but one are kept
both_only : (name : List ℕ) (x y : Option Files) → ChangesOnly name x y → Both x y (λ f g. (n : List ℕ) → n ≢ name → g n ≡ f n)
both_only name None y h = tt
both_only name (Some f) None h = absurd h
both_only name (Some f) (Some g) h = h

-- and that one has these bytes
both_with : (name bytes : List ℕ) (x y : Option Files) → WhereTold y (Has name bytes) → ChangesOnly name x y → Both x y (λ f g. (n : List ℕ) → g n ≡ with_file name bytes f n)
both_with name bytes None y w h = tt
both_with name bytes (Some f) None w h = absurd h
both_with name bytes (Some f) (Some g) w h = λ n. by n (bytes_eq n name) refl
  where
    by : (n : List ℕ) (b : Bool) → bytes_eq n name ≡ b → g n ≡ (if b then Some bytes else f n)
    by n true e = ap g ((bytes_eq-Decides n name).0 e) ∙ w
    by n false e = h n (λ same. let t = (bytes_eq-Decides n name).1 same in let no : true ≡ false = sym t ∙ e in cc)

-- ---- other names

abbrev Keeping : List Deed → Change
Keeping ds f g = (n : List ℕ) → (Among (names_in ds) n → ⊥) → g n ≡ f n

no_change : (ds : List Deed) (x y : Option Files) → y ≡ x → Both x y (Keeping ds)
no_change ds x y e = both_same x y (Keeping ds) e (λ f n free. refl)

pub kept : (ds : List Deed) (a b : Outside) (all : Bool) → Performed ds a b all → Both a.files b.files (Keeping ds)
kept [] a b all nothing = no_change [] a.files a.files refl
kept (Writes name bytes ∷ ds) a c all (done {b = b} h k) =
    both_onward a.files b.files c.files (λ f g. (n : List ℕ) → n ≢ name → g n ≡ f n) (Keeping ds) (Keeping (Writes name bytes ∷ ds))
    (λ f g i p q n free. q n (λ among. free (inr among)) ∙ p n (λ same. free (inl same)))
    (both_only name a.files b.files h.1) (kept ds b c all k)
kept (Puts bytes ∷ ds) a c all (done {b = b} h k) =
    both_onward a.files b.files c.files (Keeping []) (Keeping ds) (Keeping (Puts bytes ∷ ds)) (λ f g i p q n free. q n free ∙ p n (λ no. no))
    (no_change [] a.files b.files h.1) (kept ds b c all k)
kept (Writes name bytes ∷ ds) a b all (failed h) =
    both_onward a.files b.files b.files (λ f g. (n : List ℕ) → n ≢ name → g n ≡ f n) (Keeping []) (Keeping (Writes name bytes ∷ ds))
    (λ f g i p q n free. q n (λ no. no) ∙ p n (λ same. free (inl same)))
    (both_only name a.files b.files h.1) (no_change [] b.files b.files refl)
kept (Puts bytes ∷ ds) a b all (failed h) = no_change (Puts bytes ∷ ds) a.files b.files h.2

-- ---- all deeds done

abbrev Applying : List Deed → Change
Applying ds f g = (n : List ℕ) → g n ≡ applied ds f n

same_applied : (ds : List Deed) (f g : Files) → ((n : List ℕ) → f n ≡ g n) → (n : List ℕ) → applied ds f n ≡ applied ds g n
same_applied [] f g e n = e n
same_applied (Writes name bytes ∷ ds) f g e n = same_applied ds (with_file name bytes f) (with_file name bytes g) (λ m. by m (bytes_eq m name)) n
  where
    by : (m : List ℕ) (b : Bool) → (if b then Some bytes else f m) ≡ (if b then Some bytes else g m)
    by m true = refl
    by m false = e m
same_applied (Puts bytes ∷ ds) f g e n = same_applied ds f g e n

applied_by : (all : Bool) (ds : List Deed) (a b : Outside) → all ≡ true → Performed ds a b all → Both a.files b.files (Applying ds)
applied_by all [] a b e nothing = both_same a.files a.files (Applying []) refl (λ f n. refl)
applied_by all (Writes name bytes ∷ ds) a c e (done {b = b} h k) =
    both_onward a.files b.files c.files (λ f g. (n : List ℕ) → g n ≡ with_file name bytes f n) (Applying ds) (Applying (Writes name bytes ∷ ds))
    (λ f g i p q n. q n ∙ same_applied ds g (with_file name bytes f) p n)
    (both_with name bytes a.files b.files h.0 h.1) (applied_by all ds b c e k)
applied_by all (Puts bytes ∷ ds) a c e (done {b = b} h k) =
    both_onward a.files b.files c.files (λ f g. (n : List ℕ) → g n ≡ f n) (Applying ds) (Applying (Puts bytes ∷ ds))
    (λ f g i p q n. q n ∙ same_applied ds g f p n)
    (both_same a.files b.files (λ f g. (n : List ℕ) → g n ≡ f n) h.1 (λ f n. refl)) (applied_by all ds b c e k)
applied_by all (d ∷ ds) a b e (failed h) = absurd cc

pub all_applied : (ds : List Deed) (a b : Outside) → Performed ds a b true → Both a.files b.files (Applying ds)
all_applied ds a b h = applied_by true ds a b refl h

-- ---- earlier moments

rose_earlier : (a b c : ℕ) → a ≤ b → Rose b c → Rose a c
rose_earlier a b c h k = omega (arith, h, k)

one_earlier : (d : Deed) (a b c : Outside) → IsEarlier a b → IsDone d b c → IsDone d a c
one_earlier (Writes name bytes) a b c e h =
    (h.0, subst (λ (f : Option Files). ChangesOnly name f c.files) (sym e.files) h.1, h.2 ∙ sym e.written, two_later a b c e.later h.3)
one_earlier (Puts bytes) a b c e h =
    (subst (λ (w : Option (List ℕ)). Appends w c.written bytes) (sym e.written) h.0, h.1 ∙ sym e.files, two_later a b c e.later h.2)

failed_earlier : (d : Deed) (a b c : Outside) → IsEarlier a b → HasFailed d b c → HasFailed d a c
failed_earlier (Writes name bytes) a b c e h =
    (rose_earlier (a.writes name) (b.writes name) (c.writes name) (e.later.writes name) h.0, subst (λ (f : Option Files). ChangesOnly name f c.files) (sym e.files) h.1, h.2 ∙ sym e.written, two_later a b c e.later h.3)
failed_earlier (Puts bytes) a b c e h =
    (rose_earlier a.faults b.faults c.faults e.later.faults h.0, subst (λ (w : Option (List ℕ)). AppendsStart w c.written bytes) (sym e.written) h.1, h.2 ∙ sym e.files, two_later a b c e.later h.3)

pub earlier : (d : Deed) (ds : List Deed) (a b c : Outside) (all : Bool) → IsEarlier a b → Performed (d ∷ ds) b c all → Performed (d ∷ ds) a c all
earlier d ds a b c all e (done {b = m} h k) = done (one_earlier d a b m e h) k
earlier d ds a b c all e (failed h) = failed (failed_earlier d a b c e h)
