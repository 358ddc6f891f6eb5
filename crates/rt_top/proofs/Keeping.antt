-- Files of other names than those that are written stay as they were.
use Rattle.std.proofs.Common.{◌≡◌, ℕ, Bool, List, [], ◌∷◌, Option, Some, None, refl, sym, ◌∙◌, subst}
use Rattle.rt_outside.specs.Deeds.{Deed, Puts, Outside, Performed}
use Rattle.rt_outside.specs.Laws.{Both, Among, names_in}
use Rattle.rt_outside.proofs.Changes.{kept}
use Rattle.rt_outside.specs.Files.{Files, ChangesOnly}
use Rattle.rt_report.specs.declared.fault.FaultLine.{FaultLine}
use Rattle.rt_accept.specs.Calls.{Call, before, after, KeepsOthers, Says}
use Rattle.rt_accept.specs.FileEnds.{FileEnds}

abbrev Change : Type 1
Change = Files → Files → Type 0

both_map : (x y : Option Files) (P Q : Change) → ((f g : Files) → P f g → Q f g) → Both x y P → Both x y Q
both_map None y P Q go h = tt
both_map (Some f) None P Q go h = absurd h
both_map (Some f) (Some g) P Q go h = go f g h

both_same : (x y : Option Files) (P : Change) → y ≡ x → ((f : Files) → P f f) → Both x y P
both_same x y P e h = subst (λ (z : Option Files). Both x z P) (sym e) (alike x)
  where
    alike : (z : Option Files) → Both z z P
    alike None = tt
    alike (Some f) = h f

-- other names than these
abbrev pub Kept : List (List ℕ) → Change
Kept names f g = (n : List ℕ) → (Among names n → ⊥) → g n ≡ f n

-- from one moment to the next
pub kept_on : (names : List (List ℕ)) (x y z : Option Files) → Both x y (Kept names) → Both y z (Kept names) → Both x z (Kept names)
kept_on names None y z h k = tt
kept_on names (Some f) None z h k = absurd h
kept_on names (Some f) (Some g) None h k = absurd k
kept_on names (Some f) (Some g) (Some e) h k = λ n free. k n free ∙ h n free

pub deeds_keep : (names : List (List ℕ)) (ds : List Deed) (a b : Outside) (all : Bool) → ((n : List ℕ) → Among (names_in ds) n → Among names n) → Performed ds a b all → Both a.files b.files (Kept names)
deeds_keep names ds a b all among h = both_map a.files b.files (Kept (names_in ds)) (Kept names) (λ f g k n free. k n (λ e. free (among n e))) (kept ds a b all h)

pub one_keeps : (name : List ℕ) (names : List (List ℕ)) (x y : Option Files) → Among names name → ChangesOnly name x y → Both x y (Kept names)
one_keeps name names None y among k = tt
one_keeps name names (Some f) None among k = absurd k
one_keeps name names (Some f) (Some g) among k = λ n free. k n (λ same. free (subst (Among names) (sym same) among))

pub same_keeps : (names : List (List ℕ)) (x y : Option Files) → y ≡ x → Both x y (Kept names)
same_keeps names x y e = both_same x y (Kept names) e (λ f n free. refl)

module _ (c : Call) (names : List (List ℕ)) where
  pub no_file : c.files_after ≡ c.files → KeepsOthers names c
  no_file e = same_keeps names c.files c.files_after e

  -- deeds that write no other files, from a moment at which the files were as before
  pub by_deeds : (ds : List Deed) (m : Outside) (all : Bool) → ((n : List ℕ) → Among (names_in ds) n → Among names n) → m.files ≡ c.files → Performed ds m (after c) all → KeepsOthers names c
  by_deeds ds m all among e h =
      subst (λ (x : Option Files). Both x c.files_after (Kept names)) e
      (deeds_keep names ds m (after c) all among h)

  pub by_words : (text : List ℕ) (n status : ℕ) → Says text n c status → KeepsOthers names c
  by_words text n status h = by_deeds (Puts text ∷ []) (before c) h.tells.all (λ m no. absurd no) refl h.tells.performed

  -- a command that puts a fault line where a file isn't accepted
  pub file_kept : (IsInTurn : List ℕ → Type 0) (Refuses : FaultLine → Type 0) (IsCarried : ℕ → Type 0) → ((status : ℕ) → IsCarried status → KeepsOthers names c) → (status : ℕ) → FileEnds IsInTurn Refuses IsCarried c status → KeepsOthers names c
  file_kept IsInTurn Refuses IsCarried by_carried status (FileEnds.no_memory h) = no_file h.files
  file_kept IsInTurn Refuses IsCarried by_carried status (FileEnds.refused h k) = by_words _ _ status k
  file_kept IsInTurn Refuses IsCarried by_carried status (FileEnds.unread turn rose k) = by_words _ _ status k
  file_kept IsInTurn Refuses IsCarried by_carried status (FileEnds.accepted h) = by_carried status h
