-- Three texts that are written one after another.
use Rattle.std.proofs.Common.{◌≡◌, ℕ, Bool, true, false, List, [], ◌∷◌, Option, Some, Result, Ok, Err, ap, subst}
use Rattle.std.specs.Prelude.{OnOk, IsErr}
use Rattle.rt_outside.specs.Files.{Files}
use Rattle.rt_outside.specs.Deeds.{Deed, Writes, Outside, Performed, done, failed, nothing}
use Rattle.rt_generated.specs.declared.store.Texts.{Texts}
use Rattle.rt_generated.specs.Stores.{file_of, files_in, AreTexts, IsTried}
use Rattle.rt_generated.specs.Texts.{module_name, module_text, system_name, system_text, writes_of}

abbrev pub moment : Option Files → (List ℕ → ℕ) → Option (List ℕ) → ℕ → Outside
moment files writes written faults = record { files = files; writes = writes; written = written; faults = faults }

-- the deed of a text, by its name and its bytes
abbrev deed : List ℕ × List ℕ → Deed
deed f = Writes f.0 f.1

module _ (n : ℕ) (name : List ℕ) (t : Texts) (are : AreTexts n name t) where
  as_deeds : (a b : Outside) (all : Bool) → Performed (deed (file_of t.«module») ∷ deed (file_of t.system) ∷ deed (file_of t.ticks) ∷ []) a b all → Performed (writes_of n name) a b all
  as_deeds a b all h =
      subst (λ (f : List ℕ × List ℕ). Performed (deed (module_name name, module_text n) ∷ deed (system_name name, system_text n name) ∷ deed f ∷ []) a b all) are.ticks_is
      (subst (λ (f : List ℕ × List ℕ). Performed (deed (module_name name, module_text n) ∷ deed f ∷ deed (file_of t.ticks) ∷ []) a b all) are.system_is
      (subst (λ (f : List ℕ × List ℕ). Performed (deed f ∷ deed (file_of t.system) ∷ deed (file_of t.ticks) ∷ []) a b all) are.module_is h))

  as_is : (d : Deed) (a b : Outside) (all is : Bool) → all ≡ is → IsTried d a b all → IsTried d a b is
  as_is d a b all is e h = subst (IsTried d a b) e h

  pub first_failed : (a b : Outside) (one : Bool) → one ≡ false → IsTried (deed (file_of t.«module»)) a b one → Performed (writes_of n name) a b false
  first_failed a b one e h = as_deeds a b false (failed (as_is (deed (file_of t.«module»)) a b one false e h))

  pub second_failed : (a b c : Outside) (one two : Bool) → one ≡ true → IsTried (deed (file_of t.«module»)) a b one → two ≡ false → IsTried (deed (file_of t.system)) b c two → Performed (writes_of n name) a c false
  second_failed a b c one two e h f k = as_deeds a c false (done (as_is (deed (file_of t.«module»)) a b one true e h) (failed (as_is (deed (file_of t.system)) b c two false f k)))

  last : (d : Deed) (a b : Outside) (all : Bool) → IsTried d a b all → Performed (d ∷ []) a b all
  last d a b true h = done h nothing
  last d a b false h = failed h

  pub third_tried : (a b c d : Outside) (one two all : Bool) → one ≡ true → IsTried (deed (file_of t.«module»)) a b one → two ≡ true → IsTried (deed (file_of t.system)) b c two → IsTried (deed (file_of t.ticks)) c d all → Performed (writes_of n name) a d all
  third_tried a b c d one two all e h f k l = as_deeds a d all (done (as_is (deed (file_of t.«module»)) a b one true e h) (done (as_is (deed (file_of t.system)) b c two true f k) (last (deed (file_of t.ticks)) c d all l)))

-- ---- the store

pub same_files : (t u : Texts) → t ≡ u → ◌≡◌ {A = Option Files} (Some (files_in t)) (Some (files_in u))
same_files t u e = ap (λ (x : Texts). Some (files_in x)) e

pub none_done : {A E : Type 0} (r : Result A E) (P : Type 0) → IsErr r → OnOk r P
none_done (Ok x) P h = absurd cc
none_done (Err e) P h = tt
