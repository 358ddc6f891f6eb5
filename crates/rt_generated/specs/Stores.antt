-- Three texts under their names, as files.
use Rattle.std.specs.Prelude.{◌≡◌, ℕ, Bool, true, false, List, [], ◌∷◌, string_bytes}
use Rattle.rt_outside.specs.Deeds.{Deed, Outside, IsDone, HasFailed}
use Rattle.rt_outside.specs.Files.{Files}
use Rattle.rt_outside.specs.Held.{first_of}
use Rattle.rt_generated.specs.declared.store.NamedText.{NamedText}
use Rattle.rt_generated.specs.declared.store.Texts.{Texts}
use Rattle.rt_generated.specs.Texts.{module_name, module_text, system_name, system_text, ticks_name, tick_text}

abbrev pub file_of : NamedText → List ℕ × List ℕ
file_of t = (string_bytes t.name, t.text)

abbrev pub files_in : Texts → Files
files_in t = first_of (file_of t.«module» ∷ file_of t.system ∷ file_of t.ticks ∷ [])

-- they are those of `gen N NAME`
pub record AreTexts (n : ℕ) (name : List ℕ) (t : Texts) : Type 0 where
  pub module_is : file_of t.«module» ≡ (module_name name, module_text n)
  pub system_is : file_of t.system ≡ (system_name name, system_text n name)
  pub ticks_is : file_of t.ticks ≡ (ticks_name name, tick_text)

-- the deed was done, or it failed
abbrev pub IsTried : Deed → Outside → Outside → Bool → Type 0
IsTried d a b true = IsDone d a b
IsTried d a b false = HasFailed d a b
