-- What `show OBJECT` is to do.
use Rattle.std.specs.Prelude.{◌≡◌, ℕ, List}
use Rattle.rt_commands.specs.Commands.{IsCommand}
use Rattle.rt_commands.specs.declared.command.Command.TheVariants as command
use Rattle.rt_report.specs.Listing.{IsListing}
use Rattle.rt_object.specs.declared.object.ObjectParts.{ObjectParts}
use Rattle.rt_accept.specs.Calls.{Call, Says}
use Rattle.rt_accept.specs.FileEnds.{FileEnds}
use Rattle.rt_accept.specs.Reading.{HasObject, RefusesObject}

abbrev pub IsShow : List (List ℕ) → List ℕ → Type 0
IsShow words name = IsCommand words (command.Show name)

-- the listing of the file's object is put
pub record IsShown (c : Call) (name : List ℕ) (status : ℕ) : Type 0 where
  pub object : ObjectParts
  pub has : HasObject c.files name object
  pub text : List ℕ
  pub listing : IsListing object text
  pub put : Says text 0 c status

abbrev pub ShowEnds : Call → List ℕ → ℕ → Type 0
ShowEnds c name = FileEnds (λ n. n ≡ name) (RefusesObject c.files name) (IsShown c name) c
