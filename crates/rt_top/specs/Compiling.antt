-- What `compile SOURCE OBJECT` is to do.
use Rattle.std.specs.Prelude.{◌≡◌, ℕ, List}
use Rattle.rt_commands.specs.Commands.{IsCommand}
use Rattle.rt_commands.specs.declared.command.Command.TheVariants as command
use Rattle.rt_outside.specs.Deeds.{Writes}
use Rattle.rt_object.specs.Grammar.{IsObject}
use Rattle.rt_object.specs.declared.object.ObjectParts.{ObjectParts}
use Rattle.rt_accept.specs.Calls.{Call, before, after, KeepsInput, Does}
use Rattle.rt_accept.specs.FileEnds.{FileEnds}
use Rattle.rt_accept.specs.Reading.{HasModule, RefusesModule}

-- what is asked: the names of the text and of the object
pub record Named : Type 0 where
  pub source : List ℕ
  pub object : List ℕ

abbrev pub named : List ℕ → List ℕ → Named
named source object = record { source = source; object = object }

abbrev pub IsCompile : List (List ℕ) → Named → Type 0
IsCompile words n = IsCommand words (command.Compile n.source n.object)

-- the one spelling of the object of the text is written, and nothing else is done
pub record IsCompiled (c : Call) (n : Named) (status : ℕ) : Type 0 where
  pub object : ObjectParts
  pub has : HasModule c.files n.source object
  pub bytes : List ℕ
  pub spelled : IsObject bytes object
  pub written : Does (Writes n.object bytes) 0 (before c) (after c) status
  pub input : KeepsInput c

abbrev pub CompileEnds : Call → Named → ℕ → Type 0
CompileEnds c n = FileEnds (λ m. m ≡ n.source) (RefusesModule c.files n.source) (IsCompiled c n) c
