-- What `link SYSTEM IMAGE MAP` is to do.
use Rattle.std.specs.Prelude.{◌≡◌, ℕ, List, [], ◌∷◌, Option}
use Rattle.rt_commands.specs.Commands.{IsCommand}
use Rattle.rt_commands.specs.declared.command.Command.TheVariants as command
use Rattle.rt_outside.specs.Deeds.{Writes}
use Rattle.rt_image.specs.declared.image.ImageParts.{ImageParts}
use Rattle.rt_image.specs.declared.map.Map.{Map}
use Rattle.rt_image.specs.Grammar.{IsImage}
use Rattle.rt_link.specs.Linked.{IsLinked}
use Rattle.rt_object.specs.declared.object.ObjectParts.{ObjectParts}
use Rattle.rt_outside.specs.Files.{Files}
use Rattle.rt_report.specs.Maps.{map_text}
use Rattle.rt_system.specs.declared.parts.SystemParts.{SystemParts}
use Rattle.rt_accept.specs.Calls.{Call, before, after, KeepsInput, DoesAll}
use Rattle.rt_accept.specs.FileEnds.{FileEnds}
use Rattle.rt_top.specs.declared.linking.Made.{Made}
use Rattle.rt_accept.specs.declared.reading.Unaccepted.{Unaccepted}
use Rattle.rt_accept.specs.declared.reading.Unaccepted.TheVariants.{Memory, Refused, Failed}
use Rattle.rt_accept.specs.Systems.{HasModules, IsInTurn}
use Rattle.rt_accept.specs.Verdicts.{RefusesVerdict, RefusesSystems}

-- what is asked: the names of the system text, of the image and of the map
pub record LinkNames : Type 0 where
  pub system : List ℕ
  pub image : List ℕ
  pub map : List ℕ

abbrev pub link_names : List ℕ → List ℕ → List ℕ → LinkNames
link_names system image map = record { system = system; image = image; map = map }

abbrev pub IsLink : List (List ℕ) → LinkNames → Type 0
IsLink words n = IsCommand words (command.Link n.system n.image n.map)

-- the spelling of the image of a system, and the text of its map
pub record AreMade (s : SystemParts) (objects : List ObjectParts) (m : Made) : Type 0 where
  pub image : ImageParts
  pub map : Map
  pub linked : IsLinked objects s.tasks image map
  pub spelled : IsImage m.image image
  pub told : m.map ≡ map_text map

-- they are those of the system that a file has
pub record AreLinked (files : Option Files) (system : List ℕ) (m : Made) : Type 0 where
  pub parts : SystemParts
  pub objects : List ObjectParts
  pub has : HasModules files system parts objects
  pub made : AreMade parts objects m

-- why a system that was read isn't linked: by its verdict's fault line, unless memory was wanted
abbrev pub IsUnlinked : SystemParts → List ObjectParts → Unaccepted → Type 0
IsUnlinked s objects Memory = Unit {0}
IsUnlinked s objects (Refused f) = RefusesVerdict s objects f
IsUnlinked s objects (Failed f) = ⊥

-- the image is written, and then the map, and nothing else is done; where both have one name, the map stands there
pub record IsLinkedNow (c : Call) (n : LinkNames) (status : ℕ) : Type 0 where
  pub made : Made
  pub are : AreLinked c.files n.system made
  pub written : DoesAll (Writes n.image made.image ∷ Writes n.map made.map ∷ []) 0 (before c) (after c) status
  pub input : KeepsInput c

abbrev pub LinkEnds : Call → LinkNames → ℕ → Type 0
LinkEnds c n = FileEnds (IsInTurn c.files n.system) (RefusesSystems c.files n.system) (IsLinkedNow c n) c
