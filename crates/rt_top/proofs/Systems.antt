-- Why systems aren't accepted: what is said of the modules, and of the verdict, as what is said of the system.
use Rattle.std.proofs.Common.{ℕ, List, Option, Result, Ok, Err, IfErr}
use Rattle.rt_object.specs.declared.object.ObjectParts.{ObjectParts}
use Rattle.rt_outside.specs.Files.{Files}
use Rattle.rt_system.specs.declared.parts.SystemParts.{SystemParts}
use Rattle.rt_accept.specs.declared.reading.Unaccepted.{Unaccepted}
use Rattle.rt_accept.specs.declared.reading.Unaccepted.TheVariants.{Memory, Refused, Failed}
use Rattle.rt_accept.specs.Reading.{IsDeclined}
use Rattle.rt_accept.specs.Systems.{HasModules, IsInTurn, RefusesModules}
use Rattle.rt_accept.specs.Verdicts.{RefusesSystems}
use Rattle.rt_top.specs.Linking.{IsUnlinked}

module _ (files : Option Files) (name : List ℕ) (reads reads2 : List ℕ → ℕ) where
  abbrev Declined : Unaccepted → Type 0
  Declined = IsDeclined (IsInTurn files name) (RefusesSystems files name) reads reads2

  -- the modules aren't accepted
  pub by_modules : (u : Unaccepted) → IsDeclined (IsInTurn files name) (RefusesModules files name) reads reads2 u → Declined u
  by_modules Memory h = tt
  by_modules (Refused f) h = RefusesSystems.in_modules h
  by_modules (Failed f) h = h

  by_verdict : (s : SystemParts) (objects : List ObjectParts) (u : Unaccepted) → HasModules files name s objects → IsUnlinked s objects u → Declined u
  by_verdict s objects Memory has h = tt
  by_verdict s objects (Refused f) has h = RefusesSystems.in_verdict has h
  by_verdict s objects (Failed f) has h = absurd h

  -- they are, but the system isn't linked
  pub if_verdict : {A : Type 0} (s : SystemParts) (objects : List ObjectParts) (r : Result A Unaccepted) → HasModules files name s objects → IfErr r (IsUnlinked s objects) → IfErr r Declined
  if_verdict s objects (Ok a) has h = tt
  if_verdict s objects (Err u) has h = by_verdict s objects u has h
