-- What crates below give.
use Rattle.pdp_core_laws.specs.Laws.{OthersKeepTheirBytes}
use Rattle.rt_image.specs.declared.image.ImageParts.{ImageParts}
use Rattle.rt_image.specs.Laws.{LieInOrder, LieInMemory}
use Rattle.rt_image.specs.Ranges.{HasImageRanges}
use Rattle.rt_tasks.specs.Laws.{LieSideBySide}
use Rattle.rt_rules_laws.specs.Laws.{RunsAlive}
use Rattle.rt_meaning_laws.specs.SourceRuns.{SystemRunsFit}
use Rattle.rt_follows.specs.Laws.{TasksFollow}
use Rattle.rt_faithful.specs.Laws.{TasksOwnTheirParts, CodeIsOfNone, ServicesAreOfTheSource, WhatComesMayCome}

-- the laws of the crates below, and those of this one
pub record Given : Type 0 where
  pub fit : SystemRunsFit
  pub runs_alive : RunsAlive
  pub framed : OthersKeepTheirBytes
  pub in_order : (i : ImageParts) → HasImageRanges i → LieInOrder i
  pub in_memory : (i : ImageParts) → HasImageRanges i → LieInMemory i
  pub side_by_side : LieSideBySide
  pub follow : TasksFollow
  pub own : TasksOwnTheirParts
  pub code_own : CodeIsOfNone
  pub services : ServicesAreOfTheSource
  pub may_come : WhatComesMayCome
