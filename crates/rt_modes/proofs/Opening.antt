-- A text at its beginning.
use Rattle.std.proofs.Common.{◌≡◌, List}
use Rattle.std.proofs.lemmas.List.{append-nil}
use Rattle.rt_modes.specs.declared.mode.ModeTable.{ModeTable}
use Rattle.rt_modes.specs.declared.pieces.Pieces.{Pieces}
use Rattle.rt_modes.specs.FullMode.{Word, spelled, full_text}
use Rattle.rt_modes.specs.Left.{IsEmpty, begun}
use Rattle.rt_modes.proofs.Closing.{whole}

-- where nothing else is to come, words have their text with the records that they reach
pub opens : (p : Pieces) (t : ModeTable) (ws : List Word) → IsEmpty p t → spelled p.table.now (begun p ws) ≡ full_text t ws
opens p t ws e = rw (e.table, e.todo, e.order, e.place, append-nil ws) (whole t ws)
