use Rattle.std.proofs.Common.{None, refl, length, arith}
use Rattle.std.proofs.Math.Path.{fun_ext}
use Rattle.rt_pieces.specs.Begins.{found_piece}
use Rattle.rt_pieces.specs.Steps.{cuts_of}
use Rattle.rt_pieces.proofs.Cuts.{cuts_cut, cuts_only}
use Rattle.rt_items.specs.Reading.{state_of}
use Rattle.rt_items.specs.Table.{lets_of}
use Rattle.rt_items.proofs.Expanding.{turn_goes, turn_fails}
use Rattle.rt_items.proofs.Readings.{begins, ends_clean, ends_badly}
use Rattle.rt_items.proofs.read.read.Goals as goal

pub loop-state-init : goal.loop-state-init
loop-state-init c = (
  begins c.args.bytes.now (length c.args.bytes.now) c.in_ok-out.out (lets_of c.empty_table-table.result) refl c.in_ok-out.ensures (fun_ext c.empty_table-table.ensures),
  record { first = omega arith; last = omega arith },
  c.requires,
)

pub returns-in-End : goal.returns-in-End
returns-in-End c = ends_clean _ c.loop-state.out _ c.loop-state.table.text c.loop-state.state (lets_of c.loop-state.table) c.loop-state.invariant.0 c.finish.result (cuts_only c.in-End.ensures) c.finish.ensures

pub returns-in-Fault : goal.returns-in-Fault
returns-in-Fault c = ends_badly _ c.loop-state.out _ c.loop-state.table.text c.loop-state.state (lets_of c.loop-state.table) c.loop-state.invariant.0 c.in-Fault.fault (cuts_only c.in-Fault.ensures)

pub returns-in-Err : goal.returns-in-Err
returns-in-Err c =
    let total = length c.args.bytes.now in
    let next = c.in-Piece.next in
    turn_fails _ c.loop-state.out _ (found_piece c.in-Piece.found) (cuts_of total None next.line next.bytes.now) (state_of c.loop-state.table.text c.loop-state.state) (lets_of c.loop-state.table) c.loop-state.invariant.0
    (cuts_only (c.in-Piece.ensures.cut _ _ (cuts_cut total None next.line next.bytes.now))) c.in-Err.fault c.add_piece.new.table c.add_piece.new.out c.in-Err.ensures

pub loop-state-preserved : goal.loop-state-preserved
loop-state-preserved c =
    let total = length c.args.bytes.now in
    let next = c.in-Piece.next in (
      turn_goes _ c.loop-state.out _ (found_piece c.in-Piece.found) (cuts_of total None next.line next.bytes.now) (state_of c.loop-state.table.text c.loop-state.state) (lets_of c.loop-state.table) c.loop-state.invariant.0
          (cuts_only (c.in-Piece.ensures.cut _ _ (cuts_cut total None next.line next.bytes.now))) c.in-Ok.after c.add_piece.new.table c.add_piece.new.out c.in-Ok.ensures,
      c.in-Piece.ensures.inside,
      c.loop-state.invariant.2,
    )
