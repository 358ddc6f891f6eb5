use Rattle.std.proofs.Common.{rules, ◌≡◌, ◌≤◌, Ok, Err, length, arith}
use Rattle.std.proofs.lemmas.Grind.{common_steps}
use Rattle.std.proofs.lemmas.Result.{err_from_is_err_and}
use Rattle.rt_system.specs.Lines.{lines}
use Rattle.rt_system.proofs.TickReads.{goes_on, finds_end, refuses, only_ticks, only_line, ranges}
use Rattle.rt_system.proofs.ticks.read_ticks.Goals as goal

pub loop-rest-preserved : goal.loop-rest-preserved
loop-rest-preserved c =
    let some : 1 ≤ length c.loop-rest.rest.now = first_of (search rules, grind (arith, common_steps)) in
    record {
      read = goes_on c.args.bytes.now c.loop-rest.rest.now c.first_line.result.0.now c.first_line.result.1.now c.loop-rest.number c.loop-rest.gaps c.add_line.new.gaps
          c.loop-rest.invariant.read some c.first_line.ensures.line c.first_line.ensures.rest c.in_ok-add_line.ensures.ok;
      room = omega (arith, c.first_line.ensures.shorter, c.loop-rest.invariant.room);
    }

pub returns-in_err-add_line-clause-refused : goal.returns-in_err-add_line-clause-refused
returns-in_err-add_line-clause-refused c =
    let some : 1 ≤ length c.loop-rest.rest.now = first_of (search rules, grind (arith, common_steps)) in
    let p = err_from_is_err_and c.from_residual-in_err-add_line.result c.from_residual-in_err-add_line.ensures.1 in
    rw (p.1, p.2) (refuses c.args.bytes.now c.loop-rest.rest.now c.first_line.result.0.now c.loop-rest.number c.loop-rest.gaps _ c.loop-rest.invariant.read some c.first_line.ensures.line c.in_err-add_line.ensures.bad)

pub returns-in_err-add_line-clause-only : goal.returns-in_err-add_line-clause-only
returns-in_err-add_line-clause-only c =
    let some : 1 ≤ length c.loop-rest.rest.now = first_of (search rules, grind (arith, common_steps)) in
    let p = err_from_is_err_and c.from_residual-in_err-add_line.result c.from_residual-in_err-add_line.ensures.1 in
    rw (p.1, p.2) (only_ticks c.args.bytes.now (Err c.in_err-add_line.field-0.0) tt
    (refuses c.args.bytes.now c.loop-rest.rest.now c.first_line.result.0.now c.loop-rest.number c.loop-rest.gaps _ c.loop-rest.invariant.read some c.first_line.ensures.line c.in_err-add_line.ensures.bad))

pub returns-in_err-add_line-clause-line : goal.returns-in_err-add_line-clause-line
returns-in_err-add_line-clause-line c =
    let some : 1 ≤ length c.loop-rest.rest.now = first_of (search rules, grind (arith, common_steps)) in
    let p = err_from_is_err_and c.from_residual-in_err-add_line.result c.from_residual-in_err-add_line.ensures.1 in
    rw (p.1, p.2) (only_line c.args.bytes.now (Err c.in_err-add_line.field-0.0) tt
    (refuses c.args.bytes.now c.loop-rest.rest.now c.first_line.result.0.now c.loop-rest.number c.loop-rest.gaps _ c.loop-rest.invariant.read some c.first_line.ensures.line c.in_err-add_line.ensures.bad))

pub returns-clause-ticks : goal.returns-clause-ticks
returns-clause-ticks c =
    let none : length c.loop-rest.rest.now ≡ 0 = first_of (search rules, grind (arith, common_steps)) in
    finds_end c.args.bytes.now c.loop-rest.rest.now c.loop-rest.number c.loop-rest.gaps c.loop-rest.invariant.read none

pub invariant_of-result : goal.invariant_of-result
invariant_of-result c =
    let none : length c.loop-rest.rest.now ≡ 0 = first_of (search rules, grind (arith, common_steps)) in
    ranges (lines c.args.bytes.now) c.loop-rest.gaps (finds_end c.args.bytes.now c.loop-rest.rest.now c.loop-rest.number c.loop-rest.gaps c.loop-rest.invariant.read none)

pub returns-clause-only : goal.returns-clause-only
returns-clause-only c =
    let none : length c.loop-rest.rest.now ≡ 0 = first_of (search rules, grind (arith, common_steps)) in
    only_ticks c.args.bytes.now (Ok c.loop-rest.gaps) (finds_end c.args.bytes.now c.loop-rest.rest.now c.loop-rest.number c.loop-rest.gaps c.loop-rest.invariant.read none) tt

pub returns-clause-line : goal.returns-clause-line
returns-clause-line c =
    let none : length c.loop-rest.rest.now ≡ 0 = first_of (search rules, grind (arith, common_steps)) in
    only_line c.args.bytes.now (Ok c.loop-rest.gaps) (finds_end c.args.bytes.now c.loop-rest.rest.now c.loop-rest.number c.loop-rest.gaps c.loop-rest.invariant.read none) tt
