use Rattle.std.proofs.Common.{rules, ◌≡◌, ◌+◌, ◌≤◌, inr, Ok, Err, length, arith}
use Rattle.std.proofs.lemmas.Grind.{common_steps}
use Rattle.std.proofs.lemmas.Result.{err_from_is_err_and}
use Rattle.rt_system.specs.Lines.{lines}
use Rattle.rt_system.specs.Laws as laws
use Rattle.rt_system.specs.declared.fault.LineFault.TheVariants.{BadLine}
use Rattle.rt_system.proofs.SystemReads.{goes_on, finds_end, lacks_task, refuses, only}
use Rattle.rt_system.proofs.SystemLimits.{ranges}
use Rattle.rt_system.proofs.system.read_system.Goals as goal

pub loop-rest-preserved : goal.loop-rest-preserved
loop-rest-preserved c =
    let some : 1 ≤ length c.loop-rest.rest.now = first_of (search rules, grind (arith, common_steps)) in
    record {
      read = goes_on c.args.objects c.args.bytes.now c.loop-rest.rest.now c.first_line.result.0.now c.first_line.result.1.now c.loop-rest.number c.loop-rest.parts c.add_line.new.parts
          c.loop-rest.invariant.read some c.first_line.ensures.line c.first_line.ensures.rest c.in_ok-add_line.ensures.ok;
      room = omega (arith, c.first_line.ensures.shorter, c.loop-rest.invariant.room);
    }

pub returns-in_err-add_line-clause-refused : goal.returns-in_err-add_line-clause-refused
returns-in_err-add_line-clause-refused c =
    let some : 1 ≤ length c.loop-rest.rest.now = first_of (search rules, grind (arith, common_steps)) in
    let p = err_from_is_err_and c.from_residual.result c.from_residual.ensures.1 in
    rw (p.1, p.2) (refuses c.args.objects c.args.bytes.now c.loop-rest.rest.now c.first_line.result.0.now c.loop-rest.number c.loop-rest.parts _ c.loop-rest.invariant.read some c.first_line.ensures.line c.in_err-add_line.ensures.bad)

pub returns-in_err-add_line-clause-only : goal.returns-in_err-add_line-clause-only
returns-in_err-add_line-clause-only c = λ s is.
    let some : 1 ≤ length c.loop-rest.rest.now = first_of (search rules, grind (arith, common_steps)) in
    let p = err_from_is_err_and c.from_residual.result c.from_residual.ensures.1 in
    rw (p.1, p.2) (only c.args.objects c.args.bytes.now (Err c.in_err-add_line.field-0.0) tt
    (refuses c.args.objects c.args.bytes.now c.loop-rest.rest.now c.first_line.result.0.now c.loop-rest.number c.loop-rest.parts _ c.loop-rest.invariant.read some c.first_line.ensures.line c.in_err-add_line.ensures.bad) (laws.System s) is)

pub returns-in_err-add_line-clause-line : goal.returns-in_err-add_line-clause-line
returns-in_err-add_line-clause-line c = λ n is.
    let some : 1 ≤ length c.loop-rest.rest.now = first_of (search rules, grind (arith, common_steps)) in
    let p = err_from_is_err_and c.from_residual.result c.from_residual.ensures.1 in
    rw (p.1, p.2) (only c.args.objects c.args.bytes.now (Err c.in_err-add_line.field-0.0) tt
    (refuses c.args.objects c.args.bytes.now c.loop-rest.rest.now c.first_line.result.0.now c.loop-rest.number c.loop-rest.parts _ c.loop-rest.invariant.read some c.first_line.ensures.line c.in_err-add_line.ensures.bad) (laws.Bad n) is)

pub returns-in_err-add_line-clause-object : goal.returns-in_err-add_line-clause-object
returns-in_err-add_line-clause-object c = λ n is.
    let some : 1 ≤ length c.loop-rest.rest.now = first_of (search rules, grind (arith, common_steps)) in
    let p = err_from_is_err_and c.from_residual.result c.from_residual.ensures.1 in
    rw (p.1, p.2) (only c.args.objects c.args.bytes.now (Err c.in_err-add_line.field-0.0) tt
    (refuses c.args.objects c.args.bytes.now c.loop-rest.rest.now c.first_line.result.0.now c.loop-rest.number c.loop-rest.parts _ c.loop-rest.invariant.read some c.first_line.ensures.line c.in_err-add_line.ensures.bad) (laws.Object n) is)

-- ---- no task

pub returns-then-len-eq0-clause-refused : goal.returns-then-len-eq0-clause-refused
returns-then-len-eq0-clause-refused c =
    let end : length c.loop-rest.rest.now ≡ 0 = first_of (search rules, grind (arith, common_steps)) in
    let none : length c.loop-rest.parts.tasks ≡ 0 = first_of (search rules, grind (arith, common_steps)) in
    inr (lacks_task c.args.objects c.args.bytes.now c.loop-rest.rest.now c.loop-rest.number c.loop-rest.parts c.loop-rest.invariant.read end none)

pub returns-then-len-eq0-clause-only : goal.returns-then-len-eq0-clause-only
returns-then-len-eq0-clause-only c = λ s is.
    let end : length c.loop-rest.rest.now ≡ 0 = first_of (search rules, grind (arith, common_steps)) in
    let none : length c.loop-rest.parts.tasks ≡ 0 = first_of (search rules, grind (arith, common_steps)) in
    only c.args.objects c.args.bytes.now (Err (BadLine (c.loop-rest.number + 1))) tt
    (inr (lacks_task c.args.objects c.args.bytes.now c.loop-rest.rest.now c.loop-rest.number c.loop-rest.parts c.loop-rest.invariant.read end none)) (laws.System s) is

pub returns-then-len-eq0-clause-line : goal.returns-then-len-eq0-clause-line
returns-then-len-eq0-clause-line c = λ n is.
    let end : length c.loop-rest.rest.now ≡ 0 = first_of (search rules, grind (arith, common_steps)) in
    let none : length c.loop-rest.parts.tasks ≡ 0 = first_of (search rules, grind (arith, common_steps)) in
    only c.args.objects c.args.bytes.now (Err (BadLine (c.loop-rest.number + 1))) tt
    (inr (lacks_task c.args.objects c.args.bytes.now c.loop-rest.rest.now c.loop-rest.number c.loop-rest.parts c.loop-rest.invariant.read end none)) (laws.Bad n) is

pub returns-then-len-eq0-clause-object : goal.returns-then-len-eq0-clause-object
returns-then-len-eq0-clause-object c = λ n is.
    let end : length c.loop-rest.rest.now ≡ 0 = first_of (search rules, grind (arith, common_steps)) in
    let none : length c.loop-rest.parts.tasks ≡ 0 = first_of (search rules, grind (arith, common_steps)) in
    only c.args.objects c.args.bytes.now (Err (BadLine (c.loop-rest.number + 1))) tt
    (inr (lacks_task c.args.objects c.args.bytes.now c.loop-rest.rest.now c.loop-rest.number c.loop-rest.parts c.loop-rest.invariant.read end none)) (laws.Object n) is

-- ---- the system

pub invariant_of-result : goal.invariant_of-result
invariant_of-result c =
    let end : length c.loop-rest.rest.now ≡ 0 = first_of (search rules, grind (arith, common_steps)) in
    let some : 1 ≤ length c.loop-rest.parts.tasks = first_of (search rules, grind (arith, common_steps)) in
    let is = finds_end c.args.objects c.args.bytes.now c.loop-rest.rest.now c.loop-rest.number c.loop-rest.parts c.loop-rest.invariant.read end some in
    ranges c.args.objects (lines c.args.bytes.now) c.loop-rest.parts is.parts is.some_task

pub returns-clause-system : goal.returns-clause-system
returns-clause-system c =
    let end : length c.loop-rest.rest.now ≡ 0 = first_of (search rules, grind (arith, common_steps)) in
    let some : 1 ≤ length c.loop-rest.parts.tasks = first_of (search rules, grind (arith, common_steps)) in
    finds_end c.args.objects c.args.bytes.now c.loop-rest.rest.now c.loop-rest.number c.loop-rest.parts c.loop-rest.invariant.read end some

pub returns-clause-only : goal.returns-clause-only
returns-clause-only c = λ s is.
    let end : length c.loop-rest.rest.now ≡ 0 = first_of (search rules, grind (arith, common_steps)) in
    let some : 1 ≤ length c.loop-rest.parts.tasks = first_of (search rules, grind (arith, common_steps)) in
    only c.args.objects c.args.bytes.now (Ok c.loop-rest.parts)
    (finds_end c.args.objects c.args.bytes.now c.loop-rest.rest.now c.loop-rest.number c.loop-rest.parts c.loop-rest.invariant.read end some) tt (laws.System s) is

pub returns-clause-line : goal.returns-clause-line
returns-clause-line c = λ n is.
    let end : length c.loop-rest.rest.now ≡ 0 = first_of (search rules, grind (arith, common_steps)) in
    let some : 1 ≤ length c.loop-rest.parts.tasks = first_of (search rules, grind (arith, common_steps)) in
    only c.args.objects c.args.bytes.now (Ok c.loop-rest.parts)
    (finds_end c.args.objects c.args.bytes.now c.loop-rest.rest.now c.loop-rest.number c.loop-rest.parts c.loop-rest.invariant.read end some) tt (laws.Bad n) is

pub returns-clause-object : goal.returns-clause-object
returns-clause-object c = λ n is.
    let end : length c.loop-rest.rest.now ≡ 0 = first_of (search rules, grind (arith, common_steps)) in
    let some : 1 ≤ length c.loop-rest.parts.tasks = first_of (search rules, grind (arith, common_steps)) in
    only c.args.objects c.args.bytes.now (Ok c.loop-rest.parts)
    (finds_end c.args.objects c.args.bytes.now c.loop-rest.rest.now c.loop-rest.number c.loop-rest.parts c.loop-rest.invariant.read end some) tt (laws.Object n) is
