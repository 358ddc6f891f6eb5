use Rattle.std.proofs.Common.{rules, ◌≡◌, ◌≤◌, ◌+◌, Ok, Err, length, true, false, sym, subst, arith}
use Rattle.std.proofs.lemmas.Grind.{common_steps}
use Rattle.std.proofs.lemmas.Result.{err_from_is_err_and}
use Rattle.rt_replay.specs.declared.report.Report.{Report}
use Rattle.rt_replay.specs.declared.fault.ReportFault.TheVariants.{BadReport}
use Rattle.rt_replay.specs.Reports.{IsReport}
use Rattle.rt_replay.specs.Reading.{is_complete}
use Rattle.rt_replay.proofs.ReportReads.{goes_on, finds_end, ends_early, refuses, only_report, only_line, steps_within}
use Rattle.rt_replay.proofs.read.read_report.Goals as goal

pub loop-rest-preserved : goal.loop-rest-preserved
loop-rest-preserved c =
    let some : 1 ≤ length c.loop-rest.rest.now = first_of (search rules, grind (arith, common_steps)) in
    record {
      read = goes_on c.args.bytes.now c.loop-rest.rest.now c.first_line.result.0.now c.first_line.result.1.now c.loop-rest.number c.loop-rest.draft c.add_line.new.self
          c.loop-rest.invariant.read some c.first_line.ensures.line c.first_line.ensures.rest c.in_ok-add_line.ensures.ok;
      room = omega (arith, c.first_line.ensures.shorter, c.loop-rest.invariant.room);
    }

pub add_line-requires : goal.add_line-requires
add_line-requires c = steps_within c.args.bytes.now c.loop-rest.rest.now c.loop-rest.number c.loop-rest.draft c.loop-rest.invariant.read

pub returns-in_err-add_line-clause-refused : goal.returns-in_err-add_line-clause-refused
returns-in_err-add_line-clause-refused c =
    let some : 1 ≤ length c.loop-rest.rest.now = first_of (search rules, grind (arith, common_steps)) in
    let p = err_from_is_err_and c.from_residual.result c.from_residual.ensures.1 in
    rw (p.1, p.2) (refuses c.args.bytes.now c.loop-rest.rest.now c.first_line.result.0.now c.loop-rest.number c.loop-rest.draft _ c.loop-rest.invariant.read some c.first_line.ensures.line c.in_err-add_line.ensures.bad)

pub returns-in_err-add_line-clause-only : goal.returns-in_err-add_line-clause-only
returns-in_err-add_line-clause-only c =
    let some : 1 ≤ length c.loop-rest.rest.now = first_of (search rules, grind (arith, common_steps)) in
    let p = err_from_is_err_and c.from_residual.result c.from_residual.ensures.1 in
    rw (p.1, p.2) (only_report c.args.bytes.now (Err c.in_err-add_line.field-0.0) tt
    (refuses c.args.bytes.now c.loop-rest.rest.now c.first_line.result.0.now c.loop-rest.number c.loop-rest.draft _ c.loop-rest.invariant.read some c.first_line.ensures.line c.in_err-add_line.ensures.bad))

pub returns-in_err-add_line-clause-line : goal.returns-in_err-add_line-clause-line
returns-in_err-add_line-clause-line c =
    let some : 1 ≤ length c.loop-rest.rest.now = first_of (search rules, grind (arith, common_steps)) in
    let p = err_from_is_err_and c.from_residual.result c.from_residual.ensures.1 in
    rw (p.1, p.2) (only_line c.args.bytes.now (Err c.in_err-add_line.field-0.0) tt
    (refuses c.args.bytes.now c.loop-rest.rest.now c.first_line.result.0.now c.loop-rest.number c.loop-rest.draft _ c.loop-rest.invariant.read some c.first_line.ensures.line c.in_err-add_line.ensures.bad))

-- ---- the text ends too early

pub returns-then-not-is_complete-clause-refused : goal.returns-then-not-is_complete-clause-refused
returns-then-not-is_complete-clause-refused c =
    let end : length c.loop-rest.rest.now ≡ 0 = first_of (search rules, grind (arith, common_steps)) in
    let early : is_complete c.loop-rest.draft ≡ false = first_of (search rules, grind (arith, common_steps)) in
    ends_early c.args.bytes.now c.loop-rest.rest.now c.loop-rest.number c.loop-rest.draft c.loop-rest.invariant.read end early

pub returns-then-not-is_complete-clause-only : goal.returns-then-not-is_complete-clause-only
returns-then-not-is_complete-clause-only c =
    let end : length c.loop-rest.rest.now ≡ 0 = first_of (search rules, grind (arith, common_steps)) in
    let early : is_complete c.loop-rest.draft ≡ false = first_of (search rules, grind (arith, common_steps)) in
    only_report c.args.bytes.now (Err (BadReport (c.loop-rest.number + 1))) tt
    (ends_early c.args.bytes.now c.loop-rest.rest.now c.loop-rest.number c.loop-rest.draft c.loop-rest.invariant.read end early)

pub returns-then-not-is_complete-clause-line : goal.returns-then-not-is_complete-clause-line
returns-then-not-is_complete-clause-line c =
    let end : length c.loop-rest.rest.now ≡ 0 = first_of (search rules, grind (arith, common_steps)) in
    let early : is_complete c.loop-rest.draft ≡ false = first_of (search rules, grind (arith, common_steps)) in
    only_line c.args.bytes.now (Err (BadReport (c.loop-rest.number + 1))) tt
    (ends_early c.args.bytes.now c.loop-rest.rest.now c.loop-rest.number c.loop-rest.draft c.loop-rest.invariant.read end early)

-- ---- the report

pub returns-clause-report : goal.returns-clause-report
returns-clause-report c =
    let end : length c.loop-rest.rest.now ≡ 0 = first_of (search rules, grind (arith, common_steps)) in
    let whole : is_complete c.loop-rest.draft ≡ true = first_of (search rules, grind (arith, common_steps)) in
    subst (λ (r : Report). IsReport c.args.bytes.now r) (sym c.into_report.ensures) (finds_end c.args.bytes.now c.loop-rest.rest.now c.loop-rest.number c.loop-rest.draft c.loop-rest.invariant.read end whole)

pub returns-clause-only : goal.returns-clause-only
returns-clause-only c =
    let end : length c.loop-rest.rest.now ≡ 0 = first_of (search rules, grind (arith, common_steps)) in
    let whole : is_complete c.loop-rest.draft ≡ true = first_of (search rules, grind (arith, common_steps)) in
    only_report c.args.bytes.now (Ok c.into_report.result)
    (subst (λ (r : Report). IsReport c.args.bytes.now r) (sym c.into_report.ensures) (finds_end c.args.bytes.now c.loop-rest.rest.now c.loop-rest.number c.loop-rest.draft c.loop-rest.invariant.read end whole)) tt

pub returns-clause-line : goal.returns-clause-line
returns-clause-line c =
    let end : length c.loop-rest.rest.now ≡ 0 = first_of (search rules, grind (arith, common_steps)) in
    let whole : is_complete c.loop-rest.draft ≡ true = first_of (search rules, grind (arith, common_steps)) in
    only_line c.args.bytes.now (Ok c.into_report.result)
    (subst (λ (r : Report). IsReport c.args.bytes.now r) (sym c.into_report.ensures) (finds_end c.args.bytes.now c.loop-rest.rest.now c.loop-rest.number c.loop-rest.draft c.loop-rest.invariant.read end whole)) tt
