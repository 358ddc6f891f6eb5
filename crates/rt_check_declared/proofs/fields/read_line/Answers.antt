use Rattle.std.proofs.Common.{◌≡◌, ◌++◌, Err, ap, ◌∙◌}
use Rattle.std.proofs.lemmas.Result.{on_ok_weaker}
use Rattle.rt_modes.specs.declared.mode.Mode as mode
use Rattle.rt_exprs.specs.Names.{find_in}
use Rattle.rt_check_declared.specs.Fields.{fields_of_mode}
use Rattle.rt_check_declared.specs.Verdicts.{outcome}
use Rattle.rt_check_declared.specs.Written.{written}
use Rattle.rt_check_declared.proofs.RecordSteps.{is_fault, noted_fault, noted_fields}
use Rattle.rt_check_declared.proofs.fields.read_line.Goals as goal

pub returns-in_ok-note_unless_memory-in-Err-clause-fields : goal.returns-in_ok-note_unless_memory-in-Err-clause-fields
returns-in_ok-note_unless_memory-in-Err-clause-fields c =
    let v = written (find_in c.args.levels.now) c.args.line.now.mode c.args.site in
    let stands : outcome v ≡ Err c.in-Err.fault = is_fault (outcome v ≡ Err c.in-Err.fault) c.in-Err.fault c.in_ok-note_unless_memory-in-Err.ensures.fault c.in-Err.ensures.value in
    on_ok_weaker c.add_fields.result (λ is. noted_fields v c.args.line.now.names c.args.found.now.fields c.add_fields.new.fields c.in-Err.fault stands (is ∙ ap (λ ids. c.args.found.now.fields ++ fields_of_mode mode.Label ids) c.as_slice-in-Err.ensures)) c.add_fields.ensures

pub returns-in_ok-note_unless_memory-in-Err-clause-fault : goal.returns-in_ok-note_unless_memory-in-Err-clause-fault
returns-in_ok-note_unless_memory-in-Err-clause-fault c =
    let v = written (find_in c.args.levels.now) c.args.line.now.mode c.args.site in
    let stands : outcome v ≡ Err c.in-Err.fault = is_fault (outcome v ≡ Err c.in-Err.fault) c.in-Err.fault c.in_ok-note_unless_memory-in-Err.ensures.fault c.in-Err.ensures.value in
    on_ok_weaker c.add_fields.result (λ _. noted_fault v c.args.line.now.names c.args.found.now.fault c.note_unless_memory.new.faults c.in-Err.fault c.in_ok-note_unless_memory-in-Err.ensures.noted stands) c.add_fields.ensures
