use Rattle.std.proofs.Common.{codes, ◌++◌, ◌∷◌, [], List, ℕ, length, ap, ◌∙◌, sym, arith}
use Rattle.rt_run.specs.declared.machine.End.{End}
use Rattle.rt_report.specs.Faults.{machine_words}
use Rattle.rt_report.specs.Lines.{line, lines}
use Rattle.rt_report.specs.Reports.{end_lines}
use Rattle.rt_report.proofs.Rooms.{machine_room, console_room, name_room, only_line}
use Rattle.rt_report.proofs.reports.write_end.Goals as goal

pub write_fault-requires : goal.write_fault-requires
write_fault-requires c =
    (omega (arith, machine_room c.name_at.result.now c.in-Fault.kind c.in-Fault.at, ap (λ (n : List ℕ). length n) c.name_at.ensures, name_room c.args.names.now c.in-Fault.task, c.requires.room))

pub unwrap-requires : goal.unwrap-requires
unwrap-requires c = c.put_console.ensures.room (omega (arith, console_room 20 (codes "INPUT") (omega arith), c.requires.room))

pub unwrap-requires-in-WriteFault : goal.unwrap-requires-in-WriteFault
unwrap-requires-in-WriteFault c = c.put_console-in-WriteFault.ensures.room (omega (arith, console_room 21 (codes "OUTPUT") (omega arith), c.requires.room))

pub returns-in-Fault : goal.returns-in-Fault
returns-in-Fault c = record {
  items = only_line c.args.out.now.items (line (machine_words c.name_at.result.now c.in-Fault.kind c.in-Fault.at)) c.write_fault.new.out.items c.write_fault.ensures
      ∙ ap (λ (n : List ℕ). c.args.out.now.items ++ lines (machine_words n c.in-Fault.kind c.in-Fault.at ∷ [])) c.name_at.ensures
      ∙ ap (λ (e : End). c.args.out.now.items ++ lines (end_lines c.args.names.now e)) (sym c.in-Fault.is);
}
