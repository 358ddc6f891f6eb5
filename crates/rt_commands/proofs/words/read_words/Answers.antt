use Rattle.std.proofs.Common.{inl, Ok, map, string_bytes, sym, ap, subst, ◌∙◌}
use Rattle.rt_commands.specs.Commands.{IsCommand}
use Rattle.rt_commands.specs.Reading.{said}
use Rattle.rt_commands.specs.declared.command.Command.{Command}
use Rattle.rt_commands.proofs.CommandReads.{one_command}
use Rattle.rt_commands.proofs.words.read_words.Goals as goal

pub returns-in_default-clause-only : goal.returns-in_default-clause-only
returns-in_default-clause-only c = λ command is. absurd (c.in_default.ensures.none command is)

pub returns-in_default-clause-refused : goal.returns-in_default-clause-refused
returns-in_default-clause-refused c = λ e. c.in_default.ensures.none

pub returns-clause-command : goal.returns-clause-command
returns-clause-command c =
    subst (λ (command : Command). IsCommand (map string_bytes c.args.words.now) command) (sym c.in_ok-copied.ensures) c.in-Some.ensures.command

pub returns-clause-only : goal.returns-clause-only
returns-clause-only c = λ command is.
    let same = one_command (map string_bytes c.args.words.now) (said c.in-Some.lent) command c.in-Some.ensures.command is in
    inl (ap (λ (command : Command). Ok command) (c.in_ok-copied.ensures ∙ same))

pub returns-clause-none : goal.returns-clause-none
returns-clause-none c = λ none. absurd (none (said c.in-Some.lent) c.in-Some.ensures.command)
