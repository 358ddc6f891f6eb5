use Rattle.rt_commands.proofs.CommandReads.{one_command}
use Rattle.rt_commands.proofs.words.one_command.Goals as goal

pub returns : goal.returns
returns c = one_command
