use Rattle.std.proofs.Common.{map, string_bytes}
use Rattle.rt_commands.proofs.CommandReads.{lent_means, lent_none}
use Rattle.rt_commands.proofs.words.lend_words.Goals as goal

pub returns-clause-command : goal.returns-clause-command
returns-clause-command c = lent_means (map string_bytes c.args.words.now) c.asked.result c.asked.ensures

pub returns-clause-none : goal.returns-clause-none
returns-clause-none c = lent_none (map string_bytes c.args.words.now) c.asked.result c.asked.ensures
