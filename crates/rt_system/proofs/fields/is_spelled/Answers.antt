use Rattle.std.proofs.Common.{sym, arith}
use Rattle.rt_system.proofs.Words.{other_length}
use Rattle.rt_system.proofs.fields.is_spelled.Goals as goal

pub returns-then-word-text : goal.returns-then-word-text
returns-then-word-text c = sym (other_length c.args.word.now c.args.text.now (omega arith))
