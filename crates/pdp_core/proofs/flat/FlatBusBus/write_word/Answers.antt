use Rattle.std.proofs.Common.{arith}
use Rattle.pdp_core.proofs.Bytes.{written_word}
use Rattle.pdp_core.proofs.flat.FlatBusBus.write_word.Goals as goal

pub returns-clause-value : goal.returns-clause-value
returns-clause-value c = written_word c.args.self.now.bytes.items c.args.self.now.protection c.args.at c.args.w (omega (arith, c.in_ok-use_word.ensures.inside, c.args.self.now.whole)) c.in_ok-use_word.ensures.value
