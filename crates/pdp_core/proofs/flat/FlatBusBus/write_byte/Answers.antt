use Rattle.std.proofs.Common.{arith}
use Rattle.pdp_core.proofs.Bytes.{written_byte}
use Rattle.pdp_core.proofs.flat.FlatBusBus.write_byte.Goals as goal

pub returns-clause-value : goal.returns-clause-value
returns-clause-value c = written_byte c.args.self.now.bytes.items c.args.self.now.protection c.args.at c.args.b (omega (arith, c.in_ok-use_byte.ensures.inside, c.args.self.now.whole)) c.in_ok-use_byte.ensures.value
