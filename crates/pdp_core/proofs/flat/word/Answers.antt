use Rattle.std.proofs.Common.{sym, rules}
use Rattle.pdp_core.proofs.Bytes.{word_of}
use Rattle.pdp_core.proofs.flat.word.Goals as goal

pub returns : goal.returns
returns c = sym (word_of c.args.bytes.now c.args.at (search (rules, c.type_inv.bytes)) (search (rules, c.type_inv.bytes)))
