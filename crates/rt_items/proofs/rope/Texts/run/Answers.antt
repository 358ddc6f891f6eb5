use Rattle.std.proofs.Common.{ap, length, arith}
use Rattle.rt_items.proofs.Ropes.{there, keeps_more}
use Rattle.rt_items.proofs.rope.Texts.run.Goals as goal

pub returns-clause-text : goal.returns-clause-text
returns-clause-text c = there c.args.self.now c.add.new.self c.args.run c.in_ok-at.ensures.text c.in_ok-at.at c.in_ok-at.ensures.number

pub returns-clause-root : goal.returns-clause-root
returns-clause-root c = let some = c.if-len-eq0.false in omega (arith, some, c.len.ensures, ap length (there c.args.self.now c.add.new.self c.args.run c.in_ok-at.ensures.text c.in_ok-at.at c.in_ok-at.ensures.number))

pub returns-clause-keeps : goal.returns-clause-keeps
returns-clause-keeps c = keeps_more c.args.self.now c.add.new.self c.args.run c.in_ok-at.ensures.text
