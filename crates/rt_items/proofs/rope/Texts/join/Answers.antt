use Rattle.std.proofs.Common.{◌++◌, ap, length, length-append, arith}
use Rattle.rt_items.specs.Ropes.{nth_text}
use Rattle.rt_items.proofs.Ropes.{there, keeps_more}
use Rattle.rt_items.proofs.rope.Texts.join.Goals as goal

pub returns-clause-text : goal.returns-clause-text
returns-clause-text c = there c.args.self.now c.add.new.self (nth_text c.args.self.now c.args.left ++ nth_text c.args.self.now c.args.right) c.in_ok-at.ensures.text c.in_ok-at.at c.in_ok-at.ensures.number

pub returns-clause-root : goal.returns-clause-root
returns-clause-root c =
    let left = nth_text c.args.self.now c.args.left in
    let right = nth_text c.args.self.now c.args.right in
    let some = c.requires.left in
    omega (arith, some, length-append left right, ap length (there c.args.self.now c.add.new.self (left ++ right) c.in_ok-at.ensures.text c.in_ok-at.at c.in_ok-at.ensures.number))

pub returns-clause-keeps : goal.returns-clause-keeps
returns-clause-keeps c = keeps_more c.args.self.now c.add.new.self (nth_text c.args.self.now c.args.left ++ nth_text c.args.self.now c.args.right) c.in_ok-at.ensures.text
