use Rattle.rt_items.proofs.Strings.{all_printable, some_printable}
use Rattle.rt_items.proofs.texts.characters.Goals as goal

pub returns-then-len-part : goal.returns-then-len-part
returns-then-len-part c = all_printable c.args.line c.args.out.now.items c.args.part.now c.push_all.new.self.items c.printable_len-len.result c.printable_len-len.ensures c.in_ok-push_all.ensures.ok c.if-len-part.true

pub returns-else-len-part : goal.returns-else-len-part
returns-else-len-part c = some_printable c.args.line c.args.out.now.items c.args.part.now c.push_all.new.self.items c.printable_len-len.result c.printable_len-len.ensures c.in_ok-push_all.ensures.ok c.if-len-part.false
