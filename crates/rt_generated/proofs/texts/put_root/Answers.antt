use Rattle.rt_generated.proofs.Lines.{five_put}
use Rattle.rt_generated.proofs.texts.put_root.Goals as goal

pub returns : goal.returns
returns c =
    five_put c.push_all-3.result c.args.out.now.items c.push_all.new.self.items c.put_number.new.out.items c.push_all-2.new.self.items c.put_number-2.new.out.items c.push_all-3.new.self.items _ _ _ _ _
    c.in_ok-push_all.ensures.ok c.in_ok-put_number.ensures.items c.in_ok-push_all-2.ensures.ok c.in_ok-put_number-2.ensures.items c.push_all-3.ensures.ok
