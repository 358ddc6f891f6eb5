use Rattle.std.proofs.Common.{◌%◌}
use Rattle.pdp_code.specs.declared.instruction.Size.TheVariants.{Word}
use Rattle.pdp_code.specs.First.{reg_of}
use Rattle.pdp_core.proofs.Undoing.{read_given_back, undone}
use Rattle.pdp_core.proofs.execute.do_sum.Goals as goal

pub returns-in-Err-clause-kept : goal.returns-in-Err-clause-kept
returns-in-Err-clause-kept g c =
    let start = c.args.regs.now in
    let r = reg_of (c.args.s % 8) in
    let h = c.value.new.regs in
    let back = read_given_back (g.B.Bus.world c.args.bus.now) Word start c.args.s c.in_ok-x-2.x h c.in_ok-x-2.ensures.value in
    undone start h _ c.set_at.new.regs r c.get_at-kept.result back c.in-Err.ensures.kept c.get_at-kept.ensures c.set_at.ensures
