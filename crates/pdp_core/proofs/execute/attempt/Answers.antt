use Rattle.std.proofs.Common.{subst}
use Rattle.pdp_core.specs.declared.cpu.Regs.{Regs}
use Rattle.pdp_core.specs.Kept.{AllButCounter}
use Rattle.pdp_core.proofs.Undoing.{counter_stepped}
use Rattle.pdp_core.proofs.execute.attempt.Goals as goal

pub returns-in-Ok-clause-kept : goal.returns-in-Ok-clause-kept
returns-in-Ok-clause-kept g c =
    let start = c.args.regs.now in
    λ stopped. counter_stepped start c.carry_out.new.regs c.wrap_add.result (subst (λ (h : Regs). AllButCounter h c.carry_out.new.regs) c.set.ensures (c.carry_out.ensures.kept stopped))
