use Rattle.std.proofs.Common.{sym, ◌∙◌}
use Rattle.rt_exprs.proofs.Kept.{declared_held}
use Rattle.rt_exprs.proofs.level.Level.declare.Goals as goal

pub returns-then-has-clause-held : goal.returns-then-has-clause-held
returns-then-has-clause-held c = sym c.if-has.true ∙ c.has.ensures

pub returns-then-has-clause-declared : goal.returns-then-has-clause-declared
returns-then-has-clause-declared c = declared_held c.args.name.now c.args.meaning c.args.self.now (sym c.has.ensures ∙ c.if-has.true)
