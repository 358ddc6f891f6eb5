use Rattle.std.proofs.Common.{◌≡◌, drop}
use Rattle.rt_exprs.specs.Sights.{outside}
use Rattle.rt_check_bodies.specs.Statements as spec
use Rattle.rt_check_bodies.proofs.locals.declarations.Given as goal

abbrev pub invariant-loop-line : goal.invariant-loop-line
invariant-loop-line l = (spec.declarations (spec.declared_by l.names l.starts) (drop l.line-index l.declared) l.tally ≡ spec.declarations (spec.before l.initial.names) l.declared l.initial.tally)
    × (outside l.names ≡ outside l.initial.names)
