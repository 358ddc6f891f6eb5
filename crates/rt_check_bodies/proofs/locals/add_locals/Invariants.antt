use Rattle.std.proofs.Common.{◌≡◌, drop}
use Rattle.rt_exprs.specs.Sights.{outside}
use Rattle.rt_check_bodies.specs.Statements as spec
use Rattle.rt_check_bodies.proofs.locals.add_locals.Given as goal

abbrev pub invariant-loop-local : goal.invariant-loop-local
invariant-loop-local l =
    (spec.locals_more l.mode (spec.declared_by l.names l.starts) (drop l.local-index l.locals) l.tally ≡ spec.locals_more l.mode (spec.declared_by l.initial.names l.initial.starts) l.locals l.initial.tally)
    × (outside l.names ≡ outside l.initial.names)
