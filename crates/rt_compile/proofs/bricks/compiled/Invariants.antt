use Rattle.std.proofs.Common.{◌≡◌, ◌++◌, Some, map, drop}
use Rattle.rt_compile.specs.Walks as walks
use Rattle.rt_compile.proofs.bricks.compiled.Given as goal

abbrev pub invariant-loop-number : goal.invariant-loop-number
invariant-loop-number l =
    map (λ b. Some b) l.bricks ++ walks.compiled l.layouts l.module l.number (drop l.number l.module.bricks) l.left.rest.items ≡ walks.compiled l.layouts l.module 0 l.module.bricks l.fn.code
