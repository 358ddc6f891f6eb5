use Rattle.std.proofs.Common.{◌≡◌, ◌-◌}
use Rattle.rt_grammar.specs.Parsing.{◌>>=◌}
use Rattle.rt_bricks.specs.ModuleParser as reads
use Rattle.rt_bricks.proofs.modules.after_semicolon.Given as goal

abbrev pub invariant-loop-turn : goal.invariant-loop-turn
invariant-loop-turn l = reads.to_semicolon l.fn.items ≡ (reads.skip_more (l._turn-end - l._turn) >>= reads.semicolon) l.rest
