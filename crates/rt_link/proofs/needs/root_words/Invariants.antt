use Rattle.std.proofs.Common.{◌≡◌, ◌++◌, drop}
use Rattle.rt_link.specs.Needs.{root_words}
use Rattle.rt_link.proofs.needs.root_words.Given as goal

-- what is written and what is left are all needs
abbrev pub invariant-loop-root : goal.invariant-loop-root
invariant-loop-root l = l.words ++ root_words l.judged.order.procs l.judged.needs (drop l.root-index l.judged.roots) ≡ root_words l.judged.order.procs l.judged.needs l.judged.roots
