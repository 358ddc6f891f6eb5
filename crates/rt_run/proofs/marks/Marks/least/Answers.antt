use Rattle.std.proofs.Common.{rules}
use Rattle.rt_run.proofs.Marked.{none_in_word, least_in_word}
use Rattle.rt_run.proofs.marks.Marks.least.Goals as goal

pub loop-at-preserved : goal.loop-at-preserved
loop-at-preserved c = none_in_word c.args.self.now.words c.loop-at.at (search rules) c.loop-at.invariant

pub returns-then-word-ne0 : goal.returns-then-word-ne0
returns-then-word-ne0 c = least_in_word c.args.self.now.words c.loop-at.at _ (search rules) (search rules) (search rules) c.loop-at.invariant
