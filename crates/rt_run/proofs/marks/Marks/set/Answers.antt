use Rattle.std.proofs.Common.{◌%◌, ◌<◌, arith, rules, w64}
use Rattle.std.proofs.lemmas.Nat.Bits.{bit_at_set_same, bit_at_set_other}
use Rattle.rt_run.proofs.Marked.{changed_here, changed_others}
use Rattle.rt_run.proofs.marks.Marks.set.Goals as goal

pub returns-clause-here : goal.returns-clause-here
returns-clause-here c =
    let low : c.args.priority % 64 < 64 = omega arith in
    changed_here c.args.self.now.words c.args.priority c.from.result _ 1 (search rules) (omega arith) (search rules)
    (bit_at_set_same w64 _ (c.args.priority % 64) low)

pub returns-clause-others : goal.returns-clause-others
returns-clause-others c q below other =
    let low : c.args.priority % 64 < 64 = omega arith in
    changed_others c.args.self.now.words c.args.priority c.from.result _ q (search rules) (omega arith) (search rules) other
    (λ i k d. bit_at_set_other w64 _ (c.args.priority % 64) low i d)
