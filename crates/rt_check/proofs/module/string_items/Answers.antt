use Rattle.std.proofs.Common.{ℕ, ◌==◌, map}
use Rattle.rt_syntax.specs.Strings.{text_of}
use Rattle.rt_check.proofs.Rising.{kept_next, greater_differs}
use Rattle.rt_check.proofs.module.string_items.Goals as goal

pub loop-text-preserved : goal.loop-text-preserved
loop-text-preserved c = λ low rises.
    kept_next (λ (n k : ℕ). n == k) greater_differs c.loop-text.items.keys c.insert.new.self.keys c.args.texts.now c.loop-text.text-index c.text-item.result (map text_of c.args.texts.now) c.loop-text-test.true c.text-item.is c.in-Ok.ensures.keys
    (c.loop-text.invariant low rises)
