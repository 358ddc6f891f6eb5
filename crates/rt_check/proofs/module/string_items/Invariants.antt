use Rattle.std.proofs.Common.{ℕ, map, drop}
use Rattle.rt_syntax.specs.Strings.{text_of}
use Rattle.rt_check.specs.Whole.{Rise}
use Rattle.rt_check.proofs.Rising.{Kept}
use Rattle.rt_check.proofs.module.string_items.Given as goal

abbrev pub invariant-loop-text : goal.invariant-loop-text
invariant-loop-text l = (low : ℕ) → Rise low (map text_of l.texts) → Kept l.items.keys (map text_of (drop l.text-index l.texts)) (map text_of l.texts)
