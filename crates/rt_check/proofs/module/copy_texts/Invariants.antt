use Rattle.std.proofs.Common.{◌≡◌, ◌++◌, map, drop}
use Rattle.rt_syntax.specs.Strings.{text_of}
use Rattle.rt_check.proofs.module.copy_texts.Given as goal

abbrev pub invariant-loop-text : goal.invariant-loop-text
invariant-loop-text l = l.strings ++ map (λ t. t.1) (map text_of (drop l.text-index l.texts)) ≡ map (λ t. t.1) (map text_of l.texts)
