use Rattle.std.proofs.Common.{◌≡◌, ◌++◌, length}
use Rattle.rt_modes.specs.Parts.{parts_spelling}
use Rattle.rt_modes.specs.Spelling.{spelling}
use Rattle.rt_modes.proofs.spell.spell_mode.Given as goal

-- What is written and what is left are the whole spelling.
abbrev pub invariant-loop-part : goal.invariant-loop-part
invariant-loop-part l = l.out.items ++ parts_spelling l.parts ≡ l.initial.out.items ++ spelling l.fn.mode

abbrev pub decreases-loop-part : goal.decreases-loop-part
decreases-loop-part l = length (parts_spelling l.parts)
