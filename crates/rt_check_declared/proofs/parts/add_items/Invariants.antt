use Rattle.std.proofs.Common.{◌≡◌, ◌++◌, drop, map}
use Rattle.rt_check_declared.specs.Parts.{part}
use Rattle.rt_check_declared.specs.Names.{idents}
use Rattle.rt_check_declared.proofs.parts.add_items.Given as goal

abbrev pub invariant-loop-item : goal.invariant-loop-item
invariant-loop-item l = l.parts ++ map (part l.line) (idents (drop l.item-index l.items)) ≡ l.initial.parts ++ map (part l.line) (idents l.items)
