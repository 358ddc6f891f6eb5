use Rattle.std.proofs.Common.{◌≡◌, List, Bool}
use Rattle.rt_bricks.specs.declared.tree.RecordMode.{RecordMode}
use Rattle.rt_check_declared.specs.Heads.{heads, definitions}
use Rattle.rt_check_declared.proofs.Joined.{SoFar}
use Rattle.rt_sizes.specs.Capped.{AreSizes, table}
use Rattle.rt_check_declared.specs.Written.{Names}
use Rattle.rt_check_declared.proofs.module.judge_records.Given as goal

abbrev pub invariant-loop-head : goal.invariant-loop-head
invariant-loop-head l = (names : Names) → (known : List Bool) → (rs : List RecordMode) → AreSizes (table l.records known) l.sizes → l.heads ≡ heads names rs → l.records ≡ definitions names rs → SoFar names (table l.records known) rs l.head-index l.unfit
