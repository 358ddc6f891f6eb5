use Rattle.std.proofs.Common.{◌≡◌, map, drop}
use Rattle.rt_tree.specs.Modules.{stands, all_passed}
use Rattle.rt_tree.proofs.standing.+standing_modes.Given as goal

abbrev pub invariant-all_passed-loop-mode : goal.invariant-all_passed-loop-mode
invariant-all_passed-loop-mode l = all_passed l.levels (map (stands l.records) (drop l.mode-index l.modes)) ≡ all_passed l.levels (map (stands l.records) l.modes)
