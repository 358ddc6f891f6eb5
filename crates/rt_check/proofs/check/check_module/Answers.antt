use Rattle.std.proofs.Common.{Ok, sym, subst}
use Rattle.rt_check_faults.specs.Outcomes.{IsAnswered}
use Rattle.rt_tree.specs.Modules.{every_node_fits}
use Rattle.rt_tree.specs.Within.{Within}
use Rattle.rt_check_module.specs.Typed.{IsTyped}
use Rattle.rt_check_module.specs.Tree.{tree}
use Rattle.rt_check.proofs.Typed.{strings_rise, fits, within, not_both}
use Rattle.rt_check.proofs.check.check_module.Goals as goal

pub returns-in-Some-clause-tree : goal.returns-in-Some-clause-tree
returns-in-Some-clause-tree c = λ d. subst (IsTyped c.args.source.now) (sym c.in-Some.ensures.parts) (c.in-Ok.ensures.tree (strings_rise c.args.source.now d))

pub returns-in-Some-clause-within : goal.returns-in-Some-clause-within
returns-in-Some-clause-within c = λ d. subst Within (sym c.in-Some.ensures.parts) (within c.args.source.now d c.in-Ok.parts (c.in-Ok.ensures.tree (strings_rise c.args.source.now d)))

pub returns-in-Some-clause-only : goal.returns-in-Some-clause-only
returns-in-Some-clause-only c = λ d none. subst (λ p. IsAnswered (tree c.args.source.now) (Ok p)) (sym c.in-Some.ensures.parts) (c.in-Ok.ensures.only (strings_rise c.args.source.now d) none)

pub returns-in-None-clause-only : goal.returns-in-None-clause-only
returns-in-None-clause-only c = λ d none. not_both (every_node_fits c.in-Ok.parts) (fits c.args.source.now d c.in-Ok.parts (c.in-Ok.ensures.tree (strings_rise c.args.source.now d))) c.in-None.ensures.unfit

pub returns-in-Err-clause-only : goal.returns-in-Err-clause-only
returns-in-Err-clause-only c = λ d none. c.in-Err.ensures.only (strings_rise c.args.source.now d) none

pub returns-in-Err-clause-fault : goal.returns-in-Err-clause-fault
returns-in-Err-clause-fault c = λ d. c.in-Err.ensures.fault (strings_rise c.args.source.now d)
