-- The visible steps of instructions. Those of subscripts, cases and further turns are made at times only.
use Rattle.std.specs.Prelude.{Option, Some, None}
use Rattle.rt_tree_nodes.specs.declared.step.Step.{Step}
use Rattle.rt_tree_nodes.specs.declared.step.Step.TheVariants as step
use Rattle.rt_icode.specs.declared.ins.Ins.{Ins}
use Rattle.rt_icode.specs.declared.ins.Ins.TheVariants as ins

abbrev pub step_of : Ins → Option Step
step_of (ins.Load z f) = Some step.Read
step_of (ins.LoadOwn k) = Some step.Read
step_of (ins.Fetch z) = Some step.Read
step_of (ins.Save z f) = Some step.Write
step_of (ins.SaveOwn k) = Some step.Write
step_of (ins.Store z) = Some step.Write
step_of (ins.Recover to) = Some step.Write
step_of ins.Restore = Some step.Write
step_of (ins.Invoke b n gives) = Some step.Call
step_of (ins.InvokeBy n gives) = Some step.Call
step_of ins.Report = Some step.Call
step_of ins.GiveUp = Some step.Return
step_of ins.Leave = Some step.Return
step_of (ins.Go to) = Some step.Jump
step_of (ins.Case to) = Some step.Jump
step_of (ins.TurnFor i to) = Some step.Jump
step_of (ins.TurnTo i to) = Some step.Jump
step_of (ins.ElementAt f n s) = Some (step.Error 1)
step_of (ins.Element n s) = Some (step.Error 1)
step_of (ins.ElementRow s) = Some (step.Error 1)
step_of _ = None
