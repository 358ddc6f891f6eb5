-- The instructions of the machine for each intermediate instruction.
use Rattle.std.specs.Prelude.{ℕ, ◌+◌, List, [], ◌∷◌, ◌++◌}
use Rattle.pdp_code.specs.declared.instruction.Operand.TheVariants.{IncrementDeferred, Immediate, Deferred}
use Rattle.pdp_code.specs.declared.instruction.Pointer.TheVariants.{PSp}
use Rattle.pdp_code.specs.declared.instruction.Reg.TheVariants.{R4}
use Rattle.pdp_code.specs.declared.instruction.SingleOp.TheVariants.{Clr, Tst}
use Rattle.rt_icode.specs.declared.ins.Ins.{Ins}
use Rattle.rt_icode.specs.declared.ins.Ins.TheVariants as ins
use Rattle.rt_templates.specs.declared.line.Line.{Line}
use Rattle.rt_templates.specs.Lines.{quiet, shown, top, taken, mov, push, pop, on}
use Rattle.rt_templates.specs.declared.layout.Layout.{Layout}
use Rattle.rt_templates.specs.Layouts.{local, former, way, brick, place, text}
use Rattle.rt_templates.specs.Places as places
use Rattle.rt_templates.specs.Operators as operators
use Rattle.rt_templates.specs.Ways as ways
use Rattle.rt_templates.specs.Calls as calls

-- instruction k of a procedure with this layout
abbrev pub template : Layout → ℕ → Ins → List Line
template f k (ins.Enter b p l r) = calls.enter l r
template f k (ins.Const n) = quiet (push (Immediate n)) ∷ []
template f k (ins.Text n) = places.push_address (text n)
template f k (ins.Routine b) = places.push_address (brick b)
template f k (ins.LoadLocal i) = quiet (push (local f i)) ∷ []
template f k (ins.SaveLocal i) = quiet (pop (local f i)) ∷ []
template f k (ins.ClearLocal i) = quiet (on Clr (local f i)) ∷ []
template f k ins.Discard = quiet (on Tst taken) ∷ []
template f k (ins.Reach p) = places.push_address (place p)
template f k (ins.ReachRow p n) = places.push_address (place p)
template f k (ins.Load z p) = places.load z (place p)
template f k (ins.Save z p) = places.save z (place p)
template f k (ins.ElementAt p n s) = places.element_at p n s
template f k (ins.LoadOwn i) = shown (push (places.own i)) ∷ []
template f k (ins.SaveOwn i) = shown (pop (places.own i)) ∷ []
template f k (ins.Into j o) = places.further o
template f k (ins.IntoRow j o n) = places.further o
template f k (ins.Element n s) = places.element n s
template f k (ins.ElementRow s) = places.element_row s
template f k (ins.Fetch z) = places.fetch z
template f k (ins.Store z) = places.store z
template f k (ins.Tell n) = quiet (mov (Immediate n) top) ∷ []
template f k ins.Length = quiet (push (IncrementDeferred PSp)) ∷ []
template f k (ins.Alter a) = operators.altered a
template f k (ins.Merge m) = operators.merged m
template f k (ins.Divide d) = operators.divide d
template f k (ins.DivideOr d) = operators.divide_or d
template f k ins.Report = calls.report
template f k (ins.Test r when more) = ways.test r when (way f (k + 1 + more))
template f k (ins.Skip more) = ways.jump (way f (k + 1 + more)) ∷ []
template f k (ins.Go to) = ways.shown_jump (way f to) ∷ []
template f k (ins.Case to) = ways.case (way f to)
template f k (ins.CountFor i more) = ways.count_for f i (way f (k + 1 + more))
template f k (ins.CountTo i more) = ways.count_to f i (way f (k + 1 + more))
template f k (ins.TurnFor i to) = ways.turn_for f i (way f to)
template f k (ins.TurnTo i to) = ways.turn_to f i (way f to)
template f k (ins.Invoke b n gives) = calls.invoke b n gives
template f k (ins.InvokeBy n gives) = calls.invoke_by n gives
template f k ins.GiveUp = calls.give_up
template f k ins.Leave = calls.leave
template f k (ins.Recover to) = calls.recover (way f to)
template f k ins.Restore = shown (mov (former f) (Deferred R4)) ∷ []

-- the instructions from number k on
abbrev pub templates : Layout → ℕ → List Ins → List Line
templates f k [] = []
templates f k (i ∷ is) = template f k i ++ templates f (k + 1) is
