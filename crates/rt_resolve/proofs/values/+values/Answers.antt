use Rattle.std.proofs.Common.{◌≡◌, IfOk, subst}
use Rattle.rt_tree_nodes.specs.Code as seen
use Rattle.rt_tree_nodes.specs.Typing.{placed, valued}
use Rattle.rt_work_state.specs.Nodes as n
use Rattle.rt_resolve.specs.Trees as trees
use Rattle.rt_resolve.proofs.Built.{arguments_built}
use Rattle.rt_resolve.proofs.Opened.{field_opened, element_opened, through_opened, read_opened, reference_opened, length_opened, dyadic_opened, callee_opened}
use Rattle.rt_resolve.proofs.values.+values.Goals as goal

pub arguments_of-returns : goal.arguments_of-returns
arguments_of-returns t c =
    subst (λ x. IfOk c.joined.result (λ ts. n.terms ts ≡ x))
    (arguments_built (seen.scope c.args.scope.now) c.args.values.now)
    (c.joined.ensures _ c.terms.ensures)

pub spot-returns-in-Field : goal.spot-returns-in-Field
spot-returns-in-Field t c =
    subst (λ x. IfOk c.field_of.result (λ made. trees.spot made ≡ x))
    (field_opened (seen.scope c.args.scope.now) c.args.place.now _ _ _ c.in-Field.is c.get-record.ensures)
    (c.field_of.ensures (placed (seen.scope c.args.scope.now) c.get-record.result.now) c.found_at.ensures c.spot-inner.ensures)

pub spot-returns-in_ok-subscript-in-Element : goal.spot-returns-in_ok-subscript-in-Element
spot-returns-in_ok-subscript-in-Element t c =
    subst (λ x. IfOk c.element_of.result (λ made. trees.spot made ≡ x))
    (element_opened (seen.scope c.args.scope.now) c.args.place.now _ _ _ _ c.in-Element.is c.get-array.ensures c.get.ensures)
    (c.element_of.ensures (placed (seen.scope c.args.scope.now) c.get-array.result.now) _ c.found_at-in-Element.ensures c.spot-inner-in-Element.ensures c.in_ok-subscript-in-Element.ensures)

pub spot-returns-in-Through : goal.spot-returns-in-Through
spot-returns-in-Through t c =
    subst (λ x. IfOk c.led_by.result (λ made. trees.spot made ≡ x))
    (through_opened (seen.scope c.args.scope.now) c.args.place.now _ _ c.in-Through.is c.get-reference.ensures)
    (c.led_by.ensures (valued (seen.scope c.args.scope.now) c.get-reference.result.now) c.mode_of.ensures c.term-value.ensures)

pub term-returns-in-Read : goal.term-returns-in-Read
term-returns-in-Read t c =
    subst (λ x. IfOk c.read_at.result (λ made. n.term made ≡ x))
    (read_opened (seen.scope c.args.scope.now) c.args.value.now _ _ c.in-Read.is c.get-place.ensures)
    (c.read_at.ensures (placed (seen.scope c.args.scope.now) c.get-place.result.now) c.found_at.ensures c.spot-inner.ensures)

pub term-returns-in-Reference : goal.term-returns-in-Reference
term-returns-in-Reference t c =
    subst (λ x. IfOk c.reference_to.result (λ made. n.term made ≡ x))
    (reference_opened (seen.scope c.args.scope.now) c.args.value.now _ _ c.in-Reference.is c.get-place-in-Reference.ensures)
    (c.reference_to.ensures (placed (seen.scope c.args.scope.now) c.get-place-in-Reference.result.now) c.found_at-in-Reference.ensures c.spot-inner-in-Reference.ensures)

pub term-returns-in-Length : goal.term-returns-in-Length
term-returns-in-Length t c =
    subst (λ x. IfOk c.length_of.result (λ made. n.term made ≡ x))
    (length_opened (seen.scope c.args.scope.now) c.args.value.now _ _ c.in-Length.is c.get-place-in-Length.ensures)
    (c.length_of.ensures (placed (seen.scope c.args.scope.now) c.get-place-in-Length.result.now) c.found_at-in-Length.ensures c.spot-inner-in-Length.ensures)

pub term-returns-in_ok-left-in-Dyadic : goal.term-returns-in_ok-left-in-Dyadic
term-returns-in_ok-left-in-Dyadic t c =
    subst (λ x. IfOk c.dyadic.result (λ made. n.term made ≡ x))
    (dyadic_opened (seen.scope c.args.scope.now) c.args.value.now _ _ _ _ _ c.in-Dyadic.is c.get-in-Dyadic.ensures c.get-in-Dyadic-2.ensures)
    (c.dyadic.ensures _ _ c.in_ok-left-in-Dyadic.ensures c.term-in-Dyadic-2.ensures)

pub call-returns-in-Through : goal.call-returns-in-Through
call-returns-in-Through t c =
    subst (λ x. IfOk c.call_by.result (λ made. n.term made ≡ x))
    (callee_opened (seen.scope c.args.scope.now) c.args.callee.now _ _ _ c.in-Through.is c.get-value.ensures)
    (c.call_by.ensures (valued (seen.scope c.args.scope.now) c.get-value.result.now) c.mode_of.ensures c.term-procedure.ensures)
