use Rattle.std.proofs.Common.{◌≡◌, ◌+◌, ◌&&◌, map, refl, ap, ◌∙◌}
use Rattle.rt_tree_nodes.specs.Code as seen
use Rattle.rt_frames.specs.Measures as measures
use Rattle.rt_frames.specs.Measures.{Passing, pass_all, passing_of, passing_from}
use Rattle.rt_frames.specs.Points as spec
use Rattle.rt_frames.specs.Saturated.{saturated}
use Rattle.rt_frames.proofs.values.+walk.Goals as goal
use Rattle.rt_frames.proofs.Passed.{all_passed, depth_done, calls_passed, loop_done}
use Rattle.rt_frames.proofs.Reached.{field_reached, element_reached, element_calls, read_measured, reference_measured, length_measured, dyadic_measured, dyadic_calls, call_calls, arguments_called}

done : {t : _} (c : goal.arguments-After-all_passed t)
    → passing_of c.loop-argument.passing c.loop-argument.calls ≡ pass_all (passing_from c.args.at c.args.offset c.args.wanted.now c.args.calls.now) (map (spec.value_points (seen.scope c.args.scope.now)) c.args.values.now)
done c = loop_done (spec.value_points (seen.scope c.args.scope.now)) (passing_of c.loop-argument.passing c.loop-argument.calls) (passing_from c.args.at c.args.offset c.args.wanted.now c.args.calls.now) c.args.values.now
    c.loop-argument.argument-index c.loop-argument-test.false c.loop-argument.invariant

pub arguments-returns-clause-suit : goal.arguments-returns-clause-suit
arguments-returns-clause-suit t c =
    c.all_passed.ensures.suit ∙ ap (λ (s : Passing). s.suit && measures.is_none s.wanted) (done c)
    ∙ all_passed (passing_from c.args.at c.args.offset c.args.wanted.now c.args.calls.now) (map (spec.value_points (seen.scope c.args.scope.now)) c.args.values.now)

pub arguments-returns-clause-depth : goal.arguments-returns-clause-depth
arguments-returns-clause-depth t c =
    c.all_passed.ensures.depth ∙ ap (λ (s : Passing). s.depth) (done c)
    ∙ depth_done (passing_from c.args.at c.args.offset c.args.wanted.now c.args.calls.now) (map (spec.value_points (seen.scope c.args.scope.now)) c.args.values.now) refl

pub arguments-returns-clause-calls : goal.arguments-returns-clause-calls
arguments-returns-clause-calls t c =
    ap (λ (s : Passing). s.calls) (done c)
    ∙ calls_passed (seen.scope c.args.scope.now) (passing_from c.args.at c.args.offset c.args.wanted.now c.args.calls.now) c.args.values.now

pub place-returns-in_ok-record-in-Field-clause-reached : goal.place-returns-in_ok-record-in-Field-clause-reached
place-returns-in_ok-record-in-Field-clause-reached t c =
    field_reached (seen.scope c.args.scope.now) c.args.place.now _ c.get.result.now c.in-Field.k c.in_ok-record-in-Field.record c.field.result c.in-Field.is c.get.ensures c.in_ok-record-in-Field.ensures.reached c.field.ensures.found c.field.ensures.address

pub place-returns-in_ok-subscript-in-Element-clause-reached : goal.place-returns-in_ok-subscript-in-Element-clause-reached
place-returns-in_ok-subscript-in-Element-clause-reached t c =
    element_reached (seen.scope c.args.scope.now) c.args.place.now _ c.get-in-Element.result.now _ c.get-in-Element-2.result.now c.in_ok-array-in-Element.array c.in_ok-subscript-in-Element.subscript c.element.result c.in-Element.is
    c.get-in-Element.ensures c.get-in-Element-2.ensures c.in_ok-array-in-Element.ensures.reached c.in_ok-subscript-in-Element.ensures.measured c.element.ensures.found c.element.ensures.address

pub place-returns-in_ok-subscript-in-Element-clause-calls : goal.place-returns-in_ok-subscript-in-Element-clause-calls
place-returns-in_ok-subscript-in-Element-clause-calls t c =
    element_calls (seen.scope c.args.scope.now) c.args.place.now _ c.get-in-Element.result.now _ c.get-in-Element-2.result.now c.in_ok-array-in-Element.array c.args.below c.plus-above.result c.args.calls.now c.place-in-Element.new.calls c.value.new.calls
    c.in-Element.is c.get-in-Element.ensures c.get-in-Element-2.ensures c.in_ok-array-in-Element.ensures.reached (c.plus-above.ensures ∙ ap (λ n. saturated (c.args.below + n)) c.words.ensures) c.in_ok-array-in-Element.ensures.calls
    c.in_ok-subscript-in-Element.ensures.calls

pub value-returns-in_ok-reached-in-Read-clause-measured : goal.value-returns-in_ok-reached-in-Read-clause-measured
value-returns-in_ok-reached-in-Read-clause-measured t c =
    read_measured (seen.scope c.args.scope.now) c.args.value.now _ c.get.result.now c.in_ok-reached-in-Read.reached c.read.result c.in-Read.is c.get.ensures c.in_ok-reached-in-Read.ensures.reached c.read.ensures.mode c.read.ensures.depth c.read.ensures.number

pub value-returns-in_ok-reached-in-Reference-clause-measured : goal.value-returns-in_ok-reached-in-Reference-clause-measured
value-returns-in_ok-reached-in-Reference-clause-measured t c =
    reference_measured (seen.scope c.args.scope.now) c.args.value.now _ c.get-in-Reference.result.now c.in_ok-reached-in-Reference.reached c.reference.result c.in-Reference.is c.get-in-Reference.ensures c.in_ok-reached-in-Reference.ensures.reached
    c.reference.ensures.mode c.reference.ensures.depth c.reference.ensures.number

pub value-returns-in_ok-reached-in-Length-clause-measured : goal.value-returns-in_ok-reached-in-Length-clause-measured
value-returns-in_ok-reached-in-Length-clause-measured t c =
    length_measured (seen.scope c.args.scope.now) c.args.value.now _ c.get-in-Length.result.now c.in_ok-reached-in-Length.reached c.length.result c.in-Length.is c.get-in-Length.ensures c.in_ok-reached-in-Length.ensures.reached
    c.length.ensures.mode c.length.ensures.depth c.length.ensures.number

pub value-returns-in_ok-error_point-in-Dyadic-clause-calls : goal.value-returns-in_ok-error_point-in-Dyadic-clause-calls
value-returns-in_ok-error_point-in-Dyadic-clause-calls t c =
    dyadic_calls (seen.scope c.args.scope.now) c.args.value.now _ _ c.get-in-Dyadic.result.now c.get-in-Dyadic-2.result.now c.in-Dyadic.operator c.in_ok-right-in-Dyadic.right.number c.args.below c.plus-above.result c.args.calls.now c.value-in-Dyadic.new.calls
    c.value-in-Dyadic-2.new.calls c.error_point.new.calls c.in-Dyadic.is c.get-in-Dyadic.ensures c.get-in-Dyadic-2.ensures c.plus-above.ensures c.in_ok-right-in-Dyadic.ensures.measured.number c.in_ok-left-in-Dyadic.ensures.calls
    c.in_ok-right-in-Dyadic.ensures.calls c.in_ok-error_point-in-Dyadic.ensures

pub value-returns-in_ok-error_point-in-Dyadic-clause-measured : goal.value-returns-in_ok-error_point-in-Dyadic-clause-measured
value-returns-in_ok-error_point-in-Dyadic-clause-measured t c =
    dyadic_measured (seen.scope c.args.scope.now) c.args.value.now _ _ c.get-in-Dyadic.result.now c.get-in-Dyadic-2.result.now c.in-Dyadic.operator c.in_ok-left-in-Dyadic.left c.in_ok-right-in-Dyadic.right c.dyadic.result c.in-Dyadic.is
    c.get-in-Dyadic.ensures c.get-in-Dyadic-2.ensures c.in_ok-left-in-Dyadic.ensures.measured c.in_ok-right-in-Dyadic.ensures.measured c.dyadic.ensures.mode c.dyadic.ensures.depth c.dyadic.ensures.number

pub call-returns-clause-calls : goal.call-returns-clause-calls
call-returns-clause-calls t c =
    arguments_called (seen.scope c.args.scope.now) c.args.values.now c.args.called.target c.args.below c.plus-at.result c.args.called.takes c.args.calls.now c.arguments.new.calls c.call_point.new.calls c.plus-at.ensures c.in_ok-found.ensures.calls
    c.in_ok-call_point.ensures

pub value-returns-in_ok-result-in-Call-clause-calls : goal.value-returns-in_ok-result-in-Call-clause-calls
value-returns-in_ok-result-in-Call-clause-calls t c =
    call_calls (seen.scope c.args.scope.now) c.args.value.now _ _ _ c.as_slice.result.now c.in_ok-called-in-Call.called c.args.below c.args.calls.now c.callee.new.calls c.call.new.calls c.in-Call.is refl c.as_slice.ensures
    c.in_ok-called-in-Call.ensures.called c.in_ok-called-in-Call.ensures.calls c.in_ok-result-in-Call.ensures.calls
