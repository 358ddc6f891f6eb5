use Rattle.std.proofs.Common.{false, List, ap, ◌∙◌}
use Rattle.rt_tree_nodes.specs.Code as seen
use Rattle.rt_tree_nodes.specs.Scopes.{scope_of, with_locals}
use Rattle.rt_tree_nodes.specs.Scopes.{Scope}
use Rattle.rt_frames.specs.declared.frame.CallPoint.{CallPoint}
use Rattle.rt_frames.specs.declared.statements.Walk.{Walk}
use Rattle.rt_frames.proofs.Framed.{frame_is}
use Rattle.rt_frames.proofs.procedure.body_frame.Goals as goal

abbrev begin : List CallPoint → Walk
begin cs = record { deep = 0; recovers = false; calls = cs }

pub returns : goal.returns
returns c =
    frame_is c.args.«module».now c.args.mode.now c.args.body.now (seen.scope c.with_locals-scope.result) (begin c.in_ok-new.field-0) c.body.new.self c.parameters-count.result c.word.result c.local_words.result c.len.result
    (c.with_locals-scope.ensures ∙ ap (λ (s : Scope). with_locals s c.as_slice.result.now) c.scope.ensures ∙ ap (λ ls. with_locals (scope_of c.args.«module».now) ls) c.as_slice.ensures) (ap begin c.in_ok-new.ensures) c.in_ok-body.ensures c.word.ensures
    c.parameters-count.ensures c.len.ensures c.local_words.ensures
