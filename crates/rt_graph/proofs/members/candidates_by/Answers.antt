use Rattle.std.proofs.Common.{◌≡◌, [], sym, ◌∙◌, subst}
use Rattle.rt_graph.specs.Candidates.{AreCandidates, members}
use Rattle.rt_graph.specs.Nodes.{total}
use Rattle.rt_graph.proofs.Found.{candidates_some, candidates_none}
use Rattle.rt_graph.proofs.Ordered.{if_ok}
use Rattle.rt_graph.proofs.members.candidates_by.Goals as goal

pub returns-in-Some : goal.returns-in-Some
returns-in-Some c =
    let objects = c.args.objects.now in
    let of = c.args.bindings.now.of in
    let table = c.in_ok-table.table in
    if_ok (λ fs. fs ≡ members (total table) c.in-Some.node table.classes.of 0 table.row.bricks) (AreCandidates objects of c.args.records.now c.args.mode.now) c.members.result
    (λ fs e. subst (AreCandidates objects of c.args.records.now c.args.mode.now) (sym e) (candidates_some objects of table c.in_ok-table.ensures c.args.records.now c.args.mode.now c.in-Some.node (sym c.in_ok-node.ensures ∙ c.in-Some.is)))
    c.members.ensures

pub returns : goal.returns
returns c =
    let objects = c.args.objects.now in
    let of = c.args.bindings.now.of in
    let table = c.in_ok-table.table in
    if_ok (λ fs. fs ≡ []) (AreCandidates objects of c.args.records.now c.args.mode.now) c.new.result
    (λ fs e. subst (AreCandidates objects of c.args.records.now c.args.mode.now) (sym e) (candidates_none objects of table c.in_ok-table.ensures c.args.records.now c.args.mode.now (sym c.in_ok-node.ensures ∙ c.in-None.is)))
    c.new.ensures
