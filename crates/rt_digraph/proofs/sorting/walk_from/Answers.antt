use Rattle.std.proofs.Common.{◌≡◌, Some, length, get_or, slice_get, arith}
use Rattle.std.proofs.lemmas.Option.{slice_get-get_or}
use Rattle.rt_digraph.proofs.Ends.{marked_more, whole_at}
use Rattle.rt_digraph.proofs.sorting.walk_from.Goals as goal

pub loop-root-preserved : goal.loop-root-preserved
loop-root-preserved c =
    let graph = c.args.graph.now in
    let roots = c.args.roots.now in
    let i = c.loop-root.root-index in
    let r = get_or c.args.roots.now c.loop-root.root-index 0 in
    let at : slice_get roots i ≡ Some r = slice_get-get_or roots i 0 (omega arith) in (
      c.in_ok-begin.ensures.goes roots (i, at) c.loop-root.invariant.0,
      marked_more graph roots i r c.loop-root.walk.states c.begin.new.self.states c.loop-root.invariant.1 c.in_ok-begin.ensures.keeps at
          (λ l. c.in_ok-begin.ensures.here (let size : length c.loop-root.walk.states ≡ length graph = c.loop-root.invariant.0.going.size in omega arith)),
    )

pub returns : goal.returns
returns c = whole_at c.args.graph.now c.args.roots.now c.loop-root.root-index c.loop-root.walk (omega arith) c.loop-root.invariant.0 c.loop-root.invariant.1
