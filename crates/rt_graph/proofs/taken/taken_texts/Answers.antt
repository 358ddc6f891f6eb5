use Rattle.std.proofs.Common.{◌≡◌, Bool, false, List, replicate, length, ap, ◌∙◌}
use Rattle.rt_tree_nodes.specs.declared.store.Proc.{Proc}
use Rattle.rt_graph.specs.Classes.{mark_all, texts_of, taken_texts}
use Rattle.rt_graph.proofs.Ordered.{if_ok}
use Rattle.rt_graph.proofs.taken.taken_texts.Goals as goal

pub returns : goal.returns
returns c =
    let objects = c.args.objects.now in
    let of = c.args.bindings.now.of in
    if_ok (λ texts. texts ≡ texts_of objects c.as_slice.result.now 0 c.as_slice-2.result.now) (λ texts. texts ≡ taken_texts objects of) c.texts_of.result
    (λ texts e. e
    ∙ ap (λ (ms : List Bool). texts_of objects ms 0 c.as_slice-2.result.now) (c.as_slice.ensures.value ∙ c.in_ok-marks.ensures)
    ∙ ap (λ (fs : List Proc). texts_of objects (mark_all objects of (replicate (length c.args.row.now.bricks) false)) 0 fs) c.as_slice-2.ensures
    ∙ ap (λ (fs : List Proc). texts_of objects (mark_all objects of (replicate (length fs) false)) 0 fs) c.requires.row.bricks)
    c.texts_of.ensures
