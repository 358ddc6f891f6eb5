use Rattle.std.proofs.Common.{◌≡◌, ◌∷◌, [], List, IfOk, ap, ◌∙◌, subst}
use Rattle.rt_work_state.specs.Nodes as n
use Rattle.rt_icode.specs.declared.ins.Ins.{Ins}
use Rattle.rt_icode.specs.declared.ins.Ins.TheVariants as ins
use Rattle.rt_lower.specs.Drafts.{put, sequence, laid_out}
use Rattle.rt_lower.proofs.Whole.{written}
use Rattle.rt_lower.proofs.module.code_of.Goals as goal

pub returns : goal.returns
returns c =
    let l = c.args.layouts.now in
    let q = n.seq c.args.tree.now in
    subst (λ (is : List Ins). IfOk c.laid_out.result (λ x. x ≡ is))
    (ap laid_out (c.in_ok-put-2.ensures ∙ ap (put (ins.Leave ∷ [])) (c.in_ok-sequence.ensures ∙ ap (sequence l q) (c.in_ok-put.ensures ∙ ap (put (c.args.enter ∷ [])) c.in_ok-draft.ensures))) ∙ written l c.args.enter q)
    c.laid_out.ensures
