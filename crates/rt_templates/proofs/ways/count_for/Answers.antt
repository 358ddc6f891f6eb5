use Rattle.std.proofs.Common.{◌≡◌, ap, ◌∙◌, subst, OnOk}
use Rattle.rt_templates.specs.Lines.{after}
use Rattle.rt_templates.specs.Ways as ways
use Rattle.rt_templates.proofs.Behind.{after_append}
use Rattle.rt_templates.proofs.ways.count_for.Goals as goal

pub returns : goal.returns
returns c =
    let counted = ways.count_turns c.args.layout.now c.args.local in
    let started = ways.start_turns c.args.layout.now c.args.local c.args.hole in
    subst (λ z. OnOk c.start_turns.result (c.start_turns.new.out ≡ z)) (ap (λ v. after v started) c.in_ok-count_turns.ensures ∙ after_append c.args.out.now counted started) c.start_turns.ensures
