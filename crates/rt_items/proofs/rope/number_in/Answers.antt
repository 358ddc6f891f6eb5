use Rattle.std.proofs.Common.{Some, sym, ap, ◌∙◌}
use Rattle.rt_items.specs.Ropes.{one_number}
use Rattle.rt_items.proofs.Ropes.{none_is, run_text, join_number}
use Rattle.rt_items.proofs.rope.number_in.Goals as goal

pub returns-in-Some-Run : goal.returns-in-Some-Run
returns-in-Some-Run c =
    c.number_of.ensures ∙ ap one_number (c.as_slice.ensures ∙ sym (run_text c.args.nodes.now c.args.at c.requires c.in-Some-Run.run' (ap Some (sym c.in-Some-Run.field-0-is) ∙ c.in-Some-Run.ensures.value)))

pub returns-in-Some-Join : goal.returns-in-Some-Join
returns-in-Some-Join c = join_number c.args.nodes.now c.args.at c.requires _ (ap Some (sym c.in-Some-Join.field-0-is) ∙ c.in-Some-Join.ensures.value)

pub returns-in-None : goal.returns-in-None
returns-in-None c = ap one_number (sym (none_is c.args.nodes.now c.args.at (sym c.in-None.ensures.value)))
