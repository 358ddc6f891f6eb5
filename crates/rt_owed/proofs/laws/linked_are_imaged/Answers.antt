use Rattle.rt_owed.proofs.laws.linked_are_imaged.Goals as goal
use Rattle.rt_owed.proofs.Joined.{linked_are_imaged}

pub returns : goal.returns
returns c =
    let bindings = c.bindings_lead.ensures in
    linked_are_imaged c.tasks_are_those_of_the_lines.ensures (record { all = bindings.all; entries = bindings.entries; supplied = bindings.supplied }) c.modules_match_so.ensures c.accepted_are_imaged.ensures
