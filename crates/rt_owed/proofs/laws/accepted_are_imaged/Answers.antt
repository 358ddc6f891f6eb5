use Rattle.rt_owed.proofs.laws.accepted_are_imaged.Goals as goal

pub returns : goal.returns
returns c ps ls os tasks image mapped s fit stay =
    let memory = c.images_lie_in_memory.ensures in
    let bindings = c.bindings_lead.ensures in
    c.systems_are_imaged.ensures
    (record { laid = c.images_lie_as_laid.ensures; stacks = c.each_has_a_stack.ensures; order = memory.order; memory = memory.memory })
    c.bytes_are_counted.ensures c.tasks_are_those_of_the_lines.ensures
    (record { all = bindings.all; entries = bindings.entries; supplied = bindings.supplied })
    ps ls os tasks image mapped s fit stay
