use Rattle.rt_image.specs.Memory.{words_bytes}
use Rattle.rt_tasks.specs.Words.{code_words, code_marks}
use Rattle.rt_tasks.proofs.Words.{as_many}
use Rattle.pdp_core.specs.Told.{stop_of}
use Rattle.rt_tasks.proofs.Ended.{one_step}
use Rattle.rt_tasks.proofs.tasks.Running.carry_on.Goals as goal

pub returns-clause-done : goal.returns-clause-done
returns-clause-done c =
    let m = c.shared.inside.memory in
    let n = c.carry_on.new.bus in
    rw (← c.shared.view_is) (one_step (code_words m.code.items) (words_bytes m.data_words.items) (words_bytes m.own.words.items) (code_marks m.code.items) m.places m.words m.ends m.order (code_words n.code.items) (words_bytes n.data_words.items) (words_bytes n.own.words.items) (code_marks n.code.items) n.places n.ends n.order (as_many m.code.items) (as_many n.code.items) c.args.self.now.regs c.carry_on.new.regs (stop_of c.carry_on.result c.carry_on.new.stop) c.carry_on.ensures.done).0

pub returns-clause-fault : goal.returns-clause-fault
returns-clause-fault c =
    let m = c.shared.inside.memory in
    let n = c.carry_on.new.bus in
    λ kind at h. rw (← c.shared.view_is) ((one_step (code_words m.code.items) (words_bytes m.data_words.items) (words_bytes m.own.words.items) (code_marks m.code.items) m.places m.words m.ends m.order (code_words n.code.items) (words_bytes n.data_words.items) (words_bytes n.own.words.items) (code_marks n.code.items) n.places n.ends n.order (as_many m.code.items) (as_many n.code.items) c.args.self.now.regs c.carry_on.new.regs (stop_of c.carry_on.result c.carry_on.new.stop) c.carry_on.ensures.done).1 kind at h)

pub returns-clause-asks : goal.returns-clause-asks
returns-clause-asks c =
    let m = c.shared.inside.memory in
    let n = c.carry_on.new.bus in
    λ k h. rw (← c.shared.view_is) ((one_step (code_words m.code.items) (words_bytes m.data_words.items) (words_bytes m.own.words.items) (code_marks m.code.items) m.places m.words m.ends m.order (code_words n.code.items) (words_bytes n.data_words.items) (words_bytes n.own.words.items) (code_marks n.code.items) n.places n.ends n.order (as_many m.code.items) (as_many n.code.items) c.args.self.now.regs c.carry_on.new.regs (stop_of c.carry_on.result c.carry_on.new.stop) c.carry_on.ensures.done).2 k h)

pub returns-clause-answers : goal.returns-clause-answers
returns-clause-answers c =
    let m = c.shared.inside.memory in
    let n = c.carry_on.new.bus in
    rw (← c.shared.view_is) (one_step (code_words m.code.items) (words_bytes m.data_words.items) (words_bytes m.own.words.items) (code_marks m.code.items) m.places m.words m.ends m.order (code_words n.code.items) (words_bytes n.data_words.items) (words_bytes n.own.words.items) (code_marks n.code.items) n.places n.ends n.order (as_many m.code.items) (as_many n.code.items) c.args.self.now.regs c.carry_on.new.regs (stop_of c.carry_on.result c.carry_on.new.stop) c.carry_on.ensures.done).3
