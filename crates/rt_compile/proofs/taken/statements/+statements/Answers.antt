use Rattle.std.proofs.Common.{◌++◌, ◌∙◌, arith}
use Rattle.rt_tree.specs.Taken.{in_condition, in_path, in_sequence, in_statement, in_term}
use Rattle.rt_work_state.specs.Nodes as n
use Rattle.rt_compile.proofs.Marking.{left_over, then_ok}
use Rattle.rt_compile.proofs.taken.statements.+statements.Goals as goal

pub statement-returns-in_ok-path-in-Put : goal.statement-returns-in_ok-path-in-Put
statement-returns-in_ok-path-in-Put t c =
    rw c.in-Put.is (then_ok c.term-in-Put.result (in_path (n.path c.in-Put.at.value)) (in_term (n.term c.in-Put.v.value)) c.args.marks.now c.path.new.marks c.term-in-Put.new.marks (rw c.deref-in-Put.ensures at c.in_ok-path-in-Put.ensures) (rw c.deref-in-Put-2.ensures at c.term-in-Put.ensures))

pub statement-returns-in_ok-sequence-in-If : goal.statement-returns-in_ok-sequence-in-If
statement-returns-in_ok-sequence-in-If t c =
    let taken = in_sequence (n.seq c.in-If.taken.value) in
    let other = in_sequence (n.seq c.in-If.other.value) in
    rw c.in-If.is (then_ok c.sequence-in-If-2.result (in_condition (n.cond c.in-If.test.value)) (taken ++ other) c.args.marks.now c.condition.new.marks c.sequence-in-If-2.new.marks (rw c.deref-in-If.ensures at c.in_ok-condition-in-If.ensures)
    (then_ok c.sequence-in-If-2.result taken other c.condition.new.marks c.sequence-in-If.new.marks c.sequence-in-If-2.new.marks (rw c.deref-in-If-2.ensures at c.in_ok-sequence-in-If.ensures) (rw c.deref-in-If-3.ensures at c.sequence-in-If-2.ensures)))

pub statement-returns-in_ok-term-in-For-3 : goal.statement-returns-in_ok-term-in-For-3
statement-returns-in_ok-term-in-For-3 t c =
    let step = in_term (n.term c.in-For.step.value) in
    let end = in_term (n.term c.in-For.end.value) in
    let inner = in_sequence (n.seq c.in-For.q.value) in
    rw c.in-For.is (then_ok c.sequence-in-For.result (in_term (n.term c.in-For.start.value)) (step ++ (end ++ inner)) c.args.marks.now c.term-in-For.new.marks c.sequence-in-For.new.marks (rw c.deref-in-For.ensures at c.in_ok-term-in-For.ensures)
    (then_ok c.sequence-in-For.result step (end ++ inner) c.term-in-For.new.marks c.term-in-For-2.new.marks c.sequence-in-For.new.marks (rw c.deref-in-For-2.ensures at c.in_ok-term-in-For-2.ensures)
    (then_ok c.sequence-in-For.result end inner c.term-in-For-2.new.marks c.term-in-For-3.new.marks c.sequence-in-For.new.marks (rw c.deref-in-For-3.ensures at c.in_ok-term-in-For-3.ensures) (rw c.deref-in-For-4.ensures at c.sequence-in-For.ensures))))

pub statement-returns-in_ok-term-in-To : goal.statement-returns-in_ok-term-in-To
statement-returns-in_ok-term-in-To t c =
    rw c.in-To.is (then_ok c.sequence-in-To.result (in_term (n.term c.in-To.count.value)) (in_sequence (n.seq c.in-To.q.value)) c.args.marks.now c.term-in-To.new.marks c.sequence-in-To.new.marks (rw c.deref-in-To.ensures at c.in_ok-term-in-To.ensures) (rw c.deref-in-To-2.ensures at c.sequence-in-To.ensures))

pub statement-returns-in_ok-condition-in-While : goal.statement-returns-in_ok-condition-in-While
statement-returns-in_ok-condition-in-While t c =
    rw c.in-While.is (then_ok c.sequence-in-While.result (in_condition (n.cond c.in-While.test.value)) (in_sequence (n.seq c.in-While.q.value)) c.args.marks.now c.condition-in-While.new.marks c.sequence-in-While.new.marks (rw c.deref-in-While.ensures at c.in_ok-condition-in-While.ensures) (rw c.deref-in-While-2.ensures at c.sequence-in-While.ensures))

pub sequence-loop-rest-preserved : goal.sequence-loop-rest-preserved
sequence-loop-rest-preserved t c = record {
  left = rw c.deref-rest-in-Then.ensures (left_over (in_statement (n.stmt c.in-Then.s.value)) (in_sequence (n.seq c.in-Then.behind.value)) c.loop-rest.marks c.statement.new.marks (rw c.deref.ensures at c.in_ok-statement-in-Then.ensures) ∙ rw c.in-Then.is at c.loop-rest.invariant.left);
  size = rw c.deref-rest-in-Then.ensures (let h = rw c.in-Then.is at c.loop-rest.invariant.size in omega (arith, h));
}
