use Rattle.rt_tree.specs.Taken.{in_path, in_term, in_terms}
use Rattle.rt_work_state.specs.Nodes as n
use Rattle.rt_compile.proofs.Marking.{then_ok}
use Rattle.rt_compile.proofs.taken.values.+values.Goals as goal

pub both-returns : goal.both-returns
both-returns t c = then_ok c.term-2.result (in_term (n.term c.args.left.now)) (in_term (n.term c.args.right.now)) c.args.marks.now c.term.new.marks c.term-2.new.marks c.in_ok-term.ensures c.term-2.ensures

pub path-returns-in_ok-path-in-Elem : goal.path-returns-in_ok-path-in-Elem
path-returns-in_ok-path-in-Elem t c =
    rw c.in-Elem.is (then_ok c.term.result (in_path (n.path c.in-Elem.outer.value)) (in_term (n.term c.in-Elem.subscript.value)) c.args.marks.now c.path-in-Elem.new.marks c.term.new.marks (rw c.deref-in-Elem.ensures at c.in_ok-path-in-Elem.ensures) (rw c.deref-in-Elem-2.ensures at c.term.ensures))

pub term-returns-in_ok-term-in-ApplyBy : goal.term-returns-in_ok-term-in-ApplyBy
term-returns-in_ok-term-in-ApplyBy t c =
    rw c.in-ApplyBy.is (then_ok c.terms-in-ApplyBy.result (in_term (n.term c.in-ApplyBy.called.value)) (in_terms (n.terms c.in-ApplyBy.arguments.value)) c.args.marks.now c.term-in-ApplyBy.new.marks c.terms-in-ApplyBy.new.marks (rw c.deref-in-ApplyBy.ensures at c.in_ok-term-in-ApplyBy.ensures) (rw c.deref-in-ApplyBy-2.ensures at c.terms-in-ApplyBy.ensures))

pub terms-returns-in_ok-term-in-MoreTerms : goal.terms-returns-in_ok-term-in-MoreTerms
terms-returns-in_ok-term-in-MoreTerms t c =
    rw c.in-MoreTerms.is (then_ok c.terms.result (in_term (n.term c.in-MoreTerms.first.value)) (in_terms (n.terms c.in-MoreTerms.rest.value)) c.args.marks.now c.term.new.marks c.terms.new.marks (rw c.deref.ensures at c.in_ok-term-in-MoreTerms.ensures) (rw c.deref-in-MoreTerms.ensures at c.terms.ensures))
