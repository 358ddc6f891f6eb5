use Rattle.std.proofs.Common.{ℕ, List, get_or, sym, ◌∙◌, ap, subst, arith}
use Rattle.rt_run.specs.Queues.{queue_of, IsHead, AreEmpty}
use Rattle.rt_run.proofs.Tabled.{head_found, none_found}
use Rattle.rt_run.proofs.queues.Queues.head.Goals as goal

pub returns-in-Some : goal.returns-in-Some
returns-in-Some c =
    let p = c.in-Some.priority in
    subst (λ (qs : List (List ℕ)). IsHead qs (get_or c.tasks.result.now 0 0)) c.self.view_is
    (head_found c.self.inside.taken.words c.self.inside.queues.items p (get_or c.tasks.result.now 0 0) c.self.invariant (omega arith) c.in-Some.ensures
    (ap (λ (qs : List (List ℕ)). get_or (queue_of qs p) 0 0) c.self.view_is ∙ ap (λ (xs : List ℕ). get_or xs 0 0) (sym c.tasks.ensures)))

pub returns-in-None : goal.returns-in-None
returns-in-None c =
    subst AreEmpty c.self.view_is (none_found c.self.inside.taken.words c.self.inside.queues.items c.self.invariant c.in-None.ensures)
