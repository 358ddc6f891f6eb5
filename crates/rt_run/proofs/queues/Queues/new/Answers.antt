use Rattle.std.proofs.Common.{◌≡◌, ◌++◌, [], ◌∷◌, true, List, ℕ, subst, arith, if◌then◌else◌, replicate, vec_len}
use Rattle.std.specs.Result.{is_ok}
use Rattle.rt_run.proofs.Tabled.{empty_marked, filled_more, one_more}
use Rattle.rt_run.proofs.queues.Queues.new.Goals as goal

pub loop-queues-preserved : goal.loop-queues-preserved
loop-queues-preserved c =
    let ok : is_ok c.push.result ≡ true = cc (c.if-is_err.ensures.negation) in (
      filled_more c.loop-queues.queues.items c.push.new.self.items (vec_len c.loop-queues.queues) (vec_len c.push.new.self) (is_ok c.push.result) c.loop-queues.invariant.0 ok
          (subst (λ (q : List ℕ). c.push.new.self.items ≡ (if is_ok c.push.result then c.loop-queues.queues.items ++ q ∷ [] else c.loop-queues.queues.items)) c.new.ensures c.push.ensures.items)
          c.push.ensures.len,
      one_more (vec_len c.loop-queues.queues) (vec_len c.push.new.self) (is_ok c.push.result) ok c.push.ensures.len (omega arith),
    )

pub invariant_of-result : goal.invariant_of-result
invariant_of-result c =
    let most = c.loop-queues.invariant.1 in
    let full : vec_len c.loop-queues.queues ≡ 256 = omega arith in
    empty_marked c.new-2.result.words c.loop-queues.queues.items
    (subst (λ (n : ℕ). c.loop-queues.queues.items ≡ replicate {A = List ℕ} n []) full c.loop-queues.invariant.0)
    c.new-2.ensures
