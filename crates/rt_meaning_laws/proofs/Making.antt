-- Several steps of one task in a row keep types; and what holds of them by two accounts holds together.
use Rattle.std.proofs.Common.{ℕ, zero, suc, sym, subst}
use Rattle.rt_rules.specs.declared.service.Outcome.{Outcome}
use Rattle.rt_rules.specs.declared.service.Outcome.TheVariants.{Go}
use Rattle.rt_tree.specs.Stored.{HoldsInside, HoldsWritten}
use Rattle.rt_work_state.specs.declared.request.Request.{Request}
use Rattle.rt_work_state.specs.Stores.{Store}
use Rattle.rt_resolve.specs.World.{World}
use Rattle.rt_meaning.specs.Answers.{MayCome}
use Rattle.rt_meaning.specs.Step.{Task, task_step}
use Rattle.rt_meaning_laws.specs.Makes.{Makes, MakesKeep}
use Rattle.rt_meaning_laws.proofs.Steps.{steps_keep}

pub makes_both : (w : World) (n : ℕ) (t : Task) (S : Store) (o : Outcome) (P Q : Request → Task → Store → Type 0) → Makes w n t S o P → Makes w n t S o Q → Makes w n t S o (λ asked u R. P asked u R × Q asked u R)
makes_both w zero t S o P Q h g = (h, g)
makes_both w (suc zero) t S o P Q h g = (h, g)
makes_both w (suc (suc n)) t S o P Q h g = (h.0, h.1, makes_both w (suc n) (task_step w t S (Go 0)).task (task_step w t S (Go 0)).store o P Q h.2 g.2)

pub makes_keep : HoldsInside → HoldsWritten → MakesKeep
makes_keep holds_inside holds_written ps w zero t S o wf typed fits may h = (typed, fits)
makes_keep holds_inside holds_written ps w (suc zero) t S o wf typed fits may h = let k = steps_keep holds_inside holds_written ps w t S o wf typed fits may in (k.1, k.2)
makes_keep holds_inside holds_written ps w (suc (suc n)) t S o wf typed fits may h =
    let k = steps_keep holds_inside holds_written ps w t S (Go 0) wf typed fits (subst (λ (q : Request). MayCome q (Go 0)) (sym h.0) tt) in
    (h.0, h.1, makes_keep holds_inside holds_written ps w (suc n) (task_step w t S (Go 0)).task (task_step w t S (Go 0)).store o wf k.1 k.2 may h.2)
