-- The tasks whose delay a tick ends take their stamps in the order of their numbers.
use Rattle.std.proofs.Common.{◌≡◌, ◌≢◌, ℕ, suc, ◌+◌, ◌-◌, ◌<◌, ◌≤◌, true, length, refl, sym, ◌∙◌, ap, subst, arith}
use Rattle.std.proofs.lemmas.Bool.{le-leb}
use Rattle.rt_rules.specs.declared.task.State.{State}
use Rattle.rt_rules.specs.declared.task.State.TheVariants.{Ready, Delayed}
use Rattle.rt_rules.specs.declared.task.TaskRow.{TaskRow}
use Rattle.rt_rules.specs.Roster.{Roster, row, IsTask}
use Rattle.rt_rules.specs.Rules.{is_due, with_row, arrives, becomes, count_down}
use Rattle.rt_rules.proofs.Rows.{by_cases, at_row, row-with_row_same, row-with_row_other, length-with_row}
use Rattle.rt_rules.proofs.Walks.{count_down_goes, count_task_cases}

-- every stamp is below the next one
abbrev pub AreEarlier : Roster → Type 0
AreEarlier q = (j : ℕ) → IsTask q j → (row q j).stamp < q.stamp

-- the delays of the first k tasks of q are counted down
pub record Counted (q : Roster) (k : ℕ) (z : Roster) : Type 0 where
  pub same : length z.tasks ≡ length q.tasks
  pub up : q.stamp ≤ z.stamp
  pub earlier : (j : ℕ) → IsTask q j → (row z j).stamp < z.stamp
  pub rest : (j : ℕ) → IsTask q j → k < j → row z j ≡ row q j
  pub ready : (j : ℕ) → IsTask q j → (row q j).state ≡ Ready → row z j ≡ row q j
  pub due : (j : ℕ) → IsTask q j → q.stamp ≤ (row z j).stamp → is_due (row q j).state ≡ true
  pub rising : (j m : ℕ) → IsTask q j → IsTask q m → q.stamp ≤ (row z j).stamp → q.stamp ≤ (row z m).stamp → j < m → (row z j).stamp < (row z m).stamp

not_ready : (t : TaskRow) (n : ℕ) → t.state ≡ Delayed n → t.state ≡ Ready → ⊥
not_ready t n e f = cc

due_by : (s : State) (n : ℕ) → s ≡ Delayed n → n ≤ 1 → is_due s ≡ true
due_by s n e h = ap is_due e ∙ le-leb n 1 h

state_was : (t u : TaskRow) (n : ℕ) → t ≡ u → t.state ≡ Delayed n → u.state ≡ Delayed n
state_was t u n e f = ap (λ (v : TaskRow). v.state) (sym e) ∙ f

counted_none : (q : Roster) → AreEarlier q → Counted q 0 q
counted_none q early =
    record {
      same = refl;
      up = omega arith;
      earlier = early;
      rest = λ j h l. refl;
      ready = λ j h e. refl;
      due = λ j h l. absurd (let b = early j h in omega arith);
      rising = λ j m h i a b l. absurd (let c = early j h in omega arith);
    }

stamp_other : (z : Roster) (n j : ℕ) (t : TaskRow) → 1 ≤ n → 1 ≤ j → j ≢ n → (row (with_row z n t) j).stamp ≡ (row z j).stamp
stamp_other z n j t a b d = ap (λ (u : TaskRow). u.stamp) (row-with_row_other z n j t a b d)

counted_arrives : (q : Roster) (k : ℕ) (z : Roster) (m : ℕ) → AreEarlier q → Counted q k z → IsTask z (suc k) → (row z (suc k)).state ≡ Delayed m → m ≤ 1 → Counted q (suc k) (arrives z (suc k) Ready)
counted_arrives q k z m early c there delayed one =
    let n = suc k in
    let t : TaskRow = record { state = Ready; priority = (row z (suc k)).priority; stamp = z.stamp } in
    let same = c.same in
    let up = c.up in
    let last = there.1 in
    let own : IsTask q (suc k) = (there.0, omega arith) in
    let was : row z (suc k) ≡ row q (suc k) = c.rest (suc k) own (omega arith) in
    let here : (row (arrives z (suc k) Ready) (suc k)).stamp ≡ z.stamp = ap (λ (u : TaskRow). u.stamp) (row-with_row_same z (suc k) t there) in
    record {
      same = length-with_row z (suc k) t ∙ c.same;
      up = omega arith;
      earlier = λ j h.
          at_row (λ (u : TaskRow). u.stamp < z.stamp + 1) z (suc k) j t there h.0 (λ _. omega arith) (λ _. let b = c.earlier j h in omega arith);
      rest = λ j h l. row-with_row_other z (suc k) j t there.0 h.0 (λ (e : j ≡ suc k). omega arith) ∙ c.rest j h (omega arith);
      ready = λ j h e.
          by_cases j (suc k)
          (λ f. absurd (not_ready (row q (suc k)) m (state_was (row z (suc k)) (row q (suc k)) m was delayed) (subst (λ x. (row q x).state ≡ Ready) f e)))
          (λ d. row-with_row_other z (suc k) j t there.0 h.0 d ∙ c.ready j h e);
      due = λ j h l.
          by_cases j (suc k)
          (λ f. subst (λ x. is_due (row q x).state ≡ true) (sym f) (due_by (row q (suc k)).state m (state_was (row z (suc k)) (row q (suc k)) m was delayed) one))
          (λ d. c.due j h (let s = stamp_other z (suc k) j t there.0 h.0 d in omega arith));
      rising = λ j i h g a b l.
          by_cases i (suc k)
          (λ f.
          let s = stamp_other z (suc k) j t there.0 h.0 (λ (e : j ≡ suc k). omega arith) in
          let before = c.earlier j h in
          let new : (row (arrives z (suc k) Ready) i).stamp ≡ z.stamp = subst (λ x. (row (arrives z (suc k) Ready) x).stamp ≡ z.stamp) (sym f) here in
          omega arith)
          (λ d.
          let si = stamp_other z (suc k) i t there.0 g.0 d in
          by_cases j (suc k)
          (λ f.
          let old = ap (λ (u : TaskRow). u.stamp) (c.rest i g (omega arith)) in
          let low = early i g in
          absurd (omega arith))
          (λ o.
          let sj = stamp_other z (suc k) j t there.0 h.0 o in
          let rise = c.rising j i h g (omega arith) (omega arith) l in
          omega arith));
    }

counted_becomes : (q : Roster) (k : ℕ) (z : Roster) (m o : ℕ) → Counted q k z → IsTask z (suc k) → (row z (suc k)).state ≡ Delayed m → Counted q (suc k) (becomes z (suc k) (Delayed o))
counted_becomes q k z m o c there delayed =
    let t : TaskRow = record { state = Delayed o; priority = (row z (suc k)).priority; stamp = (row z (suc k)).stamp } in
    let same = c.same in
    let last = there.1 in
    let own : IsTask q (suc k) = (there.0, omega arith) in
    let was : row z (suc k) ≡ row q (suc k) = c.rest (suc k) own (omega arith) in
    let stamps : (j : ℕ) → IsTask q j → (row (becomes z (suc k) (Delayed o)) j).stamp ≡ (row z j).stamp =
    λ j h. at_row (λ (u : TaskRow). u.stamp ≡ (row z j).stamp) z (suc k) j t there h.0 (λ e. ap (λ x. (row z x).stamp) (sym e)) (λ _. refl) in
    record {
      same = length-with_row z (suc k) t ∙ c.same;
      up = c.up;
      earlier = λ j h. let s = stamps j h in let b = c.earlier j h in omega arith;
      rest = λ j h l. row-with_row_other z (suc k) j t there.0 h.0 (λ (e : j ≡ suc k). omega arith) ∙ c.rest j h (omega arith);
      ready = λ j h e.
          by_cases j (suc k)
          (λ f. absurd (not_ready (row q (suc k)) m (state_was (row z (suc k)) (row q (suc k)) m was delayed) (subst (λ x. (row q x).state ≡ Ready) f e)))
          (λ d. row-with_row_other z (suc k) j t there.0 h.0 d ∙ c.ready j h e);
      due = λ j h l. c.due j h (let s = stamps j h in omega arith);
      rising = λ j i h g a b l.
          let sj = stamps j h in
          let si = stamps i g in
          let rise = c.rising j i h g (omega arith) (omega arith) l in
          omega arith;
    }

counted_on : (q : Roster) (k : ℕ) (z : Roster) → Counted q k z → Counted q (suc k) z
counted_on q k z c =
    record {
      same = c.same;
      up = c.up;
      earlier = c.earlier;
      rest = λ j h l. c.rest j h (omega arith);
      ready = c.ready;
      due = c.due;
      rising = c.rising;
    }

pub counted_all : (q : Roster) → AreEarlier q → Counted q (length q.tasks) (count_down q)
counted_all q early =
    count_down_goes (Counted q) q
    (λ k z there _ c.
    count_task_cases (Counted q (suc k)) z (suc k)
    (λ m delayed one. counted_arrives q k z m early c there delayed one)
    (λ m delayed _. counted_becomes q k z m (m - 1) c there delayed)
    (λ _. counted_on q k z c))
    (counted_none q early)
