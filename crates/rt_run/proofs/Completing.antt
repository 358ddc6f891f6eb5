-- A machine after a turn.
use Rattle.std.proofs.Common.{◌≡◌, ℕ, ◌+◌, ◌-◌, ◌*◌, ◌≤◌, List, length, Option, Some, None, refl, sym, ap, ◌∙◌, subst, inl, inr, arith, length-set}
use Rattle.std.specs.Prelude.{slice_get, slice_set}
use Rattle.std.proofs.lemmas.Bool.Decides.{eqb_tells}
use Rattle.pdp_core.specs.declared.cpu.Regs.{Regs}
use Rattle.rt_rules.specs.Roster.{Roster}
use Rattle.rt_tasks.specs.Parts.{Sharing, Task, EndAt, at_rest, with_task, task_of}
use Rattle.rt_run.specs.declared.machine.Machine.{Machine}
use Rattle.rt_run.specs.declared.stretch.Stretch.{Stretch}
use Rattle.rt_run.specs.Inputs.{Feed}
use Rattle.rt_run.specs.Picture.{IsComplete, present, standing}
use Rattle.rt_run.specs.Turn.{Lasts, Stretches, IsLent, Turns}
use Rattle.rt_run.proofs.Slots.{all_some, put_present, put_there}
use Rattle.rt_run.proofs.Turning.{turned, running_shown, get_below, get_set_same, get_set_other}

-- ---- a task that was lent what all share

module _ (i most : ℕ) (x : Stretch) (from to : Feed) (written written2 : Option (List ℕ)) (r r2 : Roster) (sh : Sharing) (t : Task) where
  -- the parts of a task that was parked are what ran
  pub lent_by : (g h : Regs) (s s2 rest : Sharing) (t2 : Task) → g ≡ t.regs → s ≡ with_task sh t → t2 ≡ task_of h s2 → rest ≡ at_rest s2 → Stretches i most x from written g s r to written2 h s2 r2 → Lasts s r x.count s2 r2 → IsLent i most x from written sh t r to written2 rest t2 r2
  lent_by g h s s2 rest t2 a b c d p l =
      let back : s2 ≡ with_task rest t2 = rw (c, d) refl in
      let after : h ≡ t2.regs = ap (λ (u : Task). u.regs) (sym c) in
      record {
        stretches =
            subst (λ (y : Regs). Stretches i most x from written y (with_task sh t) r to written2 t2.regs (with_task rest t2) r2) a
            (subst (λ (y : Sharing). Stretches i most x from written g y r to written2 t2.regs (with_task rest t2) r2) b
            (subst (λ (y : Regs). Stretches i most x from written g s r to written2 y (with_task rest t2) r2) after
            (subst (λ (y : Sharing). Stretches i most x from written g s r to written2 h y r2) back p)));
        lasts =
            subst (λ (y : Sharing). Lasts y r x.count (with_task rest t2) r2) b
            (subst (λ (y : Sharing). Lasts s r x.count y r2) back l);
        rests = d ∙ sym (ap at_rest d);
      }

-- ---- the machine is complete again

pub complete : (m m2 : Machine) (k p : ℕ) (t t2 : Task) → IsComplete m → slice_get (present m.tasks.items) k ≡ Some t → m.instructions + p ≤ 4000000000 → Lasts (with_task m.shared t) m.supervisor p (with_task m2.shared t2) m2.supervisor → m2.shared ≡ at_rest m2.shared → m2.tasks.items ≡ slice_set (slice_set m.tasks.items k None) k (Some t2) → m2.timetable.gaps ≡ m.timetable.gaps → m2.timetable.since ≡ m.timetable.since + p → m2.instructions ≡ m.instructions + p → m2.steps ≤ m.steps + 255 * p → IsComplete m2
complete m m2 k p t t2 c got few lasts rests items gaps since count steps =
    let ts : present m2.tasks.items ≡ slice_set (present m.tasks.items) k t2 = ap present items ∙ put_present m.tasks.items k None t2 c.all_there in
    let long : length m2.tasks.items ≡ length m.tasks.items = ap (λ (x : List (Option Task)). length x) items ∙ length-set (slice_set m.tasks.items k None) k (Some t2) ∙ length-set m.tasks.items k None in
    let g : length m2.timetable.gaps ≡ length m.timetable.gaps = ap (λ (x : List ℕ). length x) gaps in
    let places : t2.places ≡ t.places = lasts.places in
    let codes : length m2.shared.code ≡ length m.shared.code = ap (λ (x : List ℕ). length x) lasts.code in
    record {
      all_there = items ∙ put_there m.tasks.items k None t2 c.all_there ∙ ap (λ (x : List (Option Task)). all_some (present x)) (sym items);
      same_count = lasts.tasks ∙ c.same_count ∙ sym long;
      few_tasks = omega (arith, long, c.few_tasks);
      few = omega (arith, count, few);
      low_stamp = omega (arith, lasts.stamp, g, count, few, c.low_stamp);
      low_clock = omega (arith, lasts.clock, g, c.low_clock);
      low_since = omega (arith, since, count, c.low_since);
      low_steps = omega (arith, steps, count, c.low_steps);
      rests = rests;
      ends = λ j u e.
          elim (eqb_tells j k) [
            | inl q ↦
                let here : slice_get (slice_set (present m.tasks.items) k t2) k ≡ Some u = subst (λ (x : ℕ). slice_get (slice_set (present m.tasks.items) k t2) x ≡ Some u) q.1 (subst (λ (x : List Task). slice_get x j ≡ Some u) ts e) in
                let both : Some t2 ≡ Some u = sym (get_set_same (present m.tasks.items) k t2 (get_below (present m.tasks.items) k t got)) ∙ here in
                let same : t2 ≡ u = cc in
                let was = c.ends k t got in
                subst (λ (x : Task). EndAt m2.shared.code m2.shared.bytes x.places) same (rw places (omega (arith, was.0, codes), omega (arith, was.1, codes, lasts.bytes)))
            | inr q ↦
                let was = c.ends j u (sym (get_set_other (present m.tasks.items) k j t2 q.1) ∙ subst (λ (x : List Task). slice_get x j ≡ Some u) ts e) in
                (omega (arith, was.0, codes), omega (arith, was.1, codes, lasts.bytes))
          ];
    }

-- ---- how the turn ended

pub turns_by : (m m2 : Machine) (i k most : ℕ) (t t2 : Task) (x : Stretch) (from to : Feed) (written written2 : Option (List ℕ)) → i - 1 ≡ k → IsComplete m → slice_get (present m.tasks.items) k ≡ Some t → IsLent i most x from written m.shared t m.supervisor to written2 m2.shared t2 m2.supervisor → m2.tasks.items ≡ slice_set (slice_set m.tasks.items k None) k (Some t2) → m2.timetable ≡ record { gaps = m.timetable.gaps; since = m.timetable.since + x.count; placements = m.timetable.placements } → m2.instructions ≡ m.instructions + x.count → m2.steps ≡ m.steps + x.marks → Turns i most x.carried (standing m) from written (standing m2) to written2
turns_by m m2 i k most t t2 x from to written written2 place c got l items ticking count steps =
    let p = l.stretches in
    record {
      given = p.given;
      over = p.over;
      gives = p.gives;
      comes = λ image gaps all rest s shows settled reached early ahead.
          let h = p.halts image gaps all rest s k (present m.tasks.items) (record { shows = running_shown image s (standing m) k t shows got; place = place; rules = shows.rules; settled = settled; reached = reached; early = early }) ahead in
          turned image gaps all s (standing m) (standing m2) k t t2 m2.shared m2.supervisor p.given x.count x.marks written written2 shows got l.lasts refl (ap present items ∙ put_present m.tasks.items k None t2 c.all_there) refl ticking count steps h.goes x.carried i h.stopped;
    }
