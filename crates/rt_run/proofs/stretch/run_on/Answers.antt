use Rattle.std.proofs.Common.{◌≡◌, ℕ, ◌+◌, ◌-◌, ◌<◌, true, false, refl, sym, ap, subst, ◌∙◌, arith, rules}
use Rattle.rt_rules.specs.Roster.{Roster}
use Rattle.rt_run.specs.Inputs.{feed}
use Rattle.rt_run.specs.Carrying.{IsCarried, carried_of}
use Rattle.rt_run.specs.declared.carry.Carried.{Carried}
use Rattle.rt_run.specs.declared.stretch.Stretch.{Stretch}
use Rattle.rt_run.specs.Turn.{is_gone, ended_by, Counted, Lasts, Stretches}
use Rattle.rt_run.proofs.Serving.{lasts_none, lasts_more, lasts_before, lasts_ended}
use Rattle.rt_run.proofs.Stretching.{IsOnTheWay, way_begins, way_done, way_ended, way_goes_on, carries_of, gone_counts, gone_went, not_gone, counted_so, one_less, same_rules}
use Rattle.rt_run.proofs.stretch.run_on.Goals as goal

pub instructions-init : goal.instructions-init
instructions-init g c =
    let r = c.args.running.now in
    let from = feed (g.I.Source.left c.args.input.now) (g.I.Source.ended c.args.input.now) in
    let written = g.O.Sink.written c.args.output.now in
    let none : 0 ≡ c.args.most - c.args.most = omega arith in
    record {
      some = c.requires.some;
      few = omega arith;
      marks = omega arith;
      same_rules = refl;
      same_reference = refl;
      reads_later = omega arith;
      writes_later = omega arith;
      lasts = subst (λ (n : ℕ). Lasts r.shared.now c.args.supervisor.now n r.shared.now c.args.supervisor.now) none (lasts_none r.shared.now c.args.supervisor.now);
      way = subst (λ (n : ℕ). IsOnTheWay c.args.task c.args.most n 0 from written r.regs r.shared.now c.args.supervisor.now from written r.regs r.shared.now) none (way_begins c.args.task c.args.most from written r.regs r.shared.now c.args.supervisor.now);
    }

pub returns-then-not-has_gone-clause-stretches : goal.returns-then-not-has_gone-clause-stretches
returns-then-not-has_gone-clause-stretches g c =
    let start = c.args.running.now in
    let l = c.instructions in
    let n = c.carry_out-done in
    let x = carried_of n.result n.new.carried in
    let from = feed (g.I.Source.left c.args.input.now) (g.I.Source.ended c.args.input.now) in
    let mid = feed (g.I.Source.left l.input) (g.I.Source.ended l.input) in
    let to = feed (g.I.Source.left n.new.input) (g.I.Source.ended n.new.input) in
    let written = g.O.Sink.written c.args.output.now in
    let written2 = g.O.Sink.written l.output in
    let written3 = g.O.Sink.written n.new.output in
    let carried = subst (λ (q : Roster). IsCarried x c.args.task mid written2 l.running.regs l.running.shared.now q to written3 n.new.running.regs n.new.running.shared.now n.new.supervisor) l.invariant.same_rules n.ensures.carried in
    let few : c.args.most - l.left < c.args.most = omega (arith, l.invariant.some, l.invariant.few) in
    let stays = not_gone n.result n.new.carried (rw (← c.has_gone.ensures) (search rules)) in
    let is = c.ended.ensures ∙ ap (λ (m : ℕ). ended_by n.new.carried (c.args.most - m) l.marks c.from-mark.result) c.from.ensures ∙ ap (λ (y : Carried). ended_by y (c.args.most - l.left) l.marks c.from-mark.result) (sym stays) in
    subst (λ (x : Stretch). Stretches c.args.task c.args.most x from written start.regs start.shared.now c.args.supervisor.now to written3 n.new.running.regs n.new.running.shared.now n.new.supervisor) (sym is)
    (way_ended c.args.task c.args.most (c.args.most - l.left) l.marks few from mid to written written2 written3 start.regs l.running.regs n.new.running.regs start.shared.now l.running.shared.now n.new.running.shared.now c.args.supervisor.now n.new.supervisor c.requires.runs l.invariant.way x c.from-mark.result carried (c.from-mark.ensures ∙ c.mark.ensures))

pub returns-then-not-has_gone-clause-lasts : goal.returns-then-not-has_gone-clause-lasts
returns-then-not-has_gone-clause-lasts g c =
    let start = c.args.running.now in
    let l = c.instructions in
    let n = c.carry_out-done in
    let x = carried_of n.result n.new.carried in
    let mid = feed (g.I.Source.left l.input) (g.I.Source.ended l.input) in
    let to = feed (g.I.Source.left n.new.input) (g.I.Source.ended n.new.input) in
    let written2 = g.O.Sink.written l.output in
    let written3 = g.O.Sink.written n.new.output in
    let carried = subst (λ (q : Roster). IsCarried x c.args.task mid written2 l.running.regs l.running.shared.now q to written3 n.new.running.regs n.new.running.shared.now n.new.supervisor) l.invariant.same_rules n.ensures.carried in
    let stays = not_gone n.result n.new.carried (rw (← c.has_gone.ensures) (search rules)) in
    let is = c.ended.ensures ∙ ap (λ (m : ℕ). ended_by n.new.carried (c.args.most - m) l.marks c.from-mark.result) c.from.ensures ∙ ap (λ (y : Carried). ended_by y (c.args.most - l.left) l.marks c.from-mark.result) (sym stays) in
    subst (λ (x : Stretch). Lasts start.shared.now c.args.supervisor.now x.count n.new.running.shared.now n.new.supervisor) (sym is)
    (lasts_ended c.clock_and_stamp_stay_low.ensures.service x c.args.task (c.args.most - l.left) l.marks c.from-mark.result mid to written2 written3 l.running.regs n.new.running.regs start.shared.now l.running.shared.now n.new.running.shared.now c.args.supervisor.now n.new.supervisor c.requires.ranges c.requires.runs l.invariant.lasts carried)

pub returns-then-not-has_gone-clause-counted : goal.returns-then-not-has_gone-clause-counted
returns-then-not-has_gone-clause-counted g c =
    let l = c.instructions in
    let n = c.carry_out-done in
    let x = carried_of n.result n.new.carried in
    let e : is_gone x ≡ false = rw (← c.has_gone.ensures) (search rules) in
    let few : c.args.most - l.left < c.args.most = omega (arith, l.invariant.some, l.invariant.few) in
    let stays = not_gone n.result n.new.carried (rw (← c.has_gone.ensures) (search rules)) in
    let is = c.ended.ensures ∙ ap (λ (m : ℕ). ended_by n.new.carried (c.args.most - m) l.marks c.from-mark.result) c.from.ensures ∙ ap (λ (y : Carried). ended_by y (c.args.most - l.left) l.marks c.from-mark.result) (sym stays) in
    subst (λ (x : Stretch). Counted x c.args.most) (sym is) (counted_so x (c.args.most - l.left) l.marks c.from-mark.result c.args.most e few l.invariant.marks (omega (arith, c.from-mark.ensures, c.mark.type_inv)))

pub returns-then-left-eq0-clause-stretches : goal.returns-then-left-eq0-clause-stretches
returns-then-left-eq0-clause-stretches g c =
    let start = c.args.running.now in
    let l = c.instructions in
    let n = c.carry_out-done in
    let x = carried_of n.result n.new.carried in
    let from = feed (g.I.Source.left c.args.input.now) (g.I.Source.ended c.args.input.now) in
    let mid = feed (g.I.Source.left l.input) (g.I.Source.ended l.input) in
    let to = feed (g.I.Source.left n.new.input) (g.I.Source.ended n.new.input) in
    let written = g.O.Sink.written c.args.output.now in
    let written2 = g.O.Sink.written l.output in
    let written3 = g.O.Sink.written n.new.output in
    let gone : is_gone x ≡ true = rw (← c.has_gone.ensures) (search rules) in
    let done = gone_counts x gone in
    let carried = subst (λ (q : Roster). IsCarried x c.args.task mid written2 l.running.regs l.running.shared.now q to written3 n.new.running.regs n.new.running.shared.now n.new.supervisor) l.invariant.same_rules n.ensures.carried in
    let few : c.args.most - l.left < c.args.most = omega (arith, l.invariant.some, l.invariant.few) in
    let full : c.args.most - l.left + 1 ≡ c.args.most = omega (arith, l.invariant.some, l.invariant.few, c.if-left-eq0.true) in
    subst (λ (x : Stretch). Stretches c.args.task c.args.most x from written start.regs start.shared.now c.args.supervisor.now to written3 n.new.running.regs n.new.running.shared.now n.new.supervisor) (sym c.so_far.ensures)
    (subst (λ (y : Carried). Stretches c.args.task c.args.most (record { carried = y; count = c.args.most; marks = l.marks + c.from-mark.result }) from written start.regs start.shared.now c.args.supervisor.now to written3 n.new.running.regs n.new.running.shared.now n.new.supervisor) (gone_went x gone)
    (subst (λ (m : ℕ). Stretches c.args.task c.args.most (record { carried = x; count = m; marks = l.marks + c.from-mark.result }) from written start.regs start.shared.now c.args.supervisor.now to written3 n.new.running.regs n.new.running.shared.now n.new.supervisor) full
    (way_done c.args.task c.args.most (c.args.most - l.left) l.marks few from mid to written written2 written3 start.regs l.running.regs n.new.running.regs start.shared.now l.running.shared.now n.new.running.shared.now c.args.supervisor.now n.new.supervisor c.requires.runs l.invariant.way x c.from-mark.result done carried (c.from-mark.ensures ∙ c.mark.ensures))))

pub returns-then-left-eq0-clause-lasts : goal.returns-then-left-eq0-clause-lasts
returns-then-left-eq0-clause-lasts g c =
    let start = c.args.running.now in
    let l = c.instructions in
    let n = c.carry_out-done in
    let x = carried_of n.result n.new.carried in
    let mid = feed (g.I.Source.left l.input) (g.I.Source.ended l.input) in
    let to = feed (g.I.Source.left n.new.input) (g.I.Source.ended n.new.input) in
    let written2 = g.O.Sink.written l.output in
    let written3 = g.O.Sink.written n.new.output in
    let gone : is_gone x ≡ true = rw (← c.has_gone.ensures) (search rules) in
    let done = gone_counts x gone in
    let carried = subst (λ (q : Roster). IsCarried x c.args.task mid written2 l.running.regs l.running.shared.now q to written3 n.new.running.regs n.new.running.shared.now n.new.supervisor) l.invariant.same_rules n.ensures.carried in
    let carries = carries_of x c.args.task mid to written2 written3 l.running.regs n.new.running.regs l.running.shared.now n.new.running.shared.now c.args.supervisor.now n.new.supervisor done carried in
    let full : c.args.most - l.left + 1 ≡ c.args.most = omega (arith, l.invariant.some, l.invariant.few, c.if-left-eq0.true) in
    subst (λ (x : Stretch). Lasts start.shared.now c.args.supervisor.now x.count n.new.running.shared.now n.new.supervisor) (sym c.so_far.ensures)
    (subst (λ (m : ℕ). Lasts start.shared.now c.args.supervisor.now m n.new.running.shared.now n.new.supervisor) full
    (lasts_more c.clock_and_stamp_stay_low.ensures.service c.args.task (c.args.most - l.left) mid to written2 written3 l.running.regs n.new.running.regs start.shared.now l.running.shared.now n.new.running.shared.now c.args.supervisor.now n.new.supervisor c.requires.ranges c.requires.runs l.invariant.lasts carries))

pub instructions-preserved : goal.instructions-preserved
instructions-preserved g c =
    let start = c.args.running.now in
    let l = c.instructions in
    let n = c.carry_out-done in
    let x = carried_of n.result n.new.carried in
    let from = feed (g.I.Source.left c.args.input.now) (g.I.Source.ended c.args.input.now) in
    let mid = feed (g.I.Source.left l.input) (g.I.Source.ended l.input) in
    let to = feed (g.I.Source.left n.new.input) (g.I.Source.ended n.new.input) in
    let written = g.O.Sink.written c.args.output.now in
    let written2 = g.O.Sink.written l.output in
    let written3 = g.O.Sink.written n.new.output in
    let few : c.args.most - l.left < c.args.most = omega (arith, l.invariant.some, l.invariant.few) in
    let later = one_less c.args.most l.left l.invariant.some l.invariant.few in
    let gone : is_gone x ≡ true = rw (← c.has_gone.ensures) (search rules) in
    let carried = subst (λ (q : Roster). IsCarried x c.args.task mid written2 l.running.regs l.running.shared.now q to written3 n.new.running.regs n.new.running.shared.now n.new.supervisor) l.invariant.same_rules n.ensures.carried in
    let same = same_rules x c.args.task mid to written2 written3 l.running.regs n.new.running.regs l.running.shared.now n.new.running.shared.now c.args.supervisor.now n.new.supervisor gone carried in
    let carries = carries_of x c.args.task mid to written2 written3 l.running.regs n.new.running.regs l.running.shared.now n.new.running.shared.now c.args.supervisor.now n.new.supervisor (gone_counts x gone) carried in
    let lasts = lasts_more c.clock_and_stamp_stay_low.ensures.service c.args.task (c.args.most - l.left) mid to written2 written3 l.running.regs n.new.running.regs start.shared.now l.running.shared.now n.new.running.shared.now c.args.supervisor.now n.new.supervisor c.requires.ranges c.requires.runs l.invariant.lasts carries in
    record {
      some = omega (arith, l.invariant.some, c.if-left-eq0.false);
      few = omega (arith, l.invariant.few);
      marks = omega (arith, later, l.invariant.marks, c.from-mark.ensures, c.mark.type_inv);
      same_rules = same;
      same_reference = n.ensures.same_reference ∙ l.invariant.same_reference;
      reads_later = omega (arith, n.ensures.reads_later, l.invariant.reads_later);
      writes_later = omega (arith, n.ensures.writes_later, l.invariant.writes_later);
      lasts = subst (λ (m : ℕ). Lasts start.shared.now c.args.supervisor.now m n.new.running.shared.now c.args.supervisor.now) later (lasts_before (c.args.most - l.left + 1) start.shared.now n.new.running.shared.now c.args.supervisor.now n.new.supervisor lasts same);
      way = subst (λ (m : ℕ). IsOnTheWay c.args.task c.args.most m (l.marks + c.from-mark.result) from written start.regs start.shared.now c.args.supervisor.now to written3 n.new.running.regs n.new.running.shared.now) later (way_goes_on c.args.task c.args.most (c.args.most - l.left) l.marks few from mid to written written2 written3 start.regs l.running.regs n.new.running.regs start.shared.now l.running.shared.now n.new.running.shared.now c.args.supervisor.now n.new.supervisor c.requires.runs l.invariant.way c.from-mark.result carries same (c.from-mark.ensures ∙ c.mark.ensures));
    }
