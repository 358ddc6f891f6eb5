use Rattle.std.proofs.Common.{◌+◌, suc, add-one, arith, sym, ◌∙◌}
use Rattle.rt_meaning.specs.Source.{world_of, state_of}
use Rattle.rt_meaning.specs.Code.{reached_at}
use Rattle.rt_meaning.proofs.Placements.{ticks_to_few, none_stays, next_turn, to_next}
use Rattle.rt_meaning.proofs.Rising.{turn_ticks}
use Rattle.rt_meaning.proofs.run.run_from.Goals as goal

pub turn-requires-clause-stamp : goal.turn-requires-clause-stamp
turn-requires-clause-stamp c =
    let few = ticks_to_few c.args.placements.now (suc c.loop-done.done) in
    let now = rw add-one at (turn_ticks c.loop-done.next c.past-end.result _ _ (c.past-end.ensures.value c.args.steps c.loop-done.invariant.rises) (c.loop-done.invariant.same (c.loop-done.done + 1) (omega arith))) in
    omega (arith, few, now, c.loop-done.invariant.stamp, c.requires.stamp, c.loop-done-test.true)

pub turn-requires-clause-clock : goal.turn-requires-clause-clock
turn-requires-clause-clock c =
    let few = ticks_to_few c.args.placements.now (suc c.loop-done.done) in
    let now = rw add-one at (turn_ticks c.loop-done.next c.past-end.result _ _ (c.past-end.ensures.value c.args.steps c.loop-done.invariant.rises) (c.loop-done.invariant.same (c.loop-done.done + 1) (omega arith))) in
    omega (arith, few, now, c.loop-done.invariant.clock, c.requires.clock)

pub returns-then-not-branch : goal.returns-then-not-branch
returns-then-not-branch c =
    let now = rw add-one at (turn_ticks c.loop-done.next c.past-end.result _ _ (c.past-end.ensures.value c.args.steps c.loop-done.invariant.rises) (c.loop-done.invariant.same (c.loop-done.done + 1) (omega arith))) in
    let none = rw (c.loop-done.invariant.world, now) at c.in_ok-turn.ensures.turn in
    sym (none_stays (world_of c.args.state) (state_of c.args.state) c.args.placements.now c.args.input.now (suc c.loop-done.done) c.args.steps c.loop-done-test.true (next_turn (world_of c.args.state) (state_of c.args.state) c.args.placements.now c.args.input.now c.loop-done.done (reached_at c.loop-done.state c.loop-done.output) _ c.loop-done.invariant.run (rw c.if-not-branch.true at none)))

pub loop-done-preserved : goal.loop-done-preserved
loop-done-preserved c =
    let ticks = turn_ticks c.loop-done.next c.past-end.result _ _ (c.past-end.ensures.value c.args.steps c.loop-done.invariant.rises) (c.loop-done.invariant.same (c.loop-done.done + 1) (omega arith)) in
    let now = rw add-one at ticks in
    let turned = rw (c.loop-done.invariant.world, now) at c.in_ok-turn.ensures.turn in
    let clock = c.in_ok-turn.ensures.clock_after c.if-not-branch.false in
    let stamp = c.in_ok-turn.ensures.stamp_after c.if-not-branch.false in
    let more = to_next c.args.placements.now c.loop-done.done in
    record {
      run = rw add-one (next_turn (world_of c.args.state) (state_of c.args.state) c.args.placements.now c.args.input.now c.loop-done.done (reached_at c.loop-done.state c.loop-done.output) _ c.loop-done.invariant.run (rw c.if-not-branch.false at turned));
      world = c.turn.ensures.world ∙ c.loop-done.invariant.world;
      clock = omega (arith, ticks, more, clock, c.loop-done.invariant.clock);
      stamp = omega (arith, ticks, more, stamp, c.loop-done.invariant.stamp);
      rises = c.past-end.ensures.rest c.args.steps c.loop-done.invariant.rises;
      short = c.past-end.ensures.most;
      same = λ s h. c.past-end.ensures.others s (omega (arith, h)) ∙ c.loop-done.invariant.same s (omega (arith, h));
    }
