-- How far a tick and a service raise the clock and the next stamp.
use Rattle.std.proofs.Common.{◌≡◌, ℕ, suc, ◌+◌, ◌*◌, ◌≤◌, List, [], ◌∷◌, Option, Some, None, length, refl, ◌∙◌, arith}
use Rattle.rt_rules.specs.declared.service.Svc.{Svc}
use Rattle.rt_rules.specs.Roster.{Roster, IsNumber, InRanges}
use Rattle.rt_rules.specs.Rules.{running, count_down, arrives_if, tick, give, give_if_owned, gives_from, serve, start}
use Rattle.rt_rules.specs.Laws.{Happening, a_tick, a_call, called, after, ticks_in, calls_in, TickRaises, ServiceRaises, StaysLow}
use Rattle.rt_rules.proofs.Giving.{give_cases, give_if_owned_cases}
use Rattle.rt_rules.proofs.Walks.{gives_from_goes, count_down_goes, count_task_cases, arrival_goes, running_is_ready, serve_goes}
use Rattle.rt_rules.proofs.Ranges.{ranges-give_if_owned, ranges-arrived, ranges-serve, ranges-tick, start_in_ranges}

-- the clock rises by c, and the next stamp by s at most
record Raises (c s : ℕ) (r q : Roster) : Type 0 where
  clock : q.clock ≡ r.clock + c
  stamp : q.stamp ≤ r.stamp + s

still : (s : ℕ) (r : Roster) → Raises 0 s r r
still s r = record { clock = omega arith; stamp = omega arith }

-- a facility is given away
record Given (r : Roster) (n : ℕ) (q : Roster) : Type 0 where
  ranges : InRanges q
  clock : q.clock ≡ r.clock
  stamp : q.stamp + 1 ≤ r.stamp + n

given_step : (r : Roster) (i n : ℕ) (q : Roster) → IsNumber n → Given r n q → Given r (n + 1) (give_if_owned q i n)
given_step r i n q k p =
    let clock = p.clock in
    let stamp = p.stamp in
    let raised =
    give_if_owned_cases (λ z. (z.clock ≡ q.clock) × (z.stamp ≤ q.stamp + 1)) q i n p.ranges
    (λ _ _. (refl, omega arith)) (λ _ j _ _. (refl, omega arith)) (λ _. (refl, omega arith)) in
    record {
      ranges = ranges-give_if_owned q i n p.ranges k;
      clock = raised.0 ∙ clock;
      stamp = omega (arith, raised.1);
    }

raised_by_end : (r : Roster) (i : ℕ) → InRanges r → Raises 0 32 r (gives_from i 1 32 r)
raised_by_end r i g =
    let all = gives_from_goes (Given r) i (given_step r i) 32 1 r (omega arith) refl (record { ranges = g; clock = refl; stamp = omega arith }) in
    record { clock = omega (arith, all.clock); stamp = omega (arith, all.stamp) }

raised_by_give : (r : Roster) (n : ℕ) → InRanges r → Raises 0 32 r (give r n)
raised_by_give r n g =
    give_cases (Raises 0 32 r) r n g
    (λ _. record { clock = omega arith; stamp = omega arith })
    (λ j _ _. record { clock = omega arith; stamp = omega arith })

raised_by_service : (r : Roster) (i : ℕ) (svc : Svc) → InRanges r → Raises 0 32 r (serve r i svc).0
raised_by_service r i svc g =
    serve_goes (Raises 0 32 r) r i svc g
    (record {
      nothing = still 32 r;
      anew = λ _ _. record { clock = omega arith; stamp = omega arith };
      delayed = λ _ _. record { clock = omega arith; stamp = omega arith };
      flagged = λ _ _ _. record { clock = omega arith; stamp = omega arith };
      waiting = λ _ _ _. record { clock = omega arith; stamp = omega arith };
      woken = λ _ _ _ _ _. record { clock = omega arith; stamp = omega arith };
      secured = λ _ _ _ _. record { clock = omega arith; stamp = omega arith };
      queued = λ _ _ _ _ _. record { clock = omega arith; stamp = omega arith };
      released = λ n _ _ _. raised_by_give r n g;
      ended = λ s _ _. let all = raised_by_end r i g in record { clock = all.clock; stamp = all.stamp };
    })

raised_by_counting : (r : Roster) → Raises 0 (length r.tasks) r (count_down r)
raised_by_counting r =
    count_down_goes (λ k q. Raises 0 k r q) r
    (λ k q _ _ p.
    let clock = p.clock in
    let stamp = p.stamp in
    count_task_cases (Raises 0 (suc k) r) q (suc k)
    (λ _ _ _. record { clock = clock; stamp = omega arith })
    (λ _ _ _. record { clock = clock; stamp = omega arith })
    (λ _. record { clock = clock; stamp = omega arith }))
    (still 0 r)

raised_by_tick : (r : Roster) → InRanges r → Raises 1 33 r (tick r)
raised_by_tick r g =
    let arrived =
    arrival_goes (Raises 1 1 r) r g (record { clock = refl; stamp = omega arith }) (λ _ _. record { clock = refl; stamp = omega arith }) in
    let counted = raised_by_counting (arrives_if (record r { clock = r.clock + 1 }) (running r)) in
    let few = (ranges-arrived r g).few in
    record {
      clock = omega (arith, counted.clock, arrived.clock);
      stamp = omega (arith, counted.stamp, arrived.stamp, few);
    }

-- ---- the laws

pub tick_raises : TickRaises
tick_raises r g = let p = raised_by_tick r g in (p.clock, p.stamp)

pub service_raises : ServiceRaises
service_raises r i svc g e = let p = raised_by_service r i svc g in (omega (arith, p.clock), p.stamp)

called_raises : (o : Option ℕ) (r : Roster) (svc : Svc) → InRanges r → running r ≡ o → Raises 0 32 r (called o r svc) × InRanges (called o r svc)
called_raises None r svc g e = (still 32 r, g)
called_raises (Some i) r svc g e = (raised_by_service r i svc g, ranges-serve r i svc g (running_is_ready r i g e))

raised_after : (hs : List Happening) (r : Roster) → InRanges r → Raises (ticks_in hs) (33 * ticks_in hs + 32 * calls_in hs) r (after r hs)
raised_after [] r g = still 0 r
raised_after (a_tick ∷ hs) r g =
    let here = raised_by_tick r g in
    let rest = raised_after hs (tick r) (ranges-tick r g) in
    record {
      clock = omega (arith, here.clock, rest.clock);
      stamp = omega (arith, here.stamp, rest.stamp);
    }
raised_after (a_call svc ∷ hs) r g =
    let here = called_raises (running r) r svc g refl in
    let rest = raised_after hs (called (running r) r svc) here.1 in
    record {
      clock = omega (arith, here.0.clock, rest.clock);
      stamp = omega (arith, here.0.stamp, rest.stamp);
    }

pub stays_low : StaysLow
stays_low ps hs h t c =
    let all = raised_after hs (start ps) (start_in_ranges ps h) in
    (omega (arith, all.stamp, h.1), omega (arith, all.clock))
