-- The ranges stand after a tick and after each service.
use Rattle.std.proofs.Common.{◌≡◌, ◌≢◌, ℕ, suc, ◌+◌, ◌-◌, ◌<◌, Bool, Option, Some, None, refl, ◌∙◌, ap, inl, inr, arith}
use Rattle.std.proofs.lemmas.List.{length-set}
use Rattle.rt_rules.specs.declared.task.State.{State}
use Rattle.rt_rules.specs.declared.task.State.TheVariants.{Ready, Delayed, Event, Facility}
use Rattle.rt_rules.specs.declared.service.Svc.{Svc}
use Rattle.rt_rules.specs.Roster.{Roster, row, owner_of, IsTask, IsNumber, has_ended, IsAlive, IsReady, InRanges}
use Rattle.rt_rules.specs.Rules.{running, with_flag, with_owner, arrives, becomes, count_down, arrives_if, tick, give, give_if_owned, gives_from, serve, start}
use Rattle.rt_rules.specs.Laws.{Happening, a_tick, a_call, called, happens, StartInRanges}
use Rattle.rt_rules.proofs.Rows.{ranges-arrives, ranges-becomes, ranges-with_owner}
use Rattle.rt_rules.proofs.Starts.{ranges-start}
use Rattle.rt_rules.proofs.Giving.{given_by, given_below, give_cases, give_if_owned_cases}
use Rattle.rt_rules.proofs.Walks.{gives_from_goes, count_down_goes, count_task_cases, arrival_goes, running_is_ready, serve_goes}

pub alive_from_ready : (r : Roster) (i : ℕ) → IsReady r i → IsAlive r i
alive_from_ready r i h = (h.0, ap has_ended h.1)

alive_waiter : (r : Roster) (i n : ℕ) → IsTask r i → (row r i).state ≡ Facility n → IsAlive r i
alive_waiter r i n h s = (h, ap has_ended s)

ranges-with_flag : (r : Roster) (n : ℕ) (b : Bool) → InRanges r → InRanges (with_flag r n b)
ranges-with_flag r n b g =
    record {
      some = g.some;
      few = g.few;
      priorities = g.priorities;
      earlier = g.earlier;
      different = g.different;
      flags = length-set r.flags (n - 1) b ∙ g.flags;
      owners = g.owners;
      owned = g.owned;
    }

ranges-handed : (r : Roster) (n j : ℕ) → InRanges r → IsNumber n → IsTask r j → (row r j).state ≡ Facility n → InRanges (arrives (with_owner r n j) j Ready)
ranges-handed r n j g k there waits =
    ranges-arrives (with_owner r n j) j Ready (arrives (with_owner r n j) j Ready) (ranges-with_owner r n j (with_owner r n j) g k (inr (alive_waiter r j n there waits)) refl) there refl refl

pub ranges-give : (r : Roster) (n : ℕ) → InRanges r → IsNumber n → InRanges (give r n)
ranges-give r n g k =
    give_cases InRanges r n g (λ _. ranges-with_owner r n 0 (with_owner r n 0) g k (inl refl) refl) (λ j there waits. ranges-handed r n j g k there waits)

pub ranges-give_if_owned : (r : Roster) (i n : ℕ) → InRanges r → IsNumber n → InRanges (give_if_owned r i n)
ranges-give_if_owned r i n g k =
    give_if_owned_cases InRanges r i n g
    (λ _ _. ranges-with_owner r n 0 (with_owner r n 0) g k (inl refl) refl)
    (λ _ j there waits. ranges-handed r n j g k there waits)
    (λ _. g)

-- where a task gives its facilities away, from number n on
pub record Leaving (i n : ℕ) (q : Roster) : Type 0 where
  pub ranges : InRanges q
  pub ready : IsReady q i
  pub given : (m : ℕ) → IsNumber m → m < n → owner_of q m ≢ i

leaving_step : (i n : ℕ) (q : Roster) → IsNumber n → Leaving i n q → Leaving i (n + 1) (give_if_owned q i n)
leaving_step i n q k l =
    let f = given_by i q n l.ranges l.ready k in
    record {
      ranges = ranges-give_if_owned q i n l.ranges k;
      ready = f.ready;
      given = given_below i q n f l.given;
    }

pub leaving_all : (r : Roster) (i : ℕ) → InRanges r → IsReady r i → Leaving i 33 (gives_from i 1 32 r)
leaving_all r i g h =
    gives_from_goes (Leaving i) i (leaving_step i) 32 1 r (omega arith) refl
    (record { ranges = g; ready = h; given = λ m k l. absurd (omega arith) })

ranges-ended : (r : Roster) (i : ℕ) (s : State) → InRanges r → IsReady r i → InRanges (becomes (gives_from i 1 32 r) i s)
ranges-ended r i s g h =
    let l = leaving_all r i g h in
    ranges-becomes (gives_from i 1 32 r) i s (becomes (gives_from i 1 32 r) i s) l.ranges l.ready.0 (λ n k own. absurd (l.given n k (omega arith) own)) refl

pub ranges-serve : (r : Roster) (i : ℕ) (svc : Svc) → InRanges r → IsReady r i → InRanges (serve r i svc).0
ranges-serve r i svc g h =
    serve_goes InRanges r i svc g
    (record {
      nothing = g;
      anew = λ _ _. ranges-arrives r i Ready (arrives r i Ready) g h.0 refl refl;
      delayed = λ n _. ranges-arrives r i (Delayed n) (arrives r i (Delayed n)) g h.0 refl refl;
      flagged = λ n b _. ranges-with_flag r n b g;
      waiting = λ n _ _. ranges-arrives r i (Event n) (arrives r i (Event n)) g h.0 refl refl;
      woken = λ n j _ there _. ranges-arrives r j Ready (arrives r j Ready) g there refl refl;
      secured = λ n _ k _. ranges-with_owner r n i (with_owner r n i) g k (inr (alive_from_ready r i h)) refl;
      queued = λ n _ _ _ _. ranges-arrives r i (Facility n) (arrives r i (Facility n)) g h.0 refl refl;
      released = λ n _ k _. ranges-give r n g k;
      ended = λ s _ _. ranges-ended r i s g h;
    })

ranges-counted : (r : Roster) → InRanges r → InRanges (count_down r)
ranges-counted r g =
    count_down_goes (λ _ q. InRanges q) r
    (λ k q there _ p.
    count_task_cases InRanges q (suc k)
    (λ _ _ _. ranges-arrives q (suc k) Ready (arrives q (suc k) Ready) p there refl refl)
    (λ n _ _. ranges-becomes q (suc k) (Delayed (n - 1)) (becomes q (suc k) (Delayed (n - 1))) p there (λ _ _ _. refl) refl)
    (λ _. p))
    g

ranges-clock : (r : Roster) → InRanges r → InRanges (record r { clock = r.clock + 1 })
ranges-clock r g =
    record {
      some = g.some;
      few = g.few;
      priorities = g.priorities;
      earlier = g.earlier;
      different = g.different;
      flags = g.flags;
      owners = g.owners;
      owned = g.owned;
    }

pub ranges-arrived : (r : Roster) → InRanges r → InRanges (arrives_if (record r { clock = r.clock + 1 }) (running r))
ranges-arrived r g =
    arrival_goes InRanges r g (ranges-clock r g)
    (λ i h. ranges-arrives (record r { clock = r.clock + 1 }) i Ready _ (ranges-clock r g) h.0 refl refl)

pub ranges-tick : (r : Roster) → InRanges r → InRanges (tick r)
ranges-tick r g = ranges-counted _ (ranges-arrived r g)

ranges-called : (o : Option ℕ) (r : Roster) (svc : Svc) → InRanges r → running r ≡ o → InRanges (called o r svc)
ranges-called None r svc g e = g
ranges-called (Some i) r svc g e = ranges-serve r i svc g (running_is_ready r i g e)

pub ranges-happens : (r : Roster) (h : Happening) → InRanges r → InRanges (happens r h)
ranges-happens r a_tick g = ranges-tick r g
ranges-happens r (a_call svc) g = ranges-called (running r) r svc g refl

pub start_in_ranges : StartInRanges
start_in_ranges ps h = ranges-start ps (start ps) h.0 h.1 h.2 refl
