-- A task gives its facilities away, one by one.
use Rattle.std.proofs.Common.{◌≡◌, ◌≢◌, ℕ, suc, ◌+◌, ◌-◌, ◌<◌, ◌≤◌, true, Option, Some, None, refl, sym, ◌∙◌, ap, subst, arith, eqb-true, ◌==◌}
use Rattle.std.proofs.lemmas.Bool.{eqb-false}
use Rattle.rt_rules.specs.declared.task.State.{State}
use Rattle.rt_rules.specs.declared.task.State.TheVariants.{Ready, Delayed, Event, Facility, Ended, Failed}
use Rattle.rt_rules.specs.Roster.{Roster, row, owner_of, IsTask, IsNumber, IsReady, InRanges}
use Rattle.rt_rules.specs.First.{HasNone}
use Rattle.rt_rules.specs.Rules.{first, awaits_event, awaits_facility, with_owner, arrives, give_to, give, give_if_owned, gives_from}
use Rattle.rt_rules.proofs.Rows.{by_cases, if_by, at_owner, ready-arrives_other}
use Rattle.rt_rules.proofs.Firsts.{first_is, none_is}

pub awaits_facility_is : (n : ℕ) (s : State) → awaits_facility n s ≡ true → s ≡ Facility n
awaits_facility_is n Ready e = cc
awaits_facility_is n (Delayed m) e = cc
awaits_facility_is n (Event m) e = cc
awaits_facility_is n (Facility m) e = ap (λ k. Facility k) (eqb-true m n e)
awaits_facility_is n Ended e = cc
awaits_facility_is n (Failed m) e = cc

pub awaits_event_is : (n : ℕ) (s : State) → awaits_event n s ≡ true → s ≡ Event n
awaits_event_is n Ready e = cc
awaits_event_is n (Delayed m) e = cc
awaits_event_is n (Event m) e = ap (λ k. Event k) (eqb-true m n e)
awaits_event_is n (Facility m) e = cc
awaits_event_is n Ended e = cc
awaits_event_is n (Failed m) e = cc

give_by : (P : Roster → Type 0) (r : Roster) (n : ℕ) (o : Option ℕ) → first (awaits_facility n) r ≡ o → InRanges r → (HasNone (awaits_facility n) r → P (with_owner r n 0)) → ((j : ℕ) → IsTask r j → (row r j).state ≡ Facility n → P (arrives (with_owner r n j) j Ready)) → P (give_to r n o)
give_by P r n None e g free handed = free (none_is (awaits_facility n) r g e)
give_by P r n (Some j) e g free handed =
    let f = first_is (awaits_facility n) r j g e in
    handed j f.there (awaits_facility_is n (row r j).state f.suits)

-- what holds of both outcomes holds of a facility that is given away
pub give_cases : (P : Roster → Type 0) (r : Roster) (n : ℕ) → InRanges r → (HasNone (awaits_facility n) r → P (with_owner r n 0)) → ((j : ℕ) → IsTask r j → (row r j).state ≡ Facility n → P (arrives (with_owner r n j) j Ready)) → P (give r n)
give_cases P r n g free handed = give_by P r n (first (awaits_facility n) r) refl g free handed

-- what holds of the facility given away, and of the rules as they were where it is another's
pub give_if_owned_cases : (P : Roster → Type 0) (r : Roster) (i n : ℕ) → InRanges r → (owner_of r n ≡ i → HasNone (awaits_facility n) r → P (with_owner r n 0)) → (owner_of r n ≡ i → (j : ℕ) → IsTask r j → (row r j).state ≡ Facility n → P (arrives (with_owner r n j) j Ready)) → (owner_of r n ≢ i → P r) → P (give_if_owned r i n)
give_if_owned_cases P r i n g free handed kept =
    if_by P (owner_of r n == i) (give r n) r
    (λ e. let own = eqb-true (owner_of r n) i e in give_cases P r n g (free own) (handed own))
    (λ e. kept (eqb-false (owner_of r n) i e))

-- task i has given away its facilities below n
pub record Giving (i : ℕ) (old now : Roster) (n : ℕ) : Type 0 where
  pub rest : gives_from i n (33 - n) now ≡ gives_from i 1 32 old
  pub ready : IsReady now i
  pub room : now.stamp + 1 ≤ old.stamp + n
  pub given : (m : ℕ) → IsNumber m → m < n → owner_of now m ≢ i

pub giving_none : (i : ℕ) (r : Roster) → IsReady r i → Giving i r r 1
giving_none i r h =
    record {
      rest = refl;
      ready = h;
      room = omega arith;
      given = λ m k l. absurd (omega arith);
    }

-- a task that waits for a facility isn't a ready one
pub not_ready : (r : Roster) (i j n : ℕ) → IsReady r i → (row r j).state ≡ Facility n → i ≢ j
not_ready r i j n h s e =
    let t : (row r j).state ≡ Ready = subst (λ k. (row r k).state ≡ Ready) e h.1 in
    cc

-- what a step leaves
pub record Given (i : ℕ) (r q : Roster) (n : ℕ) : Type 0 where
  pub ready : IsReady q i
  pub room : q.stamp ≤ r.stamp + 1
  pub given : owner_of q n ≢ i
  pub others : (m : ℕ) → 1 ≤ m → owner_of r m ≢ i → owner_of q m ≢ i

pub given_by : (i : ℕ) (r : Roster) (n : ℕ) → InRanges r → IsReady r i → IsNumber n → Given i r (give_if_owned r i n) n
given_by i r n g h k =
    give_if_owned_cases (λ q. Given i r q n) r i n g
    (λ own none. record {
      ready = h;
      room = omega arith;
      given = at_owner (λ o. o ≢ i) r n n 0 g.owners k k.0 (λ _ e. absurd (omega arith)) (λ d _. d refl);
      others = λ m a o. at_owner (λ o. o ≢ i) r n m 0 g.owners k a (λ _ e. absurd (omega arith)) (λ _. o);
    })
    (λ own j there waits.
    let apart = not_ready r i j n h waits in
    record {
      ready = ready-arrives_other (with_owner r n j) j i Ready there.0 h apart;
      room = omega arith;
      given = at_owner (λ o. o ≢ i) r n n j g.owners k k.0 (λ _ e. apart (sym e)) (λ d _. d refl);
      others = λ m a o. at_owner (λ o. o ≢ i) r n m j g.owners k a (λ _ e. apart (sym e)) (λ _. o);
    })
    (λ other. record {
      ready = h;
      room = omega arith;
      given = other;
      others = λ m a o. o;
    })

pub given_below : (i : ℕ) (r : Roster) (n : ℕ) → Given i r (give_if_owned r i n) n → ((m : ℕ) → IsNumber m → m < n → owner_of r m ≢ i) → (m : ℕ) → IsNumber m → m < n + 1 → owner_of (give_if_owned r i n) m ≢ i
given_below i r n f below m a b =
    by_cases m n
    (λ e. subst (λ o. owner_of (give_if_owned r i n) o ≢ i) (sym e) f.given)
    (λ d. f.others m a.0 (below m a (omega arith)))

pub giving_step : (i : ℕ) (old now : Roster) (n : ℕ) → InRanges now → Giving i old now n → IsNumber n → Giving i old (give_if_owned now i n) (n + 1)
unfolding gives_from
giving_step i old now n g c k =
    let f = given_by i now n g c.ready k in
    let left : 33 - n ≡ suc (33 - (n + 1)) = omega arith in
    record {
      rest = sym (ap (λ m. gives_from i n m now) left) ∙ c.rest;
      ready = f.ready;
      room = omega (arith, f.room, c.room);
      given = given_below i now n f c.given;
    }

-- all of them
pub giving_all : (i : ℕ) (old now : Roster) (n : ℕ) → Giving i old now n → n ≡ 33 → now ≡ gives_from i 1 32 old
unfolding gives_from
giving_all i old now n c e =
    subst (λ k. gives_from i k (33 - k) now ≡ gives_from i 1 32 old) e c.rest
