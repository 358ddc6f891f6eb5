-- Who stands at the head of the first queue that isn't empty is the running task.
use Rattle.std.proofs.Common.{◌≡◌, ◌≢◌, ℕ, zero, suc, ◌<◌, Bool, true, false, List, [], ◌∷◌, Option, Some, None, length, get_or, drop, refl, sym, ◌∙◌, ap, subst, inl, inr, arith, MatchOption}
use Rattle.std.proofs.lemmas.Bool.{cases_lt}
use Rattle.rt_rules.specs.declared.service.Svc.{Svc}
use Rattle.rt_rules.specs.Roster.{Roster, row, IsReady, InRanges}
use Rattle.rt_rules.specs.First.{Before, IsFirst, HasNone}
use Rattle.rt_rules.specs.Rules.{is_ready, running, tick, serve}
use Rattle.rt_rules.proofs.Rows.{by_cases}
use Rattle.rt_rules.proofs.Walks.{is_ready_is, running_is_ready}
use Rattle.rt_rules.proofs.Firsts.{first_is}
use Rattle.rt_rules.proofs.Finds.{finds_first, finds_none}
use Rattle.rt_rules.proofs.Ranges.{ranges-serve, ranges-tick}
use Rattle.rt_run.specs.Queue.{StandsIn, Lists, IsReadyAt, IsQueue}
use Rattle.rt_run.specs.Queues.{queue_of, IsHead, AreEmpty, IsIn, HasQueues, Follows, Leaves}
use Rattle.rt_run.proofs.Tabled.{headed}
use Rattle.rt_run.proofs.Listed.{lists_same}
use Rattle.rt_run.proofs.Follows.{follows_serve, follows_tick}

pub in_now : (r : Roster) (i : ℕ) → InRanges r → IsReady r i → IsIn r r.stamp (row r i).priority i
in_now r i g h = (h, refl, g.earlier i h.0)

-- who stands behind the head has a later stamp
pub behind : (P : ℕ → Type 0) (r : Roster) (h j : ℕ) (xs : List ℕ) → Lists P r (h ∷ xs) → (k : ℕ) → k < length (h ∷ xs) → get_or (h ∷ xs) k 0 ≡ j → j ≢ h → (row r h).stamp < (row r j).stamp
behind P r h j xs l zero b e d = absurd (d (sym e))
behind P r h j xs l (suc k) b e d =
    subst (λ x. (row r h).stamp < (row r x).stamp) e (l.rising 0 (suc k) (omega arith) b)

not_in_none : (xs : List ℕ) (i : ℕ) → xs ≡ [] → StandsIn xs i → ⊥
not_in_none xs i e s =
    let b = s.below in
    let none : length xs ≡ 0 = ap (λ (ys : List ℕ). length ys) e in
    omega arith

head_before : (r : Roster) (qs : List (List ℕ)) (i j : ℕ) → HasQueues r r.stamp qs → (hd : IsHead qs i) → (row r i).priority ≡ hd.priority → IsReady r j → j ≢ i → Before (row r i) (row r j)
head_before r qs i j hq hd e ready d =
    let pj = (row r j).priority in
    let stands = (hq.each pj (hq.low j ready.0)).whole j (in_now r j hq.ranges ready) in
    elim (cases_lt pj hd.priority) [
      | inl less ↦ absurd (not_in_none (queue_of qs pj) j (hd.before pj less) stands)
      | inr more ↦
          by_cases pj hd.priority
          (λ same.
          let s = subst (λ p. StandsIn (queue_of qs p) j) same stands in
          let t = subst (λ xs. StandsIn xs j) hd.head s in
          let l = subst (λ xs. Lists (IsIn r r.stamp hd.priority) r xs) hd.head (hq.each hd.priority hd.below) in
          inr (e ∙ sym same, behind (IsIn r r.stamp hd.priority) r i j (drop 1 (queue_of qs hd.priority)) l t.at t.below t.is d))
          (λ other. inl (omega arith))
    ]

head_is_first : (r : Roster) (qs : List (List ℕ)) (i : ℕ) → HasQueues r r.stamp qs → IsHead qs i → IsFirst is_ready r i
head_is_first r qs i hq hd =
    let l = subst (λ xs. Lists (IsIn r r.stamp hd.priority) r xs) hd.head (hq.each hd.priority hd.below) in
    let here : IsIn r r.stamp hd.priority i = l.each 0 (omega arith) in
    record {
      there = here.0.0;
      suits = ap is_ready here.0.1;
      least = λ j there suits d. head_before r qs i j hq hd here.1 (there, is_ready_is (row r j).state suits) d;
    }

is_false : (b : Bool) → (b ≡ true → ⊥) → b ≡ false
is_false true h = absurd (h refl)
is_false false h = refl

empty_has_none : (r : Roster) (qs : List (List ℕ)) → HasQueues r r.stamp qs → AreEmpty qs → HasNone is_ready r
empty_has_none r qs hq none i there =
    is_false (is_ready (row r i).state)
    (λ e.
    let ready : IsReady r i = (there, is_ready_is (row r i).state e) in
    let low = hq.low i there in
    not_in_none (queue_of qs (row r i).priority) i (none (row r i).priority low) ((hq.each (row r i).priority low).whole i (in_now r i hq.ranges ready)))

pub head_least : (r : Roster) (qs : List (List ℕ)) (o : Option ℕ) → HasQueues r r.stamp qs → MatchOption o (AreEmpty qs) (IsHead qs) → MatchOption o (HasNone is_ready r) (IsFirst is_ready r)
head_least r qs None hq m = empty_has_none r qs hq m
head_least r qs (Some i) hq m = head_is_first r qs i hq m

pub least_runs : (r : Roster) (o : Option ℕ) → InRanges r → MatchOption o (HasNone is_ready r) (IsFirst is_ready r) → o ≡ running r
least_runs r None g m = sym ((finds_none is_ready r g).1 m)
least_runs r (Some i) g m = sym ((finds_first is_ready r i g).1 m)

-- ---- the running task stands at the head of its queue

no_place : (r : Roster) (i : ℕ) (xs : List ℕ) (k : ℕ) → k < length xs → get_or xs k 0 ≡ i → get_or xs 0 0 ≢ i → ((m : ℕ) → 0 < m → m < length xs → (row r (get_or xs 0 0)).stamp < (row r (get_or xs m 0)).stamp) → (row r i).stamp < (row r (get_or xs 0 0)).stamp → ⊥
no_place r i xs zero b e d rising later = d e
no_place r i xs (suc k) b e d rising later =
    let rise : (row r (get_or xs 0 0)).stamp < (row r i).stamp = subst (λ x. (row r (get_or xs 0 0)).stamp < (row r x).stamp) e (rising (suc k) (omega arith) b) in
    omega arith

pub at_front : (P : ℕ → Type 0) (r : Roster) (i : ℕ) (xs : List ℕ) → Lists P r xs → ((j : ℕ) → P j → j ≢ i → (row r i).stamp < (row r j).stamp) → StandsIn xs i → get_or xs 0 0 ≡ i
at_front P r i xs l first s =
    let b = s.below in
    by_cases (get_or xs 0 0) i (λ e. e)
    (λ d.
    let later = first (get_or xs 0 0) (l.each 0 (omega arith)) d in
    absurd (no_place r i xs s.at s.below s.is d (λ k a c. l.rising 0 k a c) later))

pub equal_before : (r : Roster) (i j : ℕ) → (row r j).priority ≡ (row r i).priority → Before (row r i) (row r j) → (row r i).stamp < (row r j).stamp
equal_before r i j e b = elim b [ inl less ↦ absurd (omega arith) | inr p ↦ p.1 ]

pub runs_at_head : (r : Roster) (qs : List (List ℕ)) (i : ℕ) → HasQueues r r.stamp qs → running r ≡ Some i → queue_of qs (row r i).priority ≡ i ∷ drop 1 (queue_of qs (row r i).priority)
runs_at_head r qs i hq e =
    let f = first_is is_ready r i hq.ranges e in
    let ready = running_is_ready r i hq.ranges e in
    let low = hq.low i ready.0 in
    let l = hq.each (row r i).priority low in
    let s = l.whole i (in_now r i hq.ranges ready) in
    let b = s.below in
    headed (queue_of qs (row r i).priority) i (omega arith)
    (at_front (IsIn r r.stamp (row r i).priority) r i (queue_of qs (row r i).priority) l
    (λ j h d. equal_before r i j h.1 (f.least j h.0.0 (ap is_ready h.0.1) d))
    s)

leaves_by : (r : Roster) (i : ℕ) (q : Roster) (qs : List (List ℕ)) → HasQueues r r.stamp qs → running r ≡ Some i → InRanges q → Follows r i q → Leaves i r.stamp q qs
leaves_by r i q qs hq e g f =
    record {
      ranges = g;
      before = r;
      same = refl;
      queued = hq;
      ready = running_is_ready r i hq.ranges e;
      head = runs_at_head r qs i hq e;
      follows = f;
    }

pub leaves_tick : (r : Roster) (i : ℕ) (q : Roster) (qs : List (List ℕ)) → HasQueues r r.stamp qs → running r ≡ Some i → q ≡ tick r → Leaves i r.stamp q qs
leaves_tick r i q qs hq e t = leaves_by r i q qs hq e (subst InRanges (sym t) (ranges-tick r hq.ranges)) (subst (λ z. Follows r i z) (sym t) (follows_tick r i hq.ranges e))

pub leaves_serve : (r : Roster) (i : ℕ) (svc : Svc) (q : Roster) (qs : List (List ℕ)) → HasQueues r r.stamp qs → running r ≡ Some i → q ≡ (serve r i svc).0 → Leaves i r.stamp q qs
leaves_serve r i svc q qs hq e t =
    let ready = running_is_ready r i hq.ranges e in
    leaves_by r i q qs hq e (subst InRanges (sym t) (ranges-serve r i svc hq.ranges ready)) (subst (λ z. Follows r i z) (sym t) (follows_serve r i svc hq.ranges ready))

-- ---- a queue that is lent

pub queue_is : (r : Roster) (qs : List (List ℕ)) (p : ℕ) → HasQueues r r.stamp qs → p < 256 → IsQueue r p (queue_of qs p)
queue_is r qs p hq b =
    lists_same (IsIn r r.stamp p) (IsReadyAt r p) r r (queue_of qs p) (hq.each p b)
    (λ j h. ((h.0, h.1), refl))
    (λ j h. (h.0, h.1, hq.ranges.earlier j h.0.0))
