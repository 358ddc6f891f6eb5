-- What a tick makes of a queue.
use Rattle.std.proofs.Common.{◌≡◌, ◌≢◌, ℕ, zero, suc, ◌+◌, ◌-◌, ◌<◌, ◌≤◌, true, List, ◌++◌, Option, Some, length, get_or, drop, refl, sym, ◌∙◌, ap, subst, inl, inr, arith, length-append, length-drop}
use Rattle.std.proofs.lemmas.Bool.{cases_lt}
use Rattle.std.proofs.lemmas.List.{get_or_append_left, get_or-append_right, get_or-drop}
use Rattle.rt_rules.specs.declared.task.State.TheVariants.{Ready}
use Rattle.rt_rules.specs.declared.task.TaskRow.{TaskRow}
use Rattle.rt_rules.specs.Roster.{Roster, row, IsTask, IsReady, InRanges}
use Rattle.rt_rules.specs.Rules.{is_due, running, arrives, count_down, arrives_if, tick}
use Rattle.rt_rules.proofs.Rows.{by_cases, row-with_row_same, row-with_row_other, length-with_row}
use Rattle.rt_rules.proofs.Walks.{running_is_ready}
use Rattle.rt_rules.proofs.Ranges.{ranges-tick, ranges-arrived}
use Rattle.rt_run.specs.Queue.{StandsIn, Lists, IsReadyAt, IsQueue}
use Rattle.rt_run.specs.Queues.{IsIn, Follows}
use Rattle.rt_run.specs.SuperLaws.{IsTicked, TickMoves}
use Rattle.rt_run.proofs.Tabled.{headed}
use Rattle.rt_run.proofs.Follows.{follows_tick}
use Rattle.rt_run.proofs.Leaving.{list_cut, list_of_others}
use Rattle.rt_run.proofs.MarksCounted.{counted_all}
use Rattle.rt_run.proofs.QueuePlaces.{longer_than, old_list, own_list}

-- what is known of the rows after a tick while task i runs
record Told (r : Roster) (i : ℕ) (s : Roster) : Type 0 where
  ranges : InRanges s
  follows : Follows r i s
  own : IsReady s i
  stamp : (row s i).stamp ≡ r.stamp
  due : (j : ℕ) → IsTask s j → j ≢ i → r.stamp < (row s j).stamp → is_due (row r j).state ≡ true
  rising : (j m : ℕ) → IsTask s j → IsTask s m → r.stamp < (row s j).stamp → r.stamp < (row s m).stamp → j < m → (row s j).stamp < (row s m).stamp

arrived : Roster → ℕ → Roster
arrived r i = arrives (record r { clock = r.clock + 1 }) i Ready

told_by : (r : Roster) (i : ℕ) → InRanges r → running r ≡ Some i → InRanges (count_down (arrived r i)) → Follows r i (count_down (arrived r i)) → InRanges (arrived r i) → Told r i (count_down (arrived r i))
unfolding arrived
told_by r i g e ranges follows early =
    let ready = running_is_ready r i g e in
    let t : TaskRow = record { state = Ready; priority = (row r i).priority; stamp = r.stamp } in
    let c = counted_all (arrived r i) early.earlier in
    let same = follows.same in
    let long : length (arrived r i).tasks ≡ length r.tasks = length-with_row r i t in
    let last = ready.0.1 in
    let there : IsTask (arrived r i) i = (ready.0.0, omega arith) in
    let at : row (arrived r i) i ≡ t = row-with_row_same r i t ready.0 in
    let is : row (count_down (arrived r i)) i ≡ t = c.ready i there (ap (λ (u : TaskRow). u.state) at) ∙ at in
    let back : (j : ℕ) → IsTask (count_down (arrived r i)) j → IsTask (arrived r i) j = λ j h. (h.0, let top = h.1 in omega arith) in
    record {
      ranges = ranges;
      follows = follows;
      own = ((ready.0.0, omega arith), ap (λ (u : TaskRow). u.state) is);
      stamp = ap (λ (u : TaskRow). u.stamp) is;
      due = λ j h d l.
          subst (λ (u : TaskRow). is_due u.state ≡ true) (row-with_row_other r i j t ready.0.0 h.0 d) (c.due j (back j h) (omega arith));
      rising = λ j m h k a b l. c.rising j m (back j h) (back m k) (omega arith) (omega arith) l;
    }

tick_is : (r : Roster) (i : ℕ) → running r ≡ Some i → tick r ≡ count_down (arrived r i)
unfolding arrived
tick_is r i e = ap (λ (o : Option ℕ). count_down (arrives_if (record r { clock = r.clock + 1 }) o)) e

arrived_ranges : (r : Roster) (i : ℕ) → InRanges r → running r ≡ Some i → InRanges (arrived r i)
unfolding arrived
arrived_ranges r i g e = subst (λ (o : Option ℕ). InRanges (arrives_if (record r { clock = r.clock + 1 }) o)) e (ranges-arrived r g)

told : (r : Roster) (i : ℕ) → InRanges r → running r ≡ Some i → Told r i (tick r)
told r i g e =
    let is = tick_is r i e in
    subst (λ s. Told r i s) (sym is)
    (told_by r i g e (subst InRanges is (ranges-tick r g)) (subst (λ s. Follows r i s) is (follows_tick r i g e)) (arrived_ranges r i g e))

-- ---- the tasks behind

-- a task of a later stamp than the running one's was delayed, and such tasks stand in the order of their numbers
later_number : (r : Roster) (i : ℕ) (s : Roster) (j m : ℕ) → Told r i s → IsTask s j → IsTask s m → r.stamp < (row s j).stamp → (row s j).stamp < (row s m).stamp → j < m
later_number r i s j m c h k a b =
    elim (cases_lt j m) [
      | inl less ↦ less
      | inr more ↦
          by_cases j m
          (λ e. absurd (let same = ap (λ x. (row s x).stamp) e in omega arith))
          (λ d. absurd (let rise = c.rising m j k h (omega arith) a (omega arith) in omega arith))
    ]

-- what stands behind place n of a queue, where each has a later stamp than the running task's
record Behind (r : Roster) (s : Roster) (xs : List ℕ) : Type 0 where
  there : (k : ℕ) → k < length xs → IsTask s (get_or xs k 0)
  late : (k : ℕ) → k < length xs → r.stamp < (row s (get_or xs k 0)).stamp
  rising : (j k : ℕ) → j < k → k < length xs → (row s (get_or xs j 0)).stamp < (row s (get_or xs k 0)).stamp

behind_due : (r : Roster) (i : ℕ) (s : Roster) (xs : List ℕ) → Told r i s → Behind r s xs → (k : ℕ) → k < length xs → is_due (row r (get_or xs k 0)).state ≡ true
behind_due r i s xs c b k h =
    let late = b.late k h in
    let own = c.stamp in
    c.due (get_or xs k 0) (b.there k h) (λ e. let same = ap (λ x. (row s x).stamp) e in omega arith) late

behind_rising : (r : Roster) (i : ℕ) (s : Roster) (xs : List ℕ) → Told r i s → Behind r s xs → (j k : ℕ) → j < k → k < length xs → get_or xs j 0 < get_or xs k 0
behind_rising r i s xs c b j k a h =
    later_number r i s (get_or xs j 0) (get_or xs k 0) c (b.there j (omega arith)) (b.there k h) (b.late j (omega arith)) (b.rising j k a h)

-- the place of a task of `more` in a ++ more
placed : (a more : List ℕ) (k : ℕ) → get_or (a ++ more) (length a + k) 0 ≡ get_or more k 0
placed a more k =
    get_or-append_right a more (length a) (length a + k) 0 refl (omega arith) ∙ ap (λ n. get_or more n 0) (omega arith)

-- who stands in more
in_more : (s : Roster) (p : ℕ) (a more : List ℕ) → IsQueue s p (a ++ more) → (k : ℕ) → k < length more → IsReadyAt s p (get_or more k 0)
in_more s p a more l k h =
    let long = length-append a more in
    subst (λ x. IsReadyAt s p x) (placed a more k) (l.each (length a + k) (omega arith))

more_rising : (s : Roster) (p : ℕ) (a more : List ℕ) → IsQueue s p (a ++ more) → (j k : ℕ) → j < k → k < length more → (row s (get_or more j 0)).stamp < (row s (get_or more k 0)).stamp
more_rising s p a more l j k b h =
    let long = length-append a more in
    subst (λ x. (row s x).stamp < (row s (get_or more k 0)).stamp) (placed a more j)
    (subst (λ x. (row s (get_or (a ++ more) (length a + j) 0)).stamp < (row s x).stamp) (placed a more k) (l.rising (length a + j) (length a + k) (omega arith) (omega arith)))

-- ---- a queue of another priority

behind_other : (r : Roster) (i p : ℕ) (s : Roster) (a more : List ℕ) → Told r i s → (row s i).priority ≢ p → IsQueue s p (a ++ more) → ((k : ℕ) → k < length more → r.stamp ≤ (row s (get_or more k 0)).stamp) → Behind r s more
behind_other r i p s a more c other l late =
    record {
      there = λ k h. (in_more s p a more l k h).0.0;
      late = λ k h.
          let here = in_more s p a more l k h in
          let least = late k h in
          by_cases (row s (get_or more k 0)).stamp r.stamp
          (λ e. absurd (other (ap (λ x. (row s x).priority) (sym (c.ranges.different (get_or more k 0) i here.0.0 c.own.0 (e ∙ sym c.stamp))) ∙ here.1)))
          (λ d. omega arith);
      rising = more_rising s p a more l;
    }

-- ---- the running task's queue

-- the running task stands in more
own_place : (r : Roster) (i p : ℕ) (s : Roster) (a more : List ℕ) → Told r i s → (row s i).priority ≡ p → IsQueue s p (a ++ more) → Lists (IsIn s r.stamp p) s a → StandsIn more i
own_place r i p s a more c own l old =
    let st = l.whole i (c.own, own) in
    let below = st.below in
    let long = length-append a more in
    let mine = c.stamp in
    elim (cases_lt st.at (length a)) [
      | inl low ↦
          let is : get_or a st.at 0 ≡ i = sym (get_or_append_left a more 0 st.at low) ∙ st.is in
          let early = subst (λ x. (row s x).stamp < r.stamp) is (old.each st.at low).2 in
          absurd (omega arith)
      | inr high ↦ record { at = st.at - length a; below = omega arith; is = sym (get_or-append_right a more (length a) st.at 0 refl high) ∙ st.is }
    ]

own_first : (r : Roster) (i : ℕ) (s : Roster) (more : List ℕ) → Told r i s → ((k : ℕ) → k < length more → r.stamp ≤ (row s (get_or more k 0)).stamp) → ((j k : ℕ) → j < k → k < length more → (row s (get_or more j 0)).stamp < (row s (get_or more k 0)).stamp) → (k : ℕ) → k < length more → get_or more k 0 ≡ i → get_or more 0 0 ≡ i
own_first r i s more c late rising zero h e = e
own_first r i s more c late rising (suc k) h e =
    let rise = subst (λ x. (row s (get_or more 0 0)).stamp < (row s x).stamp) e (rising 0 (suc k) (omega arith) h) in
    let least = late 0 (omega arith) in
    let own = c.stamp in
    absurd (omega arith)

behind_own : (r : Roster) (i p : ℕ) (s : Roster) (a more : List ℕ) → Told r i s → IsQueue s p (a ++ more) → get_or more 0 0 ≡ i → Behind r s (drop 1 more)
behind_own r i p s a more c l head =
    let long : length (drop 1 more) ≡ length more - 1 = length-drop 1 more in
    let is : (k : ℕ) → get_or (drop 1 more) k 0 ≡ get_or more (1 + k) 0 = λ k. get_or-drop 1 more k 0 in
    record {
      there = λ k h. subst (λ x. IsTask s x) (sym (is k)) (in_more s p a more l (1 + k) (omega arith)).0.0;
      late = λ k h.
          let rise = subst (λ x. (row s x).stamp < (row s (get_or more (1 + k) 0)).stamp) head (more_rising s p a more l 0 (1 + k) (omega arith) (omega arith)) in
          let own = c.stamp in
          subst (λ x. r.stamp < (row s x).stamp) (sym (is k)) (omega arith);
      rising = λ j k b h.
          subst (λ x. (row s x).stamp < (row s (get_or (drop 1 more) k 0)).stamp) (sym (is j))
          (subst (λ x. (row s (get_or more (1 + j) 0)).stamp < (row s x).stamp) (sym (is k)) (more_rising s p a more l (1 + j) (1 + k) (omega arith) (omega arith)));
    }

-- ---- the law

ticked_own : (r : Roster) (i p : ℕ) (s : Roster) (a b : List ℕ) → InRanges r → running r ≡ Some i → Told r i s → IsQueue r p a → IsQueue s p b → (row r i).priority ≡ p → IsTicked r i p a b
ticked_own r i p s a b g e c l m own =
    let ready = running_is_ready r i g e in
    let prio : (row s i).priority ≡ p = c.follows.priority i ready.0 ∙ own in
    let mine = c.stamp in
    let old = list_cut r i s p (drop 1 a) (subst (λ xs. Lists (IsIn r r.stamp p) r xs) (own_list r i p a g e own l) (old_list r p a g l)) c.follows (λ _ early. omega arith) in
    let longer = longer_than r s p (drop 1 a) b m old in
    let queue = subst (λ xs. IsQueue s p xs) longer.is m in
    let place = own_place r i p s (drop 1 a) longer.more c prio queue old in
    let some = place.below in
    let head = own_first r i s longer.more c longer.late (more_rising s p (drop 1 a) longer.more queue) place.at place.below place.is in
    let rest = behind_own r i p s (drop 1 a) longer.more c queue head in
    record {
      woken = drop 1 longer.more;
      own = λ _. longer.is ∙ ap (λ (xs : List ℕ). drop 1 a ++ xs) (headed longer.more i (omega arith) head);
      other = λ d. absurd (d own);
      due = behind_due r i s (drop 1 longer.more) c rest;
      rising = behind_rising r i s (drop 1 longer.more) c rest;
    }

ticked_other : (r : Roster) (i p : ℕ) (s : Roster) (a b : List ℕ) → InRanges r → running r ≡ Some i → Told r i s → IsQueue r p a → IsQueue s p b → (row r i).priority ≢ p → IsTicked r i p a b
ticked_other r i p s a b g e c l m other =
    let ready = running_is_ready r i g e in
    let longer = longer_than r s p a b m (list_of_others r i s p a (old_list r p a g l) c.follows other) in
    let rest = behind_other r i p s a longer.more c (λ own. other (sym (c.follows.priority i ready.0) ∙ own)) (subst (λ xs. IsQueue s p xs) longer.is m) longer.late in
    record {
      woken = longer.more;
      own = λ own. absurd (other own);
      other = λ _. longer.is;
      due = behind_due r i s longer.more c rest;
      rising = behind_rising r i s longer.more c rest;
    }

pub tick_moves : TickMoves
tick_moves r i p a b g e l m =
    let c = told r i g e in
    by_cases (row r i).priority p
    (λ own. ticked_own r i p (tick r) a b g e c l m own)
    (λ other. ticked_other r i p (tick r) a b g e c l m other)
