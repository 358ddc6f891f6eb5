-- A queue is the only one of its tasks, and what a service makes of it.
use Rattle.std.proofs.Common.{◌≡◌, ◌≢◌, ◌⊎◌, ℕ, zero, suc, ◌+◌, ◌-◌, ◌<◌, ◌≤◌, Bool, true, false, List, [], ◌∷◌, ◌++◌, Some, length, get_or, take, drop, refl, sym, ◌∙◌, ap, subst, inl, inr, arith, length-take-le, length-drop}
use Rattle.std.proofs.lemmas.Bool.{cases_lt}
use Rattle.std.proofs.lemmas.List.{get_or-take, get_or-drop, take-append-drop}
use Rattle.rt_rules.specs.Roster.{Roster, row, IsTask, IsReady, InRanges}
use Rattle.rt_rules.specs.First.{IsFirst}
use Rattle.rt_rules.specs.Rules.{is_ready, running, serve}
use Rattle.rt_rules.proofs.Rows.{by_cases}
use Rattle.rt_rules.proofs.Walks.{is_ready_is, running_is_ready}
use Rattle.rt_rules.proofs.Firsts.{first_is}
use Rattle.rt_rules.proofs.Finds.{finds_first}
use Rattle.rt_run.specs.Queue.{StandsIn, Lists, IsReadyAt, IsQueue}
use Rattle.rt_run.specs.Queues.{IsIn, Follows, has_left}
use Rattle.rt_run.specs.SuperLaws.{OneQueue, RunsAtHead, HeadRuns, IsLonger, ServiceMoves}
use Rattle.rt_run.proofs.Tabled.{headed}
use Rattle.rt_run.proofs.Listed.{lists_same, lists_tail}
use Rattle.rt_run.proofs.Follows.{follows_serve}
use Rattle.rt_run.proofs.Leaving.{list_stays, list_cut, list_of_others, stands_ready, left_not_ready}
use Rattle.rt_run.proofs.Heads.{at_front, equal_before, behind}

-- ---- there is one list

-- at place k of a list, which begins with y, stands x
is_head_or_later : (P : ℕ → Type 0) (r : Roster) (x y : ℕ) (ys : List ℕ) → Lists P r (y ∷ ys) → StandsIn (y ∷ ys) x → (x ≡ y) ⊎ ((row r y).stamp < (row r x).stamp)
is_head_or_later P r x y ys l s =
    by_cases x y (λ e. inl e) (λ d. inr (behind P r y x ys l s.at s.below s.is d))

same_head : (P : ℕ → Type 0) (r : Roster) (x y : ℕ) (xs ys : List ℕ) → Lists P r (x ∷ xs) → Lists P r (y ∷ ys) → x ≡ y
same_head P r x y xs ys l m =
    elim (is_head_or_later P r x y ys m (m.whole x (l.each 0 (omega arith)))) [
      | inl e ↦ e
      | inr later ↦
          elim (is_head_or_later P r y x xs l (l.whole y (m.each 0 (omega arith)))) [
            | inl e ↦ sym e
            | inr earlier ↦ absurd (omega arith)
          ]
    ]

none_stands : (x : ℕ) → StandsIn [] x → ⊥
none_stands x s = let b = s.below in omega arith

tail_of : (P : ℕ → Type 0) (r : Roster) (x : ℕ) (xs : List ℕ) → Lists P r (x ∷ xs) → Lists (λ i. P i × (i ≢ x)) r xs
tail_of P r x xs l = lists_tail P (λ i. P i × (i ≢ x)) r r x xs l (λ i h d. ((h, d), refl)) (λ i h. (h.0, h.1))

pub lists_one : (P : ℕ → Type 0) (r : Roster) (xs ys : List ℕ) → Lists P r xs → Lists P r ys → xs ≡ ys
lists_one P r [] [] l m = refl
lists_one P r [] (y ∷ ys) l m = absurd (none_stands y (l.whole y (m.each 0 (omega arith))))
lists_one P r (x ∷ xs) [] l m = absurd (none_stands x (m.whole x (l.each 0 (omega arith))))
lists_one P r (x ∷ xs) (y ∷ ys) l m =
    let e = same_head P r x y xs ys l m in
    let rest = lists_one (λ i. P i × (i ≢ x)) r xs ys (tail_of P r x xs l) (tail_of P r x ys (subst (λ z. Lists P r (z ∷ ys)) (sym e) m)) in
    ap (λ z. z ∷ xs) e ∙ ap (λ zs. y ∷ zs) rest

pub one_queue : OneQueue
one_queue r p a b l m = lists_one (IsReadyAt r p) r a b l m

pub runs_at_head : RunsAtHead
runs_at_head r i a g e l =
    let f = first_is is_ready r i g e in
    let ready = running_is_ready r i g e in
    let s = l.whole i (ready, refl) in
    let b = s.below in
    headed a i (omega arith)
    (at_front (IsReadyAt r (row r i).priority) r i a l (λ j h d. equal_before r i j h.1 (f.least j h.0.0 (ap is_ready h.0.1) d)) s)

pub head_runs : HeadRuns
head_runs r p i a g l none =
    let here : IsReadyAt r p i = l.each 0 (omega arith) in
    let first : IsFirst is_ready r i = record {
      there = here.0.0;
      suits = ap is_ready here.0.1;
      least = λ j there suits d.
          let ready : IsReady r j = (there, is_ready_is (row r j).state suits) in
          elim (cases_lt (row r j).priority p) [
            | inl less ↦ absurd (none_stands j ((none (row r j).priority less).whole j (ready, refl)))
            | inr more ↦
                by_cases (row r j).priority p
                (λ same.
                let s = l.whole j (ready, same) in
                inr (here.1 ∙ sym same, behind (IsReadyAt r p) r i j a l s.at s.below s.is d))
                (λ other. let own = here.1 in inl (omega arith))
          ];
    } in
    (finds_first is_ready r i g).1 first

-- ---- a queue is cut where the new stamps begin

-- the first n places of a list have stamps below n0, the others up to m have later ones
record Cut (r : Roster) (n0 : ℕ) (xs : List ℕ) (m : ℕ) : Type 0 where
  at : ℕ
  within : at ≤ m
  old : (k : ℕ) → k < at → (row r (get_or xs k 0)).stamp < n0
  new : (k : ℕ) → at ≤ k → k < m → n0 ≤ (row r (get_or xs k 0)).stamp

cut_more : (P : ℕ → Type 0) (r : Roster) (n0 : ℕ) (xs : List ℕ) (m : ℕ) → Lists P r xs → m < length xs → Cut r n0 xs m → Cut r n0 xs (suc m)
cut_more P r n0 xs m l h c =
    let within = c.within in
    elim (cases_lt (row r (get_or xs m 0)).stamp n0) [
      | inl old ↦ record {
        at = suc m;
        within = omega arith;
        old = λ k b.
            by_cases k m
            (λ e. subst (λ z. (row r (get_or xs z 0)).stamp < n0) (sym e) old)
            (λ d. let rise = l.rising k m (omega arith) h in omega arith);
        new = λ k a b. absurd (omega arith);
      }
      | inr new ↦ record {
        at = c.at;
        within = omega arith;
        old = c.old;
        new = λ k a b.
            by_cases k m
            (λ e. subst (λ z. n0 ≤ (row r (get_or xs z 0)).stamp) (sym e) new)
            (λ d. c.new k a (omega arith));
      }
    ]

cut_to : (P : ℕ → Type 0) (r : Roster) (n0 : ℕ) (xs : List ℕ) → Lists P r xs → (m : ℕ) → m ≤ length xs → Cut r n0 xs m
cut_to P r n0 xs l zero h = record { at = 0; within = omega arith; old = λ k b. absurd (omega arith); new = λ k a b. absurd (omega arith) }
cut_to P r n0 xs l (suc m) h = cut_more P r n0 xs m l (omega arith) (cut_to P r n0 xs l m (omega arith))

-- the front of a queue has its tasks of old stamps
front_of : (s : Roster) (n0 p : ℕ) (b : List ℕ) → IsQueue s p b → (c : Cut s n0 b (length b)) → Lists (IsIn s n0 p) s (take c.at b)
front_of s n0 p b l c =
    let within = c.within in
    let long : length (take c.at b) ≡ c.at = length-take-le c.at b c.within in
    let same : (k : ℕ) → k < c.at → get_or (take c.at b) k 0 ≡ get_or b k 0 = λ k h. get_or-take c.at b k 0 h in
    record {
      each = λ k h.
          let low : k < c.at = omega arith in
          let here = l.each k (omega arith) in
          subst (λ j. IsIn s n0 p j) (sym (same k low)) (here.0, here.1, c.old k low);
      whole = λ i h.
          let st = l.whole i (h.0, h.1) in
          let below = st.below in
          let early = subst (λ j. (row s j).stamp < n0) (sym st.is) h.2 in
          elim (cases_lt st.at c.at) [
            | inl low ↦ record { at = st.at; below = omega arith; is = same st.at low ∙ st.is }
            | inr high ↦ absurd (let late = c.new st.at high st.below in omega arith)
          ];
      rising = λ j k a h.
          let low : k < c.at = omega arith in
          let first : j < c.at = omega arith in
          let rise = l.rising j k a (omega arith) in
          subst (λ x. (row s x).stamp < (row s (get_or (take c.at b) k 0)).stamp) (sym (same j first))
          (subst (λ x. (row s (get_or b j 0)).stamp < (row s x).stamp) (sym (same k low)) rise);
    }

-- so it is longer than the list of those
pub longer_than : (r s : Roster) (p : ℕ) (a b : List ℕ) → IsQueue s p b → Lists (IsIn s r.stamp p) s a → IsLonger r s a b
longer_than r s p a b l old =
    let c = cut_to (IsReadyAt s p) s r.stamp b l (length b) (omega arith) in
    let within = c.within in
    let front : take c.at b ≡ a = lists_one (IsIn s r.stamp p) s (take c.at b) a (front_of s r.stamp p b l c) old in
    let long : length (drop c.at b) ≡ length b - c.at = length-drop c.at b in
    record {
      more = drop c.at b;
      is = sym (take-append-drop c.at b) ∙ ap (λ (xs : List ℕ). xs ++ drop c.at b) front;
      late = λ k h.
          subst (λ x. r.stamp ≤ (row s x).stamp) (sym (get_or-drop c.at b k 0)) (c.new (c.at + k) (omega arith) (omega arith));
    }

-- a queue as the list of the tasks with the stamps so far
pub old_list : (r : Roster) (p : ℕ) (a : List ℕ) → InRanges r → IsQueue r p a → Lists (IsIn r r.stamp p) r a
old_list r p a g l =
    lists_same (IsReadyAt r p) (IsIn r r.stamp p) r r a l
    (λ j h. ((h.0, h.1, g.earlier j h.0.0), refl))
    (λ j h. (h.0, h.1))

-- the queue of the running task is headed by it
pub own_list : (r : Roster) (i p : ℕ) (a : List ℕ) → InRanges r → running r ≡ Some i → (row r i).priority ≡ p → IsQueue r p a → a ≡ i ∷ drop 1 a
own_list r i p a g e prio l = runs_at_head r i a g e (subst (λ n. IsQueue r n a) (sym prio) l)

moved_by : (r : Roster) (i p : ℕ) (s : Roster) (a b : List ℕ) (left : Bool) → InRanges r → running r ≡ Some i → Follows r i s → IsQueue r p a → IsQueue s p b → has_left (row s i) r.stamp ≡ left → IsLonger r s a b ⊎ (((row r i).priority ≡ p) × IsLonger r s (drop 1 a) b)
moved_by r i p s a b false g e f l m h =
    let st = stands_ready (row s i) r.stamp h in
    let ready = running_is_ready r i g e in
    let same = f.same in
    let last = ready.0.1 in
    let there : IsTask s i = (ready.0.0, omega arith) in
    inl (longer_than r s p a b m (list_stays r i s p a (old_list r p a g l) f (λ _. f.was i (there, st.0) st.1)))
moved_by r i p s a b true g e f l m h =
    by_cases (row r i).priority p
    (λ own.
    let head = own_list r i p a g e own l in
    inr (
      own,
      longer_than r s p (drop 1 a) b m
          (list_cut r i s p (drop 1 a) (subst (λ xs. Lists (IsIn r r.stamp p) r xs) head (old_list r p a g l)) f (λ ready early. left_not_ready (row s i) r.stamp h ready.1 early)),
    ))
    (λ other. inl (longer_than r s p a b m (list_of_others r i s p a (old_list r p a g l) f other)))

pub service_moves : ServiceMoves
service_moves r i p svc a b g e l m =
    let ready = running_is_ready r i g e in
    moved_by r i p (serve r i svc).0 a b (has_left (row (serve r i svc).0 i) r.stamp) g e (follows_serve r i svc g ready) l m refl
