-- What a task has changes by its own services alone.
use Rattle.std.proofs.Common.{◌≡◌, ◌≢◌, inl, inr, ℕ, suc, ◌+◌, ◌-◌, ◌<◌, ◌≤◌, true, false, ◌==◌, if◌then◌else◌, eqb-true, length, refl, sym, ap, ◌∙◌, subst, arith}
use Rattle.std.proofs.lemmas.Bool.{eqb-false, le-leb}
use Rattle.rt_rules.specs.declared.task.State.{State}
use Rattle.rt_rules.specs.declared.task.State.TheVariants.{Ready, Delayed, Event, Facility}
use Rattle.rt_rules.specs.declared.task.TaskRow.{TaskRow}
use Rattle.rt_rules.specs.declared.service.Svc.{Svc}
use Rattle.rt_rules.specs.Roster.{Roster, row, owner_of, IsTask, IsNumber, has_ended, IsReady, InRanges}
use Rattle.rt_rules.specs.declared.service.Outcome.TheVariants.{Go, Waits, Error}
use Rattle.rt_rules.specs.Rules.{Served, is_number, secure, release, running, with_row, with_owner, arrives, becomes, arrives_if, tick, give, give_if_owned, gives_from, serve}
use Rattle.rt_rules.proofs.Rows.{by_cases, if_by, row-with_row_same, row-with_row_other, length-with_row, at_owner, owner-with_owner_same, owner-with_owner_other}
use Rattle.rt_rules.proofs.Giving.{give_cases, give_if_owned_cases, not_ready}
use Rattle.rt_rules.proofs.Walks.{gives_from_goes, count_down_goes, count_task_cases, arrival_goes, running_is_ready, is_number_is, serve_goes}
use Rattle.rt_rules.proofs.Ranges.{ranges-give_if_owned}
use Rattle.rt_guards_laws.specs.Owning.{Has, Keeps, TicksKeep, ServicesKeepOthers, Secures, SecureAdds, Releases, ReleaseTakes, OthersLeave, TicksKeepLower, ServicesKeepLower}

-- a condition of none that waits for a facility
abbrev NoWait : State → Type 0
NoWait s = (n : ℕ) → s ≢ Facility n

ready_no_wait : NoWait Ready
ready_no_wait n e = cc

delayed_no_wait : (m : ℕ) → NoWait (Delayed m)
delayed_no_wait m n e = cc

event_no_wait : (m : ℕ) → NoWait (Event m)
event_no_wait m n e = cc

ended_no_wait : (s : State) → has_ended s ≡ true → NoWait s
ended_no_wait s h n e = let no : has_ended s ≡ false = ap has_ended e in cc

facility_is : (m n : ℕ) → Facility m ≡ Facility n → m ≡ n
facility_is m n e = cc

no_wait_as : (s t : State) → s ≡ t → NoWait t → NoWait s
no_wait_as s t e none n f = none n (sym e ∙ f)

-- ---- one change

pub keeps_same : (r : Roster) (j : ℕ) → Keeps r r j
keeps_same r j = (λ n k h. h, λ n k h. h, λ n w. (w, λ m k o. o))

keeps_then : (r q p : Roster) (j : ℕ) → Keeps r q j → Keeps q p j → Keeps r p j
keeps_then r q p j a b = (
  λ n k h. b.0 n k (a.0 n k h),
  λ n k h. a.1 n k (b.1 n k h),
  λ n w. ((a.2 n (b.2 n w).0).0, λ m k o. (a.2 n (b.2 n w).0).1 m k ((b.2 n w).1 m k o)),
)

state_other : (r : Roster) (k j : ℕ) (t : TaskRow) → 1 ≤ k → 1 ≤ j → j ≢ k → (row (with_row r k t) j).state ≡ (row r j).state
state_other r k j t a b d = ap (λ (u : TaskRow). u.state) (row-with_row_other r k j t a b d)

state_same : (r : Roster) (k : ℕ) (t : TaskRow) → IsTask r k → (row (with_row r k t) k).state ≡ t.state
state_same r k t h = ap (λ (u : TaskRow). u.state) (row-with_row_same r k t h)

-- a row is replaced
keeps_row_other : (r : Roster) (k j : ℕ) (t : TaskRow) → 1 ≤ k → 1 ≤ j → j ≢ k → Keeps r (with_row r k t) j
keeps_row_other r k j t a b d = (
  λ n _ h. elim h [ inl o ↦ inl o | inr w ↦ inr (state_other r k j t a b d ∙ w) ],
  λ n _ h. elim h [ inl o ↦ inl o | inr w ↦ inr (sym (state_other r k j t a b d) ∙ w) ],
  λ n w. (sym (state_other r k j t a b d) ∙ w, λ m _ o. o),
)

keeps_row_same : (r : Roster) (k : ℕ) (t : TaskRow) → IsTask r k → NoWait (row r k).state → NoWait t.state → Keeps r (with_row r k t) k
keeps_row_same r k t h was now = (
  λ n _ x. elim x [ inl o ↦ inl o | inr w ↦ absurd (was n w) ],
  λ n _ x. elim x [ inl o ↦ inl o | inr w ↦ absurd (now n (sym (state_same r k t h) ∙ w)) ],
  λ n w. absurd (now n (sym (state_same r k t h) ∙ w)),
)

keeps_row : (r : Roster) (k j : ℕ) (t : TaskRow) → IsTask r k → 1 ≤ j → NoWait (row r k).state → NoWait t.state → Keeps r (with_row r k t) j
keeps_row r k j t h one was now =
    by_cases j k
    (λ e. subst (λ x. Keeps r (with_row r k t) x) (sym e) (keeps_row_same r k t h was now))
    (λ d. keeps_row_other r k j t h.0 one d)

-- an owner is replaced by another, neither of whom is the task
keeps_owner : (r : Roster) (m o j : ℕ) → InRanges r → IsNumber m → owner_of r m ≢ j → o ≢ j → Keeps r (with_owner r m o) j
keeps_owner r m o j g k was now =
    let back : (n : ℕ) → IsNumber n → owner_of (with_owner r m o) n ≡ j → owner_of r n ≡ j = λ n l own.
    by_cases n m
    (λ e. absurd (now (sym (owner-with_owner_same r m o g.owners k) ∙ subst (λ x. owner_of (with_owner r m o) x ≡ j) e own)))
    (λ d. sym (owner-with_owner_other r m n o k.0 l.0 d) ∙ own) in (
      λ n l h. elim h [
        | inl own ↦ inl (owner-with_owner_other r m n o k.0 l.0 (λ e. was (subst (λ x. owner_of r x ≡ j) e own)) ∙ own)
        | inr w ↦ inr w
      ],
      λ n l h. elim h [ inl own ↦ inl (back n l own) | inr w ↦ inr w ],
      λ n w. (w, λ x l own. back x l own),
    )

-- the facility for which it waits is handed to it
keeps_handed : (r : Roster) (m j : ℕ) → InRanges r → IsNumber m → IsTask r j → (row r j).state ≡ Facility m → Keeps r (arrives (with_owner r m j) j Ready) j
keeps_handed r m j g k h waits =
    let ready : (row (arrives (with_owner r m j) j Ready) j).state ≡ Ready = state_same (record (with_owner r m j) { stamp = r.stamp + 1 }) j _ h in (
      λ n l x. elim x [
        | inl own ↦ inl (at_owner (λ y. y ≡ j) r m n j g.owners k l.0 (λ _. refl) (λ _. own))
        | inr w ↦ inl (at_owner (λ y. y ≡ j) r m n j g.owners k l.0 (λ _. refl) (λ d. absurd (d (facility_is n m (sym w ∙ waits)))))
      ],
      λ n l x. elim x [
        | inl own ↦ by_cases n m
            (λ e. inr (waits ∙ ap (λ y. Facility y) (sym e)))
            (λ d. inl (sym (owner-with_owner_other r m n j k.0 l.0 d) ∙ own))
        | inr w ↦ absurd (ready_no_wait n (sym ready ∙ w))
      ],
      λ n w. absurd (ready_no_wait n (sym ready ∙ w)),
    )

keeps_given_to : (r : Roster) (m k j : ℕ) → InRanges r → IsNumber m → owner_of r m ≢ j → IsTask r k → (row r k).state ≡ Facility m → IsTask r j → Keeps r (arrives (with_owner r m k) k Ready) j
keeps_given_to r m k j g l other h waits there =
    by_cases k j
    (λ e. subst (λ x. Keeps r (arrives (with_owner r m x) x Ready) j) (sym e) (keeps_handed r m j g l there (subst (λ x. (row r x).state ≡ Facility m) e waits)))
    (λ d. keeps_then r (with_owner r m k) (arrives (with_owner r m k) k Ready) j (keeps_owner r m k j g l other d) (keeps_row_other (record (with_owner r m k) { stamp = r.stamp + 1 }) k j _ h.0 there.0 (λ e. d (sym e))))

free_no_task : (r : Roster) (j : ℕ) → IsTask r j → 0 ≢ j
free_no_task r j h e = let one = h.0 in omega arith

keeps_give : (r : Roster) (m j : ℕ) → InRanges r → IsNumber m → owner_of r m ≢ j → IsTask r j → Keeps r (give r m) j
keeps_give r m j g l other there =
    give_cases (λ q. Keeps r q j) r m g
    (λ _. keeps_owner r m 0 j g l other (free_no_task r j there))
    (λ k h waits. keeps_given_to r m k j g l other h waits there)

keeps_give_if_owned : (r : Roster) (i m j : ℕ) → InRanges r → IsNumber m → i ≢ j → IsTask r j → Keeps r (give_if_owned r i m) j
keeps_give_if_owned r i m j g l apart there =
    give_if_owned_cases (λ q. Keeps r q j) r i m g
    (λ own _. keeps_owner r m 0 j g l (λ e. apart (sym own ∙ e)) (free_no_task r j there))
    (λ own k h waits. keeps_given_to r m k j g l (λ e. apart (sym own ∙ e)) h waits there)
    (λ _. keeps_same r j)

length_give_if_owned : (r : Roster) (i m : ℕ) → InRanges r → length (give_if_owned r i m).tasks ≡ length r.tasks
length_give_if_owned r i m g =
    give_if_owned_cases (λ q. length q.tasks ≡ length r.tasks) r i m g (λ _ _. refl) (λ _ k _ _. length-with_row r k _) (λ _. refl)

record Leaving (r : Roster) (j : ℕ) (q : Roster) : Type 0 where
  ranges : InRanges q
  same : length q.tasks ≡ length r.tasks
  keeps : Keeps r q j

leaves_all : (r : Roster) (i j : ℕ) → InRanges r → i ≢ j → IsTask r j → Leaving r j (gives_from i 1 32 r)
leaves_all r i j g apart there =
    gives_from_goes (λ _ q. Leaving r j q) i
    (λ m q k p. record {
      ranges = ranges-give_if_owned q i m p.ranges k;
      same = length_give_if_owned q i m p.ranges ∙ p.same;
      keeps = keeps_then r q (give_if_owned q i m) j p.keeps (keeps_give_if_owned q i m j p.ranges k apart (there.0, omega (arith, there.1, p.same)));
    })
    32 1 r (omega arith) refl (record { ranges = g; same = refl; keeps = keeps_same r j })

-- ---- others' services, and ticks

pub services_keep_others : ServicesKeepOthers
services_keep_others r i j s g runs there apart =
    let h = running_is_ready r i g runs in
    let other : j ≢ i = λ e. apart (sym e) in
    serve_goes (λ q. Keeps r q j) r i s g
    (record {
      nothing = keeps_same r j;
      anew = λ _ _. keeps_row_other (record r { stamp = r.stamp + 1 }) i j _ h.0.0 there.0 other;
      delayed = λ _ _. keeps_row_other (record r { stamp = r.stamp + 1 }) i j _ h.0.0 there.0 other;
      flagged = λ _ _ _. keeps_same r j;
      waiting = λ _ _ _. keeps_row_other (record r { stamp = r.stamp + 1 }) i j _ h.0.0 there.0 other;
      woken = λ n k _ t e. keeps_row (record r { stamp = r.stamp + 1 }) k j _ t there.0 (no_wait_as _ _ e (event_no_wait n)) ready_no_wait;
      secured = λ n _ k free. keeps_owner r n i j g k (λ e. free_no_task r j there (sym free ∙ e)) apart;
      queued = λ _ _ _ _ _. keeps_row_other (record r { stamp = r.stamp + 1 }) i j _ h.0.0 there.0 other;
      released = λ n _ k own. keeps_give r n j g k (λ e. apart (sym own ∙ e)) there;
      ended = λ s2 _ _.
          let all = leaves_all r i j g apart there in
          keeps_then r (gives_from i 1 32 r) (becomes (gives_from i 1 32 r) i s2) j all.keeps (keeps_row_other (gives_from i 1 32 r) i j _ h.0.0 there.0 other);
    })

record Counted (r : Roster) (j : ℕ) (q : Roster) : Type 0 where
  same : length q.tasks ≡ length r.tasks
  keeps : Keeps r q j

counted : (r : Roster) (j : ℕ) → InRanges r → IsTask r j → Counted r j (tick r)
counted r j g there = count_down_goes (λ _ q. Counted r j q) begun step begins
  where
    begun : Roster
    begun = arrives_if (record r { clock = r.clock + 1 }) (running r)

    begins : Counted r j begun
    begins =
        arrival_goes (λ q. Counted r j q) r g
        (record { same = refl; keeps = keeps_same r j })
        (λ i h. record { same = length-with_row r i _; keeps = keeps_row (record r { stamp = r.stamp + 1; clock = r.clock + 1 }) i j _ h.0 there.0 (no_wait_as _ _ h.1 ready_no_wait) ready_no_wait })

    step : (k : ℕ) (q : Roster) → IsTask q (suc k) → length q.tasks ≡ length begun.tasks → Counted r j q → Counted r j (Rattle.rt_rules.specs.Code.count_task q (suc k))
    step k q h _ p =
        count_task_cases (λ p2. Counted r j p2) q (suc k)
        (λ n e _. record {
          same = length-with_row q (suc k) _ ∙ p.same;
          keeps = keeps_then r q (arrives q (suc k) Ready) j p.keeps (keeps_row (record q { stamp = q.stamp + 1 }) (suc k) j _ h there.0 (no_wait_as _ _ e (delayed_no_wait n)) ready_no_wait);
        })
        (λ n e _. record {
          same = length-with_row q (suc k) _ ∙ p.same;
          keeps = keeps_then r q (becomes q (suc k) (Delayed (n - 1))) j p.keeps (keeps_row q (suc k) j _ h there.0 (no_wait_as _ _ e (delayed_no_wait n)) (delayed_no_wait (n - 1)));
        })
        (λ _. p)

pub ticks_keep : TicksKeep
ticks_keep r j g there = (counted r j g there).keeps

pub length_tick : (r : Roster) → InRanges r → length (tick r).tasks ≡ length r.tasks
length_tick r g = (counted r 1 g (omega arith, g.some)).same

-- ---- a task's own services

not_waiting : (r : Roster) (i : ℕ) → IsReady r i → NoWait (row r i).state
not_waiting r i h = no_wait_as (row r i).state Ready h.1 ready_no_wait

-- what a ready task has it owns
has_owned : (r : Roster) (i m : ℕ) → IsReady r i → Has r i m → owner_of r m ≡ i
has_owned r i m h x = elim x [ inl own ↦ own | inr w ↦ absurd (not_waiting r i h m w) ]

number_true : (n : ℕ) → IsNumber n → is_number n ≡ true
number_true n k = let a = le-leb 1 n k.0 in let b = le-leb n 32 k.1 in cc

no_number : {A : Type 0} (n : ℕ) → IsNumber n → is_number n ≡ false → A
no_number n k e = let t = number_true n k in absurd cc

secured_free : (r : Roster) (i n : ℕ) → InRanges r → IsReady r i → IsNumber n → Secures r (with_owner r n i) i n
secured_free r i n g h k = record {
  had = λ m l x. inl (at_owner (λ y. y ≡ i) r n m i g.owners k l.0 (λ _. refl) (λ _. has_owned r i m h x));
  now = inl (owner-with_owner_same r n i g.owners k);
  only = λ m l x. elim x [
    | inl own ↦ by_cases m n (λ e. inr e) (λ d. inl (inl (sym (owner-with_owner_other r n m i k.0 l.0 d) ∙ own)))
    | inr w ↦ absurd (not_waiting r i h m w)
  ];
}

secured_queued : (r : Roster) (i n : ℕ) → IsReady r i → Secures r (arrives r i (Facility n)) i n
secured_queued r i n h =
    let waits : (row (arrives r i (Facility n)) i).state ≡ Facility n = state_same (record r { stamp = r.stamp + 1 }) i _ h.0 in
    record {
      had = λ m l x. inl (has_owned r i m h x);
      now = inr waits;
      only = λ m l x. elim x [ inl own ↦ inl (inl own) | inr w ↦ inr (facility_is m n (sym w ∙ waits)) ];
    }

secured_before : (r : Roster) (i n : ℕ) → owner_of r n ≡ i → Secures r r i n
secured_before r i n own = record { had = λ m l x. x; now = inl own; only = λ m l x. inl x }

pub secure_adds : SecureAdds
secure_adds r i n g runs k =
    let h = running_is_ready r i g runs in
    if_by (λ (s : Served). Secures r s.0 i n) (is_number n) (secure r i n) (r, Error 5)
    (λ e. if_by (λ (s : Served). Secures r s.0 i n) (owner_of r n == i) (r, Error 4) (if owner_of r n == 0 then (with_owner r n i, Go 0) else (arrives r i (Facility n), Waits))
    (λ own. secured_before r i n (eqb-true (owner_of r n) i own))
    (λ other. if_by (λ (s : Served). Secures r s.0 i n) (owner_of r n == 0) (with_owner r n i, Go 0) (arrives r i (Facility n), Waits)
    (λ free. secured_free r i n g h k)
    (λ taken. secured_queued r i n h)))
    (λ e. no_number n k e)

released_none : (r : Roster) (i n : ℕ) → ((m : ℕ) → IsNumber m → Has r i m → m ≢ n) → Releases r r i n
released_none r i n apart = record { had = λ m l d x. x; only = λ m l x. (x, apart m l x) }

released_free : (r : Roster) (i n : ℕ) → InRanges r → IsReady r i → IsNumber n → Releases r (with_owner r n 0) i n
released_free r i n g h k = record {
  had = λ m l d x. inl (owner-with_owner_other r n m 0 k.0 l.0 d ∙ has_owned r i m h x);
  only = λ m l x. elim x [
    | inl own ↦ by_cases m n
        (λ e. absurd (free_no_task r i h.0 (sym (owner-with_owner_same r n 0 g.owners k) ∙ subst (λ y. owner_of (with_owner r n 0) y ≡ i) e own)))
        (λ d. (inl (sym (owner-with_owner_other r n m 0 k.0 l.0 d) ∙ own), d))
    | inr w ↦ absurd (not_waiting r i h m w)
  ];
}

released_handed : (r : Roster) (i n j : ℕ) → InRanges r → IsReady r i → IsNumber n → IsTask r j → (row r j).state ≡ Facility n → Releases r (arrives (with_owner r n j) j Ready) i n
released_handed r i n j g h k there waits =
    let apart : i ≢ j = not_ready r i j n h waits in
    let still : (row (arrives (with_owner r n j) j Ready) i).state ≡ (row r i).state = state_other (record (with_owner r n j) { stamp = r.stamp + 1 }) j i _ there.0 h.0.0 apart in
    record {
      had = λ m l d x. inl (owner-with_owner_other r n m j k.0 l.0 d ∙ has_owned r i m h x);
      only = λ m l x. elim x [
        | inl own ↦ by_cases m n
            (λ e. absurd (apart (sym (subst (λ y. owner_of (with_owner r n j) y ≡ i) e own) ∙ owner-with_owner_same r n j g.owners k)))
            (λ d. (inl (sym (owner-with_owner_other r n m j k.0 l.0 d) ∙ own), d))
        | inr w ↦ absurd (not_waiting r i h m (sym still ∙ w))
      ];
    }

pub release_takes : ReleaseTakes
release_takes r i n g runs =
    let h = running_is_ready r i g runs in
    if_by (λ (s : Served). Releases r s.0 i n) (is_number n) (release r i n) (r, Error 5)
    (λ e. let k = is_number_is n e in
    if_by (λ (s : Served). Releases r s.0 i n) (owner_of r n == i) (give r n, Go 0) (r, Error 4)
    (λ own. give_cases (λ q. Releases r q i n) r n g (λ _. released_free r i n g h k) (λ j there waits. released_handed r i n j g h k there waits))
    (λ other. released_none r i n (λ m l x d. eqb-false (owner_of r n) i other (subst (λ y. owner_of r y ≡ i) d (has_owned r i m h x)))))
    (λ e. released_none r i n (λ m l x d. no_number n (subst IsNumber d l) e))

pub others_leave : OthersLeave
others_leave r i s g runs secures releases ends =
    let h = running_is_ready r i g runs in
    let here : (t : TaskRow) → NoWait t.state → Keeps r (with_row r i t) i = λ t now. keeps_row_same r i t h.0 (not_waiting r i h) now in
    let kept = serve_goes (λ q. Keeps r q i) r i s g
    (record {
      nothing = keeps_same r i;
      anew = λ _ _. here _ ready_no_wait;
      delayed = λ n _. here _ (delayed_no_wait n);
      flagged = λ _ _ _. keeps_same r i;
      waiting = λ n _ _. here _ (event_no_wait n);
      woken = λ n k _ t e. keeps_row (record r { stamp = r.stamp + 1 }) k i _ t h.0.0 (no_wait_as _ _ e (event_no_wait n)) ready_no_wait;
      secured = λ n e _ _. absurd (secures n e);
      queued = λ n e _ _ _. absurd (secures n e);
      released = λ n e _ _. absurd (releases n e);
      ended = λ _ e _. absurd (ends e);
    }) in
    λ m k. (kept.0 m k, kept.1 m k)

-- ---- who waits owns lower facilities alone

length_all : (r : Roster) (i : ℕ) → InRanges r → length (gives_from i 1 32 r).tasks ≡ length r.tasks
length_all r i g =
    (gives_from_goes (λ _ q. InRanges q × (length q.tasks ≡ length r.tasks)) i
    (λ m q k p. (ranges-give_if_owned q i m p.0 k, length_give_if_owned q i m p.0 ∙ p.1))
    32 1 r (omega arith) refl (g, refl)).1

pub length_serve : (r : Roster) (i : ℕ) (s : Svc) → InRanges r → length (serve r i s).0.tasks ≡ length r.tasks
length_serve r i s g =
    serve_goes (λ q. length q.tasks ≡ length r.tasks) r i s g
    (record {
      nothing = refl;
      anew = λ _ _. length-with_row r i _;
      delayed = λ _ _. length-with_row r i _;
      flagged = λ _ _ _. refl;
      waiting = λ _ _ _. length-with_row r i _;
      woken = λ _ k _ _ _. length-with_row r k _;
      secured = λ _ _ _ _. refl;
      queued = λ _ _ _ _ _. length-with_row r i _;
      released = λ n _ _ _. give_cases (λ q. length q.tasks ≡ length r.tasks) r n g (λ _. refl) (λ k _ _. length-with_row r k _);
      ended = λ s2 _ _. length-with_row (gives_from i 1 32 r) i _ ∙ length_all r i g;
    })

abbrev LowerFor : Roster → ℕ → Type 0
LowerFor r i = (n m : ℕ) → (row r i).state ≡ Facility n → IsNumber m → owner_of r m ≡ i → m < n

lower_none : (r : Roster) (i : ℕ) → NoWait (row r i).state → LowerFor r i
lower_none r i none n m w _ _ = absurd (none n w)

lower_row : (r : Roster) (i : ℕ) (t : TaskRow) → IsTask r i → NoWait t.state → LowerFor (with_row r i t) i
lower_row r i t h now n m w _ _ = absurd (now n (sym (state_same r i t h) ∙ w))

pub ticks_keep_lower : TicksKeepLower
ticks_keep_lower r g low i n m there w k own =
    let here : IsTask r i = (there.0, omega (arith, there.1, length_tick r g)) in
    let kept = ticks_keep r i g here in
    low i n m here (kept.2 n w).0 k ((kept.2 n w).1 m k own)

pub services_keep_lower : ServicesKeepLower
services_keep_lower r i s g runs low below j n m there w k own =
    let h = running_is_ready r i g runs in
    let here : IsTask r j = (there.0, omega (arith, there.1, length_serve r i s g)) in
    by_cases j i
    (λ e. subst (λ x. (row (serve r i s).0 x).state ≡ Facility n → owner_of (serve r i s).0 m ≡ x → m < n) (sym e) (λ v o. mine h n m v k o) w own)
    (λ d. let kept = services_keep_others r i j s g runs here (λ e. d (sym e)) in low j n m here (kept.2 n w).0 k ((kept.2 n w).1 m k own))
  where
    mine : IsReady r i → LowerFor (serve r i s).0 i
    mine h =
        serve_goes (λ q. LowerFor q i) r i s g
        (record {
          nothing = lower_none r i (not_waiting r i h);
          anew = λ _ _. lower_row (record r { stamp = r.stamp + 1 }) i _ h.0 ready_no_wait;
          delayed = λ a _. lower_row (record r { stamp = r.stamp + 1 }) i _ h.0 (delayed_no_wait a);
          flagged = λ _ _ _. lower_none r i (not_waiting r i h);
          waiting = λ a _ _. lower_row (record r { stamp = r.stamp + 1 }) i _ h.0 (event_no_wait a);
          woken = λ a x _ t e. let kept = keeps_row (record r { stamp = r.stamp + 1 }) x i _ t h.0.0 (no_wait_as _ _ e (event_no_wait a)) ready_no_wait in λ b c v _ _. absurd (not_waiting r i h b (kept.2 b v).0);
          secured = λ a _ _ _ b c v _ _. absurd (not_waiting r i h b v);
          queued = λ a e _ _ _ b c v l o.
              let same : a ≡ b = facility_is a b (sym (state_same (record r { stamp = r.stamp + 1 }) i _ h.0) ∙ v) in
              subst (λ x. c < x) same (below a c e l o);
          released = λ a _ l own2. give_cases (λ q. LowerFor q i) r a g
              (λ _ b c v _ _. absurd (not_waiting r i h b v))
              (λ x t waits b c v _ _. absurd (not_waiting r i h b (sym (state_other (record (with_owner r a x) { stamp = r.stamp + 1 }) x i _ t.0 h.0.0 (not_ready r i x a h waits)) ∙ v)));
          ended = λ s2 _ e. lower_row (gives_from i 1 32 r) i _ (h.0.0, omega (arith, h.0.1, length_all r i g)) (ended_no_wait s2 e);
        })
