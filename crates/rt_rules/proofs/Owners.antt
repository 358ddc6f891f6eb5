-- Nothing but its release or its owner's end takes a facility from its owner.
use Rattle.std.proofs.Common.{◌≡◌, ◌≢◌, ◌⊎◌, ℕ, ◌+◌, Option, Some, None, refl, sym, ◌∙◌, subst, inl, inr, arith}
use Rattle.rt_rules.specs.declared.service.Svc.TheVariants.{Secure, Release}
use Rattle.rt_rules.specs.Roster.{Roster, owner_of, IsNumber, InRanges}
use Rattle.rt_rules.specs.Rules.{running, arrives_if, give, give_if_owned, gives_from}
use Rattle.rt_rules.specs.Laws.{TickKeeps, IsEnd, OwnerChanges}
use Rattle.rt_rules.proofs.Rows.{by_cases, owner-with_owner_other}
use Rattle.rt_rules.proofs.Giving.{give_cases, give_if_owned_cases}
use Rattle.rt_rules.proofs.Walks.{gives_from_goes, serve_goes}
use Rattle.rt_rules.proofs.Ranges.{ranges-give_if_owned}

arrives_if_keeps : (q : Roster) (o : Option ℕ) → ((arrives_if q o).flags ≡ q.flags) × ((arrives_if q o).owners ≡ q.owners)
arrives_if_keeps q None = (refl, refl)
arrives_if_keeps q (Some i) = (refl, refl)

pub tick_keeps : TickKeeps
tick_keeps r = arrives_if_keeps (record r { clock = r.clock + 1 }) (running r)

give_other : (r : Roster) (m n : ℕ) → InRanges r → IsNumber m → IsNumber n → n ≢ m → owner_of (give r m) n ≡ owner_of r n
give_other r m n g k l d =
    give_cases (λ q. owner_of q n ≡ owner_of r n) r m g
    (λ _. owner-with_owner_other r m n 0 k.0 l.0 d)
    (λ j _ _. owner-with_owner_other r m n j k.0 l.0 d)

-- a facility of another owner stays with it
kept_step : (r : Roster) (i n m : ℕ) (q : Roster) → IsNumber n → owner_of r n ≢ i → IsNumber m → InRanges q × (owner_of q n ≡ owner_of r n) → InRanges (give_if_owned q i m) × (owner_of (give_if_owned q i m) n ≡ owner_of r n)
kept_step r i n m q l other k p =
    let apart = λ (own : owner_of q m ≡ i) (e : n ≡ m). other (sym p.1 ∙ (subst (λ x. owner_of q x ≡ i) (sym e) own)) in (
      ranges-give_if_owned q i m p.0 k,
      give_if_owned_cases (λ z. owner_of z n ≡ owner_of r n) q i m p.0
          (λ own _. owner-with_owner_other q m n 0 k.0 l.0 (apart own) ∙ p.1)
          (λ own j _ _. owner-with_owner_other q m n j k.0 l.0 (apart own) ∙ p.1)
          (λ _. p.1),
    )

kept_by_end : (r : Roster) (i n : ℕ) → InRanges r → IsNumber n → owner_of r n ≢ i → owner_of (gives_from i 1 32 r) n ≡ owner_of r n
kept_by_end r i n g l other =
    (gives_from_goes (λ _ q. InRanges q × (owner_of q n ≡ owner_of r n)) i (λ m q k p. kept_step r i n m q l other k p) 32 1 r (omega arith) refl (g, refl)).1

pub owner_changes : OwnerChanges
owner_changes r i n svc g runs l =
    serve_goes (λ q. owner_of q n ≢ owner_of r n → ((owner_of r n ≡ i) × ((svc ≡ Release n) ⊎ IsEnd svc)) ⊎ ((owner_of r n ≡ 0) × (svc ≡ Secure n))) r i svc g
    (record {
      nothing = λ d. absurd (d refl);
      anew = λ _ _ d. absurd (d refl);
      delayed = λ _ _ d. absurd (d refl);
      flagged = λ _ _ _ d. absurd (d refl);
      waiting = λ _ _ _ d. absurd (d refl);
      woken = λ _ _ _ _ _ d. absurd (d refl);
      secured = λ m is k free d.
          by_cases n m
          (λ e. inr (subst (λ x. (owner_of r x ≡ 0) × (svc ≡ Secure x)) (sym e) (free, is)))
          (λ other. absurd (d (owner-with_owner_other r m n i k.0 l.0 other)));
      queued = λ _ _ _ _ _ d. absurd (d refl);
      released = λ m is k own d.
          by_cases n m
          (λ e. inl (subst (λ x. (owner_of r x ≡ i) × ((svc ≡ Release x) ⊎ IsEnd svc)) (sym e) (own, inl is)))
          (λ other. absurd (d (give_other r m n g k l other)));
      ended = λ s end _ d.
          by_cases (owner_of r n) i
          (λ own. inl (own, inr end))
          (λ other. absurd (d (kept_by_end r i n g l other)));
    })
