-- Placements of ticks that never fall, of which those in front are taken.
use Rattle.std.proofs.Common.{◌≡◌, ◌≢◌, ℕ, ◌+◌, ◌-◌, ◌<◌, ◌≤◌, ◌==◌, Bool, true, false, ◌&&◌, nat_le, List, [], ◌∷◌, drop, get_or, length, refl, sym, ap, ◌∙◌, subst, arith, eqb-true, leb-true, eq-eqb}
use Rattle.std.proofs.lemmas.List.{drop_more, drop_all}
use Rattle.std.proofs.lemmas.Bool.Decides.{nat_tests}
use Rattle.rt_meaning.specs.Runs.{ticks_after, rise_from}
use Rattle.rt_meaning.proofs.Placements.{one_if, no_hit, after_cons}

both_true : (a b : Bool) → a && b ≡ true → (a ≡ true) × (b ≡ true)
both_true true b e = (refl, e)
both_true false b e = absurd cc

true_both : (a b : Bool) → a ≡ true → b ≡ true → a && b ≡ true
true_both true b e d = d
true_both false b e d = absurd cc

pub record Rises (least n p : ℕ) (ps : List ℕ) : Type 0 where
  pub low : least ≤ p
  pub high : p ≤ n
  pub rest : rise_from p n ps ≡ true

pub opened : (least n p : ℕ) (ps : List ℕ) → rise_from least n (p ∷ ps) ≡ true → Rises least n p ps
opened least n p ps e =
    let outer = both_true (nat_le least p) (nat_le p n && rise_from p n ps) e in
    let inner = both_true (nat_le p n) (rise_from p n ps) outer.1 in
    record { low = leb-true least p outer.0; high = leb-true p n inner.0; rest = inner.1 }

le_true : (a b : ℕ) → a ≤ b → nat_le a b ≡ true
le_true a b h = grind (arith, nat_tests)

pub closed : (least n p : ℕ) (ps : List ℕ) → Rises least n p ps → rise_from least n (p ∷ ps) ≡ true
closed least n p ps r = true_both (nat_le least p) (nat_le p n && rise_from p n ps) (le_true least p r.low) (true_both (nat_le p n) (rise_from p n ps) (le_true p n r.high) r.rest)

-- none of those that are all above s falls after s steps
pub none_before : (ps : List ℕ) (least n s : ℕ) → s < least → rise_from least n ps ≡ true → ticks_after ps s ≡ 0
none_before [] least n s h e = refl
none_before (p ∷ ps) least n s h e =
    let r = opened least n p ps e in
    let none = no_hit (p == s) (λ q. let same = eqb-true p s q in omega (arith, same, r.low, h)) in
    omega (arith, after_cons p ps s, none, none_before ps p n s (omega (arith, r.low, h)) r.rest)

-- `count` of those in front fall after s steps, and these are left
pub record Front (all left : List ℕ) (s count : ℕ) : Type 0 where
  pub counted : ticks_after all s ≡ count + ticks_after left s
  pub others : (t : ℕ) → s < t → ticks_after left t ≡ ticks_after all t
  pub rises : (n : ℕ) → rise_from s n all ≡ true → rise_from s n left ≡ true

pub front_none : (all : List ℕ) (s : ℕ) → Front all all s 0
front_none all s = record { counted = omega arith; others = λ t h. refl; rises = λ n e. e }

one_at : (n : ℕ) → one_if (n == n) ≡ 1
one_at n = ap one_if (eq-eqb n n refl)

front_more : (all ps : List ℕ) (s count : ℕ) → Front all (s ∷ ps) s count → Front all ps s (count + 1)
front_more all ps s count f = record {
  counted = omega (arith, f.counted, after_cons s ps s, one_at s);
  others = λ t h.
      let none = no_hit (s == t) (λ q. let same = eqb-true s t q in omega (arith, same, h)) in
      let here : ticks_after ps t ≡ ticks_after (s ∷ ps) t = omega (arith, after_cons s ps t, none) in
      here ∙ f.others t h;
  rises = λ n e. (opened s n s ps (f.rises n e)).rest;
}

-- of those from `next` on, those up to `at` fall after s steps
pub record Passed (ps : List ℕ) (next s at : ℕ) : Type 0 where
  pub count : ℕ
  pub is : at ≡ next + count
  pub front : Front (drop next ps) (drop at ps) s count

pub passed_none : (ps : List ℕ) (next s : ℕ) → Passed ps next s next
passed_none ps next s = record { count = 0; is = omega arith; front = front_none (drop next ps) s }

pub passed_more : (ps : List ℕ) (next s at : ℕ) → at < length ps → get_or ps at 0 ≡ s → Passed ps next s at → Passed ps next s (at + 1)
passed_more ps next s at h e p =
    let cut : drop at ps ≡ s ∷ drop (at + 1) ps = drop_more ps at 0 h ∙ ap (λ (q : ℕ). q ∷ drop (at + 1) ps) e in
    record { count = p.count + 1; is = omega (arith, p.is); front = front_more (drop next ps) (drop (at + 1) ps) s p.count (subst (λ (qs : List ℕ). Front (drop next ps) qs s p.count) cut p.front) }

-- what is known where no more of them falls after s steps
pub record Taken (all left : List ℕ) (s count : ℕ) : Type 0 where
  pub value : (n : ℕ) → rise_from s n all ≡ true → count ≡ ticks_after all s
  pub rest : (n : ℕ) → rise_from s n all ≡ true → rise_from (s + 1) n left ≡ true
  pub others : (t : ℕ) → s < t → ticks_after left t ≡ ticks_after all t

taken_by : (all ps : List ℕ) (s p count : ℕ) → p ≢ s → Front all (p ∷ ps) s count → Taken all (p ∷ ps) s count
taken_by all ps s p count d f = record {
  value = λ n e.
      let r = opened s n p ps (f.rises n e) in
      let above : s < p = omega (arith, r.low, d) in
      let none = none_before (p ∷ ps) p n s above (closed p n p ps (record { low = omega arith; high = r.high; rest = r.rest })) in
      omega (arith, f.counted, none);
  rest = λ n e.
      let r = opened s n p ps (f.rises n e) in
      closed (s + 1) n p ps (record { low = omega (arith, r.low, d); high = r.high; rest = r.rest });
  others = f.others;
}

taken_nil : (all : List ℕ) (s count : ℕ) → Front all [] s count → Taken all [] s count
taken_nil all s count f = record { value = λ n e. omega (arith, f.counted); rest = λ n e. refl; others = f.others }

-- where `at` is the end of those that fall after s steps
pub record Ends (ps : List ℕ) (next s at : ℕ) : Type 0 where
  pub value : (n : ℕ) → rise_from s n (drop next ps) ≡ true → at ≡ next + ticks_after (drop next ps) s
  pub rest : (n : ℕ) → rise_from s n (drop next ps) ≡ true → rise_from (s + 1) n (drop at ps) ≡ true
  pub others : (t : ℕ) → s < t → ticks_after (drop at ps) t ≡ ticks_after (drop next ps) t

ends_by : (ps : List ℕ) (next s at count : ℕ) → at ≡ next + count → Taken (drop next ps) (drop at ps) s count → Ends ps next s at
ends_by ps next s at count e t = record { value = λ n r. omega (arith, e, t.value n r); rest = t.rest; others = t.others }

pub ends_here : (ps : List ℕ) (next s at : ℕ) → at < length ps → get_or ps at 0 ≢ s → Passed ps next s at → Ends ps next s at
ends_here ps next s at h d p =
    let cut = drop_more ps at 0 h in
    ends_by ps next s at p.count p.is
    (subst (λ (qs : List ℕ). Taken (drop next ps) qs s p.count) (sym cut)
    (taken_by (drop next ps) (drop (at + 1) ps) s (get_or ps at 0) p.count d (subst (λ (qs : List ℕ). Front (drop next ps) qs s p.count) cut p.front)))

ends_all : (ps : List ℕ) (next s at : ℕ) → length ps ≤ at → Passed ps next s at → Ends ps next s at
ends_all ps next s at h p =
    let none : drop at ps ≡ [] = drop_all at ps h in
    ends_by ps next s at p.count p.is
    (subst (λ (qs : List ℕ). Taken (drop next ps) qs s p.count) (sym none)
    (taken_nil (drop next ps) s p.count (subst (λ (qs : List ℕ). Front (drop next ps) qs s p.count) none p.front)))

pub ends_last : (ps : List ℕ) (next s at : ℕ) → at ≡ length ps → Passed ps next s at → Ends ps next s (length ps)
ends_last ps next s at e p = subst (λ (k : ℕ). Ends ps next s k) e (ends_all ps next s at (omega (arith, e)) p)

-- as many as fall after s steps of all
pub turn_ticks : (next end here all : ℕ) → end ≡ next + here → here ≡ all → end - next ≡ all
turn_ticks next end here all e d = omega (arith, e, d)
