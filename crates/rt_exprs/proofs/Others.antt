-- The same of places that are assigned, of calls that stand alone, and of conditions.
use Rattle.std.proofs.Common.{◌≡◌, Bool, true, false, List, [], ◌∷◌, ◌++◌, Option, Some, None, Result, Ok, Err, inl, inr, map, refl, sym, ap, ◌∙◌, subst, append_assoc}
use Rattle.std.proofs.lemmas.List.{append-nil}
use Rattle.std.specs.Prelude.{if◌then◌else◌, IfOk, IfErr}
use Rattle.rt_grammar.specs.declared.at.At.{At}
use Rattle.rt_syntax_exprs.specs.declared.tree.Expr.{Expr}
use Rattle.rt_syntax_exprs.specs.declared.tree.Chain.{Chain, out-Chain}
use Rattle.rt_syntax_exprs.specs.declared.tree.Cond.{Cond, out-Cond, roll-Cond, map-Cond}
use Rattle.rt_syntax_exprs.specs.declared.tree.Cond as conditions
use Rattle.rt_syntax_exprs.specs.declared.tree.Cond.TheOpen.{Cond-F}
use Rattle.rt_syntax_exprs.specs.declared.tree.Cond.TheFolds.{ind-Cond}
use Rattle.rt_syntax_exprs.specs.declared.tree.Rel.{Rel}
use Rattle.rt_modes.specs.declared.mode.Mode.{Mode, out-Mode}
use Rattle.rt_tree_nodes.specs.declared.statement.Test.{Test}
use Rattle.rt_tree_nodes.specs.declared.statement.Test.TheVariants as tests
use Rattle.rt_tree_nodes.specs.declared.value.Place.{Place}
use Rattle.rt_tree_nodes.specs.declared.value.Value.{Value}
use Rattle.rt_check_faults.specs.declared.fault.CheckFault.{CheckFault}
use Rattle.rt_check_faults.specs.declared.fault.CheckFault.TheVariants as fault
use Rattle.rt_exprs.specs.declared.operand.Standing.TheVariants as standing
use Rattle.rt_exprs.specs.Sights.{Sight}
use Rattle.rt_exprs.specs.Modes.{Want}
use Rattle.rt_check_faults.specs.Outcomes.{Outcome, ◌>>=◌, Gives, both, after, earlier, is_unknown, Settles, IsAnswered, IsAnsweredAs}
use Rattle.rt_exprs.specs.Operands.{Is, Judged, place, loop, brick, result, done, suits, suits_as, if_known, fits, by_itself}
use Rattle.rt_exprs.specs.Names.{find}
use Rattle.rt_exprs.specs.Judging.{judged, judged_chain, seen_as, is_brick, is_whole, place_if, target, assigned, assigned_is, val_target, val, val_by, target_of, alone, call_if, called_is, ends_in_apply, tested, all_from, compares, compare, compare_by, made_rel}
use Rattle.rt_exprs.specs.Fitting as f
use Rattle.rt_exprs.specs.Fitting.{known, Shows, ShowsChain, FaultInChain, IsBrickName, AssignsAs, NotAssigned, AssignsValAs, NotAssignedVal, CallIs, NoCall, TestIs, TestsAre, FaultInTest, FaultAmong}
use Rattle.rt_exprs.proofs.Real.{suits_real}
use Rattle.rt_check_faults.proofs.Told.{Bad, hid, bad, Tells, Either, joined, unknown_first}
use Rattle.rt_exprs.proofs.Trees.{opened_or, opened_and, opened_compare}
use Rattle.rt_check_faults.proofs.Counting.{Stops, exactly, moved, stops_then, stops_both_left, stops_both_right, stops_after_left, stops_after_right, stops_sooner_left, stops_sooner_right, before_same}
use Rattle.rt_exprs.proofs.Complete.{is_judged, chain_judged, takes_judged, wrong_as, wrong_known, fault_stops, chain_stops, unfit_stops, nothing_fails, alone_reaches, Fails, Reaches}
use Rattle.rt_exprs.proofs.Known.{shows_known, chain_known, takes_known, is_by, chain_is, fits_known}
use Rattle.rt_exprs.proofs.Judged.{answer_holds, answer_as, answer_only, answer_settles, tells_ok, tells_err, bad_is}
use Rattle.rt_exprs.proofs.Sound.{SoundIs, SoundChain, SoundFit, sound_fit, sound_alone, expr_sound, whole_chain_sound, EachIs, told_more}

-- ---- what is wrong is a fault

abbrev Real : {A : Type 0} → Outcome A → Type 0
Real t = (g : CheckFault) → t ≡ Err g → is_unknown g ≡ false

abbrev whole : At → Bool → Place → Mode → Bool → Outcome (Option Place × Mode)
whole at k p m b = if b then Err (fault.NotAssignable at) else Ok (place_if k p, m)

whole_real : (at : At) (k : Bool) (p : Place) (m : Mode) (b : Bool) → Real (whole at k p m b)
whole_real at k p m true g e = let here : fault.NotAssignable at ≡ g = cc in rw (← here) refl
whole_real at k p m false g e = absurd cc

assigned_is_real : (at : At) (k : Bool) (is : Is) → Real (assigned_is at k is)
assigned_is_real at k (place p m st) g e = whole_real at k p m (is_whole (out-Mode m)) g e
assigned_is_real at k (loop n) g e = let here : fault.NotAssignable at ≡ g = cc in rw (← here) refl
assigned_is_real at k (brick n m) g e = let here : fault.NotAssignable at ≡ g = cc in rw (← here) refl
assigned_is_real at k _ g e = let here : fault.WrongMode at ≡ g = cc in rw (← here) refl

assigned_real : (j : Judged) → Real (assigned j)
assigned_real j g e = assigned_is_real j.found.at j.known j.found.is g e

called_real : (at : At) (is : Is) → Real (called_is at is)
called_real at (result v m) g e = absurd cc
called_real at (done v) g e = absurd cc
called_real at _ g e = let here : fault.WrongMode at ≡ g = cc in rw (← here) refl

-- a place that is known is one of what is known
place_known : (k : Bool) (p q : Place) → place_if k p ≡ Some q → k ≡ true
place_known true p q e = refl
place_known false p q e = absurd cc

abbrev assigning : Option Place × Mode → Outcome (Option Place × Mode)
assigning x = Ok x

first_same : (x y : Option Place × Mode) → assigning x ≡ Ok y → x.0 ≡ y.0
first_same x y e = let same : x ≡ y = cc in ap (λ (z : Option Place × Mode). z.0) same

whole_known : (at : At) (k : Bool) (p q : Place) (m n : Mode) (b : Bool) → whole at k p m b ≡ Ok (Some q, n) → k ≡ true
whole_known at k p q m n true e = absurd cc
whole_known at k p q m n false e = place_known k p q (first_same (place_if k p, m) (Some q, n) e)

assigned_known : (at : At) (k : Bool) (is : Is) (q : Place) (n : Mode) → assigned_is at k is ≡ Ok (Some q, n) → k ≡ true
assigned_known at k (place p m st) q n e = whole_known at k p q m n (is_whole (out-Mode m)) e
assigned_known at k (loop i) q n e = absurd cc
assigned_known at k (brick i m) q n e = absurd cc
assigned_known at k _ q n e = absurd cc

all_known : (j : Judged) → j.known ≡ true → j ≡ known j.found
all_known j e = rw (← e) refl

shown_known : (j : Judged) → j.known ≡ true → Some j ≡ Some (known j.found)
shown_known j e = ap (λ (i : Judged). Some i) (all_known j e)

-- ---- targets

module _ (s : Sight) (c : Chain) where
  abbrev pub SoundTarget : Outcome (Option Place × Mode) → Type 0
  SoundTarget (Ok x) = AssignsAs s c x
  SoundTarget (Err g) = is_unknown g ≡ false → NotAssigned s c g

  pub target_found : (x : Option Place × Mode) → AssignsAs s c x → target s c ≡ Ok x
  target_found (Some p, m) (f.assigns b h a) = rw (b, chain_judged (chain_known h)) a
  target_found (None, m) (f.assigns_of_mode b h a) = rw (b, chain_judged h) a

  pub target_stops : (g : CheckFault) → NotAssigned s c g → Stops (target s c) g
  target_stops g (f.to_brick b) = exactly _ _ refl (rw b refl)
  target_stops g (f.in_target b h) = moved (target s c) (judged_chain s c >>= assigned) g (rw b refl) (stops_then (judged_chain s c) assigned g (chain_stops h))
  target_stops g (f.no_target {j = j} b h a) = exactly _ _ (assigned_real j g a) (rw (b, chain_judged h) a)

  place_sound : IsBrickName s c false → (j : Judged) → ShowsChain s c (Some j) → (r : Outcome (Option Place × Mode)) → assigned j ≡ r → SoundTarget r
  place_sound b j h (Ok (Some p, m)) a = let k = assigned_known j.found.at j.known j.found.is p m a in f.assigns b (chain_is j.found h (shown_known j k)) (subst (λ (i : Judged). assigned i ≡ Ok (Some p, m)) (all_known j k) a)
  place_sound b j h (Ok (None, m)) a = f.assigns_of_mode b h a
  place_sound b j h (Err g) a = λ n. f.no_target b h a

  chain_target : IsBrickName s c false → (t : Outcome Judged) → SoundChain s c t → SoundTarget (t >>= assigned)
  chain_target b (Ok j) h = place_sound b j h (assigned j) refl
  chain_target b (Err g) h = λ n. f.in_target b (bad_is (ShowsChain s c None) (FaultInChain s c) g h n)

  brick_target : (b : Bool) → IsBrickName s c b → SoundTarget (if b then Err (fault.NotAssignable (out-Chain c).at) else judged_chain s c >>= assigned)
  brick_target true b = λ n. f.to_brick b
  brick_target false b = chain_target b (judged_chain s c) (whole_chain_sound s c)

  target_sound : SoundTarget (target s c)
  target_sound = brick_target (is_brick (find s (out-Chain c).name) (out-Chain c).links) refl

  pub target_holds : (x : Option Place × Mode) → target s c ≡ Ok x → AssignsAs s c x
  target_holds x is = subst SoundTarget is target_sound

  pub target_stands : (g : CheckFault) → is_unknown g ≡ false → target s c ≡ Err g → NotAssigned s c g
  target_stands g n is = subst SoundTarget is target_sound n

  module _ {X : Type 0} (view : X → Option Place × Mode) (r : Result X CheckFault) (gives : Gives view r (target s c)) where
    pub target_fits : IfOk r (λ x. AssignsAs s c (view x))
    target_fits = answer_holds (target s c) (AssignsAs s c) (NotAssigned s c) target_holds target_found target_stands target_stops view r gives

    pub target_only : (x : Option Place × Mode) → AssignsAs s c x → IsAnsweredAs view x r
    target_only = answer_as (target s c) (AssignsAs s c) (NotAssigned s c) target_holds target_found target_stands target_stops view r gives

    pub target_settles : IfErr r (Settles (NotAssigned s c))
    target_settles = answer_settles (target s c) (AssignsAs s c) (NotAssigned s c) target_holds target_found target_stands target_stops view r gives

-- ---- VAL

module _ (s : Sight) (at : At) (c : Chain) where
  abbrev pub SoundVal : Outcome (Option Place × Mode) → Type 0
  SoundVal (Ok x) = AssignsValAs s at c x
  SoundVal (Err g) = is_unknown g ≡ false → NotAssignedVal s at c g

  pub val_found : (x : Option Place × Mode) → AssignsValAs s at c x → val_target s at c ≡ Ok x
  val_found (Some q, n) (f.assigns_val h t a) = rw (chain_judged (chain_known h), t) a
  val_found (None, n) (f.assigns_val_of_mode h t a) = rw (chain_judged h, t) a

  pub val_stops : (g : CheckFault) → NotAssignedVal s at c g → Stops (val_target s at c) g
  val_stops g (f.in_val_target h) = stops_then (val at (judged_chain s c)) assigned g (stops_then (judged_chain s c) _ g (chain_stops h))
  val_stops g (f.no_ref_target h t) = exactly _ _ refl (rw (chain_judged h, t) refl)
  val_stops g (f.no_val_target {j = j} {p = p} {m = m} h t a) = exactly _ _ (assigned_real (seen_as j.known at (place p m standing.Shared)) g a) (rw (chain_judged h, t) a)

  val_place_sound : (j : Judged) → ShowsChain s c (Some j) → (p : Place) (m : Mode) → target_of j.found.is ≡ Some (p, m) → (r : Outcome (Option Place × Mode)) → assigned (seen_as j.known at (place p m standing.Shared)) ≡ r → SoundVal r
  val_place_sound j h p m t (Ok (Some q, n)) a = let k = assigned_known at j.known (place p m standing.Shared) q n a in f.assigns_val (chain_is j.found h (shown_known j k)) t (subst (λ (b : Bool). assigned (seen_as b at (place p m standing.Shared)) ≡ Ok (Some q, n)) k a)
  val_place_sound j h p m t (Ok (None, n)) a = f.assigns_val_of_mode h t a
  val_place_sound j h p m t (Err g) a = λ n. f.no_val_target h t a

  val_ref_sound : (j : Judged) → ShowsChain s c (Some j) → (r : Option (Place × Mode)) → target_of j.found.is ≡ r → SoundVal (val_by at j.found.at j.known r >>= assigned)
  val_ref_sound j h None t = λ n. f.no_ref_target h t
  val_ref_sound j h (Some (p, m)) t = val_place_sound j h p m t (assigned (seen_as j.known at (place p m standing.Shared))) refl

  val_chain_sound : (t : Outcome Judged) → SoundChain s c t → SoundVal (val at t >>= assigned)
  val_chain_sound (Ok j) h = val_ref_sound j h (target_of j.found.is) refl
  val_chain_sound (Err g) h = λ n. f.in_val_target (bad_is (ShowsChain s c None) (FaultInChain s c) g h n)

  val_target_sound : SoundVal (val_target s at c)
  val_target_sound = val_chain_sound (judged_chain s c) (whole_chain_sound s c)

  pub val_holds : (x : Option Place × Mode) → val_target s at c ≡ Ok x → AssignsValAs s at c x
  val_holds x is = subst SoundVal is val_target_sound

  pub val_stands : (g : CheckFault) → is_unknown g ≡ false → val_target s at c ≡ Err g → NotAssignedVal s at c g
  val_stands g n is = subst SoundVal is val_target_sound n

  module _ {X : Type 0} (view : X → Option Place × Mode) (r : Result X CheckFault) (gives : Gives view r (val_target s at c)) where
    pub val_fits : IfOk r (λ x. AssignsValAs s at c (view x))
    val_fits = answer_holds (val_target s at c) (AssignsValAs s at c) (NotAssignedVal s at c) val_holds val_found val_stands val_stops view r gives

    pub val_only : (x : Option Place × Mode) → AssignsValAs s at c x → IsAnsweredAs view x r
    val_only = answer_as (val_target s at c) (AssignsValAs s at c) (NotAssignedVal s at c) val_holds val_found val_stands val_stops view r gives

    pub val_settles : IfErr r (Settles (NotAssignedVal s at c))
    val_settles = answer_settles (val_target s at c) (AssignsValAs s at c) (NotAssignedVal s at c) val_holds val_found val_stands val_stops view r gives

-- ---- calls

module _ (s : Sight) (c : Chain) where
  abbrev pub SoundCall : Outcome Value → Type 0
  SoundCall (Ok x) = CallIs s c x
  SoundCall (Err g) = is_unknown g ≡ false → NoCall s c g

  ends_fault : (b : Bool) (g : CheckFault) → is_unknown g ≡ false → call_if (out-Chain c).at b (Err g) ≡ Err g
  ends_fault true g n = refl
  ends_fault false fault.Memory n = refl
  ends_fault false (fault.UnknownName at) n = refl
  ends_fault false (fault.WrongMode at) n = refl
  ends_fault false (fault.NotAssignable at) n = refl
  ends_fault false (fault.WrongCount at) n = refl
  ends_fault false (fault.RefOfLocal at) n = refl
  ends_fault false (fault.LeftOut form at) n = refl
  ends_fault false (fault.DeclaredTwice at) n = refl
  ends_fault false (fault.BadStart at) n = refl
  ends_fault false (fault.UnknownLabel at) n = refl
  ends_fault false (fault.NoResult at) n = refl
  ends_fault false fault.Unknown n = absurd cc

  pub call_found : (x : Value) → CallIs s c x → alone s c ≡ Ok x
  call_found x (f.call_is h a) = rw (chain_judged (chain_known h)) a

  pub call_stops : (g : CheckFault) → NoCall s c g → Stops (alone s c) g
  call_stops g (f.in_call h) = let k = chain_stops h in record { first = k.first; is = rw (k.is, ends_fault (ends_in_apply (out-Chain c).links) k.first k.real) refl; counts = k.counts; real = k.real }
  call_stops g (f.no_call_is {j = j} h a) = exactly _ _ (called_real j.found.at j.found.is g a) (rw (chain_judged h) (wrong_known j.known (called_is j.found.at j.found.is) g a))
  call_stops g (f.ends_in_no_call h e) = exactly _ _ refl (rw (chain_judged h, e) refl)

  call_is_sound : (j : Judged) → ShowsChain s c (Some j) → (r : Outcome Value) → called_is j.found.at j.found.is ≡ r → (k : Bool) → j.known ≡ k → SoundCall (if_known k r)
  call_is_sound j h (Ok x) a true k = f.call_is (chain_is j.found h (shown_known j k)) a
  call_is_sound j h (Ok x) a false k = λ n. absurd (let bad : true ≡ false = n in cc)
  call_is_sound j h (Err g) a true k = λ n. f.no_call_is h a
  call_is_sound j h (Err g) a false k = λ n. f.no_call_is h a

  not_known_sound : (b : Bool) → ends_in_apply (out-Chain c).links ≡ b → ShowsChain s c None → SoundCall (call_if (out-Chain c).at b (Err fault.Unknown))
  not_known_sound true e h = λ n. absurd (let bad : true ≡ false = n in cc)
  not_known_sound false e h = λ n. f.ends_in_no_call h e

  call_chain_sound : (t : Outcome Judged) → SoundChain s c t → SoundCall (call_if (out-Chain c).at (ends_in_apply (out-Chain c).links) t)
  call_chain_sound (Ok j) h = call_is_sound j h (called_is j.found.at j.found.is) refl j.known refl
  call_chain_sound (Err _) (hid h) = not_known_sound (ends_in_apply (out-Chain c).links) refl h
  call_chain_sound (Err g) (bad n h) = subst SoundCall (sym (ends_fault (ends_in_apply (out-Chain c).links) g n)) (λ m. f.in_call h)

  call_sound : SoundCall (alone s c)
  call_sound = call_chain_sound (judged_chain s c) (whole_chain_sound s c)

  pub call_holds : (x : Value) → alone s c ≡ Ok x → CallIs s c x
  call_holds x is = subst SoundCall is call_sound

  pub call_stands : (g : CheckFault) → is_unknown g ≡ false → alone s c ≡ Err g → NoCall s c g
  call_stands g n is = subst SoundCall is call_sound n

  module _ (r : Result Value CheckFault) (gives : Gives (λ x. x) r (alone s c)) where
    pub call_fits : IfOk r (CallIs s c)
    call_fits = answer_holds (alone s c) (CallIs s c) (NoCall s c) call_holds call_found call_stands call_stops (λ x. x) r gives

    pub call_only : (x : Value) → CallIs s c x → IsAnswered x r
    call_only = answer_only (alone s c) (CallIs s c) (NoCall s c) call_holds call_found call_stands call_stops r gives

    pub call_settles : IfErr r (Settles (NoCall s c))
    call_settles = answer_settles (alone s c) (CallIs s c) (NoCall s c) call_holds call_found call_stands call_stops (λ x. x) r gives

-- ---- conditions

compared_stops_left : (s : Sight) (r : Rel) (j : Judged) (b : Expr) (w : Want) (g : CheckFault) → suits j.found w ≡ Err g → Stops (compare_by r j (judged s b) (Some w)) g
compared_stops_left s r j b w g x = stops_then (both (suits_as j w) (fits (judged s b) w)) _ g (stops_both_left (suits_as j w) (fits (judged s b) w) g (exactly _ _ (suits_real j.found w g x) (wrong_as j w g x)))

compared_stops_right : (s : Sight) (r : Rel) (j : Judged) (b : Expr) (w : Want) (g : CheckFault) → Stops (fits (judged s b) w) g → Stops (compare_by r j (judged s b) (Some w)) g
compared_stops_right s r j b w g h = stops_then (both (suits_as j w) (fits (judged s b) w)) _ g (stops_both_right (suits_as j w) (fits (judged s b) w) g h)

all_stop : (so_far : Outcome (List Test)) (ts : List (Outcome Test)) (g : CheckFault) → Stops so_far g → Stops (all_from so_far ts) g
all_stop so_far [] g h = h
all_stop so_far (t ∷ ts) g h = all_stop (after so_far t) ts g (stops_after_left so_far t g h)

compare_stops : (r : Rel) (t u : Outcome Judged) (g : CheckFault) → Stops t g → Stops (compare r t u) g
compare_stops r t u g h = stops_sooner_left (compare r t u) h.first (by_itself u) g (rw h.is refl) h.counts h.real

compare_alone : (r : Rel) (t u : Outcome Judged) (g : CheckFault) → Fails t → Reaches (by_itself u) g → Stops (compare r t u) g
compare_alone r t u g h k = stops_sooner_right (compare r t u) h.first (by_itself u) g (rw h.is refl) k.counts k.real

mutual
  pub test_judged : {s : Sight} {c : Cond} {t : Test} → TestIs s c t → tested s c ≡ Ok t
  test_judged {s = s} {c = c} (f.is_or {cs = cs} {at = at} o h) = opened_or s c cs at o ∙ rw (tests_judged [] h) refl
  test_judged {s = s} {c = c} (f.is_and {cs = cs} {at = at} o h) = opened_and s c cs at o ∙ rw (tests_judged [] h) refl
  test_judged {s = s} {c = c} (f.is_comparison {r = r} {a = a} {b = b} {at = at} o h w x y) = opened_compare s c r a b at o ∙ rw (is_judged (shows_known h), w, x, takes_judged (takes_known y)) refl

  tests_judged : {s : Sight} {cs : List Cond} {ts : List Test} (so_far : List Test) → TestsAre s cs ts → all_from (Ok so_far) (map (tested s) cs) ≡ Ok (so_far ++ ts)
  tests_judged so_far f.no_test = ap (λ (x : List Test). Ok x) (sym (append-nil so_far))
  tests_judged {s = s} so_far (f.one_test {cs = cs} {t = t} {ts = ts} h hs) =
      ap (λ (o : Outcome Test). all_from (after (Ok so_far) o) (map (tested s) cs)) (test_judged h) ∙ tests_judged (so_far ++ t ∷ []) hs ∙ ap (λ (y : List Test). Ok y) (append_assoc so_far (t ∷ []) ts)

mutual
  pub test_stops : {s : Sight} {c : Cond} {g : CheckFault} → FaultInTest s c g → Stops (tested s c) g
  test_stops {s = s} {c = c} {g = g} (f.in_or {cs = cs} {at = at} o h) = moved (tested s c) (all_from (Ok []) (map (tested s) cs) >>= λ ts. Ok (tests.Or ts)) g (opened_or s c cs at o) (stops_then (all_from (Ok []) (map (tested s) cs)) _ g (tests_stop (Ok []) h))
  test_stops {s = s} {c = c} {g = g} (f.in_and {cs = cs} {at = at} o h) = moved (tested s c) (all_from (Ok []) (map (tested s) cs) >>= λ ts. Ok (tests.And ts)) g (opened_and s c cs at o) (stops_then (all_from (Ok []) (map (tested s) cs)) _ g (tests_stop (Ok []) h))
  test_stops {s = s} {c = c} {g = g} (f.in_left_side {r = r} {a = a} {b = b} {at = at} o h) = moved (tested s c) (compare r (judged s a) (judged s b)) g (opened_compare s c r a b at o) (compare_stops r (judged s a) (judged s b) g (fault_stops h))
  test_stops {s = s} {c = c} (f.no_reference {r = r} {a = a} {b = b} {at = at} {j = j} o h w) =
      stops_sooner_left (tested s c) (fault.WrongMode j.found.at) (by_itself (judged s b)) (fault.WrongMode j.found.at) (opened_compare s c r a b at o ∙ rw (is_judged h, w) refl) (before_same (fault.WrongMode j.found.at)) refl
  test_stops {s = s} {c = c} {g = g} (f.unfit_left_side {r = r} {a = a} {b = b} {at = at} {j = j} {w = w} o h is x) =
      moved (tested s c) (compare_by r j (judged s b) (Some w)) g (opened_compare s c r a b at o ∙ rw (is_judged h, is) refl) (compared_stops_left s r j b w g x)
  test_stops {s = s} {c = c} {g = g} (f.unfit_right_side {r = r} {a = a} {b = b} {at = at} {j = j} {w = w} o h is u) =
      moved (tested s c) (compare_by r j (judged s b) (Some w)) g (opened_compare s c r a b at o ∙ rw (is_judged h, is) refl) (compared_stops_right s r j b w g (unfit_stops u))
  test_stops {s = s} {c = c} {g = g} (f.unfit_by_itself {r = r} {a = a} {b = b} {at = at} o none u) = moved (tested s c) (compare r (judged s a) (judged s b)) g (opened_compare s c r a b at o) (compare_alone r (judged s a) (judged s b) g (nothing_fails none) (alone_reaches u))
  test_stops {s = s} {c = c} {g = g} (f.unfit_unwanted {r = r} {a = a} {b = b} {at = at} {j = j} o h w u) =
      let k = alone_reaches u in stops_sooner_right (tested s c) (fault.WrongMode j.found.at) (by_itself (judged s b)) g (opened_compare s c r a b at o ∙ rw (is_judged h, w) refl) k.counts k.real

  tests_stop : {s : Sight} {cs : List Cond} {g : CheckFault} (so_far : Outcome (List Test)) → FaultAmong s cs g → Stops (all_from so_far (map (tested s) cs)) g
  tests_stop {s = s} {g = g} so_far (f.first_test {c = c} {cs = cs} h) = all_stop (after so_far (tested s c)) (map (tested s) cs) g (stops_after_right so_far (tested s c) g (test_stops h))
  tests_stop {s = s} so_far (f.later_test {c = c} h) = tests_stop (after so_far (tested s c)) h

-- a test, or nothing where it can't be known
abbrev pub TestOr : Sight → Cond → Option Test → Type 0
TestOr s c None = Unit {0}
TestOr s c (Some t) = TestIs s c t

abbrev pub Tested : Sight → Cond → Type 0
Tested s c = Tells (TestOr s c) (FaultInTest s c) (tested s c)

module _ (s : Sight) (c : Cond) (r : Rel) (a b : Expr) (at : At) (o : out-Cond c ≡ Cond-F.Compare r a b at) where
  abbrev TestTells : Outcome Test → Type 0
  TestTells t = Tells (TestOr s c) (FaultInTest s c) t

  sides : (j : Judged) → Shows s a (Some j) → (w : Want) → compares r j.found.is ≡ Some w → (x : Outcome Value) → suits j.found w ≡ x → (k : Bool) → j.known ≡ k → (y : Outcome Value) → SoundFit s b w y → TestTells (both (if_known k x) y >>= λ x. Ok (tests.Compare (made_rel r) x.0 x.1))
  sides j h w is (Ok x) e true k (Ok y) u = f.is_comparison o (is_by j.found h (shown_known j k)) is e (fits_known y u refl)
  sides j h w is (Ok x) e true k (Err _) (hid u) = hid tt
  sides j h w is (Ok x) e true k (Err g) (bad n u) = bad n (f.unfit_right_side o h is u)
  sides j h w is (Ok x) e false k (Ok y) u = hid tt
  sides j h w is (Ok x) e false k (Err _) (hid u) = hid tt
  sides j h w is (Ok x) e false k (Err g) (bad n u) = subst (λ (q : CheckFault). TestTells (Err q)) (sym (unknown_first g n)) (bad n (f.unfit_right_side o h is u))
  sides j h w is (Err q) e true k (Ok y) u = bad (suits_real j.found w q e) (f.unfit_left_side o h is e)
  sides j h w is (Err q) e true k (Err g) u = joined {H = ⊥} (λ h k. tt) (λ r x. x) (λ r y. f.unfit_right_side o h is y) q g (bad (suits_real j.found w q e) (f.unfit_left_side o h is e)) u
  sides j h w is (Err q) e false k (Ok y) u = bad (suits_real j.found w q e) (f.unfit_left_side o h is e)
  sides j h w is (Err q) e false k (Err g) u = joined {H = ⊥} (λ h k. tt) (λ r x. x) (λ r y. f.unfit_right_side o h is y) q g (bad (suits_real j.found w q e) (f.unfit_left_side o h is e)) u

  wanted_sound : (j : Judged) → Shows s a (Some j) → (w : Option Want) → compares r j.found.is ≡ w → TestTells (compare_by r j (judged s b) w)
  wanted_sound j h None is = joined {H = ⊥} (λ h k. tt) (λ r x. x) (λ r y. f.unfit_unwanted o h is y) (fault.WrongMode j.found.at) (by_itself (judged s b)) (bad refl (f.no_reference o h is)) (sound_alone s b (judged s b) (expr_sound s b))
  wanted_sound j h (Some w) is = sides j h w is (suits j.found w) refl j.known refl (fits (judged s b) w) (sound_fit s b w (judged s b) (expr_sound s b))

  compare_sound : (t : Outcome Judged) → SoundIs s a t → TestTells (compare r t (judged s b))
  compare_sound (Ok j) h = wanted_sound j h (compares r j.found.is) refl
  compare_sound (Err _) (hid h) = joined {H = Unit {0}} (λ h k. tt) (λ r x. x) (λ r y. f.unfit_by_itself o (f.hidden h) y) fault.Unknown (by_itself (judged s b)) (hid tt) (sound_alone s b (judged s b) (expr_sound s b))
  compare_sound (Err g) (bad n h) = joined {H = ⊥} (λ h k. tt) (λ r x. x) (λ r y. f.unfit_by_itself o (f.unfit h) y) g (by_itself (judged s b)) (bad n (f.in_left_side o h)) (sound_alone s b (judged s b) (expr_sound s b))

-- tests behind those before them, or nothing where one can't be known
abbrev TestsOr : Sight → List Cond → List Test → Option (List Test) → Type 0
TestsOr s cs so_far None = Unit {0}
TestsOr s cs so_far (Some whole) = (ts : List Test) × TestsAre s cs ts × (whole ≡ so_far ++ ts)

more_tests : (s : Sight) (c : Cond) (cs : List Cond) (t : Test) (so_far : List Test) → TestIs s c t → (r : Option (List Test)) → TestsOr s cs (so_far ++ t ∷ []) r → TestsOr s (c ∷ cs) so_far r
more_tests s c cs t so_far h None k = tt
more_tests s c cs t so_far h (Some whole) (ts, k, is) = (t ∷ ts, f.one_test h k, is ∙ append_assoc so_far (t ∷ []) ts)

earlier_bad : (H : Type 0) (F : CheckFault → Type 0) (s : Sight) (c : Cond) (g : CheckFault) → Bad H F g → (t : Outcome Test) → Tells (TestOr s c) (FaultInTest s c) t → Bad (Unit {0}) (Either F (FaultInTest s c)) (earlier g t)
earlier_bad H F s c _ (hid h) (Ok t) k = hid tt
earlier_bad H F s c g (bad n h) (Ok t) k = bad n (inl h)
earlier_bad H F s c g h (Err q) k = joined (λ h k. tt) (λ r x. inl x) (λ r y. inr y) g q h k

abbrev Never : Option (List Test) → Type 0
Never o = o ≡ None

-- behind a fault, or what can't be known, no tests are answered
after_bad : (s : Sight) (cs : List Cond) → EachIs (Tested s) cs → (H : Type 0) (F : CheckFault → Type 0) (g : CheckFault) → Bad H F g → Tells Never (Either F (FaultAmong s cs)) (all_from (Err g) (map (tested s) cs))
after_bad s [] hs H F _ (hid h) = hid refl
after_bad s [] hs H F g (bad n h) = bad n (inl h)
after_bad s (c ∷ cs) (k, hs) H F g h =
    told_more Never Never (Either (Either F (FaultInTest s c)) (FaultAmong s cs)) (Either F (FaultAmong s (c ∷ cs))) (λ o e. e) stands (all_from (Err (earlier g (tested s c))) (map (tested s) cs))
    (after_bad s cs hs (Unit {0}) (Either F (FaultInTest s c)) (earlier g (tested s c)) (earlier_bad H F s c g h (tested s c) k)) where
      stands : (q : CheckFault) → Either (Either F (FaultInTest s c)) (FaultAmong s cs) q → Either F (FaultAmong s (c ∷ cs)) q
      stands q (inl (inl x)) = inl x
      stands q (inl (inr x)) = inr (f.first_test x)
      stands q (inr x) = inr (f.later_test x)

abbrev FromTests : Sight → List Cond → Type 0
FromTests s cs = (so_far : List Test) → Tells (TestsOr s cs so_far) (FaultAmong s cs) (all_from (Ok so_far) (map (tested s) cs))

nowhere : (s : Sight) (cs : List Cond) (so_far : List Test) (o : Option (List Test)) → Never o → TestsOr s cs so_far o
nowhere s cs so_far o e = subst (TestsOr s cs so_far) (sym e) tt

one_more : (s : Sight) (c : Cond) (cs : List Cond) (so_far : List Test) → FromTests s cs → EachIs (Tested s) cs → (t : Outcome Test) → Tells (TestOr s c) (FaultInTest s c) t
    → Tells (TestsOr s (c ∷ cs) so_far) (FaultAmong s (c ∷ cs)) (all_from (after (Ok so_far) t) (map (tested s) cs))
one_more s c cs so_far rest hs (Ok t) h =
    told_more (TestsOr s cs (so_far ++ t ∷ [])) (TestsOr s (c ∷ cs) so_far) (FaultAmong s cs) (FaultAmong s (c ∷ cs)) (more_tests s c cs t so_far h) (λ g k. f.later_test k) (all_from (Ok (so_far ++ t ∷ [])) (map (tested s) cs)) (rest (so_far ++ t ∷ []))
one_more s c cs so_far rest hs (Err _) (hid h) =
    told_more Never (TestsOr s (c ∷ cs) so_far) (Either (λ g. ⊥) (FaultAmong s cs)) (FaultAmong s (c ∷ cs)) (nowhere s (c ∷ cs) so_far) (λ g k. elim k [ inl x ↦ absurd x | inr x ↦ f.later_test x ]) (all_from (Err fault.Unknown) (map (tested s) cs))
    (after_bad s cs hs (Unit {0}) (λ g. ⊥) fault.Unknown (hid tt))
one_more s c cs so_far rest hs (Err g) (bad n h) =
    told_more Never (TestsOr s (c ∷ cs) so_far) (Either (λ q. FaultInTest s c q) (FaultAmong s cs)) (FaultAmong s (c ∷ cs)) (nowhere s (c ∷ cs) so_far) (λ q k. elim k [ inl x ↦ f.first_test x | inr x ↦ f.later_test x ]) (all_from (Err g) (map (tested s) cs))
    (after_bad s cs hs ⊥ (λ q. FaultInTest s c q) g (bad n h))

from_tests : (s : Sight) (cs : List Cond) → EachIs (Tested s) cs → FromTests s cs
from_tests s [] hs so_far = ([], f.no_test, sym (append-nil so_far))
from_tests s (c ∷ cs) (k, hs) so_far = one_more s c cs so_far (from_tests s cs hs) hs (tested s c) k

or_sound : (s : Sight) (c : Cond) (cs : List Cond) (at : At) → out-Cond c ≡ Cond-F.Or cs at → (whole : Outcome (List Test)) → Tells (TestsOr s cs []) (FaultAmong s cs) whole → Tells (TestOr s c) (FaultInTest s c) (whole >>= λ ts. Ok (tests.Or ts))
or_sound s c cs at o (Ok whole) (ts, h, is) = f.is_or o (subst (λ (q : List Test). TestsAre s cs q) (sym is) h)
or_sound s c cs at o (Err _) (hid h) = hid tt
or_sound s c cs at o (Err g) (bad n h) = bad n (f.in_or o h)

and_sound : (s : Sight) (c : Cond) (cs : List Cond) (at : At) → out-Cond c ≡ Cond-F.And cs at → (whole : Outcome (List Test)) → Tells (TestsOr s cs []) (FaultAmong s cs) whole → Tells (TestOr s c) (FaultInTest s c) (whole >>= λ ts. Ok (tests.And ts))
and_sound s c cs at o (Ok whole) (ts, h, is) = f.is_and o (subst (λ (q : List Test). TestsAre s cs q) (sym is) h)
and_sound s c cs at o (Err _) (hid h) = hid tt
and_sound s c cs at o (Err g) (bad n h) = bad n (f.in_and o h)

abbrev CondPair : Sight → Type 0
CondPair s = (c : Cond) × Tested s c

each_cond : (s : Sight) (cs : List (CondPair s)) → EachIs (Tested s) (map (λ e. e.0) cs)
each_cond s [] = tt
each_cond s (c ∷ cs) = (c.1, each_cond s cs)

opened : (s : Sight) (c : Cond) (y : Cond-F (CondPair s)) → out-Cond c ≡ map-Cond (CondPair s) Cond (λ e. e.0) y → Tested s c
opened s c (Cond-F.Or cs at) o = rw (opened_or s c (map (λ e. e.0) cs) at o) (or_sound s c (map (λ e. e.0) cs) at o (all_from (Ok []) (map (tested s) (map (λ e. e.0) cs))) (from_tests s (map (λ e. e.0) cs) (each_cond s cs) []))
opened s c (Cond-F.And cs at) o = rw (opened_and s c (map (λ e. e.0) cs) at o) (and_sound s c (map (λ e. e.0) cs) at o (all_from (Ok []) (map (tested s) (map (λ e. e.0) cs))) (from_tests s (map (λ e. e.0) cs) (each_cond s cs) []))
opened s c (Cond-F.Compare r a b at) o = rw (opened_compare s c r a b at o) (compare_sound s c r a b at o (judged s a) (expr_sound s a))

rolled : (x : Cond-F Cond) → out-Cond (roll-Cond x) ≡ x
rolled x = search conditions.the_lemmas

pub cond_sound : (s : Sight) (c : Cond) → Tested s c
cond_sound s = ind-Cond (Tested s) (λ x y is. opened s (roll-Cond x) y (rolled x ∙ sym is))

module _ (s : Sight) (c : Cond) where
  pub test_holds : (t : Test) → tested s c ≡ Ok t → TestIs s c t
  test_holds t is = tells_ok (TestOr s c) (FaultInTest s c) (tested s c) t (cond_sound s c) is

  pub test_stands : (g : CheckFault) → is_unknown g ≡ false → tested s c ≡ Err g → FaultInTest s c g
  test_stands g n is = tells_err (TestOr s c) (FaultInTest s c) (tested s c) g (cond_sound s c) n is

  module _ (r : Result Test CheckFault) (gives : Gives (λ x. x) r (tested s c)) where
    pub test_fits : IfOk r (TestIs s c)
    test_fits = answer_holds (tested s c) (TestIs s c) (FaultInTest s c) test_holds (λ t h. test_judged h) test_stands (λ g h. test_stops h) (λ x. x) r gives

    pub test_only : (x : Test) → TestIs s c x → IsAnswered x r
    test_only = answer_only (tested s c) (TestIs s c) (FaultInTest s c) test_holds (λ t h. test_judged h) test_stands (λ g h. test_stops h) r gives

    pub test_settles : IfErr r (Settles (FaultInTest s c))
    test_settles = answer_settles (tested s c) (TestIs s c) (FaultInTest s c) test_holds (λ t h. test_judged h) test_stands (λ g h. test_stops h) (λ x. x) r gives
