-- What can be known is found, and a fault that stands is found, or one that counts before it.
use Rattle.std.proofs.Common.{◌≡◌, ◌≢◌, ℕ, ◌==◌, Bool, true, false, List, [], ◌∷◌, ◌++◌, length, Option, Some, None, Ok, Err, map, arith, refl, sym, ap, ◌∙◌, subst, append_assoc}
use Rattle.std.proofs.lemmas.List.{append-nil, length-map}
use Rattle.std.proofs.lemmas.Bool.Decides.{nat_tests}
use Rattle.rt_grammar.specs.declared.at.At.{At}
use Rattle.rt_syntax_exprs.specs.declared.tree.Expr.{Expr}
use Rattle.rt_syntax_exprs.specs.declared.tree.Expr.TheOpen.{Link-F}
use Rattle.rt_syntax_exprs.specs.declared.tree.Op1.{Op1}
use Rattle.rt_syntax_exprs.specs.declared.tree.Op2.{Op2}
use Rattle.rt_syntax_exprs.specs.declared.tree.Chain.{Chain, out-Chain}
use Rattle.rt_syntax_exprs.specs.declared.tree.Link.{Link, out-Link}
use Rattle.rt_modes.specs.declared.mode.Mode.{Mode}
use Rattle.rt_tree_nodes.specs.declared.value.Value.{Value}
use Rattle.rt_tree_nodes.specs.declared.value.Value.TheVariants as values
use Rattle.rt_tree_nodes.specs.declared.value.Place.{Place}
use Rattle.rt_tree_nodes.specs.declared.value.Callee.{Callee}
use Rattle.rt_exprs.specs.declared.operand.Standing.{Standing}
use Rattle.rt_check_faults.specs.declared.fault.CheckFault.{CheckFault}
use Rattle.rt_check_faults.specs.declared.fault.CheckFault.TheVariants as fault
use Rattle.rt_exprs.specs.declared.operand.Base.{Base}
use Rattle.rt_exprs.specs.declared.operand.Base.TheVariants as base
use Rattle.rt_exprs.specs.Sights.{Sight}
use Rattle.rt_exprs.specs.Modes.{Want, basic, want}
use Rattle.rt_check_faults.specs.Outcomes.{Outcome, both, after, is_unknown, is_before, sooner, fault_of, told, pair_of}
use Rattle.rt_exprs.specs.Operands.{Judged, suits, suits_as, if_known, fits, by_itself}
use Rattle.rt_exprs.specs.Judging.{judged, linked, judged_chain, walk, monadic, seen_as, selected, answered, subscript, arguments_from, if_counted, counted, call, element, computes, by_left, left_first, right_alone, is_shift, all_alone, base_in, frac_or_int, right_takes, takes}
use Rattle.rt_exprs.specs.Fitting as f
use Rattle.rt_exprs.specs.Fitting.{Shows, ShowsChain, ShowsLinks, ShowsLink, Takes, TakeEach, Alone, AllAlone, RightAlone, FaultIn, FaultInChain, FaultInLinks, FaultInLink, Unfit, UnfitAmong, UnfitAlone, UnfitSomewhere, Nothing, pushed}
use Rattle.rt_exprs.proofs.Real.{suits_real}
use Rattle.rt_check_faults.proofs.Told.{or_other_fault, real_left, real_right}
use Rattle.rt_exprs.proofs.Trees.{opened_number, opened_text, opened_chain, opened_val, opened_monadic, opened_dyadic, opened_dot, opened_apply, chain_as, no_parameters}
use Rattle.rt_check_faults.proofs.Counting.{Stops, exactly, moved, stops_then, stops_both_left, stops_both_right, stops_after_left, stops_after_right, stops_or_other, stops_sooner_left, stops_sooner_right, before_through_left, before_through_right, before_same}

equal : (n m : ℕ) → n ≡ m → (n == m) ≡ true
equal n m h = grind (arith, nat_tests)

unequal : (n m : ℕ) → n ≢ m → (n == m) ≡ false
unequal n m h = grind (arith, nat_tests)

as_many : (s : Sight) (es : List Expr) (ps : List Mode) → length es ≡ length ps → (length (map (judged s) es) == length ps) ≡ true
as_many s es ps e = equal (length (map (judged s) es)) (length ps) (rw length-map e)

not_as_many : (s : Sight) (es : List Expr) (ps : List Mode) → length es ≢ length ps → (length (map (judged s) es) == length ps) ≡ false
not_as_many s es ps n = unequal (length (map (judged s) es)) (length ps) (λ e. n (rw length-map at e))

-- ---- what is told of two, and of more

both_told : {A B : Type 0} (x : Option A) (y : Option B) → both (told x) (told y) ≡ told (pair_of x y)
both_told None None = refl
both_told None (Some y) = refl
both_told (Some x) None = refl
both_told (Some x) (Some y) = refl

-- more behind what is told
abbrev behind : Option (List Value) → Option (List Value) → Option (List Value)
behind (Some xs) (Some ys) = Some (xs ++ ys)
behind _ _ = None

behind_none : (o : Option (List Value)) → told (behind o (Some [])) ≡ told o
behind_none None = refl
behind_none (Some xs) = rw (append-nil xs) refl

after_told : (o : Option (List Value)) (x : Option Value) → after (told o) (told x) ≡ told (behind o (pushed x (Some [])))
after_told None None = refl
after_told None (Some x) = refl
after_told (Some xs) None = refl
after_told (Some xs) (Some x) = refl

behind_more : (o : Option (List Value)) (x : Option Value) (p : Option (List Value)) → behind (behind o (pushed x (Some []))) p ≡ behind o (pushed x p)
behind_more None x p = refl
behind_more (Some xs) None p = refl
behind_more (Some xs) (Some x) None = refl
behind_more (Some xs) (Some x) (Some ys) = rw (append_assoc xs (x ∷ []) ys) refl

counted_told : (at : At) (o : Option (List Value)) → if_counted at true (told o) ≡ told o
counted_told at o = refl

miscounted : (at : At) (o : Option (List Value)) → if_counted at false (told o) ≡ Err (fault.WrongCount at)
miscounted at None = refl
miscounted at (Some xs) = refl

fault_told : (y : Option Value) → fault_of (told y) ≡ fault.Unknown
fault_told None = refl
fault_told (Some y) = refl

computes_told : (at : At) (op : Op2) (b : Base) (r : Option (Value × Value)) → computes at op b (told r) ≡ Ok (f.with_operands at op b r)
computes_told at op b None = refl
computes_told at op b (Some r) = refl

selected_told : (at : At) (p : Place) (m : Mode) (st : Standing) (known : Bool) (i : Option Value) → selected at p m st known (told i) ≡ Ok (f.with_subscript at p m st known i)
selected_told at p m st known None = refl
selected_told at p m st known (Some i) = refl

answered_told : (at : At) (c : Callee) (r : Option Mode) (known : Bool) (xs : Option (List Value)) → answered at c r known (told (behind (Some []) xs)) ≡ Ok (f.with_arguments at c r known xs)
answered_told at c r known None = refl
answered_told at c r known (Some xs) = refl

mutual
  pub is_judged : {s : Sight} {e : Expr} {o : Option Judged} → Shows s e o → judged s e ≡ told o
  is_judged {s = s} {e = e} (f.shows_number {n = n} {at = at} o) = opened_number s e n at o
  is_judged {s = s} {e = e} (f.shows_text {t = t} {at = at} o i) = opened_text s e t at o ∙ rw i refl
  is_judged {s = s} {e = e} (f.shows_chain {c = c} o h) = opened_chain s e c o ∙ chain_judged h
  is_judged {s = s} {e = e} (f.shows_val {c = c} {at = at} o h t) = opened_val s e c at o ∙ rw (chain_judged h, t) refl
  is_judged {s = s} {e = e} (f.hides_val {c = c} {at = at} o h) = opened_val s e c at o ∙ rw (chain_judged h) refl
  is_judged {s = s} {e = e} (f.shows_length {a = a} {op = op} {at = at} o m h t) = opened_monadic s e a op at o ∙ rw (is_judged h, m, t) refl
  is_judged {s = s} {e = e} (f.shows_monadic {a = a} {op = op} {at = at} None o m h x) = opened_monadic s e a op at o ∙ rw (is_judged h, m, x) refl
  is_judged {s = s} {e = e} (f.shows_monadic {a = a} {op = op} {at = at} (Some y) o m h x) = opened_monadic s e a op at o ∙ rw (is_judged h, m, x) refl
  is_judged {s = s} {e = e} (f.shows_always {a = a} {op = op} {at = at} o h g) = opened_monadic s e a op at o ∙ rw (is_judged h, g) refl
  is_judged {s = s} {e = e} (f.hides_monadic {a = a} {op = op} {at = at} o h g) = opened_monadic s e a op at o ∙ rw (is_judged h, g) refl
  is_judged {s = s} {e = e} (f.shows_of_int {a = a} {b = b} {op = op} {at = at} {x = x} {y = y} o i h k) = opened_dyadic s e a b op at o ∙ rw (i, takes_judged h, takes_judged k, both_told x y) (computes_told at op base.Int (pair_of x y))
  is_judged {s = s} {e = e} (f.shows_by_left {a = a} {b = b} {op = op} {at = at} {j = j} x {y = y} o i h is k) =
      opened_dyadic s e a b op at o ∙ rw (i, is_judged h, is, takes_judged k, both_told x y) (computes_told at op (frac_or_int (base_in j.found.is)) (pair_of x y))
  is_judged {s = s} {e = e} (f.hides_by_left {a = a} {b = b} {op = op} {at = at} o i h k) = opened_dyadic s e a b op at o ∙ rw (i, is_judged h) (ap (λ (g : CheckFault). Err (sooner fault.Unknown g)) (right_judged k))

  pub chain_judged : {s : Sight} {c : Chain} {o : Option Judged} → ShowsChain s c o → judged_chain s c ≡ told o
  chain_judged {s = s} {c = c} (f.shows_named {is = is} n h) = chain_as s c ∙ rw n (links_judged h)
  chain_judged {s = s} {c = c} (f.hides_named n h) = chain_as s c ∙ rw n (links_judged h)

  links_judged : {s : Sight} {o p : Option Judged} {ls : List Link} → ShowsLinks s o ls p → walk (map (linked s) ls) (told o) ≡ told p
  links_judged f.shows_here = refl
  links_judged {s = s} (f.shows_onward {ls = ls} h hs) = ap (walk (map (linked s) ls)) (link_judged h) ∙ links_judged hs

  link_judged : {s : Sight} {l : Link} {o p : Option Judged} → ShowsLink s l o p → linked s l (told o) ≡ told p
  link_judged {s = s} {l = l} (f.shows_field {n = n} {at = at} {j = j} o r k w) = opened_dot s l n at (Ok j) o ∙ rw (r, k) w
  link_judged {s = s} {l = l} (f.shows_element {e = e} {at = at} {j = j} {p = p} {m = m} {st = st} {i = i} o r h) = opened_apply s l (e ∷ []) at (Ok j) o ∙ rw (r, takes_judged h) (selected_told j.found.at p m st j.known i)
  link_judged {s = s} {l = l} (f.shows_call {es = es} {at = at} {j = j} {c = c} {ps = ps} {r = a} {xs = xs} o r h n) =
      opened_apply s l es at (Ok j) o ∙ rw (r, as_many s es ps n, each_judged (Some []) h) (answered_told j.found.at c a j.known xs)
  link_judged {s = s} {l = l} (f.hides_field {n = n} {at = at} o) = opened_dot s l n at (Err fault.Unknown) o
  link_judged {s = s} {l = l} (f.hides_apply {es = es} {at = at} o h) = opened_apply s l es at (Err fault.Unknown) o ∙ ap (λ (g : CheckFault). Err g) (all_judged h)

  pub takes_judged : {s : Sight} {e : Expr} {w : Want} {x : Option Value} → Takes s e w x → fits (judged s e) w ≡ told x
  takes_judged (f.is_taken h x) = rw (is_judged h) x
  takes_judged (f.taken_hidden h) = rw (is_judged h) refl

  each_judged : {s : Sight} {es : List Expr} {ms : List Mode} {xs : Option (List Value)} (so_far : Option (List Value)) → TakeEach s es ms xs → arguments_from (told so_far) (map (judged s) es) ms ≡ told (behind so_far xs)
  each_judged so_far f.none_taken = sym (behind_none so_far)
  each_judged {s = s} so_far (f.no_more_taken {e = e} {es = es}) = no_parameters (told so_far) (map (judged s) (e ∷ es)) ∙ sym (behind_none so_far)
  each_judged {s = s} so_far (f.one_taken {es = es} {ms = ms} {x = x} {xs = xs} h hs) =
      ap (λ (o : Outcome Value). arguments_from (after (told so_far) o) (map (judged s) es) ms) (takes_judged h) ∙ ap (λ (o : Outcome (List Value)). arguments_from o (map (judged s) es) ms) (after_told so_far x)
      ∙ each_judged (behind so_far (pushed x (Some []))) hs ∙ ap (λ (o : Option (List Value)). told o) (behind_more so_far x xs)

  pub alone_judged : {s : Sight} {e : Expr} → Alone s e → by_itself (judged s e) ≡ fault.Unknown
  alone_judged (f.alone h a) = rw (is_judged h) a
  alone_judged (f.alone_hidden h) = rw (is_judged h) refl

  all_judged : {s : Sight} {es : List Expr} → AllAlone s es → all_alone fault.Unknown (map (judged s) es) ≡ fault.Unknown
  all_judged f.none_alone = refl
  all_judged {s = s} (f.one_alone {es = es} h hs) = ap (λ (g : CheckFault). all_alone (sooner fault.Unknown g) (map (judged s) es)) (alone_judged h) ∙ all_judged hs

  right_judged : {s : Sight} {op : Op2} {b : Expr} → RightAlone s op b → right_alone op (judged s b) ≡ fault.Unknown
  right_judged (f.alone_count {y = y} i h) = rw (i, takes_judged h) (fault_told y)
  right_judged (f.alone_right i h) = rw i (alone_judged h)

-- ---- faults

many : (at : At) (s : Sight) (es : List Expr) → length es ≢ 1 → subscript at (map (judged s) es) ≡ Err (fault.WrongMode at)
many at s [] n = refl
many at s (e ∷ []) n = absurd (n refl)
many at s (e ∷ d ∷ es) n = refl

-- where a value is wrong it is, whether all of it is known or not
pub wrong_known : (known : Bool) (t : Outcome Value) (g : CheckFault) → t ≡ Err g → if_known known t ≡ Err g
wrong_known true t g e = e
wrong_known false t g e = rw e refl

pub wrong_as : (j : Judged) (w : Want) (g : CheckFault) → suits j.found w ≡ Err g → suits_as j w ≡ Err g
wrong_as j w g e = wrong_known j.known (suits j.found w) g e

arguments_stop : (so_far : Outcome (List Value)) (ts : List (Outcome Judged)) (ms : List Mode) (g : CheckFault) → Stops so_far g → Stops (arguments_from so_far ts ms) g
arguments_stop so_far [] ms g h = h
arguments_stop so_far (t ∷ ts) [] g h = h
arguments_stop so_far (t ∷ ts) (m ∷ ms) g h = arguments_stop (after so_far (fits t (want m))) ts ms g (stops_after_left so_far (fits t (want m)) g h)

computes_stop : (at : At) (op : Op2) (b : Base) (t : Outcome (Value × Value)) (g : CheckFault) → Stops t g → Stops (computes at op b t) g
computes_stop at op b t g h = stops_or_other (values.Number 0, values.Number 0) true _ t g h

of_int_left : (at : At) (op : Op2) (t u : Outcome Judged) (g : CheckFault) → Stops (fits t (basic base.Int)) g → Stops (computes at op base.Int (both (fits t (basic base.Int)) (fits u (basic base.Int)))) g
of_int_left at op t u g h = computes_stop at op base.Int (both (fits t (basic base.Int)) (fits u (basic base.Int))) g (stops_both_left (fits t (basic base.Int)) (fits u (basic base.Int)) g h)

of_int_right : (at : At) (op : Op2) (t u : Outcome Judged) (g : CheckFault) → Stops (fits u (basic base.Int)) g → Stops (computes at op base.Int (both (fits t (basic base.Int)) (fits u (basic base.Int)))) g
of_int_right at op t u g h = computes_stop at op base.Int (both (fits t (basic base.Int)) (fits u (basic base.Int))) g (stops_both_right (fits t (basic base.Int)) (fits u (basic base.Int)) g h)

element_stops : (mark at : At) (p : Place) (m : Mode) (st : Standing) (known : Bool) (t : Outcome Judged) (g : CheckFault) → Stops (fits t (basic base.Int)) g → Stops (element mark at p m st known (t ∷ [])) g
element_stops mark at p m st known t g h = stops_or_other (values.Number 0) known _ (fits t (basic base.Int)) g h

if_counted_stops : (at : At) (b : Bool) (t : Outcome (List Value)) (g : CheckFault) → Stops t g → Stops (if_counted at b t) g
if_counted_stops at true t g h = h
if_counted_stops at false t g h = record { first = h.first; is = rw h.is (kept h.first h.real); counts = h.counts; real = h.real } where
  kept : (q : CheckFault) → is_unknown q ≡ false → if_counted at false (Err q) ≡ Err q
  kept fault.Memory n = refl
  kept (fault.UnknownName at) n = refl
  kept (fault.WrongMode at) n = refl
  kept (fault.NotAssignable at) n = refl
  kept (fault.WrongCount at) n = refl
  kept (fault.RefOfLocal at) n = refl
  kept (fault.LeftOut form at) n = refl
  kept (fault.DeclaredTwice at) n = refl
  kept (fault.BadStart at) n = refl
  kept (fault.UnknownLabel at) n = refl
  kept (fault.NoResult at) n = refl
  kept fault.Unknown n = absurd cc

call_stops : (at : At) (c : Callee) (ps : List Mode) (r : Option Mode) (known : Bool) (ts : List (Outcome Judged)) (g : CheckFault) → Stops (arguments_from (Ok []) ts ps) g → Stops (call at c ps r known ts) g
call_stops at c ps r known ts g h = stops_or_other [] known _ (counted at ts ps) g (if_counted_stops at (length ts == length ps) (arguments_from (Ok []) ts ps) g h)

left_stops : (s : Sight) (at : At) (op : Op2) (j : Judged) (b : Expr) (g : CheckFault) → suits j.found (basic (frac_or_int (base_in j.found.is))) ≡ Err g → Stops (by_left at op j (judged s b)) g
left_stops s at op j b g x =
    computes_stop at op (frac_or_int (base_in j.found.is)) (both (suits_as j (basic (frac_or_int (base_in j.found.is)))) (fits (judged s b) (basic (right_takes op (frac_or_int (base_in j.found.is)))))) g
    (stops_both_left (suits_as j (basic (frac_or_int (base_in j.found.is)))) (fits (judged s b) (basic (right_takes op (frac_or_int (base_in j.found.is))))) g
    (exactly _ _ (suits_real j.found (basic (frac_or_int (base_in j.found.is))) g x) (wrong_as j (basic (frac_or_int (base_in j.found.is))) g x)))

right_stops : (s : Sight) (at : At) (op : Op2) (j : Judged) (b : Expr) (g : CheckFault) → Stops (fits (judged s b) (basic (right_takes op (frac_or_int (base_in j.found.is))))) g → Stops (by_left at op j (judged s b)) g
right_stops s at op j b g h =
    computes_stop at op (frac_or_int (base_in j.found.is)) (both (suits_as j (basic (frac_or_int (base_in j.found.is)))) (fits (judged s b) (basic (right_takes op (frac_or_int (base_in j.found.is)))))) g
    (stops_both_right (suits_as j (basic (frac_or_int (base_in j.found.is)))) (fits (judged s b) (basic (right_takes op (frac_or_int (base_in j.found.is))))) g h)

-- an answer that is a fault, or what can't be known
pub record Fails {A : Type 0} (t : Outcome A) : Type 0 where
  pub first : CheckFault
  pub is : t ≡ Err first

pub fails_by : {A : Type 0} (t : Outcome A) (g : CheckFault) → Stops t g → Fails t
fails_by t g h = record { first = h.first; is = h.is }

-- a fault that is counted among others
pub record Reaches (t g : CheckFault) : Type 0 where
  pub counts : is_before t g ≡ true
  pub real : is_unknown t ≡ false

reaches_sooner_left : (f h g : CheckFault) → Reaches f g → Reaches (sooner f h) g
reaches_sooner_left f h g r = record { counts = before_through_left f h g r.counts; real = real_left f h r.real }

reaches_sooner_right : (f h g : CheckFault) → Reaches h g → Reaches (sooner f h) g
reaches_sooner_right f h g r = record { counts = before_through_right f h g r.counts; real = real_right f h r.real }

all_alone_keeps : (f : CheckFault) (ts : List (Outcome Judged)) (g : CheckFault) → Reaches f g → Reaches (all_alone f ts) g
all_alone_keeps f [] g h = h
all_alone_keeps f (t ∷ ts) g h = all_alone_keeps (sooner f (by_itself t)) ts g (reaches_sooner_left f (by_itself t) g h)

stopped : {A : Type 0} (t : Outcome A) (f g : CheckFault) → t ≡ Err f → Reaches f g → Stops t g
stopped t f g e r = record { first = f; is = e; counts = r.counts; real = r.real }

-- by the form of the link
link_keeps_by : (s : Sight) (l : Link) (y : Link-F Expr Link Chain) → out-Link l ≡ y → (q g : CheckFault) → Reaches q g → Stops (linked s l (Err q)) g
link_keeps_by s l (Link-F.Dot n at) o q g r = stopped _ q g (opened_dot s l n at (Err q) o) r
link_keeps_by s l (Link-F.Apply es at) o q g r = stopped _ (all_alone q (map (judged s) es)) g (opened_apply s l es at (Err q) o) (all_alone_keeps q (map (judged s) es) g r)

-- a fault is kept by the links behind it
link_keeps : (s : Sight) (l : Link) (q g : CheckFault) → Reaches q g → Stops (linked s l (Err q)) g
link_keeps s l q g r = link_keeps_by s l (out-Link l) refl q g r

walk_keeps : (s : Sight) (ls : List Link) (t : Outcome Judged) (g : CheckFault) → Stops t g → Stops (walk (map (linked s) ls) t) g
walk_keeps s [] t g h = h
walk_keeps s (l ∷ ls) t g h = walk_keeps s ls (linked s l t) g (moved (linked s l t) (linked s l (Err h.first)) g (ap (linked s l) h.is) (link_keeps s l h.first g (record { counts = h.counts; real = h.real })))

link_fails_by : (s : Sight) (l : Link) (y : Link-F Expr Link Chain) → out-Link l ≡ y → (q : CheckFault) → Fails (linked s l (Err q))
link_fails_by s l (Link-F.Dot n at) o q = record { first = q; is = opened_dot s l n at (Err q) o }
link_fails_by s l (Link-F.Apply es at) o q = record { first = all_alone q (map (judged s) es); is = opened_apply s l es at (Err q) o }

link_fails : (s : Sight) (l : Link) (q : CheckFault) → Fails (linked s l (Err q))
link_fails s l q = link_fails_by s l (out-Link l) refl q

monadic_fault : (at : At) (op : Op1) (g : CheckFault) → is_unknown g ≡ false → monadic at op (Err g) ≡ Err g
monadic_fault at op fault.Memory n = refl
monadic_fault at op (fault.UnknownName i) n = refl
monadic_fault at op (fault.WrongMode i) n = refl
monadic_fault at op (fault.NotAssignable i) n = refl
monadic_fault at op (fault.WrongCount i) n = refl
monadic_fault at op (fault.RefOfLocal i) n = refl
monadic_fault at op (fault.LeftOut form i) n = refl
monadic_fault at op (fault.DeclaredTwice i) n = refl
monadic_fault at op (fault.BadStart i) n = refl
monadic_fault at op (fault.UnknownLabel i) n = refl
monadic_fault at op (fault.NoResult i) n = refl
monadic_fault at op fault.Unknown n = absurd cc

monadic_stops : (at : At) (op : Op1) (t : Outcome Judged) (g : CheckFault) → Stops t g → Stops (monadic at op t) g
monadic_stops at op t g h = record { first = h.first; is = rw (h.is, monadic_fault at op h.first h.real) refl; counts = h.counts; real = h.real }

first_stops : (at : At) (op : Op2) (t u : Outcome Judged) (g : CheckFault) → Stops t g → Stops (left_first at op t u) g
first_stops at op t u g h = stops_sooner_left (left_first at op t u) h.first (right_alone op u) g (rw h.is refl) h.counts h.real

alone_stops : (at : At) (op : Op2) (t u : Outcome Judged) (g : CheckFault) → Fails t → Reaches (right_alone op u) g → Stops (left_first at op t u) g
alone_stops at op t u g h r = stops_sooner_right (left_first at op t u) h.first (right_alone op u) g (rw h.is refl) r.counts r.real

fault_reaches : (t : Outcome Value) (g : CheckFault) → Stops t g → Reaches (fault_of t) g
fault_reaches t g h = record { counts = rw h.is h.counts; real = rw h.is h.real }

itself_reaches : (t : Outcome Judged) (g : CheckFault) → Stops t g → Reaches (by_itself t) g
itself_reaches t g h = record { counts = rw h.is h.counts; real = rw h.is h.real }

nothing_leads : {s : Sight} {l : Link} {k : Judged} → ShowsLink s l None (Some k) → ⊥
nothing_leads h = elim h [ ]

count_alone : (op : Op2) (u : Outcome Judged) → is_shift op ≡ true → fault_of (fits u (basic base.Int)) ≡ right_alone op u
count_alone op u i = rw i refl

itself_alone : (op : Op2) (u : Outcome Judged) → is_shift op ≡ false → by_itself u ≡ right_alone op u
itself_alone op u i = rw i refl

mutual
  pub fault_stops : {s : Sight} {e : Expr} {g : CheckFault} → FaultIn s e g → Stops (judged s e) g
  fault_stops {s = s} {e = e} (f.no_string {t = t} {at = at} o none) = exactly _ _ refl (opened_text s e t at o ∙ rw none refl)
  fault_stops {s = s} {e = e} {g = g} (f.in_chain {c = c} o h) = moved _ _ g (opened_chain s e c o) (chain_stops h)
  fault_stops {s = s} {e = e} {g = g} (f.in_val {c = c} {at = at} o h) = moved _ _ g (opened_val s e c at o) (stops_then (judged_chain s c) _ g (chain_stops h))
  fault_stops {s = s} {e = e} (f.no_ref {c = c} {at = at} o h t) = exactly _ _ refl (opened_val s e c at o ∙ rw (chain_judged h, t) refl)
  fault_stops {s = s} {e = e} {g = g} (f.in_operand {a = a} {op = op} {at = at} o h) = moved _ _ g (opened_monadic s e a op at o) (monadic_stops at op (judged s a) g (fault_stops h))
  fault_stops {s = s} {e = e} (f.no_array {a = a} {op = op} {at = at} o m h t) = exactly _ _ refl (opened_monadic s e a op at o ∙ rw (is_judged h, m, t) refl)
  fault_stops {s = s} {e = e} {g = g} (f.unfit_operand {a = a} {op = op} {at = at} {j = j} o m h x) =
      exactly _ _ (suits_real j.found (basic (takes op (base_in j.found.is))) g x) (opened_monadic s e a op at o ∙ rw (is_judged h, m, wrong_as j (basic (takes op (base_in j.found.is))) g x, or_other_fault (values.Number 0) true g (suits_real j.found (basic (takes op (base_in j.found.is))) g x)) refl)
  fault_stops {s = s} {e = e} {g = g} (f.left_of_int {a = a} {b = b} {op = op} {at = at} o i u) =
      moved (judged s e) (computes at op base.Int (both (fits (judged s a) (basic base.Int)) (fits (judged s b) (basic base.Int)))) g (opened_dyadic s e a b op at o ∙ rw i refl) (of_int_left at op (judged s a) (judged s b) g (unfit_stops u))
  fault_stops {s = s} {e = e} {g = g} (f.right_of_int {a = a} {b = b} {op = op} {at = at} o i u) =
      moved (judged s e) (computes at op base.Int (both (fits (judged s a) (basic base.Int)) (fits (judged s b) (basic base.Int)))) g (opened_dyadic s e a b op at o ∙ rw i refl) (of_int_right at op (judged s a) (judged s b) g (unfit_stops u))
  fault_stops {s = s} {e = e} {g = g} (f.in_left {a = a} {b = b} {op = op} {at = at} o i h) =
      moved (judged s e) (left_first at op (judged s a) (judged s b)) g (opened_dyadic s e a b op at o ∙ rw i refl) (first_stops at op (judged s a) (judged s b) g (fault_stops h))
  fault_stops {s = s} {e = e} {g = g} (f.unfit_left {a = a} {b = b} {op = op} {at = at} {j = j} o i h x) =
      moved (judged s e) (by_left at op j (judged s b)) g (opened_dyadic s e a b op at o ∙ rw (i, is_judged h) refl) (left_stops s at op j b g x)
  fault_stops {s = s} {e = e} {g = g} (f.unfit_right {a = a} {b = b} {op = op} {at = at} {j = j} o i h u) =
      moved (judged s e) (by_left at op j (judged s b)) g (opened_dyadic s e a b op at o ∙ rw (i, is_judged h) refl) (right_stops s at op j b g (unfit_stops u))
  fault_stops {s = s} {e = e} {g = g} (f.unfit_count {a = a} {b = b} {op = op} {at = at} o i none c u) =
      moved (judged s e) (left_first at op (judged s a) (judged s b)) g (opened_dyadic s e a b op at o ∙ rw i refl) (alone_stops at op (judged s a) (judged s b) g (nothing_fails none) (subst (λ (q : CheckFault). Reaches q g) (count_alone op (judged s b) c) (fault_reaches (fits (judged s b) (basic base.Int)) g (unfit_stops u))))
  fault_stops {s = s} {e = e} {g = g} (f.right_by_itself {a = a} {b = b} {op = op} {at = at} o i none c u) =
      moved (judged s e) (left_first at op (judged s a) (judged s b)) g (opened_dyadic s e a b op at o ∙ rw i refl) (alone_stops at op (judged s a) (judged s b) g (nothing_fails none) (subst (λ (q : CheckFault). Reaches q g) (itself_alone op (judged s b) c) (alone_reaches u)))

  pub chain_stops : {s : Sight} {c : Chain} {g : CheckFault} → FaultInChain s c g → Stops (judged_chain s c) g
  chain_stops {s = s} {c = c} {g = g} (f.in_name n real) = moved (judged_chain s c) (walk (map (linked s) (out-Chain c).links) (Err g)) g (chain_as s c ∙ rw n refl) (walk_keeps s (out-Chain c).links (Err g) g (exactly (Err g) g real refl))
  chain_stops {s = s} {c = c} {g = g} (f.in_links {is = is} n h) = moved (judged_chain s c) (walk (map (linked s) (out-Chain c).links) (Ok (seen_as true (out-Chain c).at is))) g (chain_as s c ∙ rw n refl) (links_stop h)
  chain_stops {s = s} {c = c} {g = g} (f.behind_name {f = q} n h) = moved (judged_chain s c) (walk (map (linked s) (out-Chain c).links) (Err q)) g (chain_as s c ∙ rw n refl) (links_stop_none h q)

  links_stop : {s : Sight} {j : Judged} {ls : List Link} {g : CheckFault} → FaultInLinks s (Some j) ls g → Stops (walk (map (linked s) ls) (Ok j)) g
  links_stop {s = s} {j = j} {g = g} (f.at_first {l = l} {ls = ls} h) = walk_keeps s ls (linked s l (Ok j)) g (link_stops h)
  links_stop {s = s} {j = j} {g = g} (f.at_later {p = Some k} {l = l} {ls = ls} h hs) = moved (walk (map (linked s) (l ∷ ls)) (Ok j)) (walk (map (linked s) ls) (Ok k)) g (ap (walk (map (linked s) ls)) (link_judged h)) (links_stop hs)
  links_stop {s = s} {j = j} {g = g} (f.at_later {p = None} {l = l} {ls = ls} h hs) = moved (walk (map (linked s) (l ∷ ls)) (Ok j)) (walk (map (linked s) ls) (Err fault.Unknown)) g (ap (walk (map (linked s) ls)) (link_judged h)) (links_stop_none hs fault.Unknown)
  links_stop {s = s} {j = j} {g = g} (f.behind_unfit {l = l} {ls = ls} {f = q} h hs) = let first = link_stops h in moved (walk (map (linked s) (l ∷ ls)) (Ok j)) (walk (map (linked s) ls) (Err first.first)) g (ap (walk (map (linked s) ls)) first.is) (links_stop_none hs first.first)

  -- behind nothing that is known, whichever fault went before
  links_stop_none : {s : Sight} {ls : List Link} {g : CheckFault} → FaultInLinks s None ls g → (q : CheckFault) → Stops (walk (map (linked s) ls) (Err q)) g
  links_stop_none {s = s} {g = g} (f.at_first {l = l} {ls = ls} h) q = walk_keeps s ls (linked s l (Err q)) g (link_stops_none h q)
  links_stop_none {s = s} {g = g} (f.at_later {p = None} {l = l} {ls = ls} h hs) q = let next = link_fails s l q in moved (walk (map (linked s) (l ∷ ls)) (Err q)) (walk (map (linked s) ls) (Err next.first)) g (ap (walk (map (linked s) ls)) next.is) (links_stop_none hs next.first)
  links_stop_none {s = s} {g = g} (f.at_later {p = Some k} {l = l} {ls = ls} h hs) q = absurd (nothing_leads h)
  links_stop_none {s = s} {g = g} (f.behind_unfit {l = l} {ls = ls} h hs) q = let next = link_fails s l q in moved (walk (map (linked s) (l ∷ ls)) (Err q)) (walk (map (linked s) ls) (Err next.first)) g (ap (walk (map (linked s) ls)) next.is) (links_stop_none hs next.first)

  link_stops : {s : Sight} {l : Link} {j : Judged} {g : CheckFault} → FaultInLink s l (Some j) g → Stops (linked s l (Ok j)) g
  link_stops {s = s} {l = l} {j = j} (f.no_record {n = n} {at = at} o r) = exactly _ _ refl (opened_dot s l n at (Ok j) o ∙ rw r refl)
  link_stops {s = s} {l = l} {j = j} (f.no_field {n = n} {at = at} o r k) = exactly _ _ refl (opened_dot s l n at (Ok j) o ∙ rw (r, k) refl)
  link_stops {s = s} {l = l} {j = j} (f.no_call {es = es} {at = at} o r) = exactly _ _ refl (opened_apply s l es at (Ok j) o ∙ rw r refl)
  link_stops {s = s} {l = l} {j = j} (f.not_one {es = es} {at = at} o r n) = exactly _ _ refl (opened_apply s l es at (Ok j) o ∙ rw (r, many at s es n) refl)
  link_stops {s = s} {l = l} {j = j} {g = g} (f.in_subscript {e = e} {at = at} {p = p} {m = m} {st = st} o r u) =
      moved (linked s l (Ok j)) (element at j.found.at p m st j.known (judged s e ∷ [])) g (opened_apply s l (e ∷ []) at (Ok j) o ∙ rw r refl) (element_stops at j.found.at p m st j.known (judged s e) g (unfit_stops u))
  link_stops {s = s} {l = l} {j = j} {g = g} (f.in_argument {es = es} {at = at} {c = c} {ps = ps} {r = a} o r u) =
      moved (linked s l (Ok j)) (call j.found.at c ps a j.known (map (judged s) es)) g (opened_apply s l es at (Ok j) o ∙ rw r refl) (call_stops j.found.at c ps a j.known (map (judged s) es) g (among_stops (Ok []) u))
  link_stops {s = s} {l = l} {j = j} (f.in_count {es = es} {at = at} {ps = ps} {xs = xs} o r h n) = exactly _ _ refl (opened_apply s l es at (Ok j) o ∙ rw (r, each_judged (Some []) h, not_as_many s es ps n, miscounted j.found.at (behind (Some []) xs)) refl)

  link_stops_none : {s : Sight} {l : Link} {g : CheckFault} → FaultInLink s l None g → (q : CheckFault) → Stops (linked s l (Err q)) g
  link_stops_none {s = s} {l = l} {g = g} (f.by_itself {es = es} {at = at} o h) q = stopped (linked s l (Err q)) (all_alone q (map (judged s) es)) g (opened_apply s l es at (Err q) o) (somewhere_reaches h q)

  pub unfit_stops : {s : Sight} {e : Expr} {w : Want} {g : CheckFault} → Unfit s e w g → Stops (fits (judged s e) w) g
  unfit_stops {s = s} {e = e} {g = g} (f.unfit_inside h) = stops_then (judged s e) _ g (fault_stops h)
  unfit_stops {w = w} {g = g} (f.unfit_here {j = j} h x) = exactly _ _ (suits_real j.found w g x) (rw (is_judged h) (wrong_as j w g x))

  among_stops : {s : Sight} {es : List Expr} {ms : List Mode} {g : CheckFault} (so_far : Outcome (List Value)) → UnfitAmong s es ms g → Stops (arguments_from so_far (map (judged s) es) ms) g
  among_stops {s = s} {g = g} so_far (f.unfit_first {e = e} {es = es} {m = m} {ms = ms} u) =
      arguments_stop (after so_far (fits (judged s e) (want m))) (map (judged s) es) ms g (stops_after_right so_far (fits (judged s e) (want m)) g (unfit_stops u))
  among_stops {s = s} so_far (f.unfit_rest {e = e} {m = m} h) = among_stops (after so_far (fits (judged s e) (want m))) h

  pub alone_reaches : {s : Sight} {e : Expr} {g : CheckFault} → UnfitAlone s e g → Reaches (by_itself (judged s e)) g
  alone_reaches {s = s} {e = e} {g = g} (f.alone_inside h) = itself_reaches (judged s e) g (fault_stops h)
  alone_reaches {s = s} {e = e} (f.alone_done {j = j} {v = v} h d) = let here : by_itself (judged s e) ≡ fault.WrongMode j.found.at = rw (is_judged h, d) refl in record { counts = rw here (before_same (fault.WrongMode j.found.at)); real = rw here refl }

  somewhere_reaches : {s : Sight} {es : List Expr} {g : CheckFault} → UnfitSomewhere s es g → (q : CheckFault) → Reaches (all_alone q (map (judged s) es)) g
  somewhere_reaches {s = s} {g = g} (f.somewhere_first {e = e} {es = es} u) q = all_alone_keeps (sooner q (by_itself (judged s e))) (map (judged s) es) g (reaches_sooner_right q (by_itself (judged s e)) g (alone_reaches u))
  somewhere_reaches {s = s} (f.somewhere_later {e = e} h) q = somewhere_reaches h (sooner q (by_itself (judged s e)))

  pub nothing_fails : {s : Sight} {e : Expr} → Nothing s e → Fails (judged s e)
  nothing_fails (f.hidden h) = record { first = fault.Unknown; is = is_judged h }
  nothing_fails {s = s} {e = e} (f.unfit {g = g} h) = fails_by (judged s e) g (fault_stops h)
