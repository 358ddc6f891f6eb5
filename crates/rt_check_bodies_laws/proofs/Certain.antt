-- Where every name that is seen can be known, and the mode of each field, nothing is answered as what can't be known.
use Rattle.std.proofs.Common.{◌≡◌, ℕ, ◌==◌, Bool, true, false, List, [], ◌∷◌, map, Option, Some, None, Ok, Err, if◌then◌else◌, refl, sym, ap, ◌∙◌, subst}
use Rattle.std.specs.Prelude.{slice_get}
use Rattle.rt_grammar.specs.declared.at.At.{At}
use Rattle.rt_grammar.specs.declared.at.Ident.{Ident}
use Rattle.rt_syntax_exprs.specs.declared.tree.Chain.{Chain, out-Chain}
use Rattle.rt_syntax_exprs.specs.declared.tree.Cond.{Cond, out-Cond, roll-Cond, map-Cond}
use Rattle.rt_syntax_exprs.specs.declared.tree.Cond as conditions
use Rattle.rt_syntax_exprs.specs.declared.tree.Cond.TheFolds.{ind-Cond, fold_out-Cond}
use Rattle.rt_syntax_exprs.specs.declared.tree.Cond.TheOpen.{Cond-F}
use Rattle.rt_syntax_exprs.specs.declared.tree.Expr.{Expr, out-Expr}
use Rattle.rt_syntax_exprs.specs.declared.tree.Rel.{Rel}
use Rattle.rt_modes.specs.declared.mode.Mode.{Mode, out-Mode}
use Rattle.rt_modes.specs.declared.mode.Mode.TheOpen.{Mode-F}
use Rattle.rt_modes.specs.declared.mode.RecordDef.{RecordDef}
use Rattle.rt_tree_nodes.specs.declared.statement.Stat.TheVariants as stats
use Rattle.rt_tree_nodes.specs.declared.statement.Test.{Test}
use Rattle.rt_tree_nodes.specs.declared.statement.Test.TheVariants as tests
use Rattle.rt_tree_nodes.specs.declared.value.Place.{Place}
use Rattle.rt_tree_nodes.specs.declared.value.Value.{Value}
use Rattle.rt_tree_nodes.specs.Scopes.{Scope as Tree}
use Rattle.rt_check_faults.specs.declared.fault.CheckFault.TheVariants as fault
use Rattle.rt_exprs.specs.declared.operand.Standing.TheVariants as standing
use Rattle.rt_exprs.specs.declared.scope.Meaning.{Meaning}
use Rattle.rt_exprs.specs.declared.scope.Meaning.TheVariants as meaning
use Rattle.rt_exprs.specs.Sights.{Sight}
use Rattle.rt_exprs.specs.Modes.{Want, want}
use Rattle.rt_exprs.specs.Names.{find}
use Rattle.rt_exprs.specs.Operands.{Is, place, loop, brick, result, done, Judged, field_in, is_label, suits_as, fits, by_itself}
use Rattle.rt_check_faults.specs.Outcomes.{Outcome, ◌>>=◌, both, after, is_unknown}
use Rattle.rt_exprs.specs.Judging.{judged, judged_chain, nowhere, begins_at, is_brick, is_whole, place_if, assigned_is, assigned, target, val, val_by, val_target, target_of, called_is, call_if, ends_in_apply, alone, compares, made_rel, compare_by, compare, all_from, cond_step, tested}
use Rattle.rt_exprs_laws.specs.Agreeing.{HasItems, IsItem}
use Rattle.rt_exprs_laws.proofs.Links.{field_found, item_of_all}
use Rattle.rt_exprs_laws.proofs.Standing.{stands_at}
use Rattle.rt_check_bodies.specs.declared.answer.Answer.{Answer}
use Rattle.rt_check_bodies.specs.declared.answer.Answer.TheVariants as answer
use Rattle.rt_check_bodies.specs.Sights.{value_in, alone_in, assigning, assigned_in, assignment_in, val_assignment_in, call_in, test_in, label_in, label_by}
use Rattle.rt_check_bodies.specs.Statements.{returned, return_of}
use Rattle.rt_check_bodies_laws.specs.Held.{IsKnown, AllKnown, ResultIs}
use Rattle.rt_check_bodies_laws.proofs.Knowing.{Knows, Certain, Sure, then_certain, both_certain, after_certain, known_if, suits_certain, fits_certain, expr_sure, whole_chain_sure}
use Rattle.rt_check_bodies_laws.proofs.Real.{real_left}
use Rattle.rt_check_bodies_laws.proofs.Each.{found_each}

abbrev pub Given : {A : Type 0} → Option A → Type 0
Given None = ⊥
Given (Some x) = Unit {0}

-- ---- what is judged

-- a place that is known, and its mode
abbrev pub SureTarget : Outcome (Option Place × Mode) → Type 0
SureTarget (Ok x) = Given x.0
SureTarget (Err g) = is_unknown g ≡ false

assigned_sure : (at : At) (k : Bool) (is : Is) → k ≡ true → SureTarget (assigned_is at k is)
assigned_sure at k (place p m st) e = by_mode (is_whole (out-Mode m)) where
  by_mode : (b : Bool) → SureTarget (if b then Err (fault.NotAssignable at) else Ok (place_if k p, m))
  by_mode true = refl
  by_mode false = subst (λ (z : Bool). Given (place_if z p)) (sym e) tt
assigned_sure at k (loop i) e = refl
assigned_sure at k (brick i m) e = refl
assigned_sure at k _ e = refl

called_certain : (at : At) (is : Is) → Certain (called_is at is)
called_certain at (result v m) = tt
called_certain at (done v) = tt
called_certain at _ = refl

call_certain : (at : At) (ends : Bool) (t : Outcome Judged) → Sure t → Certain (call_if at ends t)
call_certain at ends (Ok j) k = subst (λ (t : Outcome Value). Certain t) (sym (known_if j.known (called_is j.found.at j.found.is) k)) (called_certain j.found.at j.found.is)
call_certain at true (Err g) n = n
call_certain at false (Err fault.Unknown) n = refl
call_certain at false (Err _) n = refl

compared_certain : (r : Rel) (j : Judged) (b : Outcome Judged) → j.known ≡ true → Sure b → (w : Option Want) → Certain (compare_by r j b w)
compared_certain r j b k h None = real_left (fault.WrongMode j.found.at) (by_itself b) refl
compared_certain r j b k h (Some w) = then_certain (both (suits_as j w) (fits b w)) (λ x. Ok (tests.Compare (made_rel r) x.0 x.1)) (both_certain (suits_as j w) (fits b w) (suits_certain j w k) (fits_certain b w h)) (λ x. tt)

compare_certain : (r : Rel) (a b : Outcome Judged) → Sure a → Sure b → Certain (compare r a b)
compare_certain r (Ok j) b k h = compared_certain r j b k h (compares r j.found.is)
compare_certain r (Err g) b n h = real_left g (by_itself b) n

nowhere_certain : (at : At) (t : Outcome Judged) → is_unknown (nowhere at t) ≡ false
nowhere_certain at (Ok j) = refl
nowhere_certain at (Err fault.Unknown) = refl
nowhere_certain at (Err _) = refl

module _ (s : Sight) (a : Knows s) where
  -- ---- places

  place_sure : (t : Outcome Judged) → Sure t → SureTarget (t >>= assigned)
  place_sure (Ok j) k = assigned_sure j.found.at j.known j.found.is k
  place_sure (Err g) n = n

  brick_sure : (c : Chain) (b : Bool) → SureTarget (if b then Err (fault.NotAssignable (out-Chain c).at) else judged_chain s c >>= assigned)
  brick_sure c true = refl
  brick_sure c false = place_sure (judged_chain s c) (whole_chain_sure s a c)

  target_sure : (c : Chain) → SureTarget (target s c)
  target_sure c = brick_sure c (is_brick (find s (out-Chain c).name) (out-Chain c).links)

  led_sure : (at : At) (j : Judged) → j.known ≡ true → (o : Option (Place × Mode)) → SureTarget (val_by at j.found.at j.known o >>= assigned)
  led_sure at j k None = refl
  led_sure at j k (Some x) = assigned_sure at j.known (place x.0 x.1 standing.Shared) k

  val_sure : (at : At) (t : Outcome Judged) → Sure t → SureTarget (val at t >>= assigned)
  val_sure at (Ok j) k = led_sure at j k (target_of j.found.is)
  val_sure at (Err g) n = n

  -- ---- conditions

  tested_at : (c : Cond) (l : Cond-F Cond) → out-Cond c ≡ l → tested s c ≡ cond_step s (map-Cond Cond (Outcome Test) (tested s) l)
  unfolding tested
  tested_at c l o = rw (fold_out-Cond, o) refl

  abbrev CondPair : Type 0
  CondPair = (c : Cond) × Certain (tested s c)

  all_certain : (so_far : Outcome (List Test)) (cs : List CondPair) → Certain so_far → Certain (all_from so_far (map (tested s) (map (λ (e : CondPair). e.0) cs)))
  all_certain so_far [] h = h
  all_certain so_far (c ∷ cs) h = all_certain (after so_far (tested s c.0)) cs (after_certain so_far (tested s c.0) h c.1)

  opened : (c : Cond) (y : Cond-F CondPair) → out-Cond c ≡ map-Cond CondPair Cond (λ (e : CondPair). e.0) y → Certain (tested s c)
  opened c (Cond-F.Or cs at) o =
      let us : Outcome (List Test) = all_from (Ok []) (map (tested s) (map (λ (e : CondPair). e.0) cs)) in
      subst (λ (t : Outcome Test). Certain t) (sym (tested_at c (Cond-F.Or (map (λ (e : CondPair). e.0) cs) at) o)) (then_certain us (λ ts. Ok (tests.Or ts)) (all_certain (Ok []) cs tt) (λ x. tt))
  opened c (Cond-F.And cs at) o =
      let us : Outcome (List Test) = all_from (Ok []) (map (tested s) (map (λ (e : CondPair). e.0) cs)) in
      subst (λ (t : Outcome Test). Certain t) (sym (tested_at c (Cond-F.And (map (λ (e : CondPair). e.0) cs) at) o)) (then_certain us (λ ts. Ok (tests.And ts)) (all_certain (Ok []) cs tt) (λ x. tt))
  opened c (Cond-F.Compare r x y at) o = subst (λ (t : Outcome Test). Certain t) (sym (tested_at c (Cond-F.Compare r x y at) o)) (compare_certain r (judged s x) (judged s y) (expr_sure s a x) (expr_sure s a y))

  rolled : (x : Cond-F Cond) → out-Cond (roll-Cond x) ≡ x
  rolled x = search conditions.the_lemmas

  tested_certain : (c : Cond) → Certain (tested s c)
  tested_certain = ind-Cond (λ c. Certain (tested s c)) (λ x y is. opened (roll-Cond x) y (rolled x ∙ sym is))

-- ---- in a procedure

assigned_certain : (s : Sight) (t : Outcome (Option Place × Mode)) (e : Expr) → SureTarget t → ((m : Mode) → Certain (value_in s e m)) → Certain (assigned_in s t e)
assigned_certain s (Ok p) e g v = by_place p.0 g (value_in s e p.1) (v p.1) where
  by_place : (o : Option Place) → Given o → (x : Outcome Value) → Certain x → Certain (x >>= assigning o)
  by_place None g x v = absurd g
  by_place (Some q) g (Ok y) v = tt
  by_place (Some q) g (Err h) v = v
assigned_certain s (Err g) e n v = real_left g (alone_in s e) n

label_by_certain : (at : At) (o : Option Meaning) → Certain (label_by at o)
label_by_certain at None = refl
label_by_certain at (Some (meaning.Label k)) = tt
label_by_certain at (Some (meaning.Svc k m)) = own (k == 0) where
  own : (b : Bool) → Certain {A = ℕ} (if b then Err (fault.LeftOut 2 at) else Err (fault.UnknownLabel at))
  own true = refl
  own false = refl
label_by_certain at (Some _) = refl

pub label_certain : (s : Sight) (n : Ident) → Certain (label_in s n)
label_certain s n = label_by_certain n.at (find s n.name)

given_back : (t : Outcome Value) → Certain t → Certain (return_of t)
given_back (Ok x) h = tt
given_back (Err g) h = h

module _ (s : Sight) (a : Knows s) where
  pub value_certain : (e : Expr) (m : Mode) → Certain (value_in s e m)
  value_certain e m = fits_certain (judged s e) (want m) (expr_sure s a e)

  pub assign_certain : (c : Chain) (e : Expr) → Certain (assignment_in s c e)
  assign_certain c e = assigned_certain s (target s c) e (target_sure s a c) (value_certain e)

  pub assign_val_certain : (at : At) (c : Chain) (e : Expr) → Certain (val_assignment_in s at c e)
  assign_val_certain at c e = assigned_certain s (val_target s at c) e (val_sure s a at (judged_chain s c) (whole_chain_sure s a c)) (value_certain e)

  pub call_in_certain : (c : Chain) → Certain (call_in s c)
  call_in_certain c =
      then_certain (alone s c) (λ x. Ok (stats.Call x)) (call_certain (out-Chain c).at (ends_in_apply (out-Chain c).links) (judged_chain s c) (whole_chain_sure s a c)) (λ x. tt)

  pub test_certain : (c : Cond) → Certain (test_in s c)
  test_certain c = tested_certain s a c

  pub returned_certain : (r : Answer) (res : Option Mode) → ResultIs r res → (e : Option Expr) (at : At) → Certain (returned r s e at)
  returned_certain answer.Nothing None q None at = tt
  returned_certain answer.Nothing None q (Some e) at = nowhere_certain (begins_at (out-Expr e)) (judged s e)
  returned_certain answer.Nothing (Some n) q e at = absurd q
  returned_certain (answer.Wanted m) None q e at = absurd q
  returned_certain (answer.Wanted m) (Some n) q None at = refl
  returned_certain (answer.Wanted m) (Some n) q (Some e) at = given_back (value_in s e m) (value_certain e m)
  returned_certain answer.Unknown None q e at = absurd q
  returned_certain answer.Unknown (Some n) q e at = absurd q

-- ---- where names and tree agree

field_item : (r k : ℕ) (name : List ℕ) (m : Mode) (o : Option RecordDef) → ((d : RecordDef) → o ≡ Some d → HasItems d) → field_in o name ≡ Some (k, m) → IsItem m
field_item r k name m None h e = absurd cc
field_item r k name m (Some d) h e = let g = field_found 0 d.fields name (k, m) e in item_of_all d.fields g.at m (h d refl) g.mode

-- what is an item has no LABEL
pub no_label : (m : Mode) → IsItem m → is_label (out-Mode m) ≡ false
no_label m h = by_layer (out-Mode m) refl where
  by_layer : (l : Mode-F Mode) → out-Mode m ≡ l → is_label l ≡ false
  by_layer Mode-F.Label o = absurd (let bad : false ≡ true = sym (ap (λ x. x.item) (stands_at m Mode-F.Label o)) ∙ h in cc)
  by_layer _ o = refl

pub sight_knows : (c : Tree) (s : Sight) → s.records ≡ c.records → ((r : ℕ) (d : RecordDef) → slice_get c.records r ≡ Some d → HasItems d) → AllKnown s → Knows s
sight_knows c s records fields known = record {
  names = λ n m e. found_each IsKnown n s.levels m known e;
  fields = λ r k n m e. no_label m (field_item r k n m (slice_get s.records r) (λ d q. fields r d (sym (ap (λ (rs : List RecordDef). slice_get rs r) records) ∙ q)) e);
}
