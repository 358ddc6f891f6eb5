-- What is assigned may be assigned, and what stands alone is a call.
use Rattle.std.proofs.Common.{◌≡◌, Bool, true, false, Option, Some, None, Ok, Err, inl, inr, refl, ap, ◌∙◌, subst, if◌then◌else◌}
use Rattle.rt_grammar.specs.declared.at.At.{At}
use Rattle.rt_syntax_exprs.specs.declared.tree.Chain.{Chain}
use Rattle.rt_modes.specs.declared.mode.Mode.{Mode, out-Mode}
use Rattle.rt_tree_nodes.specs.declared.value.Place.{Place}
use Rattle.rt_tree_nodes.specs.declared.value.Value.{Value}
use Rattle.rt_tree_nodes.specs.Scopes.{Scope}
use Rattle.rt_tree_nodes.specs.Typing.{Found, Variable, Shared, Private, placed, valued, assigned_mode, value_mode}
use Rattle.rt_check_faults.specs.declared.fault.CheckFault.TheVariants as fault
use Rattle.rt_exprs.specs.declared.operand.Standing.{Standing}
use Rattle.rt_exprs.specs.declared.operand.Standing.TheVariants as standing
use Rattle.rt_exprs.specs.Sights.{Sight}
use Rattle.rt_exprs.specs.Operands.{Is, place, result, done}
use Rattle.rt_check_faults.specs.Outcomes.{Outcome}
use Rattle.rt_exprs.specs.Fitting as f
use Rattle.rt_exprs.specs.Fitting.{Assigns, AssignsVal, CallIs}
use Rattle.rt_exprs.specs.Judging.{place_if, assigned_is, called_is, is_whole}
use Rattle.rt_exprs_laws.specs.Agreeing.{Agree, IsValue}
use Rattle.rt_exprs_laws.specs.Laws.{MayBeAssigned}
use Rattle.rt_exprs_laws.proofs.Standing.{part_is_value, is_read}
use Rattle.rt_exprs_laws.proofs.Suiting.{PlaceIs, IsTyped}
use Rattle.rt_exprs_laws.proofs.Links.{TargetTyped, target_typed, place_item}
use Rattle.rt_exprs_laws.proofs.Fitted.{chain_typed}

module _ (s : Sight) (c : Scope) (agree : Agree s c) where
  found_assigned : (p : Place) (m : Mode) (g : Found) → (placed c p).found ≡ Some g → assigned_mode g ≡ value_mode m → IsValue m → MayBeAssigned c p m
  found_assigned p m g e a v = (rw e (a ∙ rw (is_read m v) refl), v)

  place_assigned : (p : Place) (m : Mode) (st : Standing) → PlaceIs c p m st → IsValue m → MayBeAssigned c p m
  place_assigned p m standing.Shared h v = found_assigned p m (Shared m) h.0 refl v
  place_assigned p m standing.Private h v = elim h [
    | inl x ↦ found_assigned p m (Private m) x.0 refl v
    | inr y ↦ found_assigned p m (Variable m) y.0 refl v
  ]

  abbrev place_in : Outcome (Option Place × Mode) → Option Place
  place_in (Ok x) = x.0
  place_in (Err g) = None

  abbrev mode_in : Mode → Outcome (Option Place × Mode) → Mode
  mode_in m (Ok x) = x.1
  mode_in m (Err g) = m

  same_place : (p q : Place) → Some p ≡ Some q → p ≡ q
  same_place p q e = cc

  whole_split : (at : At) (p q : Place) (m n : Mode) (st : Standing) (b : Bool) → is_whole (out-Mode m) ≡ b → PlaceIs c p m st → if◌then◌else◌ {A = Outcome (Option Place × Mode)} b (Err (fault.NotAssignable at)) (Ok (place_if true p, m)) ≡ Ok (Some q, n) → MayBeAssigned c q n
  whole_split at p q m n st true w h e = absurd cc
  whole_split at p q m n st false w h e =
      subst (λ (y : Place). MayBeAssigned c y n) (same_place p q (ap (λ (o : Outcome (Option Place × Mode)). place_in o) e))
      (subst (λ (z : Mode). MayBeAssigned c p z) (ap (λ (o : Outcome (Option Place × Mode)). mode_in m o) e) (place_assigned p m st h (part_is_value m (place_item c p m st h) w)))

  assigned_typed : (at : At) (is : Is) (q : Place) (n : Mode) → IsTyped c is → assigned_is at true is ≡ Ok (Some q, n) → MayBeAssigned c q n
  assigned_typed at (place p m st) q n h e = whole_split at p q m n st (is_whole (out-Mode m)) refl h e
  assigned_typed at _ q n h e = absurd cc

  pub target_assigned : {h : Chain} {x : Place × Mode} → Assigns s h x → MayBeAssigned c x.0 x.1
  target_assigned (f.assigns {f = g} {p = p} {m = m} b h e) = assigned_typed g.at g.is p m (chain_typed s c agree h) e

  pub val_assigned : {at : At} {h : Chain} {x : Place × Mode} → AssignsVal s at h x → MayBeAssigned c x.0 x.1
  val_assigned {at = at} (f.assigns_val {f = g} {p = p} {q = q} {m = m} {n = n} h t e) =
      assigned_typed at (place p m standing.Shared) q n (subst (TargetTyped c) t (target_typed c g.is (chain_typed s c agree h))) e

  abbrev IsCall : Value → Type 0
  IsCall x = (r : Option Mode) × ((valued c x).call ≡ Some r)

  same_value : (a b : Value) (o : Outcome Value) → o ≡ Ok a → o ≡ Ok b → a ≡ b
  same_value a b o e h = cc

  call_typed : (at : At) (is : Is) (x : Value) → IsTyped c is → called_is at is ≡ Ok x → IsCall x
  call_typed at (result v m) x h e = subst IsCall (same_value v x _ refl e) (Some m, h.1)
  call_typed at (done v) x h e = subst IsCall (same_value v x _ refl e) (None, h)
  call_typed at _ x h e = absurd cc

  pub call_stands : {h : Chain} {x : Value} → CallIs s h x → IsCall x
  call_stands (f.call_is {f = g} {x = x} h e) = call_typed g.at g.is x (chain_typed s c agree h) e
