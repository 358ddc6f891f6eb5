-- What is judged fit where names and tree agree stays within its items.
use Rattle.std.proofs.Common.{◌≡◌, ◌+◌, true, Some, Ok, refl}
use Rattle.rt_grammar.specs.declared.at.At.{At}
use Rattle.rt_syntax_exprs.specs.declared.tree.Chain.{Chain}
use Rattle.rt_syntax_exprs.specs.declared.tree.Cond.{Cond}
use Rattle.rt_syntax_exprs.specs.declared.tree.Expr.{Expr}
use Rattle.rt_bricks_laws.specs.Counts.{in_expr, in_chain, in_cond}
use Rattle.rt_modes.specs.declared.mode.Mode.{Mode}
use Rattle.rt_tree_nodes.specs.declared.statement.Test.{Test}
use Rattle.rt_tree_nodes.specs.declared.value.Place.{Place}
use Rattle.rt_tree_nodes.specs.declared.value.Value.{Value}
use Rattle.rt_tree_nodes.specs.Scopes.{Scope}
use Rattle.rt_tree_nodes.specs.Typing.{placed, valued}
use Rattle.rt_exprs.specs.Modes.{want}
use Rattle.rt_exprs.specs.Judging.{target, val_target, alone}
use Rattle.rt_exprs.proofs.Judged.{fit_holds}
use Rattle.rt_exprs.proofs.Others.{target_holds, val_holds, call_holds, test_holds}
use Rattle.rt_tree.specs.Statements.{Sight as Seen, tested}
use Rattle.rt_syntax_exprs.specs.Joins.{joins_two}
use Rattle.rt_exprs.specs.Sights.{Sight}
use Rattle.rt_check_bodies.specs.Sights.{value_in, test_in}
use Rattle.rt_check_bodies_laws.specs.Held.{Holds}
use Rattle.rt_check_bodies_laws.proofs.Holding.{agrees}
use Rattle.rt_check_bodies_laws.proofs.Conditions.{assigns_within, assigns_val_within, call_is_within, test_within}
use Rattle.rt_check_bodies_laws.proofs.FittingWeights.{fits_within}
use Rattle.rt_check_bodies_laws.specs.Parts.{ValueWithin, CallWithin, SpotWithin, ConditionWithin}
use Rattle.rt_check_bodies_laws.specs.Refs.{AllFew}

module _ (c : Scope) (few : AllFew c) (s : Sight) (seen : Seen) (k : Holds c s seen) where
  pub value_judged : (e : Expr) (m : Mode) (x : Value) → value_in s e m ≡ Ok x → ValueWithin (in_expr e) (valued c x).tree
  value_judged e m x h =
      fits_within c s (agrees c s seen k) few (fit_holds s e (want m) x h) m refl

  pub target_judged : (h : Chain) (x : Place × Mode) → target s h ≡ Ok (Some x.0, x.1) → SpotWithin (in_chain h) (placed c x.0).tree
  target_judged h x e = assigns_within c s (agrees c s seen k) few (target_holds s h (Some x.0, x.1) e)

  pub val_judged : (at : At) (h : Chain) (x : Place × Mode) → val_target s at h ≡ Ok (Some x.0, x.1) → SpotWithin (1 + in_chain h) (placed c x.0).tree
  val_judged at h x e = assigns_val_within c s (agrees c s seen k) few (val_holds s at h (Some x.0, x.1) e)

  pub call_judged : (h : Chain) (x : Value) → alone s h ≡ Ok x → CallWithin (in_chain h) (valued c x).tree
  call_judged h x e = call_is_within c s (agrees c s seen k) few (call_holds s h x e)

  pub test_judged : (d : Cond) (t : Test) → joins_two d ≡ true → test_in s d ≡ Ok t → ConditionWithin (in_cond d) (tested c t).tree
  test_judged d t j e = test_within c s (agrees c s seen k) few (test_holds s d t e) j
