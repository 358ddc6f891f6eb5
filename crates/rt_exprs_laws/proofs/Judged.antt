-- What is judged fit is well typed.
use Rattle.std.proofs.Common.{◌≡◌, true, Option, Some, Ok, refl}
use Rattle.rt_grammar.specs.declared.at.At.{At}
use Rattle.rt_syntax_exprs.specs.declared.tree.Chain.{Chain}
use Rattle.rt_syntax_exprs.specs.declared.tree.Cond.{Cond}
use Rattle.rt_syntax_exprs.specs.declared.tree.Expr.{Expr}
use Rattle.rt_modes.specs.declared.mode.Mode.{Mode}
use Rattle.rt_modes.specs.declared.mode.Mode.TheVariants as mode
use Rattle.rt_tree_nodes.specs.declared.statement.Test.{Test}
use Rattle.rt_tree_nodes.specs.declared.value.Place.{Place}
use Rattle.rt_tree_nodes.specs.declared.value.Value.{Value}
use Rattle.rt_tree_nodes.specs.Scopes.{Scope, passes}
use Rattle.rt_tree_nodes.specs.Typing.{suits, valued, is_int}
use Rattle.rt_tree_nodes.proofs.Same.{same_itself}
use Rattle.rt_exprs.specs.declared.operand.Base.TheVariants as base
use Rattle.rt_exprs.specs.Sights.{Sight}
use Rattle.rt_exprs.specs.Modes.{want}
use Rattle.rt_exprs.specs.Judging.{fitted, target, val_target, alone, tested as tested_by}
use Rattle.rt_exprs.proofs.Judged.{fit_holds}
use Rattle.rt_exprs.proofs.Others.{target_holds, val_holds, call_holds, test_holds}
use Rattle.rt_tree.specs.Statements.{tested}
use Rattle.rt_exprs_laws.specs.Agreeing.{Agree, IsValue}
use Rattle.rt_exprs_laws.specs.Laws.{MayBeAssigned}
use Rattle.rt_syntax_exprs.specs.Joins.{joins_two}
use Rattle.rt_exprs_laws.proofs.Suiting.{suits_mode}
use Rattle.rt_exprs_laws.proofs.Operators.{int_no_byte}
use Rattle.rt_exprs_laws.proofs.Fitted.{fits_suit, base_stands}
use Rattle.rt_exprs_laws.proofs.Targets.{target_assigned, val_assigned, call_stands}
use Rattle.rt_exprs_laws.proofs.Tests.{test_fits}

module _ (s : Sight) (c : Scope) (agree : Agree s c) where
  pub value_judged : (e : Expr) (m : Mode) (x : Value) → IsValue m → fitted s e (want m) ≡ Ok x → suits m (valued c x) ≡ true
  value_judged e m x v h = fits_suit s c agree (fit_holds s e (want m) x h) m refl v

  pub target_judged : (h : Chain) (x : Place × Mode) → target s h ≡ Ok (Some x.0, x.1) → MayBeAssigned c x.0 x.1
  target_judged h x e = target_assigned s c agree (target_holds s h (Some x.0, x.1) e)

  pub val_judged : (at : At) (h : Chain) (x : Place × Mode) → val_target s at h ≡ Ok (Some x.0, x.1) → MayBeAssigned c x.0 x.1
  val_judged at h x e = val_assigned s c agree (val_holds s at h (Some x.0, x.1) e)

  pub call_judged : (h : Chain) (x : Value) → alone s h ≡ Ok x → (r : Option Mode) × ((valued c x).call ≡ Some r)
  call_judged h x e = call_stands s c agree (call_holds s h x e)

  pub test_judged : (d : Cond) (t : Test) → joins_two d ≡ true → tested_by s d ≡ Ok t → (tested c t).fits ≡ true
  test_judged d t j e = test_fits s c agree (test_holds s d t e) j

  -- where INT is wanted the value is one
  pub int_judged : (e : Expr) (x : Value) → fitted s e (want mode.Int) ≡ Ok x → passes is_int (valued c x).mode ≡ true
  int_judged e x h =
      let i : (valued c x).mode ≡ Some mode.Int = suits_mode mode.Int (valued c x).mode _ int_no_byte (value_judged e mode.Int x (base_stands base.Int) h) in
      rw i (same_itself mode.Int)
