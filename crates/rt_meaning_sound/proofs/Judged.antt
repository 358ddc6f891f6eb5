-- What is judged fit names only locals that have a value, where the names that are seen do.
use Rattle.std.proofs.Common.{◌≡◌, ◌<◌, true, length, Some, Ok}
use Rattle.std.specs.List.{list_all}
use Rattle.rt_grammar.specs.declared.at.At.{At}
use Rattle.rt_syntax_exprs.specs.declared.tree.Chain.{Chain}
use Rattle.rt_syntax_exprs.specs.declared.tree.Cond.{Cond}
use Rattle.rt_syntax_exprs.specs.declared.tree.Expr.{Expr}
use Rattle.rt_modes.specs.declared.mode.Mode.{Mode}
use Rattle.rt_tree_nodes.specs.declared.statement.Test.{Test}
use Rattle.rt_tree_nodes.specs.declared.value.Place.{Place}
use Rattle.rt_tree_nodes.specs.declared.value.Value.{Value}
use Rattle.rt_tree_nodes.specs.Scopes.{Scope}
use Rattle.rt_tree_nodes.specs.Typing.{placed, valued}
use Rattle.rt_exprs.specs.Modes.{want}
use Rattle.rt_exprs.specs.Judging.{target, val_target, alone}
use Rattle.rt_exprs.proofs.Judged.{fit_holds}
use Rattle.rt_exprs.proofs.Others.{target_holds, val_holds, call_holds, test_holds}
use Rattle.rt_tree.specs.Modules.{local_stands}
use Rattle.rt_tree.specs.Statements.{tested}
use Rattle.rt_exprs.specs.Sights.{Sight}
use Rattle.rt_check_bodies.specs.Sights.{value_in, test_in}
use Rattle.rt_bricks_laws.specs.Numbers.{words_in_expr, words_in_chain, words_in_cond}
use Rattle.rt_meaning_laws.specs.Trees.{Started}
use Rattle.rt_meaning_laws.specs.Named.{any_name, TermNamed, CondNamed}
use Rattle.rt_meaning_sound.specs.Seen.{SpotNamed}
use Rattle.rt_meaning_sound.specs.Short.{AllShort}
use Rattle.rt_meaning_sound.proofs.Conditions.{targets_named, val_targets_named, test_named}
use Rattle.rt_meaning_sound.proofs.Fitting.{fits_seen, alone_seen}
use Rattle.rt_meaning_sound.proofs.Seen.{Sees, agrees, locals_seen}
use Rattle.rt_meaning_sound.proofs.Sets.{Sets}

-- The scope of a procedure: its locals have numbers of 16 bits, their modes may stand, and the lengths in all modes are words.
pub record Around (c : Scope) : Type 0 where
  pub small : length c.locals < 65536
  pub standing : list_all (local_stands (length c.records)) c.locals ≡ true
  pub short : AllShort c

module _ (c : Scope) (a : Around c) (at : Sets) (v : Started) (s : Sight) (k : Sees at c v s) where
  pub value_judged : (e : Expr) (m : Mode) (x : Value) → words_in_expr e ≡ true → value_in s e m ≡ Ok x → TermNamed any_name v (valued c x).tree
  value_judged e m x w h =
      (fits_seen s c v a.short (locals_seen at c v s k) (fit_holds s e (want m) x h) w).tree

  pub target_judged : (h : Chain) (x : Place × Mode) → words_in_chain h ≡ true → target s h ≡ Ok (Some x.0, x.1) → SpotNamed v (placed c x.0).tree
  target_judged h x w e = targets_named s c v a.short (locals_seen at c v s k) (agrees at c v s k) (target_holds s h (Some x.0, x.1) e) w

  pub val_judged : (place : At) (h : Chain) (x : Place × Mode) → words_in_chain h ≡ true → val_target s place h ≡ Ok (Some x.0, x.1) → SpotNamed v (placed c x.0).tree
  val_judged place h x w e = val_targets_named s c v a.short (locals_seen at c v s k) (agrees at c v s k) (val_holds s place h (Some x.0, x.1) e) w

  pub call_judged : (h : Chain) (x : Value) → words_in_chain h ≡ true → alone s h ≡ Ok x → TermNamed any_name v (valued c x).tree
  call_judged h x w e = (alone_seen s c v a.short (locals_seen at c v s k) (call_holds s h x e) w).tree

  pub test_judged : (d : Cond) (t : Test) → words_in_cond d ≡ true → test_in s d ≡ Ok t → CondNamed any_name v (tested c t).tree
  test_judged d t w e = test_named s c v a.short (locals_seen at c v s k) (test_holds s d t e) w
