-- What the checker makes of expressions stays within their items: for each item 12 words of code and a word of the stack.
use Rattle.std.specs.Prelude.{◌≡◌, ◌+◌, true}
use Rattle.rt_grammar.specs.declared.at.At.{At}
use Rattle.rt_syntax_exprs.specs.declared.tree.Chain.{Chain}
use Rattle.rt_syntax_exprs.specs.declared.tree.Cond.{Cond}
use Rattle.rt_syntax_exprs.specs.declared.tree.Expr.{Expr}
use Rattle.rt_bricks_laws.specs.Counts.{in_expr, in_chain, in_cond}
use Rattle.rt_modes.specs.declared.mode.Mode.{Mode}
use Rattle.rt_tree_nodes.specs.declared.statement.Test.{Test}
use Rattle.rt_tree_nodes.specs.declared.value.Place.{Place}
use Rattle.rt_tree_nodes.specs.declared.value.Value.{Value}
use Rattle.rt_tree_nodes.specs.Scopes.{Scope}
use Rattle.rt_tree_nodes.specs.Typing.{placed, valued}
use Rattle.rt_exprs.specs.Sights.{Sight}
use Rattle.rt_exprs.specs.Fitting.{Fits, Assigns, AssignsVal, CallIs, TestIs}
use Rattle.rt_tree.specs.Statements.{tested}
use Rattle.rt_exprs_laws.specs.Agreeing.{Agree}
use Rattle.rt_syntax_exprs.specs.Joins.{joins_two}
use Rattle.rt_check_bodies_laws.specs.Parts.{ValueWithin, CallWithin, SpotWithin, ConditionWithin}
use Rattle.rt_check_bodies_laws.specs.Refs.{AllFew}

-- the value that fits an expression where a mode is wanted
abbrev pub ValuesStayWithin : Type 0
ValuesStayWithin = (s : Sight) (c : Scope) (e : Expr) (m : Mode) (x : Value) → Agree s c → AllFew c → Fits s e m x → ValueWithin (in_expr e) (valued c x).tree

-- the place that a chain assigns, and the one that VAL and a chain assign
abbrev pub TargetsStayWithin : Type 0
TargetsStayWithin = (s : Sight) (c : Scope) (h : Chain) (p : Place) (m : Mode) → Agree s c → AllFew c → Assigns s h (p, m) → SpotWithin (in_chain h) (placed c p).tree

abbrev pub ValTargetsStayWithin : Type 0
ValTargetsStayWithin = (s : Sight) (c : Scope) (at : At) (h : Chain) (p : Place) (m : Mode) → Agree s c → AllFew c → AssignsVal s at h (p, m) → SpotWithin (1 + in_chain h) (placed c p).tree

-- a call that stands alone
abbrev pub CallsStayWithin : Type 0
CallsStayWithin = (s : Sight) (c : Scope) (h : Chain) (x : Value) → Agree s c → AllFew c → CallIs s h x → CallWithin (in_chain h) (valued c x).tree

-- the test that a condition is, where AND and OR join two or more
abbrev pub TestsStayWithin : Type 0
TestsStayWithin = (s : Sight) (c : Scope) (d : Cond) (t : Test) → Agree s c → AllFew c → joins_two d ≡ true → TestIs s d t → ConditionWithin (in_cond d) (tested c t).tree
