-- What fits by names is well typed by the tree.
use Rattle.std.specs.Prelude.{◌≡◌, true, Option, Some}
use Rattle.rt_grammar.specs.declared.at.At.{At}
use Rattle.rt_syntax_exprs.specs.declared.tree.Chain.{Chain}
use Rattle.rt_syntax_exprs.specs.declared.tree.Cond.{Cond}
use Rattle.rt_syntax_exprs.specs.declared.tree.Expr.{Expr}
use Rattle.rt_modes.specs.declared.mode.Mode.{Mode}
use Rattle.rt_tree_nodes.specs.declared.statement.Test.{Test}
use Rattle.rt_tree_nodes.specs.declared.value.Place.{Place}
use Rattle.rt_tree_nodes.specs.declared.value.Value.{Value}
use Rattle.rt_tree_nodes.specs.Scopes.{Scope, with}
use Rattle.rt_tree_nodes.specs.Typing.{suits, placed, valued, assigned_mode}
use Rattle.rt_exprs.specs.Sights.{Sight}
use Rattle.rt_exprs.specs.Fitting.{Fits, Assigns, AssignsVal, CallIs, TestIs}
use Rattle.rt_tree.specs.Statements.{tested}
use Rattle.rt_exprs_laws.specs.Agreeing.{Agree, IsValue}
use Rattle.rt_syntax_exprs.specs.Joins.{joins_two}

-- The value that fits where a mode is wanted suits the mode in the tree.
abbrev pub ValuesSuit : Type 0
ValuesSuit = (s : Sight) (c : Scope) (e : Expr) (m : Mode) (x : Value) → Agree s c → IsValue m → Fits s e m x → suits m (valued c x) ≡ true

-- A place p of mode m may be assigned in the tree.
abbrev pub MayBeAssigned : Scope → Place → Mode → Type 0
MayBeAssigned c p m = (with (placed c p).found assigned_mode ≡ Some m) × IsValue m

abbrev pub TargetsAreAssigned : Type 0
TargetsAreAssigned = (s : Sight) (c : Scope) (h : Chain) (p : Place) (m : Mode) → Agree s c → Assigns s h (p, m) → MayBeAssigned c p m

abbrev pub ValTargetsAreAssigned : Type 0
ValTargetsAreAssigned = (s : Sight) (c : Scope) (at : At) (h : Chain) (p : Place) (m : Mode) → Agree s c → AssignsVal s at h (p, m) → MayBeAssigned c p m

-- A call that stands alone is a call in the tree.
abbrev pub CallsAreCalls : Type 0
CallsAreCalls = (s : Sight) (c : Scope) (h : Chain) (x : Value) → Agree s c → CallIs s h x → (r : Option Mode) × ((valued c x).call ≡ Some r)

-- The test that a condition is fits in the tree.
abbrev pub TestsFit : Type 0
TestsFit = (s : Sight) (c : Scope) (d : Cond) (t : Test) → Agree s c → joins_two d ≡ true → TestIs s d t → (tested c t).fits ≡ true
