-- What the checker makes of expressions names only locals that have a value, and only numbers that are words.
use Rattle.std.specs.Prelude.{◌≡◌, true, length}
use Rattle.std.specs.List.{list_all}
use Rattle.rt_grammar.specs.declared.at.At.{At}
use Rattle.rt_syntax_exprs.specs.declared.tree.Chain.{Chain}
use Rattle.rt_syntax_exprs.specs.declared.tree.Cond.{Cond}
use Rattle.rt_syntax_exprs.specs.declared.tree.Expr.{Expr}
use Rattle.rt_modes.specs.declared.mode.Mode.{Mode}
use Rattle.rt_tree_nodes.specs.declared.statement.Test.{Test}
use Rattle.rt_tree_nodes.specs.declared.value.Place.{Place}
use Rattle.rt_tree_nodes.specs.declared.value.Value.{Value}
use Rattle.rt_tree_nodes.specs.Scopes.{Scope}
use Rattle.rt_tree_nodes.specs.Typing.{placed, valued}
use Rattle.rt_exprs.specs.Sights.{Sight}
use Rattle.rt_exprs.specs.Fitting.{Fits, Assigns, AssignsVal, CallIs, TestIs}
use Rattle.rt_tree.specs.Modules.{local_stands}
use Rattle.rt_tree.specs.Statements.{tested}
use Rattle.rt_exprs_laws.specs.Agreeing.{Agree}
use Rattle.rt_bricks_laws.specs.Numbers.{words_in_expr, words_in_chain, words_in_cond}
use Rattle.rt_check_bodies_laws.specs.Modes.{ModesStand}
use Rattle.rt_meaning_laws.specs.Trees.{Started}
use Rattle.rt_meaning_laws.specs.Named.{any_name, TermNamed, CondNamed}
use Rattle.rt_meaning_sound.specs.Seen.{LocalsSeen, SpotNamed}
use Rattle.rt_meaning_sound.specs.Short.{AllShort}

-- the value that fits an expression where a mode is wanted
abbrev pub ValuesAreSeen : Type 0
ValuesAreSeen = (s : Sight) (c : Scope) (k : Started) (e : Expr) (m : Mode) (x : Value) → AllShort c → LocalsSeen s k → words_in_expr e ≡ true → Fits s e m x
    → TermNamed any_name k (valued c x).tree

-- the place that a chain assigns, and the one that VAL and a chain assign
abbrev pub TargetsAreSeen : Type 0
TargetsAreSeen = (s : Sight) (c : Scope) (k : Started) (h : Chain) (p : Place) (m : Mode) → Agree s c → AllShort c → LocalsSeen s k → words_in_chain h ≡ true → Assigns s h (p, m)
    → SpotNamed k (placed c p).tree

abbrev pub ValTargetsAreSeen : Type 0
ValTargetsAreSeen = (s : Sight) (c : Scope) (k : Started) (at : At) (h : Chain) (p : Place) (m : Mode) → Agree s c → AllShort c → LocalsSeen s k → words_in_chain h ≡ true
    → AssignsVal s at h (p, m) → SpotNamed k (placed c p).tree

-- a call that stands alone
abbrev pub CallsAreSeen : Type 0
CallsAreSeen = (s : Sight) (c : Scope) (k : Started) (h : Chain) (x : Value) → AllShort c → LocalsSeen s k → words_in_chain h ≡ true → CallIs s h x
    → TermNamed any_name k (valued c x).tree

-- the test that a condition is
abbrev pub TestsAreSeen : Type 0
TestsAreSeen = (s : Sight) (c : Scope) (k : Started) (d : Cond) (t : Test) → AllShort c → LocalsSeen s k → words_in_cond d ≡ true → TestIs s d t
    → CondNamed any_name k (tested c t).tree

-- The lengths in the modes of a scope are words, where its modes may stand, those of its parameters and locals among them.
abbrev pub ModesAreShort : Type 0
ModesAreShort = (c : Scope) → ModesStand c → list_all (local_stands (length c.records)) c.locals ≡ true → AllShort c
