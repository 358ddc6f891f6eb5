-- What an expression, an assignment, a call, a condition, a label and a mode are, by what is seen there.
use Rattle.std.specs.Prelude.{ℕ, ◌==◌, if◌then◌else◌, Option, Some, None, Ok, Err}
use Rattle.rt_grammar.specs.declared.at.At.{At}
use Rattle.rt_grammar.specs.declared.at.Ident.{Ident}
use Rattle.rt_syntax_exprs.specs.declared.tree.Expr.{Expr}
use Rattle.rt_syntax_exprs.specs.declared.tree.Chain.{Chain}
use Rattle.rt_syntax_exprs.specs.declared.tree.Cond.{Cond}
use Rattle.rt_syntax_exprs.specs.declared.tree.WrittenMode.{WrittenMode}
use Rattle.rt_modes.specs.declared.mode.Mode.{Mode}
use Rattle.rt_tree_nodes.specs.declared.statement.Stat.{Stat}
use Rattle.rt_tree_nodes.specs.declared.statement.Stat.TheVariants as stats
use Rattle.rt_tree_nodes.specs.declared.statement.Test.{Test}
use Rattle.rt_tree_nodes.specs.declared.value.Place.{Place}
use Rattle.rt_tree_nodes.specs.declared.value.Value.{Value}
use Rattle.rt_check_faults.specs.declared.fault.CheckFault.{CheckFault}
use Rattle.rt_check_faults.specs.declared.fault.CheckFault.TheVariants as fault
use Rattle.rt_exprs.specs.declared.scope.Meaning.{Meaning}
use Rattle.rt_exprs.specs.declared.scope.Meaning.TheVariants as meaning
use Rattle.rt_exprs.specs.Sights.{Sight}
use Rattle.rt_exprs.specs.Modes.{want}
use Rattle.rt_check_faults.specs.Outcomes.{Outcome, ◌>>=◌, unknown, sooner}
use Rattle.rt_exprs.specs.Names.{find}
use Rattle.rt_exprs.specs.Judging.{fitted, fitted_alone, fitted_nowhere, target, val_target, alone, tested}
use Rattle.rt_check_declared.specs.declared.written.Resolved.{Resolved}
use Rattle.rt_check_declared.specs.declared.written.Resolved.TheVariants as resolved
use Rattle.rt_check_declared.specs.declared.site.Site.TheVariants as site
use Rattle.rt_check_declared.specs.Verdicts.{outcome}
use Rattle.rt_check_declared.specs.Written.{written}

-- ---- expressions and statements

-- the value of an expression where a mode is wanted
abbrev pub value_in : Sight → Expr → Mode → Outcome Value
value_in s e m = fitted s e (want m)

-- the fault of an expression that is judged by itself, and of one where nothing is wanted
abbrev pub alone_in : Sight → Expr → CheckFault
alone_in s e = fitted_alone s e

abbrev pub nowhere_in : Sight → Expr → CheckFault
nowhere_in s e = fitted_nowhere s e

-- to a place that is known, or that can't be
abbrev pub assigning : Option Place → Value → Outcome Stat
assigning None x = unknown
assigning (Some p) x = Ok (stats.Assign p x)

-- In an assignment the mode of the place is wanted of the expression. Where that can't be known it is judged by itself.
abbrev pub assigned_in : Sight → Outcome (Option Place × Mode) → Expr → Outcome Stat
assigned_in s (Ok p) e = value_in s e p.1 >>= assigning p.0
assigned_in s (Err g) e = Err (sooner g (alone_in s e))

abbrev pub assignment_in : Sight → Chain → Expr → Outcome Stat
assignment_in s c e = assigned_in s (target s c) e

abbrev pub val_assignment_in : Sight → At → Chain → Expr → Outcome Stat
val_assignment_in s at c e = assigned_in s (val_target s at c) e

-- a chain that stands alone
abbrev pub call_in : Sight → Chain → Outcome Stat
call_in s c = alone s c >>= λ x. Ok (stats.Call x)

abbrev pub test_in : Sight → Cond → Outcome Test
test_in s c = tested s c

-- A label of GOTO or SWITCH. ERL isn't named there either; of the two faults of its name 25 counts.
abbrev pub label_by : At → Option Meaning → Outcome ℕ
label_by at (Some (meaning.Label k)) = Ok k
label_by at (Some (meaning.Svc k m)) = if k == 0 then Err (fault.LeftOut 2 at) else Err (fault.UnknownLabel at)
label_by at _ = Err (fault.UnknownLabel at)

abbrev pub label_in : Sight → Ident → Outcome ℕ
label_in s n = label_by n.at (find s n.name)

-- ---- modes of parameters, locals and results

-- An array is none.
abbrev pub variable_by : At → Resolved → Outcome Mode
variable_by at (resolved.Mode m) = Ok m
variable_by at resolved.BadLength = Err (fault.LeftOut 3 at)

-- the mode that is written at an item
abbrev pub mode_in : Sight → At → WrittenMode → Outcome Mode
mode_in s at w = outcome (written (find s) w site.Variable) >>= variable_by at
