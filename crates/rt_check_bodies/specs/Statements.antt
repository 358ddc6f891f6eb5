-- What a body is as a tree, and the faults that stand in it. Each part is judged by what it sees and by what has been counted
-- before it. Where a part is unfit its fault is noted, and something else of its form stands in its place, as where it can't
-- be known.
use Rattle.std.specs.Prelude.{◌≡◌, ℕ, not, List, [], ◌∷◌, ◌++◌, map, Option, Some, None, Ok, Err}
use Rattle.rt_grammar.specs.declared.at.At.{At}
use Rattle.rt_grammar.specs.declared.at.Ident.{Ident}
use Rattle.rt_syntax_exprs.specs.declared.tree.Expr.{Expr}
use Rattle.rt_modes.specs.declared.mode.Mode.{Mode, out-Mode}
use Rattle.rt_modes.specs.declared.mode.Mode.TheVariants as mode
use Rattle.rt_syntax.specs.declared.tree.Body.{Body}
use Rattle.rt_syntax.specs.declared.tree.Branch.{Branch}
use Rattle.rt_syntax.specs.declared.tree.Control.{Control}
use Rattle.rt_syntax.specs.declared.tree.Local.{Local}
use Rattle.rt_syntax.specs.declared.tree.Locals.{Locals}
use Rattle.rt_syntax.specs.declared.tree.Simple.{Simple}
use Rattle.rt_syntax.specs.declared.tree.Simple.TheFolds.{fold-Simple, fold-Body, fold-Branch, fold-Stmt}
use Rattle.rt_syntax.specs.declared.tree.Simple.TheOpen.{Simple-F, Body-F, Branch-F, Stmt-F}
use Rattle.rt_syntax.specs.declared.tree.Stmt.{Stmt, out-Stmt}
use Rattle.rt_tree_nodes.specs.declared.brick.Local.TheVariants as made
use Rattle.rt_tree_nodes.specs.declared.statement.Body.{Body as BodyMade, roll-Body}
use Rattle.rt_tree_nodes.specs.declared.statement.Branch.{Branch as BranchMade, roll-Branch}
use Rattle.rt_tree_nodes.specs.declared.statement.Labelled.{Labelled, roll-Labelled}
use Rattle.rt_tree_nodes.specs.declared.statement.LocalStart.{LocalStart}
use Rattle.rt_tree_nodes.specs.declared.statement.Stat.{Stat}
use Rattle.rt_tree_nodes.specs.declared.statement.Stat.TheVariants as stats
use Rattle.rt_tree_nodes.specs.declared.value.Value.{Value}
use Rattle.rt_tree.specs.Statements.{starts_at_zero}
use Rattle.rt_check_faults.specs.declared.fault.CheckFault.TheVariants as fault
use Rattle.rt_exprs.specs.declared.scope.Meaning.{Meaning}
use Rattle.rt_exprs.specs.declared.scope.Meaning.TheVariants as meaning
use Rattle.rt_check_faults.specs.Outcomes.{Outcome}
use Rattle.rt_check_bodies.specs.Parts.{Part, it_is, ◌>>=◌, number_next, value_or, stat_or, return_or, noted_known, test_or, label_or, mode_or, three_locals, noted_if, noted_twice, with_local, labels_more, numbers_from, labels_in}
use Rattle.rt_check_bodies.specs.declared.answer.Answer.{Answer}
use Rattle.rt_check_bodies.specs.declared.plain.Bounds.{Bounds}
use Rattle.rt_check_bodies.specs.declared.answer.Answer.TheVariants as answer
use Rattle.rt_check_bodies.specs.declared.tally.Tally.{Tally}
use Rattle.rt_exprs.specs.Sights.{Names, Sight, declared, within, innermost, with_name}
use Rattle.rt_check_bodies.specs.Sights.{value_in, alone_in, nowhere_in, assignment_in, val_assignment_in, call_in, test_in, label_in, mode_in}

-- an expression of which INT is wanted
abbrev pub int_in : Sight → Expr → Part Value
int_in s e = value_or (value_in s e mode.Int)

abbrev pub any_int_in : Sight → Option Expr → Part (Option Value)
any_int_in s None = it_is None
any_int_in s (Some e) = do x ← int_in s e; it_is (Some x)

abbrev pub return_of : Outcome Value → Outcome Stat
return_of (Ok x) = Ok (stats.Return (Some x))
return_of (Err g) = Err g

-- RETURN. Where there is no result nothing is wanted of a value, so that none fits; where its mode can't be known a value is judged by
-- itself.
abbrev pub returned : Answer → Sight → Option Expr → At → Outcome Stat
returned answer.Nothing s None at = Ok (stats.Return None)
returned answer.Nothing s (Some e) at = Err (nowhere_in s e)
returned (answer.Wanted m) s None at = Err (fault.NoResult at)
returned (answer.Wanted m) s (Some e) at = return_of (value_in s e m)
returned answer.Unknown s None at = Ok (stats.Return None)
returned answer.Unknown s (Some e) at = Err (alone_in s e)

abbrev pub goto : Sight → Ident → Part Stat
goto s n = do l ← label_or (label_in s n); it_is (stats.Goto l)

abbrev pub switch : Sight → Expr → List Ident → Part Stat
switch s e ns = do x ← int_in s e; ls ← labels_in s [] ns; it_is (stats.Switch x ls)

-- ---- labels

-- A statement with its labels.
pub record Line : Type 0 where
  pub labels : List Ident
  pub part : Sight → Part (Option Stat)

-- the labels of a sequence
abbrev pub labels_of : Names → List (List Ident) → Part Names
labels_of l [] = it_is l
labels_of l (ns ∷ nss) = do more ← labels_more l ns; labels_of more nss

abbrev pub labels_at : Line → List Ident
labels_at x = x.labels

-- the labels of a statement
abbrev pub own_labels : Stmt → List Ident
own_labels x = (out-Stmt x).labels

-- ---- sequences

-- the statements of a sequence, and what has been counted behind them
abbrev pub Lines : Type 0
Lines = List Labelled × Tally

abbrev pub labelled : List ℕ → Option Stat → Labelled
labelled ls x = roll-Labelled (record { labels = ls; stat = x })

-- the statements of a sequence, of which the next label has a number
abbrev pub in_order : Sight → ℕ → List Labelled → List Line → Part (List Labelled)
in_order s k done [] = it_is done
in_order s k done (x ∷ xs) = do
  stat ← x.part s
  in_order s (numbers_from [] k x.labels).1 (done ++ labelled (numbers_from [] k x.labels).0 stat ∷ []) xs

-- A sequence: its labels are seen in all of it.
abbrev pub sequence : Sight → List Line → Part (List Labelled)
sequence s xs t = (do
  names ← labels_of [] (map labels_at xs)
  in_order (within names s) t.labels [] xs) t

abbrev pub any_sequence : Sight → Option (List Line) → Part (Option (List Labelled))
any_sequence s None = it_is None
any_sequence s (Some xs) = do ys ← sequence s xs; it_is (Some ys)

-- ---- locals

-- What a body has declared: what is seen behind it, and the locals with their starts.
pub record Declared : Type 0 where
  pub sight : Sight
  pub starts : List LocalStart

-- A start, of which the local's mode is wanted. REF and PROC need one.
abbrev pub start_in : Sight → Ident → Mode → Option Expr → Part (Option Value)
start_in s n m None t = (None, noted_if (not (starts_at_zero (out-Mode m))) (fault.BadStart n.at) t)
start_in s n m (Some e) t = (do x ← value_or (value_in s e m); it_is (Some x)) t

-- one name more in the innermost level
abbrev pub with_ident : Ident → Meaning → Sight → Sight
with_ident n m s = with_name n.name m s

abbrev pub noted_in : Sight → Ident → Tally → Tally
noted_in s n t = noted_twice (innermost s.levels) n t

abbrev pub declared_by : Sight → List LocalStart → Declared
declared_by s xs = record { sight = s; starts = xs }

-- a local whose mode can't be known: its start is judged by itself
abbrev pub start_alone : Sight → Option Expr → Tally → Tally
start_alone s None t = t
start_alone s (Some e) t = noted_known (alone_in s e) t

abbrev pub local_unknown : Declared → Local → Part Declared
local_unknown d n t = (declared_by (with_ident n.name meaning.Unknown d.sight) d.starts, noted_in d.sight n.name (start_alone d.sight n.start t))

-- a local of a mode and its start, by its number
abbrev pub placed : ℕ → Mode → Option Value → Declared → Local → Part Declared
placed k m x d n t = (declared_by (with_ident n.name (meaning.Local k m) d.sight) (d.starts ++ record { local = k; start = x } ∷ []), with_local (made.Variable m) (noted_in d.sight n.name t))

abbrev pub local_fit : Mode → Declared → Local → Part Declared
local_fit m d n = do
  x ← start_in d.sight n.name m n.start
  k ← number_next
  placed k m x d n

-- One local. It isn't seen in its own start.
abbrev pub local_more : Outcome Mode → Declared → Local → Part Declared
local_more (Err g) d n = local_unknown d n
local_more (Ok m) d n = local_fit m d n

abbrev pub locals_more : Outcome Mode → Declared → List Local → Part Declared
locals_more m d [] = it_is d
locals_more m d (n ∷ ns) = do more ← local_more m d n; locals_more m more ns

-- the locals that are declared with one mode
abbrev pub line_more : Declared → Locals → Part Declared
line_more d l = do m ← mode_or (mode_in d.sight l.at l.mode); locals_more m d l.names

-- the declarations of a body, each seen behind it
abbrev pub declarations : Declared → List Locals → Part Declared
declarations d [] = it_is d
declarations d (l ∷ ls) = do more ← line_more d l; declarations more ls

-- what is seen, the starts so far and a tally are what declarations give
abbrev pub Behind : Sight → List LocalStart → Tally → Declared × Tally → Type 0
Behind s xs t given = (s ≡ given.0.sight) × (xs ≡ given.0.starts) × (t ≡ given.1)

-- nothing is declared yet
abbrev pub before : Sight → Declared
before s = declared_by s []

-- ---- statements

abbrev pub JudgedStat : Type 0
JudgedStat = Sight → Part Stat

abbrev pub JudgedBody : Type 0
JudgedBody = Sight → Part BodyMade

abbrev pub JudgedBranch : Type 0
JudgedBranch = Sight → Part BranchMade

abbrev pub branches : Sight → List BranchMade → List JudgedBranch → Part (List BranchMade)
branches s done [] = it_is done
branches s done (b ∷ bs) = do x ← b s; branches s (done ++ x ∷ []) bs

-- where a loop starts, by what it goes on, and where it ends
abbrev pub bounds_in : Sight → Control → Expr → Part Bounds
bounds_in s c limit = do
  start ← int_in s c.start
  step ← any_int_in s c.step
  end ← int_in s limit
  it_is (record { start = start; step = step; end = end })

-- the same without where it starts
abbrev pub bounds_behind : Sight → Control → Expr → Part (Option Value × Value)
bounds_behind s c limit = do
  step ← any_int_in s c.step
  end ← int_in s limit
  it_is (step, end)

-- the bounds of a loop, and the first of its locals
abbrev pub for_head : Sight → Control → Expr → Part (Bounds × ℕ)
for_head s c limit = do bounds ← bounds_in s c limit; k ← three_locals; it_is (bounds, k)

-- the number of turns of a loop, and the first of its locals
abbrev pub to_head : Sight → Expr → Part (Value × ℕ)
to_head s limit = do count ← int_in s limit; k ← three_locals; it_is (count, k)

abbrev pub for_stat : ℕ → Bounds → List Labelled → Stat
for_stat k bounds repeated = stats.For k bounds.start bounds.step bounds.end repeated

abbrev pub variable_of : Control → ℕ → Names
variable_of c k = declared c.name.name (meaning.Loop k) []

-- The variable of FOR is seen in what is repeated.
abbrev pub for_loop : Sight → Control → Expr → List Line → Part Stat
for_loop s c limit xs = do
  bounds ← bounds_in s c limit
  k ← three_locals
  repeated ← sequence (within (variable_of c k) s) xs
  it_is (stats.For k bounds.start bounds.step bounds.end repeated)

abbrev pub to_loop : Sight → Expr → List Line → Part Stat
to_loop s limit xs = do
  count ← int_in s limit
  k ← three_locals
  repeated ← sequence s xs
  it_is (stats.To k count repeated)

module _ (r : Answer) where
  abbrev pub one_stat : Simple-F JudgedStat JudgedBody JudgedBranch Line → JudgedStat
  one_stat (Simple-F.Call c) s = stat_or (call_in s c)
  one_stat (Simple-F.Assign c e at) s = stat_or (assignment_in s c e)
  one_stat (Simple-F.AssignVal c e at) s = stat_or (val_assignment_in s at c e)
  one_stat (Simple-F.Goto n at) s = goto s n
  one_stat (Simple-F.Return e at) s = return_or (returned r s e at)
  one_stat (Simple-F.Switch e ns at) s = switch s e ns
  one_stat (Simple-F.Block b at) s = do x ← b s; it_is (stats.Block x)
  one_stat (Simple-F.If bs e at) s = do xs ← branches s [] bs; other ← any_sequence s e; it_is (stats.If xs other)
  one_stat (Simple-F.For None limit xs at) s = to_loop s limit xs
  one_stat (Simple-F.For (Some c) limit xs at) s = for_loop s c limit xs
  one_stat (Simple-F.While c xs at) s = do t ← test_or (test_in s c); repeated ← sequence s xs; it_is (stats.While t repeated)

  abbrev pub one_body : Body-F JudgedStat JudgedBody JudgedBranch Line → JudgedBody
  one_body b s = do
    d ← declarations (before (within [] s)) b.locals
    xs ← sequence d.sight b.statements
    it_is (roll-Body (record { locals = d.starts; statements = xs }))

  abbrev pub one_branch : Branch-F JudgedStat JudgedBody JudgedBranch Line → JudgedBranch
  one_branch b s = do
    t ← test_or (test_in s b.test)
    xs ← sequence s b.taken
    it_is (roll-Branch (record { test = t; taken = xs }))

  abbrev pub any_stat : Option JudgedStat → Sight → Part (Option Stat)
  any_stat None s = it_is None
  any_stat (Some f) s = do x ← f s; it_is (Some x)

  abbrev pub one_line : Stmt-F JudgedStat JudgedBody JudgedBranch Line → Line
  one_line x = record { labels = x.labels; part = any_stat x.simple }

  abbrev pub stat : Simple → JudgedStat
  stat = fold-Simple JudgedStat JudgedBody JudgedBranch Line one_stat one_body one_branch one_line

  abbrev pub body : Body → JudgedBody
  body = fold-Body JudgedStat JudgedBody JudgedBranch Line one_stat one_body one_branch one_line

  abbrev pub branch : Branch → JudgedBranch
  branch = fold-Branch JudgedStat JudgedBody JudgedBranch Line one_stat one_body one_branch one_line

  abbrev pub line : Stmt → Line
  line = fold-Stmt JudgedStat JudgedBody JudgedBranch Line one_stat one_body one_branch one_line
