-- Parts of a procedure: what each is, and what has been counted behind it, by what has been counted before it. Where a part
-- is unfit its fault is noted, and something else of its form stands in its place, as where it can't be known. No tree of a
-- module holds such a part: a fault stands in the module there.
use Rattle.std.specs.Prelude.{◌≡◌, ℕ, ◌+◌, Bool, true, false, List, [], ◌∷◌, ◌++◌, length, None, Ok, Err}
use Rattle.rt_grammar.specs.declared.at.Ident.{Ident}
use Rattle.rt_modes.specs.declared.mode.Mode.{Mode}
use Rattle.rt_tree_nodes.specs.declared.brick.Local.{Local as Made}
use Rattle.rt_tree_nodes.specs.declared.brick.Local.TheVariants as made
use Rattle.rt_tree_nodes.specs.declared.operators.Rel.TheVariants as rel
use Rattle.rt_tree_nodes.specs.declared.statement.Stat.{Stat}
use Rattle.rt_tree_nodes.specs.declared.statement.Stat.TheVariants as stats
use Rattle.rt_tree_nodes.specs.declared.statement.Test.{Test}
use Rattle.rt_tree_nodes.specs.declared.statement.Test.TheVariants as tests
use Rattle.rt_tree_nodes.specs.declared.value.Value.{Value}
use Rattle.rt_tree_nodes.specs.declared.value.Value.TheVariants as values
use Rattle.rt_check_faults.specs.declared.fault.CheckFault.{CheckFault}
use Rattle.rt_check_faults.specs.declared.fault.CheckFault.TheVariants as fault
use Rattle.rt_exprs.specs.declared.scope.Meaning.TheVariants as meaning
use Rattle.rt_check_faults.specs.Outcomes.{Outcome}
use Rattle.rt_check_bodies.specs.declared.tally.Tally.{Tally}
use Rattle.rt_exprs.specs.Sights.{Names, Sight, holds, declared}
use Rattle.rt_check_bodies.specs.Sights.{label_in}

-- ---- what is counted

-- one more fault
abbrev pub noted : CheckFault → Tally → Tally
noted g t = record { locals = t.locals; labels = t.labels; faults = t.faults ++ g ∷ [] }

-- what can't be known is none
abbrev pub noted_known : CheckFault → Tally → Tally
noted_known fault.Unknown t = t
noted_known g t = noted g t

abbrev pub noted_if : Bool → CheckFault → Tally → Tally
noted_if true g t = noted g t
noted_if false g t = t

-- one more parameter or local
abbrev pub with_local : Made → Tally → Tally
with_local l t = record { locals = t.locals ++ l ∷ []; labels = t.labels; faults = t.faults }

-- the number of the next local
abbrev pub next_local : Tally → ℕ
next_local t = length t.locals

-- the label behind another
abbrev pub behind : ℕ → ℕ
behind n = n + 1

-- one more label
abbrev pub with_label : Tally → Tally
with_label t = record { locals = t.locals; labels = behind t.labels; faults = t.faults }

-- a name that its level holds already
abbrev pub noted_twice : Names → Ident → Tally → Tally
noted_twice l n = noted_if (holds l n.name) (fault.DeclaredTwice n.at)

-- ---- parts

-- A part: what it is, and what has been counted behind it, by what has been counted before it.
abbrev pub Part : Type 0 → Type 0
Part A = Tally → A × Tally

abbrev pub it_is : {A : Type 0} → A → Part A
it_is x t = (x, t)

infixl 10 ◌>>=◌
abbrev pub ◌>>=◌ : {A B : Type 0} → Part A → (A → Part B) → Part B
◌>>=◌ p f t = f (p t).0 (p t).1

-- a thing and a tally are what a part gives
abbrev pub Gave : {A : Type 0} → A → Tally → A × Tally → Type 0
Gave x t given = (x ≡ given.0) × (t ≡ given.1)

-- the number of the next local
abbrev pub number_next : Part ℕ
number_next t = (next_local t, t)

-- what is found, or else what stands in its place, and its fault is noted
abbrev pub found_or : {A : Type 0} → A → Outcome A → Part A
found_or other (Ok x) t = (x, t)
found_or other (Err g) t = (other, noted_known g t)

abbrev pub value_or : Outcome Value → Part Value
value_or = found_or (values.Number 0)

abbrev pub stat_or : Outcome Stat → Part Stat
stat_or = found_or (stats.Call (values.Number 0))

abbrev pub return_or : Outcome Stat → Part Stat
return_or = found_or (stats.Return None)

abbrev pub test_or : Outcome Test → Part Test
test_or = found_or (tests.Compare rel.Equal (values.Number 0) (values.Number 0))

abbrev pub label_or : Outcome ℕ → Part ℕ
label_or = found_or 0

-- a mode, whose fault is noted once for all that is declared with it
abbrev pub mode_or : Outcome Mode → Part (Outcome Mode)
mode_or (Ok m) t = (Ok m, t)
mode_or (Err g) t = (Err g, noted g t)

-- the three locals of a loop, by the number of the first
abbrev pub three_locals : Part ℕ
three_locals t = (next_local t, with_local made.Loop (with_local made.Loop (with_local made.Loop t)))

-- ---- labels

-- one label more of a sequence: it has the next number
abbrev pub label_more : Names → Ident → Part Names
label_more l n t = (declared n.name (meaning.Label t.labels) l, with_label (noted_twice l n t))

abbrev pub labels_more : Names → List Ident → Part Names
labels_more l [] = it_is l
labels_more l (n ∷ ns) = do more ← label_more l n; labels_more more ns

-- the numbers of some labels, of which the first has a number; and the number behind them
abbrev pub numbers_from : List ℕ → ℕ → List Ident → List ℕ × ℕ
numbers_from done k [] = (done, k)
numbers_from done k (n ∷ ns) = numbers_from (done ++ k ∷ []) (behind k) ns

-- the labels of a SWITCH
abbrev pub labels_in : Sight → List ℕ → List Ident → Part (List ℕ)
labels_in s done [] = it_is done
labels_in s done (n ∷ ns) = do l ← label_or (label_in s n); labels_in s (done ++ l ∷ []) ns
