-- Which conditions, statements and bodies fit, and what each is as a plain tree.
use Rattle.std.specs.Prelude.{ℕ, suc, ◌+◌, Bool, true, false, ◌&&◌, ◌||◌, nat_lt, nat_le, ◌==◌, if◌then◌else◌, List, [], ◌∷◌, length, Option, Some, None, slice_get}
use Rattle.rt_modes.specs.declared.mode.Mode.{Mode, out-Mode}
use Rattle.rt_modes.specs.declared.mode.Mode.TheOpen.{Mode-F}
use Rattle.rt_tree_nodes.specs.declared.brick.Local.{Local}
use Rattle.rt_tree_nodes.specs.declared.brick.Local.TheVariants as local
use Rattle.rt_tree_nodes.specs.declared.operators.Rel.{Rel}
use Rattle.rt_tree_nodes.specs.declared.operators.Rel.TheVariants as rel
use Rattle.rt_tree.specs.declared.sight.Labels.{Labels}
use Rattle.rt_tree.specs.declared.sight.Next.{Next}
use Rattle.rt_tree_nodes.specs.declared.statement.Body.{Body}
use Rattle.rt_tree_nodes.specs.declared.statement.Branch.{Branch}
use Rattle.rt_tree_nodes.specs.declared.statement.Stat.{Stat}
use Rattle.rt_tree_nodes.specs.declared.statement.Stat.TheFolds.{fold-Stat, fold-Body, fold-Branch, fold-Labelled}
use Rattle.rt_tree_nodes.specs.declared.statement.Stat.TheOpen.{Stat-F, Body-F, Branch-F, Labelled-F}
use Rattle.rt_tree_nodes.specs.declared.statement.Labelled.{Labelled}
use Rattle.rt_tree_nodes.specs.declared.statement.LocalStart.{LocalStart}
use Rattle.rt_tree_nodes.specs.declared.statement.Test.{Test}
use Rattle.rt_tree_nodes.specs.declared.statement.Test.TheFolds.{fold-Test}
use Rattle.rt_tree_nodes.specs.declared.statement.Test.TheOpen.{Test-F}
use Rattle.rt_tree_nodes.specs.declared.value.Value.{Value}
use Rattle.rt_tree_nodes.specs.Scopes.{with, only, passes, Scope}
use Rattle.rt_tree_nodes.specs.Tree.{Term, Num, Cond, Is, Both, Either, Stmt, Keep, Clear, Put, Run, Toss, Goto, GiveBack, Back, Switch, Inner, If, For, To, While, Recover, Seq, Done, Then, Mark}
use Rattle.rt_tree_nodes.specs.Typing.{Valued, Placed, OnLocal, OnPath, OnRow, is_int, compare_fits, suits, assigned_mode, mode_at, placed, valued}

-- ---- conditions

-- A condition: whether it fits, and its plain tree.
pub record Tested : Type 0 where
  pub fits : Bool
  pub tree : Cond

abbrev pub comparison_fits : Rel → Valued → Valued → Bool
comparison_fits r a b = passes (λ x. passes (compare_fits r x) b.mode) a.mode

abbrev pub all_fit : List Tested → Bool
all_fit [] = true
all_fit (t ∷ ts) = t.fits && all_fit ts

-- two or more, and each of them
abbrev pub some_fit : List Tested → Bool
some_fit ts = nat_le 2 (length ts) && all_fit ts

-- the plain tree of conditions that are joined, from the right
abbrev pub joined_by : (Cond → Cond → Cond) → List Tested → Cond
joined_by join [] = Is rel.Equal (Num 0) (Num 0)
joined_by join (t ∷ []) = t.tree
joined_by join (t ∷ ts) = join t.tree (joined_by join ts)

module _ (c : Scope) where
  abbrev pub one_test : Test-F Tested → Tested
  one_test (Test-F.Compare r a b) = record { fits = comparison_fits r (valued c a) (valued c b); tree = Is r (valued c a).tree (valued c b).tree }
  one_test (Test-F.And ts) = record { fits = some_fit ts; tree = joined_by Both ts }
  one_test (Test-F.Or ts) = record { fits = some_fit ts; tree = joined_by Either ts }

  abbrev pub tested : Test → Tested
  tested = fold-Test Tested one_test

-- ---- which statements fit

-- What a statement sees: the labels of the sequences that hold it, the innermost first; the number of labels of the
-- body's outermost sequence; and the mode of the procedure's result.
pub record Sight : Type 0 where
  pub seen : List Labels
  pub outermost : ℕ
  pub result : Option Mode

abbrev pub sees : List Labels → ℕ → Bool
sees [] l = false
sees (r ∷ rs) l = nat_le r.first l && nat_lt l r.end || sees rs l

-- A part of a body: what comes next behind it, where it fits.
abbrev pub Part : Type 0
Part = Sight → Next → Option Next

-- a statement with its labels
pub record Marked : Type 0 where
  pub labels : List ℕ
  pub part : Part

abbrev pub nothing : Part
nothing s n = Some n

abbrev pub then_part : Part → Part → Part
then_part p q s n = with (p s n) (q s)

-- a part that fits where a test holds
abbrev pub where_it_holds : Bool → Part
where_it_holds b s n = only b n

abbrev pub in_order : List Marked → Part
in_order [] = nothing
in_order (x ∷ xs) = then_part x.part (in_order xs)

-- the number behind labels that count on from a number
abbrev pub counted : ℕ → List ℕ → Option ℕ
counted n [] = Some n
counted n (l ∷ ls) = if l == n then counted (suc n) ls else None

abbrev pub labels_end : ℕ → List Marked → Option ℕ
labels_end n [] = Some n
labels_end n (x ∷ xs) = with (counted n x.labels) (λ m. labels_end m xs)

abbrev pub all_seen : List Labels → List ℕ → Bool
all_seen rs [] = true
all_seen rs (l ∷ ls) = sees rs l && all_seen rs ls

abbrev pub labels_from : ℕ → ℕ → Labels
labels_from first end = record { first = first; end = end }

abbrev pub sight_with : Sight → Labels → Sight
sight_with s r = record { seen = r ∷ s.seen; outermost = s.outermost; result = s.result }

abbrev pub next_by : ℕ → ℕ → Next
next_by l i = record { label = l; local = i }

-- A sequence: its labels are the next ones, and its statements see them.
abbrev pub sequence : List Marked → Part
sequence xs s n = with (labels_end n.label xs) (λ end. in_order xs (sight_with s (labels_from n.label end)) (next_by end n.local))

abbrev pub branches_in_order : List Part → Part
branches_in_order [] = nothing
branches_in_order (b ∷ bs) = then_part b (branches_in_order bs)

abbrev pub otherwise : Option (List Marked) → Part
otherwise None = nothing
otherwise (Some xs) = sequence xs

abbrev pub is_call : Option (Option Mode) → Bool
is_call None = false
is_call (Some r) = true

-- a RETURN has a value where there is a result, and none else
abbrev pub returns : Option Mode → Option Valued → Bool
returns None None = true
returns (Some m) (Some v) = suits m v
returns _ _ = false

-- REF and PROC need a start
abbrev pub starts_at_zero : Mode-F Mode → Bool
starts_at_zero Mode-F.Byte = true
starts_at_zero Mode-F.Int = true
starts_at_zero Mode-F.Frac = true
starts_at_zero _ = false

abbrev pub is_loop : Option Local → Bool
is_loop (Some local.Loop) = true
is_loop _ = false

module _ (c : Scope) where
  abbrev pub start_fits : Option Local → Option Value → Bool
  start_fits (Some (local.Variable m)) None = starts_at_zero (out-Mode m)
  start_fits (Some (local.Variable m)) (Some v) = suits m (valued c v)
  start_fits _ _ = false

  -- the locals of a body, each the next one
  abbrev pub declares : List LocalStart → Next → Option Next
  declares [] n = Some n
  declares (d ∷ ds) n =
      if d.local == n.local && start_fits (slice_get c.locals d.local) d.start
      then declares ds (next_by n.label (suc n.local))
      else None

  -- a loop's three locals are the next ones
  abbrev pub takes_three : ℕ → Next → Option Next
  takes_three i n =
      if i == n.local && (is_loop (slice_get c.locals i) && (is_loop (slice_get c.locals (i + 1)) && is_loop (slice_get c.locals (i + 2))))
      then Some (next_by n.label (i + 3))
      else None

  abbrev pub is_int_value : Value → Bool
  is_int_value v = passes is_int (valued c v).mode

  abbrev pub is_int_step : Option Value → Bool
  is_int_step None = true
  is_int_step (Some v) = is_int_value v

  abbrev pub assigns : Option Mode → Value → Bool
  assigns None v = false
  assigns (Some m) v = suits m (valued c v)

  abbrev pub value_returned : Option Value → Option Valued
  value_returned None = None
  value_returned (Some v) = Some (valued c v)

  abbrev pub one_stat : Stat-F Part Part Part Marked → Part
  one_stat (Stat-F.Call v) = where_it_holds (is_call (valued c v).call)
  one_stat (Stat-F.Assign p v) = where_it_holds (assigns (with (placed c p).found assigned_mode) v)
  one_stat (Stat-F.Goto l) = λ s. where_it_holds (sees s.seen l) s
  one_stat (Stat-F.Return v) = λ s. where_it_holds (returns s.result (value_returned v)) s
  one_stat (Stat-F.Switch v ls) = λ s. where_it_holds (is_int_value v && (nat_lt 0 (length ls) && all_seen s.seen ls)) s
  one_stat (Stat-F.Block b) = b
  one_stat (Stat-F.If bs e) = then_part (where_it_holds (nat_lt 0 (length bs))) (then_part (branches_in_order bs) (otherwise e))
  one_stat (Stat-F.For i start step end xs) = then_part (where_it_holds (is_int_value start && (is_int_step step && is_int_value end))) (λ s n. with (takes_three i n) (sequence xs s))
  one_stat (Stat-F.To i n xs) = then_part (where_it_holds (is_int_value n)) (λ s n. with (takes_three i n) (sequence xs s))
  one_stat (Stat-F.While t xs) = then_part (where_it_holds (tested c t).fits) (sequence xs)
  one_stat (Stat-F.Recover l) = λ s. where_it_holds (nat_lt l s.outermost) s

  abbrev pub one_body : Body-F Part Part Part Marked → Part
  one_body b s n = with (declares b.locals n) (sequence b.statements s)

  abbrev pub one_branch : Branch-F Part Part Part Marked → Part
  one_branch b = then_part (where_it_holds (tested c b.test).fits) (sequence b.taken)

  abbrev pub marked_part : Option Part → Part
  marked_part None = nothing
  marked_part (Some p) = p

  abbrev pub one_labelled : Labelled-F Part Part Part Marked → Marked
  one_labelled x = record { labels = x.labels; part = marked_part x.stat }

  abbrev pub stat_part : Stat → Part
  stat_part = fold-Stat Part Part Part Marked one_stat one_body one_branch one_labelled

  abbrev pub body_part : Body → Part
  body_part = fold-Body Part Part Part Marked one_stat one_body one_branch one_labelled

  abbrev pub branch_part : Branch → Part
  branch_part = fold-Branch Part Part Part Marked one_stat one_body one_branch one_labelled

  abbrev pub marked : Labelled → Marked
  marked = fold-Labelled Part Part Part Marked one_stat one_body one_branch one_labelled

-- ---- which bodies are closed

-- The last of the statements that aren't empty closes a sequence: None stands for an empty one.
abbrev pub closed_after : Bool → List (Option Bool) → Bool
closed_after closed [] = closed
closed_after closed (None ∷ xs) = closed_after closed xs
closed_after closed (Some x ∷ xs) = closed_after x xs

abbrev pub closed_sequence : List (Option Bool) → Bool
closed_sequence = closed_after false

abbrev pub all_closed : List Bool → Bool
all_closed [] = true
all_closed (b ∷ bs) = b && all_closed bs

abbrev pub closed_otherwise : Option (List (Option Bool)) → Bool
closed_otherwise None = false
closed_otherwise (Some xs) = closed_sequence xs

abbrev pub closed_stat : Stat-F Bool Bool Bool (Option Bool) → Bool
closed_stat (Stat-F.Return v) = true
closed_stat (Stat-F.Goto l) = true
closed_stat (Stat-F.Block b) = b
closed_stat (Stat-F.If bs e) = all_closed bs && closed_otherwise e
closed_stat _ = false

-- a statement with a label is not empty
abbrev pub closed_labelled : List ℕ → Option Bool → Option Bool
closed_labelled [] stat = stat
closed_labelled (l ∷ ls) None = Some false
closed_labelled (l ∷ ls) (Some b) = Some b

abbrev pub closed_body : Body-F Bool Bool Bool (Option Bool) → Bool
closed_body b = closed_sequence b.statements

abbrev pub closed_branch : Branch-F Bool Bool Bool (Option Bool) → Bool
closed_branch b = closed_sequence b.taken

abbrev pub closed_line : Labelled-F Bool Bool Bool (Option Bool) → Option Bool
closed_line x = closed_labelled x.labels x.stat

abbrev pub closed : Body → Bool
closed = fold-Body Bool Bool Bool (Option Bool) closed_stat closed_body closed_branch closed_line

abbrev pub stat_closed : Stat → Bool
stat_closed = fold-Stat Bool Bool Bool (Option Bool) closed_stat closed_body closed_branch closed_line

abbrev pub branch_closed : Branch → Bool
branch_closed = fold-Branch Bool Bool Bool (Option Bool) closed_stat closed_body closed_branch closed_line

abbrev pub labelled_closed : Labelled → Option Bool
labelled_closed = fold-Labelled Bool Bool Bool (Option Bool) closed_stat closed_body closed_branch closed_line

-- ---- the plain tree of a body

abbrev pub marks : List ℕ → Seq → Seq
marks [] q = q
marks (l ∷ ls) q = Mark l (marks ls q)

abbrev pub labelled_tree : List ℕ → Option Stmt → Seq → Seq
labelled_tree ls None q = marks ls q
labelled_tree ls (Some s) q = marks ls (Then s q)

abbrev pub sequence_tree : List (Seq → Seq) → Seq
sequence_tree [] = Done
sequence_tree (f ∷ fs) = f (sequence_tree fs)

abbrev pub otherwise_tree : Option (List (Seq → Seq)) → Seq
otherwise_tree None = Done
otherwise_tree (Some xs) = sequence_tree xs

-- the first branch, with the others behind ELSE
abbrev pub branches_tree : List (Cond × Seq) → Seq → Seq
branches_tree [] e = e
branches_tree (b ∷ bs) e = Then (If b.0 b.1 (branches_tree bs e)) Done

abbrev pub if_tree : List (Cond × Seq) → Seq → Stmt
if_tree [] e = Inner e
if_tree (b ∷ bs) e = If b.0 b.1 (branches_tree bs e)

abbrev pub call_tree : Valued → Stmt
call_tree v = elim v.call [
  | Some (Some m) ↦ Toss v.tree
  | _ ↦ Run v.tree
]

abbrev pub assigned_tree : Placed → Term → Stmt
assigned_tree p v = elim p.tree [
  | OnLocal i ↦ Keep i v
  | OnPath q ↦ Put (mode_at p.found) q v
  | OnRow a ↦ Run v
]

module _ (c : Scope) where
  abbrev pub start_tree : ℕ → Option Value → Stmt
  start_tree i None = Clear i
  start_tree i (Some v) = Keep i (valued c v).tree

  abbrev pub starts_tree : List LocalStart → Seq → Seq
  starts_tree [] q = q
  starts_tree (d ∷ ds) q = Then (start_tree d.local d.start) (starts_tree ds q)

  -- the step is 1 where it is left out
  abbrev pub step_tree : Option Value → Term
  step_tree None = Num 1
  step_tree (Some v) = (valued c v).tree

  abbrev pub return_tree : Option Value → Stmt
  return_tree None = Back
  return_tree (Some v) = GiveBack (valued c v).tree

  abbrev pub stat_tree : Stat-F Stmt Seq (Cond × Seq) (Seq → Seq) → Stmt
  stat_tree (Stat-F.Call v) = call_tree (valued c v)
  stat_tree (Stat-F.Assign p v) = assigned_tree (placed c p) (valued c v).tree
  stat_tree (Stat-F.Goto l) = Goto l
  stat_tree (Stat-F.Return v) = return_tree v
  stat_tree (Stat-F.Switch v ls) = Switch (valued c v).tree ls
  stat_tree (Stat-F.Block q) = Inner q
  stat_tree (Stat-F.If bs e) = if_tree bs (otherwise_tree e)
  stat_tree (Stat-F.For i start step end xs) = For i (valued c start).tree (step_tree step) (valued c end).tree (sequence_tree xs)
  stat_tree (Stat-F.To i n xs) = To i (valued c n).tree (sequence_tree xs)
  stat_tree (Stat-F.While t xs) = While (tested c t).tree (sequence_tree xs)
  stat_tree (Stat-F.Recover l) = Recover l

  abbrev pub body_tree : Body → Seq
  body_tree = fold-Body Stmt Seq (Cond × Seq) (Seq → Seq) stat_tree
      (λ b. starts_tree b.locals (sequence_tree b.statements)) (λ b. ((tested c b.test).tree, sequence_tree b.taken)) (λ x. labelled_tree x.labels x.stat)
