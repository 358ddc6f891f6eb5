-- What each form of expression, chain and condition is, by its parts; and the first fault.
use Rattle.std.specs.Prelude.{ℕ, ◌==◌, Bool, true, false, if◌then◌else◌, List, [], ◌∷◌, length, ◌-◌, slice_get, Option, Some, None, Ok, Err}
use Rattle.std.specs.Option.{option_copied}
use Rattle.rt_grammar.specs.declared.at.At.{At}
use Rattle.rt_grammar.specs.declared.at.Ident.{Ident}
use Rattle.rt_syntax_exprs.specs.declared.tree.Op1.{Op1}
use Rattle.rt_syntax_exprs.specs.declared.tree.Op1.TheVariants as op1
use Rattle.rt_syntax_exprs.specs.declared.tree.Op2.{Op2}
use Rattle.rt_syntax_exprs.specs.declared.tree.Op2.TheVariants as op2
use Rattle.rt_syntax_exprs.specs.declared.tree.Rel.{Rel}
use Rattle.rt_syntax_exprs.specs.declared.tree.Rel.TheVariants as rel
use Rattle.rt_syntax_exprs.specs.declared.tree.Expr.{Expr, out-Expr}
use Rattle.rt_syntax_exprs.specs.declared.tree.Expr.TheFolds.{fold-Expr, fold-Link, fold-Chain}
use Rattle.rt_syntax_exprs.specs.declared.tree.Expr.TheOpen.{Expr-F, Link-F, Chain-F}
use Rattle.rt_syntax_exprs.specs.declared.tree.Chain.{Chain, out-Chain}
use Rattle.rt_syntax_exprs.specs.declared.tree.Link.{Link, out-Link}
use Rattle.rt_syntax_exprs.specs.declared.tree.Cond.{Cond}
use Rattle.rt_syntax_exprs.specs.declared.tree.Cond.TheFolds.{fold-Cond}
use Rattle.rt_syntax_exprs.specs.declared.tree.Cond.TheOpen.{Cond-F}
use Rattle.rt_modes.specs.declared.mode.Mode.{Mode, out-Mode}
use Rattle.rt_modes.specs.declared.mode.Mode.TheOpen.{Mode-F}
use Rattle.rt_modes.specs.declared.mode.Mode.TheVariants as mode
use Rattle.rt_modes.specs.declared.mode.RecordDef.{RecordDef}
use Rattle.rt_tree_nodes.specs.declared.operators.Op1.{Op1 as Made1}
use Rattle.rt_tree_nodes.specs.declared.operators.Op1.TheVariants as one
use Rattle.rt_tree_nodes.specs.declared.operators.Op2.{Op2 as Made2}
use Rattle.rt_tree_nodes.specs.declared.operators.Op2.TheVariants as two
use Rattle.rt_tree_nodes.specs.declared.operators.Rel.{Rel as MadeRel}
use Rattle.rt_tree_nodes.specs.declared.operators.Rel.TheVariants as made
use Rattle.rt_tree_nodes.specs.declared.statement.Test.{Test}
use Rattle.rt_tree_nodes.specs.declared.statement.Test.TheVariants as tests
use Rattle.rt_tree_nodes.specs.declared.value.Callee.{Callee}
use Rattle.rt_tree_nodes.specs.declared.value.Callee.TheVariants as callees
use Rattle.rt_tree_nodes.specs.declared.value.Place.{Place}
use Rattle.rt_tree_nodes.specs.declared.value.Place.TheVariants as places
use Rattle.rt_tree_nodes.specs.declared.value.Value.{Value}
use Rattle.rt_tree_nodes.specs.declared.value.Value.TheVariants as values
use Rattle.rt_check_faults.specs.declared.fault.CheckFault.{CheckFault}
use Rattle.rt_check_faults.specs.declared.fault.CheckFault.TheVariants as fault
use Rattle.rt_exprs.specs.declared.links.Reach.{Reach as Reached}
use Rattle.rt_exprs.specs.declared.links.Reach.TheVariants as reaches
use Rattle.rt_exprs.specs.declared.operand.Base.{Base}
use Rattle.rt_exprs.specs.declared.operand.Base.TheVariants as base
use Rattle.rt_exprs.specs.declared.operand.Standing.{Standing}
use Rattle.rt_exprs.specs.declared.operand.Standing.TheVariants as standing
use Rattle.rt_exprs.specs.declared.scope.Meaning.{Meaning}
use Rattle.rt_exprs.specs.declared.scope.Meaning.TheVariants as meaning
use Rattle.rt_exprs.specs.Sights.{Sight}
use Rattle.rt_exprs.specs.Modes.{Want, basic, ref, row, want, ref_of, record_of, through, array_at, base_of}
use Rattle.rt_check_faults.specs.Outcomes.{Outcome, ◌>>=◌, unknown, both, after, or_fault, or_other, sooner, fault_of}
use Rattle.rt_exprs.specs.Names.{find, text_at}
use Rattle.rt_exprs.specs.Operands.{Is, number, text, brick, place, loop, result, computed, done, Found, Judged, named, first_field, is_label, suits_as, if_known, fits, by_itself}

-- ---- links

abbrev pub found : At → Is → Found
found at is = record { at = at; is = is }

-- what is found, known or not
abbrev pub seen_as : Bool → At → Is → Judged
seen_as known at is = record { found = found at is; known = known }

abbrev pub record_behind : Option Mode → Option ℕ
record_behind None = None
record_behind (Some m) = record_of (out-Mode m)

abbrev pub shared_record : Place → Option ℕ → Option (Place × ℕ × Standing)
shared_record p (Some r) = Some (p, r, standing.Shared)
shared_record p None = None

abbrev pub place_record : Place → Standing → Option ℕ → Option ℕ → Option (Place × ℕ × Standing)
place_record p st (Some r) behind = Some (p, r, st)
place_record p st None behind = shared_record (through p) behind

-- The record that a place is, or to which the REF of a place or a result leads: its place, its number, and whether its
-- reference may be taken.
abbrev pub record_in : Is → Option (Place × ℕ × Standing)
record_in (place p m st) = place_record p st (record_of (out-Mode m)) (record_behind (ref_of (out-Mode m)))
record_in (result v m) = shared_record (places.Through v) (record_behind (ref_of (out-Mode m)))
record_in _ = None

abbrev pub field_with : Bool → Judged → Place → Standing → ℕ → Mode → Outcome Judged
field_with true j p st k m = unknown
field_with false j p st k m = Ok (seen_as j.known j.found.at (place (places.Field p k) m st))

abbrev pub field_at : At → Judged → Place → Standing → Option (ℕ × Mode) → Outcome Judged
field_at at j p st None = Err (fault.UnknownName at)
field_at at j p st (Some x) = field_with (is_label (out-Mode x.1)) j p st x.0 x.1

-- . name
abbrev pub dot_by : List RecordDef → Ident → At → Judged → Option (Place × ℕ × Standing) → Outcome Judged
dot_by s name at j None = Err (fault.WrongMode at)
dot_by records name at j (Some x) = field_at name.at j x.0 x.2 (first_field records x.1 name.name)

abbrev pub dot : List RecordDef → Ident → At → Judged → Outcome Judged
dot records name at j = dot_by records name at j (record_in j.found.is)

-- What parentheses do: they select an element of an array, whose place and elements' mode these are; they call; or they
-- don't fit.
pub data Reach : Type 0 where
  rows : Place → Mode → Standing → Reach
  calls : Callee → List Mode → Option Mode → Reach
  neither : Reach

-- what the program's values stand for
abbrev pub reach_of : Reached → Reach
reach_of (reaches.Rows p m st) = rows p m.now st
reach_of (reaches.Calls c ps r) = calls c ps.now (option_copied r)
reach_of reaches.Neither = neither

abbrev pub proc_reach : Mode-F Mode → Callee → Reach
proc_reach (Mode-F.Proc ps r) c = calls c ps r
proc_reach _ c = neither

abbrev pub place_reach : Mode-F Mode → Place → Standing → Reach
place_reach (Mode-F.Array n e) p st = rows p e st
place_reach (Mode-F.RefArray e) p st = rows (through p) e standing.Shared
place_reach l p st = proc_reach l (callees.Through (values.Read p))

abbrev pub result_reach : Mode-F Mode → Value → Reach
result_reach (Mode-F.RefArray e) v = rows (places.Through v) e standing.Shared
result_reach l v = proc_reach l (callees.Through v)

abbrev pub reach : Is → Reach
reach (brick k m) = proc_reach (out-Mode m) (callees.Brick k)
reach (place p m st) = place_reach (out-Mode m) p st
reach (result v m) = result_reach (out-Mode m) v
reach _ = neither

-- Arguments, each wanted of the mode of its parameter; one that has none isn't judged.
abbrev pub arguments_from : Outcome (List Value) → List (Outcome Judged) → List Mode → Outcome (List Value)
arguments_from so_far [] ms = so_far
arguments_from so_far (t ∷ ts) [] = so_far
arguments_from so_far (t ∷ ts) (m ∷ ms) = arguments_from (after so_far (fits t (want m))) ts ms

abbrev pub arguments : List (Outcome Judged) → List Mode → Outcome (List Value)
arguments = arguments_from (Ok [])

abbrev pub called : Callee → Option Mode → List Value → Is
called c None xs = done (values.Call c xs)
called c (Some m) xs = result (values.Call c xs) m

-- the arguments of a call, whose name or VAL stands at an item: as many as there are parameters
abbrev pub if_counted : At → Bool → Outcome (List Value) → Outcome (List Value)
if_counted at true t = t
if_counted at false (Ok xs) = Err (fault.WrongCount at)
if_counted at false (Err fault.Unknown) = Err (fault.WrongCount at)
if_counted at false (Err g) = Err g

abbrev pub counted : At → List (Outcome Judged) → List Mode → Outcome (List Value)
counted at ts ps = if_counted at (length ts == length ps) (arguments ts ps)

abbrev pub answered : At → Callee → Option Mode → Bool → Outcome (List Value) → Outcome Judged
answered at c r known t = or_other [] known t >>= λ x. Ok (seen_as x.1 at (called c r x.0))

abbrev pub call : At → Callee → List Mode → Option Mode → Bool → List (Outcome Judged) → Outcome Judged
call at c ps r known ts = answered at c r known (counted at ts ps)

-- one subscript, between parentheses of which the first stands at an item
abbrev pub subscript : At → List (Outcome Judged) → Outcome Value
subscript mark (t ∷ []) = fits t (basic base.Int)
subscript mark _ = Err (fault.WrongMode mark)

abbrev pub selected : At → Place → Mode → Standing → Bool → Outcome Value → Outcome Judged
selected at p m st known t = or_other (values.Number 0) known t >>= λ x. Ok (seen_as x.1 at (place (places.Element p x.0) m st))

abbrev pub element : At → At → Place → Mode → Standing → Bool → List (Outcome Judged) → Outcome Judged
element mark at p m st known ts = selected at p m st known (subscript mark ts)

-- ( [expr {, expr}] )
abbrev pub apply_by : At → List (Outcome Judged) → At → Bool → Reach → Outcome Judged
apply_by mark ts at known (rows p m st) = element mark at p m st known ts
apply_by mark ts at known (calls c ps r) = call at c ps r known ts
apply_by mark ts at known neither = Err (fault.WrongMode mark)

abbrev pub apply : At → List (Outcome Judged) → Judged → Outcome Judged
apply mark ts j = apply_by mark ts j.found.at j.known (reach j.found.is)

-- the fault that counts of a fault and of expressions that are judged by themselves
abbrev pub all_alone : CheckFault → List (Outcome Judged) → CheckFault
all_alone g [] = g
all_alone g (t ∷ ts) = all_alone (sooner g (by_itself t)) ts

-- Behind what isn't known, and what is unfit, the expressions between parentheses are judged by themselves.
abbrev pub dot_after : List RecordDef → Ident → At → Outcome Judged → Outcome Judged
dot_after records name at t = t >>= dot records name at

abbrev pub apply_after : At → List (Outcome Judged) → Outcome Judged → Outcome Judged
apply_after mark ts (Ok j) = apply mark ts j
apply_after mark ts (Err g) = Err (all_alone g ts)

-- links, one after the other
abbrev pub walk : List (Outcome Judged → Outcome Judged) → Outcome Judged → Outcome Judged
walk [] t = t
walk (l ∷ ls) t = walk ls (l t)

-- VAL: the place that a REF names, if it begins at an item
abbrev pub val_by : At → At → Bool → Option (Place × Mode) → Outcome Judged
val_by at first known None = Err (fault.WrongMode first)
val_by at first known (Some x) = Ok (seen_as known at (place x.0 x.1 standing.Shared))

abbrev pub with_place : Place → Option Mode → Option (Place × Mode)
with_place p (Some m) = Some (p, m)
with_place p None = None

abbrev pub target_of : Is → Option (Place × Mode)
target_of (place p m st) = with_place (through p) (ref_of (out-Mode m))
target_of (result v m) = with_place (places.Through v) (ref_of (out-Mode m))
target_of _ = None

abbrev pub val : At → Outcome Judged → Outcome Judged
val at t = t >>= λ j. val_by at j.found.at j.known (target_of j.found.is)

-- ---- operators

-- the mode of one word that an expression is, REFs taken off; INT where it is another
abbrev pub base_in : Is → Base
base_in (place p m st) = base_of m
base_in (result v m) = base_of m
base_in (computed v b) = b
base_in _ = base.Int

-- FRAC or INT
abbrev pub frac_or_int : Base → Base
frac_or_int base.Frac = base.Frac
frac_or_int _ = base.Int

-- what a monadic operator wants of an operand, and what it gives
abbrev pub takes : Op1 → Base → Base
takes op1.Not b = base.Int
takes op1.Byte b = base.Int
takes op1.Int b = b
takes _ b = frac_or_int b

abbrev pub gives : Op1 → Base → Base
gives op1.Not b = base.Int
gives op1.Byte b = base.Byte
gives op1.Int b = base.Int
gives op1.Frac b = base.Frac
gives _ b = frac_or_int b

abbrev pub made_monadic : Op1 → Option Made1
made_monadic op1.Plus = Some one.Plus
made_monadic op1.Minus = Some one.Minus
made_monadic op1.Abs = Some one.Abs
made_monadic op1.Not = Some one.Not
made_monadic op1.Byte = Some one.Byte
made_monadic op1.Int = Some one.Int
made_monadic op1.Frac = Some one.Frac
made_monadic op1.Length = None

-- the place of the array of LENGTH, REFs followed
abbrev pub row_result : Mode-F Mode → Value → Option Place
row_result (Mode-F.RefArray e) v = Some (places.Through v)
row_result (Mode-F.Ref m) v = array_at m (places.Through v)
row_result _ v = None

abbrev pub array_in : Is → Option Place
array_in (text n) = Some (places.Through (values.Text n))
array_in (place p m st) = array_at m p
array_in (result v m) = row_result (out-Mode m) v
array_in _ = None

abbrev pub length_of : At → Judged → Outcome Judged
length_of at j = or_fault (fault.WrongMode j.found.at) (array_in j.found.is) >>= λ p. Ok (seen_as j.known at (computed (values.Length p) base.Int))

abbrev pub monadic_by : At → Op1 → Judged → Option Made1 → Outcome Judged
monadic_by at op j None = length_of at j
monadic_by at op j (Some o) = do
  x ← or_other (values.Number 0) true (suits_as j (basic (takes op (base_in j.found.is))))
  Ok (seen_as x.1 at (computed (values.Monadic o x.0) (gives op (base_in j.found.is))))

abbrev pub of_operand : At → Op1 → Judged → Outcome Judged
of_operand at op j = monadic_by at op j (made_monadic op)

-- the mode that a monadic operator gives, if it gives one alone
abbrev pub gives_always : Op1 → Option Base
gives_always op1.Not = Some base.Int
gives_always op1.Int = Some base.Int
gives_always op1.Length = Some base.Int
gives_always op1.Byte = Some base.Byte
gives_always op1.Frac = Some base.Frac
gives_always _ = None

-- Some operators give one mode, whatever their operand is.
abbrev pub of_unknown_by : At → Option Base → Outcome Judged
of_unknown_by at None = unknown
of_unknown_by at (Some b) = Ok (seen_as false at (computed (values.Number 0) b))

abbrev pub of_unknown : At → Op1 → Outcome Judged
of_unknown at op = of_unknown_by at (gives_always op)

abbrev pub monadic : At → Op1 → Outcome Judged → Outcome Judged
monadic at op (Ok j) = of_operand at op j
monadic at op (Err fault.Unknown) = of_unknown at op
monadic at op (Err g) = Err g

-- the operators that are of INT alone
abbrev pub of_int : Op2 → Bool
of_int op2.Divide = true
of_int op2.Mod = true
of_int op2.Land = true
of_int op2.Lor = true
of_int op2.Nev = true
of_int _ = false

-- what is wanted of the right operand: the count of a shift is INT
abbrev pub right_takes : Op2 → Base → Base
right_takes op2.Plus b = b
right_takes op2.Minus b = b
right_takes op2.Times b = b
right_takes _ b = base.Int

-- the product of FRACs is an operator of its own
abbrev pub product : Base → Made2
product base.Frac = two.FracTimes
product _ = two.Times

abbrev pub made_dyadic : Op2 → Base → Made2
made_dyadic op2.Sll b = two.Sll
made_dyadic op2.Srl b = two.Srl
made_dyadic op2.Sla b = two.Sla
made_dyadic op2.Sra b = two.Sra
made_dyadic op2.Times b = product b
made_dyadic op2.Divide b = two.Divide
made_dyadic op2.Mod b = two.Mod
made_dyadic op2.Land b = two.Land
made_dyadic op2.Plus b = two.Plus
made_dyadic op2.Minus b = two.Minus
made_dyadic op2.Lor b = two.Lor
made_dyadic op2.Nev b = two.Nev

abbrev pub computes : At → Op2 → Base → Outcome (Value × Value) → Outcome Judged
computes at op b t = or_other (values.Number 0, values.Number 0) true t >>= λ x. Ok (seen_as x.1 at (computed (values.Dyadic (made_dyadic op b) x.0.0 x.0.1) b))

-- a node whose left operand says what is wanted of both
abbrev pub by_left : At → Op2 → Judged → Outcome Judged → Outcome Judged
by_left at op j c = let b = frac_or_int (base_in j.found.is) in computes at op b (both (suits_as j (basic b)) (fits c (basic (right_takes op b))))

abbrev pub is_shift : Op2 → Bool
is_shift op2.Sll = true
is_shift op2.Srl = true
is_shift op2.Sla = true
is_shift op2.Sra = true
is_shift _ = false

-- the fault of a right operand whose left one isn't known: the count of a shift is INT, another is judged by itself
abbrev pub right_alone : Op2 → Outcome Judged → CheckFault
right_alone op c = if is_shift op then fault_of (fits c (basic base.Int)) else by_itself c

abbrev pub left_first : At → Op2 → Outcome Judged → Outcome Judged → Outcome Judged
left_first at op (Ok j) c = by_left at op j c
left_first at op (Err g) c = Err (sooner g (right_alone op c))

abbrev pub dyadic : At → Op2 → Outcome Judged → Outcome Judged → Outcome Judged
dyadic at op a c = if of_int op then computes at op base.Int (both (fits a (basic base.Int)) (fits c (basic base.Int))) else left_first at op a c

-- ---- the whole

-- the name of a chain
abbrev pub begun : At → Option Meaning → Outcome Judged
begun at m = named at m >>= λ is. Ok (seen_as true at is)

-- a chain: its name, then its links
abbrev pub chained : Sight → List ℕ → At → List (Outcome Judged → Outcome Judged) → Outcome Judged
chained s name at links = walk links (begun at (find s name))

abbrev pub expr_step : Sight → Expr-F (Outcome Judged) (Outcome Judged → Outcome Judged) (Outcome Judged) → Outcome Judged
expr_step s (Expr-F.Number n at) = Ok (seen_as true at (number n))
expr_step s (Expr-F.Text bytes at) = text_at s at
expr_step s (Expr-F.Chain c) = c
expr_step s (Expr-F.Val c at) = val at c
expr_step s (Expr-F.Monadic op a at) = monadic at op a
expr_step s (Expr-F.Dyadic op a b at) = dyadic at op a b

abbrev pub link_step : Sight → Link-F (Outcome Judged) (Outcome Judged → Outcome Judged) (Outcome Judged) → Outcome Judged → Outcome Judged
link_step s (Link-F.Dot name at) = dot_after s.records name at
link_step s (Link-F.Apply es at) = apply_after at es

abbrev pub chain_step : Sight → Chain-F (Outcome Judged) (Outcome Judged → Outcome Judged) (Outcome Judged) → Outcome Judged
chain_step s c = chained s c.name c.at c.links

-- what an expression, a link and a chain are
unfoldable pub judged : Sight → Expr → Outcome Judged
judged s = fold-Expr (Outcome Judged) (Outcome Judged → Outcome Judged) (Outcome Judged) (expr_step s) (link_step s) (chain_step s)

unfoldable pub linked : Sight → Link → Outcome Judged → Outcome Judged
linked s = fold-Link (Outcome Judged) (Outcome Judged → Outcome Judged) (Outcome Judged) (expr_step s) (link_step s) (chain_step s)

unfoldable pub judged_chain : Sight → Chain → Outcome Judged
judged_chain s = fold-Chain (Outcome Judged) (Outcome Judged → Outcome Judged) (Outcome Judged) (expr_step s) (link_step s) (chain_step s)

-- the value that an expression is where a mode is wanted, or its first fault
abbrev pub fitted : Sight → Expr → Want → Outcome Value
fitted s e w = fits (judged s e) w

-- the fault of an expression that is judged by itself
abbrev pub fitted_alone : Sight → Expr → CheckFault
fitted_alone s e = by_itself (judged s e)

-- where an expression begins
abbrev pub begins_at : Expr-F Expr Link Chain → At
begins_at (Expr-F.Number n at) = at
begins_at (Expr-F.Text bytes at) = at
begins_at (Expr-F.Chain c) = (out-Chain c).at
begins_at (Expr-F.Val c at) = at
begins_at (Expr-F.Monadic op a at) = at
begins_at (Expr-F.Dyadic op a b at) = at

-- The fault of an expression where nothing is wanted: it fits nothing, whatever it is.
abbrev pub nowhere : At → Outcome Judged → CheckFault
nowhere at (Ok j) = fault.WrongMode j.found.at
nowhere at (Err fault.Unknown) = fault.WrongMode at
nowhere at (Err g) = g

abbrev pub fitted_nowhere : Sight → Expr → CheckFault
fitted_nowhere s e = nowhere (begins_at (out-Expr e)) (judged s e)

-- ---- places that are assigned, and calls that stand alone

-- a record or an array isn't assigned as a whole
abbrev pub is_whole : Mode-F Mode → Bool
is_whole (Mode-F.Record r) = true
is_whole (Mode-F.Array n m) = true
is_whole _ = false

-- a place and its mode, or its mode where the place can't be known
abbrev pub place_if : Bool → Place → Option Place
place_if known p = if known then Some p else None

abbrev pub assigned_is : At → Bool → Is → Outcome (Option Place × Mode)
assigned_is at known (place p m st) = if is_whole (out-Mode m) then Err (fault.NotAssignable at) else Ok (place_if known p, m)
assigned_is at known (loop k) = Err (fault.NotAssignable at)
assigned_is at known (brick k m) = Err (fault.NotAssignable at)
assigned_is at known _ = Err (fault.WrongMode at)

abbrev pub assigned : Judged → Outcome (Option Place × Mode)
assigned j = assigned_is j.found.at j.known j.found.is

-- the name of a brick with no link, whose mode isn't known or which has none
abbrev pub is_brick : Option Meaning → List Link → Bool
is_brick (Some (meaning.Data k)) [] = true
is_brick (Some (meaning.Stack k)) [] = true
is_brick (Some meaning.UnknownProc) [] = true
is_brick _ _ = false

-- the place that a chain, or VAL and a chain, assigns, and its mode
abbrev pub target : Sight → Chain → Outcome (Option Place × Mode)
target s c = if is_brick (find s (out-Chain c).name) (out-Chain c).links then Err (fault.NotAssignable (out-Chain c).at) else judged_chain s c >>= assigned

abbrev pub val_target : Sight → At → Chain → Outcome (Option Place × Mode)
val_target s at c = val at (judged_chain s c) >>= assigned

-- a chain that stands alone is a call
abbrev pub called_is : At → Is → Outcome Value
called_is at (result v m) = Ok v
called_is at (done v) = Ok v
called_is at _ = Err (fault.WrongMode at)

abbrev pub call_of : Judged → Outcome Value
call_of j = if_known j.known (called_is j.found.at j.found.is)

-- whether the last link is parentheses, as that of every call is
abbrev pub is_apply_link : Link-F Expr Link Chain → Bool
is_apply_link (Link-F.Apply es at) = true
is_apply_link _ = false

abbrev pub is_apply : Option Link → Bool
is_apply None = false
is_apply (Some l) = is_apply_link (out-Link l)

abbrev pub ends_in_apply : List Link → Bool
ends_in_apply ls = is_apply (slice_get ls (length ls - 1))

-- What can't be known is no call where it doesn't end in parentheses.
abbrev pub call_if : At → Bool → Outcome Judged → Outcome Value
call_if at ends (Ok j) = call_of j
call_if at true (Err g) = Err g
call_if at false (Err fault.Unknown) = Err (fault.WrongMode at)
call_if at false (Err g) = Err g

abbrev pub alone : Sight → Chain → Outcome Value
alone s c = call_if (out-Chain c).at (ends_in_apply (out-Chain c).links) (judged_chain s c)

-- ---- conditions

abbrev pub made_rel : Rel → MadeRel
made_rel rel.Equal = made.Equal
made_rel rel.Unequal = made.Unequal
made_rel rel.Less = made.Less
made_rel rel.LessOrEqual = made.LessOrEqual
made_rel rel.Greater = made.Greater
made_rel rel.GreaterOrEqual = made.GreaterOrEqual
made_rel rel.Same = made.Same
made_rel rel.Different = made.Different

-- the reference that a comparison of references wants, by its left side
abbrev pub place_compares : Mode → Mode-F Mode → Want
place_compares m (Mode-F.Ref n) = ref n
place_compares m (Mode-F.RefArray e) = row e
place_compares m (Mode-F.Array n e) = row e
place_compares m _ = ref m

abbrev pub result_compares : Mode-F Mode → Option Want
result_compares (Mode-F.Ref n) = Some (ref n)
result_compares (Mode-F.RefArray e) = Some (row e)
result_compares _ = None

abbrev pub reference_in : Is → Option Want
reference_in (text n) = Some (row mode.Byte)
reference_in (place p m st) = Some (place_compares m (out-Mode m))
reference_in (loop k) = Some (ref mode.Int)
reference_in (result v m) = result_compares (out-Mode m)
reference_in _ = None

-- what a relation wants of both sides, by its left side
abbrev pub compares : Rel → Is → Option Want
compares rel.Same is = reference_in is
compares rel.Different is = reference_in is
compares _ is = Some (basic (frac_or_int (base_in is)))

-- Where what is wanted can't be known the right side is judged by itself.
abbrev pub compare_by : Rel → Judged → Outcome Judged → Option Want → Outcome Test
compare_by r j b None = Err (sooner (fault.WrongMode j.found.at) (by_itself b))
compare_by r j b (Some w) = both (suits_as j w) (fits b w) >>= λ x. Ok (tests.Compare (made_rel r) x.0 x.1)

abbrev pub compare : Rel → Outcome Judged → Outcome Judged → Outcome Test
compare r (Ok j) b = compare_by r j b (compares r j.found.is)
compare r (Err g) b = Err (sooner g (by_itself b))

abbrev pub all_from : Outcome (List Test) → List (Outcome Test) → Outcome (List Test)
all_from so_far [] = so_far
all_from so_far (t ∷ ts) = all_from (after so_far t) ts

abbrev pub cond_step : Sight → Cond-F (Outcome Test) → Outcome Test
cond_step s (Cond-F.Or cs at) = all_from (Ok []) cs >>= λ ts. Ok (tests.Or ts)
cond_step s (Cond-F.And cs at) = all_from (Ok []) cs >>= λ ts. Ok (tests.And ts)
cond_step s (Cond-F.Compare r a b at) = compare r (judged s a) (judged s b)

-- the test that a condition is
unfoldable pub tested : Sight → Cond → Outcome Test
tested s = fold-Cond (Outcome Test) (cond_step s)
