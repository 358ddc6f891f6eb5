-- What is counted and noted only grows.
use Rattle.std.proofs.Common.{◌≡◌, ℕ, Bool, true, false, List, [], ◌∷◌, ◌++◌, map, Option, Some, None, Ok, Err, append_assoc, refl, sym, ap, ◌∙◌}
use Rattle.std.proofs.lemmas.List.{append-nil}
use Rattle.rt_grammar.specs.declared.at.Ident.{Ident}
use Rattle.rt_syntax_exprs.specs.declared.tree.Expr.{Expr}
use Rattle.rt_modes.specs.declared.mode.Mode.{Mode}
use Rattle.rt_syntax.specs.declared.tree.Control.{Control}
use Rattle.rt_syntax.specs.declared.tree.Local.{Local}
use Rattle.rt_syntax.specs.declared.tree.Locals.{Locals}
use Rattle.rt_tree_nodes.specs.declared.brick.Local.{Local as Made}
use Rattle.rt_tree_nodes.specs.declared.statement.Branch.{Branch as BranchMade}
use Rattle.rt_tree_nodes.specs.declared.statement.Labelled.{Labelled}
use Rattle.rt_tree_nodes.specs.declared.value.Value.{Value}
use Rattle.rt_check_faults.specs.declared.fault.CheckFault.{CheckFault}
use Rattle.rt_check_faults.specs.declared.fault.CheckFault.TheVariants as fault
use Rattle.rt_check_faults.specs.Outcomes.{Outcome}
use Rattle.rt_check_bodies.specs.declared.tally.Tally.{Tally}
use Rattle.rt_check_bodies.specs.Parts.{Part, it_is, ◌>>=◌, noted, noted_known, noted_if, with_local, next_local, number_next, found_or, label_or, mode_or, three_locals, label_more, labels_more, labels_in, numbers_from}
use Rattle.rt_exprs.specs.Sights.{Names, Sight, within}
use Rattle.rt_check_bodies.specs.Sights.{label_in, value_in, alone_in}
use Rattle.rt_check_bodies.specs.Statements.{Line, Declared, labels_of, in_order, sequence, any_sequence, labels_at, labelled, int_in, any_int_in, start_in, start_alone, placed, local_more, locals_more, line_more, declarations, JudgedBranch, branches, bounds_in, for_loop, to_loop, goto, switch}

pub record Pre {A : Type 0} (xs ys : List A) : Type 0 where
  pub more : List A
  pub is : ys ≡ xs ++ more

pub pre_same : {A : Type 0} (xs : List A) → Pre xs xs
pre_same xs = record { more = []; is = sym (append-nil xs) }

pub pre_then : {A : Type 0} {xs ys zs : List A} → Pre xs ys → Pre ys zs → Pre xs zs
pre_then {A = A} {xs = xs} a b = record { more = a.more ++ b.more; is = b.is ∙ ap (λ (l : List A). l ++ b.more) a.is ∙ append_assoc xs a.more b.more }

pre_one : {A : Type 0} (xs : List A) (x : A) → Pre xs (xs ++ x ∷ [])
pre_one xs x = record { more = x ∷ []; is = refl }

pub pre_none : {A : Type 0} (xs ys : List A) → ys ≡ [] → Pre xs ys → xs ≡ []
pre_none [] ys e p = refl
pre_none (x ∷ xs) ys e p = absurd (let bad : [] ≡ x ∷ (xs ++ p.more) = sym e ∙ p.is in cc)

pub record Grew (t u : Tally) : Type 0 where
  pub locals : Pre t.locals u.locals
  pub faults : Pre t.faults u.faults

abbrev pub Growing : {A : Type 0} → Part A → Type 0
Growing p = (t : Tally) → Grew t (p t).1

pub grew_same : (t : Tally) → Grew t t
grew_same t = record { locals = pre_same t.locals; faults = pre_same t.faults }

pub grew_then : {t u v : Tally} → Grew t u → Grew u v → Grew t v
grew_then a b = record { locals = pre_then a.locals b.locals; faults = pre_then a.faults b.faults }

pub grow_is : {A : Type 0} (x : A) → Growing (it_is x)
grow_is x t = grew_same t

pub grow_then : {A B : Type 0} (p : Part A) (f : A → Part B) → Growing p → ((x : A) → Growing (f x)) → Growing (p >>= f)
grow_then p f g h t = grew_then (g t) (h (p t).0 (p t).1)

grew_noted : (g : CheckFault) (t : Tally) → Grew t (noted g t)
grew_noted g t = record { locals = pre_same t.locals; faults = pre_one t.faults g }

-- what can't be known isn't noted
pub grew_known : (g : CheckFault) (t : Tally) → Grew t (noted_known g t)
grew_known fault.Unknown t = grew_same t
grew_known fault.Memory t = grew_noted fault.Memory t
grew_known (fault.UnknownName at) t = grew_noted (fault.UnknownName at) t
grew_known (fault.WrongMode at) t = grew_noted (fault.WrongMode at) t
grew_known (fault.NotAssignable at) t = grew_noted (fault.NotAssignable at) t
grew_known (fault.WrongCount at) t = grew_noted (fault.WrongCount at) t
grew_known (fault.RefOfLocal at) t = grew_noted (fault.RefOfLocal at) t
grew_known (fault.LeftOut form at) t = grew_noted (fault.LeftOut form at) t
grew_known (fault.DeclaredTwice at) t = grew_noted (fault.DeclaredTwice at) t
grew_known (fault.BadStart at) t = grew_noted (fault.BadStart at) t
grew_known (fault.UnknownLabel at) t = grew_noted (fault.UnknownLabel at) t
grew_known (fault.NoResult at) t = grew_noted (fault.NoResult at) t

pub known_locals : (g : CheckFault) (t : Tally) → (noted_known g t).locals ≡ t.locals
known_locals fault.Unknown t = refl
known_locals _ t = refl

pub known_labels : (g : CheckFault) (t : Tally) → (noted_known g t).labels ≡ t.labels
known_labels fault.Unknown t = refl
known_labels _ t = refl

grew_noted_if : (b : Bool) (g : CheckFault) (t : Tally) → Grew t (noted_if b g t)
grew_noted_if true g t = grew_noted g t
grew_noted_if false g t = grew_same t

grew_local : (l : Made) (t : Tally) → Grew t (with_local l t)
grew_local l t = record { locals = pre_one t.locals l; faults = pre_same t.faults }

pub grow_found : {A : Type 0} (other : A) (o : Outcome A) → Growing (found_or other o)
grow_found other (Ok x) t = grew_same t
grow_found other (Err g) t = grew_known g t

pub grow_mode : (o : Outcome Mode) → Growing (mode_or o)
grow_mode (Ok m) t = grew_same t
grow_mode (Err g) t = grew_noted g t

pub grow_number : Growing number_next
grow_number t = grew_same t

pub grow_three : Growing three_locals
grow_three t = grew_then (grew_local _ t) (grew_then (grew_local _ _) (grew_local _ _))

-- ---- labels

pub grow_label : (l : Names) (n : Ident) → Growing (label_more l n)
grow_label l n t = record { locals = (grew_noted_if _ _ t).locals; faults = (grew_noted_if _ _ t).faults }

pub grow_labels : (l : Names) (ns : List Ident) → Growing (labels_more l ns)
grow_labels l [] = grow_is l
grow_labels l (n ∷ ns) = grow_then (label_more l n) (λ more. labels_more more ns) (grow_label l n) (λ more. grow_labels more ns)

pub grow_labels_of : (l : Names) (nss : List (List Ident)) → Growing (labels_of l nss)
grow_labels_of l [] = grow_is l
grow_labels_of l (ns ∷ nss) = grow_then (labels_more l ns) (λ more. labels_of more nss) (grow_labels l ns) (λ more. grow_labels_of more nss)

pub grow_labels_in : (s : Sight) (done : List ℕ) (ns : List Ident) → Growing (labels_in s done ns)
grow_labels_in s done [] = grow_is done
grow_labels_in s done (n ∷ ns) = grow_then (label_or (label_in s n)) (λ l. labels_in s (done ++ l ∷ []) ns) (grow_found 0 (label_in s n)) (λ l. grow_labels_in s (done ++ l ∷ []) ns)

-- ---- values and locals

pub grow_int : (s : Sight) (e : Expr) → Growing (int_in s e)
grow_int s e t = grow_found _ _ t

pub grow_any_int : (s : Sight) (e : Option Expr) → Growing (any_int_in s e)
grow_any_int s None = grow_is {A = Option Value} None
grow_any_int s (Some e) = grow_then (int_in s e) (λ x. it_is (Some x)) (grow_int s e) (λ x. grow_is (Some x))

pub grow_start : (s : Sight) (n : Ident) (m : Mode) (e : Option Expr) → Growing (start_in s n m e)
grow_start s n m None t = grew_noted_if _ _ t
grow_start s n m (Some e) t = grew_then (grow_found _ (value_in s e m) t) (grew_same _)

pub grow_placed : (k : ℕ) (m : Mode) (x : Option Value) (d : Declared) (n : Local) → Growing (placed k m x d n)
grow_placed k m x d n t = grew_then (grew_noted_if _ _ t) (grew_local _ _)

grew_alone : (s : Sight) (e : Option Expr) (t : Tally) → Grew t (start_alone s e t)
grew_alone s None t = grew_same t
grew_alone s (Some e) t = grew_known (alone_in s e) t

pub grow_local : (m : Outcome Mode) (d : Declared) (n : Local) → Growing (local_more m d n)
grow_local (Err g) d n t = grew_then (grew_alone d.sight n.start t) (grew_noted_if _ _ _)
grow_local (Ok m) d n t =
    let u : Option Value × Tally = start_in d.sight n.name m n.start t in
    grew_then (grow_start d.sight n.name m n.start t) (grow_placed (next_local u.1) m u.0 d n u.1)

pub grow_locals : (m : Outcome Mode) (d : Declared) (ns : List Local) → Growing (locals_more m d ns)
grow_locals m d [] = grow_is d
grow_locals m d (n ∷ ns) = grow_then (local_more m d n) (λ more. locals_more m more ns) (grow_local m d n) (λ more. grow_locals m more ns)

pub grow_line : (d : Declared) (l : Locals) → Growing (line_more d l)
grow_line d l t = grew_then (grow_mode _ t) (grow_locals _ d l.names _)

pub grow_declarations : (d : Declared) (ls : List Locals) → Growing (declarations d ls)
grow_declarations d [] = grow_is d
grow_declarations d (l ∷ ls) = grow_then (line_more d l) (λ more. declarations more ls) (grow_line d l) (λ more. grow_declarations more ls)

-- ---- sequences and statements

abbrev pub LineGrows : Line → Type 0
LineGrows x = (s : Sight) → Growing (x.part s)

abbrev pub LinesGrow : List Line → Type 0
LinesGrow [] = Unit {0}
LinesGrow (x ∷ xs) = LineGrows x × LinesGrow xs

pub grow_order : (s : Sight) (k : ℕ) (done : List Labelled) (xs : List Line) → LinesGrow xs → Growing (in_order s k done xs)
grow_order s k done [] h t = grew_same t
grow_order s k done (x ∷ xs) h t =
    grew_then (h.0 s t) (grow_order s (numbers_from [] k x.labels).1 (done ++ labelled (numbers_from [] k x.labels).0 (x.part s t).0 ∷ []) xs h.1 (x.part s t).1)

pub grow_sequence : (s : Sight) (xs : List Line) → LinesGrow xs → Growing (sequence s xs)
grow_sequence s xs h t =
    let u : Names × Tally = labels_of [] (map labels_at xs) t in
    grew_then (grow_labels_of [] (map labels_at xs) t) (grow_order (within u.0 s) t.labels [] xs h u.1)

pub grow_any_sequence : (s : Sight) (xs : Option (List Line)) → ((ys : List Line) → xs ≡ Some ys → LinesGrow ys) → Growing (any_sequence s xs)
grow_any_sequence s None h = grow_is {A = Option (List Labelled)} None
grow_any_sequence s (Some xs) h = grow_then (sequence s xs) (λ ys. it_is (Some ys)) (grow_sequence s xs (h xs refl)) (λ ys. grow_is (Some ys))

abbrev pub BranchGrows : JudgedBranch → Type 0
BranchGrows b = (s : Sight) → Growing (b s)

abbrev pub BranchesGrow : List JudgedBranch → Type 0
BranchesGrow [] = Unit {0}
BranchesGrow (b ∷ bs) = BranchGrows b × BranchesGrow bs

pub grow_branches : (s : Sight) (done : List BranchMade) (bs : List JudgedBranch) → BranchesGrow bs → Growing (branches s done bs)
grow_branches s done [] h = grow_is done
grow_branches s done (b ∷ bs) h = grow_then (b s) (λ x. branches s (done ++ x ∷ []) bs) (h.0 s) (λ x. grow_branches s (done ++ x ∷ []) bs h.1)

pub grow_bounds : (s : Sight) (c : Control) (limit : Expr) → Growing (bounds_in s c limit)
grow_bounds s c limit t = grew_then (grow_int s c.start t) (grew_then (grow_any_int s c.step _) (grew_then (grow_int s limit _) (grew_same _)))

pub grow_for : (s : Sight) (c : Control) (limit : Expr) (xs : List Line) → LinesGrow xs → Growing (for_loop s c limit xs)
grow_for s c limit xs h t = grew_then (grow_bounds s c limit t) (grew_then (grow_three _) (grew_then (grow_sequence _ xs h _) (grew_same _)))

pub grow_to : (s : Sight) (limit : Expr) (xs : List Line) → LinesGrow xs → Growing (to_loop s limit xs)
grow_to s limit xs h t = grew_then (grow_int s limit t) (grew_then (grow_three _) (grew_then (grow_sequence _ xs h _) (grew_same _)))

pub grow_goto : (s : Sight) (n : Ident) → Growing (goto s n)
grow_goto s n t = grew_then (grow_found 0 (label_in s n) t) (grew_same _)

pub grow_switch : (s : Sight) (e : Expr) (ns : List Ident) → Growing (switch s e ns)
grow_switch s e ns t = grew_then (grow_int s e t) (grew_then (grow_labels_in s [] ns _) (grew_same _))
