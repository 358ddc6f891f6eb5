-- Rows that are put together from the right, taken apart at their ends.
use Rattle.std.proofs.Common.{◌≡◌, ℕ, ◌<◌, List, [], ◌∷◌, ◌++◌, map, length, Option, Some, None, option_map, refl, sym, ap, ◌∙◌, arith}
use Rattle.rt_tree_nodes.specs.declared.statement.LocalStart.{LocalStart}
use Rattle.rt_tree_nodes.specs.declared.statement.Labelled.{Labelled, out-Labelled}
use Rattle.rt_tree_nodes.specs.declared.statement.Stat.{Stat}
use Rattle.rt_tree_nodes.specs.declared.statement.Stat.TheFolds.{fold_out-Labelled}
use Rattle.rt_tree_nodes.specs.declared.statement.Test.{Test, out-Test}
use Rattle.rt_tree_nodes.specs.declared.statement.Test as test_tests
use Rattle.rt_tree_nodes.specs.declared.statement.Test.TheFolds.{fold_out-Test}
use Rattle.rt_tree_nodes.specs.declared.statement.Test.TheOpen.{Test-F}
use Rattle.rt_tree_nodes.specs.declared.statement.Test.TheVariants as tests
use Rattle.rt_tree_nodes.specs.declared.value.Value.{Value}
use Rattle.rt_tree_nodes.specs.Scopes.{Scope}
use Rattle.rt_tree.specs.Statements.{joined_by, labelled_tree, marks, sequence_tree, if_tree, branches_tree, starts_tree, tested}
use Rattle.rt_tree_nodes.specs.Tree.{NoTerm, MoreTerms, Cond, Both, Either, Seq, Done, Then, Mark}
use Rattle.rt_tree_nodes.specs.Typing.{terms_of, valued}
use Rattle.rt_resolve.specs.declared.join.Joins.{Joins}
use Rattle.rt_resolve.specs.declared.join.Joins.TheVariants as joins
use Rattle.rt_resolve.specs.Trees.{build, joining, joined_tests, after_row, after_branch, value_tree, test_tree, start_statement, stat, row_tree, line_tree}

pub built_last : {A B C : Type 0} (f : B → C → C) (g : A → B) (xs : List A) (x : A) (q : C) → build f (map g (xs ++ x ∷ [])) q ≡ build f (map g xs) (f (g x) q)
built_last f g [] x q = refl
built_last f g (y ∷ xs) x q = rw (built_last f g xs x q) refl

pub marks_last : (ls : List ℕ) (l : ℕ) (q : Seq) → marks (ls ++ l ∷ []) q ≡ marks ls (Mark l q)
marks_last [] l q = refl
marks_last (k ∷ ls) l q = rw (marks_last ls l q) refl

pub tests_last : {A : Type 0} (k : Joins) (g : A → Cond) (xs : List A) (x : A) → joined_tests k (map g (xs ++ x ∷ [])) ≡ build (joining k) (map g xs) (g x)
tests_last k g [] x = refl
tests_last k g (y ∷ []) x = refl
tests_last k g (y ∷ z ∷ xs) x = rw (tests_last k g (z ∷ xs) x) refl

branches_more : {A : Type 0} (g : A → Cond × Seq) (xs : List A) (x : A) (e : Seq) → branches_tree (map g (xs ++ x ∷ [])) e ≡ branches_tree (map g xs) (after_branch (g x) e)
branches_more g [] x e = refl
branches_more g (y ∷ xs) x e = rw (branches_more g xs x e) refl

pub branches_last : {A : Type 0} (g : A → Cond × Seq) (xs : List A) (x : A) (e : Seq) → 0 < length xs → if_tree (map g (xs ++ x ∷ [])) e ≡ if_tree (map g xs) (after_branch (g x) e)
branches_last g [] x e h = absurd (grind arith)
branches_last g (y ∷ xs) x e h = rw (branches_more g xs x e) refl

pub arguments_built : (c : Scope) (vs : List Value) → build MoreTerms (map (value_tree c) vs) NoTerm ≡ terms_of (map (valued c) vs)
arguments_built c [] = refl
arguments_built c (v ∷ vs) = rw (arguments_built c vs) refl

pub and_built : (c : Scope) (ts : List Test) → joined_tests joins.And (map (test_tree c) ts) ≡ joined_by Both (map (tested c) ts)
and_built c [] = refl
and_built c (t ∷ []) = refl
and_built c (t ∷ u ∷ ts) = rw (and_built c (u ∷ ts)) refl

pub or_built : (c : Scope) (ts : List Test) → joined_tests joins.Or (map (test_tree c) ts) ≡ joined_by Either (map (tested c) ts)
or_built c [] = refl
or_built c (t ∷ []) = refl
or_built c (t ∷ u ∷ ts) = rw (or_built c (u ∷ ts)) refl

pub starts_built : (c : Scope) (ds : List LocalStart) (q : Seq) → build Then (map (start_statement c) ds) q ≡ starts_tree c ds q
starts_built c [] q = refl
starts_built c (d ∷ ds) q = rw (starts_built c ds q) refl

opened_by : (c : Scope) (ls : List ℕ) (o : Option Stat) (q : Seq) → line_tree c (record { labels = ls; stat = o }) q ≡ labelled_tree ls (option_map (stat c) o) q
opened_by c ls None q = rw fold_out-Labelled refl
opened_by c ls (Some s) q = rw fold_out-Labelled refl

line_opened : (c : Scope) (x : Labelled) (q : Seq) → line_tree c x q ≡ after_row (row_tree c x) q
line_opened c x q = opened_by c (out-Labelled x).labels (out-Labelled x).stat q

pub rows_built : (c : Scope) (xs : List Labelled) → build after_row (map (row_tree c) xs) Done ≡ sequence_tree (map (line_tree c) xs)
rows_built c [] = refl
rows_built c (x ∷ xs) = ap (λ q. after_row (row_tree c x) q) (rows_built c xs) ∙ sym (line_opened c x (sequence_tree (map (line_tree c) xs)))

and_opened : (c : Scope) (t : Test) (ts : List Test) → out-Test t ≡ Test-F.And ts → (tested c t).tree ≡ joined_by Both (map (tested c) ts)
and_opened c t ts o = rw (fold_out-Test, o) refl

or_opened : (c : Scope) (t : Test) (ts : List Test) → out-Test t ≡ Test-F.Or ts → (tested c t).tree ≡ joined_by Either (map (tested c) ts)
or_opened c t ts o = rw (fold_out-Test, o) refl

pub and_tree : (c : Scope) (t : Test) (ts given : List Test) (made : List Cond) → t ≡ tests.And ts → given ≡ ts → made ≡ map (test_tree c) given → joined_tests joins.And made ≡ (tested c t).tree
and_tree c t ts given made is are e =
    let o : out-Test t ≡ Test-F.And ts = ap out-Test is ∙ search test_tests.the_lemmas in
    rw (e, are) (and_built c ts ∙ sym (and_opened c t ts o))

pub or_tree : (c : Scope) (t : Test) (ts given : List Test) (made : List Cond) → t ≡ tests.Or ts → given ≡ ts → made ≡ map (test_tree c) given → joined_tests joins.Or made ≡ (tested c t).tree
or_tree c t ts given made is are e =
    let o : out-Test t ≡ Test-F.Or ts = ap out-Test is ∙ search test_tests.the_lemmas in
    rw (e, are) (or_built c ts ∙ sym (or_opened c t ts o))
