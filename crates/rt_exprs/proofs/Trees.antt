-- What expressions, links, chains and conditions are, by their first level.
use Rattle.std.proofs.Common.{◌≡◌, ℕ, ◌+◌, ◌<◌, ◌≤◌, add-one, min, List, [], ◌∷◌, length, drop, get_or, Result, Ok, Err, ◌⊎◌, inl, inr, arith, Bool, true, false, map, refl, sym, ap, ◌∙◌, subst}
use Rattle.std.specs.Prelude.{nat_le}
use Rattle.std.proofs.lemmas.Bool.Decides.{nat_tests}
use Rattle.std.proofs.Math.Seq.{drop-cons}
use Rattle.std.proofs.lemmas.List.{drop_all}
use Rattle.rt_modes.specs.declared.mode.Mode.{Mode}
use Rattle.rt_tree_nodes.specs.declared.value.Value.{Value}
use Rattle.rt_check_faults.specs.declared.fault.CheckFault.{CheckFault}
use Rattle.rt_check_faults.specs.declared.fault.CheckFault.TheVariants.{Memory}
use Rattle.rt_check_faults.proofs.Joins.{told, given, free, sooner_left, sooner_told}
use Rattle.rt_grammar.specs.declared.at.At.{At}
use Rattle.rt_grammar.specs.declared.at.Ident.{Ident}
use Rattle.rt_syntax_exprs.specs.declared.tree.Op1.{Op1}
use Rattle.rt_syntax_exprs.specs.declared.tree.Op2.{Op2}
use Rattle.rt_syntax_exprs.specs.declared.tree.Expr.{Expr, out-Expr}
use Rattle.rt_syntax_exprs.specs.declared.tree.Expr as expressions
use Rattle.rt_syntax_exprs.specs.declared.tree.Expr.TheFolds.{fold_out-Expr, fold_out-Link, fold_out-Chain}
use Rattle.rt_syntax_exprs.specs.declared.tree.Expr.TheOpen.{Expr-F, Link-F}
use Rattle.rt_syntax_exprs.specs.declared.tree.Expr.TheVariants as expr
use Rattle.rt_syntax_exprs.specs.declared.tree.Chain.{Chain, out-Chain}
use Rattle.rt_syntax_exprs.specs.declared.tree.Link.{Link, out-Link}
use Rattle.rt_syntax_exprs.specs.declared.tree.Link as links
use Rattle.rt_syntax_exprs.specs.declared.tree.Link.TheVariants as link
use Rattle.rt_exprs.specs.Sights.{Sight}
use Rattle.rt_check_faults.specs.Outcomes.{Outcome, ◌>>=◌, Gives, UnlessMemory, sooner}
use Rattle.rt_exprs.specs.Operands.{Judged, judged_of, number, by_itself}
use Rattle.rt_syntax_exprs.specs.declared.tree.Cond.{Cond, out-Cond}
use Rattle.rt_syntax_exprs.specs.declared.tree.Cond as conditions
use Rattle.rt_syntax_exprs.specs.declared.tree.Cond.TheFolds.{fold_out-Cond}
use Rattle.rt_syntax_exprs.specs.declared.tree.Cond.TheOpen.{Cond-F}
use Rattle.rt_syntax_exprs.specs.declared.tree.Cond.TheVariants as cond
use Rattle.rt_syntax_exprs.specs.declared.tree.Rel.{Rel}
use Rattle.rt_tree_nodes.specs.declared.statement.Test.{Test}
use Rattle.rt_tree_nodes.specs.declared.statement.Test.TheVariants as tests
use Rattle.rt_exprs.specs.declared.operand.Operand.{Operand}
use Rattle.rt_exprs.specs.Names.{text_at, find}
use Rattle.rt_exprs.specs.Judging.{judged, linked, judged_chain, begun, seen_as, val, monadic, dyadic, dot_after, apply, apply_after, all_alone, apply_by, Reach, reach, chained, walk, arguments_from, tested, all_from, compare}

abbrev failed : CheckFault → Outcome Judged
failed g = Err g

-- ---- by what opens there

pub opened_number : (s : Sight) (e : Expr) (n : ℕ) (at : At) → out-Expr e ≡ Expr-F.Number n at → judged s e ≡ Ok (seen_as true at (number n))
unfolding judged
opened_number s e n at o = rw (fold_out-Expr, o) refl

pub opened_text : (s : Sight) (e : Expr) (t : List ℕ) (at : At) → out-Expr e ≡ Expr-F.Text t at → judged s e ≡ text_at s at
unfolding judged
opened_text s e t at o = rw (fold_out-Expr, o) refl

pub opened_chain : (s : Sight) (e : Expr) (c : Chain) → out-Expr e ≡ Expr-F.Chain c → judged s e ≡ judged_chain s c
unfolding judged judged_chain
opened_chain s e c o = rw (fold_out-Expr, o) refl

pub opened_val : (s : Sight) (e : Expr) (c : Chain) (at : At) → out-Expr e ≡ Expr-F.Val c at → judged s e ≡ val at (judged_chain s c)
unfolding judged judged_chain
opened_val s e c at o = rw (fold_out-Expr, o) refl

pub opened_monadic : (s : Sight) (e a : Expr) (op : Op1) (at : At) → out-Expr e ≡ Expr-F.Monadic op a at → judged s e ≡ monadic at op (judged s a)
unfolding judged
opened_monadic s e a op at o = rw (fold_out-Expr, o) refl

pub opened_dyadic : (s : Sight) (e a b : Expr) (op : Op2) (at : At) → out-Expr e ≡ Expr-F.Dyadic op a b at → judged s e ≡ dyadic at op (judged s a) (judged s b)
unfolding judged
opened_dyadic s e a b op at o = rw (fold_out-Expr, o) refl

pub opened_dot : (s : Sight) (l : Link) (name : Ident) (at : At) (f : Outcome Judged) → out-Link l ≡ Link-F.Dot name at → linked s l f ≡ dot_after s.records name at f
unfolding linked
opened_dot s l name at f o = rw (fold_out-Link, o) refl

pub opened_apply : (s : Sight) (l : Link) (es : List Expr) (at : At) (f : Outcome Judged) → out-Link l ≡ Link-F.Apply es at → linked s l f ≡ apply_after at (map (judged s) es) f
unfolding linked judged
opened_apply s l es at f o = rw (fold_out-Link, o) refl

-- ---- by the variant

pub judged_number : (s : Sight) (e : Expr) (n : ℕ) (at : At) → e ≡ expr.Number n at → judged s e ≡ Ok (seen_as true at (number n))
judged_number s e n at is = let o : out-Expr e ≡ Expr-F.Number n at = ap out-Expr is ∙ search expressions.the_lemmas in opened_number s e n at o

pub judged_text : (s : Sight) (e : Expr) (t : List ℕ) (at : At) → e ≡ expr.Text t at → judged s e ≡ text_at s at
judged_text s e t at is = let o : out-Expr e ≡ Expr-F.Text t at = ap out-Expr is ∙ search expressions.the_lemmas in opened_text s e t at o

pub judged_chained : (s : Sight) (e : Expr) (c : Chain) → e ≡ expr.Chain c → judged s e ≡ judged_chain s c
judged_chained s e c is = let o : out-Expr e ≡ Expr-F.Chain c = ap out-Expr is ∙ search expressions.the_lemmas in opened_chain s e c o

pub judged_val : (s : Sight) (e : Expr) (c : Chain) (at : At) → e ≡ expr.Val c at → judged s e ≡ val at (judged_chain s c)
judged_val s e c at is = let o : out-Expr e ≡ Expr-F.Val c at = ap out-Expr is ∙ search expressions.the_lemmas in opened_val s e c at o

pub judged_monadic : (s : Sight) (e a : Expr) (op : Op1) (at : At) → e ≡ expr.Monadic op a at → judged s e ≡ monadic at op (judged s a)
judged_monadic s e a op at is = let o : out-Expr e ≡ Expr-F.Monadic op a at = ap out-Expr is ∙ search expressions.the_lemmas in opened_monadic s e a op at o

pub judged_dyadic : (s : Sight) (e a b : Expr) (op : Op2) (at : At) → e ≡ expr.Dyadic op a b at → judged s e ≡ dyadic at op (judged s a) (judged s b)
judged_dyadic s e a b op at is = let o : out-Expr e ≡ Expr-F.Dyadic op a b at = ap out-Expr is ∙ search expressions.the_lemmas in opened_dyadic s e a b op at o

pub linked_dot : (s : Sight) (l : Link) (name : Ident) (at : At) (f : Outcome Judged) → l ≡ link.Dot name at → linked s l f ≡ dot_after s.records name at f
linked_dot s l name at f is = let o : out-Link l ≡ Link-F.Dot name at = ap out-Link is ∙ search links.the_lemmas in opened_dot s l name at f o

pub linked_apply : (s : Sight) (l : Link) (es : List Expr) (at : At) (f : Outcome Judged) → l ≡ link.Apply es at → linked s l f ≡ apply_after at (map (judged s) es) f
linked_apply s l es at f is = let o : out-Link l ≡ Link-F.Apply es at = ap out-Link is ∙ search links.the_lemmas in opened_apply s l es at f o

pub chain_as : (s : Sight) (c : Chain) → judged_chain s c ≡ chained s (out-Chain c).name (out-Chain c).at (map (linked s) (out-Chain c).links)
unfolding judged_chain linked
chain_as s c = rw fold_out-Chain refl

-- ---- chains, link by link

unless_map : (f : CheckFault) (P Q : Type 0) → (P → Q) → UnlessMemory f P → UnlessMemory f Q
unless_map f P Q go h = elim (told f P h) [
  | inl m ↦ subst (λ (g : CheckFault). UnlessMemory g Q) (sym m) tt
  | inr p ↦ given f Q (go p)
]

pub chain_ends : (s : Sight) (c : Chain) (items : List Link) (i : ℕ) (first t : Outcome Judged) → begun (out-Chain c).at (find s (out-Chain c).name) ≡ first → items ≡ (out-Chain c).links
    → walk (map (linked s) (drop i items)) t ≡ walk (map (linked s) items) first → length items ≤ i → judged_chain s c ≡ t
chain_ends s c items i first t is items-are kept short = chain_as s c ∙ rw (is, ← items-are) (sym kept ∙ ends) where
  ends : walk (map (linked s) (drop i items)) t ≡ t
  ends = rw (drop_all i items short) refl

-- ---- arguments

-- the lesser of two numbers is one of them
lesser : (a b : ℕ) (c : Bool) → nat_le a b ≡ c → (i : ℕ) → min a b ≤ i → (a ≤ i) ⊎ (b ≤ i)
lesser a b true e i h = inl (grind (arith, nat_tests))
lesser a b false e i h = inr (grind (arith, nat_tests))

leq_or_leq : (a i b : ℕ) → min a b ≤ i → (a ≤ i) ⊎ (b ≤ i)
leq_or_leq a i b h = lesser a b (nat_le a b) refl i h

no_arguments : (o : Outcome (List Value)) (ms : List Mode) → arguments_from o [] ms ≡ o
no_arguments o ms = refl

pub no_parameters : (o : Outcome (List Value)) (ts : List (Outcome Judged)) → arguments_from o ts [] ≡ o
no_parameters o [] = refl
no_parameters o (t ∷ ts) = refl

pub arguments_end : (f : Expr → Outcome Judged) (es : List Expr) (ms : List Mode) (i : ℕ) (o : Outcome (List Value)) → min (length es) (length ms) ≤ i → arguments_from o (map f (drop i es)) (drop i ms) ≡ o
arguments_end f es ms i o h = elim (leq_or_leq (length es) i (length ms) h) [
  | inl e ↦ rw (drop_all i es e) refl
  | inr m ↦ rw (drop_all i ms m) (no_parameters o (map f (drop i es)))
]

-- ---- parentheses

pub reached_as : (at : At) (ts : List (Outcome Judged)) (j : Judged) (r : Reach) (x : Result Operand CheckFault) → reach j.found.is ≡ r → Gives judged_of x (apply_by at ts j.found.at j.known r) → Gives judged_of x (apply at ts j)
reached_as at ts j r x e h = subst (λ (q : Reach). Gives judged_of x (apply_by at ts j.found.at j.known q)) (sym e) h

-- ---- conditions

pub opened_or : (s : Sight) (c : Cond) (cs : List Cond) (at : At) → out-Cond c ≡ Cond-F.Or cs at → tested s c ≡ (all_from (Ok []) (map (tested s) cs) >>= λ ts. Ok (tests.Or ts))
unfolding tested
opened_or s c cs at o = rw (fold_out-Cond, o) refl

pub opened_and : (s : Sight) (c : Cond) (cs : List Cond) (at : At) → out-Cond c ≡ Cond-F.And cs at → tested s c ≡ (all_from (Ok []) (map (tested s) cs) >>= λ ts. Ok (tests.And ts))
unfolding tested
opened_and s c cs at o = rw (fold_out-Cond, o) refl

pub opened_compare : (s : Sight) (c : Cond) (r : Rel) (a b : Expr) (at : At) → out-Cond c ≡ Cond-F.Compare r a b at → tested s c ≡ compare r (judged s a) (judged s b)
unfolding tested
opened_compare s c r a b at o = rw (fold_out-Cond, o) refl

pub tested_or : (s : Sight) (c : Cond) (cs : List Cond) (at : At) → c ≡ cond.Or cs at → tested s c ≡ (all_from (Ok []) (map (tested s) cs) >>= λ ts. Ok (tests.Or ts))
tested_or s c cs at is = let o : out-Cond c ≡ Cond-F.Or cs at = ap out-Cond is ∙ search conditions.the_lemmas in opened_or s c cs at o

pub tested_and : (s : Sight) (c : Cond) (cs : List Cond) (at : At) → c ≡ cond.And cs at → tested s c ≡ (all_from (Ok []) (map (tested s) cs) >>= λ ts. Ok (tests.And ts))
tested_and s c cs at is = let o : out-Cond c ≡ Cond-F.And cs at = ap out-Cond is ∙ search conditions.the_lemmas in opened_and s c cs at o

pub tested_compare : (s : Sight) (c : Cond) (r : Rel) (a b : Expr) (at : At) → c ≡ cond.Compare r a b at → tested s c ≡ compare r (judged s a) (judged s b)
tested_compare s c r a b at is = let o : out-Cond c ≡ Cond-F.Compare r a b at = ap out-Cond is ∙ search conditions.the_lemmas in opened_compare s c r a b at o

module _ (s : Sight) (c : Cond) (cs given_cs : List Cond) (at : At) (are : given_cs ≡ cs) where
  module _ (is : c ≡ cond.Or cs at) where
    pub or_ok : (ts : List Test) → all_from (Ok []) (map (tested s) given_cs) ≡ Ok ts → tested s c ≡ Ok (tests.Or ts)
    or_ok ts e = rw (tested_or s c cs at is, ← are, e) refl

    pub or_err : (g : CheckFault) → UnlessMemory g (all_from (Ok []) (map (tested s) given_cs) ≡ Err g) → UnlessMemory g (tested s c ≡ Err g)
    or_err g h = unless_map g (all_from (Ok []) (map (tested s) given_cs) ≡ Err g) (tested s c ≡ Err g) (λ e. rw (tested_or s c cs at is, ← are, e) refl) h

  module _ (is : c ≡ cond.And cs at) where
    pub and_ok : (ts : List Test) → all_from (Ok []) (map (tested s) given_cs) ≡ Ok ts → tested s c ≡ Ok (tests.And ts)
    and_ok ts e = rw (tested_and s c cs at is, ← are, e) refl

    pub and_err : (g : CheckFault) → UnlessMemory g (all_from (Ok []) (map (tested s) given_cs) ≡ Err g) → UnlessMemory g (tested s c ≡ Err g)
    and_err g h = unless_map g (all_from (Ok []) (map (tested s) given_cs) ≡ Err g) (tested s c ≡ Err g) (λ e. rw (tested_and s c cs at is, ← are, e) refl) h

-- ---- links, by what stands before them

pub follow_apply : (s : Sight) (l : Link) (es items : List Expr) (at : At) (o : Result Operand CheckFault) (p : Operand) (t : Outcome Judged) (r : Result Operand CheckFault) → l ≡ link.Apply es at → items ≡ es → o ≡ Ok p → Gives judged_of o t
    → Gives judged_of r (apply at (map (judged s) items) (judged_of p)) → Gives judged_of r (linked s l t)
follow_apply s l es items at o p t r is lent ok h k =
    let known : t ≡ Ok (judged_of p) = subst (λ (x : Result Operand CheckFault). Gives judged_of x t) ok h in
    let whole : linked s l t ≡ apply at (map (judged s) items) (judged_of p) = linked_apply s l es at t is ∙ ap (apply_after at (map (judged s) es)) known ∙ ap (λ (xs : List Expr). apply at (map (judged s) xs) (judged_of p)) (sym lent) in
    subst (λ (x : Outcome Judged). Gives judged_of r x) (sym whole) k

-- want of memory goes before every fault
alone_memory : (ts : List (Outcome Judged)) → all_alone Memory ts ≡ Memory
alone_memory [] = refl
alone_memory (t ∷ ts) = ap (λ (g : CheckFault). all_alone g ts) (sooner_left (by_itself t)) ∙ alone_memory ts

pub follow_alone : (s : Sight) (l : Link) (es items : List Expr) (at : At) (o : Result Operand CheckFault) (f a : CheckFault) (t : Outcome Judged) → l ≡ link.Apply es at → items ≡ es → o ≡ Err f → Gives judged_of o t
    → UnlessMemory a (a ≡ all_alone f (map (judged s) items)) → UnlessMemory a (linked s l t ≡ Err a)
follow_alone s l es items at o f a t is lent bad h k =
    let stands : UnlessMemory f (t ≡ Err f) = subst (λ (x : Result Operand CheckFault). Gives judged_of x t) bad h in
    elim (told a (a ≡ all_alone f (map (judged s) items)) k) [
      | inl m ↦ free a (linked s l t ≡ Err a) m
      | inr e ↦ elim (told f (t ≡ Err f) stands) [
        | inl m ↦ free a (linked s l t ≡ Err a) (e ∙ ap (λ (g : CheckFault). all_alone g (map (judged s) items)) m ∙ alone_memory (map (judged s) items))
        | inr d ↦ given a (linked s l t ≡ Err a)
            (linked_apply s l es at t is ∙ ap (apply_after at (map (judged s) es)) d ∙ ap (λ (xs : List Expr). failed (all_alone f (map (judged s) xs))) (sym lent) ∙ ap failed (sym e))
      ]
    ]

-- one more expression that is judged by itself
pub alone_next : (s : Sight) (es : List Expr) (i : ℕ) (e : Expr) (first b new g total : CheckFault) → i < length es → e ≡ get_or es i e → UnlessMemory first (first ≡ g) → UnlessMemory b (b ≡ by_itself (judged s e)) → new ≡ sooner first b
    → all_alone g (map (judged s) (drop i es)) ≡ total → (x : CheckFault) × UnlessMemory new (new ≡ x) × (all_alone x (map (judged s) (drop (i + 1) es)) ≡ total)
alone_next s es i e first b new g total lt is h k made kept = (
  sooner g (by_itself (judged s e)),
  subst (λ (n : CheckFault). UnlessMemory n (n ≡ sooner g (by_itself (judged s e)))) (sym made) (sooner_told first b g (by_itself (judged s e)) h k),
  sym (ap (λ (xs : List Expr). all_alone g (map (judged s) xs)) next) ∙ kept,
) where
  next : drop i es ≡ e ∷ drop (i + 1) es
  next = rw (add-one, drop-cons es i e lt, ← is) refl
