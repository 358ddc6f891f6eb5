-- Lines behind lines.
use Rattle.std.proofs.Common.{◌≡◌, ℕ, zero, suc, ◌+◌, ◌<◌, List, [], ◌∷◌, ◌++◌, length, map, refl, sym, ap, ◌∙◌, append_assoc, arith, length-append, replicate, subst, get_or, drop, drop-cons, add-one, Option, Some, None}
use Rattle.std.specs.Prelude.{slice_get, slice_index}
use Rattle.pdp_code.specs.declared.instruction.SingleOp.TheVariants.{Clr}
use Rattle.pdp_code.specs.Code.{more_words, words_of}
use Rattle.rt_templates.specs.declared.code.ProcCode.{ProcCode}
use Rattle.rt_templates.specs.declared.line.Line.{Line}
use Rattle.rt_templates.specs.Lines.{words, marks, relocations, hole_at, after, quiet, on, put}

abbrev NoneOnly : {A : Type 0} → Option A → Type 0
NoneOnly None = Unit {0}
NoneOnly (Some x) = ⊥

pub none_some : {A B : Type 0} {a : A} → None ≡ Some a → B
none_some {A = A} {B = B} e = elim (subst (λ (o : Option A). NoneOnly o) e tt) [ ]

pub append_nil : {A : Type 0} (xs : List A) → xs ++ [] ≡ xs
append_nil [] = refl
append_nil (x ∷ xs) = ap (λ v. x ∷ v) (append_nil xs)

pub words_append : (xs ys : List Line) → words (xs ++ ys) ≡ words xs ++ words ys
words_append [] ys = refl
words_append (l ∷ xs) ys = ap (λ v. words_of l.instr ++ v) (words_append xs ys) ∙ sym (append_assoc (words_of l.instr) (words xs) (words ys))

marks_append : (xs ys : List Line) → marks (xs ++ ys) ≡ marks xs ++ marks ys
marks_append [] ys = refl
marks_append (l ∷ xs) ys = ap (λ v. (l.mark ∷ map (λ _. 0) (more_words l.instr)) ++ v) (marks_append xs ys) ∙ sym (append_assoc (l.mark ∷ map (λ _. 0) (more_words l.instr)) (marks xs) (marks ys))

relocations_append : (at n : ℕ) (xs ys : List Line) → n ≡ at + length (words xs) → relocations at (xs ++ ys) ≡ relocations at xs ++ relocations n ys
relocations_append at n [] ys e = ap (λ k. relocations k ys) (omega arith)
relocations_append at n (l ∷ xs) ys e =
    let far : n ≡ (at + length (words_of l.instr)) + length (words xs) = omega (arith, length-append (words_of l.instr) (words xs)) in
    ap (λ v. hole_at at l.hole ++ v) (relocations_append (at + length (words_of l.instr)) n xs ys far) ∙ sym (append_assoc (hole_at at l.hole) (relocations (at + length (words_of l.instr)) xs) (relocations n ys))

-- lines behind lines are all of them
pub after_append : (c : ProcCode) (xs ys : List Line) → after (after c xs) ys ≡ after c (xs ++ ys)
after_append c xs ys =
    let w : (c.words ++ words xs) ++ words ys ≡ c.words ++ words (xs ++ ys) = append_assoc c.words (words xs) (words ys) ∙ ap (λ v. c.words ++ v) (sym (words_append xs ys)) in
    let m : (c.marks ++ marks xs) ++ marks ys ≡ c.marks ++ marks (xs ++ ys) = append_assoc c.marks (marks xs) (marks ys) ∙ ap (λ v. c.marks ++ v) (sym (marks_append xs ys)) in
    let r : (c.relocations ++ relocations (length c.words) xs) ++ relocations (length (c.words ++ words xs)) ys ≡ c.relocations ++ relocations (length c.words) (xs ++ ys) =
    append_assoc c.relocations (relocations (length c.words) xs) (relocations (length (c.words ++ words xs)) ys) ∙ ap (λ v. c.relocations ++ v) (sym (relocations_append (length c.words) (length (c.words ++ words xs)) xs ys (length-append c.words (words xs)))) in
    rw (w, m, r) refl

pub after_none : (c : ProcCode) → after c [] ≡ c
after_none c =
    let w : c.words ++ [] ≡ c.words = append_nil c.words in
    let m : c.marks ++ [] ≡ c.marks = append_nil c.marks in
    let r : c.relocations ++ [] ≡ c.relocations = append_nil c.relocations in
    rw (w, m, r) refl

-- one line more
pub after_one : (c : ProcCode) (l : Line) (ls : List Line) → after (after c (l ∷ [])) ls ≡ after c (l ∷ ls)
after_one c l ls = after_append c (l ∷ []) ls

-- and the same line so often
pub after_same : (c : ProcCode) (l : Line) (m n : ℕ) → n ≡ suc m → after (after c (l ∷ [])) (replicate m l) ≡ after c (replicate n l)
after_same c l m n e = rw e (after_append c (l ∷ []) (replicate m l))

pub words_after : (c : ProcCode) (ls : List Line) → length (after c ls).words ≡ length c.words + length (words ls)
words_after c ls = length-append c.words (words ls)

pub cleared_long : (n : ℕ) → length (words (replicate n (quiet (on Clr put)))) ≡ n
cleared_long zero = refl
cleared_long (suc n) = ap suc (cleared_long n)

-- ---- what is at a place

pub drop_next : {A : Type 0} (xs : List A) (i : ℕ) (x : A) → i < length xs → x ≡ get_or xs i x → drop i xs ≡ x ∷ drop (i + 1) xs
drop_next xs i x h e = rw (add-one, drop-cons xs i x, ← e) refl

pub index_some : (xs : List ℕ) (i x : ℕ) → slice_get xs i ≡ Some x → slice_index xs i ≡ x
index_some [] i x e = none_some e
index_some (y ∷ xs) zero x e = cc
index_some (y ∷ xs) (suc i) x e = index_some xs i x e

pub index_none : (xs : List ℕ) (i : ℕ) → slice_get xs i ≡ None → slice_index xs i ≡ 0
index_none [] i e = refl
index_none (y ∷ xs) zero e = none_some (sym e)
index_none (y ∷ xs) (suc i) e = index_none xs i e
