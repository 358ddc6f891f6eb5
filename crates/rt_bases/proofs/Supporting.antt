-- The routines of the support code begin inside it.
use Rattle.std.proofs.Common.{◌≡◌, ◌⊎◌, inl, inr, ℕ, ◌+◌, ◌*◌, ◌<◌, ◌≤◌, ◌==◌, Bool, true, false, if◌then◌else◌, List, [], ◌∷◌, ◌++◌, length, refl, arith, length-append}
use Rattle.std.specs.List.{AllByRecursion}
use Rattle.rt_tree_nodes.specs.declared.store.Proc.{Proc}
use Rattle.rt_object.specs.declared.object.ObjectParts.{ObjectParts}
use Rattle.pdp_code.specs.Code.{words_of}
use Rattle.rt_templates.specs.declared.line.Line.{Line}
use Rattle.rt_templates.specs.declared.routine.Routine.{Routine}
use Rattle.rt_templates.specs.Layouts.{routine_number}
use Rattle.rt_templates.specs.Lines.{words}
use Rattle.rt_templates.specs.Supported.{begins, routines, all, all_lines}
use Rattle.rt_link.specs.Named.{routine_address}
use Rattle.rt_link.specs.Room.{support_bytes, code_end}

abbrev IsSome : List Line → Type 0
IsSome [] = ⊥
IsSome (l ∷ ls) = Unit {0}

some_words : (ls : List Line) → IsSome ls → 1 ≤ length (words ls)
some_words [] h = absurd h
some_words (l ∷ ls) h = let a = length-append (words_of l.instr) (words ls) in omega arith

words_joined : (xs ys : List Line) → length (words (xs ++ ys)) ≡ length (words xs) + length (words ys)
words_joined [] ys = omega arith
words_joined (x ∷ xs) ys =
    let rest = words_joined xs ys in
    let a = length-append (words_of x.instr) (words (xs ++ ys)) in
    let b = length-append (words_of x.instr) (words xs) in
    (let q : length (words_of x.instr ++ words (xs ++ ys)) ≡ length (words_of x.instr ++ words xs) + length (words ys) = omega arith in q)

-- a routine begins before the end of all, or isn't there
inside : (rs : List (Routine × List Line)) (at n : ℕ) → AllByRecursion (λ r. IsSome r.1) rs → (begins at rs n < at + 2 * length (words (all rs))) ⊎ (begins at rs n ≡ 0)
inside [] at n h = inr refl
inside (r ∷ rs) at n h = by (routine_number r.0 == n) (inside rs (at + 2 * length (words r.1)) n h.1)
  where
    by : (b : Bool) → (begins (at + 2 * length (words r.1)) rs n < at + 2 * length (words r.1) + 2 * length (words (all rs))) ⊎ (begins (at + 2 * length (words r.1)) rs n ≡ 0)
        → ((if b then at else begins (at + 2 * length (words r.1)) rs n) < at + 2 * length (words (r.1 ++ all rs))) ⊎ ((if b then at else begins (at + 2 * length (words r.1)) rs n) ≡ 0)
    by true rest = inl (let some = some_words r.1 h.0 in let both = words_joined r.1 (all rs) in omega arith)
    by false (inl less) = inl (let both = words_joined r.1 (all rs) in omega arith)
    by false (inr none) = inr none

all_some : AllByRecursion (λ r. IsSome r.1) routines
all_some = (tt, (tt, (tt, (tt, (tt, (tt, (tt, (tt, (tt, (tt, (tt, (tt, (tt, (tt, (tt, (tt, (tt, tt)))))))))))))))))

support_some : 1 ≤ support_bytes
unfolding support_bytes
support_some = let a = some_words all_lines tt in omega arith

routine_inside : (n : ℕ) → routine_address n < support_bytes
unfolding routine_address support_bytes
routine_inside n = by (inside routines 0 n all_some)
  where
    by : (begins 0 routines n < 0 + 2 * length (words (all routines))) ⊎ (begins 0 routines n ≡ 0) → begins 0 routines n < 2 * length (words all_lines)
    by (inl less) = omega arith
    by (inr none) = let a = some_words all_lines tt in omega arith

pub supports_are_inside : (objects : List ObjectParts) (stacks : List Proc) (n : ℕ) → routine_address n < code_end objects stacks
supports_are_inside objects stacks n = let a = routine_inside n in omega arith
