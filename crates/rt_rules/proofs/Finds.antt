-- What the search finds is the one first task of its kind.
use Rattle.std.proofs.Common.{◌≡◌, ℕ, Bool, true, false, Option, Some, None, refl, sym, ap, inl, inr, arith, MatchOption}
use Rattle.rt_rules.specs.declared.task.State.{State}
use Rattle.rt_rules.specs.declared.task.TaskRow.{TaskRow}
use Rattle.rt_rules.specs.Roster.{Roster, row}
use Rattle.rt_rules.specs.First.{Before, IsFirst, HasNone}
use Rattle.rt_rules.specs.Rules.{first}
use Rattle.rt_rules.specs.Laws.{FindsFirst, FindsNone, OneFirst}
use Rattle.rt_rules.proofs.Rows.{by_cases}
use Rattle.rt_rules.proofs.Firsts.{first_found, first_is, none_is}

before_not_after : (t u : TaskRow) → Before t u → Before u t → ⊥
before_not_after t u a b =
    elim a [ inl p ↦ elim b [ inl q ↦ absurd (omega arith) | inr q ↦ absurd (omega (arith, q.0)) ] | inr p ↦ elim b [ inl q ↦ absurd (omega (arith, p.0)) | inr q ↦ absurd (omega (arith, p.1, q.1)) ] ]

pub one_first : OneFirst
one_first kind r i j a b =
    by_cases i j (λ e. e) (λ n. absurd (before_not_after (row r i) (row r j) (a.least j b.there b.suits (λ e. n (sym e))) (b.least i a.there a.suits n)))

both : (b : Bool) → b ≡ true → b ≡ false → ⊥
both b e f = cc

found_from : (kind : State → Bool) (r : Roster) (i : ℕ) (o : Option ℕ) → MatchOption o (HasNone kind r) (IsFirst kind r) → IsFirst kind r i → o ≡ Some i
found_from kind r i None none f = absurd (both (kind (row r i).state) f.suits (none i f.there))
found_from kind r i (Some j) is f = ap (λ (k : ℕ). Some k) (one_first kind r j i is f)

pub finds_first : FindsFirst
finds_first kind r i g = (first_is kind r i g, found_from kind r i (first kind r) (first_found kind r g))

none_from : (kind : State → Bool) (r : Roster) (o : Option ℕ) → MatchOption o (HasNone kind r) (IsFirst kind r) → HasNone kind r → o ≡ None
none_from kind r None none h = refl
none_from kind r (Some j) f h = absurd (both (kind (row r j).state) f.suits (h j f.there))

pub finds_none : FindsNone
finds_none kind r g = (none_is kind r g, none_from kind r (first kind r) (first_found kind r g))
