-- Needs, noted one by one.
use Rattle.std.proofs.Common.{◌≡◌, ℕ, ◌+◌, Bool, true, false, ◌&&◌, eqb, cond, if◌then◌else◌, List, drop, Option, Some, None, slice_get, refl, sym, ap, ◌∙◌, arith}
use Rattle.std.specs.BTreeMap.{get_by}
use Rattle.std.specs.Ordering.{nat_cmp, ordering_then}
use Rattle.rt_tree_nodes.specs.declared.store.Proc.{Proc}
use Rattle.rt_graph.specs.Scans.{is_same, or_else, told_need}
use Rattle.rt_graph.proofs.Told.{drop_at}
use Rattle.rt_report.specs.StackNeeds.{NeedMap, need_in, AddsFirst}

drop_one : {A : Type 0} (xs : List A) (n : ℕ) (x : A) → slice_get xs n ≡ Some x → drop 1 (drop n xs) ≡ drop (n + 1) xs
drop_one {A = A} xs n x e = ap (λ (l : List A). drop 1 l) (drop_at xs n x e)

first_or : (o : Option ℕ) (b : Bool) (k : ℕ) (rest : Option ℕ) → or_else (or_else o (if b then Some k else None)) rest ≡ or_else o (if b then Some k else rest)
first_or None true k rest = refl
first_or None false k rest = refl
first_or (Some n) true k rest = refl
first_or (Some n) false k rest = refl

-- the list from number n on tells of its first procedure, and else what the rest tells
told_first : (fs : List Proc) (ns : List ℕ) (n : ℕ) (f : Proc) (k : ℕ) (g : Proc) → slice_get fs n ≡ Some f → slice_get ns n ≡ Some k → told_need (drop n fs) (drop n ns) g ≡ (if is_same f g then Some k else told_need (drop (n + 1) fs) (drop (n + 1) ns) g)
told_first fs ns n f k g at has =
    ap (λ (l : List Proc). told_need l (drop n ns) g) (drop_at fs n f at)
    ∙ ap (λ (o : Option ℕ). if is_same f g then o else told_need (drop (n + 1) fs) (drop 1 (drop n ns)) g) (ap (λ (l : List ℕ). slice_get l 0) (drop_at ns n k has))
    ∙ ap (λ (l : List ℕ). if is_same f g then Some k else told_need (drop (n + 1) fs) l g) (drop_one ns n k has)

pub noted : (fs : List Proc) (ns : List ℕ) (n : ℕ) (f : Proc) (k : ℕ) (old new : NeedMap) → slice_get fs n ≡ Some f → slice_get ns n ≡ Some k → AddsFirst f k old new
    → ((g : Proc) → or_else (need_in old g) (told_need (drop n fs) (drop n ns) g) ≡ told_need fs ns g)
    → (g : Proc) → or_else (need_in new g) (told_need (drop (n + 1) fs) (drop (n + 1) ns) g) ≡ told_need fs ns g
noted fs ns n f k old new at has adds before g =
    ap (λ (o : Option ℕ). or_else o (told_need (drop (n + 1) fs) (drop (n + 1) ns) g)) (adds g)
    ∙ first_or (need_in old g) (is_same f g) k (told_need (drop (n + 1) fs) (drop (n + 1) ns) g)
    ∙ ap (λ (o : Option ℕ). or_else (need_in old g) o) (sym (told_first fs ns n f k g at has))
    ∙ before g

-- ---- the map

-- what the map has at a module and a brick
abbrev at_pair : NeedMap → ℕ → ℕ → Option ℕ
at_pair map m b = get_by (λ k. ordering_then (nat_cmp m k.0) (nat_cmp b k.1)) map

left : (a b c d : ℕ) → (eqb a b && eqb c d) ≡ true → a ≡ b
left a b c d e = grind (arith, e)

right : (a b c d : ℕ) → (eqb a b && eqb c d) ≡ true → c ≡ d
right a b c d e = grind (arith, e)

or_none : (o : Option ℕ) → or_else o None ≡ o
or_none None = refl
or_none (Some n) = refl

pub adds_first : (f : Proc) (n : ℕ) (old new : NeedMap) → need_in old f ≡ None
    → ((g : Proc) → need_in new g ≡ cond (is_same f g) (Some n) (need_in old g)) → AddsFirst f n old new
adds_first f n old new none h g = h g ∙ by (is_same f g) refl
  where
    by : (b : Bool) → is_same f g ≡ b → cond b (Some n) (need_in old g) ≡ or_else (need_in old g) (if b then Some n else None)
    by true e =
        ap (λ (o : Option ℕ). or_else o (Some n)) (sym none
        ∙ ap (λ (m : ℕ). at_pair old m f.brick) (left f.«module» g.«module» f.brick g.brick e)
        ∙ ap (λ (b : ℕ). at_pair old g.«module» b) (right f.«module» g.«module» f.brick g.brick e))
    by false e = sym (or_none (need_in old g))
