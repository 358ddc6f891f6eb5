-- What one turn of a loop adds to what is known.
use Rattle.std.proofs.Common.{◌≡◌, ℕ, ◌+◌, ◌≤◌, Bool, true, false, not, ◌&&◌, ◌||◌, leb, ltb, List, [], ◌∷◌, ◌++◌, map, Vec, refl, sym, ap, subst, ◌∙◌, arith}
use Rattle.std.specs.BTreeSet.{BTreeSet}
use Rattle.std.specs.List.{list_any}
use Rattle.rt_object.specs.Grammar.{is_behind}
use Rattle.rt_object.specs.Known.{Knows, AreBehind, AreAbove}
use Rattle.rt_object.specs.declared.object.Relocation.{Relocation}
use Rattle.rt_object.proofs.Differing.{map_behind}

pub names_more : {A B : Type 0} (name : A → List ℕ) (before found new : List A) (x : A) (set : BTreeSet (Vec ℕ B)) → before ≡ found → new ≡ found ++ x ∷ [] → Knows set (map name before ++ name x ∷ []) → Knows set (map name new)
names_more name before found new x set e f h = subst (Knows set) (ap (λ xs. map name xs ++ name x ∷ []) e ∙ sym (map_behind name found x []) ∙ ap (map name) (sym f)) h

-- ---- places

behind_push : (before : List Relocation) (r : Relocation) (place : ℕ) → is_behind (before ++ r ∷ []) place ≡ (is_behind before place && ltb r.place place)
behind_push [] r place = last (ltb r.place place)
  where
    last : (b : Bool) → (b && true) ≡ b
    last true = refl
    last false = refl
behind_push (x ∷ before) r place = ap (λ b. ltb x.place place && b) (behind_push before r place) ∙ both (ltb x.place place) (is_behind before place) (ltb r.place place)
  where
    both : (a b c : Bool) → (a && (b && c)) ≡ ((a && b) && c)
    both true b c = refl
    both false b c = refl

pub behind_more : (least : ℕ) (found new : List Relocation) (r : Relocation) → AreBehind least found → least ≤ r.place → new ≡ found ++ r ∷ [] → AreBehind (r.place + 1) new
behind_more least found new r h k e place = ap (λ rs. is_behind rs place) e ∙ behind_push found r place ∙ ap (λ b. b && ltb r.place place) (h place) ∙ one least r.place place k
  where
    one : (a b p : ℕ) → a ≤ b → (leb a p && ltb b p) ≡ leb (b + 1) p
    one a b p h = grind arith

-- ---- numbers

above_push : (before : List ℕ) (n k : ℕ) → not (list_any (λ m. leb k m) (before ++ n ∷ [])) ≡ (not (list_any (λ m. leb k m) before) && not (leb k n))
above_push [] n k = last (leb k n)
  where
    last : (b : Bool) → not (b || false) ≡ not b
    last true = refl
    last false = refl
above_push (x ∷ before) n k = by (leb k x) (list_any (λ m. leb k m) (before ++ n ∷ [])) (list_any (λ m. leb k m) before) (leb k n) (above_push before n k)
  where
    by : (b all front last : Bool) → not all ≡ (not front && not last) → not (b || all) ≡ (not (b || front) && not last)
    by true all front last e = refl
    by false all front last e = e

pub above_more : (least : ℕ) (found new : List ℕ) (n : ℕ) → AreAbove least found → least ≤ n → new ≡ found ++ n ∷ [] → AreAbove (n + 1) new
above_more least found new n h j e k = ap (λ ns. not (list_any (λ m. leb k m) ns)) e ∙ above_push found n k ∙ ap (λ b. b && not (leb k n)) (h k) ∙ one least n k j
  where
    one : (a b p : ℕ) → a ≤ b → (leb a p && not (leb p b)) ≡ leb (b + 1) p
    one a b p h = grind arith
