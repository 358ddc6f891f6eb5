-- Lists of tasks by their stamps: changed, pushed and cut.
use Rattle.std.proofs.Common.{◌≡◌, ◌≢◌, ◌⊎◌, ℕ, zero, suc, ◌<◌, ◌≤◌, Bool, true, false, ◌||◌, List, [], ◌∷◌, ◌++◌, length, get_or, refl, sym, ◌∙◌, ap, subst, inl, inr, arith, eqb-true, nat_eq, length-append}
use Rattle.std.proofs.lemmas.Bool.{cases_lt}
use Rattle.std.proofs.lemmas.List.{get_or_append_left, get_or_push, get_or_default}
use Rattle.std.proofs.lemmas.Cmp.{nat_eq_equiv}
use Rattle.std.proofs.lemmas.Map.Keys.{IsDistinct-from_apart}
use Rattle.std.proofs.lemmas.Map.Made.{length-le_from_is_member}
use Rattle.std.specs.Set.{is_member}
use Rattle.rt_rules.specs.Roster.{Roster, row}
use Rattle.rt_rules.proofs.Rows.{by_cases}
use Rattle.rt_run.specs.Queue.{StandsIn, Lists}

-- the same tasks, with the same stamps
pub lists_same : (P Q : ℕ → Type 0) (r q : Roster) (xs : List ℕ) → Lists P r xs → ((i : ℕ) → P i → Q i × ((row q i).stamp ≡ (row r i).stamp)) → ((i : ℕ) → Q i → P i) → Lists Q q xs
lists_same P Q r q xs l forth back =
    record {
      each = λ k h. (forth (get_or xs k 0) (l.each k h)).0;
      whole = λ i h. l.whole i (back i h);
      rising = λ j k a b.
          let s = (forth (get_or xs j 0) (l.each j (omega arith))).1 in
          let t = (forth (get_or xs k 0) (l.each k b)).1 in
          let rise = l.rising j k a b in
          omega arith;
    }

pub lists_none : (P : ℕ → Type 0) (r : Roster) → ((i : ℕ) → P i → ⊥) → Lists P r []
lists_none P r none =
    record {
      each = λ k h. absurd (omega arith);
      whole = λ i h. absurd (none i h);
      rising = λ j k a b. absurd (omega arith);
    }

-- ---- the head is taken away

less_than_itself : (r : Roster) (i j : ℕ) → (row r i).stamp < (row r j).stamp → j ≡ i → ⊥
less_than_itself r i j h e =
    let same : (row r j).stamp ≡ (row r i).stamp = ap (λ k. (row r k).stamp) e in
    omega arith

in_tail : (h : ℕ) (xs : List ℕ) (i k : ℕ) → k < length (h ∷ xs) → get_or (h ∷ xs) k 0 ≡ i → i ≢ h → StandsIn xs i
in_tail h xs i zero b e d = absurd (d (sym e))
in_tail h xs i (suc k) b e d = record { at = k; below = omega arith; is = e }

pub lists_tail : (P Q : ℕ → Type 0) (r q : Roster) (h : ℕ) (xs : List ℕ) → Lists P r (h ∷ xs) → ((i : ℕ) → P i → i ≢ h → Q i × ((row q i).stamp ≡ (row r i).stamp)) → ((i : ℕ) → Q i → P i × (i ≢ h)) → Lists Q q xs
lists_tail P Q r q h xs l forth back =
    let next : (k : ℕ) → k < length xs → Q (get_or xs k 0) × ((row q (get_or xs k 0)).stamp ≡ (row r (get_or xs k 0)).stamp) =
    λ k b. forth (get_or xs k 0) (l.each (suc k) (omega arith)) (less_than_itself r h (get_or xs k 0) (l.rising 0 (suc k) (omega arith) (omega arith))) in
    record {
      each = λ k b. (next k b).0;
      whole = λ i z.
          let p = back i z in
          let s = l.whole i p.0 in
          in_tail h xs i s.at s.below s.is p.1;
      rising = λ j k a b.
          let s = (next j (omega arith)).1 in
          let t = (next k b).1 in
          let rise : (row r (get_or xs j 0)).stamp < (row r (get_or xs k 0)).stamp = l.rising (suc j) (suc k) (omega arith) (omega arith) in
          omega arith;
    }

-- ---- a task is put at the end

at_pushed : (R : ℕ → Type 0) (xs : List ℕ) (t k : ℕ) → k < length (xs ++ t ∷ []) → (k < length xs → R (get_or xs k 0)) → (k ≡ length xs → R t) → R (get_or (xs ++ t ∷ []) k 0)
at_pushed R xs t k b old new =
    let more = length-append xs (t ∷ []) in
    elim (cases_lt k (length xs)) [
      | inl low ↦ subst R (sym (get_or_append_left xs (t ∷ []) 0 k low)) (old low)
      | inr high ↦
          let last : k ≡ length xs = omega arith in
          subst R (sym (get_or_push xs t 0 k (sym last))) (new last)
    ]

pub lists_push : (P Q : ℕ → Type 0) (r : Roster) (t : ℕ) (xs : List ℕ) → Lists P r xs → ((i : ℕ) → P i → Q i) → Q t → ((i : ℕ) → Q i → i ≢ t → P i) → ((i : ℕ) → P i → (row r i).stamp < (row r t).stamp) → Lists Q r (xs ++ t ∷ [])
lists_push P Q r t xs l forth new back before =
    let more = length-append xs (t ∷ []) in
    record {
      each = λ k b. at_pushed Q xs t k b (λ low. forth (get_or xs k 0) (l.each k low)) (λ _. new);
      whole = λ i z.
          by_cases i t
          (λ e. record { at = length xs; below = omega arith; is = get_or_push xs t 0 (length xs) refl ∙ sym e })
          (λ d.
          let s = l.whole i (back i z d) in
          let low = s.below in
          record { at = s.at; below = omega arith; is = get_or_append_left xs (t ∷ []) 0 s.at s.below ∙ s.is });
      rising = λ j k a b.
          let low : j < length xs = omega arith in
          let here : get_or (xs ++ t ∷ []) j 0 ≡ get_or xs j 0 = get_or_append_left xs (t ∷ []) 0 j low in
          subst (λ x. (row r x).stamp < (row r (get_or (xs ++ t ∷ []) k 0)).stamp) (sym here)
          (at_pushed (λ x. (row r (get_or xs j 0)).stamp < (row r x).stamp) xs t k b
          (λ last. l.rising j k a last)
          (λ _. before (get_or xs j 0) (l.each j low)));
    }

-- ---- a list is no longer than there are tasks

upto : ℕ → List ℕ
upto zero = []
upto (suc n) = suc n ∷ upto n

length-upto : (n : ℕ) → length (upto n) ≡ n
unfolding upto
length-upto zero = refl
length-upto (suc n) = ap suc (length-upto n)

or_left : (a b : Bool) → a ≡ true → (a || b) ≡ true
or_left true b e = refl
or_left false b e = cc

or_right : (a b : Bool) → b ≡ true → (a || b) ≡ true
or_right true b e = refl
or_right false b e = e

or_cases : (a b : Bool) → (a || b) ≡ true → (a ≡ true) ⊎ (b ≡ true)
or_cases true b e = inl refl
or_cases false b e = inr e

is_false : (b : Bool) → (b ≡ true → ⊥) → b ≡ false
is_false true h = absurd (h refl)
is_false false h = refl

member_upto : (n q : ℕ) → 1 ≤ q → q ≤ n → is_member nat_eq (upto n) q ≡ true
unfolding upto
member_upto zero q a b = absurd (omega arith)
member_upto (suc n) q a b =
    by_cases q (suc n)
    (λ e. or_left (nat_eq q (suc n)) (is_member nat_eq (upto n) q) (subst (λ k. nat_eq q k ≡ true) e (nat_eq_equiv.refl q)))
    (λ d. or_right (nat_eq q (suc n)) (is_member nat_eq (upto n) q) (member_upto n q a (omega arith)))

member_within : (n : ℕ) (xs : List ℕ) → ((k : ℕ) → k < length xs → (1 ≤ get_or xs k 0) × (get_or xs k 0 ≤ n)) → (q : ℕ) → is_member nat_eq xs q ≡ true → (1 ≤ q) × (q ≤ n)
member_within n [] all q m = cc
member_within n (x ∷ xs) all q m =
    elim (or_cases (nat_eq q x) (is_member nat_eq xs q) m) [
      | inl here ↦
          let e : q ≡ x = eqb-true q x here in
          let h = all 0 (omega arith) in
          subst (λ k. (1 ≤ k) × (k ≤ n)) (sym e) h
      | inr there ↦ member_within n xs (λ k b. all (suc k) (omega arith)) q there
    ]

same_place : (xs : List ℕ) (i j d : ℕ) → i < length xs → j < length xs → get_or xs i d ≡ get_or xs j d → get_or xs i 0 ≡ get_or xs j 0
same_place xs i j d a b e = get_or_default xs i 0 d a ∙ (e ∙ get_or_default xs j d 0 b)

pub lists_few : (P : ℕ → Type 0) (r : Roster) (xs : List ℕ) (n : ℕ) → Lists P r xs → ((i : ℕ) → P i → (1 ≤ i) × (i ≤ n)) → length xs ≤ n
lists_few P r xs n l within =
    let apart : (i j : ℕ) (d : ℕ) → i < j → j < length xs → nat_eq (get_or xs i d) (get_or xs j d) ≡ false =
    λ i j d a b.
    let rise = l.rising i j a b in
    is_false (nat_eq (get_or xs i d) (get_or xs j d)) (λ e. less_than_itself r (get_or xs i 0) (get_or xs j 0) rise (sym (same_place xs i j d (omega arith) b (eqb-true (get_or xs i d) (get_or xs j d) e)))) in
    let long = length-le_from_is_member nat_eq_equiv xs (upto n) (IsDistinct-from_apart nat_eq xs apart) (λ q m. let h = member_within n xs (λ k b. within (get_or xs k 0) (l.each k b)) q m in member_upto n q h.0 h.1) in
    let most = length-upto n in
    omega arith
