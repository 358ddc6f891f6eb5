-- Tables as they grow, and what is found there.
use Rattle.std.proofs.Common.{◌≡◌, ℕ, zero, suc, ◌+◌, ◌<◌, ◌≤◌, ◌⊎◌, inl, inr, Bool, true, false, List, [], ◌∷◌, ◌++◌, length, get_or, Option, Some, None, refl, sym, ap, ◌∙◌, subst, arith}
use Rattle.std.specs.Prelude.{slice_get, slice_index, nat_lt, if◌then◌else◌}
use Rattle.std.specs.List.{sum_by}
use Rattle.std.proofs.lemmas.List.Sums.{position_or_len_is}
use Rattle.std.proofs.lemmas.Option.{slice_get_past, get_or_from_slice_get, slice_get_within}
use Rattle.std.proofs.lemmas.List.{get_or_past}
use Rattle.std.proofs.lemmas.Bool.{lt-ltb, le-ltb}
use Rattle.rt_digraph.proofs.Lists.{get_left, get_end, get_cases, get_there, not_there, some_is}
use Rattle.rt_digraph.proofs.Moves.{same_or_not}
use Rattle.rt_tree_nodes.specs.declared.store.Proc.{Proc}
use Rattle.rt_object.specs.declared.object.Brick.{Brick}
use Rattle.rt_object.specs.declared.object.ObjectParts.{ObjectParts}
use Rattle.rt_graph.specs.Calls.{brick, content_of, content_at}
use Rattle.rt_graph.specs.Scans.{is_same}
use Rattle.rt_link.specs.declared.tasks.TaskPlace.{TaskPlace}
use Rattle.rt_link.specs.Room.{bricks_in, strings_in, code_bytes, data_bytes, string_bytes, module_strings, code_start, code_end}
use Rattle.rt_link.specs.Addresses.{nth_at, address_by, if_there, module_code_at, module_bytes_at, entry_at, block_at, task_of, stack_at, stack_address, brick_address, string_address}
use Rattle.rt_link.specs.Rows.{IsStringRow, AreStringRows, IsBrickRow, AreBrickRows}
use Rattle.rt_link.specs.Tables.{row, found, task_place, AreTaskPlaces}

-- ---- one element more

below : (k n : ℕ) → k < n + 1 → (k ≡ n → ⊥) → k < n
below k n h other = grind (arith, h, other)

pub grows : {A : Type 0} (P : ℕ → A) (xs new : List A) (y : A) (n : ℕ) → new ≡ xs ++ y ∷ [] → length xs ≡ n → ((k : ℕ) → k < n → slice_get xs k ≡ Some (P k)) → y ≡ P n → (k : ℕ) → k < n + 1 → slice_get new k ≡ Some (P k)
grows {A} P xs new y n e long h is k less = elim (same_or_not k n) [
  | inl same ↦
      let last : slice_get (xs ++ y ∷ []) (length xs) ≡ Some y = get_end xs y in
      let at : k ≡ length xs = same ∙ sym long in
      subst (λ (l : List A). slice_get l k ≡ Some (P k)) (sym e) (subst (λ (i : ℕ). slice_get (xs ++ y ∷ []) i ≡ Some (P k)) (sym at) (last ∙ ap (λ z. Some z) (is ∙ ap P (sym same))))
  | inr other ↦ subst (λ (l : List A). slice_get l k ≡ Some (P k)) (sym e) (get_left xs (y ∷ []) k (P k) (h k (below k n less other)))
]

pub rows_grow : (objects : List ObjectParts) (IsRow : ℕ → ObjectParts → List ℕ → Type 0) (rows new : List (List ℕ)) (y : List ℕ) (n : ℕ) (x : ObjectParts) → new ≡ rows ++ y ∷ [] → length rows ≡ n → slice_get objects n ≡ Some x → IsRow n x y
    → ((i : ℕ) (o : ObjectParts) (r : List ℕ) → slice_get objects i ≡ Some o → slice_get rows i ≡ Some r → IsRow i o r) → (i : ℕ) (o : ObjectParts) (r : List ℕ) → slice_get objects i ≡ Some o → slice_get new i ≡ Some r → IsRow i o r
rows_grow objects IsRow rows new y n x e long there is h i o r at found_row = by (get_cases rows y i r (subst (λ (l : List (List ℕ)). slice_get l i ≡ Some r) e found_row))
  where
    by : (slice_get rows i ≡ Some r) ⊎ ((i ≡ length rows) × (r ≡ y)) → IsRow i o r
    by (inl old) = h i o r at old
    by (inr new_one) =
        let place : i ≡ n = new_one.0 ∙ long in
        let same : x ≡ o = some_is x o (sym there ∙ subst (λ (k : ℕ). slice_get objects k ≡ Some o) place at) in
        subst (λ (l : List ℕ). IsRow i o l) (sym new_one.1) (subst (λ (k : ℕ). IsRow k o y) (sym place) (subst (λ v. IsRow n v y) same is))

-- ---- the stack bricks of tasks

module _ (objects : List ObjectParts) (stacks : List Proc) where
  by_place : (f : Proc) (n : ℕ) (b : Bool) → task_of objects stacks f ≡ n → nat_lt n (length stacks) ≡ b → stack_address objects stacks f ≡ (if b then stack_at objects stacks n else 0)
  by_place f n b e less =
      let l = length stacks in
      ap (λ (k : ℕ). if nat_lt k l then stack_at objects stacks k else 0) e ∙ ap (λ (t : Bool). if t then stack_at objects stacks n else 0) less

  pub first_task : (places : List TaskPlace) (f x : Proc) (n : ℕ) (p : TaskPlace) → AreTaskPlaces objects stacks places → n < length stacks → x ≡ get_or stacks n x → ((k : ℕ) (d : Proc) → k < n → is_same f (get_or stacks k d) ≡ false) → is_same f x ≡ true
      → slice_get places n ≡ Some p → p.stack ≡ stack_address objects stacks f
  first_task places f x n p are within is before here there =
      let at : task_of objects stacks f ≡ n = position_or_len_is (is_same f) stacks n x (omega arith) (λ k less. before k x less) (λ less. ap (is_same f) (sym is) ∙ here) in
      let place : p ≡ task_place objects stacks n = some_is p (task_place objects stacks n) (sym there ∙ are.each n within) in
      ap (λ (q : TaskPlace). q.stack) place ∙ sym (by_place f n true at (lt-ltb n (length stacks) within))

  pub no_task : (f : Proc) → ((k : ℕ) (d : Proc) → k < length stacks → is_same f (get_or stacks k d) ≡ false) → 0 ≡ stack_address objects stacks f
  no_task f none =
      let n = length stacks in
      let at : task_of objects stacks f ≡ n = position_or_len_is (is_same f) stacks n (brick 0 0) (omega arith) (λ k less. none k (brick 0 0) less) (λ less. absurd (omega arith)) in
      sym (by_place f n false at (le-ltb n n (omega arith)))

-- ---- what is found in the tables

none_there : {A B : Type 0} (xs : List A) (ys : List B) (i : ℕ) → length ys ≡ length xs → slice_get xs i ≡ None → slice_get ys i ≡ None
none_there xs ys i long e = by (slice_get ys i) refl
  where
    by : (o : Option _) → slice_get ys i ≡ o → slice_get ys i ≡ None
    by None f = f
    by (Some y) f = absurd (not_there xs i e (let h = slice_get_within ys i y f in omega arith))

less_or : (k n : ℕ) → (k < n) ⊎ (n ≤ k)
less_or k n = grind arith

module _ (objects : List ObjectParts) (stacks : List Proc) where
  -- the address of brick b of the module with this object
  abbrev in_object : ℕ → ℕ → Option ObjectParts → ℕ
  in_object i b o =
      address_by (content_at (slice_get (bricks_in o) b)) (nth_at code_bytes (bricks_in o) (module_code_at objects stacks (suc i)) b)
      (nth_at data_bytes (bricks_in o) (module_bytes_at objects stacks (suc i) + sum_by string_bytes (strings_in o)) b)
      (stack_address objects stacks (brick (suc i) b))

  abbrev text_in_object : ℕ → ℕ → Option ObjectParts → ℕ
  text_in_object i k o = if_there (slice_get (strings_in o) k) (nth_at string_bytes (strings_in o) (module_bytes_at objects stacks (suc i)) k)

  -- the same, where the brick is known
  abbrev of_brick : ℕ → ℕ → ObjectParts → Option Brick → ℕ
  of_brick i b o d =
      address_by (content_at d) (nth_at code_bytes o.bricks (module_code_at objects stacks (suc i)) b)
      (nth_at data_bytes o.bricks (module_bytes_at objects stacks (suc i) + module_strings o) b)
      (stack_address objects stacks (brick (suc i) b))

  in_row : (i b : ℕ) (o : ObjectParts) (r : List ℕ) → IsBrickRow objects stacks (suc i) o.bricks (module_code_at objects stacks (suc i)) (module_bytes_at objects stacks (suc i) + module_strings o) r → slice_index r b ≡ in_object i b (Some o)
  in_row i b o r is = by (less_or b (length o.bricks))
    where
      by : (b < length o.bricks) ⊎ (length o.bricks ≤ b) → slice_index r b ≡ in_object i b (Some o)
      by (inl h) = get_or_from_slice_get r b (in_object i b (Some o)) 0 (is.each b h)
      by (inr h) = get_or_past r b 0 (let long = is.one_each in omega arith) ∙ sym (ap (of_brick i b o) (slice_get_past o.bricks b h))

  pub bricks_found : (rows : List (List ℕ)) → AreBrickRows objects stacks (code_start objects stacks) (code_end objects stacks) rows → (m b : ℕ) → found rows m b ≡ brick_address objects stacks (brick m b)
  bricks_found rows are zero b = refl
  bricks_found rows are (suc i) b = by (slice_get objects i) refl
    where
      by : (o : Option ObjectParts) → slice_get objects i ≡ o → found rows (suc i) b ≡ brick_address objects stacks (brick (suc i) b)
      by None e = ap (λ r. slice_index (row r) b) (none_there objects rows i are.one_each e) ∙ sym (ap (in_object i b) e)
      by (Some o) e =
          let there = get_there rows i (let h = slice_get_within objects i o e in let long = are.one_each in omega arith) in
          ap (λ r. slice_index (row r) b) there.1 ∙ in_row i b o there.0 (are.each i o there.0 e there.1) ∙ sym (ap (in_object i b) e)

  text_in_row : (i k : ℕ) (o : ObjectParts) (r : List ℕ) → IsStringRow o.strings (module_bytes_at objects stacks (suc i)) r → slice_index r k ≡ text_in_object i k (Some o)
  text_in_row i k o r is = by (less_or k (length o.strings))
    where
      by : (k < length o.strings) ⊎ (length o.strings ≤ k) → slice_index r k ≡ text_in_object i k (Some o)
      by (inl h) =
          let at = nth_at string_bytes o.strings (module_bytes_at objects stacks (suc i)) k in
          let there = get_there o.strings k h in
          get_or_from_slice_get r k at 0 (is.each k h) ∙ sym (ap (λ s. if_there s at) there.1)
      by (inr h) =
          let at = nth_at string_bytes o.strings (module_bytes_at objects stacks (suc i)) k in
          get_or_past r k 0 (let long = is.one_each in omega arith) ∙ sym (ap (λ s. if_there s at) (slice_get_past o.strings k h))

  pub strings_found : (rows : List (List ℕ)) → AreStringRows objects (code_end objects stacks) rows → (m k : ℕ) → found rows m k ≡ string_address objects stacks m k
  strings_found rows are zero k = refl
  strings_found rows are (suc i) k = by (slice_get objects i) refl
    where
      by : (o : Option ObjectParts) → slice_get objects i ≡ o → found rows (suc i) k ≡ string_address objects stacks (suc i) k
      by None e = ap (λ r. slice_index (row r) k) (none_there objects rows i are.one_each e) ∙ sym (ap (text_in_object i k) e)
      by (Some o) e =
          let there = get_there rows i (let h = slice_get_within objects i o e in let long = are.one_each in omega arith) in
          ap (λ r. slice_index (row r) k) there.1 ∙ text_in_row i k o there.0 (are.each i o there.0 e there.1) ∙ sym (ap (text_in_object i k) e)

-- ---- what is pushed is what belongs there

pub brick_place : (xs : List Brick) (i : ℕ) (x : Brick) (a b p q s : ℕ) → slice_get xs i ≡ Some x → a ≡ p → b ≡ q → address_by (content_of x.kind) a b s ≡ address_by (content_at (slice_get xs i)) p q s
brick_place xs i x a b p q s there e f =
    ap (λ n. address_by (content_of x.kind) n b s) e ∙ ap (λ n. address_by (content_of x.kind) p n s) f ∙ sym (ap (λ o. address_by (content_at o) p q s) there)

pub task_place_is : (objects : List ObjectParts) (stacks : List Proc) (n e b : ℕ) → e ≡ entry_at n → b ≡ block_at objects stacks n → record { entry = e; block = b; stack = b + 16 } ≡ task_place objects stacks n
task_place_is objects stacks n e b f g =
    let made : ℕ → ℕ → TaskPlace = λ x y. record { entry = x; block = y; stack = y + 16 } in
    ap (λ x. made x b) f ∙ ap (λ y. made (entry_at n) y) g

pub brick_row_is : (objects : List ObjectParts) (stacks : List Proc) (m i : ℕ) (bricks : List Brick) (o : ObjectParts) (code bytes p q : ℕ) (r : List ℕ) → m ≡ suc i → bricks ≡ o.bricks → code ≡ p → bytes ≡ q → IsBrickRow objects stacks m bricks code bytes r
    → IsBrickRow objects stacks (suc i) o.bricks p q r
brick_row_is objects stacks m i bricks o code bytes p q r e f g h is =
    let P : ℕ → List Brick → ℕ → ℕ → Type 0 = λ a bs c d. IsBrickRow objects stacks a bs c d r in
    subst (λ d. P (suc i) o.bricks p d) h (subst (λ c. P (suc i) o.bricks c bytes) g (subst (λ bs. P (suc i) bs code bytes) f (subst (λ a. P a bricks code bytes) e is)))

pub string_row_is : (strings : List (List ℕ)) (o : ObjectParts) (first p : ℕ) (r : List ℕ) → strings ≡ o.strings → first ≡ p → IsStringRow strings first r → IsStringRow o.strings p r
string_row_is strings o first p r e f is = subst (λ a. IsStringRow o.strings a r) f (subst (λ ss. IsStringRow ss first r) e is)

-- ---- the whole layout

pub bricks_are : (objects : List ObjectParts) (stacks : List Proc) (rows : List (List ℕ)) (code bytes : ℕ) → code ≡ code_start objects stacks → bytes ≡ code_end objects stacks → AreBrickRows objects stacks code bytes rows
    → (m b : ℕ) → found rows m b ≡ brick_address objects stacks (brick m b)
bricks_are objects stacks rows code bytes e f are =
    bricks_found objects stacks rows (subst (λ b. AreBrickRows objects stacks (code_start objects stacks) b rows) f (subst (λ a. AreBrickRows objects stacks a bytes rows) e are))

pub strings_are : (objects : List ObjectParts) (stacks : List Proc) (rows : List (List ℕ)) (bytes : ℕ) → bytes ≡ code_end objects stacks → AreStringRows objects bytes rows → (m k : ℕ) → found rows m k ≡ string_address objects stacks m k
strings_are objects stacks rows bytes f are = strings_found objects stacks rows (subst (λ b. AreStringRows objects b rows) f are)
