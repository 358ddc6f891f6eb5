-- Data bricks and strings lie one after the other.
use Rattle.std.proofs.Common.{◌≡◌, ◌≢◌, ◌⊎◌, inl, inr, ℕ, zero, suc, ◌+◌, ◌%◌, ◌<◌, ◌≤◌, List, [], ◌∷◌, length, take, Option, Some, None, slice_get, refl, sym, ap, ◌∙◌, subst, arith}
use Rattle.std.specs.List.{sum_by}
use Rattle.std.proofs.lemmas.List.Sums.{sum_by-cons}
use Rattle.rt_tree_nodes.specs.declared.store.Origin.{Origin}
use Rattle.rt_tree_nodes.specs.declared.store.Origin.TheVariants as origin
use Rattle.rt_tree_nodes.specs.declared.store.Proc.{Proc}
use Rattle.rt_tree.specs.Stored.{System}
use Rattle.rt_sizes.specs.Sizes.{even}
use Rattle.rt_object.specs.declared.object.Brick.{Brick}
use Rattle.rt_object.specs.declared.object.Content.{Content}
use Rattle.rt_object.specs.declared.object.Content.TheVariants as content
use Rattle.rt_object.specs.declared.object.ObjectParts.{ObjectParts}
use Rattle.rt_graph.specs.Calls.{brick, numbered, content_of}
use Rattle.rt_link.specs.Room.{bricks_in, strings_in, bricks_of, strings_of, code_in, data_in, code_bytes, data_bytes, string_bytes, module_code, module_strings, module_bytes, support_bytes, code_end, data_end}
use Rattle.rt_link.specs.Addresses.{nth_at, module_bytes_at, module_data_at, data_at, string_at}
use Rattle.rt_places.specs.Systems.{module_in, IsBrick, IsText, HasRoom, AreBases}
use Rattle.rt_places.proofs.Paths.{less, same, more, order}
use Rattle.rt_bases.specs.Bases.{base_of, HasData, HasString, HaveData}

-- ---- sums

module _ {A : Type 0} (size : A → ℕ) where
  one_before : (y : A) (ys : List A) (x : A) (first : ℕ) → size y ≡ size x → first + 0 + size x ≤ first + sum_by size (y ∷ ys)
  one_before y ys x first e = let c = sum_by-cons size y ys in omega arith

  pub before : (xs : List A) (first j k : ℕ) (x : A) → j < k → slice_get xs j ≡ Some x → nth_at size xs first j + size x ≤ nth_at size xs first k
  before [] first j k x l h = absurd cc
  before (y ∷ xs) first j zero x l h = absurd (omega arith)
  before (y ∷ xs) first zero (suc k) x l h =
      let is : y ≡ x = cc in one_before y (take k xs) x first (ap size is)
  before (y ∷ xs) first (suc j) (suc k) x l h =
      let deep : first + sum_by size (take j xs) + size x ≤ first + sum_by size (take k xs) = before xs first j k x (omega arith) h in
      let a : sum_by size (y ∷ take j xs) ≡ size y + sum_by size (take j xs) = sum_by-cons size y (take j xs) in
      let b : sum_by size (y ∷ take k xs) ≡ size y + sum_by size (take k xs) = sum_by-cons size y (take k xs) in
      let goal : first + sum_by size (y ∷ take j xs) + size x ≤ first + sum_by size (y ∷ take k xs) = omega arith in goal

  pub within : (xs : List A) (first j : ℕ) (x : A) → slice_get xs j ≡ Some x → nth_at size xs first j + size x ≤ first + sum_by size xs
  within [] first j x h = absurd cc
  within (y ∷ xs) first zero x h = let is : y ≡ x = cc in one_before y xs x first (ap size is)
  within (y ∷ xs) first (suc j) x h =
      let deep : first + sum_by size (take j xs) + size x ≤ first + sum_by size xs = within xs first j x h in
      let a : sum_by size (y ∷ take j xs) ≡ size y + sum_by size (take j xs) = sum_by-cons size y (take j xs) in
      let b : sum_by size (y ∷ xs) ≡ size y + sum_by size xs = sum_by-cons size y xs in
      let goal : first + sum_by size (y ∷ take j xs) + size x ≤ first + sum_by size (y ∷ xs) = omega arith in goal

  pub even_sum : ((x : A) → size x % 2 ≡ 0) → (xs : List A) → sum_by size xs % 2 ≡ 0
  even_sum each [] = refl
  even_sum each (x ∷ xs) = let a = each x in let b = even_sum each xs in let c = sum_by-cons size x xs in omega arith

  pub even_nth : ((x : A) → size x % 2 ≡ 0) → (xs : List A) (first k : ℕ) → first % 2 ≡ 0 → nth_at size xs first k % 2 ≡ 0
  even_nth each xs first k e = let a = even_sum each (take k xs) in omega arith

even_is : (n : ℕ) → even n % 2 ≡ 0
even_is n = omega arith

code_even : (c : Option Content) → code_in c % 2 ≡ 0
code_even None = refl
code_even (Some (content.Proc p)) = omega arith
code_even (Some (content.Data d)) = refl
code_even (Some (content.Stack n)) = refl

data_even : (c : Option Content) → data_in c % 2 ≡ 0
data_even None = refl
data_even (Some (content.Proc p)) = refl
data_even (Some (content.Data d)) = even_is (length d.bytes)
data_even (Some (content.Stack n)) = refl

string_even : (s : List ℕ) → string_bytes s % 2 ≡ 0
string_even s = let e = even_is (length s) in omega arith

module_even : (o : ObjectParts) → module_bytes o % 2 ≡ 0
module_even o = let a = even_sum string_bytes string_even o.strings in let b = even_sum data_bytes (λ d. data_even (content_of d.kind)) o.bricks in omega arith

code_module_even : (o : ObjectParts) → module_code o % 2 ≡ 0
code_module_even o = even_sum code_bytes (λ d. code_even (content_of d.kind)) o.bricks

support_even : support_bytes % 2 ≡ 0
unfolding support_bytes
support_even = omega arith

module _ (objects : List ObjectParts) (stacks : List Proc) where
  pub code_end_even : code_end objects stacks % 2 ≡ 0
  code_end_even = let a = support_even in let b = even_sum module_code code_module_even objects in omega arith

  -- ---- modules

  -- a module's strings and data, from one address to another
  record Module (m : ℕ) (o : ObjectParts) : Type 0 where
    pub first : ℕ
    pub is : module_bytes_at objects stacks m ≡ first
    pub even_first : first % 2 ≡ 0
    pub above : code_end objects stacks ≤ first
    pub below : first + module_bytes o ≤ data_end objects stacks

  module_lies : (m : ℕ) (o : ObjectParts) → numbered objects m ≡ Some o → Module m o
  module_lies zero o h = absurd cc
  module_lies (suc i) o h = record {
    first = nth_at module_bytes objects (code_end objects stacks) i;
    is = refl;
    even_first = even_nth module_bytes module_even objects (code_end objects stacks) i code_end_even;
    above = omega arith;
    below = within module_bytes objects (code_end objects stacks) i o h;
  }

  module_before : (m n : ℕ) (o p : ObjectParts) → m < n → numbered objects m ≡ Some o → numbered objects n ≡ Some p → module_bytes_at objects stacks m + module_bytes o ≤ module_bytes_at objects stacks n
  module_before zero n o p l h i = absurd cc
  module_before (suc m) zero o p l h i = absurd cc
  module_before (suc m) (suc n) o p l h i = before module_bytes objects (code_end objects stacks) m n o (omega arith) h

  bricks_are : (m : ℕ) (o : ObjectParts) → numbered objects m ≡ Some o → bricks_of objects m ≡ o.bricks
  bricks_are m o h = ap bricks_in h

  strings_are : (m : ℕ) (o : ObjectParts) → numbered objects m ≡ Some o → strings_of objects m ≡ o.strings
  strings_are m o h = ap strings_in h

  data_begins : (m : ℕ) (o : ObjectParts) → numbered objects m ≡ Some o → module_data_at objects stacks m ≡ module_bytes_at objects stacks m + module_strings o
  data_begins m o h = ap (λ (x : List (List ℕ)). module_bytes_at objects stacks m + sum_by string_bytes x) (strings_are m o h)

  -- where a brick is, and a string
  data_is : (m b : ℕ) (o : ObjectParts) → numbered objects m ≡ Some o → data_at objects stacks (brick m b) ≡ nth_at data_bytes o.bricks (module_bytes_at objects stacks m + module_strings o) b
  data_is m b o h = ap (λ (x : List Brick). nth_at data_bytes x (module_data_at objects stacks m) b) (bricks_are m o h) ∙ ap (λ (x : ℕ). nth_at data_bytes o.bricks x b) (data_begins m o h)

  string_is : (m k : ℕ) (o : ObjectParts) → numbered objects m ≡ Some o → string_at objects stacks m k ≡ nth_at string_bytes o.strings (module_bytes_at objects stacks m) k
  string_is m k o h = ap (λ (x : List (List ℕ)). nth_at string_bytes x (module_bytes_at objects stacks m) k) (strings_are m o h)

  -- ---- what is there, in its module

  -- from `at` on, so many bytes, of module m
  record Lies (m at n : ℕ) : Type 0 where
    pub object : ObjectParts
    pub of : numbered objects m ≡ Some object
    pub even_at : at % 2 ≡ 0
    pub above : module_bytes_at objects stacks m ≤ at
    pub below : at + n ≤ module_bytes_at objects stacks m + module_bytes object

  data_lies : (m b n : ℕ) → HasData objects m b n → Lies m (data_at objects stacks (brick m b)) n
  data_lies m b n h =
      let is = data_is m b h.object h.of in
      let first = module_lies m h.object h.of in
      let start : module_bytes_at objects stacks m % 2 ≡ 0 = subst (λ (x : ℕ). x % 2 ≡ 0) (sym first.is) first.even_first in
      let strings = even_sum string_bytes string_even h.object.strings in
      let begin : (module_bytes_at objects stacks m + module_strings h.object) % 2 ≡ 0 = omega arith in
      let even_place = even_nth data_bytes (λ d. data_even (content_of d.kind)) h.object.bricks (module_bytes_at objects stacks m + module_strings h.object) b begin in
      let inside = within data_bytes h.object.bricks (module_bytes_at objects stacks m + module_strings h.object) b h.its h.at in
      let bytes : n ≤ data_bytes h.its = h.bytes in
      record { object = h.object; of = h.of; even_at = subst (λ (x : ℕ). x % 2 ≡ 0) (sym is) even_place; above = subst (λ (x : ℕ). module_bytes_at objects stacks m ≤ x) (sym is) (omega arith); below = subst (λ (x : ℕ). x + n ≤ module_bytes_at objects stacks m + module_bytes h.object) (sym is) (omega arith) }

  string_lies : (m k n : ℕ) → HasString objects m k n → Lies m (string_at objects stacks m k) n
  string_lies m k n h =
      let is = string_is m k h.object h.of in
      let first = module_lies m h.object h.of in
      let start : module_bytes_at objects stacks m % 2 ≡ 0 = subst (λ (x : ℕ). x % 2 ≡ 0) (sym first.is) first.even_first in
      let even_place = even_nth string_bytes string_even h.object.strings (module_bytes_at objects stacks m) k start in
      let inside = within string_bytes h.object.strings (module_bytes_at objects stacks m) k h.text h.at in
      let bytes : n ≤ string_bytes h.text = h.bytes in
      record { object = h.object; of = h.of; even_at = subst (λ (x : ℕ). x % 2 ≡ 0) (sym is) even_place; above = subst (λ (x : ℕ). module_bytes_at objects stacks m ≤ x) (sym is) (omega arith); below = subst (λ (x : ℕ). x + n ≤ module_bytes_at objects stacks m + module_bytes h.object) (sym is) (omega arith) }

  -- of two modules
  modules_far : (m i a n b k : ℕ) → m < i → Lies m a n → Lies i b k → a + n ≤ b
  modules_far m i a n b k l x y = let h = module_before m i x.object y.object l x.of y.of in let p : a + n ≤ module_bytes_at objects stacks m + module_bytes x.object = x.below in let q : module_bytes_at objects stacks i ≤ b = y.above in omega arith

  -- ---- two of one module

  strings_far : (m k j n i : ℕ) → k < j → HasString objects m k n → HasString objects m j i → string_at objects stacks m k + n ≤ string_at objects stacks m j
  strings_far m k j n i l x y =
      let a = string_is m k x.object x.of in
      let b = string_is m j x.object x.of in
      let h = before string_bytes x.object.strings (module_bytes_at objects stacks m) k j x.text l x.at in
      let bytes : n ≤ string_bytes x.text = x.bytes in omega arith

  bricks_far : (m k j n i : ℕ) → k < j → HasData objects m k n → HasData objects m j i → data_at objects stacks (brick m k) + n ≤ data_at objects stacks (brick m j)
  bricks_far m k j n i l x y =
      let a = data_is m k x.object x.of in
      let b = data_is m j x.object x.of in
      let h = before data_bytes x.object.bricks (module_bytes_at objects stacks m + module_strings x.object) k j x.its l x.at in
      let bytes : n ≤ data_bytes x.its = x.bytes in omega arith

  -- strings stand before data bricks
  string_first : (m k b n i : ℕ) → HasString objects m k n → HasData objects m b i → string_at objects stacks m k + n ≤ data_at objects stacks (brick m b)
  string_first m k b n i x y =
      let a = string_is m k x.object x.of in
      let c = data_is m b x.object x.of in
      let h = within string_bytes x.object.strings (module_bytes_at objects stacks m) k x.text x.at in
      let bytes : n ≤ string_bytes x.text = x.bytes in omega arith

  module _ (ps : System) (S : ℕ → ℕ → Option ℕ) (have : HaveData ps S objects) where
    lies : (o : Origin) (n : ℕ) → HasRoom ps S o n → Lies (module_in o) (base_of objects stacks o) n
    lies (origin.Brick m b) n h = data_lies m b n (have.bricks m b n h)
    lies (origin.Text m k) n h = string_lies m k n (have.texts m k n h)

    even_bases : (o : Origin) (n : ℕ) → HasRoom ps S o n → base_of objects stacks o % 2 ≡ 0
    even_bases o n h = let l = lies o n h in l.even_at

    bases_above : (o : Origin) (n : ℕ) → HasRoom ps S o n → code_end objects stacks ≤ base_of objects stacks o
    bases_above o n h =
        let l = lies o n h in
        let first = module_lies (module_in o) l.object l.of in
        let a : code_end objects stacks ≤ first.first = first.above in
        let b : module_bytes_at objects stacks (module_in o) ≡ first.first = first.is in
        let c : module_bytes_at objects stacks (module_in o) ≤ base_of objects stacks o = l.above in omega arith

    bases_below : (o : Origin) (n : ℕ) → HasRoom ps S o n → base_of objects stacks o + n ≤ data_end objects stacks
    bases_below o n h =
        let l = lies o n h in
        let first = module_lies (module_in o) l.object l.of in
        let a : first.first + module_bytes l.object ≤ data_end objects stacks = first.below in
        let b : module_bytes_at objects stacks (module_in o) ≡ first.first = first.is in
        let c : base_of objects stacks o + n ≤ module_bytes_at objects stacks (module_in o) + module_bytes l.object = l.below in omega arith

    AreFar : Origin → Origin → ℕ → ℕ → Type 0
    AreFar o p n k = (base_of objects stacks o + n ≤ base_of objects stacks p) ⊎ (base_of objects stacks p + k ≤ base_of objects stacks o)

    in_module : (m : ℕ) (o p : Origin) (n k : ℕ) → module_in o ≡ m → module_in p ≡ m → HasRoom ps S o n → HasRoom ps S p k → o ≢ p → AreFar o p n k
    unfolding AreFar
    in_module m (origin.Brick i b) (origin.Brick j c) n k e f h g diff =
        let two : IsBrick ps S i c k = subst (λ (x : ℕ). IsBrick ps S x c k) (f ∙ sym e) g in
        let at : data_at objects stacks (brick i c) ≡ data_at objects stacks (brick j c) = ap (λ (x : ℕ). data_at objects stacks (brick x c)) (e ∙ sym f) in
        elim (order b c) [
          | less l ↦ inl (let q = bricks_far i b c n k l (have.bricks i b n h) (have.bricks i c k two) in omega arith)
          | same s ↦ absurd (diff (let z : i ≡ j = e ∙ sym f in cc))
          | more l ↦ inr (let q = bricks_far i c b k n l (have.bricks i c k two) (have.bricks i b n h) in omega arith)
        ]
    in_module m (origin.Brick i b) (origin.Text j c) n k e f h g diff =
        let two : IsText ps S i c k = subst (λ (x : ℕ). IsText ps S x c k) (f ∙ sym e) g in
        let at : string_at objects stacks i c ≡ string_at objects stacks j c = ap (λ (x : ℕ). string_at objects stacks x c) (e ∙ sym f) in
        inr (let q = string_first i c b k n (have.texts i c k two) (have.bricks i b n h) in omega arith)
    in_module m (origin.Text i b) (origin.Brick j c) n k e f h g diff =
        let two : IsBrick ps S i c k = subst (λ (x : ℕ). IsBrick ps S x c k) (f ∙ sym e) g in
        let at : data_at objects stacks (brick i c) ≡ data_at objects stacks (brick j c) = ap (λ (x : ℕ). data_at objects stacks (brick x c)) (e ∙ sym f) in
        inl (let q = string_first i b c n k (have.texts i b n h) (have.bricks i c k two) in omega arith)
    in_module m (origin.Text i b) (origin.Text j c) n k e f h g diff =
        let two : IsText ps S i c k = subst (λ (x : ℕ). IsText ps S x c k) (f ∙ sym e) g in
        let at : string_at objects stacks i c ≡ string_at objects stacks j c = ap (λ (x : ℕ). string_at objects stacks x c) (e ∙ sym f) in
        elim (order b c) [
          | less l ↦ inl (let q = strings_far i b c n k l (have.texts i b n h) (have.texts i c k two) in omega arith)
          | same s ↦ absurd (diff (let z : i ≡ j = e ∙ sym f in cc))
          | more l ↦ inr (let q = strings_far i c b k n l (have.texts i c k two) (have.texts i b n h) in omega arith)
        ]

    bases_apart : (o p : Origin) (n k : ℕ) → HasRoom ps S o n → HasRoom ps S p k → o ≢ p → (base_of objects stacks o + n ≤ base_of objects stacks p) ⊎ (base_of objects stacks p + k ≤ base_of objects stacks o)
    unfolding AreFar
    bases_apart o p n k h g diff =
        elim (order (module_in o) (module_in p)) [
          | less l ↦ inl (modules_far (module_in o) (module_in p) (base_of objects stacks o) n (base_of objects stacks p) k l (lies o n h) (lies p k g))
          | same s ↦ in_module (module_in o) o p n k refl (sym s) h g diff
          | more l ↦ inr (modules_far (module_in p) (module_in o) (base_of objects stacks p) k (base_of objects stacks o) n l (lies p k g) (lies o n h))
        ]

    pub are_bases : AreBases ps S (base_of objects stacks) (code_end objects stacks) (data_end objects stacks)
    are_bases = record { even_base = even_bases; above = bases_above; below = bases_below; apart = bases_apart }
