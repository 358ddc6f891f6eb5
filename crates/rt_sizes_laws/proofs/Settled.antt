-- Some depth tells all sizes that any depth tells, so that it can be told which there are.
use Rattle.std.proofs.Common.{◌≡◌, ◌⊎◌, ℕ, zero, suc, ◌+◌, ◌<◌, inl, inr, Bool, true, false, List, [], ◌∷◌, length, Option, Some, None, slice_get, refl, sym, ap, ◌∙◌, subst, arith}
use Rattle.std.specs.Prelude.{nat_le, if◌then◌else◌}
use Rattle.rt_modes.specs.declared.mode.Field.{Field}
use Rattle.rt_modes.specs.declared.mode.RecordDef.{RecordDef}
use Rattle.rt_sizes.specs.Sizes.{Table, most, within, fields_if, fields_of, field_end, record_layer, passes_in}
use Rattle.rt_sizes.proofs.Layers.{some_is, deeper, more_then, more_field_end, more_record}
use Rattle.rt_sizes_laws.specs.Decided.{IsDecided, SizesAreDecided, PassesAreDecided, OnePasses}
use Rattle.rt_sizes_laws.proofs.Deeper.{Quantity, AreMore, Grows, Has, size_of, size_grows, once}

-- ---- how many have no size

lacks : Option ℕ → ℕ
lacks None = 1
lacks (Some x) = 0

-- of the first n
missing : (ℕ → Option ℕ) → ℕ → ℕ
missing f zero = 0
missing f (suc n) = lacks (f n) + missing f n

pub before_next : (k n : ℕ) → k < suc n → (k < n) ⊎ (k ≡ n)
before_next zero zero l = inr refl
before_next (suc k) zero l = absurd (omega arith)
before_next zero (suc n) l = inl (omega arith)
before_next (suc k) (suc n) l = elim (before_next k n (omega arith)) [ inl h ↦ inl (omega arith) | inr e ↦ inr (ap suc e) ]

module _ (f g : ℕ → Option ℕ) (up : AreMore f g) where
  -- none of the first n has a size by g alone
  abbrev NoneNew : ℕ → Type 0
  NoneNew n = (k x : ℕ) → k < n → g k ≡ Some x → f k ≡ Some x

  record Compared (n : ℕ) : Type 0 where
    pub no_more : missing g n < suc (missing f n)
    pub which : NoneNew n ⊎ (missing g n < missing f n)

  one_more : (n : ℕ) → NoneNew n → ((x : ℕ) → g n ≡ Some x → f n ≡ Some x) → NoneNew (suc n)
  one_more n none last k x l e = elim (before_next k n l) [ inl h ↦ none k x h e | inr same ↦ subst (λ (j : ℕ). f j ≡ Some x) (sym same) (last x (subst (λ (j : ℕ). g j ≡ Some x) same e)) ]

  next_by : (n : ℕ) (a b : Option ℕ) → f n ≡ a → g n ≡ b → Compared n → Compared (suc n)
  unfolding lacks missing
  next_by n None None p q c =
      let is_f : missing f (suc n) ≡ lacks (f n) + missing f n = refl in
      let is_g : missing g (suc n) ≡ lacks (g n) + missing g n = refl in
      let left : lacks (f n) ≡ 1 = ap lacks p in
      let right : lacks (g n) ≡ 1 = ap lacks q in
      let old : missing g n < suc (missing f n) = c.no_more in record {
        no_more = omega arith;
        which = elim (c.which) [ inl none ↦ inl (one_more n none (λ x e. absurd (let bad : None ≡ Some x = sym q ∙ e in cc))) | inr less ↦ inr (omega arith) ];
      }
  next_by n None (Some y) p q c =
      let is_f : missing f (suc n) ≡ lacks (f n) + missing f n = refl in
      let is_g : missing g (suc n) ≡ lacks (g n) + missing g n = refl in
      let left : lacks (f n) ≡ 1 = ap lacks p in
      let right : lacks (g n) ≡ 0 = ap lacks q in
      let old : missing g n < suc (missing f n) = c.no_more in record { no_more = omega arith; which = inr (omega arith) }
  next_by n (Some x) None p q c = absurd (let bad : None ≡ Some x = sym q ∙ up n x p in cc)
  next_by n (Some x) (Some y) p q c =
      let is_f : missing f (suc n) ≡ lacks (f n) + missing f n = refl in
      let is_g : missing g (suc n) ≡ lacks (g n) + missing g n = refl in
      let left : lacks (f n) ≡ 0 = ap lacks p in
      let right : lacks (g n) ≡ 0 = ap lacks q in
      let old : missing g n < suc (missing f n) = c.no_more in
      let same : x ≡ y = some_is x y (sym (up n x p) ∙ q) in record {
        no_more = omega arith;
        which = elim (c.which) [ inl none ↦ inl (one_more n none (λ z e. p ∙ (let is : Some x ≡ Some z = sym (up n x p) ∙ e in is))) | inr less ↦ inr (omega arith) ];
      }

  compare : (n : ℕ) → Compared n
  unfolding missing
  compare zero = record { no_more = (let is_f : missing f 0 ≡ 0 = refl in let is_g : missing g 0 ≡ 0 = refl in omega arith); which = inl (λ k x l e. absurd (omega arith)) }
  compare (suc n) = next_by n (f n) (g n) refl refl (compare n)

-- ---- a depth that tells all

there : (f : ℕ → Option ℕ) (b : Option Bool) (rs : List RecordDef) (k n : ℕ) → record_layer f (fields_if b (slice_get rs k)) ≡ Some n → k < length rs
there f None rs k n e = absurd cc
there f (Some false) rs k n e = absurd cc
there f (Some true) [] k n e = absurd cc
there f (Some true) (r ∷ rs) zero n e = omega arith
there f (Some true) (r ∷ rs) (suc k) n e = let l = there f (Some true) rs k n e in omega arith

module _ (t : Table) where
  -- any depth tells no more than this one
  abbrev TellsAll : ℕ → Type 0
  TellsAll d = (e : ℕ) → AreMore (within t e) (within t d)

  last : (d : ℕ) → NoneNew (within t d) (within t (suc d)) (deeper t d) (length t.records) → TellsAll d
  unfolding within
  last d none zero k n e = absurd cc
  last d none (suc e) k n is =
      let more : within t (suc d) k ≡ Some n = more_record (within t e) (within t d) (last d none e) (fields_of t k) n is in
      none k n (there (within t d) (slice_get t.known k) t.records k n more) more

  settle : (u d : ℕ) → missing (within t d) (length t.records) < suc u → (d : ℕ) × TellsAll d
  settle zero d few =
      let c = compare (within t d) (within t (suc d)) (deeper t d) (length t.records) in
      elim (c.which) [ inl none ↦ (d, last d none) | inr less ↦ absurd (omega arith) ]
  settle (suc u) d few =
      let c = compare (within t d) (within t (suc d)) (deeper t d) (length t.records) in
      elim (c.which) [ inl none ↦ (d, last d none) | inr less ↦ settle u (suc d) (omega arith) ]

  depth : (d : ℕ) × TellsAll d
  depth = settle (missing (within t zero) (length t.records)) zero (omega arith)

  told : (q : Quantity) → Grows q → (o : Option ℕ) → q (within t depth.0) ≡ o → IsDecided ((n : ℕ) × Has t q n)
  told q grows (Some n) e = inl (n, (depth.0, e))
  told q grows None e = inr (λ h. let same : q (within t depth.0) ≡ Some h.0 = grows (within t h.1.0) (within t depth.0) (depth.1 h.1.0) h.0 h.1.1 in let bad : None ≡ Some h.0 = sym e ∙ same in cc)

  pub decided : (q : Quantity) → Grows q → IsDecided ((n : ℕ) × Has t q n)
  decided q grows = told q grows (q (within t depth.0)) refl

-- ---- with which field they pass the most

abbrev passing : List Field → Quantity
passing fs f = passes_in f fs 0 0

module _ (f g : ℕ → Option ℕ) (up : AreMore f g) where
  by_test : (b : Bool) (x y : Option ℕ) (k j : ℕ) → (x ≡ Some j → y ≡ Some j) → (if b then x else Some k) ≡ Some j → (if b then y else Some k) ≡ Some j
  by_test true x y k j h e = h e
  by_test false x y k j h e = e

  more_passes : (fs : List Field) (n i j : ℕ) → passes_in f fs n i ≡ Some j → passes_in g fs n i ≡ Some j
  more_passes [] n i j e = e
  more_passes (x ∷ fs) n i j e =
      more_then (field_end f x n) (field_end g x n) (λ e. if nat_le e most then passes_in f fs e (i + 1) else Some i) (λ e. if nat_le e most then passes_in g fs e (i + 1) else Some i) j
      (more_field_end f g up x n) (λ e. by_test (nat_le e most) (passes_in f fs e (i + 1)) (passes_in g fs e (i + 1)) i j (more_passes fs e (i + 1) j)) e

passing_grows : (fs : List Field) → Grows (passing fs)
passing_grows fs f g up n e = more_passes f g up fs 0 0 n e

pub sizes_are_decided : SizesAreDecided
sizes_are_decided t m = decided t (size_of m) (size_grows m)

pub passes_are_decided : PassesAreDecided
passes_are_decided t fs = decided t (passing fs) (passing_grows fs)

pub one_passes : OnePasses
one_passes t fs i j a b = once t (passing fs) (passing_grows fs) i j a b
