-- Where fields begin, one behind the other.
use Rattle.std.proofs.Common.{◌≡◌, ℕ, zero, suc, ◌+◌, ◌-◌, ◌<◌, List, [], ◌∷◌, ◌++◌, length, take, drop, get_or, Option, Some, None, option_map, refl, sym, ap, ◌∙◌, subst, arith, drop-cons}
use Rattle.std.proofs.Math.Seq.{take-suc}
use Rattle.std.proofs.lemmas.Option.{slice_get-get_or}
use Rattle.std.specs.Prelude.{slice_get, slice_range, Result, Ok, Err, IfOk}
use Rattle.rt_modes.specs.declared.mode.Field.{Field}
use Rattle.rt_modes.specs.declared.mode.Mode.{Mode, out-Mode}
use Rattle.rt_modes.specs.declared.mode.Mode.TheOpen.{Mode-F}
use Rattle.rt_sizes.specs.declared.size.Size.{Size}
use Rattle.rt_sizes.specs.declared.size.Size.TheVariants as size
use Rattle.rt_sizes.specs.Capped.{counted, behind}
use Rattle.rt_sizes.specs.Sizes.{begins, and_then, Table, size as bytes_of, within, End, Begins, fields_end, field_end, offset_by, field_begins}
use Rattle.rt_lower.proofs.Listing.{told_is}
use Rattle.rt_sizes.proofs.Layers.{deeper, more_fields_end}

abbrev size_of_mode : (ℕ → Option ℕ) → Field → Option ℕ
size_of_mode f x = bytes_of f x.mode

-- ---- at a greater depth no less is known

within_more : (t : Table) (d j k n : ℕ) → within t d k ≡ Some n → within t (d + j) k ≡ Some n
within_more t d zero k n e = let same : d ≡ d + 0 = omega arith in subst (λ i. within t i k ≡ Some n) same e
within_more t d (suc j) k n e = let same : suc (d + j) ≡ d + suc j = omega arith in subst (λ i. within t i k ≡ Some n) same (deeper t (d + j) k n (within_more t d j k n e))

ends_more : (t : Table) (d j : ℕ) (fs : List Field) (n e : ℕ) → fields_end (within t d) fs n ≡ Some e → fields_end (within t (d + j)) fs n ≡ Some e
ends_more t d j fs n e h = more_fields_end (within t d) (within t (d + j)) (within_more t d j) fs n e h

-- ---- one field more

then_some : {A B : Type 0} (a : Option A) (x : A) (go : A → Option B) → a ≡ Some x → and_then a go ≡ go x
then_some a x go e = ap (λ o. and_then o go) e

module _ (f : ℕ → Option ℕ) where
  ends_behind : (fs : List Field) (x : Field) (n e m : ℕ) → fields_end f fs n ≡ Some e → field_end f x e ≡ Some m → fields_end f (fs ++ x ∷ []) n ≡ Some m
  ends_behind [] x n e m h k =
      let same : n ≡ e = cc in
      then_some (field_end f x n) m (fields_end f []) (ap (λ i. field_end f x i) same ∙ k)
  ends_behind (y ∷ fs) x n e m h k = by (field_end f y n) h (λ i g. ends_behind fs x i e m g k) where
    by : (o : Option ℕ) → and_then o (fields_end f fs) ≡ Some e → ((i : ℕ) → fields_end f fs i ≡ Some e → fields_end f (fs ++ x ∷ []) i ≡ Some m) → and_then o (fields_end f (fs ++ x ∷ [])) ≡ Some m
    by None g go = absurd cc
    by (Some i) g go = go i g

  -- a field that stands alone begins at 0
  alone_begins : {A : Type 0} (m : Mode-F A) → begins m 0 ≡ 0
  alone_begins Mode-F.Byte = refl
  alone_begins Mode-F.Int = refl
  alone_begins Mode-F.Frac = refl
  alone_begins Mode-F.Label = refl
  alone_begins (Mode-F.Ref a) = refl
  alone_begins (Mode-F.RefArray a) = refl
  alone_begins (Mode-F.Array k a) = refl
  alone_begins (Mode-F.Record r) = refl
  alone_begins (Mode-F.Proc ps r) = refl

  alone_then : (o : Option ℕ) (k n : ℕ) → and_then (option_map (λ s. k + s) o) (fields_end f []) ≡ Some n → k ≡ 0 → o ≡ Some n
  alone_then None k n h e = absurd cc
  alone_then (Some s) k n h e = let same : k + s ≡ n = cc in ap (λ i. Some i) (let is : s ≡ n = omega (arith, same, e) in is)

alone_size : (f : ℕ → Option ℕ) (x : Field) (n : ℕ) → fields_end f (x ∷ []) 0 ≡ Some n → size_of_mode f x ≡ Some n
alone_size f x n h = alone_then f (size_of_mode f x) (field_begins f x 0) n h (alone_begins f (out-Mode x.mode))

behind_field : (f : ℕ → Option ℕ) (x : Field) (e n : ℕ) → size_of_mode f x ≡ Some n → field_end f x e ≡ Some (begins (out-Mode x.mode) e + n)
behind_field f x e n h = ap (option_map (λ s. field_begins f x e + s)) h

-- where a field begins, and where it ends
pub begins_there : (t : Table) (fs : List Field) (k e p : ℕ) (x : Field) → k < length fs → x ≡ get_or fs k x → End t (take k fs) e → p ≡ begins (out-Mode x.mode) e → Begins t fs k p
begins_there t fs k e p x h is ends at =
    let there : slice_get fs k ≡ Some x = slice_get-get_or fs k x h ∙ ap (λ y. Some y) (sym is) in
    (ends.0, ap (λ o. offset_by (within t ends.0) o (fields_end (within t ends.0) (take k fs) 0)) there ∙ ap (λ o. offset_by (within t ends.0) (Some x) o) ends.1 ∙ ap (λ n. Some n) (sym at))

pub ends_there : (t : Table) (fs : List Field) (k e n : ℕ) (x : Field) → k < length fs → x ≡ get_or fs k x → End t (take k fs) e → End t (x ∷ []) n → End t (take (k + 1) fs) (begins (out-Mode x.mode) e + n)
ends_there t fs k e n x h is a b =
    let f = within t (a.0 + b.0) in
    let before : fields_end f (take k fs) 0 ≡ Some e = ends_more t a.0 b.0 (take k fs) 0 e a.1 in
    let turned : b.0 + a.0 ≡ a.0 + b.0 = omega arith in
    let alone : fields_end f (x ∷ []) 0 ≡ Some n = subst (λ d. fields_end (within t d) (x ∷ []) 0 ≡ Some n) turned (ends_more t b.0 a.0 (x ∷ []) 0 n b.1) in
    let longer : take k fs ++ x ∷ [] ≡ take (k + 1) fs = ap (λ y. take k fs ++ y ∷ []) is ∙ sym (take-suc fs k x h) ∙ ap (λ i. take i fs) (let one : suc k ≡ k + 1 = omega arith in one) in
    (a.0 + b.0, subst (λ (gs : List Field). fields_end f gs 0 ≡ Some (begins (out-Mode x.mode) e + n)) longer (ends_behind f (take k fs) x 0 e (begins (out-Mode x.mode) e + n) before (behind_field f x e n (alone_size f x n alone))))

-- the field that stands at a number, by itself
pub one_of : (fs : List Field) (k : ℕ) (x : Field) → k < length fs → x ≡ get_or fs k x → slice_range fs k (k + 1) ≡ x ∷ []
one_of fs k x h is =
    let one : k + 1 - k ≡ 1 = omega arith in
    ap (λ n. take n (drop k fs)) one ∙ ap (take 1) (drop-cons fs k x h) ∙ ap (λ y. y ∷ []) (sym is)

-- ---- as the code counts

pub ok_then : {A E : Type 0} (P Q : A → Type 0) (r : Result A E) → ((x : A) → P x → Q x) → IfOk r P → IfOk r Q
ok_then P Q (Ok x) go h = go x h
ok_then P Q (Err e) go h = tt

pub end_is : (m : Mode-F Mode) (before s e n : ℕ) (z : Size) → z ≡ behind m (size.Bytes before) (size.Bytes s) → Some z ≡ Some (size.Bytes e) → counted n ≡ size.Bytes s → e ≡ begins m before + n
end_is m before s e n z h g k =
    let same : z ≡ size.Bytes e = cc in
    sym (told_is (begins m before + s) e (sym h ∙ same)) ∙ ap (λ i. begins m before + i) (sym (told_is n s k))
