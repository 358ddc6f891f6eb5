-- Lists of offsets and sizes, as they grow.
use Rattle.std.proofs.Common.{◌≡◌, ℕ, zero, suc, Bool, true, false, List, [], ◌∷◌, ◌++◌, length, Option, Some, None, refl, sym, ap, ◌∙◌, subst, ◌⊎◌, inl, inr}
use Rattle.std.specs.Prelude.{slice_get, nat_le, if◌then◌else◌}
use Rattle.rt_sizes.specs.declared.size.Size.{Size}
use Rattle.rt_sizes.specs.declared.size.Size.TheVariants as size
use Rattle.rt_modes.specs.declared.mode.Field.{Field}
use Rattle.rt_modes.specs.declared.mode.RecordDef.{RecordDef}
use Rattle.rt_sizes.specs.Sizes.{most, Table, Begins, within}
use Rattle.rt_sizes.specs.Capped.{counted, listed, AreSizes}
use Rattle.rt_sizes.proofs.Kept.{some_counted}
use Rattle.rt_lower.specs.Layouts.{table_of, AreRecordSizes}

-- what stands in a list that got one more
pub pushed : {A : Type 0} (xs : List A) (y : A) (j : ℕ) (z : A) → slice_get (xs ++ y ∷ []) j ≡ Some z → (slice_get xs j ≡ Some z) ⊎ ((j ≡ length xs) × (y ≡ z))
pushed [] y zero z e = inr (refl, cc)
pushed [] y (suc j) z e = absurd cc
pushed (x ∷ xs) y zero z e = inl e
pushed (x ∷ xs) y (suc j) z e = next (pushed xs y j z e) where
  next : (slice_get xs j ≡ Some z) ⊎ ((j ≡ length xs) × (y ≡ z)) → (slice_get (x ∷ xs) (suc j) ≡ Some z) ⊎ ((suc j ≡ length (x ∷ xs)) × (y ≡ z))
  next (inl h) = inl h
  next (inr h) = inr (ap suc h.0, h.1)

-- a number of bytes that is told is the one that was counted
pub told_is : (n m : ℕ) → counted n ≡ size.Bytes m → n ≡ m
told_is n m e = by (nat_le n most) e where
  by : (b : Bool) → (if b then size.Bytes n else size.TooLarge) ≡ size.Bytes m → n ≡ m
  by true f = cc
  by false f = absurd cc

offset_by : (t : Table) (fs : List Field) (ns : List ℕ) (k x j n : ℕ) → length ns ≡ k → ((i m : ℕ) → slice_get ns i ≡ Some m → Begins t fs i m) → Begins t fs k x → (slice_get ns j ≡ Some n) ⊎ ((j ≡ length ns) × (x ≡ n)) → Begins t fs j n
offset_by t fs ns k x j n l h b (inl e) = h j n e
offset_by t fs ns k x j n l h b (inr e) = subst (λ i. Begins t fs i n) (sym l ∙ sym e.0) (subst (λ m. Begins t fs k m) e.1 b)

-- one offset more
pub offset_more : (t : Table) (fs : List Field) (ns : List ℕ) (k x : ℕ) (new : List ℕ) → new ≡ ns ++ x ∷ [] → length ns ≡ k → ((j n : ℕ) → slice_get ns j ≡ Some n → Begins t fs j n)
    → Begins t fs k x → (j n : ℕ) → slice_get new j ≡ Some n → Begins t fs j n
offset_more t fs ns k x new e l h at j n f = offset_by t fs ns k x j n l h at (pushed ns x j n (subst (λ (v : List ℕ). slice_get v j ≡ Some n) e f))

-- one row more
pub row_more : {A : Type 0} (IsRow : A → List ℕ → Type 0) (xs : List A) (rows : List (List ℕ)) (k : ℕ) (row : List ℕ) (new : List (List ℕ)) (y : A) → new ≡ rows ++ row ∷ [] → length rows ≡ k → slice_get xs k ≡ Some y → IsRow y row
    → ((j : ℕ) (x : A) (ns : List ℕ) → slice_get xs j ≡ Some x → slice_get rows j ≡ Some ns → IsRow x ns) → (j : ℕ) (x : A) (ns : List ℕ) → slice_get xs j ≡ Some x → slice_get new j ≡ Some ns → IsRow x ns
row_more {A = A} IsRow xs rows k row new y e l there is h j x ns f g = by (pushed rows row j ns (subst (λ (v : List (List ℕ)). slice_get v j ≡ Some ns) e g)) where
  by : (slice_get rows j ≡ Some ns) ⊎ ((j ≡ length rows) × (row ≡ ns)) → IsRow x ns
  by (inl old) = h j x ns f old
  by (inr last) =
      let at : slice_get xs j ≡ Some y = ap (λ i. slice_get xs i) (last.0 ∙ l) ∙ there in
      let same : y ≡ x = cc in
      subst (λ v. IsRow x v) last.1 (subst (λ v. IsRow v row) same is)

-- the sizes that are told are those of the records
pub sized : (records : List RecordDef) (sizes : List (Option Size)) (ns : List ℕ) → AreSizes (table_of records) sizes → length ns ≡ length sizes → ((k n : ℕ) → slice_get ns k ≡ Some n → slice_get sizes k ≡ Some (Some (size.Bytes n)))
    → AreRecordSizes records ns
sized records sizes ns a e h = record {
  each = e ∙ a.one_each;
  right = λ k n f.
      let found = some_counted (within (table_of records) a.right.0 k) (size.Bytes n) (a.right.1 k (size.Bytes n) (ap listed (h k n f))) in
      (a.right.0, found.1 ∙ ap (λ m. Some m) (told_is found.0 n found.2));
}
