-- What the sizes of records that are counted say of fields and of bad records.
use Rattle.std.proofs.Common.{◌≡◌, ℕ, ◌<◌, ◌≤◌, ◌⊎◌, ◌||◌, eqb, subst, inl, inr, Bool, true, false, if◌then◌else◌, leb, nat_le, List, Option, Some, None, refl, sym, ap, ◌∙◌, arith}
use Rattle.std.proofs.lemmas.Bool.{eqb-true, leb-true}
use Rattle.std.proofs.lemmas.Bool.Decides.{nat_tests}
use Rattle.rt_modes.specs.declared.mode.Field.{Field}
use Rattle.rt_modes.specs.declared.mode.RecordDef.{RecordDef}
use Rattle.rt_sizes.specs.Capped.{counted, size_in, AreSizes}
use Rattle.rt_sizes.specs.Containing.{Contains}
use Rattle.rt_sizes.specs.Rings.{IsFirstRing}
use Rattle.rt_sizes.specs.Sizes.{End, within}
use Rattle.rt_sizes.specs.declared.size.Size.{Size}
use Rattle.rt_sizes.specs.declared.size.Size.TheVariants as size
use Rattle.rt_sizes.proofs.Kept.{some_counted}
use Rattle.rt_object.specs.Grammar.{size_of, is_within_most}
use Rattle.rt_object.specs.Known.{is_too_large, is_at}
use Rattle.rt_object.specs.Ranges.{table_of, IsBadRecord}
use Rattle.rt_object.proofs.Depth.{end_is_size, size_is_end}

-- a number of bytes that is counted as such is that number, and another is larger than the most
counted_by : (n m : ℕ) (b : Bool) → (if b then size.Bytes n else size.TooLarge) ≡ size.Bytes m → (b ≡ true) × (n ≡ m)
counted_by n m true e = (refl, cc)
counted_by n m false e = absurd cc

large_by : (n : ℕ) (b : Bool) → (if b then size.Bytes n else size.TooLarge) ≡ size.TooLarge → b ≡ false
large_by n true e = absurd cc
large_by n false e = refl

is_counted : (n m : ℕ) → counted n ≡ size.Bytes m → (n ≤ 57344) × (n ≡ m)
is_counted n m e = let k = counted_by n m (nat_le n 57344) e in (leb-true n 57344 k.0, k.1)

is_large : (n : ℕ) → counted n ≡ size.TooLarge → 57344 < n
is_large n e = more n (large_by n (nat_le n 57344) e)
  where
    more : (n : ℕ) → nat_le n 57344 ≡ false → 57344 < n
    more n e = grind (arith, e)

-- ---- fields

module _ (records : List RecordDef) (fields : List Field) where
  abbrev pub Tells : Option Size → Type 0
  Tells o = (s : Size) → o ≡ Some s → (n : ℕ) × End (table_of records) fields n × (counted n ≡ s)

  abbrev pub IsTold : Option Size → Type 0
  IsTold o = (n : ℕ) → End (table_of records) fields n → o ≡ Some (counted n)

  -- fields that have so many bytes
  pub are_within : (o : Option Size) (m : ℕ) → o ≡ Some (size.Bytes m) → Tells o → size_of records fields ≡ Some m
  are_within o m e tells = let k = tells (size.Bytes m) e in let n = is_counted k.0 m k.2 in end_is_size records fields k.0 k.1 ∙ ap (λ x. Some x) n.1

  pub within_is_true : (o : Option Size) (m : ℕ) → o ≡ Some (size.Bytes m) → Tells o → is_within_most (size_of records fields) ≡ true
  within_is_true o m e tells =
      let k = tells (size.Bytes m) e in let n = is_counted k.0 m k.2 in ap is_within_most (end_is_size records fields k.0 k.1) ∙ true_test k.0 n.0
    where
      true_test : (n : ℕ) → n ≤ 57344 → leb n 57344 ≡ true
      true_test n h = grind arith

  -- otherwise they have none, or too many
  others : (o : Option Size) (x : Option ℕ) → ((m : ℕ) → o ≡ Some (size.Bytes m) → ⊥) → IsTold o → size_of records fields ≡ x → is_within_most x ≡ false
  others o None unlike told e = refl
  others o (Some n) unlike told e = by (leb n 57344) refl
    where
      by : (b : Bool) → leb n 57344 ≡ b → leb n 57344 ≡ false
      by false f = f
      by true f = absurd (unlike n (told n (size_is_end records fields n e) ∙ ap (λ b. Some (if b then size.Bytes n else size.TooLarge)) f))

  pub within_is_false : (o : Option Size) → ((m : ℕ) → o ≡ Some (size.Bytes m) → ⊥) → IsTold o → is_within_most (size_of records fields) ≡ false
  within_is_false o unlike told = others o (size_of records fields) unlike told refl

-- ---- bad records

module _ (records : List RecordDef) (sizes : List (Option Size)) (h : AreSizes (table_of records) sizes) (k : ℕ) where
  pub too_large : size_in sizes k ≡ Some size.TooLarge → IsBadRecord records k
  too_large e = let n = some_counted (within (table_of records) h.right.0 k) size.TooLarge (h.right.1 k size.TooLarge e) in inr (n.0, (h.right.0, n.1), is_large n.0 n.2)

  -- where the size isn't too large
  pub bad_is_ring : (size_in sizes k ≡ Some size.TooLarge → ⊥) → IsBadRecord records k → Contains records k k
  bad_is_ring fine (inl c) = c
  bad_is_ring fine (inr (n, (d, e), large)) = absurd (fine (h.all k d n e ∙ ap (λ s. Some s) (counted_large n large)))
    where
      counted_large : (n : ℕ) → 57344 < n → counted n ≡ size.TooLarge
      counted_large n l = let f : nat_le n 57344 ≡ false = less n l in ap (λ b. if b then size.Bytes n else size.TooLarge) f
        where
          less : (n : ℕ) → 57344 < n → nat_le n 57344 ≡ false
          less n l = grind arith

  large_is : (o : Option Size) → is_too_large o ≡ true → o ≡ Some size.TooLarge
  large_is None e = absurd cc
  large_is (Some size.TooLarge) e = refl
  large_is (Some (size.Bytes n)) e = absurd cc

  large_bad : is_too_large (size_in sizes k) ≡ true → IsBadRecord records k
  large_bad e = too_large (large_is (size_in sizes k) e)

  not_large : is_too_large (size_in sizes k) ≡ false → size_in sizes k ≡ Some size.TooLarge → ⊥
  not_large e f = let bad : true ≡ false = sym (ap is_too_large f) ∙ e in cc

  ring_is : (ring : Option ℕ) → IsFirstRing records ring → is_at ring k ≡ true → Contains records k k
  ring_is None h e = absurd cc
  ring_is (Some j) h e = subst (λ i. Contains records i i) (eqb-true j k e) h.0

  pub found_bad : (ring : Option ℕ) → IsFirstRing records ring → (is_at ring k || is_too_large (size_in sizes k)) ≡ true → IsBadRecord records k
  found_bad ring h e = by (is_at ring k) refl e
    where
      by : (b : Bool) → is_at ring k ≡ b → (b || is_too_large (size_in sizes k)) ≡ true → IsBadRecord records k
      by true f g = inl (ring_is ring h f)
      by false f g = large_bad g

  same_test : (j : ℕ) → eqb j j ≡ true
  same_test j = grind (arith, nat_tests)

  -- a record that contains itself is the first, or stands behind it
  pub no_ring : (ring : Option ℕ) → IsFirstRing records ring → ((j : ℕ) → j < k → IsBadRecord records j → ⊥) → is_at ring k ≡ false → Contains records k k → ⊥
  no_ring None h none e c = h k c
  no_ring (Some j) h none e c = by (order j k)
    where
      order : (j k : ℕ) → (j < k) ⊎ ((j ≡ k) ⊎ (k < j))
      order j k = grind arith

      by : (j < k) ⊎ ((j ≡ k) ⊎ (k < j)) → ⊥
      by (inl before) = none j before (inl h.0)
      by (inr (inl same)) = let bad : true ≡ false = sym (same_test k) ∙ ap (λ i. eqb i k) (sym same) ∙ e in cc
      by (inr (inr behind)) = h.1 k behind c

  pub none_found : (ring : Option ℕ) → IsFirstRing records ring → ((j : ℕ) → j < k → IsBadRecord records j → ⊥) → (is_at ring k || is_too_large (size_in sizes k)) ≡ false → IsBadRecord records k → ⊥
  none_found ring h none e bad = by (is_at ring k) refl e
    where
      by : (b : Bool) → is_at ring k ≡ b → (b || is_too_large (size_in sizes k)) ≡ false → ⊥
      by true f g = cc
      by false f g = no_ring ring h none f (bad_is_ring (not_large g) bad)
