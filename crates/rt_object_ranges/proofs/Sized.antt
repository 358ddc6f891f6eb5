-- Fields that have a size.
use Rattle.std.proofs.Common.{◌≡◌, ℕ, true, false, Some, sym, ◌∙◌, List, Option}
use Rattle.rt_modes.specs.declared.mode.Field.{Field}
use Rattle.rt_modes.specs.declared.mode.RecordDef.{RecordDef}
use Rattle.rt_sizes.specs.declared.size.Size.{Size}
use Rattle.rt_sizes.specs.declared.size.Size.TheVariants as size
use Rattle.rt_object.specs.Ranges.{HaveSize}
use Rattle.rt_object.proofs.Depth.{end_is_size}
use Rattle.rt_object.proofs.KnownSizes.{IsTold, Tells, are_within, within_is_true, within_is_false}
use Rattle.rt_object.proofs.SpeltParts.{has_size_within, within_has_size}

module _ (records : List RecordDef) (fields : List Field) (o : Option Size) where
  some_is : (m n : ℕ) → Some m ≡ Some n → m ≡ n
  some_is m n e = cc

  -- fields whose size is counted
  pub has_size : (m : ℕ) → o ≡ Some (size.Bytes m) → Tells records fields o → HaveSize records fields m
  has_size m e tells =
      let within = within_has_size records fields (within_is_true records fields o m e tells) in
      let same = some_is within.0 m (sym (end_is_size records fields within.0 within.1.0) ∙ are_within records fields o m e tells) in
      rw same at within.1

  -- it is the one that they have
  pub is_size : (m n : ℕ) → o ≡ Some (size.Bytes m) → Tells records fields o → HaveSize records fields n → m ≡ n
  is_size m n e tells h = some_is m n (sym (are_within records fields o m e tells) ∙ end_is_size records fields n h.0)

  -- otherwise they have none
  pub has_none : ((m : ℕ) → o ≡ Some (size.Bytes m) → ⊥) → IsTold records fields o → (n : ℕ) → HaveSize records fields n → ⊥
  has_none unlike told n h = let bad : true ≡ false = sym (has_size_within records fields n h) ∙ within_is_false records fields o unlike told in cc
