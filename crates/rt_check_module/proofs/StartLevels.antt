-- Which records have a start though nothing is written for them, as they are judged one by one.
use Rattle.std.proofs.Common.{◌≡◌, ℕ, zero, suc, ◌+◌, ◌-◌, ◌<◌, ◌≤◌, ◌⊎◌, inl, inr, Bool, true, false, ◌&&◌, List, [], ◌∷◌, length, Option, Some, None, slice_get, slice_set, refl, sym, ap, ◌∙◌, subst, arith}
use Rattle.std.specs.Prelude.{replicate}
use Rattle.std.proofs.Math.Path.{fun_ext}
use Rattle.std.proofs.lemmas.List.{length-replicate}
use Rattle.rt_modes.specs.declared.mode.Field.{Field}
use Rattle.rt_modes.specs.declared.mode.Mode.{Mode, out-Mode}
use Rattle.rt_modes.specs.declared.mode.Mode.TheOpen.{Mode-F}
use Rattle.rt_modes.specs.declared.mode.RecordDef.{RecordDef}
use Rattle.rt_check_module.specs.Defaults.{element_has, has, all_have, fields_have, is_there, listed, record_has, AreDefaults}
use Rattle.rt_check_module.specs.Doubts.{still, AreKept, IsSettled}

-- ---- more records that have one

module _ (f g : ℕ → Bool) (more : (r : ℕ) → f r ≡ true → g r ≡ true) where
  more_elements : (l : Mode-F Mode) → element_has f l ≡ true → element_has g l ≡ true
  more_elements Mode-F.Byte e = refl
  more_elements Mode-F.Int e = refl
  more_elements Mode-F.Frac e = refl
  more_elements Mode-F.Label e = refl
  more_elements (Mode-F.Ref m) e = e
  more_elements (Mode-F.RefArray m) e = e
  more_elements (Mode-F.Array n m) e = e
  more_elements (Mode-F.Record r) e = more r e
  more_elements (Mode-F.Proc ms m) e = e

  more_modes : (l : Mode-F Mode) → has f l ≡ true → has g l ≡ true
  more_modes Mode-F.Byte e = refl
  more_modes Mode-F.Int e = refl
  more_modes Mode-F.Frac e = refl
  more_modes Mode-F.Label e = refl
  more_modes (Mode-F.Ref m) e = e
  more_modes (Mode-F.RefArray m) e = e
  more_modes (Mode-F.Array n m) e = more_elements (out-Mode m) e
  more_modes (Mode-F.Record r) e = more r e
  more_modes (Mode-F.Proc ms m) e = e

  both : (a b : Bool) → (a && b) ≡ true → (a ≡ true) × (b ≡ true)
  both true b e = (refl, e)
  both false b e = absurd cc

  and_both : (a b : Bool) → a ≡ true → b ≡ true → (a && b) ≡ true
  and_both true b e h = h
  and_both false b e h = absurd cc

  more_all : (fs : List Field) → all_have f fs ≡ true → all_have g fs ≡ true
  more_all [] e = refl
  more_all (x ∷ fs) e =
      let parts = both (has f (out-Mode x.mode)) (all_have f fs) e in and_both (has g (out-Mode x.mode)) (all_have g fs) (more_modes (out-Mode x.mode) parts.0) (more_all fs parts.1)

  more_fields : (o : Option RecordDef) → fields_have f o ≡ true → fields_have g o ≡ true
  more_fields None e = e
  more_fields (Some d) e = more_all d.fields e

-- ---- how many are still said to have one

still_all : (n : ℕ) → still (replicate n true) ≡ n
still_all zero = refl
still_all (suc n) = let h = still_all n in omega (arith, h)

still_within : (bs : List Bool) → still bs ≤ length bs
still_within [] = omega arith
still_within (true ∷ bs) = let h = still_within bs in omega (arith, h)
still_within (false ∷ bs) = let h = still_within bs in omega (arith, h)

pub one_less : (bs : List Bool) (n : ℕ) → listed bs n ≡ true → still (slice_set bs n false) + 1 ≡ still bs
one_less [] n e = absurd cc
one_less (true ∷ bs) zero e = refl
one_less (false ∷ bs) zero e = absurd cc
one_less (true ∷ bs) (suc n) e = let h = one_less bs n e in omega (arith, h)
one_less (false ∷ bs) (suc n) e = one_less bs n e

set_other : (bs : List Bool) (n r : ℕ) → listed bs r ≡ true → (r ≡ n) ⊎ (listed (slice_set bs n false) r ≡ true)
set_other [] n r e = absurd cc
set_other (b ∷ bs) zero zero e = inl refl
set_other (b ∷ bs) zero (suc r) e = inr e
set_other (b ∷ bs) (suc n) zero e = inr e
set_other (b ∷ bs) (suc n) (suc r) e = elim (set_other bs n r e) [ inl h ↦ inl (ap suc h) | inr h ↦ inr h ]

set_long : (bs : List Bool) (n : ℕ) → length (slice_set bs n false) ≡ length bs
set_long [] n = refl
set_long (b ∷ bs) zero = refl
set_long (b ∷ bs) (suc n) = let h = set_long bs n in omega (arith, h)

listed_there : (rs : List RecordDef) (bs : List Bool) (r : ℕ) → length bs ≡ length rs → listed bs r ≡ true → is_there (slice_get rs r) ≡ true
listed_there rs [] r l e = absurd cc
listed_there [] (b ∷ bs) r l e = absurd (omega (arith, l))
listed_there (d ∷ rs) (b ∷ bs) zero l e = refl
listed_there (d ∷ rs) (b ∷ bs) (suc r) l e = listed_there rs bs r (omega (arith, l)) e

said_at_first : (rs : List RecordDef) (r : ℕ) → is_there (slice_get rs r) ≡ true → listed (replicate (length rs) true) r ≡ true
said_at_first [] r e = absurd cc
said_at_first (d ∷ rs) zero e = refl
said_at_first (d ∷ rs) (suc r) e = said_at_first rs r e

same_bool : (a b : Bool) → (a ≡ true → b ≡ true) → (b ≡ true → a ≡ true) → a ≡ b
same_bool true b f g = sym (f refl)
same_bool false true f g = g refl
same_bool false false f g = refl

-- ---- level by level

module _ (records : List RecordDef) where
  at_level : (k r : ℕ) → record_has records (suc k) r ≡ fields_have (record_has records k) (slice_get records r)
  unfolding record_has
  at_level k r = refl

  at_zero : (r : ℕ) → record_has records 0 r ≡ is_there (slice_get records r)
  unfolding record_has
  at_zero r = refl

  is_some : (f : ℕ → Bool) (o : Option RecordDef) → fields_have f o ≡ true → is_there o ≡ true
  is_some f None e = absurd cc
  is_some f (Some d) e = refl

  less_deep : (k r : ℕ) → record_has records (suc k) r ≡ true → record_has records k r ≡ true
  less_deep zero r e = at_zero r ∙ is_some (record_has records 0) (slice_get records r) (sym (at_level 0 r) ∙ e)
  less_deep (suc k) r e = at_level k r ∙ more_fields (record_has records (suc k)) (record_has records k) (less_deep k) (slice_get records r) (sym (at_level (suc k) r) ∙ e)

  much_less : (d k r : ℕ) → record_has records (d + k) r ≡ true → record_has records k r ≡ true
  much_less zero k r e = let z : 0 + k ≡ k = omega arith in subst (λ (n : ℕ). record_has records n r ≡ true) z e
  much_less (suc d) k r e = let z : suc d + k ≡ suc (d + k) = omega arith in much_less d k r (less_deep (d + k) r (subst (λ (n : ℕ). record_has records n r ≡ true) z e))

  pub at_first : (known : List Bool) → known ≡ replicate (length records) true → AreKept records known
  at_first known e = subst (AreKept records) (sym e) (record {
    size = length-replicate (length records) true;
    kept = λ r h. said_at_first records r (sym (at_zero r) ∙ subst (λ (n : ℕ). record_has records n r ≡ true) (none (length records) (still (replicate (length records) true)) (still_all (length records))) h);
  })
    where
      none : (n s : ℕ) → s ≡ n → n - s ≡ 0
      none n s e = omega (arith, e)

  one_kept : (known : List Bool) (n r : ℕ) → AreKept records known → listed known n ≡ true → fields_have (listed known) (slice_get records n) ≡ false → record_has records (length records - still (slice_set known n false)) r ≡ true
      → listed (slice_set known n false) r ≡ true
  one_kept known n r old here none h = elim (set_other known n r (old.kept r (less_deep (length records - still known) r deep))) [
    | inl same ↦ absurd (let bad : true ≡ false = sym (more_fields (record_has records (length records - still known)) (listed known) old.kept (slice_get records n) (sym (at_level (length records - still known) n) ∙ subst (λ (x : ℕ). record_has records (suc (length records - still known)) x ≡ true) same deep)) ∙ none in cc)
    | inr e ↦ e
  ]
    where
      next : length records - still (slice_set known n false) ≡ suc (length records - still known)
      next = let less = one_less known n here in let within = still_within known in let size = old.size in omega (arith, less, within, size)

      deep : record_has records (suc (length records - still known)) r ≡ true
      deep = subst (λ (k : ℕ). record_has records k r ≡ true) next h

  -- one that is found to have none
  pub found_none : (known new : List Bool) (n : ℕ) → AreKept records known → listed known n ≡ true → fields_have (listed known) (slice_get records n) ≡ false → new ≡ slice_set known n false → AreKept records new
  found_none known new n old here none e = subst (AreKept records) (sym e) (record { size = set_long known n ∙ old.size; kept = λ r h. one_kept known n r old here none h })

  -- where all are settled
  module _ (known : List Bool) (old : AreKept records known) (all : (k : ℕ) → k < length known → IsSettled records known k) where
    within : (bs : List Bool) (r : ℕ) → listed bs r ≡ true → r < length bs
    within [] r e = absurd cc
    within (b ∷ bs) zero e = omega arith
    within (b ∷ bs) (suc r) e = let h = within bs r e in omega (arith, h)

    has_at : (k r : ℕ) → listed known r ≡ true → record_has records k r ≡ true
    has_at zero r e = at_zero r ∙ listed_there records known r old.size e
    has_at (suc k) r e = at_level k r ∙ more_fields (listed known) (record_has records k) (has_at k) (slice_get records r) (all r (within known r e) e)

    back : (r : ℕ) → record_has records (length records) r ≡ true → listed known r ≡ true
    back r e = old.kept r (much_less (still known) (length records - still known) r (subst (λ (k : ℕ). record_has records k r ≡ true) parts e))
      where
        parts : length records ≡ still known + (length records - still known)
        parts = let w = still_within known in let size = old.size in omega (arith, w, size)

    pub are_defaults : AreDefaults records known
    are_defaults = fun_ext (λ r. same_bool (listed known r) (record_has records (length records) r) (has_at (length records) r) (back r))
