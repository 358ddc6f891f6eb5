-- The item with which a data brick is too large.
use Rattle.std.proofs.Common.{◌≡◌, ℕ, ◌+◌, ◌<◌, List, [], ◌∷◌, ◌++◌, Option, Some, None, option_map, slice_get, length, drop, get_or, refl, sym, ap, ◌∙◌, subst, append_assoc}
use Rattle.std.specs.Prelude.{IsTrue}
use Rattle.rt_check_declared.specs.declared.parts.Given.{Given}
use Rattle.rt_check_declared.specs.declared.parts.Given.TheVariants as given
use Rattle.rt_check_declared.specs.declared.parts.Part.{Part}
use Rattle.rt_check_declared.specs.Totals.{with_field, all_fields, LargeFault, too_large}
use Rattle.rt_check_declared.specs.Totaling.{IsPassing, fault_of, fault_at}
use Rattle.rt_modes.specs.declared.mode.Field.{Field}
use Rattle.rt_modes.specs.declared.mode.Mode.{Mode}
use Rattle.rt_check_faults.specs.declared.fault.CheckFault.{CheckFault}
use Rattle.rt_check_faults.specs.declared.fault.CheckFault.TheVariants as fault
use Rattle.rt_check_faults.specs.Outcomes.{is_before}
use Rattle.rt_check_declared.specs.Records.{Counts}
use Rattle.rt_check_declared.proofs.Judged.{before_itself}
use Rattle.rt_check_declared.proofs.RecordSteps.{drop_next}
use Rattle.rt_sizes.specs.Sizes.{Table, PassWith}

abbrev pub joined : List Field → Option (List Field) → Option (List Field)
joined fs rest = option_map (λ gs. fs ++ gs) rest

join_one : (fs : List Field) (f : Field) (o : Option (List Field)) → joined (fs ++ f ∷ []) o ≡ joined fs (option_map (λ rest. f ∷ rest) o)
join_one fs f None = refl
join_one fs f (Some gs) = ap (λ x. Some x) (append_assoc fs (f ∷ []) gs)

same_field : (n : List ℕ) (m : Mode) (f : Field) → f.name ≡ n → f.mode ≡ m → (o : Option (List Field)) → with_field n (given.Mode m) o ≡ option_map (λ rest. f ∷ rest) o
same_field n m f a b o = rw (← a, ← b) refl

pub field_step : (a b : List Field) (ps : List Part) (i : ℕ) (p : Part) (f : Field) (m : Mode) → i < length ps → p ≡ get_or ps i p → p.has ≡ given.Mode m → f.name ≡ p.name → f.mode ≡ m → b ≡ a ++ f ∷ [] → joined a (all_fields (drop i ps)) ≡ all_fields ps
    → joined b (all_fields (drop (i + 1) ps)) ≡ all_fields ps
field_step a b ps i p f m h e has named moded is kept =
    ap (λ (x : List Field). joined x (all_fields (drop (i + 1) ps))) is ∙ join_one a f (all_fields (drop (i + 1) ps))
    ∙ ap (λ (x : Option (List Field)). joined a x) (sym (ap (λ (x : Given). with_field p.name x (all_fields (drop (i + 1) ps))) has ∙ same_field p.name m f named moded (all_fields (drop (i + 1) ps))))
    ∙ ap (λ (x : List Part). joined a (all_fields x)) (sym (drop_next ps i p h e)) ∙ kept

pub unknown_step : (a : List Field) (ps : List Part) (i : ℕ) (p : Part) → i < length ps → p ≡ get_or ps i p → p.has ≡ given.Unknown → joined a (all_fields (drop i ps)) ≡ all_fields ps → None ≡ all_fields ps
unknown_step a ps i p h e has kept =
    sym (ap (λ (x : List Part). joined a (all_fields x)) (drop_next ps i p h e) ∙ ap (λ (x : Given). joined a (with_field p.name x (all_fields (drop (i + 1) ps)))) has) ∙ kept

-- ---- the fault that counts

module _ (t : Table) (ps : List Part) where
  large_least : (p : Part) (i : ℕ) → slice_get ps i ≡ Some p → ((xs : List Field) (k : ℕ) → all_fields ps ≡ Some xs → PassWith t xs k → Some i ≡ Some k) → (h : CheckFault) → LargeFault t ps h → IsTrue (is_before (fault.BadStart p.at) h)
  large_least p i e only h (too_large {fs = xs} {i = k} {p = q} a b c) =
      before_itself (fault.BadStart p.at) (fault.BadStart q.at)
      (let same : Some i ≡ Some k = only xs k a b in let here : i ≡ k = cc in let parts : Some p ≡ Some q = sym e ∙ ap (slice_get ps) here ∙ c in let is : p ≡ q = cc in ap (λ (x : Part). fault.BadStart x.at) is)

  no_item : (i : ℕ) → IsPassing t (all_fields ps) (Some i) → slice_get ps i ≡ None → (g : CheckFault) → LargeFault t ps g → ⊥
  no_item i passing e g (too_large {fs = xs} {i = k} {p = q} a b c) =
      let same : Some i ≡ Some k = passing.only xs k a b in let here : i ≡ k = cc in let bad : None ≡ Some q = sym e ∙ ap (slice_get ps) here ∙ c in cc

  counts_at : (i : ℕ) (o : Option Part) → slice_get ps i ≡ o → IsPassing t (all_fields ps) (Some i) → Counts (LargeFault t ps) (fault_of o)
  counts_at i None e passing = λ g stands. no_item i passing e g stands
  counts_at i (Some p) e passing = let x = passing.found i refl in record { stands = too_large x.1 x.2 e; least = large_least p i e passing.only }

  none_large : IsPassing t (all_fields ps) None → (g : CheckFault) → LargeFault t ps g → ⊥
  none_large passing g (too_large {fs = xs} {i = k} {p = q} a b c) = let bad : None ≡ Some k = passing.only xs k a b in cc

  pub large_counts : (i : Option ℕ) → IsPassing t (all_fields ps) i → Counts (LargeFault t ps) (fault_at ps i)
  large_counts None passing = none_large passing
  large_counts (Some i) passing = counts_at i (slice_get ps i) refl passing

  pub large_item_counts : (fs : Option (List Field)) (i : Option ℕ) (g : Option CheckFault) → fs ≡ all_fields ps → IsPassing t fs i → g ≡ fault_at ps i → Counts (LargeFault t ps) g
  large_item_counts fs i g a b c =
      subst (λ (x : Option CheckFault). Counts (LargeFault t ps) x) (sym c) (large_counts i (subst (λ (x : Option (List Field)). IsPassing t x i) a b))

pub passing_of : (t : Table) (o : Option (List Field)) (fs xs : List Field) (i : Option ℕ) → o ≡ Some fs → xs ≡ fs → ((k : ℕ) → i ≡ Some k → PassWith t xs k) → ((k : ℕ) → PassWith t xs k → i ≡ Some k) → IsPassing t o i
passing_of t o fs xs i is same passes only = record {
  found = λ k e. (fs, is, subst (λ (x : List Field). PassWith t x k) same (passes k e));
  only = λ ys k e p. let both : Some fs ≡ Some ys = sym is ∙ e in let here : xs ≡ ys = same ∙ (let plain : fs ≡ ys = cc in plain) in only k (subst (λ (x : List Field). PassWith t x k) (sym here) p);
}
