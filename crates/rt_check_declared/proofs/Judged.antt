-- The fault that counts of a record.
use Rattle.std.proofs.Common.{◌≡◌, ℕ, zero, suc, Bool, true, false, List, [], ◌∷◌, Option, Some, None, inl, inr, slice_get, map, refl, sym, ap, ◌∙◌, subst}
use Rattle.std.specs.Prelude.{IsTrue, ◌↔◌}
use Rattle.rt_bricks.specs.declared.tree.RecordMode.{RecordMode}
use Rattle.rt_grammar.specs.declared.at.At.{At}
use Rattle.rt_grammar.specs.declared.at.Ident.{Ident}
use Rattle.rt_check_faults.specs.declared.fault.CheckFault.{CheckFault}
use Rattle.rt_check_faults.specs.declared.fault.CheckFault.TheVariants as fault
use Rattle.rt_check_faults.specs.Outcomes.{IsLeast, is_before}
use Rattle.rt_sizes.specs.Containing.{Contains}
use Rattle.rt_sizes.specs.Sizes.{Table, PassWith}
use Rattle.rt_check_declared.specs.declared.site.Site.TheVariants as site
use Rattle.rt_check_declared.specs.Verdicts.{IsIn, with_faults, GatheredCounts}
use Rattle.rt_check_declared.specs.Written.{Names}
use Rattle.rt_check_faults.proofs.Counting.{before_same}
use Rattle.rt_check_declared.proofs.Counted.{Either, either_counts, gathered_counts, counts_as}
use Rattle.rt_check_declared.proofs.Least.{gathers_least}
use Rattle.rt_check_declared.specs.Fields.{written_fields, idents}
use Rattle.rt_modes.specs.declared.mode.Field.{Field}
use Rattle.rt_check_declared.specs.declared.records.Head.{Head}
use Rattle.rt_check_declared.specs.Heads.{head, noted, whole, place_of}
use Rattle.rt_check_declared.specs.Names.{second_fields}
use Rattle.rt_check_declared.specs.Records.{field_faults, ModeFault, in_fields, in_itself, too_large, RecordFault, of_modes, of_names, Counts}

pub before_itself : (f g : CheckFault) → f ≡ g → IsTrue (is_before f g)
before_itself f g e = subst (λ (x : CheckFault). IsTrue (is_before f x)) e (before_same f)

pub got : {A B : Type 0} (f : A → B) (xs : List A) (i : ℕ) (y : B) → slice_get (map f xs) i ≡ Some y → (x : A) × (slice_get xs i ≡ Some x) × (f x ≡ y)
got f [] i y e = absurd cc
got f (x ∷ xs) zero y e = (x, refl, let same : f x ≡ y = cc in same)
got f (x ∷ xs) (suc i) y e = got f xs i y e

pub get_map : {A B : Type 0} (f : A → B) (xs : List A) (i : ℕ) (x : A) → slice_get xs i ≡ Some x → slice_get (map f xs) i ≡ Some (f x)
get_map f [] i x e = absurd cc
get_map f (y ∷ xs) zero x e = let same : y ≡ x = cc in ap (λ z. Some (f z)) same
get_map f (y ∷ xs) (suc i) x e = get_map f xs i x e

none_in : (fs : List CheckFault) (g : CheckFault) → fs ≡ [] → IsIn g fs → ⊥
none_in fs g e h = subst (λ (x : List CheckFault). IsIn g x) e h

module _ (names : Names) (t : Table) (k : ℕ) (r : RecordMode) where
  abbrev Fault : CheckFault → Type 0
  Fault = ModeFault names t k r

  -- ---- a MODE that holds a fault

  inside_by : (g : CheckFault) → IsLeast (λ h. IsIn h (field_faults names r)) g → (h : CheckFault) → Fault h → IsTrue (is_before g h)
  inside_by g least h (in_fields i) = least.least h i
  inside_by g least h (in_itself none c) = absurd (none_in (field_faults names r) g none least.stands)
  inside_by g least h (too_large none apart p e) = absurd (none_in (field_faults names r) g none least.stands)

  gathered : (o : Option CheckFault) → with_faults None (field_faults names r) ≡ o → GatheredCounts (field_faults names r) o
  gathered o e = subst (λ (x : Option CheckFault). GatheredCounts (field_faults names r) x) e (gathers_least (field_faults names r))

  pub inside_counts : (g : CheckFault) → with_faults None (field_faults names r) ≡ Some g → Counts Fault (Some g)
  inside_counts g e = let least = gathered (Some g) e in record { stands = in_fields (least.stands); least = inside_by g least }

  pub none_inside : with_faults None (field_faults names r) ≡ None → field_faults names r ≡ []
  none_inside e = gathered None e

  -- ---- as a whole

  abbrev Places : List At
  Places = map (λ (i : Ident). i.at) (idents r.fields)

  module _ (none : field_faults names r ≡ []) where
    ring_least : Contains t.records k k → (h : CheckFault) → Fault h → IsTrue (is_before (fault.DeclaredTwice r.name.at) h)
    ring_least c h (in_fields i) = absurd (none_in (field_faults names r) h none i)
    ring_least c h (in_itself n d) = before_itself (fault.DeclaredTwice r.name.at) h refl
    ring_least c h (too_large n apart p e) = absurd (apart c)

    large_least : (at : At) → (Contains t.records k k → ⊥) → ((i : ℕ) → PassWith t (written_fields names site.Item r.fields) i → Some at ≡ slice_get Places i) → (h : CheckFault) → Fault h → IsTrue (is_before (fault.BadStart at) h)
    large_least at apart only h (in_fields i) = absurd (none_in (field_faults names r) h none i)
    large_least at apart only h (in_itself n c) = absurd (apart c)
    large_least at apart only h (too_large {i = i} {f = f} n _ p e) =
        before_itself (fault.BadStart at) (fault.BadStart f.at) (let same : Some at ≡ Some f.at = only i p ∙ get_map (λ (x : Ident). x.at) (idents r.fields) i f e in let ats : at ≡ f.at = cc in ap (λ x. fault.BadStart x) ats)

    none_stands : (Contains t.records k k → ⊥) → ((i : ℕ) → PassWith t (written_fields names site.Item r.fields) i → None ≡ slice_get Places i) → (h : CheckFault) → Fault h → ⊥
    none_stands apart only h (in_fields i) = none_in (field_faults names r) h none i
    none_stands apart only h (in_itself n c) = apart c
    none_stands apart only h (too_large {i = i} {f = f} n _ p e) = let bad : None ≡ Some f.at = only i p ∙ get_map (λ (x : Ident). x.at) (idents r.fields) i f e in cc

    large_stands : (at : At) → (Contains t.records k k → ⊥) → ((i : ℕ) × PassWith t (written_fields names site.Item r.fields) i × (slice_get Places i ≡ Some at)) → Fault (fault.BadStart at)
    large_stands at apart p = let x = got (λ (x : Ident). x.at) (idents r.fields) p.0 at p.2 in subst (λ (y : At). Fault (fault.BadStart y)) x.2 (too_large none apart p.1 x.1)

    whole_counts : (b : Bool) (p : Option At) → (IsTrue b ↔ Contains t.records k k) → ((at : At) → p ≡ Some at → (i : ℕ) × PassWith t (written_fields names site.Item r.fields) i × (slice_get Places i ≡ Some at))
        → ((i : ℕ) → PassWith t (written_fields names site.Item r.fields) i → p ≡ slice_get Places i) → Counts Fault (whole b r.name.at p)
    whole_counts true p ring found only = record { stands = in_itself none (ring.0 refl); least = ring_least (ring.0 refl) }
    whole_counts false (Some at) ring found only =
        let apart : Contains t.records k k → ⊥ = λ c. let bad : false ≡ true = ring.1 c in cc in record { stands = large_stands at apart (found at refl); least = large_least at apart only }
    whole_counts false None ring found only = none_stands (λ c. let bad : false ≡ true = ring.1 c in cc) only

    place_found : (o : Option ℕ) (at : At) → ((i : ℕ) → o ≡ Some i → PassWith t (written_fields names site.Item r.fields) i) → place_of Places o ≡ Some at
        → (i : ℕ) × PassWith t (written_fields names site.Item r.fields) i × (slice_get Places i ≡ Some at)
    place_found None at passes e = absurd cc
    place_found (Some i) at passes e = (i, passes i refl, e)

  pub whole_judged : (fs : List Field) (b : Bool) (o : Option ℕ) → with_faults None (field_faults names r) ≡ None → fs ≡ written_fields names site.Item r.fields → (IsTrue b ↔ Contains t.records k k)
      → ((i : ℕ) → o ≡ Some i → PassWith t fs i) → ((i : ℕ) → PassWith t fs i → o ≡ Some i) → Counts Fault (whole b r.name.at (place_of Places o))
  whole_judged fs b o none same ring passes only =
      let empty = none_inside none in
      let passes_here : (i : ℕ) → o ≡ Some i → PassWith t (written_fields names site.Item r.fields) i = subst (λ (x : List Field). (i : ℕ) → o ≡ Some i → PassWith t x i) same passes in
      let only_here : (i : ℕ) → PassWith t (written_fields names site.Item r.fields) i → o ≡ Some i = subst (λ (x : List Field). (i : ℕ) → PassWith t x i → o ≡ Some i) same only in
      whole_counts empty b (place_of Places o) ring (λ at e. place_found empty o at passes_here e) (λ i p. ap (place_of Places) (only_here i p))

  -- by what is kept of the MODE
  pub head_judged : (hd : Head) (fs : List Field) (ats : List At) (b : Bool) (o : Option ℕ) (p : Option At) (res : Option CheckFault) → hd ≡ head names r → hd.fault ≡ None → fs ≡ written_fields names site.Item r.fields → ats ≡ hd.fields
      → (IsTrue b ↔ Contains t.records k k) → ((i : ℕ) → o ≡ Some i → PassWith t fs i) → ((i : ℕ) → PassWith t fs i → o ≡ Some i) → p ≡ place_of ats o → res ≡ whole b hd.at p → Counts Fault res
  head_judged hd fs ats b o p res is none same places ring passes only found whole_is =
      let judged = whole_judged fs b o (sym (ap (λ (h : Head). h.fault) is) ∙ none) same ring passes only in
      let ats_are : ats ≡ Places = places ∙ ap (λ (h : Head). h.fields) is in
      let at_is : hd.at ≡ r.name.at = ap (λ (h : Head). h.at) is in
      let res_is : res ≡ whole b r.name.at (place_of Places o) = whole_is ∙ ap (λ (x : At). whole b x p) at_is ∙ ap (whole b r.name.at) (found ∙ ap (λ (x : List At). place_of x o) ats_are) in
      subst (λ (x : Option CheckFault). Counts Fault x) (sym res_is) judged

  pub head_counts : (hd : Head) (g : CheckFault) → hd ≡ head names r → hd.fault ≡ Some g → Counts Fault (Some g)
  head_counts hd g is e = inside_counts g (sym (ap (λ (h : Head). h.fault) is) ∙ e)

  -- ---- with the names of its fields

  pub record_counts : (hd : Head) (f res : Option CheckFault) → hd ≡ head names r → Counts Fault f → res ≡ noted f hd.second → Counts (RecordFault names t k r) res
  record_counts hd f res is counts e =
      let res_is : res ≡ noted f (with_faults None (second_fields r.fields)) = e ∙ ap (λ (h : Head). noted f h.second) is in
      subst (λ (x : Option CheckFault). Counts (RecordFault names t k r) x) (sym res_is)
      (counts_as (Either Fault (λ g. IsIn g (second_fields r.fields))) (RecordFault names t k r) (λ g h. elim h [ inl m ↦ of_modes m | inr n ↦ of_names n ]) (λ g h. elim h [ of_modes m ↦ inl m | of_names n ↦ inr n ])
      (noted f (with_faults None (second_fields r.fields))) (either_counts Fault (λ g. IsIn g (second_fields r.fields)) f (with_faults None (second_fields r.fields)) counts (gathered_counts (second_fields r.fields))))
