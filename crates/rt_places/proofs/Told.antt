-- A list of the sizes of all records of a module, each of which some depth tells.
use Rattle.std.proofs.Common.{◌≡◌, ◌≢◌, ℕ, zero, suc, ◌+◌, ◌<◌, ◌≤◌, Bool, true, false, List, [], ◌∷◌, length, replicate, Option, Some, None, option_map, slice_get, get_or, refl, sym, ap, ◌∙◌, subst, arith}
use Rattle.std.proofs.lemmas.Option.{slice_get_within, slice_get-get_or}
use Rattle.rt_modes.specs.declared.mode.Field.{Field}
use Rattle.rt_modes.specs.declared.mode.Mode.{out-Mode}
use Rattle.rt_modes.specs.declared.mode.RecordDef.{RecordDef}
use Rattle.rt_sizes.specs.Capped.{table}
use Rattle.rt_sizes.specs.Containing.{Contains}
use Rattle.rt_sizes.specs.Sizes.{Table, RecordHasSize, within, fields_if, fields_of, even, begins, field_end, fields_end, record_layer}
use Rattle.rt_sizes.proofs.Layers.{some_is}
use Rattle.rt_sizes_laws.proofs.Deeper.{Quantity, AreMore, Grows, Has, once, end_grows}
use Rattle.rt_sizes_laws.proofs.Ringless.{sized_ringless}
use Rattle.rt_places.specs.Places.{AreSizes}
use Rattle.rt_places.proofs.Fields.{mapped_left, then_left, even_more, end_of_one, ends_more}
use Rattle.rt_places.proofs.Parts.{value_some}

-- all records of a module, all of whose fields are known
abbrev pub all_of : List RecordDef → Table
all_of records = table records (replicate (length records) true)

unknown : (f : ℕ → Option ℕ) (b : Option Bool) (o : Option RecordDef) (n : ℕ) → record_layer f (fields_if b o) ≡ Some n → (d : RecordDef) × (o ≡ Some d) × (fields_if b o ≡ Some d.fields)
unknown f None o n e = absurd cc
unknown f (Some false) o n e = absurd cc
unknown f (Some true) None n e = absurd cc
unknown f (Some true) (Some d) n e = (d, refl, refl)

module _ (records : List RecordDef) where
  abbrev T : Table
  T = all_of records

  layer_left : (f : ℕ → Option ℕ) (r n : ℕ) → record_layer f (fields_of T r) ≡ Some n → (d : RecordDef) × (slice_get records r ≡ Some d) × ((e : ℕ) × (fields_end f d.fields 0 ≡ Some e) × (even e ≡ n))
  layer_left f r n h =
      let is = unknown f (slice_get T.known r) (slice_get records r) n h in
      let layer : option_map even (fields_end f is.0.fields 0) ≡ Some n = ap (record_layer f) (sym is.2) ∙ h in
      (is.0, is.1, mapped_left even (fields_end f is.0.fields 0) n layer)

  within_left : (d r n : ℕ) → within T d r ≡ Some n → (c : ℕ) × (record_layer (within T c) (fields_of T r) ≡ Some n)
  unfolding within
  within_left zero r n h = absurd cc
  within_left (suc d) r n h = (d, h)

  -- ---- no record has no byte

  module _ (filled : (r : ℕ) (d : RecordDef) → slice_get records r ≡ Some d → d.fields ≢ []) where
    fields_some : (f : ℕ → Option ℕ) → ((r n : ℕ) → f r ≡ Some n → 1 ≤ n) → (fs : List Field) (e : ℕ) → fs ≢ [] → fields_end f fs 0 ≡ Some e → 1 ≤ e
    fields_some f some [] e not h = absurd (not refl)
    fields_some f some (x ∷ fs) e not h =
        let first = then_left (field_end f x 0) (fields_end f fs) e h in
        let one = end_of_one f x 0 first.0 first.1 in
        let q : begins (out-Mode x.mode) 0 + one.0 ≡ first.0 = one.2 in
        let s : 1 ≤ one.0 = value_some f some x.mode one.0 one.1 in
        let rest = ends_more f fs first.0 e first.2 in omega arith

    layer_some : (f : ℕ → Option ℕ) → ((r n : ℕ) → f r ≡ Some n → 1 ≤ n) → (r n : ℕ) → record_layer f (fields_of T r) ≡ Some n → 1 ≤ n
    layer_some f some r n h =
        let is = layer_left f r n h in
        let e : 1 ≤ is.2.0 = fields_some f some is.0.fields is.2.0 (filled r is.0 is.1) is.2.1 in
        let q : even is.2.0 ≡ n = is.2.2 in
        let more = even_more is.2.0 in omega arith

    within_some : (d r n : ℕ) → within T d r ≡ Some n → 1 ≤ n
    unfolding within
    within_some zero r n h = absurd cc
    within_some (suc d) r n h = layer_some (within T d) (within_some d) r n h

  module _ (ns : List ℕ) (each : length ns ≡ length records) (right : (k n : ℕ) → slice_get ns k ≡ Some n → RecordHasSize T k n) where
    abbrev pub S : ℕ → Option ℕ
    S k = slice_get ns k

    there : (k : ℕ) (d : RecordDef) → slice_get records k ≡ Some d → (n : ℕ) × (S k ≡ Some n)
    there k d h = let less = slice_get_within records k d h in let l : k < length ns = omega arith in (get_or ns k 0, slice_get-get_or ns k 0 l)

    -- the list tells each size that some depth tells
    pub tells : (d : ℕ) → AreMore (within T d) S
    tells d k n h =
        let c = within_left d k n h in
        let is = layer_left (within T c.0) k n c.1 in
        let one = there k is.0 is.1 in
        let same : one.0 ≡ n = once T (λ f. f k) (λ f g up n e. up k n e) one.0 n (right k one.0 one.1) (d, h) in
        one.1 ∙ ap (λ (x : ℕ). Some x) same

    pub told : (q : Quantity) → Grows q → (n : ℕ) → Has T q n → q S ≡ Some n
    told q grows n (d, h) = grows (within T d) S (tells d) n h

    all_sized : (r : ℕ) (d : RecordDef) → slice_get records r ≡ Some d → (e : ℕ) × (fields_end S d.fields 0 ≡ Some e) × (S r ≡ Some (even e))
    all_sized r d at =
        let one = there r d at in
        let deep = right r one.0 one.1 in
        let c = within_left deep.0 r one.0 deep.1 in
        let is = layer_left (within T c.0) r one.0 c.1 in
        let same : is.0 ≡ d = some_is is.0 d (sym is.1 ∙ at) in
        let end : fields_end S is.0.fields 0 ≡ Some is.2.0 = end_grows is.0.fields (within T c.0) S (tells c.0) is.2.0 is.2.1 in
        (is.2.0, subst (λ (x : RecordDef). fields_end S x.fields 0 ≡ Some is.2.0) same end, one.1 ∙ ap (λ (x : ℕ). Some x) (sym is.2.2))

    only_there : (r n : ℕ) → S r ≡ Some n → (d : RecordDef) × (slice_get records r ≡ Some d)
    only_there r n h = let deep = right r n h in let c = within_left deep.0 r n deep.1 in let is = layer_left (within T c.0) r n c.1 in (is.0, is.1)

    pub are_sizes : AreSizes records S
    are_sizes = record { all = all_sized; only = only_there }

    pub all_some : ((r : ℕ) (d : RecordDef) → slice_get records r ≡ Some d → d.fields ≢ []) → (r n : ℕ) → S r ≡ Some n → 1 ≤ n
    all_some filled r n h = let deep = right r n h in within_some filled deep.0 r n deep.1

    pub no_rings : (r : ℕ) (d : RecordDef) → slice_get records r ≡ Some d → Contains records r r → ⊥
    no_rings r d at c = let one = there r d at in let deep = right r one.0 one.1 in (sized_ringless T r (deep.0, one.0, deep.1)).0 c
