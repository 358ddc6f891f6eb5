-- A place that selectors lead to is there in the tree.
use Rattle.std.proofs.Common.{◌≡◌, ℕ, zero, suc, ◌-◌, ◌==◌, ◌&&◌, ◌||◌, Bool, true, false, if◌then◌else◌, List, [], ◌∷◌, Option, Some, None, option_map, slice_get, arith, refl, sym, ap, ◌∙◌, subst}
use Rattle.std.specs.Prelude.{nat_lt, nat_le}
use Rattle.std.proofs.lemmas.Bool.Decides.{nat_tests}
use Rattle.rt_bricks.specs.declared.tree.Selector.{Selector}
use Rattle.rt_bricks.specs.declared.tree.Selector.TheVariants as selector
use Rattle.rt_grammar.specs.declared.at.At.{At}
use Rattle.rt_grammar.specs.declared.at.Ident.{Ident}
use Rattle.rt_modes.specs.declared.mode.Field.{Field}
use Rattle.rt_modes.specs.declared.mode.Mode.{Mode, out-Mode}
use Rattle.rt_modes.specs.declared.mode.Mode.TheOpen.{Mode-F}
use Rattle.rt_modes.specs.declared.mode.RecordDef.{RecordDef}
use Rattle.rt_tree_nodes.specs.Scopes.{with, passes, same, Face, Scope, Sort, OfData, OfProc, OfStack, fields_in, field_at, is_svc, is_errors, is_streams, items_of}
use Rattle.rt_tree_nodes.specs.Typing.{Shared, Private, kept, item_found}
use Rattle.rt_check_faults.specs.declared.fault.CheckFault.TheVariants as fault
use Rattle.rt_exprs.specs.declared.scope.Meaning.{Meaning}
use Rattle.rt_exprs.specs.declared.scope.Meaning.TheVariants as meaning
use Rattle.rt_exprs.specs.Operands.{field_in, first_field, is_label}
use Rattle.std.specs.List.{AllByRecursion}
use Rattle.rt_tree.specs.Modules.{part_mode, mode_along, data_in, shared_of, shared_mode, place_starts, starts}
use Rattle.rt_exprs_laws.specs.Agreeing.{IsThere, IsItem, HasItems}
use Rattle.rt_check_bodies_laws.specs.Held.{IsKnown}
use Rattle.rt_exprs_laws.proofs.Links.{FieldIs, field_found}
use Rattle.rt_check_module.specs.Places.{Step, leads, lost, hidden, nowhere, element, leads_unless, field_by, Reached, place, unknown, unseen, no_place, on, passed, field, step, along, path, Found, unfit, shared_by, private_by, supplied, found, place_fits, place_made}
use Rattle.rt_check_bodies_laws.proofs.Certain.{no_label}
use Rattle.rt_check_module_laws.proofs.Tests.{left_of, right_of}
use Rattle.rt_check_module_laws.proofs.Layers.{a_procedure, a_place}

-- ---- selectors

numbered : (fs : List Field) (k : ℕ) (m : Mode) → FieldIs fs 0 k m → field_at fs k ≡ Some m
numbered fs k m g = let e : k ≡ g.at = omega (arith, g.number) in rw e g.mode

named_field : (name : List ℕ) (x : ℕ × Mode) (o : Option RecordDef) → field_in o name ≡ Some x → with o (λ d. field_at d.fields x.0) ≡ Some x.1
named_field name x None e = absurd cc
named_field name x (Some d) e = numbered d.fields x.0 x.1 (field_found 0 d.fields name x e)

led : (at : At) (o : Option (ℕ × Mode)) (k : ℕ) (n : Mode) → field_by at o ≡ leads k n → o ≡ Some (k, n)
led at None k n e = absurd cc
led at (Some x) k n e = ap (λ (z : ℕ × Mode). Some z) (parts x (is_label (out-Mode x.1)) k n e) where
  parts : (x : ℕ × Mode) (b : Bool) (k : ℕ) (n : Mode) → leads_unless b x.0 x.1 ≡ leads k n → x ≡ (k, n)
  parts x true k n e = absurd cc
  parts (j, m) false k n e = let first : j ≡ k = cc in let second : m ≡ n = cc in rw (first, second) refl

-- a field that can't be known has LABEL
label_there : (at : At) (o : Option (ℕ × Mode)) → field_by at o ≡ hidden → (x : ℕ × Mode) × (o ≡ Some x) × (is_label (out-Mode x.1) ≡ true)
label_there at None e = absurd cc
label_there at (Some x) e = (x, refl, by_label (is_label (out-Mode x.1)) refl e) where
  by_label : (b : Bool) → is_label (out-Mode x.1) ≡ b → leads_unless b x.0 x.1 ≡ hidden → is_label (out-Mode x.1) ≡ true
  by_label true q e = q
  by_label false q e = absurd cc

in_range : (j n : ℕ) (e : Mode) (b : Bool) → (if b then leads (j - 1) e else nowhere) ≡ hidden → ⊥
in_range j n e true h = cc
in_range j n e false h = cc

item_at : (fs : List Field) (k : ℕ) (m : Mode) → AllByRecursion (λ (f : Field). IsItem f.mode) fs → field_at fs k ≡ Some m → IsItem m
item_at [] k m h e = absurd cc
item_at (f ∷ fs) zero m h e = let same : f.mode ≡ m = cc in subst IsItem same h.0
item_at (f ∷ fs) (suc k) m h e = item_at fs k m h.1 e

counted : (j n k : ℕ) (e m : Mode) (b : Bool) → nat_le 1 j && nat_le j n ≡ b → (if b then leads (j - 1) e else nowhere) ≡ leads k m → (if nat_lt k n then Some e else None) ≡ Some m
counted j n k e m false t h = absurd cc
counted j n k e m true t h =
    let first : j - 1 ≡ k = cc in
    let second : e ≡ m = cc in
    let low : nat_le 1 j ≡ true = left_of (nat_le 1 j) (nat_le j n) t in
    let high : nat_le j n ≡ true = right_of (nat_le 1 j) (nat_le j n) t in
    let below : nat_lt k n ≡ true = within j k n low high first in
    rw (below, second) refl
  where
    within : (j k n : ℕ) → nat_le 1 j ≡ true → nat_le j n ≡ true → j - 1 ≡ k → nat_lt k n ≡ true
    within j k n low high e = grind (arith, nat_tests)

module _ (records : List RecordDef) where
  stepped_dot : (i : Ident) (l : Mode-F Mode) (k : ℕ) (n : Mode) → field records i l ≡ leads k n → part_mode records k l ≡ Some n
  stepped_dot i (Mode-F.Record r) k n e = named_field i.name (k, n) (slice_get records r) (led i.at (first_field records r i.name) k n e)
  stepped_dot i (Mode-F.Array j m) k n e = absurd cc
  stepped_dot i _ k n e = absurd cc

  stepped_element : (j : ℕ) (l : Mode-F Mode) (k : ℕ) (n : Mode) → element j l ≡ leads k n → part_mode records k l ≡ Some n
  stepped_element j (Mode-F.Array many m) k n e = counted j many k m n (nat_le 1 j && nat_le j many) refl e
  stepped_element j (Mode-F.Record r) k n e = absurd cc
  stepped_element j _ k n e = absurd cc

  stepped : (s : Selector) (m : Mode) (k : ℕ) (n : Mode) → step records s m ≡ leads k n → part_mode records k (out-Mode m) ≡ Some n
  stepped (selector.Dot i at) m k n e = stepped_dot i (out-Mode m) k n e
  stepped (selector.Subscript p) m k n e = stepped_element p.number (out-Mode m) k n e

  by_step : (s : Selector) (ss : List Selector) (m w : Mode) (st : Step) → step records s m ≡ st → ((n : Mode) → along records ss n ≡ place w → mode_along records (path records ss n) n ≡ Some w) → on st (along records ss) ≡ place w
      → mode_along records (passed st (path records ss)) m ≡ Some w
  by_step s ss m w (leads k n) is go e = ap (λ (o : Option Mode). with o (mode_along records (path records ss n))) (stepped s m k n is) ∙ go n e
  by_step s ss m w (lost f) is go e = absurd cc
  by_step s ss m w hidden is go e = absurd cc
  by_step s ss m w nowhere is go e = absurd cc

  -- where selectors lead the path leads
  pub along_path : (ss : List Selector) (m w : Mode) → along records ss m ≡ place w → mode_along records (path records ss m) m ≡ Some w
  along_path [] m w e = let same : m ≡ w = cc in ap (λ (z : Mode). Some z) same
  along_path (s ∷ ss) m w e = by_step s ss m w (step records s m) refl (λ n h. along_path ss n w h) e

  -- ---- where the modes of all fields are known

  module _ (items : (r : ℕ) (d : RecordDef) → slice_get records r ≡ Some d → HasItems d) where
    in_record : (name : List ℕ) (x : ℕ × Mode) (o : Option RecordDef) → ((d : RecordDef) → o ≡ Some d → HasItems d) → field_in o name ≡ Some x → IsItem x.1
    in_record name x None h e = absurd cc
    in_record name x (Some d) h e = item_at d.fields x.0 x.1 (h d refl) (named_field name x (Some d) e)

    never_dot : (i : Ident) (l : Mode-F Mode) → field records i l ≡ hidden → ⊥
    never_dot i (Mode-F.Record r) e =
        let x = label_there i.at (first_field records r i.name) e in
        let known : is_label (out-Mode x.0.1) ≡ false = no_label x.0.1 (in_record i.name x.0 (slice_get records r) (λ d q. items r d q) x.1) in
        let bad : false ≡ true = sym known ∙ x.2 in cc
    never_dot i (Mode-F.Array j m) e = cc
    never_dot i Mode-F.Byte e = cc
    never_dot i Mode-F.Int e = cc
    never_dot i Mode-F.Frac e = cc
    never_dot i Mode-F.Label e = cc
    never_dot i (Mode-F.Ref m) e = cc
    never_dot i (Mode-F.RefArray m) e = cc
    never_dot i (Mode-F.Proc ps r) e = cc

    never_element : (j : ℕ) (l : Mode-F Mode) → element j l ≡ hidden → ⊥
    never_element j (Mode-F.Array n m) e = in_range j n m (nat_le 1 j && nat_le j n) e
    never_element j (Mode-F.Record r) e = cc
    never_element j Mode-F.Byte e = cc
    never_element j Mode-F.Int e = cc
    never_element j Mode-F.Frac e = cc
    never_element j Mode-F.Label e = cc
    never_element j (Mode-F.Ref m) e = cc
    never_element j (Mode-F.RefArray m) e = cc
    never_element j (Mode-F.Proc ps r) e = cc

    never_hidden : (s : Selector) (m : Mode) → step records s m ≡ hidden → ⊥
    never_hidden (selector.Dot i at) m e = never_dot i (out-Mode m) e
    never_hidden (selector.Subscript p) m e = never_element p.number (out-Mode m) e

    by_sight : (s : Selector) (ss : List Selector) (m : Mode) (st : Step) → step records s m ≡ st → ((n : Mode) → along records ss n ≡ unseen → ⊥) → on st (along records ss) ≡ unseen → ⊥
    by_sight s ss m (leads k n) is go e = go n e
    by_sight s ss m (lost f) is go e = cc
    by_sight s ss m hidden is go e = never_hidden s m is
    by_sight s ss m nowhere is go e = cc

    pub always_seen : (ss : List Selector) (m : Mode) → along records ss m ≡ unseen → ⊥
    always_seen [] m e = cc
    always_seen (s ∷ ss) m e = by_sight s ss m (step records s m) refl (always_seen ss) e

-- ---- items that all tasks share

only_shared : (fs : List Field) (i : ℕ) (m : Mode) (go : Mode → Option Mode) (o : Option Mode) → option_map Shared o ≡ Some (Shared m) → with o go ≡ go m
only_shared fs i m go None e = absurd cc
only_shared fs i m go (Some n) e = let same : n ≡ m = cc in ap go same

no_private : (m : Mode) (o : Option Mode) → option_map Private o ≡ Some (Shared m) → ⊥
no_private m None e = cc
no_private m (Some n) e = cc

in_face : (svc skipped : Bool) (s : Sort) (i : ℕ) (m : Mode) (go : Mode → Option Mode) → with (if skipped then None else fields_in s) (λ fs. option_map (kept svc) (field_at fs i)) ≡ Some (Shared m)
    → with (if svc then None else data_in s) (λ fs. with (field_at fs i) go) ≡ go m
in_face svc true s i m go e = absurd cc
in_face true false (OfData fs) i m go e = absurd (no_private m (field_at fs i) e)
in_face false false (OfData fs) i m go e = only_shared fs i m go (field_at fs i) e
in_face svc false (OfProc n) i m go e = absurd cc
in_face svc false OfStack i m go e = absurd cc

in_bricks : (d : Option Face) (i : ℕ) (m : Mode) (go : Mode → Option Mode) → with d (λ b. with (items_of b) (λ fs. option_map (kept (is_svc b.kind)) (field_at fs i))) ≡ Some (Shared m)
    → with d (λ b. with (shared_of b) (λ fs. with (field_at fs i) go)) ≡ go m
in_bricks None i m go e = absurd cc
in_bricks (Some b) i m go e = in_face (is_svc b.kind) (is_errors b || is_streams b) b.sort i m go e

module _ (c : Scope) (records : List RecordDef) (same_records : records ≡ c.records) (items : (r : ℕ) (d : RecordDef) → slice_get records r ≡ Some d → HasItems d) where
  shared_place : (b i : ℕ) (from : Mode) (ss : List Selector) (w : Mode) → item_found c.bricks b i ≡ Some (Shared from) → along records ss from ≡ place w → shared_mode c b i (path records ss from) ≡ Some w
  shared_place b i from ss w is leads_there =
      in_bricks (slice_get c.bricks b) i from (mode_along c.records (path records ss from)) is ∙ ap (λ (rs : List RecordDef). mode_along rs (path records ss from) from) (sym same_records) ∙ along_path records ss from w leads_there

  -- ---- what a name is starts the items that it fits

  abbrev Fits : List Selector → Found → Mode → Type 0
  Fits ss f m = place_fits f m ≡ true → starts c (place_made records ss f) m ≡ true

  never : (ss : List Selector) (m : Mode) (f : Found) → place_fits f m ≡ false → Fits ss f m
  never ss m f e h = absurd (let bad : false ≡ true = sym e ∙ h in cc)

  a_shared : (ss : List Selector) (m : Mode) (b i : ℕ) (from : Mode) (r : Reached) → item_found c.bricks b i ≡ Some (Shared from) → along records ss from ≡ r → Fits ss (shared_by b i from r) m
  a_shared ss m b i from (place w) is e h =
      a_place c b i (path records ss from) m ∙ ap (passes (λ (n : Mode). place_starts n (out-Mode m))) (shared_place b i from ss w is e) ∙ h
  a_shared ss m b i from (unknown f) is e h = absurd cc
  a_shared ss m b i from unseen is e h = absurd (always_seen records items ss from e)
  a_shared ss m b i from no_place is e h = absurd cc

  a_private : (ss : List Selector) (m from : Mode) (r : Reached) → along records ss from ≡ r → place_fits (private_by r) m ≡ false
  a_private ss m from (place w) e = refl
  a_private ss m from (unknown f) e = refl
  a_private ss m from unseen e = absurd (always_seen records items ss from e)
  a_private ss m from no_place e = refl

  a_supplied : (ss : List Selector) (m from : Mode) (at : At) (k : ℕ) (r : Reached) → along records ss from ≡ r → place_fits (supplied at k (private_by r)) m ≡ false
  a_supplied ss m from at k r e = by_test (k == 0) where
    by_test : (b : Bool) → place_fits (if b then unfit (fault.LeftOut 2 at) else private_by r) m ≡ false
    by_test true = refl
    by_test false = a_private ss m from r e

  by_name : (at : At) (ss : List Selector) (m : Mode) (is : Meaning) → IsThere c is → IsKnown is → Fits ss (found records at ss (Some is)) m
  by_name at [] m (meaning.Proc b n) there known h = a_procedure c b m ∙ ap (passes (same m)) there.0 ∙ h
  by_name at (s ∷ ss) m (meaning.Proc b n) there known h = absurd cc
  by_name at ss m (meaning.Item b i n) there known h = a_shared ss m b i n (along records ss n) there.0 refl h
  by_name at ss m (meaning.SvcItem b i n) there known h = never ss m (private_by (along records ss n)) (a_private ss m n (along records ss n) refl) h
  by_name at ss m (meaning.Svc k n) there known h = never ss m (supplied at k (private_by (along records ss n))) (a_supplied ss m n at k (along records ss n) refl) h
  by_name at ss m meaning.Unknown there known h = absurd known
  by_name at ss m meaning.UnknownProc there known h = absurd known
  by_name at ss m _ there known h = absurd cc

  pub a_name : (at : At) (ss : List Selector) (m : Mode) (o : Option Meaning) → ((is : Meaning) → o ≡ Some is → IsThere c is) → ((is : Meaning) → o ≡ Some is → IsKnown is) → Fits ss (found records at ss o) m
  a_name at ss m None there known h = absurd cc
  a_name at ss m (Some is) there known h = by_name at ss m is (there is refl) (known is refl) h
