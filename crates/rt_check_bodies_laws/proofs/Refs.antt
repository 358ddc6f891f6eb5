-- Where a mode may stand, at most eight REFs stand in a row.
use Rattle.std.proofs.Common.{◌≡◌, ℕ, zero, suc, ◌-◌, ◌&&◌, ◌||◌, Bool, true, false, List, [], ◌∷◌, length, map, Option, Some, None, option_map, if◌then◌else◌, refl, sym, ap, ◌∙◌, subst}
use Rattle.std.specs.Prelude.{nat_lt, nat_le, slice_get, codes}
use Rattle.std.specs.List.{list_all}
use Rattle.std.specs.Str.{bytes_eq}
use Rattle.rt_modes.specs.declared.mode.Field.{Field}
use Rattle.rt_modes.specs.declared.mode.Mode.{Mode, out-Mode, roll-Mode, map-Mode, the_lemmas}
use Rattle.rt_modes.specs.declared.mode.Mode.TheFolds.{ind-Mode, fold_out-Mode}
use Rattle.rt_modes.specs.declared.mode.Mode.TheOpen.{Mode-F}
use Rattle.rt_modes.specs.declared.mode.RecordDef.{RecordDef}
use Rattle.rt_tree_nodes.specs.declared.brick.Kind.{Kind}
use Rattle.rt_tree_nodes.specs.declared.brick.Local.{Local}
use Rattle.rt_tree_nodes.specs.declared.brick.Local.TheVariants as local
use Rattle.rt_tree_nodes.specs.Scopes.{Scope, Face, Sort, OfProc, OfData, OfStack, with, with_locals, is_svc, is_errors, is_streams, is_label_layer, fields_in, fields_of, first_fields, proc_in, field_at, field_mode, svc_mode, proc_mode}
use Rattle.rt_tree_nodes.specs.Typing.{Found, Shared, Private, kept, item_found, mode_at}
use Rattle.rt_tree.specs.declared.standing.Standing.{Standing}
use Rattle.rt_tree.specs.declared.standing.Standing.TheVariants as standing
use Rattle.rt_tree.specs.Modules.{Stands, stands, layer_stands, is_alone, is_length, all_passed, local_stands, field_stands, item_stands, is_recovery_label, record_stands}
use Rattle.rt_check_bodies_laws.specs.Refs.{few_by, few, FewRefs, AllFew}
use Rattle.rt_check_bodies_laws.specs.Modes.{sort_stands, face_stands, ModesStand}

left_of : (a b : Bool) → a && b ≡ true → a ≡ true
left_of true b e = refl
left_of false b e = e

right_of : (a b : Bool) → a && b ≡ true → b ≡ true
right_of true b e = e
right_of false b e = absurd cc

both_true : (a b : Bool) → a ≡ true → b ≡ true → a && b ≡ true
both_true a b e h = rw (e, h) refl

either_way : {P : Type 0} (a b : Bool) → (a ≡ true → P) → (b ≡ true → P) → a || b ≡ true → P
either_way true b f g h = f refl
either_way false b f g h = g h

few_at : (m : Mode) (l : Mode-F Mode) (k : ℕ) → out-Mode m ≡ l → few m k ≡ few_by (map-Mode Mode (ℕ → Bool) few l) k
unfolding few
few_at m l k o = rw (fold_out-Mode, o) refl

label_few : (m : Mode) (l : Mode-F Mode) → out-Mode m ≡ l → is_label_layer l ≡ true → FewRefs m
label_few m Mode-F.Label o h = few_at m Mode-F.Label 8 o
label_few m Mode-F.Byte o h = absurd cc
label_few m Mode-F.Int o h = absurd cc
label_few m Mode-F.Frac o h = absurd cc
label_few m (Mode-F.Ref k) o h = absurd cc
label_few m (Mode-F.RefArray k) o h = absurd cc
label_few m (Mode-F.Array n k) o h = absurd cc
label_few m (Mode-F.Record r) o h = absurd cc
label_few m (Mode-F.Proc ps r) o h = absurd cc

some_mode : (a b : Mode) → Some a ≡ Some b → a ≡ b
some_mode a b e = cc

some_found : (a b : Found) → Some a ≡ Some b → a ≡ b
some_found a b e = cc

some_local : (a b : Local) → Some a ≡ Some b → a ≡ b
some_local a b e = cc

-- ---- modes that may stand

module _ (n : ℕ) where
  abbrev Known : Mode → Type 0
  Known m = (p : Standing) (levels refs : ℕ) → stands n m p levels refs ≡ true → few m refs ≡ true

  abbrev Pair : Type 0
  Pair = (m : Mode) × Known m

  may_at : (m : Mode) (l : Mode-F Mode) → out-Mode m ≡ l → stands n m ≡ layer_stands n (map-Mode Mode Stands (stands n) l)
  may_at m l o = rw (fold_out-Mode, o) refl

  at_place : (m : Mode) (l : Mode-F Mode) (p : Standing) (levels refs : ℕ) → out-Mode m ≡ l → stands n m p levels refs ≡ true → layer_stands n (map-Mode Mode Stands (stands n) l) p levels refs ≡ true
  at_place m l p levels refs o h = sym (ap (λ (f : Stands). f p levels refs) (may_at m l o)) ∙ h

  opened : (m : Mode) (y : Mode-F Pair) → out-Mode m ≡ map-Mode Pair Mode (λ e. e.0) y → Known m
  opened m Mode-F.Byte o p levels refs h = few_at m Mode-F.Byte refs o
  opened m Mode-F.Int o p levels refs h = few_at m Mode-F.Int refs o
  opened m Mode-F.Frac o p levels refs h = few_at m Mode-F.Frac refs o
  opened m Mode-F.Label o p levels refs h = few_at m Mode-F.Label refs o
  opened m (Mode-F.Ref k) o p levels refs h =
      let inner : Bool = stands n k.0 standing.Inside (levels - 1) (refs - 1) in
      let g = right_of (nat_lt 0 levels) (nat_lt 0 refs && inner) (at_place m (Mode-F.Ref k.0) p levels refs o h) in
      few_at m (Mode-F.Ref k.0) refs o ∙ both_true (nat_lt 0 refs) (few k.0 (refs - 1)) (left_of (nat_lt 0 refs) inner g) (k.1 standing.Inside (levels - 1) (refs - 1) (right_of (nat_lt 0 refs) inner g))
  opened m (Mode-F.RefArray k) o p levels refs h =
      let inner : Bool = stands n k.0 standing.Inside (levels - 1) 8 in
      let g = right_of (nat_lt 0 levels) (nat_lt 0 refs && inner) (at_place m (Mode-F.RefArray k.0) p levels refs o h) in
      few_at m (Mode-F.RefArray k.0) refs o ∙ k.1 standing.Inside (levels - 1) 8 (right_of (nat_lt 0 refs) inner g)
  opened m (Mode-F.Array j k) o p levels refs h =
      let inner : Bool = stands n k.0 standing.Inside (levels - 1) 8 in
      let g = right_of (is_alone p) (nat_lt 0 levels && (is_length j && inner)) (at_place m (Mode-F.Array j k.0) p levels refs o h) in
      few_at m (Mode-F.Array j k.0) refs o ∙ k.1 standing.Inside (levels - 1) 8 (right_of (is_length j) inner (right_of (nat_lt 0 levels) (is_length j && inner) g))
  opened m (Mode-F.Record r) o p levels refs h = few_at m (Mode-F.Record r) refs o
  opened m (Mode-F.Proc ps None) o p levels refs h = few_at m (Mode-F.Proc (map (λ (e : Pair). e.0) ps) None) refs o
  opened m (Mode-F.Proc ps (Some r)) o p levels refs h =
      let ms : List Mode = map (λ (e : Pair). e.0) ps in
      let all : Bool = all_passed (levels - 1) (map (stands n) ms) in
      let inner : Bool = stands n r.0 standing.Passed (levels - 1) 8 in
      let many : Bool = nat_le (length (map (stands n) ms)) 32 in
      let g = right_of (nat_lt 0 levels) (many && (all && inner)) (at_place m (Mode-F.Proc ms (Some r.0)) p levels refs o h) in
      few_at m (Mode-F.Proc ms (Some r.0)) refs o ∙ r.1 standing.Passed (levels - 1) 8 (right_of all inner (right_of many (all && inner) g))

  out_roll : (l : Mode-F Mode) → out-Mode (roll-Mode l) ≡ l
  out_roll l = search the_lemmas

  stands_few : (m : Mode) → Known m
  stands_few = ind-Mode Known (λ x y is. opened (roll-Mode x) y (out_roll x ∙ sym is))

  -- ---- fields and items

  field_few : (f : Field) → field_stands n f ≡ true → FewRefs f.mode
  field_few f h = stands_few f.mode standing.Alone 100 8 h

  item_few : (k : Kind) (name : List ℕ) (f : Field) → item_stands n k name f ≡ true → FewRefs f.mode
  item_few k name f h =
      either_way (field_stands n f) (is_recovery_label k name f) (field_few f)
      (λ g.
      let is_erl : Bool = bytes_eq f.name (codes "ERL") in
      let label : Bool = is_label_layer (out-Mode f.mode) in
      label_few f.mode (out-Mode f.mode) refl (right_of is_erl label (right_of (bytes_eq name (codes "RRERR")) (is_erl && label) (right_of (is_svc k) (bytes_eq name (codes "RRERR") && (is_erl && label)) g))))
      h

  fields_few : (test : Field → Bool) → ((f : Field) → test f ≡ true → FewRefs f.mode) → (fs : List Field) (k : ℕ) (m : Mode) → list_all test fs ≡ true → field_at fs k ≡ Some m → FewRefs m
  fields_few test go [] k m h e = absurd cc
  fields_few test go (f ∷ fs) zero m h e = subst FewRefs (some_mode f.mode m e) (go f (left_of (test f) (list_all test fs) h))
  fields_few test go (f ∷ fs) (suc k) m h e = fields_few test go fs k m (right_of (test f) (list_all test fs) h) e

  records_few : (ds : List RecordDef) (r k : ℕ) (m : Mode) → list_all (record_stands n) ds ≡ true → field_mode ds r k ≡ Some m → FewRefs m
  records_few [] r k m h e = absurd cc
  records_few (d ∷ ds) zero k m h e = fields_few (field_stands n) field_few d.fields k m (left_of (record_stands n d) (list_all (record_stands n) ds) h) e
  records_few (d ∷ ds) (suc r) k m h e = records_few ds r k m (right_of (record_stands n d) (list_all (record_stands n) ds) h) e

  -- ---- bricks

  proc_few : (k : Kind) (name : List ℕ) (s : Sort) (m : Mode) → sort_stands n k name s ≡ true → proc_in s ≡ Some m → FewRefs m
  proc_few k name (OfProc w) m h e = subst FewRefs (some_mode w m e) (stands_few w standing.Alone 100 8 h)
  proc_few k name (OfData fs) m h e = absurd cc
  proc_few k name OfStack m h e = absurd cc

  data_few : (k : Kind) (name : List ℕ) (s : Sort) (j : ℕ) (m : Mode) → sort_stands n k name s ≡ true → with (fields_in s) (λ fs. field_at fs j) ≡ Some m → FewRefs m
  data_few k name (OfData fs) j m h e = fields_few (item_stands n k name) (item_few k name) fs j m h e
  data_few k name (OfProc w) j m h e = absurd cc
  data_few k name OfStack j m h e = absurd cc

  procs_few : (bs : List Face) (b : ℕ) (m : Mode) → list_all (face_stands n) bs ≡ true → proc_mode bs b ≡ Some m → FewRefs m
  procs_few [] b m h e = absurd cc
  procs_few (x ∷ bs) zero m h e = proc_few x.kind x.name x.sort m (left_of (face_stands n x) (list_all (face_stands n) bs) h) e
  procs_few (x ∷ bs) (suc b) m h e = procs_few bs b m (right_of (face_stands n x) (list_all (face_stands n) bs) h) e

  first_split : (test : Face → Bool) (x : Face) (bs : List Face) (j : ℕ) (m : Mode) (b : Bool) → face_stands n x ≡ true → (with (first_fields test bs) (λ fs. field_at fs j) ≡ Some m → FewRefs m)
      → with (if b then fields_of x else first_fields test bs) (λ fs. field_at fs j) ≡ Some m → FewRefs m
  first_split test x bs j m true h go e = data_few x.kind x.name x.sort j m h e
  first_split test x bs j m false h go e = go e

  first_few : (test : Face → Bool) (bs : List Face) (j : ℕ) (m : Mode) → list_all (face_stands n) bs ≡ true → with (first_fields test bs) (λ fs. field_at fs j) ≡ Some m → FewRefs m
  first_few test [] j m h e = absurd cc
  first_few test (x ∷ bs) j m h e =
      first_split test x bs j m (test x) (left_of (face_stands n x) (list_all (face_stands n) bs) h) (first_few test bs j m (right_of (face_stands n x) (list_all (face_stands n) bs) h)) e

  kept_few : (svc : Bool) (o : Option Mode) (f : Found) → ((m : Mode) → o ≡ Some m → FewRefs m) → option_map (kept svc) o ≡ Some f → FewRefs (mode_at (Some f))
  kept_few svc None f h e = absurd cc
  kept_few true (Some m) f h e = subst (λ (z : Found). FewRefs (mode_at (Some z))) (some_found (Private m) f e) (h m refl)
  kept_few false (Some m) f h e = subst (λ (z : Found). FewRefs (mode_at (Some z))) (some_found (Shared m) f e) (h m refl)

  sort_few : (k : Kind) (name : List ℕ) (s : Sort) (own : Bool) (j : ℕ) (f : Found) → sort_stands n k name s ≡ true → with (if own then None else fields_in s) (λ fs. option_map (kept (is_svc k)) (field_at fs j)) ≡ Some f → FewRefs (mode_at (Some f))
  sort_few k name s true j f h e = absurd cc
  sort_few k name (OfData fs) false j f h e = kept_few (is_svc k) (field_at fs j) f (λ m q. fields_few (item_stands n k name) (item_few k name) fs j m h q) e
  sort_few k name (OfProc w) false j f h e = absurd cc
  sort_few k name OfStack false j f h e = absurd cc

  items_few : (bs : List Face) (b j : ℕ) (f : Found) → list_all (face_stands n) bs ≡ true → item_found bs b j ≡ Some f → FewRefs (mode_at (Some f))
  items_few [] b j f h e = absurd cc
  items_few (x ∷ bs) zero j f h e = sort_few x.kind x.name x.sort (is_errors x || is_streams x) j f (left_of (face_stands n x) (list_all (face_stands n) bs) h) e
  items_few (x ∷ bs) (suc b) j f h e = items_few bs b j f (right_of (face_stands n x) (list_all (face_stands n) bs) h) e

  locals_few : (ls : List Local) (i : ℕ) (m : Mode) → list_all (local_stands n) ls ≡ true → slice_get ls i ≡ Some (local.Variable m) → FewRefs m
  locals_few [] i m h e = absurd cc
  locals_few (l ∷ ls) zero m h e =
      stands_few m standing.Passed 100 8 (subst (λ (z : Local). local_stands n z ≡ true) (some_local l (local.Variable m) e) (left_of (local_stands n l) (list_all (local_stands n) ls) h))
  locals_few (l ∷ ls) (suc i) m h e = locals_few ls i m (right_of (local_stands n l) (list_all (local_stands n) ls) h) e

-- ---- the scope of a procedure

own_few : (c : Scope) → ModesStand c → (k : ℕ) (m : Mode) → svc_mode c k ≡ Some m → FewRefs m
own_few c h k m e = by_number (nat_lt k 3) e where
  by_number : (b : Bool) → (if b then with c.errors (λ fs. field_at fs k) else with c.streams (λ fs. field_at fs (k - 3))) ≡ Some m → FewRefs m
  by_number true g = first_few (length c.records) is_errors c.bricks k m h.bricks (sym (ap (λ (o : Option (List Field)). with o (λ fs. field_at fs k)) h.errors) ∙ g)
  by_number false g = first_few (length c.records) is_streams c.bricks (k - 3) m h.bricks (sym (ap (λ (o : Option (List Field)). with o (λ fs. field_at fs (k - 3))) h.streams) ∙ g)

pub all_few : (c : Scope) (ls : List Local) → ModesStand c → list_all (local_stands (length c.records)) ls ≡ true → AllFew (with_locals c ls)
all_few c ls h g = record {
  fields = λ r k m e. records_few (length c.records) c.records r k m h.records e;
  procedures = λ b m e. procs_few (length c.records) c.bricks b m h.bricks e;
  items = λ b i f e. items_few (length c.records) c.bricks b i f h.bricks e;
  own = λ k m e. own_few c h k m e;
  locals = λ i m e. locals_few (length c.records) ls i m g e;
}
