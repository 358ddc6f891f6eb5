-- Where a mode may stand, each length of an array in it is a word.
use Rattle.std.proofs.Common.{◌≡◌, ℕ, zero, suc, ◌-◌, ◌<◌, ◌≤◌, ◌&&◌, ◌||◌, Bool, true, false, List, [], ◌∷◌, length, map, Option, Some, None, option_map, if◌then◌else◌, arith, refl, sym, ap, ◌∙◌, subst}
use Rattle.std.specs.Prelude.{nat_lt, nat_le, slice_get, codes}
use Rattle.std.specs.List.{list_all}
use Rattle.std.specs.Str.{bytes_eq}
use Rattle.std.proofs.lemmas.Bool.Decides.{nat_tests}
use Rattle.rt_modes.specs.declared.mode.Field.{Field}
use Rattle.rt_modes.specs.declared.mode.Mode.{Mode, out-Mode, roll-Mode, map-Mode}
use Rattle.rt_modes.specs.declared.mode.Mode.TheFolds.{ind-Mode, fold_out-Mode}
use Rattle.rt_modes.specs.declared.mode.Mode.TheOpen.{Mode-F}
use Rattle.rt_modes.specs.declared.mode.RecordDef.{RecordDef}
use Rattle.rt_tree_nodes.specs.declared.brick.Kind.{Kind}
use Rattle.rt_tree_nodes.specs.declared.brick.Local.{Local}
use Rattle.rt_tree_nodes.specs.declared.brick.Local.TheVariants as local
use Rattle.rt_tree_nodes.specs.Scopes.{Scope, Face, Sort, OfProc, OfData, OfStack, with, is_svc, is_errors, is_streams, is_label_layer, fields_in, fields_of, first_fields, proc_in, field_at, field_mode, svc_mode, proc_mode}
use Rattle.rt_tree_nodes.specs.Typing.{Found, Shared, Private, kept, item_found, mode_at}
use Rattle.rt_tree.specs.declared.standing.Standing.{Standing}
use Rattle.rt_tree.specs.declared.standing.Standing.TheVariants as standing
use Rattle.rt_tree.specs.Modules.{Stands, stands, layer_stands, is_alone, is_length, all_passed, local_stands, field_stands, item_stands, is_recovery_label, record_stands}
use Rattle.rt_bricks_laws.specs.Bodies.{all}
use Rattle.rt_bricks_laws.specs.Numbers.{is_word}
use Rattle.rt_bricks_laws.proofs.Truths.{both, left_of, right_of}
use Rattle.rt_check_bodies_laws.specs.Modes.{sort_stands, face_stands, ModesStand}
use Rattle.rt_meaning_sound.specs.Short.{short, IsShort}
use Rattle.rt_meaning_sound.specs.Expressions.{ModesAreShort}
use Rattle.rt_meaning_sound.proofs.Short.{short_at}
use Rattle.rt_meaning_sound.proofs.Small.{some_is, out_roll}

either_way : {P : Type 0} (a b : Bool) → (a ≡ true → P) → (b ≡ true → P) → a || b ≡ true → P
either_way true b f g h = f refl
either_way false b f g h = g h

label_short : (m : Mode) (l : Mode-F Mode) → out-Mode m ≡ l → is_label_layer l ≡ true → IsShort m
label_short m Mode-F.Label o h = short_at m Mode-F.Label o
label_short m _ o h = absurd cc

-- a length is far below
length_is_word : (n : ℕ) → is_length n ≡ true → is_word n ≡ true
length_is_word n h =
    let e : nat_le n 8191 ≡ true = right_of (nat_le 1 n) (nat_le n 8191) h in
    let l : n ≤ 8191 = grind (arith, nat_tests) in
    let g : n < 65536 = omega (arith, l) in
    grind (arith, nat_tests)

-- ---- modes that may stand

module _ (n : ℕ) where
  abbrev Known : Mode → Type 0
  Known m = (p : Standing) (levels refs : ℕ) → stands n m p levels refs ≡ true → IsShort m

  abbrev Pair : Type 0
  Pair = (m : Mode) × Known m

  abbrev modes_of : List Pair → List Mode
  modes_of ps = map (λ (e : Pair). e.0) ps

  may_at : (m : Mode) (l : Mode-F Mode) → out-Mode m ≡ l → stands n m ≡ layer_stands n (map-Mode Mode Stands (stands n) l)
  may_at m l o = rw (fold_out-Mode, o) refl

  at_place : (m : Mode) (l : Mode-F Mode) (p : Standing) (levels refs : ℕ) → out-Mode m ≡ l → stands n m p levels refs ≡ true → layer_stands n (map-Mode Mode Stands (stands n) l) p levels refs ≡ true
  at_place m l p levels refs o h = sym (ap (λ (f : Stands). f p levels refs) (may_at m l o)) ∙ h

  parameters_short : (ps : List Pair) (levels : ℕ) → all_passed levels (map (stands n) (modes_of ps)) ≡ true → all (map short (modes_of ps)) ≡ true
  parameters_short [] levels h = refl
  parameters_short (p ∷ ps) levels h =
      let first : Bool = stands n p.0 standing.Passed levels 8 in
      let rest : Bool = all_passed levels (map (stands n) (modes_of ps)) in
      both (short p.0) (all (map short (modes_of ps))) (p.1 standing.Passed levels 8 (left_of first rest h)) (parameters_short ps levels (right_of first rest h))

  opened : (m : Mode) (y : Mode-F Pair) → out-Mode m ≡ map-Mode Pair Mode (λ e. e.0) y → Known m
  opened m Mode-F.Byte o p levels refs h = short_at m Mode-F.Byte o
  opened m Mode-F.Int o p levels refs h = short_at m Mode-F.Int o
  opened m Mode-F.Frac o p levels refs h = short_at m Mode-F.Frac o
  opened m Mode-F.Label o p levels refs h = short_at m Mode-F.Label o
  opened m (Mode-F.Record r) o p levels refs h = short_at m (Mode-F.Record r) o
  opened m (Mode-F.Ref k) o p levels refs h =
      let inner : Bool = stands n k.0 standing.Inside (levels - 1) (refs - 1) in
      let g = right_of (nat_lt 0 levels) (nat_lt 0 refs && inner) (at_place m (Mode-F.Ref k.0) p levels refs o h) in
      short_at m (Mode-F.Ref k.0) o ∙ k.1 standing.Inside (levels - 1) (refs - 1) (right_of (nat_lt 0 refs) inner g)
  opened m (Mode-F.RefArray k) o p levels refs h =
      let inner : Bool = stands n k.0 standing.Inside (levels - 1) 8 in
      let g = right_of (nat_lt 0 levels) (nat_lt 0 refs && inner) (at_place m (Mode-F.RefArray k.0) p levels refs o h) in
      short_at m (Mode-F.RefArray k.0) o ∙ k.1 standing.Inside (levels - 1) 8 (right_of (nat_lt 0 refs) inner g)
  opened m (Mode-F.Array j k) o p levels refs h =
      let inner : Bool = stands n k.0 standing.Inside (levels - 1) 8 in
      let g = right_of (is_alone p) (nat_lt 0 levels && (is_length j && inner)) (at_place m (Mode-F.Array j k.0) p levels refs o h) in
      let q = right_of (nat_lt 0 levels) (is_length j && inner) g in
      short_at m (Mode-F.Array j k.0) o ∙ both (is_word j) (short k.0) (length_is_word j (left_of (is_length j) inner q)) (k.1 standing.Inside (levels - 1) 8 (right_of (is_length j) inner q))
  opened m (Mode-F.Proc ps None) o p levels refs h =
      let ms : List Mode = modes_of ps in
      let passed : Bool = all_passed (levels - 1) (map (stands n) ms) in
      let many : Bool = nat_le (length (map (stands n) ms)) 32 in
      let g = right_of many (passed && true) (right_of (nat_lt 0 levels) (many && (passed && true)) (at_place m (Mode-F.Proc ms None) p levels refs o h)) in
      short_at m (Mode-F.Proc ms None) o ∙ both (all (map short ms)) true (parameters_short ps (levels - 1) (left_of passed true g)) refl
  opened m (Mode-F.Proc ps (Some r)) o p levels refs h =
      let ms : List Mode = modes_of ps in
      let passed : Bool = all_passed (levels - 1) (map (stands n) ms) in
      let inner : Bool = stands n r.0 standing.Passed (levels - 1) 8 in
      let many : Bool = nat_le (length (map (stands n) ms)) 32 in
      let g = right_of many (passed && inner) (right_of (nat_lt 0 levels) (many && (passed && inner)) (at_place m (Mode-F.Proc ms (Some r.0)) p levels refs o h)) in
      short_at m (Mode-F.Proc ms (Some r.0)) o
      ∙ both (all (map short ms)) (short r.0) (parameters_short ps (levels - 1) (left_of passed inner g)) (r.1 standing.Passed (levels - 1) 8 (right_of passed inner g))

  stands_short : (m : Mode) → Known m
  stands_short = ind-Mode Known (λ x y is. opened (roll-Mode x) y (out_roll x ∙ sym is))

  -- ---- fields and items

  field_short : (f : Field) → field_stands n f ≡ true → IsShort f.mode
  field_short f h = stands_short f.mode standing.Alone 100 8 h

  item_short : (k : Kind) (name : List ℕ) (f : Field) → item_stands n k name f ≡ true → IsShort f.mode
  item_short k name f h =
      either_way (field_stands n f) (is_recovery_label k name f) (field_short f)
      (λ g.
      let is_erl : Bool = bytes_eq f.name (codes "ERL") in
      let label : Bool = is_label_layer (out-Mode f.mode) in
      label_short f.mode (out-Mode f.mode) refl (right_of is_erl label (right_of (bytes_eq name (codes "RRERR")) (is_erl && label) (right_of (is_svc k) (bytes_eq name (codes "RRERR") && (is_erl && label)) g))))
      h

  fields_short : (test : Field → Bool) → ((f : Field) → test f ≡ true → IsShort f.mode) → (fs : List Field) (k : ℕ) (m : Mode) → list_all test fs ≡ true → field_at fs k ≡ Some m → IsShort m
  fields_short test go [] k m h e = absurd cc
  fields_short test go (f ∷ fs) zero m h e = subst IsShort (some_is f.mode m e) (go f (left_of (test f) (list_all test fs) h))
  fields_short test go (f ∷ fs) (suc k) m h e = fields_short test go fs k m (right_of (test f) (list_all test fs) h) e

  records_short : (ds : List RecordDef) (r k : ℕ) (m : Mode) → list_all (record_stands n) ds ≡ true → field_mode ds r k ≡ Some m → IsShort m
  records_short [] r k m h e = absurd cc
  records_short (d ∷ ds) zero k m h e = fields_short (field_stands n) field_short d.fields k m (left_of (record_stands n d) (list_all (record_stands n) ds) h) e
  records_short (d ∷ ds) (suc r) k m h e = records_short ds r k m (right_of (record_stands n d) (list_all (record_stands n) ds) h) e

  -- ---- bricks

  proc_short : (k : Kind) (name : List ℕ) (s : Sort) (m : Mode) → sort_stands n k name s ≡ true → proc_in s ≡ Some m → IsShort m
  proc_short k name (OfProc w) m h e = subst IsShort (some_is w m e) (stands_short w standing.Alone 100 8 h)
  proc_short k name (OfData fs) m h e = absurd cc
  proc_short k name OfStack m h e = absurd cc

  procs_short : (bs : List Face) (b : ℕ) (m : Mode) → list_all (face_stands n) bs ≡ true → proc_mode bs b ≡ Some m → IsShort m
  procs_short [] b m h e = absurd cc
  procs_short (x ∷ bs) zero m h e = proc_short x.kind x.name x.sort m (left_of (face_stands n x) (list_all (face_stands n) bs) h) e
  procs_short (x ∷ bs) (suc b) m h e = procs_short bs b m (right_of (face_stands n x) (list_all (face_stands n) bs) h) e

  data_short : (k : Kind) (name : List ℕ) (s : Sort) (j : ℕ) (m : Mode) → sort_stands n k name s ≡ true → with (fields_in s) (λ fs. field_at fs j) ≡ Some m → IsShort m
  data_short k name (OfData fs) j m h e = fields_short (item_stands n k name) (item_short k name) fs j m h e
  data_short k name (OfProc w) j m h e = absurd cc
  data_short k name OfStack j m h e = absurd cc

  first_split : (test : Face → Bool) (x : Face) (bs : List Face) (j : ℕ) (m : Mode) (b : Bool) → face_stands n x ≡ true → (with (first_fields test bs) (λ fs. field_at fs j) ≡ Some m → IsShort m)
      → with (if b then fields_of x else first_fields test bs) (λ fs. field_at fs j) ≡ Some m → IsShort m
  first_split test x bs j m true h go e = data_short x.kind x.name x.sort j m h e
  first_split test x bs j m false h go e = go e

  first_short : (test : Face → Bool) (bs : List Face) (j : ℕ) (m : Mode) → list_all (face_stands n) bs ≡ true → with (first_fields test bs) (λ fs. field_at fs j) ≡ Some m → IsShort m
  first_short test [] j m h e = absurd cc
  first_short test (x ∷ bs) j m h e =
      first_split test x bs j m (test x) (left_of (face_stands n x) (list_all (face_stands n) bs) h) (first_short test bs j m (right_of (face_stands n x) (list_all (face_stands n) bs) h)) e

  kept_short : (svc : Bool) (o : Option Mode) (f : Found) → ((m : Mode) → o ≡ Some m → IsShort m) → option_map (kept svc) o ≡ Some f → IsShort (mode_at (Some f))
  kept_short svc None f h e = absurd cc
  kept_short true (Some m) f h e = subst (λ (z : Found). IsShort (mode_at (Some z))) (some_is (Private m) f e) (h m refl)
  kept_short false (Some m) f h e = subst (λ (z : Found). IsShort (mode_at (Some z))) (some_is (Shared m) f e) (h m refl)

  sort_short : (k : Kind) (name : List ℕ) (s : Sort) (own : Bool) (j : ℕ) (f : Found) → sort_stands n k name s ≡ true → with (if own then None else fields_in s) (λ fs. option_map (kept (is_svc k)) (field_at fs j)) ≡ Some f → IsShort (mode_at (Some f))
  sort_short k name s true j f h e = absurd cc
  sort_short k name (OfData fs) false j f h e = kept_short (is_svc k) (field_at fs j) f (λ m q. fields_short (item_stands n k name) (item_short k name) fs j m h q) e
  sort_short k name (OfProc w) false j f h e = absurd cc
  sort_short k name OfStack false j f h e = absurd cc

  items_short : (bs : List Face) (b j : ℕ) (f : Found) → list_all (face_stands n) bs ≡ true → item_found bs b j ≡ Some f → IsShort (mode_at (Some f))
  items_short [] b j f h e = absurd cc
  items_short (x ∷ bs) zero j f h e = sort_short x.kind x.name x.sort (is_errors x || is_streams x) j f (left_of (face_stands n x) (list_all (face_stands n) bs) h) e
  items_short (x ∷ bs) (suc b) j f h e = items_short bs b j f (right_of (face_stands n x) (list_all (face_stands n) bs) h) e

  locals_short : (ls : List Local) (i : ℕ) (m : Mode) → list_all (local_stands n) ls ≡ true → slice_get ls i ≡ Some (local.Variable m) → IsShort m
  locals_short [] i m h e = absurd cc
  locals_short (l ∷ ls) zero m h e =
      stands_short m standing.Passed 100 8 (subst (λ (z : Local). local_stands n z ≡ true) (some_is l (local.Variable m) e) (left_of (local_stands n l) (list_all (local_stands n) ls) h))
  locals_short (l ∷ ls) (suc i) m h e = locals_short ls i m (right_of (local_stands n l) (list_all (local_stands n) ls) h) e

-- ---- a scope

own_short : (c : Scope) → ModesStand c → (k : ℕ) (m : Mode) → svc_mode c k ≡ Some m → IsShort m
own_short c h k m e = by_number (nat_lt k 3) e where
  by_number : (b : Bool) → (if b then with c.errors (λ fs. field_at fs k) else with c.streams (λ fs. field_at fs (k - 3))) ≡ Some m → IsShort m
  by_number true g = first_short (length c.records) is_errors c.bricks k m h.bricks (sym (ap (λ (o : Option (List Field)). with o (λ fs. field_at fs k)) h.errors) ∙ g)
  by_number false g = first_short (length c.records) is_streams c.bricks (k - 3) m h.bricks (sym (ap (λ (o : Option (List Field)). with o (λ fs. field_at fs (k - 3))) h.streams) ∙ g)

pub all_short : ModesAreShort
all_short c h g = record {
  fields = λ r k m e. records_short (length c.records) c.records r k m h.records e;
  procedures = λ b m e. procs_short (length c.records) c.bricks b m h.bricks e;
  items = λ b i f e. items_short (length c.records) c.bricks b i f h.bricks e;
  own = λ k m e. own_short c h k m e;
  locals = λ i m e. locals_short (length c.records) c.locals i m g e;
}
