-- Values and places that fit as nodes fit as plain trees.
use Rattle.std.proofs.Common.{◌≡◌, inl, inr, ℕ, ◌<◌, ◌&&◌, ◌||◌, Bool, true, false, if◌then◌else◌, List, Option, Some, None, option_map, slice_get, refl, sym, ap, ◌∙◌, subst, arith}
use Rattle.std.specs.List.{Contains}
use Rattle.std.proofs.lemmas.Bool.Decides.{nat_tests}
use Rattle.rt_modes.specs.declared.mode.Mode.{Mode, out-Mode}
use Rattle.rt_modes.specs.declared.mode.Mode.TheOpen.{Mode-F}
use Rattle.rt_modes.specs.declared.mode.Mode.TheVariants as mode
use Rattle.rt_modes.specs.declared.mode.ModeTable.{ModeTable}
use Rattle.rt_tree_nodes.specs.declared.brick.Local.{Local}
use Rattle.rt_tree_nodes.specs.declared.brick.Local.TheVariants as local
use Rattle.rt_tree_nodes.specs.declared.brick.ModuleParts.{ModuleParts}
use Rattle.rt_tree_nodes.specs.declared.operators.Op2.{Op2}
use Rattle.rt_tree_nodes.specs.declared.operators.Op2.TheVariants as two
use Rattle.rt_tree_nodes.specs.Scopes.{Scope, with, passes, same, scope_of, with_locals}
use Rattle.rt_tree_nodes.specs.Tree.{Term, Num, Path, Svc, ElemRow, Past, Terms}
use Rattle.rt_tree_nodes.specs.Typing.{Found, Variable, Loop, Shared, Private, Row, Spot, OnLocal, OnPath, OnRow, Placed, Valued, Called, is_value, is_byte, is_int, local_found, field_by, field_found, field_path, field_in, element_by, element_found, element_path, element_in, led_by, led, led_spot, led_tree, read_mode, read_tree, reference_by, reference_mode, reference_path, reference_tree, length_by, length_mode, length_path, length_tree, dyadic_mode, dyadic_tree, is_small, suits}
use Rattle.rt_tree_nodes.proofs.Same.{same_equal}
use Rattle.rt_tree.specs.Taken.{taken}
use Rattle.rt_tree.specs.FullModes.{MayStand}
use Rattle.rt_meaning_laws.specs.Slots.{IsInt, IsByte, IsOwn}
use Rattle.rt_meaning_laws.specs.Slots as slots
use Rattle.rt_meaning_laws.specs.Trees.{Started, Site, table, mode_of_local, local_mode, number_fits, is_array, OwnFits, TermFits, PathFits, TermsFit, CallFits}
use Rattle.rt_meaning_laws.specs.Named.{TermNamed, PathNamed, TermsNamed}
use Rattle.rt_meaning_laws.proofs.Modes.{out_int, out_ref, out_row}
use Rattle.rt_meaning_laws.proofs.Operators.{int_out, byte_out}
use Rattle.rt_meaning_laws.proofs.Small.{two_true, with_is, mapped_is, only_is}

-- ---- places and values

-- Item k of the task's own data, as it is supplied: ERL holds nothing.
pub data SvcIs (t : ModeTable) : ℕ → Mode → Type 0 where
  erl : {m : Mode} → out-Mode m ≡ Mode-F.Label → SvcIs t 0 m
  other : {k : ℕ} {m : Mode} → IsOwn t k m → MayStand t m → SvcIs t k m

module _ (x : Site) (s : Started) where
  abbrev p : ModuleParts
  p = x.parts

  abbrev c : Scope
  c = with_locals (scope_of p) x.locals

  abbrev names : ℕ → Type 0
  names b = Contains (taken p) b

  abbrev Ready : Term → Type 0
  Ready v = TermNamed names s v

  abbrev ReadyPath : Path → Type 0
  ReadyPath q = PathNamed names s q

  -- a place that is found
  abbrev pub PlaceIs : Found → Spot → Type 0
  PlaceIs (Variable m) (OnLocal i) = local_mode x i ≡ Some m
  PlaceIs Loop (OnLocal i) = local_mode x i ≡ Some mode.Int
  PlaceIs (Shared m) (OnPath q) = ReadyPath q → PathFits x s q m
  PlaceIs (Private m) (OnPath q) = (k : ℕ) × (q ≡ Svc k) × SvcIs (table x) k m
  PlaceIs (Row m) (OnRow v) = (w : Mode) × (out-Mode w ≡ Mode-F.RefArray m) × (Ready v → TermFits x s v w)
  PlaceIs _ _ = ⊥

  abbrev pub PlaceGood : Placed → Type 0
  PlaceGood y = (f : Found) → y.found ≡ Some f → PlaceIs f y.tree

  -- a value of a mode, a number, a call
  pub record ValueGood (y : Valued) : Type 0 where
    pub is : (m : Mode) → y.mode ≡ Some m → Ready y.tree → TermFits x s y.tree m
    pub number : (k : ℕ) → y.number ≡ Some k → y.tree ≡ Num k
    pub call : (r : Option Mode) → y.call ≡ Some r → Ready y.tree → CallFits x s y.tree r
    pub result : (m : Mode) → y.call ≡ Some (Some m) → Ready y.tree → TermFits x s y.tree m

  pub record CalleeGood (y : Called) : Type 0 where
    pub calls : (w : Mode) (ws : List Mode) (o : Option Mode) (ts : Terms) → y.mode ≡ Some w → out-Mode w ≡ Mode-F.Proc ws o → (TermsNamed names s ts → TermsFit x s ts ws) → Ready (y.tree ts) → CallFits x s (y.tree ts) o
    pub gives : (w : Mode) (ws : List Mode) (m : Mode) (ts : Terms) → y.mode ≡ Some w → out-Mode w ≡ Mode-F.Proc ws (Some m) → (TermsNamed names s ts → TermsFit x s ts ws) → Ready (y.tree ts) → TermFits x s (y.tree ts) m

  -- a value where a mode is wanted
  pub suits_fits : (w : Mode) (y : Valued) → ValueGood y → suits w y ≡ true → Ready y.tree → TermFits x s y.tree w
  suits_fits w y h e r = by_mode y.mode refl e
    where
      small : (o : Option ℕ) → y.number ≡ o → is_byte w ≡ true → is_small o ≡ true → TermFits x s y.tree w
      small None q b e = absurd cc
      small (Some k) q b e =
          let low : k < 256 = grind (arith, nat_tests) in
          let is : y.tree ≡ Num k = h.number k q in
          subst (λ (v : Term). TermFits x s v w) (sym is) (subst (λ (l : Mode-F Mode). number_fits k l) (sym (byte_out w b)) low)

      by_test : (m : Mode) (b d : Bool) → y.mode ≡ Some m → same w m ≡ b → is_byte w && is_small y.number ≡ d → b || d ≡ true → TermFits x s y.tree w
      by_test m true d q f g e = let is : w ≡ m = same_equal w m f in subst (λ (z : Mode). TermFits x s y.tree z) (sym is) (h.is m q r)
      by_test m false true q f g e = let z = two_true (is_byte w) (is_small y.number) g in small y.number refl z.0 z.1
      by_test m false false q f g e = absurd cc

      by_mode : (o : Option Mode) → y.mode ≡ o → passes (λ m. same w m || (is_byte w && is_small y.number)) o ≡ true → TermFits x s y.tree w
      by_mode None q e = absurd cc
      by_mode (Some m) q e = by_test m (same w m) (is_byte w && is_small y.number) q refl refl e

  -- ---- places, one level

  abbrev Goods : Option Found → Spot → Type 0
  Goods o t = (f : Found) → o ≡ Some f → PlaceIs f t

  local_good : (i : ℕ) (l : Local) → slice_get x.locals i ≡ Some l → PlaceIs (local_found l) (OnLocal i)
  local_good i (local.Variable m) e = ap (λ (o : Option Local). option_map mode_of_local o) e
  local_good i local.Loop e = ap (λ (o : Option Local). option_map mode_of_local o) e

  pub local_place : (i : ℕ) → Goods (option_map local_found (slice_get x.locals i)) (OnLocal i)
  local_place i f e = let r = mapped_is local_found (slice_get x.locals i) f e in subst (λ (g : Found). PlaceIs g (OnLocal i)) r.2 (local_good i r.0 r.1)

  no_record : (k r : ℕ) (m : Mode) → SvcIs (table x) k m → out-Mode m ≡ Mode-F.Record r → ⊥
  no_record k r m (erl e) o = let no_way : Mode-F.Label ≡ Mode-F.Record r = sym e ∙ o in absurd cc
  no_record k r m (other (slots.ern e) st) o = let no_way : Mode-F.Int ≡ Mode-F.Record r = sym e ∙ o in absurd cc
  no_record k r m (other (slots.erp {ws = ws} {r = q} e f) st) o = let no_way : Mode-F.Proc ws q ≡ Mode-F.Record r = sym e ∙ o in absurd cc
  no_record k r m (other (slots.input {ws = ws} {r = q} e f) st) o = let no_way : Mode-F.Proc ws q ≡ Mode-F.Record r = sym e ∙ o in absurd cc
  no_record k r m (other (slots.output {ws = ws} {r = q} e f) st) o = let no_way : Mode-F.Proc ws q ≡ Mode-F.Record r = sym e ∙ o in absurd cc

  no_array : (k n : ℕ) (u m : Mode) → SvcIs (table x) k m → out-Mode m ≡ Mode-F.Array n u → ⊥
  no_array k n u m (erl e) o = let no_way : Mode-F.Label ≡ Mode-F.Array n u = sym e ∙ o in absurd cc
  no_array k n u m (other (slots.ern e) st) o = let no_way : Mode-F.Int ≡ Mode-F.Array n u = sym e ∙ o in absurd cc
  no_array k n u m (other (slots.erp {ws = ws} {r = q} e f) st) o = let no_way : Mode-F.Proc ws q ≡ Mode-F.Array n u = sym e ∙ o in absurd cc
  no_array k n u m (other (slots.input {ws = ws} {r = q} e f) st) o = let no_way : Mode-F.Proc ws q ≡ Mode-F.Array n u = sym e ∙ o in absurd cc
  no_array k n u m (other (slots.output {ws = ws} {r = q} e f) st) o = let no_way : Mode-F.Proc ws q ≡ Mode-F.Array n u = sym e ∙ o in absurd cc

  shared_field : (m v : Mode) (q : Path) (k : ℕ) (l : Mode-F Mode) → out-Mode m ≡ l → (ReadyPath q → PathFits x s q m) → field_by c.records k l ≡ Some v → PlaceIs (Shared v) (OnPath (field_path l q k))
  shared_field m v q k (Mode-F.Record r) o h e = λ ready. (m, o, e, h ready)
  shared_field m v q k _ o h e = absurd cc

  private_field : (m v : Mode) (j k : ℕ) (l : Mode-F Mode) → out-Mode m ≡ l → SvcIs (table x) j m → field_by c.records k l ≡ Some v → ⊥
  private_field m v j k (Mode-F.Record r) o h e = no_record j r m h o
  private_field m v j k _ o h e = absurd cc

  pub field_good : (o : Option Found) (t : Spot) (k : ℕ) → Goods o t → Goods (with o (field_found c.records k)) (field_in o t k)
  field_good None t k h f e = absurd cc
  field_good (Some (Shared m)) (OnPath q) k h f e =
      let r = mapped_is Shared (field_by c.records k (out-Mode m)) f e in
      subst (λ (g : Found). PlaceIs g (OnPath (field_path (out-Mode m) q k))) r.2 (shared_field m r.0 q k (out-Mode m) refl (h (Shared m) refl) r.1)
  field_good (Some (Private m)) (OnPath q) k h f e =
      let r = mapped_is Private (field_by c.records k (out-Mode m)) f e in
      let i = h (Private m) refl in
      absurd (private_field m r.0 i.0 k (out-Mode m) refl i.2 r.1)
  field_good (Some (Shared m)) (OnLocal i) k h f e = absurd (h (Shared m) refl)
  field_good (Some (Shared m)) (OnRow v) k h f e = absurd (h (Shared m) refl)
  field_good (Some (Private m)) (OnLocal i) k h f e = absurd (h (Private m) refl)
  field_good (Some (Private m)) (OnRow v) k h f e = absurd (h (Private m) refl)
  field_good (Some (Variable m)) t k h f e = absurd cc
  field_good (Some Loop) t k h f e = absurd cc
  field_good (Some (Row m)) t k h f e = absurd cc

  shared_element : (m v i : Mode) (q : Path) (a : Term) (l : Mode-F Mode) → out-Mode m ≡ l → IsInt i → (ReadyPath q → PathFits x s q m) → (Ready a → TermFits x s a i) → element_by l ≡ Some v → PlaceIs (Shared v) (OnPath (element_path l q a))
  shared_element m v i q a (Mode-F.Array n u) o ii h g e =
      let is : u ≡ v = cc in
      λ ready. (m, i, o ∙ ap (λ (z : Mode). Mode-F.Array n z) is, ii, h ready.0, g ready.1, is)
  shared_element m v i q a _ o ii h g e = absurd cc

  private_element : (m v : Mode) (j : ℕ) (l : Mode-F Mode) → out-Mode m ≡ l → SvcIs (table x) j m → element_by l ≡ Some v → ⊥
  private_element m v j (Mode-F.Array n u) o h e = no_array j n u m h o
  private_element m v j _ o h e = absurd cc

  element_good : (o : Option Found) (t : Spot) (a : Term) (i : Mode) (f : Found) → Goods o t → IsInt i → (Ready a → TermFits x s a i) → with o element_found ≡ Some f → PlaceIs f (element_in o t a)
  element_good None t a i f h ii g e = absurd cc
  element_good (Some (Shared m)) (OnPath q) a i f h ii g e =
      let r = mapped_is Shared (element_by (out-Mode m)) f e in
      subst (λ (z : Found). PlaceIs z (OnPath (element_path (out-Mode m) q a))) r.2 (shared_element m r.0 i q a (out-Mode m) refl ii (h (Shared m) refl) g r.1)
  element_good (Some (Private m)) (OnPath q) a i f h ii g e =
      let r = mapped_is Private (element_by (out-Mode m)) f e in
      let k = h (Private m) refl in
      absurd (private_element m r.0 k.0 (out-Mode m) refl k.2 r.1)
  element_good (Some (Row m)) (OnRow v) a i f h ii g e =
      let k = h (Row m) refl in
      let is : Shared m ≡ f = cc in
      let good : PlaceIs (Shared m) (OnPath (ElemRow v a m)) = λ ready. (k.0, i, k.1, ii, k.2 ready.0, g ready.1, refl) in
      subst (λ (z : Found). PlaceIs z (OnPath (ElemRow v a m))) is good
  element_good (Some (Shared m)) (OnLocal j) a i f h ii g e = absurd (h (Shared m) refl)
  element_good (Some (Shared m)) (OnRow v) a i f h ii g e = absurd (h (Shared m) refl)
  element_good (Some (Private m)) (OnLocal j) a i f h ii g e = absurd (h (Private m) refl)
  element_good (Some (Private m)) (OnRow v) a i f h ii g e = absurd (h (Private m) refl)
  element_good (Some (Row m)) (OnLocal j) a i f h ii g e = absurd (h (Row m) refl)
  element_good (Some (Row m)) (OnPath q) a i f h ii g e = absurd (h (Row m) refl)
  element_good (Some (Variable m)) t a i f h ii g e = absurd cc
  element_good (Some Loop) t a i f h ii g e = absurd cc

  -- an element whose subscript is INT
  pub subscript_good : (o : Option Found) (t : Spot) (w : Valued) → Goods o t → ValueGood w → Goods (with o (λ f. with w.mode (λ m. if is_int m then element_found f else None))) (element_in o t w.tree)
  subscript_good None t w h g f e = absurd cc
  subscript_good (Some y) t w h g f e =
      let r = with_is w.mode (λ m. if is_int m then element_found y else None) f e in
      by_int r.0 r.1 (is_int r.0) refl r.2
    where
      by_int : (i : Mode) → w.mode ≡ Some i → (b : Bool) → is_int i ≡ b → (if b then element_found y else None) ≡ Some f → PlaceIs f (element_in (Some y) t w.tree)
      by_int i q true k e = element_good (Some y) t w.tree i f h (int_out i k) (λ ready. g.is i q ready) e
      by_int i q false k e = absurd cc

  pub led_good : (w : Valued) → ValueGood w → Goods (with w.mode led) (led_tree w.mode w.tree)
  led_good w g f e = by_mode w.mode refl e
    where
      by_layer : (m : Mode) (l : Mode-F Mode) → w.mode ≡ Some m → out-Mode m ≡ l → led_by l ≡ Some f → PlaceIs f (led_spot l w.tree)
      by_layer m (Mode-F.Ref u) q o e =
          let is : Shared u ≡ f = cc in
          let good : PlaceIs (Shared u) (OnPath (Past w.tree)) = λ ready. (m, o, g.is m q ready) in
          subst (λ (z : Found). PlaceIs z (OnPath (Past w.tree))) is good
      by_layer m (Mode-F.RefArray u) q o e =
          let is : Row u ≡ f = cc in
          let good : PlaceIs (Row u) (OnRow w.tree) = (m, o, λ ready. g.is m q ready) in
          subst (λ (z : Found). PlaceIs z (OnRow w.tree)) is good
      by_layer m _ q o e = absurd cc

      by_mode : (o : Option Mode) → w.mode ≡ o → with o led ≡ Some f → PlaceIs f (led_tree o w.tree)
      by_mode None q e = absurd cc
      by_mode (Some m) q e = by_layer m (out-Mode m) q refl e

  -- ---- values, one level

  abbrev PlacedBy : Option Found → Spot → Placed
  PlacedBy o t = record { found = o; tree = t }

  pub svc_read : (q : Path) (m : Mode) → is_value (out-Mode m) ≡ true → (k : ℕ) × (q ≡ Svc k) × SvcIs (table x) k m → OwnFits (table x) q m × MayStand (table x) m
  svc_read q m v h = by_item h.0 h.2 h.1
    where
      by_item : (k : ℕ) → SvcIs (table x) k m → q ≡ Svc k → OwnFits (table x) q m × MayStand (table x) m
      by_item k (erl e) o = let no_way : false ≡ true = sym (ap is_value e) ∙ v in absurd cc
      by_item k (other i st) o = (subst (λ (y : Path). OwnFits (table x) y m) (sym o) i, st)

  pub read_good : (o : Option Found) (t : Spot) (m : Mode) → Goods o t → with o read_mode ≡ Some m → Ready (read_tree (PlacedBy o t)) → TermFits x s (read_tree (PlacedBy o t)) m
  read_good None t m h e r = absurd cc
  read_good (Some (Variable v)) (OnLocal i) m h e r = let k = only_is (is_value (out-Mode v)) v m e in (h (Variable v) refl ∙ ap (λ (z : Mode). Some z) k.1, r)
  read_good (Some Loop) (OnLocal i) m h e r = let is : mode.Int ≡ m = cc in (h Loop refl ∙ ap (λ (z : Mode). Some z) is, r)
  read_good (Some (Shared v)) (OnPath q) m h e r =
      let k = only_is (is_value (out-Mode v)) v m e in
      (k.1, ap (λ (z : Mode). is_value (out-Mode z)) (sym k.1) ∙ k.0, inl (subst (λ (z : Mode). PathFits x s q z) k.1 (h (Shared v) refl r)))
  read_good (Some (Private v)) (OnPath q) m h e r =
      let k = only_is (is_value (out-Mode v)) v m e in
      let own : OwnFits (table x) q v × MayStand (table x) v = svc_read q v k.0 (h (Private v) refl) in
      (k.1, ap (λ (z : Mode). is_value (out-Mode z)) (sym k.1) ∙ k.0, inr (subst (λ (z : Mode). OwnFits (table x) q z) k.1 own.0, subst (λ (z : Mode). MayStand (table x) z) k.1 own.1))
  read_good (Some (Row v)) t m h e r = absurd cc
  read_good (Some (Variable v)) (OnPath q) m h e r = absurd (h (Variable v) refl)
  read_good (Some (Variable v)) (OnRow a) m h e r = absurd (h (Variable v) refl)
  read_good (Some Loop) (OnPath q) m h e r = absurd (h Loop refl)
  read_good (Some Loop) (OnRow a) m h e r = absurd (h Loop refl)
  read_good (Some (Shared v)) (OnLocal i) m h e r = absurd (h (Shared v) refl)
  read_good (Some (Shared v)) (OnRow a) m h e r = absurd (h (Shared v) refl)
  read_good (Some (Private v)) (OnLocal i) m h e r = absurd (h (Private v) refl)
  read_good (Some (Private v)) (OnRow a) m h e r = absurd (h (Private v) refl)

  reference_by_layer : (v m : Mode) (q : Path) (l : Mode-F Mode) → out-Mode v ≡ l → (ReadyPath q → PathFits x s q v) → reference_by l v ≡ Some m → Ready (reference_path l q) → TermFits x s (reference_path l q) m
  reference_by_layer v m q (Mode-F.Array n u) o h e r = let is : mode.RefArray u ≡ m = cc in (u, v, ap out-Mode (sym is) ∙ out_row u, o, h r)
  reference_by_layer v m q Mode-F.Label o h e r = absurd cc
  reference_by_layer v m q _ o h e r = let is : mode.Ref v ≡ m = cc in (v, ap out-Mode (sym is) ∙ out_ref v, h r, ap is_array o)

  pub reference_good : (o : Option Found) (t : Spot) (m : Mode) → Goods o t → with o reference_mode ≡ Some m → Ready (reference_tree (PlacedBy o t)) → TermFits x s (reference_tree (PlacedBy o t)) m
  reference_good (Some (Shared v)) (OnPath q) m h e r = reference_by_layer v m q (out-Mode v) refl (h (Shared v) refl) e r
  reference_good (Some (Shared v)) (OnLocal i) m h e r = absurd (h (Shared v) refl)
  reference_good (Some (Shared v)) (OnRow a) m h e r = absurd (h (Shared v) refl)
  reference_good _ t m h e r = absurd cc

  length_by_layer : (v m : Mode) (q : Path) (l : Mode-F Mode) → out-Mode v ≡ l → (ReadyPath q → PathFits x s q v) → length_by l ≡ Some m → Ready (length_path l q) → TermFits x s (length_path l q) m
  length_by_layer v m q (Mode-F.Array n u) o h e r = let is : mode.Int ≡ m = cc in (v, ap out-Mode (sym is) ∙ out_int, r.0, h r.1)
  length_by_layer v m q _ o h e r = absurd cc

  own_length : (k : ℕ) (v m : Mode) (l : Mode-F Mode) → out-Mode v ≡ l → SvcIs (table x) k v → length_by l ≡ Some m → ⊥
  own_length k v m (Mode-F.Array n u) o h e = no_array k n u v h o
  own_length k v m _ o h e = absurd cc

  pub length_good : (o : Option Found) (t : Spot) (m : Mode) → Goods o t → with o length_mode ≡ Some m → Ready (length_tree (PlacedBy o t)) → TermFits x s (length_tree (PlacedBy o t)) m
  length_good (Some (Shared v)) (OnPath q) m h e r = length_by_layer v m q (out-Mode v) refl (h (Shared v) refl) e r
  length_good (Some (Private v)) (OnPath q) m h e r = let k = h (Private v) refl in absurd (own_length k.0 v m (out-Mode v) refl k.2 e)
  length_good (Some (Row v)) (OnRow a) m h e r = let k = h (Row v) refl in let is : mode.Int ≡ m = cc in (k.0, v, ap out-Mode (sym is) ∙ out_int, k.1, k.2 r)
  length_good (Some (Shared v)) (OnLocal i) m h e r = absurd (h (Shared v) refl)
  length_good (Some (Shared v)) (OnRow a) m h e r = absurd (h (Shared v) refl)
  length_good (Some (Private v)) (OnLocal i) m h e r = absurd (h (Private v) refl)
  length_good (Some (Private v)) (OnRow a) m h e r = absurd (h (Private v) refl)
  length_good (Some (Row v)) (OnLocal i) m h e r = absurd (h (Row v) refl)
  length_good (Some (Row v)) (OnPath q) m h e r = absurd (h (Row v) refl)
  length_good _ t m h e r = absurd cc

  pub dyadic_good : (o : Op2) (a b : Term) (j k m : Mode) → dyadic_mode o j k ≡ Some m → (Ready a → TermFits x s a j) → (Ready b → TermFits x s b k) → Ready (dyadic_tree o a b) → TermFits x s (dyadic_tree o a b) m
  dyadic_good two.Divide a b j k m d f g r = (j, k, d, f r.0, g r.1, refl)
  dyadic_good two.Mod a b j k m d f g r = (j, k, d, f r.0, g r.1, refl)
  dyadic_good _ a b j k m d f g r = (j, k, d, f r.0, g r.1, refl)
