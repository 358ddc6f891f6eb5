-- Objects that are those of trees have their sizes, their data and their strings.
use Rattle.std.proofs.Common.{◌≡◌, ◌≢◌, ℕ, zero, suc, ◌+◌, ◌<◌, ◌≤◌, true, List, [], ◌∷◌, length, map, Option, Some, None, option_map, slice_get, refl, sym, ap, ◌∙◌, subst, arith}
use Rattle.std.proofs.lemmas.Option.{slice_get_within}
use Rattle.rt_modes.specs.declared.mode.Field.{Field}
use Rattle.rt_modes.specs.declared.mode.Mode.{Mode}
use Rattle.rt_modes.specs.declared.mode.RecordDef.{RecordDef}
use Rattle.rt_tree_nodes.specs.declared.brick.Brick.{Brick}
use Rattle.rt_tree_nodes.specs.declared.brick.BrickSort.{BrickSort}
use Rattle.rt_tree_nodes.specs.declared.brick.BrickSort.TheVariants as sort
use Rattle.rt_tree_nodes.specs.declared.brick.DataStart.{DataStart}
use Rattle.rt_tree_nodes.specs.declared.brick.Kind.{Kind}
use Rattle.rt_tree_nodes.specs.declared.brick.Kind.TheVariants as kind
use Rattle.rt_tree_nodes.specs.declared.brick.ModuleParts.{ModuleParts}
use Rattle.rt_tree_nodes.specs.Scopes.{scope_of}
use Rattle.rt_tree.specs.Modules.{is_here}
use Rattle.rt_tree.specs.Stored.{System, HasBrick, module_of}
use Rattle.rt_sizes.specs.Sizes.{even, fields_end, size, offset, End}
use Rattle.rt_sizes.proofs.Layers.{some_is}
use Rattle.rt_sizes_laws.proofs.Deeper.{size_of, size_grows, place_of, place_grows, end_of, end_grows}
use Rattle.rt_object.specs.declared.object.Brick.{Brick as Compiled}
use Rattle.rt_object.specs.declared.object.BrickKind.TheVariants.{Own, Ent}
use Rattle.rt_object.specs.declared.object.Content.TheVariants as content
use Rattle.rt_object.specs.declared.object.ObjectParts.{ObjectParts}
use Rattle.rt_graph.specs.Calls.{numbered, content_of}
use Rattle.rt_link.specs.Room.{data_in, data_bytes}
use Rattle.rt_sizes.specs.Containing.{HaveOne, Contains, directly, through}
use Rattle.rt_modes.specs.FullMode.{fields_in}
use Rattle.rt_lower.specs.declared.layouts.Layouts.{Layouts}
use Rattle.rt_lower.specs.Layouts.{table_of}
use Rattle.rt_compile.specs.Data.{data_of}
use Rattle.rt_compile.specs.Objects as objects
use Rattle.rt_compile.specs.Objects.{items_of, code_by}
use Rattle.rt_places.specs.Places.{AreSizes}
use Rattle.rt_places.specs.Systems.{IsBrick, IsText, HasSizes}
use Rattle.rt_places.proofs.Fields.{even_more}
use Rattle.rt_places.proofs.Told as told
use Rattle.rt_bases.specs.Bases.{HasData, HasString, HaveData}
use Rattle.rt_icode_meaning.specs.Typed.{IsSize, BeginsAt}
use Rattle.rt_imaged.specs.Whole.{sizes_by, layouts_at, sizes_of, IsObjectBy}

-- ---- the bricks of an object are those of its tree

map_left : {A B : Type 0} (f : A → B) (xs : List A) (k : ℕ) (y : B) → slice_get (map f xs) k ≡ Some y → (x : A) × (slice_get xs k ≡ Some x) × (f x ≡ y)
map_left f [] k y e = absurd cc
map_left f (x ∷ xs) zero y e = (x, refl, cc)
map_left f (x ∷ xs) (suc k) y e = map_left f xs k y e

bricks_get : (l : Layouts) (p : ModuleParts) (n : ℕ) (ds : List Brick) (k : ℕ) (d : Brick) → slice_get ds k ≡ Some d → slice_get (objects.bricks l p n ds) k ≡ Some (objects.brick l p (n + k) d)
bricks_get l p n [] k d e = absurd cc
bricks_get l p n (x ∷ ds) zero d e =
    let is : x ≡ d = cc in
    let number : n ≡ n + zero = omega arith in
    ap (λ (z : Brick). Some (objects.brick l p n z)) is ∙ ap (λ (z : ℕ). Some (objects.brick l p z d)) number
bricks_get l p n (x ∷ ds) (suc k) d e =
    let number : n + 1 + k ≡ n + suc k = omega arith in
    bricks_get l p (n + 1) ds k d e ∙ ap (λ (z : ℕ). Some (objects.brick l p z d)) number

-- brick k of the object
pub its_brick : (l : Layouts) (p : ModuleParts) (o : ObjectParts) (k : ℕ) (d : Brick) → objects.AreBricks l p o.bricks → slice_get p.bricks k ≡ Some d → (c : Compiled) × (slice_get o.bricks k ≡ Some c) × (objects.brick l p k d ≡ Some c)
its_brick l p o k d are e =
    let number : 0 + k ≡ k = omega arith in
    let all : slice_get (map (λ (c : Compiled). Some c) o.bricks) k ≡ Some (objects.brick l p k d) = ap (λ (z : List (Option Compiled)). slice_get z k) are ∙ bricks_get l p 0 p.bricks k d e ∙ ap (λ (z : ℕ). Some (objects.brick l p z d)) number in
    let one = map_left (λ (c : Compiled). Some c) o.bricks k (objects.brick l p k d) all in (one.0, one.1, sym one.2)

-- an own or ENT data brick holds its data
data_by : (l : Layouts) (p : ModuleParts) (k : ℕ) (name : List ℕ) (w : Kind) (s : BrickSort) (q : Option Compiled) (fs : List Field) (ss : List DataStart) (c : Compiled) → is_here w ≡ true → s ≡ sort.Data fs ss
    → option_map (objects.named name) (objects.kind_by l p k w (sort.Data fs ss) None) ≡ Some c → content_of c.kind ≡ Some (content.Data (items_of fs (data_of l (scope_of p) fs ss)))
data_by l p k name kind.Own s q fs ss c h e f = let is : objects.named name (Own (content.Data (items_of fs (data_of l (scope_of p) fs ss)))) ≡ c = some_is (objects.named name (Own (content.Data (items_of fs (data_of l (scope_of p) fs ss))))) c f in ap (λ (z : Compiled). content_of z.kind) (sym is)
data_by l p k name kind.Ent s q fs ss c h e f = let is : objects.named name (Ent (content.Data (items_of fs (data_of l (scope_of p) fs ss)))) ≡ c = some_is (objects.named name (Ent (content.Data (items_of fs (data_of l (scope_of p) fs ss))))) c f in ap (λ (z : Compiled). content_of z.kind) (sym is)
data_by l p k name kind.Ext s q fs ss c h e f = absurd cc
data_by l p k name kind.Svc s q fs ss c h e f = absurd cc

pub record ItsData (l : Layouts) (p : ModuleParts) (o : ObjectParts) (k : ℕ) (fs : List Field) (ss : List DataStart) : Type 0 where
  pub its : Compiled
  pub at : slice_get o.bricks k ≡ Some its
  pub holds : content_of its.kind ≡ Some (content.Data (items_of fs (data_of l (scope_of p) fs ss)))

pub its_data : (l : Layouts) (p : ModuleParts) (o : ObjectParts) (k : ℕ) (d : Brick) (fs : List Field) (ss : List DataStart) → objects.AreBricks l p o.bricks → slice_get p.bricks k ≡ Some d → is_here d.kind ≡ true → d.sort ≡ sort.Data fs ss → ItsData l p o k fs ss
its_data l p o k d fs ss are e here is =
    let one = its_brick l p o k d are e in
    let made : option_map (objects.named d.name) (objects.kind_by l p k d.kind (sort.Data fs ss) None) ≡ Some one.0 =
    ap (λ (z : BrickSort). option_map (objects.named d.name) (objects.kind_by l p k d.kind z (code_by l p k d z))) (sym is) ∙ one.2 in
    record { its = one.0; at = one.1; holds = data_by l p k d.name d.kind d.sort None fs ss one.0 here is made }

-- ---- the sizes

module _ (ps : System) (ls : List Layouts) (os : List ObjectParts) (long : length ls ≡ length ps) (same : length os ≡ length ps) (trees : (i : ℕ) (p : ModuleParts) (l : Layouts) (o : ObjectParts) → slice_get ps i ≡ Some p → slice_get ls i ≡ Some l → slice_get os i ≡ Some o → IsObjectBy p l o)
    (filled : (m r : ℕ) (p : ModuleParts) (d : RecordDef) → module_of ps m ≡ Some p → slice_get p.modes.records r ≡ Some d → d.fields ≢ [])
    (ends : (m b : ℕ) (p : ModuleParts) (d : Brick) (fs : List Field) (ss : List DataStart) → HasBrick ps m b p d → is_here d.kind ≡ true → d.sort ≡ sort.Data fs ss → (n : ℕ) × End (table_of p.modes.records) fs n)
    (counted : (l : Layouts) (m b : ℕ) (p : ModuleParts) (d : Brick) (fs : List Field) (ss : List DataStart) (n : ℕ) → HasBrick ps m b p d → is_here d.kind ≡ true → d.sort ≡ sort.Data fs ss → End (table_of p.modes.records) fs n → length (data_of l (scope_of p) fs ss).bytes ≡ even n) where
  abbrev pub S : ℕ → ℕ → Option ℕ
  S = sizes_of ls

  -- a module with its layouts and its object
  pub record Known (m : ℕ) (p : ModuleParts) : Type 0 where
    pub layouts : Layouts
    pub object : ObjectParts
    pub its : numbered os m ≡ Some object
    pub sizes : S m ≡ sizes_by (Some layouts)
    pub at : layouts_at ls m ≡ Some layouts
    pub is : IsObjectBy p layouts object

  there_is : {A : Type 0} (xs : List A) (k : ℕ) → k < length xs → (x : A) × (slice_get xs k ≡ Some x)
  there_is [] k l = absurd (omega arith)
  there_is (x ∷ xs) zero l = (x, refl)
  there_is (x ∷ xs) (suc k) l = there_is xs k (omega arith)

  pub known : (m : ℕ) (p : ModuleParts) → module_of ps m ≡ Some p → Known m p
  known zero p e = absurd cc
  known (suc i) p e =
      let less = slice_get_within ps i p e in
      let l = there_is ls i (omega arith) in
      let o = there_is os i (omega arith) in
      record { layouts = l.0; object = o.0; its = o.1; sizes = ap sizes_by l.1; at = l.1; is = trees i p l.0 o.0 e l.1 o.1 }

  -- the sizes that layouts have are told
  of_its : (m : ℕ) (p : ModuleParts) (k : Known m p) (P : (ℕ → Option ℕ) → Type 0) → P (sizes_by (Some k.layouts)) → P (S m)
  of_its m p k P h = subst P (sym k.sizes) h

  each : (m : ℕ) (p : ModuleParts) (k : Known m p) → length k.layouts.sizes ≡ length p.modes.records
  each m p k = k.is.right.sizes.each

  are_sizes : (m : ℕ) (p : ModuleParts) → module_of ps m ≡ Some p → AreSizes p.modes.records (S m)
  are_sizes m p e = let k = known m p e in of_its m p k (λ f. AreSizes p.modes.records f) (told.are_sizes p.modes.records k.layouts.sizes k.is.right.sizes.each k.is.right.sizes.right)

  tells_end : (m : ℕ) (p : ModuleParts) (fs : List Field) (n : ℕ) → module_of ps m ≡ Some p → End (table_of p.modes.records) fs n → fields_end (S m) fs 0 ≡ Some n
  tells_end m p fs n e h = let k = known m p e in of_its m p k (λ f. fields_end f fs 0 ≡ Some n) (told.told p.modes.records k.layouts.sizes k.is.right.sizes.each k.is.right.sizes.right (end_of fs) (end_grows fs) n h)

  pub tells_begin : (m : ℕ) (p : ModuleParts) (fs : List Field) (i n : ℕ) → module_of ps m ≡ Some p → BeginsAt p.modes fs i n → offset (S m) fs i ≡ Some n
  tells_begin m p fs i n e h = let k = known m p e in of_its m p k (λ f. offset f fs i ≡ Some n) (told.told p.modes.records k.layouts.sizes k.is.right.sizes.each k.is.right.sizes.right (place_of fs i) (place_grows fs i) n h)

  pub tells_size : (m : ℕ) (p : ModuleParts) (v : Mode) (n : ℕ) → module_of ps m ≡ Some p → IsSize p.modes v n → size (S m) v ≡ Some n
  tells_size m p v n e h = let k = known m p e in of_its m p k (λ f. size f v ≡ Some n) (told.told p.modes.records k.layouts.sizes k.is.right.sizes.each k.is.right.sizes.right (size_of v) (size_grows v) n h)

  some_of : (m : ℕ) (p : ModuleParts) (r n : ℕ) → module_of ps m ≡ Some p → S m r ≡ Some n → 1 ≤ n
  some_of m p r n e h =
      let k = known m p e in
      let own : sizes_by (Some k.layouts) r ≡ Some n = ap (λ (f : ℕ → Option ℕ). f r) (sym k.sizes) ∙ h in
      told.all_some p.modes.records k.layouts.sizes k.is.right.sizes.each k.is.right.sizes.right (λ q d at. filled m q p d e at) r n own

  some : (m r n : ℕ) → S m r ≡ Some n → 1 ≤ n
  some zero r n h = absurd cc
  some (suc i) r n h = some_at (slice_get ls i) refl
    where
      some_at : (q : Option Layouts) → slice_get ls i ≡ q → 1 ≤ n
      some_at None e = absurd (let bad : sizes_by None r ≡ Some n = ap (λ (z : Option Layouts). sizes_by z r) (sym e) ∙ h in none_bad bad)
        where
          none_bad : sizes_by None r ≡ Some n → ⊥
          none_bad e = cc
      some_at (Some l) e = let less = slice_get_within ls i l e in let p = there_is ps i (omega arith) in some_of (suc i) p.0 r n p.1 h

  has_record : (records : List RecordDef) (r s : ℕ) → Contains records r s → (d : RecordDef) × (slice_get records r ≡ Some d)
  has_record records r s (directly h) = there (slice_get records r) h
    where
      there : (o : Option RecordDef) → HaveOne (fields_in o) s → (d : RecordDef) × (o ≡ Some d)
      there None h = absurd h
      there (Some d) h = (d, refl)
  has_record records r s (through {s = x} c h) = has_record records r x c

  no_ring : (m r : ℕ) (p : ModuleParts) → module_of ps m ≡ Some p → Contains p.modes.records r r → ⊥
  no_ring m r p e c =
      let k = known m p e in
      let d = has_record p.modes.records r r c in
      told.no_rings p.modes.records k.layouts.sizes k.is.right.sizes.each k.is.right.sizes.right r d.0 d.1 c

  pub has_sizes : HasSizes ps S
  has_sizes = record {
    records = are_sizes;
    some = some;
    no_ring = no_ring;
    items = λ m b p d fs ss has here is. (let n = ends m b p d fs ss has here is in (n.0, tells_end m p fs n.0 has.of n.1));
  }

  -- ---- the data

  pub brick_data_is : (m b n : ℕ) (h : IsBrick ps S m b n) → (k : Known m h.parts) → ItsData k.layouts h.parts k.object b h.fields h.starts
  brick_data_is m b n h k = its_data k.layouts h.parts k.object b h.brick h.fields h.starts k.is.object.bricks h.has.at h.here h.sort

  brick_has : (m b n : ℕ) → IsBrick ps S m b n → HasData os m b n
  brick_has m b n h =
      let k = known m h.parts h.has.of in
      let d = brick_data_is m b n h k in
      let end = ends m b h.parts h.brick h.fields h.starts h.has h.here h.sort in
      let equals : n ≡ end.0 = some_is n end.0 (sym h.ends ∙ tells_end m h.parts h.fields end.0 h.has.of end.1) in
      let long : length (data_of k.layouts (scope_of h.parts) h.fields h.starts).bytes ≡ even end.0 = counted k.layouts m b h.parts h.brick h.fields h.starts end.0 h.has h.here h.sort end.1 in
      let bytes : data_bytes d.its ≡ even (length (data_of k.layouts (scope_of h.parts) h.fields h.starts).bytes) = ap data_in d.holds in
      let more = even_more (length (data_of k.layouts (scope_of h.parts) h.fields h.starts).bytes) in
      record { object = k.object; its = d.its; of = k.its; at = d.at; bytes = omega arith }

  pub text_at : (m i : ℕ) (p : ModuleParts) (s : List ℕ) (k : Known m p) → slice_get p.strings i ≡ Some s → slice_get k.object.strings i ≡ Some s
  text_at m i p s k e = ap (λ (z : List (List ℕ)). slice_get z i) k.is.object.strings ∙ e

  text_has : (m i n : ℕ) → IsText ps S m i n → HasString os m i n
  text_has m i n h =
      let k = known m h.parts h.of in
      let bytes : n ≡ even (2 + length h.text) = h.bytes in
      record { object = k.object; text = h.text; of = k.its; at = text_at m i h.parts h.text k h.at; bytes = omega arith }

  pub have_data : HaveData ps S os
  have_data = record { bricks = brick_has; texts = text_has }
