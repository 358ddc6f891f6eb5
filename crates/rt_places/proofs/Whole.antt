-- Places of a system lie in its data, apart, and one to one.
use Rattle.std.proofs.Common.{◌≡◌, ◌≢◌, ◌⊎◌, inl, inr, ℕ, ◌+◌, ◌%◌, ◌<◌, ◌≤◌, List, [], ◌∷◌, length, Option, Some, slice_get, sym, ap, ◌∙◌, subst, arith}
use Rattle.rt_modes.specs.declared.mode.Field.{Field}
use Rattle.rt_modes.specs.declared.mode.Mode.{Mode, out-Mode}
use Rattle.rt_modes.specs.declared.mode.Mode.TheOpen.{Mode-F}
use Rattle.rt_modes.specs.declared.mode.ModeTable.{ModeTable}
use Rattle.rt_tree_nodes.specs.declared.brick.Brick.{Brick}
use Rattle.rt_tree_nodes.specs.declared.brick.ModuleParts.{ModuleParts}
use Rattle.rt_tree_nodes.specs.declared.store.Location.{Location}
use Rattle.rt_tree_nodes.specs.declared.store.Location.TheVariants.{Shared}
use Rattle.rt_tree_nodes.specs.declared.store.Origin.{Origin}
use Rattle.rt_tree_nodes.specs.declared.store.Origin.TheVariants as origin
use Rattle.rt_tree.specs.Stored.{System, module_of, text_mode}
use Rattle.rt_sizes.specs.Sizes.{even, size, offset}
use Rattle.rt_sizes.proofs.Layers.{some_is}
use Rattle.rt_places.specs.Places.{room_by, Apart, Leads}
use Rattle.rt_places.specs.Systems.{fields_by, IsBrick, IsText, HasSizes, address, AreBases}
use Rattle.rt_places.proofs.Fields.{ends_before, is_sized}
use Rattle.rt_places.proofs.Parts.{room_fits, room_two, size_some}
use Rattle.rt_places.proofs.Paths.{less, same, more, order, inside, moved, apart}
use Rattle.rt_places.proofs.Rings.{one_place}
use Rattle.rt_places.proofs.Standing.{lists_same, origins_same, text_size, InBrick, InText, Stands, Place, place, place_by}

module _ (ps : System) (S : ℕ → ℕ → Option ℕ) (sized : HasSizes ps S) where
  -- ---- one brick, one string

  one_brick : (m b n k : ℕ) (x : IsBrick ps S m b n) (y : IsBrick ps S m b k) → (x.parts ≡ y.parts) × (x.fields ≡ y.fields)
  one_brick m b n k x y =
      let parts : x.parts ≡ y.parts = some_is x.parts y.parts (sym x.has.of ∙ y.has.of) in
      let bricks : x.brick ≡ y.brick = some_is x.brick y.brick (sym x.has.at ∙ ap (λ (p : ModuleParts). slice_get p.bricks b) parts ∙ y.has.at) in
      (parts, ap fields_by (sym x.sort) ∙ ap (λ (d : Brick). fields_by d.sort) bricks ∙ ap fields_by y.sort)

  one_text : (m b n k : ℕ) (x : IsText ps S m b n) (y : IsText ps S m b k) → (x.parts ≡ y.parts) × (x.text ≡ y.text)
  one_text m b n k x y =
      let parts : x.parts ≡ y.parts = some_is x.parts y.parts (sym x.of ∙ y.of) in
      (parts, some_is x.text y.text (sym x.at ∙ ap (λ (p : ModuleParts). slice_get p.strings b) parts ∙ y.at))

  -- how much a field has behind a part of it
  record Ends (m b j : ℕ) (path : List ℕ) (t : ModeTable) (w : Mode) (o : ℕ) (h : InBrick ps S sized m b j path t w o) : Type 0 where
    pub bytes : ℕ
    pub size_is : size (S m) h.field.mode ≡ Some bytes
    pub room : h.more + room_by (out-Mode w) ≤ bytes
    pub some : h.more + 1 ≤ bytes

  ends : (m b j : ℕ) (path : List ℕ) (t : ModeTable) (w : Mode) (o : ℕ) (h : InBrick ps S sized m b j path t w o) → Place ps S sized (Shared (origin.Brick m b) (j ∷ path)) t w → Ends m b j path t w o h
  ends m b j path t w o h p =
      let sizes = sized.records m h.room.parts h.room.has.of in
      let field = is_sized (S m) h.room.fields j 0 h.total h.field h.room.ends h.at in
      let deep = inside h.room.parts.modes.records (S m) sizes path h.field.mode w h.more field.0 h.leads field.1 in
      let bound : h.more + deep.bytes ≤ field.0 = deep.inside in
      let room : room_by (out-Mode w) ≤ deep.bytes = room_fits h.room.parts.modes.records (S m) sizes w deep.bytes deep.sized in
      let some : 1 ≤ deep.bytes = size_some h.room.parts.modes.records (S m) sizes (sized.some m) w deep.bytes deep.sized in
      record { bytes = field.0; size_is = field.1; room = omega arith; some = omega arith }

  -- ---- apart in one brick

  record Both (m b j i : ℕ) (p q : List ℕ) (t u : ModeTable) (v w : Mode) (x y : ℕ) : Type 0 where
    pub one : InBrick ps S sized m b j p t v x
    pub two : InBrick ps S sized m b i q u w y
    pub first : Ends m b j p t v x one
    pub second : Ends m b i q u w y two

  turned_both : (m b j i : ℕ) (p q : List ℕ) (t u : ModeTable) (v w : Mode) (x y : ℕ) → Both m b j i p q t u v w x y → Both m b i j q p u t w v y x
  turned_both m b j i p q t u v w x y h = record { one = h.two; two = h.one; first = h.second; second = h.first }

  -- a part of an earlier item ends before a part of a later one begins
  earlier : (m b j i : ℕ) (p q : List ℕ) (t u : ModeTable) (v w : Mode) (x y : ℕ) → Both m b j i p q t u v w x y → j < i → (x + room_by (out-Mode v) ≤ y) × (x < y)
  earlier m b j i p q t u v w x y h l =
      let same = one_brick m b h.one.total h.two.total h.one.room h.two.room in
      let place : offset (S m) h.one.room.fields i ≡ Some h.two.begin = ap (λ (z : List Field). offset (S m) z i) same.1 ∙ h.two.begins in
      let before : h.one.begin + h.first.bytes ≤ h.two.begin = ends_before (S m) h.one.room.fields j i 0 h.one.begin h.two.begin h.first.bytes h.one.field l h.one.begins h.one.at h.first.size_is place in
      let room : h.one.more + room_by (out-Mode v) ≤ h.first.bytes = h.first.room in
      let some : h.one.more + 1 ≤ h.first.bytes = h.first.some in
      let is : x ≡ h.one.begin + h.one.more = h.one.is in
      let are : y ≡ h.two.begin + h.two.more = h.two.is in
      (omega arith, omega arith)

  -- two parts of one item
  record Item (m b j : ℕ) (p q : List ℕ) (v w : Mode) (x y : ℕ) : Type 0 where
    pub parts : ModuleParts
    pub of : module_of ps m ≡ Some parts
    pub mode : Mode
    pub bytes : ℕ
    pub size_is : size (S m) mode ≡ Some bytes
    pub begin : ℕ
    pub a : ℕ
    pub c : ℕ
    pub left : Leads parts.modes.records (S m) p mode v a
    pub right : Leads parts.modes.records (S m) q mode w c
    pub is : x ≡ begin + a
    pub are : y ≡ begin + c

  one_item : (m b j : ℕ) (p q : List ℕ) (t u : ModeTable) (v w : Mode) (x y : ℕ) → Both m b j j p q t u v w x y → Item m b j p q v w x y
  one_item m b j p q t u v w x y h =
      let same = one_brick m b h.one.total h.two.total h.one.room h.two.room in
      let fields : h.two.field ≡ h.one.field = some_is h.two.field h.one.field (sym h.two.at ∙ ap (λ (z : List Field). slice_get z j) (sym same.1) ∙ h.one.at) in
      let begins : h.two.begin ≡ h.one.begin = some_is h.two.begin h.one.begin (sym h.two.begins ∙ ap (λ (z : List Field). offset (S m) z j) (sym same.1) ∙ h.one.begins) in
      let first : Leads h.one.room.parts.modes.records (S m) q h.two.field.mode w h.two.more = subst (λ (z : ModuleParts). Leads z.modes.records (S m) q h.two.field.mode w h.two.more) (sym same.0) h.two.leads in
      let second : Leads h.one.room.parts.modes.records (S m) q h.one.field.mode w h.two.more = subst (λ (z : Field). Leads h.one.room.parts.modes.records (S m) q z.mode w h.two.more) fields first in
      let are : y ≡ h.two.begin + h.two.more = h.two.is in
      record {
        parts = h.one.room.parts;
        of = h.one.room.has.of;
        mode = h.one.field.mode;
        bytes = h.first.bytes;
        size_is = h.first.size_is;
        begin = h.one.begin;
        a = h.one.more;
        c = h.two.more;
        left = h.one.leads;
        right = second;
        is = h.one.is;
        are = omega arith;
      }

  in_item : (m b j : ℕ) (p q : List ℕ) (v w : Mode) (x y : ℕ) → Item m b j p q v w x y → p ≢ q → Apart x (room_by (out-Mode v)) y (room_by (out-Mode w))
  in_item m b j p q v w x y h diff =
      let deep = apart h.parts.modes.records (S m) (sized.records m h.parts h.of) p q h.mode v w h.a h.c h.bytes h.size_is h.left h.right diff in
      moved h.parts.modes.records (S m) (sized.records m h.parts h.of) h.begin h.a (room_by (out-Mode v)) h.c (room_by (out-Mode w)) x y h.is h.are deep

  same_item : (m b j : ℕ) (p q : List ℕ) (v w : Mode) (x : ℕ) → Item m b j p q v w x x → v ≡ w → p ≡ q
  same_item m b j p q v w x h e =
      let is : x ≡ h.begin + h.a = h.is in
      let are : x ≡ h.begin + h.c = h.are in
      let equal : h.c ≡ h.a = omega arith in
      let right : Leads h.parts.modes.records (S m) q h.mode v h.a = subst (λ (z : Mode). Leads h.parts.modes.records (S m) q h.mode z h.a) (sym e) (subst (λ (z : ℕ). Leads h.parts.modes.records (S m) q h.mode w z) equal h.right) in
      let sizes = sized.records m h.parts h.of in
      one_place h.parts.modes.records (S m) sizes (λ r c. sized.no_ring m r h.parts h.of c) (λ d n z. size_some h.parts.modes.records (S m) sizes (sized.some m) d n z) p q h.mode v h.a h.bytes h.size_is h.left right

  brick_apart : (m b j i : ℕ) (p q : List ℕ) (t u : ModeTable) (v w : Mode) (x y : ℕ) → Both m b j i p q t u v w x y → (j ∷ p) ≢ (i ∷ q) → Apart x (room_by (out-Mode v)) y (room_by (out-Mode w))
  brick_apart m b j i p q t u v w x y h diff =
      elim (order j i) [
        | less l ↦ inl ((earlier m b j i p q t u v w x y h l).0)
        | more l ↦ inr ((earlier m b i j q p u t w v y x (turned_both m b j i p q t u v w x y h) l).0)
        | same s ↦ in_item m b j p q v w x y (one_item m b j p q t u v w x y (subst (λ (z : ℕ). Both m b j z p q t u v w x y) (sym s) h)) (λ e. diff cc)
      ]

  brick_one : (m b j i : ℕ) (p q : List ℕ) (t u : ModeTable) (v w : Mode) (x : ℕ) → Both m b j i p q t u v w x x → v ≡ w → (j ∷ p) ≡ (i ∷ q)
  brick_one m b j i p q t u v w x h e =
      elim (order j i) [
        | less l ↦ absurd (let bad : x < x = (earlier m b j i p q t u v w x x h l).1 in omega arith)
        | more l ↦ absurd (let bad : x < x = (earlier m b i j q p u t w v x x (turned_both m b j i p q t u v w x x h) l).1 in omega arith)
        | same s ↦ let deep = same_item m b j p q v w x (one_item m b j p q t u v w x x (subst (λ (z : ℕ). Both m b j z p q t u v w x x) (sym s) h)) e in cc
      ]

  -- ---- in one string

  text_leads : (m k : ℕ) (q : List ℕ) (t u : ModeTable) (v w : Mode) (p : List ℕ) (x y : ℕ) (one : InText ps S sized m k p t v x) (two : InText ps S sized m k q u w y) → Leads one.room.parts.modes.records (S m) q (text_mode one.room.text) w y
  text_leads m k q t u v w p x y one two =
      let same = one_text m k one.total two.total one.room two.room in
      subst (λ (z : List ℕ). Leads one.room.parts.modes.records (S m) q (text_mode z) w y) (sym same.1) (subst (λ (z : ModuleParts). Leads z.modes.records (S m) q (text_mode two.room.text) w y) (sym same.0) two.leads)

  text_apart : (m k : ℕ) (p q : List ℕ) (t u : ModeTable) (v w : Mode) (x y : ℕ) → InText ps S sized m k p t v x → InText ps S sized m k q u w y → p ≢ q → Apart x (room_by (out-Mode v)) y (room_by (out-Mode w))
  text_apart m k p q t u v w x y one two diff =
      let right = text_leads m k q t u v w p x y one two in
      apart one.room.parts.modes.records (S m) (sized.records m one.room.parts one.room.of) p q (text_mode one.room.text) v w x y (even (2 + length one.room.text)) (text_size ps S sized m one.room.text) one.leads right diff

  text_one : (m k : ℕ) (p q : List ℕ) (t u : ModeTable) (v w : Mode) (x : ℕ) → InText ps S sized m k p t v x → InText ps S sized m k q u w x → v ≡ w → p ≡ q
  text_one m k p q t u v w x one two e =
      let right = text_leads m k q t u v w p x x one two in
      let sizes = sized.records m one.room.parts one.room.of in
      one_place one.room.parts.modes.records (S m) sizes (λ r c. sized.no_ring m r one.room.parts one.room.of c) (λ d n z. size_some one.room.parts.modes.records (S m) sizes (sized.some m) d n z) p q (text_mode one.room.text) v x (even (2 + length one.room.text)) (text_size ps S sized m one.room.text) one.leads
      (subst (λ (z : Mode). Leads one.room.parts.modes.records (S m) q (text_mode one.room.text) z x) (sym e) right)

  -- ---- in one origin

  there : (o : Origin) (p : List ℕ) (t : ModeTable) (v : Mode) (x : ℕ) → Stands ps S sized (Shared o p) t v x → Place ps S sized (Shared o p) t v
  there o p t v x h = place_by ps S sized (Shared o p) t v x h

  pub origin_apart : (o : Origin) (p q : List ℕ) (t u : ModeTable) (v w : Mode) (x y : ℕ) → Stands ps S sized (Shared o p) t v x → Stands ps S sized (Shared o q) u w y → p ≢ q → Apart x (room_by (out-Mode v)) y (room_by (out-Mode w))
  origin_apart (origin.Brick m b) [] q t u v w x y h i diff = absurd h
  origin_apart (origin.Brick m b) (j ∷ p) [] t u v w x y h i diff = absurd i
  origin_apart (origin.Brick m b) (j ∷ p) (k ∷ q) t u v w x y h i diff =
      brick_apart m b j k p q t u v w x y (record { one = h; two = i; first = ends m b j p t v x h (there (origin.Brick m b) (j ∷ p) t v x h); second = ends m b k q u w y i (there (origin.Brick m b) (k ∷ q) u w y i) }) diff
  origin_apart (origin.Text m k) p q t u v w x y h i diff = text_apart m k p q t u v w x y h i diff

  pub origin_one : (o : Origin) (p q : List ℕ) (t u : ModeTable) (v w : Mode) (x : ℕ) → Stands ps S sized (Shared o p) t v x → Stands ps S sized (Shared o q) u w x → v ≡ w → p ≡ q
  origin_one (origin.Brick m b) [] q t u v w x h i e = absurd h
  origin_one (origin.Brick m b) (j ∷ p) [] t u v w x h i e = absurd i
  origin_one (origin.Brick m b) (j ∷ p) (k ∷ q) t u v w x h i e =
      brick_one m b j k p q t u v w x (record { one = h; two = i; first = ends m b j p t v x h (there (origin.Brick m b) (j ∷ p) t v x h); second = ends m b k q u w x i (there (origin.Brick m b) (k ∷ q) u w x i) }) e
  origin_one (origin.Text m k) p q t u v w x h i e = text_one m k p q t u v w x h i e

  -- and of one table
  origin_table : (o : Origin) (p q : List ℕ) (t u : ModeTable) (v w : Mode) (x y : ℕ) → Stands ps S sized (Shared o p) t v x → Stands ps S sized (Shared o q) u w y → t ≡ u
  origin_table (origin.Brick m b) [] q t u v w x y h i = absurd h
  origin_table (origin.Brick m b) (j ∷ p) [] t u v w x y h i = absurd i
  origin_table (origin.Brick m b) (j ∷ p) (k ∷ q) t u v w x y h i = h.table ∙ ap (λ (z : ModuleParts). z.modes) ((one_brick m b h.total i.total h.room i.room).0) ∙ sym i.table
  origin_table (origin.Text m k) p q t u v w x y h i = h.table ∙ ap (λ (z : ModuleParts). z.modes) ((one_text m k h.total i.total h.room i.room).0) ∙ sym i.table

  -- ---- the addresses

  module _ (base : Origin → ℕ) (from to : ℕ) (bases : AreBases ps S base from to) where
    abbrev pub at : Location → ℕ
    at l = address ps S base l

    abbrev pub PlaceOf : Location → ModeTable → Mode → Type 0
    PlaceOf l t w = Place ps S sized l t w

    pub lies_at : (l : Location) (t : ModeTable) (w : Mode) (p : PlaceOf l t w) → at l ≡ base p.origin + p.at
    lies_at l t w p = ap at p.is ∙ ap (λ (x : ℕ). base p.origin + x) p.offset

    -- it lies in the data
    pub above : (l : Location) (t : ModeTable) (w : Mode) → PlaceOf l t w → from ≤ at l
    above l t w p = let e = lies_at l t w p in let h = bases.above p.origin p.total p.room in omega arith

    pub below : (l : Location) (t : ModeTable) (w : Mode) (p : PlaceOf l t w) → at l + p.bytes ≤ to
    below l t w p =
        let e = lies_at l t w p in
        let h = bases.below p.origin p.total p.room in
        let i : p.at + p.bytes ≤ p.total = p.inside in omega arith

    pub evenly_at : (l : Location) (t : ModeTable) (w : Mode) → PlaceOf l t w → (out-Mode w ≡ Mode-F.Byte → ⊥) → at l % 2 ≡ 0
    evenly_at l t w p isnt =
        let e = lies_at l t w p in
        let h = bases.even_base p.origin p.total p.room in
        let i : p.at % 2 ≡ 0 = p.evenly isnt in omega arith

    pub word_below : (l : Location) (t : ModeTable) (w : Mode) → PlaceOf l t w → (out-Mode w ≡ Mode-F.Byte → ⊥) → ((r : ℕ) → out-Mode w ≡ Mode-F.Record r → ⊥) → at l + 1 < to
    word_below l t w p isnt nor =
        let h = below l t w p in
        let two = room_two (out-Mode w) isnt nor in
        let i : room_by (out-Mode w) ≤ p.bytes = p.room_in in omega arith

    pub byte_below : (l : Location) (t : ModeTable) (w : Mode) → PlaceOf l t w → at l < to
    byte_below l t w p = let h = below l t w p in let i : 1 ≤ p.bytes = p.some in omega arith

    -- two places, one or apart
    far : (l k : Location) (t u : ModeTable) (v w : Mode) (p : PlaceOf l t v) (q : PlaceOf k u w) → p.origin ≢ q.origin → (at l + p.bytes ≤ at k) ⊎ (at k + q.bytes ≤ at l)
    far l k t u v w p q diff =
        let e = lies_at l t v p in
        let f = lies_at k u w q in
        let i : p.at + p.bytes ≤ p.total = p.inside in
        let j : q.at + q.bytes ≤ q.total = q.inside in
        elim (bases.apart p.origin q.origin p.total q.total p.room q.room diff) [ inl h ↦ inl (omega arith) | inr h ↦ inr (omega arith) ]

    roomy : (l k : Location) (t u : ModeTable) (v w : Mode) (p : PlaceOf l t v) (q : PlaceOf k u w) → (at l + p.bytes ≤ at k) ⊎ (at k + q.bytes ≤ at l) → Apart (at l) (room_by (out-Mode v)) (at k) (room_by (out-Mode w))
    roomy l k t u v w p q (inl h) = let i : room_by (out-Mode v) ≤ p.bytes = p.room_in in inl (omega arith)
    roomy l k t u v w p q (inr h) = let i : room_by (out-Mode w) ≤ q.bytes = q.room_in in inr (omega arith)

    at_same : (l k : Location) (t u : ModeTable) (v w : Mode) (p : PlaceOf l t v) (q : PlaceOf k u w) → p.origin ≡ q.origin → Stands ps S sized (Shared p.origin q.path) u w q.at
    at_same l k t u v w p q e = subst (λ (o : Origin). Stands ps S sized (Shared o q.path) u w q.at) (sym e) q.stands

    near : (l k : Location) (t u : ModeTable) (v w : Mode) (p : PlaceOf l t v) (q : PlaceOf k u w) → p.origin ≡ q.origin → (p.path ≡ q.path) ⊎ (p.path ≢ q.path) → (l ≡ k) ⊎ Apart (at l) (room_by (out-Mode v)) (at k) (room_by (out-Mode w))
    near l k t u v w p q e (inl s) = inl (p.is ∙ ap (λ (o : Origin). Shared o p.path) e ∙ ap (λ (x : List ℕ). Shared q.origin x) s ∙ sym q.is)
    near l k t u v w p q e (inr d) =
        let deep = origin_apart p.origin p.path q.path t u v w p.at q.at p.stands (at_same l k t u v w p q e) d in
        let one = lies_at l t v p in
        let two : at k ≡ base p.origin + q.at = lies_at k u w q ∙ ap (λ (o : Origin). base o + q.at) (sym e) in
        inr (elim deep [ inl h ↦ inl (omega arith) | inr h ↦ inr (omega arith) ])

    pub all_apart : (l k : Location) (t u : ModeTable) (v w : Mode) → PlaceOf l t v → PlaceOf k u w → (l ≡ k) ⊎ Apart (at l) (room_by (out-Mode v)) (at k) (room_by (out-Mode w))
    all_apart l k t u v w p q =
        elim (origins_same p.origin q.origin) [
          | inl e ↦ near l k t u v w p q e (lists_same p.path q.path)
          | inr d ↦ inr (roomy l k t u v w p q (far l k t u v w p q d))
        ]

    one_near : (l k : Location) (t u : ModeTable) (v w : Mode) (p : PlaceOf l t v) (q : PlaceOf k u w) → p.origin ≡ q.origin → (t ≡ u → v ≡ w) → at l ≡ at k → l ≡ k
    one_near l k t u v w p q e h equals =
        let other = at_same l k t u v w p q e in
        let table = origin_table p.origin p.path q.path t u v w p.at q.at p.stands other in
        let one = lies_at l t v p in
        let two : at k ≡ base p.origin + q.at = lies_at k u w q ∙ ap (λ (o : Origin). base o + q.at) (sym e) in
        let equal : q.at ≡ p.at = omega arith in
        let paths = origin_one p.origin p.path q.path t u v w p.at p.stands (subst (λ (x : ℕ). Stands ps S sized (Shared p.origin q.path) u w x) equal other) (h table) in
        p.is ∙ ap (λ (o : Origin). Shared o p.path) e ∙ ap (λ (x : List ℕ). Shared q.origin x) paths ∙ sym q.is

    never_far : (l k : Location) (t u : ModeTable) (v w : Mode) (p : PlaceOf l t v) (q : PlaceOf k u w) → at l ≡ at k → (at l + p.bytes ≤ at k) ⊎ (at k + q.bytes ≤ at l) → ⊥
    never_far l k t u v w p q equals (inl h) = let i : 1 ≤ p.bytes = p.some in omega arith
    never_far l k t u v w p q equals (inr h) = let i : 1 ≤ q.bytes = q.some in omega arith

    -- two places of one mode, where they are of one table, at one address are one
    pub all_one : (l k : Location) (t u : ModeTable) (v w : Mode) → PlaceOf l t v → PlaceOf k u w → (t ≡ u → v ≡ w) → at l ≡ at k → l ≡ k
    all_one l k t u v w p q h equals =
        elim (origins_same p.origin q.origin) [
          | inl e ↦ one_near l k t u v w p q e h equals
          | inr d ↦ absurd (never_far l k t u v w p q equals (far l k t u v w p q d))
        ]
