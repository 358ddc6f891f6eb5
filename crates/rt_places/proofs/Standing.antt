-- Where places of a system lie.
use Rattle.std.proofs.Common.{◌≡◌, ◌≢◌, ◌⊎◌, inl, inr, ℕ, ◌+◌, ◌*◌, ◌%◌, ◌≤◌, List, [], ◌∷◌, length, Option, Some, option_map, slice_get, refl, sym, ap, ◌∙◌, subst, arith}
use Rattle.rt_modes.specs.declared.mode.Field.{Field}
use Rattle.rt_modes.specs.declared.mode.Mode.{Mode, out-Mode, the_lemmas}
use Rattle.rt_modes.specs.declared.mode.Mode.TheOpen.{Mode-F}
use Rattle.rt_modes.specs.declared.mode.Mode.TheVariants as mode
use Rattle.rt_modes.specs.declared.mode.ModeTable.{ModeTable}
use Rattle.rt_modes.specs.declared.mode.RecordDef.{RecordDef}
use Rattle.rt_tree_nodes.specs.declared.brick.Brick.{Brick}
use Rattle.rt_tree_nodes.specs.declared.brick.BrickSort.TheVariants as sort
use Rattle.rt_tree_nodes.specs.declared.brick.DataStart.{DataStart}
use Rattle.rt_tree_nodes.specs.declared.brick.ModuleParts.{ModuleParts}
use Rattle.rt_tree_nodes.specs.declared.store.Location.{Location}
use Rattle.rt_tree_nodes.specs.declared.store.Location.TheVariants.{Shared, Own}
use Rattle.rt_tree_nodes.specs.declared.store.Origin.{Origin}
use Rattle.rt_tree_nodes.specs.declared.store.Origin.TheVariants as origin
use Rattle.rt_tree.specs.Stored.{System, module_of, text_mode, StandsAt, in_brick, in_text}
use Rattle.rt_sizes.specs.Sizes.{even, size, offset}
use Rattle.rt_sizes.proofs.Layers.{size_at}
use Rattle.rt_places.specs.Places.{room_by, Leads}
use Rattle.rt_places.specs.Along.{number, by, mode_of, reach}
use Rattle.rt_places.specs.Systems.{records_in, brick_in, string_in, fields_by, items_in, module_in, items, offset_at, IsBrick, IsText, HasRoom, HasSizes}
use Rattle.rt_places.proofs.Fields.{ends_within, is_sized, has_place, is_even}
use Rattle.rt_places.proofs.Parts.{room_fits, size_some}
use Rattle.rt_places.proofs.Paths.{less, same, more, order, inside, evenly, part_is_no_byte}
use Rattle.rt_places.proofs.Along.{field_left, leads, reached}

data_is : (fs gs : List Field) (ss ts : List DataStart) → sort.Data fs ss ≡ sort.Data gs ts → fs ≡ gs
data_is fs gs ss ts e = cc

pub lists_same : (p q : List ℕ) → (p ≡ q) ⊎ (p ≢ q)
lists_same [] [] = inl refl
lists_same [] (j ∷ q) = inr (λ e. cc)
lists_same (k ∷ p) [] = inr (λ e. cc)
lists_same (k ∷ p) (j ∷ q) = elim (order k j) [
  | less l ↦ inr (λ e. let h : k ≡ j = cc in omega arith)
  | more l ↦ inr (λ e. let h : k ≡ j = cc in omega arith)
  | same s ↦ elim (lists_same p q) [ inl h ↦ inl cc | inr h ↦ inr (λ e. h cc) ]
]

numbers_same : (k j : ℕ) → (k ≡ j) ⊎ (k ≢ j)
numbers_same k j = elim (order k j) [ less l ↦ inr (λ e. omega arith) | same s ↦ inl s | more l ↦ inr (λ e. omega arith) ]

brick_pairs : (m b n c : ℕ) → (m ≡ n) ⊎ (m ≢ n) → (b ≡ c) ⊎ (b ≢ c) → (origin.Brick m b ≡ origin.Brick n c) ⊎ (origin.Brick m b ≢ origin.Brick n c)
brick_pairs m b n c (inl x) (inl y) = inl cc
brick_pairs m b n c (inr x) y = inr (λ e. x cc)
brick_pairs m b n c (inl x) (inr y) = inr (λ e. y cc)

text_pairs : (m b n c : ℕ) → (m ≡ n) ⊎ (m ≢ n) → (b ≡ c) ⊎ (b ≢ c) → (origin.Text m b ≡ origin.Text n c) ⊎ (origin.Text m b ≢ origin.Text n c)
text_pairs m b n c (inl x) (inl y) = inl cc
text_pairs m b n c (inr x) y = inr (λ e. x cc)
text_pairs m b n c (inl x) (inr y) = inr (λ e. y cc)

pub origins_same : (o p : Origin) → (o ≡ p) ⊎ (o ≢ p)
origins_same (origin.Brick m b) (origin.Brick n c) = brick_pairs m b n c (numbers_same m n) (numbers_same b c)
origins_same (origin.Brick m b) (origin.Text n c) = inr (λ e. cc)
origins_same (origin.Text m b) (origin.Brick n c) = inr (λ e. cc)
origins_same (origin.Text m b) (origin.Text n c) = text_pairs m b n c (numbers_same m n) (numbers_same b c)

module _ (ps : System) (S : ℕ → ℕ → Option ℕ) (sized : HasSizes ps S) where
  -- ---- what stands somewhere has a place in its brick or string

  pub record InBrick (m b j : ℕ) (path : List ℕ) (t : ModeTable) (w : Mode) (o : ℕ) : Type 0 where
    pub total : ℕ
    pub room : IsBrick ps S m b total
    pub field : Field
    pub begin : ℕ
    pub more : ℕ
    pub at : slice_get room.fields j ≡ Some field
    pub begins : offset (S m) room.fields j ≡ Some begin
    pub leads : Leads room.parts.modes.records (S m) path field.mode w more
    pub is : o ≡ begin + more
    pub table : t ≡ room.parts.modes

  pub record InText (m k : ℕ) (path : List ℕ) (t : ModeTable) (w : Mode) (o : ℕ) : Type 0 where
    pub total : ℕ
    pub room : IsText ps S m k total
    pub leads : Leads room.parts.modes.records (S m) path (text_mode room.text) w o
    pub table : t ≡ room.parts.modes

  abbrev pub Stands : Location → ModeTable → Mode → ℕ → Type 0
  Stands (Shared (origin.Brick m b) []) t w o = ⊥
  Stands (Shared (origin.Brick m b) (j ∷ path)) t w o = InBrick m b j path t w o
  Stands (Shared (origin.Text m k) path) t w o = InText m k path t w o
  Stands (Own k) t w o = ⊥

  byte_size : (m : ℕ) → size (S m) mode.Byte ≡ Some 1
  byte_size m = size_at (S m) mode.Byte Mode-F.Byte (search the_lemmas)

  pub text_size : (m : ℕ) (s : List ℕ) → size (S m) (text_mode s) ≡ Some (even (2 + length s))
  text_size m s =
      let at = size_at (S m) (text_mode s) (Mode-F.Array (length s) mode.Byte) (search the_lemmas) in
      let inner : option_map (λ x. even (2 + length s * x)) (size (S m) mode.Byte) ≡ Some (even (2 + length s * 1)) = ap (option_map (λ x. even (2 + length s * x))) (byte_size m) in
      let product : length s * 1 ≡ length s = omega arith in
      at ∙ inner ∙ ap (λ (x : ℕ). Some (even (2 + x))) product

  pub stands : (l : Location) (t : ModeTable) (w : Mode) → StandsAt ps l t w → (o : ℕ) × Stands l t w o
  stands l t w (in_brick {m = m} {b = b} {j = j} {path = path} {p = p} {d = d} {fs = fs} {ss = ss} {v = v} has here sort_is at along) =
      let end = sized.items m b p d fs ss has here sort_is in
      let field = field_left (slice_get fs j) v at in
      let place = has_place (S m) fs j 0 end.0 field.0 end.1 field.1 in
      let bytes = is_sized (S m) fs j 0 end.0 field.0 end.1 field.1 in
      let size : size (S m) v ≡ Some bytes.0 = ap (size (S m)) (sym field.2) ∙ bytes.1 in
      let to = leads p.modes.records (S m) (sized.records m p has.of) path v w bytes.0 along size in
      let room : IsBrick ps S m b end.0 = record { parts = p; brick = d; fields = fs; starts = ss; has = has; here = here; sort = sort_is; ends = end.1 } in
      (place.0 + to.0, record { total = end.0; room = room; field = field.0; begin = place.0; more = to.0; at = field.1; begins = place.1; leads = subst (λ (x : Mode). Leads p.modes.records (S m) path x w to.0) (sym field.2) to.1; is = refl; table = refl })
  stands l t w (in_text {m = m} {k = k} {path = path} {p = p} {s = s} of at along) =
      let to = leads p.modes.records (S m) (sized.records m p of) path (text_mode s) w (even (2 + length s)) along (text_size m s) in
      let room : IsText ps S m k (even (2 + length s)) = record { parts = p; text = s; of = of; at = at; bytes = refl } in
      (to.0, record { total = even (2 + length s); room = room; leads = to.1; table = refl })

  -- ---- the function tells where

  brick_items : (m b n : ℕ) (h : IsBrick ps S m b n) → items ps S m b ≡ h.fields
  brick_items m b n h =
      ap (λ (x : Option ModuleParts). items_in (brick_in x b)) h.has.of ∙ ap items_in h.has.at ∙ ap fields_by h.sort

  pub brick_offset : (m b j : ℕ) (path : List ℕ) (t : ModeTable) (w : Mode) (o : ℕ) → InBrick m b j path t w o → offset_at ps S (origin.Brick m b) (j ∷ path) ≡ o
  brick_offset m b j path t w o h =
      let fields = brick_items m b h.total h.room in
      let first : number (offset (S m) (items ps S m b) j) ≡ h.begin = ap (λ (x : List Field). number (offset (S m) x j)) fields ∙ ap number h.begins in
      let mode : mode_of (slice_get (items ps S m b) j) ≡ Some h.field.mode = ap (λ (x : List Field). mode_of (slice_get x j)) fields ∙ ap mode_of h.at in
      let records : records_in (module_of ps m) ≡ h.room.parts.modes.records = ap records_in h.room.has.of in
      let deep : reach h.room.parts.modes.records (S m) path h.field.mode ≡ h.more = reached h.room.parts.modes.records (S m) (sized.records m h.room.parts h.room.has.of) path h.field.mode w h.more h.leads in
      let second : by (reach (records_in (module_of ps m)) (S m) path) (mode_of (slice_get (items ps S m b) j)) ≡ h.more =
      ap (by (reach (records_in (module_of ps m)) (S m) path)) mode ∙ ap (λ (x : List RecordDef). reach x (S m) path h.field.mode) records ∙ deep in
      let is : o ≡ h.begin + h.more = h.is in omega arith

  pub text_offset : (m k : ℕ) (path : List ℕ) (t : ModeTable) (w : Mode) (o : ℕ) → InText m k path t w o → offset_at ps S (origin.Text m k) path ≡ o
  text_offset m k path t w o h =
      let string : string_in (module_of ps m) k ≡ Some h.room.text = ap (λ (x : Option ModuleParts). string_in x k) h.room.of ∙ h.room.at in
      let records : records_in (module_of ps m) ≡ h.room.parts.modes.records = ap records_in h.room.of in
      ap (by (λ (s : List ℕ). reach (records_in (module_of ps m)) (S m) path (text_mode s))) string ∙ ap (λ (x : List RecordDef). reach x (S m) path (text_mode h.room.text)) records
      ∙ reached h.room.parts.modes.records (S m) (sized.records m h.room.parts h.room.of) path (text_mode h.room.text) w o h.leads

  -- ---- a place

  pub record Place (l : Location) (t : ModeTable) (w : Mode) : Type 0 where
    pub origin : Origin
    pub path : List ℕ
    pub is : l ≡ Shared origin path
    pub total : ℕ
    pub room : HasRoom ps S origin total
    pub at : ℕ
    pub stands : Stands (Shared origin path) t w at
    pub offset : offset_at ps S origin path ≡ at
    pub bytes : ℕ
    pub size_is : size (S (module_in origin)) w ≡ Some bytes
    pub inside : at + bytes ≤ total
    pub room_in : room_by (out-Mode w) ≤ bytes
    pub some : 1 ≤ bytes
    pub evenly : (out-Mode w ≡ Mode-F.Byte → ⊥) → at % 2 ≡ 0

  pub brick_place : (m b j : ℕ) (path : List ℕ) (t : ModeTable) (w : Mode) (o : ℕ) → InBrick m b j path t w o → Place (Shared (origin.Brick m b) (j ∷ path)) t w
  brick_place m b j path t w o h =
      let sizes = sized.records m h.room.parts h.room.has.of in
      let field = is_sized (S m) h.room.fields j 0 h.total h.field h.room.ends h.at in
      let deep = inside h.room.parts.modes.records (S m) sizes path h.field.mode w h.more field.0 h.leads field.1 in
      let within : h.begin + field.0 ≤ h.total = ends_within (S m) h.room.fields j 0 h.begin field.0 h.total h.field h.begins h.at field.1 h.room.ends in
      let bound : h.more + deep.bytes ≤ field.0 = deep.inside in
      let is : o ≡ h.begin + h.more = h.is in
      record {
        origin = origin.Brick m b;
        path = j ∷ path;
        is = refl;
        total = h.total;
        room = h.room;
        at = o;
        stands = h;
        offset = brick_offset m b j path t w o h;
        bytes = deep.bytes;
        size_is = deep.sized;
        inside = omega arith;
        room_in = room_fits h.room.parts.modes.records (S m) sizes w deep.bytes deep.sized;
        some = size_some h.room.parts.modes.records (S m) sizes (sized.some m) w deep.bytes deep.sized;
        evenly = λ isnt.
            let first = is_even (S m) h.room.fields j 0 h.begin h.field h.begins h.at (part_is_no_byte h.room.parts.modes.records (S m) sizes path h.field.mode w h.more h.leads isnt) in
            let second = evenly h.room.parts.modes.records (S m) sizes path h.field.mode w h.more h.leads isnt in omega arith;
      }

  pub text_place : (m k : ℕ) (path : List ℕ) (t : ModeTable) (w : Mode) (o : ℕ) → InText m k path t w o → Place (Shared (origin.Text m k) path) t w
  text_place m k path t w o h =
      let sizes = sized.records m h.room.parts h.room.of in
      let deep = inside h.room.parts.modes.records (S m) sizes path (text_mode h.room.text) w o (even (2 + length h.room.text)) h.leads (text_size m h.room.text) in
      let bound : o + deep.bytes ≤ even (2 + length h.room.text) = deep.inside in
      let total : h.total ≡ even (2 + length h.room.text) = h.room.bytes in
      record {
        origin = origin.Text m k;
        path = path;
        is = refl;
        total = h.total;
        room = h.room;
        at = o;
        stands = h;
        offset = text_offset m k path t w o h;
        bytes = deep.bytes;
        size_is = deep.sized;
        inside = subst (λ (x : ℕ). o + deep.bytes ≤ x) (sym total) bound;
        room_in = room_fits h.room.parts.modes.records (S m) sizes w deep.bytes deep.sized;
        some = size_some h.room.parts.modes.records (S m) sizes (sized.some m) w deep.bytes deep.sized;
        evenly = λ isnt. evenly h.room.parts.modes.records (S m) sizes path (text_mode h.room.text) w o h.leads isnt;
      }

  pub place_by : (l : Location) (t : ModeTable) (w : Mode) (o : ℕ) → Stands l t w o → Place l t w
  place_by (Shared (origin.Brick m b) []) t w o h = absurd h
  place_by (Shared (origin.Brick m b) (j ∷ path)) t w o h = brick_place m b j path t w o h
  place_by (Shared (origin.Text m k) path) t w o h = text_place m k path t w o h
  place_by (Own k) t w o h = absurd h

  pub place : (l : Location) (t : ModeTable) (w : Mode) → StandsAt ps l t w → Place l t w
  place l t w h = let s = stands l t w h in place_by l t w s.0 s.1
