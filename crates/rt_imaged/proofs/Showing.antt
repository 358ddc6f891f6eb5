-- The starting store lies in the memory of an image.
use Rattle.std.proofs.Common.{◌≡◌, ℕ, zero, suc, ◌+◌, ◌*◌, ◌%◌, ◌==◌, ◌<◌, ◌≤◌, Bool, true, false, if◌then◌else◌, inl, inr, List, [], ◌∷◌, ◌++◌, length, map, Option, Some, slice_get, slice_index, refl, sym, ap, ◌∙◌, subst, arith}
use Rattle.std.specs.List.{AllByRecursion}
use Rattle.std.proofs.lemmas.Option.{slice_get_within}
use Rattle.std.proofs.lemmas.List.{get_or_append_left, get_or-append-add}
use Rattle.rt_words.specs.Bytes.{word_bytes}
use Rattle.rt_modes.specs.declared.mode.Mode.{Mode, out-Mode, the_lemmas}
use Rattle.rt_modes.specs.declared.mode.Mode.TheOpen.{Mode-F}
use Rattle.rt_modes.specs.declared.mode.Mode.TheVariants as mode
use Rattle.rt_modes.specs.declared.mode.ModeTable.{ModeTable}
use Rattle.rt_modes.specs.declared.mode.RecordDef.{RecordDef}
use Rattle.rt_tree_nodes.specs.declared.brick.Brick.{Brick}
use Rattle.rt_tree_nodes.specs.declared.brick.BrickSort.{BrickSort}
use Rattle.rt_tree_nodes.specs.declared.brick.ModuleParts.{ModuleParts}
use Rattle.rt_tree_nodes.specs.declared.store.Contents.{Contents, out-Contents}
use Rattle.rt_tree_nodes.specs.declared.store.Contents as store_contents
use Rattle.rt_tree_nodes.specs.declared.store.Contents.TheOpen.{Contents-F}
use Rattle.rt_tree_nodes.specs.declared.store.Contents.TheVariants as contents
use Rattle.rt_tree_nodes.specs.declared.store.Datum.{Datum}
use Rattle.rt_tree_nodes.specs.declared.store.Datum.TheVariants.{Word}
use Rattle.rt_tree_nodes.specs.declared.store.Location.{Location}
use Rattle.rt_tree_nodes.specs.declared.store.Location.TheVariants.{Shared, Own}
use Rattle.rt_tree_nodes.specs.declared.store.Origin.TheVariants as origin
use Rattle.rt_tree_nodes.specs.declared.store.Proc.{Proc}
use Rattle.rt_tree_nodes.specs.Typing.{is_value}
use Rattle.rt_tree.specs.Stored.{System, StandsAt, module_of, text_mode, inside, part_of}
use Rattle.rt_sizes.specs.Sizes as sizes
use Rattle.rt_sizes.specs.Sizes.{size}
use Rattle.rt_sizes.proofs.Layers.{some_is, size_at}
use Rattle.rt_work_state.specs.declared.store.ModuleStore.{ModuleStore}
use Rattle.rt_work_state.specs.Stores.{numbered, origin_in, brick_in, text_in, read, datum_of, datum_at}
use Rattle.rt_resolve.specs.Starting.{home_of, starts, parts, sort_contents, brick_contents, byte_contents, text_contents, module_store, stores_from, starting_store}
use Rattle.rt_image.specs.declared.image.ImageParts.{ImageParts}
use Rattle.rt_image.specs.Memory.{memory_bytes, start_memory}
use Rattle.rt_image.specs.Ranges.{IsByte}
use Rattle.rt_object.specs.declared.object.ObjectParts.{ObjectParts}
use Rattle.rt_match.specs.declared.bindings.Bound.{Bound}
use Rattle.rt_graph.specs.Calls.{brick}
use Rattle.rt_link.specs.Addresses.{data_at, string_at}
use Rattle.rt_link.specs.Imaged.{string_data, brick_data, image_bytes}
use Rattle.rt_link.specs.Relocated.{padded}
use Rattle.rt_link.specs.Room.{code_end}
use Rattle.pdp_core.specs.World.{word_at}
use Rattle.rt_places.specs.Places.{AreSizes}
use Rattle.rt_places.specs.Places as spot
use Rattle.rt_places.specs.Systems as places
use Rattle.rt_places.specs.Systems.{HasSizes}
use Rattle.rt_places.proofs.Fields.{is_sized, ends_within}
use Rattle.rt_places.proofs.Parts.{has_parts, room_fits}
use Rattle.rt_places.proofs.Paths as paths
use Rattle.rt_places.proofs.Standing.{InBrick, InText, Stands, stands, brick_offset, text_offset, text_size}
use Rattle.rt_bases.specs.Bases.{base_of}
use Rattle.rt_started.specs.Views.{word_in, byte_in}
use Rattle.rt_started.specs.Started.{Shown, AllShown}
use Rattle.rt_started.proofs.Written.{parts_out, split_word}
use Rattle.rt_follows.specs.Whole.{Whole, word_of, Lies}
use Rattle.rt_imaged.specs.Contents.{ObjectsShow}
use Rattle.rt_imaged.proofs.Parts.{StandsIn}
use Rattle.rt_imaged.proofs.Memory.{data_stands, string_stands, string_long}

-- ---- what stands in a list is shown by it

module _ (value : Datum → ℕ) where
  word_moved : (xs : List ℕ) (q : ℕ) (ys : List ℕ) (p : ℕ) → StandsIn xs q ys → p + 2 ≤ length ys → word_in xs (q + p) ≡ word_in ys p
  word_moved xs q ys p h l =
      let a : slice_index xs (q + p) ≡ slice_index ys p = h.same p (omega arith) in
      let place : q + p + 1 ≡ q + (p + 1) = omega arith in
      let b : slice_index xs (q + p + 1) ≡ slice_index ys (p + 1) = ap (slice_index xs) place ∙ h.same (p + 1) (omega arith) in
      ap (λ (z : ℕ). z % 256 + 256 * (slice_index xs (q + p + 1) % 256)) a ∙ ap (λ (z : ℕ). slice_index ys p % 256 + 256 * (z % 256)) b

  byte_moved : (xs : List ℕ) (q : ℕ) (ys : List ℕ) (p : ℕ) → StandsIn xs q ys → p + 1 ≤ length ys → byte_in xs (q + p) ≡ byte_in ys p
  byte_moved xs q ys p h l = ap (λ (z : ℕ). z % 256) (h.same p (omega arith))

  pub shown_in : (z : Mode-F Mode) (xs : List ℕ) (q : ℕ) (ys : List ℕ) (p : ℕ) (found : Option Contents) → StandsIn xs q ys → p + spot.room_by z ≤ length ys → Shown value ys p z found → Shown value xs (q + p) z found
  shown_in Mode-F.Byte xs q ys p f h l s = byte_moved xs q ys p h l ∙ s
  shown_in Mode-F.Int xs q ys p f h l s = word_moved xs q ys p h l ∙ s
  shown_in Mode-F.Frac xs q ys p f h l s = word_moved xs q ys p h l ∙ s
  shown_in Mode-F.Label xs q ys p f h l s = tt
  shown_in (Mode-F.Ref m) xs q ys p f h l s = word_moved xs q ys p h l ∙ s
  shown_in (Mode-F.RefArray m) xs q ys p f h l s = word_moved xs q ys p h l ∙ s
  shown_in (Mode-F.Array n e) xs q ys p f h l s = word_moved xs q ys p h l ∙ s
  shown_in (Mode-F.Record r) xs q ys p f h l s = tt
  shown_in (Mode-F.Proc ps r) xs q ys p f h l s = word_moved xs q ys p h l ∙ s

-- ---- the starting store

map_get : {A B : Type 0} (f : A → B) (xs : List A) (k : ℕ) (x : A) → slice_get xs k ≡ Some x → slice_get (map f xs) k ≡ Some (f x)
map_get f [] k x e = absurd cc
map_get f (y ∷ xs) zero x e = let is : y ≡ x = cc in ap (λ z. Some (f z)) is
map_get f (y ∷ xs) (suc k) x e = map_get f xs k x e

stores_get : (ps : List ModuleParts) (n : ℕ) (qs : List ModuleParts) (k : ℕ) (p : ModuleParts) → slice_get qs k ≡ Some p → slice_get (stores_from ps n qs) k ≡ Some (module_store ps (n + k) p)
stores_get ps n [] k p e = absurd cc
stores_get ps n (q ∷ qs) zero p e =
    let is : q ≡ p = cc in
    let number : n ≡ n + zero = omega arith in
    ap (λ (z : ModuleParts). Some (module_store ps n z)) is ∙ ap (λ (z : ℕ). Some (module_store ps z p)) number
stores_get ps n (q ∷ qs) (suc k) p e =
    let number : suc n + k ≡ n + suc k = omega arith in
    stores_get ps (suc n) qs k p e ∙ ap (λ (z : ℕ). Some (module_store ps z p)) number

store_at : (ps : System) (m : ℕ) (p : ModuleParts) → module_of ps m ≡ Some p → numbered (starting_store ps) m ≡ Some (module_store ps m p)
store_at ps zero p e = absurd cc
store_at ps (suc k) p e = let number : 1 + k ≡ suc k = omega arith in stores_get ps 1 ps k p e ∙ ap (λ (z : ℕ). Some (module_store ps z p)) number

there_is : {A : Type 0} (xs : List A) (k : ℕ) → k < length xs → (x : A) × (slice_get xs k ≡ Some x)
there_is [] k l = absurd (omega arith)
there_is (x ∷ xs) zero l = (x, refl)
there_is (x ∷ xs) (suc k) l = there_is xs k (omega arith)

in_parts : (cs : List Contents) (k : ℕ) (x : Contents) (ks : List ℕ) → slice_get cs k ≡ Some x → inside (Some (contents.Parts cs)) (k ∷ ks) ≡ inside (Some x) ks
in_parts cs k x ks at = ap (λ (y : Contents-F Contents). inside (part_of y k) ks) (parts_out cs) ∙ ap (λ (y : Option Contents). inside y ks) at

word_out : (x : ℕ) → out-Contents (contents.Datum (Word x)) ≡ Contents-F.Datum (Word x)
word_out x = search store_contents.the_lemmas

array_out : (s : List ℕ) → out-Mode (text_mode s) ≡ Mode-F.Array (length s) mode.Byte
array_out s = search the_lemmas

byte_out : out-Mode mode.Byte ≡ Mode-F.Byte
byte_out = search the_lemmas

not_both : (z : Mode-F Mode) (n r : ℕ) (e : Mode) → z ≡ Mode-F.Array n e → z ≡ Mode-F.Record r → ⊥
not_both z n r e a b = cc

arrays_same : (z : Mode-F Mode) (n k : ℕ) (e f : Mode) → z ≡ Mode-F.Array n e → z ≡ Mode-F.Array k f → (n ≡ k) × (e ≡ f)
arrays_same z n k e f a b = (cc, cc)

byte_of : (xs : List ℕ) (k x : ℕ) → AllByRecursion IsByte xs → slice_get xs k ≡ Some x → x < 256
byte_of [] k x h e = absurd cc
byte_of (y ∷ xs) zero x h e = let is : y ≡ x = cc in subst (λ (z : ℕ). z < 256) is h.0
byte_of (y ∷ xs) (suc k) x h e = byte_of xs k x h.1 e

index_of : (xs : List ℕ) (k x : ℕ) → slice_get xs k ≡ Some x → slice_index xs k ≡ x
index_of [] k x e = absurd cc
index_of (y ∷ xs) zero x e = cc
index_of (y ∷ xs) (suc k) x e = index_of xs k x e

padded_front_by : (xs : List ℕ) (b : Bool) (k : ℕ) → k < length xs → slice_index (if b then xs else xs ++ 0 ∷ []) k ≡ slice_index xs k
padded_front_by xs true k l = refl
padded_front_by xs false k l = get_or_append_left xs (0 ∷ []) 0 k l

module _ (w : Whole) (S : ℕ → ℕ → Option ℕ) (objects : List ObjectParts) (stacks : List Proc) (of : List (List Bound)) (i : ImageParts) (image_is : i.bytes ≡ image_bytes objects stacks of) (code_is : 2 * length i.code ≡ code_end objects stacks)
    (sized : HasSizes w.ps S) (shows : ObjectsShow (word_of w) w.ps S objects stacks of) (at : (l : Location) → w.address l ≡ places.address w.ps S (base_of objects stacks) l) where
  abbrev Mem : List ℕ
  Mem = memory_bytes i

  abbrev One : List ℕ → ℕ → Mode → Option Contents → Type 0
  One xs p v f = Shown (word_of w) xs p (out-Mode v) f

  -- what is seen at a place
  record Seen (l : Location) (v : Mode) : Type 0 where
    pub found : Option Contents
    pub shown : One Mem (w.address l) v found
    pub reads : read (starting_store w.ps) [] l ≡ datum_of found

  -- ---- in a brick

  contents_at : (m b n : ℕ) (h : places.IsBrick w.ps S m b n) → origin_in (starting_store w.ps) (origin.Brick m b) ≡ Some (contents.Parts (parts (map (starts (home_of w.ps m h.parts)) h.starts) h.fields))
  contents_at m b n h =
      let store = ap (λ (x : Option ModuleStore). brick_in x b) (store_at w.ps m h.parts h.has.of) in
      let one = map_get (brick_contents (home_of w.ps m h.parts)) h.parts.bricks b h.brick h.has.at in
      let here = ap (λ (x : Bool). Some (contents.Parts (if x then sort_contents (home_of w.ps m h.parts) h.brick.sort else []))) h.here in
      let sort = ap (λ (x : BrickSort). Some (contents.Parts (sort_contents (home_of w.ps m h.parts) x))) h.sort in
      store ∙ one ∙ here ∙ sort

  in_brick : (m b j : ℕ) (path : List ℕ) (t : ModeTable) (v : Mode) (o : ℕ) (h : InBrick w.ps S sized m b j path t v o) → h.begin + h.more + spot.room_by (out-Mode v) ≤ h.total
  in_brick m b j path t v o h =
      let sizes = sized.records m h.room.parts h.room.has.of in
      let field = is_sized (S m) h.room.fields j 0 h.total h.field h.room.ends h.at in
      let deep = paths.inside h.room.parts.modes.records (S m) sizes path h.field.mode v h.more field.0 h.leads field.1 in
      let within : h.begin + field.0 ≤ h.total = ends_within (S m) h.room.fields j 0 h.begin field.0 h.total h.field h.begins h.at field.1 h.room.ends in
      let bound : h.more + deep.bytes ≤ field.0 = deep.inside in
      let room : spot.room_by (out-Mode v) ≤ deep.bytes = room_fits h.room.parts.modes.records (S m) sizes v deep.bytes deep.sized in omega arith

  seen_brick : (m b j : ℕ) (path : List ℕ) (t : ModeTable) (v : Mode) (o : ℕ) → InBrick w.ps S sized m b j path t v o → Seen (Shared (origin.Brick m b) (j ∷ path)) v
  seen_brick m b j path t v o h =
      let its = shows.bricks m b h.total h.room in
      let cs = parts (map (starts (home_of w.ps m h.room.parts)) h.room.starts) h.room.fields in
      let less = slice_get_within h.room.fields j h.field h.at in
      let x = there_is cs j (let q : length cs ≡ length h.room.fields = its.filled in omega arith) in
      let ys = brick_data objects stacks of m its.its in
      let one : One ys (h.begin + h.more) v (inside (Some x.0) path) = its.shows.each j x.0 h.field h.begin x.1 h.at h.begins path v h.more h.leads in
      let long : length ys ≡ sizes.even h.total = its.shows.long in
      let end = in_brick m b j path t v o h in
      let stand = data_stands objects stacks of i image_is code_is m b its.object its.its its.is its.at in
      let all = shown_in (word_of w) (out-Mode v) Mem (data_at objects stacks (brick m b)) ys (h.begin + h.more) (inside (Some x.0) path) stand (let q : h.begin + h.more + spot.room_by (out-Mode v) ≤ h.total = end in omega arith) one in
      let is : o ≡ h.begin + h.more = h.is in
      let place : data_at objects stacks (brick m b) + (h.begin + h.more) ≡ w.address (Shared (origin.Brick m b) (j ∷ path)) =
      ap (λ (z : ℕ). data_at objects stacks (brick m b) + z) (sym is) ∙ ap (λ (z : ℕ). data_at objects stacks (brick m b) + z) (sym (brick_offset w.ps S sized m b j path t v o h)) ∙ sym (at (Shared (origin.Brick m b) (j ∷ path))) in
      record {
        found = inside (Some x.0) path;
        shown = subst (λ (z : ℕ). One Mem z v (inside (Some x.0) path)) place all;
        reads = ap (λ (z : Option Contents). datum_of (inside z (j ∷ path))) (contents_at m b h.total h.room) ∙ ap datum_of (in_parts cs j x.0 path x.1);
      }

  -- ---- in a string

  origin_text : (m k n : ℕ) (h : places.IsText w.ps S m k n) → origin_in (starting_store w.ps) (origin.Text m k) ≡ Some (text_contents h.text)
  origin_text m k n h = ap (λ (x : Option ModuleStore). text_in x k) (store_at w.ps m h.parts h.of) ∙ map_get text_contents h.parts.strings k h.text h.at

  byte_size : (m : ℕ) → size (S m) mode.Byte ≡ Some 1
  byte_size m = size_at (S m) mode.Byte Mode-F.Byte byte_out

  -- the length of a string, and its bytes
  text_word : (s : List ℕ) → word_in (string_data s) 0 ≡ length s % 65536
  text_word s = split_word (length s)

  text_byte : (s : List ℕ) (k x : ℕ) → AllByRecursion IsByte s → slice_get s k ≡ Some x → byte_in (string_data s) (2 + k) ≡ x
  text_byte s k x bytes e =
      let less = slice_get_within s k x e in
      let small = byte_of s k x bytes e in
      let one : slice_index (word_bytes (length s) ++ padded s) (2 + k) ≡ slice_index (padded s) k = get_or-append-add (word_bytes (length s)) (padded s) k 0 in
      let two : slice_index (padded s) k ≡ slice_index s k = padded_front_by s (length s % 2 == 0) k less in
      let three : slice_index s k ≡ x = index_of s k x e in
      let all : slice_index (string_data s) (2 + k) ≡ x = one ∙ two ∙ three in
      let low : x % 256 ≡ x = omega arith in
      ap (λ (z : ℕ). z % 256) all ∙ low

  byte_there : (s : List ℕ) (k x : ℕ) → slice_get s k ≡ Some x → inside (Some (text_contents s)) (k ∷ []) ≡ Some (contents.Datum (Word x))
  byte_there s k x e = in_parts (map byte_contents s) k (byte_contents x) [] (map_get byte_contents s k x e)

  text_all : (m : ℕ) (records : List RecordDef) (s : List ℕ) (are : AreSizes records (S m)) → AllByRecursion IsByte s → AllShown (word_of w) records (S m) (string_data s) 0 (text_mode s) (text_contents s)
  text_all m records s are bytes [] v o to =
      let none : 0 ≡ 0 + o = (let q : o ≡ 0 = to.1 in omega arith) in
      subst (λ (y : Mode). Shown (word_of w) (string_data s) (0 + o) (out-Mode y) (Some (text_contents s))) to.0
      (subst (λ (y : Mode-F Mode). Shown (word_of w) (string_data s) (0 + o) y (Some (text_contents s))) (sym (array_out s)) (subst (λ (n : ℕ). word_in (string_data s) n ≡ length s % 65536) none (text_word s)))
  text_all m records s are bytes (k ∷ ks) v o (e, a, b, inl part, rest, is) = absurd (not_both (out-Mode (text_mode s)) (length s) part.number mode.Byte (array_out s) part.is)
  text_all m records s are bytes (k ∷ j ∷ ks) v o (e, a, b, inr part, (f, c, d, p, rest, are2), is) =
      let both = arrays_same (out-Mode (text_mode s)) (length s) part.count mode.Byte e (array_out s) part.is in
      absurd (has_parts records (S m) are j e f c p (ap out-Mode (sym both.1) ∙ byte_out))
  text_all m records s are bytes (k ∷ []) v o (e, a, b, inr part, rest, is) =
      let both = arrays_same (out-Mode (text_mode s)) (length s) part.count mode.Byte e (array_out s) part.is in
      let less : k < length s = (let q : k < part.count = part.in_it in let r = both.0 in omega arith) in
      let x = there_is s k less in
      let one : part.bytes ≡ 1 = some_is part.bytes 1 (sym part.sized ∙ ap (size (S m)) (sym both.1) ∙ byte_size m) in
      let product : part.bytes * k ≡ k = ap (λ (z : ℕ). z * k) one ∙ (let q : 1 * k ≡ k = omega arith in q) in
      let begin : a ≡ 2 + part.bytes * k = part.begins in
      let last : b ≡ 0 = rest.1 in
      let place : 2 + k ≡ 0 + o = omega arith in
      let mode_is : mode.Byte ≡ v = both.1 ∙ rest.0 in
      let shown : byte_in (string_data s) (2 + k) ≡ word_of w (datum_of (inside (Some (text_contents s)) (k ∷ []))) =
      text_byte s k x.0 bytes x.1 ∙ ap (λ (y : Contents-F Contents). word_of w (datum_at y)) (sym (word_out x.0)) ∙ ap (λ (y : Option Contents). word_of w (datum_of y)) (sym (byte_there s k x.0 x.1)) in
      subst (λ (y : Mode). Shown (word_of w) (string_data s) (0 + o) (out-Mode y) (inside (Some (text_contents s)) (k ∷ []))) mode_is
      (subst (λ (y : Mode-F Mode). Shown (word_of w) (string_data s) (0 + o) y (inside (Some (text_contents s)) (k ∷ []))) (sym byte_out)
      (subst (λ (n : ℕ). byte_in (string_data s) n ≡ word_of w (datum_of (inside (Some (text_contents s)) (k ∷ [])))) place shown))

  seen_text : (m k : ℕ) (path : List ℕ) (t : ModeTable) (v : Mode) (o : ℕ) → InText w.ps S sized m k path t v o → Seen (Shared (origin.Text m k) path) v
  seen_text m k path t v o h =
      let its = shows.texts m k h.total h.room in
      let are = sized.records m h.room.parts h.room.of in
      let s = h.room.text in
      let one : One (string_data s) (0 + o) v (inside (Some (text_contents s)) path) = text_all m h.room.parts.modes.records s are its.bytes path v o h.leads in
      let lies = paths.inside h.room.parts.modes.records (S m) are path (text_mode s) v o (sizes.even (2 + length s)) h.leads (text_size w.ps S sized m s) in
      let deep : o + lies.bytes ≤ sizes.even (2 + length s) = lies.inside in
      let room : spot.room_by (out-Mode v) ≤ lies.bytes = room_fits h.room.parts.modes.records (S m) are v lies.bytes lies.sized in
      let long : length (string_data s) ≡ 2 + sizes.even (length s) = string_long s in
      let stand = string_stands objects stacks of i image_is code_is m k its.object s its.is its.at in
      let all = shown_in (word_of w) (out-Mode v) Mem (string_at objects stacks m k) (string_data s) (0 + o) (inside (Some (text_contents s)) path) stand (omega arith) one in
      let place : string_at objects stacks m k + (0 + o) ≡ w.address (Shared (origin.Text m k) path) =
      (let q : string_at objects stacks m k + (0 + o) ≡ string_at objects stacks m k + o = omega arith in q) ∙ ap (λ (z : ℕ). string_at objects stacks m k + z) (sym (text_offset w.ps S sized m k path t v o h)) ∙ sym (at (Shared (origin.Text m k) path)) in
      record {
        found = inside (Some (text_contents s)) path;
        shown = subst (λ (z : ℕ). One Mem z v (inside (Some (text_contents s)) path)) place all;
        reads = ap (λ (z : Option Contents). datum_of (inside z path)) (origin_text m k h.total h.room);
      }

  -- ---- everywhere

  seen_by : (l : Location) (t : ModeTable) (v : Mode) (o : ℕ) → Stands w.ps S sized l t v o → Seen l v
  seen_by (Shared (origin.Brick m b) []) t v o h = absurd h
  seen_by (Shared (origin.Brick m b) (j ∷ path)) t v o h = seen_brick m b j path t v o h
  seen_by (Shared (origin.Text m k) path) t v o h = seen_text m k path t v o h
  seen_by (Own k) t v o h = absurd h

  seen : (l : Location) (t : ModeTable) (v : Mode) → StandsAt w.ps l t v → Seen l v
  seen l t v h = let s = stands w.ps S sized l t v h in seen_by l t v s.0 s.1

  word_read : (a : ℕ) → word_at (start_memory i) a ≡ word_in Mem a
  unfolding word_at
  word_read a = refl

  value_shown : (z : Mode-F Mode) (p : ℕ) (f : Option Contents) → is_value z ≡ true → (z ≡ Mode-F.Byte → ⊥) → Shown (word_of w) Mem p z f → word_in Mem p ≡ word_of w (datum_of f)
  value_shown Mode-F.Byte p f is isnt s = absurd (isnt refl)
  value_shown Mode-F.Label p f is isnt s = absurd cc
  value_shown (Mode-F.Array n e) p f is isnt s = absurd cc
  value_shown (Mode-F.Record r) p f is isnt s = absurd cc
  value_shown Mode-F.Int p f is isnt s = s
  value_shown Mode-F.Frac p f is isnt s = s
  value_shown (Mode-F.Ref m) p f is isnt s = s
  value_shown (Mode-F.RefArray m) p f is isnt s = s
  value_shown (Mode-F.Proc ps r) p f is isnt s = s

  pub starts_lie : ((l : Location) (u : ModeTable) (v e : Mode) (n : ℕ) → StandsAt w.ps l u v → out-Mode v ≡ Mode-F.Array n e → n < 65536) → Lies w (starting_store w.ps) (start_memory i)
  starts_lie short = record {
    words = λ {l} {u} {v} h is isnt. (let x = seen l u v h in word_read (w.address l) ∙ value_shown (out-Mode v) (w.address l) x.found is isnt x.shown ∙ ap (word_of w) (sym x.reads));
    bytes = λ {l} {u} {v} h is. (let x = seen l u v h in (let q : byte_in Mem (w.address l) ≡ word_of w (datum_of x.found) = subst (λ (z : Mode-F Mode). Shown (word_of w) Mem (w.address l) z x.found) is x.shown in q) ∙ ap (word_of w) (sym x.reads));
    lengths = λ {l} {u} {v} {e} {n} h is.
        (let x = seen l u v h in
        let few : n < 65536 = short l u v e n h is in
        let whole : n % 65536 ≡ n = omega arith in
        word_read (w.address l) ∙ (let q : word_in Mem (w.address l) ≡ n % 65536 = subst (λ (z : Mode-F Mode). Shown (word_of w) Mem (w.address l) z x.found) is x.shown in q) ∙ whole);
  }
