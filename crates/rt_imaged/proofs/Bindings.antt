-- Relocations resolve where bricks are bound alike.
use Rattle.std.proofs.Common.{true, false, Bool, ◌≡◌, ℕ, zero, suc, ◌+◌, ◌<◌, ◌≤◌, nat_lt, List, [], ◌∷◌, length, replicate, Option, Some, None, option_map, if◌then◌else◌, slice_get, refl, sym, ap, ◌∙◌, subst, arith, ltb-true}
use Rattle.std.proofs.lemmas.Option.{slice_get_within}
use Rattle.rt_words.specs.Word.{wrap_add}
use Rattle.rt_modes.specs.declared.mode.Field.{Field}
use Rattle.rt_modes.specs.declared.mode.Mode.{Mode, out-Mode}
use Rattle.rt_modes.specs.declared.mode.Mode.TheOpen.{Mode-F}
use Rattle.rt_modes.specs.declared.mode.ModeTable.{ModeTable}
use Rattle.rt_modes.specs.declared.mode.RecordDef.{RecordDef}
use Rattle.rt_tree_nodes.specs.declared.brick.Brick.{Brick}
use Rattle.rt_tree_nodes.specs.declared.brick.BrickSort.{BrickSort}
use Rattle.rt_tree_nodes.specs.declared.brick.BrickSort.TheVariants as sort
use Rattle.rt_tree_nodes.specs.declared.brick.DataStart.{DataStart}
use Rattle.rt_tree_nodes.specs.declared.brick.ModuleParts.{ModuleParts}
use Rattle.rt_tree_nodes.specs.declared.store.Location.{Location}
use Rattle.rt_tree_nodes.specs.declared.store.Location.TheVariants.{Shared}
use Rattle.rt_tree_nodes.specs.declared.store.Origin.TheVariants as origin
use Rattle.rt_tree_nodes.specs.declared.store.Proc.{Proc}
use Rattle.rt_tree_nodes.specs.Scopes.{Face, with, faces, face, sort_of, scope_of, is_svc, field_at, proc_mode}
use Rattle.rt_tree.specs.Modules.{is_here, mode_along, shared_of, data_in, shared_mode}
use Rattle.rt_tree.specs.Opened.{IsTable, FullModesOpen}
use Rattle.rt_tree.specs.Stored.{System, HasBrick, StandsAt, in_text, module_of, brick, text_mode}
use Rattle.rt_sizes.specs.Sizes.{End, even, size, offset}
use Rattle.rt_sizes.proofs.Layers.{some_is}
use Rattle.rt_sizes_laws.specs.Laws.{AreOne}
use Rattle.rt_sizes_laws.proofs.Deeper.{place_of, place_grows, size_of, size_grows, whole_lists_are_known}
use Rattle.rt_sizes_laws.proofs.Lying.{one_size}
use Rattle.rt_resolve.specs.Starting.{home_of, lead, place_start, leads_by, location_of}
use Rattle.rt_meaning_laws.specs.Levels.{IsTableOf, of_module}
use Rattle.rt_object.specs.declared.object.ObjectParts.{ObjectParts}
use Rattle.rt_object.specs.declared.object.Relocated.TheVariants as relocated
use Rattle.rt_object.specs.declared.object.Relocation.{Relocation}
use Rattle.rt_match.specs.declared.bindings.Bound.{Bound}
use Rattle.rt_graph.specs.Calls.{numbered, bound_in}
use Rattle.rt_system.specs.declared.parts.Task.{Task}
use Rattle.rt_image.specs.declared.image.ImageParts.{ImageParts}
use Rattle.rt_image.specs.declared.map.Map.{Map}
use Rattle.rt_link.specs.Addresses.{string_at, if_there}
use Rattle.rt_link.specs.Named.{bound_address, named_address, relocated_word}
use Rattle.rt_link.specs.Room.{strings_in, strings_of, code_end, data_end, room}
use Rattle.rt_lower.specs.declared.layouts.Layouts.{Layouts}
use Rattle.rt_lower.specs.Layouts.{fields_in, ItemsBegin, AreOffsets, table_of, number, row, item_offset}
use Rattle.rt_compile.specs.Data.{by, along, offset_of, data_of}
use Rattle.rt_compile.specs.DataLaws.{BytesAreCounted}
use Rattle.rt_places.specs.Places.{Leads}
use Rattle.rt_places.specs.Systems.{HasSizes, AreBases, IsBrick, records_in, string_in}
use Rattle.rt_places.proofs.Fields.{is_sized}
use Rattle.rt_places.proofs.Along as onward
use Rattle.rt_places.proofs.Told as told
use Rattle.rt_places.proofs.Standing.{InBrick, brick_offset, place, brick_place}
use Rattle.rt_places.proofs.Whole.{byte_below}
use Rattle.rt_bases.specs.Bases.{base_of}
use Rattle.rt_bases.proofs.Lying.{are_bases}
use Rattle.rt_laid.proofs.Alike.{tells, size_back, leads_alike}
use Rattle.rt_laid.proofs.Laying.{no_text}
use Rattle.rt_started.specs.Started.{Resolves}
use Rattle.rt_follows.specs.Whole.{Whole, word_of}
use Rattle.rt_imaged.specs.Whole.{whole_of, sizes_of, entry_of, IsSystem}
use Rattle.rt_imaged.specs.Trees.{TreesAre, AllResolve}
use Rattle.rt_imaged.specs.Bound.{BindAlike, RelocationsResolve}
use Rattle.rt_imaged.proofs.Trees.{Known, known, has_sizes, have_data, text_at}
use Rattle.rt_imaged.proofs.Resolving.{there_is, along_leads}

-- ---- places of data by name

abbrev IsNamed : List RecordDef → List Brick → ℕ → ℕ → List ℕ → Mode → Type 0
IsNamed records bs b j path w = (d : Brick) × (fs : List Field) × (ss : List DataStart) × (f : Field) × (slice_get bs b ≡ Some d) × (d.sort ≡ sort.Data fs ss) × (is_svc d.kind ≡ false) × (slice_get fs j ≡ Some f) × (mode_along records path f.mode ≡ Some w)

in_fields : (records : List RecordDef) (path : List ℕ) (w : Mode) (o : Option Field) → with (option_map (λ (f : Field). f.mode) o) (mode_along records path) ≡ Some w → (f : Field) × (o ≡ Some f) × (mode_along records path f.mode ≡ Some w)
in_fields records path w None e = absurd cc
in_fields records path w (Some f) e = (f, refl, e)

in_shared : (records : List RecordDef) (d : Brick) (j : ℕ) (path : List ℕ) (w : Mode) (b : Bool) (z : BrickSort) → is_svc d.kind ≡ b → d.sort ≡ z → with (if b then None else data_in (sort_of z)) (λ fs. with (field_at fs j) (mode_along records path)) ≡ Some w
    → (fs : List Field) × (ss : List DataStart) × (f : Field) × (d.sort ≡ sort.Data fs ss) × (is_svc d.kind ≡ false) × (slice_get fs j ≡ Some f) × (mode_along records path f.mode ≡ Some w)
in_shared records d j path w true z k e f = absurd cc
in_shared records d j path w false (sort.Data fs ss) k e f = let r = in_fields records path w (slice_get fs j) f in (fs, ss, r.0, e, k, r.1, r.2)
in_shared records d j path w false (sort.Proc v body) k e f = absurd cc
in_shared records d j path w false (sort.Stack i) k e f = absurd cc

named_place : (records : List RecordDef) (bs : List Brick) (b j : ℕ) (path : List ℕ) (w : Mode) → with (slice_get (faces bs) b) (λ d. with (shared_of d) (λ fs. with (field_at fs j) (mode_along records path))) ≡ Some w → IsNamed records bs b j path w
named_place records [] b j path w e = absurd cc
named_place records (d ∷ bs) zero j path w e = let r = in_shared records d j path w (is_svc d.kind) d.sort refl refl e in (d, r.0, r.1, r.2, refl, r.3, r.4, r.5, r.6)
named_place records (d ∷ bs) (suc b) j path w e = named_place records bs b j path w e

face_at : (bs : List Brick) (b : ℕ) (d : Brick) → slice_get bs b ≡ Some d → slice_get (faces bs) b ≡ Some (face d)
face_at [] b d e = absurd cc
face_at (x ∷ bs) zero d e = let is : x ≡ d = cc in ap (λ (z : Brick). Some (face z)) is
face_at (x ∷ bs) (suc b) d e = face_at bs b d e

leads_word : (w : Whole) (z : Mode-F Mode) (l : Location) (o : Option Mode) → word_of w (leads_by z l o) ≡ w.address l
leads_word w (Mode-F.RefArray m) l o = refl
leads_word w _ l o = refl

whole_sum : (a b : ℕ) → a + b < 65536 → wrap_add a b ≡ a + b
whole_sum a b l = omega arith

module _ (opens : FullModesOpen) (bytes_counted : BytesAreCounted) (ps : System) (ls : List Layouts) (os : List ObjectParts) (tasks : List Task) (image : ImageParts) (mapped : Map) (s : IsSystem ps ls os tasks image mapped) (trees : TreesAre ps) (tables : (t : ModeTable) → IsTableOf ps t → IsTable t) (bound : BindAlike ps os s.linked.known.stacks s.linked.known.bindings.of) where
  abbrev w : Whole
  w = whole_of ps ls os s.linked.known image

  abbrev stacks : List Proc
  stacks = s.linked.known.stacks

  abbrev of : List (List Bound)
  of = s.linked.known.bindings.of

  abbrev S : ℕ → ℕ → Option ℕ
  S = sizes_of ls

  counted : (l : Layouts) (m b : ℕ) (p : ModuleParts) (d : Brick) (fs : List Field) (ss : List DataStart) (n : ℕ) → HasBrick ps m b p d → is_here d.kind ≡ true → d.sort ≡ sort.Data fs ss → End (table_of p.modes.records) fs n → length (data_of l (scope_of p) fs ss).bytes ≡ even n
  counted l m b p d fs ss n has h is end = bytes_counted l p fs ss n (trees.nodes m p has.of) (record { number = b; brick = d; there = has.at; here = h; sort_is = is }) end

  sized : HasSizes ps S
  sized = has_sizes ps ls os s.layouts s.same s.trees trees.filled trees.ends counted

  known_at : (m : ℕ) (p : ModuleParts) → module_of ps m ≡ Some p → Known ps ls os s.layouts s.same s.trees trees.filled trees.ends counted m p
  known_at m p e = known ps ls os s.layouts s.same s.trees trees.filled trees.ends counted m p e

  bases : AreBases ps S (base_of os stacks) (code_end os stacks) (data_end os stacks)
  bases = are_bases os stacks ps S (have_data ps ls os s.layouts s.same s.trees trees.filled trees.ends counted)

  data_small : data_end os stacks ≤ 57344
  data_small = let r : room os stacks ≤ 57344 = s.linked.judged.room in omega arith

  -- ---- places

  record Owned (m : ℕ) (p : ModuleParts) (l : Layouts) (b j : ℕ) (path : List ℕ) : Type 0 where
    pub home : ℕ
    pub its_brick : ℕ
    pub leads : lead (home_of ps m p) b ≡ brick home its_brick
    pub address : bound_address os stacks of m b (bound_in (numbered of m) b) ≡ base_of os stacks (origin.Brick home its_brick)
    pub at : ℕ
    pub offset : offset_of l (scope_of p) b j path ≡ at
    pub lies : w.address (Shared (origin.Brick home its_brick) (j ∷ path)) ≡ base_of os stacks (origin.Brick home its_brick) + at
    pub small : base_of os stacks (origin.Brick home its_brick) + at < 65536

  owned : (m b j : ℕ) (p : ModuleParts) (path : List ℕ) (v : Mode) (e : module_of ps m ≡ Some p) → shared_mode (scope_of p) b j path ≡ Some v → let k = known_at m p e in Owned m p k.layouts b j path
  owned m b j p path v e h =
      let k = known_at m p e in
      let x = named_place p.modes.records p.bricks b j path v h in
      let d = x.0 in
      let fs = x.1 in
      let f = x.3 in
      let has : HasBrick ps m b p d = record { of = e; at = x.4 } in
      let D = bound.data_leads m b p d fs x.2 has x.5 x.6 in
      let q = D.owner in
      let i = known_at D.home q D.has.of in
      let gt = tables p.modes (of_module m e) in
      let gu = tables q.modes (of_module D.home D.has.of) in
      let right = k.is.right in
      -- the item, as the module has it
      let rows : length k.layouts.items ≡ length p.bricks = right.items.each in
      let less_b = slice_get_within p.bricks b d x.4 in
      let ns = there_is k.layouts.items b (omega arith) in
      let items : ItemsBegin (table_of p.modes.records) d ns.0 = right.items.right b d ns.0 x.4 ns.1 in
      let offsets : AreOffsets (table_of p.modes.records) fs ns.0 = subst (λ (z : BrickSort). AreOffsets (table_of p.modes.records) (fields_in z) ns.0) x.5 items in
      let less_j = slice_get_within fs j f x.7 in
      let many : length ns.0 ≡ length fs = offsets.each in
      let n = there_is ns.0 j (omega arith) in
      let begins = offsets.begin j n.0 n.1 in
      let item : item_offset k.layouts b j ≡ n.0 = ap (λ (z : Option (List ℕ)). number (slice_get (row z) j)) ns.1 ∙ ap number n.1 in
      -- and as its owner has it
      let same_many : length fs ≡ length D.items = D.alike.each in
      let g = there_is D.items j (omega arith) in
      let one = D.alike.modes j f g.0 x.7 g.1 in
      let total = sized.items D.home D.number q D.its D.items D.starts D.has D.here D.sort_is in
      let its_size = is_sized (S D.home) D.items j 0 total.0 g.0 total.1 g.1 in
      let own_size : size (λ z. slice_get i.layouts.sizes z) g.0.mode ≡ Some its_size.0 = subst (λ (F : ℕ → Option ℕ). size F g.0.mode ≡ Some its_size.0) i.sizes its_size.1 in
      let sized_g = size_back q i.layouts i.is.right g.0.mode its_size.0 own_size in
      let back : AreOne q.modes p.modes g.0.mode f.mode = record { left = one.right; right = one.left; same = sym one.same } in
      let sized_f = (one_size opens q.modes p.modes g.0.mode f.mode gu gt back).too (replicate (length q.modes.records) true) (replicate (length p.modes.records) true) its_size.0 (whole_lists_are_known p.modes.records) sized_g in
      let size_f = tells p k.layouts right (size_of f.mode) (size_grows f.mode) its_size.0 sized_f in
      let are = told.are_sizes p.modes.records k.layouts.sizes right.sizes.each right.sizes.right in
      let to = onward.leads p.modes.records (λ z. slice_get k.layouts.sizes z) are path f.mode v its_size.0 x.8 size_f in
      let other = leads_alike opens p q k.layouts i.layouts right i.is.right gt gu path f.mode g.0.mode v to.0 one to.1 in
      let begins_q = D.alike.begin_too (replicate (length p.modes.records) true) (replicate (length q.modes.records) true) j n.0 (whole_lists_are_known q.modes.records) begins in
      let offset_q = tells q i.layouts i.is.right (place_of D.items j) (place_grows D.items j) n.0 begins_q in
      let room_is : IsBrick ps S D.home D.number total.0 = record { parts = q; brick = D.its; fields = D.items; starts = D.starts; has = D.has; here = D.here; sort = D.sort_is; ends = total.1 } in
      let there : InBrick ps S sized D.home D.number j path q.modes other.0 (n.0 + to.0) = record {
        total = total.0;
        room = room_is;
        field = g.0;
        begin = n.0;
        more = to.0;
        at = g.1;
        begins = subst (λ (F : ℕ → Option ℕ). offset F D.items j ≡ Some n.0) (sym i.sizes) offset_q;
        leads = subst (λ (F : ℕ → Option ℕ). Leads q.modes.records F path g.0.mode other.0 to.0) (sym i.sizes) other.1;
        is = refl;
        table = refl;
      } in
      let off = brick_offset ps S sized D.home D.number j path q.modes other.0 (n.0 + to.0) there in
      let lies : w.address (Shared (origin.Brick D.home D.number) (j ∷ path)) ≡ base_of os stacks (origin.Brick D.home D.number) + (n.0 + to.0) = ap (λ (z : ℕ). base_of os stacks (origin.Brick D.home D.number) + z) off in
      let below = byte_below ps S sized (base_of os stacks) (code_end os stacks) (data_end os stacks) bases (Shared (origin.Brick D.home D.number) (j ∷ path)) q.modes other.0 (brick_place ps S sized D.home D.number j path q.modes other.0 (n.0 + to.0) there) in
      -- what the compiler counts
      let first = ap (λ (z : Option Face). with z (λ y. with (shared_of y) (λ zs. with (field_at zs j) (mode_along p.modes.records [])))) (face_at p.bricks b d x.4) in
      let kind = ap (λ (z : Bool). with (if z then None else data_in (sort_of d.sort)) (λ zs. with (field_at zs j) (mode_along p.modes.records []))) x.6 in
      let sorted = ap (λ (z : BrickSort). with (data_in (sort_of z)) (λ zs. with (field_at zs j) (mode_along p.modes.records []))) x.5 in
      let field = ap (λ (z : Option Field). with (option_map (λ (y : Field). y.mode) z) (mode_along p.modes.records [])) x.7 in
      let shared : shared_mode (scope_of p) b j [] ≡ Some f.mode = first ∙ kind ∙ sorted ∙ field in
      let counted_at : offset_of k.layouts (scope_of p) b j path ≡ item_offset k.layouts b j + to.0 =
      ap (by (item_offset k.layouts b j) (along k.layouts p.modes.records path (item_offset k.layouts b j))) shared ∙ along_leads p k.layouts right path (item_offset k.layouts b j) f.mode v to.0 to.1 in
      let small = data_small in
      record {
        home = D.home;
        its_brick = D.number;
        leads = D.leads;
        address = D.address;
        at = n.0 + to.0;
        offset = counted_at ∙ ap (λ (z : ℕ). z + to.0) item;
        lies = lies;
        small = (let q2 : w.address (Shared (origin.Brick D.home D.number) (j ∷ path)) < data_end os stacks = below in omega arith);
      }

  place_resolves : (m b j : ℕ) (p : ModuleParts) (path : List ℕ) (v u : Mode) (e : module_of ps m ≡ Some p) (r : Relocation) → let k = known_at m p e in r.of ≡ relocated.Brick b → r.offset ≡ offset_of k.layouts (scope_of p) b j path → shared_mode (scope_of p) b j path ≡ Some v
      → relocated_word os stacks of m r ≡ word_of w (place_start (home_of ps m p) b j path u)
  place_resolves m b j p path v u e r is off h =
      let o = owned m b j p path v e h in
      let place = location_of (lead (home_of ps m p) b) j path in
      let named : named_address os stacks of m r.of ≡ base_of os stacks (origin.Brick o.home o.its_brick) = ap (named_address os stacks of m) is ∙ o.address in
      let offset : r.offset ≡ o.at = off ∙ o.offset in
      let word : relocated_word os stacks of m r ≡ wrap_add (base_of os stacks (origin.Brick o.home o.its_brick)) o.at = ap (λ (z : ℕ). wrap_add z r.offset) named ∙ ap (wrap_add (base_of os stacks (origin.Brick o.home o.its_brick))) offset in
      let whole = whole_sum (base_of os stacks (origin.Brick o.home o.its_brick)) o.at o.small in
      let there : w.address place ≡ w.address (Shared (origin.Brick o.home o.its_brick) (j ∷ path)) = ap (λ (f : Proc). w.address (location_of f j path)) o.leads in
      word ∙ whole ∙ sym o.lies ∙ sym there ∙ sym (leads_word w (out-Mode u) place (shared_mode (scope_of p) b j path))

  -- ---- procedures and strings

  proc_resolves : (m b : ℕ) (p : ModuleParts) (v : Mode) → module_of ps m ≡ Some p → (r : Relocation) → r.of ≡ relocated.Brick b → r.offset ≡ 0 → proc_mode (scope_of p).bricks b ≡ Some v → relocated_word os stacks of m r ≡ entry_of os stacks (lead (home_of ps m p) b)
  proc_resolves m b p v e r is off h =
      let f = lead (home_of ps m p) b in
      let named : named_address os stacks of m r.of ≡ entry_of os stacks f = ap (named_address os stacks of m) is ∙ bound.procs m b p v e h in
      let small = bound.entries f in
      ap (λ (z : ℕ). wrap_add z r.offset) named ∙ ap (wrap_add (entry_of os stacks f)) off ∙ whole_sum (entry_of os stacks f) 0 (omega arith) ∙ (let q : entry_of os stacks f + 0 ≡ entry_of os stacks f = omega arith in q)

  text_resolves : (m i : ℕ) (p : ModuleParts) → module_of ps m ≡ Some p → (r : Relocation) → r.of ≡ relocated.String i → r.offset ≡ 0 → nat_lt i (length p.strings) ≡ true → relocated_word os stacks of m r ≡ w.address (Shared (origin.Text m i) [])
  text_resolves m i p e r is off h =
      let k = known_at m p e in
      let x = there_is p.strings i (ltb-true i (length p.strings) h) in
      let at = text_at ps ls os s.layouts s.same s.trees trees.filled trees.ends counted m i p x.0 k x.1 in
      let strings : slice_get (strings_of os m) i ≡ Some x.0 = ap (λ (z : Option ObjectParts). slice_get (strings_in z) i) k.its ∙ at in
      let named : named_address os stacks of m r.of ≡ string_at os stacks m i = ap (named_address os stacks of m) is ∙ ap (λ (z : Option (List ℕ)). if_there z (string_at os stacks m i)) strings in
      let stands : StandsAt ps (Shared (origin.Text m i) []) p.modes (text_mode x.0) = in_text e x.1 refl in
      let below : w.address (Shared (origin.Text m i) []) < data_end os stacks = byte_below ps S sized (base_of os stacks) (code_end os stacks) (data_end os stacks) bases (Shared (origin.Text m i) []) p.modes (text_mode x.0) (place ps S sized (Shared (origin.Text m i) []) p.modes (text_mode x.0) stands) in
      let none = no_text (S m) (records_in (module_of ps m)) (string_in (module_of ps m) i) in
      let address : w.address (Shared (origin.Text m i) []) ≡ string_at os stacks m i + 0 = ap (λ (z : ℕ). string_at os stacks m i + z) none in
      let small = data_small in
      ap (λ (z : ℕ). wrap_add z r.offset) named ∙ ap (wrap_add (string_at os stacks m i)) off ∙ whole_sum (string_at os stacks m i) 0 (omega arith) ∙ sym address

  known_resolves : (m : ℕ) (p : ModuleParts) (e : module_of ps m ≡ Some p) → let k = known_at m p e in Resolves (relocated_word os stacks of m) (word_of w) k.layouts (scope_of p) (home_of ps m p)
  known_resolves m p e = record {
    numbers = λ n. refl;
    small = λ r. omega arith;
    texts = λ r i is off h. text_resolves m i p e r is off h;
    procs = λ r b v is off h. proc_resolves m b p v e r is off h;
    places = λ r b j path v u is off h fits. place_resolves m b j p path v u e r is off h;
  }

  pub all_resolve : AllResolve w ps ls os stacks of
  all_resolve m p l e at =
      let k = known_at m p e in
      let same : k.layouts ≡ l = some_is k.layouts l (sym k.at ∙ at) in
      subst (λ (z : Layouts). Resolves (relocated_word os stacks of m) (word_of w) z (scope_of p) (home_of ps m p)) same (known_resolves m p e)

pub relocations_resolve : FullModesOpen → RelocationsResolve
relocations_resolve opens counted ps ls os tasks image mapped s trees tables bound = all_resolve opens counted ps ls os tasks image mapped s trees tables bound
