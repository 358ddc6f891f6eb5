-- Fixed places lie where the records of the module that names them say.
use Rattle.std.proofs.Common.{true, ◌≡◌, ℕ, ◌+◌, inl, List, [], ◌∷◌, ◌++◌, length, replicate, Option, Some, slice_get, refl, sym, ap, ◌∙◌, subst, arith, append_assoc}
use Rattle.rt_modes.specs.declared.mode.Field.{Field}
use Rattle.rt_modes.specs.declared.mode.Mode.{Mode}
use Rattle.rt_modes.specs.declared.mode.ModeTable.{ModeTable}
use Rattle.rt_tree_nodes.specs.declared.brick.Brick.{Brick}
use Rattle.rt_tree_nodes.specs.declared.brick.BrickSort.TheVariants as sort
use Rattle.rt_tree_nodes.specs.declared.brick.DataStart.{DataStart}
use Rattle.rt_tree_nodes.specs.declared.brick.ModuleParts.{ModuleParts}
use Rattle.rt_tree_nodes.specs.declared.store.Location.{Location}
use Rattle.rt_tree_nodes.specs.declared.store.Location.TheVariants.{Shared}
use Rattle.rt_tree_nodes.specs.declared.store.Origin.{Origin}
use Rattle.rt_tree_nodes.specs.declared.store.Origin.TheVariants as origin
use Rattle.rt_tree_nodes.specs.Scopes.{scope_of}
use Rattle.rt_tree.specs.Modules.{is_here}
use Rattle.rt_tree.specs.Opened.{IsTable, FullModesOpen}
use Rattle.rt_tree.specs.Stored.{System, HasBrick, StandsAt, module_of}
use Rattle.rt_sizes.specs.Sizes.{End, even, offset}
use Rattle.rt_sizes.proofs.Layers.{some_is}
use Rattle.rt_sizes_laws.proofs.Deeper.{place_of as place_at, place_grows, whole_lists_are_known}
use Rattle.rt_work_state.specs.Items.{item}
use Rattle.rt_resolve.specs.Systems.{world}
use Rattle.rt_icode.specs.declared.ins.Fixed.{Fixed}
use Rattle.rt_icode_meaning.specs.Move.{place_of, within_fields}
use Rattle.rt_icode_meaning.specs.Typed.{IsFixed, Inside, here, field}
use Rattle.rt_meaning_laws.specs.Levels.{IsTableOf, of_module}
use Rattle.rt_compile.specs.Data.{data_of}
use Rattle.rt_compile.specs.DataLaws.{BytesAreCounted}
use Rattle.rt_object.specs.declared.object.ObjectParts.{ObjectParts}
use Rattle.rt_system.specs.declared.parts.Task.{Task}
use Rattle.rt_image.specs.declared.image.ImageParts.{ImageParts}
use Rattle.rt_image.specs.declared.map.Map.{Map}
use Rattle.rt_lower.specs.declared.layouts.Layouts.{Layouts}
use Rattle.rt_lower.specs.Layouts.{AreLayouts, table_of}
use Rattle.std.proofs.lemmas.List.{append-nil}
use Rattle.rt_places.specs.Places.{Leads}
use Rattle.rt_places.specs.Systems.{HasSizes}
use Rattle.rt_places.proofs.Along.{reached}
use Rattle.rt_places.proofs.Standing.{InBrick, stands, brick_offset}
use Rattle.rt_bases.specs.Bases.{base_of}
use Rattle.rt_laid.proofs.Alike.{tells, leads_alike}
use Rattle.rt_follows.specs.Whole.{Whole}
use Rattle.rt_imaged.specs.Whole.{whole_of, sizes_of, IsSystem}
use Rattle.rt_imaged.specs.Trees.{TreesAre}
use Rattle.rt_imaged.specs.Fixed.{FacesAlike, FixedAreLaid}
use Rattle.rt_imaged.proofs.Trees.{Known, known, has_sizes}

within_are : (o : Origin) (path ks : List ℕ) → within_fields (Shared o path) ks ≡ Shared o (path ++ ks)
within_are o path [] = ap (Shared o) (sym (append-nil path))
within_are o path (k ∷ ks) = within_are o (path ++ k ∷ []) ks ∙ ap (Shared o) (append_assoc path (k ∷ []) ks)

-- fields, one in the other, are a path
inside_leads : (p : ModuleParts) (l : Layouts) (right : AreLayouts p l) (m w : Mode) (ks : List ℕ) (x : ℕ) → Inside p.modes m ks w x → Leads p.modes.records (λ k. slice_get l.sizes k) ks m w x
inside_leads p l right m w ks x here = (refl, refl)
inside_leads p l right m w ks x (field {n = n} {r = r} {k = k} {o = o} {p = y} {ks = js} {d = d} {f = f} is at has begins mode rest) =
    (n, o, y, inl (record { number = r; def = d; field = f; is = is; at = at; has = has; mode = mode; begins = tells p l right (place_at d.fields k) (place_grows d.fields k) o begins }), inside_leads p l right n w js y rest, refl)

module _ (opens : FullModesOpen) (bytes_counted : BytesAreCounted) (ps : System) (ls : List Layouts) (os : List ObjectParts) (tasks : List Task) (image : ImageParts) (mapped : Map) (s : IsSystem ps ls os tasks image mapped) (trees : TreesAre ps) (tables : (t : ModeTable) → IsTableOf ps t → IsTable t) (alike : FacesAlike ps) where
  abbrev w : Whole
  w = whole_of ps ls os s.linked.known image

  abbrev S : ℕ → ℕ → Option ℕ
  S = sizes_of ls

  counted : (l : Layouts) (m b : ℕ) (p : ModuleParts) (d : Brick) (fs : List Field) (ss : List DataStart) (n : ℕ) → HasBrick ps m b p d → is_here d.kind ≡ true → d.sort ≡ sort.Data fs ss → End (table_of p.modes.records) fs n → length (data_of l (scope_of p) fs ss).bytes ≡ even n
  counted l m b p d fs ss n has h is end = bytes_counted l p fs ss n (trees.nodes m p has.of) (record { number = b; brick = d; there = has.at; here = h; sort_is = is }) end

  sized : HasSizes ps S
  sized = has_sizes ps ls os s.layouts s.same s.trees trees.filled trees.ends counted

  known_at : (m : ℕ) (p : ModuleParts) → module_of ps m ≡ Some p → Known ps ls os s.layouts s.same s.trees trees.filled trees.ends counted m p
  known_at m p e = known ps ls os s.layouts s.same s.trees trees.filled trees.ends counted m p e

  in_owner : (m n c : ℕ) (p : ModuleParts) (f : Fixed) (v : Mode) (t : ModeTable) (u : Mode) (o : ℕ) → module_of ps m ≡ Some p → IsFixed ps p ((world ps).env m) f v → ((world ps).env m).leads f.brick ≡ record { «module» = n; brick = c }
      → InBrick ps S sized n c f.item f.fields t u o → o ≡ f.offset
  in_owner m n c p f v t u o of h leads_to at =
      let k = known_at m p of in
      let j = known_at n at.room.parts at.room.has.of in
      let gt = tables p.modes (of_module m of) in
      let gu = tables at.room.parts.modes (of_module n at.room.has.of) in
      let same = alike m f.brick n c p at.room.parts h.face h.fields at.room.fields at.room.brick at.room.starts of h.at h.has leads_to at.room.has at.room.here at.room.sort in
      let begins = same.begin_too (replicate (length p.modes.records) true) (replicate (length at.room.parts.modes.records) true) f.item h.begins (whole_lists_are_known at.room.parts.modes.records) h.begins_at in
      let own : offset (λ i. slice_get j.layouts.sizes i) at.room.fields f.item ≡ Some h.begins = tells at.room.parts j.layouts j.is.right (place_at at.room.fields f.item) (place_grows at.room.fields f.item) h.begins begins in
      let there : offset (S n) at.room.fields f.item ≡ Some h.begins = subst (λ (g : ℕ → Option ℕ). offset g at.room.fields f.item ≡ Some h.begins) (sym j.sizes) own in
      let first : at.begin ≡ h.begins = some_is at.begin h.begins (sym at.begins ∙ there) in
      let one = same.modes f.item h.item at.field h.is at.at in
      let path = inside_leads p k.layouts k.is.right h.item.mode v f.fields h.more h.inside in
      let other = leads_alike opens p at.room.parts k.layouts j.layouts k.is.right j.is.right gt gu f.fields h.item.mode at.field.mode v h.more one path in
      let moved : Leads at.room.parts.modes.records (S n) f.fields at.field.mode other.0 h.more = subst (λ (g : ℕ → Option ℕ). Leads at.room.parts.modes.records g f.fields at.field.mode other.0 h.more) (sym j.sizes) other.1 in
      let sizes = sized.records n at.room.parts at.room.has.of in
      let a = reached at.room.parts.modes.records (S n) sizes f.fields at.field.mode other.0 h.more moved in
      let b = reached at.room.parts.modes.records (S n) sizes f.fields at.field.mode u at.more at.leads in
      let second : at.more ≡ h.more = sym b ∙ a in
      let is : o ≡ at.begin + at.more = at.is in
      let off : f.offset ≡ h.begins + h.more = h.offset in omega arith

  fixed : (m : ℕ) (p : ModuleParts) (f : Fixed) (v : Mode) → module_of ps m ≡ Some p → IsFixed ps p ((world ps).env m) f v
      → w.address (place_of ((world ps).env m) f) ≡ w.base (origin.Brick (((world ps).env m).leads f.brick).module (((world ps).env m).leads f.brick).brick) + f.offset
  fixed m p f v of h =
      let lead = ((world ps).env m).leads f.brick in
      let place : place_of ((world ps).env m) f ≡ Shared (origin.Brick lead.module lead.brick) (f.item ∷ f.fields) = within_are (origin.Brick lead.module lead.brick) (f.item ∷ []) f.fields in
      let at = subst (λ (l : Location). StandsAt ps l h.leads.table h.leads.is) place h.leads.at in
      let st = stands ps S sized (Shared (origin.Brick lead.module lead.brick) (f.item ∷ f.fields)) h.leads.table h.leads.is at in
      let far = in_owner m lead.module lead.brick p f v h.leads.table h.leads.is st.0 of h refl st.1 in
      let off = brick_offset ps S sized lead.module lead.brick f.item f.fields h.leads.table h.leads.is st.0 st.1 in
      ap w.address place ∙ ap (λ (z : ℕ). base_of os s.linked.known.stacks (origin.Brick lead.module lead.brick) + z) (off ∙ far)

pub fixed_are_laid : FullModesOpen → FixedAreLaid
fixed_are_laid opens counted ps ls os tasks image mapped s trees tables alike = fixed opens counted ps ls os tasks image mapped s trees tables alike
