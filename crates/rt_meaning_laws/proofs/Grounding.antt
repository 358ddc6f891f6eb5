-- The numbers of a module of a system that fits lead to what its nodes take them for.
use Rattle.std.proofs.Common.{◌≡◌, inl, ℕ, zero, suc, ◌<◌, ◌||◌, Bool, true, false, if◌then◌else◌, List, [], ◌∷◌, map, Option, Some, None, option_map, length, slice_get, refl, sym, ap, ◌∙◌, subst, arith}
use Rattle.rt_modes.specs.declared.mode.Field.{Field}
use Rattle.rt_modes.specs.declared.mode.Mode.{Mode}
use Rattle.rt_modes.specs.declared.mode.Mode.TheVariants as mode
use Rattle.rt_modes.specs.declared.mode.ModeTable.{ModeTable}
use Rattle.rt_modes.specs.FullMode.{FullMode, FullData}
use Rattle.rt_tree_nodes.specs.declared.brick.Brick.{Brick}
use Rattle.rt_tree_nodes.specs.declared.brick.BrickSort.{BrickSort}
use Rattle.rt_tree_nodes.specs.declared.brick.BrickSort.TheVariants as sort
use Rattle.rt_tree_nodes.specs.declared.brick.DataStart.{DataStart}
use Rattle.rt_tree_nodes.specs.declared.brick.Kind.TheVariants as kind
use Rattle.rt_tree_nodes.specs.declared.brick.ModuleParts.{ModuleParts}
use Rattle.rt_tree_nodes.specs.declared.store.Datum.TheVariants.{Row}
use Rattle.rt_tree_nodes.specs.declared.store.Location.TheVariants as location
use Rattle.rt_tree_nodes.specs.declared.store.Origin.TheVariants as origin
use Rattle.rt_tree_nodes.specs.declared.store.Proc.{Proc}
use Rattle.rt_tree_nodes.proofs.Same.{out_same}
use Rattle.rt_tree_nodes.specs.Scopes.{with, is_svc, field_at, faces, face, sort_of, fields_in, fields_of, is_errors, is_streams, proc_mode}
use Rattle.rt_tree_nodes.specs.Typing.{Found, Shared, kept, item_found}
use Rattle.rt_tree.specs.Modules.{is_here}
use Rattle.rt_tree.specs.Stored as s
use Rattle.rt_tree.specs.Stored.{System, HasBrick, StandsFor, StandsAt, Suits, IsCandidate, module_of, text_mode}
use Rattle.rt_resolve.specs.Bindings.{bound}
use Rattle.rt_resolve.specs.Starting.{text_length}
use Rattle.rt_resolve.specs.Systems.{env_of}
use Rattle.rt_work_state.specs.Nodes as n
use Rattle.rt_work_state.specs.Nodes.{proc_in as proc_or, length_in}
use Rattle.rt_work_state.specs.Items.{item_of}
use Rattle.rt_tree.specs.FullModes.{MayStand}
use Rattle.rt_meaning_laws.specs.Levels.{of_module}
use Rattle.rt_meaning_laws.specs.Slots.{LeadsTo}
use Rattle.rt_meaning_laws.specs.Trees.{Site}
use Rattle.rt_meaning_laws.specs.Work.{MayCall}
use Rattle.rt_meaning_laws.specs.Grounds.{Sound, Grounds}
use Rattle.rt_meaning_laws.specs.Systems.{SystemFits}
use Rattle.rt_resolve.specs.Matching.{SortSame}
use Rattle.rt_meaning_laws.proofs.Modes.{out_byte, out_array}
use Rattle.rt_meaning_laws.proofs.Places.{same_field}
use Rattle.rt_meaning_laws.proofs.Nodes.{item_may, proc_opens}
use Rattle.rt_meaning_laws.proofs.Soundness.{proc_sort, stands_call}
use Rattle.rt_resolve_laws.proofs.Links.{bound_stands, brick_bound}
use Rattle.rt_meaning_laws.proofs.Small.{some_same}

-- ---- the items that all tasks share

abbrev ItemIs : List Brick → ℕ → ℕ → Mode → Type 0
ItemIs bs b i m = (d : Brick) × (fs : List Field) × (ss : List DataStart) × (slice_get bs b ≡ Some d) × (d.sort ≡ sort.Data fs ss) × (is_svc d.kind ≡ false) × (field_at fs i ≡ Some m)

kept_shared : (c : Bool) (o : Option Mode) (m : Mode) → option_map (kept c) o ≡ Some (Shared m) → (c ≡ false) × (o ≡ Some m)
kept_shared true None m e = absurd cc
kept_shared true (Some v) m e = absurd cc
kept_shared false None m e = absurd cc
kept_shared false (Some v) m e = let same : Shared v ≡ Shared m = cc in (refl, let is : v ≡ m = cc in ap (λ (x : Mode). Some x) is)

sort_shared : (d : Brick) (i : ℕ) (m : Mode) (z : BrickSort) → d.sort ≡ z → with (fields_in (sort_of z)) (λ fs. option_map (kept (is_svc d.kind)) (field_at fs i)) ≡ Some (Shared m)
    → (fs : List Field) × (ss : List DataStart) × (d.sort ≡ sort.Data fs ss) × (is_svc d.kind ≡ false) × (field_at fs i ≡ Some m)
sort_shared d i m (sort.Data fs ss) e h = let k = kept_shared (is_svc d.kind) (field_at fs i) m h in (fs, ss, e, k.0, k.1)
sort_shared d i m (sort.Proc w body) e h = absurd cc
sort_shared d i m (sort.Stack k) e h = absurd cc

not_supplied : (c : Bool) (o : Option (List Field)) (g : List Field → Option Found) (f : Found) → with (if c then None else o) g ≡ Some f → with o g ≡ Some f
not_supplied true o g f e = absurd cc
not_supplied false o g f e = e

pub shared_item : (bs : List Brick) (b i : ℕ) (m : Mode) → item_found (faces bs) b i ≡ Some (Shared m) → ItemIs bs b i m
shared_item [] b i m e = absurd cc
shared_item (d ∷ bs) zero i m e =
    let h = sort_shared d i m d.sort refl (not_supplied (is_errors (face d) || is_streams (face d)) (fields_of (face d)) (λ fs. option_map (kept (is_svc d.kind)) (field_at fs i)) (Shared m) e) in
    (d, h.0, h.1, refl, h.2, h.3, h.4)
shared_item (d ∷ bs) (suc b) i m e = let h = shared_item bs b i m e in (h.0, h.1, h.2, h.3, h.4, h.5, h.6)

pub proc_there : (bs : List Brick) (b : ℕ) (w : Mode) → proc_mode (faces bs) b ≡ Some w → (d : Brick) × (slice_get bs b ≡ Some d)
proc_there [] b w e = absurd cc
proc_there (d ∷ bs) zero w e = (d, refl)
proc_there (d ∷ bs) (suc b) w e = proc_there bs b w e

string_there : (xs : List (List ℕ)) (k : ℕ) → k < length xs → (text : List ℕ) × (slice_get xs k ≡ Some text) × (slice_get (map text_length xs) k ≡ Some (length text))
string_there [] k h = absurd (grind arith)
string_there (x ∷ xs) zero h = (x, refl, refl)
string_there (x ∷ xs) (suc k) h = string_there xs k (grind arith)

data_by : (t u : ModeTable) (fs : List Field) (ss : List DataStart) (z : BrickSort) → SortSame t u (sort.Data fs ss) z → (gs : List Field) × (ts : List DataStart) × (z ≡ sort.Data gs ts) × (FullData t fs ≡ FullData u gs)
data_by t u fs ss (sort.Data gs ts) h = (gs, ts, refl, h)
data_by t u fs ss (sort.Proc w body) h = absurd h
data_by t u fs ss (sort.Stack k) h = absurd h

module _ (ps : System) (fits : SystemFits ps) (so : Sound ps) where
  -- where an item of a data brick is
  pub item_leads : {m b : ℕ} {p : ModuleParts} {d : Brick} (i : ℕ) (v : Mode) (fs : List Field) (ss : List DataStart) (f : Proc) → StandsFor ps m b f → HasBrick ps m b p d → d.sort ≡ sort.Data fs ss → is_svc d.kind ≡ false → field_at fs i ≡ Some v → LeadsTo ps p.modes v (item_of f i)
  item_leads {m} {b} {p} {d} i v fs ss _ (s.itself {p = q} {d = e} h is) g sd ns fa =
      let one : q ≡ p = some_same q p (module_of ps m) h.of g.of in
      let two : e ≡ d = some_same e d (slice_get p.bricks b) (ap (λ (y : ModuleParts). slice_get y.bricks b) (sym one) ∙ h.at) g.at in
      let st : MayStand p.modes v = item_may p (fits.nodes m g.of) b d fs ss i v g.at sd ns fa in
      record {
        table = p.modes;
        is = v;
        known = of_module m g.of;
        at = s.in_brick g (ap (λ (y : Brick). is_here y.kind) (sym two) ∙ is) sd fa refl;
        same = refl;
        here = st;
        there = inl st;
      }
  item_leads {m} {b} {p} {d} i v fs ss _ (s.entry {n = n} {c = c} {p = p2} {q = q} {d = d2} {e = e} h ext k ent name) g sd ns fa =
      let one : p2 ≡ p = some_same p2 p (module_of ps m) h.of g.of in
      let two : d2 ≡ d = some_same d2 d (slice_get p.bricks b) (ap (λ (y : ModuleParts). slice_get y.bricks b) (sym one) ∙ h.at) g.at in
      let link = fits.matched.entries g (ap (λ (y : Brick). y.kind) (sym two) ∙ ext) in
      let num = fits.matched.one k ent link.4 link.5 (name ∙ ap (λ (y : Brick). y.name) two ∙ sym link.6) in
      let three : q ≡ link.2 = some_same q link.2 (module_of ps link.0) (ap (module_of ps) (sym num.0) ∙ k.of) link.4.of in
      let four : e ≡ link.3 = some_same e link.3 (slice_get link.2.bricks link.1) (ap (λ (y : ModuleParts). slice_get y.bricks link.1) (sym three) ∙ ap (λ (j : ℕ). slice_get q.bricks j) (sym num.1) ∙ k.at) link.4.at in
      let z = data_by p.modes link.2.modes fs ss link.3.sort (subst (λ (y : BrickSort). SortSame p.modes link.2.modes y link.3.sort) sd link.7) in
      let full : FullData q.modes z.0 ≡ FullData p.modes fs = ap (λ (y : ModuleParts). FullData y.modes z.0) three ∙ sym z.3 in
      let se : e.sort ≡ sort.Data z.0 z.1 = ap (λ (y : Brick). y.sort) four ∙ z.2 in
      let ne : is_svc e.kind ≡ false = ap is_svc ent in
      let there = fits.data_modes n c m b q p e d z.0 fs z.1 ss k se ne g sd ns full in
      let w = same_field ps so q.modes (of_module n k.of) q.modes p.modes z.0 fs i v there fa in
      record {
        table = q.modes;
        is = w.0;
        known = of_module n k.of;
        at = s.in_brick k (ap is_here ent) se w.1 refl;
        same = w.2;
        here = item_may p (fits.nodes m g.of) b d fs ss i v g.at sd ns fa;
        there = inl (item_may q (fits.nodes n k.of) c e z.0 z.1 i w.0 k.at se ne w.1);
      }
  item_leads {m} {b} {p} {d} i v fs ss _ (s.supplied {p = q} {d = e} h svc name) g sd ns fa =
      let one : q ≡ p = some_same q p (module_of ps m) h.of g.of in
      let two : e ≡ d = some_same e d (slice_get p.bricks b) (ap (λ (y : ModuleParts). slice_get y.bricks b) (sym one) ∙ h.at) g.at in
      let no : true ≡ false = sym (ap is_svc svc) ∙ ap (λ (y : Brick). is_svc y.kind) two ∙ ns in
      absurd cc

  pub not_svc : (d : Brick) → is_svc d.kind ≡ false → d.kind ≡ kind.Svc → ⊥
  not_svc d n e = let no : true ≡ false = sym (ap is_svc e) ∙ n in absurd cc

  pub bound_here : (m b : ℕ) (p : ModuleParts) (d : Brick) → slice_get p.bricks b ≡ Some d → n.brick_of (env_of ps m p) b ≡ bound ps m b d
  bound_here m b p d e = ap proc_or (brick_bound ps m b p d e)

  pub module_grounds : (m : ℕ) (x : Site) → module_of ps m ≡ Some x.parts → Grounds ps x (n.env (env_of ps m x.parts))
  module_grounds m x of = record {
    known = of_module m of;
    items = λ b i v e.
        let h = shared_item x.parts.bricks b i v e in
        let g : HasBrick ps m b x.parts h.0 = record { of = of; at = h.3 } in
        let st : StandsFor ps m b (bound ps m b h.0) = bound_stands ps fits.matched g (λ k. absurd (not_svc h.0 h.5 k)) in
        subst (λ (f : Proc). LeadsTo ps x.parts.modes v (item_of f i)) (sym (bound_here m b x.parts h.0 h.3)) (item_leads i v h.1 h.2 (bound ps m b h.0) st g h.4 h.5 h.6);
    texts = λ k v w l o b.
        let h = string_there x.parts.strings k l in
        let same : mode.Byte ≡ w = out_same mode.Byte w (out_byte ∙ sym b) in
        let row : Suits ps x.parts.modes v (Row (location.Shared (origin.Text m k) []) (length h.0)) =
        s.row o (s.in_text of h.1 refl) (out_array (length h.0) mode.Byte) (ap (λ (y : Mode). FullMode x.parts.modes y) same) in
        subst (λ (y : Option ℕ). Suits ps x.parts.modes v (Row (location.Shared (origin.Text m k) []) (length_in y))) (sym h.2) row;
    procs = λ b w e.
        let d = proc_there x.parts.bricks b w e in
        let z = proc_sort x.parts.bricks b d.0 w d.1 e in
        let g : HasBrick ps m b x.parts d.0 = record { of = of; at = d.1 } in
        let o = proc_opens x.parts (fits.nodes m of) b d.0 w z.0 d.1 z.1 in
        let st : StandsFor ps m b (bound ps m b d.0) = bound_stands ps fits.matched g (λ k. (w, z.0, z.1)) in
        (o.0, o.1, o.2, o.3, subst (λ (f : Proc). MayCall ps (FullMode x.parts.modes w) f) (sym (bound_here m b x.parts d.0 d.1)) (stands_call ps fits st of e));
    taken_are = λ b w e c.
        let d = proc_there x.parts.bricks b w e in
        let z = proc_sort x.parts.bricks b d.0 w d.1 e in
        let g : HasBrick ps m b x.parts d.0 = record { of = of; at = d.1 } in
        let st : StandsFor ps m b (bound ps m b d.0) = bound_stands ps fits.matched g (λ k. (w, z.0, z.1)) in
        subst (λ (f : Proc). IsCandidate ps (FullMode x.parts.modes w) f) (sym (bound_here m b x.parts d.0 d.1)) (s.named of c e refl st);
  }
