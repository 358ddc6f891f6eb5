-- The linker and the meaning bind each brick to the same.
use Rattle.std.proofs.Common.{true, false, Bool, ◌≡◌, ℕ, zero, suc, ◌&&◌, ◌||◌, List, [], ◌∷◌, length, Some, slice_get, refl, sym, ap, ◌∙◌, subst}
use Rattle.std.specs.List.{list_all}
use Rattle.rt_modes.specs.declared.mode.Field.{Field}
use Rattle.rt_modes.specs.declared.mode.ModeTable.{ModeTable}
use Rattle.rt_modes.specs.declared.mode.RecordDef.{RecordDef}
use Rattle.rt_modes.specs.FullMode.{FullData}
use Rattle.rt_tree_nodes.specs.declared.brick.Brick.{Brick}
use Rattle.rt_tree_nodes.specs.declared.brick.BrickSort.{BrickSort}
use Rattle.rt_tree_nodes.specs.declared.brick.BrickSort.TheVariants as sort
use Rattle.rt_tree_nodes.specs.declared.brick.DataStart.{DataStart}
use Rattle.rt_tree_nodes.specs.declared.brick.Kind.{Kind}
use Rattle.rt_tree_nodes.specs.declared.brick.Kind.TheVariants as kind
use Rattle.rt_tree_nodes.specs.declared.brick.ModuleParts.{ModuleParts}
use Rattle.rt_tree_nodes.specs.declared.store.Proc.{Proc}
use Rattle.rt_tree_nodes.specs.Scopes.{Face, scope_of, faces, face, sort_of, fields_in, fields_of, is_svc}
use Rattle.rt_tree.specs.Modules.{is_here, every_node_fits, record_stands, brick_fits, sort_fits, data_starts, item_stands, field_stands, is_short}
use Rattle.rt_tree.specs.declared.standing.Standing.TheVariants as standing
use Rattle.rt_tree.specs.Opened.{IsTable, FieldsSame, FullModesOpen}
use Rattle.rt_tree.specs.Stored.{System, HasBrick, StandsFor, itself, entry, module_of, brick}
use Rattle.rt_sizes.proofs.Layers.{some_is}
use Rattle.rt_sizes_laws.specs.Laws.{LieAlike, AllStand}
use Rattle.rt_sizes_laws.proofs.Lying.{fields_lie_alike}
use Rattle.rt_resolve.specs.Bindings.{bound_by, bound, proc_or_none}
use Rattle.rt_resolve.specs.Matching.{SortSame}
use Rattle.rt_resolve.specs.Starting.{home_of, lead}
use Rattle.rt_resolve.specs.Systems.{world}
use Rattle.rt_resolve_laws.proofs.Links.{brick_bound}
use Rattle.rt_resolve_laws.proofs.Resolved.{environments_are_bindings, names_lead_alone}
use Rattle.rt_meaning_laws.specs.Levels.{of_module}
use Rattle.rt_bound.specs.Laws.{ItemsTell, FacesLieAlike}
use Rattle.rt_imaged.specs.Fixed.{FacesAlike}

left_of : (a b : Bool) → a && b ≡ true → a ≡ true
left_of true b e = refl
left_of false b e = absurd cc

right_of : (a b : Bool) → a && b ≡ true → b ≡ true
right_of true b e = e
right_of false b e = absurd cc

each_passes : {A : Type 0} (f : A → Bool) (xs : List A) (k : ℕ) (x : A) → list_all f xs ≡ true → slice_get xs k ≡ Some x → f x ≡ true
each_passes f [] k x e at = absurd cc
each_passes f (y ∷ xs) zero x e at = let is : y ≡ x = cc in subst (λ z. f z ≡ true) is (left_of (f y) (list_all f xs) e)
each_passes f (y ∷ xs) (suc k) x e at = each_passes f xs k x (right_of (f y) (list_all f xs) e) at

-- ---- the items of a data brick that isn't SVC may stand

pub brick_is_fit : (p : ModuleParts) (b : ℕ) (d : Brick) → every_node_fits p ≡ true → slice_get p.bricks b ≡ Some d → brick_fits (scope_of p) d ≡ true
brick_is_fit p b d e at =
    each_passes (brick_fits (scope_of p)) p.bricks b d
    (left_of (list_all (brick_fits (scope_of p)) p.bricks) (list_all is_short p.strings) (right_of (list_all (record_stands (length p.modes.records)) p.modes.records) (list_all (brick_fits (scope_of p)) p.bricks && list_all is_short p.strings) e)) at

item_is : (records : List RecordDef) (k : Bool) (a c : Bool) → k ≡ false → a || (k && c) ≡ true → a ≡ true
item_is records k true c e h = refl
item_is records true false c e h = absurd cc
item_is records false false c e h = absurd cc

all_items : (t : ModeTable) (k : Kind) (name : List ℕ) (fs : List Field) → is_svc k ≡ false → list_all (item_stands (length t.records) k name) fs ≡ true → AllStand t fs
all_items t k name [] e h = tt
all_items t k name (f ∷ fs) e h =
    let one : item_stands (length t.records) k name f ≡ true = left_of (item_stands (length t.records) k name f) (list_all (item_stands (length t.records) k name) fs) h in
    (record { place = standing.Alone; levels = 100; refs = 8; passes = item_is t.records (is_svc k) (field_stands (length t.records) f) _ e one }, all_items t k name fs e (right_of (item_stands (length t.records) k name f) (list_all (item_stands (length t.records) k name) fs) h))

stand : (p : ModuleParts) (b : ℕ) (d : Brick) (fs : List Field) (ss : List DataStart) → every_node_fits p ≡ true → slice_get p.bricks b ≡ Some d → d.sort ≡ sort.Data fs ss → is_svc d.kind ≡ false → AllStand p.modes fs
stand p b d fs ss e at is svc =
    let one : sort_fits (scope_of p) d.kind d.name (sort.Data fs ss) ≡ true = ap (sort_fits (scope_of p) d.kind d.name) (sym is) ∙ brick_is_fit p b d e at in
    all_items p.modes d.kind d.name fs svc (left_of (list_all (item_stands (length p.modes.records) d.kind d.name) fs) (data_starts (scope_of p) d.kind fs ss) one)

fields_same : (t : ModeTable) (fs : List Field) → FieldsSame t t fs fs
fields_same t [] = tt
fields_same t (f ∷ fs) = (refl, refl, fields_same t fs)

-- ---- bricks of matched modules

pub no_svc_here : (k : Kind) → is_here k ≡ true → is_svc k ≡ false
no_svc_here kind.Own e = refl
no_svc_here kind.Ent e = refl
no_svc_here kind.Ext e = absurd cc
no_svc_here kind.Svc e = absurd cc

here_by : (k : Kind) → k ≡ kind.Ent → is_here k ≡ true
here_by k e = ap is_here e

-- what is of one sort with data is data
pub data_same : (t u : ModeTable) (fs : List Field) (ss : List DataStart) (y : BrickSort) → SortSame t u (sort.Data fs ss) y → (gs : List Field) × (ts : List DataStart) × (y ≡ sort.Data gs ts) × (FullData t fs ≡ FullData u gs)
data_same t u fs ss (sort.Data gs ts) h = (gs, ts, refl, h)
data_same t u fs ss (sort.Proc m body) h = absurd h
data_same t u fs ss (sort.Stack n) h = absurd h

module _ (opens : FullModesOpen) (ps : System) (tell : ItemsTell ps) where
  -- a brick is bound to what it stands for
  pub bound_is : (m b : ℕ) (p : ModuleParts) (d : Brick) (f : Proc) → HasBrick ps m b p d → StandsFor ps m b f → bound ps m b d ≡ f
  bound_is m b p d f h st = sym ((environments_are_bindings ps m p h.of).leads b d h.at) ∙ names_lead_alone ps m b f tell.matched st

  pub lead_is : (m b : ℕ) (p : ModuleParts) (d : Brick) (f : Proc) → HasBrick ps m b p d → StandsFor ps m b f → lead (home_of ps m p) b ≡ f
  lead_is m b p d f h st = ap proc_or_none (brick_bound ps m b p d h.at) ∙ bound_is m b p d f h st

  table : (m : ℕ) (p : ModuleParts) → module_of ps m ≡ Some p → IsTable p.modes
  table m p e = tell.tables p.modes (of_module m e)

  pub own_alike : (m b : ℕ) (p : ModuleParts) (d : Brick) (fs : List Field) (ss : List DataStart) → HasBrick ps m b p d → d.sort ≡ sort.Data fs ss → is_svc d.kind ≡ false → LieAlike p.modes p.modes fs fs
  own_alike m b p d fs ss h is svc =
      let all = stand p b d fs ss (tell.nodes m p h.of) h.at is svc in
      fields_lie_alike opens p.modes p.modes fs fs (table m p h.of) (table m p h.of) all all (fields_same p.modes fs)

  pub linked_alike : (m b n c : ℕ) (p q : ModuleParts) (d e : Brick) (fs gs : List Field) (ss ts : List DataStart) → HasBrick ps m b p d → d.sort ≡ sort.Data fs ss → is_svc d.kind ≡ false
      → HasBrick ps n c q e → e.sort ≡ sort.Data gs ts → is_svc e.kind ≡ false → FullData p.modes fs ≡ FullData q.modes gs → LieAlike p.modes q.modes fs gs
  linked_alike m b n c p q d e fs gs ss ts h is svc k are svc_too same =
      fields_lie_alike opens p.modes q.modes fs gs (table m p h.of) (table n q k.of) (stand p b d fs ss (tell.nodes m p h.of) h.at is svc) (stand q c e gs ts (tell.nodes n q k.of) k.at are svc_too)
      (tell.data_modes m b n c p q d e fs gs ss ts h is svc k are svc_too same)

  -- to what a data brick leads that isn't SVC
  pub record Led (m b : ℕ) (p : ModuleParts) (fs : List Field) : Type 0 where
    pub home : ℕ
    pub number : ℕ
    pub owner : ModuleParts
    pub its : Brick
    pub items : List Field
    pub starts : List DataStart
    pub stands_for : StandsFor ps m b (brick home number)
    pub has : HasBrick ps home number owner its
    pub here : is_here its.kind ≡ true
    pub sort_is : its.sort ≡ sort.Data items starts
    pub alike : LieAlike p.modes owner.modes fs items

  pub led_here : (m b : ℕ) (p : ModuleParts) (d : Brick) (fs : List Field) (ss : List DataStart) → HasBrick ps m b p d → d.sort ≡ sort.Data fs ss → is_here d.kind ≡ true → Led m b p fs
  led_here m b p d fs ss h is here =
      record { home = m; number = b; owner = p; its = d; items = fs; starts = ss; stands_for = itself h here; has = h; here = here; sort_is = is; alike = own_alike m b p d fs ss h is (no_svc_here d.kind here) }

  pub led_to : (m b n c : ℕ) (p q : ModuleParts) (d e : Brick) (fs : List Field) (ss : List DataStart) → HasBrick ps m b p d → d.sort ≡ sort.Data fs ss → d.kind ≡ kind.Ext → HasBrick ps n c q e → e.kind ≡ kind.Ent → e.name ≡ d.name → SortSame p.modes q.modes d.sort e.sort → Led m b p fs
  led_to m b n c p q d e fs ss h is ext k ent name same =
      let same_data = data_same p.modes q.modes fs ss e.sort (subst (λ (z : BrickSort). SortSame p.modes q.modes z e.sort) is same) in
      let here = here_by e.kind ent in
      record {
        home = n;
        number = c;
        owner = q;
        its = e;
        items = same_data.0;
        starts = same_data.1;
        stands_for = entry h ext k ent name;
        has = k;
        here = here;
        sort_is = same_data.2;
        alike = linked_alike m b n c p q d e fs same_data.0 ss same_data.1 h is (ap is_svc ext) k same_data.2 (no_svc_here e.kind here) same_data.3;
      }

  pub led : (m b : ℕ) (p : ModuleParts) (d : Brick) (fs : List Field) (ss : List DataStart) → HasBrick ps m b p d → d.sort ≡ sort.Data fs ss → is_svc d.kind ≡ false → Led m b p fs
  led m b p d fs ss h is svc = by_kind d.kind refl
    where
      by_kind : (w : Kind) → d.kind ≡ w → Led m b p fs
      by_kind kind.Own e = led_here m b p d fs ss h is (ap is_here e)
      by_kind kind.Ent e = led_here m b p d fs ss h is (ap is_here e)
      by_kind kind.Ext e = let x = tell.matched.entries h e in led_to m b x.0 x.1 p x.2 d x.3 fs ss h is e x.4 x.5 x.6 x.7
      by_kind kind.Svc e = absurd (let bad : true ≡ false = ap is_svc (sym e) ∙ svc in cc)

  -- ---- faces

  pub face_left : (bs : List Brick) (b : ℕ) (f : Face) → slice_get (faces bs) b ≡ Some f → (d : Brick) × (slice_get bs b ≡ Some d) × (face d ≡ f)
  face_left [] b f e = absurd cc
  face_left (d ∷ bs) zero f e = (d, refl, cc)
  face_left (d ∷ bs) (suc b) f e = face_left bs b f e

  pub data_left : (z : BrickSort) (fs : List Field) → fields_in (sort_of z) ≡ Some fs → (ss : List DataStart) × (z ≡ sort.Data fs ss)
  data_left (sort.Data gs ss) fs e = let is : gs ≡ fs = cc in (ss, ap (λ (x : List Field). sort.Data x ss) is)
  data_left (sort.Proc m body) fs e = absurd cc
  data_left (sort.Stack n) fs e = absurd cc

  -- two bricks at one place are one
  same_place : (m b n c : ℕ) (p q : ModuleParts) (d e : Brick) (P : ModuleParts → Brick → Type 0) → m ≡ n → b ≡ c → HasBrick ps m b p d → HasBrick ps n c q e → P p d → P q e
  same_place m b n c p q d e P em eb h k x =
      let ps_same : p ≡ q = some_is p q (sym h.of ∙ ap (module_of ps) em ∙ k.of) in
      let at : slice_get q.bricks c ≡ Some d = ap (λ (z : ModuleParts). slice_get z.bricks c) (sym ps_same) ∙ ap (slice_get p.bricks) (sym eb) ∙ h.at in
      let ds_same : d ≡ e = some_is d e (sym at ∙ k.at) in
      subst (λ (z : ModuleParts). P z e) ps_same (subst (λ (z : Brick). P p z) ds_same x)

  pub svc_nowhere : (m b n c : ℕ) (p q : ModuleParts) (d e : Brick) → HasBrick ps m b p d → d.kind ≡ kind.Svc → HasBrick ps n c q e → ((world ps).env m).leads b ≡ brick n c → ⊥
  svc_nowhere m b n c p q d e h svc k l =
      let to : bound ps m b d ≡ brick n c = sym ((environments_are_bindings ps m p h.of).leads b d h.at) ∙ l in
      let zero_is : (bound ps m b d).«module» ≡ 0 = ap (λ (w : Kind). (bound_by w ps m b d.name).«module») svc in
      let n_is : 0 ≡ n = sym zero_is ∙ ap (λ (f : Proc). f.«module») to in
      let none : module_of ps 0 ≡ Some q = ap (module_of ps) n_is ∙ k.of in
      none_at q none
    where
      none_at : (q : ModuleParts) → module_of ps 0 ≡ Some q → ⊥
      none_at q x = cc

  pub faces_alike : FacesAlike ps
  faces_alike m b n c p q f fields gs e ts of at has_fields l k here is =
      let x = face_left p.bricks b f at in
      let d = x.0 in
      let h : HasBrick ps m b p d = record { of = of; at = x.1 } in
      let s = data_left d.sort fields (ap fields_of x.2 ∙ has_fields) in
      by_svc (is_svc d.kind) d refl s.0 h s.1
    where
      is_svc_kind : (w : Kind) → is_svc w ≡ true → w ≡ kind.Svc
      is_svc_kind kind.Svc e = refl
      is_svc_kind kind.Own e = absurd cc
      is_svc_kind kind.Ent e = absurd cc
      is_svc_kind kind.Ext e = absurd cc

      items_same : (xs ys : List Field) (ss us : List DataStart) → sort.Data xs ss ≡ sort.Data ys us → xs ≡ ys
      items_same xs ys ss us h = cc

      by_svc : (z : Bool) → (d : Brick) → is_svc d.kind ≡ z → (ss : List DataStart) → HasBrick ps m b p d → d.sort ≡ sort.Data fields ss → LieAlike p.modes q.modes fields gs
      by_svc true d svc ss h s = absurd (svc_nowhere m b n c p q d e h (is_svc_kind d.kind svc) k l)
      by_svc false d svc ss h s =
          let L = led m b p d fields ss h s svc in
          let to : brick L.home L.number ≡ brick n c = sym (names_lead_alone ps m b (brick L.home L.number) tell.matched L.stands_for) ∙ l in
          let one : L.home ≡ n = ap (λ (f : Proc). f.«module») to in
          let two : L.number ≡ c = ap (λ (f : Proc). f.brick) to in
          let both = same_place L.home L.number n c L.owner q L.its e (λ (u : ModuleParts) (v : Brick). (v.sort ≡ sort.Data L.items L.starts) × LieAlike p.modes u.modes fields L.items) one two L.has k (L.sort_is, L.alike) in
          let items : L.items ≡ gs = items_same L.items gs L.starts ts (sym both.0 ∙ is) in
          subst (λ (zs : List Field). LieAlike p.modes q.modes fields zs) items both.1

pub faces_lie_alike : FullModesOpen → FacesLieAlike
faces_lie_alike opens ps tell = faces_alike opens ps tell
