-- The state in which a system begins fits.
use Rattle.std.proofs.Common.{◌≡◌, ℕ, zero, suc, ◌+◌, ◌<◌, Bool, true, false, if◌then◌else◌, ◌==◌, List, [], ◌∷◌, map, Option, Some, length, slice_get, refl, sym, ap, ◌∙◌, subst, arith}
use Rattle.std.specs.List.{list_all, AllByRecursion, Contains}
use Rattle.std.proofs.lemmas.List.Elements.{Contains-append_left, Contains-append_right}
use Rattle.rt_modes.specs.declared.mode.Field.{Field}
use Rattle.rt_modes.specs.declared.mode.Mode.TheOpen.{Mode-F}
use Rattle.rt_modes.specs.declared.mode.Mode.TheVariants as mode
use Rattle.rt_modes.specs.declared.mode.ModeTable.{ModeTable}
use Rattle.rt_modes.specs.FullMode.{joined}
use Rattle.rt_tree_nodes.specs.declared.brick.Brick.{Brick}
use Rattle.rt_tree_nodes.specs.declared.brick.BrickSort.{BrickSort}
use Rattle.rt_tree_nodes.specs.declared.brick.BrickSort.TheVariants as sort
use Rattle.rt_tree_nodes.specs.declared.brick.DataStart.{DataStart}
use Rattle.rt_tree_nodes.specs.declared.brick.ModuleParts.{ModuleParts}
use Rattle.rt_tree_nodes.specs.declared.store.Contents.{Contents, out-Contents}
use Rattle.rt_tree_nodes.specs.declared.store.Contents as store_contents
use Rattle.rt_tree_nodes.specs.declared.store.Contents.TheOpen.{Contents-F}
use Rattle.rt_tree_nodes.specs.declared.store.Contents.TheVariants as contents
use Rattle.rt_tree_nodes.specs.declared.store.Datum.TheVariants.{Word}
use Rattle.rt_tree_nodes.specs.Scopes.{scope_of}
use Rattle.rt_tree.specs.Modules as modules
use Rattle.rt_tree.specs.Modules.{is_here, item_stands, items_start, data_starts, sort_fits, fields_start}
use Rattle.rt_tree.specs.Stored as s
use Rattle.rt_tree.specs.Stored.{System, HasBrick, Suits, Holds, HoldAll, HoldEach, module_of, text_mode}
use Rattle.rt_tree.specs.Taken.{in_sort, in_brick}
use Rattle.rt_rules.proofs.Ranges.{start_in_ranges}
use Rattle.rt_resolve.specs.Starting as starting
use Rattle.rt_resolve.specs.Starting.{Home, parts, home_of, sort_contents, brick_contents, byte_contents, text_contents, module_store, stores_from, starting_store}
use Rattle.rt_work_state.specs.declared.store.ModuleStore.{ModuleStore}
use Rattle.rt_work_state.specs.Stores.{numbered, brick_in, text_in}
use Rattle.rt_meaning_laws.specs.Tasks.{TypedStore}
use Rattle.rt_meaning_laws.specs.Starting.{NumbersFit}
use Rattle.rt_meaning_laws.specs.Systems.{SystemFits}
use Rattle.rt_meaning_laws.proofs.Modes.{out_byte, out_array}
use Rattle.rt_meaning_laws.proofs.Nodes.{brick_fit}
use Rattle.rt_meaning_laws.proofs.Soundness.{sound}
use Rattle.rt_resolve_laws.proofs.Links.{number_is, from_one}
use Rattle.rt_meaning_laws.proofs.Starts.{items_hold}
use Rattle.rt_meaning_laws.proofs.Beginning.{tasks_fit}
use Rattle.rt_meaning_laws.proofs.Small.{right_of}
use Rattle.rt_meaning_laws.proofs.Writing.{parts_out}
use Rattle.rt_meaning_laws.specs.Laws.{StartsFit}

-- ---- the store of a module

store_at : (ps : List ModuleParts) (m : ℕ) (qs : List ModuleParts) (j i : ℕ) (q : ModuleParts) → slice_get qs j ≡ Some q → i ≡ m + j → slice_get (stores_from ps m qs) j ≡ Some (module_store ps i q)
store_at ps m [] j i q e h = absurd cc
store_at ps m (x ∷ qs) zero i q e h =
    let same : x ≡ q = cc in
    let num : m ≡ i = omega arith in
    ap (λ (y : ModuleParts). Some (module_store ps m y)) same ∙ ap (λ (j : ℕ). Some (module_store ps j q)) num
store_at ps m (x ∷ qs) (suc j) i q e h = store_at ps (suc m) qs j i q e (omega arith)

module_there : (ps : System) (m : ℕ) (p : ModuleParts) → module_of ps m ≡ Some p → numbered (starting_store ps) m ≡ Some (module_store ps m p)
module_there ps m p e =
    let k = number_is m ps p e in
    ap (numbered (starting_store ps)) k.1 ∙ store_at ps 1 ps k.0 m p k.2 (from_one m k.0 k.1)

mapped : {A B : Type 0} (f : A → B) (xs : List A) (k : ℕ) (x : A) → slice_get xs k ≡ Some x → slice_get (map f xs) k ≡ Some (f x)
mapped f [] k x e = absurd cc
mapped f (y ∷ xs) zero x e = let same : y ≡ x = cc in ap (λ z. Some (f z)) same
mapped f (y ∷ xs) (suc k) x e = mapped f xs k x e

byte_out : (b : ℕ) → out-Contents (byte_contents b) ≡ Contents-F.Datum (Word b)
byte_out b = search store_contents.the_lemmas

-- ---- strings

bytes_hold : (ps : System) (t : ModeTable) (bytes : List ℕ) → AllByRecursion (λ b. b < 256) bytes → HoldAll ps t mode.Byte (map byte_contents bytes)
bytes_hold ps t [] h = s.no_element
bytes_hold ps t (b ∷ bytes) h = s.one_element (s.one (byte_out b) (s.byte out_byte h.0)) (bytes_hold ps t bytes h.1)

bytes_count : (bytes : List ℕ) → length (map byte_contents bytes) ≡ length bytes
bytes_count [] = refl
bytes_count (b ∷ bytes) = ap suc (bytes_count bytes)

text_holds : (ps : System) (t : ModeTable) (bytes : List ℕ) → AllByRecursion (λ b. b < 256) bytes → Holds ps t (text_mode bytes) (text_contents bytes)
text_holds ps t bytes h = s.of_array (out_array (length bytes) mode.Byte ∙ ap (λ (n : ℕ). Mode-F.Array n mode.Byte) (sym (bytes_count bytes))) (parts_out (map byte_contents bytes)) (bytes_hold ps t bytes h)

-- ---- bricks

-- the names in one brick's starts are among those of the module
pub in_bricks : (p : ModuleParts) (bs : List Brick) (b : ℕ) (d : Brick) (x : ℕ) → slice_get bs b ≡ Some d → Contains (in_brick p d) x → Contains (joined (map (in_brick p) bs)) x
in_bricks p [] b d x e h = absurd cc
in_bricks p (y ∷ bs) zero d x e h = let same : d ≡ y = cc in Contains-append_left (in_brick p y) (joined (map (in_brick p) bs)) x (subst (λ (z : Brick). Contains (in_brick p z) x) same h)
in_bricks p (y ∷ bs) (suc b) d x e h = Contains-append_right (in_brick p y) (joined (map (in_brick p) bs)) x (in_bricks p bs b d x e h)

module _ (ps : System) (fits : SystemFits ps) (numbers : (m : ℕ) (p : ModuleParts) → module_of ps m ≡ Some p → NumbersFit p) where
  starts_fit : (m b : ℕ) (p : ModuleParts) (d : Brick) (fs : List Field) (ss : List DataStart) → HasBrick ps m b p d → is_here d.kind ≡ true → d.sort ≡ sort.Data fs ss → fields_start (map (modules.starts (scope_of p)) ss) fs ≡ true
  starts_fit m b p d fs ss h is so =
      let all : sort_fits (scope_of p) d.kind d.name (sort.Data fs ss) ≡ true = ap (λ (x : BrickSort). sort_fits (scope_of p) d.kind d.name x) (sym so) ∙ brick_fit p (fits.nodes m h.of) b d h.at in
      let own : data_starts (scope_of p) d.kind fs ss ≡ true = right_of (list_all (item_stands (length p.modes.records) d.kind d.name) fs) _ all in
      by_kind (is_here d.kind) is own
    where
      by_kind : (c : Bool) → c ≡ true → (if c then items_start (scope_of p) ss fs else length ss == 0) ≡ true → fields_start (map (modules.starts (scope_of p)) ss) fs ≡ true
      by_kind true e h = h
      by_kind false e h = absurd cc

  here_contents : (x : Home) (d : Brick) (fs : List Field) (ss : List DataStart) → is_here d.kind ≡ true → d.sort ≡ sort.Data fs ss → brick_contents x d ≡ contents.Parts (parts (map (starting.starts x) ss) fs)
  here_contents x d fs ss is so = ap (λ (c : Bool). contents.Parts (if c then sort_contents x d.sort else [])) is ∙ ap (λ (y : BrickSort). contents.Parts (sort_contents x y)) so

  pub store_typed : TypedStore ps (starting_store ps)
  store_typed = record {
    bricks = λ {m = m} {b = b} {p = p} {d = d} {fs = fs} {ss = ss} h is so.
        let x : Home = home_of ps m p in
        let cs : List Contents = parts (map (starting.starts x) ss) fs in (
          contents.Parts cs,
          cs,
          ap (λ (o : Option ModuleStore). brick_in o b) (module_there ps m p h.of) ∙ mapped (brick_contents x) p.bricks b d h.at ∙ ap (λ (c : Contents). Some c) (here_contents x d fs ss is so),
          parts_out cs,
          items_hold ps fits (sound ps fits) m p h.of ss fs (starts_fit m b p d fs ss h is so)
              (λ y q. in_bricks p p.bricks b d y h.at (subst (λ (z : BrickSort). Contains (in_sort p z) y) (sym so) q))
              ((numbers m p h.of).starts b d fs ss h.at so),
        );
    texts = λ {m = m} {k = k} {p = p} {s = text} h e. (
      text_contents text,
      ap (λ (o : Option ModuleStore). text_in o k) (module_there ps m p h) ∙ mapped text_contents p.strings k text e,
      text_holds ps p.modes text ((numbers m p h).bytes k text e),
    );
  }

pub starts_fit_all : StartsFit
starts_fit_all ps ts fits numbers tasks = record {
  typed = store_typed ps fits numbers;
  tasks = tasks_fit ps fits ts tasks.roots;
  rules = start_in_ranges _ tasks.can_start;
}
