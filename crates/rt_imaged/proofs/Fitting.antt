-- What modules that fit say of trees.
use Rattle.std.proofs.Common.{true, false, Bool, ◌≡◌, ◌≢◌, ℕ, zero, suc, ◌≤◌, ◌==◌, ◌&&◌, List, [], ◌∷◌, length, Option, Some, None, if◌then◌else◌, slice_get, get_or, refl, sym, ap, ◌∙◌, subst, arith, leb-true}
use Rattle.std.specs.List.{All, AllByRecursion, list_all}
use Rattle.std.proofs.lemmas.Option.{slice_get_within, slice_get-get_or}
use Rattle.std.proofs.lemmas.List.Elements.{All-get_or}
use Rattle.rt_sizes.proofs.Layers.{some_is}
use Rattle.rt_modes.specs.declared.mode.Field.{Field}
use Rattle.rt_modes.specs.declared.mode.Mode.{Mode, out-Mode}
use Rattle.rt_modes.specs.declared.mode.Mode.TheOpen.{Mode-F}
use Rattle.rt_modes.specs.declared.mode.ModeTable.{ModeTable}
use Rattle.rt_modes.specs.declared.mode.RecordDef.{RecordDef}
use Rattle.rt_compile.specs.Data.{data_of}
use Rattle.rt_compile.specs.Objects.{items_of}
use Rattle.rt_tree_nodes.specs.declared.brick.Brick.{Brick}
use Rattle.rt_tree_nodes.specs.declared.brick.BrickSort.{BrickSort}
use Rattle.rt_tree_nodes.specs.declared.brick.BrickSort.TheVariants as sort
use Rattle.rt_tree_nodes.specs.declared.brick.DataStart.{DataStart}
use Rattle.rt_tree_nodes.specs.declared.brick.ModuleParts.{ModuleParts}
use Rattle.rt_tree_nodes.specs.Scopes.{Scope, passes, faces, face, sort_of, proc_in, proc_of, proc_mode, scope_of}
use Rattle.rt_tree_nodes.specs.Typing.{Signature, signature_by}
use Rattle.rt_tree.specs.Modules.{is_here, every_node_fits, record_stands, brick_fits, sort_fits, procedure_fits, body_fits, stands_alone, data_starts, item_stands, items_start, is_short}
use Rattle.rt_tree.specs.Stored.{System, HasBrick, module_of}
use Rattle.rt_sizes.specs.Sizes.{End}
use Rattle.rt_meaning_laws.specs.Modules.{ModulesFit}
use Rattle.rt_object.specs.Ranges.{IsProcLayer, HasObjectRanges, HasBrickRanges, HasKindRanges, HasContentRanges, HasDataRanges}
use Rattle.rt_object.specs.declared.object.BrickKind.{BrickKind}
use Rattle.rt_object.specs.declared.object.BrickKind.TheVariants as whose
use Rattle.rt_object.specs.declared.object.Content.TheVariants as content
use Rattle.rt_object.specs.declared.object.DataContent.{DataContent}
use Rattle.rt_object.specs.declared.object.ObjectParts.{ObjectParts}
use Rattle.rt_graph.specs.Calls.{content_of}
use Rattle.rt_system.specs.declared.parts.Task.{Task}
use Rattle.rt_image.specs.declared.image.ImageParts.{ImageParts}
use Rattle.rt_image.specs.declared.map.Map.{Map}
use Rattle.rt_lower.specs.declared.layouts.Layouts.{Layouts}
use Rattle.rt_lower.specs.Layouts.{table_of}
use Rattle.rt_imaged.specs.Whole.{IsSystem}
use Rattle.rt_imaged.specs.Trees.{TreesAre}
use Rattle.rt_imaged.specs.Fit.{TreesOfModules}
use Rattle.rt_imaged.proofs.Trees.{its_data}
use Rattle.rt_imaged.proofs.Resolving.{there_is}

left_of : (a b : Bool) → a && b ≡ true → a ≡ true
left_of true b e = refl
left_of false b e = absurd cc

right_of : (a b : Bool) → a && b ≡ true → b ≡ true
right_of true b e = e
right_of false b e = absurd cc

each_passes : {A : Type 0} (f : A → Bool) (xs : List A) (k : ℕ) (x : A) → list_all f xs ≡ true → slice_get xs k ≡ Some x → f x ≡ true
each_passes f [] k x e at = absurd cc
each_passes f (y ∷ xs) zero x e at = let is : y ≡ x = cc in subst (λ z. f z ≡ true) is (left_of (f y) (list_all f xs) e)
each_passes f (y ∷ xs) (suc k) x e at = each_passes f xs k x (right_of (f y) (list_all f xs) e) at

each_is : {A : Type 0} (P : A → Type 0) (xs : List A) (k : ℕ) (x : A) → AllByRecursion P xs → slice_get xs k ≡ Some x → P x
each_is P [] k x h at = absurd cc
each_is P (y ∷ xs) zero x h at = let is : y ≡ x = cc in subst P is h.0
each_is P (y ∷ xs) (suc k) x h at = each_is P xs k x h.1 at

-- ---- a brick of a module whose nodes fit

brick_is_fit : (p : ModuleParts) (b : ℕ) (d : Brick) → every_node_fits p ≡ true → slice_get p.bricks b ≡ Some d → brick_fits (scope_of p) d ≡ true
brick_is_fit p b d e at =
    each_passes (brick_fits (scope_of p)) p.bricks b d
    (left_of (list_all (brick_fits (scope_of p)) p.bricks) (list_all is_short p.strings) (right_of (list_all (record_stands (length p.modes.records)) p.modes.records) (list_all (brick_fits (scope_of p)) p.bricks && list_all is_short p.strings) e)) at

string_is_short : (p : ModuleParts) (k : ℕ) (s : List ℕ) → every_node_fits p ≡ true → slice_get p.strings k ≡ Some s → length s ≤ 8191
string_is_short p k s e at =
    leb-true (length s) 8191 (each_passes is_short p.strings k s
    (right_of (list_all (brick_fits (scope_of p)) p.bricks) (list_all is_short p.strings) (right_of (list_all (record_stands (length p.modes.records)) p.modes.records) (list_all (brick_fits (scope_of p)) p.bricks && list_all is_short p.strings) e)) at)

data_fits : (c : Scope) (d : Brick) (fs : List Field) (ss : List DataStart) → brick_fits c d ≡ true → is_here d.kind ≡ true → d.sort ≡ sort.Data fs ss → items_start c ss fs ≡ true
data_fits c d fs ss e h is =
    let one : sort_fits c d.kind d.name (sort.Data fs ss) ≡ true = ap (sort_fits c d.kind d.name) (sym is) ∙ e in
    let two : data_starts c d.kind fs ss ≡ true = right_of (list_all (item_stands (length c.records) d.kind d.name) fs) (data_starts c d.kind fs ss) one in
    ap (λ (z : Bool). if z then items_start c ss fs else (length ss == 0)) (sym h) ∙ two

signed : (z : Mode-F Mode) (f : Signature → Bool) → passes f (signature_by z) ≡ true → IsProcLayer z
signed (Mode-F.Proc ws r) f e = tt
signed _ f e = absurd cc

abbrev proc_sort : BrickSort → Option Mode
proc_sort z = proc_in (sort_of z)

proc_left : (c : Scope) (d : Brick) (z : BrickSort) (v : Mode) → d.sort ≡ z → brick_fits c d ≡ true → proc_of (face d) ≡ Some v → IsProcLayer (out-Mode v)
proc_left c d (sort.Proc m body) v is e at =
    let one : procedure_fits c d.kind m body ≡ true = ap (sort_fits c d.kind d.name) (sym is) ∙ e in
    let mode : Some m ≡ Some v = ap (λ (q : BrickSort). proc_sort q) (sym is) ∙ at in
    let same : m ≡ v = cc in
    subst (λ (q : Mode). IsProcLayer (out-Mode q)) same (signed (out-Mode m) (λ s. stands_alone (length c.records) m && body_fits c d.kind s body) one)
proc_left c d (sort.Data fs ss) v is e at = absurd (let bad : None ≡ Some v = ap (λ (q : BrickSort). proc_sort q) (sym is) ∙ at in cc)
proc_left c d (sort.Stack n) v is e at = absurd (let bad : None ≡ Some v = ap (λ (q : BrickSort). proc_sort q) (sym is) ∙ at in cc)

proc_at : (bs : List Brick) (k : ℕ) (v : Mode) → proc_mode (faces bs) k ≡ Some v → (d : Brick) × (slice_get bs k ≡ Some d) × (proc_of (face d) ≡ Some v)
proc_at [] k v e = absurd cc
proc_at (d ∷ bs) zero v e = (d, refl, e)
proc_at (d ∷ bs) (suc k) v e = proc_at bs k v e

-- ---- a data brick of an object

held_ranges : (records : List RecordDef) (strings bricks : ℕ) (name : List ℕ) (k : BrickKind) (d : DataContent) → HasKindRanges records strings bricks name k → content_of k ≡ Some (content.Data d) → HasDataRanges records strings bricks d
held_ranges records strings bricks name (whose.Own c) d h e = let is : c ≡ content.Data d = cc in subst (HasContentRanges records strings bricks) is h
held_ranges records strings bricks name (whose.Ent c) d h e = let is : c ≡ content.Data d = cc in subst (HasContentRanges records strings bricks) is h
held_ranges records strings bricks name (whose.Ext x) d h e = absurd cc
held_ranges records strings bricks name (whose.Svc x) d h e = absurd cc

pub all_at : {A : Type 0} (P : A → Type 0) (xs : List A) → All P xs → (k : ℕ) (x : A) → slice_get xs k ≡ Some x → P x
all_at P xs h k x at =
    let less = slice_get_within xs k x at in
    let here : slice_get xs k ≡ Some (get_or xs k x) = slice_get-get_or xs k x less in
    subst P (some_is (get_or xs k x) x (sym here ∙ at)) (All-get_or P xs k x less h)

module _ (ps : System) (ls : List Layouts) (os : List ObjectParts) (tasks : List Task) (image : ImageParts) (mapped : Map) (s : IsSystem ps ls os tasks image mapped) (fit : ModulesFit ps) where
  ends_by : (m b : ℕ) (p : ModuleParts) (d : Brick) (fs : List Field) (ss : List DataStart) → HasBrick ps m b p d → is_here d.kind ≡ true → d.sort ≡ sort.Data fs ss → (n : ℕ) × End (table_of p.modes.records) fs n
  ends_by zero b p d fs ss has here is = absurd (none_at has.of)
    where
      none_at : module_of ps zero ≡ Some p → ⊥
      none_at e = cc
  ends_by (suc i) b p d fs ss has here is =
      let less = slice_get_within ps i p has.of in
      let longs = s.layouts in
      let sames = s.same in
      let l = there_is ls i (omega arith) in
      let o = there_is os i (omega arith) in
      let tree = s.trees i p l.0 o.0 has.of l.1 o.1 in
      let its = its_data l.0 p o.0 b d fs ss tree.object.bricks has.at here is in
      let ranges : HasObjectRanges o.0 = all_at HasObjectRanges os s.object_ranges i o.0 o.1 in
      let brick = each_is (HasBrickRanges o.0.records.records (length o.0.strings) (length o.0.bricks)) o.0.bricks b its.its ranges.each_brick its.at in
      let data_ranges = held_ranges o.0.records.records (length o.0.strings) (length o.0.bricks) its.its.name its.its.kind (items_of fs (data_of l.0 (scope_of p) fs ss)) brick.kind its.holds in
      let size = data_ranges.size.0 in
      let end : End (table_of o.0.records.records) fs size = data_ranges.size.1.0 in
      (size, subst (λ (t : ModeTable). End (table_of t.records) fs size) tree.object.records end)

  pub trees_are : ((m r : ℕ) (p : ModuleParts) (d : RecordDef) → module_of ps m ≡ Some p → slice_get p.modes.records r ≡ Some d → d.fields ≢ []) → TreesAre ps
  trees_are filled = record {
    filled = filled;
    ends = ends_by;
    nodes = λ m p e. fit.nodes m e;
    starts_fit = λ m b p d fs ss has here is. data_fits (scope_of p) d fs ss (brick_is_fit p b d (fit.nodes m has.of) has.at) here is;
    words = λ m b p d fs ss has here is k c. (fit.numbers m p has.of).starts b d fs ss has.at is k c;
    procs = λ m p k v e at. (let d = proc_at p.bricks k v at in proc_left (scope_of p) d.0 d.0.sort v refl (brick_is_fit p k d.0 (fit.nodes m e) d.1) d.2);
    strings = λ m k p t e at. ((fit.numbers m p e).bytes k t at, string_is_short p k t (fit.nodes m e) at);
  }

pub trees_of_modules : TreesOfModules
trees_of_modules ps ls os tasks image mapped s fit filled = trees_are ps ls os tasks image mapped s fit filled
