-- The image of a linked system of texts is that of its modules, with a bound on unmarked instructions by its longest procedure.
use Rattle.std.proofs.Common.{◌≡◌, ℕ, zero, suc, ◌≤◌, List, [], ◌∷◌, length, Some, slice_get, refl, sym, ap, ◌∙◌, subst, arith}
use Rattle.std.specs.Prelude.{max}
use Rattle.std.specs.List.{All, AllByRecursion}
use Rattle.rt_modes.specs.declared.mode.Field.{Field}
use Rattle.rt_tree_nodes.specs.declared.brick.Brick.{Brick}
use Rattle.rt_tree_nodes.specs.declared.brick.BrickSort.{BrickSort}
use Rattle.rt_tree_nodes.specs.declared.brick.BrickSort.TheVariants as sort
use Rattle.rt_tree_nodes.specs.declared.brick.ModuleParts.{ModuleParts}
use Rattle.rt_tree_nodes.specs.declared.store.Proc.{Proc}
use Rattle.rt_tree.specs.Stored.{module_of}
use Rattle.rt_object.specs.declared.object.ObjectParts.{ObjectParts}
use Rattle.rt_object.specs.Ranges.{HasObjectRanges}
use Rattle.rt_system.specs.declared.parts.Task.{Task}
use Rattle.rt_image.specs.Laws.{AreInRange}
use Rattle.rt_meaning.specs.declared.begin.SourceTask.{SourceTask}
use Rattle.rt_compile.specs.Objects.{IsObjectOf}
use Rattle.rt_faithful.specs.Imaged.{Imaged}
use Rattle.rt_bricks_laws.specs.Spelled.{IsSpelledName}
use Rattle.rt_bound.specs.Supplied.{IsNamedItem}
use Rattle.rt_text_laws.specs.Systems.{HasText, TextsPromise, TextsPromiseAll, ListsHaveTexts}
use Rattle.rt_imaged.specs.Whole.{source_tasks}
use Rattle.rt_owed.specs.Systems.{AreObjectsOf, HaveAtMost}
use Rattle.rt_owed.specs.Joined.{ModulesPromise, LinkedAreImaged}
use Rattle.rt_imaging.specs.Imaging.{AreCompiled, LinkedImagesAreImaged, items_in, longest_in, longest, tasks_of}
use Rattle.rt_imaging.proofs.Tasks.{tasks_are_those}

-- ---- trees and their objects, one by one

objects_long : (ts : List ModuleParts) (os : List ObjectParts) → AreCompiled ts os → length os ≡ length ts
objects_long [] [] c = refl
objects_long [] (o ∷ os) c = absurd c
objects_long (t ∷ ts) [] c = absurd c
objects_long (t ∷ ts) (o ∷ os) c = ap suc (objects_long ts os c.1)

each_object : (ts : List ModuleParts) (os : List ObjectParts) → AreCompiled ts os → (i : ℕ) (p : ModuleParts) (o : ObjectParts) → slice_get ts i ≡ Some p → slice_get os i ≡ Some o → IsObjectOf p o
each_object [] [] c i p o a b = absurd cc
each_object [] (x ∷ os) c i p o a b = absurd c
each_object (t ∷ ts) [] c i p o a b = absurd c
each_object (t ∷ ts) (x ∷ os) c zero p o a b =
    let tree : t ≡ p = cc in
    let object : x ≡ o = cc in
    subst (λ (z : ModuleParts). IsObjectOf z o) tree (subst (λ (z : ObjectParts). IsObjectOf t z) object c.0.object)
each_object (t ∷ ts) (x ∷ os) c (suc i) p o a b = each_object ts os c.1 i p o a b

each_in_range : (ts : List ModuleParts) (os : List ObjectParts) → AreCompiled ts os → All HasObjectRanges os
each_in_range [] [] c k d less = absurd (omega (arith, less))
each_in_range [] (o ∷ os) c k d less = absurd c
each_in_range (t ∷ ts) [] c k d less = absurd c
each_in_range (t ∷ ts) (o ∷ os) c zero d less = c.0.ranges
each_in_range (t ∷ ts) (o ∷ os) c (suc k) d less = each_in_range ts os c.1 k d (omega (arith, less))

all_have_texts : (ts : List ModuleParts) (os : List ObjectParts) → AreCompiled ts os → AllByRecursion HasText ts
all_have_texts [] [] c = tt
all_have_texts [] (o ∷ os) c = absurd c
all_have_texts (t ∷ ts) [] c = absurd c
all_have_texts (t ∷ ts) (o ∷ os) c = (record { text = c.0.text; is_tree = c.0.is_tree }, all_have_texts ts os c.1)

-- ---- no procedure is longer than the longest

above : (a b c : ℕ) → b ≤ c → b ≤ max a c
above a b c h = omega (arith, h)

in_bricks : (ds : List Brick) (k : ℕ) (d : Brick) → slice_get ds k ≡ Some d → items_in d.sort ≤ longest_in ds
in_bricks [] k d e = absurd cc
in_bricks (x ∷ ds) zero d e =
    let is : x ≡ d = cc in
    let first : items_in x.sort ≤ max (items_in x.sort) (longest_in ds) = omega arith in
    subst (λ (z : Brick). items_in z.sort ≤ max (items_in x.sort) (longest_in ds)) is first
in_bricks (x ∷ ds) (suc k) d e = above (items_in x.sort) (items_in d.sort) (longest_in ds) (in_bricks ds k d e)

in_trees : (ts : List ModuleParts) (k : ℕ) (p : ModuleParts) → slice_get ts k ≡ Some p → longest_in p.bricks ≤ longest ts
in_trees [] k p e = absurd cc
in_trees (t ∷ ts) zero p e =
    let is : t ≡ p = cc in
    let first : longest_in t.bricks ≤ max (longest_in t.bricks) (longest ts) = omega arith in
    subst (λ (z : ModuleParts). longest_in z.bricks ≤ max (longest_in t.bricks) (longest ts)) is first
in_trees (t ∷ ts) (suc k) p e = above (longest_in t.bricks) (longest_in p.bricks) (longest ts) (in_trees ts k p e)

in_module : (ts : List ModuleParts) (m : ℕ) (p : ModuleParts) → module_of ts m ≡ Some p → longest_in p.bricks ≤ longest ts
in_module ts zero p e = absurd cc
in_module ts (suc k) p e = in_trees ts k p e

have_at_most : (ts : List ModuleParts) → HaveAtMost ts (longest ts)
have_at_most ts m b p d mode body has here is =
    let in_tree = in_module ts m p has.of in
    let in_brick : items_in d.sort ≤ longest_in p.bricks = in_bricks p.bricks b d has.at in
    let its : items_in (sort.Proc mode (Some body)) ≤ longest_in p.bricks = subst (λ (s : BrickSort). items_in s ≤ longest_in p.bricks) is in_brick in
    omega (arith, its, in_tree)

-- ---- what texts promise

names_over : (fs : List Field) → AllByRecursion (λ f. IsSpelledName f.name) fs → AllByRecursion IsNamedItem fs
names_over [] h = tt
names_over (f ∷ fs) h = (record { is_name = h.0.is_name; other = h.0.other }, names_over fs h.1)

promised : (ts : List ModuleParts) → TextsPromise ts → ModulesPromise ts
promised ts t = record {
  tables = λ m p of. (t.each m p of).records_are_table;
  nodes = λ m p of. (t.each m p of).nodes_fit;
  named = λ m b p d fs ss has svc is. (let named = (t.each m p has.of).items_are_named b d fs ss has.at is in record { names = names_over fs named.names; apart = named.apart });
  long = λ m b p d mode body has here is. (t.each m p has.of).items_are_some b d mode body has.at is;
  fit = t.modules_fit;
  stay = record {
    filled = λ m r p d of at. (t.each m p of).records_have_fields r d at;
    within = λ m p of. (t.each m p of).procedures_are_within;
    steady = λ m b p d mode body has is. (t.each m p has.of).nothing_recovers b d mode body has.at is;
  };
}

-- ---- tasks

-- both spell the tasks of lines and their roots alike
same_tasks : (ts : List Task) (fs : List Proc) → tasks_of ts fs ≡ source_tasks ts fs
same_tasks [] fs = refl
same_tasks (t ∷ ts) [] = refl
same_tasks (t ∷ ts) (f ∷ fs) = let first : SourceTask = record { root = (f.«module», f.brick); priority = t.priority } in ap (λ (xs : List SourceTask). first ∷ xs) (same_tasks ts fs)

-- ---- all together

pub joined : AreInRange → ListsHaveTexts → TextsPromiseAll → LinkedAreImaged → LinkedImagesAreImaged
joined ranges lists texts imaged trees s tasks image x =
    let promise = promised trees (texts trees (lists trees (all_have_texts trees x.objects x.compiled))) in
    let objects : AreObjectsOf trees x.objects = record { same = objects_long trees x.objects x.compiled; each = each_object trees x.objects x.compiled } in
    let i = imaged trees x.objects s.tasks image x.its_map (longest trees) promise (have_at_most trees) objects (each_in_range trees x.objects x.compiled) x.few x.linked (ranges x.bytes image x.spelled) in
    let same : tasks ≡ source_tasks s.tasks x.linked.known.roots = tasks_are_those x.objects s.tasks x.linked.known tasks x.linked.judged x.tasks_are ∙ same_tasks s.tasks x.linked.known.roots in
    record { whole = i.whole; modules = i.modules; bound = i.bound; imaged = subst (λ (ts : List SourceTask). Imaged i.whole image ts) (sym same) i.imaged }
