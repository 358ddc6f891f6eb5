-- The places of a linked system, and its starting store.
use Rattle.std.proofs.Common.{◌≡◌, ℕ, suc, ◌==◌, ◌≤◌, Bool, true, false, ◌&&◌, List, [], ◌∷◌, length, map, Option, Some, refl, sym, ap, subst, arith}
use Rattle.std.proofs.lemmas.Bool.Decides.{nat_tests}
use Rattle.rt_modes.specs.declared.mode.Field.{Field}
use Rattle.rt_modes.specs.declared.mode.ModeTable.{ModeTable}
use Rattle.rt_tree_nodes.specs.declared.brick.Brick.{Brick}
use Rattle.rt_tree_nodes.specs.declared.brick.DataStart.{DataStart}
use Rattle.rt_tree_nodes.specs.declared.brick.ModuleParts.{ModuleParts}
use Rattle.rt_tree_nodes.specs.declared.store.Proc.{Proc}
use Rattle.rt_tree_nodes.specs.Scopes.{scope_of}
use Rattle.rt_tree.specs.FullModes.{FullModesTell}
use Rattle.rt_tree.specs.Opened.{IsTable, FullModesOpen}
use Rattle.rt_tree.specs.Modules.{fields_start}
use Rattle.rt_tree.specs.Modules as modules
use Rattle.rt_tree.specs.Modules.{is_here}
use Rattle.rt_tree.specs.Stored.{System, HasBrick, module_of}
use Rattle.rt_tree_nodes.specs.declared.brick.BrickSort.TheVariants as sort
use Rattle.rt_object.specs.declared.object.Content.TheVariants as content
use Rattle.rt_compile.specs.Data.{data_of}
use Rattle.rt_compile.specs.Objects.{items_of}
use Rattle.rt_lower.specs.Layouts.{table_of}
use Rattle.rt_sizes.specs.Sizes.{even, End}
use Rattle.rt_system.specs.declared.parts.Task.{Task}
use Rattle.rt_image.specs.declared.image.ImageParts.{ImageParts}
use Rattle.rt_image.specs.declared.map.Map.{Map}
use Rattle.rt_resolve.specs.Starting as starting
use Rattle.rt_resolve.specs.Starting.{Home, home_of, parts}
use Rattle.rt_meaning_laws.specs.Grounds.{Sound}
use Rattle.rt_meaning_laws.specs.Levels.{IsTableOf}
use Rattle.rt_object.specs.declared.object.ObjectParts.{ObjectParts}
use Rattle.rt_match.specs.declared.bindings.Bound.{Bound}
use Rattle.rt_link.specs.Imaged.{brick_data, data_in}
use Rattle.rt_link.specs.Named.{relocated_word}
use Rattle.rt_link.specs.Room.{room}
use Rattle.rt_lower.specs.declared.layouts.Layouts.{Layouts}
use Rattle.rt_compile.specs.DataLaws.{BytesAreCounted}
use Rattle.rt_places.specs.Systems.{IsBrick, IsText, HasSizes}
use Rattle.rt_bases.specs.Bases.{HaveData}
use Rattle.rt_bases.proofs.Lying.{are_bases}
use Rattle.rt_laid.specs.Laid.{IsLaid}
use Rattle.rt_laid.proofs.Laying.{places_lie}
use Rattle.rt_started.specs.Started.{ShowItems}
use Rattle.rt_started.proofs.Lists.{data_show}
use Rattle.rt_follows.specs.Whole.{Whole, word_of}
use Rattle.rt_imaged.specs.Whole.{whole_of, sizes_of, IsSystem}
use Rattle.rt_imaged.specs.Contents.{BrickShows, TextShows, ObjectsShow}
use Rattle.rt_imaged.specs.Trees.{TreesAre, AllResolve}
use Rattle.rt_imaged.specs.Laws.{Landed, PlacesAndStarts, SystemsLie}
use Rattle.rt_imaged.proofs.Sitting.{laid_of}
use Rattle.rt_imaged.proofs.Showing.{starts_lie}
use Rattle.rt_imaged.proofs.Trees.{Known, known, brick_data_is, text_at, has_sizes, have_data, tells_begin, tells_size}

none_left : (n : ℕ) → (suc n == 0) ≡ true → ⊥
none_left n e = let bad : suc n ≡ 0 = grind (arith, nat_tests) in absurd (omega arith)

right_of : (a b : Bool) → a && b ≡ true → b ≡ true
right_of true b e = e
right_of false b e = absurd cc

parts_count : (h : Home) (ss : List DataStart) (fs : List Field) → fields_start (map (modules.starts h.scope) ss) fs ≡ true → length (parts (map (starting.starts h) ss) fs) ≡ length fs
parts_count h [] [] e = refl
parts_count h [] (f ∷ fs) e = absurd (none_left (length fs) e)
parts_count h (s ∷ ss) [] e = absurd cc
parts_count h (s ∷ ss) (f ∷ fs) e = ap suc (parts_count h ss fs (right_of (modules.starts h.scope s f.mode) (fields_start (map (modules.starts h.scope) ss) fs) e))

module _ (opens : FullModesOpen) (tells : FullModesTell) (bytes_counted : BytesAreCounted) (ps : System) (ls : List Layouts) (os : List ObjectParts) (tasks : List Task) (image : ImageParts) (mapped : Map) (s : IsSystem ps ls os tasks image mapped) (trees : TreesAre ps) (so : Sound ps) (tables : (t : ModeTable) → IsTableOf ps t → IsTable t) where
  abbrev stacks : List Proc
  stacks = s.linked.known.stacks

  abbrev of : List (List Bound)
  of = s.linked.known.bindings.of

  abbrev w : Whole
  w = whole_of ps ls os s.linked.known image

  abbrev S : ℕ → ℕ → Option ℕ
  S = sizes_of ls

  counted : (l : Layouts) (m b : ℕ) (p : ModuleParts) (d : Brick) (fs : List Field) (ss : List DataStart) (n : ℕ) → HasBrick ps m b p d → is_here d.kind ≡ true → d.sort ≡ sort.Data fs ss → End (table_of p.modes.records) fs n → length (data_of l (scope_of p) fs ss).bytes ≡ even n
  counted l m b p d fs ss n has here is end = bytes_counted l p fs ss n (trees.nodes m p has.of) (record { number = b; brick = d; there = has.at; here = here; sort_is = is }) end

  sized : HasSizes ps S
  sized = has_sizes ps ls os s.layouts s.same s.trees trees.filled trees.ends counted

  have : HaveData ps S os
  have = have_data ps ls os s.layouts s.same s.trees trees.filled trees.ends counted

  abbrev KnownAt : ℕ → ModuleParts → Type 0
  KnownAt m p = Known ps ls os s.layouts s.same s.trees trees.filled trees.ends counted m p

  known_at : (m : ℕ) (p : ModuleParts) → module_of ps m ≡ Some p → KnownAt m p
  known_at m p e = known ps ls os s.layouts s.same s.trees trees.filled trees.ends counted m p e

  -- ---- the places

  pub laid : IsLaid w S
  laid = record {
    sized = sized;
    begin = λ m p fs k n e h. tells_begin ps ls os s.layouts s.same s.trees trees.filled trees.ends counted m p fs k n e h;
    bytes = λ m p v n e h. tells_size ps ls os s.layouts s.same s.trees trees.filled trees.ends counted m p v n e h;
    bases = are_bases os stacks ps S have;
    address = λ l. refl;
    small = (let r : room os stacks ≤ 57344 = s.linked.judged.room in omega arith);
  }

  -- ---- the starting store

  module _ (resolve : AllResolve w ps ls os stacks of) where
    brick_shows : (m b n : ℕ) (h : IsBrick ps S m b n) → BrickShows (word_of w) ps S os stacks of m b n h
    brick_shows m b n h =
        let k = known_at m h.parts h.has.of in
        let d = brick_data_is ps ls os s.layouts s.same s.trees trees.filled trees.ends counted m b n h k in
        let fits = trees.starts_fit m b h.parts h.brick h.fields h.starts h.has h.here h.sort in
        let home = home_of ps m h.parts in
        let shown = data_show (S m) (word_of w) (relocated_word os stacks of m) k.layouts home h.starts h.fields n (sized.records m h.parts h.has.of) (resolve m h.parts k.layouts h.has.of k.at) (λ i v e. trees.procs m h.parts i v h.has.of e) fits
        (λ i c. trees.words m b h.parts h.brick h.fields h.starts h.has h.here h.sort i c) h.ends in
        let same : brick_data os stacks of m d.its ≡ data_in os stacks of m (Some (content.Data (items_of h.fields (data_of k.layouts (scope_of h.parts) h.fields h.starts)))) = ap (data_in os stacks of m) d.holds in
        record {
          object = k.object;
          its = d.its;
          is = k.its;
          at = d.at;
          shows = subst (λ (ys : List ℕ). ShowItems (word_of w) h.parts.modes.records (S m) ys h.fields (parts (map (starting.starts home) h.starts) h.fields) (even n)) (sym same) shown;
          filled = parts_count home h.starts h.fields fits;
        }

    text_shows : (m i n : ℕ) (h : IsText ps S m i n) → TextShows (word_of w) ps S os stacks of m i n h
    text_shows m i n h =
        let k = known_at m h.parts h.of in
        let text = trees.strings m i h.parts h.text h.of h.at in
        record { object = k.object; is = k.its; at = text_at ps ls os s.layouts s.same s.trees trees.filled trees.ends counted m i h.parts h.text k h.at; bytes = text.0; short = text.1 }

    shows : ObjectsShow (word_of w) ps S os stacks of
    shows = record { bricks = brick_shows; texts = text_shows }

    pub both : Landed → PlacesAndStarts w image
    both laws =
        let lies = laid_of laws ps ls os tasks image mapped s in record {
          places = places_lie opens tells w S so tables laid;
          starts = starts_lie w S os stacks of image (ap (λ (i : ImageParts). i.bytes) s.linked.is_image) lies.code sized shows (λ l. refl) (λ l u v e n h is. (so.elements l u v e n h is).1);
        }

pub systems_lie : FullModesOpen → FullModesTell → SystemsLie
systems_lie opens tells laws bytes_counted ps ls os tasks image mapped s trees so tables resolve = both opens tells bytes_counted ps ls os tasks image mapped s trees so tables resolve laws
