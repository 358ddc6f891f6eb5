-- How long the parts of an image are.
use Rattle.std.proofs.Common.{◌≡◌, ℕ, zero, suc, ◌+◌, ◌*◌, ◌%◌, List, [], ◌∷◌, ◌++◌, length, Option, Some, None, refl, sym, ap, ◌∙◌, arith, length-append, length-set}
use Rattle.std.specs.Prelude.{slice_set, ◌/◌}
use Rattle.std.specs.List.{flat_map, sum_by, AllByRecursion}
use Rattle.std.proofs.lemmas.List.Sums.{sum_by-cons}
use Rattle.rt_modes.specs.declared.mode.RecordDef.{RecordDef}
use Rattle.rt_tree_nodes.specs.declared.store.Proc.{Proc}
use Rattle.rt_object.specs.Ranges.{HasObjectRanges, HasBrickRanges, HasKindRanges}
use Rattle.rt_object.specs.declared.object.Brick.{Brick}
use Rattle.rt_object.specs.declared.object.BrickKind.{BrickKind}
use Rattle.rt_object.specs.declared.object.BrickKind.TheVariants.{Own, Ent, Ext, Svc}
use Rattle.rt_object.specs.declared.object.Content.{Content}
use Rattle.rt_object.specs.declared.object.Content.TheVariants as content
use Rattle.rt_object.specs.declared.object.ObjectParts.{ObjectParts}
use Rattle.rt_object.specs.declared.object.Relocation.{Relocation}
use Rattle.rt_match.specs.declared.bindings.Bound.{Bound}
use Rattle.rt_graph.specs.Calls.{content_of}
use Rattle.rt_templates.specs.Lines as lines
use Rattle.rt_templates.specs.Supported.{all_lines}
use Rattle.rt_link.specs.Room as room
use Rattle.rt_link.specs.Room.{support_bytes, code_bytes, data_bytes, string_bytes, module_code, module_strings, module_data, module_bytes, code_end}
use Rattle.rt_link.specs.Named.{relocated_word}
use Rattle.rt_link.specs.Relocated.{padded, patched, patched_bytes}
use Rattle.rt_link.specs.Imaged as image
use Rattle.rt_link.specs.Imaged.{entering, string_data, strings_data, marks_in, brick_marks, module_marks, modules_marks, entries_marks, image_marks, words_in, brick_words, modules_words, data_in, brick_data, modules_data, root_entering, image_code, image_bytes}
use Rattle.rt_link.proofs.Inside.{padded_long}

-- ---- relocations change no length

pub patched_long : (word : Relocation → ℕ) (rs : List Relocation) (ws : List ℕ) → length (patched word rs ws) ≡ length ws
patched_long word [] ws = refl
patched_long word (r ∷ rs) ws = patched_long word rs (slice_set ws r.place (word r)) ∙ length-set ws r.place (word r)

pub patched_bytes_long : (word : Relocation → ℕ) (rs : List Relocation) (bs : List ℕ) → length (patched_bytes word rs bs) ≡ length bs
patched_bytes_long word [] bs = refl
patched_bytes_long word (r ∷ rs) bs =
    let once = slice_set bs r.place (word r % 256) in
    patched_bytes_long word rs (slice_set once (r.place + 1) (word r / 256)) ∙ length-set once (r.place + 1) (word r / 256) ∙ length-set bs r.place (word r % 256)

-- ---- many of them

flat_long : {A : Type 0} (F : A → List ℕ) (f : A → ℕ) (k : ℕ) (xs : List A) → ((x : A) → k * length (F x) ≡ f x) → k * length (flat_map F xs) ≡ sum_by f xs
flat_long F f k [] each = omega arith
flat_long F f k (x ∷ xs) each =
    let rest = flat_long F f k xs each in
    let here = each x in
    let more = sum_by-cons f x xs in
    ap (λ n. k * n) (length-append (F x) (flat_map F xs)) ∙ spread k (length (F x)) (length (flat_map F xs)) ∙ (let both : k * length (F x) + k * length (flat_map F xs) ≡ sum_by f (x ∷ xs) = omega arith in both)
  where
    spread : (k a b : ℕ) → k * (a + b) ≡ k * a + k * b
    spread k a b = grind arith

-- ---- the support code

support_long : 2 * length (lines.words all_lines) ≡ support_bytes
unfolding support_bytes
support_long = refl

support_marked : length (lines.marks all_lines) ≡ length (lines.words all_lines)
support_marked = refl

module _ (objects : List ObjectParts) (stacks : List Proc) (of : List (List Bound)) where
  words_long : (m : ℕ) (c : Option Content) → 2 * length (words_in objects stacks of m c) ≡ room.code_in c
  words_long m None = refl
  words_long m (Some (content.Proc p)) = ap (λ n. 2 * n) (patched_long (relocated_word objects stacks of m) p.relocations p.words)
  words_long m (Some (content.Data d)) = refl
  words_long m (Some (content.Stack n)) = refl

  modules_words_long : (m : ℕ) (os : List ObjectParts) → 2 * length (modules_words objects stacks of m os) ≡ sum_by module_code os
  modules_words_long m [] = refl
  modules_words_long m (o ∷ os) =
      let here = flat_long (brick_words objects stacks of m) code_bytes 2 o.bricks (λ b. words_long m (content_of b.kind)) in
      let rest = modules_words_long (suc m) os in
      let more = sum_by-cons module_code o os in
      let both = length-append (flat_map (brick_words objects stacks of m) o.bricks) (modules_words objects stacks of (suc m) os) in
      omega arith

  entries_long : (roots : List Proc) → 2 * length (flat_map (λ f. lines.words (root_entering objects stacks of f)) roots) ≡ 6 * length roots
  entries_long [] = refl
  entries_long (f ∷ fs) =
      let rest = entries_long fs in
      let both = length-append (lines.words (root_entering objects stacks of f)) (flat_map (λ g. lines.words (root_entering objects stacks of g)) fs) in
      omega arith

  pub code_long : (roots : List Proc) → length roots ≡ length stacks → 2 * length (image_code objects stacks of roots) ≡ code_end objects stacks
  code_long roots one_each =
      let entries = flat_map (λ f. lines.words (root_entering objects stacks of f)) roots in
      let procs = modules_words objects stacks of 1 objects in
      let a = length-append (lines.words all_lines) (entries ++ procs) in
      let b = length-append entries procs in
      let support = support_long in
      let entered = entries_long roots in
      let coded = modules_words_long 1 objects in
      omega arith

  -- ---- data

  strings_long : (s : List ℕ) → 1 * length (string_data s) ≡ string_bytes s
  strings_long s = let long = padded_long s in omega arith

  data_long : (m : ℕ) (c : Option Content) → 1 * length (data_in objects stacks of m c) ≡ room.data_in c
  data_long m None = refl
  data_long m (Some (content.Proc p)) = refl
  data_long m (Some (content.Data d)) =
      let long = patched_bytes_long (relocated_word objects stacks of m) d.relocations (padded d.bytes) in
      let rounded = padded_long d.bytes in
      omega arith
  data_long m (Some (content.Stack n)) = refl

  modules_data_long : (m : ℕ) (os : List ObjectParts) → length (modules_data objects stacks of m os) ≡ sum_by module_bytes os
  modules_data_long m [] = refl
  modules_data_long m (o ∷ os) =
      let texts = flat_long string_data string_bytes 1 o.strings strings_long in
      let here = flat_long (brick_data objects stacks of m) data_bytes 1 o.bricks (λ b. data_long m (content_of b.kind)) in
      let rest = modules_data_long (suc m) os in
      let more = sum_by-cons module_bytes o os in
      let inner = length-append (strings_data o.strings) (flat_map (brick_data objects stacks of m) o.bricks) in
      let both = length-append (image.module_data objects stacks of m o) (modules_data objects stacks of (suc m) os) in
      omega arith

  pub bytes_long : length (image_bytes objects stacks of) ≡ sum_by module_bytes objects
  bytes_long = modules_data_long 1 objects

-- ---- all data take an even number of bytes

sum_even : {A : Type 0} (f : A → ℕ) (xs : List A) → ((x : A) → f x % 2 ≡ 0) → sum_by f xs % 2 ≡ 0
sum_even f [] each = refl
sum_even f (x ∷ xs) each =
    let here = each x in
    let rest = sum_even f xs each in
    let more = sum_by-cons f x xs in
    omega arith

data_even : (c : Option Content) → room.data_in c % 2 ≡ 0
data_even None = refl
data_even (Some (content.Proc p)) = refl
data_even (Some (content.Data d)) = omega arith
data_even (Some (content.Stack n)) = refl

string_even : (s : List ℕ) → string_bytes s % 2 ≡ 0
string_even s = omega arith

pub modules_even : (objects : List ObjectParts) → sum_by module_bytes objects % 2 ≡ 0
modules_even objects =
    sum_even module_bytes objects
    (λ o. (let texts = sum_even string_bytes o.strings string_even in let bytes = sum_even data_bytes o.bricks (λ b. data_even (content_of b.kind)) in let both : module_bytes o % 2 ≡ 0 = omega arith in both))

-- ---- marks, one for each word

entries_marked : (n : ℕ) → length (entries_marks n) ≡ 3 * n
entries_marked zero = refl
entries_marked (suc n) = let rest = entries_marked n in let both = length-append (entries_marks n) (lines.marks (entering 0)) in omega arith

-- a procedure has as many marks as words
abbrev pub AreMarkedIn : Option Content → Type 0
AreMarkedIn c = room.code_in c ≡ 2 * length (marks_in c)

module _ (records : List RecordDef) (strings bricks : ℕ) where
  pub marked_in : (name : List ℕ) (k : BrickKind) → HasKindRanges records strings bricks name k → AreMarkedIn (content_of k)
  marked_in name (Own (content.Proc p)) h = ap (λ n. 2 * n) (sym h.marks)
  marked_in name (Own (content.Data d)) h = refl
  marked_in name (Own (content.Stack n)) h = refl
  marked_in name (Ent (content.Proc p)) h = ap (λ n. 2 * n) (sym h.marks)
  marked_in name (Ent (content.Data d)) h = refl
  marked_in name (Ent (content.Stack n)) h = refl
  marked_in name (Ext e) h = refl
  marked_in name (Svc s) h = refl

  bricks_marked : (bs : List Brick) → AllByRecursion (HasBrickRanges records strings bricks) bs → 2 * length (flat_map brick_marks bs) ≡ sum_by code_bytes bs
  bricks_marked [] h = refl
  bricks_marked (b ∷ bs) h =
      let here = marked_in b.name b.kind h.0.kind in
      let rest = bricks_marked bs h.1 in
      let more = sum_by-cons code_bytes b bs in
      let both = length-append (brick_marks b) (flat_map brick_marks bs) in
      omega arith

modules_marked : (os : List ObjectParts) → AllByRecursion HasObjectRanges os → 2 * length (modules_marks os) ≡ sum_by module_code os
modules_marked [] h = refl
modules_marked (o ∷ os) h =
    let here = bricks_marked o.records.records (length o.strings) (length o.bricks) o.bricks h.0.each_brick in
    let rest = modules_marked os h.1 in
    let more = sum_by-cons module_code o os in
    let both = length-append (module_marks o) (modules_marks os) in
    omega arith

pub marks_long : (objects : List ObjectParts) (stacks : List Proc) → AllByRecursion HasObjectRanges objects → 2 * length (image_marks objects (length stacks)) ≡ code_end objects stacks
marks_long objects stacks ranges =
    let n = length stacks in
    let a = length-append (lines.marks all_lines) (entries_marks n ++ modules_marks objects) in
    let b = length-append (entries_marks n) (modules_marks objects) in
    let support = support_long in
    let marked = support_marked in
    let entered = entries_marked n in
    let coded = modules_marked objects ranges in
    omega arith
