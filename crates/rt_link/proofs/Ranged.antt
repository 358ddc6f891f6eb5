-- The image of an accepted system keeps the ranges of images.
use Rattle.std.proofs.Common.{◌≡◌, ℕ, zero, suc, ◌+◌, ◌*◌, ◌<◌, ◌≤◌, nat_le, List, [], ◌∷◌, ◌++◌, length, map, Option, Some, None, refl, sym, ap, ◌∙◌, subst, arith, lit<}
use Rattle.std.specs.Prelude.{slice_get}
use Rattle.std.specs.List.{flat_map, sum_by, All, AllByRecursion}
use Rattle.std.proofs.lemmas.Bool.{leb-true}
use Rattle.std.proofs.lemmas.List.Elements.{recursion_from_All}
use Rattle.std.proofs.lemmas.List.Sums.{sum_by-cons}
use Rattle.rt_digraph.proofs.Lists.{no_element, some_is}
use Rattle.rt_modes.specs.declared.mode.RecordDef.{RecordDef}
use Rattle.rt_tree_nodes.specs.declared.store.Proc.{Proc}
use Rattle.rt_image.specs.Ranges as ranges
use Rattle.rt_image.specs.Ranges.{IsMark, IsWord, IsByte, HasImageRanges, HaveDifferentNames, task_size}
use Rattle.rt_image.specs.declared.image.ImageParts.{ImageParts}
use Rattle.rt_image.specs.declared.image.ImageTask.{ImageTask}
use Rattle.rt_image.proofs.Sizes.{size_of, size_cons}
use Rattle.rt_object.specs.Ranges.{HasObjectRanges, HasBrickRanges, HasKindRanges, HasContentRanges}
use Rattle.rt_object.specs.declared.object.Brick.{Brick}
use Rattle.rt_object.specs.declared.object.BrickKind.{BrickKind}
use Rattle.rt_object.specs.declared.object.BrickKind.TheVariants.{Own, Ent, Ext, Svc}
use Rattle.rt_object.specs.declared.object.Content.TheVariants as content
use Rattle.rt_object.specs.declared.object.ObjectParts.{ObjectParts}
use Rattle.rt_match.specs.declared.bindings.Bound.{Bound}
use Rattle.rt_system.specs.SystemRanges as systems
use Rattle.rt_system.specs.SystemRanges.{AreDifferent, HasSystemRanges}
use Rattle.rt_system.specs.declared.parts.SystemParts.{SystemParts}
use Rattle.rt_system.specs.declared.parts.Task.{Task}
use Rattle.rt_system.proofs.SystemLimits.{all_append}
use Rattle.rt_system.proofs.Tests.{all_means}
use Rattle.rt_graph.specs.Calls.{content_of, content_at}
use Rattle.rt_templates.specs.Lines as lines
use Rattle.rt_templates.specs.Supported.{all_lines}
use Rattle.rt_link.specs.Room.{bricks_in, held, stack_in, stack_words, task_bytes, support_bytes, code_end, room}
use Rattle.rt_link.specs.Addresses.{entry_at}
use Rattle.rt_link.proofs.Summed.{support_is}
use Rattle.rt_link.specs.Named.{routine_address}
use Rattle.rt_link.specs.Imaged.{entering, marks_in, brick_marks, module_marks, modules_marks, entries_marks, image_marks, image_code, image_tasks, image_of, start_block, AreStackBricks, HasName}
use Rattle.rt_link.proofs.Long.{code_long, bytes_long, modules_even, marks_long}

-- ---- marks

all_flat : {A B : Type 0} (P : B → Type 0) (F : A → List B) (xs : List A) → AllByRecursion (λ x. AllByRecursion P (F x)) xs → AllByRecursion P (flat_map F xs)
all_flat P F [] h = tt
all_flat P F (x ∷ xs) h = all_append P (F x) (flat_map F xs) h.0 (all_flat P F xs h.1)

support_marks : AllByRecursion IsMark (lines.marks all_lines)
support_marks = all_means (λ m. nat_le m 2) IsMark (λ m e. leb-true m 2 e) (lines.marks all_lines) refl

entries_small : (n : ℕ) → AllByRecursion IsMark (entries_marks n)
entries_small zero = tt
entries_small (suc n) = all_append IsMark (entries_marks n) (lines.marks (entering 0)) (entries_small n) (omega arith, (omega arith, (omega arith, tt)))

module _ (records : List RecordDef) (strings bricks : ℕ) where
  marks_small : (name : List ℕ) (k : BrickKind) → HasKindRanges records strings bricks name k → AllByRecursion IsMark (marks_in (content_of k))
  marks_small name (Own (content.Proc p)) h = h.each_mark
  marks_small name (Own (content.Data d)) h = tt
  marks_small name (Own (content.Stack n)) h = tt
  marks_small name (Ent (content.Proc p)) h = h.each_mark
  marks_small name (Ent (content.Data d)) h = tt
  marks_small name (Ent (content.Stack n)) h = tt
  marks_small name (Ext e) h = tt
  marks_small name (Svc s) h = tt

  bricks_small : (bs : List Brick) → AllByRecursion (HasBrickRanges records strings bricks) bs → AllByRecursion (λ b. AllByRecursion IsMark (brick_marks b)) bs
  bricks_small [] h = tt
  bricks_small (b ∷ bs) h = (marks_small b.name b.kind h.0.kind, bricks_small bs h.1)

modules_small : (os : List ObjectParts) → AllByRecursion HasObjectRanges os → AllByRecursion (λ o. AllByRecursion IsMark (module_marks o)) os
modules_small [] h = tt
modules_small (o ∷ os) h = (all_flat IsMark brick_marks o.bricks (bricks_small o.records.records (length o.strings) (length o.bricks) o.bricks h.0.each_brick), modules_small os h.1)

marks_ranged : (objects : List ObjectParts) (n : ℕ) → AllByRecursion HasObjectRanges objects → AllByRecursion IsMark (image_marks objects n)
marks_ranged objects n h =
    all_append IsMark (lines.marks all_lines) (entries_marks n ++ modules_marks objects) support_marks
    (all_append IsMark (entries_marks n) (modules_marks objects) (entries_small n) (all_flat IsMark module_marks objects (modules_small objects h)))

-- ---- stacks

module _ (records : List RecordDef) (strings bricks : ℕ) where
  stack_some : (name : List ℕ) (k : BrickKind) (n : ℕ) → HasKindRanges records strings bricks name k → content_of k ≡ Some (content.Stack n) → 1 ≤ n
  stack_some name (Own c) n h e = (subst (HasContentRanges records strings bricks) (some_is c (content.Stack n) e) h).0
  stack_some name (Ent c) n h e = (subst (HasContentRanges records strings bricks) (some_is c (content.Stack n) e) h).0
  stack_some name (Ext x) n h e = absurd cc
  stack_some name (Svc s) n h e = absurd cc

  stack_at : (d : Option Brick) (bs : List Brick) (b n : ℕ) → slice_get bs b ≡ d → AllByRecursion (HasBrickRanges records strings bricks) bs → content_at d ≡ Some (content.Stack n) → 1 ≤ n
  stack_at None bs b n at h e = absurd cc
  stack_at (Some d) [] b n at h e = absurd (no_element b d at)
  stack_at (Some d) (x ∷ xs) zero n at h e = stack_some x.name x.kind n h.0.kind (ap (λ (y : Brick). content_of y.kind) (some_is x d at) ∙ e)
  stack_at (Some d) (x ∷ xs) (suc b) n at h e = stack_at (Some d) xs b n at h.1 e

all_get : {A : Type 0} (P : A → Type 0) (xs : List A) (i : ℕ) (x : A) → AllByRecursion P xs → slice_get xs i ≡ Some x → P x
all_get P [] i x h e = absurd (no_element i x e)
all_get P (y ∷ xs) zero x h e = subst P (some_is y x e) h.0
all_get P (y ∷ xs) (suc i) x h e = all_get P xs i x h.1 e

module _ (objects : List ObjectParts) (h : AllByRecursion HasObjectRanges objects) where
  in_module : (o : Option ObjectParts) (i b n : ℕ) → slice_get objects i ≡ o → content_at (slice_get (bricks_in o) b) ≡ Some (content.Stack n) → 1 ≤ n
  in_module None i b n at e = absurd cc
  in_module (Some o) i b n at e =
      let r = all_get HasObjectRanges objects i o h at in
      stack_at o.records.records (length o.strings) (length o.bricks) (slice_get o.bricks b) o.bricks b n refl r.each_brick e

  some_words : (m b n : ℕ) → held objects (record { «module» = m; brick = b }) ≡ Some (content.Stack n) → 1 ≤ n
  some_words zero b n e = absurd cc
  some_words (suc i) b n e = in_module (slice_get objects i) i b n refl e

  -- stack bricks have words, and no more than there is room for
  stacks_ranged : (fs : List Proc) → AreStackBricks objects fs → sum_by (task_bytes objects) fs ≤ 57344 → AllByRecursion (λ f. (1 ≤ stack_words objects f) × (stack_words objects f ≤ 28672)) fs
  stacks_ranged [] are small = tt
  stacks_ranged (f ∷ fs) are small =
      let n = are.0.0 in
      let words : stack_words objects f ≡ n = ap stack_in are.0.1 in
      let some = some_words f.«module» f.brick n are.0.1 in
      let more = sum_by-cons (task_bytes objects) f fs in
      ((omega arith, omega arith), stacks_ranged fs are.1 (omega arith))

-- ---- tasks

block_small : AllByRecursion IsWord start_block
unfolding routine_address
block_small = (lit< tt, (lit< tt, (lit< tt, (lit< tt, (lit< tt, (lit< tt, (lit< tt, (lit< tt, tt))))))))

module _ (objects : List ObjectParts) where
  tasks_long : (n : ℕ) (ts : List Task) (fs : List Proc) → length fs ≡ length ts → length (image_tasks objects n ts fs) ≡ length ts
  tasks_long n [] fs e = refl
  tasks_long n (t ∷ ts) [] e = absurd (omega arith)
  tasks_long n (t ∷ ts) (f ∷ fs) e = ap suc (tasks_long (suc n) ts fs (omega arith))

  tasks_sum : (n : ℕ) (ts : List Task) (fs : List Proc) → length fs ≡ length ts → size_of (image_tasks objects n ts fs) ≡ sum_by (task_bytes objects) fs
  tasks_sum n [] [] e = refl
  tasks_sum n [] (f ∷ fs) e = absurd (omega arith)
  tasks_sum n (t ∷ ts) [] e = absurd (omega arith)
  tasks_sum n (t ∷ ts) (f ∷ fs) e =
      let made : ImageTask = record { name = t.name; priority = t.priority; entry = entry_at n; block = start_block; stack = stack_words objects f } in
      let rest = tasks_sum (suc n) ts fs (omega arith) in
      let more = size_cons made (image_tasks objects (suc n) ts fs) in
      let sum = sum_by-cons (task_bytes objects) f fs in
      omega arith

  tasks_ranged : (end n : ℕ) (ts : List Task) (fs : List Proc) → length fs ≡ length ts → AllByRecursion HasName ts → AllByRecursion systems.HasTaskRanges ts → AllByRecursion (λ f. (1 ≤ stack_words objects f) × (stack_words objects f ≤ 28672)) fs
      → support_bytes + 6 * (n + length ts) ≤ end → AllByRecursion (ranges.HasTaskRanges end) (image_tasks objects n ts fs)
  tasks_ranged end n [] fs e named good stacks fits = tt
  tasks_ranged end n (t ∷ ts) [] e named good stacks fits = absurd (omega arith)
  tasks_ranged end n (t ∷ ts) (f ∷ fs) e named good stacks fits =
      let support = support_is in
      let least = good.0.least in
      let most = good.0.most in (
        record {
          name = named.0.0;
          each_letter = named.0.1;
          priority = least;
          most_priority = most;
          even_entry = omega arith;
          entry = omega arith;
          block = refl;
          each_block_word = block_small;
          some_stack = stacks.0.0;
          stack = stacks.0.1;
        },
        tasks_ranged end (suc n) ts fs (omega arith) named.1 good.1 stacks.1 (omega arith),
      )

  same_name : (n : ℕ) (ts : List Task) (fs : List Proc) (i : ℕ) (x : ImageTask) → slice_get (image_tasks objects n ts fs) i ≡ Some x → (t : Task) × (slice_get ts i ≡ Some t) × (x.name ≡ t.name)
  same_name n [] fs i x e = absurd (no_element i x e)
  same_name n (t ∷ ts) [] i x e = absurd (no_element i x e)
  same_name n (t ∷ ts) (f ∷ fs) zero x e =
      let made : ImageTask = record { name = t.name; priority = t.priority; entry = entry_at n; block = start_block; stack = stack_words objects f } in
      (t, refl, sym (ap (λ (y : ImageTask). y.name) (some_is made x e)))
  same_name n (t ∷ ts) (f ∷ fs) (suc i) x e = same_name (suc n) ts fs i x e

different_at : (ts : List Task) (i j : ℕ) (t u : Task) → AreDifferent (map (λ (x : Task). x.name) ts) → i < j → slice_get ts i ≡ Some t → slice_get ts j ≡ Some u → t.name ≡ u.name → ⊥
different_at [] i j t u h less e f same = no_element i t e
different_at (x ∷ ts) i zero t u h less e f same = omega arith
different_at (x ∷ ts) zero (suc j) t u h less e f same = first ts j h.0 f
  where
    first : (us : List Task) (k : ℕ) → AllByRecursion (λ other. x.name ≡ other → ⊥) (map (λ (y : Task). y.name) us) → slice_get us k ≡ Some u → ⊥
    first [] k g at = no_element k u at
    first (y ∷ us) zero g at = g.0 (ap (λ (z : Task). z.name) (some_is x t e) ∙ same ∙ sym (ap (λ (z : Task). z.name) (some_is y u at)))
    first (y ∷ us) (suc k) g at = first us k g.1 at
different_at (x ∷ ts) (suc i) (suc j) t u h less e f same = different_at ts i j t u h.1 (omega arith) e f same

-- ---- the image

module _ (objects : List ObjectParts) (of : List (List Bound)) (s : SystemParts) (roots stacks : List Proc) where
  pub in_range : (i : ImageParts) → i ≡ image_of objects of s.tasks roots stacks → length stacks ≡ length s.tasks → length roots ≡ length s.tasks → AreStackBricks objects stacks → room objects stacks ≤ 57344 → HasSystemRanges s
      → All HasObjectRanges objects → All HasName s.tasks → AllByRecursion IsWord i.code → AllByRecursion IsByte i.bytes → HasImageRanges i
  in_range i e one_each rooted are fits system all named words bytes =
      let objects_ranged = recursion_from_All HasObjectRanges objects all in
      let made = image_of objects of s.tasks roots stacks in
      let code : 2 * length (image_code objects stacks of roots) ≡ code_end objects stacks = code_long objects stacks of roots (rooted ∙ sym one_each) in
      let marks : 2 * length (image_marks objects (length stacks)) ≡ code_end objects stacks = marks_long objects stacks objects_ranged in
      let counted : image_marks objects (length stacks) ≡ image_marks objects (length s.tasks) = ap (image_marks objects) one_each in
      let same : length (image_marks objects (length stacks)) ≡ length (image_marks objects (length s.tasks)) = ap length counted in
      let data_long = bytes_long objects stacks of in
      let even = modules_even objects in
      let long = tasks_long objects 0 s.tasks stacks one_each in
      let sizes = tasks_sum objects 0 s.tasks stacks one_each in
      let support = support_is in
      let small = stacks_ranged objects objects_ranged stacks are (omega arith) in
      let some = system.some_task in
      let few = system.limits.few_tasks in
      let goal : HasImageRanges made = record {
        some_code = omega arith;
        code = omega arith;
        each_word = subst (λ (x : ImageParts). AllByRecursion IsWord x.code) e words;
        marks = omega arith;
        each_mark = marks_ranged objects (length s.tasks) objects_ranged;
        even_data = omega arith;
        each_byte = subst (λ (x : ImageParts). AllByRecursion IsByte x.bytes) e bytes;
        some_task = omega arith;
        tasks = omega arith;
        each_task = tasks_ranged objects (2 * length (image_code objects stacks of roots)) 0 s.tasks stacks one_each (recursion_from_All HasName s.tasks named) system.each_task small (omega arith);
        names = λ a b t u less at_a at_b equal.
            (let x = same_name objects 0 s.tasks stacks a t at_a in let y = same_name objects 0 s.tasks stacks b u at_b in different_at s.tasks a b x.0 y.0 system.limits.different less x.1 y.1 (sym x.2 ∙ equal ∙ y.2));
        memory = omega arith;
      } in
      subst HasImageRanges (sym e) goal
