-- The image of an accepted system.
use Rattle.std.proofs.Common.{◌≡◌, ℕ, zero, suc, ◌+◌, ◌-◌, ◌≤◌, List, [], ◌∷◌, length, map, Some, slice_get, slice_index, refl, sym, ap, ◌∙◌, subst, arith}
use Rattle.rt_tree_nodes.specs.declared.store.Proc.{Proc}
use Rattle.rt_tree.specs.FullModes.{FullModesTell}
use Rattle.rt_tree.specs.Opened.{FullModesOpen}
use Rattle.rt_tree.specs.Stored.{System}
use Rattle.rt_system.specs.declared.parts.Task.{Task}
use Rattle.rt_image.specs.declared.image.ImageParts.{ImageParts}
use Rattle.rt_image.specs.declared.image.ImageTask.{ImageTask}
use Rattle.rt_image.specs.declared.map.Map.{Map}
use Rattle.rt_work_state.specs.Stores.{first_own}
use Rattle.rt_meaning.specs.Roots.{priorities}
use Rattle.rt_run.specs.Boundaries.{priority_of}
use Rattle.rt_object.specs.declared.object.ObjectParts.{ObjectParts}
use Rattle.rt_lower.specs.declared.layouts.Layouts.{Layouts}
use Rattle.rt_link.specs.Imaged.{start_block, image_tasks}
use Rattle.rt_link.specs.Addresses.{entry_at}
use Rattle.rt_link.specs.Room.{stack_words}
use Rattle.rt_sizes.proofs.Layers.{some_is}
use Rattle.rt_follows.specs.Whole.{Whole, OwnLies, word_of, own_at}
use Rattle.rt_imaged.specs.Whole.{whole_of, source_tasks, IsSystem}
use Rattle.rt_imaged.specs.Laws.{Landed, SystemsAreImagedIf}
use Rattle.rt_imaged.proofs.Sitting.{laid_of}
use Rattle.rt_imaged.proofs.Lying.{systems_lie}

-- the tasks of the image are those of the source, one by one
same_order : (objects : List ObjectParts) (n : ℕ) (ts : List Task) (fs gs : List Proc) → length fs ≡ length ts → length gs ≡ length ts → map priority_of (image_tasks objects n ts fs) ≡ priorities (source_tasks ts gs)
same_order objects n [] fs gs a b = refl
same_order objects n (t ∷ ts) [] gs a b = absurd (omega arith)
same_order objects n (t ∷ ts) (f ∷ fs) [] a b = absurd (omega arith)
same_order objects n (t ∷ ts) (f ∷ fs) (g ∷ gs) a b = ap (λ (xs : List ℕ). t.priority ∷ xs) (same_order objects (suc n) ts fs gs (omega arith) (omega arith))

-- each has the block with which tasks start
blocks : (objects : List ObjectParts) (n : ℕ) (ts : List Task) (fs : List Proc) (i : ℕ) (t : ImageTask) → slice_get (image_tasks objects n ts fs) i ≡ Some t → t.block ≡ start_block
blocks objects n [] fs i t e = absurd cc
blocks objects n (x ∷ ts) [] i t e = absurd cc
blocks objects n (x ∷ ts) (f ∷ fs) zero t e = (let is : start_block ≡ t.block = ap (λ (z : ImageTask). z.block) (some_is (record { name = x.name; priority = x.priority; entry = entry_at n; block = start_block; stack = stack_words objects f }) t e) in sym is)
blocks objects n (x ∷ ts) (f ∷ fs) (suc i) t e = blocks objects (suc n) ts fs i t e

module _ (ps : System) (ls : List Layouts) (objects : List ObjectParts) (tasks : List Task) (image : ImageParts) (mapped : Map) (s : IsSystem ps ls objects tasks image mapped) where
  abbrev w : Whole
  w = whole_of ps ls objects s.linked.known image

  item : (k : ℕ) → 1 ≤ k → k ≤ 4 → slice_index start_block (3 + k) ≡ word_of w (own_at first_own k)
  item zero a b = absurd (omega arith)
  item (suc zero) a b = refl
  item (suc (suc zero)) a b = refl
  item (suc (suc (suc zero))) a b = refl
  item (suc (suc (suc (suc zero)))) a b = refl
  item (suc (suc (suc (suc (suc k))))) a b = absurd (omega arith)

  own_starts : OwnLies w first_own start_block
  own_starts = record { erl = refl; live = refl; items = item }

pub priorities_are : Landed → (ps : System) (ls : List Layouts) (objects : List ObjectParts) (tasks : List Task) (image : ImageParts) (mapped : Map) (s : IsSystem ps ls objects tasks image mapped) → map priority_of image.tasks ≡ priorities (source_tasks tasks s.linked.known.roots)
priorities_are laws ps ls objects tasks image mapped s =
    let known = s.linked.known in
    let roots = s.linked.judged.deep.ordered.rooted.are_roots in
    let many : length known.stacks ≡ length tasks = ap length s.linked.judged.stacks ∙ (laws.stacks objects tasks known.roots roots).one_each in
    ap (λ (i : ImageParts). map priority_of i.tasks) s.linked.is_image ∙ same_order objects 0 tasks known.stacks known.roots many roots.one_each

pub imaged_if : FullModesOpen → FullModesTell → SystemsAreImagedIf
imaged_if opens tells laws counted ps ls objects tasks image mapped s fit trees so tables resolve match enter linked =
    let known = s.linked.known in
    let w = whole_of ps ls objects known image in
    let lies = laid_of laws ps ls objects tasks image mapped s in
    let both = systems_lie opens tells laws counted ps ls objects tasks image mapped s trees so tables resolve in
    let roots = s.linked.judged.deep.ordered.rooted.are_roots in
    let many : length known.stacks ≡ length tasks = ap length s.linked.judged.stacks ∙ (laws.stacks objects tasks known.roots roots).one_each in
    let tasks_are : image.tasks ≡ image_tasks objects 0 tasks known.stacks = ap (λ (i : ImageParts). i.tasks) s.linked.is_image in
    record {
      linked = linked;
      modules = fit;
      match = match;
      ranges = s.image_ranges;
      code_ends = sym lies.code;
      data_ends = sym lies.bytes;
      code = λ a less. refl;
      marks = λ a. refl;
      shared = both.starts;
      same_priorities = ap (map priority_of) tasks_are ∙ same_order objects 0 tasks known.stacks known.roots many roots.one_each;
      begins = λ i t x some at has.
          let e = enter i t x some at has in record {
            reached = e.reached;
            enters = e.enters;
            own_data = subst (λ (b : List ℕ). OwnLies w first_own b) (sym (blocks objects 0 tasks known.stacks (i - 1) t (ap (λ (ts : List ImageTask). slice_get ts (i - 1)) (sym tasks_are) ∙ at))) (own_starts ps ls objects tasks image mapped s);
            room = e.room;
          };
    }
