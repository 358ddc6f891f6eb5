-- A task as its image begins it follows its source's task.
use Rattle.std.proofs.Common.{◌≡◌, ℕ, zero, suc, ◌+◌, ◌-◌, ◌*◌, ◌/◌, ◌%◌, ◌<◌, ◌≤◌, true, false, nat_lt, List, [], ◌∷◌, ◌++◌, length, replicate, refl, sym, ap, ◌∙◌, subst, arith, Some, lt-ltb, le-ltb, le-leb}
use Rattle.std.specs.Prelude.{slice_get, slice_index}
use Rattle.std.specs.List.{AllByRecursion}
use Rattle.pdp_core.specs.World.{word_at}
use Rattle.pdp_core.specs.declared.memory.Protection.{Protection}
use Rattle.pdp_core.specs.Protection.{within}
use Rattle.pdp_symbolic.specs.Machine.{Machine, regs, WordsAt}
use Rattle.rt_image.specs.declared.image.ImageParts.{ImageParts}
use Rattle.rt_image.specs.declared.image.ImageTask.{ImageTask}
use Rattle.rt_image.specs.Laws.{LieInOrder, LieInMemory}
use Rattle.rt_image.specs.Memory.{words_bytes, code_end, data_end, block_at, brick_end, task_bytes, start_memory}
use Rattle.rt_image.specs.Ranges.{IsWord, HasTaskRanges}
use Rattle.rt_tasks.specs.Start.{places_of}
use Rattle.rt_tasks.specs.Whole.{memory_of}
use Rattle.rt_tree.specs.Stored.{System}
use Rattle.rt_work_state.specs.Stores.{first_own}
use Rattle.rt_meaning.specs.declared.begin.SourceTask.{SourceTask}
use Rattle.rt_meaning.specs.Roots.{root_of}
use Rattle.rt_meaning.specs.Step.{Doing}
use Rattle.rt_meaning_laws.specs.Starting.{IsRoot}
use Rattle.rt_follows.specs.Whole.{Whole, Home, Sits}
use Rattle.rt_follows.specs.Held.{Holds}
use Rattle.rt_follows.specs.Follows.{Follows}
use Rattle.rt_follows.specs.Linked.{Starts, first_act}
use Rattle.rt_faithful.specs.Faithful.{home_of}
use Rattle.rt_faithful.specs.Imaged.{Begins, Imaged}
use Rattle.rt_faithful.proofs.Joined.{Given}

-- ---- lists

pub get_less : {A : Type 0} (xs : List A) (k : ℕ) (x : A) → slice_get xs k ≡ Some x → k < length xs
get_less [] k x e = absurd cc
get_less (y ∷ ys) zero x e = omega arith
get_less (y ∷ ys) (suc k) x e = let h = get_less ys k x e in omega (arith, h)

ranges_at : (c : ℕ) (us : List ImageTask) (k : ℕ) (t : ImageTask) → AllByRecursion (HasTaskRanges c) us → slice_get us k ≡ Some t → HasTaskRanges c t
ranges_at c [] k t all e = absurd cc
ranges_at c (u ∷ us) zero t all e = let same : u ≡ t = cc in subst (λ (x : ImageTask). HasTaskRanges c x) same all.0
ranges_at c (u ∷ us) (suc k) t all e = ranges_at c us k t all.1 e

root_at : (ps : System) (ts : List SourceTask) (k : ℕ) (x : SourceTask) → AllByRecursion (λ t. IsRoot ps (root_of t)) ts → slice_get ts k ≡ Some x → IsRoot ps (root_of x)
root_at ps [] k x all e = absurd cc
root_at ps (t ∷ ts) zero x all e = let same : t ≡ x = cc in subst (λ (z : SourceTask). IsRoot ps (root_of z)) same all.0
root_at ps (t ∷ ts) (suc k) x all e = root_at ps ts k x all.1 e

-- ---- words in the memory

word_is : (m : ℕ → ℕ) (a x : ℕ) → x < 65536 → m a ≡ x % 256 → m (a + 1) ≡ x / 256 → word_at m a ≡ x
unfolding word_at
word_is m a x small e f = rw (e, f) (omega arith)

-- words whose bytes stand in memory stand there
words_at : (m : ℕ → ℕ) (ws rest : List ℕ) (a : ℕ) → AllByRecursion IsWord ws → ((k : ℕ) → k < 2 * length ws → m (a + k) ≡ slice_index (words_bytes ws ++ rest) k) → WordsAt m a ws
words_at m [] rest a small h = tt
words_at m (x ∷ xs) rest a small h =
    let here : a ≡ a + 0 = omega arith in (
      word_is m a x (omega (arith, small.0)) (ap m here ∙ h 0 (omega arith)) (h 1 (omega arith)),
      words_at m xs rest (a + 2) small.1 (λ k less. let on : a + 2 + k ≡ a + suc (suc k) = omega arith in ap m on ∙ h (suc (suc k)) (omega (arith, less))),
    )

-- the byte of the running task's own part
own_byte : (code bytes own : List ℕ) (p : Protection) (others : ℕ → ℕ) (a : ℕ) → nat_lt a p.code_end ≡ false → nat_lt a p.data_end ≡ false → within p.block p.brick_end a ≡ true → memory_of code bytes own p others a ≡ slice_index own (a - p.block)
unfolding memory_of
own_byte code bytes own p others a e f g = rw (e, f, g) refl

module _ (given : Given) (w : Whole) (image : ImageParts) (ts : List SourceTask) (is : Imaged w image ts) (i : ℕ) (t : ImageTask) (x : SourceTask) (one : 1 ≤ i) (got : slice_get image.tasks (i - 1) ≡ Some t) (has : slice_get ts (i - 1) ≡ Some x) where
  abbrev h : Home
  h = home_of image i

  order : LieInOrder image
  order = given.in_order image is.ranges

  memory : LieInMemory image
  memory = given.in_memory image is.ranges

  there : i - 1 < length image.tasks
  there = get_less image.tasks (i - 1) t got

  ranges : HasTaskRanges (2 * length image.code) t
  ranges = ranges_at (2 * length image.code) image.tasks (i - 1) t is.ranges.each_task got

  begins : Begins w h t (root_of x)
  begins = is.begins i t x one got has

  -- the task as it begins: its registers are those of the image
  abbrev pub begun : Machine
  begun = record { r0 = 0; r1 = 0; r2 = 0; r3 = 0; r4 = block_at image (i - 1); r5 = 0; sp = brick_end image (i - 1); pc = t.entry; n = false; z = false; v = false; c = false; stack = []; block = t.block }

  block_byte : (k : ℕ) → k < 16 → start_memory image (block_at image (i - 1) + k) ≡ slice_index (task_bytes t) k
  block_byte k less =
      let a = block_at image (i - 1) + k in
      let data_before = order.blocks_behind_data (i - 1) in
      let code_before = order.data_behind_code in
      let brick = order.bricks_behind_blocks (i - 1) there in
      let low : within (block_at image (i - 1)) (brick_end image (i - 1)) a ≡ true = rw (le-leb (block_at image (i - 1)) a (omega arith), lt-ltb a (brick_end image (i - 1)) (omega (arith, brick, less))) refl in
      let at : a - block_at image (i - 1) ≡ k = omega arith in
      sym (given.side_by_side image is.ranges (i - 1) t got a)
      ∙ own_byte image.code image.bytes (task_bytes t) (places_of image (i - 1)) (start_memory image) a (le-ltb a (code_end image) (omega (arith, data_before, code_before))) (le-ltb a (data_end image) (omega (arith, data_before))) low
      ∙ ap (λ (j : ℕ). slice_index (task_bytes t) j) at

  block_stands : WordsAt (start_memory image) (block_at image (i - 1)) t.block
  block_stands = let eight = ranges.block in words_at (start_memory image) t.block (replicate (2 * t.stack) 0) (block_at image (i - 1)) ranges.each_block_word (λ k less. block_byte k (omega (arith, less, eight)))

  holds : Holds w h begun first_own (start_memory image)
  holds = record {
    task = record {
      stack = tt;
      full = omega arith;
      low = order.bricks_behind_blocks (i - 1) there;
      block = block_stands;
      eight = ranges.block;
      code = λ a less. is.code a (let end = is.code_ends in omega (arith, less, end));
      r0 = omega arith;
      r1 = omega arith;
      r2 = omega arith;
      r3 = omega arith;
      r4 = refl;
      r5 = omega arith;
      pc = let entry = ranges.entry in let top = memory.code in omega (arith, entry, top);
    };
    own_data = begins.own_data;
  }

  sits : Sits w h
  sits = record {
    after = let end = is.data_ends in let low = order.blocks_behind_data (i - 1) in omega (arith, end, low);
    even_block = memory.even_blocks (i - 1);
    behind = omega arith;
    order = order.bricks_behind_blocks (i - 1) there;
    even = let low = memory.even_bricks (i - 1) in omega (arith, low);
    even_low = memory.even_bricks (i - 1);
    top = memory.bricks (i - 1) there;
  }

  starts : Starts w h (root_of x) begun
  starts = record { sits = sits; is_root = root_at w.ps ts (i - 1) x is.match.roots has; reached = begins.reached; enters = begins.enters; stack = refl; room = begins.room }

  pub follows : (k : ℕ) → Follows w h k 0 (regs begun) (start_memory image) (Doing (first_act (root_of x)) [] first_own)
  follows k = given.follow w h (root_of x) begun is.linked starts k (start_memory image) holds
