-- Where the parts of an image lie.
use Rattle.std.proofs.Common.{◌≡◌, ℕ, zero, suc, ◌+◌, ◌*◌, ◌%◌, ◌<◌, ◌≤◌, List, [], ◌∷◌, length, sum, map, arith}
use Rattle.std.specs.List.{slice_get}
use Rattle.rt_image.specs.declared.image.ImageParts.{ImageParts}
use Rattle.rt_image.specs.declared.image.ImageTask.{ImageTask}
use Rattle.rt_image.specs.Laws.{LieInOrder, LieInMemory}
use Rattle.rt_image.specs.Memory.{block_from, stack_words, data_end}
use Rattle.rt_image.specs.Ranges.{task_size, HasImageRanges}
use Rattle.rt_image.proofs.Sizes.{size_cons}

from_on : (ts : List ImageTask) (n a : ℕ) → a ≤ block_from ts n a
from_on [] n a = omega arith
from_on (t ∷ ts) zero a = omega arith
from_on (t ∷ ts) (suc n) a = let h = from_on ts n (a + task_size t) in omega arith

-- a task's block and brick end before the block of a task behind it
ends_before : (ts : List ImageTask) (m n a : ℕ) → m < n → m < length ts → block_from ts m a + (16 + 2 * stack_words (slice_get ts m)) ≤ block_from ts n a
ends_before [] m n a h k = absurd (omega arith)
ends_before (t ∷ ts) zero zero a h k = absurd (omega arith)
ends_before (t ∷ ts) zero (suc n) a h k = let e = from_on ts n (a + task_size t) in omega arith
ends_before (t ∷ ts) (suc m) zero a h k = absurd (omega arith)
ends_before (t ∷ ts) (suc m) (suc n) a h k = ends_before ts m n (a + task_size t) (omega arith) (omega arith)

-- and at most behind all of them
ends_within : (ts : List ImageTask) (n a : ℕ) → n < length ts → block_from ts n a + (16 + 2 * stack_words (slice_get ts n)) ≤ a + sum (map task_size ts)
ends_within [] n a h = absurd (omega arith)
ends_within (t ∷ ts) zero a h = let s = size_cons t ts in omega arith
ends_within (t ∷ ts) (suc n) a h = let e = ends_within ts n (a + task_size t) (omega arith) in let s = size_cons t ts in omega arith

even_from : (ts : List ImageTask) (n a : ℕ) → a % 2 ≡ 0 → block_from ts n a % 2 ≡ 0
even_from [] n a h = h
even_from (t ∷ ts) zero a h = h
even_from (t ∷ ts) (suc n) a h = even_from ts n (a + task_size t) (omega arith)

pub in_order : (i : ImageParts) → HasImageRanges i → LieInOrder i
in_order i h = record {
  data_behind_code = omega arith;
  blocks_behind_data = λ n. from_on i.tasks n (data_end i);
  bricks_behind_blocks = λ n k. omega arith;
  blocks_behind_bricks = λ m n below k. let e = ends_before i.tasks m n (data_end i) below (omega arith) in omega arith;
}

pub in_memory : (i : ImageParts) → HasImageRanges i → LieInMemory i
in_memory i h =
    let most = h.memory in
    let even = h.even_data in
    let first : data_end i % 2 ≡ 0 = omega arith in
    record {
      code = omega arith;
      data_part = omega arith;
      bricks = λ n k. let e = ends_within i.tasks n (data_end i) k in omega arith;
      even_code_end = omega arith;
      even_blocks = λ n. even_from i.tasks n (data_end i) first;
      even_bricks = λ n. let e = even_from i.tasks n (data_end i) first in omega arith;
    }
