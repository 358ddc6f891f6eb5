-- The parts at the start are the memory of the image.
use Rattle.std.proofs.Common.{◌≡◌, ℕ, zero, suc, ◌+◌, ◌-◌, ◌*◌, ◌<◌, ◌≤◌, Bool, true, false, nat_lt, if◌then◌else◌, List, [], ◌∷◌, ◌++◌, length, get_or, Some, refl, sym, ap, ◌∙◌, arith, ltb-true, ltb-false}
use Rattle.std.specs.Prelude.{slice_get, slice_index}
use Rattle.std.proofs.lemmas.List.{get_or_append_left, get_or-append_right}
use Rattle.pdp_core.specs.Protection.{within}
use Rattle.rt_image.specs.declared.image.ImageParts.{ImageParts}
use Rattle.rt_image.specs.declared.image.ImageTask.{ImageTask}
use Rattle.rt_image.specs.Memory.{words_bytes, code_end, data_end, block_from, block_at, task_bytes, tasks_bytes, start_memory, stack_words}
use Rattle.rt_image.specs.Ranges.{HasImageRanges, task_size}
use Rattle.rt_tasks.specs.Parts.{Sharing, with_task}
use Rattle.rt_tasks.specs.Start.{start_sharing, start_task}
use Rattle.rt_tasks.specs.Whole.{code_byte, memory_of, whole}
use Rattle.rt_tasks.specs.Laws.{LieSideBySide}
use Rattle.rt_tasks.proofs.Words.{length-words_bytes, byte_of_words}
use Rattle.rt_tasks.proofs.Starts.{long}
use Rattle.rt_tasks.proofs.Steps.{inside}

-- the bytes of task n, where the blocks begin at an address
task_byte : (i : ImageParts) → HasImageRanges i → (ts : List ImageTask) → ((k : ℕ) (u : ImageTask) → slice_get ts k ≡ Some u → length (task_bytes u) ≡ 16 + 2 * u.stack) → (n start : ℕ) (t : ImageTask) → slice_get ts n ≡ Some t → (a : ℕ) → block_from ts n start ≤ a → a < block_from ts n start + task_size t → (start ≤ block_from ts n start) × (get_or (tasks_bytes ts) (a - start) 0 ≡ get_or (task_bytes t) (a - block_from ts n start) 0)
task_byte i h [] each n start t e a low high = absurd cc
task_byte i h (u ∷ us) each zero start t e a low high =
    let same : u ≡ t = cc in
    let l : length (task_bytes u) ≡ 16 + 2 * u.stack = each 0 u refl in
    let m : u.stack ≡ t.stack = ap (λ (x : ImageTask). x.stack) same in
    (omega arith, get_or_append_left (task_bytes u) (tasks_bytes us) 0 (a - start) (omega (arith, l, m)) ∙ ap (λ (x : ImageTask). get_or (task_bytes x) (a - start) 0) same)
task_byte i h (u ∷ us) each (suc n) start t e a low high =
    let r = task_byte i h us (λ k v q. each (suc k) v q) n (start + task_size u) t e a low high in
    let l : length (task_bytes u) ≡ 16 + 2 * u.stack = each 0 u refl in
    (omega (arith, r.0), get_or-append_right (task_bytes u) (tasks_bytes us) (16 + 2 * u.stack) (a - start) 0 l (omega (arith, r.0)) ∙ ap (λ (k : ℕ). get_or (tasks_bytes us) k 0) (omega arith) ∙ r.1)

module _ (i : ImageParts) (h : HasImageRanges i) (n : ℕ) (t : ImageTask) (got : slice_get i.tasks n ≡ Some t) (a : ℕ) where
  abbrev s : Sharing
  s = with_task (start_sharing i) (start_task i n t)

  in_code : a < code_end i → code_byte i.code a ≡ start_memory i a
  in_code k = sym (get_or_append_left (words_bytes i.code) (i.bytes ++ tasks_bytes i.tasks) 0 a (omega (arith, length-words_bytes i.code)) ∙ byte_of_words i.code a k)

  behind_code : code_end i ≤ a → start_memory i a ≡ get_or (i.bytes ++ tasks_bytes i.tasks) (a - code_end i) 0
  behind_code k = get_or-append_right (words_bytes i.code) (i.bytes ++ tasks_bytes i.tasks) (code_end i) a 0 (length-words_bytes i.code) k

  in_data : code_end i ≤ a → a < data_end i → slice_index i.bytes (a - code_end i) ≡ start_memory i a
  in_data k l = sym (behind_code k ∙ get_or_append_left i.bytes (tasks_bytes i.tasks) 0 (a - code_end i) (omega arith))

  in_own : data_end i ≤ a → block_at i n ≤ a → a < block_at i n + task_size t → slice_index (task_bytes t) (a - block_at i n) ≡ start_memory i a
  in_own k l m =
      let r = task_byte i h i.tasks (λ j u q. long i h j u q) n (data_end i) t got a l m in
      sym (behind_code (omega arith) ∙ get_or-append_right i.bytes (tasks_bytes i.tasks) (length i.bytes) (a - code_end i) 0 refl (omega arith) ∙ ap (λ (x : ℕ). get_or (tasks_bytes i.tasks) x 0) (omega arith) ∙ r.1)

  by : (c d o : Bool) → nat_lt a (code_end i) ≡ c → nat_lt a (data_end i) ≡ d → within (block_at i n) (block_at i n + task_size t) a ≡ o → (if c then code_byte i.code a else if d then slice_index i.bytes (a - code_end i) else if o then slice_index (task_bytes t) (a - block_at i n) else start_memory i a) ≡ start_memory i a
  by true d o e f g = in_code (ltb-true a (code_end i) e)
  by false true o e f g = in_data (ltb-false a (code_end i) e) (ltb-true a (data_end i) f)
  by false false true e f g = let q = inside (block_at i n) (block_at i n + task_size t) a g in in_own (ltb-false a (data_end i) f) q.0 q.1
  by false false false e f g = refl

  beside : whole s (start_memory i) a ≡ start_memory i a
  unfolding memory_of
  beside =
      let size : stack_words (slice_get i.tasks n) ≡ t.stack = ap stack_words got in
      let end : block_at i n + 16 + 2 * stack_words (slice_get i.tasks n) ≡ block_at i n + task_size t = omega (arith, size) in
      rw end (by (nat_lt a (code_end i)) (nat_lt a (data_end i)) (within (block_at i n) (block_at i n + task_size t) a) refl refl refl)

pub side_by_side : LieSideBySide
side_by_side i h n t got a = beside i h n t got a
