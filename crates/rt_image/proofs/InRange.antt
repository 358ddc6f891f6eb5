-- What the tests of an image's parts say of its ranges.
use Rattle.std.proofs.Common.{◌≡◌, ℕ, ◌+◌, ◌*◌, ◌%◌, ◌≤◌, Bool, false, eqb, leb, List, length, sum, map, IsTrue, inl, inr, sym, ap, subst, ◌∙◌, arith}
use Rattle.std.specs.List.{All, AllByRecursion}
use Rattle.std.proofs.lemmas.Bool.{leb-true, le-leb}
use Rattle.std.proofs.lemmas.Bool.Decides.{eqb_tells}
use Rattle.std.proofs.lemmas.List.Elements.{recursion_from_All}
use Rattle.rt_image.specs.declared.image.ImageParts.{ImageParts}
use Rattle.rt_image.specs.declared.image.ImageTask.{ImageTask}
use Rattle.rt_image.specs.Ranges.{IsByte, IsWord, IsMark, task_size, memory_size, HasTaskRanges, HaveDifferentNames, HasImageRanges}

some_there : (n : ℕ) (b : Bool) → b ≡ eqb n 0 → b ≡ false → 1 ≤ n
some_there n b e f = elim (eqb_tells n 0) [ inl k ↦ absurd (let g = sym k.0 ∙ sym e ∙ f in cc) | inr k ↦ let some = k.1 in omega arith ]

-- what is known of the parts before their memory is tested
pub record AreTested (i : ImageParts) (code marks bytes : List ℕ) (tasks : List ImageTask) (no_code no_task : Bool) : Type 0 where
  pub is_code : code ≡ i.code
  pub is_marks : marks ≡ i.marks
  pub is_bytes : bytes ≡ i.bytes
  pub is_tasks : tasks ≡ i.tasks
  pub code_told : no_code ≡ eqb (length code) 0
  pub some_code : no_code ≡ false
  pub most_code : length code ≤ 28672
  pub marks_size : length marks ≡ length code
  pub even : length bytes % 2 ≡ 0
  pub task_told : no_task ≡ eqb (length tasks) 0
  pub some_task : no_task ≡ false
  pub most_tasks : length tasks ≤ 32
  pub each_word : AllByRecursion IsWord code
  pub each_byte : AllByRecursion IsByte bytes
  pub each_mark : All IsMark marks
  pub each_task : All (HasTaskRanges (2 * length code)) tasks
  pub names : HaveDifferentNames tasks

module _ (i : ImageParts) (code marks bytes : List ℕ) (tasks : List ImageTask) (no_code no_task : Bool) (size : ℕ) (t : AreTested i code marks bytes tasks no_code no_task) (e : size ≡ 2 * length code + length bytes + sum (map task_size tasks)) where
  same_size : size ≡ memory_size i
  same_size =
      let c : length code ≡ length i.code = ap length t.is_code in
      let b : length bytes ≡ length i.bytes = ap length t.is_bytes in
      let s : sum (map task_size tasks) ≡ sum (map task_size i.tasks) = ap (λ ts. sum (map task_size ts)) t.is_tasks in
      omega arith

  in_ranges : size ≤ 57344 → HasImageRanges i
  in_ranges small =
      let c : length code ≡ length i.code = ap length t.is_code in
      let m : length marks ≡ length i.marks = ap length t.is_marks in
      let b : length bytes ≡ length i.bytes = ap length t.is_bytes in
      let n : length tasks ≡ length i.tasks = ap length t.is_tasks in
      let some = some_there (length code) no_code t.code_told t.some_code in
      let some_task = some_there (length tasks) no_task t.task_told t.some_task in
      let most = t.most_code in
      let few = t.most_tasks in
      let marks_size = t.marks_size in
      let each_task : AllByRecursion (HasTaskRanges (2 * length code)) i.tasks = subst (AllByRecursion (HasTaskRanges (2 * length code))) t.is_tasks (recursion_from_All (HasTaskRanges (2 * length code)) tasks t.each_task) in
      let memory = same_size in
      record {
        some_code = omega arith;
        code = omega arith;
        each_word = subst (AllByRecursion IsWord) t.is_code t.each_word;
        marks = omega arith;
        each_mark = subst (AllByRecursion IsMark) t.is_marks (recursion_from_All IsMark marks t.each_mark);
        even_data = subst (λ xs. length xs % 2 ≡ 0) t.is_bytes t.even;
        each_byte = subst (AllByRecursion IsByte) t.is_bytes t.each_byte;
        some_task = omega arith;
        tasks = omega arith;
        each_task = subst (λ n. AllByRecursion (HasTaskRanges (2 * n)) i.tasks) c each_task;
        names = subst HaveDifferentNames t.is_tasks t.names;
        memory = omega arith;
      }

  pub decided : (IsTrue (leb size 57344) → HasImageRanges i) × (HasImageRanges i → IsTrue (leb size 57344))
  decided = (λ k. in_ranges (leb-true size 57344 k), λ h. let memory = h.memory in let same = same_size in le-leb size 57344 (omega arith))
