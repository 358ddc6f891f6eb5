-- What fits the format of an image is the spelling of an image in its ranges, and the other way round.
use Rattle.std.proofs.Common.{◌≡◌, ℕ, ◌+◌, ◌*◌, ◌%◌, ◌^◌, ◌<◌, ◌≤◌, true, List, [], ◌∷◌, ◌++◌, length, codes, Some, refl, sym, ap, subst, ◌∙◌, arith, append_assoc}
use Rattle.std.specs.List.{AllByRecursion}
use Rattle.std.proofs.lemmas.List.{append-nil}
use Rattle.rt_words.specs.Bytes.{word_bytes}
use Rattle.rt_words.specs.Format.{byte, word, any, within, times}
use Rattle.rt_words.specs.Spelling.{spell_all, words_bytes, name_bytes}
use Rattle.rt_words.proofs.Spelled.{AreBytes, bytes_left, bytes_before, bytes_append, word_are_bytes, all_are_bytes, IsSpelled, spelled_word, spelled_byte, spelled_name, spelled_times, any_is, AllStand, each_there, each_back}
use Rattle.rt_image.specs.declared.image.ImageParts.{ImageParts}
use Rattle.rt_image.specs.declared.image.ImageTask.{ImageTask}
use Rattle.rt_image.specs.Grammar.{data_count, entry_below, stack_behind, is_new, code_format, data_format, task_format, tasks_format, image_format}
use Rattle.rt_image.specs.Ranges.{IsWord, IsMark, task_size, HasTaskRanges, HaveDifferentNames, HasImageRanges}
use Rattle.rt_image.specs.Spelling.{task_spelling, image_spelling}
use Rattle.rt_image.proofs.Sizes.{size_of, size_append, size_cons}
use Rattle.rt_image.proofs.Names.{different_push, new_behind, no_names}
use Rattle.rt_image.proofs.Tests.{within_same, within_is, within_back, data_same, data_is, data_back, entry_same, entry_is, entry_back, stack_same, stack_is, stack_back}

-- ---- words, marks

weaker : {A : Type 0} (P Q : A → Type 0) → ((x : A) → P x → Q x) → (xs : List A) → AllByRecursion P xs → AllByRecursion Q xs
weaker P Q g [] h = tt
weaker P Q g (x ∷ xs) h = (g x h.0, weaker P Q g xs h.1)

abbrev IsAny : ℕ → Type 0
IsAny x = (x < 2 ^ 16) × (any x ≡ Some x)

words_spelled : (n : ℕ) → IsSpelled (times (word any) n []) words_bytes (λ xs. (length xs ≡ n) × AllByRecursion IsAny xs)
words_spelled n = spelled_times (word any) word_bytes IsAny (spelled_word any any_is) n

are_words : (xs : List ℕ) → AllByRecursion IsAny xs → AllByRecursion IsWord xs
are_words = weaker IsAny IsWord (λ x h. h.0)

words_are : (xs : List ℕ) → AllByRecursion IsWord xs → AllByRecursion IsAny xs
words_are = weaker IsWord IsAny (λ x h. (h, refl))

abbrev alone : ℕ → List ℕ
alone x = x ∷ []

singles : (xs : List ℕ) → spell_all alone xs ≡ xs
singles [] = refl
singles (x ∷ xs) = ap (λ t. x ∷ t) (singles xs)

abbrev IsAMark : ℕ → Type 0
IsAMark x = (x < 2 ^ 8) × (within 0 2 x ≡ Some x)

marks_spelled : (n : ℕ) → IsSpelled (times (byte (within 0 2)) n []) (spell_all alone) (λ xs. (length xs ≡ n) × AllByRecursion IsAMark xs)
marks_spelled n = spelled_times (byte (within 0 2)) alone IsAMark (spelled_byte (within 0 2) (within_same 0 2)) n

are_marks : (xs : List ℕ) → AllByRecursion IsAMark xs → AllByRecursion IsMark xs
are_marks = weaker IsAMark IsMark (λ x h. (within_is 0 2 x h.1).1)

marks_are : (xs : List ℕ) → AllByRecursion IsMark xs → AllByRecursion IsAMark xs
marks_are = weaker IsMark IsAMark (λ x h. (omega arith, within_back 0 2 x (omega arith) h))

-- ---- the code

record IsCode (count : ℕ) (x : List ℕ × List ℕ) : Type 0 where
  words : length x.0 ≡ count
  each_word : AllByRecursion IsWord x.0
  marks : length x.1 ≡ count
  each_mark : AllByRecursion IsMark x.1

abbrev spell_code : List ℕ × List ℕ → List ℕ
spell_code x = words_bytes x.0 ++ x.1

code_there : (count : ℕ) (l r : List ℕ) (x : List ℕ × List ℕ) → AreBytes l → (code_format count).Fits l r x → (l ≡ spell_code x ++ r) × IsCode count x
code_there count l r x h (m1, words, ws, (m2, marks, ms, (e, f))) =
    let b = (words_spelled count).there l m1 words h ws in
    let h1 = bytes_left l (words_bytes words) m1 b.0 h in
    let c = (marks_spelled count).there m1 m2 marks h1 ms in
    let one : m1 ≡ marks ++ r = c.0 ∙ ap (λ t. t ++ m2) (singles marks) ∙ ap (λ t. marks ++ t) e in
    let two : l ≡ spell_code (words, marks) ++ r = b.0 ∙ ap (λ t. words_bytes words ++ t) one ∙ sym (append_assoc (words_bytes words) marks r) in
    subst (λ x. (l ≡ spell_code x ++ r) × IsCode count x) f (two, record { words = b.1.0; each_word = are_words words b.1.1; marks = c.1.0; each_mark = are_marks marks c.1.1 })

code_back : (count : ℕ) (r : List ℕ) (x : List ℕ × List ℕ) → IsCode count x → (code_format count).Fits (spell_code x ++ r) r x
code_back count r x h = (
  x.1 ++ r,
  x.0,
  subst (λ t. (times (word any) count []).Fits t (x.1 ++ r) x.0) (sym (append_assoc (words_bytes x.0) x.1 r)) ((words_spelled count).back (x.1 ++ r) x.0 (h.words, words_are x.0 h.each_word)),
  (
    r,
    x.1,
    subst (λ t. (times (byte (within 0 2)) count []).Fits (t ++ r) r x.1) (singles x.1) ((marks_spelled count).back r x.1 (h.marks, marks_are x.1 h.each_mark)),
    (refl, refl),
  ),
)

-- ---- the data

record IsData (code_end : ℕ) (x : List ℕ) : Type 0 where
  even : length x % 2 ≡ 0
  room : code_end + length x ≤ 57344
  each_byte : AreBytes x

abbrev spell_data : List ℕ → List ℕ
spell_data x = word_bytes (length x) ++ x

data_there : (code_end : ℕ) (l r x : List ℕ) → AreBytes l → (data_format code_end).Fits l r x → (l ≡ spell_data x ++ r) × IsData code_end x
data_there code_end l r x h (m, count, w, (e, f)) =
    let a = (spelled_word (data_count code_end) (data_same code_end)).there l m count h w in
    let range = data_is code_end count a.1.1 in
    let room = range.1 in
    let three : l ≡ spell_data x ++ r = a.0 ∙ ap (λ t. word_bytes count ++ t) e ∙ ap (λ n. word_bytes n ++ (x ++ r)) (sym f) in
    (three, record { even = subst (λ n. n % 2 ≡ 0) (sym f) range.0; room = omega arith; each_byte = bytes_before x r (subst AreBytes e (bytes_left l (word_bytes count) m a.0 h)) })

data_fits : (code_end : ℕ) (r x : List ℕ) → IsData code_end x → (data_format code_end).Fits (spell_data x ++ r) r x
data_fits code_end r x h =
    (x ++ r, length x, (spelled_word (data_count code_end) (data_same code_end)).back (x ++ r) (length x) (let m = h.room in omega arith, data_back code_end (length x) h.even h.room), (refl, refl))

-- ---- a task

record Stands (code_end used : ℕ) (before : List ImageTask) (t : ImageTask) : Type 0 where
  ranges : HasTaskRanges code_end t
  new : is_new before t.name ≡ true
  room : (used + size_of before) + task_size t ≤ 57344

module _ (code_end used : ℕ) (small : code_end ≤ 57344) (before : List ImageTask) where
  abbrev taken : ℕ
  taken = used + size_of before

  task_there : (l r : List ℕ) (t : ImageTask) → AreBytes l → (task_format code_end used before).Fits l r t → (l ≡ task_spelling t ++ r) × Stands code_end used before t
  task_there l r t h (m0, n, (nf, new), (m1, priority, pf, (m2, entry, ef, (m3, words, wf, (m4, stack, sf, (e, f)))))) =
      let a = spelled_name.there l m0 n h nf in
      let h0 = bytes_left l (name_bytes n) m0 a.0 h in
      let b = (spelled_byte (within 1 255) (within_same 1 255)).there m0 m1 priority h0 pf in
      let h1 = bytes_left m0 (alone priority) m1 b.0 h0 in
      let c = (spelled_word (entry_below code_end) (entry_same code_end)).there m1 m2 entry h1 ef in
      let h2 = bytes_left m1 (word_bytes entry) m2 c.0 h1 in
      let d = (words_spelled 8).there m2 m3 words h2 wf in
      let h3 = bytes_left m2 (words_bytes words) m3 d.0 h2 in
      let k = (spelled_word (stack_behind taken) (stack_same taken)).there m3 m4 stack h3 sf in
      let range = within_is 1 255 priority b.1.1 in
      let place = entry_is code_end entry c.1.1 in
      let brick = stack_is taken stack k.1.1 in
      let four : m2 ≡ (words_bytes words ++ word_bytes stack) ++ r = d.0 ∙ ap (λ t. words_bytes words ++ t) (k.0 ∙ ap (λ t. word_bytes stack ++ t) e) ∙ sym (append_assoc (words_bytes words) (word_bytes stack) r) in
      let three : m0 ≡ priority ∷ ((word_bytes entry ++ (words_bytes words ++ word_bytes stack)) ++ r) = b.0 ∙ ap (λ t. priority ∷ t) (c.0 ∙ ap (λ t. word_bytes entry ++ t) four) in
      let one : l ≡ name_bytes n ++ (priority ∷ ((word_bytes entry ++ (words_bytes words ++ word_bytes stack)) ++ r)) = a.0 ∙ ap (λ t. name_bytes n ++ t) three in
      let all : l ≡ (name_bytes n ++ (priority ∷ (word_bytes entry ++ (words_bytes words ++ word_bytes stack)))) ++ r = one ∙ sym (append_assoc (name_bytes n) (priority ∷ (word_bytes entry ++ (words_bytes words ++ word_bytes stack))) r) in
      subst (λ t. (l ≡ task_spelling t ++ r) × Stands code_end used before t) f (
        all,
        record {
          ranges = record {
            name = a.1.0;
            each_letter = a.1.1;
            priority = range.0;
            most_priority = range.1;
            even_entry = place.0;
            entry = place.1;
            block = d.1.0;
            each_block_word = are_words words d.1.1;
            some_stack = brick.some;
            stack = brick.most;
          };
          new = new;
          room = brick.room;
        },
      )

  task_back : (r : List ℕ) (t : ImageTask) → Stands code_end used before t → (task_format code_end used before).Fits (task_spelling t ++ r) r t
  task_back r t h =
      let rest4 : List ℕ = word_bytes t.stack ++ r in
      let rest3 : List ℕ = words_bytes t.block ++ rest4 in
      let rest2 : List ℕ = word_bytes t.entry ++ rest3 in
      let rest1 : List ℕ = t.priority ∷ rest2 in
      let order : task_spelling t ++ r ≡ name_bytes t.name ++ rest1 =
      append_assoc (name_bytes t.name) (t.priority ∷ (word_bytes t.entry ++ (words_bytes t.block ++ word_bytes t.stack))) r ∙ ap (λ x. name_bytes t.name ++ (t.priority ∷ (word_bytes t.entry ++ x))) (append_assoc (words_bytes t.block) (word_bytes t.stack) r) in
      let least = h.ranges.priority in
      let most = h.ranges.most_priority in
      let stack = h.ranges.stack in
      let below = h.ranges.entry in
      let room = h.room in
      subst (λ l. (task_format code_end used before).Fits l r t) (sym order) (
        rest1,
        t.name,
        (spelled_name.back rest1 t.name (h.ranges.name, h.ranges.each_letter), h.new),
        (
          rest2,
          t.priority,
          (spelled_byte (within 1 255) (within_same 1 255)).back rest2 t.priority (omega arith, within_back 1 255 t.priority least most),
          (
            rest3,
            t.entry,
            (spelled_word (entry_below code_end) (entry_same code_end)).back rest3 t.entry (omega arith, entry_back code_end t.entry h.ranges.even_entry h.ranges.entry),
            (
              rest4,
              t.block,
              (words_spelled 8).back rest4 t.block (h.ranges.block, words_are t.block h.ranges.each_block_word),
              (
                r,
                t.stack,
                (spelled_word (stack_behind taken) (stack_same taken)).back r t.stack (omega arith, stack_back taken t.stack (record { some = h.ranges.some_stack; most = stack; room = room })),
                (refl, refl),
              ),
            ),
          ),
        ),
      )

-- ---- the tasks

-- what tasks are behind others, the code ending at code_end and used bytes of the memory being taken before all of them
record Behind (code_end used : ℕ) (before more : List ImageTask) : Type 0 where
  ranges : AllByRecursion (HasTaskRanges code_end) more
  names : HaveDifferentNames (before ++ more)
  room : used + size_of (before ++ more) ≤ 57344

module _ (code_end used : ℕ) where
  stand_behind : (before more : List ImageTask) → HaveDifferentNames before → used + size_of before ≤ 57344 → AllStand (Stands code_end used) before more → Behind code_end used before more
  stand_behind before [] names room h = record { ranges = tt; names = subst HaveDifferentNames (sym (append-nil before)) names; room = subst (λ ts. used + size_of ts ≤ 57344) (sym (append-nil before)) room }
  stand_behind before (x ∷ more) names room h =
      let one = h.0.room in
      let size = size_append before (x ∷ []) in
      let last = size_cons x [] in
      let next = stand_behind (before ++ x ∷ []) more (different_push before x names h.0.new) (omega arith) h.1 in
      let order : (before ++ x ∷ []) ++ more ≡ before ++ x ∷ more = append_assoc before (x ∷ []) more in
      record { ranges = (h.0.ranges, next.ranges); names = subst HaveDifferentNames order next.names; room = subst (λ ts. used + size_of ts ≤ 57344) order next.room }

  behind_stand : (before more : List ImageTask) → Behind code_end used before more → AllStand (Stands code_end used) before more
  behind_stand before [] h = tt
  behind_stand before (x ∷ more) h =
      let size = size_append before (x ∷ more) in
      let first = size_cons x more in
      let room = h.room in
      let order : before ++ x ∷ more ≡ (before ++ x ∷ []) ++ more = sym (append_assoc before (x ∷ []) more) in (
        record { ranges = h.ranges.0; new = new_behind before more x h.names; room = omega arith },
        behind_stand (before ++ x ∷ []) more (record { ranges = h.ranges.1; names = subst HaveDifferentNames order h.names; room = subst (λ ts. used + size_of ts ≤ 57344) order h.room }),
      )

  abbrev spell_tasks : List ImageTask → List ℕ
  spell_tasks ts = length ts ∷ spell_all task_spelling ts

  record AreTasks (ts : List ImageTask) : Type 0 where
    some : 1 ≤ length ts
    most : length ts ≤ 32
    behind : Behind code_end used [] ts

  module _ (small : code_end ≤ 57344) (free : used ≤ 57344) where
    task_spelled : (before : List ImageTask) → IsSpelled (task_format code_end used before) task_spelling (Stands code_end used before)
    task_spelled before = record { there = task_there code_end used small before; back = task_back code_end used small before }

    tasks_there : (l r : List ℕ) (ts : List ImageTask) → AreBytes l → (tasks_format code_end used).Fits l r ts → (l ≡ spell_tasks ts ++ r) × AreTasks ts
    tasks_there l r ts h (m, count, b, rest) =
        let a = (spelled_byte (within 1 32) (within_same 1 32)).there l m count h b in
        let t = each_there (task_format code_end used) task_spelling (Stands code_end used) task_spelled count [] m r ts (bytes_left l (alone count) m a.0 h) rest in
        let range = within_is 1 32 count a.1.1 in
        let least = range.0 in
        let most = range.1 in
        let same : t.more ≡ ts = sym t.whole in
        let size : length ts ≡ count = ap length (sym same) ∙ t.count in
        let spelled : m ≡ spell_all task_spelling ts ++ r = subst (λ x. m ≡ spell_all task_spelling x ++ r) same t.spelled in
        let all : l ≡ spell_tasks ts ++ r = a.0 ∙ ap (λ x. count ∷ x) spelled ∙ ap (λ n. n ∷ (spell_all task_spelling ts ++ r)) (sym size) in
        let behind : Behind code_end used [] ts = subst (Behind code_end used []) same (stand_behind [] t.more no_names (omega arith) t.stand) in
        (all, record { some = omega arith; most = omega arith; behind = behind })

    tasks_back : (r : List ℕ) (ts : List ImageTask) → AreTasks ts → (tasks_format code_end used).Fits (spell_tasks ts ++ r) r ts
    tasks_back r ts h =
        let most = h.most in (
          spell_all task_spelling ts ++ r,
          length ts,
          (spelled_byte (within 1 32) (within_same 1 32)).back (spell_all task_spelling ts ++ r) (length ts) (omega arith, within_back 1 32 (length ts) h.some h.most),
          each_back (task_format code_end used) task_spelling (Stands code_end used) task_spelled ts [] r (behind_stand [] ts h.behind),
        )

-- ---- the image

abbrev magic : List ℕ
magic = codes "RTI" ++ 1 ∷ []

-- the parts one behind another, and what follows
whole_spelling : (code marks behind r : List ℕ) → magic ++ (word_bytes (length code) ++ (words_bytes code ++ (marks ++ (behind ++ r)))) ≡ (magic ++ ((word_bytes (length code) ++ (words_bytes code ++ marks)) ++ behind)) ++ r
whole_spelling code marks behind r = ap (λ x. magic ++ (word_bytes (length code) ++ x)) (ap (λ x. words_bytes code ++ x) (sym (append_assoc marks behind r)) ∙ sym (append_assoc (words_bytes code) (marks ++ behind) r)
    ∙ ap (λ x. x ++ r) (sym (append_assoc (words_bytes code) marks behind)))

-- the parts in their ranges
ranges_of : (count : ℕ) (code : List ℕ × List ℕ) (bytes : List ℕ) (tasks : List ImageTask) → 1 ≤ count → count ≤ 28672 → IsCode count code → IsData (2 * count) bytes → AreTasks (2 * count) (2 * count + length bytes) tasks
    → HasImageRanges (record { code = code.0; marks = code.1; bytes = bytes; tasks = tasks })
ranges_of count code bytes tasks some most c d t =
    let size = c.words in
    let room = t.behind.room in
    record {
      some_code = omega arith;
      code = omega arith;
      each_word = c.each_word;
      marks = c.marks ∙ sym c.words;
      each_mark = c.each_mark;
      even_data = d.even;
      each_byte = d.each_byte;
      some_task = t.some;
      tasks = t.most;
      each_task = subst (λ n. AllByRecursion (HasTaskRanges (2 * n)) tasks) (sym c.words) t.behind.ranges;
      names = t.behind.names;
      memory = omega arith;
    }

pub image_there : (l r : List ℕ) (i : ImageParts) → AreBytes l → image_format.Fits l r i → (l ≡ image_spelling i ++ r) × HasImageRanges i
image_there l r i h (m, _, tf, (m0, count, w, (m1, code, cf, (m2, bytes, df, (m3, tasks, kf, (e, f)))))) =
    let code_end : ℕ = 2 * count in
    let used : ℕ = code_end + length bytes in
    let h0 = bytes_left l magic m tf h in
    let a = (spelled_word (within 1 28672) (within_same 1 28672)).there m m0 count h0 w in
    let h1 = bytes_left m (word_bytes count) m0 a.0 h0 in
    let c = code_there count m0 m1 code h1 cf in
    let h2 = bytes_left m0 (spell_code code) m1 c.0 h1 in
    let d = data_there code_end m1 m2 bytes h2 df in
    let h3 = bytes_left m1 (spell_data bytes) m2 d.0 h2 in
    let range = within_is 1 28672 count a.1.1 in
    let most = range.1 in
    let room = d.1.room in
    let t = tasks_there code_end used (omega arith) room m2 m3 tasks h3 kf in
    let behind : List ℕ = spell_data bytes ++ spell_tasks code_end used tasks in
    let four : m1 ≡ behind ++ r = d.0 ∙ ap (λ x. spell_data bytes ++ x) (t.0 ∙ ap (λ x. spell_tasks code_end used tasks ++ x) e) ∙ sym (append_assoc (spell_data bytes) (spell_tasks code_end used tasks) r) in
    let three : m0 ≡ words_bytes code.0 ++ (code.1 ++ (behind ++ r)) = c.0 ∙ ap (λ x. spell_code code ++ x) four ∙ append_assoc (words_bytes code.0) code.1 (behind ++ r) in
    let two : m ≡ word_bytes (length code.0) ++ (words_bytes code.0 ++ (code.1 ++ (behind ++ r))) = a.0 ∙ ap (λ x. word_bytes count ++ x) three ∙ ap (λ n. word_bytes n ++ (words_bytes code.0 ++ (code.1 ++ (behind ++ r)))) (sym c.1.words) in
    let one : l ≡ magic ++ (word_bytes (length code.0) ++ (words_bytes code.0 ++ (code.1 ++ (behind ++ r)))) = tf ∙ ap (λ x. magic ++ x) two in
    subst (λ i. (l ≡ image_spelling i ++ r) × HasImageRanges i) f (one ∙ whole_spelling code.0 code.1 behind r, ranges_of count code bytes tasks range.0 range.1 c.1 d.1 t.1)

pub image_back : (r : List ℕ) (i : ImageParts) → HasImageRanges i → image_format.Fits (image_spelling i ++ r) r i
image_back r i h =
    let count : ℕ = length i.code in
    let code_end : ℕ = 2 * count in
    let used : ℕ = code_end + length i.bytes in
    let code : List ℕ × List ℕ = (i.code, i.marks) in
    let most = h.code in
    let memory = h.memory in
    let tasks : List ℕ = spell_tasks code_end used i.tasks in
    let rest3 : List ℕ = tasks ++ r in
    let rest2 : List ℕ = spell_data i.bytes ++ rest3 in
    let rest1 : List ℕ = spell_code code ++ rest2 in
    let rest0 : List ℕ = word_bytes count ++ rest1 in
    let order : image_spelling i ++ r ≡ magic ++ rest0 =
    sym (whole_spelling i.code i.marks (spell_data i.bytes ++ tasks) r) ∙ ap (λ x. magic ++ (word_bytes count ++ x)) (sym (append_assoc (words_bytes i.code) i.marks ((spell_data i.bytes ++ tasks) ++ r)) ∙ ap (λ x. spell_code code ++ x) (append_assoc (spell_data i.bytes) tasks r)) in
    subst (λ l. image_format.Fits l r i) (sym order) (
      rest0,
      tt,
      refl,
      (
        rest1,
        count,
        (spelled_word (within 1 28672) (within_same 1 28672)).back rest1 count (omega arith, within_back 1 28672 count h.some_code h.code),
        (
          rest2,
          code,
          code_back count rest2 code (record { words = refl; each_word = h.each_word; marks = h.marks; each_mark = h.each_mark }),
          (
            rest3,
            i.bytes,
            data_fits code_end rest3 i.bytes (record { even = h.even_data; room = omega arith; each_byte = h.each_byte }),
            (r, i.tasks, tasks_back code_end used (omega arith) (omega arith) r i.tasks (record { some = h.some_task; most = h.tasks; behind = record { ranges = h.each_task; names = h.names; room = h.memory } }), (refl, refl)),
          ),
        ),
      ),
    )

-- ---- a spelling is bytes

task_bytes : (code_end : ℕ) → code_end ≤ 57344 → (t : ImageTask) → HasTaskRanges code_end t → AreBytes (task_spelling t)
task_bytes code_end small t h =
    let short = h.name.1 in
    let most = h.most_priority in
    let entry = h.entry in
    let stack = h.stack in
    bytes_append (name_bytes t.name) (t.priority ∷ (word_bytes t.entry ++ (words_bytes t.block ++ word_bytes t.stack))) (omega arith, h.each_letter) (
      omega arith,
      bytes_append (word_bytes t.entry) (words_bytes t.block ++ word_bytes t.stack) (word_are_bytes t.entry (omega arith))
          (bytes_append (words_bytes t.block) (word_bytes t.stack) (all_are_bytes word_bytes IsWord word_are_bytes t.block h.each_block_word) (word_are_bytes t.stack (omega arith))),
    )

pub image_bytes : (i : ImageParts) → HasImageRanges i → AreBytes (image_spelling i)
image_bytes i h =
    let most = h.code in
    let memory = h.memory in
    let tasks = h.tasks in
    let each_mark = weaker IsMark (λ b. b < 256) (λ x k. omega arith) i.marks h.each_mark in
    let code = bytes_append (word_bytes (length i.code)) (words_bytes i.code ++ i.marks) (word_are_bytes (length i.code) (omega arith)) (bytes_append (words_bytes i.code) i.marks (all_are_bytes word_bytes IsWord word_are_bytes i.code h.each_word) each_mark) in
    let data_part = bytes_append (word_bytes (length i.bytes)) i.bytes (word_are_bytes (length i.bytes) (omega arith)) h.each_byte in
    let all = all_are_bytes task_spelling (HasTaskRanges (2 * length i.code)) (task_bytes (2 * length i.code) (omega arith)) i.tasks h.each_task in (
      omega arith,
      (
        omega arith,
        (
          omega arith,
          (
            omega arith,
            bytes_append (word_bytes (length i.code) ++ spell_code (i.code, i.marks)) (spell_data i.bytes ++ (length i.tasks ∷ spell_all task_spelling i.tasks)) code
                (bytes_append (spell_data i.bytes) (length i.tasks ∷ spell_all task_spelling i.tasks) data_part (omega arith, all)),
          ),
        ),
      ),
    )
