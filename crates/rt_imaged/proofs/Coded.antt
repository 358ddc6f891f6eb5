-- Words and marks of an image's code, as they stand in its memory.
use Rattle.std.proofs.Common.{◌≡◌, ℕ, zero, suc, ◌+◌, ◌*◌, ◌/◌, ◌%◌, ◌==◌, ◌<◌, ◌≤◌, Bool, true, false, if◌then◌else◌, List, [], ◌∷◌, ◌++◌, length, map, slice_index, refl, sym, ap, ◌∙◌, subst, arith, length-append}
use Rattle.std.specs.List.{AllByRecursion}
use Rattle.std.proofs.lemmas.Bool.Decides.{nat_tests}
use Rattle.rt_words.specs.Word.{wrap_add}
use Rattle.rt_image.specs.declared.image.ImageParts.{ImageParts}
use Rattle.rt_image.specs.Memory.{words_bytes, tasks_bytes, start_memory, mark_at}
use Rattle.rt_image.specs.Ranges.{IsWord, HasImageRanges}
use Rattle.pdp_code.specs.Code.{more_words, words_of}
use Rattle.pdp_core.specs.World.{word_at}
use Rattle.pdp_symbolic.specs.Machine.{Stands, past_words}
use Rattle.rt_templates.specs.declared.line.Line.{Line}
use Rattle.rt_templates.specs.Lines as lines
use Rattle.rt_follows.specs.Whole.{Whole, Home}
use Rattle.rt_follows.specs.Held.{layout, CodeAt}
use Rattle.rt_imaged.specs.Coded.{MarksAt, marked}
use Rattle.rt_imaged.proofs.Parts.{StandsIn, in_front, behind, inside, moved}

pub whole : (xs : List ℕ) → StandsIn xs 0 xs
whole xs = record { within = omega arith; same = λ i less. (let z : 0 + i ≡ i = omega arith in ap (slice_index xs) z) }

pub first_part : (xs : List ℕ) (p : ℕ) (ys zs : List ℕ) → StandsIn xs p (ys ++ zs) → StandsIn xs p ys
first_part xs p ys zs h = moved xs (p + 0) p ys (omega arith) (inside xs p (ys ++ zs) 0 ys h (in_front ys zs))

pub last_part : (xs : List ℕ) (p : ℕ) (ys zs : List ℕ) → StandsIn xs p (ys ++ zs) → StandsIn xs (p + length ys) zs
last_part xs p ys zs h =
    moved xs (p + (length ys + 0)) (p + length ys) zs (omega arith) (inside xs p (ys ++ zs) (length ys + 0) zs h (behind ys zs 0 zs (whole zs)))

-- ---- a word is its two bytes

one_word : (w : ℕ) → IsWord w → w % 256 % 256 + 256 * (w / 256 % 256) ≡ w
one_word w small = omega arith

-- two bytes on
shifted : (M : ℕ → ℕ) (n : ℕ) → word_at M (suc (suc n)) ≡ word_at (λ a. M (suc (suc a))) n
unfolding word_at
shifted M n = let z : suc (suc n) + 1 ≡ suc (suc (n + 1)) = omega arith in ap (λ (k : ℕ). M (suc (suc n)) % 256 + 256 * (M k % 256)) z

first_word : (w : ℕ) (xs : List ℕ) → IsWord w → word_at (λ a. slice_index (w % 256 ∷ w / 256 ∷ xs) a) 0 ≡ w
unfolding word_at
first_word w xs small = one_word w small

words_read : (ws rest : List ℕ) (i : ℕ) → AllByRecursion IsWord ws → i < length ws → word_at (λ a. slice_index (words_bytes ws ++ rest) a) (2 * i) ≡ slice_index ws i
words_read [] rest i all less = absurd (omega arith)
words_read (w ∷ ws) rest zero all less = first_word w (words_bytes ws ++ rest) all.0
words_read (w ∷ ws) rest (suc i) all less =
    let z : 2 * suc i ≡ suc (suc (2 * i)) = omega arith in
    ap (word_at (λ a. slice_index (words_bytes (w ∷ ws) ++ rest) a)) z ∙ shifted (λ a. slice_index (words_bytes (w ∷ ws) ++ rest) a) (2 * i) ∙ words_read ws rest i all.1 (omega arith)

pub code_read : (i : ImageParts) → HasImageRanges i → (k : ℕ) → k < length i.code → word_at (start_memory i) (2 * k) ≡ slice_index i.code k
code_read i ranges k less = words_read i.code (i.bytes ++ tasks_bytes i.tasks) k ranges.each_word less

picked : (b : Bool) (x y : ℕ) → b ≡ true → x ≡ y → (if b then x else 0) ≡ y
picked true x y e f = f
picked false x y e f = absurd cc

pub mark_read : (i : ImageParts) (k : ℕ) → mark_at i (2 * k) ≡ slice_index i.marks k
mark_read i k =
    let e : 2 * k % 2 ≡ 0 = omega arith in
    let half : 2 * k / 2 ≡ k = omega arith in
    picked (2 * k % 2 == 0) (slice_index i.marks (2 * k / 2)) (slice_index i.marks k) (grind (arith, nat_tests)) (ap (slice_index i.marks) half)

-- ---- lines

joined_long : (xs ys : List ℕ) → length (xs ++ ys) ≡ length xs + length ys
joined_long xs ys = length-append xs ys

zeros_long : (xs : List ℕ) → length {A = ℕ} (map (λ _. 0) xs) ≡ length xs
zeros_long [] = refl
zeros_long (x ∷ xs) = ap suc (zeros_long xs)

module _ (w : Whole) (h : Home) (i : ImageParts) (code : (a : ℕ) → word_at w.code a ≡ word_at (start_memory i) a) (marks : (a : ℕ) → w.marks a ≡ mark_at i a) (ends : w.code_end ≡ 2 * length i.code) (ranges : HasImageRanges i) where
  small : 2 * length i.code ≤ 57344
  small = let a = ranges.code in omega arith

  pub words_stand : (ws : List ℕ) (n : ℕ) → StandsIn i.code n ws → Stands (layout w h) (2 * n) ws
  words_stand [] n s = tt
  words_stand (x ∷ ws) n s =
      let in_code = s.within in
      let top = small in
      let next : 2 * suc n ≡ wrap_add (2 * n) 2 = omega arith in
      let here : n + 0 ≡ n = omega arith in (
        omega arith,
        omega arith,
        code (2 * n) ∙ code_read i ranges n (omega arith) ∙ ap (slice_index i.code) (sym here) ∙ s.same 0 (omega arith),
        subst (λ a. Stands (layout w h) a ws) next (words_stand ws (suc n) (record {
          within = omega arith;
          same = λ k less. (let z : suc n + k ≡ n + suc k = omega arith in ap (slice_index i.code) z ∙ s.same (suc k) (omega arith));
        })),
      )

  pub marks_stand : (ms : List ℕ) (n : ℕ) → StandsIn i.marks n ms → MarksAt w (2 * n) ms
  marks_stand [] n s = tt
  marks_stand (x ∷ ms) n s =
      let in_marks = s.within in
      let many = ranges.marks in
      let top = small in
      let next : 2 * suc n ≡ wrap_add (2 * n) 2 = omega arith in
      let here : n + 0 ≡ n = omega arith in (
        marks (2 * n) ∙ mark_read i n ∙ ap (slice_index i.marks) (sym here) ∙ s.same 0 (omega arith),
        subst (λ a. MarksAt w a ms) next (marks_stand ms (suc n) (record {
          within = omega arith;
          same = λ k less. (let z : suc n + k ≡ n + suc k = omega arith in ap (slice_index i.marks) z ∙ s.same (suc k) (omega arith));
        })),
      )

  past : (ws : List ℕ) (n : ℕ) → n + length ws ≤ length i.code → past_words (2 * n) ws ≡ 2 * (n + length ws)
  past [] n less = omega arith
  past (x ∷ ws) n less =
      let top = small in
      let next : wrap_add (2 * n) 2 ≡ 2 * suc n = omega arith in
      let rest = past ws (suc n) (omega arith) in
      ap (λ a. past_words a ws) next ∙ rest ∙ (omega arith)

  pub lines_stand : (ls : List Line) (n : ℕ) → StandsIn i.code n (lines.words ls) → StandsIn i.marks n (lines.marks ls) → CodeAt w h (2 * n) (map marked ls)
  lines_stand [] n f g = tt
  lines_stand (l ∷ ls) n f g =
      let ws : List ℕ = words_of l.instr in
      let ms : List ℕ = l.mark ∷ map (λ (x : ℕ). 0) (more_words l.instr) in
      let long : length ms ≡ length ws = ap suc (zeros_long (more_words l.instr)) in
      let mine = first_part i.code n ws (lines.words ls) f in
      let mark = first_part i.marks n ms (lines.marks ls) g in
      let one = marks_stand ms n mark in (
        words_stand ws n mine,
        one.0,
        subst (λ a. CodeAt w h a (map marked ls)) (sym (past ws n mine.within))
            (lines_stand ls (n + length ws) (last_part i.code n ws (lines.words ls) f) (subst (λ k. StandsIn i.marks (n + k) (lines.marks ls)) long (last_part i.marks n ms (lines.marks ls) g))),
      )
