-- Lists of words, and their bytes.
use Rattle.std.proofs.Common.{◌≡◌, ℕ, zero, suc, ◌+◌, ◌*◌, ◌/◌, ◌%◌, ◌<◌, ◌≤◌, List, [], ◌∷◌, ◌++◌, length, get_or, drop, append_assoc, refl, sym, ap, ◌∙◌, inl, inr, arith}
use Rattle.std.specs.Prelude.{slice_index, slice_set, replicate}
use Rattle.std.proofs.lemmas.List.{length-map}
use Rattle.std.proofs.lemmas.Bool.Decides.{eqb_tells}
use Rattle.pdp_core.specs.World.{word_at}
use Rattle.std.specs.List.{AllByRecursion}
use Rattle.rt_words.specs.Bytes.{word_bytes}
use Rattle.rt_image.specs.Memory.{words_bytes}
use Rattle.rt_image.specs.Ranges.{IsWord}
use Rattle.rt_tasks.specs.declared.code.Marked.{Marked}
use Rattle.rt_tasks.specs.Found.{half_at, with_half}
use Rattle.rt_tasks.specs.Traps.{mark_of}
use Rattle.rt_tasks.specs.Whole.{code_byte}
use Rattle.rt_tasks.specs.Words.{code_words, code_marks}

pub length-words_bytes : (ws : List ℕ) → length (words_bytes ws) ≡ 2 * length ws
length-words_bytes [] = refl
length-words_bytes (w ∷ ws) = omega (arith, length-words_bytes ws)

-- a byte of words
pub byte_of_words : (ws : List ℕ) (a : ℕ) → a < 2 * length ws → get_or (words_bytes ws) a 0 ≡ code_byte ws a
byte_of_words [] a h = absurd (omega arith)
byte_of_words (w ∷ ws) zero h = refl
byte_of_words (w ∷ ws) (suc zero) h = refl
byte_of_words (w ∷ ws) (suc (suc a)) h =
    let half : (suc (suc a)) / 2 ≡ suc (a / 2) = omega arith in
    let same : (suc (suc a)) % 2 ≡ a % 2 = omega arith in
    byte_of_words ws a (omega arith) ∙ sym (rw (half, same) refl)

-- the two bytes of a word
pub low_byte : (ws : List ℕ) (k : ℕ) → k < length ws → slice_index (words_bytes ws) (2 * k) ≡ slice_index ws k % 256
low_byte ws k h =
    let even : (2 * k) % 2 ≡ 0 = omega arith in
    let half : (2 * k) / 2 ≡ k = omega arith in
    byte_of_words ws (2 * k) (omega arith) ∙ rw (even, half) refl

pub high_byte : (ws : List ℕ) (k : ℕ) → k < length ws → slice_index (words_bytes ws) (2 * k + 1) ≡ slice_index ws k / 256
high_byte ws k h =
    let odd : (2 * k + 1) % 2 ≡ 1 = omega arith in
    let half : (2 * k + 1) / 2 ≡ k = omega arith in
    byte_of_words ws (2 * k + 1) (omega arith) ∙ rw (odd, half) refl

pub word_of_bytes : (ws : List ℕ) (k : ℕ) → k < length ws → slice_index ws k < 65536 → word_at (λ x. slice_index (words_bytes ws) x) (2 * k) ≡ slice_index ws k
unfolding word_at
word_of_bytes ws k h low = rw (low_byte ws k h, high_byte ws k h) (omega arith)

-- another word at a place
pub two_bytes : (ws : List ℕ) (k v : ℕ) → slice_set (slice_set (words_bytes ws) (2 * k) (v % 256)) (2 * k + 1) (v / 256) ≡ words_bytes (slice_set ws k v)
two_bytes [] k v = refl
two_bytes (w ∷ ws) zero v = refl
two_bytes (w ∷ ws) (suc k) v =
    let low : 2 * suc k ≡ suc (suc (2 * k)) = omega arith in
    let high : 2 * suc k + 1 ≡ suc (suc (2 * k + 1)) = omega arith in
    rw (high, low) (ap (λ (r : List ℕ). w % 256 ∷ w / 256 ∷ r) (two_bytes ws k v))

-- another byte at a place
low_byte_put : (ws : List ℕ) (k b : ℕ) → k < length ws → b < 256 → slice_set (words_bytes ws) (2 * k) b ≡ words_bytes (slice_set ws k (slice_index ws k / 256 * 256 + b))
low_byte_put [] k b h low = absurd (omega arith)
low_byte_put (w ∷ ws) zero b h low =
    let first : (w / 256 * 256 + b) % 256 ≡ b = omega arith in
    let second : (w / 256 * 256 + b) / 256 ≡ w / 256 = omega arith in
    rw (first, second) refl
low_byte_put (w ∷ ws) (suc k) b h low =
    let at : 2 * suc k ≡ suc (suc (2 * k)) = omega arith in
    rw at (ap (λ (r : List ℕ). w % 256 ∷ w / 256 ∷ r) (low_byte_put ws k b (omega arith) low))

high_byte_put : (ws : List ℕ) (k b : ℕ) → k < length ws → b < 256 → slice_set (words_bytes ws) (2 * k + 1) b ≡ words_bytes (slice_set ws k (slice_index ws k % 256 + 256 * b))
high_byte_put [] k b h low = absurd (omega arith)
high_byte_put (w ∷ ws) zero b h low =
    let first : (w % 256 + 256 * b) % 256 ≡ w % 256 = omega arith in
    let second : (w % 256 + 256 * b) / 256 ≡ b = omega arith in
    rw (first, second) refl
high_byte_put (w ∷ ws) (suc k) b h low =
    let at : 2 * suc k + 1 ≡ suc (suc (2 * k + 1)) = omega arith in
    rw at (ap (λ (r : List ℕ). w % 256 ∷ w / 256 ∷ r) (high_byte_put ws k b (omega arith) low))

-- the byte of an even or odd address, and another one there
pub half_byte : (ws : List ℕ) (k a : ℕ) → k < length ws → slice_index (words_bytes ws) (2 * k + a % 2) ≡ half_at (slice_index ws k) a
half_byte ws k a h =
    elim (eqb_tells (a % 2) 0) [
      | inl q ↦ let at : 2 * k + a % 2 ≡ 2 * k = omega (arith, q.1) in ap (λ (i : ℕ). slice_index (words_bytes ws) i) at ∙ low_byte ws k h ∙ rw (q.0) refl
      | inr q ↦ let at : 2 * k + a % 2 ≡ 2 * k + 1 = omega (arith, q.1) in ap (λ (i : ℕ). slice_index (words_bytes ws) i) at ∙ high_byte ws k h ∙ rw (q.0) refl
    ]

pub half_byte_put : (ws : List ℕ) (k a b : ℕ) → k < length ws → b < 256 → slice_set (words_bytes ws) (2 * k + a % 2) b ≡ words_bytes (slice_set ws k (with_half (slice_index ws k) a b))
half_byte_put ws k a b h low =
    elim (eqb_tells (a % 2) 0) [
      | inl q ↦ let at : 2 * k + a % 2 ≡ 2 * k = omega (arith, q.1) in ap (λ (i : ℕ). slice_set (words_bytes ws) i b) at ∙ low_byte_put ws k b h low ∙ rw (q.0) refl
      | inr q ↦ let at : 2 * k + a % 2 ≡ 2 * k + 1 = omega (arith, q.1) in ap (λ (i : ℕ). slice_set (words_bytes ws) i b) at ∙ high_byte_put ws k b h low ∙ rw (q.0) refl
    ]

-- the bytes of two lists of words, and of zeros
pub bytes_of_both : (xs ys : List ℕ) → words_bytes (xs ++ ys) ≡ words_bytes xs ++ words_bytes ys
bytes_of_both [] ys = refl
bytes_of_both (x ∷ xs) ys = ap (λ (r : List ℕ). x % 256 ∷ x / 256 ∷ r) (bytes_of_both xs ys)

pub bytes_of_zeros : (n : ℕ) → words_bytes (replicate n 0) ≡ replicate (2 * n) 0
bytes_of_zeros zero = refl
bytes_of_zeros (suc n) =
    let twice : 2 * suc n ≡ suc (suc (2 * n)) = omega arith in
    rw twice (ap (λ (r : List ℕ). 0 ∷ 0 ∷ r) (bytes_of_zeros n))

-- the code
pub code_length : (code : List Marked) → length (code_words code) ≡ length code
code_length code = length-map code (λ m. m.word)

pub marks_length : (code : List Marked) → length (code_marks code) ≡ length code
marks_length code = length-map code (λ m. m.mark)

pub as_many : (code : List Marked) → length (code_marks code) ≡ length (code_words code)
as_many code = marks_length code ∙ sym (code_length code)

pub word_there : (code : List Marked) (k : ℕ) (m : Marked) → k < length code → m ≡ get_or code k m → slice_index (code_words code) k ≡ m.word
word_there [] k m h e = absurd (omega arith)
word_there (x ∷ xs) zero m h e = ap (λ (y : Marked). y.word) (sym e)
word_there (x ∷ xs) (suc k) m h e = word_there xs k m (omega arith) e

pub mark_there : (code : List Marked) (k : ℕ) (m : Marked) → k < length code → m ≡ get_or code k m → slice_index (code_marks code) k ≡ m.mark
mark_there [] k m h e = absurd (omega arith)
mark_there (x ∷ xs) zero m h e = ap (λ (y : Marked). y.mark) (sym e)
mark_there (x ∷ xs) (suc k) m h e = mark_there xs k m (omega arith) e

-- a word that an index gave
pub read_there : (ws : List ℕ) (k x : ℕ) → k < length ws → x ≡ get_or ws k x → slice_index ws k ≡ x
read_there [] k x h e = absurd (omega arith)
read_there (y ∷ ys) zero x h e = sym e
read_there (y ∷ ys) (suc k) x h e = read_there ys k x (omega arith) e

pub mark_at_address : (code : List Marked) (a i : ℕ) (m : Marked) → length code ≤ 28672 → i ≡ a / 2 + a % 2 * 2147483648 → i < length code → m ≡ get_or code i m → m.mark ≡ mark_of (code_marks code) a
mark_at_address code a i m small ei h e =
    let even : a % 2 ≡ 0 = omega (arith, ei, small, h) in
    let half : i ≡ a / 2 = omega (arith, ei, even) in
    sym (rw (even) (ap (slice_index (code_marks code)) (sym half) ∙ mark_there code i m h e))

pub all_words : (l : List ℕ) → AllByRecursion IsWord l → (k : ℕ) → slice_index l k < 65536
all_words [] h k = omega arith
all_words (x ∷ xs) h zero = h.0
all_words (x ∷ xs) h (suc k) = all_words xs h.1 k

-- the word of the next two bytes is put behind the words of those before
pub data_goes_on : (ws bytes : List ℕ) (n x : ℕ) → 2 * n + 1 < length bytes → x % 256 ≡ slice_index bytes (2 * n) → x / 256 ≡ slice_index bytes (2 * n + 1) → words_bytes ws ++ drop (2 * n) bytes ≡ bytes → words_bytes (ws ++ x ∷ []) ++ drop (2 * (n + 1)) bytes ≡ bytes
data_goes_on ws bytes n x h low high e =
    let next : 2 * (n + 1) ≡ suc (suc (2 * n)) = omega arith in
    let second : suc (2 * n) ≡ 2 * n + 1 = omega arith in
    let first : drop (2 * n) bytes ≡ slice_index bytes (2 * n) ∷ drop (suc (2 * n)) bytes = there bytes (2 * n) (omega (arith, h)) in
    let behind : drop (suc (2 * n)) bytes ≡ slice_index bytes (suc (2 * n)) ∷ drop (suc (suc (2 * n))) bytes = there bytes (suc (2 * n)) (omega (arith, h)) in
    let top : x / 256 ≡ slice_index bytes (suc (2 * n)) = high ∙ ap (slice_index bytes) (sym second) in
    let both : word_bytes x ++ drop (2 * (n + 1)) bytes ≡ drop (2 * n) bytes = rw (low, top, next) (sym (first ∙ ap (λ (r : List ℕ). slice_index bytes (2 * n) ∷ r) behind)) in
    ap (λ (r : List ℕ). r ++ drop (2 * (n + 1)) bytes) (bytes_of_both ws (x ∷ []))
    ∙ append_assoc (words_bytes ws) (words_bytes (x ∷ [])) (drop (2 * (n + 1)) bytes)
    ∙ ap (λ (r : List ℕ). words_bytes ws ++ r) both
    ∙ e
  where
    there : (l : List ℕ) (k : ℕ) → k < length l → drop k l ≡ slice_index l k ∷ drop (suc k) l
    there [] k h = absurd (omega arith)
    there (y ∷ ys) zero h = refl
    there (y ∷ ys) (suc k) h = there ys k (omega arith)
