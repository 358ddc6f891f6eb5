-- The words that a task may use, by where they stand.
use Rattle.std.proofs.Common.{◌≡◌, ℕ, zero, suc, ◌+◌, ◌*◌, ◌/◌, ◌%◌, ◌<◌, ◌≤◌, Bool, true, false, ◌&&◌, List, [], ◌∷◌, length, get_or, refl, sym, ap, ◌∙◌, subst, inl, inr, arith, le-ltb}
use Rattle.std.specs.Prelude.{slice_index, slice_set, nat_lt, Ok}
use Rattle.std.proofs.lemmas.Bool.Decides.{eqb_tells, leb_tells}
use Rattle.std.proofs.lemmas.List.{length-set}
use Rattle.rt_words.specs.Word.{wrap_sub}
use Rattle.rt_image.specs.Memory.{words_bytes}
use Rattle.pdp_core.specs.declared.memory.Protection.{Protection}
use Rattle.pdp_core.specs.World.{World, may, fetched, word_read, byte_read, word_written, byte_written}
use Rattle.pdp_core.specs.Protection.{within, usable, protected}
use Rattle.rt_tasks.specs.declared.memory.Found.TheVariants.{Nowhere}
use Rattle.rt_tasks.specs.Found.{IsFound, half_at, with_half}
use Rattle.rt_tasks.specs.Ledger.{ledger}
use Rattle.rt_tasks.specs.Parts.{LieInOrder, EndAt}
use Rattle.rt_tasks.specs.Whole.{memory_of}
use Rattle.rt_tasks.specs.Words.{code_words, code_marks}
use Rattle.rt_tasks.specs.declared.code.Marked.{Marked}
use Rattle.rt_tasks.proofs.Accesses.{word_fetched, data_word_read, data_byte_read, data_word_written, data_byte_written, own_word_read, own_byte_read, own_word_written, own_byte_written}
use Rattle.rt_tasks.proofs.Steps.{below, above}
use Rattle.rt_tasks.proofs.Words.{code_length, word_there, length-words_bytes, word_of_bytes, two_bytes, half_byte, half_byte_put}

not_within : (low end a : ℕ) → (low ≤ a → a < end → ⊥) → within low end a ≡ false
not_within low end a h =
    elim (leb_tells low a) [
      | inl q ↦ elim (leb_tells end a) [ inl r ↦ above low end a r.1 | inr r ↦ absurd (h q.1 r.1) ]
      | inr q ↦ below low end a q.1
    ]

-- an address from which no word of the parts begins, nor holds it
unused : (p : Protection) (a : ℕ) → (a < 57344 → p.code_end ≤ a → a < p.data_end → ⊥) → (a < 57344 → p.block ≤ a → a < p.block + 16 → ⊥) → (a < 57344 → p.brick ≤ a → a < p.brick_end → ⊥) → may (usable p) a ≡ false
unused p a d k i =
    elim (leb_tells 57344 a) [
      | inl q ↦ rw (le-ltb a 57344 q.1) refl
      | inr q ↦ rw (not_within p.code_end p.data_end a (d q.1), not_within p.block (p.block + 16) a (k q.1), not_within p.brick p.brick_end a (i q.1)) (none (nat_lt a 57344))
    ]
  where
    none : (x : Bool) → (x && false) ≡ false
    none true = refl
    none false = refl

-- the byte of a word that stands among words
read_half : (ws : List ℕ) (k a x : ℕ) → k < length ws → slice_index ws k ≡ x → half_at x a ≡ get_or (words_bytes ws) (2 * k + a % 2) (half_at x a)
read_half ws k a x h is =
    ap (λ (y : ℕ). half_at y a) (sym is) ∙ sym (half_byte ws k a h) ∙ past (words_bytes ws) (2 * k + a % 2) 0 (half_at x a) (omega (arith, h, length-words_bytes ws))
  where
    past : (l : List ℕ) (i d d2 : ℕ) → i < length l → get_or l i d ≡ get_or l i d2
    past [] i d d2 h = absurd (omega arith)
    past (y ∷ ys) zero d d2 h = refl
    past (y ∷ ys) (suc i) d d2 h = past ys i d d2 (omega arith)

half_low : (x a : ℕ) → x < 65536 → half_at x a < 256
half_low x a low =
    elim (eqb_tells (a % 2) 0) [
      | inl q ↦ rw (q.0) (omega arith)
      | inr q ↦ rw (q.0) (omega (arith, low))
    ]

module _ (code words own marks : List ℕ) (p : Protection) (e : EndAt code (words_bytes words) p) (o : LieInOrder (words_bytes own) p) where
  abbrev bytes : List ℕ
  bytes = words_bytes words

  abbrev own_bytes : List ℕ
  own_bytes = words_bytes own

  abbrev W : World
  W = protected p (memory_of code bytes own_bytes p (ledger marks own_bytes p))

  -- where the places tell that no word is there
  pub nowhere_there : (a i j : ℕ) → a < 65536 → p.code_end < 65536 → p.block < 65536 → i ≡ wrap_sub a p.code_end / 2 + wrap_sub a p.code_end % 2 * 2147483648 → j ≡ wrap_sub a p.block / 2 + wrap_sub a p.block % 2 * 2147483648 → length words ≤ i → length own ≤ j → IsFound words own p a Nowhere
  nowhere_there a i j la lc lb ei ej hi hj even =
      let ld : length bytes ≡ 2 * length words = length-words_bytes words in
      let lo : length own_bytes ≡ 2 * length own = length-words_bytes own in
      let nd : a < 57344 → p.code_end ≤ a → a < p.data_end → ⊥ = λ s l u. omega (arith, even, ei, hi, ld, e.0, e.1, l, u) in
      let no : a < 57344 → p.block ≤ a → a < p.brick_end → ⊥ = λ s l u. omega (arith, even, ej, hj, lo, o.all_own, o.even_block, s, l, u) in
      let nd2 : a + 1 < 57344 → p.code_end ≤ a + 1 → a + 1 < p.data_end → ⊥ = λ s l u. nd (omega (arith, s)) (omega (arith, even, e.0, l)) (omega (arith, u)) in
      let no2 : a + 1 < 57344 → p.block ≤ a + 1 → a + 1 < p.brick_end → ⊥ = λ s l u. no (omega (arith, s)) (omega (arith, even, o.even_block, l)) (omega (arith, u)) in (
        unused p a nd (λ s l u. no s l (omega (arith, o.brick, o.brick_end, u))) (λ s l u. no s (omega (arith, o.brick, l)) u),
        unused p (a + 1) nd2 (λ s l u. no2 s l (omega (arith, o.brick, o.brick_end, u))) (λ s l u. no2 s (omega (arith, o.brick, l)) u),
      )

  -- where it is there
  pub data_there : (a i : ℕ) → a < 65536 → p.code_end < 65536 → i ≡ wrap_sub a p.code_end / 2 + wrap_sub a p.code_end % 2 * 2147483648 → i < length words → p.code_end + 2 * i ≡ a
  data_there a i la lc ei h = omega (arith, ei, h, length-words_bytes words, e.0, e.1, o.block, o.all_own)

  pub own_there : (a i : ℕ) → a < 65536 → p.block < 65536 → i ≡ wrap_sub a p.block / 2 + wrap_sub a p.block % 2 * 2147483648 → i < length own → p.block + 2 * i ≡ a
  own_there a i la lb ei h = omega (arith, ei, h, length-words_bytes own, o.all_own)

  -- words and bytes of the data
  module _ (a k : ℕ) (h : k < length words) where
    long : 2 * k + 1 < length bytes
    long = omega (arith, h, length-words_bytes words)

    pub data_read : (x : ℕ) → p.code_end + 2 * k ≡ a → slice_index words k ≡ x → x < 65536 → Ok x ≡ word_read W a
    data_read x at is low =
        ap Ok (sym (word_of_bytes words k h (omega (arith, is, low)) ∙ is))
        ∙ data_word_read code bytes own_bytes marks p e o a (2 * k) at (omega (arith, long)) (λ odd. omega (arith, odd, at, e.0)) long

    pub data_written : (v : ℕ) → p.code_end + 2 * k ≡ a → word_written W a v ≡ Ok (protected p (memory_of code (words_bytes (slice_set words k v)) own_bytes p (ledger marks own_bytes p)))
    data_written v at =
        data_word_written code bytes own_bytes marks p e o a (2 * k) at (omega (arith, long)) v (λ odd. omega (arith, odd, at, e.0)) long
        ∙ ap (λ (bs : List ℕ). Ok (protected p (memory_of code bs own_bytes p (ledger marks own_bytes p)))) (two_bytes words k v)

    pub data_half : (x : ℕ) → p.code_end + 2 * k ≡ a / 2 * 2 → slice_index words k ≡ x → x < 65536 → Ok (half_at x a) ≡ byte_read W a
    data_half x at is low =
        data_byte_read code bytes own_bytes marks p e o a (2 * k + a % 2) (omega (arith, at)) (omega (arith, long)) (half_at x a) (read_half words k a x h is) (half_low x a low)

    pub data_half_written : (b : ℕ) → p.code_end + 2 * k ≡ a / 2 * 2 → b < 256 → byte_written W a b ≡ Ok (protected p (memory_of code (words_bytes (slice_set words k (with_half (slice_index words k) a b))) own_bytes p (ledger marks own_bytes p)))
    data_half_written b at low =
        data_byte_written code bytes own_bytes marks p e o a (2 * k + a % 2) (omega (arith, at)) (omega (arith, long)) b
        ∙ ap (λ (bs : List ℕ). Ok (protected p (memory_of code bs own_bytes p (ledger marks own_bytes p)))) (half_byte_put words k a b h low)

    pub data_half_put : (b x y : ℕ) → p.code_end + 2 * k ≡ a / 2 * 2 → b < 256 → slice_index words k ≡ x → y ≡ with_half x a b → byte_written W a b ≡ Ok (protected p (memory_of code (words_bytes (slice_set words k y)) own_bytes p (ledger marks own_bytes p)))
    data_half_put b x y at low is e2 =
        data_half_written b at low
        ∙ ap (λ (v : ℕ). Ok (protected p (memory_of code (words_bytes (slice_set words k v)) own_bytes p (ledger marks own_bytes p)))) (ap (λ (z : ℕ). with_half z a b) is ∙ sym e2)

  -- words and bytes of the block and brick
  module _ (a k : ℕ) (h : k < length own) where
    own_long : 2 * k + 1 < length own_bytes
    own_long = omega (arith, h, length-words_bytes own)

    pub own_read : (x : ℕ) → p.block + 2 * k ≡ a → slice_index own k ≡ x → x < 65536 → Ok x ≡ word_read W a
    own_read x at is low =
        ap Ok (sym (word_of_bytes own k h (omega (arith, is, low)) ∙ is))
        ∙ own_word_read code bytes own_bytes marks p e o a (2 * k) at (omega (arith, own_long)) (λ odd. omega (arith, odd, at, o.even_block)) own_long

    pub own_written : (v : ℕ) → p.block + 2 * k ≡ a → word_written W a v ≡ Ok (protected p (memory_of code bytes (words_bytes (slice_set own k v)) p (ledger marks (words_bytes (slice_set own k v)) p)))
    own_written v at =
        own_word_written code bytes own_bytes marks p e o a (2 * k) at (omega (arith, own_long)) v (λ odd. omega (arith, odd, at, o.even_block)) own_long
        ∙ ap (λ (bs : List ℕ). Ok (protected p (memory_of code bytes bs p (ledger marks bs p)))) (two_bytes own k v)

    pub own_half : (x : ℕ) → p.block + 2 * k ≡ a / 2 * 2 → slice_index own k ≡ x → x < 65536 → Ok (half_at x a) ≡ byte_read W a
    own_half x at is low =
        own_byte_read code bytes own_bytes marks p e o a (2 * k + a % 2) (omega (arith, at)) (omega (arith, own_long)) (half_at x a) (read_half own k a x h is) (half_low x a low)

    pub own_half_written : (b : ℕ) → p.block + 2 * k ≡ a / 2 * 2 → b < 256 → byte_written W a b ≡ Ok (protected p (memory_of code bytes (words_bytes (slice_set own k (with_half (slice_index own k) a b))) p (ledger marks (words_bytes (slice_set own k (with_half (slice_index own k) a b))) p)))
    own_half_written b at low =
        own_byte_written code bytes own_bytes marks p e o a (2 * k + a % 2) (omega (arith, at)) (omega (arith, own_long)) b
        ∙ ap (λ (bs : List ℕ). Ok (protected p (memory_of code bytes bs p (ledger marks bs p)))) (half_byte_put own k a b h low)

    pub own_half_put : (b x y : ℕ) → p.block + 2 * k ≡ a / 2 * 2 → b < 256 → slice_index own k ≡ x → y ≡ with_half x a b → byte_written W a b ≡ Ok (protected p (memory_of code bytes (words_bytes (slice_set own k y)) p (ledger marks (words_bytes (slice_set own k y)) p)))
    own_half_put b x y at low is e2 =
        own_half_written b at low
        ∙ ap (λ (v : ℕ). Ok (protected p (memory_of code bytes (words_bytes (slice_set own k v)) p (ledger marks (words_bytes (slice_set own k v)) p)))) (ap (λ (z : ℕ). with_half z a b) is ∙ sym e2)

-- another word changes no length
same_length : (ws : List ℕ) (k v : ℕ) → length (words_bytes (slice_set ws k v)) ≡ length (words_bytes ws)
same_length ws k v = length-words_bytes (slice_set ws k v) ∙ ap (λ (n : ℕ). 2 * n) (length-set ws k v) ∙ sym (length-words_bytes ws)

pub ends_stay : (code words : List ℕ) (p : Protection) (k v : ℕ) → EndAt code (words_bytes words) p → EndAt code (words_bytes (slice_set words k v)) p
ends_stay code words p k v e = (e.0, omega (arith, e.1, same_length words k v))

pub order_stays : (own : List ℕ) (p : Protection) (k v : ℕ) → LieInOrder (words_bytes own) p → LieInOrder (words_bytes (slice_set own k v)) p
order_stays own p k v o =
    record {
      code = o.code;
      block = o.block;
      brick = o.brick;
      brick_end = o.brick_end;
      all_own = omega (arith, o.all_own, same_length own k v);
      low = o.low;
      even_data = o.even_data;
      even_block = o.even_block;
      even_end = o.even_end;
    }

-- a word of the code
pub code_fetched : (code : List Marked) (words own : List ℕ) (p : Protection) → EndAt (code_words code) (words_bytes words) p → LieInOrder (words_bytes own) p → ((k : ℕ) → slice_index (code_words code) k < 65536) → (a i : ℕ) (m : Marked) → i ≡ a / 2 + a % 2 * 2147483648 → i < length code → m ≡ get_or code i m → Ok m.word ≡ fetched (protected p (memory_of (code_words code) (words_bytes words) (words_bytes own) p (ledger (code_marks code) (words_bytes own) p))) a
code_fetched code words own p e o low a i m ei h is =
    let there : slice_index (code_words code) i ≡ m.word = word_there code i m h is in
    let long : length (code_words code) ≡ length code = code_length code in
    let small : m.word < 65536 = subst (λ (x : ℕ). x < 65536) there (low i) in
    let even : a % 2 ≡ 0 = omega (arith, ei, h, long, e.0, o.code, o.block, o.all_own) in
    word_fetched (code_words code) (words_bytes words) (words_bytes own) (code_marks code) p e o a i m.word (λ odd. omega (arith, odd, even)) (omega (arith, ei, even)) (omega (arith, h, long)) (read_or (code_words code) i m.word there (omega (arith, h, long))) small
  where
    read_or : (ws : List ℕ) (k x : ℕ) → slice_index ws k ≡ x → k < length ws → x ≡ get_or ws k x
    read_or [] k x e h = absurd (omega arith)
    read_or (y ∷ ys) zero x e h = sym e
    read_or (y ∷ ys) (suc k) x e h = read_or ys k x e (omega arith)
