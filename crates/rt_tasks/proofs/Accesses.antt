-- The ways to use the memory.
use Rattle.std.proofs.Common.{◌≡◌, ℕ, ◌+◌, ◌-◌, ◌/◌, ◌%◌, ◌<◌, ◌≤◌, true, false, List, ◌∷◌, length, get_or, set, refl, sym, ap, ◌∙◌, inl, inr, arith, lt-ltb}
use Rattle.std.specs.Prelude.{◌⊎◌, ◌==◌, slice_index, slice_set, Ok}
use Rattle.std.proofs.Math.Path.{fun_ext}
use Rattle.std.proofs.lemmas.List.{get_or-set_same, get_or-set_other, length-set, get_or_read}
use Rattle.std.proofs.lemmas.Bool.Decides.{eqb_tells, nat_tests}
use Rattle.pdp_core.specs.declared.memory.Protection.{Protection}
use Rattle.pdp_core.specs.World.{word_at, put_word, put_byte, word_use, byte_use, fetched, word_read, byte_read, word_written, byte_written}
use Rattle.pdp_core.specs.Protection.{fetchable, usable, protected}
use Rattle.rt_tasks.specs.Parts.{LieInOrder, EndAt}
use Rattle.rt_tasks.specs.Whole.{code_byte, memory_of}
use Rattle.rt_tasks.specs.Ledger.{ledger}
use Rattle.rt_tasks.proofs.Places.{at_code, at_data, at_own, same_byte, data_usable, own_usable, use_of_word, use_of_byte}

-- the word at an address is that of two bytes elsewhere
word_from : (m : ℕ → ℕ) (bs : List ℕ) (a k : ℕ) → m a ≡ slice_index bs k → m (a + 1) ≡ slice_index bs (k + 1) → word_at m a ≡ word_at (λ x. slice_index bs x) k
unfolding word_at
word_from m bs a k e f = rw (e, f) refl

-- the word of the code at an even address
pub code_word : (code : List ℕ) (m : ℕ → ℕ) (a x : ℕ) → (a % 2 ≡ 1 → ⊥) → m a ≡ code_byte code a → m (a + 1) ≡ code_byte code (a + 1) → slice_index code (a / 2) ≡ x → x < 65536 → word_at m a ≡ x
unfolding word_at
code_word code m a x n e f g h =
    let even : (a % 2 == 0) ≡ true = grind (arith, nat_tests) in
    let odd : ((a + 1) % 2 == 0) ≡ false = grind (arith, nat_tests) in
    let half : (a + 1) / 2 ≡ a / 2 = omega arith in
    rw (e, f, even, odd, half, g) (omega arith)

-- a word put where two bytes stand, and a byte put where one stands
put_two : (m n : ℕ → ℕ) (a v : ℕ) → n a ≡ v % 256 → n (a + 1) ≡ v / 256 → ((x : ℕ) → (x ≡ a → ⊥) → (x ≡ a + 1 → ⊥) → m x ≡ n x) → put_word m a v ≡ n
unfolding put_word
put_two m n a v e f g = fun_ext (λ x. by x (eqb_tells x a) (eqb_tells x (a + 1)))
  where
    by : (x : ℕ) → ((x == a) ≡ true) × (x ≡ a) ⊎ ((x == a) ≡ false) × (x ≡ a → ⊥) → ((x == (a + 1)) ≡ true) × (x ≡ a + 1) ⊎ ((x == (a + 1)) ≡ false) × (x ≡ a + 1 → ⊥) → put_word m a v x ≡ n x
    by x (inl p) q = rw p.0 (sym e ∙ ap n (sym p.1))
    by x (inr p) (inl q) = rw (p.0, q.0) (sym f ∙ ap n (sym q.1))
    by x (inr p) (inr q) = rw (p.0, q.0) (g x p.1 q.1)

put_one : (m n : ℕ → ℕ) (a v : ℕ) → n a ≡ v → ((x : ℕ) → (x ≡ a → ⊥) → m x ≡ n x) → put_byte m a v ≡ n
unfolding put_byte
put_one m n a v e g = fun_ext (λ x. by x (eqb_tells x a))
  where
    by : (x : ℕ) → ((x == a) ≡ true) × (x ≡ a) ⊎ ((x == a) ≡ false) × (x ≡ a → ⊥) → put_byte m a v x ≡ n x
    by x (inl p) = rw p.0 (sym e ∙ ap n (sym p.1))
    by x (inr p) = rw p.0 (g x p.1)

-- two bytes put into a list
abbrev two : List ℕ → ℕ → ℕ → List ℕ
two bs k v = slice_set (slice_set bs k (v % 256)) (k + 1) (v / 256)

two_low : (bs : List ℕ) (k v : ℕ) → k + 1 < length bs → slice_index (two bs k v) k ≡ v % 256
two_low bs k v h = get_or-set_other (set bs k (v % 256)) (k + 1) k (v / 256) 0 (λ e. absurd (omega arith)) ∙ get_or-set_same bs k (v % 256) 0 (omega arith)

two_high : (bs : List ℕ) (k v : ℕ) → k + 1 < length bs → slice_index (two bs k v) (k + 1) ≡ v / 256
two_high bs k v h = get_or-set_same (set bs k (v % 256)) (k + 1) (v / 256) 0 (rw length-set h)

two_other : (bs : List ℕ) (k v i : ℕ) → (i ≡ k → ⊥) → (i ≡ k + 1 → ⊥) → slice_index bs i ≡ slice_index (two bs k v) i
two_other bs k v i n1 n2 = sym (get_or-set_other (set bs k (v % 256)) (k + 1) i (v / 256) 0 n2 ∙ get_or-set_other bs k i (v % 256) 0 n1)

pub two_length : (bs : List ℕ) (k v : ℕ) → length (two bs k v) ≡ length bs
two_length bs k v = length-set (set bs k (v % 256)) (k + 1) (v / 256) ∙ length-set bs k (v % 256)

-- the ledger tells the length of a task's own bytes alone
same_ledger : (marks own own2 : List ℕ) (p : Protection) → length own2 ≡ length own → ledger marks own p ≡ ledger marks own2 p
same_ledger marks own own2 p e = ap (λ (n : ℕ). λ (a : ℕ). slice_index (p.code_end ∷ p.data_end ∷ p.block ∷ p.brick ∷ p.brick_end ∷ n ∷ marks) (a - 65536)) (sym e)

module _ (code bytes own marks : List ℕ) (p : Protection) (e : EndAt code bytes p) (o : LieInOrder own p) where
  low_block : p.block ≤ 57344
  low_block = omega (arith, o.all_own)

  -- a word of the code
  pub word_fetched : (a i x : ℕ) → (a % 2 ≡ 1 → ⊥) → i ≡ a / 2 → i < length code → x ≡ get_or code i x → x < 65536 → Ok x ≡ fetched (protected p (memory_of code bytes own p (ledger marks own p))) a
  word_fetched a i x n half h g k =
      let first : a < p.code_end = omega (arith, e.0) in
      let second : a + 1 < p.code_end = omega (arith, e.0) in
      let here : slice_index code (a / 2) ≡ x = ap (slice_index code) (sym half) ∙ sym (get_or_read code i x h g 0) in
      rw (use_of_word (fetchable p) a n (omega (arith, low_block, o.code, o.block)) (lt-ltb a p.code_end first) (lt-ltb (a + 1) p.code_end second))
      (ap Ok (sym (code_word code (memory_of code bytes own p (ledger marks own p)) a x n (at_code code bytes own p (ledger marks own p) a first) (at_code code bytes own p (ledger marks own p) (a + 1) second) here k)))

  module _ (a k : ℕ) (at : p.code_end + k ≡ a) where
    ends : k < length bytes → a < p.data_end
    ends h = omega (arith, e.0, e.1)

    on_data : k < length bytes → (bytes2 : List ℕ) → memory_of code bytes2 own p (ledger marks own p) a ≡ slice_index bytes2 k
    on_data h bytes2 = at_data code bytes2 own p (ledger marks own p) a (omega arith) (ends h) ∙ ap (slice_index bytes2) (omega arith)

    data_word_use : (a % 2 ≡ 1 → ⊥) → k < length bytes → word_use (usable p) a ≡ Ok tt
    data_word_use n h =
        let end : a + 1 < p.data_end = omega (arith, ends h, o.even_data) in
        use_of_word (usable p) a n (omega (arith, low_block, o.block)) (data_usable p a (omega arith) (ends h)) (data_usable p (a + 1) (omega arith) end)

    data_byte_use : k < length bytes → byte_use (usable p) a ≡ Ok tt
    data_byte_use h = use_of_byte (usable p) a (omega (arith, ends h, low_block, o.block)) (data_usable p a (omega arith) (ends h))

  module _ (a k : ℕ) (at : p.block + k ≡ a) where
    own_ends : k < length own → a < p.brick_end
    own_ends h = omega (arith, o.all_own)

    own_low : k < length own → a < 57344
    own_low h = omega (arith, o.all_own)

    on_own : k < length own → (own2 : List ℕ) (others : ℕ → ℕ) → memory_of code bytes own2 p others a ≡ slice_index own2 k
    on_own h own2 others = at_own code bytes own2 p others a (omega (arith, o.code, o.block)) (omega (arith, o.block)) (omega arith) (own_ends h) ∙ ap (slice_index own2) (omega arith)

    own_word_use : (a % 2 ≡ 1 → ⊥) → k < length own → word_use (usable p) a ≡ Ok tt
    own_word_use n h =
        let end : a + 1 < p.brick_end = omega (arith, own_ends h, o.even_end) in
        use_of_word (usable p) a n (omega (arith, own_low h)) (own_usable own p a o (omega arith) (own_ends h)) (own_usable own p (a + 1) o (omega arith) end)

    own_byte_use : k < length own → byte_use (usable p) a ≡ Ok tt
    own_byte_use h = use_of_byte (usable p) a (own_low h) (own_usable own p a o (omega arith) (own_ends h))

  -- the data
  module _ (a k : ℕ) (at : p.code_end + k ≡ a) (h : k < length bytes) where
    pub data_word_read : (a % 2 ≡ 1 → ⊥) → k + 1 < length bytes → Ok (word_at (λ x. slice_index bytes x) k) ≡ word_read (protected p (memory_of code bytes own p (ledger marks own p))) a
    data_word_read n j =
        rw (data_word_use a k at n h)
        (ap Ok (sym (word_from (memory_of code bytes own p (ledger marks own p)) bytes a k (on_data a k at h bytes) (on_data (a + 1) (k + 1) (omega arith) j bytes))))

    pub data_byte_read : (x : ℕ) → x ≡ get_or bytes k x → x < 256 → Ok x ≡ byte_read (protected p (memory_of code bytes own p (ledger marks own p))) a
    data_byte_read x g j =
        let here : x ≡ get_or bytes k 0 = get_or_read bytes k x h g 0 in
        rw (data_byte_use a k at h, on_data a k at h bytes) (ap Ok (omega (arith, here)))

    pub data_word_written : (v : ℕ) → (a % 2 ≡ 1 → ⊥) → k + 1 < length bytes → word_written (protected p (memory_of code bytes own p (ledger marks own p))) a v ≡ Ok (protected p (memory_of code (two bytes k v) own p (ledger marks own p)))
    data_word_written v n j =
        rw (data_word_use a k at n h)
        (ap (λ (m : ℕ → ℕ). Ok (protected p m)) (put_two (memory_of code bytes own p (ledger marks own p)) (memory_of code (two bytes k v) own p (ledger marks own p)) a v
        (on_data a k at h (two bytes k v) ∙ two_low bytes k v j)
        (on_data (a + 1) (k + 1) (omega arith) j (two bytes k v) ∙ two_high bytes k v j)
        (λ x n1 n2. same_byte code bytes own (two bytes k v) own p (ledger marks own p) (ledger marks own p) x (λ l u. two_other bytes k v (x - p.code_end) (λ q. n1 (omega arith)) (λ q. n2 (omega arith))) (λ l u. refl) refl)))

    pub data_byte_written : (v : ℕ) → byte_written (protected p (memory_of code bytes own p (ledger marks own p))) a v ≡ Ok (protected p (memory_of code (slice_set bytes k v) own p (ledger marks own p)))
    data_byte_written v =
        rw (data_byte_use a k at h)
        (ap (λ (m : ℕ → ℕ). Ok (protected p m)) (put_one (memory_of code bytes own p (ledger marks own p)) (memory_of code (slice_set bytes k v) own p (ledger marks own p)) a v
        (on_data a k at h (slice_set bytes k v) ∙ get_or-set_same bytes k v 0 h)
        (λ x n1. same_byte code bytes own (slice_set bytes k v) own p (ledger marks own p) (ledger marks own p) x (λ l u. sym (get_or-set_other bytes k (x - p.code_end) v 0 (λ q. n1 (omega arith)))) (λ l u. refl) refl)))

  -- the block and the brick
  module _ (a k : ℕ) (at : p.block + k ≡ a) (h : k < length own) where
    pub own_word_read : (a % 2 ≡ 1 → ⊥) → k + 1 < length own → Ok (word_at (λ x. slice_index own x) k) ≡ word_read (protected p (memory_of code bytes own p (ledger marks own p))) a
    own_word_read n j =
        rw (own_word_use a k at n h)
        (ap Ok (sym (word_from (memory_of code bytes own p (ledger marks own p)) own a k (on_own a k at h own (ledger marks own p)) (on_own (a + 1) (k + 1) (omega arith) j own (ledger marks own p)))))

    pub own_byte_read : (x : ℕ) → x ≡ get_or own k x → x < 256 → Ok x ≡ byte_read (protected p (memory_of code bytes own p (ledger marks own p))) a
    own_byte_read x g j =
        let here : x ≡ get_or own k 0 = get_or_read own k x h g 0 in
        rw (own_byte_use a k at h, on_own a k at h own (ledger marks own p)) (ap Ok (omega (arith, here)))

    pub own_word_written : (v : ℕ) → (a % 2 ≡ 1 → ⊥) → k + 1 < length own → word_written (protected p (memory_of code bytes own p (ledger marks own p))) a v ≡ Ok (protected p (memory_of code bytes (two own k v) p (ledger marks (two own k v) p)))
    own_word_written v n j =
        rw (own_word_use a k at n h)
        (ap (λ (m : ℕ → ℕ). Ok (protected p m)) (put_two (memory_of code bytes own p (ledger marks own p)) (memory_of code bytes (two own k v) p (ledger marks (two own k v) p)) a v
        (on_own a k at h (two own k v) (ledger marks (two own k v) p) ∙ two_low own k v j)
        (on_own (a + 1) (k + 1) (omega arith) j (two own k v) (ledger marks (two own k v) p) ∙ two_high own k v j)
        (λ x n1 n2. same_byte code bytes own bytes (two own k v) p (ledger marks own p) (ledger marks (two own k v) p) x (λ l u. refl) (λ l u. two_other own k v (x - p.block) (λ q. n1 (omega arith)) (λ q. n2 (omega arith))) (ap (λ (f : ℕ → ℕ). f x) (same_ledger marks own (two own k v) p (two_length own k v))))))

    pub own_byte_written : (v : ℕ) → byte_written (protected p (memory_of code bytes own p (ledger marks own p))) a v ≡ Ok (protected p (memory_of code bytes (slice_set own k v) p (ledger marks (slice_set own k v) p)))
    own_byte_written v =
        rw (own_byte_use a k at h)
        (ap (λ (m : ℕ → ℕ). Ok (protected p m)) (put_one (memory_of code bytes own p (ledger marks own p)) (memory_of code bytes (slice_set own k v) p (ledger marks (slice_set own k v) p)) a v
        (on_own a k at h (slice_set own k v) (ledger marks (slice_set own k v) p) ∙ get_or-set_same own k v 0 h)
        (λ x n1. same_byte code bytes own bytes (slice_set own k v) p (ledger marks own p) (ledger marks (slice_set own k v) p) x (λ l u. refl) (λ l u. sym (get_or-set_other own k (x - p.block) v 0 (λ q. n1 (omega arith)))) (ap (λ (f : ℕ → ℕ). f x) (same_ledger marks own (slice_set own k v) p (length-set own k v))))))
