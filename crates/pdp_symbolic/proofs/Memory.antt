-- Reading a memory after a write.
use Rattle.std.proofs.Common.{◌≡◌, ℕ, zero, suc, ◌+◌, ◌*◌, ◌/◌, ◌%◌, ◌<◌, ◌≤◌, List, [], ◌∷◌, length, drop, refl, sym, ◌∙◌, subst, inl, inr, arith}
use Rattle.std.specs.Prelude.{◌⊎◌, slice_set}
use Rattle.std.proofs.lemmas.Bool.Decides.{nat_tests}
use Rattle.rt_words.specs.Word.{with_low_byte}
use Rattle.pdp_core.specs.World.{word_at, byte_at, put_word, put_byte}
use Rattle.pdp_symbolic.specs.Machine.{WordsAt}

put_low : (m : ℕ → ℕ) (a v : ℕ) → put_word m a v a ≡ v % 256
unfolding put_word
put_low m a v = grind (arith, nat_tests)

put_high : (m : ℕ → ℕ) (a v : ℕ) → put_word m a v (a + 1) ≡ v / 256
unfolding put_word
put_high m a v = grind (arith, nat_tests)

pub put_apart : (m : ℕ → ℕ) (a v x : ℕ) → (x < a) ⊎ (a + 2 ≤ x) → put_word m a v x ≡ m x
unfolding put_word
put_apart m a v x h = grind (arith, nat_tests)

-- a word that was put is read
pub word_put : (m : ℕ → ℕ) (a v : ℕ) → v < 65536 → word_at (put_word m a v) a ≡ v
unfolding word_at
word_put m a v h = rw (put_low m a v, put_high m a v) (omega arith)

pub word_below : (m : ℕ → ℕ) (a : ℕ) → word_at m a < 65536
unfolding word_at
word_below m a = omega arith

pub word_agrees : (m m' : ℕ → ℕ) (a : ℕ) → m' a ≡ m a → m' (a + 1) ≡ m (a + 1) → word_at m' a ≡ word_at m a
unfolding word_at
word_agrees m m' a p q = rw (p, q) refl

-- words stay where the bytes stay
pub stack_agrees : (m m' : ℕ → ℕ) (a : ℕ) (ws : List ℕ) → ((x : ℕ) → a ≤ x → x < a + 2 * length ws → m' x ≡ m x) → WordsAt m a ws → WordsAt m' a ws
stack_agrees m m' a [] same s = tt
stack_agrees m m' a (w ∷ ws) same s = (
  word_agrees m m' a (same a (omega arith) (omega arith)) (same (a + 1) (omega arith) (omega arith)) ∙ s.0,
  stack_agrees m m' (a + 2) ws (λ x p q. same x (omega arith) (omega arith)) s.1,
)

-- a word pushed
pub stack_push : (m : ℕ → ℕ) (a v : ℕ) (ws : List ℕ) → v < 65536 → WordsAt m (a + 2) ws → WordsAt (put_word m a v) a (v ∷ ws)
stack_push m a v ws h s =
    (word_put m a v h, stack_agrees m (put_word m a v) (a + 2) ws (λ x p q. put_apart m a v x (inr p)) s)

-- a word of them changed
pub stack_set : (m : ℕ → ℕ) (a x : ℕ) (ws : List ℕ) (k : ℕ) → x < 65536 → k < length ws → WordsAt m a ws → WordsAt (put_word m (a + 2 * k) x) a (slice_set ws k x)
stack_set m a x [] k h i s = absurd (omega arith)
stack_set m a x (w ∷ ws) zero h i s =
    let e : a + 2 * 0 ≡ a = omega arith in
    subst (λ b. WordsAt (put_word m b x) a (x ∷ ws)) (sym e) (stack_push m a x ws h s.1)
stack_set m a x (w ∷ ws) (suc k) h i s =
    let e : a + 2 * suc k ≡ a + 2 + 2 * k = omega arith in
    let kept : word_at (put_word m (a + 2 * suc k) x) a ≡ word_at m a = word_agrees m (put_word m (a + 2 * suc k) x) a (put_apart m (a + 2 * suc k) x a (inl (omega arith))) (put_apart m (a + 2 * suc k) x (a + 1) (inl (omega arith))) in
    (kept ∙ s.0, subst (λ b. WordsAt (put_word m b x) (a + 2) (slice_set ws k x)) (sym e) (stack_set m (a + 2) x ws k h (omega arith) s.1))

-- the words above some of them
pub stack_drop : (m : ℕ → ℕ) (a k : ℕ) (ws : List ℕ) → k ≤ length ws → WordsAt m a ws → WordsAt m (a + 2 * k) (drop k ws)
stack_drop m a zero ws h s = let e : a + 2 * 0 ≡ a = omega arith in subst (λ b. WordsAt m b ws) (sym e) s
stack_drop m a (suc k) [] h s = absurd (omega arith)
stack_drop m a (suc k) (w ∷ ws) h s =
    let e : a + 2 * suc k ≡ a + 2 + 2 * k = omega arith in
    subst (λ b. WordsAt m b (drop k ws)) (sym e) (stack_drop m (a + 2) k ws (omega arith) s.1)

pub put_byte_apart : (m : ℕ → ℕ) (a v x : ℕ) → (x < a) ⊎ (a + 1 ≤ x) → put_byte m a v x ≡ m x
unfolding put_byte
put_byte_apart m a v x h = grind (arith, nat_tests)

-- the low byte of a word
pub low_byte : (m : ℕ → ℕ) (a : ℕ) → word_at m a % 256 ≡ byte_at m a
unfolding word_at
low_byte m a = omega arith

put_byte_here : (m : ℕ → ℕ) (a v : ℕ) → put_byte m a v a ≡ v
unfolding put_byte
put_byte_here m a v = grind (arith, nat_tests)

-- a byte put is the low one of its word
pub word_put_byte : (m : ℕ → ℕ) (a v : ℕ) → v < 256 → word_at (put_byte m a v) a ≡ with_low_byte (word_at m a) v
unfolding word_at
word_put_byte m a v h = rw (put_byte_here m a v, put_byte_apart m a v (a + 1) (inr (omega arith))) (omega arith)

pub low_byte_below : (w b : ℕ) → w < 65536 → b < 256 → with_low_byte w b < 65536
low_byte_below w b p q = omega arith
