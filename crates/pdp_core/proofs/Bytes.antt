-- Plain bytes as a memory.
use Rattle.std.proofs.Common.{◌≡◌, ℕ, ◌+◌, ◌*◌, ◌/◌, ◌%◌, ◌<◌, true, false, List, length, get_or, set, refl, sym, ap, ◌∙◌, inl, inr, arith}
use Rattle.std.specs.Prelude.{◌⊎◌, ◌==◌, slice_index, slice_set, Ok}
use Rattle.std.proofs.Math.Path.{fun_ext}
use Rattle.std.proofs.lemmas.List.{get_or-set_same, get_or-set_other, length-set}
use Rattle.std.proofs.lemmas.Bool.Decides.{eqb_tells}
use Rattle.pdp_core.specs.declared.memory.Protection.{Protection}
use Rattle.pdp_core.specs.World.{word_at, put_word, put_byte, word_use, byte_use, word_written, byte_written}
use Rattle.pdp_core.specs.Protection.{usable, protected}

-- the word of two bytes
pub word_of : (bs : List ℕ) (a : ℕ) → get_or bs a 0 < 256 → get_or bs (a + 1) 0 < 256 → word_at (λ x. slice_index bs x) a ≡ get_or bs a 0 + 256 * get_or bs (a + 1) 0
unfolding word_at
word_of bs a p q = omega arith

-- a word written as two bytes
put_bytes : (bs : List ℕ) (a w : ℕ) → a + 1 < length bs → put_word (λ x. slice_index bs x) a w ≡ (λ x. slice_index (slice_set (slice_set bs a (w % 256)) (a + 1) (w / 256)) x)
unfolding put_word
put_bytes bs a w h = fun_ext (λ x. by x (eqb_tells x a) (eqb_tells x (a + 1)))
  where
    by : (x : ℕ) → ((x == a) ≡ true) × (x ≡ a) ⊎ ((x == a) ≡ false) × (x ≡ a → ⊥) → ((x == (a + 1)) ≡ true) × (x ≡ a + 1) ⊎ ((x == (a + 1)) ≡ false) × (x ≡ a + 1 → ⊥) → put_word (λ x. slice_index bs x) a w x ≡ slice_index (slice_set (slice_set bs a (w % 256)) (a + 1) (w / 256)) x
    by x (inl p) q = rw p.0 (sym (get_or-set_other (set bs a (w % 256)) (a + 1) x (w / 256) 0 (λ e. absurd (omega arith)) ∙ ap (λ y. get_or (set bs a (w % 256)) y 0) p.1 ∙ get_or-set_same bs a (w % 256) 0 (omega arith)))
    by x (inr p) (inl q) = rw (p.0, q.0) (sym (ap (λ y. get_or (set (set bs a (w % 256)) (a + 1) (w / 256)) y 0) q.1 ∙ get_or-set_same (set bs a (w % 256)) (a + 1) (w / 256) 0 (rw length-set h)))
    by x (inr p) (inr q) = rw (p.0, q.0) (sym (get_or-set_other (set bs a (w % 256)) (a + 1) x (w / 256) 0 q.1 ∙ get_or-set_other bs a x (w % 256) 0 p.1))

-- the memory after a word is written
pub written_word : (bs : List ℕ) (p : Protection) (a w : ℕ) → a + 1 < length bs → Ok tt ≡ word_use (usable p) a → word_written (protected p (λ x. slice_index bs x)) a w ≡ Ok (protected p (λ x. slice_index (slice_set (slice_set bs a (w % 256)) (a + 1) (w / 256)) x))
written_word bs p a w h may = rw (sym may, put_bytes bs a w h) refl

put_one : (bs : List ℕ) (a b : ℕ) → a < length bs → put_byte (λ x. slice_index bs x) a b ≡ (λ x. slice_index (slice_set bs a b) x)
unfolding put_byte
put_one bs a b h = fun_ext (λ x. by x (eqb_tells x a))
  where
    by : (x : ℕ) → ((x == a) ≡ true) × (x ≡ a) ⊎ ((x == a) ≡ false) × (x ≡ a → ⊥) → put_byte (λ x. slice_index bs x) a b x ≡ slice_index (slice_set bs a b) x
    by x (inl p) = rw p.0 (sym (ap (λ y. get_or (set bs a b) y 0) p.1 ∙ get_or-set_same bs a b 0 h))
    by x (inr p) = rw p.0 (sym (get_or-set_other bs a x b 0 p.1))

-- the memory after a byte is written
pub written_byte : (bs : List ℕ) (p : Protection) (a b : ℕ) → a < length bs → Ok tt ≡ byte_use (usable p) a → byte_written (protected p (λ x. slice_index bs x)) a b ≡ Ok (protected p (λ x. slice_index (slice_set bs a b) x))
written_byte bs p a b h may = rw (sym may, put_one bs a b h) refl
