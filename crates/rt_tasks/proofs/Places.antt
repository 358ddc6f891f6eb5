-- What stands at an address of the whole memory, and what a task may use.
use Rattle.std.proofs.Common.{◌≡◌, ℕ, ◌+◌, ◌-◌, ◌%◌, ◌<◌, ◌≤◌, Bool, true, false, nat_lt, nat_le, List, refl, inl, inr, arith, lt-ltb, le-ltb, le-leb, ne_eqb, ltb-true, ltb-false, leb-true}
use Rattle.std.specs.Prelude.{slice_index, Ok}
use Rattle.std.proofs.lemmas.Bool.Decides.{leb_tells}
use Rattle.pdp_core.specs.declared.memory.Protection.{Protection}
use Rattle.pdp_core.specs.World.{word_use, byte_use}
use Rattle.pdp_core.specs.Protection.{within, usable}
use Rattle.rt_tasks.specs.Parts.{LieInOrder}
use Rattle.rt_tasks.specs.Whole.{code_byte, memory_of}

module _ (code bytes own : List ℕ) (p : Protection) (others : ℕ → ℕ) where
  pub at_code : (a : ℕ) → a < p.code_end → memory_of code bytes own p others a ≡ code_byte code a
  unfolding memory_of
  at_code a h = rw (lt-ltb a p.code_end h) refl

  pub at_data : (a : ℕ) → p.code_end ≤ a → a < p.data_end → memory_of code bytes own p others a ≡ slice_index bytes (a - p.code_end)
  unfolding memory_of
  at_data a h k = rw (le-ltb a p.code_end h, lt-ltb a p.data_end k) refl

  pub at_own : (a : ℕ) → p.code_end ≤ a → p.data_end ≤ a → p.block ≤ a → a < p.brick_end → memory_of code bytes own p others a ≡ slice_index own (a - p.block)
  unfolding memory_of
  at_own a h k i j = rw (le-ltb a p.code_end h, le-ltb a p.data_end k, le-leb p.block a i, lt-ltb a p.brick_end j) refl

  pub elsewhere : (a : ℕ) → p.code_end ≤ a → p.data_end ≤ a → within p.block p.brick_end a ≡ false → memory_of code bytes own p others a ≡ others a
  unfolding memory_of
  elsewhere a h k n = rw (le-ltb a p.code_end h, le-ltb a p.data_end k, n) refl

-- the same byte, where each part has the same byte there
module _ (code bytes own bytes2 own2 : List ℕ) (p : Protection) (others others2 : ℕ → ℕ) (a : ℕ) where
  same_by : (c d l u : Bool) → nat_lt a p.code_end ≡ c → nat_lt a p.data_end ≡ d → nat_le p.block a ≡ l → nat_lt a p.brick_end ≡ u → (p.code_end ≤ a → a < p.data_end → slice_index bytes (a - p.code_end) ≡ slice_index bytes2 (a - p.code_end)) → (p.block ≤ a → a < p.brick_end → slice_index own (a - p.block) ≡ slice_index own2 (a - p.block)) → others a ≡ others2 a → memory_of code bytes own p others a ≡ memory_of code bytes2 own2 p others2 a
  unfolding memory_of
  same_by true d l u e f g k h i j = rw (e) refl
  same_by false true l u e f g k h i j = rw (e, f) (h (ltb-false a p.code_end e) (ltb-true a p.data_end f))
  same_by false false true true e f g k h i j = rw (e, f, g, k) (i (leb-true p.block a g) (ltb-true a p.brick_end k))
  same_by false false true false e f g k h i j = rw (e, f, g, k) j
  same_by false false false u e f g k h i j = rw (e, f, g) j

  pub same_byte : (p.code_end ≤ a → a < p.data_end → slice_index bytes (a - p.code_end) ≡ slice_index bytes2 (a - p.code_end)) → (p.block ≤ a → a < p.brick_end → slice_index own (a - p.block) ≡ slice_index own2 (a - p.block)) → others a ≡ others2 a → memory_of code bytes own p others a ≡ memory_of code bytes2 own2 p others2 a
  same_byte h i j = same_by (nat_lt a p.code_end) (nat_lt a p.data_end) (nat_le p.block a) (nat_lt a p.brick_end) refl refl refl refl h i j

-- what a task may use
pub data_usable : (p : Protection) (a : ℕ) → p.code_end ≤ a → a < p.data_end → usable p a ≡ true
data_usable p a h k = rw (le-leb p.code_end a h, lt-ltb a p.data_end k) refl

pub own_usable : (own : List ℕ) (p : Protection) (a : ℕ) → LieInOrder own p → p.block ≤ a → a < p.brick_end → usable p a ≡ true
own_usable own p a o h k =
    let d : nat_lt a p.data_end ≡ false = le-ltb a p.data_end (omega (arith, o.block)) in
    let c : nat_le p.code_end a ≡ true = le-leb p.code_end a (omega (arith, o.code, o.block)) in
    elim (leb_tells (p.block + 16) a) [
      | inl q ↦ rw (c, d, le-leb p.block a h, le-ltb a (p.block + 16) q.1, le-leb p.brick a (omega (arith, o.brick, q.1)), lt-ltb a p.brick_end k) refl
      | inr q ↦ rw (c, d, le-leb p.block a h, lt-ltb a (p.block + 16) q.1) refl
    ]

pub use_of_word : (allowed : ℕ → Bool) (a : ℕ) → (a % 2 ≡ 1 → ⊥) → a + 1 < 0o160000 → allowed a ≡ true → allowed (a + 1) ≡ true → word_use allowed a ≡ Ok tt
use_of_word allowed a n h e f =
    rw (ne_eqb (a % 2) 1 n, lt-ltb a 0o160000 (omega arith), lt-ltb (a + 1) 0o160000 h, e, f) refl

pub use_of_byte : (allowed : ℕ → Bool) (a : ℕ) → a < 0o160000 → allowed a ≡ true → byte_use allowed a ≡ Ok tt
use_of_byte allowed a h e = rw (lt-ltb a 0o160000 h, e) refl
