-- What a task may use of the memory, and what it finds there.
use Rattle.std.proofs.Common.{◌≡◌, ℕ, zero, suc, ◌+◌, ◌*◌, ◌%◌, ◌<◌, ◌≤◌, Bool, true, false, List, [], ◌∷◌, length, refl, arith}
use Rattle.std.specs.Prelude.{slice_index, ◌||◌, Ok}
use Rattle.std.proofs.lemmas.Bool.{lt-ltb, le-leb}
use Rattle.rt_words.specs.Word.{is_odd}
use Rattle.pdp_core.specs.declared.cpu.Regs.{Regs}
use Rattle.pdp_core.specs.declared.cpu.Stop.TheVariants.{Went}
use Rattle.pdp_core.specs.declared.cpu.Place.TheVariants.{InMemory}
use Rattle.pdp_code.specs.declared.instruction.Size.TheVariants.{Word, Byte}
use Rattle.pdp_core.specs.World.{word_at, byte_at, put_word, put_byte}
use Rattle.pdp_core.specs.Protection.{usable, within}
use Rattle.pdp_core.specs.Execute.{fetch, load, load_word, store}
use Rattle.pdp_symbolic.specs.Machine.{Layout, protection, memory, WordsAt}

pub even_is : (a : ℕ) → a % 2 ≡ 0 → is_odd a ≡ false
even_is a e = rw e refl

or_true : (a : Bool) → (a || true) ≡ true
or_true true = refl
or_true false = refl

or_left : (a b : Bool) → a ≡ true → (a || b) ≡ true
or_left a b e = rw e refl

pub usable_shared : (l : Layout) (a : ℕ) → l.code_end ≤ a → a < l.data_end → usable (protection l) a ≡ true
usable_shared l a h g = rw (le-leb l.code_end a h, lt-ltb a l.data_end g) refl

pub usable_block : (l : Layout) (a : ℕ) → l.block ≤ a → a < l.block + 16 → usable (protection l) a ≡ true
usable_block l a h g =
    rw (le-leb l.block a h, lt-ltb a (l.block + 16) g) (rw (or_true (within l.code_end l.data_end a)) refl)

pub usable_own : (l : Layout) (a : ℕ) → l.low ≤ a → a < l.high → usable (protection l) a ≡ true
usable_own l a h g =
    rw (le-leb l.low a h, lt-ltb a l.high g) (or_true (within l.code_end l.data_end a || within l.block (l.block + 16) a))

-- a word of the code
pub fetch_ok : (l : Layout) (m : ℕ → ℕ) (a x : ℕ) → a % 2 ≡ 0 → a + 1 < l.code_end → a + 1 < 57344 → word_at m a ≡ x → fetch (memory l m) a ≡ Ok x
fetch_ok l m a x even inside top is =
    rw (even_is a even, lt-ltb a 57344 (omega (arith, top)), lt-ltb (a + 1) 57344 top, lt-ltb a l.code_end (omega (arith, inside)), lt-ltb (a + 1) l.code_end inside, is) refl

pub load_ok : (l : Layout) (m : ℕ → ℕ) (a x : ℕ) → a % 2 ≡ 0 → usable (protection l) a ≡ true → usable (protection l) (a + 1) ≡ true → a + 1 < 57344 → word_at m a ≡ x → load_word (memory l m) a ≡ Ok x
load_ok l m a x even one two top is = rw (even_is a even, lt-ltb a 57344 (omega (arith, top)), lt-ltb (a + 1) 57344 top, one, two, is) refl

pub load_byte_ok : (l : Layout) (m : ℕ → ℕ) (g : Regs) (a x : ℕ) → usable (protection l) a ≡ true → a < 57344 → byte_at m a ≡ x → load (memory l m) Byte g (InMemory a) ≡ Ok x
load_byte_ok l m g a x one top is = rw (lt-ltb a 57344 top, one, is) refl

pub store_ok : (l : Layout) (m : ℕ → ℕ) (g : Regs) (a x : ℕ) → a % 2 ≡ 0 → usable (protection l) a ≡ true → usable (protection l) (a + 1) ≡ true → a + 1 < 57344 → store (memory l m) Word g (InMemory a) x ≡ Ok (record { stop = Went; regs = g; world = memory l (put_word m a x) })
store_ok l m g a x even one two top = rw (even_is a even, lt-ltb a 57344 (omega (arith, top)), lt-ltb (a + 1) 57344 top, one, two) refl

pub store_byte_ok : (l : Layout) (m : ℕ → ℕ) (g : Regs) (a x : ℕ) → usable (protection l) a ≡ true → a < 57344 → store (memory l m) Byte g (InMemory a) x ≡ Ok (record { stop = Went; regs = g; world = memory l (put_byte m a x) })
store_byte_ok l m g a x one top = rw (lt-ltb a 57344 top, one) refl

-- one of the words that stand one after another
pub word_of : (m : ℕ → ℕ) (a : ℕ) (ws : List ℕ) (k : ℕ) → WordsAt m a ws → k < length ws → word_at m (a + 2 * k) ≡ slice_index ws k
word_of m a [] k s h = absurd (omega arith)
word_of m a (w ∷ ws) zero s h = let e : a + 2 * 0 ≡ a = omega arith in rw e s.0
word_of m a (w ∷ ws) (suc k) s h =
    let e : a + 2 * suc k ≡ a + 2 + 2 * k = omega arith in
    rw e (word_of m (a + 2) ws k s.1 (omega arith))
