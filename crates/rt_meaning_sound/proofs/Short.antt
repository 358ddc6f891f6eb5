-- What opens in a short mode is short, and each length is a word.
use Rattle.std.proofs.Common.{◌≡◌, ℕ, ◌<◌, Bool, true, List, Some, map, arith, refl, sym, ◌∙◌}
use Rattle.std.proofs.lemmas.Bool.Decides.{nat_tests}
use Rattle.rt_modes.specs.declared.mode.Mode.{Mode, out-Mode, map-Mode, the_lemmas}
use Rattle.rt_modes.specs.declared.mode.Mode.TheFolds.{fold_out-Mode}
use Rattle.rt_modes.specs.declared.mode.Mode.TheOpen.{Mode-F}
use Rattle.rt_modes.specs.declared.mode.Mode.TheVariants as mode
use Rattle.rt_bricks_laws.specs.Bodies.{all}
use Rattle.rt_bricks_laws.specs.Numbers.{is_word}
use Rattle.rt_bricks_laws.proofs.Truths.{left_of, right_of}
use Rattle.rt_meaning_sound.specs.Short.{short_by, short, IsShort}

pub short_at : (m : Mode) (l : Mode-F Mode) → out-Mode m ≡ l → short m ≡ short_by (map-Mode Mode Bool short l)
unfolding short
short_at m l o = rw (fold_out-Mode, o) refl

pub word_below : (n : ℕ) → is_word n ≡ true → n < 65536
word_below n e = grind (arith, nat_tests)

-- ---- modes of one level

pub byte_short : IsShort mode.Byte
byte_short = let o : out-Mode mode.Byte ≡ Mode-F.Byte = search the_lemmas in short_at mode.Byte Mode-F.Byte o

pub int_short : IsShort mode.Int
int_short = let o : out-Mode mode.Int ≡ Mode-F.Int = search the_lemmas in short_at mode.Int Mode-F.Int o

pub frac_short : IsShort mode.Frac
frac_short = let o : out-Mode mode.Frac ≡ Mode-F.Frac = search the_lemmas in short_at mode.Frac Mode-F.Frac o

-- ---- references

pub ref_short : (m : Mode) → IsShort m → IsShort (mode.Ref m)
ref_short m h = let o : out-Mode (mode.Ref m) ≡ Mode-F.Ref m = search the_lemmas in short_at (mode.Ref m) (Mode-F.Ref m) o ∙ h

pub row_short : (m : Mode) → IsShort m → IsShort (mode.RefArray m)
row_short m h = let o : out-Mode (mode.RefArray m) ≡ Mode-F.RefArray m = search the_lemmas in short_at (mode.RefArray m) (Mode-F.RefArray m) o ∙ h

-- ---- what opens in a mode

pub ref_opens : (m n : Mode) → out-Mode m ≡ Mode-F.Ref n → IsShort m → IsShort n
ref_opens m n o h = sym (short_at m (Mode-F.Ref n) o) ∙ h

pub row_opens : (m n : Mode) → out-Mode m ≡ Mode-F.RefArray n → IsShort m → IsShort n
row_opens m n o h = sym (short_at m (Mode-F.RefArray n) o) ∙ h

pub array_opens : (m : Mode) (j : ℕ) (n : Mode) → out-Mode m ≡ Mode-F.Array j n → IsShort m → IsShort n
array_opens m j n o h = right_of (is_word j) (short n) (sym (short_at m (Mode-F.Array j n) o) ∙ h)

pub array_length : (m : Mode) (j : ℕ) (n : Mode) → out-Mode m ≡ Mode-F.Array j n → IsShort m → j < 65536
array_length m j n o h = word_below j (left_of (is_word j) (short n) (sym (short_at m (Mode-F.Array j n) o) ∙ h))

pub answer_opens : (m : Mode) (ps : List Mode) (r : Mode) → out-Mode m ≡ Mode-F.Proc ps (Some r) → IsShort m → IsShort r
answer_opens m ps r o h = right_of (all (map short ps)) (short r) (sym (short_at m (Mode-F.Proc ps (Some r)) o) ∙ h)
