-- Small facts of modes: which may stand, and what values of simple modes are.
use Rattle.std.proofs.Common.{◌≡◌, ℕ, ◌<◌, true, false, List, Option, length, refl, sym, ap, ◌∙◌, subst, arith}
use Rattle.rt_modes.specs.declared.mode.Mode.{Mode, out-Mode, map-Mode, the_lemmas}
use Rattle.rt_modes.specs.declared.mode.Mode.TheFolds.{fold_out-Mode}
use Rattle.rt_modes.specs.declared.mode.Mode.TheOpen.{Mode-F}
use Rattle.rt_modes.specs.declared.mode.Mode.TheVariants as mode
use Rattle.rt_modes.specs.declared.mode.ModeTable.{ModeTable}
use Rattle.rt_tree_nodes.specs.declared.store.Datum.{Datum}
use Rattle.rt_tree_nodes.specs.declared.store.Location.{Location}
use Rattle.rt_tree_nodes.specs.declared.store.Proc.{Proc}
use Rattle.rt_modes.specs.FullMode.{FullMode}
use Rattle.rt_tree_nodes.specs.declared.store.Datum.TheVariants.{Word, Reference, Row, Procedure, Label, Truth}
use Rattle.rt_tree_nodes.proofs.Same.{out_same}
use Rattle.rt_tree.specs.declared.standing.Standing.TheVariants as standing
use Rattle.rt_tree.specs.Modules.{Stands, layer_stands, stands}
use Rattle.rt_tree.specs.Stored as s
use Rattle.rt_tree.specs.Stored.{System, StandsAt, Suits, IsCandidate}
use Rattle.rt_tree.specs.FullModes.{MayStand}
use Rattle.rt_meaning_laws.specs.Slots.{IsInt, IsByte, IsOf}
use Rattle.rt_meaning_laws.specs.Trees.{of_number, of_word, IsNumber, IsWord}

pub out_int : out-Mode mode.Int ≡ Mode-F.Int
out_int = search the_lemmas

pub out_byte : out-Mode mode.Byte ≡ Mode-F.Byte
out_byte = search the_lemmas

pub out_frac : out-Mode mode.Frac ≡ Mode-F.Frac
out_frac = search the_lemmas

pub out_ref : (m : Mode) → out-Mode (mode.Ref m) ≡ Mode-F.Ref m
out_ref m = search the_lemmas

pub out_row : (m : Mode) → out-Mode (mode.RefArray m) ≡ Mode-F.RefArray m
out_row m = search the_lemmas

pub out_array : (n : ℕ) (m : Mode) → out-Mode (mode.Array n m) ≡ Mode-F.Array n m
out_array n m = search the_lemmas

pub out_proc : (ws : List Mode) (r : Option Mode) → out-Mode (mode.Proc ws r) ≡ Mode-F.Proc ws r
out_proc ws r = search the_lemmas

-- a mode that has the layer of a REF is it
pub is_ref : (k m : Mode) → out-Mode k ≡ Mode-F.Ref m → k ≡ mode.Ref m
is_ref k m e = out_same k (mode.Ref m) (e ∙ sym (out_ref m))

pub stands_at : (n : ℕ) (m : Mode) (l : Mode-F Mode) → out-Mode m ≡ l → stands n m ≡ layer_stands n (map-Mode Mode Stands (stands n) l)
stands_at n m l e = rw (fold_out-Mode, e) refl

word_stands : (t : ModeTable) (m : Mode) (l : Mode-F Mode) → out-Mode m ≡ l → of_word l ≡ true → MayStand t m
word_stands t m Mode-F.Byte e h = record { place = standing.Alone; levels = 0; refs = 0; passes = ap (λ (f : Stands). f standing.Alone 0 0) (stands_at (length t.records) m Mode-F.Byte e) }
word_stands t m Mode-F.Int e h = record { place = standing.Alone; levels = 0; refs = 0; passes = ap (λ (f : Stands). f standing.Alone 0 0) (stands_at (length t.records) m Mode-F.Int e) }
word_stands t m Mode-F.Frac e h = record { place = standing.Alone; levels = 0; refs = 0; passes = ap (λ (f : Stands). f standing.Alone 0 0) (stands_at (length t.records) m Mode-F.Frac e) }
word_stands t m _ e h = absurd cc

-- a BYTE, INT or FRAC may stand everywhere
pub words_stand : (t : ModeTable) (m : Mode) → IsWord m → MayStand t m
words_stand t m h = word_stands t m (out-Mode m) refl h

number_word : (l : Mode-F Mode) → of_number l ≡ true → of_word l ≡ true
number_word Mode-F.Int h = refl
number_word Mode-F.Frac h = refl
number_word _ h = absurd cc

pub number_is_word : (m : Mode) → IsNumber m → IsWord m
number_is_word m h = number_word (out-Mode m) h

pub int_is_number : (m : Mode) → IsInt m → IsNumber m
int_is_number m e = ap of_number e

pub int_is_word : (m : Mode) → IsInt m → IsWord m
int_is_word m e = ap of_word e

pub byte_is_word : (m : Mode) → IsByte m → IsWord m
byte_is_word m e = ap of_word e

suits_number : (ps : System) (t : ModeTable) (m : Mode) (n : ℕ) (l : Mode-F Mode) → out-Mode m ≡ l → of_number l ≡ true → n < 65536 → Suits ps t m (Word n)
suits_number ps t m n Mode-F.Int e h r = s.int e r
suits_number ps t m n Mode-F.Frac e h r = s.frac e r
suits_number ps t m n _ e h r = absurd cc

-- a word is of each mode of numbers
pub number_is : (ps : System) (t : ModeTable) (m : Mode) (n : ℕ) → IsNumber m → n < 65536 → IsOf ps t m (Word n)
number_is ps t m n h r = (suits_number ps t m n (out-Mode m) refl h r, words_stand t m (number_is_word m h))

pub byte_is : (ps : System) (t : ModeTable) (m : Mode) (n : ℕ) → IsByte m → n < 256 → IsOf ps t m (Word n)
byte_is ps t m n h r = (s.byte h r, words_stand t m (byte_is_word m h))

-- what is of a mode of words is a word
pub is_a_word : {ps : System} {t : ModeTable} {m : Mode} {d : Datum} → Suits ps t m d → IsWord m → (n : ℕ) × (d ≡ Word n) × (n < 65536)
is_a_word (s.byte {n = n} e r) h = (n, refl, omega arith)
is_a_word (s.int {n = n} e r) h = (n, refl, r)
is_a_word (s.frac {n = n} e r) h = (n, refl, r)
is_a_word (s.unset e) h = let no : false ≡ true = sym (ap of_word e) ∙ h in absurd cc
is_a_word (s.reference e a f) h = let no : false ≡ true = sym (ap of_word e) ∙ h in absurd cc
is_a_word (s.row e a o f) h = let no : false ≡ true = sym (ap of_word e) ∙ h in absurd cc
is_a_word (s.procedure e c) h = let no : false ≡ true = sym (ap of_word e) ∙ h in absurd cc

-- what is of a REF is a reference
pub is_a_place : {ps : System} {t : ModeTable} {k : Mode} {d : Datum} → Suits ps t k d → (m : Mode) → out-Mode k ≡ Mode-F.Ref m → (l : Location) × (d ≡ Reference l)
is_a_place (s.byte e r) m h = let no : Mode-F.Byte ≡ Mode-F.Ref m = sym e ∙ h in absurd cc
is_a_place (s.int e r) m h = let no : Mode-F.Int ≡ Mode-F.Ref m = sym e ∙ h in absurd cc
is_a_place (s.frac e r) m h = let no : Mode-F.Frac ≡ Mode-F.Ref m = sym e ∙ h in absurd cc
is_a_place (s.unset e) m h = let no : Mode-F.Label ≡ Mode-F.Ref m = sym e ∙ h in absurd cc
is_a_place (s.reference {l = l} e a f) m h = (l, refl)
is_a_place (s.row {w = w} e a o f) m h = let no : Mode-F.RefArray w ≡ Mode-F.Ref m = sym e ∙ h in absurd cc
is_a_place (s.procedure {ws = ws} {r = r} e c) m h = let no : Mode-F.Proc ws r ≡ Mode-F.Ref m = sym e ∙ h in absurd cc

-- where a row leads an array of its length is there
pub record IsRow (ps : System) (t : ModeTable) (w : Mode) (l : Location) (n : ℕ) : Type 0 where
  pub table : ModeTable
  pub is : Mode
  pub element : Mode
  pub at : StandsAt ps l table is
  pub array : out-Mode is ≡ Mode-F.Array n element
  pub same : FullMode table element ≡ FullMode t w

row_for : {ps : System} {t : ModeTable} {v w : Mode} {l : Location} {n : ℕ} → IsRow ps t v l n → v ≡ w → IsRow ps t w l n
row_for {ps} {t} {l = l} {n = n} r e = subst (λ (m : Mode). IsRow ps t m l n) e r

-- what is of a REF ARRAY is the row of an array
pub is_a_row : {ps : System} {t : ModeTable} {k : Mode} {d : Datum} → Suits ps t k d → (m : Mode) → out-Mode k ≡ Mode-F.RefArray m → (l : Location) × (n : ℕ) × (d ≡ Row l n) × IsRow ps t m l n
is_a_row (s.byte e r) m h = let no : Mode-F.Byte ≡ Mode-F.RefArray m = sym e ∙ h in absurd cc
is_a_row (s.int e r) m h = let no : Mode-F.Int ≡ Mode-F.RefArray m = sym e ∙ h in absurd cc
is_a_row (s.frac e r) m h = let no : Mode-F.Frac ≡ Mode-F.RefArray m = sym e ∙ h in absurd cc
is_a_row (s.unset e) m h = let no : Mode-F.Label ≡ Mode-F.RefArray m = sym e ∙ h in absurd cc
is_a_row (s.reference {w = w} e a f) m h = let no : Mode-F.Ref w ≡ Mode-F.RefArray m = sym e ∙ h in absurd cc
is_a_row {ps} {t} (s.row {l = l} {u = u} {n = n} {v = v} {e = x} {w = w} e a o f) m h =
    let layers : Mode-F.RefArray w ≡ Mode-F.RefArray m = sym e ∙ h in
    let same : w ≡ m = cc in
    let found : IsRow ps t w l n = record { table = u; is = v; element = x; at = a; array = o; same = f } in
    (l, n, refl, row_for found same)
is_a_row (s.procedure {ws = ws} {r = r} e c) m h = let no : Mode-F.Proc ws r ≡ Mode-F.RefArray m = sym e ∙ h in absurd cc

-- what is of a PROC is a candidate
pub is_a_procedure : {ps : System} {t : ModeTable} {k : Mode} {d : Datum} → Suits ps t k d → (ws : List Mode) (r : Option Mode) → out-Mode k ≡ Mode-F.Proc ws r → (f : Proc) × (d ≡ Procedure f) × IsCandidate ps (FullMode t k) f
is_a_procedure (s.byte e b) ws r h = let no : Mode-F.Byte ≡ Mode-F.Proc ws r = sym e ∙ h in absurd cc
is_a_procedure (s.int e b) ws r h = let no : Mode-F.Int ≡ Mode-F.Proc ws r = sym e ∙ h in absurd cc
is_a_procedure (s.frac e b) ws r h = let no : Mode-F.Frac ≡ Mode-F.Proc ws r = sym e ∙ h in absurd cc
is_a_procedure (s.unset e) ws r h = let no : Mode-F.Label ≡ Mode-F.Proc ws r = sym e ∙ h in absurd cc
is_a_procedure (s.reference {w = w} e a f) ws r h = let no : Mode-F.Ref w ≡ Mode-F.Proc ws r = sym e ∙ h in absurd cc
is_a_procedure (s.row {w = w} e a o f) ws r h = let no : Mode-F.RefArray w ≡ Mode-F.Proc ws r = sym e ∙ h in absurd cc
is_a_procedure (s.procedure {f = f} e c) ws r h = (f, refl, c)

-- the mode of a value that is no reference may stand
pub backed_stands : (ps : System) (t : ModeTable) (k : Mode) (d : Datum) → ((m : Mode) → out-Mode k ≡ Mode-F.Ref m → ⊥) → IsOf ps t k d → MayStand t k
backed_stands ps t k (Reference l) free h = absurd (free h.1.0 h.1.1)
backed_stands ps t k (Word n) free h = h.1
backed_stands ps t k (Row l n) free h = h.1
backed_stands ps t k (Procedure f) free h = h.1
backed_stands ps t k (Label a n) free h = h.1
backed_stands ps t k (Truth b) free h = h.1
