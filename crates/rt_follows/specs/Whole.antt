-- What a linker decides, and how the values and the store of the source then lie in the memory.
use Rattle.std.specs.Prelude.{◌≡◌, ◌⊎◌, ℕ, ◌+◌, ◌*◌, ◌%◌, ◌<◌, ◌≤◌, List, [], ◌∷◌, Bool, true, slice_get, slice_index, Some}
use Rattle.rt_modes.specs.declared.mode.Mode.{Mode, out-Mode}
use Rattle.rt_modes.specs.declared.mode.Mode.TheOpen.{Mode-F}
use Rattle.rt_modes.specs.declared.mode.ModeTable.{ModeTable}
use Rattle.rt_modes.specs.declared.mode.RecordDef.{RecordDef}
use Rattle.rt_tree_nodes.specs.declared.store.Proc.{Proc}
use Rattle.rt_tree_nodes.specs.declared.store.Origin.{Origin}
use Rattle.rt_tree_nodes.specs.declared.store.Origin.TheVariants.{Brick, Text}
use Rattle.rt_tree_nodes.specs.declared.store.Location.{Location}
use Rattle.rt_tree_nodes.specs.declared.store.Location.TheVariants.{Shared, Own}
use Rattle.rt_tree_nodes.specs.declared.store.Datum.{Datum}
use Rattle.rt_tree_nodes.specs.declared.store.Datum.TheVariants.{Word, Reference, Row, Procedure, Truth, Label}
use Rattle.rt_tree_nodes.specs.declared.brick.ModuleParts.{ModuleParts}
use Rattle.rt_tree_nodes.specs.Typing.{is_value}
use Rattle.rt_tree.specs.Stored.{System, StandsAt, module_of}
use Rattle.rt_work_state.specs.Stores.{Store, read, deeper}
use Rattle.rt_resolve.specs.World.{World}
use Rattle.rt_resolve.specs.Systems.{world}
use Rattle.rt_meaning_laws.specs.Levels.{IsTableOf}
use Rattle.rt_meaning_laws.specs.Slots.{LeadsTo, IsByte, IsOf}
use Rattle.pdp_core.specs.World.{word_at, byte_at}
use Rattle.rt_icode.specs.declared.ins.Fixed.{Fixed}
use Rattle.rt_icode_meaning.specs.Move.{place_of}
use Rattle.rt_icode_meaning.specs.Typed.{IsFixed, IsSize, BeginsAt}

-- A system, and where everything of it lies that its tasks share.
pub record Whole : Type 0 where
  pub ps : System
  pub base : Origin → ℕ  -- the first byte of a data brick, the length word of a string
  pub address : Location → ℕ  -- of a place that all tasks share
  pub entry : Proc → ℕ
  pub support : ℕ → ℕ  -- of a routine of the support code
  pub code : ℕ → ℕ  -- the bytes of the code
  pub code_end : ℕ
  pub data_end : ℕ
  pub marks : ℕ → ℕ  -- of the instruction at an address
  pub reached : Proc → Bool  -- the procedures that a task's root reaches
  pub needs : ℕ → Proc → ℕ  -- the words that a call takes, where so many activations of bounded procedures are live
  pub bound : ℕ  -- of unmarked instructions in a row

-- where the parts of one task lie
pub record Home : Type 0 where
  pub block : ℕ
  pub low : ℕ  -- its brick
  pub high : ℕ

abbrev pub meaning : Whole → World
meaning w = world w.ps

-- a value as a word; no answer of a test stands on a stack, and no label, which ERL alone will hold
abbrev pub word_of : Whole → Datum → ℕ
word_of w (Word n) = n
word_of w (Reference l) = w.address l
word_of w (Row l n) = w.address l
word_of w (Procedure f) = w.entry f
word_of w (Truth b) = 0
word_of w (Label l n) = 0

abbrev pub words_of : Whole → List Datum → List ℕ
words_of w [] = []
words_of w (d ∷ ds) = word_of w d ∷ words_of w ds

-- arguments that are pushed one after the other
abbrev pub pushed : Whole → List Datum → List ℕ → List ℕ
pushed w [] below = below
pushed w (d ∷ ds) below = pushed w ds (word_of w d ∷ below)

-- ---- the store in the memory

-- Each value lies where its place is, in one byte or one word, and each array has its length before its elements.
pub record Lies (w : Whole) (S : Store) (m : ℕ → ℕ) : Type 0 where
  pub words : {l : Location} {u : ModeTable} {v : Mode} → StandsAt w.ps l u v → is_value (out-Mode v) ≡ true → (IsByte v → ⊥) → word_at m (w.address l) ≡ word_of w (read S [] l)
  pub bytes : {l : Location} {u : ModeTable} {v : Mode} → StandsAt w.ps l u v → IsByte v → byte_at m (w.address l) ≡ word_of w (read S [] l)
  pub lengths : {l : Location} {u : ModeTable} {v e : Mode} {n : ℕ} → StandsAt w.ps l u v → out-Mode v ≡ Mode-F.Array n e → word_at m (w.address l) ≡ n

abbrev pub own_at : List Datum → ℕ → Datum
own_at own k = read [] own (Own k)

-- A task's own data as the words of its block: ERL is not set, and no bounded procedure is live; then ERN, ERP, IN and OUT.
pub record OwnLies (w : Whole) (own : List Datum) (block : List ℕ) : Type 0 where
  pub erl : slice_index block 0 ≡ 0
  pub live : slice_index block 1 ≡ 0
  pub items : (k : ℕ) → 1 ≤ k → k ≤ 4 → slice_index block (3 + k) ≡ word_of w (own_at own k)

-- ---- that the parts of an image lie well

-- a word, or a byte, of the data
pub record IsDataWord (w : Whole) (a : ℕ) : Type 0 where
  pub even : a % 2 ≡ 0
  pub above : w.code_end ≤ a
  pub below : a + 1 < w.data_end

pub record IsDataByte (w : Whole) (a : ℕ) : Type 0 where
  pub above : w.code_end ≤ a
  pub below : a < w.data_end

-- how many bytes of a place are its own: one of a BYTE, two of any other value, the length word of an array, none of a record
abbrev pub room_by : Mode-F Mode → ℕ
room_by Mode-F.Byte = 1
room_by (Mode-F.Record r) = 0
room_by _ = 2

abbrev pub Apart : ℕ → ℕ → ℕ → ℕ → Type 0
Apart a n b k = (a + n ≤ b) ⊎ (b + k ≤ a)

pub record Lays (w : Whole) : Type 0 where
  pub order : w.code_end ≤ w.data_end
  pub top : w.data_end ≤ 57344
  pub room : 144 ≤ w.bound
  pub even_code : w.code_end % 2 ≡ 0
  -- places lie in the data, and apart
  pub words : {l : Location} {u : ModeTable} {v : Mode} → StandsAt w.ps l u v → (IsByte v → ⊥) → ((r : ℕ) → out-Mode v ≡ Mode-F.Record r → ⊥) → IsDataWord w (w.address l)
  pub bytes : {l : Location} {u : ModeTable} {v : Mode} → StandsAt w.ps l u v → IsByte v → IsDataByte w (w.address l)
  pub small : {l : Location} {u : ModeTable} {v : Mode} → StandsAt w.ps l u v → w.address l < 65536
  pub apart : {l k : Location} {t u : ModeTable} {v e : Mode} → StandsAt w.ps l t v → StandsAt w.ps k u e → (l ≡ k) ⊎ Apart (w.address l) (room_by (out-Mode v)) (w.address k) (room_by (out-Mode e))
  -- two places of one mode lie at one address only where they are one
  pub one_to_one : (t : ModeTable) (v : Mode) (l k : Location) → LeadsTo w.ps t v l → LeadsTo w.ps t v k → w.address l ≡ w.address k → l ≡ k
  -- where fields and elements are, by the modes of any module that leads to them
  pub fixed : (m : ℕ) (p : ModuleParts) (f : Fixed) (v : Mode) → module_of w.ps m ≡ Some p → IsFixed w.ps p ((meaning w).env m) f v
      → w.address (place_of ((meaning w).env m) f) ≡ w.base (Brick (((meaning w).env m).leads f.brick).module (((meaning w).env m).leads f.brick).brick) + f.offset
  pub fields : (t : ModeTable) (v : Mode) (l : Location) (r k o : ℕ) (d : RecordDef) → IsTableOf w.ps t → LeadsTo w.ps t v l → out-Mode v ≡ Mode-F.Record r → slice_get t.records r ≡ Some d → BeginsAt t d.fields k o → w.address (deeper l k) ≡ w.address l + o
  pub elements : (t : ModeTable) (v e : Mode) (l : Location) (n i s : ℕ) → IsTableOf w.ps t → LeadsTo w.ps t v l → out-Mode v ≡ Mode-F.Array n e → IsSize t e s → i < n → w.address (deeper l i) ≡ w.address l + (2 + s * i)
  pub rows : (t : ModeTable) (v e : Mode) (l : Location) (n i s : ℕ) → IsTableOf w.ps t → IsOf w.ps t v (Row l n) → out-Mode v ≡ Mode-F.RefArray e → IsSize t e s → i < n → w.address (deeper l i) ≡ w.address l + (2 + s * i)
  pub texts : (m k : ℕ) → w.address (Shared (Text m k) []) ≡ w.base (Text m k)
  -- code
  pub entries : (f : Proc) → w.entry f < w.code_end
  pub supports : (n : ℕ) → w.support n < w.code_end
  pub least : (live : ℕ) (f : Proc) → 1 ≤ w.needs live f

-- the parts of a task lie behind the data, one after the other
pub record Sits (w : Whole) (h : Home) : Type 0 where
  pub after : w.data_end ≤ h.block
  pub even_block : h.block % 2 ≡ 0
  pub behind : h.block + 16 ≤ h.low
  pub order : h.low ≤ h.high
  pub even : h.high % 2 ≡ 0
  pub even_low : h.low % 2 ≡ 0
  pub top : h.high ≤ 57344
