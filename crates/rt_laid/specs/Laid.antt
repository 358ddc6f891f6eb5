-- What is known of a layout, and what it then keeps: `Lays` of rt_follows, with the tables of `fields`, `elements` and `rows` known.
use Rattle.std.specs.Prelude.{◌≡◌, ◌⊎◌, ℕ, ◌+◌, ◌*◌, ◌<◌, ◌≤◌, [], List, Option, Some, slice_get}
use Rattle.rt_modes.specs.declared.mode.Field.{Field}
use Rattle.rt_modes.specs.declared.mode.Mode.{Mode, out-Mode}
use Rattle.rt_modes.specs.declared.mode.Mode.TheOpen.{Mode-F}
use Rattle.rt_modes.specs.declared.mode.ModeTable.{ModeTable}
use Rattle.rt_modes.specs.declared.mode.RecordDef.{RecordDef}
use Rattle.rt_tree_nodes.specs.declared.brick.ModuleParts.{ModuleParts}
use Rattle.rt_tree_nodes.specs.declared.store.Origin.TheVariants.{Text}
use Rattle.rt_tree_nodes.specs.declared.store.Location.{Location}
use Rattle.rt_tree_nodes.specs.declared.store.Location.TheVariants.{Shared}
use Rattle.rt_tree_nodes.specs.declared.store.Datum.TheVariants.{Row}
use Rattle.rt_tree.specs.Opened.{IsTable}
use Rattle.rt_tree.specs.Stored.{StandsAt, module_of}
use Rattle.rt_sizes.specs.Sizes.{size, offset}
use Rattle.rt_work_state.specs.Stores.{deeper}
use Rattle.rt_meaning_laws.specs.Grounds.{Sound}
use Rattle.rt_meaning_laws.specs.Levels.{IsTableOf}
use Rattle.rt_meaning_laws.specs.Slots.{LeadsTo, IsByte, IsOf}
use Rattle.rt_icode_meaning.specs.Typed.{IsSize, BeginsAt}
use Rattle.rt_places.specs.Systems as places
use Rattle.rt_places.specs.Systems.{HasSizes, AreBases}
use Rattle.rt_follows.specs.Whole.{Whole, IsDataWord, IsDataByte, room_by, Apart}

-- Sizes of the records of each module are told; data bricks and strings lie one after the other; and addresses are counted from there.
pub record IsLaid (w : Whole) (S : ℕ → ℕ → Option ℕ) : Type 0 where
  pub sized : HasSizes w.ps S
  pub begin : (m : ℕ) (p : ModuleParts) (fs : List Field) (k n : ℕ) → module_of w.ps m ≡ Some p → BeginsAt p.modes fs k n → offset (S m) fs k ≡ Some n
  pub bytes : (m : ℕ) (p : ModuleParts) (v : Mode) (n : ℕ) → module_of w.ps m ≡ Some p → IsSize p.modes v n → size (S m) v ≡ Some n
  pub bases : AreBases w.ps S w.base w.code_end w.data_end
  pub address : (l : Location) → w.address l ≡ places.address w.ps S w.base l
  pub small : w.data_end ≤ 57344

-- what it keeps of places
pub record PlacesLie (w : Whole) : Type 0 where
  pub words : {l : Location} {u : ModeTable} {v : Mode} → StandsAt w.ps l u v → (IsByte v → ⊥) → ((r : ℕ) → out-Mode v ≡ Mode-F.Record r → ⊥) → IsDataWord w (w.address l)
  pub bytes : {l : Location} {u : ModeTable} {v : Mode} → StandsAt w.ps l u v → IsByte v → IsDataByte w (w.address l)
  pub small : {l : Location} {u : ModeTable} {v : Mode} → StandsAt w.ps l u v → w.address l < 65536
  pub apart : {l k : Location} {t u : ModeTable} {v e : Mode} → StandsAt w.ps l t v → StandsAt w.ps k u e → (l ≡ k) ⊎ Apart (w.address l) (room_by (out-Mode v)) (w.address k) (room_by (out-Mode e))
  pub one_to_one : (t : ModeTable) (v : Mode) (l k : Location) → LeadsTo w.ps t v l → LeadsTo w.ps t v k → w.address l ≡ w.address k → l ≡ k
  pub fields : (t : ModeTable) (v : Mode) (l : Location) (r k o : ℕ) (d : RecordDef) → IsTableOf w.ps t → LeadsTo w.ps t v l → out-Mode v ≡ Mode-F.Record r → slice_get t.records r ≡ Some d → BeginsAt t d.fields k o → w.address (deeper l k) ≡ w.address l + o
  pub elements : (t : ModeTable) (v e : Mode) (l : Location) (n i s : ℕ) → IsTableOf w.ps t → LeadsTo w.ps t v l → out-Mode v ≡ Mode-F.Array n e → IsSize t e s → i < n → w.address (deeper l i) ≡ w.address l + (2 + s * i)
  pub rows : (t : ModeTable) (v e : Mode) (l : Location) (n i s : ℕ) → IsTableOf w.ps t → IsOf w.ps t v (Row l n) → out-Mode v ≡ Mode-F.RefArray e → IsSize t e s → i < n → w.address (deeper l i) ≡ w.address l + (2 + s * i)
  pub texts : (m k : ℕ) → w.address (Shared (Text m k) []) ≡ w.base (Text m k)

-- where modules are sound, and their records' names can be told apart
abbrev pub PlacesAreLaid : Type 0
PlacesAreLaid = (w : Whole) (S : ℕ → ℕ → Option ℕ) → Sound w.ps → ((t : ModeTable) → IsTableOf w.ps t → IsTable t) → IsLaid w S → PlacesLie w
