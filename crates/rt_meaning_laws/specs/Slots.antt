-- What the values of an activation are for: each is a value of a mode, a place of a mode, or the answer of a test.
use Rattle.std.specs.Prelude.{◌≡◌, ℕ, List, [], ◌∷◌, codes, Option, Some, None}
use Rattle.rt_modes.specs.declared.mode.Mode.{Mode, out-Mode}
use Rattle.rt_modes.specs.declared.mode.Mode.TheOpen.{Mode-F}
use Rattle.rt_modes.specs.declared.mode.Mode.TheVariants as mode
use Rattle.rt_modes.specs.declared.mode.ModeTable.{ModeTable}
use Rattle.rt_modes.specs.FullMode.{FullMode}
use Rattle.rt_tree_nodes.specs.declared.store.Datum.{Datum}
use Rattle.rt_tree_nodes.specs.declared.store.Datum.TheVariants.{Reference, Truth}
use Rattle.rt_tree_nodes.specs.declared.store.Location.{Location}
use Rattle.rt_tree_nodes.specs.declared.store.Location.TheVariants as location
use Rattle.rt_tree.specs.Stored.{System, StandsAt, Suits}
use Rattle.rt_tree.specs.FullModes.{MayStand}
use Rattle.rt_meaning_laws.specs.Levels.{MayBe, IsTableOf}

-- A location is there, and has the full mode of mode m of table t.
pub record LeadsTo (ps : System) (t : ModeTable) (m : Mode) (l : Location) : Type 0 where
  pub table : ModeTable
  pub is : Mode
  pub known : IsTableOf ps table
  pub at : StandsAt ps l table is
  pub same : FullMode table is ≡ FullMode t m
  pub here : MayStand t m
  pub there : MayBe table is

abbrev pub IsInt : Mode → Type 0
IsInt m = out-Mode m ≡ Mode-F.Int

abbrev pub IsByte : Mode → Type 0
IsByte m = out-Mode m ≡ Mode-F.Byte

-- Item k of a task's own data may be read and written as one of mode m: ERN, ERP, IN and OUT. ERL holds no value.
pub data IsOwn (t : ModeTable) : ℕ → Mode → Type 0 where
  ern : {m : Mode} → IsInt m → IsOwn t 1 m
  erp : {m : Mode} {ws : List Mode} {r : Option Mode} → out-Mode m ≡ Mode-F.Proc ws r → FullMode t m ≡ codes "PROC(INT)" → IsOwn t 2 m
  input : {m : Mode} {ws : List Mode} {r : Option Mode} → out-Mode m ≡ Mode-F.Proc ws r → FullMode t m ≡ codes "PROC() BYTE" → IsOwn t 3 m
  output : {m : Mode} {ws : List Mode} {r : Option Mode} → out-Mode m ≡ Mode-F.Proc ws r → FullMode t m ≡ codes "PROC(BYTE)" → IsOwn t 4 m

-- What one of the values is for.
pub data Slot : Type 0 where
  AValue : (m : Mode) → Slot  -- it is of mode m
  AnOwn : (m : Mode) → Slot  -- the place of an item of the task's own data, of mode m
  ATruth : Slot  -- the answer of a test

-- the place of a mode, whether or not its reference may be a value of the language
abbrev pub APlace : Mode → Slot
APlace m = AValue (mode.Ref m)

module _ (ps : System) (t : ModeTable) where
  -- Where a reference leads is there, and any other value's mode may stand in the module.
  abbrev pub Backed : Mode → Datum → Type 0
  Backed m (Reference l) = (w : Mode) × (out-Mode m ≡ Mode-F.Ref w) × LeadsTo ps t w l
  Backed m _ = MayStand t m

  -- a value is of the mode
  abbrev pub IsOf : Mode → Datum → Type 0
  IsOf m d = Suits ps t m d × Backed m d

  abbrev pub LeadsOwn : Mode → Datum → Type 0
  LeadsOwn m (Reference (location.Own k)) = IsOwn t k m
  LeadsOwn m _ = ⊥

  abbrev pub IsTruth : Datum → Type 0
  IsTruth (Truth b) = Unit {0}
  IsTruth _ = ⊥

  abbrev pub Fills : Slot → Datum → Type 0
  Fills (AValue m) d = IsOf m d
  Fills (AnOwn m) d = MayStand t m × LeadsOwn m d
  Fills ATruth d = IsTruth d

  -- one value for each slot, the last one in front
  abbrev pub FillAll : List Slot → List Datum → Type 0
  FillAll [] [] = Unit {0}
  FillAll (s ∷ ss) (d ∷ ds) = Fills s d × FillAll ss ds
  FillAll _ _ = ⊥

  -- one value for each mode
  abbrev pub AreOf : List Mode → List Datum → Type 0
  AreOf [] [] = Unit {0}
  AreOf (m ∷ ms) (d ∷ ds) = IsOf m d × AreOf ms ds
  AreOf _ _ = ⊥

-- the slots with those of more values, the last of which is in front
abbrev pub values_on : List Mode → List Slot → List Slot
values_on [] ss = ss
values_on (m ∷ ms) ss = values_on ms (AValue m ∷ ss)

-- the slots with that of a result, if any
abbrev pub result_on : Option Mode → List Slot → List Slot
result_on None ss = ss
result_on (Some m) ss = AValue m ∷ ss
