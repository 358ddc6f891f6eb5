-- The theorem with all that is proved of it: what is left are named premises.
use Rattle.std.specs.Prelude.{◌≡◌, ◌≢◌, ℕ, ◌-◌, ◌≤◌, List, [], ◌∷◌, Some, slice_get}
use Rattle.rt_modes.specs.declared.mode.ModeTable.{ModeTable}
use Rattle.rt_modes.specs.declared.mode.RecordDef.{RecordDef}
use Rattle.rt_tree_nodes.specs.declared.brick.ModuleParts.{ModuleParts}
use Rattle.rt_tree.specs.Opened.{IsTable}
use Rattle.rt_tree.specs.Stored.{System, module_of}
use Rattle.rt_object.specs.declared.object.ObjectParts.{ObjectParts}
use Rattle.rt_system.specs.declared.parts.Task.{Task}
use Rattle.rt_image.specs.declared.image.ImageParts.{ImageParts}
use Rattle.rt_image.specs.declared.image.ImageTask.{ImageTask}
use Rattle.rt_image.specs.declared.map.Map.{Map}
use Rattle.rt_lower.specs.declared.layouts.Layouts.{Layouts}
use Rattle.rt_meaning.specs.declared.begin.SourceTask.{SourceTask}
use Rattle.rt_meaning.specs.Roots.{root_of}
use Rattle.rt_meaning_laws.specs.Grounds.{Sound}
use Rattle.rt_meaning_laws.specs.Levels.{IsTableOf}
use Rattle.rt_meaning_laws.specs.Modules.{ModulesFit}
use Rattle.rt_compile.specs.DataLaws.{BytesAreCounted}
use Rattle.rt_link.specs.Laws.{TasksAreThoseOfTheLines}
use Rattle.rt_follows.specs.Whole.{Whole}
use Rattle.rt_follows.specs.Held.{CodeAt, shown}
use Rattle.rt_follows.specs.Linked.{Linked}
use Rattle.rt_faithful.specs.Faithful.{home_of}
use Rattle.rt_faithful.specs.Imaged.{Imaged}
use Rattle.pdp_code.specs.declared.instruction.Operand.TheVariants.{Absolute}
use Rattle.pdp_code.specs.declared.instruction.Reg.TheVariants.{Pc}
use Rattle.pdp_code.specs.declared.instruction.Instr.TheVariants.{Call, Trap}
use Rattle.rt_imaged.specs.Bound.{BindAlike}
use Rattle.rt_imaged.specs.Laws.{Landed}
use Rattle.rt_imaged.specs.Whole.{whole_of, source_tasks, IsSystem}

-- each task enters its root by the words at its entry
abbrev pub EntriesStand : Whole → ImageParts → List SourceTask → Type 0
EntriesStand w image ts = (i : ℕ) (t : ImageTask) (x : SourceTask) → 1 ≤ i → slice_get image.tasks (i - 1) ≡ Some t → slice_get ts (i - 1) ≡ Some x → CodeAt w (home_of image i) t.entry (shown (Call Pc (Absolute (w.entry (root_of x)))) ∷ shown (Trap 11) ∷ [])

-- An accepted system is imaged, where its modules fit and each record has a field, both stages bind bricks alike, the words of entries stand in
-- the code, and the procedures and routines run.
abbrev pub SystemsAreImagedBy : Type 0
SystemsAreImagedBy =
    Landed → BytesAreCounted → TasksAreThoseOfTheLines
    → (ps : System) (ls : List Layouts) (objects : List ObjectParts) (tasks : List Task) (image : ImageParts) (map : Map) (s : IsSystem ps ls objects tasks image map) → ModulesFit ps → ((m r : ℕ) (p : ModuleParts) (d : RecordDef) → module_of ps m ≡ Some p → slice_get p.modes.records r ≡ Some d → d.fields ≢ [])
    → Sound ps → ((t : ModeTable) → IsTableOf ps t → IsTable t)
    → let known = s.linked.known in let w = whole_of ps ls objects known image in let ts = source_tasks tasks known.roots in
    BindAlike ps objects known.stacks known.bindings.of → EntriesStand w image ts → Linked w → Imaged w image ts
