-- The image of an accepted system is that of its modules.
use Rattle.std.specs.Prelude.{List}
use Rattle.rt_tree.specs.Stored.{System}
use Rattle.rt_system.specs.declared.parts.Task.{Task}
use Rattle.rt_image.specs.declared.image.ImageParts.{ImageParts}
use Rattle.rt_image.specs.declared.map.Map.{Map}
use Rattle.rt_object.specs.declared.object.ObjectParts.{ObjectParts}
use Rattle.rt_lower.specs.declared.layouts.Layouts.{Layouts}
use Rattle.rt_meaning_laws.specs.Modules.{ModulesFit}
use Rattle.rt_compile.specs.DataLaws.{BytesAreCounted}
use Rattle.rt_link.specs.Laws.{TasksAreThoseOfTheLines}
use Rattle.rt_follows.specs.Whole.{Lays}
use Rattle.rt_faithful.specs.Imaged.{Imaged}
use Rattle.rt_call_meaning.specs.Built.{Built}
use Rattle.rt_imaged.specs.Laws.{Landed}
use Rattle.rt_imaged.specs.Whole.{whole_of, source_tasks, IsSystem}
use Rattle.rt_bound.specs.Laws.{BindingsLead}
use Rattle.rt_owed.specs.Owed.{ModulesStay}

-- All parts of an accepted system lie as they have to.
abbrev pub SystemsLieRight : Type 0
SystemsLieRight =
    BytesAreCounted → BindingsLead → (ps : System) (ls : List Layouts) (objects : List ObjectParts) (tasks : List Task) (image : ImageParts) (map : Map) (s : IsSystem ps ls objects tasks image map) → ModulesFit ps → ModulesStay ps
    → Lays (whole_of ps ls objects s.linked.known image)

-- Its image is built, and so its procedures and routines run.
abbrev pub SystemsAreBuilt : Type 0
SystemsAreBuilt =
    Landed → BytesAreCounted → BindingsLead → (ps : System) (ls : List Layouts) (objects : List ObjectParts) (tasks : List Task) (image : ImageParts) (map : Map) (s : IsSystem ps ls objects tasks image map) → ModulesFit ps → ModulesStay ps
    → Built (whole_of ps ls objects s.linked.known image)

-- Its image is that of the modules and of the tasks' roots.
abbrev pub SystemsAreImaged : Type 0
SystemsAreImaged =
    Landed → BytesAreCounted → TasksAreThoseOfTheLines → BindingsLead
    → (ps : System) (ls : List Layouts) (objects : List ObjectParts) (tasks : List Task) (image : ImageParts) (map : Map) (s : IsSystem ps ls objects tasks image map) → ModulesFit ps → ModulesStay ps
    → let known = s.linked.known in Imaged (whole_of ps ls objects known image) image (source_tasks tasks known.roots)

-- The same with the laws of linking, matching and compiling filled in: from the modules alone.
abbrev pub AcceptedAreImaged : Type 0
AcceptedAreImaged =
    (ps : System) (ls : List Layouts) (objects : List ObjectParts) (tasks : List Task) (image : ImageParts) (map : Map) (s : IsSystem ps ls objects tasks image map) → ModulesFit ps → ModulesStay ps
    → let known = s.linked.known in Imaged (whole_of ps ls objects known image) image (source_tasks tasks known.roots)
