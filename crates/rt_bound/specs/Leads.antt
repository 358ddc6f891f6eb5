-- The linker binds each procedure brick to the procedure to which the meaning leads.
use Rattle.std.specs.Prelude.{◌≡◌, ℕ, List, Some}
use Rattle.rt_modes.specs.declared.mode.Mode.{Mode}
use Rattle.rt_tree_nodes.specs.declared.brick.ModuleParts.{ModuleParts}
use Rattle.rt_tree_nodes.specs.Scopes.{scope_of, proc_mode}
use Rattle.rt_tree.specs.Stored.{System, module_of}
use Rattle.rt_system.specs.declared.parts.Task.{Task}
use Rattle.rt_image.specs.declared.image.ImageParts.{ImageParts}
use Rattle.rt_image.specs.declared.map.Map.{Map}
use Rattle.rt_object.specs.declared.object.ObjectParts.{ObjectParts}
use Rattle.rt_match.specs.declared.bindings.Bound.{Bound}
use Rattle.rt_graph.specs.Calls.{stands_for}
use Rattle.rt_resolve.specs.Starting.{home_of, lead}
use Rattle.rt_lower.specs.declared.layouts.Layouts.{Layouts}
use Rattle.rt_imaged.specs.Whole.{IsSystem}
use Rattle.rt_bound.specs.Laws.{BindingsLead, ItemsTell}

-- a procedure brick stands for the same by these bindings as by the meaning
abbrev pub ProcsLead : System → List (List Bound) → Type 0
ProcsLead ps of = (m b : ℕ) (p : ModuleParts) (v : Mode) → module_of ps m ≡ Some p → proc_mode (scope_of p).bricks b ≡ Some v → stands_for of m b ≡ Some (lead (home_of ps m p) b)

abbrev pub ProcsAreLed : Type 0
ProcsAreLed =
    BindingsLead → (ps : System) (ls : List Layouts) (objects : List ObjectParts) (tasks : List Task) (image : ImageParts) (map : Map) (s : IsSystem ps ls objects tasks image map) → ItemsTell ps
    → ProcsLead ps s.linked.known.bindings.of
