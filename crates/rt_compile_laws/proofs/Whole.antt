-- A typed tree has an object, or a procedure whose code is too long.
use Rattle.std.proofs.Common.{◌≡◌, ◌⊎◌, inl, inr, ℕ, true, List, refl, sym, subst}
use Rattle.rt_tree_nodes.specs.declared.brick.ModuleParts.{ModuleParts}
use Rattle.rt_check_module_laws.proofs.Records.{none_in_itself}
use Rattle.rt_lower.specs.declared.layouts.Layouts.{Layouts}
use Rattle.rt_lower.specs.Layouts.{AreLayouts}
use Rattle.rt_lower.specs.Code.{intermediate}
use Rattle.rt_templates.specs.Expanded.{IsTooLong}
use Rattle.rt_compile.specs.Objects.{AreShort}
use Rattle.rt_tree.specs.Modules.{every_node_fits}
use Rattle.rt_text_laws.specs.Trees.{TreesPromise}
use Rattle.rt_compile_laws.specs.Objects.{HasNoRings, IsCompiled, FittingTreesAreCompiled, TextsAreCompiled}
use Rattle.rt_compile_laws.proofs.Laying.{Sizing, layouts}
use Rattle.rt_compile_laws.proofs.Made.{all_there}
use Rattle.rt_compile_laws.proofs.Shortness.{short_or_long}
use Rattle.rt_compile_laws.proofs.Taken.{are_taken}

compiled_by : (p : ModuleParts) (l : Layouts) → every_node_fits p ≡ true → AreLayouts p l → AreShort (intermediate l p) ⊎ ((name : List ℕ) × IsTooLong (intermediate l p) name) → IsCompiled p
compiled_by p l fits right (inr long) = inr (long.0, record { layouts = l; right = right; long = long.1 })
compiled_by p l fits right (inl short) =
    let bs = all_there l p fits in
    let ns = are_taken p in
    inl (
      record { title = p.title; records = p.modes; strings = p.strings; bricks = bs.0; taken = ns.0 },
      record { layouts = l; right = right; object = record { short = short; title = refl; records = refl; strings = refl; bricks = bs.1; taken = ns.1 } },
    )

pub fitting_trees_are_compiled : Sizing → FittingTreesAreCompiled
fitting_trees_are_compiled sizing p fits tabled apart =
    let l = layouts sizing p fits tabled apart in
    compiled_by p l.0 fits l.1 (short_or_long (intermediate l.0 p))

pub texts_are_compiled : FittingTreesAreCompiled → TreesPromise → TextsAreCompiled
texts_are_compiled compiled trees text p t =
    let has = trees text p t in
    compiled p has.nodes_fit has.records_are_table (subst HasNoRings (sym t.typed.is) (none_in_itself t.source.declarations t.typed.fit))
