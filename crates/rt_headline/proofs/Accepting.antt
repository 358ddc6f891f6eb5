-- What is accepted has tasks and trees.
use Rattle.std.proofs.Common.{◌≡◌, ℕ, suc, false, true, List, [], ◌∷◌, Option, Some, refl}
use Rattle.std.specs.Prelude.{slice_get}
use Rattle.rt_tree_nodes.specs.declared.brick.ModuleParts.{ModuleParts}
use Rattle.rt_tree_nodes.specs.declared.store.Proc.{Proc}
use Rattle.rt_object.specs.declared.object.ObjectParts.{ObjectParts}
use Rattle.rt_object.specs.Ranges.{HasObjectRanges}
use Rattle.rt_outside.specs.Files.{Files}
use Rattle.rt_system.specs.declared.parts.Entry.{Entry}
use Rattle.rt_system.specs.declared.parts.Entry.TheVariants as entry
use Rattle.rt_system.specs.declared.parts.Task.{Task}
use Rattle.rt_system.specs.Systems.{IsTaken}
use Rattle.rt_graph.specs.Tasks.{IsRootNamed}
use Rattle.rt_meaning.specs.declared.begin.SourceTask.{SourceTask}
use Rattle.rt_accept.specs.Systems.{HasEntry}
use Rattle.rt_imaging.specs.Imaging.{AreTasksOf}
use Rattle.rt_headline.specs.Outcome.{IsModule}
use Rattle.rt_headline.specs.Laws.{TasksAreThere, LinesHaveTrees}

-- ---- tasks

found : (objects : List ObjectParts) (tasks : List Task) → ((i : ℕ) (t : Task) → slice_get tasks i ≡ Some t → (f : Proc) × IsRootNamed objects t.root f) → (xs : List SourceTask) × AreTasksOf objects tasks xs
found objects [] each = ([], tt)
found objects (t ∷ ts) each =
    let f = each 0 t refl in
    let more = found objects ts (λ i u e. each (suc i) u e) in
    let x : SourceTask = record { root = (f.0.«module», f.0.brick); priority = t.priority } in
    (x ∷ more.0, (record { root = f.1; priority = refl }, more.1))

pub tasks_are_there : TasksAreThere
tasks_are_there objects tasks known judged = found objects tasks (λ i t e. let g = judged.deep.ordered.rooted.are_roots.each i t e in (g.0, g.2.root))

-- ---- trees

tree_of : (files : Option Files) (e : Entry) (o : ObjectParts) → IsTaken false e → HasObjectRanges o → HasEntry files e o → (t : ModuleParts) × IsModule files e t o
tree_of files (entry.Module file) o free ranges h = (h.compiled.tree, record { text = h.bytes; is_text = h.file; is_tree = h.compiled.is_tree; object = h.compiled.object; ranges = ranges })
tree_of files (entry.Object file) o free ranges h = let f : false ≡ true = free in absurd cc
tree_of files entry.Library o free ranges h = (h.tree, record { text = _; is_text = refl; is_tree = h.is_tree; object = h.object; ranges = ranges })

pub lines_have_trees : LinesHaveTrees
lines_have_trees files [] [] free ranges h = ([], tt)
lines_have_trees files [] (o ∷ os) free ranges h = absurd h
lines_have_trees files (e ∷ es) [] free ranges h = absurd h
lines_have_trees files (e ∷ es) (o ∷ os) free ranges h =
    let t = tree_of files e o free.0 ranges.0 h.0 in
    let more = lines_have_trees files es os free.1 ranges.1 h.1 in
    (t.0 ∷ more.0, (t.1, more.1))
