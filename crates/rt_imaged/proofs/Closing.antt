-- All that is proved of the theorem, put together.
use Rattle.std.proofs.Common.{◌≡◌, ℕ, suc, ◌*◌, ◌<◌, ◌≤◌, List, [], ◌∷◌, length, map, refl, ap, subst, arith}
use Rattle.std.specs.List.{AllByRecursion}
use Rattle.std.proofs.lemmas.List.Elements.{All-from_recursion}
use Rattle.rt_tree.specs.FullModes.{FullModesTell}
use Rattle.rt_tree.specs.Opened.{FullModesOpen}
use Rattle.rt_image.specs.declared.image.ImageTask.{ImageTask}
use Rattle.rt_image.specs.Ranges.{HasTaskRanges, HasImageRanges}
use Rattle.rt_image.specs.declared.image.ImageParts.{ImageParts}
use Rattle.rt_rules.specs.Laws.{CanStart}
use Rattle.rt_run.specs.Boundaries.{priority_of}
use Rattle.rt_imaged.specs.Closed.{SystemsAreImagedBy}
use Rattle.rt_imaged.proofs.Bindings.{relocations_resolve}
use Rattle.rt_imaged.proofs.Fitting.{trees_of_modules}
use Rattle.rt_imaged.proofs.Imaging.{imaged_if, priorities_are}
use Rattle.rt_imaged.proofs.Rooming.{have_room}
use Rattle.rt_imaged.proofs.Tasks.{roots_are_roots}

map_long : {A B : Type 0} (f : A → B) (xs : List A) → length (map f xs) ≡ length xs
map_long f [] = refl
map_long f (x ∷ xs) = ap suc (map_long f xs)

all_positive : (end : ℕ) (ts : List ImageTask) → AllByRecursion (HasTaskRanges end) ts → AllByRecursion (λ p. 0 < p) (map priority_of ts)
all_positive end [] h = tt
all_positive end (t ∷ ts) h = ((let p : 1 ≤ t.priority = h.0.priority in omega arith), all_positive end ts h.1)

can_start : (image : ImageParts) → HasImageRanges image → CanStart (map priority_of image.tasks)
can_start image h =
    let long = map_long priority_of image.tasks in
    let some = h.some_task in
    let few = h.tasks in
    (omega arith, omega arith, All-from_recursion (λ p. 0 < p) (map priority_of image.tasks) (all_positive (2 * length image.code) image.tasks h.each_task))

pub imaged_by : FullModesOpen → FullModesTell → SystemsAreImagedBy
imaged_by opens tells laws counted lines ps ls objects tasks image mapped s fit filled so tables bound entries linked =
    let trees = trees_of_modules ps ls objects tasks image mapped s fit filled in
    let resolve = relocations_resolve opens counted ps ls objects tasks image mapped s trees tables bound in
    let start = subst CanStart (priorities_are laws ps ls objects tasks image mapped s) (can_start image s.image_ranges) in
    imaged_if opens tells laws counted ps ls objects tasks image mapped s fit trees so tables resolve
    (record { roots = roots_are_roots ps ls objects tasks image mapped s; can_start = start })
    (λ i t x some at has. let room = have_room lines ps ls objects tasks image mapped s i t x some at has in record { reached = room.reached; enters = entries i t x some at has; room = room.room })
    linked
