-- The parts of tasks lie behind the data.
use Rattle.std.proofs.Common.{◌≡◌, ℕ, suc, ◌-◌, ◌%◌, ◌<◌, ◌≤◌, List, [], ◌∷◌, length, refl, ap, ◌∙◌, arith}
use Rattle.rt_tree.specs.Stored.{System}
use Rattle.rt_tree_nodes.specs.declared.store.Proc.{Proc}
use Rattle.rt_system.specs.declared.parts.Task.{Task}
use Rattle.rt_image.specs.declared.image.ImageParts.{ImageParts}
use Rattle.rt_image.specs.declared.map.Map.{Map}
use Rattle.rt_image.specs.Memory as memory
use Rattle.rt_object.specs.declared.object.ObjectParts.{ObjectParts}
use Rattle.rt_lower.specs.declared.layouts.Layouts.{Layouts}
use Rattle.rt_link.specs.Imaged.{image_tasks}
use Rattle.rt_link.specs.Room.{code_end, data_end}
use Rattle.rt_imaged.specs.Whole.{IsSystem}
use Rattle.rt_imaged.specs.Laws.{Landed, PartsSit}

tasks_count : (objects : List ObjectParts) (n : ℕ) (ts : List Task) (fs : List Proc) → length fs ≡ length ts → length (image_tasks objects n ts fs) ≡ length ts
tasks_count objects n [] fs e = refl
tasks_count objects n (t ∷ ts) [] e = absurd (omega arith)
tasks_count objects n (t ∷ ts) (f ∷ fs) e = ap suc (tasks_count objects (suc n) ts fs (omega arith))

-- the image lies as it is laid
pub record Laid (objects : List ObjectParts) (stacks : List Proc) (tasks : List Task) (image : ImageParts) : Type 0 where
  pub code : memory.code_end image ≡ code_end objects stacks
  pub bytes : memory.data_end image ≡ data_end objects stacks
  pub count : length image.tasks ≡ length tasks

pub laid_of : Landed → (ps : System) (ls : List Layouts) (objects : List ObjectParts) (tasks : List Task) (image : ImageParts) (map : Map) (s : IsSystem ps ls objects tasks image map) → Laid objects s.linked.known.stacks tasks image
laid_of laws ps ls objects tasks image map s =
    let known = s.linked.known in
    let deep = s.linked.judged.deep in
    let roots = deep.ordered.rooted.are_roots in
    let stacks = laws.stacks objects tasks known.roots roots in
    let many : length known.stacks ≡ length tasks = ap length s.linked.judged.stacks ∙ stacks.one_each in
    let lies = laws.laid objects known.bindings.of tasks known.roots known.stacks many roots.one_each in
    let is = s.linked.is_image in record {
      code = ap memory.code_end is ∙ lies.code;
      bytes = ap memory.data_end is ∙ lies.bytes;
      count = ap (λ (i : ImageParts). length i.tasks) is ∙ tasks_count objects 0 tasks known.stacks many;
    }

pub sits : PartsSit
sits laws ps ls objects tasks image map s i some few =
    let laid = laid_of laws ps ls objects tasks image map s in
    let order = laws.order image s.image_ranges in
    let lies = laws.memory image s.image_ranges in
    let n = i - 1 in
    let within : n < length image.tasks = (let c = laid.count in omega arith) in
    let behind : memory.data_end image ≤ memory.block_at image n = order.blocks_behind_data n in
    let brick : memory.brick_at image n ≤ memory.brick_end image n = order.bricks_behind_blocks n within in
    let even_low : memory.brick_at image n % 2 ≡ 0 = lies.even_bricks n in
    let end_is : memory.data_end image ≡ data_end objects s.linked.known.stacks = laid.bytes in
    record {
      after = omega arith;
      even_block = lies.even_blocks n;
      behind = omega arith;
      order = brick;
      even = omega arith;
      even_low = even_low;
      top = lies.bricks n within;
    }
