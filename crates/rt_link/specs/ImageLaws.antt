-- Laws of images of systems.
use Rattle.std.specs.Prelude.{◌≡◌, ◌<◌, ℕ, List, length, Some, slice_get}
use Rattle.rt_tree_nodes.specs.declared.store.Proc.{Proc}
use Rattle.rt_image.specs.Memory as memory
use Rattle.rt_object.specs.declared.object.Content.TheVariants as content
use Rattle.rt_object.specs.declared.object.ObjectParts.{ObjectParts}
use Rattle.rt_match.specs.declared.bindings.Bound.{Bound}
use Rattle.rt_system.specs.declared.parts.Task.{Task}
use Rattle.rt_graph.specs.Tasks.{IsFirstEntry}
use Rattle.rt_link.specs.Room.{code_end, data_end}
use Rattle.rt_link.specs.Addresses.{block_at, stack_at}
use Rattle.rt_link.specs.Imaged.{image_of, AreStackBricks}

-- the parts of an image lie in the machine's memory where the layout has them
pub record LiesAsLaid (objects : List ObjectParts) (of : List (List Bound)) (tasks : List Task) (roots stacks : List Proc) : Type 0 where
  pub code : memory.code_end (image_of objects of tasks roots stacks) ≡ code_end objects stacks
  pub bytes : memory.data_end (image_of objects of tasks roots stacks) ≡ data_end objects stacks
  pub blocks : (n : ℕ) → n < length stacks → memory.block_at (image_of objects of tasks roots stacks) n ≡ block_at objects stacks n
  pub bricks : (n : ℕ) → n < length stacks → memory.brick_at (image_of objects of tasks roots stacks) n ≡ stack_at objects stacks n

abbrev pub ImagesLieAsLaid : Type 0
ImagesLieAsLaid = (objects : List ObjectParts) (of : List (List Bound)) (tasks : List Task) (roots stacks : List Proc) → length stacks ≡ length tasks → length roots ≡ length tasks → LiesAsLaid objects of tasks roots stacks

-- where each of some bricks is the first ENT brick of a name, and a stack, they are stack bricks
abbrev pub EntriesAreStacks : Type 0
EntriesAreStacks = (objects : List ObjectParts) (stacks : List Proc) → ((i : ℕ) (f : Proc) → slice_get stacks i ≡ Some f → (name : List ℕ) × (n : ℕ) × IsFirstEntry objects name f (content.Stack n)) → AreStackBricks objects stacks
