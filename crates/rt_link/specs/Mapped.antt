-- The map of a system: where its parts lie, and what its tasks need of their stacks.
use Rattle.std.specs.Prelude.{ℕ, suc, ◌-◌, List, [], ◌∷◌, ◌++◌, Option, Some}
use Rattle.rt_tree_nodes.specs.declared.store.Proc.{Proc}
use Rattle.rt_image.specs.declared.map.Map.{Map}
use Rattle.rt_image.specs.declared.map.MapTask.{MapTask}
use Rattle.rt_image.specs.declared.map.MapProc.{MapProc}
use Rattle.rt_object.specs.declared.object.Brick.{Brick}
use Rattle.rt_object.specs.declared.object.Content.{Content}
use Rattle.rt_object.specs.declared.object.Content.TheVariants as content
use Rattle.rt_object.specs.declared.object.ObjectParts.{ObjectParts}
use Rattle.rt_system.specs.declared.parts.Task.{Task}
use Rattle.rt_graph.specs.Calls.{brick, content_of}
use Rattle.rt_link.specs.Room.{stack_words, code_end, data_end}
use Rattle.rt_link.specs.Addresses.{block_at, stack_at, brick_address}

-- the objects of a system, and the stack bricks of its tasks
module _ (objects : List ObjectParts) (stacks : List Proc) where
  -- brick b of module m, which has this title, where it is an own or ENT procedure
  abbrev pub proc_in : List ℕ → ℕ → ℕ → Brick → Option Content → List MapProc
  proc_in title m b d (Some (content.Proc p)) = record { title = title; name = d.name; at = brick_address objects stacks (brick m b) } ∷ []
  proc_in title m b d _ = []

  -- the procedures among bricks of module m, of which the first has number b
  abbrev pub procs_from : List ℕ → ℕ → ℕ → List Brick → List MapProc
  procs_from title m b [] = []
  procs_from title m b (d ∷ ds) = proc_in title m b d (content_of d.kind) ++ procs_from title m (suc b) ds

  -- the procedures of modules, of which the first has number m
  abbrev pub modules_procs : ℕ → List ObjectParts → List MapProc
  modules_procs m [] = []
  modules_procs m (o ∷ os) = procs_from o.title m 0 o.bricks ++ modules_procs (suc m) os

  -- task n, with its stack brick and what it needs
  abbrev pub map_task : ℕ → Task → Proc → ℕ → MapTask
  map_task n t f need = record { name = t.name; block = block_at objects stacks n; stack = stack_at objects stacks n; words = stack_words objects f; need = need }

  -- task n and those behind it
  abbrev pub map_tasks : ℕ → List Task → List Proc → List ℕ → List MapTask
  map_tasks n (t ∷ ts) (f ∷ fs) (need ∷ needs) = map_task n t f need ∷ map_tasks (suc n) ts fs needs
  map_tasks n _ _ _ = []

  -- the map of tasks that need so many words each
  abbrev pub map_of : List Task → List ℕ → Map
  map_of tasks needs = record {
    code = (0, code_end objects stacks);
    «data» = (code_end objects stacks, data_end objects stacks - code_end objects stacks);
    tasks = map_tasks 0 tasks stacks needs;
    procs = modules_procs 1 objects;
  }
