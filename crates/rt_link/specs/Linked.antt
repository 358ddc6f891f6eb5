-- What is made of a system that passes the tests.
use Rattle.std.specs.Prelude.{◌≡◌, ℕ, List, length, Some, slice_get}
use Rattle.rt_tree_nodes.specs.declared.store.Proc.{Proc}
use Rattle.rt_object.specs.declared.object.ObjectParts.{ObjectParts}
use Rattle.rt_match.specs.declared.bindings.Bound.{Bound}
use Rattle.rt_system.specs.declared.parts.Task.{Task}
use Rattle.rt_image.specs.declared.image.ImageParts.{ImageParts}
use Rattle.rt_image.specs.declared.map.Map.{Map}
use Rattle.rt_graph.specs.Needs.{HasNeed}
use Rattle.rt_link.specs.declared.judged.Judged.{Judged}
use Rattle.rt_link.specs.Verdict.{IsJudged}
use Rattle.rt_link.specs.Imaged.{image_of}
use Rattle.rt_link.specs.Mapped.{map_of}

-- each root needs just so many words
pub record AreRootNeeds (objects : List ObjectParts) (of : List (List Bound)) (roots : List Proc) (words : List ℕ) : Type 0 where
  pub one_each : length words ≡ length roots
  pub each : (i : ℕ) (f : Proc) → slice_get roots i ≡ Some f → (n : ℕ) × (slice_get words i ≡ Some n) × HasNeed objects of f n

-- what a system is linked to: it passes all tests, by which so much is known of it; and this is its image, and the map of it
pub record IsLinked (objects : List ObjectParts) (tasks : List Task) (image : ImageParts) (map : Map) : Type 0 where
  pub known : Judged
  pub judged : IsJudged objects tasks known
  pub words : List ℕ
  pub root_needs : AreRootNeeds objects known.bindings.of known.roots words
  pub is_image : image ≡ image_of objects known.bindings.of tasks known.roots known.stacks
  pub is_map : map ≡ map_of objects known.stacks tasks words
