-- The verdict on a system of objects: the first test that fails, in the order of their stages, or what is known where none does.
use Rattle.std.specs.Prelude.{◌≡◌, ◌<◌, ◌≤◌, ℕ, List, [], ◌∷◌, Option, Some, None}
use Rattle.rt_tree_nodes.specs.declared.store.Proc.{Proc}
use Rattle.rt_object.specs.declared.object.Content.{Content}
use Rattle.rt_object.specs.declared.object.Content.TheVariants as content
use Rattle.rt_object.specs.declared.object.ObjectParts.{ObjectParts}
use Rattle.rt_match.specs.declared.bindings.Bound.{Bound}
use Rattle.rt_match.specs.Matching.{Match, AreBound, Fails}
use Rattle.rt_match.specs.Signatures.{system_of}
use Rattle.rt_system.specs.declared.parts.Task.{Task}
use Rattle.rt_graph.specs.declared.fault.GraphFault.{GraphFault}
use Rattle.rt_graph.specs.declared.fault.GraphFault.TheVariants as graph
use Rattle.rt_graph.specs.Needs.{AreNeeds}
use Rattle.rt_graph.specs.Nodes.{with_one}
use Rattle.rt_graph.specs.Reach.{IsCallOrder, IsRightCycle}
use Rattle.rt_graph.specs.Scans.{entry_named}
use Rattle.rt_graph.specs.Tasks.{AreRoots, IsFirstBad, HaveEnough, IsFirstSmall}
use Rattle.rt_link.specs.Room.{room}
use Rattle.rt_link.specs.declared.fault.LinkFault.{LinkFault}
use Rattle.rt_link.specs.declared.fault.LinkFault.TheVariants as fault
use Rattle.rt_link.specs.declared.judged.Judged.{Judged}

-- how many bytes the memory has
abbrev pub memory : ℕ
memory = 57344

-- ---- the stack bricks of tasks

abbrev pub stack_in : Option (Proc × Content) → Option Proc
stack_in (Some (f, content.Stack n)) = Some f
stack_in _ = None

-- the stack brick of a name
abbrev pub stack_brick : List ObjectParts → List ℕ → Option Proc
stack_brick objects name = stack_in (entry_named objects name)

abbrev pub stack_bricks : List ObjectParts → List Task → List Proc
stack_bricks objects [] = []
stack_bricks objects (t ∷ ts) = with_one (stack_brick objects t.stack) (stack_bricks objects ts)

-- ---- the stages

module _ (objects : List ObjectParts) (tasks : List Task) where
  -- the objects match, and this is to what their bricks are bound
  pub record IsMatched (of : List (List Bound)) : Type 0 where
    pub match : Match (system_of objects)
    pub bound : AreBound (system_of objects) of

  -- the tasks have roots and stacks
  pub record IsRooted (of : List (List Bound)) (roots : List Proc) : Type 0 where
    pub matched : IsMatched of
    pub are_roots : AreRoots objects tasks roots

  -- none of what the roots reach lies on a cycle
  pub record IsOrdered (of : List (List Bound)) (roots order : List Proc) (needs : List ℕ) : Type 0 where
    pub rooted : IsRooted of roots
    pub is_order : IsCallOrder objects of roots order
    pub are_needs : AreNeeds objects of order needs

  -- the stacks have the words that the tasks need
  pub record IsDeep (of : List (List Bound)) (roots order : List Proc) (needs : List ℕ) : Type 0 where
    pub ordered : IsOrdered of roots order needs
    pub enough : HaveEnough objects tasks of

  -- and all parts have room in the memory
  pub record IsJudged (j : Judged) : Type 0 where
    pub deep : IsDeep j.bindings.of j.roots j.order.procs j.needs
    pub stacks : j.stacks ≡ stack_bricks objects tasks
    pub room : room objects j.stacks ≤ memory

  -- ---- faults

  pub record IsUnrooted (line : ℕ) : Type 0 where
    pub of : List (List Bound)
    pub matched : IsMatched of
    pub bad : IsFirstBad objects tasks line

  pub record IsRecursive (cycle : List Proc) : Type 0 where
    pub of : List (List Bound)
    pub roots : List Proc
    pub rooted : IsRooted of roots
    pub right : IsRightCycle objects of roots cycle

  pub record IsShallow (task : List ℕ) (need has : ℕ) : Type 0 where
    pub of : List (List Bound)
    pub roots : List Proc
    pub order : List Proc
    pub needs : List ℕ
    pub ordered : IsOrdered of roots order needs
    pub small : IsFirstSmall objects tasks of task need has

  pub record IsTooLarge (bytes : ℕ) : Type 0 where
    pub of : List (List Bound)
    pub roots : List Proc
    pub order : List Proc
    pub needs : List ℕ
    pub deep : IsDeep of roots order needs
    pub sum : bytes ≡ room objects (stack_bricks objects tasks)
    pub large : memory < bytes

  abbrev pub IsRefusedBy : GraphFault → Type 0
  IsRefusedBy graph.Memory = Unit {0}
  IsRefusedBy (graph.BadTask line) = IsUnrooted line
  IsRefusedBy (graph.Recursion cycle) = IsRecursive cycle
  IsRefusedBy (graph.SmallStack task need has) = IsShallow task need has

  -- want of memory, or the first test that fails: the objects don't match; a task has no root or no stack of its own; what the
  -- roots reach lies on a cycle; a stack has too few words; the parts have no room
  abbrev pub IsFault : LinkFault → Type 0
  IsFault fault.Memory = Unit {0}
  IsFault (fault.Unmatched f) = Fails (system_of objects) f
  IsFault (fault.Refused f) = IsRefusedBy f
  IsFault (fault.NoRoom bytes) = IsTooLarge bytes
