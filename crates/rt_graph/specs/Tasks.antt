-- The roots and the stacks of tasks.
use Rattle.std.specs.Prelude.{◌≡◌, ◌<◌, ◌≤◌, ℕ, List, [], length, Some, None, slice_get}
use Rattle.rt_modes.specs.declared.mode.Mode.{Mode, out-Mode}
use Rattle.rt_modes.specs.declared.mode.Mode.TheOpen.{Mode-F}
use Rattle.rt_tree_nodes.specs.declared.store.Proc.{Proc}
use Rattle.rt_object.specs.declared.object.Brick.{Brick}
use Rattle.rt_object.specs.declared.object.BrickKind.TheVariants.{Ent}
use Rattle.rt_object.specs.declared.object.Content.{Content}
use Rattle.rt_object.specs.declared.object.Content.TheVariants as content
use Rattle.rt_object.specs.declared.object.ObjectParts.{ObjectParts}
use Rattle.rt_object.specs.declared.object.ProcContent.{ProcContent}
use Rattle.rt_match.specs.declared.bindings.Bound.{Bound}
use Rattle.rt_system.specs.declared.parts.Task.{Task}
use Rattle.rt_graph.specs.Calls.{numbered}
use Rattle.rt_graph.specs.Reach.{Earlier, IsCallOrder}
use Rattle.rt_graph.specs.Needs.{counted, HasNeed, AreNeeds}
use Rattle.rt_graph.specs.declared.fault.GraphFault.{GraphFault}
use Rattle.rt_graph.specs.declared.fault.GraphFault.TheVariants as fault

abbrev pub IsIntLayer : Mode-F Mode → Type 0
IsIntLayer Mode-F.Int = Unit {0}
IsIntLayer _ = ⊥

abbrev pub IsRootLayer : Mode-F Mode → Type 0
IsRootLayer (Mode-F.Proc [] None) = Unit {0}
IsRootLayer (Mode-F.Proc [] (Some r)) = IsIntLayer (out-Mode r)
IsRootLayer _ = ⊥

-- PROC() or PROC() INT
abbrev pub IsRootMode : Mode → Type 0
IsRootMode m = IsRootLayer (out-Mode m)

module _ (objects : List ObjectParts) where
  -- brick f is an ENT brick of this name, and holds c
  pub record IsEntry (name : List ℕ) (f : Proc) (c : Content) : Type 0 where
    pub object : ObjectParts
    pub of : numbered objects f.«module» ≡ Some object
    pub found : Brick
    pub at : slice_get object.bricks f.brick ≡ Some found
    pub named : found.name ≡ name
    pub ent : found.kind ≡ Ent c

  -- the first of that name
  pub record IsFirstEntry (name : List ℕ) (f : Proc) (c : Content) : Type 0 where
    pub entry : IsEntry name f c
    pub first : (g : Proc) (d : Content) → Earlier g f → IsEntry name g d → ⊥

  -- procedure f may be the root of a task that names it so
  pub record IsRootNamed (name : List ℕ) (f : Proc) : Type 0 where
    pub body : ProcContent
    pub entry : IsFirstEntry name f (content.Proc body)
    pub mode : IsRootMode body.mode

  -- the stack of this name has so many words
  abbrev pub IsStackNamed : List ℕ → ℕ → Type 0
  IsStackNamed name words = (f : Proc) × IsFirstEntry name f (content.Stack words)

  module _ (tasks : List Task) where
    -- a task before task i has the stack of this name
    abbrev pub IsStackBefore : ℕ → List ℕ → Type 0
    IsStackBefore i name = (j : ℕ) × (t : Task) × (j < i) × (slice_get tasks j ≡ Some t) × (t.stack ≡ name)

    -- task i, which is t, has root f and a stack of its own of so many words
    pub record IsGood (i : ℕ) (t : Task) (f : Proc) (words : ℕ) : Type 0 where
      pub root : IsRootNamed t.root f
      pub stack : IsStackNamed t.stack words
      pub own : IsStackBefore i t.stack → ⊥

    abbrev pub IsBad : ℕ → Task → Type 0
    IsBad i t = (f : Proc) (words : ℕ) → IsGood i t f words → ⊥

    -- these are the roots of the tasks
    pub record AreRoots (roots : List Proc) : Type 0 where
      pub one_each : length roots ≡ length tasks
      pub each : (i : ℕ) (t : Task) → slice_get tasks i ≡ Some t → (f : Proc) × (words : ℕ) × IsGood i t f words × (slice_get roots i ≡ Some f)

    -- the line of the first task that is bad
    pub record IsFirstBad (line : ℕ) : Type 0 where
      pub number : ℕ
      pub task : Task
      pub at : slice_get tasks number ≡ Some task
      pub its : line ≡ task.line
      pub bad : IsBad number task
      pub first : (j : ℕ) (t : Task) → j < number → slice_get tasks j ≡ Some t → (f : Proc) × (words : ℕ) × IsGood j t f words

    -- a fault of the roots: want of memory, or the first line that breaks the rule
    abbrev pub IsBadTask : GraphFault → Type 0
    IsBadTask fault.Memory = Unit {0}
    IsBadTask (fault.BadTask line) = IsFirstBad line
    IsBadTask (fault.Recursion fs) = ⊥
    IsBadTask (fault.SmallStack task need has) = ⊥

    module _ (of : List (List Bound)) where
      -- a task with such a root and stack has enough words
      abbrev pub HasEnough : Task → Type 0
      HasEnough t = (f : Proc) (words need : ℕ) → IsRootNamed t.root f → IsStackNamed t.stack words → HasNeed objects of f need → need ≤ words

      abbrev pub HaveEnough : Type 0
      HaveEnough = (i : ℕ) (t : Task) → slice_get tasks i ≡ Some t → HasEnough t

      -- the first task whose stack has fewer words than its root needs
      pub record IsFirstSmall (name : List ℕ) (told has : ℕ) : Type 0 where
        pub number : ℕ
        pub task : Task
        pub at : slice_get tasks number ≡ Some task
        pub named : name ≡ task.name
        pub root : Proc
        pub is_root : IsRootNamed task.root root
        pub need : ℕ
        pub needs : HasNeed objects of root need
        pub told_is : told ≡ counted need
        pub stack : IsStackNamed task.stack has
        pub small : has < need
        pub first : (j : ℕ) (t : Task) → j < number → slice_get tasks j ≡ Some t → HasEnough t

      abbrev pub IsSmall : GraphFault → Type 0
      IsSmall fault.Memory = Unit {0}
      IsSmall (fault.SmallStack name need has) = IsFirstSmall name need has
      IsSmall (fault.BadTask line) = ⊥
      IsSmall (fault.Recursion fs) = ⊥

      -- an order and needs that were found for the roots of these tasks
      pub record AreFound (order : List Proc) (needs : List ℕ) : Type 0 where
        pub roots : List Proc
        pub are_roots : AreRoots roots
        pub is_order : IsCallOrder objects of roots order
        pub are_needs : AreNeeds objects of order needs
