-- What roots reach in the call graph, and the cycles there.
use Rattle.std.specs.Prelude.{◌≡◌, ◌⊎◌, ◌<◌, List}
use Rattle.rt_tree_nodes.specs.declared.store.Proc.{Proc}
use Rattle.rt_object.specs.declared.object.ObjectParts.{ObjectParts}
use Rattle.rt_match.specs.declared.bindings.Bound.{Bound}
use Rattle.rt_digraph.specs.Walks.{Has, Reached, IsOnCycle, IsCycleOf, IsOrder}
use Rattle.rt_graph.specs.Calls.{IsProcedure, Calls}
use Rattle.rt_graph.specs.declared.fault.GraphFault.{GraphFault}
use Rattle.rt_graph.specs.declared.fault.GraphFault.TheVariants as fault

-- by module, and in a module by declaration
abbrev pub Earlier : Proc → Proc → Type 0
Earlier f g = (f.«module» < g.«module») ⊎ ((f.«module» ≡ g.«module») × (f.brick < g.brick))

module _ (objects : List ObjectParts) (of : List (List Bound)) (roots : List Proc) where
  pub record IsRoot (f : Proc) : Type 0 where
    pub listed : Has roots f
    pub procedure : IsProcedure objects f

  abbrev pub IsReached : Proc → Type 0
  IsReached = Reached (Calls objects of) IsRoot

  -- the first of the reached procedures that lie on cycles
  pub record IsFirstOnCycle (f : Proc) : Type 0 where
    pub reached : IsReached f
    pub cycle : IsOnCycle (Calls objects of) f
    pub least : (g : Proc) → Earlier g f → IsReached g → IsOnCycle (Calls objects of) g → ⊥

  abbrev pub NoneIsOnCycle : Type 0
  NoneIsOnCycle = (f : Proc) → IsReached f → IsOnCycle (Calls objects of) f → ⊥

  -- a cycle that begins and ends with the first procedure that lies on one
  abbrev pub IsRightCycle : List Proc → Type 0
  IsRightCycle fs = (f : Proc) × IsFirstOnCycle f × IsCycleOf (Calls objects of) f fs

  -- each reached procedure once, behind all that it may call; there is such an order exactly where none lies on a cycle
  pub record IsCallOrder (fs : List Proc) : Type 0 where
    pub order : IsOrder (Calls objects of) IsRoot fs
    pub none : NoneIsOnCycle

  -- a fault of the order: want of memory, or a right cycle
  abbrev pub IsRefused : GraphFault → Type 0
  IsRefused fault.Memory = Unit {0}
  IsRefused (fault.Recursion fs) = IsRightCycle fs
  IsRefused (fault.SmallStack task need has) = ⊥
  IsRefused (fault.BadTask line) = ⊥
