-- Graphs of numbered nodes: at each node's place stands the list of its successors.
use Rattle.std.specs.Prelude.{ℕ, ◌<◌, List, [], Option, Some, None, length, slice_get}
use Rattle.rt_digraph.specs.Walks.{Has, Reached, IsOnCycle, IsCycleOf, IsOrder}
use Rattle.rt_digraph.specs.declared.sorting.Sorted.{Sorted}
use Rattle.rt_digraph.specs.declared.sorting.Sorted.TheVariants as sorted

abbrev pub listed : Option (List ℕ) → List ℕ
listed None = []
listed (Some s) = s

abbrev pub successors : List (List ℕ) → ℕ → List ℕ
successors graph n = listed (slice_get graph n)

abbrev pub number_or : ℕ → Option ℕ → ℕ
number_or d None = d
number_or d (Some n) = n

-- a successor by its place; a number of no node where there is none
abbrev pub successor : List (List ℕ) → ℕ → ℕ → ℕ
successor graph n place = number_or (length graph) (slice_get (successors graph n) place)

module _ (graph : List (List ℕ)) where
  -- A node's successors that are nodes; another number leads nowhere.
  pub record Edge (m n : ℕ) : Type 0 where
    pub listed : Has (successors graph m) n
    pub there : n < length graph

  pub record IsRoot (roots : List ℕ) (n : ℕ) : Type 0 where
    pub listed : Has roots n
    pub there : n < length graph

  -- the first of the reached nodes that lie on cycles
  pub record IsFirstOnCycle (roots : List ℕ) (n : ℕ) : Type 0 where
    pub reached : Reached Edge (IsRoot roots) n
    pub cycle : IsOnCycle Edge n
    pub least : (m : ℕ) → m < n → Reached Edge (IsRoot roots) m → IsOnCycle Edge m → ⊥

  abbrev pub NoneIsOnCycle : List ℕ → Type 0
  NoneIsOnCycle roots = (n : ℕ) → Reached Edge (IsRoot roots) n → IsOnCycle Edge n → ⊥

  -- a cycle of the first node that lies on one
  abbrev pub IsRightCycle : List ℕ → List ℕ → Type 0
  IsRightCycle roots xs = (n : ℕ) × IsFirstOnCycle roots n × IsCycleOf Edge n xs

  -- The nodes that roots reach, each behind its successors, where none of them lies on a cycle; else a cycle.
  abbrev pub IsSorted : List ℕ → Sorted → Type 0
  IsSorted roots (sorted.Order xs) = IsOrder Edge (IsRoot roots) xs × NoneIsOnCycle roots
  IsSorted roots (sorted.Cycle xs) = IsRightCycle roots xs
