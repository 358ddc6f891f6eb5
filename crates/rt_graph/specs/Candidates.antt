-- The candidates of a mode as a list.
use Rattle.std.specs.Prelude.{◌≡◌, ℕ, suc, ◌-◌, ◌<◌, ◌==◌, nat_le, ◌&&◌, Bool, true, false, List, [], ◌∷◌, Option, Some, None, slice_get}
use Rattle.rt_modes.specs.declared.mode.Mode.{Mode}
use Rattle.rt_modes.specs.declared.mode.ModeTable.{ModeTable}
use Rattle.rt_tree_nodes.specs.declared.store.Proc.{Proc}
use Rattle.rt_object.specs.declared.object.ObjectParts.{ObjectParts}
use Rattle.rt_match.specs.declared.bindings.Bound.{Bound}
use Rattle.rt_digraph.specs.Walks.{Has}
use Rattle.rt_graph.specs.Calls.{IsCandidateOf}
use Rattle.rt_graph.specs.Reach.{Earlier}
use Rattle.rt_graph.specs.Nodes.{with_one}

-- by module and declaration
abbrev pub AreInOrder : List Proc → Type 0
AreInOrder fs = (i j : ℕ) (f g : Proc) → i < j → slice_get fs i ≡ Some f → slice_get fs j ≡ Some g → Earlier f g

-- just the candidates of a mode, in the sight of the records t, in their order
pub record AreCandidates (objects : List ObjectParts) (of : List (List Bound)) (t : ModeTable) (m : Mode) (fs : List Proc) : Type 0 where
  pub all : (f : Proc) → IsCandidateOf objects of t m f → Has fs f
  pub only : (f : Proc) → Has fs f → IsCandidateOf objects of t m f
  pub order : AreInOrder fs

-- whether a brick is of the class that has a node
abbrev pub is_member : ℕ → ℕ → Option (Option ℕ) → Bool
is_member total node (Some (Some c)) = nat_le total node && (node - total == c)
is_member total node _ = false

abbrev pub only_if : {A : Type 0} → Bool → A → Option A
only_if true a = Some a
only_if false a = None

-- the bricks of that class, among those from number n on
abbrev pub members : ℕ → ℕ → List (Option ℕ) → ℕ → List Proc → List Proc
members total node of n [] = []
members total node of n (f ∷ fs) = with_one (only_if (is_member total node (slice_get of n)) f) (members total node of (suc n) fs)
