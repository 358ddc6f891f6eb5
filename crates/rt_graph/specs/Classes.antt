-- The procedures that may be values, by their full modes.
use Rattle.std.specs.Prelude.{◌≡◌, ℕ, suc, ◌+◌, ◌<◌, ◌≤◌, Bool, true, false, if◌then◌else◌, List, [], ◌∷◌, ◌++◌, length, replicate, Option, Some, None, slice_get, slice_set}
use Rattle.std.specs.BTreeMap.{BTreeMap, get_by}
use Rattle.std.specs.Cmp.Lexicographic.{slice_cmp}
use Rattle.std.specs.Ordering.{nat_cmp}
use Rattle.std.proofs.Common.{Bor}
use Rattle.rt_tree_nodes.specs.declared.store.Proc.{Proc}
use Rattle.rt_object.specs.declared.object.ObjectParts.{ObjectParts}
use Rattle.rt_match.specs.declared.bindings.Bound.{Bound}
use Rattle.rt_digraph.specs.Alone.{is_marked}
use Rattle.rt_digraph.specs.Digraph.{listed}
use Rattle.rt_graph.specs.Calls.{stands_for}
use Rattle.rt_graph.specs.Numbers.{all_bricks, number_of, full_mode, and_then}

-- ---- which procedures may be values

abbrev pub mark : Option ℕ → List Bool → List Bool
mark None marks = marks
mark (Some n) marks = slice_set marks n true

-- those whose names stand in a module, m, are marked
abbrev pub mark_taken : List ObjectParts → List (List Bound) → ℕ → List ℕ → List Bool → List Bool
mark_taken objects of m [] marks = marks
mark_taken objects of m (b ∷ bs) marks = mark_taken objects of m bs (mark (and_then (stands_for of m b) (number_of objects)) marks)

-- the same of modules, of which the first has number m
abbrev pub mark_modules : List ObjectParts → List (List Bound) → ℕ → List ObjectParts → List Bool → List Bool
mark_modules objects of m [] marks = marks
mark_modules objects of m (o ∷ os) marks = mark_modules objects of (suc m) os (mark_taken objects of m o.taken marks)

-- and those that may be values always
abbrev pub mark_all : List ObjectParts → List (List Bound) → List Bool → List Bool
mark_all objects of marks = mark_modules objects of 1 objects (mark (Some 10) (mark (Some 2) (mark (Some 1) marks)))

-- the full mode of a procedure that may be a value
abbrev pub text_of : List ObjectParts → List Bool → ℕ → Proc → Option (List ℕ)
text_of objects marks n f = if is_marked marks n then full_mode objects f else None

-- of each brick of the row, from number n on
abbrev pub texts_of : List ObjectParts → List Bool → ℕ → List Proc → List (Option (List ℕ))
texts_of objects marks n [] = []
texts_of objects marks n (f ∷ fs) = text_of objects marks n f ∷ texts_of objects marks (suc n) fs

-- the full mode of each brick of the row that may be a value
abbrev pub taken_texts : List ObjectParts → List (List Bound) → List (Option (List ℕ))
taken_texts objects of = texts_of objects (mark_all objects of (replicate (length (all_bricks objects)) false)) 0 (all_bricks objects)

-- ---- classes of one text

abbrev pub ClassMap : Type 0
ClassMap = BTreeMap (Bor (List ℕ)) ℕ

-- the class of a text
abbrev pub class_in : ClassMap → List ℕ → Option ℕ
class_in map text = get_by (λ k. slice_cmp nat_cmp text k.now) map

-- no two texts have one class, of which there are so many
pub record AreApart (map : ClassMap) (count : ℕ) : Type 0 where
  pub one : (t u : List ℕ) (c : ℕ) → class_in map t ≡ Some c → class_in map u ≡ Some c → t ≡ u
  pub below : (t : List ℕ) (c : ℕ) → class_in map t ≡ Some c → c < count

-- each text has the class that it had
abbrev pub Keeps : ClassMap → ClassMap → Type 0
Keeps old new = (t : List ℕ) (c : ℕ) → class_in old t ≡ Some c → class_in new t ≡ Some c

-- the class of a text, where there is one
abbrev pub IsToldOf : ClassMap → Option (List ℕ) → Option ℕ → Type 0
IsToldOf map None class = class ≡ None
IsToldOf map (Some t) class = (c : ℕ) × (class_in map t ≡ Some c) × (class ≡ Some c)

-- the classes of texts
pub record AreClasses (texts : List (Option (List ℕ))) (map : ClassMap) (of : List (Option ℕ)) (count : ℕ) : Type 0 where
  pub apart : AreApart map count
  pub size : length of ≡ length texts
  pub few : count ≤ length texts
  pub each : (n : ℕ) (t : Option (List ℕ)) → slice_get texts n ≡ Some t → (c : Option ℕ) × (slice_get of n ≡ Some c) × IsToldOf map t c

-- ---- the nodes of classes

-- n is a successor of node i
abbrev pub add : List (List ℕ) → ℕ → ℕ → List (List ℕ)
add graph i n = slice_set graph i (listed (slice_get graph i) ++ n ∷ [])

-- the bricks from number n on are successors of the nodes of their classes, which stand behind the bricks
abbrev pub grouped : ℕ → ℕ → List (Option ℕ) → List (List ℕ) → List (List ℕ)
grouped total n [] graph = graph
grouped total n (None ∷ of) graph = grouped total (suc n) of graph
grouped total n (Some c ∷ of) graph = grouped total (suc n) of (add graph (total + c) n)
