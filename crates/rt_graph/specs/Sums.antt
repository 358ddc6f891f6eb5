-- Needs as they are added up: of bricks by their numbers, and the greatest of each class.
use Rattle.std.specs.Prelude.{ℕ, zero, suc, ◌+◌, ◌-◌, nat_lt, if◌then◌else◌, List, [], ◌∷◌, Option, Some, None, slice_get, slice_set}
use Rattle.rt_tree_nodes.specs.declared.store.Proc.{Proc}
use Rattle.rt_object.specs.declared.object.Call.{Call}
use Rattle.rt_object.specs.declared.object.ObjectParts.{ObjectParts}
use Rattle.rt_object.specs.declared.object.ProcContent.{ProcContent}
use Rattle.rt_match.specs.declared.bindings.Bound.{Bound}
use Rattle.rt_graph.specs.Calls.{brick, numbered, int_taken}
use Rattle.rt_graph.specs.Numbers.{body_of, number_of}
use Rattle.rt_graph.specs.Needs.{counted, kept}
use Rattle.rt_graph.specs.Nodes.{total, class_node, callee, meets_errors}
use Rattle.rt_graph.specs.declared.sums.Found.{Found}
use Rattle.rt_graph.specs.declared.table.Table.{Table}

abbrev pub plus : ℕ → ℕ → ℕ
plus a b = counted (a + b)

abbrev pub greater : ℕ → ℕ → ℕ
greater a b = if nat_lt a b then b else a

abbrev pub number_or_zero : Option ℕ → ℕ
number_or_zero None = 0
number_or_zero (Some n) = n

abbrev pub need_at : List ℕ → ℕ → ℕ
need_at needs n = number_or_zero (slice_get needs n)

-- what a node needs, where one is called
abbrev pub node_need : Table → Found → Option ℕ → ℕ
node_need t found None = 0
node_need t found (Some n) = if nat_lt n (total t) then need_at found.of n else need_at found.greatest (n - total t)

module _ (objects : List ObjectParts) (of : List (List Bound)) (t : Table) (found : Found) where
  abbrev pub point_need : ℕ → ObjectParts → Call → ℕ
  point_need m o c = plus (c.depth + kept c.target + c.args) (node_need t found (callee objects of t m o c.target))

  abbrev pub deepest : ℕ → ObjectParts → List Call → ℕ → ℕ
  deepest m o [] w = w
  deepest m o (c ∷ cs) w = deepest m o cs (greater w (point_need m o c))

  abbrev pub body_need : ℕ → Option ObjectParts → Option ProcContent → ℕ
  body_need m (Some o) (Some p) = plus (2 + p.locals) (deepest m o p.calls p.deep)
  body_need m _ _ = 0

  abbrev pub need_in : ℕ → ℕ → ℕ
  need_in zero b = if meets_errors b then plus 2 (node_need t found (class_node t int_taken)) else 1
  need_in (suc m) b = body_need (suc m) (numbered objects (suc m)) (body_of objects (brick (suc m) b))

  -- what a procedure needs
  abbrev pub need_of : Proc → ℕ
  need_of f = need_in f.«module» f.brick

abbrev pub flat : {A : Type 0} → Option (Option A) → Option A
flat None = None
flat (Some a) = a

abbrev pub raise : Option ℕ → ℕ → List ℕ → List ℕ
raise None n greatest = greatest
raise (Some c) n greatest = slice_set greatest c (greater (need_at greatest c) n)

-- the need of the procedure that has a number is noted
abbrev pub note : Table → Option ℕ → ℕ → Found → Found
note t None need found = found
note t (Some n) need found = record { of = slice_set found.of n need; greatest = raise (flat (slice_get t.classes.of n)) need found.greatest }

-- the needs of procedures, each found after those before it
abbrev pub needs_of : List ObjectParts → List (List Bound) → Table → List Proc → Found → List ℕ
needs_of objects of t [] found = []
needs_of objects of t (f ∷ fs) found = need_of objects of t found f ∷ needs_of objects of t fs (note t (number_of objects f) (need_of objects of t found f) found)
