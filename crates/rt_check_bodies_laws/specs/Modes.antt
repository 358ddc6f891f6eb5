-- The modes that a scope gives may stand where they are.
use Rattle.std.specs.Prelude.{◌≡◌, ℕ, Bool, true, List, length}
use Rattle.std.specs.List.{list_all}
use Rattle.rt_tree_nodes.specs.declared.brick.Kind.{Kind}
use Rattle.rt_tree_nodes.specs.Scopes.{Scope, Face, Sort, OfProc, OfData, OfStack, errors_of, streams_of}
use Rattle.rt_tree.specs.Modules.{record_stands, stands_alone, item_stands}

-- those of a brick, whatever stands in its body or its starts
abbrev pub sort_stands : ℕ → Kind → List ℕ → Sort → Bool
sort_stands records k name (OfProc m) = stands_alone records m
sort_stands records k name (OfData fs) = list_all (item_stands records k name) fs
sort_stands records k name OfStack = true

abbrev pub face_stands : ℕ → Face → Bool
face_stands records b = sort_stands records b.kind b.name b.sort

-- Those of the fields of records, of procedures and of items; and the task's own data are what the bricks give.
pub record ModesStand (c : Scope) : Type 0 where
  pub records : list_all (record_stands (length c.records)) c.records ≡ true
  pub bricks : list_all (face_stands (length c.records)) c.bricks ≡ true
  pub errors : c.errors ≡ errors_of c.bricks
  pub streams : c.streams ≡ streams_of c.bricks
