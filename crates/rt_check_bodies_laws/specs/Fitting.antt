-- A procedure in which no fault stands fits in the typed tree.
use Rattle.std.specs.Prelude.{◌≡◌, ◌<◌, true, List, [], length, map, Option}
use Rattle.std.specs.List.{list_all}
use Rattle.rt_bricks.specs.declared.tree.ProcedureBrick.{ProcedureBrick}
use Rattle.rt_modes.specs.declared.mode.Mode.{Mode}
use Rattle.rt_tree_nodes.specs.declared.brick.Local.TheVariants as local
use Rattle.rt_tree_nodes.specs.Scopes.{Scope, with_locals}
use Rattle.rt_tree.specs.Modules.{local_stands, proc_fits}
use Rattle.rt_tree.specs.Statements.{Sight as Seen}
use Rattle.rt_exprs.specs.Sights.{Sight}
use Rattle.rt_check_bodies.specs.Procedures.{parameters, answer_in, nothing_yet, procedure, faults}
use Rattle.rt_check_bodies_laws.specs.Held.{Holds, AllKnown, ResultIs}
use Rattle.rt_bricks_laws.specs.Bodies.{labels_in_body, body_is_broad}

-- What must hold of a procedure b, of what is seen where it stands, and of the modes of its parameters and result, over the
-- scope c of its module.
pub record IsReady (c : Scope) (s : Sight) (b : ProcedureBrick) (ms : List Mode) (r : Option Mode) : Type 0 where
  -- what is seen outside the procedure is there in the tree, and can be known
  pub outside : (seen : Seen) → Holds (with_locals c (procedure s b).locals) s seen
  pub known : AllKnown s
  -- its locals have numbers of 16 bits, and their modes may stand
  pub few : length (procedure s b).locals < 65536
  pub standing : list_all (local_stands (length c.records)) (procedure s b).locals ≡ true
  -- the modes are those of its parameters and of its result
  pub heads : (parameters s [] b.fields nothing_yet).1.locals ≡ map local.Variable ms
  pub answers : ResultIs (answer_in s b.at b.result (parameters s [] b.fields nothing_yet).1).0 r
  -- its text is as the grammar has it, with fewer labels than 65,536
  pub broad : body_is_broad b.body ≡ true
  pub labels : labels_in_body b.body < 65536

abbrev pub ProceduresFit : Type 0
ProceduresFit = (c : Scope) (s : Sight) (b : ProcedureBrick) (ms : List Mode) (r : Option Mode) → IsReady c s b ms r → faults s b ≡ [] → proc_fits c ms r (procedure s b) ≡ true
