-- What a procedure's brick is, and the faults that stand in it.
use Rattle.std.specs.Prelude.{◌≡◌, Bool, true, false, not, ◌&&◌, List, [], ◌∷◌, Option, Some, None, Ok, Err}
use Rattle.rt_grammar.specs.declared.at.At.{At}
use Rattle.rt_grammar.specs.declared.at.Ident.{Ident}
use Rattle.rt_syntax_exprs.specs.declared.tree.WrittenMode.{WrittenMode}
use Rattle.rt_modes.specs.declared.mode.Mode.{Mode}
use Rattle.rt_bricks.specs.declared.tree.Fields.{Fields}
use Rattle.rt_bricks.specs.declared.tree.ProcedureBrick.{ProcedureBrick}
use Rattle.rt_tree_nodes.specs.declared.brick.Local.TheVariants as made
use Rattle.rt_tree_nodes.specs.declared.brick.ProcBody.{ProcBody}
use Rattle.rt_tree_nodes.specs.declared.statement.Body.{Body as BodyMade}
use Rattle.rt_tree.specs.Statements.{closed}
use Rattle.rt_check_faults.specs.declared.fault.CheckFault.{CheckFault}
use Rattle.rt_check_faults.specs.declared.fault.CheckFault.TheVariants as fault
use Rattle.rt_exprs.specs.declared.scope.Meaning.TheVariants as meaning
use Rattle.rt_check_faults.specs.Outcomes.{Outcome}
use Rattle.rt_check_declared.specs.Verdicts.{IsIn}
use Rattle.rt_check_bodies.specs.declared.answer.Answer.{Answer}
use Rattle.rt_check_bodies.specs.declared.answer.Answer.TheVariants as answer
use Rattle.rt_check_bodies.specs.declared.tally.Tally.{Tally}
use Rattle.rt_exprs.specs.Sights.{Names, Sight, declared, within}
use Rattle.rt_check_bodies.specs.Sights.{mode_in}
use Rattle.rt_check_bodies.specs.Parts.{Part, it_is, ◌>>=◌, noted_if, noted_twice, with_local, next_local, mode_or}
use Rattle.rt_check_bodies.specs.Statements.{body}
use Rattle.rt_bricks.specs.Counted.{items_of}

-- ---- parameters

abbrev pub parameter : Names → Ident → Mode → Part Names
parameter l n m t = (declared n.name (meaning.Local (next_local t) m) l, with_local (made.Variable m) (noted_twice l n t))

abbrev pub named : Names → Ident → Outcome Mode → Part Names
named l n (Err g) t = (declared n.name meaning.Unknown l, noted_twice l n t)
named l n (Ok m) t = parameter l n m t

abbrev pub group : Outcome Mode → Names → List Ident → Part Names
group m l [] = it_is l
group m l (n ∷ ns) = do more ← named l n m; group m more ns

-- The parameters. None is seen in the modes of the others.
abbrev pub parameters : Sight → Names → List Fields → Part Names
parameters s l [] = it_is l
parameters s l (f ∷ fs) = do
  m ← mode_or (mode_in s f.at f.mode)
  more ← group m l f.names
  parameters s more fs

-- ---- the result

abbrev pub wanted : Outcome Mode → Answer
wanted (Ok m) = answer.Wanted m
wanted (Err g) = answer.Unknown

-- where a written mode begins
abbrev pub answer_in : Sight → At → Option WrittenMode → Part Answer
answer_in s at None = it_is answer.Nothing
answer_in s at (Some w) = do m ← mode_or (mode_in s at w); it_is (wanted m)

abbrev pub is_wanted : Answer → Bool
is_wanted (answer.Wanted m) = true
is_wanted _ = false

-- ---- the whole

-- with a result control never comes to ENDPROC
abbrev pub closed_at : Answer → At → BodyMade → Tally → Tally
closed_at r at b = noted_if (is_wanted r && not (closed b)) (fault.NoResult at)

abbrev pub closing : Answer → At → BodyMade → Part BodyMade
closing r at b t = (b, closed_at r at b t)

abbrev pub nothing_yet : Tally
nothing_yet = record { locals = []; labels = 0; faults = [] }

-- the parameters and the result
abbrev pub head_in : Sight → ProcedureBrick → Part (Names × Answer)
head_in s b = do names ← parameters s [] b.fields; r ← answer_in s b.at b.result; it_is (names, r)

-- what is seen in a level of parameters, a result and a tally are what a head gives
abbrev pub Opens : Sight → Answer → Tally → Sight → (Names × Answer) × Tally → Type 0
Opens inside r t s given = (inside ≡ within given.0.0 s) × (r ≡ given.0.1) × (t ≡ given.1)

abbrev pub closed_body : Answer → ProcedureBrick → Sight → Part BodyMade
closed_body r b s = do made ← body r b.body s; closing r b.ends made

abbrev pub body_in : Sight → ProcedureBrick → Part BodyMade
body_in s b = do
  names ← parameters s [] b.fields
  r ← answer_in s b.at b.result
  made ← body r b.body (within names s)
  closing r b.ends made

abbrev pub proc_by : ProcedureBrick → BodyMade × Tally → ProcBody
proc_by b x = record { locals = x.1.locals; labels = x.1.labels; items = items_of b; most = 0; body = x.0 }

-- what the brick is, where no fault stands in it
abbrev pub procedure : Sight → ProcedureBrick → ProcBody
procedure s b = proc_by b (body_in s b nothing_yet)

-- all faults of its parameters, its result and its body
abbrev pub faults : Sight → ProcedureBrick → List CheckFault
faults s b = (body_in s b nothing_yet).1.faults

abbrev pub Stands : Sight → ProcedureBrick → CheckFault → Type 0
Stands s b g = IsIn g (faults s b)
