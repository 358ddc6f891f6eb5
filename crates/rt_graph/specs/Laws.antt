-- Laws of candidates, orders and needs.
use Rattle.std.specs.Prelude.{◌≡◌, ℕ, ◌+◌, ◌<◌, ◌≤◌, List, codes, Some, slice_get}
use Rattle.rt_tree_nodes.specs.declared.store.Proc.{Proc}
use Rattle.rt_object.specs.declared.object.Call.{Call}
use Rattle.rt_object.specs.declared.object.ObjectParts.{ObjectParts}
use Rattle.rt_object.specs.declared.object.ProcContent.{ProcContent}
use Rattle.rt_match.specs.declared.bindings.Bound.{Bound}
use Rattle.rt_system.specs.declared.parts.Task.{Task}
use Rattle.rt_digraph.specs.Walks.{Has}
use Rattle.rt_graph.specs.Calls.{brick, HasBody, IsCandidate, MayCall, Calls, MeetsErrors, int_taken}
use Rattle.rt_graph.specs.Needs.{kept, HasNeed}
use Rattle.rt_graph.specs.Reach.{IsReached, IsCallOrder}
use Rattle.rt_graph.specs.Tasks.{IsRootNamed, IsStackNamed, HasEnough}

-- RRIN, RROUT and RRGEL are candidates in every system
pub record AreAlwaysCandidates (objects : List ObjectParts) (of : List (List Bound)) : Type 0 where
  pub rrin : IsCandidate objects of (codes "PROC() BYTE") (brick 0 1)
  pub rrout : IsCandidate objects of (codes "PROC(BYTE)") (brick 0 2)
  pub rrgel : IsCandidate objects of int_taken (brick 0 10)

abbrev pub AlwaysCandidates : Type 0
AlwaysCandidates = (objects : List ObjectParts) (of : List (List Bound)) → AreAlwaysCandidates objects of

-- ---- what is reached

-- what may be called at a point of a reached procedure is reached
abbrev pub PointsAreReached : Type 0
PointsAreReached = (objects : List ObjectParts) (of : List (List Bound)) (roots : List Proc) (f g : Proc) (o : ObjectParts) (p : ProcContent) (c : Call)
    → IsReached objects of roots f → HasBody objects f o p → Has p.calls c → MayCall objects of f.«module» o c.target g → IsReached objects of roots g

-- where WAIT, SIGNAL, SECURE or RELEASE is reached, each candidate for errors is
abbrev pub ErrorsAreReached : Type 0
ErrorsAreReached = (objects : List ObjectParts) (of : List (List Bound)) (roots : List Proc) (k : ℕ) (g : Proc) → MeetsErrors k → IsReached objects of roots (brick 0 k) → IsCandidate objects of int_taken g → IsReached objects of roots g

-- in an order each procedure stands behind all that it may call
abbrev pub CalleesComeFirst : Type 0
CalleesComeFirst = (objects : List ObjectParts) (of : List (List Bound)) (roots fs : List Proc) (i : ℕ) (f g : Proc) → IsCallOrder objects of roots fs → slice_get fs i ≡ Some f → Calls objects of f g → (j : ℕ) × (j < i) × (slice_get fs j ≡ Some g)

-- ---- needs

-- a procedure has one need, which is at least 1
abbrev pub OneNeed : Type 0
OneNeed = (objects : List ObjectParts) (of : List (List Bound)) (f : Proc) (m n : ℕ) → HasNeed objects of f m → HasNeed objects of f n → m ≡ n

abbrev pub NeedsSome : Type 0
NeedsSome = (objects : List ObjectParts) (of : List (List Bound)) (f : Proc) (n : ℕ) → HasNeed objects of f n → 1 ≤ n

-- at each point of a procedure, and at its deepest place, all that lies on the stack is within its need, whatever may be called
abbrev pub PointsFit : Type 0
PointsFit = (objects : List ObjectParts) (of : List (List Bound)) (f g : Proc) (o : ObjectParts) (p : ProcContent) (c : Call) (m n : ℕ)
    → HasBody objects f o p → Has p.calls c → MayCall objects of f.«module» o c.target g → HasNeed objects of f n → HasNeed objects of g m → 2 + p.locals + (c.depth + kept c.target + c.args + m) ≤ n

abbrev pub BarePointsFit : Type 0
BarePointsFit = (objects : List ObjectParts) (of : List (List Bound)) (f : Proc) (o : ObjectParts) (p : ProcContent) (c : Call) (n : ℕ)
    → HasBody objects f o p → Has p.calls c → HasNeed objects of f n → 2 + p.locals + (c.depth + kept c.target + c.args) ≤ n

abbrev pub DepthsFit : Type 0
DepthsFit = (objects : List ObjectParts) (of : List (List Bound)) (f : Proc) (o : ObjectParts) (p : ProcContent) (n : ℕ) → HasBody objects f o p → HasNeed objects of f n → 2 + p.locals + p.deep ≤ n

abbrev pub ServicesFit : Type 0
ServicesFit = (objects : List ObjectParts) (of : List (List Bound)) (k : ℕ) (g : Proc) (m n : ℕ) → MeetsErrors k → IsCandidate objects of int_taken g → HasNeed objects of (brick 0 k) n → HasNeed objects of g m → 2 + m ≤ n

-- a stack is enough exactly from the need of the root on
pub record IsExact (objects : List ObjectParts) (tasks : List Task) (of : List (List Bound)) (t : Task) (words need : ℕ) : Type 0 where
  pub least : HasEnough objects tasks of t → need ≤ words
  pub enough : need ≤ words → HasEnough objects tasks of t

abbrev pub StacksAreExact : Type 0
StacksAreExact = (objects : List ObjectParts) (tasks : List Task) (of : List (List Bound)) (t : Task) (f : Proc) (words need : ℕ)
    → IsRootNamed objects t.root f → IsStackNamed objects t.stack words → HasNeed objects of f need → IsExact objects tasks of t words need
