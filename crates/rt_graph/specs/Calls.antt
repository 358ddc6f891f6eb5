-- Which procedures a system of objects has, what may be called through a mode, and what each procedure may call. Modules count from
-- 1; module 0 has the supplied procedures, by their numbers.
use Rattle.std.specs.Prelude.{◌≡◌, ◌⊎◌, ◌≤◌, ℕ, zero, suc, List, codes, Option, Some, None, option_map, slice_get}
use Rattle.rt_modes.specs.FullMode.{FullMode}
use Rattle.rt_modes.specs.declared.mode.Mode.{Mode}
use Rattle.rt_modes.specs.declared.mode.ModeTable.{ModeTable}
use Rattle.rt_tree_nodes.specs.declared.store.Proc.{Proc}
use Rattle.rt_object.specs.Ranges.{IsProcMode}
use Rattle.rt_object.specs.declared.object.Brick.{Brick}
use Rattle.rt_object.specs.declared.object.BrickKind.{BrickKind}
use Rattle.rt_object.specs.declared.object.BrickKind.TheVariants.{Own, Ent}
use Rattle.rt_object.specs.declared.object.Call.{Call}
use Rattle.rt_object.specs.declared.object.Content.{Content}
use Rattle.rt_object.specs.declared.object.Content.TheVariants as content
use Rattle.rt_object.specs.declared.object.ObjectParts.{ObjectParts}
use Rattle.rt_object.specs.declared.object.ProcContent.{ProcContent}
use Rattle.rt_object.specs.declared.object.Target.{Target}
use Rattle.rt_object.specs.declared.object.Target.TheVariants as target
use Rattle.rt_modes.specs.Bricks.{brick_numbered, text_in}
use Rattle.rt_match.specs.declared.bindings.Bound.{Bound}
use Rattle.rt_match.specs.declared.bindings.Bound.TheVariants as bound
use Rattle.rt_digraph.specs.Walks.{Has}

abbrev pub brick : ℕ → ℕ → Proc
brick m b = record { «module» = m; brick = b }

-- what is numbered from 1
abbrev pub numbered : {A : Type 0} → List A → ℕ → Option A
numbered xs zero = None
numbered xs (suc m) = slice_get xs m

-- the content of an own or ENT brick
abbrev pub content_of : BrickKind → Option Content
content_of (Own c) = Some c
content_of (Ent c) = Some c
content_of _ = None

-- the full mode for errors
abbrev pub int_taken : List ℕ
int_taken = codes "PROC(INT)"

-- RRIN, RROUT and RRGEL may be values in each system
abbrev pub IsAlwaysTaken : ℕ → Type 0
IsAlwaysTaken k = (k ≡ 1) ⊎ ((k ≡ 2) ⊎ (k ≡ 10))

-- WAIT, SIGNAL, SECURE and RELEASE
abbrev pub MeetsErrors : ℕ → Type 0
MeetsErrors k = (4 ≤ k) × (k ≤ 7)

-- the number of a supplied procedure
abbrev pub IsSuppliedProc : ℕ → Type 0
IsSuppliedProc k = (1 ≤ k) × (k ≤ 10)

-- what an own or ENT procedure holds
abbrev pub body_in : Option Content → Option ProcContent
body_in (Some (content.Proc p)) = Some p
body_in _ = None

abbrev pub content_at : Option Brick → Option Content
content_at None = None
content_at (Some b) = content_of b.kind

abbrev pub proc_at : List Brick → ℕ → Option ProcContent
proc_at bricks b = body_in (content_at (slice_get bricks b))

module _ (objects : List ObjectParts) where
  -- brick f is a procedure, whose body stands in object o
  pub record HasBody (f : Proc) (o : ObjectParts) (p : ProcContent) : Type 0 where
    pub of : numbered objects f.«module» ≡ Some o
    pub is : proc_at o.bricks f.brick ≡ Some p

  -- a procedure's full mode, as a text
  pub data HasFullMode : Proc → List ℕ → Type 0 where
    own : {f : Proc} {o : ObjectParts} {p : ProcContent} → HasBody f o p → HasFullMode f (FullMode o.records p.mode)
    supplied : {k : ℕ} → IsSuppliedProc k → HasFullMode (brick 0 k) (text_in (brick_numbered k))

  abbrev pub IsProcedure : Proc → Type 0
  IsProcedure f = (full : List ℕ) × HasFullMode f full

-- to what brick b of module m leads that is bound so
abbrev pub leads : ℕ → ℕ → Bound → Proc
leads m b bound.Own = brick m b
leads m b (bound.Brick n c) = brick n c
leads m b (bound.Supplied k) = brick 0 k

abbrev pub bound_in : Option (List Bound) → ℕ → Option Bound
bound_in None b = None
bound_in (Some of) b = slice_get of b

-- for what a brick stands, by these bindings
abbrev pub stands_for : List (List Bound) → ℕ → ℕ → Option Proc
stands_for of m b = option_map (leads m b) (bound_in (numbered of m) b)

module _ (objects : List ObjectParts) (of : List (List Bound)) where
  -- a procedure whose name stands as a value or as a start in some module
  pub data IsTaken : Proc → Type 0 where
    named : (m b : ℕ) {o : ObjectParts} {f : Proc} → numbered objects m ≡ Some o → Has o.taken b → stands_for of m b ≡ Some f → IsTaken f
    always : {k : ℕ} → IsAlwaysTaken k → IsTaken (brick 0 k)

  -- what a value of this full mode may be
  pub record IsCandidate (full : List ℕ) (f : Proc) : Type 0 where
    pub taken : IsTaken f
    pub mode : HasFullMode objects f full

  -- what a value of a mode may be, in the sight of these records; a mode that is no PROC has no candidate
  pub record IsCandidateOf (t : ModeTable) (m : Mode) (f : Proc) : Type 0 where
    pub proc : IsProcMode m
    pub candidate : IsCandidate (FullMode t m) f

  -- what may be called at a point of a procedure of module m, which is o
  pub data MayCall (m : ℕ) (o : ObjectParts) : Target → Proc → Type 0 where
    by_name : {b : ℕ} {f : Proc} → stands_for of m b ≡ Some f → IsProcedure objects f → MayCall m o (target.Brick b) f
    through : {mode : Mode} {f : Proc} → IsCandidateOf o.records mode f → MayCall m o (target.Mode mode) f
    at_error : {f : Proc} → IsCandidate int_taken f → MayCall m o target.Error f

  -- an edge of the call graph
  pub data Calls : Proc → Proc → Type 0 where
    at_point : {f g : Proc} {o : ObjectParts} {p : ProcContent} (c : Call) → HasBody objects f o p → Has p.calls c → MayCall f.«module» o c.target g → Calls f g
    in_service : {k : ℕ} {g : Proc} → MeetsErrors k → IsCandidate int_taken g → Calls (brick 0 k) g
