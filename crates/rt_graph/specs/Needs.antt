-- How many words of the stack a procedure needs, with all that it may call.
use Rattle.std.specs.Prelude.{◌≡◌, ◌⊎◌, ◌+◌, ◌≤◌, ℕ, min, List, length, Some, slice_get}
use Rattle.rt_tree_nodes.specs.declared.store.Proc.{Proc}
use Rattle.rt_object.specs.declared.object.Call.{Call}
use Rattle.rt_object.specs.declared.object.ObjectParts.{ObjectParts}
use Rattle.rt_object.specs.declared.object.ProcContent.{ProcContent}
use Rattle.rt_object.specs.declared.object.Target.{Target}
use Rattle.rt_object.specs.declared.object.Target.TheVariants as target
use Rattle.rt_match.specs.declared.bindings.Bound.{Bound}
use Rattle.rt_digraph.specs.Walks.{Has}
use Rattle.rt_graph.specs.Calls.{brick, int_taken, MeetsErrors, IsSuppliedProc, HasBody, IsCandidate, MayCall, Calls}

-- the greatest number that some things have; 0 where there is none
pub record IsGreatest {A : Type 0} (Among : A → Type 0) (number : A → ℕ) (n : ℕ) : Type 0 where
  pub most : (a : A) → Among a → number a ≤ n
  pub had : (n ≡ 0) ⊎ ((a : A) × Among a × (number a ≡ n))

-- a need as far as 32 bits count
abbrev pub counted : ℕ → ℕ
counted n = min n 4294967295

-- a call through a mode keeps the procedure below its arguments
abbrev pub kept : Target → ℕ
kept (target.Mode m) = 1
kept _ = 0

module _ (objects : List ObjectParts) (of : List (List Bound)) where
  -- where what is called needs so much, a point needs w words below the locals
  pub record AtPoint (need : Proc → ℕ) (m : ℕ) (o : ObjectParts) (c : Call) (w : ℕ) : Type 0 where
    pub callee : ℕ
    pub greatest : IsGreatest (MayCall objects of m o c.target) need callee
    pub sum : w ≡ c.depth + kept c.target + c.args + callee

  -- the greatest of a procedure's own depths and of what its points need
  pub record IsDeepest (need : Proc → ℕ) (m : ℕ) (o : ObjectParts) (p : ProcContent) (w : ℕ) : Type 0 where
    pub own : p.deep ≤ w
    pub points : (c : Call) → Has p.calls c → (v : ℕ) × AtPoint need m o c v × (v ≤ w)
    pub had : (w ≡ p.deep) ⊎ ((c : Call) × Has p.calls c × AtPoint need m o c w)

  -- What a procedure needs, where those that it calls need so much: the link and the return address, the locals, and what its
  -- temporaries and calls take at most. A supplied procedure needs its return address; those that meet errors keep a link too.
  pub data NeedsBy (need : Proc → ℕ) : Proc → ℕ → Type 0 where
    own : {f : Proc} {o : ObjectParts} {p : ProcContent} {w n : ℕ} → HasBody objects f o p → IsDeepest need f.«module» o p w → n ≡ 2 + p.locals + w → NeedsBy need f n
    plain : {k : ℕ} → IsSuppliedProc k → (MeetsErrors k → ⊥) → NeedsBy need (brick 0 k) 1
    service : {k w : ℕ} → MeetsErrors k → IsGreatest (IsCandidate objects of int_taken) need w → NeedsBy need (brick 0 k) (2 + w)

  -- what a procedure needs: those that it calls need what they need
  pub data HasNeed : Proc → ℕ → Type 0 where
    by_callees : {f : Proc} {n : ℕ} (need : Proc → ℕ) → ((g : Proc) → Calls objects of f g → HasNeed g (need g)) → NeedsBy need f n → HasNeed f n

  -- the needs of procedures, in their order
  pub record AreNeeds (fs : List Proc) (needs : List ℕ) : Type 0 where
    pub one_each : length needs ≡ length fs
    pub each : (i : ℕ) (f : Proc) → slice_get fs i ≡ Some f → (n : ℕ) × HasNeed f n × (slice_get needs i ≡ Some (counted n))
