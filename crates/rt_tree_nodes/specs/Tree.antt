-- The plain tree of a procedure: without boxes, locals apart from shared places, arrays apart from the rows behind a
-- REF ARRAY, and with the mode of what is read and written. The meaning, the depths and the code go over it.
use Rattle.std.specs.Prelude.{ℕ, List}
use Rattle.rt_modes.specs.declared.mode.Mode.{Mode}
use Rattle.rt_tree_nodes.specs.declared.operators.Op1.{Op1}
use Rattle.rt_tree_nodes.specs.declared.operators.Op2.{Op2}
use Rattle.rt_tree_nodes.specs.declared.operators.Rel.{Rel}

mutual
  -- what gives a value
  pub data Term : Type 0 where
    Num : (n : ℕ) → Term
    Str : (n : ℕ) → Term  -- a string of the module
    Name : (b : ℕ) → Term  -- a procedure brick
    Own : (i : ℕ) → Term  -- a parameter or local
    Get : (m : Mode) (p : Path) → Term  -- what is read at a place of mode m
    Ref : (p : Path) → Term
    RefRow : (p : Path) (n : ℕ) → Term  -- the reference of an array of n elements
    Count : (p : Path) (n : ℕ) → Term  -- its LENGTH
    CountRow : (v : Term) → Term  -- the LENGTH of the array to which a REF ARRAY leads
    One : (o : Op1) (v : Term) → Term
    Two : (o : Op2) (a b : Term) → Term
    Over : (o : Op2) (a b : Term) → Term  -- `:/` and MOD
    Apply : (b : ℕ) (vs : Terms) → Term  -- the call of a brick
    ApplyBy : (m : Mode) (f : Term) (vs : Terms) → Term  -- the call of the procedure that a value of PROC mode m is

  -- what gives a shared place
  pub data Path : Type 0 where
    ItemAt : (b i : ℕ) → Path
    Svc : (k : ℕ) → Path  -- of the task's own data
    FieldOf : (p : Path) (r k : ℕ) → Path  -- field k of record r
    Elem : (p : Path) (v : Term) (n : ℕ) (m : Mode) → Path  -- of an array of n elements of mode m
    ElemRow : (a v : Term) (m : Mode) → Path  -- through a REF ARRAY
    Past : (v : Term) → Path  -- where a REF leads

  pub data Terms : Type 0 where
    NoTerm : Terms
    MoreTerms : (v : Term) (vs : Terms) → Terms

pub data Cond : Type 0 where
  Is : (r : Rel) (a b : Term) → Cond
  Both : (t u : Cond) → Cond
  Either : (t u : Cond) → Cond

mutual
  pub data Stmt : Type 0 where
    Keep : (i : ℕ) (v : Term) → Stmt  -- a local becomes a value
    Clear : (i : ℕ) → Stmt  -- a local becomes 0
    Put : (m : Mode) (p : Path) (v : Term) → Stmt  -- a place of mode m
    Run : (v : Term) → Stmt  -- a call without result
    Toss : (v : Term) → Stmt  -- a call whose result is dropped
    Goto : (l : ℕ) → Stmt
    GiveBack : (v : Term) → Stmt
    Back : Stmt
    Switch : (v : Term) (ls : List ℕ) → Stmt
    Inner : (q : Seq) → Stmt
    If : (t : Cond) (a b : Seq) → Stmt
    For : (i : ℕ) (start step end : Term) (q : Seq) → Stmt
    To : (i : ℕ) (n : Term) (q : Seq) → Stmt
    While : (t : Cond) (q : Seq) → Stmt
    Recover : (l : ℕ) → Stmt

  pub data Seq : Type 0 where
    Done : Seq
    Then : (s : Stmt) (q : Seq) → Seq
    Mark : (l : ℕ) (q : Seq) → Seq  -- a label
