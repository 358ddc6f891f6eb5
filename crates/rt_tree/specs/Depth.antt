-- How many words of the stack the evaluation of each node takes, and how many locals a procedure has.
use Rattle.std.specs.Prelude.{ℕ, zero, suc, ◌+◌, ◌-◌, Bool, true, false, ◌||◌, max, if◌then◌else◌, length}
use Rattle.rt_tree_nodes.specs.declared.brick.ProcBody.{ProcBody}
use Rattle.rt_tree_nodes.specs.Tree.{Term, Num, Str, Name, Own, Get, Ref, RefRow, Count, CountRow, One, Two, Over, Apply, ApplyBy, Path, ItemAt, Svc, FieldOf, Elem, ElemRow, Past, Terms, NoTerm, MoreTerms, Cond, Is, Both, Either, Stmt, Keep, Clear, Put, Run, Toss, Goto, GiveBack, Back, Switch, Inner, If, For, To, While, Recover, Seq, Done, Then, Mark}

-- a second operand stands above the word of the first
abbrev pub above : ℕ → ℕ → ℕ
above a b = max a (suc b)

-- a value where a place of this address depth lies below it, if it takes a word
abbrev pub behind : ℕ → ℕ → ℕ
behind zero v = v
behind (suc a) v = above (suc a) v

abbrev mutual
  pub depth : Term → ℕ
  depth (Num n) = 1
  depth (Str n) = 1
  depth (Name b) = 1
  depth (Own i) = 1
  depth (Get m p) = max 1 (address_depth p)
  depth (Ref p) = max 1 (address_depth p)
  depth (RefRow p n) = max 1 (address_depth p)
  depth (Count p n) = max 1 (address_depth p)
  depth (CountRow v) = depth v
  depth (One o v) = depth v
  depth (Two o a b) = above (depth a) (depth b)
  depth (Over o a b) = above (depth a) (depth b)
  depth (Apply b vs) = max 1 (arguments_depth 0 vs)
  depth (ApplyBy m f vs) = max (max 1 (depth f)) (arguments_depth 1 vs)

  -- what the address of a place takes; a brick's item takes nothing
  pub address_depth : Path → ℕ
  address_depth (ItemAt b i) = 0
  address_depth (Svc k) = 0
  address_depth (FieldOf p r k) = address_depth p
  address_depth (Elem p v n m) = behind (address_depth p) (depth v)
  address_depth (ElemRow a v m) = above (depth a) (depth v)
  address_depth (Past v) = depth v

  -- arguments above so many words
  pub arguments_depth : ℕ → Terms → ℕ
  arguments_depth below NoTerm = 0
  arguments_depth below (MoreTerms v vs) = max (below + depth v) (arguments_depth (suc below) vs)

abbrev pub condition_depth : Cond → ℕ
condition_depth (Is r a b) = above (depth a) (depth b)
condition_depth (Both t u) = max (condition_depth t) (condition_depth u)
condition_depth (Either t u) = max (condition_depth t) (condition_depth u)

abbrev mutual
  pub statement_depth : Stmt → ℕ
  statement_depth (Keep i v) = depth v
  statement_depth (Clear i) = 0
  statement_depth (Put m p v) = behind (address_depth p) (depth v)
  statement_depth (Run v) = depth v
  statement_depth (Toss v) = depth v
  statement_depth (Goto l) = 0
  statement_depth (GiveBack v) = depth v
  statement_depth Back = 0
  statement_depth (Switch v ls) = depth v
  statement_depth (Inner q) = sequence_depth q
  statement_depth (If t a b) = max (condition_depth t) (max (sequence_depth a) (sequence_depth b))
  statement_depth (For i start step end q) = max (max (depth start) (max (depth step) (depth end))) (sequence_depth q)
  statement_depth (To i n q) = max (depth n) (sequence_depth q)
  statement_depth (While t q) = max (condition_depth t) (sequence_depth q)
  statement_depth (Recover l) = 0

  pub sequence_depth : Seq → ℕ
  sequence_depth Done = 0
  sequence_depth (Then s q) = max (statement_depth s) (sequence_depth q)
  sequence_depth (Mark l q) = sequence_depth q

abbrev mutual
  -- whether it recovers anywhere
  pub statement_recovers : Stmt → Bool
  statement_recovers (Inner q) = sequence_recovers q
  statement_recovers (If t a b) = sequence_recovers a || sequence_recovers b
  statement_recovers (For i start step end q) = sequence_recovers q
  statement_recovers (To i n q) = sequence_recovers q
  statement_recovers (While t q) = sequence_recovers q
  statement_recovers (Recover l) = true
  statement_recovers _ = false

  pub sequence_recovers : Seq → Bool
  sequence_recovers Done = false
  sequence_recovers (Then s q) = statement_recovers s || sequence_recovers q
  sequence_recovers (Mark l q) = sequence_recovers q

-- The words of a procedure's locals behind its parameters: one for each local, three for each loop, and four more where
-- it recovers.
abbrev pub local_words : ℕ → ProcBody → Seq → ℕ
local_words parameters b q = (length b.locals - parameters) + (if sequence_recovers q then 4 else 0)
