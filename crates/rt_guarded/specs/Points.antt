-- The points of a procedure between two steps. A point is what may come there, without values: a test may go either way.
--
-- `value v k` is the point at which v is evaluated, where k is the point behind it; the others likewise. So each line says
-- in which order the steps come. The orders are those of `first` of rt_work.
use Rattle.std.specs.Prelude.{ℕ, ◌==◌, Bool, true, false, if◌then◌else◌, List, Option, Some, None}
use Rattle.rt_modes.specs.declared.mode.Mode.{Mode}
use Rattle.rt_tree_nodes.specs.declared.store.Proc.{Proc}
use Rattle.rt_tree_nodes.specs.Tree.{Term, Num, Str, Name, Own, Get, Ref, RefRow, Count, CountRow, One, Two, Over, Apply, ApplyBy, Path, ItemAt, Svc, FieldOf, Elem, ElemRow, Past, Terms, NoTerm, MoreTerms, Cond, Is, Both, Either, Stmt, Keep, Clear, Put, Run, Toss, Goto, GiveBack, Back, Switch, Inner, If, For, To, While, Recover, Seq, Done, Then, Mark}
use Rattle.rt_frames.specs.Points.{is_safe}
use Rattle.rt_frames_laws.specs.Plain.{number_of}
use Rattle.rt_work_state.specs.Items.{Env, or_else}

pub data Point : Type 0 where
  Ends : Point  -- the body's end
  Returns : (behind : Point) → Point  -- RETURN; no way leads to what stands behind it
  Reads : (o : Option Proc) (next : Point) → Point  -- an item of brick o, or where a REF leads, or the task's own
  Writes : (o : Option Proc) (next : Point) → Point
  Divides : (next : Point) → Point  -- a division that may meet an error
  Calls : (f : Proc) (number : Option ℕ) (next : Point) → Point  -- by name; its argument, where it is one number
  CallsBy : (m : Mode) (next : Point) → Point  -- through a variable
  Forks : (a b : Point) → Point
  Turns : (q : Seq) (next : Point) → Point  -- another turn of a FOR or TO, or none
  Tests : (t : Cond) (q : Seq) (next : Point) → Point  -- a WHILE
  Leaps : (l : ℕ) (behind : Point) → Point
  Picks : (ls : List ℕ) (next : Point) → Point  -- SWITCH
  Recovers : (l : ℕ) (next : Point) → Point  -- ERL := l

-- the procedure returns at this point
pub data ReturnsAt : Point → Type 0 where
  at_end : ReturnsAt Ends
  at_return : {k : Point} → ReturnsAt (Returns k)

-- the one argument, where it is a number
abbrev pub argument : Terms → Option ℕ
argument (MoreTerms v NoTerm) = number_of v
argument _ = None

-- where a division may meet an error, its point
abbrev pub dividing : Option ℕ → Point → Point
dividing divisor k = if is_safe divisor then k else Divides k

module _ (e : Env) where
  -- the brick in which a place stands, where no REF leads to it
  abbrev pub brick_at : Path → Option Proc
  brick_at (ItemAt b i) = Some (e.leads b)
  brick_at (FieldOf p r k) = brick_at p
  brick_at (Elem p v n m) = brick_at p
  brick_at _ = None

  abbrev mutual
    pub value : Term → Point → Point
    value (Num n) k = k
    value (Str n) k = k
    value (Name b) k = k
    value (Own i) k = k
    value (Get m p) k = place p (Reads (brick_at p) k)
    value (Ref p) k = place p k
    value (RefRow p n) k = place p k
    value (Count p n) k = place p k
    value (CountRow v) k = value v k
    value (One o v) k = value v k
    value (Two o a b) k = value a (value b k)
    value (Over o a b) k = value a (value b (dividing (number_of b) k))
    value (Apply b vs) k = values vs (Calls (e.leads b) (argument vs) k)
    value (ApplyBy m f vs) k = value f (values vs (CallsBy m k))

    pub place : Path → Point → Point
    place (ItemAt b i) k = k
    place (Svc i) k = k
    place (FieldOf p r i) k = place p k
    place (Elem p v n m) k = place p (value v k)
    place (ElemRow a v m) k = value a (value v k)
    place (Past v) k = value v k

    pub values : Terms → Point → Point
    values NoTerm k = k
    values (MoreTerms v vs) k = value v (values vs k)

  -- where its answer is true, and where it is false
  abbrev pub test : Cond → Point → Point → Point
  test (Is r a b) j k = value a (value b (Forks j k))
  test (Both t u) j k = test t (test u j k) k
  test (Either t u) j k = test t j (test u j k)

  abbrev mutual
    pub statement : Stmt → Point → Point
    statement (Keep i v) k = value v k
    statement (Clear i) k = k
    statement (Put m p v) k = place p (value v (Writes (brick_at p) k))
    statement (Run v) k = value v k
    statement (Toss v) k = value v k
    statement (Goto l) k = Leaps l k
    statement (GiveBack v) k = value v (Returns k)
    statement Back k = Returns k
    statement (Switch v ls) k = value v (Picks ls k)
    statement (Inner q) k = sequence q k
    statement (If t a b) k = test t (sequence a k) (sequence b k)
    statement (For i a b c q) k = value a (value b (value c (Turns q k)))
    statement (To i n q) k = value n (Turns q k)
    statement (While t q) k = Tests t q k
    statement (Recover l) k = Recovers l k

    pub sequence : Seq → Point → Point
    sequence Done k = k
    sequence (Then s q) k = statement s (sequence q k)
    sequence (Mark l q) k = sequence q k

  -- ---- where a label stands

  abbrev pub here_or : Bool → Point → Option Point → Option Point
  here_or true k o = Some k
  here_or false k o = o

  abbrev mutual
    pub from_label : ℕ → Seq → Point → Option Point
    from_label l Done k = None
    from_label l (Mark j q) k = here_or (j == l) (sequence q k) (from_label l q k)
    from_label l (Then s q) k = or_else (from_inside l s (sequence q k)) (from_label l q k)

    pub from_inside : ℕ → Stmt → Point → Option Point
    from_inside l (Inner q) k = from_label l q k
    from_inside l (If t a b) k = or_else (from_label l a k) (from_label l b k)
    from_inside l (For i a b c q) k = from_label l q (Turns q k)
    from_inside l (To i n q) k = from_label l q (Turns q k)
    from_inside l (While t q) k = from_label l q (Tests t q k)
    from_inside l _ k = None
