-- What is still to be done in an activation, the next visible step, and where a label leads. Nothing here has a store.
use Rattle.std.specs.Prelude.{ℕ, suc, Bool, true, false, ◌==◌, List, [], ◌∷◌, Option, Some, None, slice_get}
use Rattle.rt_tree_nodes.specs.declared.store.Proc.{Proc}
use Rattle.rt_tree_nodes.specs.declared.store.Origin.TheVariants.{Brick, Text}
use Rattle.rt_tree_nodes.specs.declared.store.Location.{Location}
use Rattle.rt_tree_nodes.specs.declared.store.Location.TheVariants as location
use Rattle.rt_tree_nodes.specs.declared.store.Datum.{Datum}
use Rattle.rt_tree_nodes.specs.declared.store.Datum.TheVariants.{Word, Row}
use Rattle.rt_tree_nodes.specs.declared.operators.Op1.{Op1}
use Rattle.rt_tree_nodes.specs.declared.operators.Op2.{Op2}
use Rattle.rt_tree_nodes.specs.declared.operators.Rel.{Rel}
use Rattle.rt_tree_nodes.specs.Tree.{Term, Path, Terms, NoTerm, MoreTerms, Cond, Stmt, Inner, If, For, To, While, Seq, Done, Then, Mark}
use Rattle.rt_work_state.specs.declared.request.Request.{Request}
use Rattle.rt_work_state.specs.Stores.{datum_in}

-- where a module's own numbers lead: its own number, the procedure or data brick that each of its bricks is or is bound to,
-- and the length of each of its strings
pub record Env : Type 0 where
  pub number : ℕ
  pub leads : ℕ → Proc
  pub lengths : ℕ → ℕ

-- an item of a data brick
abbrev pub item_of : Proc → ℕ → Location
item_of f i = location.Shared (Brick f.module f.brick) (i ∷ [])

-- an item of the data brick of a number
abbrev pub item : Env → ℕ → ℕ → Location
item e b i = item_of (e.leads b) i

-- the row of the string of a number
abbrev pub text : Env → ℕ → Datum
text e n = Row (location.Shared (Text e.number n) []) (e.lengths n)

-- One thing that is still to be done. Some bear the path or the terms that they come from, which no step looks at.
pub data Item : Type 0 where
  Do : (q : Seq) → Item
  Eval : (v : Term) → Item  -- its value goes on the values
  At : (p : Path) → Item  -- its place goes on the values
  Args : (vs : Terms) → Item  -- the values of all, one after the other
  Fetch : Item  -- a place becomes what is read there
  Into : (p : Path) (k : ℕ) → Item  -- a place, which is that of p, becomes that of its field k
  Pick : (p : Path) (n : ℕ) → Item  -- the place of p, an array of n elements, and a subscript become the place of the element
  PickRow : Item  -- the same of a REF ARRAY
  Span : (n : ℕ) → Item  -- a place becomes a REF ARRAY
  Tell : (n : ℕ) → Item  -- a place becomes a number that is known
  Length : Item  -- a REF ARRAY becomes its length
  Alter : (o : Op1) → Item
  Merge : (o : Op2) → Item
  Split : (o : Op2) → Item  -- a division
  Report : (n : ℕ) → Item  -- the last value, which is that of ERP, is called with the error's number
  Stand : (n : ℕ) → Item  -- a number that is known goes on the values
  Enter : (b n : ℕ) → Item  -- a brick is called with the last n values
  EnterBy : (n : ℕ) → Item  -- the procedure that lies under the last n values is called with them
  Local : (i : ℕ) → Item  -- a local becomes the last value
  Save : (p : Path) (v : Term) → Item  -- the last value, which is that of v, is written at the place of p under it
  Drop : Item  -- the last value goes
  Compare : (r : Rel) (a b : Term) → Item  -- the last two values, which are those of a and b
  Try : (t : Cond) → Item  -- its answer goes on the values
  AndThen : (t : Cond) → Item  -- the second test of an AND, where the first one's answer is true
  OrElse : (t : Cond) → Item  -- the second test of an OR, where the first one's answer is false
  Choose : (a b : Seq) → Item  -- a test's answer chooses
  PastElse : Item  -- the end of what stands behind a THEN
  Decide : (t : Cond) (q : Seq) → Item  -- the answer of a WHILE's test
  Again : (t : Cond) (q : Seq) → Item  -- the end of its body
  CountFor : (i : ℕ) (q : Seq) → Item  -- a FOR, once its end is known
  TurnFor : (i : ℕ) (q : Seq) → Item  -- the end of its body
  CountTo : (i : ℕ) (q : Seq) → Item  -- a TO, once its number is known
  TurnTo : (i : ℕ) (q : Seq) → Item  -- the end of its body
  ToLabel : (ls : List ℕ) → Item  -- a SWITCH, once its number is known
  GiveUp : Item  -- the procedure returns the last value
  Leave : Item  -- it returns without one
  Begin : (f : Proc) → Item  -- a task calls its root
  Serve : (t : ℕ) → Item  -- the service of a TRAP, with the argument on the values

-- the next visible step, with what is to be done after it, and the values and the locals then
pub data Next : Type 0 where
  Reads : (p : Location) (todo : List Item) (vs ls : List Datum) → Next  -- what is read goes on the values
  Writes : (p : Location) (v : Datum) (todo : List Item) (vs ls : List Datum) → Next
  Calls : (f : Proc) (args : List Datum) (todo : List Item) (vs ls : List Datum) → Next
  Returns : (answer : Option Datum) → Next
  Jumps : (todo : List Item) (vs ls : List Datum) → Next
  Leaps : (l : ℕ) (ls : List Datum) → Next  -- to a label of the procedure
  Asks : (r : Request) (todo : List Item) → Next  -- a service
  Recovers : (l : ℕ) (todo : List Item) (vs ls : List Datum) → Next  -- ERL := a label
  Errors : (n : ℕ) → Next
  Lacks : Next  -- a value is missing or of another kind, which never comes

-- ---- values

-- a parameter or local
abbrev pub local : List Datum → ℕ → Datum
local ls i = datum_in (slice_get ls i)

abbrev pub a_word : Datum → Option ℕ
a_word (Word n) = Some n
a_word _ = None

abbrev pub word_at : List Datum → ℕ → Option ℕ
word_at ls i = a_word (local ls i)

abbrev pub how_many : Terms → ℕ
how_many NoTerm = 0
how_many (MoreTerms v vs) = suc (how_many vs)

-- ---- where a label leads

abbrev pub or_else : {A : Type 0} → Option A → Option A → Option A
or_else (Some x) o = Some x
or_else None o = o

abbrev pub here_or : Bool → List Item → Option (List Item) → Option (List Item)
here_or true todo o = Some todo
here_or false todo o = o

-- what is to be done from label l on, in a sequence with this behind it
abbrev mutual
  pub from_label : ℕ → Seq → List Item → Option (List Item)
  from_label l Done rest = None
  from_label l (Mark k q) rest = here_or (k == l) (Do q ∷ rest) (from_label l q rest)
  from_label l (Then s q) rest = or_else (from_inside l s (Do q ∷ rest)) (from_label l q rest)

  pub from_inside : ℕ → Stmt → List Item → Option (List Item)
  from_inside l (Inner q) rest = from_label l q rest
  from_inside l (If t a b) rest = or_else (from_label l a (PastElse ∷ rest)) (from_label l b rest)
  from_inside l (For i a b c q) rest = from_label l q (TurnFor i q ∷ rest)
  from_inside l (To i n q) rest = from_label l q (TurnTo i q ∷ rest)
  from_inside l (While t q) rest = from_label l q (Again t q ∷ rest)
  from_inside l _ rest = None
