-- That what is still to be done in an activation keeps to the points: whatever the values and the locals are, each visible step
-- comes along a way of control. `Follows k t todo` says so of the next k visible steps from point t.
use Rattle.std.specs.Prelude.{◌≡◌, ◌⊎◌, ℕ, zero, suc, List, [], ◌∷◌, Option, Some, None}
use Rattle.std.specs.List.{Contains}
use Rattle.rt_modes.specs.declared.mode.Mode.{Mode}
use Rattle.rt_tree_nodes.specs.declared.store.Datum.{Datum}
use Rattle.rt_tree_nodes.specs.declared.store.Datum.TheVariants.{Word}
use Rattle.rt_tree_nodes.specs.declared.store.Proc.{Proc}
use Rattle.rt_tree_nodes.specs.Tree.{Seq, Cond}
use Rattle.rt_work_state.specs.Items.{Env, Item, Do, Leave, Next, Reads, Writes, Calls, Returns, Jumps, Leaps, Asks, Recovers, Errors, Lacks, from_label}
use Rattle.rt_work.specs.Task.{next}
use Rattle.rt_guarded.specs.Points as p
use Rattle.rt_guarded.specs.Points.{Point, ReturnsAt, sequence, test}

-- the arguments are this number, where it is known
abbrev pub ArgumentIs : Option ℕ → List Datum → Type 0
ArgumentIs None args = Unit {0}
ArgumentIs (Some n) args = args ≡ Word n ∷ []

-- the point of a call of g with these arguments, and the point behind it
pub data CallsTo (g : Proc) (args : List Datum) : Point → Point → Type 0 where
  by_name : {n : Option ℕ} {k : Point} → ArgumentIs n args → CallsTo g args (p.Calls g n k) k
  by_value : {m : Mode} {k : Point} → CallsTo g args (p.CallsBy m k) k
  at_error : {k : Point} → CallsTo g args (p.Divides k) k

module _ (e : Env) where
  -- control comes from one point to another without a step
  pub data Comes : Point → Point → Type 0 where
    stays : {t : Point} → Comes t t
    one : {a b u : Point} → Comes a u → Comes (p.Forks a b) u
    other : {a b u : Point} → Comes b u → Comes (p.Forks a b) u
    over : {q : Seq} {k u : Point} → Comes k u → Comes (p.Turns q k) u
    turn : {q : Seq} {k u : Point} → Comes (sequence e q (p.Turns q k)) u → Comes (p.Turns q k) u
    asks : {c : Cond} {q : Seq} {k u : Point} → Comes (test e c (sequence e q (p.Tests c q k)) k) u → Comes (p.Tests c q k) u
    past : {ls : List ℕ} {k u : Point} → Comes k u → Comes (p.Picks ls k) u
    well : {k u : Point} → Comes k u → Comes (p.Divides k) u  -- a division without an error

  -- a jump to label l
  pub data LeapsAt (l : ℕ) : Point → Type 0 where
    goes : {k : Point} → LeapsAt l (p.Leaps l k)
    picks : {ls : List ℕ} {k : Point} → Contains ls l → LeapsAt l (p.Picks ls k)

  -- The next visible step comes at a point to which control comes from t, and F holds of the point behind it and of what is left then.
  abbrev pub Shows : (Point → List Item → Type 0) → Point → Next → Type 0
  Shows F t (Reads l todo vs ls) = ((o : Option Proc) × (u : Point) × Comes t (p.Reads o u) × F u todo) ⊎ ((u : Point) × Comes t (p.Divides u) × F (p.Divides u) todo)
  Shows F t (Writes l v todo vs ls) = (o : Option Proc) × (u : Point) × Comes t (p.Writes o u) × F u todo
  Shows F t (Calls g args todo vs ls) = (u : Point) × (w : Point) × Comes t w × CallsTo g args w u × F u todo
  Shows F t (Returns v) = (u : Point) × Comes t u × ReturnsAt u
  Shows F t (Jumps todo vs ls) = (u : Point) × Comes t u × F u todo
  Shows F t (Leaps l ls) = (u : Point) × Comes t u × LeapsAt l u
  Shows F t (Asks r todo) = ⊥
  Shows F t (Recovers l todo vs ls) = (u : Point) × Comes t (p.Recovers l u) × F u todo
  Shows F t (Errors n) = Unit {0}
  Shows F t Lacks = Unit {0}

  -- so it is for the next k visible steps
  abbrev pub Follows : ℕ → Point → List Item → Type 0
  Follows zero t todo = Unit {0}
  Follows (suc k) t todo = (vs ls : List Datum) → Shows (Follows k) t (next e todo vs ls)

-- What a procedure has to do when it is entered follows its entry, for each number of steps; and what it has to do from a label on
-- follows the point of the label.
abbrev pub EntriesFollow : Type 0
EntriesFollow = (e : Env) (k : ℕ) (q : Seq) → Follows e k (sequence e q p.Ends) (Do q ∷ Leave ∷ [])

abbrev pub LabelsFollow : Type 0
LabelsFollow = (e : Env) (k l : ℕ) (q : Seq) (t : Point) → p.from_label e l q p.Ends ≡ Some t → (todo : List Item) × (from_label l q (Leave ∷ []) ≡ Some todo) × Follows e k t todo
