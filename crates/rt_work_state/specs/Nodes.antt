-- The trees of the code, and what it holds of a task, as plain trees and plain data.
use Rattle.std.specs.Prelude.{ℕ, List, [], ◌∷◌, slice_get, Option, Some, None}
use Rattle.rt_tree_nodes.specs.declared.store.Proc.{Proc}
use Rattle.rt_tree_nodes.specs.declared.store.Datum.{Datum}
use Rattle.rt_tree_nodes.specs.Tree.{Term, Num, Str, Name, Own, Get, Ref, RefRow, Count, CountRow, One, Two, Over, Apply, ApplyBy, Path, ItemAt, Svc, FieldOf, Elem, ElemRow, Past, Terms, NoTerm, MoreTerms, Cond, Is, Both, Either, Stmt, Keep, Clear, Put, Run, Toss, Goto, GiveBack, Back, Switch, Inner, If, For, To, While, Recover, Seq, Done, Then, Mark}
use Rattle.rt_work_state.specs.declared.node.TermNode.{TermNode}
use Rattle.rt_work_state.specs.declared.node.TermNode.TheVariants as t
use Rattle.rt_work_state.specs.declared.node.PathNode.{PathNode}
use Rattle.rt_work_state.specs.declared.node.PathNode.TheVariants as p
use Rattle.rt_work_state.specs.declared.node.TermsNode.{TermsNode}
use Rattle.rt_work_state.specs.declared.node.TermsNode.TheVariants as l
use Rattle.rt_work_state.specs.declared.node.CondNode.{CondNode}
use Rattle.rt_work_state.specs.declared.node.CondNode.TheVariants as c
use Rattle.rt_work_state.specs.declared.node.StmtNode.{StmtNode}
use Rattle.rt_work_state.specs.declared.node.StmtNode.TheVariants as s
use Rattle.rt_work_state.specs.declared.node.SeqNode.{SeqNode}
use Rattle.rt_work_state.specs.declared.node.SeqNode.TheVariants as q
use Rattle.rt_work_state.specs.declared.node.LabelsNode.{LabelsNode}
use Rattle.rt_work_state.specs.declared.node.LabelsNode.TheVariants as n
use Rattle.rt_work_state.specs.declared.scene.Item.{Item as ItemNode}
use Rattle.rt_work_state.specs.declared.scene.Item.TheVariants as i
use Rattle.rt_work_state.specs.declared.scene.Next.{Next as NextNode}
use Rattle.rt_work_state.specs.declared.scene.Next.TheVariants as x
use Rattle.rt_work_state.specs.declared.scene.Env.{Env as EnvNode}
use Rattle.rt_work_state.specs.Stores.{supplied}
use Rattle.rt_work_state.specs.Items as task
use Rattle.rt_work_state.specs.Items.{Env, Item, Next}

abbrev mutual
  pub term : TermNode → Term
  term (t.Num k) = Num k
  term (t.Str k) = Str k
  term (t.Name k) = Name k
  term (t.Own k) = Own k
  term (t.Get' m r a) = Get m (path a)
  term (t.Ref' r a) = Ref (path a)
  term (t.RefRow' r a k) = RefRow (path a) k
  term (t.Count' r a k) = Count (path a) k
  term (t.CountRow' r a) = CountRow (term a)
  term (t.One' o r a) = One o (term a)
  term (t.Two' o r a u b) = Two o (term a) (term b)
  term (t.Over' o r a u b) = Over o (term a) (term b)
  term (t.Apply' k r a) = Apply k (terms a)
  term (t.ApplyBy' m r a u b) = ApplyBy m (term a) (terms b)

  pub path : PathNode → Path
  path (p.ItemAt b k) = ItemAt b k
  path (p.Svc k) = Svc k
  path (p.FieldOf' r a j k) = FieldOf (path a) j k
  path (p.Elem' r a u b k m) = Elem (path a) (term b) k m
  path (p.ElemRow' r a u b m) = ElemRow (term a) (term b) m
  path (p.Past' r a) = Past (term a)

  pub terms : TermsNode → Terms
  terms l.NoTerm = NoTerm
  terms (l.MoreTerms' r a u b) = MoreTerms (term a) (terms b)

abbrev pub cond : CondNode → Cond
cond (c.Is o a b) = Is o (term a.value) (term b.value)
cond (c.Both' r a u b) = Both (cond a) (cond b)
cond (c.Either' r a u b) = Either (cond a) (cond b)

abbrev pub labels : LabelsNode → List ℕ
labels n.NoLabel = []
labels (n.MoreLabels' k r rest) = k ∷ labels rest

abbrev mutual
  pub stmt : StmtNode → Stmt
  stmt (s.Keep k v) = Keep k (term v.value)
  stmt (s.Clear k) = Clear k
  stmt (s.Put m a v) = Put m (path a.value) (term v.value)
  stmt (s.Run v) = Run (term v.value)
  stmt (s.Toss v) = Toss (term v.value)
  stmt (s.Goto k) = Goto k
  stmt (s.GiveBack v) = GiveBack (term v.value)
  stmt s.Back = Back
  stmt (s.Switch v ls) = Switch (term v.value) (labels ls.value)
  stmt (s.Inner' r a) = Inner (seq a)
  stmt (s.If' g r a u b) = If (cond g.value) (seq a) (seq b)
  stmt (s.For' k a b d r e) = For k (term a.value) (term b.value) (term d.value) (seq e)
  stmt (s.To' k a r e) = To k (term a.value) (seq e)
  stmt (s.While' g r e) = While (cond g.value) (seq e)
  stmt (s.Recover k) = Recover k

  pub seq : SeqNode → Seq
  seq q.Done = Done
  seq (q.Then' r a u b) = Then (stmt a) (seq b)
  seq (q.Mark' k r a) = Mark k (seq a)

abbrev pub item : ItemNode → Item
item (i.Do a) = task.Do (seq a.value)
item (i.Eval a) = task.Eval (term a.value)
item (i.At a) = task.At (path a.value)
item (i.Args a) = task.Args (terms a.value)
item i.Fetch = task.Fetch
item (i.Into p k) = task.Into (path p.value) k
item (i.Pick p k) = task.Pick (path p.value) k
item i.PickRow = task.PickRow
item (i.Span k) = task.Span k
item (i.Tell k) = task.Tell k
item i.Length = task.Length
item (i.Alter o) = task.Alter o
item (i.Merge o) = task.Merge o
item (i.Split o) = task.Split o
item (i.Report k) = task.Report k
item (i.Stand k) = task.Stand k
item (i.Enter b a) = task.Enter b (task.how_many (terms a.value))
item (i.EnterBy a) = task.EnterBy (task.how_many (terms a.value))
item (i.Local k) = task.Local k
item (i.Save p v) = task.Save (path p.value) (term v.value)
item i.Toss = task.Drop
item (i.Compare r a b) = task.Compare r (term a.value) (term b.value)
item (i.Try a) = task.Try (cond a.value)
item (i.AndThen a) = task.AndThen (cond a.value)
item (i.OrElse a) = task.OrElse (cond a.value)
item (i.Choose a b) = task.Choose (seq a.value) (seq b.value)
item i.PastElse = task.PastElse
item (i.Decide a b) = task.Decide (cond a.value) (seq b.value)
item (i.Again a b) = task.Again (cond a.value) (seq b.value)
item (i.CountFor k a) = task.CountFor k (seq a.value)
item (i.TurnFor k a) = task.TurnFor k (seq a.value)
item (i.CountTo k a) = task.CountTo k (seq a.value)
item (i.TurnTo k a) = task.TurnTo k (seq a.value)
item (i.ToLabel a) = task.ToLabel (labels a.value)
item i.GiveUp = task.GiveUp
item i.Leave = task.Leave
item (i.Begin f) = task.Begin f
item (i.Serve k) = task.Serve k

abbrev pub items : List ItemNode → List Item
items [] = []
items (a ∷ rest) = item a ∷ items rest

abbrev pub proc_in : Option Proc → Proc
proc_in None = supplied 0
proc_in (Some f) = f

-- where the brick of a number leads
abbrev pub brick_of : EnvNode → ℕ → Proc
brick_of e b = proc_in (slice_get e.bricks b)

abbrev pub length_in : Option ℕ → ℕ
length_in None = 0
length_in (Some n) = n

-- the length of a string
abbrev pub length_of : EnvNode → ℕ → ℕ
length_of e k = length_in (slice_get e.texts k)

abbrev pub env : EnvNode → Env
env e = record { number = e.module; leads = λ b. brick_of e b; lengths = λ k. length_of e k }

-- the numbers of no module
abbrev pub nowhere : Env
nowhere = record { number = 0; leads = λ b. supplied 0; lengths = λ k. 0 }

-- the next visible step, with what the code holds after the invisible work
abbrev pub made : NextNode → List Item → List Datum → List Datum → Next
made (x.Reads a) todo vs ls = task.Reads a todo vs ls
made (x.Writes a v) todo vs ls = task.Writes a v todo vs ls
made (x.Calls f args) todo vs ls = task.Calls f args todo vs ls
made (x.Returns v) todo vs ls = task.Returns v
made x.Jumps todo vs ls = task.Jumps todo vs ls
made (x.Leaps k) todo vs ls = task.Leaps k ls
made (x.Asks r) todo vs ls = task.Asks r todo
made (x.Recovers k) todo vs ls = task.Recovers k todo vs ls
made (x.Errors k) todo vs ls = task.Errors k
made x.Lacks todo vs ls = task.Lacks
