-- How much invisible work is left at most: each thing to be done weighs more than what it leaves to be done. The body of a
-- loop weighs where a turn of it begins, and nothing at its end, since a further turn is a jump.
use Rattle.std.specs.Prelude.{ℕ, ◌+◌, List, [], ◌∷◌}
use Rattle.rt_tree_nodes.specs.Tree.{Term, Get, Ref, RefRow, Count, CountRow, One, Two, Over, Apply, ApplyBy, Path, FieldOf, Elem, ElemRow, Past, Terms, NoTerm, MoreTerms, Cond, Is, Both, Either, Stmt, Keep, Put, Run, Toss, GiveBack, Switch, Inner, If, For, To, While, Seq, Done, Then, Mark}
use Rattle.rt_work_state.specs.Items.{Item, Do, Eval, At, Args, Try, AndThen, OrElse, Choose, Decide, CountFor, CountTo}

abbrev mutual
  pub weight : Term → ℕ
  weight (Get m p) = weight_p p + 2
  weight (Ref p) = weight_p p + 1
  weight (RefRow p n) = weight_p p + 2
  weight (Count p n) = weight_p p + 2
  weight (CountRow v) = weight v + 2
  weight (One o v) = weight v + 2
  weight (Two o a b) = weight a + weight b + 2
  weight (Over o a b) = weight a + weight b + 2
  weight (Apply b xs) = weight_all xs + 2
  weight (ApplyBy m f xs) = weight f + weight_all xs + 2
  weight _ = 1

  pub weight_p : Path → ℕ
  weight_p (FieldOf p r k) = weight_p p + 2
  weight_p (Elem p v n m) = weight_p p + weight v + 2
  weight_p (ElemRow a v m) = weight a + weight v + 2
  weight_p (Past v) = weight v + 1
  weight_p _ = 1

  pub weight_all : Terms → ℕ
  weight_all NoTerm = 1
  weight_all (MoreTerms v xs) = weight v + weight_all xs + 1

abbrev pub weight_t : Cond → ℕ
weight_t (Is r a b) = weight a + weight b + 2
weight_t (Both t u) = weight_t t + weight_t u + 2
weight_t (Either t u) = weight_t t + weight_t u + 2

abbrev mutual
  pub weight_s : Stmt → ℕ
  weight_s (Keep i v) = weight v + 1
  weight_s (Put m p v) = weight_p p + weight v + 1
  weight_s (Run v) = weight v
  weight_s (Toss v) = weight v + 1
  weight_s (GiveBack v) = weight v + 1
  weight_s (Switch v labels) = weight v + 1
  weight_s (Inner q) = weight_q q
  weight_s (If t a b) = weight_t t + weight_q a + weight_q b + 2
  weight_s (For i a b c q) = weight a + weight b + weight c + weight_q q + 4
  weight_s (To i n q) = weight n + weight_q q + 2
  weight_s (While t q) = weight_t t + weight_q q + 2
  weight_s _ = 0

  pub weight_q : Seq → ℕ
  weight_q Done = 1
  weight_q (Then s q) = weight_s s + weight_q q + 1
  weight_q (Mark l q) = weight_q q + 1

abbrev pub weight_of : Item → ℕ
weight_of (Do q) = weight_q q
weight_of (Eval v) = weight v
weight_of (At p) = weight_p p
weight_of (Args xs) = weight_all xs
weight_of (Try t) = weight_t t
weight_of (AndThen t) = weight_t t + 1
weight_of (OrElse t) = weight_t t + 1
weight_of (Choose a b) = weight_q a + weight_q b + 2
weight_of (Decide t q) = weight_q q + 2
weight_of (CountFor i q) = weight_q q + 2
weight_of (CountTo i q) = weight_q q + 2
weight_of _ = 1

abbrev pub weights : List Item → ℕ
weights [] = 0
weights (i ∷ rest) = weight_of i + weights rest
