-- What the code of each node may take: words, and unmarked instructions one after the other. A procedure's code may have 12 words
-- for each of its items and 16 more, and may make 24 unmarked instructions for each item; what the items of a node leave over is the
-- node's.
use Rattle.std.specs.Prelude.{ℕ, ◌+◌, ◌*◌, if◌then◌else◌, length}
use Rattle.rt_modes.specs.declared.mode.Mode.{Mode}
use Rattle.rt_tree_nodes.specs.declared.operators.Op1.{Op1}
use Rattle.rt_tree_nodes.specs.declared.operators.Op1.TheVariants as op
use Rattle.rt_tree_nodes.specs.Tree.{Term, Num, Str, Name, Own, Get, Ref, RefRow, Count, CountRow, One, Two, Over, Apply, ApplyBy, Path, ItemAt, Svc, FieldOf, Elem, ElemRow, Past, Terms, NoTerm, MoreTerms, Cond, Is, Both, Either, Stmt, Keep, Clear, Put, Run, Toss, Goto, GiveBack, Back, Switch, Inner, If, For, To, While, Recover, Seq, Done, Then, Mark}
use Rattle.rt_tree_nodes.specs.Typing.{is_byte}

-- the unmarked instructions of so many words of code, those of support code among them
abbrev pub unmarked : ℕ → ℕ
unmarked words = 2 * words

-- What is read through eight REFs is one item of the text, so a REF that is followed takes one word; a BYTE takes more,
-- and is followed no further.
abbrev pub read_weight : Mode → ℕ
read_weight m = if is_byte m then 5 else 1

-- INT of a BYTE or FRAC changes no bit of the word.
abbrev pub operator_weight : Op1 → ℕ
operator_weight op.Int = 0
operator_weight _ = 12

abbrev mutual
  pub term_weight : Term → ℕ
  term_weight (Num n) = 3
  term_weight (Str n) = 3
  term_weight (Name b) = 3
  term_weight (Own i) = 4
  term_weight (Get m p) = read_weight m + path_weight p
  term_weight (Ref p) = 13 + path_weight p
  term_weight (RefRow p n) = 13 + path_weight p
  term_weight (Count p n) = 17 + path_weight p
  term_weight (CountRow v) = 16 + term_weight v
  term_weight (One o v) = operator_weight o + term_weight v
  term_weight (Two o a b) = 8 + (term_weight a + term_weight b)
  term_weight (Over o a b) = 8 + (term_weight a + term_weight b)
  term_weight (Apply b vs) = 12 + terms_weight vs
  term_weight (ApplyBy m f vs) = 8 + (term_weight f + terms_weight vs)

  pub path_weight : Path → ℕ
  path_weight (ItemAt b i) = 3
  path_weight (Svc k) = 3
  path_weight (FieldOf p r k) = 23 + path_weight p
  path_weight (Elem p v n m) = 20 + (path_weight p + term_weight v)
  path_weight (ElemRow a v m) = 19 + (term_weight a + term_weight v)
  path_weight (Past v) = term_weight v

  pub terms_weight : Terms → ℕ
  terms_weight NoTerm = 0
  terms_weight (MoreTerms v vs) = term_weight v + terms_weight vs

abbrev pub condition_weight : Cond → ℕ
condition_weight (Is r a b) = 8 + (term_weight a + term_weight b)
condition_weight (Both t u) = 8 + (condition_weight t + condition_weight u)
condition_weight (Either t u) = 8 + (condition_weight t + condition_weight u)

abbrev mutual
  pub statement_weight : Stmt → ℕ
  statement_weight (Keep i v) = 20 + term_weight v
  statement_weight (Clear i) = 12
  statement_weight (Put m p v) = 17 + (path_weight p + term_weight v)
  statement_weight (Run v) = term_weight v
  statement_weight (Toss v) = 20 + term_weight v
  statement_weight (Goto l) = 24
  statement_weight (GiveBack v) = 8 + term_weight v
  statement_weight Back = 12
  statement_weight (Switch v ls) = 8 + (24 * length ls + term_weight v)
  statement_weight (Inner q) = sequence_weight q
  statement_weight (If t a b) = 20 + (condition_weight t + (sequence_weight a + sequence_weight b))
  statement_weight (For i start step end q) = 61 + ((term_weight start + (term_weight step + term_weight end)) + sequence_weight q)
  statement_weight (To i n q) = 32 + (term_weight n + sequence_weight q)
  statement_weight (While t q) = 32 + (condition_weight t + sequence_weight q)
  statement_weight (Recover l) = 36

  pub sequence_weight : Seq → ℕ
  sequence_weight Done = 0
  sequence_weight (Then s q) = statement_weight s + sequence_weight q
  sequence_weight (Mark l q) = sequence_weight q
