-- Plain trees whose code is whole: the task's own data are read and written, and nothing else is done with them; and a division is one.
use Rattle.std.specs.Prelude.{◌≡◌, true}
use Rattle.rt_tree_nodes.specs.Tree.{Term, Get, Ref, RefRow, Count, CountRow, One, Two, Over, Apply, ApplyBy, Path, ItemAt, Svc, FieldOf, Elem, ElemRow, Past, Terms, NoTerm, MoreTerms, Cond, Is, Both, Either, Stmt, Keep, Put, Run, Toss, GiveBack, Switch, Inner, If, For, To, While, Seq, Done, Then, Mark}
use Rattle.rt_frames.specs.Points.{is_division}

abbrev mutual
  pub TermSound : Term → Type 0
  TermSound (Get m q) = PlaceSound q
  TermSound (Ref q) = PathSound q
  TermSound (RefRow q n) = PathSound q
  TermSound (Count q n) = PathSound q
  TermSound (CountRow v) = TermSound v
  TermSound (One o v) = TermSound v
  TermSound (Two o a b) = TermSound a × TermSound b
  TermSound (Over o a b) = (is_division o ≡ true) × TermSound a × TermSound b
  TermSound (Apply b vs) = TermsSound vs
  TermSound (ApplyBy m f vs) = TermSound f × TermsSound vs
  TermSound _ = Unit {0}

  -- a place that is read or written
  pub PlaceSound : Path → Type 0
  PlaceSound (ItemAt b i) = Unit {0}
  PlaceSound (Svc k) = Unit {0}
  PlaceSound (FieldOf q r k) = PathSound q
  PlaceSound (Elem q v n m) = PathSound q × TermSound v
  PlaceSound (ElemRow a v m) = TermSound a × TermSound v
  PlaceSound (Past v) = TermSound v

  -- any other, which isn't the task's own
  pub PathSound : Path → Type 0
  PathSound (ItemAt b i) = Unit {0}
  PathSound (Svc k) = ⊥
  PathSound (FieldOf q r k) = PathSound q
  PathSound (Elem q v n m) = PathSound q × TermSound v
  PathSound (ElemRow a v m) = TermSound a × TermSound v
  PathSound (Past v) = TermSound v

  pub TermsSound : Terms → Type 0
  TermsSound NoTerm = Unit {0}
  TermsSound (MoreTerms v vs) = TermSound v × TermsSound vs

pub path_place : (q : Path) → PathSound q → PlaceSound q
path_place (Svc k) h = absurd h
path_place q h = h

abbrev pub CondSound : Cond → Type 0
CondSound (Is r a b) = TermSound a × TermSound b
CondSound (Both t u) = CondSound t × CondSound u
CondSound (Either t u) = CondSound t × CondSound u

abbrev mutual
  pub StmtSound : Stmt → Type 0
  StmtSound (Keep i v) = TermSound v
  StmtSound (Put m q v) = PlaceSound q × TermSound v
  StmtSound (Run v) = TermSound v
  StmtSound (Toss v) = TermSound v
  StmtSound (GiveBack v) = TermSound v
  StmtSound (Switch v ls) = TermSound v
  StmtSound (Inner q) = SeqSound q
  StmtSound (If t a b) = CondSound t × SeqSound a × SeqSound b
  StmtSound (For i a b c q) = TermSound a × TermSound b × TermSound c × SeqSound q
  StmtSound (To i n q) = TermSound n × SeqSound q
  StmtSound (While t q) = CondSound t × SeqSound q
  StmtSound _ = Unit {0}

  pub SeqSound : Seq → Type 0
  SeqSound Done = Unit {0}
  SeqSound (Then s q) = StmtSound s × SeqSound q
  SeqSound (Mark l q) = SeqSound q
