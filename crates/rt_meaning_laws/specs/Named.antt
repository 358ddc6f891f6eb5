-- Which plain trees name locals only where these have a value: the checker's rules of scope give such trees, and the nodes of a
-- module alone don't. Each number is a word, and each procedure that is named is one of some.
use Rattle.std.specs.Prelude.{◌≡◌, ℕ, ◌<◌, true, List, [], ◌∷◌, Option, Some}
use Rattle.rt_tree_nodes.specs.Tree.{Term, Num, Str, Name, Own, Get, Ref, RefRow, Count, CountRow, One, Two, Over, Apply, ApplyBy, Path, ItemAt, Svc, FieldOf, Elem, ElemRow, Past, Terms, NoTerm, MoreTerms, Cond, Is, Both, Either, Stmt, Keep, Clear, Put, Run, Toss, Goto, GiveBack, Back, Switch, Inner, If, For, To, While, Recover, Seq, Done, Then, Mark}
use Rattle.rt_meaning_laws.specs.Trees.{Started, Within, behind}

-- procedures that may be named
abbrev pub Names : Type 1
Names = ℕ → Type 0

abbrev pub any_name : Names
any_name b = Unit {0}

module _ (names : Names) where
  abbrev mutual
    pub TermNamed : Started → Term → Type 0
    TermNamed s (Num n) = n < 65536
    TermNamed s (Str n) = Unit {0}
    TermNamed s (Name b) = names b
    TermNamed s (Own i) = s i ≡ true
    TermNamed s (Get m p) = PathNamed s p
    TermNamed s (Ref p) = PathNamed s p
    TermNamed s (RefRow p n) = PathNamed s p
    TermNamed s (Count p n) = (n < 65536) × PathNamed s p
    TermNamed s (CountRow v) = TermNamed s v
    TermNamed s (One o v) = TermNamed s v
    TermNamed s (Two o a b) = TermNamed s a × TermNamed s b
    TermNamed s (Over o a b) = TermNamed s a × TermNamed s b
    TermNamed s (Apply b vs) = TermsNamed s vs
    TermNamed s (ApplyBy m f vs) = TermNamed s f × TermsNamed s vs

    pub PathNamed : Started → Path → Type 0
    PathNamed s (ItemAt b i) = Unit {0}
    PathNamed s (Svc k) = Unit {0}
    PathNamed s (FieldOf p r k) = PathNamed s p
    PathNamed s (Elem p v n m) = PathNamed s p × TermNamed s v
    PathNamed s (ElemRow a v m) = TermNamed s a × TermNamed s v
    PathNamed s (Past v) = TermNamed s v

    pub TermsNamed : Started → Terms → Type 0
    TermsNamed s NoTerm = Unit {0}
    TermsNamed s (MoreTerms v vs) = TermNamed s v × TermsNamed s vs

  abbrev pub CondNamed : Started → Cond → Type 0
  CondNamed s (Is r a b) = TermNamed s a × TermNamed s b
  CondNamed s (Both t u) = CondNamed s t × CondNamed s u
  CondNamed s (Either t u) = CondNamed s t × CondNamed s u

  module _ (at_label : ℕ → Option Started) where
    -- a label is gone to where what has a value at it has one
    abbrev pub LabelNamed : Started → ℕ → Type 0
    LabelNamed s l = (k : Started) × (at_label l ≡ Some k) × Within k s

    abbrev pub LabelsNamed : Started → List ℕ → Type 0
    LabelsNamed s [] = Unit {0}
    LabelsNamed s (l ∷ ls) = LabelNamed s l × LabelsNamed s ls

    abbrev mutual
      pub StmtNamed : Started → Stmt → Type 0
      StmtNamed s (Keep i v) = TermNamed s v
      StmtNamed s (Clear i) = Unit {0}
      StmtNamed s (Put m p v) = PathNamed s p × TermNamed s v
      StmtNamed s (Run v) = TermNamed s v
      StmtNamed s (Toss v) = TermNamed s v
      StmtNamed s (Goto l) = LabelNamed s l
      StmtNamed s (GiveBack v) = TermNamed s v
      StmtNamed s Back = Unit {0}
      StmtNamed s (Switch v ls) = TermNamed s v × LabelsNamed s ls
      StmtNamed s (Inner q) = SeqNamed s q
      StmtNamed s (If t a b) = CondNamed s t × SeqNamed s a × SeqNamed s b
      StmtNamed s (For i a b c q) = TermNamed s a × TermNamed s b × TermNamed s c × SeqNamed s q
      StmtNamed s (To i n q) = TermNamed s n × SeqNamed s q
      StmtNamed s (While t q) = CondNamed s t × SeqNamed s q
      StmtNamed s (Recover l) = Unit {0}

      -- a local has a value behind its start
      pub SeqNamed : Started → Seq → Type 0
      SeqNamed s Done = Unit {0}
      SeqNamed s (Then a q) = StmtNamed s a × ((k : Started) × Within s k × Within k (behind s a) × SeqNamed k q)
      SeqNamed s (Mark l q) = (k : Started) × (at_label l ≡ Some k) × Within s k × Within k s × SeqNamed k q
