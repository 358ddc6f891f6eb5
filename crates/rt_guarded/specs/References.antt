-- The data bricks to whose places a value or a start is a reference, by their numbers in the module.
use Rattle.std.specs.Prelude.{ℕ, List, [], ◌∷◌, ◌++◌, map, Option, Some, None}
use Rattle.rt_modes.specs.FullMode.{joined}
use Rattle.rt_tree_nodes.specs.declared.brick.Brick.{Brick}
use Rattle.rt_tree_nodes.specs.declared.brick.BrickSort.{BrickSort}
use Rattle.rt_tree_nodes.specs.declared.brick.BrickSort.TheVariants as sort
use Rattle.rt_tree_nodes.specs.declared.brick.DataStart.{DataStart}
use Rattle.rt_tree_nodes.specs.declared.brick.DataStart.TheFolds.{fold-DataStart}
use Rattle.rt_tree_nodes.specs.declared.brick.DataStart.TheOpen.{DataStart-F}
use Rattle.rt_tree_nodes.specs.declared.brick.ModuleParts.{ModuleParts}
use Rattle.rt_tree_nodes.specs.declared.brick.ProcBody.{ProcBody}
use Rattle.rt_tree_nodes.specs.Tree.{Term, Num, Str, Name, Own, Get, Ref, RefRow, Count, CountRow, One, Two, Over, Apply, ApplyBy, Path, ItemAt, Svc, FieldOf, Elem, ElemRow, Past, Terms, NoTerm, MoreTerms, Cond, Is, Both, Either, Stmt, Keep, Clear, Put, Run, Toss, Goto, GiveBack, Back, Switch, Inner, If, For, To, While, Recover, Seq, Done, Then, Mark}
use Rattle.rt_tree.specs.Within.{tree_of}

-- the brick in which a place stands, where no REF leads to it
abbrev pub rooted : Path → List ℕ
rooted (ItemAt b i) = b ∷ []
rooted (FieldOf p r k) = rooted p
rooted (Elem p v n m) = rooted p
rooted _ = []

abbrev mutual
  -- the references that stand as values in it
  pub in_term : Term → List ℕ
  in_term (Ref p) = rooted p ++ in_path p
  in_term (RefRow p n) = rooted p ++ in_path p
  in_term (Get m p) = in_path p
  in_term (Count p n) = in_path p
  in_term (CountRow v) = in_term v
  in_term (One o v) = in_term v
  in_term (Two o a b) = in_term a ++ in_term b
  in_term (Over o a b) = in_term a ++ in_term b
  in_term (Apply b vs) = in_terms vs
  in_term (ApplyBy m f vs) = in_term f ++ in_terms vs
  in_term (Num n) = []
  in_term (Str n) = []
  in_term (Name b) = []
  in_term (Own i) = []

  pub in_path : Path → List ℕ
  in_path (ItemAt b i) = []
  in_path (Svc k) = []
  in_path (FieldOf p r k) = in_path p
  in_path (Elem p v n m) = in_path p ++ in_term v
  in_path (ElemRow a v m) = in_term a ++ in_term v
  in_path (Past v) = in_term v

  pub in_terms : Terms → List ℕ
  in_terms NoTerm = []
  in_terms (MoreTerms v vs) = in_term v ++ in_terms vs

abbrev pub in_condition : Cond → List ℕ
in_condition (Is r a b) = in_term a ++ in_term b
in_condition (Both t u) = in_condition t ++ in_condition u
in_condition (Either t u) = in_condition t ++ in_condition u

abbrev mutual
  pub in_statement : Stmt → List ℕ
  in_statement (Keep i v) = in_term v
  in_statement (Clear i) = []
  in_statement (Put m p v) = in_path p ++ in_term v
  in_statement (Run v) = in_term v
  in_statement (Toss v) = in_term v
  in_statement (Goto l) = []
  in_statement (GiveBack v) = in_term v
  in_statement Back = []
  in_statement (Switch v ls) = in_term v
  in_statement (Inner q) = in_sequence q
  in_statement (If t a b) = in_condition t ++ (in_sequence a ++ in_sequence b)
  in_statement (For i a b c q) = in_term a ++ (in_term b ++ (in_term c ++ in_sequence q))
  in_statement (To i n q) = in_term n ++ in_sequence q
  in_statement (While t q) = in_condition t ++ in_sequence q
  in_statement (Recover l) = []

  pub in_sequence : Seq → List ℕ
  in_sequence Done = []
  in_sequence (Then s q) = in_statement s ++ in_sequence q
  in_sequence (Mark l q) = in_sequence q

abbrev pub one_start : DataStart-F (List ℕ) → List ℕ
one_start (DataStart-F.Place b j path) = b ∷ []
one_start (DataStart-F.List xs) = joined xs
one_start _ = []

abbrev pub in_start : DataStart → List ℕ
in_start = fold-DataStart (List ℕ) one_start

abbrev pub in_body : ModuleParts → Option ProcBody → List ℕ
in_body p None = []
in_body p (Some b) = in_sequence (tree_of p b)

abbrev pub in_sort : ModuleParts → BrickSort → List ℕ
in_sort p (sort.Proc m body) = in_body p body
in_sort p (sort.Data fs ss) = joined (map in_start ss)
in_sort p (sort.Stack n) = []

abbrev pub in_brick : ModuleParts → Brick → List ℕ
in_brick p b = in_sort p b.sort

-- of the values and starts of a module
abbrev pub referred : ModuleParts → List ℕ
referred p = joined (map (in_brick p) p.bricks)
