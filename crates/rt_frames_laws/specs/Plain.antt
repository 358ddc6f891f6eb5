-- The points of plain trees: where a procedure may call, in the order of its code, each with the words that wait below it. They are told
-- by the nodes alone.
use Rattle.std.specs.Prelude.{ℕ, suc, ◌+◌, List, [], ◌∷◌, ◌++◌, Option, Some, None}
use Rattle.rt_tree_nodes.specs.Tree.{Term, Num, Str, Name, Own, Get, Ref, RefRow, Count, CountRow, One, Two, Over, Apply, ApplyBy, Path, ItemAt, Svc, FieldOf, Elem, ElemRow, Past, Terms, NoTerm, MoreTerms, Cond, Is, Both, Either, Stmt, Keep, Clear, Put, Run, Toss, Goto, GiveBack, Back, Switch, Inner, If, For, To, While, Recover, Seq, Done, Then, Mark}
use Rattle.rt_tree_nodes.specs.Typing.{Spot, OnLocal, OnPath, OnRow}
use Rattle.rt_tree.specs.Depth.{address_depth}
use Rattle.rt_frames.specs.declared.frame.CallPoint.{CallPoint}
use Rattle.rt_frames.specs.declared.frame.Target.TheVariants as target
use Rattle.rt_frames.specs.Points.{point, waits, error_points}

-- the number that a value is, if it is one
abbrev pub number_of : Term → Option ℕ
number_of (Num n) = Some n
number_of _ = None

abbrev pub how_many : Terms → ℕ
how_many NoTerm = 0
how_many (MoreTerms v vs) = suc (how_many vs)

abbrev mutual
  -- of what is evaluated above so many words
  pub term_points : Term → ℕ → List CallPoint
  term_points (Num n) k = []
  term_points (Str n) k = []
  term_points (Name b) k = []
  term_points (Own i) k = []
  term_points (Get m p) k = path_points p k
  term_points (Ref p) k = path_points p k
  term_points (RefRow p n) k = path_points p k
  term_points (Count p n) k = path_points p k
  term_points (CountRow v) k = term_points v k
  term_points (One o v) k = term_points v k
  term_points (Two o a b) k = term_points a k ++ term_points b (suc k)
  term_points (Over o a b) k = term_points a k ++ (term_points b (suc k) ++ error_points o (number_of b) k)
  term_points (Apply b vs) k = terms_points vs k ++ point k (how_many vs) (target.Brick b) ∷ []
  term_points (ApplyBy m f vs) k = term_points f k ++ (terms_points vs (k + 1) ++ point k (how_many vs) (target.Variable m) ∷ [])

  pub path_points : Path → ℕ → List CallPoint
  path_points (ItemAt b i) k = []
  path_points (Svc i) k = []
  path_points (FieldOf p r i) k = path_points p k
  path_points (Elem p v n m) k = path_points p k ++ term_points v (k + waits (address_depth p))
  path_points (ElemRow a v m) k = term_points a k ++ term_points v (k + 1)
  path_points (Past v) k = term_points v k

  pub terms_points : Terms → ℕ → List CallPoint
  terms_points NoTerm k = []
  terms_points (MoreTerms v vs) k = term_points v k ++ terms_points vs (suc k)

-- of how a place is come to
abbrev pub spot_points : Spot → ℕ → List CallPoint
spot_points (OnLocal i) k = []
spot_points (OnPath p) k = path_points p k
spot_points (OnRow v) k = term_points v k

abbrev pub condition_points : Cond → List CallPoint
condition_points (Is r a b) = term_points a 0 ++ term_points b 1
condition_points (Both t u) = condition_points t ++ condition_points u
condition_points (Either t u) = condition_points t ++ condition_points u

abbrev mutual
  pub statement_points : Stmt → List CallPoint
  statement_points (Keep i v) = term_points v 0
  statement_points (Clear i) = []
  statement_points (Put m p v) = path_points p 0 ++ term_points v (waits (address_depth p))
  statement_points (Run v) = term_points v 0
  statement_points (Toss v) = term_points v 0
  statement_points (Goto l) = []
  statement_points (GiveBack v) = term_points v 0
  statement_points Back = []
  statement_points (Switch v ls) = term_points v 0
  statement_points (Inner q) = sequence_points q
  statement_points (If t a b) = condition_points t ++ (sequence_points a ++ sequence_points b)
  statement_points (For i start step end q) = term_points start 0 ++ (term_points step 0 ++ (term_points end 0 ++ sequence_points q))
  statement_points (To i n q) = term_points n 0 ++ sequence_points q
  statement_points (While t q) = condition_points t ++ sequence_points q
  statement_points (Recover l) = []

  pub sequence_points : Seq → List CallPoint
  sequence_points Done = []
  sequence_points (Then s q) = statement_points s ++ sequence_points q
  sequence_points (Mark l q) = sequence_points q
