-- How many nodes values, conditions and statements have, those inside them among them.
use Rattle.std.proofs.Common.{ℕ, ◌+◌}
use Rattle.rt_tree_nodes.specs.Tree.{Term, Get, Ref, RefRow, Count, CountRow, One, Two, Over, Apply, ApplyBy, Path, FieldOf, Elem, ElemRow, Past, Terms, NoTerm, MoreTerms, Cond, Is, Both, Either, Stmt, Inner, If, For, To, While, Seq, Done, Then, Mark}

abbrev mutual
  pub size_t : Term → ℕ
  size_t (Get m p) = size_p p + 1
  size_t (Ref p) = size_p p + 1
  size_t (RefRow p n) = size_p p + 1
  size_t (Count p n) = size_p p + 1
  size_t (CountRow v) = size_t v + 1
  size_t (One o v) = size_t v + 1
  size_t (Two o a b) = size_t a + size_t b + 1
  size_t (Over o a b) = size_t a + size_t b + 1
  size_t (Apply b vs) = size_ts vs + 1
  size_t (ApplyBy m f vs) = size_t f + size_ts vs + 1
  size_t _ = 1

  pub size_p : Path → ℕ
  size_p (FieldOf p r k) = size_p p + 1
  size_p (Elem p v n m) = size_p p + size_t v + 1
  size_p (ElemRow a v m) = size_t a + size_t v + 1
  size_p (Past v) = size_t v + 1
  size_p _ = 1

  pub size_ts : Terms → ℕ
  size_ts NoTerm = 1
  size_ts (MoreTerms v vs) = size_t v + size_ts vs + 1

abbrev pub size_c : Cond → ℕ
size_c (Is r a b) = 1
size_c (Both t u) = size_c t + size_c u + 1
size_c (Either t u) = size_c t + size_c u + 1

abbrev mutual
  pub size_s : Stmt → ℕ
  size_s (Inner q) = size_q q + 1
  size_s (If t a b) = size_q a + size_q b + 1
  size_s (For i start step end q) = size_q q + 1
  size_s (To i n q) = size_q q + 1
  size_s (While t q) = size_q q + 1
  size_s _ = 1

  pub size_q : Seq → ℕ
  size_q Done = 1
  size_q (Then s q) = size_s s + size_q q + 1
  size_q (Mark l q) = size_q q + 1
