-- The procedures that a tree names are among those taken.
use Rattle.std.proofs.Common.{ℕ, List, [], ◌∷◌, ◌++◌, Option}
use Rattle.std.specs.List.{Contains}
use Rattle.std.proofs.lemmas.List.Elements.{Contains-push, Contains-append_left, Contains-append_right}
use Rattle.rt_tree_nodes.specs.Tree.{Term, Num, Str, Name, Own, Get, Ref, RefRow, Count, CountRow, One, Two, Over, Apply, ApplyBy, Path, ItemAt, Svc, FieldOf, Elem, ElemRow, Past, Terms, NoTerm, MoreTerms, Cond, Is, Both, Either, Stmt, Keep, Clear, Put, Run, Toss, Goto, GiveBack, Back, Switch, Inner, If, For, To, While, Recover, Seq, Done, Then, Mark}
use Rattle.rt_tree.specs.Taken.{in_term, in_path, in_terms, in_condition, in_statement, in_sequence}
use Rattle.rt_meaning_laws.specs.Trees.{Started}
use Rattle.rt_meaning_laws.specs.Named.{any_name, TermNamed, PathNamed, TermsNamed, CondNamed, LabelsNamed, StmtNamed, SeqNamed}

module _ (N : ℕ → Type 0) where
  abbrev All : List ℕ → Type 0
  All bs = (b : ℕ) → Contains bs b → N b

  first : (xs bs : List ℕ) → All (xs ++ bs) → All xs
  first xs bs h b e = h b (Contains-append_left xs bs b e)

  rest : (xs bs : List ℕ) → All (xs ++ bs) → All bs
  rest xs bs h b e = h b (Contains-append_right xs bs b e)

  mutual
    term_named : (s : Started) (v : Term) → TermNamed any_name s v → All (in_term v) → TermNamed N s v
    term_named s (Num n) r h = r
    term_named s (Str n) r h = tt
    term_named s (Name b) r h = h b (Contains-push [] b)
    term_named s (Own i) r h = r
    term_named s (Get m p) r h = path_named s p r h
    term_named s (Ref p) r h = path_named s p r h
    term_named s (RefRow p n) r h = path_named s p r h
    term_named s (Count p n) r h = (r.0, path_named s p r.1 h)
    term_named s (CountRow v) r h = term_named s v r h
    term_named s (One o v) r h = term_named s v r h
    term_named s (Two o a b) r h = (term_named s a r.0 (first (in_term a) (in_term b) h), term_named s b r.1 (rest (in_term a) (in_term b) h))
    term_named s (Over o a b) r h = (term_named s a r.0 (first (in_term a) (in_term b) h), term_named s b r.1 (rest (in_term a) (in_term b) h))
    term_named s (Apply b vs) r h = terms_named s vs r h
    term_named s (ApplyBy m f vs) r h = (term_named s f r.0 (first (in_term f) (in_terms vs) h), terms_named s vs r.1 (rest (in_term f) (in_terms vs) h))

    path_named : (s : Started) (p : Path) → PathNamed any_name s p → All (in_path p) → PathNamed N s p
    path_named s (ItemAt b i) r h = tt
    path_named s (Svc k) r h = tt
    path_named s (FieldOf p i k) r h = path_named s p r h
    path_named s (Elem p v n m) r h = (path_named s p r.0 (first (in_path p) (in_term v) h), term_named s v r.1 (rest (in_path p) (in_term v) h))
    path_named s (ElemRow a v m) r h = (term_named s a r.0 (first (in_term a) (in_term v) h), term_named s v r.1 (rest (in_term a) (in_term v) h))
    path_named s (Past v) r h = term_named s v r h

    terms_named : (s : Started) (vs : Terms) → TermsNamed any_name s vs → All (in_terms vs) → TermsNamed N s vs
    terms_named s NoTerm r h = tt
    terms_named s (MoreTerms v vs) r h = (term_named s v r.0 (first (in_term v) (in_terms vs) h), terms_named s vs r.1 (rest (in_term v) (in_terms vs) h))

  cond_named : (s : Started) (t : Cond) → CondNamed any_name s t → All (in_condition t) → CondNamed N s t
  cond_named s (Is o a b) r h = (term_named s a r.0 (first (in_term a) (in_term b) h), term_named s b r.1 (rest (in_term a) (in_term b) h))
  cond_named s (Both t u) r h = (cond_named s t r.0 (first (in_condition t) (in_condition u) h), cond_named s u r.1 (rest (in_condition t) (in_condition u) h))
  cond_named s (Either t u) r h = (cond_named s t r.0 (first (in_condition t) (in_condition u) h), cond_named s u r.1 (rest (in_condition t) (in_condition u) h))

  module _ (L : ℕ → Option Started) where
    labels_named : (s : Started) (ls : List ℕ) → LabelsNamed any_name L s ls → LabelsNamed N L s ls
    labels_named s [] r = tt
    labels_named s (l ∷ ls) r = (r.0, labels_named s ls r.1)

    mutual
      stmt_named : (s : Started) (a : Stmt) → StmtNamed any_name L s a → All (in_statement a) → StmtNamed N L s a
      stmt_named s (Keep i v) r h = term_named s v r h
      stmt_named s (Clear i) r h = tt
      stmt_named s (Put m p v) r h = (path_named s p r.0 (first (in_path p) (in_term v) h), term_named s v r.1 (rest (in_path p) (in_term v) h))
      stmt_named s (Run v) r h = term_named s v r h
      stmt_named s (Toss v) r h = term_named s v r h
      stmt_named s (Goto l) r h = r
      stmt_named s (GiveBack v) r h = term_named s v r h
      stmt_named s Back r h = tt
      stmt_named s (Switch v ls) r h = (term_named s v r.0 h, labels_named s ls r.1)
      stmt_named s (Inner q) r h = seq_named s q r h
      stmt_named s (If t a b) r h =
          let k = rest (in_condition t) (in_sequence a ++ in_sequence b) h in
          (cond_named s t r.0 (first (in_condition t) (in_sequence a ++ in_sequence b) h), seq_named s a r.1 (first (in_sequence a) (in_sequence b) k), seq_named s b r.2 (rest (in_sequence a) (in_sequence b) k))
      stmt_named s (For i a b c q) r h =
          let k = rest (in_term a) (in_term b ++ (in_term c ++ in_sequence q)) h in
          let j = rest (in_term b) (in_term c ++ in_sequence q) k in
          (term_named s a r.0 (first (in_term a) (in_term b ++ (in_term c ++ in_sequence q)) h), term_named s b r.1 (first (in_term b) (in_term c ++ in_sequence q) k), term_named s c r.2 (first (in_term c) (in_sequence q) j), seq_named s q r.3 (rest (in_term c) (in_sequence q) j))
      stmt_named s (To i n q) r h = (term_named s n r.0 (first (in_term n) (in_sequence q) h), seq_named s q r.1 (rest (in_term n) (in_sequence q) h))
      stmt_named s (While t q) r h = (cond_named s t r.0 (first (in_condition t) (in_sequence q) h), seq_named s q r.1 (rest (in_condition t) (in_sequence q) h))
      stmt_named s (Recover l) r h = tt

      pub seq_named : (s : Started) (q : Seq) → SeqNamed any_name L s q → All (in_sequence q) → SeqNamed N L s q
      seq_named s Done r h = tt
      seq_named s (Then a q) r h = (stmt_named s a r.0 (first (in_statement a) (in_sequence q) h), (r.1.0, r.1.1, r.1.2, seq_named r.1.0 q r.1.3 (rest (in_statement a) (in_sequence q) h)))
      seq_named s (Mark l q) r h = (r.0, r.1, r.2, r.3, seq_named r.0 q r.4 h)
