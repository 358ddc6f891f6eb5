-- What a plain tree names is a procedure: so is what its code takes or calls, and what is called at its points.
use Rattle.std.specs.Prelude.{if◌then◌else◌, slice_index_or}
use Rattle.std.specs.List.{Contains}
use Rattle.std.proofs.Common.{◌≡◌, ℕ, zero, suc, ◌+◌, ◌<◌, inl, inr, Bool, true, false, List, [], ◌∷◌, ◌++◌, length, Option, Some, None, slice_get, sym, ap, ◌∙◌, subst, arith}
use Rattle.rt_modes.specs.declared.mode.Mode.{Mode, out-Mode}
use Rattle.rt_modes.specs.declared.mode.Mode.TheOpen.{Mode-F}
use Rattle.rt_tree_nodes.specs.declared.brick.ModuleParts.{ModuleParts}
use Rattle.rt_tree_nodes.specs.declared.operators.Op1.{Op1}
use Rattle.rt_tree_nodes.specs.declared.operators.Op1.TheVariants as one
use Rattle.rt_tree_nodes.specs.declared.operators.Op2.{Op2}
use Rattle.rt_tree_nodes.specs.declared.operators.Op2.TheVariants as two
use Rattle.rt_tree_nodes.specs.Scopes.{scope_of, proc_mode}
use Rattle.rt_tree_nodes.specs.Tree.{Term, Num, Str, Name, Own, Get, Ref, RefRow, Count, CountRow, One, Two, Over, Apply, ApplyBy, Path, ItemAt, Svc, FieldOf, Elem, ElemRow, Past, Terms, NoTerm, MoreTerms, Cond, Is, Both, Either, Stmt, Keep, Clear, Put, Run, Toss, Goto, GiveBack, Back, Switch, Inner, If, For, To, While, Recover, Seq, Done, Then, Mark}
use Rattle.rt_tree.specs.Depth.{address_depth}
use Rattle.rt_meaning_laws.specs.Trees.{Site, Started, table, OwnFits, TermFits, PathFits, TermsFit, CallFits, CondFits, StmtFits, SeqFits}
use Rattle.rt_object.specs.Ranges.{IsProcLayer, IsProcMode}
use Rattle.rt_frames.specs.declared.frame.CallPoint.{CallPoint}
use Rattle.rt_frames.specs.declared.frame.Target.{Target}
use Rattle.rt_frames.specs.declared.frame.Target.TheVariants as target
use Rattle.rt_frames.specs.Points.{point, waits, error_points}
use Rattle.rt_frames_laws.specs.Plain.{number_of, how_many, term_points, path_points, terms_points, condition_points, statement_points, sequence_points}
use Rattle.rt_icode.specs.declared.ins.Ins.{Ins}
use Rattle.rt_icode.specs.declared.ins.Ins.TheVariants as ins
use Rattle.rt_icode.specs.declared.ins.Width.{Width}
use Rattle.rt_lower.specs.declared.layouts.Layouts.{Layouts}
use Rattle.rt_lower.specs.declared.site.Site.{Site as Place}
use Rattle.rt_lower.specs.declared.site.Site.TheVariants as site
use Rattle.rt_lower.specs.Layouts.{field_offset, bytes}
use Rattle.rt_lower.specs.Values.{width_of, site_of, wanted, read, written, reached, row_reached, told, element, altered, merged, divided, is_sure, value, address, values, alone}
use Rattle.rt_lower.specs.Code.{nowhere, cases, condition, for_head, statement, sequence, leads_in, code_of}

module _ (p : ModuleParts) where
  -- a procedure brick
  abbrev pub IsRoutine : ℕ → Type 0
  IsRoutine b = (w : Mode) × (proc_mode (scope_of p).bricks b ≡ Some w)

  abbrev mutual
    pub TermNames : Term → Type 0
    TermNames (Num n) = Unit {0}
    TermNames (Str n) = Unit {0}
    TermNames (Name b) = IsRoutine b
    TermNames (Own i) = Unit {0}
    TermNames (Get m q) = PathNames q
    TermNames (Ref q) = PathNames q
    TermNames (RefRow q n) = PathNames q
    TermNames (Count q n) = PathNames q
    TermNames (CountRow v) = TermNames v
    TermNames (One o v) = TermNames v
    TermNames (Two o a b) = TermNames a × TermNames b
    TermNames (Over o a b) = TermNames a × TermNames b
    TermNames (Apply b vs) = IsRoutine b × TermsName vs
    TermNames (ApplyBy m f vs) = IsProcMode m × TermNames f × TermsName vs

    pub PathNames : Path → Type 0
    PathNames (ItemAt b i) = Unit {0}
    PathNames (Svc k) = Unit {0}
    PathNames (FieldOf q r k) = PathNames q
    PathNames (Elem q v n e) = PathNames q × TermNames v
    PathNames (ElemRow a v e) = TermNames a × TermNames v
    PathNames (Past v) = TermNames v

    pub TermsName : Terms → Type 0
    TermsName NoTerm = Unit {0}
    TermsName (MoreTerms v vs) = TermNames v × TermsName vs

  abbrev pub CondNames : Cond → Type 0
  CondNames (Is r a b) = TermNames a × TermNames b
  CondNames (Both t u) = CondNames t × CondNames u
  CondNames (Either t u) = CondNames t × CondNames u

  abbrev mutual
    pub StmtNames : Stmt → Type 0
    StmtNames (Keep i v) = TermNames v
    StmtNames (Clear i) = Unit {0}
    StmtNames (Put m q v) = PathNames q × TermNames v
    StmtNames (Run v) = TermNames v
    StmtNames (Toss v) = TermNames v
    StmtNames (Goto k) = Unit {0}
    StmtNames (GiveBack v) = TermNames v
    StmtNames Back = Unit {0}
    StmtNames (Switch v ks) = TermNames v
    StmtNames (Inner q) = SeqNames q
    StmtNames (If t a b) = CondNames t × SeqNames a × SeqNames b
    StmtNames (For i a b c q) = TermNames a × TermNames b × TermNames c × SeqNames q
    StmtNames (To i n q) = TermNames n × SeqNames q
    StmtNames (While t q) = CondNames t × SeqNames q
    StmtNames (Recover k) = Unit {0}

    pub SeqNames : Seq → Type 0
    SeqNames Done = Unit {0}
    SeqNames (Then s q) = StmtNames s × SeqNames q
    SeqNames (Mark k q) = SeqNames q

-- ---- a tree that fits names procedures

module _ (x : Site) where
  own_names : (q : Path) (m : Mode) → OwnFits (table x) q m → PathNames x.parts q
  own_names (Svc k) m h = tt
  own_names (ItemAt b i) m h = tt
  own_names (FieldOf q r k) m h = absurd h
  own_names (Elem q v n e) m h = absurd h
  own_names (ElemRow a v e) m h = absurd h
  own_names (Past v) m h = absurd h

  is_proc : (u w : Mode) (ws : List Mode) (o : Option Mode) → u ≡ w → out-Mode w ≡ Mode-F.Proc ws o → IsProcMode u
  is_proc u w ws o e h = subst (λ (z : Mode-F Mode). IsProcLayer z) (sym (ap out-Mode e ∙ h)) tt

  mutual
    term_names : (s : Started) (v : Term) (m : Mode) → TermFits x s v m → TermNames x.parts v
    term_names s (Num n) m h = tt
    term_names s (Str n) m h = tt
    term_names s (Name b) m h = (m, h.0)
    term_names s (Own i) m h = tt
    term_names s (Get w q) m h = elim h.2 [ inl f ↦ path_names s q m f | inr o ↦ own_names q m o.0 ]
    term_names s (Ref q) m h = path_names s q h.0 h.2
    term_names s (RefRow q n) m h = path_names s q h.1 h.4
    term_names s (Count q n) m h = path_names s q h.0 h.3
    term_names s (CountRow v) m h = term_names s v h.0 h.4
    term_names s (One o v) m h = term_names s v h.0 h.2
    term_names s (Two o a b) m h = (term_names s a h.0 h.3, term_names s b h.1 h.4)
    term_names s (Over o a b) m h = (term_names s a h.0 h.3, term_names s b h.1 h.4)
    term_names s (Apply b vs) m h = ((h.0, h.2), terms_name s vs h.1 h.4)
    term_names s (ApplyBy u f vs) m h = (is_proc u h.0 h.1 (Some m) h.5 h.2, term_names s f h.0 h.3, terms_name s vs h.1 h.4)

    path_names : (s : Started) (q : Path) (m : Mode) → PathFits x s q m → PathNames x.parts q
    path_names s (ItemAt b i) m h = tt
    path_names s (Svc k) m h = tt
    path_names s (FieldOf q r k) m h = path_names s q h.0 h.3
    path_names s (Elem q v n e) m h = (path_names s q h.0 h.4, term_names s v h.1 h.5)
    path_names s (ElemRow a v e) m h = (term_names s a h.0 h.4, term_names s v h.1 h.5)
    path_names s (Past v) m h = term_names s v h.0 h.2

    terms_name : (s : Started) (vs : Terms) (ws : List Mode) → TermsFit x s vs ws → TermsName x.parts vs
    terms_name s NoTerm ws h = tt
    terms_name s (MoreTerms v vs) ws h = (term_names s v h.0 h.3, terms_name s vs h.1 h.4)

  call_names : (s : Started) (v : Term) (o : Option Mode) → CallFits x s v o → TermNames x.parts v
  call_names s (Apply b vs) o h = ((h.0, h.2), terms_name s vs h.1 h.4)
  call_names s (ApplyBy u f vs) o h = (is_proc u h.0 h.1 o h.5 h.2, term_names s f h.0 h.3, terms_name s vs h.1 h.4)
  call_names s (Num n) o h = absurd h
  call_names s (Str n) o h = absurd h
  call_names s (Name b) o h = absurd h
  call_names s (Own i) o h = absurd h
  call_names s (Get w q) o h = absurd h
  call_names s (Ref q) o h = absurd h
  call_names s (RefRow q n) o h = absurd h
  call_names s (Count q n) o h = absurd h
  call_names s (CountRow v) o h = absurd h
  call_names s (One c v) o h = absurd h
  call_names s (Two c a b) o h = absurd h
  call_names s (Over c a b) o h = absurd h

  cond_names : (s : Started) (t : Cond) → CondFits x s t → CondNames x.parts t
  cond_names s (Is r a b) h = (term_names s a h.0 h.3, term_names s b h.1 h.4)
  cond_names s (Both t u) h = (cond_names s t h.0, cond_names s u h.1)
  cond_names s (Either t u) h = (cond_names s t h.0, cond_names s u h.1)

  mutual
    stmt_names : (s : Started) (a : Stmt) → StmtFits x s a → StmtNames x.parts a
    stmt_names s (Keep i v) h = term_names s v h.0 h.2
    stmt_names s (Clear i) h = tt
    stmt_names s (Put w q v) h = (elim h.2 [ inl f ↦ path_names s q h.0 f | inr o ↦ own_names q h.0 o.0 ], term_names s v h.0 h.3)
    stmt_names s (Run v) h = call_names s v None h
    stmt_names s (Toss v) h = term_names s v h.0 h.1
    stmt_names s (Goto l) h = tt
    stmt_names s (GiveBack v) h = term_names s v h.0 h.2
    stmt_names s Back h = tt
    stmt_names s (Switch v ls) h = term_names s v h.0 h.2
    stmt_names s (Inner q) h = seq_names s q h
    stmt_names s (If t a b) h = (cond_names s t h.0, seq_names s a h.1, seq_names s b h.2)
    stmt_names s (For i a b c q) h = (term_names s a h.0 h.4.1, term_names s b h.1 h.5.1, term_names s c h.2 h.6.1, seq_names s q h.7)
    stmt_names s (To i n q) h = (term_names s n h.0 h.2.1, seq_names s q h.3)
    stmt_names s (While t q) h = (cond_names s t h.0, seq_names s q h.1)
    stmt_names s (Recover l) h = tt

    pub seq_names : (s : Started) (q : Seq) → SeqFits x s q → SeqNames x.parts q
    seq_names s Done h = tt
    seq_names s (Then a q) h = (stmt_names s a h.0, seq_names h.1.0 q h.1.3)
    seq_names s (Mark l q) h = seq_names h.0 q h.4

-- ---- points

module _ (p : ModuleParts) where
  -- what is called at a point is a procedure brick, or a value of a PROC mode
  abbrev pub IsGood : Target → Type 0
  IsGood (target.Brick b) = IsRoutine p b
  IsGood (target.Variable m) = IsProcMode m
  IsGood target.Error = Unit {0}

  abbrev pub AllGood : List CallPoint → Type 0
  AllGood [] = Unit {0}
  AllGood (c ∷ cs) = IsGood c.target × AllGood cs

  both_good : (xs ys : List CallPoint) → AllGood xs → AllGood ys → AllGood (xs ++ ys)
  both_good [] ys a b = b
  both_good (x ∷ xs) ys a b = (a.0, both_good xs ys a.1 b)

  if_good : (b : Bool) (c : CallPoint) → IsGood c.target → AllGood (if b then c ∷ [] else [])
  if_good true c h = (h, tt)
  if_good false c h = tt

  pub good_at : (cs : List CallPoint) (c : CallPoint) → AllGood cs → Contains cs c → IsGood c.target
  good_at cs c all (k, less, is) = at cs k all less is
    where
      at : (xs : List CallPoint) (j : ℕ) → AllGood xs → j < length xs → slice_index_or xs j c ≡ c → IsGood c.target
      at [] j h l e = absurd (omega arith)
      at (y ∷ xs) zero h l e = subst (λ (z : CallPoint). IsGood z.target) e h.0
      at (y ∷ xs) (suc j) h l e = at xs j h.1 (omega arith) e

  mutual
    term_good : (v : Term) (k : ℕ) → TermNames p v → AllGood (term_points v k)
    term_good (Num n) k h = tt
    term_good (Str n) k h = tt
    term_good (Name b) k h = tt
    term_good (Own i) k h = tt
    term_good (Get m q) k h = path_good q k h
    term_good (Ref q) k h = path_good q k h
    term_good (RefRow q n) k h = path_good q k h
    term_good (Count q n) k h = path_good q k h
    term_good (CountRow v) k h = term_good v k h
    term_good (One o v) k h = term_good v k h
    term_good (Two o a b) k h = both_good (term_points a k) (term_points b (suc k)) (term_good a k h.0) (term_good b (suc k) h.1)
    term_good (Over o a b) k h =
        both_good (term_points a k) (term_points b (suc k) ++ error_points o (number_of b) k) (term_good a k h.0)
        (both_good (term_points b (suc k)) (error_points o (number_of b) k) (term_good b (suc k) h.1) (if_good _ (point k 1 target.Error) tt))
    term_good (Apply b vs) k h = both_good (terms_points vs k) (point k (how_many vs) (target.Brick b) ∷ []) (terms_good vs k h.1) (h.0, tt)
    term_good (ApplyBy m f vs) k h =
        both_good (term_points f k) (terms_points vs (k + 1) ++ point k (how_many vs) (target.Variable m) ∷ []) (term_good f k h.1)
        (both_good (terms_points vs (k + 1)) (point k (how_many vs) (target.Variable m) ∷ []) (terms_good vs (k + 1) h.2) (h.0, tt))

    path_good : (q : Path) (k : ℕ) → PathNames p q → AllGood (path_points q k)
    path_good (ItemAt b i) k h = tt
    path_good (Svc i) k h = tt
    path_good (FieldOf q r i) k h = path_good q k h
    path_good (Elem q v n m) k h = both_good (path_points q k) (term_points v (k + waits (address_depth q))) (path_good q k h.0) (term_good v (k + waits (address_depth q)) h.1)
    path_good (ElemRow a v m) k h = both_good (term_points a k) (term_points v (k + 1)) (term_good a k h.0) (term_good v (k + 1) h.1)
    path_good (Past v) k h = term_good v k h

    terms_good : (vs : Terms) (k : ℕ) → TermsName p vs → AllGood (terms_points vs k)
    terms_good NoTerm k h = tt
    terms_good (MoreTerms v vs) k h = both_good (term_points v k) (terms_points vs (suc k)) (term_good v k h.0) (terms_good vs (suc k) h.1)

  cond_good : (t : Cond) → CondNames p t → AllGood (condition_points t)
  cond_good (Is r a b) h = both_good (term_points a 0) (term_points b 1) (term_good a 0 h.0) (term_good b 1 h.1)
  cond_good (Both t u) h = both_good (condition_points t) (condition_points u) (cond_good t h.0) (cond_good u h.1)
  cond_good (Either t u) h = both_good (condition_points t) (condition_points u) (cond_good t h.0) (cond_good u h.1)

  mutual
    stmt_good : (a : Stmt) → StmtNames p a → AllGood (statement_points a)
    stmt_good (Keep i v) h = term_good v 0 h
    stmt_good (Clear i) h = tt
    stmt_good (Put m q v) h = both_good (path_points q 0) (term_points v (waits (address_depth q))) (path_good q 0 h.0) (term_good v (waits (address_depth q)) h.1)
    stmt_good (Run v) h = term_good v 0 h
    stmt_good (Toss v) h = term_good v 0 h
    stmt_good (Goto l) h = tt
    stmt_good (GiveBack v) h = term_good v 0 h
    stmt_good Back h = tt
    stmt_good (Switch v ls) h = term_good v 0 h
    stmt_good (Inner q) h = seq_good q h
    stmt_good (If t a b) h =
        both_good (condition_points t) (sequence_points a ++ sequence_points b) (cond_good t h.0) (both_good (sequence_points a) (sequence_points b) (seq_good a h.1) (seq_good b h.2))
    stmt_good (For i a b c q) h =
        both_good (term_points a 0) (term_points b 0 ++ (term_points c 0 ++ sequence_points q)) (term_good a 0 h.0)
        (both_good (term_points b 0) (term_points c 0 ++ sequence_points q) (term_good b 0 h.1) (both_good (term_points c 0) (sequence_points q) (term_good c 0 h.2) (seq_good q h.3)))
    stmt_good (To i n q) h = both_good (term_points n 0) (sequence_points q) (term_good n 0 h.0) (seq_good q h.1)
    stmt_good (While t q) h = both_good (condition_points t) (sequence_points q) (cond_good t h.0) (seq_good q h.1)
    stmt_good (Recover l) h = tt

    pub seq_good : (q : Seq) → SeqNames p q → AllGood (sequence_points q)
    seq_good Done h = tt
    seq_good (Then a q) h = both_good (statement_points a) (sequence_points q) (stmt_good a h.0) (seq_good q h.1)
    seq_good (Mark l q) h = seq_good q h

-- ---- code

-- the brick that an instruction takes or calls
abbrev pub taken_by : Ins → Option ℕ
taken_by (ins.Routine b) = Some b
taken_by (ins.Invoke b n gives) = Some b
taken_by _ = None

module _ (p : ModuleParts) where
  abbrev pub IsTaken : Option ℕ → Type 0
  IsTaken None = Unit {0}
  IsTaken (Some b) = IsRoutine p b

  abbrev pub AllTaken : List Ins → Type 0
  AllTaken [] = Unit {0}
  AllTaken (i ∷ is) = IsTaken (taken_by i) × AllTaken is

  both_taken : (xs ys : List Ins) → AllTaken xs → AllTaken ys → AllTaken (xs ++ ys)
  both_taken [] ys a b = b
  both_taken (x ∷ xs) ys a b = (a.0, both_taken xs ys a.1 b)

  taken_at : (is : List Ins) (k : ℕ) (i : Ins) → AllTaken is → slice_get is k ≡ Some i → IsTaken (taken_by i)
  taken_at [] k i h e = absurd cc
  taken_at (x ∷ is) zero i h e = let same : x ≡ i = cc in subst (λ (z : Ins). IsTaken (taken_by z)) same h.0
  taken_at (x ∷ is) (suc k) i h e = taken_at is k i h.1 e

  -- ---- values

  wanted_taken : (s : Place) (is : List Ins) → AllTaken is → AllTaken (wanted s is)
  wanted_taken site.Stacked is h = h
  wanted_taken (site.Fixed f) is h = tt
  wanted_taken (site.Own o) is h = tt

  read_taken : (z : Width) (s : Place) → IsTaken (taken_by (read z s))
  read_taken z (site.Own o) = tt
  read_taken z (site.Fixed f) = tt
  read_taken z site.Stacked = tt

  written_taken : (z : Width) (s : Place) → IsTaken (taken_by (written z s))
  written_taken z (site.Own o) = tt
  written_taken z (site.Fixed f) = tt
  written_taken z site.Stacked = tt

  reached_taken : (s : Place) → AllTaken (reached s)
  reached_taken (site.Fixed f) = (tt, tt)
  reached_taken (site.Own o) = tt
  reached_taken site.Stacked = tt

  row_taken : (n : ℕ) (is : List Ins) (s : Place) → AllTaken is → AllTaken (row_reached n is s)
  row_taken n is (site.Fixed f) h = (tt, tt)
  row_taken n is (site.Own o) h = h
  row_taken n is site.Stacked h = h

  told_taken : (n : ℕ) (s : Place) → IsTaken (taken_by (told n s))
  told_taken n (site.Fixed f) = tt
  told_taken n (site.Own o) = tt
  told_taken n site.Stacked = tt

  element_taken : (n s : ℕ) (q : Place) → IsTaken (taken_by (element n s q))
  element_taken n s (site.Fixed f) = tt
  element_taken n s (site.Own o) = tt
  element_taken n s site.Stacked = tt

  altered_taken : (o : Op1) → AllTaken (altered o)
  altered_taken one.Minus = (tt, tt)
  altered_taken one.Abs = (tt, tt)
  altered_taken one.Not = (tt, tt)
  altered_taken one.Byte = (tt, tt)
  altered_taken one.Plus = tt
  altered_taken one.Int = tt
  altered_taken one.Frac = tt

  merged_taken : (o : Op2) → IsTaken (taken_by (merged o))
  merged_taken two.Sll = tt
  merged_taken two.Srl = tt
  merged_taken two.Sla = tt
  merged_taken two.Sra = tt
  merged_taken two.Times = tt
  merged_taken two.FracTimes = tt
  merged_taken two.Divide = tt
  merged_taken two.Mod = tt
  merged_taken two.Land = tt
  merged_taken two.Plus = tt
  merged_taken two.Minus = tt
  merged_taken two.Lor = tt
  merged_taken two.Nev = tt

  divided_taken : (o : Op2) (c : Bool) → AllTaken (divided o c)
  divided_taken o true = (tt, tt)
  divided_taken o false = (tt, (tt, (tt, tt)))

  module _ (l : Layouts) where
    mutual
      value_taken : (v : Term) → TermNames p v → AllTaken (value l v)
      value_taken (Num n) h = (tt, tt)
      value_taken (Str n) h = (tt, tt)
      value_taken (Name b) h = (h, tt)
      value_taken (Own i) h = (tt, tt)
      value_taken (Get m q) h = both_taken (wanted (site_of l q) (address l q)) (read (width_of m) (site_of l q) ∷ []) (wanted_taken (site_of l q) (address l q) (address_taken q h)) (read_taken (width_of m) (site_of l q), tt)
      value_taken (Ref q) h = both_taken (wanted (site_of l q) (address l q)) (reached (site_of l q)) (wanted_taken (site_of l q) (address l q) (address_taken q h)) (reached_taken (site_of l q))
      value_taken (RefRow (FieldOf q r k) n) h =
          both_taken (wanted (site_of l (FieldOf q r k)) (address l q)) (row_reached n (ins.IntoRow k (field_offset l r k) n ∷ []) (site_of l (FieldOf q r k))) (wanted_taken (site_of l (FieldOf q r k)) (address l q) (address_taken q h))
          (row_taken n (ins.IntoRow k (field_offset l r k) n ∷ []) (site_of l (FieldOf q r k)) (tt, tt))
      value_taken (RefRow q n) h = both_taken (wanted (site_of l q) (address l q)) (row_reached n [] (site_of l q)) (wanted_taken (site_of l q) (address l q) (address_taken q h)) (row_taken n [] (site_of l q) tt)
      value_taken (Count q n) h = both_taken (wanted (site_of l q) (address l q)) (told n (site_of l q) ∷ []) (wanted_taken (site_of l q) (address l q) (address_taken q h)) (told_taken n (site_of l q), tt)
      value_taken (CountRow v) h = both_taken (value l v) (ins.Length ∷ []) (value_taken v h) (tt, tt)
      value_taken (One o v) h = both_taken (value l v) (altered o) (value_taken v h) (altered_taken o)
      value_taken (Two o a b) h = both_taken (value l a) (value l b ++ merged o ∷ []) (value_taken a h.0) (both_taken (value l b) (merged o ∷ []) (value_taken b h.1) (merged_taken o, tt))
      value_taken (Over o a b) h =
          both_taken (value l a) (value l b ++ divided o (is_sure b)) (value_taken a h.0) (both_taken (value l b) (divided o (is_sure b)) (value_taken b h.1) (divided_taken o (is_sure b)))
      value_taken (Apply b vs) h = both_taken (values l vs) (_ ∷ []) (values_taken vs h.1) (h.0, tt)
      value_taken (ApplyBy m f vs) h = both_taken (value l f) (values l vs ++ _ ∷ []) (value_taken f h.1) (both_taken (values l vs) (_ ∷ []) (values_taken vs h.2) (tt, tt))

      address_taken : (q : Path) → PathNames p q → AllTaken (address l q)
      address_taken (ItemAt b i) h = tt
      address_taken (Svc k) h = tt
      address_taken (FieldOf q r k) h = both_taken (address l q) (ins.Into k (field_offset l r k) ∷ []) (address_taken q h) (tt, tt)
      address_taken (Elem q v n m) h =
          both_taken (wanted (site_of l q) (address l q)) (value l v ++ element n (bytes l m) (site_of l q) ∷ []) (wanted_taken (site_of l q) (address l q) (address_taken q h.0))
          (both_taken (value l v) (element n (bytes l m) (site_of l q) ∷ []) (value_taken v h.1) (element_taken n (bytes l m) (site_of l q), tt))
      address_taken (ElemRow a v m) h = both_taken (value l a) (value l v ++ ins.ElementRow (bytes l m) ∷ []) (value_taken a h.0) (both_taken (value l v) (ins.ElementRow (bytes l m) ∷ []) (value_taken v h.1) (tt, tt))
      address_taken (Past v) h = value_taken v h

      values_taken : (vs : Terms) → TermsName p vs → AllTaken (values l vs)
      values_taken NoTerm h = tt
      values_taken (MoreTerms v vs) h = both_taken (value l v) (values l vs) (value_taken v h.0) (values_taken vs h.1)

    alone_taken : (v : Term) → TermNames p v → AllTaken (alone l v)
    alone_taken (Apply b vs) h = both_taken (values l vs) (_ ∷ []) (values_taken vs h.1) (h.0, tt)
    alone_taken (ApplyBy m f vs) h = both_taken (value l f) (values l vs ++ _ ∷ []) (value_taken f h.1) (both_taken (values l vs) (_ ∷ []) (values_taken vs h.2) (tt, tt))
    alone_taken v h = both_taken (value l v) (ins.Discard ∷ []) (value_taken v h) (tt, tt)

    condition_taken : (t : Cond) (w : Bool) (n : ℕ) → CondNames p t → AllTaken (condition l t w n)
    condition_taken (Is r a b) w n h = both_taken (value l a) (value l b ++ ins.Test r w n ∷ []) (value_taken a h.0) (both_taken (value l b) (ins.Test r w n ∷ []) (value_taken b h.1) (tt, tt))
    condition_taken (Both t u) true n h = both_taken (condition l t false (length (condition l u true n))) (condition l u true n) (condition_taken t false (length (condition l u true n)) h.0) (condition_taken u true n h.1)
    condition_taken (Both t u) false n h =
        both_taken (condition l t false (length (condition l u false n) + n)) (condition l u false n) (condition_taken t false (length (condition l u false n) + n) h.0) (condition_taken u false n h.1)
    condition_taken (Either t u) true n h =
        both_taken (condition l t true (length (condition l u true n) + n)) (condition l u true n) (condition_taken t true (length (condition l u true n) + n) h.0) (condition_taken u true n h.1)
    condition_taken (Either t u) false n h = both_taken (condition l t true (length (condition l u false n))) (condition l u false n) (condition_taken t true (length (condition l u false n)) h.0) (condition_taken u false n h.1)

    head_taken : (i : ℕ) (a b c : Term) → TermNames p a → TermNames p b → TermNames p c → AllTaken (for_head l i a b c)
    head_taken i a b c f g h =
        both_taken (value l a) (ins.SaveLocal i ∷ (value l b ++ (ins.SaveLocal (i + 1) ∷ value l c))) (value_taken a f) (tt, both_taken (value l b) (ins.SaveLocal (i + 1) ∷ value l c) (value_taken b g) (tt, value_taken c h))

    -- ---- statements

    module _ (lead : ℕ → ℕ) where
      cases_taken : (ks : List ℕ) → AllTaken (cases lead ks)
      cases_taken [] = tt
      cases_taken (k ∷ ks) = (tt, cases_taken ks)

      loop_taken : (head : List Ins) (c t : Ins) (body : List Ins) → AllTaken head → IsTaken (taken_by c) → AllTaken body → IsTaken (taken_by t) → AllTaken (head ++ (c ∷ (body ++ t ∷ [])))
      loop_taken head c t body a b d e = both_taken head (c ∷ (body ++ t ∷ [])) a (b, both_taken body (t ∷ []) d (e, tt))

      mutual
        statement_taken : (a : Stmt) (at : ℕ) → StmtNames p a → AllTaken (statement l lead at a)
        statement_taken (Keep i v) at h = both_taken (value l v) (ins.SaveLocal i ∷ []) (value_taken v h) (tt, tt)
        statement_taken (Clear i) at h = (tt, tt)
        statement_taken (Put m q v) at h =
            both_taken (wanted (site_of l q) (address l q)) (value l v ++ written (width_of m) (site_of l q) ∷ []) (wanted_taken (site_of l q) (address l q) (address_taken q h.0))
            (both_taken (value l v) (written (width_of m) (site_of l q) ∷ []) (value_taken v h.1) (written_taken (width_of m) (site_of l q), tt))
        statement_taken (Run v) at h = alone_taken v h
        statement_taken (Toss v) at h = alone_taken v h
        statement_taken (Goto k) at h = (tt, tt)
        statement_taken (GiveBack v) at h = both_taken (value l v) (ins.GiveUp ∷ []) (value_taken v h) (tt, tt)
        statement_taken Back at h = (tt, tt)
        statement_taken (Switch v ks) at h = both_taken (value l v) (cases lead ks ++ ins.Discard ∷ []) (value_taken v h) (both_taken (cases lead ks) (ins.Discard ∷ []) (cases_taken ks) (tt, tt))
        statement_taken (Inner q) at h = sequence_taken q at h
        statement_taken (If t a c) at h =
            let test = condition l t false (length (sequence l nowhere 0 a) + 1) in
            let first = sequence l lead (at + length test) a in
            let other = sequence l lead (at + length test + length first + 1) c in
            both_taken test (first ++ (ins.Skip (length other) ∷ other)) (condition_taken t false (length (sequence l nowhere 0 a) + 1) h.0)
            (both_taken first (ins.Skip (length other) ∷ other) (sequence_taken a (at + length test) h.1) (tt, sequence_taken c (at + length test + length first + 1) h.2))
        statement_taken (For i u v w q) at h =
            let top = at + length (for_head l i u v w) + 1 in
            loop_taken (for_head l i u v w) (ins.CountFor i (length (sequence l lead top q) + 1)) (ins.TurnFor i top) (sequence l lead top q) (head_taken i u v w h.0 h.1 h.2) tt (sequence_taken q top h.3) tt
        statement_taken (To i n q) at h =
            let top = at + length (value l n) + 1 in
            loop_taken (value l n) (ins.CountTo i (length (sequence l lead top q) + 1)) (ins.TurnTo i top) (sequence l lead top q) (value_taken n h.0) tt (sequence_taken q top h.1) tt
        statement_taken (While t q) at h =
            let test = condition l t false (length (sequence l nowhere 0 q) + 1) in
            both_taken test (sequence l lead (at + length test) q ++ ins.Go at ∷ []) (condition_taken t false (length (sequence l nowhere 0 q) + 1) h.0)
            (both_taken (sequence l lead (at + length test) q) (ins.Go at ∷ []) (sequence_taken q (at + length test) h.1) (tt, tt))
        statement_taken (Recover k) at h = tt

        sequence_taken : (q : Seq) (at : ℕ) → SeqNames p q → AllTaken (sequence l lead at q)
        sequence_taken Done at h = tt
        sequence_taken (Then a q) at h =
            let first = statement l lead at a in
            both_taken first (sequence l lead (at + length first) q) (statement_taken a at h.0) (sequence_taken q (at + length first) h.1)
        sequence_taken (Mark k q) at h = sequence_taken q at h

    -- what an instruction of a procedure takes or calls is a procedure brick
    pub code_taken : (b parameters locals : ℕ) (q : Seq) (k : ℕ) (i : Ins) → SeqNames p q → slice_get (code_of l b parameters locals q) k ≡ Some i → IsTaken (taken_by i)
    code_taken b parameters locals q k i h e =
        let lead = leads_in l q in
        taken_at (code_of l b parameters locals q) k i (tt, both_taken (sequence l lead 1 q) (ins.Leave ∷ []) (sequence_taken lead q 1 h) (tt, tt)) e
