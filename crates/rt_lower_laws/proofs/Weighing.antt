-- Code weighs no more than the nodes that it is made of.
use Rattle.std.proofs.Common.{ℕ, ◌+◌, ◌*◌, ◌≤◌, ◌==◌, Bool, true, false, if◌then◌else◌, List, [], ◌∷◌, ◌++◌, length, arith}
use Rattle.rt_modes.specs.declared.mode.Mode.{Mode}
use Rattle.rt_tree_nodes.specs.declared.operators.Op1.{Op1}
use Rattle.rt_tree_nodes.specs.declared.operators.Op1.TheVariants as one
use Rattle.rt_tree_nodes.specs.declared.operators.Op2.{Op2}
use Rattle.rt_tree_nodes.specs.declared.operators.Op2.TheVariants as two
use Rattle.rt_tree_nodes.specs.Tree.{Term, Num, Str, Name, Own, Get, Ref, RefRow, Count, CountRow, One, Two, Over, Apply, ApplyBy, Path, ItemAt, Svc, FieldOf, Elem, ElemRow, Past, Terms, NoTerm, MoreTerms, Cond, Is, Both, Either, Stmt, Keep, Clear, Put, Run, Toss, Goto, GiveBack, Back, Switch, Inner, If, For, To, While, Recover, Seq, Done, Then, Mark}
use Rattle.rt_tree_nodes.specs.Typing.{is_byte}
use Rattle.rt_tree.specs.Weights.{read_weight, operator_weight, term_weight, path_weight, terms_weight, condition_weight, statement_weight, sequence_weight}
use Rattle.rt_work_state.specs.Items.{how_many}
use Rattle.rt_icode.specs.declared.ins.Width.{Width}
use Rattle.rt_icode.specs.declared.ins.Width.TheVariants as width
use Rattle.rt_icode.specs.declared.ins.Ins.{Ins}
use Rattle.rt_icode.specs.declared.ins.Ins.TheVariants as ins
use Rattle.rt_icode.specs.Weights.{scale_words, words_of, unmarked_of}
use Rattle.rt_lower.specs.declared.layouts.Layouts.{Layouts}
use Rattle.rt_lower.specs.declared.site.Site.{Site}
use Rattle.rt_lower.specs.declared.site.Site.TheVariants as site
use Rattle.rt_lower.specs.Layouts.{field_offset, bytes}
use Rattle.rt_lower.specs.Values.{width_of, field_site, site_of, wanted, read, written, reached, row_reached, told, element, altered, merged, is_sure, divided, value, address, values, alone}
use Rattle.rt_lower.specs.Code.{Leads, cases, for_head, condition, statement, sequence}
use Rattle.rt_lower_laws.specs.Laws.{room, room_in}
use Rattle.rt_lower_laws.proofs.Sums.{total_append, Light, light_none, light_one, light_both, light_behind, light_more}

-- ---- single instructions

scaled : (s : ℕ) → 10 + scale_words s ≤ 12
scaled s = by (s == 1) (s == 2) where
  by : (a b : Bool) → 10 + (if a then 0 else if b then 1 else 2) ≤ 12
  by true b = omega arith
  by false true = omega arith
  by false false = omega arith

called : (b n : ℕ) (gives : Bool) → Light (ins.Invoke b n gives ∷ []) 2 12
called b n gives = light_one (ins.Invoke b n gives) 2 12 (by (n == 0) gives) (made (n == 0) gives) where
  by : (t g : Bool) → (if g then 1 else 0) + (if t then 2 else 4) + 2 ≤ 12
  by true true = omega arith
  by true false = omega arith
  by false true = omega arith
  by false false = omega arith

  made : (t g : Bool) → (if g then 1 else 0) + (if t then 0 else 1) + 2 ≤ 24
  made true true = omega arith
  made true false = omega arith
  made false true = omega arith
  made false false = omega arith

called_by : (n : ℕ) (gives : Bool) → Light (ins.InvokeBy n gives ∷ []) 0 8
called_by n true = light_one (ins.InvokeBy n true) 0 8 (omega arith) (omega arith)
called_by n false = light_one (ins.InvokeBy n false) 0 8 (omega arith) (omega arith)

altered_light : (o : Op1) → Light (altered o) 0 (operator_weight o)
altered_light one.Plus = light_more [] 0 0 0 12 light_none (omega arith) (omega arith)
altered_light one.Minus = light_one _ 0 12 (omega arith) (omega arith)
altered_light one.Abs = light_one _ 0 12 (omega arith) (omega arith)
altered_light one.Not = light_one _ 0 12 (omega arith) (omega arith)
altered_light one.Byte = light_one _ 0 12 (omega arith) (omega arith)
altered_light one.Int = light_none
altered_light one.Frac = light_more [] 0 0 0 12 light_none (omega arith) (omega arith)

merged_light : (o : Op2) → Light (merged o ∷ []) 0 8
merged_light two.Sll = light_one _ 0 8 (omega arith) (omega arith)
merged_light two.Srl = light_one _ 0 8 (omega arith) (omega arith)
merged_light two.Sla = light_one _ 0 8 (omega arith) (omega arith)
merged_light two.Sra = light_one _ 0 8 (omega arith) (omega arith)
merged_light two.Times = light_one _ 0 8 (omega arith) (omega arith)
merged_light two.FracTimes = light_one _ 0 8 (omega arith) (omega arith)
merged_light two.Divide = light_one _ 0 8 (omega arith) (omega arith)
merged_light two.Mod = light_one _ 0 8 (omega arith) (omega arith)
merged_light two.Land = light_one _ 0 8 (omega arith) (omega arith)
merged_light two.Plus = light_one _ 0 8 (omega arith) (omega arith)
merged_light two.Minus = light_one _ 0 8 (omega arith) (omega arith)
merged_light two.Lor = light_one _ 0 8 (omega arith) (omega arith)
merged_light two.Nev = light_one _ 0 8 (omega arith) (omega arith)

divided_light : (o : Op2) (sure : Bool) → Light (divided o sure) 0 8
divided_light o true = light_one _ 0 8 (omega arith) (omega arith)
divided_light o false = record { words = omega arith; made = omega arith }

-- ---- places: those whose address isn't wanted weigh something

-- what a place weighs whose address isn't wanted
abbrev Weighs : Site → ℕ → Type 0
Weighs site.Stacked w = Unit {0}
Weighs _ w = 3 ≤ w

read_light : (m : Mode) (s : Site) (code : List Ins) (w : ℕ) → Weighs s w → Light code 1 w → Light (wanted s code ++ read (width_of m) s ∷ []) 1 (read_weight m + w)
read_light m s code w h k = by (is_byte m) s h where
  by : (b : Bool) (t : Site) → Weighs t w → Light (wanted t code ++ read (if b then width.Byte else width.Word) t ∷ []) 1 ((if b then 5 else 1) + w)
  by true (site.Own j) g = light_one _ 1 (5 + w) (omega (arith, g)) (omega (arith, g))
  by false (site.Own j) g = light_one _ 1 (1 + w) (omega (arith, g)) (omega (arith, g))
  by true (site.Fixed f) g = light_one _ 1 (5 + w) (omega (arith, g)) (omega (arith, g))
  by false (site.Fixed f) g = light_one _ 1 (1 + w) (omega (arith, g)) (omega (arith, g))
  by true site.Stacked g = light_both code _ 1 0 w 5 1 (5 + w) k (light_one _ 0 5 (omega arith) (omega arith)) (omega arith) (omega arith)
  by false site.Stacked g = light_both code _ 1 0 w 1 1 (1 + w) k (light_one _ 0 1 (omega arith) (omega arith)) (omega arith) (omega arith)

reached_light : (s : Site) (code : List Ins) (w : ℕ) → Light code 1 w → Light (wanted s code ++ reached s) 1 (13 + w)
reached_light (site.Own j) code w k = record { words = omega arith; made = omega arith }
reached_light (site.Fixed f) code w k = light_one _ 1 (13 + w) (omega arith) (omega arith)
reached_light site.Stacked code w k = light_both code [] 1 0 w 0 1 (13 + w) k light_none (omega arith) (omega arith)

row_light : (n : ℕ) (more : List Ins) (s : Site) (code : List Ins) (w : ℕ) → Light more 0 2 → Light code 1 w → Light (wanted s code ++ row_reached n more s) 1 (13 + w)
row_light n more (site.Own j) code w h k = record { words = omega (arith, h.words); made = omega (arith, h.made) }
row_light n more (site.Fixed f) code w h k = light_one _ 1 (13 + w) (omega arith) (omega arith)
row_light n more site.Stacked code w h k = light_both code more 1 0 w 2 1 (13 + w) k h (omega arith) (omega arith)

told_light : (n : ℕ) (s : Site) (code : List Ins) (w : ℕ) → Light code 1 w → Light (wanted s code ++ told n s ∷ []) 1 (17 + w)
told_light n (site.Own j) code w k = light_one _ 1 (17 + w) (omega arith) (omega arith)
told_light n (site.Fixed f) code w k = light_one _ 1 (17 + w) (omega arith) (omega arith)
told_light n site.Stacked code w k = light_both code _ 1 0 w 2 1 (17 + w) k (light_one _ 0 2 (omega arith) (omega arith)) (omega arith) (omega arith)

element_light : (n z : ℕ) (s : Site) (code sub : List Ins) (w v : ℕ) → Light code 1 w → Light sub 1 v → Light (wanted s code ++ (sub ++ element n z s ∷ [])) 1 (20 + (w + v))
element_light n z (site.Own j) code sub w v h k = light_both sub _ 1 0 v 12 1 (20 + (w + v)) k (light_one _ 0 12 (omega (arith, scaled z)) (omega arith)) (omega arith) (omega arith)
element_light n z (site.Fixed f) code sub w v h k = light_both sub _ 1 0 v 12 1 (20 + (w + v)) k (light_one _ 0 12 (omega (arith, scaled z)) (omega arith)) (omega arith) (omega arith)
element_light n z site.Stacked code sub w v h k =
    light_both code _ 1 1 w (v + 12) 1 (20 + (w + v)) h (light_both sub _ 1 0 v 12 1 (v + 12) k (light_one _ 0 12 (omega (arith, scaled z)) (omega arith)) (omega arith) (omega arith)) (omega arith) (omega arith)

written_light : (z : Width) (s : Site) (code val : List Ins) (w v : ℕ) → Light code 1 w → Light val 1 v → Light (wanted s code ++ (val ++ written z s ∷ [])) 0 (17 + (w + v))
written_light z (site.Own j) code val w v h k = light_both val _ 1 0 v 2 0 (17 + (w + v)) k (light_one _ 0 2 (omega arith) (omega arith)) (omega arith) (omega arith)
written_light z (site.Fixed f) code val w v h k = light_both val _ 1 0 v 2 0 (17 + (w + v)) k (light_one _ 0 2 (omega arith) (omega arith)) (omega arith) (omega arith)
written_light z site.Stacked code val w v h k =
    light_both code _ 1 1 w (v + 1) 0 (17 + (w + v)) h (light_both val _ 1 0 v 1 1 (v + 1) k (light_one _ 0 1 (omega arith) (omega arith)) (omega arith) (omega arith)) (omega arith) (omega arith)

module _ (l : Layouts) where
  field_weighs : (r k : ℕ) (s : Site) (w : ℕ) → Weighs (field_site l r k s) (23 + w)
  field_weighs r k (site.Own j) w = tt
  field_weighs r k (site.Fixed f) w = omega arith
  field_weighs r k site.Stacked w = tt

  site_weighs : (p : Path) → Weighs (site_of l p) (path_weight p)
  site_weighs (ItemAt b i) = omega arith
  site_weighs (Svc k) = omega arith
  site_weighs (FieldOf p r k) = field_weighs r k (site_of l p) (path_weight p)
  site_weighs (Elem p v n m) = tt
  site_weighs (ElemRow a v m) = tt
  site_weighs (Past v) = tt

  mutual
    pub value_light : (t : Term) → Light (value l t) 1 (term_weight t)
    value_light (Num n) = light_one _ 1 3 (omega arith) (omega arith)
    value_light (Str n) = light_one _ 1 3 (omega arith) (omega arith)
    value_light (Name b) = light_one _ 1 3 (omega arith) (omega arith)
    value_light (Own i) = light_one _ 1 4 (omega arith) (omega arith)
    value_light (Get m p) = read_light m (site_of l p) (address l p) (path_weight p) (site_weighs p) (address_light p)
    value_light (Ref p) = reached_light (site_of l p) (address l p) (path_weight p) (address_light p)
    value_light (RefRow (FieldOf p r k) n) =
        light_more _ 1 (13 + path_weight p) 1 (13 + (23 + path_weight p)) (row_light n (ins.IntoRow k (field_offset l r k) n ∷ []) (field_site l r k (site_of l p)) (address l p) (path_weight p) (light_one _ 0 2 (omega arith) (omega arith)) (address_light p)) (omega arith) (omega arith)
    value_light (RefRow (ItemAt b i) n) = light_one _ 1 16 (omega arith) (omega arith)
    value_light (RefRow (Svc k) n) = record { words = omega arith; made = omega arith }
    value_light (RefRow (Elem p v k m) n) = row_light n [] site.Stacked (address l (Elem p v k m)) (path_weight (Elem p v k m)) (light_more [] 0 0 0 2 light_none (omega arith) (omega arith)) (address_light (Elem p v k m))
    value_light (RefRow (ElemRow a v m) n) = row_light n [] site.Stacked (address l (ElemRow a v m)) (path_weight (ElemRow a v m)) (light_more [] 0 0 0 2 light_none (omega arith) (omega arith)) (address_light (ElemRow a v m))
    value_light (RefRow (Past v) n) = row_light n [] site.Stacked (value l v) (term_weight v) (light_more [] 0 0 0 2 light_none (omega arith) (omega arith)) (value_light v)
    value_light (Count p n) = told_light n (site_of l p) (address l p) (path_weight p) (address_light p)
    value_light (CountRow v) = light_both (value l v) _ 1 0 (term_weight v) 1 1 _ (value_light v) (light_one _ 0 1 (omega arith) (omega arith)) (omega arith) (omega arith)
    value_light (One o v) = light_both (value l v) (altered o) 1 0 (term_weight v) (operator_weight o) 1 _ (value_light v) (altered_light o) (omega arith) (omega arith)
    value_light (Two o a b) =
        light_both (value l a) _ 1 1 (term_weight a) (term_weight b + 8) 1 _ (value_light a) (light_both (value l b) _ 1 0 (term_weight b) 8 1 (term_weight b + 8) (value_light b) (merged_light o) (omega arith) (omega arith)) (omega arith) (omega arith)
    value_light (Over o a b) =
        light_both (value l a) _ 1 1 (term_weight a) (term_weight b + 8) 1 _ (value_light a) (light_both (value l b) _ 1 0 (term_weight b) 8 1 (term_weight b + 8) (value_light b) (divided_light o (is_sure b)) (omega arith) (omega arith)) (omega arith) (omega arith)
    value_light (Apply b vs) = light_both (values l vs) _ 0 2 (terms_weight vs) 12 1 _ (values_light vs) (called b (how_many vs) true) (omega arith) (omega arith)
    value_light (ApplyBy m f vs) =
        light_both (value l f) _ 1 0 (term_weight f) (terms_weight vs + 8) 1 _ (value_light f) (light_both (values l vs) _ 0 0 (terms_weight vs) 8 0 (terms_weight vs + 8) (values_light vs) (called_by (how_many vs) true) (omega arith) (omega arith)) (omega arith) (omega arith)

    pub address_light : (p : Path) → Light (address l p) 1 (path_weight p)
    address_light (ItemAt b i) = record { words = omega arith; made = omega arith }
    address_light (Svc k) = record { words = omega arith; made = omega arith }
    address_light (FieldOf p r k) = light_both (address l p) _ 1 0 (path_weight p) 2 1 _ (address_light p) (light_one _ 0 2 (omega arith) (omega arith)) (omega arith) (omega arith)
    address_light (Elem p v n m) = element_light n (bytes l m) (site_of l p) (address l p) (value l v) (path_weight p) (term_weight v) (address_light p) (value_light v)
    address_light (ElemRow a v m) =
        light_both (value l a) _ 1 1 (term_weight a) (term_weight v + 12) 1 _ (value_light a)
        (light_both (value l v) _ 1 0 (term_weight v) 12 1 (term_weight v + 12) (value_light v) (light_one _ 0 12 (omega (arith, scaled (bytes l m))) (omega arith)) (omega arith) (omega arith)) (omega arith) (omega arith)
    address_light (Past v) = value_light v

    pub values_light : (vs : Terms) → Light (values l vs) 0 (terms_weight vs)
    values_light NoTerm = light_none
    values_light (MoreTerms v vs) = light_both (value l v) (values l vs) 1 0 (term_weight v) (terms_weight vs) 0 _ (value_light v) (values_light vs) (omega arith) (omega arith)

  dropped_light : (v : Term) → Light (value l v ++ ins.Discard ∷ []) 0 (term_weight v)
  dropped_light v =
      let h = value_light v in
      record {
        words = omega (arith, h.words, total_append words_of (value l v) (ins.Discard ∷ []));
        made = omega (arith, h.made, total_append unmarked_of (value l v) (ins.Discard ∷ []));
      }

  pub alone_light : (v : Term) → Light (alone l v) 0 (term_weight v)
  alone_light (Apply b vs) = light_both (values l vs) _ 0 2 (terms_weight vs) 12 0 _ (values_light vs) (called b (how_many vs) false) (omega arith) (omega arith)
  alone_light (ApplyBy m f vs) =
      light_both (value l f) _ 1 0 (term_weight f) (terms_weight vs + 8) 0 _ (value_light f) (light_both (values l vs) _ 0 0 (terms_weight vs) 8 0 (terms_weight vs + 8) (values_light vs) (called_by (how_many vs) false) (omega arith) (omega arith)) (omega arith) (omega arith)
  alone_light v = dropped_light v

  -- ---- conditions and statements

  pub condition_light : (t : Cond) (w : Bool) (n : ℕ) → Light (condition l t w n) 0 (condition_weight t)
  condition_light (Is r a b) w n =
      light_both (value l a) _ 1 1 (term_weight a) (term_weight b + 4) 0 _ (value_light a) (light_both (value l b) _ 1 0 (term_weight b) 4 1 (term_weight b + 4) (value_light b) (light_one _ 0 4 (omega arith) (omega arith)) (omega arith) (omega arith)) (omega arith) (omega arith)
  condition_light (Both t u) true n = light_both _ _ 0 0 (condition_weight t) (condition_weight u) 0 _ (condition_light t false _) (condition_light u true n) (omega arith) (omega arith)
  condition_light (Both t u) false n = light_both _ _ 0 0 (condition_weight t) (condition_weight u) 0 _ (condition_light t false _) (condition_light u false n) (omega arith) (omega arith)
  condition_light (Either t u) true n = light_both _ _ 0 0 (condition_weight t) (condition_weight u) 0 _ (condition_light t true _) (condition_light u true n) (omega arith) (omega arith)
  condition_light (Either t u) false n = light_both _ _ 0 0 (condition_weight t) (condition_weight u) 0 _ (condition_light t true _) (condition_light u false n) (omega arith) (omega arith)

  followed_light : (v : Term) (i : Ins) (most n m : ℕ) → Light (i ∷ []) n most → term_weight v + most ≤ m → Light (value l v ++ i ∷ []) n m
  followed_light v i most n m h e = light_both (value l v) (i ∷ []) 1 n (term_weight v) most n m (value_light v) h (omega arith) e

  cases_light : (L : Leads) (ks : List ℕ) → Light (cases L ks) 0 (24 * length ks)
  cases_light L [] = light_none
  cases_light L (k ∷ ks) = light_behind _ _ 0 (24 * length ks) 0 (24 * length (k ∷ ks)) (cases_light L ks) (omega arith) (omega arith)

  head_light : (i : ℕ) (start step end : Term) → Light (for_head l i start step end) 0 (4 + (term_weight start + (term_weight step + term_weight end)))
  head_light i start step end =
      let last = light_behind (ins.SaveLocal (i + 1)) (value l end) 1 (term_weight end) 1 (2 + term_weight end) (value_light end) (omega arith) (omega arith) in
      let middle = light_both (value l step) _ 1 1 (term_weight step) (2 + term_weight end) 1 (term_weight step + (2 + term_weight end)) (value_light step) last (omega arith) (omega arith) in
      let first = light_behind (ins.SaveLocal i) _ 1 (term_weight step + (2 + term_weight end)) 1 (2 + (term_weight step + (2 + term_weight end))) middle (omega arith) (omega arith) in
      light_both (value l start) _ 1 1 (term_weight start) (2 + (term_weight step + (2 + term_weight end))) 0 _ (value_light start) first (omega arith) (omega arith)

  -- a turn of a loop, its count and its jump back, where the loop has room for three locals
  loop_light : (count turn : Ins) (body : List Ins) (spare b most : ℕ) → Light (count ∷ []) 0 most → Light body spare b → Light (turn ∷ []) 0 10 → Light (count ∷ (body ++ turn ∷ [])) spare (most + (b + 10))
  loop_light count turn body spare b most h k e =
      light_both (count ∷ []) (body ++ turn ∷ []) 0 spare most (b + 10) spare _ h (light_both body (turn ∷ []) spare 0 b 10 spare (b + 10) k e (omega arith) (omega arith)) (omega arith) (omega arith)

  -- room for the three locals of a loop
  three : (xs : List Ins) (s a m : ℕ) → Light xs s a → a + 3 ≤ m → Light xs (3 + s) m
  three xs s a m h e = record { words = omega (arith, h.words); made = omega (arith, h.made) }

  mutual
    pub statement_light : (L : Leads) (at : ℕ) (s : Stmt) → Light (statement l L at s) (room s) (statement_weight s)
    statement_light L at (Keep i v) = followed_light v (ins.SaveLocal i) 3 1 _ (light_one _ 1 3 (omega arith) (omega arith)) (omega arith)
    statement_light L at (Clear i) = light_one _ 1 12 (omega arith) (omega arith)
    statement_light L at (Put m p v) = written_light (width_of m) (site_of l p) (address l p) (value l v) (path_weight p) (term_weight v) (address_light p) (value_light v)
    statement_light L at (Run v) = alone_light v
    statement_light L at (Toss v) = light_more _ 0 (term_weight v) 0 _ (alone_light v) (omega arith) (omega arith)
    statement_light L at (Goto k) = light_one _ 0 24 (omega arith) (omega arith)
    statement_light L at (GiveBack v) = followed_light v ins.GiveUp 3 0 _ (light_one _ 0 3 (omega arith) (omega arith)) (omega arith)
    statement_light L at Back = light_one _ 0 12 (omega arith) (omega arith)
    statement_light L at (Switch v ks) =
        light_both (value l v) _ 1 0 (term_weight v) (24 * length ks + 1) 0 _ (value_light v) (light_both (cases L ks) _ 0 0 (24 * length ks) 1 0 (24 * length ks + 1) (cases_light L ks) (light_one _ 0 1 (omega arith) (omega arith)) (omega arith) (omega arith)) (omega arith) (omega arith)
    statement_light L at (Inner q) = sequence_light L at q
    statement_light L at (If t a b) =
        light_both _ _ 0 (room_in a + room_in b) (condition_weight t) (sequence_weight a + (2 + sequence_weight b)) (room_in a + room_in b) _ (condition_light t false _)
        (light_both _ _ (room_in a) (room_in b) (sequence_weight a) (2 + sequence_weight b) (room_in a + room_in b) (sequence_weight a + (2 + sequence_weight b)) (sequence_light L _ a)
        (light_behind _ _ (room_in b) (sequence_weight b) (room_in b) (2 + sequence_weight b) (sequence_light L _ b) (omega arith) (omega arith)) (omega arith) (omega arith)) (omega arith) (omega arith)
    statement_light L at (For i start step end q) =
        let head = term_weight start + (term_weight step + term_weight end) in
        three _ (room_in q) (26 + (head + sequence_weight q)) _
        (light_both (for_head l i start step end) _ 0 (room_in q) (4 + head) (12 + (sequence_weight q + 10)) (room_in q) (26 + (head + sequence_weight q)) (head_light i start step end)
        (loop_light _ _ _ (room_in q) (sequence_weight q) 12 (light_one _ 0 12 (omega arith) (omega arith)) (sequence_light L _ q) (light_one _ 0 10 (omega arith) (omega arith))) (omega arith) (omega arith)) (omega arith)
    statement_light L at (To i n q) =
        three _ (room_in q) (17 + (term_weight n + sequence_weight q)) _
        (light_both (value l n) _ 1 (room_in q) (term_weight n) (7 + (sequence_weight q + 10)) (room_in q) (17 + (term_weight n + sequence_weight q)) (value_light n)
        (loop_light _ _ _ (room_in q) (sequence_weight q) 7 (light_one _ 0 7 (omega arith) (omega arith)) (sequence_light L _ q) (light_one _ 0 10 (omega arith) (omega arith))) (omega arith) (omega arith)) (omega arith)
    statement_light L at (While t q) =
        light_both _ _ 0 (room_in q) (condition_weight t) (sequence_weight q + 2) (room_in q) _ (condition_light t false _) (light_both _ _ (room_in q) 0 (sequence_weight q) 2 (room_in q) (sequence_weight q + 2) (sequence_light L _ q) (light_one _ 0 2 (omega arith) (omega arith)) (omega arith) (omega arith)) (omega arith) (omega arith)
    statement_light L at (Recover k) = light_more [] 0 0 0 36 light_none (omega arith) (omega arith)

    pub sequence_light : (L : Leads) (at : ℕ) (q : Seq) → Light (sequence l L at q) (room_in q) (sequence_weight q)
    sequence_light L at Done = light_none
    sequence_light L at (Then s q) = light_both _ _ (room s) (room_in q) (statement_weight s) (sequence_weight q) _ _ (statement_light L at s) (sequence_light L _ q) (omega arith) (omega arith)
    sequence_light L at (Mark k q) = sequence_light L at q
