-- Where every name that is seen can be known, and the mode of each field, all that is judged is known, or has a fault.
use Rattle.std.proofs.Common.{◌≡◌, ℕ, ◌==◌, Bool, true, false, List, [], ◌∷◌, map, length, Option, Some, None, Ok, Err, if◌then◌else◌, refl, sym, ◌∙◌, subst}
use Rattle.std.specs.Prelude.{position}
use Rattle.std.specs.List.{AllByRecursion}
use Rattle.rt_grammar.specs.declared.at.At.{At}
use Rattle.rt_grammar.specs.declared.at.Ident.{Ident}
use Rattle.rt_syntax_exprs.specs.declared.tree.Chain.{Chain, out-Chain, roll-Chain, map-Chain}
use Rattle.rt_syntax_exprs.specs.declared.tree.Expr.{Expr, out-Expr, roll-Expr, map-Expr}
use Rattle.rt_syntax_exprs.specs.declared.tree.Expr as expressions
use Rattle.rt_syntax_exprs.specs.declared.tree.Expr.TheFolds.{ind-Expr, ind-Chain, fold_out-Expr, fold_out-Link, fold_out-Chain}
use Rattle.rt_syntax_exprs.specs.declared.tree.Expr.TheOpen.{Expr-F, Link-F, Chain-F}
use Rattle.rt_syntax_exprs.specs.declared.tree.Link.{Link, out-Link, roll-Link, map-Link}
use Rattle.rt_syntax_exprs.specs.declared.tree.Link as links
use Rattle.rt_syntax_exprs.specs.declared.tree.Op1.{Op1}
use Rattle.rt_syntax_exprs.specs.declared.tree.Op2.{Op2}
use Rattle.rt_modes.specs.declared.mode.Mode.{Mode, out-Mode}
use Rattle.rt_modes.specs.declared.mode.RecordDef.{RecordDef}
use Rattle.rt_tree_nodes.specs.declared.operators.Op1.{Op1 as Made1}
use Rattle.rt_tree_nodes.specs.declared.value.Place.{Place}
use Rattle.rt_tree_nodes.specs.declared.value.Place.TheVariants as places
use Rattle.rt_tree_nodes.specs.declared.value.Value.{Value}
use Rattle.rt_tree_nodes.specs.declared.value.Value.TheVariants as values
use Rattle.rt_check_faults.specs.declared.fault.CheckFault.{CheckFault}
use Rattle.rt_check_faults.specs.declared.fault.CheckFault.TheVariants as fault
use Rattle.rt_exprs.specs.declared.operand.Base.{Base}
use Rattle.rt_exprs.specs.declared.operand.Base.TheVariants as base
use Rattle.rt_exprs.specs.declared.operand.Standing.{Standing}
use Rattle.rt_exprs.specs.declared.operand.Standing.TheVariants as standing
use Rattle.rt_exprs.specs.declared.scope.Meaning.{Meaning}
use Rattle.rt_exprs.specs.declared.scope.Meaning.TheVariants as meaning
use Rattle.rt_exprs.specs.Sights.{Sight}
use Rattle.rt_exprs.specs.Modes.{Want, basic, want}
use Rattle.rt_exprs.specs.Names.{find, text_by}
use Rattle.rt_exprs.specs.Operands.{Is, place, computed, Judged, named, first_field, is_label, suits, suits_as, if_known, fits, by_itself}
use Rattle.rt_check_faults.specs.Outcomes.{Outcome, ◌>>=◌, both, after, is_unknown, sooner, or_fault, or_other}
use Rattle.rt_exprs.specs.Judging.{seen_as, record_in, field_with, field_at, dot_by, dot_after, Reach, rows, calls, neither, reach, arguments_from, called, if_counted, counted, subscript, apply_by, all_alone, apply_after, walk, val_by, target_of, val, base_in, frac_or_int, takes, gives, made_monadic, array_in, length_of, monadic_by, monadic, of_int, right_takes, made_dyadic, computes, right_alone, left_first, dyadic, begun, chained, judged, linked, judged_chain}
use Rattle.rt_check_bodies_laws.specs.Held.{IsKnown}
use Rattle.rt_check_bodies_laws.proofs.Real.{real_left, suits_real}

-- what is seen in a scope can be known
pub record Knows (s : Sight) : Type 0 where
  pub names : (name : List ℕ) (is : Meaning) → find s name ≡ Some is → IsKnown is
  pub fields : (r k : ℕ) (name : List ℕ) (m : Mode) → first_field s.records r name ≡ Some (k, m) → is_label (out-Mode m) ≡ false

-- an answer that isn't what can't be known
abbrev pub Certain : {A : Type 0} → Outcome A → Type 0
Certain (Ok x) = Unit {0}
Certain (Err g) = is_unknown g ≡ false

-- the same, and all of what is found is known
abbrev pub Sure : Outcome Judged → Type 0
Sure (Ok j) = j.known ≡ true
Sure (Err g) = is_unknown g ≡ false

-- ---- answers that are joined

pub then_certain : {A B : Type 0} (t : Outcome A) (q : A → Outcome B) → Certain t → ((x : A) → Certain (q x)) → Certain (t >>= q)
then_certain (Ok x) q h g = g x
then_certain (Err g) q h k = h

pub both_certain : {A B : Type 0} (t : Outcome A) (u : Outcome B) → Certain t → Certain u → Certain (both t u)
both_certain (Ok x) (Ok y) h k = tt
both_certain (Ok x) (Err g) h k = k
both_certain (Err g) (Ok y) h k = h
both_certain (Err g) (Err q) h k = real_left g q h

pub after_certain : {A : Type 0} (t : Outcome (List A)) (u : Outcome A) → Certain t → Certain u → Certain (after t u)
after_certain (Ok xs) (Ok y) h k = tt
after_certain (Ok xs) (Err g) h k = k
after_certain (Err g) (Ok y) h k = h
after_certain (Err g) (Err q) h k = real_left g q h

pub known_if : {A : Type 0} (b : Bool) (t : Outcome A) → b ≡ true → if_known b t ≡ t
known_if true t e = refl
known_if false t e = absurd cc

pub suits_certain : (j : Judged) (w : Want) → j.known ≡ true → Certain (suits_as j w)
suits_certain j w k = subst (λ (t : Outcome Value). Certain t) (sym (known_if j.known (suits j.found w) k)) (by_value (suits j.found w) refl) where
  by_value : (t : Outcome Value) → suits j.found w ≡ t → Certain t
  by_value (Ok x) e = tt
  by_value (Err g) e = suits_real j.found w g e

pub fits_certain : (t : Outcome Judged) (w : Want) → Sure t → Certain (fits t w)
fits_certain (Ok j) w k = suits_certain j w k
fits_certain (Err g) w n = n

-- a thing that is known, and said to be
abbrev SureWith : {A : Type 0} → Outcome (A × Bool) → Type 0
SureWith (Ok x) = x.1 ≡ true
SureWith (Err g) = is_unknown g ≡ false

other_sure : {A : Type 0} (other : A) (k : Bool) (t : Outcome A) → k ≡ true → Certain t → SureWith (or_other other k t)
other_sure other k (Ok x) e h = e
other_sure other k (Err fault.Unknown) e h = absurd (let bad : true ≡ false = h in cc)
other_sure other k (Err _) e h = refl

made_sure : {A : Type 0} (t : Outcome (A × Bool)) (q : A × Bool → Judged) → ((x : A × Bool) → (q x).known ≡ x.1) → SureWith t → Sure (t >>= λ x. Ok (q x))
made_sure (Ok x) q e h = e x ∙ h
made_sure (Err g) q e h = h

-- ---- operands

text_sure : (at : At) (o : Option ℕ) → Sure (text_by at o)
text_sure at None = refl
text_sure at (Some n) = refl

led_sure : (at first : At) (k : Bool) (o : Option (Place × Mode)) → k ≡ true → Sure (val_by at first k o)
led_sure at first k None e = refl
led_sure at first k (Some x) e = e

val_sure : (at : At) (t : Outcome Judged) → Sure t → Sure (val at t)
val_sure at (Ok j) k = led_sure at j.found.at j.known (target_of j.found.is) k
val_sure at (Err g) n = n

length_sure : (at : At) (j : Judged) → j.known ≡ true → Sure (length_of at j)
length_sure at j k = by_array (array_in j.found.is) where
  by_array : (o : Option Place) → Sure (or_fault (fault.WrongMode j.found.at) o >>= λ p. Ok (seen_as j.known at (computed (values.Length p) base.Int)))
  by_array None = refl
  by_array (Some p) = k

by_operator : (at : At) (op : Op1) (j : Judged) → j.known ≡ true → (o : Option Made1) → Sure (monadic_by at op j o)
by_operator at op j k None = length_sure at j k
by_operator at op j k (Some o) =
    let b : Base = takes op (base_in j.found.is) in
    made_sure (or_other (values.Number 0) true (suits_as j (basic b))) (λ x. seen_as x.1 at (computed (values.Monadic o x.0) (gives op (base_in j.found.is)))) (λ x. refl) (other_sure (values.Number 0) true (suits_as j (basic b)) refl (suits_certain j (basic b) k))

monadic_sure : (at : At) (op : Op1) (t : Outcome Judged) → Sure t → Sure (monadic at op t)
monadic_sure at op (Ok j) k = by_operator at op j k (made_monadic op)
monadic_sure at op (Err fault.Unknown) n = absurd (let bad : true ≡ false = n in cc)
monadic_sure at op (Err _) n = refl

computes_sure : (at : At) (op : Op2) (b : Base) (t : Outcome (Value × Value)) → Certain t → Sure (computes at op b t)
computes_sure at op b t h =
    made_sure (or_other (values.Number 0, values.Number 0) true t) (λ x. seen_as x.1 at (computed (values.Dyadic (made_dyadic op b) x.0.0 x.0.1) b)) (λ x. refl) (other_sure (values.Number 0, values.Number 0) true t refl h)

left_sure : (at : At) (op : Op2) (a c : Outcome Judged) → Sure a → Sure c → Sure (left_first at op a c)
left_sure at op (Ok j) c k h =
    let b : Base = frac_or_int (base_in j.found.is) in
    computes_sure at op b (both (suits_as j (basic b)) (fits c (basic (right_takes op b)))) (both_certain (suits_as j (basic b)) (fits c (basic (right_takes op b))) (suits_certain j (basic b) k) (fits_certain c (basic (right_takes op b)) h))
left_sure at op (Err g) c n h = real_left g (right_alone op c) n

dyadic_sure : (at : At) (op : Op2) (a c : Outcome Judged) → Sure a → Sure c → Sure (dyadic at op a c)
dyadic_sure at op a c k h = by_form (of_int op) where
  by_form : (b : Bool) → Sure (if b then computes at op base.Int (both (fits a (basic base.Int)) (fits c (basic base.Int))) else left_first at op a c)
  by_form true = computes_sure at op base.Int (both (fits a (basic base.Int)) (fits c (basic base.Int))) (both_certain (fits a (basic base.Int)) (fits c (basic base.Int)) (fits_certain a (basic base.Int) k) (fits_certain c (basic base.Int) h))
  by_form false = left_sure at op a c k h

-- ---- links

field_sure : (b : Bool) (j : Judged) (p : Place) (st : Standing) (k : ℕ) (m : Mode) → b ≡ false → j.known ≡ true → Sure (field_with b j p st k m)
field_sure true j p st k m n e = absurd cc
field_sure false j p st k m n e = e

any_field_sure : (at : At) (j : Judged) (p : Place) (st : Standing) (o : Option (ℕ × Mode)) → j.known ≡ true → ((k : ℕ) (m : Mode) → o ≡ Some (k, m) → is_label (out-Mode m) ≡ false) → Sure (field_at at j p st o)
any_field_sure at j p st None e h = refl
any_field_sure at j p st (Some x) e h = field_sure (is_label (out-Mode x.1)) j p st x.0 x.1 (h x.0 x.1 refl) e

dot_sure : (records : List RecordDef) (n : Ident) (at : At) (j : Judged) → j.known ≡ true → ((r k : ℕ) (m : Mode) → first_field records r n.name ≡ Some (k, m) → is_label (out-Mode m) ≡ false) → (o : Option (Place × ℕ × Standing)) → Sure (dot_by records n at j o)
dot_sure records n at j e h None = refl
dot_sure records n at j e h (Some x) = any_field_sure n.at j x.0 x.2 (first_field records x.1 n.name) e (h x.1)

abbrev AllSure : List (Outcome Judged) → Type 0
AllSure = AllByRecursion Sure

subscript_certain : (mark : At) (ts : List (Outcome Judged)) → AllSure ts → Certain (subscript mark ts)
subscript_certain mark [] h = refl
subscript_certain mark (t ∷ []) h = fits_certain t (basic base.Int) h.0
subscript_certain mark (t ∷ u ∷ ts) h = refl

arguments_certain : (so_far : Outcome (List Value)) (ts : List (Outcome Judged)) (ms : List Mode) → AllSure ts → Certain so_far → Certain (arguments_from so_far ts ms)
arguments_certain so_far [] ms h k = k
arguments_certain so_far (t ∷ ts) [] h k = k
arguments_certain so_far (t ∷ ts) (m ∷ ms) h k = arguments_certain (after so_far (fits t (want m))) ts ms h.1 (after_certain so_far (fits t (want m)) k (fits_certain t (want m) h.0))

by_count : (at : At) (b : Bool) (t : Outcome (List Value)) → Certain t → Certain (if_counted at b t)
by_count at true t h = h
by_count at false (Ok xs) h = refl
by_count at false (Err fault.Unknown) h = refl
by_count at false (Err _) h = refl

reach_sure : (mark : At) (ts : List (Outcome Judged)) (at : At) (k : Bool) → AllSure ts → k ≡ true → (r : Reach) → Sure (apply_by mark ts at k r)
reach_sure mark ts at k h e (rows p m st) =
    made_sure (or_other (values.Number 0) k (subscript mark ts)) (λ x. seen_as x.1 at (place (places.Element p x.0) m st)) (λ x. refl) (other_sure (values.Number 0) k (subscript mark ts) e (subscript_certain mark ts h))
reach_sure mark ts at k h e (calls c ps r) =
    let none : List Value = [] in
    made_sure (or_other none k (counted at ts ps)) (λ x. seen_as x.1 at (called c r x.0)) (λ x. refl) (other_sure none k (counted at ts ps) e (by_count at (length ts == length ps) (arguments_from (Ok []) ts ps) (arguments_certain (Ok []) ts ps h tt)))
reach_sure mark ts at k h e neither = refl

all_real : (g : CheckFault) (ts : List (Outcome Judged)) → is_unknown g ≡ false → is_unknown (all_alone g ts) ≡ false
all_real g [] n = n
all_real g (t ∷ ts) n = all_real (sooner g (by_itself t)) ts (real_left g (by_itself t) n)

apply_sure : (mark : At) (ts : List (Outcome Judged)) (t : Outcome Judged) → AllSure ts → Sure t → Sure (apply_after mark ts t)
apply_sure mark ts (Ok j) h k = reach_sure mark ts j.found.at j.known h k (reach j.found.is)
apply_sure mark ts (Err g) h n = all_real g ts n

-- ---- chains

name_certain : (at : At) (o : Option Meaning) → ((is : Meaning) → o ≡ Some is → IsKnown is) → Certain (named at o)
name_certain at None h = refl
name_certain at (Some (meaning.Proc k m)) h = tt
name_certain at (Some (meaning.Item b i m)) h = tt
name_certain at (Some (meaning.SvcItem b i m)) h = tt
name_certain at (Some (meaning.Svc k m)) h = own (k == 0) where
  own : (b : Bool) → Certain (if b then Err (fault.LeftOut 2 at) else Ok (place (places.Svc k) m standing.Private))
  own true = refl
  own false = tt
name_certain at (Some (meaning.Local k m)) h = tt
name_certain at (Some (meaning.Loop k)) h = tt
name_certain at (Some meaning.UnknownProc) h = absurd (h meaning.UnknownProc refl)
name_certain at (Some meaning.Unknown) h = absurd (h meaning.Unknown refl)
name_certain at (Some _) h = refl

begun_sure : (at : At) (t : Outcome Is) → Certain t → Sure (t >>= λ is. Ok (seen_as true at is))
begun_sure at (Ok is) h = refl
begun_sure at (Err g) h = h

abbrev LinkSure : (Outcome Judged → Outcome Judged) → Type 0
LinkSure l = (t : Outcome Judged) → Sure t → Sure (l t)

walk_sure : (ls : List (Outcome Judged → Outcome Judged)) (t : Outcome Judged) → AllByRecursion LinkSure ls → Sure t → Sure (walk ls t)
walk_sure [] t h k = k
walk_sure (l ∷ ls) t h k = walk_sure ls (l t) h.1 (h.0 t k)

module _ (s : Sight) (a : Knows s) where
  abbrev ExprM : Expr → Type 0
  ExprM e = Sure (judged s e)

  abbrev LinkM : Link → Type 0
  LinkM l = LinkSure (linked s l)

  abbrev ChainM : Chain → Type 0
  ChainM c = Sure (judged_chain s c)

  abbrev ExprPair : Type 0
  ExprPair = (e : Expr) × ExprM e

  abbrev LinkPair : Type 0
  LinkPair = (l : Link) × LinkM l

  abbrev ChainPair : Type 0
  ChainPair = (c : Chain) × ChainM c

  abbrev texts : List ExprPair → List Expr
  texts es = map (λ (e : ExprPair). e.0) es

  all_sure : (es : List ExprPair) → AllSure (map (judged s) (texts es))
  all_sure [] = tt
  all_sure (e ∷ es) = (e.1, all_sure es)

  all_links : (ls : List LinkPair) → AllByRecursion LinkSure (map (linked s) (map (λ (l : LinkPair). l.0) ls))
  all_links [] = tt
  all_links (l ∷ ls) = (l.1, all_links ls)

  -- ---- by the first level

  opened_number : (e : Expr) (n : ℕ) (at : At) → out-Expr e ≡ Expr-F.Number n at → ExprM e
  unfolding judged
  opened_number e n at o = rw (fold_out-Expr, o) refl

  opened_text : (e : Expr) (t : List ℕ) (at : At) → out-Expr e ≡ Expr-F.Text t at → ExprM e
  unfolding judged
  opened_text e t at o = rw (fold_out-Expr, o) (text_sure at (position (λ x. x == at.item) s.strings))

  opened_chain : (e : Expr) (c : Chain) → out-Expr e ≡ Expr-F.Chain c → judged s e ≡ judged_chain s c
  unfolding judged judged_chain
  opened_chain e c o = rw (fold_out-Expr, o) refl

  opened_val : (e : Expr) (c : Chain) (at : At) → out-Expr e ≡ Expr-F.Val c at → judged s e ≡ val at (judged_chain s c)
  unfolding judged judged_chain
  opened_val e c at o = rw (fold_out-Expr, o) refl

  opened_monadic : (e x : Expr) (op : Op1) (at : At) → out-Expr e ≡ Expr-F.Monadic op x at → judged s e ≡ monadic at op (judged s x)
  unfolding judged
  opened_monadic e x op at o = rw (fold_out-Expr, o) refl

  opened_dyadic : (e x y : Expr) (op : Op2) (at : At) → out-Expr e ≡ Expr-F.Dyadic op x y at → judged s e ≡ dyadic at op (judged s x) (judged s y)
  unfolding judged
  opened_dyadic e x y op at o = rw (fold_out-Expr, o) refl

  opened_dot : (l : Link) (n : Ident) (at : At) (t : Outcome Judged) → out-Link l ≡ Link-F.Dot n at → linked s l t ≡ dot_after s.records n at t
  unfolding linked
  opened_dot l n at t o = rw (fold_out-Link, o) refl

  opened_apply : (l : Link) (es : List Expr) (at : At) (t : Outcome Judged) → out-Link l ≡ Link-F.Apply es at → linked s l t ≡ apply_after at (map (judged s) es) t
  unfolding linked judged
  opened_apply l es at t o = rw (fold_out-Link, o) refl

  chain_as : (c : Chain) → judged_chain s c ≡ chained s (out-Chain c).name (out-Chain c).at (map (linked s) (out-Chain c).links)
  unfolding judged_chain linked
  chain_as c = rw fold_out-Chain refl

  as_expr : (e : Expr) (t : Outcome Judged) → judged s e ≡ t → Sure t → ExprM e
  as_expr e t is h = subst Sure (sym is) h

  expr_level : (e : Expr) (y : Expr-F ExprPair LinkPair ChainPair) → out-Expr e ≡ map-Expr ExprPair LinkPair ChainPair Expr Link Chain (λ e. e.0) (λ e. e.0) (λ e. e.0) y → ExprM e
  expr_level e (Expr-F.Number n at) o = opened_number e n at o
  expr_level e (Expr-F.Text t at) o = opened_text e t at o
  expr_level e (Expr-F.Chain c) o = as_expr e (judged_chain s c.0) (opened_chain e c.0 o) c.1
  expr_level e (Expr-F.Val c at) o = as_expr e (val at (judged_chain s c.0)) (opened_val e c.0 at o) (val_sure at (judged_chain s c.0) c.1)
  expr_level e (Expr-F.Monadic op x at) o = as_expr e (monadic at op (judged s x.0)) (opened_monadic e x.0 op at o) (monadic_sure at op (judged s x.0) x.1)
  expr_level e (Expr-F.Dyadic op x y at) o = as_expr e (dyadic at op (judged s x.0) (judged s y.0)) (opened_dyadic e x.0 y.0 op at o) (dyadic_sure at op (judged s x.0) (judged s y.0) x.1 y.1)

  dot_after_sure : (n : Ident) (at : At) (t : Outcome Judged) → Sure t → Sure (dot_after s.records n at t)
  dot_after_sure n at (Ok j) k = dot_sure s.records n at j k (λ r i m e. a.fields r i n.name m e) (record_in j.found.is)
  dot_after_sure n at (Err g) k = k

  link_level : (l : Link) (y : Link-F ExprPair LinkPair ChainPair) → out-Link l ≡ map-Link ExprPair LinkPair ChainPair Expr Link Chain (λ e. e.0) (λ e. e.0) (λ e. e.0) y → LinkM l
  link_level l (Link-F.Dot n at) o t h = subst Sure (sym (opened_dot l n at t o)) (dot_after_sure n at t h)
  link_level l (Link-F.Apply es at) o t h = subst Sure (sym (opened_apply l (texts es) at t o)) (apply_sure at (map (judged s) (texts es)) t (all_sure es) h)

  chain_sure : (c : Chain) → AllByRecursion LinkSure (map (linked s) (out-Chain c).links) → ChainM c
  chain_sure c hs =
      let at : At = (out-Chain c).at in
      let m : Option Meaning = find s (out-Chain c).name in
      subst Sure (sym (chain_as c)) (walk_sure (map (linked s) (out-Chain c).links) (begun at m) hs (begun_sure at (named at m) (name_certain at m (λ is e. a.names (out-Chain c).name is e))))

  chain_level : (x : Chain-F Expr Link Chain) (y : Chain-F ExprPair LinkPair ChainPair) → map-Chain ExprPair LinkPair ChainPair Expr Link Chain (λ e. e.0) (λ e. e.0) (λ e. e.0) y ≡ x → ChainM (roll-Chain x)
  chain_level x y is = chain_sure (roll-Chain x) (subst (λ (z : Chain-F Expr Link Chain). AllByRecursion LinkSure (map (linked s) z.links)) is (all_links y.links))

  rolled : (x : Expr-F Expr Link Chain) → out-Expr (roll-Expr x) ≡ x
  rolled x = search expressions.the_lemmas

  rolled_link : (x : Link-F Expr Link Chain) → out-Link (roll-Link x) ≡ x
  rolled_link x = search links.the_lemmas

  -- an expression, and a chain, is known or has a fault
  pub expr_sure : (e : Expr) → Sure (judged s e)
  expr_sure = ind-Expr ExprM LinkM ChainM (λ x y is. expr_level (roll-Expr x) y (rolled x ∙ sym is)) (λ x y is. link_level (roll-Link x) y (rolled_link x ∙ sym is)) (λ x y is. chain_level x y is)

  pub whole_chain_sure : (c : Chain) → Sure (judged_chain s c)
  whole_chain_sure = ind-Chain ExprM LinkM ChainM (λ x y is. expr_level (roll-Expr x) y (rolled x ∙ sym is)) (λ x y is. link_level (roll-Link x) y (rolled_link x ∙ sym is)) (λ x y is. chain_level x y is)
