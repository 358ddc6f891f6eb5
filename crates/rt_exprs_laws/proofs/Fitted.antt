-- What fits an expression is well typed, by the rules by which it fits.
use Rattle.std.proofs.Common.{◌≡◌, ℕ, suc, ◌<◌, ◌==◌, ◌&&◌, Bool, true, false, List, [], ◌∷◌, length, Option, Some, None, Ok, Err, inl, inr, map, arith, refl, sym, ap, ◌∙◌, subst, if◌then◌else◌}
use Rattle.std.specs.Prelude.{slice_get}
use Rattle.std.proofs.lemmas.Bool.Decides.{nat_tests}
use Rattle.std.proofs.lemmas.List.Quantifiers.{position-Some}
use Rattle.rt_grammar.specs.declared.at.At.{At}
use Rattle.rt_syntax_exprs.specs.declared.tree.Chain.{Chain, out-Chain}
use Rattle.rt_syntax_exprs.specs.declared.tree.Expr.{Expr}
use Rattle.rt_syntax_exprs.specs.declared.tree.Link.{Link}
use Rattle.rt_syntax_exprs.specs.declared.tree.Op1.{Op1}
use Rattle.rt_syntax_exprs.specs.declared.tree.Op1.TheVariants as op1
use Rattle.rt_syntax_exprs.specs.declared.tree.Op2.{Op2}
use Rattle.rt_syntax_exprs.specs.declared.tree.Op2.TheVariants as op2
use Rattle.rt_modes.specs.declared.mode.Field.{Field}
use Rattle.rt_modes.specs.declared.mode.Mode.{Mode, out-Mode}
use Rattle.rt_modes.specs.declared.mode.Mode.TheOpen.{Mode-F}
use Rattle.rt_modes.specs.declared.mode.Mode.TheVariants as mode
use Rattle.rt_modes.specs.declared.mode.RecordDef.{RecordDef}
use Rattle.rt_tree_nodes.specs.declared.operators.Op2.{Op2 as Made2}
use Rattle.rt_tree_nodes.specs.declared.value.Place.{Place}
use Rattle.rt_tree_nodes.specs.declared.value.Place.TheVariants as places
use Rattle.rt_tree_nodes.specs.declared.value.Value.{Value}
use Rattle.rt_tree_nodes.specs.declared.value.Value.TheVariants as values
use Rattle.rt_tree_nodes.specs.Scopes.{Scope, field_mode, field_at as field_numbered}
use Rattle.rt_tree_nodes.specs.Typing.{suits, valued, all_suit, is_byte, dyadic_mode}
use Rattle.rt_check_faults.specs.declared.fault.CheckFault.TheVariants as fault
use Rattle.rt_exprs.specs.declared.operand.Base.{Base}
use Rattle.rt_exprs.specs.declared.operand.Base.TheVariants as base
use Rattle.rt_exprs.specs.declared.operand.Standing.{Standing}
use Rattle.rt_exprs.specs.declared.operand.Standing.TheVariants as standing
use Rattle.rt_exprs.specs.declared.scope.Meaning.{Meaning}
use Rattle.rt_exprs.specs.declared.scope.Meaning.TheVariants as meaning
use Rattle.rt_exprs.specs.Sights.{Sight}
use Rattle.rt_exprs.specs.Modes.{Want, basic, want}
use Rattle.rt_exprs.specs.Names.{find}
use Rattle.rt_exprs.specs.Operands.{Is, number, text, brick, place, loop, result, computed, done, Found, named, field_in, field_of, first_field, is_label, unless_label, if_known_mode, suits_by}
use Rattle.rt_check_faults.specs.Outcomes.{Outcome}
use Rattle.rt_exprs.specs.Fitting as f
use Rattle.rt_exprs.specs.Fitting.{IsBy, ChainIs, Leads, Follows, FitsBy, FitEach, string_at}
use Rattle.rt_exprs.specs.Judging.{base_in, takes, frac_or_int, right_takes, made_dyadic}
use Rattle.rt_exprs_laws.specs.Agreeing.{Agree, IsThere, IsValue, stands, all_values}
use Rattle.rt_exprs_laws.proofs.Layers.{local_place, item_place, svc_place, length_value, monadic_value, dyadic_value}
use Rattle.rt_exprs_laws.proofs.Standing.{stands_at, parameters_stand, first_stands, rest_stands}
use Rattle.rt_exprs_laws.proofs.Wanted.{of_base, want_base}
use Rattle.rt_exprs_laws.proofs.Suiting.{Has, PlaceIs, IsTyped, IsOther, here, suits_here, suits_mode}
use Rattle.rt_exprs_laws.proofs.Links.{FieldIs, field_found, item_of_all, RecordAt, RecordTyped, record_typed, field_typed, ReachTyped, CallsAt, reach_typed, element_typed, call_typed, TargetTyped, target_typed, LengthTyped, length_typed}
use Rattle.rt_exprs_laws.proofs.Operators.{monadic_gives, of_int_gives, by_left_gives, int_no_byte, frac_no_byte, out_byte, out_int, out_frac}

-- ---- operands of operators

pub base_stands : (b : Base) → IsValue (of_base b)
base_stands base.Byte = ap (λ x. x.value) (stands_at mode.Byte Mode-F.Byte out_byte)
base_stands base.Int = ap (λ x. x.value) (stands_at mode.Int Mode-F.Int out_int)
base_stands base.Frac = ap (λ x. x.value) (stands_at mode.Frac Mode-F.Frac out_frac)

not_byte : (b : Base) → (b ≡ base.Byte → ⊥) → is_byte (of_base b) ≡ false
not_byte base.Byte h = absurd (h refl)
not_byte base.Int h = int_no_byte
not_byte base.Frac h = frac_no_byte

takes_int : (op : Op1) → takes op base.Int ≡ base.Int
takes_int op1.Not = refl
takes_int op1.Byte = refl
takes_int op1.Int = refl
takes_int _ = refl

left_not_byte : (b : Base) → frac_or_int b ≡ base.Byte → ⊥
left_not_byte base.Byte e = cc
left_not_byte base.Int e = cc
left_not_byte base.Frac e = cc

right_not_byte : (op : Op2) (b : Base) → (b ≡ base.Byte → ⊥) → right_takes op b ≡ base.Byte → ⊥
right_not_byte op2.Plus b h e = h e
right_not_byte op2.Minus b h e = h e
right_not_byte op2.Times b h e = h e
right_not_byte _ b h e = cc

both_true : (a b : Bool) → a ≡ true → b ≡ true → a && b ≡ true
both_true a b e h = rw (e, h) refl

none_left : (ms : List Mode) → 0 ≡ length ms → (length ms == 0) ≡ true
none_left [] e = refl
none_left (m ∷ ms) e = absurd cc

one_less : (n m : ℕ) → suc n ≡ suc m → n ≡ m
one_less n m e = omega (arith, e)

same_is : (a b : Is) (o : Outcome Is) → o ≡ Ok a → o ≡ Ok b → a ≡ b
same_is a b o e h = cc

-- ---- the field of a name

pub record FieldThere (records : List RecordDef) (r k : ℕ) (m : Mode) : Type 0 where
  pub mode : field_mode records r k ≡ Some m
  pub record_of : RecordDef
  pub is : slice_get records r ≡ Some record_of
  pub numbered : field_numbered record_of.fields k ≡ Some m

numbered_by : (fs : List Field) (k : ℕ) (m : Mode) → FieldIs fs 0 k m → field_numbered fs k ≡ Some m
numbered_by fs k m g = let e : k ≡ g.at = omega (arith, g.number) in rw e g.mode

field_there : (records : List RecordDef) (r : ℕ) (name : List ℕ) (x : ℕ × Mode) (o : Option RecordDef) → slice_get records r ≡ o → field_in o name ≡ Some x → FieldThere records r x.0 x.1
field_there records r name x None p e = absurd cc
field_there records r name x (Some d) p e =
    let n = numbered_by d.fields x.0 x.1 (field_found 0 d.fields name x e) in
    record { mode = rw p n; record_of = d; is = p; numbered = n }

-- a field whose mode is known is the first of its name
known_first : (o : Option (ℕ × Mode)) (x : ℕ × Mode) → if_known_mode o ≡ Some x → o ≡ Some x
known_first None x e = absurd cc
known_first (Some y) x e = by_label (is_label (out-Mode y.1)) e where
  by_label : (b : Bool) → unless_label b y ≡ Some x → Some y ≡ Some x
  by_label true q = absurd cc
  by_label false q = q

module _ (s : Sight) (c : Scope) (agree : Agree s c) where
  -- the value that suits where a mode of one word is wanted, but for a number where BYTE is
  base_suits : (at : At) (is : Is) (b : Base) (x : Value) → IsTyped c is → suits_by at is (basic b) ≡ Ok x → suits (of_base b) (valued c x) ≡ true
  base_suits at is b x h e = suits_here c at is (of_base b) x h (base_stands b) (subst (λ (w : Want). suits_by at is w ≡ Ok x) (sym (want_base b)) e)

  suits_has : (b : Base) (x : Value) → (b ≡ base.Byte → ⊥) → suits (of_base b) (valued c x) ≡ true → Has c (of_base b) x
  suits_has b x h t = suits_mode (of_base b) (valued c x).mode _ (not_byte b h) t

  other_has : (at : At) (is : Is) (b : Base) (x : Value) → IsOther c is → IsTyped c is → suits_by at is (basic b) ≡ Ok x → Has c (of_base b) x
  other_has at is b x other h e = here c at is (of_base b) x other h (base_stands b) (subst (λ (w : Want). suits_by at is w ≡ Ok x) (sym (want_base b)) e)

  operand_has : (op : Op1) (at : At) (is : Is) (x : Value) → IsTyped c is → suits_by at is (basic (takes op (base_in is))) ≡ Ok x → Has c (of_base (takes op (base_in is))) x
  operand_has op at (number n) x h e = suits_has (takes op base.Int) x (λ b. let bad : base.Int ≡ base.Byte = sym (takes_int op) ∙ b in cc) (base_suits at (number n) (takes op base.Int) x h e)
  operand_has op at (text n) x h e = other_has at (text n) (takes op base.Int) x tt h e
  operand_has op at (brick k m) x h e = other_has at (brick k m) (takes op base.Int) x tt h e
  operand_has op at (place p m st) x h e = other_has at (place p m st) (takes op (base_in (place p m st))) x tt h e
  operand_has op at (loop k) x h e = other_has at (loop k) (takes op base.Int) x tt h e
  operand_has op at (result v m) x h e = other_has at (result v m) (takes op (base_in (result v m))) x tt h e
  operand_has op at (computed v b) x h e = other_has at (computed v b) (takes op b) x tt h e
  operand_has op at (done v) x h e = other_has at (done v) (takes op base.Int) x tt h e

  left_has : (at : At) (is : Is) (x : Value) (b : Base) → IsTyped c is → suits_by at is (basic (frac_or_int b)) ≡ Ok x → Has c (of_base (frac_or_int b)) x
  left_has at is x b h e = suits_has (frac_or_int b) x (left_not_byte b) (base_suits at is (frac_or_int b) x h e)

  dyadic_has : (o : Made2) (a b m : Mode) (x y : Value) → Has c a x → Has c b y → dyadic_mode o a b ≡ Some m → Has c m (values.Dyadic o x y)
  dyadic_has o a b m x y h g e = dyadic_value c o x y ∙ rw (h, g) e

  -- ---- names and strings

  text_typed : (at : At) (n : ℕ) → string_at s at ≡ Some n → IsTyped c (text n)
  text_typed at n e =
      let l : n < length s.strings = (position-Some (λ x. x == at.item) s.strings n 0 e).0 in
      let k : n < c.strings = subst (λ (z : ℕ). n < z) agree.strings l in
      grind (arith, nat_tests)

  svc_typed : (at : At) (k : ℕ) (m : Mode) (is : Is) (b : Bool) → (k == 0) ≡ b → (if b then Err (fault.LeftOut 2 at) else Ok (place (places.Svc k) m standing.Private)) ≡ Ok is → IsThere c (meaning.Svc k m) → IsTyped c is
  svc_typed at k m is true n e h = absurd cc
  svc_typed at k m is false n e h =
      let there = h (λ z. let bad : false ≡ true = sym n ∙ rw z refl in cc) in
      subst (IsTyped c) (same_is (place (places.Svc k) m standing.Private) is _ refl e) (inl (svc_place c k ∙ rw there.0 refl, there.1))

  meaning_typed : (at : At) (x : Meaning) (is : Is) → IsThere c x → named at (Some x) ≡ Ok is → IsTyped c is
  meaning_typed at (meaning.Proc k m) is h e = subst (IsTyped c) (same_is (brick k m) is _ refl e) h
  meaning_typed at (meaning.Item b i m) is h e = subst (IsTyped c) (same_is (place (places.Item b i) m standing.Shared) is _ refl e) (item_place c b i ∙ h.0, h.1)
  meaning_typed at (meaning.SvcItem b i m) is h e = subst (IsTyped c) (same_is (place (places.Item b i) m standing.Private) is _ refl e) (inl (item_place c b i ∙ h.0, h.1))
  meaning_typed at (meaning.Svc k m) is h e = svc_typed at k m is (k == 0) refl e h
  meaning_typed at (meaning.Local k m) is h e = subst (IsTyped c) (same_is (place (places.Local k) m standing.Private) is _ refl e) (inr (local_place c k ∙ rw h.0 refl, h.1))
  meaning_typed at (meaning.Loop k) is h e = subst (IsTyped c) (same_is (loop k) is _ refl e) h
  meaning_typed at _ is h e = absurd cc

  name_typed : (at : At) (o : Option Meaning) (is : Is) → ((x : Meaning) → o ≡ Some x → IsThere c x) → named at o ≡ Ok is → IsTyped c is
  name_typed at None is h e = absurd cc
  name_typed at (Some x) is h e = meaning_typed at x is (h x refl) e

  field_is : (p : Place) (r k : ℕ) (name : List ℕ) (st : Standing) (m : Mode) → RecordAt c p r st → field_of s.records r name ≡ Some (k, m) → PlaceIs c (places.Field p k) m st
  field_is p r k name st m h e =
      let d : field_of c.records r name ≡ Some (k, m) = subst (λ (z : List RecordDef). field_of z r name ≡ Some (k, m)) agree.records e in
      let g = field_there c.records r name (k, m) (slice_get c.records r) refl (known_first (first_field c.records r name) (k, m) d) in
      field_typed c p r k st m h g.mode (item_of_all g.record_of.fields k m (agree.fields r g.record_of g.is) g.numbered)

  -- ---- by the rules

  mutual
    pub is_typed : {e : Expr} {g : Found} → IsBy s e g → IsTyped c g.is
    is_typed (f.is_number o) = tt
    is_typed (f.is_text {n = n} {at = at} o p) = text_typed at n p
    is_typed (f.is_chain o h) = chain_typed h
    is_typed (f.is_val {f = g} o h t) = subst (TargetTyped c) t (target_typed c g.is (chain_typed h))
    is_typed (f.is_length {f = g} {p = p} o n h t) = length_value c p ∙ subst (LengthTyped c) t (length_typed c g.is (is_typed h))
    is_typed (f.is_monadic {op = op} {o = k} {f = g} {x = x} o m h e) = monadic_value c k x ∙ rw (operand_has op g.at g.is x (is_typed h) e) (monadic_gives op (base_in g.is) k m)
    is_typed (f.is_of_int {op = op} {x = x} {y = y} o i h g) =
        dyadic_has (made_dyadic op base.Int) mode.Int mode.Int mode.Int x y (suits_has base.Int x (λ b. cc) (fits_suit h mode.Int (want_base base.Int) (base_stands base.Int)))
        (suits_has base.Int y (λ b. cc) (fits_suit g mode.Int (want_base base.Int) (base_stands base.Int))) (of_int_gives op i)
    is_typed (f.is_by_left {op = op} {f = g} {x = x} {y = y} o i h e r) =
        let b : Base = frac_or_int (base_in g.is) in
        dyadic_has (made_dyadic op b) (of_base b) (of_base (right_takes op b)) (of_base b) x y (left_has g.at g.is x (base_in g.is) (is_typed h) e)
        (suits_has (right_takes op b) y (right_not_byte op b (left_not_byte (base_in g.is))) (fits_suit r (of_base (right_takes op b)) (want_base (right_takes op b)) (base_stands (right_takes op b)))) (by_left_gives op (base_in g.is) i)

    pub chain_typed : {h : Chain} {g : Found} → ChainIs s h g → IsTyped c g.is
    chain_typed (f.led {c = h} {is = is} n hs) = leads_typed hs (name_typed (out-Chain h).at (find s (out-Chain h).name) is (λ x e. agree.names (out-Chain h).name x e) n)

    leads_typed : {g h : Found} {ls : List Link} → Leads s g ls h → IsTyped c g.is → IsTyped c h.is
    leads_typed f.here t = t
    leads_typed (f.onward h hs) t = leads_typed hs (follows_typed h t)

    pub follows_typed : {g h : Found} {l : Link} → Follows s l g h → IsTyped c g.is → IsTyped c h.is
    follows_typed (f.to_field {n = n} {f = g} {p = p} {r = r} {k = k} {st = st} {m = m} o e d) t = field_is p r k n.name st m (subst (RecordTyped c) e (record_typed c g.is t)) d
    follows_typed (f.to_element {f = g} {p = p} {m = m} {st = st} {i = i} o r h) t =
        element_typed c p m st i (subst (ReachTyped c) r (reach_typed c g.is t)) (suits_has base.Int i (λ b. cc) (fits_suit h mode.Int (want_base base.Int) (base_stands base.Int)))
    follows_typed (f.to_call {f = g} {c = k} {ps = ps} {r = a} {xs = xs} o r h n) t =
        let q : CallsAt c k ps a = subst (ReachTyped c) r (reach_typed c g.is t) in
        call_typed c k ps a xs q (each_suit h n (parameters_stand q.mode ps a q.opens q.item))

    pub fits_suit : {e : Expr} {w : Want} {x : Value} → FitsBy s e w x → (m : Mode) → want m ≡ w → IsValue m → suits m (valued c x) ≡ true
    fits_suit {x = x} (f.fits_by {f = g} h e) m is v = suits_here c g.at g.is m x (is_typed h) v (subst (λ (z : Want). suits_by g.at g.is z ≡ Ok x) (sym is) e)

    each_suit : {es : List Expr} {ms : List Mode} {xs : List Value} → FitEach s es ms xs → length es ≡ length ms → all_values (map stands ms) ≡ true → all_suit ms (map (valued c) xs) ≡ true
    each_suit (f.no_argument {ms = ms}) n v = none_left ms n
    each_suit f.no_parameter n v = refl
    each_suit (f.one_more {es = es} {m = m} {ms = ms} {x = x} {xs = xs} h hs) n v =
        both_true (suits m (valued c x)) (all_suit ms (map (valued c) xs)) (fits_suit h m refl (first_stands m ms v)) (each_suit hs (one_less (length es) (length ms) n) (rest_stands m ms v))
