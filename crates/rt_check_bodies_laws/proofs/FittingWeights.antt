-- What fits stays within its items, by the rules by which it fits.
use Rattle.std.proofs.Common.{◌≡◌, ℕ, suc, ◌+◌, ◌*◌, ◌≤◌, ◌==◌, max, Bool, true, false, List, [], ◌∷◌, Option, Some, None, option_map, Ok, Err, inl, inr, if◌then◌else◌, map, arith, refl, sym, ◌∙◌, subst}
use Rattle.rt_grammar.specs.declared.at.At.{At}
use Rattle.rt_syntax_exprs.specs.declared.tree.Chain.{Chain, out-Chain}
use Rattle.rt_syntax_exprs.specs.declared.tree.Expr.{Expr}
use Rattle.rt_syntax_exprs.specs.declared.tree.Link.{Link}
use Rattle.rt_bricks_laws.specs.Counts.{sum, further, listed, in_expr, in_link, in_chain}
use Rattle.rt_modes.specs.declared.mode.Mode.{Mode}
use Rattle.rt_modes.specs.declared.mode.Mode.TheVariants as mode
use Rattle.rt_tree_nodes.specs.declared.operators.Op1.{Op1}
use Rattle.rt_tree_nodes.specs.declared.operators.Op1.TheVariants as one
use Rattle.rt_tree_nodes.specs.declared.operators.Op2.{Op2}
use Rattle.rt_tree_nodes.specs.declared.operators.Op2.TheVariants as two
use Rattle.rt_tree_nodes.specs.declared.value.Place.{Place}
use Rattle.rt_tree_nodes.specs.declared.value.Place.TheVariants as places
use Rattle.rt_tree_nodes.specs.declared.value.Value.{Value}
use Rattle.rt_tree_nodes.specs.declared.value.Value.TheVariants as values
use Rattle.rt_tree_nodes.specs.Scopes.{Scope, field_mode}
use Rattle.rt_tree_nodes.specs.Tree.{Term, Terms, ItemAt, Svc}
use Rattle.rt_tree_nodes.specs.Typing.{Found as Placing, Variable, Shared, Private, kept, placed, valued, mode_at, dyadic_tree, terms_of}
use Rattle.rt_check_faults.specs.declared.fault.CheckFault.TheVariants as fault
use Rattle.rt_exprs.specs.declared.operand.Base.TheVariants as base
use Rattle.rt_exprs.specs.declared.operand.Standing.{Standing}
use Rattle.rt_exprs.specs.declared.operand.Standing.TheVariants as standing
use Rattle.rt_exprs.specs.declared.scope.Meaning.{Meaning}
use Rattle.rt_exprs.specs.declared.scope.Meaning.TheVariants as meaning
use Rattle.rt_exprs.specs.Sights.{Sight}
use Rattle.rt_exprs.specs.Modes.{Want, basic, want}
use Rattle.rt_exprs.specs.Names.{find}
use Rattle.rt_exprs.specs.Operands.{Is, brick, place, loop, Found, named, suits_by}
use Rattle.rt_check_faults.specs.Outcomes.{Outcome}
use Rattle.rt_exprs.specs.Fitting as f
use Rattle.rt_exprs.specs.Fitting.{IsBy, ChainIs, Leads, Follows, FitsBy, FitEach}
use Rattle.rt_tree.specs.Depth.{depth, arguments_depth}
use Rattle.rt_tree.specs.Weights.{operator_weight, term_weight, terms_weight}
use Rattle.rt_exprs_laws.specs.Agreeing.{Agree, IsThere}
use Rattle.rt_exprs_laws.proofs.Fitted.{is_typed, chain_typed, follows_typed, base_stands, fits_suit}
use Rattle.rt_exprs_laws.proofs.Layers.{local_place, item_place, svc_place, field_place}
use Rattle.rt_exprs_laws.proofs.Operators.{int_no_byte}
use Rattle.rt_exprs_laws.proofs.Suiting.{Has, PlaceIs, IsTyped, suits_mode}
use Rattle.rt_exprs_laws.proofs.Wanted.{want_base}
use Rattle.rt_check_bodies_laws.proofs.Followed.{tree_of}
use Rattle.rt_check_bodies_laws.proofs.Items.{number_items, text_items, chain_items_in, val_items, monadic_items, dyadic_items, dot_items, apply_items, links_items}
use Rattle.rt_check_bodies_laws.proofs.Lengths.{LengthWithin, length_within}
use Rattle.rt_check_bodies_laws.proofs.Reached.{found_field, RecordPath, RecordWithin, record_within, field_within, ReachWithin, reach_within, element_within, TermsWithin, call_within, TargetWithin, target_within}
use Rattle.rt_check_bodies_laws.proofs.Suited.{in_local, in_path, Within, suits_within}
use Rattle.rt_check_bodies_laws.proofs.Trees.{tree_local, tree_item, tree_svc, tree_monadic, tree_dyadic}
use Rattle.rt_check_bodies_laws.specs.Parts.{ValueWithin}
use Rattle.rt_check_bodies_laws.specs.Refs.{AllFew}

-- ---- operators

operator_small : (o : Op1) → operator_weight o ≤ 12
operator_small one.Int = omega arith
operator_small _ = omega arith

dyadic_weighs : (o : Op2) (a b : Term) → term_weight (dyadic_tree o a b) ≡ 8 + (term_weight a + term_weight b)
dyadic_weighs two.Divide a b = refl
dyadic_weighs two.Mod a b = refl
dyadic_weighs _ a b = refl

dyadic_takes : (o : Op2) (a b : Term) → depth (dyadic_tree o a b) ≡ max (depth a) (suc (depth b))
dyadic_takes two.Divide a b = refl
dyadic_takes two.Mod a b = refl
dyadic_takes _ a b = refl

-- ---- the mode of a field

kept_is : (b : Bool) (o : Option Mode) (g : Placing) → option_map (kept b) o ≡ Some g → o ≡ Some (mode_at (Some g))
kept_is b None g e = absurd cc
kept_is true (Some x) g e = let h : Private x ≡ g = cc in subst (λ (z : Placing). Some x ≡ Some (mode_at (Some z))) h refl
kept_is false (Some x) g e = let h : Shared x ≡ g = cc in subst (λ (z : Placing). Some x ≡ Some (mode_at (Some z))) h refl

no_variable : (b : Bool) (o : Option Mode) (m : Mode) → option_map (kept b) o ≡ Some (Variable m) → ⊥
no_variable b None m e = cc
no_variable true (Some x) m e = cc
no_variable false (Some x) m e = cc

same_is : (a b : Is) (o : Outcome Is) → o ≡ Ok a → o ≡ Ok b → a ≡ b
same_is a b o e h = cc

module _ (c : Scope) where
  field_mode_is : (p : Place) (r j k : ℕ) (m : Mode) (st : Standing) → RecordPath c p r k → PlaceIs c (places.Field p j) m st → field_mode c.records r j ≡ Some m
  field_mode_is p r j k m st h t = by_standing st t where
    found : (placed c (places.Field p j)).found ≡ option_map (kept h.kind) (field_mode c.records r j)
    found = field_place c p j ∙ rw (h.found, found_field, h.opens) refl

    by_standing : (st : Standing) → PlaceIs c (places.Field p j) m st → field_mode c.records r j ≡ Some m
    by_standing standing.Shared t = kept_is h.kind (field_mode c.records r j) (Shared m) (sym found ∙ t.0)
    by_standing standing.Private t = elim t [
      | inl x ↦ kept_is h.kind (field_mode c.records r j) (Private m) (sym found ∙ x.0)
      | inr y ↦ absurd (no_variable h.kind (field_mode c.records r j) m (sym found ∙ y.0))
    ]

  monadic_within : (o : Op1) (v : Value) (k n : ℕ) → n ≡ 1 + k → ValueWithin k (tree_of c v) → ValueWithin n (tree_of c (values.Monadic o v))
  monadic_within o v k n e h = record {
    weight = rw (tree_monadic c o v) (omega (arith, e, h.weight, operator_small o));
    depth = rw (tree_monadic c o v) (omega (arith, e, h.depth));
  }

  dyadic_within : (o : Op2) (a b : Value) (j k n : ℕ) → n ≡ j + (1 + k) → ValueWithin j (tree_of c a) → ValueWithin k (tree_of c b) → ValueWithin n (tree_of c (values.Dyadic o a b))
  dyadic_within o a b j k n e h g = record {
    weight = rw (tree_dyadic c o a b, dyadic_weighs) (omega (arith, e, h.weight, g.weight));
    depth = rw (tree_dyadic c o a b, dyadic_takes) (omega (arith, e, h.depth, g.depth));
  }

  -- further arguments, each with the item in front of it
  record FurtherWithin (n : ℕ) (vs : Terms) : Type 0 where
    weight : terms_weight vs ≤ 12 * n
    takes : (under : ℕ) → arguments_depth (suc under) vs ≤ under + n

  pub suits_as : (at : At) (is : Is) (w : Want) (m : Mode) (k : ℕ) (x : Value) → want m ≡ w → IsTyped c is → Within c k is → suits_by at is w ≡ Ok x → ValueWithin k (tree_of c x)
  suits_as at is w m k x i t h e = suits_within c at is m k x t h (subst (λ (z : Want). suits_by at is z ≡ Ok x) (sym i) e)

  module _ (s : Sight) (agree : Agree s c) (all : AllFew c) where
    -- ---- names

    svc_within : (at : At) (k : ℕ) (m : Mode) (is : Is) (b : Bool) → (k == 0) ≡ b → (if b then Err (fault.LeftOut 2 at) else Ok (place (places.Svc k) m standing.Private)) ≡ Ok is → IsThere c (meaning.Svc k m) → Within c 1 is
    svc_within at k m is true n e h = absurd cc
    svc_within at k m is false n e h =
        let there = h (λ z. let bad : false ≡ true = sym n ∙ rw z refl in cc) in
        subst (Within c 1) (same_is (place (places.Svc k) m standing.Private) is _ refl e)
        (in_path true (Svc k) (svc_place c k ∙ rw there.0 refl) (tree_svc c k) (record { weight = omega arith; depth = omega arith }), all.own k m there.0)

    meaning_within : (at : At) (x : Meaning) (is : Is) → IsThere c x → named at (Some x) ≡ Ok is → Within c 1 is
    meaning_within at (meaning.Proc k m) is h e = subst (Within c 1) (same_is (brick k m) is _ refl e) (omega arith, all.procedures k m h.0)
    meaning_within at (meaning.Item b i m) is h e =
        subst (Within c 1) (same_is (place (places.Item b i) m standing.Shared) is _ refl e)
        (in_path false (ItemAt b i) (item_place c b i ∙ h.0) (tree_item c b i) (record { weight = omega arith; depth = omega arith }), all.items b i (Shared m) h.0)
    meaning_within at (meaning.SvcItem b i m) is h e =
        subst (Within c 1) (same_is (place (places.Item b i) m standing.Private) is _ refl e)
        (in_path true (ItemAt b i) (item_place c b i ∙ h.0) (tree_item c b i) (record { weight = omega arith; depth = omega arith }), all.items b i (Private m) h.0)
    meaning_within at (meaning.Svc k m) is h e = svc_within at k m is (k == 0) refl e h
    meaning_within at (meaning.Local k m) is h e =
        subst (Within c 1) (same_is (place (places.Local k) m standing.Private) is _ refl e)
        (in_local k (local_place c k ∙ rw h.0 refl) (tree_local c k) (omega arith), all.locals k m h.0)
    meaning_within at (meaning.Loop k) is h e = subst (Within c 1) (same_is (loop k) is _ refl e) (omega arith)
    meaning_within at _ is h e = absurd cc

    name_within : (at : At) (o : Option Meaning) (is : Is) → ((x : Meaning) → o ≡ Some x → IsThere c x) → named at o ≡ Ok is → Within c 1 is
    name_within at None is h e = absurd cc
    name_within at (Some x) is h e = meaning_within at x is (h x refl) e

    int_has : {e : Expr} {x : Value} → FitsBy s e (basic base.Int) x → Has c mode.Int x
    int_has {x = x} h = suits_mode mode.Int (valued c x).mode _ int_no_byte (fits_suit s c agree h mode.Int (want_base base.Int) (base_stands base.Int))

    as_many : (is : Is) (j k : ℕ) → j ≡ k → Within c j is → Within c k is
    as_many is j k e h = subst (λ (z : ℕ). Within c z is) e h

    -- ---- by the rules

    mutual
      pub is_within : {e : Expr} {g : Found} → IsBy s e g → Within c (in_expr e) g.is
      is_within {e = e} (f.is_number {n = n} {at = at} o) = omega (arith, number_items e n at o)
      is_within {e = e} (f.is_text {t = t} {at = at} o p) = omega (arith, text_items e t at o)
      is_within {e = e} {g = g} (f.is_chain {c = h} o i) = as_many g.is (in_chain h) (in_expr e) (sym (chain_items_in e h o)) (chain_within i)
      is_within {e = e} (f.is_val {c = h} {at = at} {f = g} {p = p} {m = m} o i t) =
          as_many (place p m standing.Shared) (1 + in_chain h) (in_expr e) (sym (val_items e h at o)) (subst (TargetWithin c (1 + in_chain h)) t (target_within c g.is (in_chain h) (chain_typed s c agree i) (chain_within i)))
      is_within {e = e} (f.is_length {a = a} {op = op} {at = at} {f = g} {p = p} o n i t) =
          subst (λ (z : ℕ). ValueWithin z (tree_of c (values.Length p))) (sym (monadic_items e a op at o)) (subst (LengthWithin c (1 + in_expr a)) t (length_within c g.is (in_expr a) (is_typed s c agree i) (is_within i)))
      is_within {e = e} (f.is_monadic {a = a} {op = op} {o = k} {at = at} {f = g} {x = x} o n i t) =
          monadic_within k x (in_expr a) (in_expr e) (monadic_items e a op at o) (suits_as g.at g.is _ _ (in_expr a) x (want_base _) (is_typed s c agree i) (is_within i) t)
      is_within {e = e} (f.is_of_int {a = a} {b = b} {op = op} {at = at} {x = x} {y = y} o i h g) =
          dyadic_within _ x y (in_expr a) (in_expr b) (in_expr e) (dyadic_items e a b op at o) (fits_within h mode.Int (want_base base.Int)) (fits_within g mode.Int (want_base base.Int))
      is_within {e = e} (f.is_by_left {a = a} {b = b} {op = op} {at = at} {f = g} {x = x} {y = y} o i h t r) =
          dyadic_within _ x y (in_expr a) (in_expr b) (in_expr e) (dyadic_items e a b op at o) (suits_as g.at g.is _ _ (in_expr a) x (want_base _) (is_typed s c agree h) (is_within h) t) (fits_within r _ (want_base _))

      pub chain_within : {h : Chain} {g : Found} → ChainIs s h g → Within c (in_chain h) g.is
      chain_within {g = g} (f.led {c = h} {is = is} n hs) =
          as_many g.is (1 + sum (map in_link (out-Chain h).links)) (in_chain h) (sym (links_items h))
          (leads_within hs 1 (chain_typed s c agree (f.led n f.here)) (name_within (out-Chain h).at (find s (out-Chain h).name) is (λ x e. agree.names (out-Chain h).name x e) n))

      leads_within : {g h : Found} {ls : List Link} → Leads s g ls h → (k : ℕ) → IsTyped c g.is → Within c k g.is → Within c (k + sum (map in_link ls)) h.is
      leads_within {g = g} f.here k t w = as_many g.is k (k + 0) (omega arith) w
      leads_within (f.onward {h = h} {l = l} {ls = ls} i hs) k t w =
          as_many h.is (k + in_link l + sum (map in_link ls)) (k + (in_link l + sum (map in_link ls))) (omega arith) (leads_within hs (k + in_link l) (follows_typed s c agree i t) (follows_within i k t w))

      follows_within : {g h : Found} {l : Link} → Follows s l g h → (k : ℕ) → IsTyped c g.is → Within c k g.is → Within c (k + in_link l) h.is
      follows_within {l = l} (f.to_field {n = n} {at = at} {f = g} {p = p} {r = r} {k = j} {st = st} {m = m} o e d) k t w =
          let path : RecordPath c p r k = subst (RecordWithin c k) e (record_within c g.is k t w) in
          let is : field_mode c.records r j ≡ Some m = field_mode_is p r j k m st path (follows_typed s c agree (f.to_field {at = at} {f = g} {st = st} o e d) t) in
          as_many (place (places.Field p j) m st) (k + 2) (k + in_link l) (omega (arith, dot_items l n at o)) (field_within c p r j k m path is, all.fields r j m is)
      follows_within {l = l} (f.to_element {e = e} {at = at} {f = g} {p = p} {m = m} {st = st} {i = i} o r h) k t w =
          let rows = subst (ReachWithin c k) r (reach_within c g.is k t w) in
          as_many (place (places.Element p i) m st) (k + (2 + in_expr e)) (k + in_link l) (omega (arith, apply_items l (e ∷ []) at o))
          (element_within c p m k (in_expr e) i rows.0 (int_has h) (fits_within h mode.Int (want_base base.Int)), rows.1)
      follows_within {h = q} {l = l} (f.to_call {es = es} {at = at} {f = g} {c = y} {ps = ps} {r = a} {xs = xs} o r h n) k t w =
          let calls = subst (ReachWithin c k) r (reach_within c g.is k t w) in
          as_many q.is (k + (2 + listed (map in_expr es))) (k + in_link l) (omega (arith, apply_items l es at o)) (call_within c y a k (listed (map in_expr es)) xs calls.0 calls.1 (each_within h))

      pub fits_within : {e : Expr} {w : Want} {x : Value} → FitsBy s e w x → (m : Mode) → want m ≡ w → ValueWithin (in_expr e) (tree_of c x)
      fits_within {e = e} {w = w} {x = x} (f.fits_by {f = g} h t) m is = suits_as g.at g.is w m (in_expr e) x is (is_typed s c agree h) (is_within h) t

      each_within : {es : List Expr} {ms : List Mode} {xs : List Value} → FitEach s es ms xs → TermsWithin c (listed (map in_expr es)) (terms_of (map (valued c) xs))
      each_within (f.no_argument {ms = ms}) = record { weight = omega arith; depth = λ under. omega arith }
      each_within f.no_parameter = record { weight = omega arith; depth = λ under. omega arith }
      each_within (f.one_more {m = m} h hs) =
          let v = fits_within h m refl in
          let g = further_within hs in
          record { weight = omega (arith, v.weight, g.weight); depth = λ under. omega (arith, v.depth, g.takes under) }

      further_within : {es : List Expr} {ms : List Mode} {xs : List Value} → FitEach s es ms xs → FurtherWithin (further (map in_expr es)) (terms_of (map (valued c) xs))
      further_within (f.no_argument {ms = ms}) = record { weight = omega arith; takes = λ under. omega arith }
      further_within f.no_parameter = record { weight = omega arith; takes = λ under. omega arith }
      further_within (f.one_more {m = m} h hs) =
          let v = fits_within h m refl in
          let g = further_within hs in
          record { weight = omega (arith, v.weight, g.weight); takes = λ under. omega (arith, v.depth, g.takes (suc under)) }
