-- What fits names only what is seen, by the rules by which it fits.
use Rattle.std.proofs.Common.{◌≡◌, true, List, [], ◌∷◌, map, sym, ◌∙◌, subst}
use Rattle.rt_grammar.specs.declared.at.At.{At}
use Rattle.rt_syntax_exprs.specs.declared.tree.Chain.{Chain, out-Chain}
use Rattle.rt_syntax_exprs.specs.declared.tree.Expr.{Expr}
use Rattle.rt_syntax_exprs.specs.declared.tree.Link.{Link}
use Rattle.rt_modes.specs.declared.mode.Mode.{Mode}
use Rattle.rt_tree_nodes.specs.declared.value.Place.{Place}
use Rattle.rt_tree_nodes.specs.declared.value.Value.{Value}
use Rattle.rt_tree_nodes.specs.Scopes.{Scope}
use Rattle.rt_tree_nodes.specs.Typing.{valued, terms_of}
use Rattle.rt_exprs.specs.declared.operand.Standing.TheVariants as standing
use Rattle.rt_exprs.specs.Sights.{Sight}
use Rattle.rt_exprs.specs.Modes.{Want}
use Rattle.rt_exprs.specs.Names.{find}
use Rattle.rt_exprs.specs.Operands.{place, Found}
use Rattle.rt_exprs.specs.Fitting as f
use Rattle.rt_exprs.specs.Fitting.{IsBy, ChainIs, Leads, Follows, FitsBy, FitEach, Assigns, AssignsVal, CallIs}
use Rattle.rt_bricks_laws.specs.Bodies.{all}
use Rattle.rt_bricks_laws.specs.Numbers.{words_in_expr, words_in_link, words_in_chain}
use Rattle.rt_bricks_laws.proofs.Truths.{left_of, right_of}
use Rattle.rt_meaning_laws.specs.Trees.{Started}
use Rattle.rt_meaning_laws.specs.Named.{any_name, TermsNamed}
use Rattle.rt_meaning_sound.specs.Seen.{LocalsSeen}
use Rattle.rt_meaning_sound.specs.Short.{AllShort}
use Rattle.rt_meaning_sound.proofs.Nodes.{PlaceSeen, ValueSeen, length_seen, monadic_seen, dyadic_seen, element_seen, field_seen}
use Rattle.rt_meaning_sound.proofs.Operands.{IsSeen, RecordSeen, record_seen, TargetSeen, target_seen, AnyPlaceSeen, array_seen, assigned_seen, called_seen, ReachSeen, reach_seen, call_is_seen, suits_seen, name_seen}
use Rattle.rt_meaning_sound.proofs.Short.{word_below}
use Rattle.rt_meaning_sound.proofs.Words.{number_words, chain_words, val_words, monadic_words, dyadic_words, apply_words, links_words}

module _ (s : Sight) (c : Scope) (k : Started) (short : AllShort c) (locals : LocalsSeen s k) where
  mutual
    pub is_seen : {e : Expr} {g : Found} → IsBy s e g → words_in_expr e ≡ true → IsSeen c k g.is
    is_seen {e = e} (f.is_number {n = n} {at = at} o) w = word_below n (sym (number_words e n at o) ∙ w)
    is_seen (f.is_text o p) w = tt
    is_seen {e = e} (f.is_chain {c = h} o i) w = chain_seen i (sym (chain_words e h o) ∙ w)
    is_seen {e = e} (f.is_val {c = h} {at = at} {f = g} o i t) w = subst (TargetSeen c k) t (target_seen c k g.is (chain_seen i (sym (val_words e h at o) ∙ w)))
    is_seen {e = e} (f.is_length {a = a} {op = op} {at = at} {f = g} {p = p} o n i t) w = length_seen k c p (subst (AnyPlaceSeen c k) t (array_seen c k g.is (is_seen i (sym (monadic_words e a op at o) ∙ w))))
    is_seen {e = e} (f.is_monadic {a = a} {op = op} {o = made} {at = at} {f = g} {x = x} o n i t) w =
        monadic_seen k c made x (suits_seen c k short g.at g.is _ x (is_seen i (sym (monadic_words e a op at o) ∙ w)) t)
    is_seen {e = e} (f.is_of_int {a = a} {b = b} {op = op} {at = at} {x = x} {y = y} o i h g) w =
        let both = sym (dyadic_words e a b op at o) ∙ w in
        dyadic_seen k c _ x y (fits_seen h (left_of (words_in_expr a) (words_in_expr b) both)) (fits_seen g (right_of (words_in_expr a) (words_in_expr b) both))
    is_seen {e = e} (f.is_by_left {a = a} {b = b} {op = op} {at = at} {f = g} {x = x} {y = y} o i h t r) w =
        let both = sym (dyadic_words e a b op at o) ∙ w in
        dyadic_seen k c _ x y (suits_seen c k short g.at g.is _ x (is_seen h (left_of (words_in_expr a) (words_in_expr b) both)) t) (fits_seen r (right_of (words_in_expr a) (words_in_expr b) both))

    pub chain_seen : {h : Chain} {g : Found} → ChainIs s h g → words_in_chain h ≡ true → IsSeen c k g.is
    chain_seen (f.led {c = h} {is = is} n hs) w =
        leads_seen hs (sym (links_words h) ∙ w) (name_seen c k short (out-Chain h).at (find s (out-Chain h).name) is (λ x e. locals (out-Chain h).name x e) n)

    leads_seen : {g h : Found} {ls : List Link} → Leads s g ls h → all (map words_in_link ls) ≡ true → IsSeen c k g.is → IsSeen c k h.is
    leads_seen f.here w t = t
    leads_seen (f.onward {l = l} {ls = ls} i hs) w t =
        leads_seen hs (right_of (words_in_link l) (all (map words_in_link ls)) w) (follows_seen i (left_of (words_in_link l) (all (map words_in_link ls)) w) t)

    follows_seen : {g h : Found} {l : Link} → Follows s l g h → words_in_link l ≡ true → IsSeen c k g.is → IsSeen c k h.is
    follows_seen (f.to_field {f = g} {p = p} {k = j} o e d) w t = field_seen k c short p j (subst (RecordSeen c k) e (record_seen c k g.is t))
    follows_seen {l = l} (f.to_element {e = e} {at = at} {f = g} {p = p} {i = i} o r h) w t =
        element_seen k c p i (subst (ReachSeen c k) r (reach_seen c k short g.is t)) (fits_seen h (left_of (words_in_expr e) true (sym (apply_words l (e ∷ []) at o) ∙ w)))
    follows_seen {l = l} (f.to_call {es = es} {at = at} {f = g} {c = y} {r = a} {xs = xs} o r h n) w t =
        call_is_seen c k y a xs (subst (ReachSeen c k) r (reach_seen c k short g.is t)) (each_seen h (sym (apply_words l es at o) ∙ w))

    pub fits_seen : {e : Expr} {w : Want} {x : Value} → FitsBy s e w x → words_in_expr e ≡ true → ValueSeen k c x
    fits_seen {x = x} (f.fits_by {f = g} h t) w = suits_seen c k short g.at g.is _ x (is_seen h w) t

    each_seen : {es : List Expr} {ms : List Mode} {xs : List Value} → FitEach s es ms xs → all (map words_in_expr es) ≡ true → TermsNamed any_name k (terms_of (map (valued c) xs))
    each_seen f.no_argument w = tt
    each_seen f.no_parameter w = tt
    each_seen (f.one_more {e = e} {es = es} h hs) w =
        let v = fits_seen h (left_of (words_in_expr e) (all (map words_in_expr es)) w) in
        (v.tree, each_seen hs (right_of (words_in_expr e) (all (map words_in_expr es)) w))

  -- ---- what is assigned, and calls that stand alone

  pub assigns_seen : {h : Chain} {x : Place × Mode} → Assigns s h x → words_in_chain h ≡ true → PlaceSeen k c x.0
  assigns_seen (f.assigns {f = g} {p = p} {m = m} b i e) w = assigned_seen c k g.at g.is p m (chain_seen i w) e

  pub assigns_val_seen : {at : At} {h : Chain} {x : Place × Mode} → AssignsVal s at h x → words_in_chain h ≡ true → PlaceSeen k c x.0
  assigns_val_seen {at = at} (f.assigns_val {f = g} {p = p} {q = q} {m = m} {n = n} i t e) w =
      assigned_seen c k at (place p m standing.Shared) q n (subst (TargetSeen c k) t (target_seen c k g.is (chain_seen i w))) e

  pub alone_seen : {h : Chain} {x : Value} → CallIs s h x → words_in_chain h ≡ true → ValueSeen k c x
  alone_seen (f.call_is {f = g} {x = x} i e) w = called_seen c k g.at g.is x (chain_seen i w) e
