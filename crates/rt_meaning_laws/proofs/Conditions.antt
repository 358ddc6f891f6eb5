-- The invisible work of conditions lacks nothing, and what it leaves fits.
use Rattle.std.proofs.Common.{◌≡◌, ◌&&◌, Bool, true, false, List, ◌∷◌, Option, Some, refl, sym, ap, ◌∙◌, subst}
use Rattle.rt_modes.specs.declared.mode.Mode.{Mode, out-Mode}
use Rattle.rt_modes.specs.declared.mode.Mode.TheOpen.{Mode-F}
use Rattle.rt_tree_nodes.specs.declared.operators.Rel.{Rel}
use Rattle.rt_tree_nodes.specs.declared.store.Datum.{Datum}
use Rattle.rt_tree_nodes.specs.declared.store.Datum.TheVariants.{Word, Reference, Row, Truth}
use Rattle.rt_tree_nodes.specs.Tree.{Cond, Is, Both, Either}
use Rattle.rt_tree_nodes.specs.Typing.{compare_fits}
use Rattle.rt_tree.specs.Stored.{System, Suits}
use Rattle.rt_work.specs.Numbers.{holds}
use Rattle.rt_work_state.specs.Items.{Env, Item, Eval, Compare, AndThen, OrElse, Next}
use Rattle.rt_work.specs.Task.{Going, same_by, compared, answered, by_truth, compare_then, and_then, or_then, choose_then, first, first_t}
use Rattle.rt_meaning_laws.specs.Slots.{Slot, AValue, ATruth}
use Rattle.rt_meaning_laws.specs.Trees.{Started, Site, table, of_number, CondFits}
use Rattle.rt_meaning_laws.specs.Work.{NextFits}
use Rattle.rt_meaning_laws.specs.Grounds.{Sound, Grounds}
use Rattle.rt_meaning_laws.proofs.Modes.{is_a_word, is_a_place, is_a_row, number_is_word}
use Rattle.rt_meaning_laws.proofs.Operators.{alike, compared_alike}
use Rattle.rt_meaning_laws.proofs.Finding.{value_found, truth_found}
use Rattle.rt_meaning_laws.proofs.Terms.{Goes, Todo, term_fits}

module _ (ps : System) (x : Site) where
  Compared : Rel → Datum → Datum → Type 0
  Compared r a b = (c : Bool) × (compared r a b ≡ Some c)

  places_compared : (r : Rel) (j k v w : Mode) (a b : Datum) → out-Mode j ≡ Mode-F.Ref v → out-Mode k ≡ Mode-F.Ref w → Suits ps (table x) j a → Suits ps (table x) k b → Compared r a b
  unfolding Compared
  places_compared r j k v w a b o p ha hb =
      let y = is_a_place ha v o in
      let z = is_a_place hb w p in
      (same_by r y.0 z.0, ap (λ (d : Datum). compared r d b) y.1 ∙ ap (λ (d : Datum). compared r (Reference y.0) d) z.1)

  rows_compared : (r : Rel) (j k v w : Mode) (a b : Datum) → out-Mode j ≡ Mode-F.RefArray v → out-Mode k ≡ Mode-F.RefArray w → Suits ps (table x) j a → Suits ps (table x) k b → Compared r a b
  unfolding Compared
  rows_compared r j k v w a b o p ha hb =
      let y = is_a_row ha v o in
      let z = is_a_row hb w p in
      (same_by r y.0 z.0, ap (λ (d : Datum). compared r d b) y.2 ∙ ap (λ (d : Datum). compared r (Row y.0 y.1) d) z.2)

  words_compared : (r : Rel) (j k : Mode) (a b : Datum) → of_number (out-Mode j) ≡ true → of_number (out-Mode k) ≡ true → Suits ps (table x) j a → Suits ps (table x) k b → Compared r a b
  unfolding Compared
  words_compared r j k a b o p ha hb =
      let y = is_a_word ha (number_is_word j o) in
      let z = is_a_word hb (number_is_word k p) in
      (holds r y.0 z.0, ap (λ (d : Datum). compared r d b) y.1 ∙ ap (λ (d : Datum). compared r (Word y.0) d) z.1)

  both_number : (l n : Mode-F Mode) → of_number l && of_number n ≡ true → (of_number l ≡ true) × (of_number n ≡ true)
  both_number Mode-F.Int n e = (refl, e)
  both_number Mode-F.Frac n e = (refl, e)
  both_number _ n e = absurd cc

  compared_by : (r : Rel) (j k : Mode) (a b : Datum) (l n : Mode-F Mode) → out-Mode j ≡ l → out-Mode k ≡ n → alike l n ≡ true → Suits ps (table x) j a → Suits ps (table x) k b → Compared r a b
  compared_by r j k a b (Mode-F.Ref v) (Mode-F.Ref w) o p h ha hb = places_compared r j k v w a b o p ha hb
  compared_by r j k a b (Mode-F.Ref v) _ o p h ha hb = absurd cc
  compared_by r j k a b (Mode-F.RefArray v) (Mode-F.RefArray w) o p h ha hb = rows_compared r j k v w a b o p ha hb
  compared_by r j k a b (Mode-F.RefArray v) _ o p h ha hb = absurd cc
  compared_by r j k a b Mode-F.Int n o p h ha hb = words_compared r j k a b (ap of_number o) (ap of_number p ∙ h) ha hb
  compared_by r j k a b Mode-F.Frac n o p h ha hb = words_compared r j k a b (ap of_number o) (ap of_number p ∙ h) ha hb
  compared_by r j k a b _ n o p h ha hb = absurd cc

  pub comparison : (r : Rel) (j k : Mode) (a b : Datum) → alike (out-Mode j) (out-Mode k) ≡ true → Suits ps (table x) j a → Suits ps (table x) k b → (c : Bool) × (compared r a b ≡ Some c)
  unfolding Compared
  comparison r j k a b h ha hb = compared_by r j k a b (out-Mode j) (out-Mode k) refl refl h ha hb

module _ (ps : System) (x : Site) (e : Env) (so : Sound ps) (g : Grounds ps x e) where
  pub compare_goes : (b : Started) (ss : List Slot) (go : Going) (r : Rel) (j k : Mode) → compare_fits r j k ≡ true → Goes ps x e so g b (ATruth ∷ ss) go → Goes ps x e so g b (AValue k ∷ AValue j ∷ ss) (compare_then r go)
  compare_goes b ss go r j k h go_on us ks f l =
      value_found ps x e k (AValue j ∷ ss) us _ f (λ z ws hz f2.
      value_found ps x e j ss ws _ f2 (λ y zs hy f3.
      let c = comparison ps x r j k y z (compared_alike r j k h) hy.0 hz.0 in
      subst (λ (o : Option Bool). NextFits ps x e (answered o go zs ks)) (sym c.1) (go_on (Truth c.0 ∷ zs) ks (tt, f3) l)))

  pub by_truth_fits : (c : Bool) (y z : Next) → NextFits ps x e y → NextFits ps x e z → NextFits ps x e (by_truth c y z)
  by_truth_fits true y z h k = h
  by_truth_fits false y z h k = k

  pub and_goes : (b : Started) (ss : List Slot) (more go : Going) → Goes ps x e so g b ss more → Goes ps x e so g b (ATruth ∷ ss) go → Goes ps x e so g b (ATruth ∷ ss) (and_then more go)
  and_goes b ss more go m k us ks f l = truth_found ps x e ss us _ f (λ c ws f2. by_truth_fits c _ _ (m ws ks f2 l) (k (Truth false ∷ ws) ks (tt, f2) l))

  pub or_goes : (b : Started) (ss : List Slot) (more go : Going) → Goes ps x e so g b ss more → Goes ps x e so g b (ATruth ∷ ss) go → Goes ps x e so g b (ATruth ∷ ss) (or_then more go)
  or_goes b ss more go m k us ks f l = truth_found ps x e ss us _ f (λ c ws f2. by_truth_fits c _ _ (k (Truth true ∷ ws) ks (tt, f2) l) (m ws ks f2 l))

  pub choose_goes : (b : Started) (ss : List Slot) (chosen otherwise : Going) → Goes ps x e so g b ss chosen → Goes ps x e so g b ss otherwise → Goes ps x e so g b (ATruth ∷ ss) (choose_then chosen otherwise)
  choose_goes b ss chosen otherwise m k us ks f l = truth_found ps x e ss us _ f (λ c ws f2. by_truth_fits c _ _ (m ws ks f2 l) (k ws ks f2 l))

  pub cond_fits : (c : Cond) (b : Started) (rest : List Item) (ss : List Slot) (go : Going) → CondFits x b c → Todo ps x e so g b rest (ATruth ∷ ss) → Goes ps x e so g b (ATruth ∷ ss) go → Goes ps x e so g b ss (λ vs ls. first_t e c rest go vs ls)
  cond_fits (Is r y z) b rest ss go h todo k vs ls f l =
      term_fits ps x e so g y h.0 b (Eval z ∷ Compare r y z ∷ rest) ss (λ us ks. first e z (Compare r y z ∷ rest) (compare_then r go) us ks) h.3 (h.1, h.4, (h.2, todo))
      (term_fits ps x e so g z h.1 b (Compare r y z ∷ rest) (AValue h.0 ∷ ss) (compare_then r go) h.4 (h.2, todo) (compare_goes b ss go r h.0 h.1 h.2 k)) vs ls f l
  cond_fits (Both c d) b rest ss go h todo k vs ls f l =
      cond_fits c b (AndThen d ∷ rest) ss (and_then (λ us ks. first_t e d rest go us ks) go) h.0 (h.1, todo) (and_goes b ss (λ us ks. first_t e d rest go us ks) go (cond_fits d b rest ss go h.1 todo k) k) vs ls f l
  cond_fits (Either c d) b rest ss go h todo k vs ls f l =
      cond_fits c b (OrElse d ∷ rest) ss (or_then (λ us ks. first_t e d rest go us ks) go) h.0 (h.1, todo) (or_goes b ss (λ us ks. first_t e d rest go us ks) go (cond_fits d b rest ss go h.1 todo k) k) vs ls f l
