-- What is found on the values: where it is of the mode that is asked for, nothing is lacking.
use Rattle.std.proofs.Common.{◌≡◌, ℕ, ◌<◌, Bool, List, [], ◌∷◌, Option, sym, ◌∙◌, subst}
use Rattle.rt_modes.specs.declared.mode.Mode.{Mode, out-Mode}
use Rattle.rt_modes.specs.declared.mode.Mode.TheOpen.{Mode-F}
use Rattle.rt_modes.specs.FullMode.{FullMode}
use Rattle.rt_tree_nodes.specs.declared.store.Datum.{Datum}
use Rattle.rt_tree_nodes.specs.declared.store.Datum.TheVariants.{Word, Reference, Row, Procedure, Label, Truth}
use Rattle.rt_tree_nodes.specs.declared.store.Location.{Location}
use Rattle.rt_tree_nodes.specs.declared.store.Proc.{Proc}
use Rattle.rt_tree.specs.Stored.{System, IsCandidate}
use Rattle.rt_work_state.specs.Items.{Env, Next}
use Rattle.rt_work.specs.Task.{found, word_on, place_on, row_on, proc_on, truth_on, any_on}
use Rattle.rt_meaning_laws.specs.Slots.{LeadsTo, Slot, AValue, AnOwn, ATruth, IsOf, FillAll, LeadsOwn}
use Rattle.rt_tree.specs.FullModes.{MayStand}
use Rattle.rt_meaning_laws.specs.Trees.{Site, table, IsWord}
use Rattle.rt_meaning_laws.specs.Work.{NextFits}
use Rattle.rt_meaning_laws.proofs.Modes.{is_a_word, is_a_place, IsRow, is_a_row, is_a_procedure}

module _ (ps : System) (x : Site) (env : Env) where
  abbrev Fill : List Slot → List Datum → Type 0
  Fill ss vs = FillAll ps (table x) ss vs

  pub value_found : (m : Mode) (ss : List Slot) (vs : List Datum) (go : Datum → List Datum → Next) → Fill (AValue m ∷ ss) vs → ((d : Datum) (us : List Datum) → IsOf ps (table x) m d → Fill ss us → NextFits ps x env (go d us))
      → NextFits ps x env (found (any_on vs) go)
  value_found m ss [] go f h = absurd f
  value_found m ss (d ∷ us) go f h = h d us f.0 f.1

  pub word_found : (m : Mode) (ss : List Slot) (vs : List Datum) (go : ℕ → List Datum → Next) → IsWord m → Fill (AValue m ∷ ss) vs → ((n : ℕ) (us : List Datum) → n < 65536 → Fill ss us → NextFits ps x env (go n us))
      → NextFits ps x env (found (word_on vs) go)
  word_found m ss [] go w f h = absurd f
  word_found m ss (d ∷ us) go w f h =
      let k = is_a_word f.0.0 w in
      subst (λ (y : Datum). NextFits ps x env (found (word_on (y ∷ us)) go)) (sym k.1) (h k.0 us k.2 f.1)

  pub place_found : (m k : Mode) (ss : List Slot) (vs : List Datum) (go : Location → List Datum → Next) → out-Mode k ≡ Mode-F.Ref m → Fill (AValue k ∷ ss) vs → ((l : Location) (us : List Datum) → LeadsTo ps (table x) m l → Fill ss us → NextFits ps x env (go l us))
      → NextFits ps x env (found (place_on vs) go)
  place_found m k ss [] go e f h = absurd f
  place_found m k ss (d ∷ us) go e f h =
      let p = is_a_place f.0.0 m e in
      let b : IsOf ps (table x) k (Reference p.0) = subst (λ (y : Datum). IsOf ps (table x) k y) p.1 f.0 in
      let layers : Mode-F.Ref b.1.0 ≡ Mode-F.Ref m = sym b.1.1 ∙ e in
      let same : b.1.0 ≡ m = cc in
      subst (λ (y : Datum). NextFits ps x env (found (place_on (y ∷ us)) go)) (sym p.1) (h p.0 us (subst (λ (w : Mode). LeadsTo ps (table x) w p.0) same b.1.2) f.1)

  pub own_found : (m : Mode) (ss : List Slot) (vs : List Datum) (go : Location → List Datum → Next) → Fill (AnOwn m ∷ ss) vs → ((l : Location) (us : List Datum) → MayStand (table x) m → LeadsOwn ps (table x) m (Reference l) → Fill ss us → NextFits ps x env (go l us))
      → NextFits ps x env (found (place_on vs) go)
  own_found m ss [] go f h = absurd f
  own_found m ss (Reference l ∷ us) go f h = h l us f.0.0 f.0.1 f.1
  own_found m ss (Word n ∷ us) go f h = absurd f.0.1
  own_found m ss (Row l n ∷ us) go f h = absurd f.0.1
  own_found m ss (Procedure g ∷ us) go f h = absurd f.0.1
  own_found m ss (Label a n ∷ us) go f h = absurd f.0.1
  own_found m ss (Truth b ∷ us) go f h = absurd f.0.1

  pub row_found : (m k : Mode) (ss : List Slot) (vs : List Datum) (go : Location × ℕ → List Datum → Next) → out-Mode k ≡ Mode-F.RefArray m → Fill (AValue k ∷ ss) vs
      → ((l : Location) (n : ℕ) (us : List Datum) → MayStand (table x) k → IsRow ps (table x) m l n → Fill ss us → NextFits ps x env (go (l, n) us)) → NextFits ps x env (found (row_on vs) go)
  row_found m k ss [] go e f h = absurd f
  row_found m k ss (d ∷ us) go e f h =
      let p = is_a_row f.0.0 m e in
      let b : IsOf ps (table x) k (Row p.0 p.1) = subst (λ (y : Datum). IsOf ps (table x) k y) p.2 f.0 in
      subst (λ (y : Datum). NextFits ps x env (found (row_on (y ∷ us)) go)) (sym p.2) (h p.0 p.1 us b.1 p.3 f.1)

  pub proc_found : (k : Mode) (ws : List Mode) (r : Option Mode) (ss : List Slot) (vs : List Datum) (go : Proc → List Datum → Next) → out-Mode k ≡ Mode-F.Proc ws r → Fill (AValue k ∷ ss) vs
      → ((f : Proc) (us : List Datum) → MayStand (table x) k → IsCandidate ps (FullMode (table x) k) f → Fill ss us → NextFits ps x env (go f us)) → NextFits ps x env (found (proc_on vs) go)
  proc_found k ws r ss [] go e f h = absurd f
  proc_found k ws r ss (d ∷ us) go e f h =
      let p = is_a_procedure f.0.0 ws r e in
      let b : IsOf ps (table x) k (Procedure p.0) = subst (λ (y : Datum). IsOf ps (table x) k y) p.1 f.0 in
      subst (λ (y : Datum). NextFits ps x env (found (proc_on (y ∷ us)) go)) (sym p.1) (h p.0 us b.1 p.2 f.1)

  pub truth_found : (ss : List Slot) (vs : List Datum) (go : Bool → List Datum → Next) → Fill (ATruth ∷ ss) vs → ((b : Bool) (us : List Datum) → Fill ss us → NextFits ps x env (go b us)) → NextFits ps x env (found (truth_on vs) go)
  truth_found ss [] go f h = absurd f
  truth_found ss (Truth b ∷ us) go f h = h b us f.1
  truth_found ss (Word n ∷ us) go f h = absurd f.0
  truth_found ss (Reference l ∷ us) go f h = absurd f.0
  truth_found ss (Row l n ∷ us) go f h = absurd f.0
  truth_found ss (Procedure g ∷ us) go f h = absurd f.0
  truth_found ss (Label a n ∷ us) go f h = absurd f.0
