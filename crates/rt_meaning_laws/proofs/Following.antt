-- The invisible work up to the next visible step lacks nothing, and the step fits.
use Rattle.std.proofs.Common.{◌≡◌, ◌⊎◌, inl, inr, ℕ, ◌<◌, Bool, true, List, [], ◌∷◌, Option, None, sym, ap, ◌∙◌, subst}
use Rattle.rt_modes.specs.declared.mode.Mode.{Mode, out-Mode}
use Rattle.rt_modes.specs.declared.mode.Mode.TheOpen.{Mode-F}
use Rattle.rt_modes.specs.FullMode.{FullMode}
use Rattle.rt_tree_nodes.specs.declared.store.Datum.{Datum}
use Rattle.rt_tree_nodes.specs.declared.store.Datum.TheVariants.{Word}
use Rattle.rt_tree.specs.Stored.{System}
use Rattle.rt_work_state.specs.Items.{Env, Item, Do, Eval, At, Args, Fetch, Into, Pick, PickRow, Span, Tell, Length, Alter, Merge, Split, Report, Stand, Enter, EnterBy, Local, Save, Drop, Compare, Try, AndThen, OrElse, Choose, PastElse, Decide, Again, CountFor, TurnFor, CountTo, TurnTo, ToLabel, GiveUp, Leave, Begin, Serve, Calls, Jumps}
use Rattle.rt_work.specs.Task.{Going, service, serve_then, report_then, turn_for_then, turn_to_then, first_q, first_t, next}
use Rattle.rt_meaning_laws.specs.Slots.{IsInt, Slot, AValue, AnOwn, ATruth, FillAll, values_on}
use Rattle.rt_meaning_laws.specs.Trees.{Started, Site, table, ends}
use Rattle.rt_meaning_laws.specs.Work.{by_value, at_start, TodoFits, AnswerFits, AskFits, ArgumentFits, NextFits}
use Rattle.rt_meaning_laws.specs.Grounds.{Sound, Grounds}
use Rattle.rt_meaning_laws.proofs.Modes.{number_is, int_is_number, is_a_word}
use Rattle.rt_meaning_laws.proofs.Finding.{proc_found}
use Rattle.rt_meaning_laws.proofs.Locals.{within_self, weaker}
use Rattle.rt_meaning_laws.proofs.Terms.{Goes, awaits, fetch_goes, fetch_own_goes, into_goes, pick_goes, pick_row_goes, span_goes, tell_goes, length_goes, alter_goes, merge_goes, split_goes, enter_goes, enter_by_goes, term_fits, path_fits, terms_fit}
use Rattle.rt_meaning_laws.proofs.Conditions.{compare_goes, and_goes, or_goes, choose_goes, cond_fits}
use Rattle.rt_meaning_laws.proofs.Statements.{Onward, local_goes, save_goes, save_own_goes, drop_goes, give_goes, label_goes, count_for_goes, count_to_goes, turn_for_goes, turn_to_goes, seq_fits}

module _ (ps : System) (x : Site) (e : Env) (so : Sound ps) (g : Grounds ps x e) where
  abbrev Going_on : Started → List Slot → Going → Type 0
  Going_on = Goes ps x e so g

  abbrev Left : Started → List Item → List Slot → Type 0
  Left = TodoFits ps x

  report_goes : (b : Started) (rest : List Item) (ss : List Slot) (n : ℕ) (w a : Mode) → out-Mode w ≡ Mode-F.Proc (a ∷ []) None → IsInt a → n < 65536 → Left b rest ss → Going_on b (AValue w ∷ ss) (report_then n rest)
  report_goes b rest ss n w a o ia r h us ks f l =
      proc_found ps x e w (a ∷ []) None ss us (λ p ws. Calls p (Word n ∷ []) rest ws ks) o f
      (λ p ws st is f2. (w, a ∷ [], None, o, st, so.candidates (FullMode (table x) w) p is, (number_is ps (table x) a n (int_is_number a ia) r, tt), awaits ps x e so g None b rest ss ws ks h f2 l, by_value is))

  served : (rest : List Item) (ss : List Slot) (n : ℕ) → x.locals ≡ [] → ArgumentFits ss → ((k : ℕ) → AskFits x.answer (service n k) rest) → (vs : List Datum) → FillAll ps (table x) ss vs → NextFits ps x e (serve_then n rest vs)
  served rest [] n o h a [] f = (o, a 0)
  served rest [] n o h a (v ∷ vs) f = absurd f
  served rest (AValue m ∷ []) n o h a [] f = absurd f
  served rest (AValue m ∷ []) n o h a (v ∷ vs) f =
      let k = is_a_word f.0.0 h in
      subst (λ (y : Datum). NextFits ps x e (serve_then n rest (y ∷ vs))) (sym k.1) (o, a k.0)
  served rest (AValue m ∷ (s ∷ ss)) n o h a vs f = absurd h
  served rest (AnOwn m ∷ ss) n o h a vs f = absurd h
  served rest (ATruth ∷ ss) n o h a vs f = absurd h

  -- each of two sequences that both never end, or are both followed
  each : (b : Started) (c d : Bool) (rest : List Item) (ss : List Slot) (go : Going) → ((c ≡ true) × (d ≡ true)) ⊎ Left b rest ss → (Left b rest ss → Going_on b ss go) → Onward ps x e so g b c rest ss go × Onward ps x e so g b d rest ss go
  each b c d rest ss go (inl h) k = (inl h.0, inl h.1)
  each b c d rest ss go (inr h) k = (inr (h, k h), inr (h, k h))

  pub next_fits : (todo : List Item) (b : Started) (ss : List Slot) → TodoFits ps x b todo ss → Going_on b ss (λ vs ls. next e todo vs ls)
  next_fits [] b ss h vs ls f l = absurd h
  next_fits (Do q ∷ rest) b ss h vs ls f l = elim h.3 [
    | inl o ↦ seq_fits ps x e so g q h.0 h.0 rest ss (λ us ks. next e rest us ks) h.2 (within_self h.0) (inl o) vs ls f (weaker ps x b h.0 ls l h.1)
    | inr o ↦ seq_fits ps x e so g q h.0 o.0 rest ss (λ us ks. next e rest us ks) h.2 o.1 (inr (o.2, next_fits rest o.0 ss o.2)) vs ls f (weaker ps x b h.0 ls l h.1)
  ]
  next_fits (Eval v ∷ rest) b ss h vs ls f l = term_fits ps x e so g v h.0 b rest ss (λ us ks. next e rest us ks) h.1 h.2 (next_fits rest b (AValue h.0 ∷ ss) h.2) vs ls f l
  next_fits (At p ∷ rest) b ss h vs ls f l = path_fits ps x e so g p h.0 b rest ss (λ us ks. next e rest us ks) h.1 h.2 (next_fits rest b _ h.2) vs ls f l
  next_fits (Args xs ∷ rest) b ss h vs ls f l = terms_fit ps x e so g xs h.0 b rest ss (λ us ks. next e rest us ks) h.1 h.2 (next_fits rest b (values_on h.0 ss) h.2) vs ls f l
  next_fits (Fetch ∷ rest) b (AValue k ∷ ss) h vs ls f l = fetch_goes ps x e so g b rest ss h.0 k h.1 h.2.0 h.2.1 vs ls f l
  next_fits (Fetch ∷ rest) b (AnOwn m ∷ ss) h vs ls f l = fetch_own_goes ps x e so g b rest ss m h.0 h.1 vs ls f l
  next_fits (Fetch ∷ rest) b _ h vs ls f l = absurd h
  next_fits (Into p n ∷ rest) b (AValue k ∷ ss) h vs ls f l =
      into_goes ps x e so g b ss (λ us ks. next e rest us ks) k h.0 h.2.1 h.2.0 n h.1 h.2.2 h.2.3 (next_fits rest b _ h.2.4) vs ls f l
  next_fits (Into p n ∷ rest) b _ h vs ls f l = absurd h
  next_fits (Pick p n ∷ rest) b (AValue i ∷ (AValue k ∷ ss)) h vs ls f l =
      pick_goes ps x e so g b ss (λ us ks. next e rest us ks) n i k h.0 h.2.0 h.2.1 h.1 h.2.2 (next_fits rest b _ h.2.3) vs ls f l
  next_fits (Pick p n ∷ rest) b _ h vs ls f l = absurd h
  next_fits (PickRow ∷ rest) b (AValue i ∷ (AValue k ∷ ss)) h vs ls f l = pick_row_goes ps x e so g b ss (λ us ks. next e rest us ks) i k h.0 h.1 h.2 (next_fits rest b _ h.3) vs ls f l
  next_fits (PickRow ∷ rest) b _ h vs ls f l = absurd h
  next_fits (Span n ∷ rest) b (AValue k ∷ ss) h vs ls f l = span_goes ps x e so g b ss (λ us ks. next e rest us ks) n k h.0 h.2.0 h.2.1 h.1 h.2.2 h.2.3 (next_fits rest b _ h.2.4) vs ls f l
  next_fits (Span n ∷ rest) b _ h vs ls f l = absurd h
  next_fits (Tell n ∷ rest) b (AValue k ∷ ss) h vs ls f l = tell_goes ps x e so g b ss (λ us ks. next e rest us ks) n k h.0 h.2.0 h.1 h.2.1 h.2.2 (next_fits rest b _ h.2.3) vs ls f l
  next_fits (Tell n ∷ rest) b _ h vs ls f l = absurd h
  next_fits (Length ∷ rest) b (AValue k ∷ ss) h vs ls f l = length_goes ps x e so g b ss (λ us ks. next e rest us ks) k h.0 h.1 h.2 h.3 (next_fits rest b _ h.4) vs ls f l
  next_fits (Length ∷ rest) b _ h vs ls f l = absurd h
  next_fits (Alter o ∷ rest) b (AValue k ∷ ss) h vs ls f l = alter_goes ps x e so g b ss (λ us ks. next e rest us ks) o k h.0 h.1 (next_fits rest b _ h.2) vs ls f l
  next_fits (Alter o ∷ rest) b _ h vs ls f l = absurd h
  next_fits (Merge o ∷ rest) b (AValue k ∷ (AValue j ∷ ss)) h vs ls f l = merge_goes ps x e so g b ss (λ us ks. next e rest us ks) o j k h.0 h.1 (next_fits rest b _ h.2) vs ls f l
  next_fits (Merge o ∷ rest) b _ h vs ls f l = absurd h
  next_fits (Split o ∷ rest) b (AValue k ∷ (AValue j ∷ ss)) h vs ls f l = split_goes ps x e so g b rest ss (λ us ks. next e rest us ks) o j k h.0 h.1 h.2 (next_fits rest b _ h.2) vs ls f l
  next_fits (Split o ∷ rest) b _ h vs ls f l = absurd h
  next_fits (Report n ∷ rest) b (AValue w ∷ ss) h vs ls f l = report_goes b rest ss n w h.0 h.1 h.2 h.3 h.4 vs ls f l
  next_fits (Report n ∷ rest) b _ h vs ls f l = absurd h
  next_fits (Stand n ∷ rest) b ss h vs ls f l = next_fits rest b (AValue h.0 ∷ ss) h.3 (Word n ∷ vs) ls (number_is ps (table x) h.0 n h.1 h.2, f) l
  next_fits (Enter i n ∷ rest) b ss h vs ls f l =
      enter_goes ps x e so g b rest h.3 i n h.0 h.1 h.2 h.4 h.5 h.6 h.8 vs ls (subst (λ (y : List Slot). FillAll ps (table x) y vs) h.7 f) l
  next_fits (EnterBy n ∷ rest) b ss h vs ls f l =
      enter_by_goes ps x e so g b rest h.3 n h.0 h.1 h.2 h.4 h.5 h.7 vs ls (subst (λ (y : List Slot). FillAll ps (table x) y vs) h.6 f) l
  next_fits (Local i ∷ rest) b (AValue m ∷ ss) h vs ls f l = local_goes ps x e so g b h.0 ss m i (λ us ks. next e rest us ks) h.1 h.2 (next_fits rest h.0 ss h.3) vs ls f l
  next_fits (Local i ∷ rest) b _ h vs ls f l = absurd h
  next_fits (Save p v ∷ rest) b (AValue m ∷ (AValue k ∷ ss)) h vs ls f l =
      let o : out-Mode k ≡ Mode-F.Ref m = h.1 ∙ ap (λ (y : Mode). Mode-F.Ref y) h.2.0 in
      save_goes ps x e so g b rest ss m k o h.2.1 h.2.2 vs ls f l
  next_fits (Save p v ∷ rest) b (AValue m ∷ (AnOwn w ∷ ss)) h vs ls f l =
      let same : AnOwn w ≡ AnOwn m = ap AnOwn h.0 in
      save_own_goes ps x e so g b rest ss m h.1 h.2 vs ls (subst (λ (y : Slot). FillAll ps (table x) (AValue m ∷ y ∷ ss) vs) same f) l
  next_fits (Save p v ∷ rest) b _ h vs ls f l = absurd h
  next_fits (Drop ∷ rest) b (AValue m ∷ ss) h vs ls f l = drop_goes ps x e so g b ss m (λ us ks. next e rest us ks) (next_fits rest b ss h) vs ls f l
  next_fits (Drop ∷ rest) b _ h vs ls f l = absurd h
  next_fits (Compare r y z ∷ rest) b (AValue k ∷ (AValue j ∷ ss)) h vs ls f l = compare_goes ps x e so g b ss (λ us ks. next e rest us ks) r j k h.0 (next_fits rest b _ h.1) vs ls f l
  next_fits (Compare r y z ∷ rest) b _ h vs ls f l = absurd h
  next_fits (Try t ∷ rest) b ss h vs ls f l = cond_fits ps x e so g t b rest ss (λ us ks. next e rest us ks) h.0 h.1 (next_fits rest b (ATruth ∷ ss) h.1) vs ls f l
  next_fits (AndThen t ∷ rest) b (ATruth ∷ ss) h vs ls f l =
      let k = next_fits rest b (ATruth ∷ ss) h.1 in
      and_goes ps x e so g b ss (λ us ks. first_t e t rest (λ ws ms. next e rest ws ms) us ks) (λ us ks. next e rest us ks) (cond_fits ps x e so g t b rest ss (λ us ks. next e rest us ks) h.0 h.1 k) k vs ls f l
  next_fits (AndThen t ∷ rest) b _ h vs ls f l = absurd h
  next_fits (OrElse t ∷ rest) b (ATruth ∷ ss) h vs ls f l =
      let k = next_fits rest b (ATruth ∷ ss) h.1 in
      or_goes ps x e so g b ss (λ us ks. first_t e t rest (λ ws ms. next e rest ws ms) us ks) (λ us ks. next e rest us ks) (cond_fits ps x e so g t b rest ss (λ us ks. next e rest us ks) h.0 h.1 k) k vs ls f l
  next_fits (OrElse t ∷ rest) b _ h vs ls f l = absurd h
  next_fits (Choose c d ∷ rest) b (ATruth ∷ ss) h vs ls f l =
      let k = each b (ends c) (ends d) rest ss (λ us ks. next e rest us ks) h.1 (λ r. next_fits rest b ss r) in
      choose_goes ps x e so g b ss (λ us ks. first_q e c (PastElse ∷ rest) (λ ws ms. next e rest ws ms) us ks) (λ us ks. first_q e d rest (λ ws ms. next e rest ws ms) us ks)
      (seq_fits ps x e so g c b b (PastElse ∷ rest) ss (λ us ks. next e rest us ks) h.0.0 (within_self b) k.0) (seq_fits ps x e so g d b b rest ss (λ us ks. next e rest us ks) h.0.1 (within_self b) k.1) vs ls f l
  next_fits (Choose c d ∷ rest) b _ h vs ls f l = absurd h
  next_fits (PastElse ∷ rest) b ss h vs ls f l = next_fits rest b ss h vs ls f l
  next_fits (Decide t q ∷ rest) b (ATruth ∷ ss) h vs ls f l =
      let jump : Going_on b ss (λ ws ms. Jumps (Try t ∷ Decide t q ∷ rest) ws ms) = λ us ks f2 l2. awaits ps x e so g None b (Try t ∷ Decide t q ∷ rest) ss us ks (h.0, (h.0, h.1, h.2)) f2 l2 in
      choose_goes ps x e so g b ss (λ us ks. first_q e q (Again t q ∷ rest) (λ ws ms. Jumps (Try t ∷ Decide t q ∷ rest) ws ms) us ks) (λ us ks. next e rest us ks)
      (seq_fits ps x e so g q b b (Again t q ∷ rest) ss (λ ws ms. Jumps (Try t ∷ Decide t q ∷ rest) ws ms) h.1 (within_self b) (inr ((h.0, h.1, h.2), jump))) (next_fits rest b ss h.2) vs ls f l
  next_fits (Decide t q ∷ rest) b _ h vs ls f l = absurd h
  next_fits (Again t q ∷ rest) b ss h vs ls f l = awaits ps x e so g None b (Try t ∷ Decide t q ∷ rest) ss vs ls (h.0, (h.0, h.1, h.2)) f l
  next_fits (CountFor i q ∷ rest) b (AValue m ∷ ss) h vs ls f l =
      let k = next_fits rest b ss h.3 in
      let again : Left b (Do q ∷ TurnFor i q ∷ rest) ss = (b, within_self b, h.2, inr (b, within_self b, (h.1, h.2, h.3))) in
      count_for_goes ps x e so g b ss m i (λ us ks. next e rest us ks) (λ us ks. first_q e q (TurnFor i q ∷ rest) (turn_for_then i (Do q ∷ TurnFor i q ∷ rest) (λ ws ms. next e rest ws ms)) us ks) h.0 h.1 k
      (seq_fits ps x e so g q b b (TurnFor i q ∷ rest) ss (turn_for_then i (Do q ∷ TurnFor i q ∷ rest) (λ ws ms. next e rest ws ms)) h.2 (within_self b) (inr ((h.1, h.2, h.3), turn_for_goes ps x e so g b ss i (Do q ∷ TurnFor i q ∷ rest) (λ us ks. next e rest us ks) h.1 again k))) vs ls f l
  next_fits (CountFor i q ∷ rest) b _ h vs ls f l = absurd h
  next_fits (TurnFor i q ∷ rest) b ss h vs ls f l =
      turn_for_goes ps x e so g b ss i (Do q ∷ TurnFor i q ∷ rest) (λ us ks. next e rest us ks) h.0 (b, within_self b, h.1, inr (b, within_self b, (h.0, h.1, h.2))) (next_fits rest b ss h.2) vs ls f l
  next_fits (CountTo i q ∷ rest) b (AValue m ∷ ss) h vs ls f l =
      let k = next_fits rest b ss h.3 in
      let again : Left b (Do q ∷ TurnTo i q ∷ rest) ss = (b, within_self b, h.2, inr (b, within_self b, (h.1, h.2, h.3))) in
      count_to_goes ps x e so g b ss m i (λ us ks. next e rest us ks) (λ us ks. first_q e q (TurnTo i q ∷ rest) (turn_to_then i (Do q ∷ TurnTo i q ∷ rest) (λ ws ms. next e rest ws ms)) us ks) h.0 h.1 k
      (seq_fits ps x e so g q b b (TurnTo i q ∷ rest) ss (turn_to_then i (Do q ∷ TurnTo i q ∷ rest) (λ ws ms. next e rest ws ms)) h.2 (within_self b) (inr ((h.1, h.2, h.3), turn_to_goes ps x e so g b ss i (Do q ∷ TurnTo i q ∷ rest) (λ us ks. next e rest us ks) h.1 again k))) vs ls f l
  next_fits (CountTo i q ∷ rest) b _ h vs ls f l = absurd h
  next_fits (TurnTo i q ∷ rest) b ss h vs ls f l =
      turn_to_goes ps x e so g b ss i (Do q ∷ TurnTo i q ∷ rest) (λ us ks. next e rest us ks) h.0 (b, within_self b, h.1, inr (b, within_self b, (h.0, h.1, h.2))) (next_fits rest b ss h.2) vs ls f l
  next_fits (ToLabel ns ∷ rest) b (AValue m ∷ ss) h vs ls f l = label_goes ps x e so g b ss m ns (λ us ks. next e rest us ks) h.0 h.1 (next_fits rest b ss h.2) vs ls f l
  next_fits (ToLabel ns ∷ rest) b _ h vs ls f l = absurd h
  next_fits (GiveUp ∷ rest) b (AValue m ∷ ss) h vs ls f l = give_goes ps x e so g b ss m h vs ls f l
  next_fits (GiveUp ∷ rest) b _ h vs ls f l = absurd h
  next_fits (Leave ∷ rest) b ss h vs ls f l = subst (λ (a : Option Mode). AnswerFits ps x a None) (sym h) tt
  next_fits (Begin p ∷ rest) b ss h vs ls f l = (h.0, [], h.1, h.2, h.3, h.4, tt, awaits ps x e so g h.1 b rest ss vs ls h.5 f l, at_start h.6)
  next_fits (Serve n ∷ rest) b ss h vs ls f l = served rest ss n h.0 h.1 h.2 vs f
