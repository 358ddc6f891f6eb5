-- The invisible work of statements lacks nothing, and what it leaves fits.
use Rattle.std.proofs.Common.{◌≡◌, ◌⊎◌, inl, inr, ℕ, zero, suc, ◌+◌, ◌<◌, ◌≤◌, ◌&&◌, Bool, true, false, List, [], ◌∷◌, Option, Some, None, slice_get, slice_set, refl, sym, ap, subst, arith}
use Rattle.rt_modes.specs.declared.mode.Mode.{Mode, out-Mode}
use Rattle.rt_modes.specs.declared.mode.Mode.TheOpen.{Mode-F}
use Rattle.rt_modes.specs.declared.mode.Mode.TheVariants as mode
use Rattle.rt_tree_nodes.specs.declared.store.Datum.{Datum}
use Rattle.rt_tree_nodes.specs.declared.store.Datum.TheVariants.{Word}
use Rattle.rt_tree_nodes.specs.Tree.{Stmt, Keep, Clear, Put, Run, Toss, Goto, GiveBack, Back, Switch, Inner, If, For, To, While, Recover, Seq, Done, Then, Mark}
use Rattle.rt_tree_nodes.specs.Typing.{is_value}
use Rattle.rt_tree.specs.Statements.{starts_at_zero}
use Rattle.rt_tree.specs.Stored.{System}
use Rattle.rt_words.specs.Word.{wrap_add}
use Rattle.rt_work.specs.Numbers.{turns, turns_to}
use Rattle.rt_work_state.specs.Items.{Env, Item, Do, Eval, Local, Save, Drop, Choose, PastElse, Decide, Again, CountFor, TurnFor, CountTo, TurnTo, Try, ToLabel, GiveUp, Jumps, a_word, word_at}
use Rattle.rt_work.specs.Task.{Going, local_then, save_then, drop_then, give_up_then, counted, count_by, count_for_then, count_to_then, stepped, turn_by, turn_for_then, turn_to_then, leap_or, nth_label, to_label_then, choose_then, first, first_s, first_q}
use Rattle.rt_meaning_laws.specs.Slots.{IsInt, Slot, AValue, APlace, AnOwn, IsOf, FillAll}
use Rattle.rt_meaning_laws.specs.Trees.{Started, Within, and_local, Site, table, local_mode, IsLoop, AreLoops, behind, of_number, LabelFits, LabelsFit, StmtFits, SeqFits, stmt_ends, seq_ends, ends}
use Rattle.rt_meaning_laws.specs.Work.{TodoFits, LocalsFit, AnswerFits, NextFits}
use Rattle.rt_meaning_laws.specs.Grounds.{Sound, Grounds}
use Rattle.rt_meaning_laws.proofs.Modes.{out_int, out_ref, int_is_word, int_is_number, number_is, byte_is}
use Rattle.rt_meaning_laws.proofs.Finding.{value_found, word_found, place_found, own_found}
use Rattle.rt_meaning_laws.proofs.Locals.{loop_mode, within_self, within_more, weaker, set_local, within_all}
use Rattle.rt_meaning_laws.proofs.Numbers.{turns_below, turns_to_below}
use Rattle.rt_meaning_laws.proofs.Terms.{Goes, Todo, awaits, own, term_fits, path_fits, call_fits}
use Rattle.rt_meaning_laws.proofs.Conditions.{choose_goes, cond_fits}

module _ (ps : System) (x : Site) (e : Env) (so : Sound ps) (g : Grounds ps x e) where
  abbrev Going_on : Started → List Slot → Going → Type 0
  Going_on = Goes ps x e so g

  abbrev Left : Started → List Item → List Slot → Type 0
  Left = Todo ps x e so g

  -- control never comes further, or what is left fits and goes on
  abbrev pub Onward : Started → Bool → List Item → List Slot → Going → Type 0
  Onward b c rest ss go = (c ≡ true) ⊎ (Left b rest ss × Going_on b ss go)

  comes : (b : Started) (rest : List Item) (ss : List Slot) (go : Going) → Onward b false rest ss go → Left b rest ss × Going_on b ss go
  comes b rest ss go (inl h) = absurd cc
  comes b rest ss go (inr h) = h

  -- ---- one item

  pub local_goes : (b k : Started) (ss : List Slot) (m : Mode) (i : ℕ) (go : Going) → local_mode x i ≡ Some m → Within k (and_local b i) → Going_on k ss go → Going_on b (AValue m ∷ ss) (local_then i go)
  local_goes b k ss m i go lm w go_on us ks f l =
      value_found ps x e m ss us _ f (λ v ws h f2. go_on ws (slice_set ks i v) f2 (weaker ps x (and_local b i) k (slice_set ks i v) (set_local ps x b i m v ks l lm h) w))

  pub save_goes : (b : Started) (rest : List Item) (ss : List Slot) (m k : Mode) → out-Mode k ≡ Mode-F.Ref m → is_value (out-Mode m) ≡ true → Left b rest ss → Going_on b (AValue m ∷ AValue k ∷ ss) (save_then rest)
  save_goes b rest ss m k o v r us ks f l =
      value_found ps x e m (AValue k ∷ ss) us _ f (λ d ws h f2.
      place_found ps x e m k ss ws _ o f2 (λ p zs lead f3. (m, v, inl lead, h, awaits ps x e so g None b rest ss zs ks r f3 l)))

  pub save_own_goes : (b : Started) (rest : List Item) (ss : List Slot) (m : Mode) → is_value (out-Mode m) ≡ true → Left b rest ss → Going_on b (AValue m ∷ AnOwn m ∷ ss) (save_then rest)
  save_own_goes b rest ss m v r us ks f l =
      value_found ps x e m (AnOwn m ∷ ss) us _ f (λ d ws h f2.
      own_found ps x e m ss ws _ f2 (λ p zs st lead f3. (m, v, inr (st, lead), h, awaits ps x e so g None b rest ss zs ks r f3 l)))

  pub drop_goes : (b : Started) (ss : List Slot) (m : Mode) (go : Going) → Going_on b ss go → Going_on b (AValue m ∷ ss) (drop_then go)
  drop_goes b ss m go go_on us ks f l = value_found ps x e m ss us _ f (λ d ws h f2. go_on ws ks f2 l)

  pub give_goes : (b : Started) (ss : List Slot) (m : Mode) → x.answer ≡ Some m → Going_on b (AValue m ∷ ss) (λ us ks. give_up_then us)
  give_goes b ss m a us ks f l = value_found ps x e m ss us _ f (λ d ws h f2. subst (λ (o : Option Mode). AnswerFits ps x o (Some d)) (sym a) h)

  pub nth_fits : (b : Started) (ls : List ℕ) (i l : ℕ) → LabelsFit x b ls → slice_get ls i ≡ Some l → LabelFits x b l
  nth_fits b [] i l h q = absurd cc
  nth_fits b (k ∷ ls) zero l h q = let same : k ≡ l = cc in subst (λ (z : ℕ). LabelFits x b z) same h.0
  nth_fits b (k ∷ ls) (suc i) l h q = nth_fits b ls i l h.1 q

  leap_by : (b : Started) (ss : List Slot) (go : Going) (o : Option ℕ) (us ks : List Datum) → ((l : ℕ) → o ≡ Some l → LabelFits x b l) → Going_on b ss go → FillAll ps (table x) ss us → LocalsFit ps x b ks → NextFits ps x e (leap_or o go us ks)
  leap_by b ss go None us ks h go_on f l = go_on us ks f l
  leap_by b ss go (Some n) us ks h go_on f l = let fits = h n refl in (fits.0, fits.1, weaker ps x b fits.0 ks l fits.2)

  label_at : (b : Started) (ls : List ℕ) (i l : ℕ) → LabelsFit x b ls → nth_label i ls ≡ Some l → LabelFits x b l
  label_at b ls zero l h q = absurd cc
  label_at b ls (suc i) l h q = nth_fits b ls i l h q

  pub label_goes : (b : Started) (ss : List Slot) (m : Mode) (ls : List ℕ) (go : Going) → IsInt m → LabelsFit x b ls → Going_on b ss go → Going_on b (AValue m ∷ ss) (to_label_then ls go)
  label_goes b ss m ls go im h go_on us ks f l = word_found ps x e m ss us _ (int_is_word m im) f (λ i ws r f2. leap_by b ss go (nth_label i ls) ws ks (λ n q. label_at b ls i n h q) go_on f2 l)

  -- ---- loops

  pub set_loop : (b : Started) (i n : ℕ) (ks : List Datum) → IsLoop x i → n < 65536 → LocalsFit ps x b ks → LocalsFit ps x b (slice_set ks i (Word n))
  set_loop b i n ks h r l = weaker ps x (and_local b i) b (slice_set ks i (Word n)) (set_local ps x b i mode.Int (Word n) ks l (loop_mode x i mode.Int h out_int) (number_is ps (table x) mode.Int n (int_is_number mode.Int out_int) r)) (within_more b i)

  counted_goes : (b : Started) (ss : List Slot) (i n : ℕ) (out into : Going) (us ks : List Datum) → IsLoop x (i + 2) → n ≤ 65536 → Going_on b ss out → Going_on b ss into → FillAll ps (table x) ss us → LocalsFit ps x b ks
      → NextFits ps x e (counted i n out into us ks)
  counted_goes b ss i zero out into us ks h r ho hi f l = ho us ks f l
  counted_goes b ss i (suc n) out into us ks h r ho hi f l = hi us (slice_set ks (i + 2) (Word n)) f (set_loop b (i + 2) n ks h (omega arith) l)

  -- the word that a loop's own local holds
  pub held : (b : Started) (i : ℕ) (ks : List Datum) → IsLoop x i → LocalsFit ps x b ks → (n : ℕ) × (word_at ks i ≡ Some n) × (n < 65536)
  held b i ks h l = let k = l.loops i h in (k.0, ap a_word k.1, k.2)

  pub count_for_goes : (b : Started) (ss : List Slot) (m : Mode) (i : ℕ) (out into : Going) → IsInt m → AreLoops x i → Going_on b ss out → Going_on b ss into → Going_on b (AValue m ∷ ss) (count_for_then i out into)
  count_for_goes b ss m i out into im h ho hi us ks f l =
      let first_word = held b i ks h.0 l in
      let step_word = held b (i + 1) ks h.1 l in
      word_found ps x e m ss us _ (int_is_word m im) f (λ n ws r f2.
      subst (λ (o : Option ℕ). NextFits ps x e (count_by i o (word_at ks (i + 1)) n out into ws ks)) (sym first_word.1)
      (subst (λ (o : Option ℕ). NextFits ps x e (count_by i (Some first_word.0) o n out into ws ks)) (sym step_word.1)
      (counted_goes b ss i (turns first_word.0 step_word.0 n) out into ws ks h.2 (turns_below first_word.0 step_word.0 n first_word.2 r) ho hi f2 l)))

  pub count_to_goes : (b : Started) (ss : List Slot) (m : Mode) (i : ℕ) (out into : Going) → IsInt m → AreLoops x i → Going_on b ss out → Going_on b ss into → Going_on b (AValue m ∷ ss) (count_to_then i out into)
  count_to_goes b ss m i out into im h ho hi us ks f l = word_found ps x e m ss us _ (int_is_word m im) f (λ n ws r f2. counted_goes b ss i (turns_to n) out into ws ks h.2 (turns_to_below n r) ho hi f2 l)

  turn_goes : (b : Started) (ss : List Slot) (i : ℕ) (again : List Item) (go : Going) (us ks next : List Datum) → AreLoops x i → Left b again ss → Going_on b ss go → FillAll ps (table x) ss us → LocalsFit ps x b ks → LocalsFit ps x b next
      → NextFits ps x e (turn_by i (word_at ks (i + 2)) again go us ks next)
  turn_goes b ss i again go us ks next h r go_on f l ln =
      let left_word = held b (i + 2) ks h.2 l in
      subst (λ (o : Option ℕ). NextFits ps x e (turn_by i o again go us ks next)) (sym left_word.1) (turn left_word.0 left_word.2)
    where
      turn : (n : ℕ) → n < 65536 → NextFits ps x e (turn_by i (Some n) again go us ks next)
      turn zero q = go_on us ks f l
      turn (suc n) q = awaits ps x e so g None b again ss us (slice_set next (i + 2) (Word n)) r f (set_loop b (i + 2) n next h.2 (omega arith) ln)

  pub stepped_fits : (b : Started) (i : ℕ) (o r : Option ℕ) (ks : List Datum) → IsLoop x i → LocalsFit ps x b ks → LocalsFit ps x b (stepped i o r ks)
  stepped_fits b i None r ks h l = l
  stepped_fits b i (Some n) None ks h l = l
  stepped_fits b i (Some n) (Some k) ks h l = set_loop b i (wrap_add n k) ks h (omega arith) l

  pub turn_for_goes : (b : Started) (ss : List Slot) (i : ℕ) (again : List Item) (go : Going) → AreLoops x i → Left b again ss → Going_on b ss go → Going_on b ss (turn_for_then i again go)
  turn_for_goes b ss i again go h r go_on us ks f l = turn_goes b ss i again go us ks (stepped i (word_at ks i) (word_at ks (i + 1)) ks) h r go_on f l (stepped_fits b i (word_at ks i) (word_at ks (i + 1)) ks h.0 l)

  pub turn_to_goes : (b : Started) (ss : List Slot) (i : ℕ) (again : List Item) (go : Going) → AreLoops x i → Left b again ss → Going_on b ss go → Going_on b ss (turn_to_then i again go)
  turn_to_goes b ss i again go h r go_on us ks f l = turn_goes b ss i again go us ks ks h r go_on f l l

  -- ---- whole statements

  pub cleared : (i : ℕ) (m : Mode) (l : Mode-F Mode) → out-Mode m ≡ l → starts_at_zero l ≡ true → IsOf ps (table x) m (Word 0)
  cleared i m Mode-F.Byte o h = byte_is ps (table x) m 0 o (omega arith)
  cleared i m Mode-F.Int o h = number_is ps (table x) m 0 (int_is_number m o) (omega arith)
  cleared i m Mode-F.Frac o h = number_is ps (table x) m 0 (ap of_number o) (omega arith)
  cleared i m _ o h = absurd cc

  -- each of two sequences that both never end, or are both followed
  apart : (b : Started) (c d : Bool) (rest : List Item) (ss : List Slot) (go : Going) → Onward b (c && d) rest ss go → Onward b c rest ss go × Onward b d rest ss go
  apart b true true rest ss go (inl h) = (inl refl, inl refl)
  apart b true false rest ss go (inl h) = absurd cc
  apart b false d rest ss go (inl h) = absurd cc
  apart b c d rest ss go (inr h) = (inr h, inr h)

  -- what is left behind a choice
  chosen_left : (b : Started) (c d : Bool) (rest : List Item) (ss : List Slot) (go : Going) → Onward b (c && d) rest ss go → ((c ≡ true) × (d ≡ true)) ⊎ Left b rest ss
  chosen_left b true true rest ss go (inl h) = inl (refl, refl)
  chosen_left b true false rest ss go (inl h) = absurd cc
  chosen_left b false d rest ss go (inl h) = absurd cc
  chosen_left b c d rest ss go (inr h) = inr h.0

  -- a statement with a sequence behind it
  more : (c : Bool) (a : Stmt) (q : Seq) (b k j : Started) (rest : List Item) (ss : List Slot) (go : Going) → Within k (behind b a) → Within j k → SeqFits x k q → Onward j (seq_ends c q) rest ss go
      → (Onward j (ends q) rest ss go → Going_on k ss (λ vs ls. first_q e q rest go vs ls)) → Onward (behind b a) c (Do q ∷ rest) ss (λ vs ls. first_q e q rest go vs ls)
  more true a q b k j rest ss go w v h o goes = inl refl
  more false a q b k j rest ss go w v h o goes = inr ((k, w, h, tail o), λ us ks f l. goes o us ks f (weaker ps x (behind b a) k ks l w))
    where
      tail : Onward j (ends q) rest ss go → (ends q ≡ true) ⊎ ((n : Started) × Within n k × TodoFits ps x n rest ss)
      tail (inl h) = inl h
      tail (inr h) = inr (j, v, h.0)

  mutual
    pub stmt_fits : (a : Stmt) (b : Started) (rest : List Item) (ss : List Slot) (go : Going) → StmtFits x b a → Onward (behind b a) (stmt_ends a) rest ss go → Going_on b ss (λ vs ls. first_s e a rest go vs ls)
    stmt_fits (Keep i v) b rest ss go h o vs ls f l =
        let k = comes (and_local b i) rest ss go o in
        term_fits ps x e so g v h.0 b (Local i ∷ rest) ss (local_then i go) h.2 (and_local b i, h.1, within_self (and_local b i), k.0) (local_goes b (and_local b i) ss h.0 i go h.1 (within_self (and_local b i)) k.1) vs ls f l
    stmt_fits (Clear i) b rest ss go h o vs ls f l =
        let k = comes b rest ss go o in
        k.1 vs (slice_set ls i (Word 0)) f (weaker ps x (and_local b i) b (slice_set ls i (Word 0)) (set_local ps x b i h.0 (Word 0) ls l h.1 (cleared i h.0 (out-Mode h.0) refl h.2)) (within_more b i))
    stmt_fits (Put w q v) b rest ss go h o vs ls f l =
        let k = comes b rest ss go o in
        elim h.2 [
          | inl p ↦ path_fits ps x e so g q h.0 b (Eval v ∷ Save q v ∷ rest) ss (λ us ks. first e v (Save q v ∷ rest) (save_then rest) us ks) p (h.0, h.3, (h.0, out_ref h.0, (refl, h.1, k.0)))
              (term_fits ps x e so g v h.0 b (Save q v ∷ rest) (APlace h.0 ∷ ss) (save_then rest) h.3 (h.0, out_ref h.0, (refl, h.1, k.0)) (save_goes b rest ss h.0 (mode.Ref h.0) (out_ref h.0) h.1 k.0)) vs ls f l
          | inr p ↦ own ps x e so g q h.0 b ss (λ us ks. first e v (Save q v ∷ rest) (save_then rest) us ks) (Eval v ∷ Save q v ∷ rest) p.0 p.1
              (term_fits ps x e so g v h.0 b (Save q v ∷ rest) (AnOwn h.0 ∷ ss) (save_then rest) h.3 (refl, h.1, k.0) (save_own_goes b rest ss h.0 h.1 k.0)) vs ls f l
        ]
    stmt_fits (Run v) b rest ss go h o vs ls f l = call_fits ps x e so g v None b rest ss go h (comes b rest ss go o).0 vs ls f l
    stmt_fits (Toss v) b rest ss go h o vs ls f l =
        let k = comes b rest ss go o in
        term_fits ps x e so g v h.0 b (Drop ∷ rest) ss (drop_then go) h.1 k.0 (drop_goes b ss h.0 go k.1) vs ls f l
    stmt_fits (Goto n) b rest ss go h o vs ls f l = (h.0, h.1, weaker ps x b h.0 ls l h.2)
    stmt_fits (GiveBack v) b rest ss go h o vs ls f l = term_fits ps x e so g v h.0 b (GiveUp ∷ rest) ss (λ us ks. give_up_then us) h.2 h.1 (give_goes b ss h.0 h.1) vs ls f l
    stmt_fits Back b rest ss go h o vs ls f l = subst (λ (a : Option Mode). AnswerFits ps x a None) (sym h) tt
    stmt_fits (Switch v ns) b rest ss go h o vs ls f l =
        let k = comes b rest ss go o in
        term_fits ps x e so g v h.0 b (ToLabel ns ∷ rest) ss (to_label_then ns go) h.2 (h.1, h.3, k.0) (label_goes b ss h.0 ns go h.1 h.3 k.1) vs ls f l
    stmt_fits (Inner q) b rest ss go h o vs ls f l = seq_fits q b b rest ss go h (within_self b) o vs ls f l
    stmt_fits (If t c d) b rest ss go h o vs ls f l =
        let each = apart b (ends c) (ends d) rest ss go o in
        cond_fits ps x e so g t b (Choose c d ∷ rest) ss (choose_then (λ us ks. first_q e c (PastElse ∷ rest) go us ks) (λ us ks. first_q e d rest go us ks)) h.0 ((h.1, h.2), chosen_left b (ends c) (ends d) rest ss go o)
        (choose_goes ps x e so g b ss (λ us ks. first_q e c (PastElse ∷ rest) go us ks) (λ us ks. first_q e d rest go us ks) (seq_fits c b b (PastElse ∷ rest) ss go h.1 (within_self b) each.0) (seq_fits d b b rest ss go h.2 (within_self b) each.1)) vs ls f l
    stmt_fits (For i y z w q) b rest ss go h o vs ls f l =
        let k = comes b rest ss go o in
        let loops = h.3 in
        let again : Left b (Do q ∷ TurnFor i q ∷ rest) ss = (b, within_self b, h.7, inr (b, within_self b, (loops, h.7, k.0))) in
        let body : Going_on b ss (λ us ks. first_q e q (TurnFor i q ∷ rest) (turn_for_then i (Do q ∷ TurnFor i q ∷ rest) go) us ks) =
        seq_fits q b b (TurnFor i q ∷ rest) ss (turn_for_then i (Do q ∷ TurnFor i q ∷ rest) go) h.7 (within_self b) (inr ((loops, h.7, k.0), turn_for_goes b ss i (Do q ∷ TurnFor i q ∷ rest) go loops again k.1)) in
        let counts : Left b (CountFor i q ∷ rest) (AValue h.2 ∷ ss) = (h.6.0, loops, h.7, k.0) in
        let steps : Left b (Local (i + 1) ∷ Eval w ∷ CountFor i q ∷ rest) (AValue h.1 ∷ ss) = (b, loop_mode x (i + 1) h.1 loops.1 h.5.0, within_more b (i + 1), (h.2, h.6.1, counts)) in
        let starts : Left b (Local i ∷ Eval z ∷ Local (i + 1) ∷ Eval w ∷ CountFor i q ∷ rest) (AValue h.0 ∷ ss) = (b, loop_mode x i h.0 loops.0 h.4.0, within_more b i, (h.1, h.5.1, steps)) in
        term_fits ps x e so g y h.0 b (Local i ∷ Eval z ∷ Local (i + 1) ∷ Eval w ∷ CountFor i q ∷ rest) ss _ h.4.1 starts (local_goes b b ss h.0 i _ (loop_mode x i h.0 loops.0 h.4.0) (within_more b i)
        (term_fits ps x e so g z h.1 b (Local (i + 1) ∷ Eval w ∷ CountFor i q ∷ rest) ss _ h.5.1 steps (local_goes b b ss h.1 (i + 1) _ (loop_mode x (i + 1) h.1 loops.1 h.5.0) (within_more b (i + 1))
        (term_fits ps x e so g w h.2 b (CountFor i q ∷ rest) ss _ h.6.1 counts (count_for_goes b ss h.2 i go (λ us ks. first_q e q (TurnFor i q ∷ rest) (turn_for_then i (Do q ∷ TurnFor i q ∷ rest) go) us ks) h.6.0 loops k.1 body))))) vs ls f l
    stmt_fits (To i n q) b rest ss go h o vs ls f l =
        let k = comes b rest ss go o in
        let loops = h.1 in
        let again : Left b (Do q ∷ TurnTo i q ∷ rest) ss = (b, within_self b, h.3, inr (b, within_self b, (loops, h.3, k.0))) in
        let body : Going_on b ss (λ us ks. first_q e q (TurnTo i q ∷ rest) (turn_to_then i (Do q ∷ TurnTo i q ∷ rest) go) us ks) =
        seq_fits q b b (TurnTo i q ∷ rest) ss (turn_to_then i (Do q ∷ TurnTo i q ∷ rest) go) h.3 (within_self b) (inr ((loops, h.3, k.0), turn_to_goes b ss i (Do q ∷ TurnTo i q ∷ rest) go loops again k.1)) in
        term_fits ps x e so g n h.0 b (CountTo i q ∷ rest) ss _ h.2.1 (h.2.0, loops, h.3, k.0) (count_to_goes b ss h.0 i go (λ us ks. first_q e q (TurnTo i q ∷ rest) (turn_to_then i (Do q ∷ TurnTo i q ∷ rest) go) us ks) h.2.0 loops k.1 body) vs ls f l
    stmt_fits (While t q) b rest ss go h o vs ls f l =
        let k = comes b rest ss go o in
        let ending : Left b (Again t q ∷ rest) ss = (h.0, h.1, k.0) in
        let jump : Going_on b ss (λ ws ms. Jumps (Try t ∷ Decide t q ∷ rest) ws ms) = λ us ks f2 l2. awaits ps x e so g None b (Try t ∷ Decide t q ∷ rest) ss us ks (h.0, (h.0, h.1, k.0)) f2 l2 in
        cond_fits ps x e so g t b (Decide t q ∷ rest) ss (choose_then (λ us ks. first_q e q (Again t q ∷ rest) (λ ws ms. Jumps (Try t ∷ Decide t q ∷ rest) ws ms) us ks) go) h.0 (h.0, h.1, k.0)
        (choose_goes ps x e so g b ss (λ us ks. first_q e q (Again t q ∷ rest) (λ ws ms. Jumps (Try t ∷ Decide t q ∷ rest) ws ms) us ks) go (seq_fits q b b (Again t q ∷ rest) ss (λ ws ms. Jumps (Try t ∷ Decide t q ∷ rest) ws ms) h.1 (within_self b) (inr (ending, jump))) k.1) vs ls f l
    stmt_fits (Recover n) b rest ss go h o vs ls f l = awaits ps x e so g None b rest ss vs ls (comes b rest ss go o).0 f l

    pub seq_fits : (q : Seq) (b j : Started) (rest : List Item) (ss : List Slot) (go : Going) → SeqFits x b q → Within j b → Onward j (ends q) rest ss go → Going_on b ss (λ vs ls. first_q e q rest go vs ls)
    seq_fits Done b j rest ss go h w o vs ls f l = (comes j rest ss go o).1 vs ls f (weaker ps x b j ls l w)
    seq_fits (Then a q) b j rest ss go h w o vs ls f l =
        let up : Within j h.1.0 = within_all j b h.1.0 w h.1.1 in
        stmt_fits a b (Do q ∷ rest) ss (λ us ks. first_q e q rest go us ks) h.0 (more (stmt_ends a) a q b h.1.0 j rest ss go h.1.2 up h.1.3 o (λ o2 us ks f2 l2. seq_fits q h.1.0 j rest ss go h.1.3 up o2 us ks f2 l2)) vs ls f l
    seq_fits (Mark n q) b j rest ss go h w o vs ls f l = seq_fits q h.0 j rest ss go h.4 (within_all j b h.0 w h.2) o vs ls f (weaker ps x b h.0 ls l h.3)
