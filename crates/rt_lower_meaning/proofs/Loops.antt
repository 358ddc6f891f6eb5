-- Loops: how often their bodies are done.
use Rattle.std.proofs.Common.{◌≡◌, ℕ, zero, suc, ◌+◌, ◌<◌, ◌≤◌, List, [], ◌∷◌, length, Option, Some, None, slice_get, slice_set, refl, sym, ap, ◌∙◌, subst, arith}
use Rattle.std.proofs.lemmas.List.{length-set}
use Rattle.rt_tree_nodes.specs.declared.store.Datum.{Datum}
use Rattle.rt_tree_nodes.specs.declared.store.Datum.TheVariants.{Word}
use Rattle.rt_tree_nodes.specs.Tree.{Seq}
use Rattle.rt_words.specs.Word.{wrap_add}
use Rattle.rt_work.specs.Numbers.{turns, turns_to}
use Rattle.rt_work_state.specs.Items.{Item, Do, CountFor, TurnFor, CountTo, TurnTo, Next, word_at}
use Rattle.rt_work.specs.Task.{next, counted, count_by, stepped, turn_by}
use Rattle.rt_meaning_laws.specs.Trees.{Started, IsLoop, AreLoops}
use Rattle.rt_meaning_laws.specs.Work.{LocalsFit}
use Rattle.rt_meaning_laws.proofs.Numbers.{turns_below, turns_to_below}
use Rattle.rt_meaning_laws.proofs.Statements.{set_loop, held, stepped_fits}
use Rattle.rt_icode.specs.declared.ins.Ins.{Ins}
use Rattle.rt_icode.specs.declared.ins.Ins.TheVariants as ins
use Rattle.rt_icode_meaning.specs.Move.{Silent, move}
use Rattle.rt_icode_meaning.specs.Move as moves
use Rattle.rt_icode_meaning.specs.Typed.{Rests}
use Rattle.rt_lower_meaning.specs.Setting.{Setting, AreLocals, Runs, Stands}
use Rattle.rt_tree_nodes.specs.declared.brick.Local.TheVariants as local
use Rattle.rt_lower_meaning.proofs.Layers.{got_less}
use Rattle.rt_lower_meaning.proofs.Statements.{words_set, Good, LabelsLead, labels_fewer, good_fewer}
use Rattle.rt_lower_meaning.proofs.Steps.{silent, jumps}

module _ (s : Setting) (h : Stands s) (lead : ℕ → ℕ) where
  abbrev after : List Item → List Datum → List Datum → Next
  after rest vs ks = next s.env rest vs ks

  abbrev Goods : ℕ → ℕ → Started → List Item → Type 0
  Goods k pc b todo = Good s h lead k pc b todo

  abbrev Fit : Started → List Datum → Type 0
  Fit b ks = LocalsFit s.system s.site b ks

  number_locals : (i n : ℕ) (ks : List Datum) → n < 65536 → AreLocals s ks → AreLocals s (slice_set ks i (Word n))
  number_locals i n ks less o = (length-set ks i (Word n) ∙ o.0, words_set ks i (Word n) o.1 less)

  stepped_locals : (i : ℕ) (o r : Option ℕ) (ks : List Datum) → AreLocals s ks → AreLocals s (stepped i o r ks)
  stepped_locals i None r ks a = a
  stepped_locals i (Some n) None ks a = a
  stepped_locals i (Some n) (Some m) ks a = number_locals i (wrap_add n m) ks (omega arith) a

  -- the third local of a loop is there
  third_inside : (i : ℕ) (b : Started) (ks : List Datum) → IsLoop s.site (i + 2) → Fit b ks → i + 2 < length ks
  third_inside i b ks e l = let less = got_less s.site.locals (i + 2) local.Loop e in let many = l.count in omega (arith, less, many)

  -- no turn, or the first
  pub counted_runs : (c : Ins) (i n more : ℕ) (b : Started) (k pc mid out : ℕ) (us0 ks : List Datum) (rest body : List Item) → slice_get s.code pc ≡ Some c → Rests s.system s.site.parts s.env c us0 ks → move s.env c pc us0 ks ≡ moves.counted i n more pc [] ks
      → pc + 1 ≡ mid → pc + 1 + more ≡ out → n ≤ 65536 → IsLoop s.site (i + 2) → Fit b ks → Goods k out b rest → Goods k mid b body → Runs s k pc us0 ks (counted i n (λ us zs. after rest us zs) (λ us zs. after body us zs) [] ks)
  counted_runs c i zero more b k pc mid out us0 ks rest body at r mv em eo few loop l go into = silent s h k pc out c us0 ks [] ks (after rest [] ks) at (mv ∙ ap (λ p. Silent p [] ks) eo) (λ w. tt) (λ o. o) r (go ks l)
  counted_runs c i (suc n) more b k pc mid out us0 ks rest body at r mv em eo few loop l go into =
      let ks2 = slice_set ks (i + 2) (Word n) in
      silent s h k pc mid c us0 ks [] ks2 (after body [] ks2) at (mv ∙ ap (λ p. Silent p [] ks2) em) (λ w. tt) (number_locals (i + 2) n ks (omega (arith, few))) r (into ks2 (set_loop s.system s.site s.env h.sound h.grounds b (i + 2) n ks loop (omega (arith, few)) l))

  -- the end, or a further turn
  turned_by : (c : Ins) (i top : ℕ) (b : Started) (k pc to : ℕ) (ks nexts : List Datum) (rest again : List Item) (o : Option ℕ) (n : ℕ) → 1 ≤ top → o ≡ Some n → n < 65536 → slice_get s.code pc ≡ Some c → Rests s.system s.site.parts s.env c [] ks → move s.env c pc [] ks ≡ moves.turned o i top pc [] ks nexts → pc + 1 ≡ to
      → IsLoop s.site (i + 2) → Fit b ks → Fit b nexts → (AreLocals s ks → AreLocals s nexts) → Goods k to b rest → ((j : ℕ) → k ≡ suc j → Goods j top b again) → Runs s k pc [] ks (turn_by i o again (λ us zs. after rest us zs) [] ks nexts)
  turned_by c i top b k pc to ks nexts rest again None n far e less at r mv et loop l ln al go more = absurd cc
  turned_by c i top b k pc to ks nexts rest again (Some zero) n far e less at r mv et loop l ln al go more = silent s h k pc to c [] ks [] ks (after rest [] ks) at (mv ∙ ap (λ p. Silent p [] ks) et) (λ w. tt) (λ o. o) r (go ks l)
  turned_by c i top b k pc to ks nexts rest again (Some (suc m)) n far e less at r mv et loop l ln al go more =
      let same : suc m ≡ n = cc in
      let small : m < 65536 = omega (arith, same, less) in
      let ks2 = slice_set nexts (i + 2) (Word m) in
      jumps s h k pc top c [] ks [] ks2 again [] ks2 far at mv (λ w. tt) (λ o. number_locals (i + 2) m nexts small (al o)) r (λ j q. more j q ks2 (set_loop s.system s.site s.env h.sound h.grounds b (i + 2) m nexts loop small ln))

  -- ---- FOR

  turn_for : (i top : ℕ) (q : Seq) (b : Started) (k pc to : ℕ) (rest : List Item) → 1 ≤ top → slice_get s.code pc ≡ Some (ins.TurnFor i top) → pc + 1 ≡ to → AreLoops s.site i → Goods k to b rest → ((j : ℕ) → k ≡ suc j → Goods j top b (Do q ∷ TurnFor i q ∷ rest)) → Goods k pc b (TurnFor i q ∷ rest)
  turn_for i top q b k pc to rest far at et loops go more ks l =
      let x = held s.system s.site s.env h.sound h.grounds b i ks loops.0 l in
      let y = held s.system s.site s.env h.sound h.grounds b (i + 1) ks loops.1 l in
      let w = held s.system s.site s.env h.sound h.grounds b (i + 2) ks loops.2 l in
      turned_by (ins.TurnFor i top) i top b k pc to ks (stepped i (word_at ks i) (word_at ks (i + 1)) ks) rest (Do q ∷ TurnFor i q ∷ rest) (word_at ks (i + 2)) w.0 far w.1 w.2 at (third_inside i b ks loops.2 l, (x.0, x.1), (y.0, y.1)) refl et loops.2 l
      (stepped_fits s.system s.site s.env h.sound h.grounds b i (word_at ks i) (word_at ks (i + 1)) ks loops.0 l) (stepped_locals i (word_at ks i) (word_at ks (i + 1)) ks) go more

  -- at the end of each turn, where the body goes on well
  pub turns_for : (i top : ℕ) (q : Seq) (b : Started) (k pc to : ℕ) (rest : List Item) → 1 ≤ top → slice_get s.code pc ≡ Some (ins.TurnFor i top) → pc + 1 ≡ to → AreLoops s.site i → LabelsLead s h lead k → Goods k to b rest
      → ((j : ℕ) → LabelsLead s h lead j → Goods j pc b (TurnFor i q ∷ rest) → Goods j top b (Do q ∷ TurnFor i q ∷ rest)) → Goods k pc b (TurnFor i q ∷ rest)
  turns_for i top q b zero pc to rest far at et loops labels go body = turn_for i top q b 0 pc to rest far at et loops go (λ j e. absurd (omega (arith, e)))
  turns_for i top q b (suc k) pc to rest far at et loops labels go body =
      let fewer = labels_fewer s h lead k labels in
      let inner = body k fewer (turns_for i top q b k pc to rest far at et loops fewer (good_fewer s h lead k to b rest go) body) in
      turn_for i top q b (suc k) pc to rest far at et loops go (λ j e. let same : k ≡ j = omega (arith, e) in subst (λ n. Goods n top b (Do q ∷ TurnFor i q ∷ rest)) same inner)

  pub count_for : (i more : ℕ) (q : Seq) (b : Started) (k pc mid out end : ℕ) (ks : List Datum) (rest : List Item) → slice_get s.code pc ≡ Some (ins.CountFor i more) → pc + 1 ≡ mid → pc + 1 + more ≡ out → AreLoops s.site i → end < 65536 → Fit b ks → Goods k out b rest → Goods k mid b (Do q ∷ TurnFor i q ∷ rest)
      → Runs s k pc (Word end ∷ []) ks (after (CountFor i q ∷ rest) (Word end ∷ []) ks)
  count_for i more q b k pc mid out end ks rest at em eo loops less l go into =
      let x = held s.system s.site s.env h.sound h.grounds b i ks loops.0 l in
      let y = held s.system s.site s.env h.sound h.grounds b (i + 1) ks loops.1 l in
      let mv : move s.env (ins.CountFor i more) pc (Word end ∷ []) ks ≡ moves.counted i (turns x.0 y.0 end) more pc [] ks =
      ap (λ o. moves.count_by i o (word_at ks (i + 1)) end more pc [] ks) x.1 ∙ ap (λ o. moves.count_by i (Some x.0) o end more pc [] ks) y.1 in
      subst (λ o. Runs s k pc (Word end ∷ []) ks (count_by i o (word_at ks (i + 1)) end (λ us zs. after rest us zs) (λ us zs. after (Do q ∷ TurnFor i q ∷ rest) us zs) [] ks)) (sym x.1)
      (subst (λ o. Runs s k pc (Word end ∷ []) ks (count_by i (Some x.0) o end (λ us zs. after rest us zs) (λ us zs. after (Do q ∷ TurnFor i q ∷ rest) us zs) [] ks)) (sym y.1)
      (counted_runs (ins.CountFor i more) i (turns x.0 y.0 end) more b k pc mid out (Word end ∷ []) ks rest (Do q ∷ TurnFor i q ∷ rest) at (third_inside i b ks loops.2 l) mv em eo (turns_below x.0 y.0 end x.2 less) loops.2 l go into))

  -- ---- TO

  turn_to : (i top : ℕ) (q : Seq) (b : Started) (k pc to : ℕ) (rest : List Item) → 1 ≤ top → slice_get s.code pc ≡ Some (ins.TurnTo i top) → pc + 1 ≡ to → AreLoops s.site i → Goods k to b rest → ((j : ℕ) → k ≡ suc j → Goods j top b (Do q ∷ TurnTo i q ∷ rest)) → Goods k pc b (TurnTo i q ∷ rest)
  turn_to i top q b k pc to rest far at et loops go more ks l =
      let w = held s.system s.site s.env h.sound h.grounds b (i + 2) ks loops.2 l in
      turned_by (ins.TurnTo i top) i top b k pc to ks ks rest (Do q ∷ TurnTo i q ∷ rest) (word_at ks (i + 2)) w.0 far w.1 w.2 at (third_inside i b ks loops.2 l) refl et loops.2 l l (λ o. o) go more

  pub turns_to_run : (i top : ℕ) (q : Seq) (b : Started) (k pc to : ℕ) (rest : List Item) → 1 ≤ top → slice_get s.code pc ≡ Some (ins.TurnTo i top) → pc + 1 ≡ to → AreLoops s.site i → LabelsLead s h lead k → Goods k to b rest
      → ((j : ℕ) → LabelsLead s h lead j → Goods j pc b (TurnTo i q ∷ rest) → Goods j top b (Do q ∷ TurnTo i q ∷ rest)) → Goods k pc b (TurnTo i q ∷ rest)
  turns_to_run i top q b zero pc to rest far at et loops labels go body = turn_to i top q b 0 pc to rest far at et loops go (λ j e. absurd (omega (arith, e)))
  turns_to_run i top q b (suc k) pc to rest far at et loops labels go body =
      let fewer = labels_fewer s h lead k labels in
      let inner = body k fewer (turns_to_run i top q b k pc to rest far at et loops fewer (good_fewer s h lead k to b rest go) body) in
      turn_to i top q b (suc k) pc to rest far at et loops go (λ j e. let same : k ≡ j = omega (arith, e) in subst (λ n. Goods n top b (Do q ∷ TurnTo i q ∷ rest)) same inner)

  pub count_to : (i more : ℕ) (q : Seq) (b : Started) (k pc mid out n : ℕ) (ks : List Datum) (rest : List Item) → slice_get s.code pc ≡ Some (ins.CountTo i more) → pc + 1 ≡ mid → pc + 1 + more ≡ out → AreLoops s.site i → n < 65536 → Fit b ks → Goods k out b rest → Goods k mid b (Do q ∷ TurnTo i q ∷ rest)
      → Runs s k pc (Word n ∷ []) ks (after (CountTo i q ∷ rest) (Word n ∷ []) ks)
  count_to i more q b k pc mid out n ks rest at em eo loops less l go into =
      counted_runs (ins.CountTo i more) i (turns_to n) more b k pc mid out (Word n ∷ []) ks rest (Do q ∷ TurnTo i q ∷ rest) at (third_inside i b ks loops.2 l) refl em eo (turns_to_below n less) loops.2 l go into
