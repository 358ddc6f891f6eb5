-- Each text has one reading.
use Rattle.std.proofs.Common.{◌≡◌, ◌≢◌, ℕ, ◌≤◌, List, [], length, None, Ok, Err, ◌⊎◌, inl, inr, refl, sym, ap, subst, ◌∙◌}
use Rattle.std.specs.Prelude.{IfOk, IfErr}
use Rattle.rt_pieces.specs.declared.item.Item.{Item}
use Rattle.rt_pieces.specs.declared.item.ItemKind.{ItemKind}
use Rattle.rt_pieces.specs.declared.fault.TextFault.{TextFault}
use Rattle.rt_pieces.specs.declared.fault.TextFault.TheVariants.{Memory}
use Rattle.rt_items.specs.declared.expand.State.{State as Code}
use Rattle.rt_items.specs.declared.expand.State.TheVariants as code
use Rattle.rt_items.specs.Texts.{Lets}
use Rattle.rt_pieces.specs.Cutting.{Clean, Stops}
use Rattle.rt_items.specs.Lets.{Reading, Items, no_lets, with_items, HaveOneReading, HaveSomeReading}
use Rattle.rt_pieces.specs.Steps.{Cuts, cuts_of}
use Rattle.rt_items.specs.Reading.{State, Plain, Behind, Named, Within, state_of, Answers, end_of, expand, reading_from, reading_of}
use Rattle.rt_pieces.proofs.Cuts.{cuts_cut, cuts_only}
use Rattle.rt_items.proofs.Expanding.{with_none, expand_sound, expand_complete, answers_same, at_most_limit}

reads_it : (bytes : List ℕ) → Items bytes (reading_of bytes)
unfolding reading_of
reads_it bytes = ((cuts_of (length bytes) None 1 bytes).0, (cuts_of (length bytes) None 1 bytes).1, cuts_cut (length bytes) None 1 bytes, expand_sound _ _ _ _)

only_it : (bytes : List ℕ) (r : Reading) → Items bytes r → r ≡ reading_of bytes
unfolding reading_of
only_it bytes r (ps, e, cut, expands) = sym (expand_complete expands) ∙ ap (λ (c : Cuts). reading_from c Plain no_lets 0) (sym (cuts_only cut))

pub one_reading : HaveOneReading
one_reading bytes r s h k = only_it bytes r h ∙ sym (only_it bytes s k)

pub some_reading : HaveSomeReading
some_reading bytes = (reading_of bytes, reads_it bytes)

-- ---- what the code answers

pub found_by : (bytes : List ℕ) (answer : Reading) → Answers (reading_of bytes) answer → IfOk answer (λ is. Items bytes (Ok is))
found_by bytes (Ok is) h = subst (λ (r : Reading). Items bytes r) h (reads_it bytes)
found_by bytes (Err f) h = tt

pub fault_by : (bytes : List ℕ) (answer : Reading) → Answers (reading_of bytes) answer → IfErr answer (λ f. f ≢ Memory → Items bytes (Err f))
fault_by bytes (Ok is) h = tt
fault_by bytes (Err Memory) h = λ apart. absurd (apart refl)
fault_by bytes (Err f) h = λ apart. subst (λ (r : Reading). Items bytes r) h (reads_it bytes)

pub only_by : (bytes : List ℕ) (answer : Reading) → Answers (reading_of bytes) answer → (r : Reading) → Items bytes r → (answer ≡ Err Memory) ⊎ (answer ≡ r)
only_by bytes (Ok is) h r reads = inr (sym h ∙ sym (only_it bytes r reads))
only_by bytes (Err Memory) h r reads = inl refl
only_by bytes (Err f) h r reads = inr (sym h ∙ sym (only_it bytes r reads))

pub limit_by : (bytes : List ℕ) (answer : Reading) → Answers (reading_of bytes) answer → IfOk answer (λ is. length is ≤ 65535)
limit_by bytes (Ok is) h = let reads : Items bytes (Ok is) = subst (λ (r : Reading). Items bytes r) h (reads_it bytes) in at_most_limit reads.3
limit_by bytes (Err f) h = tt

-- ---- the loop

pub begins : (bytes : List ℕ) (total : ℕ) (out : List Item) (lets : Lets) → total ≡ length bytes → out ≡ [] → lets ≡ no_lets → reading_of bytes ≡ with_items out (reading_from (cuts_of total None 1 bytes) Plain lets (length out))
unfolding reading_of
begins bytes total out lets total-is out-is lets-is =
    sym (with_none (reading_from (cuts_of (length bytes) None 1 bytes) Plain no_lets 0))
    ∙ ap (λ (t : List Item). with_items t (reading_from (cuts_of (length bytes) None 1 bytes) Plain no_lets (length t))) (sym out-is)
    ∙ ap (λ (t : Lets). with_items out (reading_from (cuts_of (length bytes) None 1 bytes) Plain t (length out))) (sym lets-is)
    ∙ ap (λ (t : ℕ). with_items out (reading_from (cuts_of t None 1 bytes) Plain lets (length out))) (sym total-is)

ends_same : (text : List ItemKind) (state : Code) → end_of (state_of [] state) Clean ≡ end_of (state_of text state) Clean
ends_same text code.Plain = refl
ends_same text (code.Behind n) = refl
ends_same text (code.Named n name) = refl
ends_same text (code.Within n name) = refl

module _ (whole : Reading) (out : List Item) (cuts : Cuts) (text : List ItemKind) (found : Code) (lets : Lets) (so_far : whole ≡ with_items out (reading_from cuts (state_of text found) lets (length out))) where
  pub ends_clean : (answer : Reading) → cuts ≡ ([], Clean) → answer ≡ with_items out (end_of (state_of [] found) Clean) → Answers whole answer
  unfolding expand
  ends_clean answer cut is =
      answers_same whole answer (so_far ∙ ap (λ (c : Cuts). with_items out (reading_from c (state_of text found) lets (length out))) cut ∙ ap (with_items out) (sym (ends_same text found)) ∙ sym is)

  pub ends_badly : (f : TextFault) → cuts ≡ ([], Stops f) → Answers whole (Err f)
  unfolding expand
  ends_badly f cut = answers_same whole (Err f) (so_far ∙ ap (λ (c : Cuts). with_items out (reading_from c (state_of text found) lets (length out))) cut ∙ by_state (state_of text found))
    where
      by_state : (state : State) → with_items out (end_of state (Stops f)) ≡ Err f
      by_state Plain = refl
      by_state (Behind n) = refl
      by_state (Named n name) = refl
      by_state (Within n name text) = refl
