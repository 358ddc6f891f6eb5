-- The fault line is read as it is printed.
use Rattle.std.proofs.Common.{◌≡◌, ℕ, ◌≤◌, ◌⊎◌, inl, inr, Bool, true, false, cond, eqb, List, [], ◌∷◌, ◌++◌, codes, decimal, Option, Some, None, refl, sym, ap, subst, ◌∙◌, arith}
use Rattle.std.specs.Str.{bytes_eq}
use Rattle.std.proofs.lemmas.Bool.{eqb-true}
use Rattle.std.proofs.lemmas.Fmt.{decimal_digit, decimal_step}
use Rattle.pdp_core.specs.declared.cpu.Kind.{Kind}
use Rattle.pdp_core.specs.declared.cpu.Kind.TheVariants as kind
use Rattle.rt_words.specs.Operators.{octal6}
use Rattle.rt_system.specs.ReadingSystems.{and_then}
use Rattle.rt_system.proofs.TickLineReads.{gap_by}
use Rattle.rt_system.proofs.Words.{same_means, same_is}
use Rattle.rt_replay.specs.Reports.{Line, MachineFault, InputFault, OutputFault, printed, Ending, Machine, Input, Output, status_of, fault_lines, HasEndingRange, IsReportName}
use Rattle.rt_replay.specs.Reading.{behind, unended, cut, is_name, is_octal, or_else, kind_behind, place_of, place_in, is_place, is_fault}
use Rattle.rt_replay.proofs.Pieces.{found, none_true, differ, behind_means, behind_is, behind_none, unended_means, unended_is, cut_means, cut_is}
use Rattle.rt_replay.proofs.DecimalReads.{octal_means, octal_is}
use Rattle.rt_replay.proofs.LineReads.{name_means, name_is, name_word, either}

-- ---- the kind

abbrev pub kind_front : Kind → List ℕ
kind_front kind.Odd = codes "ODD "
kind_front kind.Reserved = codes "RESERVED "
kind_front kind.Access = codes "ACCESS "
kind_front kind.BadJump = codes "BADJUMP "

pub record HasKind (text rest : List ℕ) : Type 0 where
  pub what : Kind
  pub parts : text ≡ kind_front what ++ rest

abbrev odd : List ℕ → Option (List ℕ)
odd text = behind (codes "ODD ") text

abbrev reserved : List ℕ → Option (List ℕ)
reserved text = behind (codes "RESERVED ") text

abbrev access : List ℕ → Option (List ℕ)
access text = behind (codes "ACCESS ") text

abbrev bad_jump : List ℕ → Option (List ℕ)
bad_jump text = behind (codes "BADJUMP ") text

kind_means : (text rest : List ℕ) → kind_behind text ≡ Some rest → HasKind text rest
unfolding kind_behind
kind_means text rest e =
    elim (either (odd text) (or_else (reserved text) (or_else (access text) (bad_jump text))) rest e) [
      | inl h ↦ record { what = kind.Odd; parts = behind_means (codes "ODD ") text rest h }
      | inr r ↦ elim (either (reserved text) (or_else (access text) (bad_jump text)) rest r) [
        | inl h ↦ record { what = kind.Reserved; parts = behind_means (codes "RESERVED ") text rest h }
        | inr q ↦ elim (either (access text) (bad_jump text) rest q) [
          | inl h ↦ record { what = kind.Access; parts = behind_means (codes "ACCESS ") text rest h }
          | inr h ↦ record { what = kind.BadJump; parts = behind_means (codes "BADJUMP ") text rest h }
        ]
      ]
    ]

kind_is : (k : Kind) (rest : List ℕ) → kind_behind (kind_front k ++ rest) ≡ Some rest
unfolding kind_behind
kind_is kind.Odd rest =
    let text = codes "ODD " ++ rest in
    ap (λ (o : Option (List ℕ)). or_else o (or_else (reserved text) (or_else (access text) (bad_jump text)))) (behind_is (codes "ODD ") rest)
kind_is kind.Reserved rest =
    let text = codes "RESERVED " ++ rest in
    ap (λ (o : Option (List ℕ)). or_else o (or_else (reserved text) (or_else (access text) (bad_jump text)))) (behind_none (codes "ODD ") text (λ r e. differ 0 text (codes "ODD " ++ r) refl e))
    ∙ ap (λ (o : Option (List ℕ)). or_else o (or_else (access text) (bad_jump text))) (behind_is (codes "RESERVED ") rest)
kind_is kind.Access rest =
    let text = codes "ACCESS " ++ rest in
    ap (λ (o : Option (List ℕ)). or_else o (or_else (reserved text) (or_else (access text) (bad_jump text)))) (behind_none (codes "ODD ") text (λ r e. differ 0 text (codes "ODD " ++ r) refl e))
    ∙ ap (λ (o : Option (List ℕ)). or_else o (or_else (access text) (bad_jump text))) (behind_none (codes "RESERVED ") text (λ r e. differ 0 text (codes "RESERVED " ++ r) refl e))
    ∙ ap (λ (o : Option (List ℕ)). or_else o (bad_jump text)) (behind_is (codes "ACCESS ") rest)
kind_is kind.BadJump rest =
    let text = codes "BADJUMP " ++ rest in
    ap (λ (o : Option (List ℕ)). or_else o (or_else (reserved text) (or_else (access text) (bad_jump text)))) (behind_none (codes "ODD ") text (λ r e. differ 0 text (codes "ODD " ++ r) refl e))
    ∙ ap (λ (o : Option (List ℕ)). or_else o (or_else (access text) (bad_jump text))) (behind_none (codes "RESERVED ") text (λ r e. differ 0 text (codes "RESERVED " ++ r) refl e))
    ∙ ap (λ (o : Option (List ℕ)). or_else o (bad_jump text)) (behind_none (codes "ACCESS ") text (λ r e. differ 0 text (codes "ACCESS " ++ r) refl e))
    ∙ behind_is (codes "BADJUMP ") rest

-- ---- numbers that stand in fault lines

four : decimal 4 ≡ codes "4"
four = decimal_digit 4 (omega arith)

twenty : decimal 20 ≡ codes "20"
twenty = decimal_step 20 (omega arith) (omega arith) ∙ ap (λ (t : List ℕ). t ++ 48 ∷ []) (decimal_digit 2 (omega arith))

twenty_one : decimal 21 ≡ codes "21"
twenty_one = decimal_step 21 (omega arith) (omega arith) ∙ ap (λ (t : List ℕ). t ++ 49 ∷ []) (decimal_digit 2 (omega arith))

abbrev machine_text : List ℕ → Kind → ℕ → List ℕ
machine_text task k at = codes "FAULT 4 " ++ (task ++ 32 ∷ (kind_front k ++ (octal6 at ++ 10 ∷ [])))

machine_by : (d task : List ℕ) (k : Kind) (at : ℕ) → d ≡ codes "4" → codes "FAULT " ++ (d ++ 32 ∷ (task ++ 32 ∷ (kind_front k ++ (octal6 at ++ 10 ∷ [])))) ≡ machine_text task k at
machine_by d task k at e = ap (λ (t : List ℕ). codes "FAULT " ++ (t ++ 32 ∷ (task ++ 32 ∷ (kind_front k ++ (octal6 at ++ 10 ∷ []))))) e

machine_shape : (task : List ℕ) (k : Kind) (at : ℕ) → printed (MachineFault task k at) ≡ codes "FAULT " ++ (decimal 4 ++ 32 ∷ (task ++ 32 ∷ (kind_front k ++ (octal6 at ++ 10 ∷ []))))
machine_shape task kind.Odd at = refl
machine_shape task kind.Reserved at = refl
machine_shape task kind.Access at = refl
machine_shape task kind.BadJump at = refl

pub machine_printed : (task : List ℕ) (k : Kind) (at : ℕ) → printed (MachineFault task k at) ≡ machine_text task k at
machine_printed task k at = machine_shape task k at ∙ machine_by (decimal 4) task k at four

pub input_printed : printed InputFault ≡ codes "FAULT 20 INPUT\n"
input_printed = ap (λ (t : List ℕ). codes "FAULT " ++ (t ++ codes " INPUT\n")) twenty

pub output_printed : printed OutputFault ≡ codes "FAULT 21 OUTPUT\n"
output_printed = ap (λ (t : List ℕ). codes "FAULT " ++ (t ++ codes " OUTPUT\n")) twenty_one

-- ---- the fault line

-- the line is the fault line of a report of this status
pub record IsFaultLine (status : ℕ) (line : List ℕ) : Type 0 where
  pub ending : Ending
  pub status_is : status_of ending ≡ status
  pub range : HasEndingRange ending
  pub fault : Line
  pub alone : fault_lines ending ≡ fault ∷ []
  pub line_is : line ≡ printed fault

machine_found : (line first rest digits : List ℕ) → line ≡ codes "FAULT 4 " ++ (first ++ 32 ∷ rest) → place_of (first, rest) ≡ Some digits → is_octal digits ≡ true → IsFaultLine 4 line
machine_found line first rest digits parts e octal =
    let h = gap_by (is_name first) (and_then (kind_behind rest) unended) digits e in
    let f = found (kind_behind rest) unended digits h.1 in
    let k = kind_means rest f.value f.is in
    let o = octal_means digits octal in
    let tail : rest ≡ kind_front k.what ++ (octal6 o.0 ++ 10 ∷ []) = k.parts ∙ ap (λ (t : List ℕ). kind_front k.what ++ t) (unended_means f.value digits f.rest ∙ ap (λ (t : List ℕ). t ++ 10 ∷ []) o.1) in
    record {
      ending = Machine first k.what o.0;
      status_is = refl;
      range = (name_means first h.0, o.2);
      fault = MachineFault first k.what o.0;
      alone = refl;
      line_is = parts ∙ ap (λ (t : List ℕ). codes "FAULT 4 " ++ (first ++ 32 ∷ t)) tail ∙ sym (machine_printed first k.what o.0);
    }

machine_placed : (line digits : List ℕ) → place_in line ≡ Some digits → is_octal digits ≡ true → IsFaultLine 4 line
unfolding place_in
machine_placed line digits e octal =
    let a = found (and_then (behind (codes "FAULT 4 ") line) cut) place_of digits e in
    let b = found (behind (codes "FAULT 4 ") line) cut a.value a.is in
    let k = cut_means b.value a.value.0 a.value.1 b.rest in
    machine_found line a.value.0 a.value.1 digits (behind_means (codes "FAULT 4 ") line b.value b.is ∙ ap (λ (x : List ℕ). codes "FAULT 4 " ++ x) k.parts) a.rest octal

machine_means : (line : List ℕ) (o : Option (List ℕ)) → place_in line ≡ o → is_place o ≡ true → IsFaultLine 4 line
machine_means line None e h = absurd cc
machine_means line (Some digits) e h = machine_placed line digits e h

either_fault : (b : Bool) (c d : Bool) → cond b c d ≡ true → ((b ≡ true) × (c ≡ true)) ⊎ (d ≡ true)
either_fault true c d e = inl (refl, e)
either_fault false c d e = inr e

input_means : (line : List ℕ) → bytes_eq line (codes "FAULT 20 INPUT\n") ≡ true → IsFaultLine 20 line
input_means line h = record { ending = Input; status_is = refl; range = tt; fault = InputFault; alone = refl; line_is = same_means line (codes "FAULT 20 INPUT\n") h ∙ sym input_printed }

output_means : (line : List ℕ) → bytes_eq line (codes "FAULT 21 OUTPUT\n") ≡ true → IsFaultLine 21 line
output_means line h = record { ending = Output; status_is = refl; range = tt; fault = OutputFault; alone = refl; line_is = same_means line (codes "FAULT 21 OUTPUT\n") h ∙ sym output_printed }

pub fault_means : (status : ℕ) (line : List ℕ) → is_fault status line ≡ true → IsFaultLine status line
unfolding is_fault
fault_means status line e =
    let input = bytes_eq line (codes "FAULT 20 INPUT\n") in
    let output = cond (eqb status 21) (bytes_eq line (codes "FAULT 21 OUTPUT\n")) false in
    elim (either_fault (eqb status 4) (is_place (place_in line)) (cond (eqb status 20) input output) e) [
      | inl h ↦ subst (λ (n : ℕ). IsFaultLine n line) (sym (eqb-true status 4 h.0)) (machine_means line (place_in line) refl h.1)
      | inr r ↦ elim (either_fault (eqb status 20) input output r) [
        | inl h ↦ subst (λ (n : ℕ). IsFaultLine n line) (sym (eqb-true status 20 h.0)) (input_means line h.1)
        | inr q ↦ elim (either_fault (eqb status 21) (bytes_eq line (codes "FAULT 21 OUTPUT\n")) false q) [
          | inl h ↦ subst (λ (n : ℕ). IsFaultLine n line) (sym (eqb-true status 21 h.0)) (output_means line h.1)
          | inr never ↦ none_true never
        ]
      ]
    ]

place_is : (task : List ℕ) (k : Kind) (at : ℕ) → IsReportName task → place_in (machine_text task k at) ≡ Some (octal6 at)
unfolding place_in
place_is task k at h =
    let tail = kind_front k ++ (octal6 at ++ 10 ∷ []) in
    ap (λ (o : Option (List ℕ)). and_then (and_then o cut) place_of) (behind_is (codes "FAULT 4 ") (task ++ 32 ∷ tail))
    ∙ ap (λ (o : Option (List ℕ × List ℕ)). and_then o place_of) (cut_is task tail (name_word task h.inside))
    ∙ ap (λ (b : Bool). cond b (and_then (kind_behind tail) unended) None) (name_is task h)
    ∙ ap (λ (o : Option (List ℕ)). and_then o unended) (kind_is k (octal6 at ++ 10 ∷ []))
    ∙ unended_is (octal6 at)

pub machine_is : (task : List ℕ) (k : Kind) (at : ℕ) → IsReportName task → at ≤ 65535 → is_fault 4 (printed (MachineFault task k at)) ≡ true
unfolding is_fault
machine_is task k at h low =
    ap (λ (t : List ℕ). is_place (place_in t)) (machine_printed task k at) ∙ ap is_place (place_is task k at h) ∙ octal_is at low

pub input_is : is_fault 20 (printed InputFault) ≡ true
unfolding is_fault
input_is = same_is (printed InputFault) (codes "FAULT 20 INPUT\n") input_printed

pub output_is : is_fault 21 (printed OutputFault) ≡ true
unfolding is_fault
output_is = same_is (printed OutputFault) (codes "FAULT 21 OUTPUT\n") output_printed
