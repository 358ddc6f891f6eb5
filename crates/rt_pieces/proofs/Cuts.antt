-- The function cuts as the relation says, and no other cut is one.
use Rattle.std.proofs.Common.{◌≡◌, ℕ, zero, suc, ◌+◌, ◌≤◌, false, List, [], ◌∷◌, ◌++◌, length, take, drop, Option, Some, None, refl, sym, ap, subst, ◌∙◌, arith, length-append, length-drop}
use Rattle.std.proofs.lemmas.List.{take_at, drop_at}
use Rattle.rt_pieces.specs.declared.number.Base.{Base}
use Rattle.rt_pieces.specs.declared.number.Opened.{Opened}
use Rattle.rt_pieces.specs.declared.step.Step.{Step}
use Rattle.rt_pieces.specs.declared.step.Step.TheVariants as step
use Rattle.rt_pieces.specs.Bytes.{lines_in}
use Rattle.rt_pieces.specs.Pieces.{base_of, IsPiece}
use Rattle.rt_pieces.specs.declared.fault.TextFault.TheVariants.{BadCharacter, OpenComment}
use Rattle.rt_pieces.specs.Cutting.{Piece, End, Clean, Stops, begins_gap, Cut, finish, blank, comment, open_comment, base, digits, piece, bad, place, piece_at, digits_of, HaveOneCut, HaveSomeCut}
use Rattle.rt_pieces.specs.Steps.{next_step, step_of, Cuts, Cutter, before, cut_base, cut_piece, after_step, cut_from, cuts_of, weight}
use Rattle.rt_pieces.proofs.Fronts.{drop_comment}
use Rattle.rt_pieces.proofs.Steps.{Sees, sees, s_finish, s_blank, s_comment, s_open, s_piece, s_run, s_bad, piece_step, piece_some, run_step, blank_step, open_step, comment_is, bad_step}

abbrev IsCut : ℕ → Option Opened → ℕ → List ℕ → Cuts → Type 0
IsCut total o n bytes cuts = Cut total o n bytes cuts.0 cuts.1

abbrev Sound : ℕ → ℕ → Type 0
Sound total fuel = (o : Option Opened) (n : ℕ) (bytes : List ℕ) → weight o bytes ≤ fuel → IsCut total o n bytes (cut_from total fuel o n bytes)

sound_base : (total fuel : ℕ) → Sound total fuel → (n : ℕ) (bytes text rest : List ℕ) → weight None bytes ≤ suc fuel → bytes ≡ text ++ rest → IsPiece text rest → (b : Option Base) → base_of text ≡ b
    → IsCut total None n bytes (cut_base (cut_from total fuel) total n bytes text rest b)
sound_base total fuel later n bytes text rest le is g (Some b) e =
    let some = piece_some text rest g in
    let size = ap length is in
    let short : weight (Some (record { base = b; line = n; from = place total bytes })) rest ≤ fuel = omega (arith, simp length-append at size) in
    base text is g e (later (Some (record { base = b; line = n; from = place total bytes })) n rest short)
sound_base total fuel later n bytes text rest le is g None e =
    let some = piece_some text rest g in
    let size = ap length is in
    let short : weight None rest ≤ fuel = omega (arith, simp length-append at size) in
    piece text is g e (later None n rest short)

-- the text and the rest, as the code cuts them
cut_parts : (go : Cutter) (total : ℕ) (o : Option Opened) (n : ℕ) (bytes text rest : List ℕ) (len : ℕ) → bytes ≡ text ++ rest → len ≡ length text → cut_piece go total o n bytes (take len bytes) (drop len bytes) ≡ cut_piece go total o n bytes text rest
cut_parts go total o n bytes text rest len is len-is =
    let front : take len bytes ≡ text = ap (λ (k : ℕ). take k bytes) len-is ∙ ap (take (length text)) is ∙ take_at text rest (length text) refl in
    let after : drop len bytes ≡ rest = ap (λ (k : ℕ). drop k bytes) len-is ∙ ap (drop (length text)) is ∙ drop_at text rest (length text) refl in
    ap (λ (t : List ℕ). cut_piece go total o n bytes t (drop len bytes)) front ∙ ap (cut_piece go total o n bytes text) after

sound_step : (total fuel : ℕ) → Sound total fuel → (o : Option Opened) (n : ℕ) (bytes : List ℕ) (s : Step) → weight o bytes ≤ suc fuel → Sees o bytes s → IsCut total o n bytes (after_step (cut_from total fuel) total o n bytes s)
sound_step total fuel later o n bytes _ le (s_finish none e) = rw (none, e) finish
sound_step total fuel later o n bytes _ le (s_blank b bs e w) =
    let len = ap length e in
    let short : weight o bs ≤ fuel = omega arith in
    rw e (blank w (later o (n + lines_in (b ∷ [])) bs short))
sound_step total fuel later o n bytes _ le (s_comment body rest {len = len} {lines = lines} e h len-is lines-is) =
    let after : drop len bytes ≡ rest = ap (λ (k : ℕ). drop k bytes) len-is ∙ ap (drop (length body + 2)) e ∙ drop_comment body rest in
    let size = ap length e in
    let short : weight o rest ≤ fuel = omega (arith, simp length-append at size) in
    rw (after, lines-is) (subst (λ (t : List ℕ). IsCut total o n t (cut_from total fuel o (n + lines_in body) rest)) (sym e) (comment body refl h (later o (n + lines_in body) rest short)))
sound_step total fuel later o n bytes _ le (s_open bs e h) = rw e (open_comment h)
sound_step total fuel later o n bytes _ le (s_piece text rest {len = len} none e g len-is) =
    let le2 : weight None bytes ≤ suc fuel = subst (λ (t : Option Opened). weight t bytes ≤ suc fuel) none le in
    subst (λ (c : Cuts). IsCut total o n bytes c) (sym (cut_parts (cut_from total fuel) total o n bytes text rest len e len-is))
    (subst (λ (t : Option Opened). IsCut total t n bytes (cut_piece (cut_from total fuel) total t n bytes text rest)) (sym none) (sound_base total fuel later n bytes text rest le2 e g (base_of text) refl))
sound_step total fuel later o n bytes _ le (s_run x run rest {len = len} some e gap each ends len-is) =
    let le2 : weight (Some x) bytes ≤ suc fuel = subst (λ (t : Option Opened). weight t bytes ≤ suc fuel) some le in
    let size = ap length e in
    let short : weight None rest ≤ fuel = omega (arith, simp length-append at size) in
    subst (λ (c : Cuts). IsCut total o n bytes c) (sym (cut_parts (cut_from total fuel) total o n bytes run rest len e len-is))
    (subst (λ (t : Option Opened). IsCut total t n bytes (cut_piece (cut_from total fuel) total t n bytes run rest)) (sym some) (digits run e gap each ends (later None n rest short)))
sound_step total fuel later o n bytes _ le (s_bad b bs none e w p h) = rw (none, e) (bad w p h)

empty_by : (o : Option Opened) (bytes : List ℕ) → weight o bytes ≤ 0 → (o ≡ None) × (bytes ≡ [])
empty_by None [] le = (refl, refl)
empty_by None (b ∷ bs) le = absurd (omega arith)
empty_by (Some x) bytes le = absurd (omega arith)

pub cut_sound : (total fuel : ℕ) → Sound total fuel
unfolding cut_from
cut_sound total zero o n bytes le = let none = empty_by o bytes le in rw (none.0, none.1) finish
cut_sound total (suc fuel) o n bytes le = sound_step total fuel (cut_sound total fuel) o n bytes (next_step o bytes) le (sees o bytes)

-- ---- no other cut

pub cut_complete : (fuel : ℕ) {total : ℕ} {o : Option Opened} {n : ℕ} {bytes : List ℕ} {ps : List Piece} {e : End} → Cut total o n bytes ps e → weight o bytes ≤ fuel → cut_from total fuel o n bytes ≡ (ps, e)
unfolding cut_from step_of
cut_complete zero finish le = refl
cut_complete (suc fuel) finish le = refl
cut_complete zero (blank w c) le = absurd (omega arith)
cut_complete (suc fuel) {total = total} {n = n} {ps = ps} {e = e} (blank {o = o} {b = b} {bs = bs} w c) le =
    let short : weight o bs ≤ fuel = omega arith in
    ap (after_step (cut_from total fuel) total o n (b ∷ bs)) (blank_step o b bs w) ∙ cut_complete fuel {n = n + lines_in (b ∷ [])} c short
cut_complete zero (comment body is h c) le = absurd (omega arith)
cut_complete (suc fuel) {total = total} {n = n} {ps = ps} {e = e} (comment {o = o} body {rest = rest} is h c) le =
    let size = ap length is in
    let short : weight o rest ≤ fuel = omega (arith, simp length-append at size) in
    rw is (ap (after_step (cut_from total fuel) total o n (37 ∷ (body ++ 37 ∷ rest))) (comment_is o body rest h) ∙ ap (cut_from total fuel o (n + lines_in body)) (drop_comment body rest) ∙ cut_complete fuel {n = n + lines_in body} c short)
cut_complete zero (open_comment h) le = absurd (omega arith)
cut_complete (suc fuel) {total = total} {n = n} (open_comment {o = o} {bs = bs} h) le = ap (after_step (cut_from total fuel) total o n (37 ∷ bs)) (open_step o bs h)
cut_complete zero (base text {rest = rest} is g k c) le = let some = piece_some text rest g in let size = ap length is in absurd (omega (arith, simp length-append at size))
cut_complete (suc fuel) {total = total} {n = n} {ps = ps} {e = e} (base text {rest = rest} {b = b} is g k c) le =
    let some = piece_some text rest g in
    let size = ap length is in
    let short : weight (Some (record { base = b; line = n; from = place total (text ++ rest) })) rest ≤ fuel = omega (arith, simp length-append at size) in
    let others : cut_from total fuel (Some (record { base = b; line = n; from = place total (text ++ rest) })) n rest ≡ (ps, e) = cut_complete fuel (subst (λ (t : List ℕ). Cut total (Some (record { base = b; line = n; from = place total t })) n rest ps e) is c) short in
    rw is (ap (after_step (cut_from total fuel) total None n (text ++ rest)) (piece_step text rest g) ∙ cut_parts (cut_from total fuel) total None n (text ++ rest) text rest (length text) refl refl
    ∙ ap (cut_base (cut_from total fuel) total n (text ++ rest) text rest) k ∙ others)
cut_complete zero (digits run is gap each ends c) le = absurd (omega arith)
cut_complete (suc fuel) {total = total} {n = n} (digits {o = o} run {bytes = bytes} {rest = rest} {ps = ps} {e = e} is gap each ends c) le =
    let size = ap length is in
    let short : weight None rest ≤ fuel = omega (arith, simp length-append at size) in
    let gap2 = subst (λ (t : List ℕ). begins_gap t ≡ false) is gap in
    rw is (ap (after_step (cut_from total fuel) total (Some o) n (run ++ rest)) (run_step run rest gap2 each ends) ∙ cut_parts (cut_from total fuel) total (Some o) n (run ++ rest) run rest (length run) refl refl
    ∙ ap (before (digits_of total o run rest)) (cut_complete fuel c short))
cut_complete zero (piece text {rest = rest} is g k c) le = let some = piece_some text rest g in let size = ap length is in absurd (omega (arith, simp length-append at size))
cut_complete (suc fuel) {total = total} {n = n} (piece text {bytes = bytes} {rest = rest} {ps = ps} {e = e} is g k c) le =
    let some = piece_some text rest g in
    let size = ap length is in
    let short : weight None rest ≤ fuel = omega (arith, simp length-append at size) in
    let others : cut_from total fuel None n rest ≡ (ps, e) = cut_complete fuel c short in
    rw is (ap (after_step (cut_from total fuel) total None n (text ++ rest)) (piece_step text rest g) ∙ cut_parts (cut_from total fuel) total None n (text ++ rest) text rest (length text) refl refl
    ∙ ap (cut_base (cut_from total fuel) total n (text ++ rest) text rest) k ∙ ap (before (piece_at total n (text ++ rest) text rest)) others)
cut_complete zero (bad w p h) le = absurd (omega arith)
cut_complete (suc fuel) {total = total} {n = n} (bad {b = b} {bs = bs} w p h) le = ap (after_step (cut_from total fuel) total None n (b ∷ bs)) (bad_step b bs w p h)

-- ---- from place to place

same_cuts : (total first second : ℕ) (o : Option Opened) (n : ℕ) (bytes : List ℕ) → weight o bytes ≤ first → weight o bytes ≤ second → cut_from total second o n bytes ≡ cut_from total first o n bytes
same_cuts total first second o n bytes le le2 = cut_complete second (cut_sound total first o n bytes le) le2

pub cuts_cut : (total : ℕ) (o : Option Opened) (n : ℕ) (bytes : List ℕ) → IsCut total o n bytes (cuts_of total o n bytes)
unfolding cuts_of
cuts_cut total o n bytes = cut_sound total (weight o bytes + 1) o n bytes (omega arith)

pub cuts_only : {total : ℕ} {o : Option Opened} {n : ℕ} {bytes : List ℕ} {ps : List Piece} {e : End} → Cut total o n bytes ps e → cuts_of total o n bytes ≡ (ps, e)
unfolding cuts_of
cuts_only {o = o} {bytes = bytes} c = cut_complete (weight o bytes + 1) c (omega arith)

pub cut_is : {total : ℕ} {o : Option Opened} {n : ℕ} {bytes : List ℕ} {ps : List Piece} {e : End} → cuts_of total o n bytes ≡ (ps, e) → Cut total o n bytes ps e
cut_is {total = total} {o = o} {n = n} {bytes = bytes} is = subst (λ (c : Cuts). IsCut total o n bytes c) is (cuts_cut total o n bytes)

pub one_cut : HaveOneCut
one_cut total o n bytes ps qs d e c k = let same : (ps, d) ≡ (qs, e) = sym (cuts_only c) ∙ cuts_only k in (ap (λ (x : Cuts). x.0) same, ap (λ (x : Cuts). x.1) same)

pub some_cut : HaveSomeCut
some_cut total o n bytes = ((cuts_of total o n bytes).0, (cuts_of total o n bytes).1, cuts_cut total o n bytes)

one_step_more : (total : ℕ) (o : Option Opened) (n : ℕ) (bytes : List ℕ) → cuts_of total o n bytes ≡ after_step (cut_from total (weight o bytes)) total o n bytes (next_step o bytes)
unfolding cuts_of cut_from
one_step_more total o n bytes = let more : weight o bytes + 1 ≡ suc (weight o bytes) = omega arith in ap (λ (k : ℕ). cut_from total k o n bytes) more

from_there : (total fuel : ℕ) (o : Option Opened) (n : ℕ) (bytes : List ℕ) → weight o bytes ≤ fuel → cut_from total fuel o n bytes ≡ cuts_of total o n bytes
unfolding cuts_of
from_there total fuel o n bytes le = same_cuts total (weight o bytes + 1) fuel o n bytes (omega arith) le

pub cuts_finish : (total : ℕ) (o : Option Opened) (n : ℕ) (bytes : List ℕ) → step.Finish ≡ next_step o bytes → cuts_of total o n bytes ≡ ([], Clean)
cuts_finish total o n bytes is = one_step_more total o n bytes ∙ ap (after_step (cut_from total (weight o bytes)) total o n bytes) (sym is)

pub cuts_open : (total : ℕ) (o : Option Opened) (n : ℕ) (bytes : List ℕ) → step.Open ≡ next_step o bytes → cuts_of total o n bytes ≡ ([], Stops (OpenComment n))
cuts_open total o n bytes is = one_step_more total o n bytes ∙ ap (after_step (cut_from total (weight o bytes)) total o n bytes) (sym is)

pub cuts_bad : (total : ℕ) (o : Option Opened) (n : ℕ) (bytes : List ℕ) → step.Bad ≡ next_step o bytes → cuts_of total o n bytes ≡ ([], Stops (BadCharacter n))
cuts_bad total o n bytes is = one_step_more total o n bytes ∙ ap (after_step (cut_from total (weight o bytes)) total o n bytes) (sym is)

pub cuts_skip : (total : ℕ) (o : Option Opened) (n : ℕ) (bytes : List ℕ) (len lines : ℕ) → step.Skip len lines ≡ next_step o bytes → 1 ≤ len → len ≤ length bytes → cuts_of total o n bytes ≡ cuts_of total o (n + lines) (drop len bytes)
cuts_skip total o n bytes len lines is some le =
    one_step_more total o n bytes ∙ ap (after_step (cut_from total (weight o bytes)) total o n bytes) (sym is)
    ∙ from_there total (weight o bytes) o (n + lines) (drop len bytes) (omega (arith, length-drop len bytes))

pub cuts_base : (total n : ℕ) (bytes : List ℕ) (len : ℕ) (b : Base) → step.Cut len ≡ next_step None bytes → 1 ≤ len → len ≤ length bytes → base_of (take len bytes) ≡ Some b
    → cuts_of total None n bytes ≡ cuts_of total (Some (record { base = b; line = n; from = place total bytes })) n (drop len bytes)
cuts_base total n bytes len b is some le k =
    let short : weight (Some (record { base = b; line = n; from = place total bytes })) (drop len bytes) ≤ weight None bytes = omega (arith, length-drop len bytes) in
    one_step_more total None n bytes ∙ ap (after_step (cut_from total (weight None bytes)) total None n bytes) (sym is)
    ∙ ap (cut_base (cut_from total (weight None bytes)) total n bytes (take len bytes) (drop len bytes)) k
    ∙ from_there total (weight None bytes) (Some (record { base = b; line = n; from = place total bytes })) n (drop len bytes) short

pub cuts_piece : (total n : ℕ) (bytes : List ℕ) (len : ℕ) → step.Cut len ≡ next_step None bytes → 1 ≤ len → len ≤ length bytes → base_of (take len bytes) ≡ None
    → cuts_of total None n bytes ≡ before (piece_at total n bytes (take len bytes) (drop len bytes)) (cuts_of total None n (drop len bytes))
cuts_piece total n bytes len is some le k =
    one_step_more total None n bytes ∙ ap (after_step (cut_from total (weight None bytes)) total None n bytes) (sym is)
    ∙ ap (cut_base (cut_from total (weight None bytes)) total n bytes (take len bytes) (drop len bytes)) k
    ∙ ap (before (piece_at total n bytes (take len bytes) (drop len bytes))) (from_there total (weight None bytes) None n (drop len bytes) (omega (arith, length-drop len bytes)))

pub cuts_digits : (total n : ℕ) (o : Opened) (bytes : List ℕ) (len : ℕ) → step.Cut len ≡ next_step (Some o) bytes → len ≤ length bytes
    → cuts_of total (Some o) n bytes ≡ before (digits_of total o (take len bytes) (drop len bytes)) (cuts_of total None n (drop len bytes))
cuts_digits total n o bytes len is le =
    one_step_more total (Some o) n bytes ∙ ap (after_step (cut_from total (weight (Some o) bytes)) total (Some o) n bytes) (sym is)
    ∙ ap (before (digits_of total o (take len bytes) (drop len bytes))) (from_there total (weight (Some o) bytes) None n (drop len bytes) (omega (arith, length-drop len bytes)))
