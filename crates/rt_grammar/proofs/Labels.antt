-- Labels and then a part that may begin with a name, too: the parser looks at two items.
use Rattle.std.proofs.Common.{◌≡◌, ℕ, zero, suc, ◌<◌, ◌≤◌, Bool, true, false, cond, List, [], ◌∷◌, length, Ok, Err, ◌⊎◌, inl, inr, refl, sym, ap, subst, ◌∙◌, arith}
use Rattle.std.proofs.lemmas.Bool.{cases_lt}
use Rattle.rt_pieces.specs.declared.item.Item.{Item}
use Rattle.rt_pieces.specs.declared.item.ItemKind.{ItemKind}
use Rattle.rt_pieces.specs.declared.item.ItemKind.TheVariants as kind
use Rattle.rt_pieces.specs.declared.item.Mark.TheVariants as m
use Rattle.rt_grammar.specs.declared.at.Ident.{Ident}
use Rattle.rt_grammar.specs.declared.next.Next.TheVariants as next
use Rattle.rt_grammar.specs.Parts.{Part, Turns, stop, turn, BeginsTurns, begun, turned, turns, next_of, next_by, label, push}
use Rattle.rt_grammar.specs.Parts as part
use Rattle.rt_grammar.specs.Parsing.{Outcome, Parser, and_then, turns_from, label_comes, is_mark, is_name, left}
use Rattle.rt_grammar.specs.Parsing as parse
use Rattle.rt_grammar.proofs.Tails.{Tail, all, Tail-length, Tail-then, between}
use Rattle.rt_grammar.proofs.Numbers.{no, next_no, mark_itself, mark_is}
use Rattle.rt_grammar.proofs.Good.{Good, ok_is, weaken, seq, good_nothing}
use Rattle.rt_grammar.proofs.OneItem.{good_mark, good_ident}

pub good_label : (total : ℕ) → Good (parse.label total) (label total) (λ c. c ≡ 12) (λ _. Unit {0}) ⊥
unfolding parse.label
good_label total = weaken (λ c. c ≡ 12) (λ _. Unit {0}) ⊥
    (seq (good_ident total) (λ n. seq (good_mark m.Colon) (λ _. good_nothing n) (λ c h. tt)) (λ c h. tt))
    (λ c h. grind arith) (λ c h. grind arith) (λ h. h.0)

-- l begins with a name and a colon, and r is what follows
abbrev Labelled : List Item → List Item → Type 0
Labelled l r = (i j : Item) × (l ≡ i ∷ j ∷ r) × (s : List ℕ) × (i.kind ≡ kind.Name s) × (j.kind ≡ kind.Mark m.Colon)

abbrev Named : List Item → List Item → Type 0
Named l r = (i : Item) × (l ≡ i ∷ r) × (s : List ℕ) × (i.kind ≡ kind.Name s)

ident_named : (total : ℕ) (l r : List Item) (a : Ident) → (part.ident total).Fits l r a → Named l r
ident_named total l r a fits =
    (fits.3.2.0, fits.2.0 ∙ fits.3.2.1 ∙ ap (λ (t : List Item). fits.3.2.0 ∷ t) fits.3.3.0, fits.3.1, fits.3.2.2)

fits_labelled : (total : ℕ) (l r : List Item) (a : Ident) → (label total).Fits l r a → Labelled l r
fits_labelled total l r a fits =
    let n = ident_named total l fits.0 fits.1 fits.2 in
    let j = fits.3.2.0 in
    let follows : fits.0 ≡ j ∷ r = fits.3.2.1 ∙ ap (λ (t : List Item). j ∷ t) fits.3.3.0 in
    (n.0, j, n.1 ∙ ap (λ (t : List Item). n.0 ∷ t) follows, n.2, n.3, fits.3.2.2)

name_seen : (k : ItemKind) → ((s : List ℕ) × (is_name (next_by k) ≡ true) × (k ≡ kind.Name s)) ⊎ ((is_name (next_by k) ≡ false) × ((s : List ℕ) → k ≡ kind.Name s → ⊥))
name_seen (kind.Name s) = inl (s, refl, refl)
name_seen (kind.Number n) = inr (refl, λ s e. absurd cc)
name_seen (kind.Text n) = inr (refl, λ s e. absurd cc)
name_seen (kind.Word n) = inr (refl, λ s e. absurd cc)
name_seen (kind.Mark n) = inr (refl, λ s e. absurd cc)

mark_of : (k : ItemKind) → next_by k ≡ next.Mark m.Colon → k ≡ kind.Mark m.Colon
mark_of (kind.Mark j) e = cc
mark_of (kind.Name s) e = absurd cc
mark_of (kind.Number n) e = absurd cc
mark_of (kind.Text n) e = absurd cc
mark_of (kind.Word n) e = absurd cc

colon_by : (j : Item) (l : List Item) (b : Bool) → is_mark m.Colon (next_by j.kind) ≡ b
    → ((k : Item) × (r : List Item) × (j ∷ l ≡ k ∷ r) × (k.kind ≡ kind.Mark m.Colon) × (is_mark m.Colon (next_by j.kind) ≡ true))
    ⊎ ((is_mark m.Colon (next_by j.kind) ≡ false) × ((k : Item) (r : List Item) → j ∷ l ≡ k ∷ r → k.kind ≡ kind.Mark m.Colon → ⊥))
colon_by j l true e = inl (j, l, refl, mark_of j.kind (mark_is m.Colon (next_by j.kind) e), e)
colon_by j l false e = inr (
  e,
  λ k r same is.
      let head : j ≡ k = cc in
      let kept : is_mark m.Colon (next_by j.kind) ≡ true = ap (λ (t : Item). is_mark m.Colon (next_by t.kind)) head ∙ ap (λ (t : ItemKind). is_mark m.Colon (next_by t)) is ∙ mark_itself m.Colon in
      absurd cc,
)

colon_seen : (l : List Item) → ((j : Item) × (r : List Item) × (l ≡ j ∷ r) × (j.kind ≡ kind.Mark m.Colon) × (is_mark m.Colon (next_of l) ≡ true))
    ⊎ ((is_mark m.Colon (next_of l) ≡ false) × ((j : Item) (r : List Item) → l ≡ j ∷ r → j.kind ≡ kind.Mark m.Colon → ⊥))
colon_seen [] = inr (refl, λ j r e k. absurd cc)
colon_seen (j ∷ l) = colon_by j l (is_mark m.Colon (next_by j.kind)) refl

-- the test on two items
label_seen : (l : List Item) → ((label_comes l ≡ true) × (r : List Item) × Labelled l r) ⊎ ((label_comes l ≡ false) × ((r : List Item) → Labelled l r → ⊥))
label_seen [] = inr (refl, λ r h. let e = h.2 in absurd cc)
label_seen (i ∷ l) = elim (name_seen i.kind) [
  | inl n ↦ elim (colon_seen l) [
    | inl c ↦ inl (rw (n.1, c.4) refl, c.1, (i, c.0, ap (λ (t : List Item). i ∷ t) c.2, n.0, n.2, c.3))
    | inr c ↦ inr (rw (n.1, c.0) refl, λ r h. let same = h.2 in let rest : l ≡ h.1 ∷ r = cc in c.1 h.1 r rest h.5)
  ]
  | inr n ↦ inr (rw (n.0) refl, λ r h. let same = h.2 in let head : i ≡ h.0 = cc in n.1 h.3 (ap (λ (t : Item). t.kind) head ∙ h.4))
]

begins_seen : (total : ℕ) (l r : List Item) → (label total).Begins l r → (l ≡ r) ⊎ (Named l r ⊎ Labelled l r)
begins_seen total l r (inl b) = elim b [
  | inl same ↦ inl same
  | inr h ↦ elim h.3 [
    | inl c ↦ elim c [ inl same ↦ inl (h.2.0 ∙ same) | inr n ↦ inr (inl (n.0, h.2.0 ∙ n.2, n.1, n.3)) ]
    | inr n ↦ inr (inl (n.2.0, h.2.0 ∙ n.2.1 ∙ ap (λ (t : List Item). n.2.0 ∷ t) n.3, n.1, n.2.2))
  ]
]
begins_seen total l r (inr h) =
    let n = ident_named total l h.0 h.1 h.2 in
    elim h.3 [
      | inl c ↦ elim c [
        | inl same ↦ inr (inl (n.0, n.1 ∙ ap (λ (t : List Item). n.0 ∷ t) same, n.2, n.3))
        | inr j ↦ inr (inr (n.0, j.0, n.1 ∙ ap (λ (t : List Item). n.0 ∷ t) j.2, n.2, n.3, j.3))
      ]
      | inr j ↦ inr (inr (n.0, j.2.0, n.1 ∙ ap (λ (t : List Item). n.0 ∷ t) (j.2.1 ∙ ap (λ (t : List Item). j.2.0 ∷ t) j.3), n.2, n.3, j.2.2))
    ]

-- q reads what follows the labels; a name alone is that part, and it may begin with a name, and end before a colon.
module _ {A : Type 0} (total : ℕ) (q : List Ident → Parser A) (Q : List Ident → Part A) (f s : ℕ → Type 0) (e : Type 0)
    (h : (ls : List Ident) → Good (q ls) (Q ls) f s e) (named : f 12) (colon : s 35)
    (alone : (ls : List Ident) (i : Item) (n : List ℕ) (r : List Item) → i.kind ≡ kind.Name n → (a : A) × (Q ls).Fits (i ∷ r) r a) where
  abbrev P : Part Ident
  P = label total

  abbrev p : Parser Ident
  p = parse.label total

  abbrev reads_from : ℕ → List Ident → Parser A
  reads_from n ls = λ l. and_then (turns_from n label_comes push p ls l) q

  abbrev labelled : Part A
  labelled = part.◌>>=◌ (turns push [] P) Q

  starts_named : (l r : List Item) → Named l r → no l ≡ 12
  starts_named l r n = ap no n.1 ∙ ap (λ (t : ItemKind). next_no (next_by t)) n.3

  starts_colon : (l r : List Item) → Labelled l r → (j : Item) × (no (j ∷ r) ≡ 35) × Named l (j ∷ r)
  starts_colon l r n = (n.1, ap (λ (t : ItemKind). next_no (next_by t)) n.5, (n.0, n.2, n.3, n.4))

  -- the part q takes the name alone, where a colon follows
  q_stops : (ls : List Ident) (l r : List Item) → Labelled l r → (j : Item) × (a : A) × (q ls l ≡ Ok (a, j ∷ r)) × (no (j ∷ r) ≡ 35)
  q_stops ls l r n =
      let c = starts_colon l r n in
      let a = alone ls c.2.0 c.2.2 (c.0 ∷ r) c.2.3 in
      let fits : (Q ls).Fits l (c.0 ∷ r) a.0 = subst (λ (t : List Item). (Q ls).Fits t (c.0 ∷ r) a.0) (sym c.2.1) a.1 in
      (c.0, a.0, (h ls).complete l (c.0 ∷ r) a.0 fits (subst s (sym c.1) colon), c.1)

  labelled_fits : (l r : List Item) → Labelled l r → (a : Ident) × P.Fits l r a
  labelled_fits l r n =
      let a : Ident = record { name = n.3; at = part.at_of total l } in
      (a, (n.1 ∷ r, a, (l, part.at_of total l, (refl, refl), (n.1 ∷ r, n.3, (n.0, n.2, n.4), (refl, refl))), (r, tt, (n.1, refl, n.5), (refl, refl))))

  -- a label, as it was read
  label_read : (l m : List Item) (a : Ident) → P.Fits l m a → (label_comes l ≡ true) × (p l ≡ Ok (a, m))
  label_read l m a fits = elim (label_seen l) [
    | inl c ↦ (c.0, (good_label total).complete l m a fits tt)
    | inr c ↦ absurd (c.1 m (fits_labelled total l m a fits))
  ]

  one_label : (n : ℕ) (ls : List Ident) (l m : List Item) (a : Ident) → P.Fits l m a → reads_from (suc n) ls l ≡ reads_from n (push ls a) m
  one_label n ls l m a fits = let c = label_read l m a fits in rw (c.0, c.1) refl

  abbrev Fitted : List Ident → List Item → List Item → A → Type 0
  Fitted ls l r b = (m : List Item) × (c : List Ident) × Turns push P ls l m c × (Q c).Fits m r b

  abbrev Begun : List Ident → List Item → List Item → Type 0
  Begun ls l r = BeginsTurns P l r ⊎ ((m : List Item) × (c : List Ident) × Turns push P ls l m c × (Q c).Begins m r)

  -- ---- sound

  abbrev Sound : ℕ → Type 0
  Sound n = (ls : List Ident) (l r : List Item) (b : A) → reads_from n ls l ≡ Ok (b, r) → Fitted ls l r b

  sound_at : (n : ℕ) → Sound n → (ls : List Ident) (l r : List Item) (b : A) (o : Outcome Ident) → p l ≡ o → and_then (and_then o (λ a. turns_from n label_comes push p (push ls a))) q ≡ Ok (b, r) → Fitted ls l r b
  sound_at n later ls l r b (Err k) is e = absurd cc
  sound_at n later ls l r b (Ok x) is e = let f = later (push ls x.0) x.1 r b e in (f.0, f.1, turn ((good_label total).sound l x.1 x.0 is) f.2, f.3)

  sound_by : (n : ℕ) → Sound n → (ls : List Ident) (l r : List Item) (b : A) (go : Bool) → and_then (cond go (and_then (p l) (λ a. turns_from n label_comes push p (push ls a))) (Ok (ls, l))) q ≡ Ok (b, r) → Fitted ls l r b
  sound_by n later ls l r b false e = (l, ls, stop, (h ls).sound l r b e)
  sound_by n later ls l r b true e = sound_at n later ls l r b (p l) refl e

  reads_sound : (n : ℕ) → Sound n
  reads_sound zero ls l r b e = (l, ls, stop, (h ls).sound l r b e)
  reads_sound (suc n) ls l r b e = sound_by n (reads_sound n) ls l r b (label_comes l) e

  -- ---- complete

  shorter : (l m : List Item) (a : Ident) → P.Fits l m a → length m < length l
  shorter l m a fits = elim ((good_label total).starts l m a fits) [ inl c ↦ absurd c.1 | inr c ↦ c.1 ]

  some_more : (l m : List Item) (n : ℕ) → length m < length l → length l ≤ n → (k : ℕ) × (n ≡ suc k)
  some_more l m zero lt le = absurd (omega arith)
  some_more l m (suc n) lt le = (n, refl)

  -- q is taken where no label comes, and what q takes does not end before a colon
  no_label : (n : ℕ) (ls : List Ident) (l r : List Item) (b : A) → q ls l ≡ Ok (b, r) → (no r ≡ 35 → ⊥) → reads_from n ls l ≡ Ok (b, r)
  no_label zero ls l r b e apart = e
  no_label (suc n) ls l r b e apart = elim (label_seen l) [
    | inr c ↦ rw (c.0) e
    | inl c ↦ let st = q_stops ls l c.1 c.2 in
        let same = ok_is (st.1, st.0 ∷ c.1) (b, r) (sym st.2 ∙ e) in
        absurd (apart (ap (λ (t : A × List Item). no t.1) (sym same) ∙ st.3))
  ]

  reads_complete : (n : ℕ) {ls c : List Ident} {l m : List Item} → Turns push P ls l m c → (r : List Item) (b : A) → (Q c).Fits m r b → length l ≤ n → s (no r) × (no r ≡ 35 → ⊥) → reads_from n ls l ≡ Ok (b, r)
  reads_complete n {ls = ls} (stop {l = l}) r b fits le st = no_label n ls l r b ((h ls).complete l r b fits st.0) st.1
  reads_complete n {ls = ls} (turn {b = a} {l = l} {m = m} fit more) r b fits le st =
      let lt = shorter l m a fit in
      let k = some_more l m n lt le in
      let is = k.1 in
      rw (k.1, one_label k.0 ls l m a fit) (reads_complete k.0 more r b fits (omega arith) st)

  -- ---- how far

  after_left : (n : ℕ) → ((ls : List Ident) (l : List Item) → left (reads_from n ls l) ≤ length l) → (ls : List Ident) (o : Outcome Ident) → left (and_then (and_then o (λ a. turns_from n label_comes push p (push ls a))) q) ≤ left o
  after_left n later ls (Err k) = omega arith
  after_left n later ls (Ok x) = later (push ls x.0) x.1

  left_by : (n : ℕ) → ((ls : List Ident) (l : List Item) → left (reads_from n ls l) ≤ length l) → (ls : List Ident) (l : List Item) (go : Bool)
      → left (and_then (cond go (and_then (p l) (λ a. turns_from n label_comes push p (push ls a))) (Ok (ls, l))) q) ≤ length l
  left_by n later ls l false = (h ls).passes l l ((h ls).nil l)
  left_by n later ls l true = let le = after_left n later ls (p l) in let le2 = (good_label total).passes l l ((good_label total).nil l) in omega arith

  reads_left : (n : ℕ) (ls : List Ident) (l : List Item) → left (reads_from n ls l) ≤ length l
  reads_left zero ls l = (h ls).passes l l ((h ls).nil l)
  reads_left (suc n) ls l = left_by n (reads_left n) ls l (label_comes l)

  -- where a label comes, and where none does
  left_label : (n : ℕ) (ls : List Ident) (l : List Item) → label_comes l ≡ true → left (reads_from (suc n) ls l) ≤ left (p l)
  left_label n ls l e = rw e (after_left n (reads_left n) ls (p l))

  left_none : (n : ℕ) (ls : List Ident) (l : List Item) → label_comes l ≡ false → left (reads_from n ls l) ≡ left (q ls l)
  left_none zero ls l e = refl
  left_none (suc n) ls l e = rw e refl

  -- what begins q is passed, also where a label comes
  passes_q : (n : ℕ) (ls : List Ident) (l r : List Item) → length l ≤ n → (Q ls).Begins l r → left (reads_from n ls l) ≤ length r
  passes_q n ls l r le b = elim (label_seen l) [
    | inr c ↦ rw (left_none n ls l c.0) ((h ls).passes l r b)
    | inl c ↦
        let st = q_stops ls l c.1 c.2 in
        let fit = labelled_fits l c.1 c.2 in
        let k = some_more l c.1 n (shorter l c.1 fit.0 fit.1) le in
        let is = k.1 in
        let far = (h ls).passes l r b in
        let there : left (q ls l) ≡ suc (length c.1) = ap left st.2 in
        let one = left_label k.0 ls l c.0 in
        let two = (good_label total).passes l c.1 ((good_label total).begins l c.1 fit.0 fit.1) in
        rw is (omega arith)
  ]

  passes_named : (n : ℕ) (ls : List Ident) (l r : List Item) → length l ≤ n → Named l r → left (reads_from n ls l) ≤ length r
  passes_named n ls l r le name =
      let a = alone ls name.0 name.2 r name.3 in
      let fits : (Q ls).Fits l r a.0 = subst (λ (t : List Item). (Q ls).Fits t r a.0) (sym name.1) a.1 in
      passes_q n ls l r le ((h ls).begins l r a.0 fits)

  passes_label : (n : ℕ) (ls : List Ident) (l r : List Item) → length l ≤ n → P.Begins l r → left (reads_from n ls l) ≤ length r
  passes_label n ls l r le b = elim (begins_seen total l r b) [
    | inl same ↦ let e = ap length same in let far = reads_left n ls l in omega arith
    | inr c ↦ elim c [
      | inl name ↦ passes_named n ls l r le name
      | inr lab ↦
          let fit = labelled_fits l r lab in
          let k = some_more l r n (shorter l r fit.0 fit.1) le in
          let is = k.1 in
          let comes = (label_read l r fit.0 fit.1).0 in
          let one = left_label k.0 ls l comes in
          let two = (good_label total).passes l r b in
          rw is (omega arith)
    ]
  ]

  passes_turns : (n : ℕ) (ls : List Ident) {l r : List Item} → BeginsTurns P l r → length l ≤ n → left (reads_from n ls l) ≤ length r
  passes_turns n ls (begun {l = l} {r = r} b) le = passes_label n ls l r le b
  passes_turns n ls {r = r} (turned {b = a} {l = l} {m = m} fit more) le =
      let lt = shorter l m a fit in
      let k = some_more l m n lt le in
      let is = k.1 in
      rw (k.1, one_label k.0 ls l m a fit) (passes_turns k.0 (push ls a) more (omega arith))

  passes_after : (n : ℕ) {ls c : List Ident} {l m : List Item} → Turns push P ls l m c → (r : List Item) → (Q c).Begins m r → length l ≤ n → left (reads_from n ls l) ≤ length r
  passes_after n {ls = ls} (stop {l = l}) r b le = passes_q n ls l r le b
  passes_after n {ls = ls} (turn {b = a} {l = l} {m = m} fit more) r b le =
      let lt = shorter l m a fit in
      let k = some_more l m n lt le in
      let is = k.1 in
      rw (k.1, one_label k.0 ls l m a fit) (passes_after k.0 more r b (omega arith))

  -- ---- viable

  abbrev Viable : ℕ → Type 0
  Viable n = (ls : List Ident) (l r : List Item) → Tail l r → left (reads_from n ls l) ≤ length r → Begun ls l r

  one_more_begun : (ls : List Ident) (l m r : List Item) (a : Ident) → P.Fits l m a → Begun (push ls a) m r → Begun ls l r
  one_more_begun ls l m r a fit (inl b) = inl (turned fit b)
  one_more_begun ls l m r a fit (inr b) = inr (b.0, b.1, turn fit b.2, b.3)

  viable_at : (n : ℕ) → Viable n → (ls : List Ident) (l r : List Item) (o : Outcome Ident) → p l ≡ o → Tail l r
      → left (and_then (and_then o (λ a. turns_from n label_comes push p (push ls a))) q) ≤ length r → Begun ls l r
  viable_at n later ls l r (Err k) is t far = inl (begun ((good_label total).viable l r t (rw is far)))
  viable_at n later ls l r (Ok x) is t far =
      let fit = (good_label total).sound l x.1 x.0 is in
      elim (cases_lt (length r) (length x.1)) [
        | inl lt ↦ one_more_begun ls l x.1 r x.0 fit (later (push ls x.0) x.1 r (between ((good_label total).tails l x.1 x.0 fit) t (omega arith)) far)
        | inr ge ↦ inl (begun ((good_label total).viable l r t (rw is ge)))
      ]

  viable_by : (n : ℕ) → Viable n → (ls : List Ident) (l r : List Item) (go : Bool) → Tail l r
      → left (and_then (cond go (and_then (p l) (λ a. turns_from n label_comes push p (push ls a))) (Ok (ls, l))) q) ≤ length r → Begun ls l r
  viable_by n later ls l r false t far = inr (l, ls, stop, (h ls).viable l r t far)
  viable_by n later ls l r true t far = viable_at n later ls l r (p l) refl t far

  reads_viable : (n : ℕ) → Viable n
  reads_viable zero ls l r t far = inr (l, ls, stop, (h ls).viable l r t far)
  reads_viable (suc n) ls l r t far = viable_by n (reads_viable n) ls l r (label_comes l) t far

  -- ---- the rest

  turns_tails : {ls c : List Ident} {l r : List Item} → Turns push P ls l r c → Tail l r
  turns_tails stop = all
  turns_tails (turn fit more) = Tail-then ((good_label total).tails _ _ _ fit) (turns_tails more)

  turns_starts : {ls c : List Ident} {l m : List Item} → Turns push P ls l m c → (r : List Item) (b : A) → (Q c).Fits m r b → ((l ≡ r) × e) ⊎ (f (no l) × (length r < length l))
  turns_starts {ls = ls} (stop {l = l}) r b fits = (h ls).starts l r b fits
  turns_starts {c = c} (turn {b = a} {l = l} {m = m} fit more) r b fits =
      let lt = shorter l m a fit in
      let le = Tail-length (Tail-then (turns_tails more) ((h c).tails _ r b fits)) in
      let lab = fits_labelled total l m a fit in
      inr (subst f (sym (starts_named l _ (lab.0, lab.2, lab.3, lab.4))) named, omega arith)

  begun_named : (l r : List Item) → P.Begins l r → (l ≡ r) ⊎ f (no l)
  begun_named l r b = elim ((good_label total).begun l r b) [ inl same ↦ inl same | inr is ↦ inr (subst f (sym is) named) ]

  turns_begun : {l r : List Item} → BeginsTurns P l r → (l ≡ r) ⊎ f (no l)
  turns_begun (begun {l = l} {r = r} b) = begun_named l r b
  turns_begun (turned {b = a} {l = l} {m = m} fit more) = elim ((good_label total).starts l m a fit) [ inl c ↦ absurd c.1 | inr c ↦ inr (subst f (sym c.0) named) ]

  after_begun : {ls c : List Ident} {l m : List Item} → Turns push P ls l m c → (r : List Item) → (Q c).Begins m r → (l ≡ r) ⊎ f (no l)
  after_begun {ls = ls} (stop {l = l}) r b = (h ls).begun l r b
  after_begun (turn {b = a} {l = l} {m = m} fit more) r b = elim ((good_label total).starts l m a fit) [ inl c ↦ absurd c.1 | inr c ↦ inr (subst f (sym c.0) named) ]

  pub good_labelled : Good (parse.◌>>=◌ (parse.turns label_comes push p []) q) labelled f (λ c. s c × (c ≡ 35 → ⊥)) e
  good_labelled = record {
    sound = λ l r b e. reads_sound (length l) [] l r b e;
    complete = λ l r b fits st. reads_complete (length l) fits.2 r b fits.3 (omega arith) st;
    viable = λ l r t far. reads_viable (length l) [] l r t far;
    passes = λ l r. elim [
      | inl b ↦ passes_turns (length l) [] b (omega arith)
      | inr b ↦ passes_after (length l) b.2 r b.3 (omega arith)
    ];
    tails = λ l r b fits. Tail-then (turns_tails fits.2) ((h fits.1).tails _ r b fits.3);
    begins = λ l r b fits. inr (fits.0, fits.1, fits.2, (h fits.1).begins _ r b fits.3);
    nil = λ l. inl (begun ((good_label total).nil l));
    starts = λ l r b fits. turns_starts fits.2 r b fits.3;
    begun = λ l r. elim [ inl b ↦ turns_begun b | inr b ↦ after_begun b.2 r b.3 ];
  }
