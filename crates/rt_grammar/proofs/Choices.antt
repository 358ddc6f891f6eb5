-- A choice that is right for what comes next, and a part any number of times.
use Rattle.std.proofs.Common.{◌≡◌, ℕ, zero, suc, ◌<◌, ◌≤◌, Bool, true, false, cond, List, [], ◌∷◌, length, Some, None, Ok, Err, ◌⊎◌, inl, inr, refl, sym, ap, subst, ◌∙◌, arith}
use Rattle.std.proofs.lemmas.Bool.{cases_lt}
use Rattle.rt_pieces.specs.declared.item.Item.{Item}
use Rattle.rt_grammar.specs.declared.next.Next.{Next}
use Rattle.rt_pieces.specs.declared.item.Mark.{Mark}
use Rattle.rt_pieces.specs.declared.item.Word.{Word}
use Rattle.rt_grammar.specs.Parts.{Part, either, optional, up_to, Turns, stop, turn, BeginsTurns, begun, turned, turns, next_of}
use Rattle.rt_grammar.specs.Parts as part
use Rattle.rt_grammar.specs.Parsing.{Outcome, Parser, and_then, turns_from, left}
use Rattle.rt_grammar.specs.Parsing as parse
use Rattle.rt_grammar.proofs.Tails.{Tail, all, Tail-length, Tail-then, between, Tail-same}
use Rattle.rt_grammar.proofs.Numbers.{no, mark_no, word_no, Goes}
use Rattle.rt_grammar.proofs.Good.{Good, ok_is, weaken, seq, good_nothing}
use Rattle.rt_grammar.proofs.OneItem.{good_mark, good_word}

-- the parser r does what p does where P comes, and what q does elsewhere
module _ {A : Type 0} (p q r : Parser A) (P Q : Part A) (f1 s1 f2 s2 : ℕ → Type 0) (e2 : Type 0) (g : Good p P f1 s1 ⊥) (h : Good q Q f2 s2 e2)
    (picks : (l : List Item) → (f1 (no l) × (r l ≡ p l)) ⊎ ((f1 (no l) → ⊥) × (r l ≡ q l))) (apart : (c : ℕ) → f1 c → f2 c → ⊥) where
  either_sound : (l t : List Item) (a : A) → r l ≡ Ok (a, t) → (either P Q).Fits l t a
  either_sound l t a e = elim (picks l) [ inl c ↦ inl (g.sound l t a (sym c.1 ∙ e)) | inr c ↦ inr (h.sound l t a (sym c.1 ∙ e)) ]

  either_viable : (l t : List Item) → Tail l t → left (r l) ≤ length t → (either P Q).Begins l t
  either_viable l t tl le = elim (picks l) [
    | inl c ↦ inl (g.viable l t tl (let e = ap left c.1 in omega arith))
    | inr c ↦ inr (h.viable l t tl (let e = ap left c.1 in omega arith))
  ]

  either_left : (l : List Item) → left (r l) ≤ length l
  either_left l = elim (picks l) [
    | inl c ↦ let e = ap left c.1 in let le = g.passes l l (g.nil l) in omega arith
    | inr c ↦ let e = ap left c.1 in let le = h.passes l l (h.nil l) in omega arith
  ]

  either_passes : (l t : List Item) → (either P Q).Begins l t → left (r l) ≤ length t
  either_passes l t (inl b) = elim (g.begun l t b) [
    | inl same ↦ let e = ap length same in let le = either_left l in omega arith
    | inr f ↦ elim (picks l) [
      | inl c ↦ let e = ap left c.1 in let le = g.passes l t b in omega arith
      | inr c ↦ absurd (c.0 f)
    ]
  ]
  either_passes l t (inr b) = elim (h.begun l t b) [
    | inl same ↦ let e = ap length same in let le = either_left l in omega arith
    | inr f ↦ elim (picks l) [
      | inl c ↦ absurd (apart _ c.0 f)
      | inr c ↦ let e = ap left c.1 in let le = h.passes l t b in omega arith
    ]
  ]

  either_complete : (l t : List Item) (a : A) → (either P Q).Fits l t a → s1 (no t) × s2 (no t) × (e2 → f1 (no t) → ⊥) → r l ≡ Ok (a, t)
  either_complete l t a (inl fits) st = elim (g.starts l t a fits) [
    | inl c ↦ absurd c.1
    | inr f ↦ elim (picks l) [ inl c ↦ c.1 ∙ g.complete l t a fits st.0 | inr c ↦ absurd (c.0 f.0) ]
  ]
  either_complete l t a (inr fits) st = elim (picks l) [
    | inr c ↦ c.1 ∙ h.complete l t a fits st.1
    | inl c ↦ elim (h.starts l t a fits) [
      | inl d ↦ absurd (st.2 d.1 (subst (λ (x : List Item). f1 (no x)) d.0 c.0))
      | inr f ↦ absurd (apart _ c.0 f.0)
    ]
  ]

  either_starts : (l t : List Item) (a : A) → (either P Q).Fits l t a → ((l ≡ t) × e2) ⊎ ((f1 (no l) ⊎ f2 (no l)) × (length t < length l))
  either_starts l t a (inl fits) = elim (g.starts l t a fits) [ inl c ↦ absurd c.1 | inr f ↦ inr (inl f.0, f.1) ]
  either_starts l t a (inr fits) = elim (h.starts l t a fits) [ inl c ↦ inl c | inr f ↦ inr (inr f.0, f.1) ]

  pub good_either : Good r (either P Q) (λ c. f1 c ⊎ f2 c) (λ c. s1 c × s2 c × (e2 → f1 c → ⊥)) e2
  good_either = record {
    sound = either_sound;
    complete = either_complete;
    viable = either_viable;
    passes = either_passes;
    tails = λ l t a. elim [ inl f ↦ g.tails l t a f | inr f ↦ h.tails l t a f ];
    begins = λ l t a. elim [ inl f ↦ inl (g.begins l t a f) | inr f ↦ inr (h.begins l t a f) ];
    nil = λ l. inl (g.nil l);
    starts = either_starts;
    begun = λ l t. elim [
      | inl b ↦ elim (g.begun l t b) [ inl same ↦ inl same | inr f ↦ inr (inl f) ]
      | inr b ↦ elim (h.begun l t b) [ inl same ↦ inl same | inr f ↦ inr (inr f) ]
    ];
  }

-- ---- a part any number of times

module _ {A B : Type 0} (go : List Item → Bool) (step : A → B → A) (p : Parser B) (P : Part B) (f s : ℕ → Type 0) (g : Good p P f s ⊥)
    (goes : (l : List Item) → ((go l ≡ true) × f (no l)) ⊎ ((go l ≡ false) × (f (no l) → ⊥))) (apart : (c : ℕ) → f c → s c) (ends : f 0 → ⊥) where
  turns_tails : {a c : A} {l r : List Item} → Turns step P a l r c → Tail l r
  turns_tails stop = all
  turns_tails (turn fits more) = Tail-then (g.tails _ _ _ fits) (turns_tails more)

  starts_by : {a c : A} {l r : List Item} → Turns step P a l r c → (l ≡ r) ⊎ (f (no l) × (length r < length l))
  starts_by stop = inl refl
  starts_by (turn fits more) = elim (g.starts _ _ _ fits) [ inl e ↦ absurd e.1 | inr e ↦ let le = Tail-length (turns_tails more) in let lt = e.1 in inr (e.0, omega arith) ]

  begun_by : {l r : List Item} → BeginsTurns P l r → (l ≡ r) ⊎ f (no l)
  begun_by (begun b) = g.begun _ _ b
  begun_by (turned fits more) = elim (g.starts _ _ _ fits) [ inl e ↦ absurd e.1 | inr e ↦ inr e.0 ]

  turns_begins : {a c : A} {l r : List Item} → Turns step P a l r c → BeginsTurns P l r
  turns_begins stop = begun (g.nil _)
  turns_begins (turn fits more) = turned fits (turns_begins more)

  -- what the turns after the first are known to be
  abbrev Sound : ℕ → Type 0
  Sound n = (a c : A) (l r : List Item) → turns_from n go step p a l ≡ Ok (c, r) → Turns step P a l r c

  sound_at : (n : ℕ) → Sound n → (a c : A) (l r : List Item) (o : Outcome B) → p l ≡ o → and_then o (λ b. turns_from n go step p (step a b)) ≡ Ok (c, r) → Turns step P a l r c
  sound_at n later a c l r (Err k) is e = absurd cc
  sound_at n later a c l r (Ok x) is e = turn (g.sound l x.1 x.0 is) (later (step a x.0) c x.1 r e)

  sound_by : (n : ℕ) → Sound n → (a c : A) (l r : List Item) (b : Bool) → cond b (and_then (p l) (λ b. turns_from n go step p (step a b))) (Ok (a, l)) ≡ Ok (c, r) → Turns step P a l r c
  sound_by n later a c l r false e = subst (λ (t : A × List Item). Turns step P a l t.1 t.0) (ok_is (a, l) (c, r) e) stop
  sound_by n later a c l r true e = sound_at n later a c l r (p l) refl e

  turns_sound : (n : ℕ) → Sound n
  turns_sound zero a c l r e = subst (λ (t : A × List Item). Turns step P a l t.1 t.0) (ok_is (a, l) (c, r) e) stop
  turns_sound (suc n) a c l r e = sound_by n (turns_sound n) a c l r (go l) e

  -- how far the turns come
  after_left : (n : ℕ) → ((a : A) (l : List Item) → left (turns_from n go step p a l) ≤ length l) → (a : A) (o : Outcome B) → left (and_then o (λ b. turns_from n go step p (step a b))) ≤ left o
  after_left n later a (Err k) = omega arith
  after_left n later a (Ok x) = later (step a x.0) x.1

  left_by : (n : ℕ) → ((a : A) (l : List Item) → left (turns_from n go step p a l) ≤ length l) → (a : A) (l : List Item) (b : Bool)
      → left (cond b (and_then (p l) (λ b. turns_from n go step p (step a b))) (Ok (a, l))) ≤ length l
  left_by n later a l false = omega arith
  left_by n later a l true = let le = after_left n later a (p l) in let le2 = g.passes l l (g.nil l) in omega arith

  turns_left : (n : ℕ) (a : A) (l : List Item) → left (turns_from n go step p a l) ≤ length l
  turns_left zero a l = omega arith
  turns_left (suc n) a l = left_by n (turns_left n) a l (go l)

  -- one turn, where another comes
  one_turn : (n : ℕ) (a : A) (l : List Item) → f (no l) → turns_from (suc n) go step p a l ≡ and_then (p l) (λ b. turns_from n go step p (step a b))
  one_turn n a l h = elim (goes l) [ inl y ↦ rw (y.0) refl | inr y ↦ absurd (y.1 h) ]

  no_turn : (n : ℕ) (a : A) (l : List Item) → (f (no l) → ⊥) → turns_from n go step p a l ≡ Ok (a, l)
  no_turn zero a l h = refl
  no_turn (suc n) a l h = elim (goes l) [ inl y ↦ absurd (h y.1) | inr y ↦ rw (y.0) refl ]

  more_come : (l : List Item) (n : ℕ) → f (no l) → length l ≤ n → (k : ℕ) × (n ≡ suc k)
  more_come [] n h le = absurd (ends h)
  more_come (i ∷ l) zero h le = absurd (omega arith)
  more_come (i ∷ l) (suc n) h le = (n, refl)

  turns_complete : (n : ℕ) {a c : A} {l r : List Item} → Turns step P a l r c → length l ≤ n → s (no r) × (f (no r) → ⊥) → turns_from n go step p a l ≡ Ok (c, r)
  turns_complete n {a = a} (stop {l = l}) le st = no_turn n a l st.1
  turns_complete n {a = a} {c = c} {r = r} (turn {b = b} {l = l} {m = m} fits more) le st =
      elim (g.starts l m b fits) [
        | inl e ↦ absurd e.1
        | inr e ↦
            let k = more_come l n e.0 le in
            let lt = e.1 in
            let next : s (no m) = elim (starts_by more) [ inl same ↦ subst (λ (t : List Item). s (no t)) (sym same) st.0 | inr d ↦ apart _ d.0 ] in
            let once = g.complete l m b fits next in
            let is = k.1 in
            rw (k.1, one_turn k.0 a l e.0, once) (turns_complete k.0 more (omega arith) st)
      ]

  turns_passes : (n : ℕ) (a : A) {l r : List Item} → BeginsTurns P l r → length l ≤ n → left (turns_from n go step p a l) ≤ length r
  turns_passes n a (begun {l = l} {r = r} b) le =
      elim (g.begun l r b) [
        | inl same ↦ let e = ap length same in let le2 = turns_left n a l in omega arith
        | inr h ↦
            let k = more_come l n h le in
            let le2 = after_left k.0 (turns_left k.0) a (p l) in
            let le3 = g.passes l r b in
            rw (k.1, one_turn k.0 a l h) (omega arith)
      ]
  turns_passes n a {r = r} (turned {b = b} {l = l} {m = m} fits more) le =
      elim (g.starts l m b fits) [
        | inl e ↦ absurd e.1
        | inr e ↦
            let k = more_come l n e.0 le in
            let lt = e.1 in
            let is = k.1 in
            rw (k.1, one_turn k.0 a l e.0) (elim (begun_by more) [
              | inl same ↦
                  let e2 = ap length same in
                  let le2 = after_left k.0 (turns_left k.0) a (p l) in
                  let le3 = g.passes l m (g.begins l m b fits) in omega arith
              | inr h ↦
                  let once = g.complete l m b fits (apart _ h) in
                  rw once (turns_passes k.0 (step a b) more (omega arith))
            ])
      ]

  abbrev Viable : ℕ → Type 0
  Viable n = (a : A) (l r : List Item) → length l ≤ n → Tail l r → left (turns_from n go step p a l) ≤ length r → BeginsTurns P l r

  viable_at : (n : ℕ) → Viable n → (a : A) (l r : List Item) → length l ≤ suc n → (o : Outcome B) → p l ≡ o → Tail l r
      → left (and_then o (λ b. turns_from n go step p (step a b))) ≤ length r → BeginsTurns P l r
  viable_at n later a l r le (Err k) is t far = begun (g.viable l r t (rw is far))
  viable_at n later a l r le (Ok x) is t far =
      let fits = g.sound l x.1 x.0 is in
      elim (cases_lt (length r) (length x.1)) [
        | inl lt ↦ elim (g.starts l x.1 x.0 fits) [
          | inl e ↦ absurd e.1
          | inr e ↦ let shorter = e.1 in turned fits (later (step a x.0) x.1 r (omega arith) (between (g.tails l x.1 x.0 fits) t (omega arith)) far)
        ]
        | inr ge ↦ begun (g.viable l r t (rw is ge))
      ]

  viable_by : (n : ℕ) → Viable n → (a : A) (l r : List Item) → length l ≤ suc n → (b : Bool) → Tail l r
      → left (cond b (and_then (p l) (λ b. turns_from n go step p (step a b))) (Ok (a, l))) ≤ length r → BeginsTurns P l r
  viable_by n later a l r le false t far = subst (λ (x : List Item). BeginsTurns P l x) (Tail-same t far) (begun (g.nil l))
  viable_by n later a l r le true t far = viable_at n later a l r le (p l) refl t far

  turns_viable : (n : ℕ) → Viable n
  turns_viable zero a l r le t far = subst (λ (x : List Item). BeginsTurns P l x) (Tail-same t far) (begun (g.nil l))
  turns_viable (suc n) a l r le t far = viable_by n (turns_viable n) a l r le (go l) t far

  pub good_turns : (a : A) → Good (parse.turns go step p a) (turns step a P) f (λ c. s c × (f c → ⊥)) (Unit {0})
  good_turns a = record {
    sound = λ l r c e. turns_sound (length l) a c l r e;
    complete = λ l r c fits st. turns_complete (length l) fits (omega arith) st;
    viable = λ l r t far. turns_viable (length l) a l r (omega arith) t far;
    passes = λ l r b. turns_passes (length l) a b (omega arith);
    tails = λ l r c fits. turns_tails fits;
    begins = λ l r c fits. turns_begins fits;
    nil = λ l. begun (g.nil l);
    starts = λ l r c fits. elim (starts_by fits) [ inl same ↦ inl (same, tt) | inr e ↦ inr e ];
    begun = λ l r b. begun_by b;
  }

-- ---- choices by a test of what comes next

-- p where the test says so, and else q
pub good_choose : {A : Type 0} (test : Next → Bool) {p q : Parser A} {P Q : Part A} {f1 s1 f2 s2 : ℕ → Type 0} {e2 : Type 0} → Good p P f1 s1 ⊥ → Good q Q f2 s2 e2
    → ((n : Next) → Goes test f1 n) → ((c : ℕ) → f1 c → f2 c → ⊥) → Good (parse.choose test p q) (either P Q) (λ c. f1 c ⊎ f2 c) (λ c. s1 c × s2 c × (e2 → f1 c → ⊥)) e2
good_choose test {p = p} {q = q} {P = P} {Q = Q} {f1 = f1} {s1 = s1} {f2 = f2} {s2 = s2} {e2 = e2} g h goes apart =
    good_either p q (parse.choose test p q) P Q f1 s1 f2 s2 e2 g h (λ l. elim (goes (next_of l)) [ inl y ↦ inl (y.1, rw (y.0) refl) | inr y ↦ inr (y.1, rw (y.0) refl) ]) apart

-- a part or nothing
pub good_optional : {A : Type 0} (test : Next → Bool) {p : Parser A} {P : Part A} {f s : ℕ → Type 0} → Good p P f s ⊥ → ((n : Next) → Goes test f n)
    → Good (parse.optional test p) (optional P) f (λ c. s c × (f c → ⊥)) (Unit {0})
good_optional test {f = f} {s = s} g goes = weaken f (λ c. s c × (f c → ⊥)) (Unit {0})
    (good_choose test (weaken f s ⊥ (seq g (λ a. good_nothing (Some a)) (λ c h. absurd h)) (λ c. elim [ inl h ↦ h | inr h ↦ absurd h.0 ]) (λ c h. (tt, λ _. h)) (λ h. h.0)) (good_nothing None) goes (λ c h k. k))
    (λ c. elim [ inl h ↦ h | inr h ↦ absurd h ]) (λ c h. (h.0, tt, λ _. h.1)) (λ h. h)

-- a mark and then a part, and a word and then a part
pub good_after_mark : {A : Type 0} {p : Parser A} {P : Part A} {f s : ℕ → Type 0} {e : Type 0} (k : Mark) → Good p P f s e
    → Good (parse.◌>>=◌ (parse.mark k) (λ _. p)) (part.◌>>=◌ (part.mark k) (λ _. P)) (λ c. c ≡ mark_no k) s ⊥
good_after_mark {f = f} {s = s} k g = weaken (λ c. c ≡ mark_no k) s ⊥ (seq (good_mark k) (λ _. g) (λ c h. tt)) (λ c. elim [ inl h ↦ h | inr h ↦ absurd h.0 ]) (λ c h. (h, λ _. tt)) (λ h. h.0)

pub good_after_word : {A : Type 0} {p : Parser A} {P : Part A} {f s : ℕ → Type 0} {e : Type 0} (k : Word) → Good p P f s e
    → Good (parse.◌>>=◌ (parse.word k) (λ _. p)) (part.◌>>=◌ (part.word k) (λ _. P)) (λ c. c ≡ word_no k) s ⊥
good_after_word {f = f} {s = s} k g = weaken (λ c. c ≡ word_no k) s ⊥ (seq (good_word k) (λ _. g) (λ c h. tt)) (λ c. elim [ inl h ↦ h | inr h ↦ absurd h.0 ]) (λ c h. (h, λ _. tt)) (λ h. h.0)

-- a part up to so many times
pub good_up_to : {A B : Type 0} (n : ℕ) (test : Next → Bool) (step : A → B → A) {p : Parser B} {P : Part B} {f s : ℕ → Type 0} → Good p P f s ⊥ → ((n : Next) → Goes test f n) → ((c : ℕ) → f c → s c)
    → (a : A) → Good (turns_from n (λ l. test (next_of l)) step p a) (up_to n step a P) f (λ c. s c × (f c → ⊥)) (Unit {0})
good_up_to zero test step {f = f} {s = s} g goes apart a = weaken f (λ c. s c × (f c → ⊥)) (Unit {0}) (good_nothing a) (λ c h. absurd h) (λ c h. tt) (λ h. h)
good_up_to (suc n) test step {f = f} {s = s} g goes apart a = weaken f (λ c. s c × (f c → ⊥)) (Unit {0})
    (good_choose test
    (weaken f (λ c. s c × (f c → ⊥)) ⊥ (seq g (λ b. good_up_to n test step g goes apart (step a b)) apart) (λ c. elim [ inl h ↦ h | inr h ↦ absurd h.0 ]) (λ c h. (h, λ _. h.0)) (λ h. h.0))
    (good_nothing a) goes (λ c h k. k))
    (λ c. elim [ inl h ↦ h | inr h ↦ absurd h ]) (λ c h. (h, tt, λ _. h.1)) (λ h. h)
