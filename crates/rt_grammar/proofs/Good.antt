-- A parser that is right for a part of the grammar, and how such parsers are put together.
use Rattle.std.proofs.Common.{◌≡◌, ℕ, zero, suc, ◌<◌, ◌≤◌, List, [], ◌∷◌, length, Option, Some, None, Ok, Err, ◌⊎◌, inl, inr, refl, sym, ap, subst, ◌∙◌, arith}
use Rattle.std.proofs.lemmas.Bool.{cases_lt}
use Rattle.rt_pieces.specs.declared.item.Item.{Item}
use Rattle.rt_grammar.specs.Parts.{Part, nothing, never, one, either, Turns, BeginsTurns, turns, next_of, next_by, at_of, here, within}
use Rattle.rt_grammar.specs.Parts as part
use Rattle.rt_grammar.specs.declared.at.At.{At}
use Rattle.rt_grammar.specs.Parsing.{Outcome, Parser, and_then, pure, left}
use Rattle.rt_grammar.specs.Parsing as parse
use Rattle.rt_grammar.proofs.Numbers.{next_no, no}
use Rattle.rt_grammar.proofs.Tails.{Tail, all, past, Tail-length, Tail-then, between, Tail-same}

-- first: what may come first in the part; stops: what may follow the whole part; empty: whether no items may be the part
pub record Good {A : Type 0} (p : Parser A) (P : Part A) (first stops : ℕ → Type 0) (empty : Type 0) : Type 0 where
  pub sound : (l r : List Item) (a : A) → p l ≡ Ok (a, r) → P.Fits l r a
  pub complete : (l r : List Item) (a : A) → P.Fits l r a → stops (no r) → p l ≡ Ok (a, r)
  pub viable : (l r : List Item) → Tail l r → left (p l) ≤ length r → P.Begins l r
  pub passes : (l r : List Item) → P.Begins l r → left (p l) ≤ length r
  pub tails : (l r : List Item) (a : A) → P.Fits l r a → Tail l r
  pub begins : (l r : List Item) (a : A) → P.Fits l r a → P.Begins l r
  pub nil : (l : List Item) → P.Begins l l
  pub starts : (l r : List Item) (a : A) → P.Fits l r a → ((l ≡ r) × empty) ⊎ (first (no l) × (length r < length l))
  pub begun : (l r : List Item) → P.Begins l r → (l ≡ r) ⊎ first (no l)

-- other words for what comes first and after
pub weaken : {A : Type 0} {p : Parser A} {P : Part A} {f s : ℕ → Type 0} {e : Type 0} (f' s' : ℕ → Type 0) (e' : Type 0) → Good p P f s e
    → ((c : ℕ) → f c → f' c) → ((c : ℕ) → s' c → s c) → (e → e') → Good p P f' s' e'
weaken f' s' e' g hf hs he = record {
  sound = g.sound;
  viable = g.viable;
  passes = g.passes;
  tails = g.tails;
  begins = g.begins;
  nil = g.nil;
  complete = λ l r a fits st. g.complete l r a fits (hs _ st);
  starts = λ l r a fits. elim (g.starts l r a fits) [ inl h ↦ inl (h.0, he h.1) | inr h ↦ inr (hf _ h.0, h.1) ];
  begun = λ l r b. elim (g.begun l r b) [ inl h ↦ inl h | inr h ↦ inr (hf _ h) ];
}

abbrev pub read : {A : Type 0} → A × List Item → Outcome A
read x = Ok x

-- ---- a part and then another

module _ {A B : Type 0} (p : Parser A) (q : A → Parser B) (P : Part A) (Q : A → Part B) (f1 s1 f2 s2 : ℕ → Type 0) (e1 e2 : Type 0)
    (g : Good p P f1 s1 e1) (h : (a : A) → Good (q a) (Q a) f2 s2 e2) where
  then_sound : (l r : List Item) (b : B) (o : Outcome A) → p l ≡ o → and_then o q ≡ Ok (b, r) → (part.◌>>=◌ P Q).Fits l r b
  then_sound l r b (Ok x) e done = (x.1, x.0, g.sound l x.1 x.0 e, (h x.0).sound x.1 r b done)
  then_sound l r b (Err n) e done = absurd cc

  then_viable : (l r : List Item) (o : Outcome A) → p l ≡ o → Tail l r → left (and_then o q) ≤ length r → (part.◌>>=◌ P Q).Begins l r
  then_viable l r (Err n) e t le = inl (g.viable l r t (rw e le))
  then_viable l r (Ok x) e t le =
      let fits = g.sound l x.1 x.0 e in
      elim (cases_lt (length r) (length x.1)) [
        | inl lt ↦ inr (x.1, x.0, fits, (h x.0).viable x.1 r (between (g.tails l x.1 x.0 fits) t (omega arith)) le)
        | inr ge ↦ inl (g.viable l r t (rw e ge))
      ]

  then_left : (l : List Item) (o : Outcome A) → left (and_then o q) ≤ left o
  then_left l (Err n) = omega arith
  then_left l (Ok x) = (h x.0).passes x.1 x.1 ((h x.0).nil x.1)

  then_passes : ((c : ℕ) → f2 c → s1 c) → (l r : List Item) → (part.◌>>=◌ P Q).Begins l r → left (and_then (p l) q) ≤ length r
  then_passes apart l r (inl b) = let le = g.passes l r b in let le2 = then_left l (p l) in omega arith
  then_passes apart l r (inr (m, a, fits, b)) = elim ((h a).begun m r b) [
    | inl same ↦
        let le = g.passes l m (g.begins l m a fits) in
        let le2 = then_left l (p l) in
        let e = ap length same in omega arith
    | inr f ↦ rw (g.complete l m a fits (apart _ f)) ((h a).passes m r b)
  ]

  then_complete : ((c : ℕ) → f2 c → s1 c) → (l r : List Item) (b : B) → (part.◌>>=◌ P Q).Fits l r b → s2 (no r) × (e2 → s1 (no r)) → and_then (p l) q ≡ Ok (b, r)
  then_complete apart l r b (m, a, fits, fits2) st =
      let st1 : s1 (no m) = elim ((h a).starts m r b fits2) [ inl c ↦ subst (λ (t : List Item). s1 (no t)) (sym c.0) (st.1 c.1) | inr f ↦ apart _ f.0 ] in
      rw (g.complete l m a fits st1) ((h a).complete m r b fits2 st.0)

  then_starts : (l r : List Item) (b : B) → (part.◌>>=◌ P Q).Fits l r b → ((l ≡ r) × (e1 × e2)) ⊎ ((f1 (no l) ⊎ (e1 × f2 (no l))) × (length r < length l))
  then_starts l r b (m, a, fits, fits2) = elim (g.starts l m a fits) [
    | inr f ↦ let le = Tail-length ((h a).tails m r b fits2) in let lt = f.1 in inr (inl f.0, omega arith)
    | inl c ↦ elim ((h a).starts m r b fits2) [
      | inl d ↦ inl (c.0 ∙ d.0, (c.1, d.1))
      | inr f ↦ inr (subst (λ (t : List Item). (f1 (no t) ⊎ (e1 × f2 (no t))) × (length r < length t)) (sym c.0) (inr (c.1, f.0), f.1))
    ]
  ]

  then_begun : (l r : List Item) → (part.◌>>=◌ P Q).Begins l r → (l ≡ r) ⊎ (f1 (no l) ⊎ (e1 × f2 (no l)))
  then_begun l r (inl b) = elim (g.begun l r b) [ inl c ↦ inl c | inr f ↦ inr (inl f) ]
  then_begun l r (inr (m, a, fits, b)) = elim (g.starts l m a fits) [
    | inr f ↦ inr (inl f.0)
    | inl c ↦ elim ((h a).begun m r b) [
      | inl d ↦ inl (c.0 ∙ d)
      | inr f ↦ inr (inr (c.1, subst (λ (t : List Item). f2 (no t)) (sym c.0) f))
    ]
  ]

  pub good_then : ((c : ℕ) → f2 c → s1 c) → Good (parse.◌>>=◌ p q) (part.◌>>=◌ P Q) (λ c. f1 c ⊎ (e1 × f2 c)) (λ c. s2 c × (e2 → s1 c)) (e1 × e2)
  good_then apart = record {
    sound = λ l r b e. then_sound l r b (p l) refl e;
    complete = then_complete apart;
    viable = λ l r t le. then_viable l r (p l) refl t le;
    passes = then_passes apart;
    tails = λ l r b (m, a, fits, fits2). Tail-then (g.tails l m a fits) ((h a).tails m r b fits2);
    begins = λ l r b (m, a, fits, fits2). inr (m, a, fits, (h a).begins m r b fits2);
    nil = λ l. inl (g.nil l);
    starts = then_starts;
    begun = then_begun;
  }

-- ---- nothing, never, and one item

pub ok_is : {A : Type 0} (x y : A × List Item) → read x ≡ read y → x ≡ y
ok_is x y e = cc

pub good_nothing : {A : Type 0} (a : A) → Good (pure a) (nothing a) (λ _. ⊥) (λ _. Unit {0}) (Unit {0})
good_nothing {A} a = record {
  sound = λ l r x e. let same = ok_is (a, l) (x, r) e in (ap (λ (t : A × List Item). t.1) same, sym (ap (λ (t : A × List Item). t.0) same));
  complete = λ l r x (same, is) _. rw (same, is) refl;
  viable = λ l r t le. Tail-same t le;
  passes = λ l r same. let e = ap length same in omega arith;
  tails = λ l r x (same, is). subst (λ (t : List Item). Tail l t) same all;
  begins = λ l r x fits. fits.0;
  nil = λ l. refl;
  starts = λ l r x fits. inl (fits.0, tt);
  begun = λ l r same. inl same;
}

pub good_never : {A : Type 0} → Good {A = A} parse.refuse never (λ _. ⊥) (λ _. Unit {0}) ⊥
good_never = record {
  sound = λ l r x e. cc;
  complete = λ l r x fits _. absurd fits;
  viable = λ l r t le. Tail-same t le;
  passes = λ l r same. let e = ap length same in omega arith;
  tails = λ l r x fits. absurd fits;
  begins = λ l r x fits. absurd fits;
  nil = λ l. refl;
  starts = λ l r x fits. absurd fits;
  begun = λ l r same. inl same;
}

pub good_here : (total : ℕ) → Good (parse.here total) (here total) (λ _. ⊥) (λ _. Unit {0}) (Unit {0})
good_here total = record {
  sound = λ l r x e. let same = ok_is (at_of total l, l) (x, r) e in (ap (λ (t : At × List Item). t.1) same, sym (ap (λ (t : At × List Item). t.0) same));
  complete = λ l r x (same, is) _. rw (is, same) refl;
  viable = λ l r t le. Tail-same t le;
  passes = λ l r same. let e = ap length same in omega arith;
  tails = λ l r x (same, is). subst (λ (t : List Item). Tail l t) same all;
  begins = λ l r x fits. fits.0;
  nil = λ l. refl;
  starts = λ l r x fits. inl (fits.0, tt);
  begun = λ l r same. inl same;
}

-- What a test takes is what the part says, and its number comes first.
module _ {A : Type 0} (test : Item → Option A) (means : Item → A → Type 0) (first : ℕ → Type 0) (takes : (i : Item) (a : A) → test i ≡ Some a → means i a)
    (means_it : (i : Item) (a : A) → means i a → (test i ≡ Some a) × first (next_no (next_by i.kind))) where
  one_sound : (l r : List Item) (i : Item) (a : A) (o : Option A) → test i ≡ o → parse.item_by i l o ≡ Ok (a, r) → (one means).Fits (i ∷ l) r a
  one_sound l r i a (Some b) e done =
      let same = ok_is (b, l) (a, r) done in
      (i, ap (λ (t : A × List Item). i ∷ t.1) same, takes i a (e ∙ ap (λ (t : A × List Item). Some t.0) same))
  one_sound l r i a None e done = absurd cc

  one_viable : (l r : List Item) (i : Item) (o : Option A) → test i ≡ o → Tail (i ∷ l) r → left (parse.item_by i l o) ≤ length r → (one means).Begins (i ∷ l) r
  one_viable l r i None e t le = inl (Tail-same t le)
  one_viable l r i (Some a) e all le = inl refl
  one_viable l r i (Some a) e (past t) le = inr (i, a, ap (λ (x : List Item). i ∷ x) (Tail-same t le), takes i a e)

  one_left : (l : List Item) (i : Item) (o : Option A) → left (parse.item_by i l o) ≤ suc (length l)
  one_left l i (Some a) = omega arith
  one_left l i None = omega arith

  pub good_one : Good (parse.item test) (one means) first (λ _. Unit {0}) ⊥
  good_one = record {
    sound = elim [ [] ↦ λ r a e. absurd cc | i ∷ l ↦ λ r a e. one_sound l r i a (test i) refl e ];
    complete = λ l r a (i, same, is) _. rw (same, (means_it i a is).0) refl;
    viable = elim [ [] ↦ λ r t le. inl (Tail-same t (omega arith)) | i ∷ l ↦ λ r t le. one_viable l r i (test i) refl t le ];
    passes = λ l r. elim [
      | inl same ↦ rw (← same) (elim l as (λ t. left (parse.item test t) ≤ length t) [ [] ↦ omega arith | i ∷ l ↦ one_left l i (test i) ])
      | inr (i, a, same, is) ↦ rw (same, (means_it i a is).0) (omega arith)
    ];
    tails = λ l r a (i, same, is). subst (λ (t : List Item). Tail t r) (sym same) (past all);
    begins = λ l r a (i, same, is). inr (i, a, same, is);
    nil = λ l. inl refl;
    starts = λ l r a (i, same, is). inr (subst (λ (t : List Item). first (no t) × (length r < length t)) (sym same) ((means_it i a is).1, omega arith));
    begun = λ l r. elim [ inl same ↦ inl same | inr (i, a, same, is) ↦ inr (subst (λ (t : List Item). first (no t)) (sym same) (means_it i a is).1) ];
  }

-- ---- in other words

-- as good_then, with what it needs found by itself
pub seq : {A B : Type 0} {p : Parser A} {q : A → Parser B} {P : Part A} {Q : A → Part B} {f1 s1 f2 s2 : ℕ → Type 0} {e1 e2 : Type 0}
    → Good p P f1 s1 e1 → ((a : A) → Good (q a) (Q a) f2 s2 e2) → ((c : ℕ) → f2 c → s1 c)
    → Good (parse.◌>>=◌ p q) (part.◌>>=◌ P Q) (λ c. f1 c ⊎ (e1 × f2 c)) (λ c. s2 c × (e2 → s1 c)) (e1 × e2)
seq {p = p} {q = q} {P = P} {Q = Q} {f1 = f1} {s1 = s1} {f2 = f2} {s2 = s2} {e1 = e1} {e2 = e2} g h apart = good_then p q P Q f1 s1 f2 s2 e1 e2 g h apart

-- a parser that answers the same
pub good_equal : {A : Type 0} {p r : Parser A} {P : Part A} {f s : ℕ → Type 0} {e : Type 0} → ((l : List Item) → r l ≡ p l) → Good p P f s e → Good r P f s e
good_equal h g = record {
  sound = λ l r a e. g.sound l r a (sym (h l) ∙ e);
  complete = λ l r a fits st. h l ∙ g.complete l r a fits st;
  viable = λ l r t le. g.viable l r t (rw (← h l) le);
  passes = λ l r b. rw (h l) (g.passes l r b);
  tails = g.tails;
  begins = g.begins;
  nil = g.nil;
  starts = g.starts;
  begun = g.begun;
}

-- what opens one more level
pub good_within : {A : Type 0} {p : Parser A} {P : Part A} {f s : ℕ → Type 0} (levels : ℕ) → Good p P f s ⊥ → Good (parse.within levels p) (within levels P) f s ⊥
unfolding parse.within
good_within {f = f} {s = s} zero g = weaken f s ⊥ good_never (λ c h. absurd h) (λ c h. tt) (λ h. h)
good_within (suc levels) g = g
