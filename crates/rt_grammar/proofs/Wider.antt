-- A limit on the items of a part, a test of its first item, and two lines that begin alike.
use Rattle.std.proofs.Common.{◌≡◌, ℕ, ◌+◌, ◌-◌, ◌<◌, ◌≤◌, Bool, true, false, cond, leb, List, length, Ok, Err, ◌⊎◌, inl, inr, refl, ap, arith}
use Rattle.std.proofs.lemmas.Bool.{leb-true, leb-false, le-leb}
use Rattle.rt_pieces.specs.declared.item.Item.{Item}
use Rattle.rt_grammar.specs.Parts.{Part, either, ◌>>=◌, at_most, starting, next_of}
use Rattle.rt_grammar.specs.Parsing as parse
use Rattle.rt_grammar.specs.declared.next.Next.{Next}
use Rattle.rt_grammar.proofs.Numbers.{next_no}
use Rattle.rt_grammar.specs.Parsing.{Outcome, Parser, left, counted}
use Rattle.rt_grammar.proofs.Tails.{Tail, Tail-same}
use Rattle.rt_grammar.proofs.Good.{Good}

-- ---- a part of at most so many items

module _ {A : Type 0} (n : ℕ) (p : Parser A) (P : Part A) (f s : ℕ → Type 0) (e : Type 0) (g : Good p P f s e) where
  sound_by : (l r : List Item) (a : A) (b : Bool) → leb (length l - n) (left (p l)) ≡ b → cond b (p l) (Err (length l - n)) ≡ Ok (a, r) → (at_most n P).Fits l r a
  sound_by l r a true is e =
      let same = ap left e in
      let le : length l - n ≤ left (p l) = leb-true (length l - n) (left (p l)) is in
      (g.sound l r a e, omega arith)
  sound_by l r a false is e = absurd cc

  left_by : (l : List Item) (b : Bool) → leb (length l - n) (left (p l)) ≡ b → (length l - n ≤ left (p l)) × (left (cond b (p l) (Err (length l - n))) ≡ left (p l)) ⊎ (left (p l) < length l - n) × (left (cond b (p l) (Err (length l - n))) ≡ length l - n)
  left_by l true is = inl (leb-true (length l - n) (left (p l)) is, refl)
  left_by l false is = inr (leb-false (length l - n) (left (p l)) is, refl)

  viable_by : (l r : List Item) → Tail l r → left (counted n p l) ≤ length r → (at_most n P).Begins l r
  viable_by l r t le = elim (left_by l (leb (length l - n) (left (p l))) refl) [
    | inl h ↦ let a = h.0 in let b = h.1 in (g.viable l r t (omega arith), omega arith)
    | inr h ↦ let a = h.0 in let b = h.1 in (g.viable l r t (omega arith), omega arith)
  ]

  passes_by : (l r : List Item) → (at_most n P).Begins l r → left (counted n p l) ≤ length r
  passes_by l r begun = elim (left_by l (leb (length l - n) (left (p l))) refl) [
    | inl h ↦ let b = h.1 in let le = g.passes l r begun.0 in omega arith
    | inr h ↦ let b = h.1 in let le = begun.1 in omega arith
  ]

  complete_by : (l r : List Item) (a : A) → (at_most n P).Fits l r a → p l ≡ Ok (a, r) → counted n p l ≡ Ok (a, r)
  complete_by l r a fits e =
      let le : length l ≤ length r + n = fits.1 in
      let few : leb (length l - n) (length r) ≡ true = le-leb (length l - n) (length r) (omega arith) in rw (e, few) refl

  pub good_counted : Good (counted n p) (at_most n P) f s e
  good_counted = record {
    sound = λ l r a e. sound_by l r a (leb (length l - n) (left (p l))) refl e;
    complete = λ l r a fits st. complete_by l r a fits (g.complete l r a fits.0 st);
    viable = viable_by;
    passes = passes_by;
    tails = λ l r a fits. g.tails l r a fits.0;
    begins = λ l r a fits. (g.begins l r a fits.0, fits.1);
    nil = λ l. (g.nil l, omega arith);
    starts = λ l r a fits. g.starts l r a fits.0;
    begun = λ l r b. g.begun l r b.0;
  }

-- ---- a part whose first item passes a test

module _ {A : Type 0} (test : Next → Bool) (p : Parser A) (P : Part A) (f s passed : ℕ → Type 0) (g : Good p P f s ⊥) (numbered : (n : Next) → test n ≡ true → passed (next_no n)) where
  started_sound : (l r : List Item) (a : A) (b : Bool) → test (next_of l) ≡ b → cond b (p l) (Err (length l)) ≡ Ok (a, r) → (starting test P).Fits l r a
  started_sound l r a true is e = (g.sound l r a e, is)
  started_sound l r a false is e = absurd cc

  started_viable : (l r : List Item) (b : Bool) → test (next_of l) ≡ b → Tail l r → left (cond b (p l) (Err (length l))) ≤ length r → (starting test P).Begins l r
  started_viable l r true is t le = inr (g.viable l r t le, is)
  started_viable l r false is t le = inl (Tail-same t le)

  started_left : (l : List Item) (b : Bool) → left (cond b (p l) (Err (length l))) ≤ length l
  started_left l true = g.passes l l (g.nil l)
  started_left l false = omega arith

  pub good_starting : Good (parse.starting test p) (starting test P) (λ c. f c × passed c) s ⊥
  good_starting = record {
    sound = λ l r a e. started_sound l r a (test (next_of l)) refl e;
    complete = λ l r a fits st. rw (fits.1) (g.complete l r a fits.0 st);
    viable = λ l r t le. started_viable l r (test (next_of l)) refl t le;
    passes = λ l r. elim [
      | inl same ↦ let e = ap length same in let le = started_left l (test (next_of l)) in omega arith
      | inr b ↦ rw (b.1) (g.passes l r b.0)
    ];
    tails = λ l r a fits. g.tails l r a fits.0;
    begins = λ l r a fits. inr (g.begins l r a fits.0, fits.1);
    nil = λ l. inl refl;
    starts = λ l r a fits. elim (g.starts l r a fits.0) [ inl h ↦ absurd h.1 | inr h ↦ inr ((h.0, numbered (next_of l) fits.1), h.1) ];
    begun = λ l r. elim [
      | inl same ↦ inl same
      | inr b ↦ elim (g.begun l r b.0) [ inl same ↦ inl same | inr h ↦ inr (h, numbered (next_of l) b.1) ]
    ];
  }

-- ---- two lines that begin with the same part

-- parts that say the same
pub record Same {A : Type 0} (P Q : Part A) : Type 0 where
  pub fits : (l r : List Item) (a : A) → P.Fits l r a → Q.Fits l r a
  pub fits_back : (l r : List Item) (a : A) → Q.Fits l r a → P.Fits l r a
  pub begins : (l r : List Item) → P.Begins l r → Q.Begins l r
  pub begins_back : (l r : List Item) → Q.Begins l r → P.Begins l r

pub good_same : {A : Type 0} {p : Parser A} {P Q : Part A} {f s : ℕ → Type 0} {e : Type 0} → Same P Q → Good p P f s e → Good p Q f s e
good_same h g = record {
  sound = λ l r a e. h.fits l r a (g.sound l r a e);
  complete = λ l r a fits st. g.complete l r a (h.fits_back l r a fits) st;
  viable = λ l r t le. h.begins l r (g.viable l r t le);
  passes = λ l r b. g.passes l r (h.begins_back l r b);
  tails = λ l r a fits. g.tails l r a (h.fits_back l r a fits);
  begins = λ l r a fits. h.begins l r (g.begins l r a (h.fits_back l r a fits));
  nil = λ l. h.begins l l (g.nil l);
  starts = λ l r a fits. g.starts l r a (h.fits_back l r a fits);
  begun = λ l r b. g.begun l r (h.begins_back l r b);
}

-- A parser that reads P and then chooses is right for the two lines P Q and P R.
pub factored : {A B : Type 0} (P : Part A) (Q R : A → Part B) → Same (P >>= λ a. either (Q a) (R a)) (either (P >>= Q) (P >>= R))
factored P Q R = record {
  fits = λ l r b (m, a, fits, rest). elim rest [ inl q ↦ inl (m, a, fits, q) | inr q ↦ inr (m, a, fits, q) ];
  fits_back = λ l r b. elim [ inl h ↦ (h.0, h.1, h.2, inl h.3) | inr h ↦ (h.0, h.1, h.2, inr h.3) ];
  begins = λ l r. elim [
    | inl b ↦ inl (inl b)
    | inr h ↦ elim h.3 [ inl q ↦ inl (inr (h.0, h.1, h.2, q)) | inr q ↦ inr (inr (h.0, h.1, h.2, q)) ]
  ];
  begins_back = λ l r. elim [
    | inl h ↦ elim h [ inl b ↦ inl b | inr q ↦ inr (q.0, q.1, q.2, inl q.3) ]
    | inr h ↦ elim h [ inl b ↦ inl b | inr q ↦ inr (q.0, q.1, q.2, inr q.3) ]
  ];
}
