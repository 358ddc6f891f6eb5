-- A function is right for a format: it answers what fits, and refuses at the field that the format refuses.
use Rattle.std.proofs.Common.{◌≡◌, ℕ, zero, suc, ◌+◌, ◌*◌, ◌≤◌, Bool, true, false, if◌then◌else◌, ◌&&◌, eqb, leb, List, [], ◌∷◌, ◌++◌, length, take, drop, Option, Some, None, Ok, Err, ◌⊎◌, inl, inr, refl, sym, ap, subst, ◌∙◌, arith}
use Rattle.std.specs.List.{starts_with}
use Rattle.std.proofs.lemmas.Bool.{eqb-true, eqb-false, leb-true, le-leb}
use Rattle.std.proofs.lemmas.Bool.Decides.{eqb_tells, leb_tells, Decides-eqb}
use Rattle.std.proofs.lemmas.List.{length-append, length-take-le, take_at, drop_at, take-append-drop}
use Rattle.std.proofs.lemmas.Slice.Eq.{starts_is}
use Rattle.rt_words.specs.Named.{IsNameLength}
use Rattle.rt_words.specs.Format.{Format}
use Rattle.rt_words.specs.Format as format
use Rattle.rt_words.specs.Reading.{Outcome, Reader, and_then, taken, taken_if, is_name, passed, ended}
use Rattle.rt_words.specs.Reading as reads

pub record Right {A : Type 0} (p : Reader A) (P : Format A) : Type 0 where
  pub sound : (l r : List ℕ) (a : A) → p l ≡ Ok (a, r) → P.Fits l r a
  pub complete : (l r : List ℕ) (a : A) → P.Fits l r a → p l ≡ Ok (a, r)
  pub refuses : (l : List ℕ) (n : ℕ) → p l ≡ Err n → P.Refuses l n
  pub refused : (l : List ℕ) (n : ℕ) → P.Refuses l n → p l ≡ Err n

abbrev pub ok : {A : Type 0} → A × List ℕ → Outcome A
ok x = Ok x

abbrev pub err : {A : Type 0} → ℕ → Outcome A
err n = Err n

same_ok : {A : Type 0} (x y : A × List ℕ) → ok x ≡ ok y → x ≡ y
same_ok x y e = cc

pub same_err : {A : Type 0} (m n : ℕ) → err {A = A} m ≡ err n → m ≡ n
same_err m n e = cc

abbrev pub Read : {A : Type 0} → A → List ℕ → A → List ℕ → Type 0
Read a l x r = (a ≡ x) × (l ≡ r)

pub read_same : {A : Type 0} (a : A) (l : List ℕ) (x : A) (r : List ℕ) → ok (a, l) ≡ ok (x, r) → Read a l x r
read_same a l x r e = let f = same_ok (a, l) (x, r) e in (ap (λ t. t.0) f, ap (λ t. t.1) f)

pub right_nothing : {A : Type 0} (a : A) → Right (reads.nothing a) (format.nothing a)
right_nothing a = record {
  sound = λ l r x e. let f = read_same a l x r e in (f.1, f.0);
  complete = λ l r x h. rw (h.0, h.1) refl;
  refuses = λ l n e. absurd cc;
  refused = λ l n h. absurd h;
}

pub right_never : {A : Type 0} → Right (reads.never {A = A}) (format.never {A = A})
right_never {A} = record {
  sound = λ l r x e. absurd cc;
  complete = λ l r x h. absurd h;
  refuses = λ l n e. sym (same_err {A = A} (length l) n e);
  refused = λ l n h. rw h refl;
}

-- ---- one field

-- what the table says of a byte or word that stands there
told : {A : Type 0} (l m r : List ℕ) (o : Option A) (x : A) → taken l m o ≡ Ok (x, r) → (o ≡ Some x) × (m ≡ r)
told l m r (Some a) x e = let f = read_same a m x r e in (ap Some f.0, f.1)
told l m r None x e = absurd cc

told_none : {A : Type 0} (l m : List ℕ) (o : Option A) (n : ℕ) → taken l m o ≡ Err n → (o ≡ None) × (n ≡ length l)
told_none l m (Some a) n e = absurd cc
told_none {A} l m None n e = (refl, sym (same_err {A = A} (length l) n e))

module _ {A : Type 0} (of : ℕ → Option A) where
  byte_sound : (l r : List ℕ) (x : A) → reads.byte of l ≡ Ok (x, r) → (format.byte of).Fits l r x
  byte_sound [] r x e = absurd cc
  byte_sound (b ∷ l) r x e = let f = told (b ∷ l) l r (of b) x e in (b, ap (λ t. b ∷ t) f.1, f.0)

  byte_complete : (l r : List ℕ) (x : A) → (format.byte of).Fits l r x → reads.byte of l ≡ Ok (x, r)
  byte_complete l r x (b, e, f) = rw (e, f) refl

  byte_refuses : (l : List ℕ) (n : ℕ) → reads.byte of l ≡ Err n → (format.byte of).Refuses l n
  byte_refuses [] n e = (sym (same_err {A = A} 0 n e), λ b r f. absurd cc)
  byte_refuses (b ∷ l) n e = let f = told_none (b ∷ l) l (of b) n e in (f.1, λ b' r g. let h : b ≡ b' = cc in rw (sym h) f.0)

  byte_refused : (l : List ℕ) (n : ℕ) → (format.byte of).Refuses l n → reads.byte of l ≡ Err n
  byte_refused [] n h = rw (h.0) refl
  byte_refused (b ∷ l) n h = rw (h.1 b l refl, h.0) refl

  pub right_byte : Right (reads.byte of) (format.byte of)
  right_byte = record { sound = byte_sound; complete = byte_complete; refuses = byte_refuses; refused = byte_refused }

  word_sound : (l r : List ℕ) (x : A) → reads.word of l ≡ Ok (x, r) → (format.word of).Fits l r x
  word_sound [] r x e = absurd cc
  word_sound (low ∷ []) r x e = absurd cc
  word_sound (low ∷ (high ∷ l)) r x e = let f = told (low ∷ (high ∷ l)) l r (of (low + 256 * high)) x e in (low, high, ap (λ t. low ∷ (high ∷ t)) f.1, f.0)

  word_complete : (l r : List ℕ) (x : A) → (format.word of).Fits l r x → reads.word of l ≡ Ok (x, r)
  word_complete l r x (low, high, e, f) = rw (e, f) refl

  word_refuses : (l : List ℕ) (n : ℕ) → reads.word of l ≡ Err n → (format.word of).Refuses l n
  word_refuses [] n e = (sym (same_err {A = A} 0 n e), λ low high r f. absurd cc)
  word_refuses (low ∷ []) n e = (sym (same_err {A = A} 1 n e), λ low high r f. absurd cc)
  word_refuses (low ∷ (high ∷ l)) n e =
      let f = told_none (low ∷ (high ∷ l)) l (of (low + 256 * high)) n e in (f.1, λ low' high' r g. let h : low ≡ low' = cc in let k : high ≡ high' = cc in rw (sym h, sym k) f.0)

  word_refused : (l : List ℕ) (n : ℕ) → (format.word of).Refuses l n → reads.word of l ≡ Err n
  word_refused [] n h = rw (h.0) refl
  word_refused (low ∷ []) n h = rw (h.0) refl
  word_refused (low ∷ (high ∷ l)) n h = rw (h.1 low high l refl, h.0) refl

  pub right_word : Right (reads.word of) (format.word of)
  right_word = record { sound = word_sound; complete = word_complete; refuses = word_refuses; refused = word_refused }

-- ---- so many bytes, and these bytes

-- whether a test holds
either_way : (b : Bool) → (b ≡ true) ⊎ (b ≡ false)
either_way true = inl refl
either_way false = inr refl

module _ (count : ℕ) where
  -- the bytes in front and those behind them, where there are so many
  cut : (l r x : List ℕ) (t : Bool) → leb count (length l) ≡ t → taken_if t l (take count l) (drop count l) ≡ Ok (x, r) → (format.block count).Fits l r x
  cut l r x true f e =
      let k = read_same (take count l) (drop count l) x r e in
      let enough = leb-true count (length l) f in
      (sym (take-append-drop count l) ∙ rw (k.0, k.1) refl, sym (ap length k.0) ∙ length-take-le count l enough)
  cut l r x false f e = absurd cc

  too_few : (l : List ℕ) (n : ℕ) (t : Bool) → leb count (length l) ≡ t → taken_if t l (take count l) (drop count l) ≡ Err n → (format.block count).Refuses l n
  too_few l n true f e = absurd cc
  too_few l n false f e = (sym (same_err {A = List ℕ} (length l) n e), elim (leb_tells count (length l)) [ inl k ↦ absurd (let g : true ≡ false = sym k.0 ∙ f in cc) | inr k ↦ k.1 ])

  block_complete : (l r x : List ℕ) → (format.block count).Fits l r x → reads.block count l ≡ Ok (x, r)
  block_complete l r x (e, f) =
      let size : length l ≡ length x + length r = ap length e ∙ length-append x r in
      let enough : count ≤ length l = omega arith in
      let one : take count l ≡ x = ap (take count) e ∙ take_at x r count f in
      let two : drop count l ≡ r = ap (drop count) e ∙ drop_at x r count f in
      rw (le-leb count (length l) enough, one, two) refl

  block_refused : (l : List ℕ) (n : ℕ) → (format.block count).Refuses l n → reads.block count l ≡ Err n
  block_refused l n (e, few) = elim (leb_tells count (length l)) [ inl k ↦ absurd (let g = k.1 in omega arith) | inr k ↦ rw (k.0, e) refl ]

  pub right_block : Right (reads.block count) (format.block count)
  right_block = record {
    sound = λ l r x e. cut l r x (leb count (length l)) refl e;
    complete = block_complete;
    refuses = λ l n e. too_few l n (leb count (length l)) refl e;
    refused = block_refused;
  }

module _ (bytes : List ℕ) where
  abbrev starts : List ℕ → Bool
  starts l = starts_with eqb l bytes

  front_is : (l : List ℕ) → starts l ≡ true → l ≡ bytes ++ drop (length bytes) l
  front_is l e = (starts_is Decides-eqb l bytes (starts l) refl).0 e

  is_front : (l r : List ℕ) → l ≡ bytes ++ r → starts l ≡ true
  is_front l r e = (starts_is Decides-eqb l bytes (starts l) refl).1 r e

  abbrev tagged : Bool → List ℕ → Outcome (Unit {0})
  tagged t l = taken_if t l tt (drop (length bytes) l)

  tag_sound : (l r : List ℕ) (x : Unit {0}) (t : Bool) → starts l ≡ t → tagged t l ≡ Ok (x, r) → l ≡ bytes ++ r
  tag_sound l r x true f e = let k = read_same tt (drop (length bytes) l) x r e in front_is l f ∙ ap (λ t. bytes ++ t) k.1
  tag_sound l r x false f e = absurd cc

  tag_complete : (l r : List ℕ) (x : Unit {0}) → l ≡ bytes ++ r → reads.tag bytes l ≡ Ok (x, r)
  tag_complete l r x e = let k : drop (length bytes) l ≡ r = ap (drop (length bytes)) e ∙ drop_at bytes r (length bytes) refl in rw (is_front l r e, k) refl

  tag_refuses : (l : List ℕ) (n : ℕ) (t : Bool) → starts l ≡ t → tagged t l ≡ Err n → (format.tag bytes).Refuses l n
  tag_refuses l n true f e = absurd cc
  tag_refuses l n false f e = (sym (same_err {A = Unit {0}} (length l) n e), λ r k. let g : true ≡ false = sym (is_front l r k) ∙ f in cc)

  tag_refused : (l : List ℕ) (n : ℕ) → (format.tag bytes).Refuses l n → reads.tag bytes l ≡ Err n
  tag_refused l n (e, free) = elim (either_way (starts l)) [ inl k ↦ absurd (free (drop (length bytes) l) (front_is l k)) | inr k ↦ rw (k, e) refl ]

  pub right_tag : Right (reads.tag bytes) (format.tag bytes)
  right_tag = record {
    sound = λ l r x e. tag_sound l r x (starts l) refl e;
    complete = tag_complete;
    refuses = λ l n e. tag_refuses l n (starts l) refl e;
    refused = tag_refused;
  }

-- ---- a name

both_true : (a b : Bool) → (a && b) ≡ true → (a ≡ true) × (b ≡ true)
both_true true b e = (refl, e)
both_true false b e = absurd cc

record Named (count : ℕ) (l : List ℕ) : Type 0 where
  some : 1 ≤ count
  short : count ≤ 32
  there : count ≤ length l

named : (count : ℕ) (l : List ℕ) → is_name count l ≡ true → Named count l
named count l e =
    let outer = both_true (leb 1 count && leb count 32) (leb count (length l)) e in
    let inner = both_true (leb 1 count) (leb count 32) outer.0 in
    record { some = leb-true 1 count inner.0; short = leb-true count 32 inner.1; there = leb-true count (length l) outer.1 }

is_named : (count : ℕ) (l : List ℕ) → Named count l → is_name count l ≡ true
is_named count l h = rw (le-leb 1 count h.some, le-leb count 32 h.short, le-leb count (length l) h.there) refl

name_cut : (count : ℕ) (l r x : List ℕ) (t : Bool) → is_name count l ≡ t → taken_if t (count ∷ l) (take count l) (drop count l) ≡ Ok (x, r) → format.name.Fits (count ∷ l) r x
name_cut count l r x true f e =
    let k = read_same (take count l) (drop count l) x r e in
    let h = named count l f in
    let size : length x ≡ count = sym (ap length k.0) ∙ length-take-le count l h.there in
    let whole : l ≡ x ++ r = sym (take-append-drop count l) ∙ rw (k.0, k.1) refl in
    let some = h.some in
    let short = h.short in
    (rw (size, whole) refl, (omega arith, omega arith))
name_cut count l r x false f e = absurd cc

name_sound : (l r x : List ℕ) → reads.name l ≡ Ok (x, r) → format.name.Fits l r x
name_sound [] r x e = absurd cc
name_sound (count ∷ l) r x e = name_cut count l r x (is_name count l) refl e

head_is : (a b : ℕ) (xs ys : List ℕ) → a ∷ xs ≡ b ∷ ys → (a ≡ b) × (xs ≡ ys)
head_is a b xs ys e = (cc, cc)

-- what stands behind the length of a name
name_there : (count : ℕ) (l r x : List ℕ) → count ∷ l ≡ length x ∷ (x ++ r) → IsNameLength (length x) → Named count l
name_there count l r x e h =
    let k = head_is count (length x) l (x ++ r) e in
    let size : length l ≡ length x + length r = ap length k.1 ∙ length-append x r in
    let same = k.0 in
    let some = h.0 in
    let short = h.1 in
    record { some = omega arith; short = omega arith; there = omega arith }

name_complete : (l r x : List ℕ) → format.name.Fits l r x → reads.name l ≡ Ok (x, r)
name_complete [] r x (e, h) = absurd cc
name_complete (count ∷ l) r x (e, h) =
    let k = head_is count (length x) l (x ++ r) e in
    let one : take count l ≡ x = ap (take count) k.1 ∙ take_at x r count (sym k.0) in
    let two : drop count l ≡ r = ap (drop count) k.1 ∙ drop_at x r count (sym k.0) in
    rw (is_named count l (name_there count l r x e h), one, two) refl

name_free : (count : ℕ) (l : List ℕ) → is_name count l ≡ false → (x r : List ℕ) → count ∷ l ≡ length x ∷ (x ++ r) → IsNameLength (length x) → ⊥
name_free count l f x r e h = let g : true ≡ false = sym (is_named count l (name_there count l r x e h)) ∙ f in cc

name_left : (count : ℕ) (l : List ℕ) (n : ℕ) (t : Bool) → is_name count l ≡ t → taken_if t (count ∷ l) (take count l) (drop count l) ≡ Err n → format.name.Refuses (count ∷ l) n
name_left count l n true f e = absurd cc
name_left count l n false f e = (sym (same_err {A = List ℕ} (length (count ∷ l)) n e), name_free count l f)

name_refuses : (l : List ℕ) (n : ℕ) → reads.name l ≡ Err n → format.name.Refuses l n
name_refuses [] n e = (sym (same_err {A = List ℕ} 0 n e), λ x r f h. absurd cc)
name_refuses (count ∷ l) n e = name_left count l n (is_name count l) refl e

name_fits : (count : ℕ) (l : List ℕ) → is_name count l ≡ true → format.name.Fits (count ∷ l) (drop count l) (take count l)
name_fits count l e = name_cut count l (drop count l) (take count l) true e refl

name_refused : (l : List ℕ) (n : ℕ) → format.name.Refuses l n → reads.name l ≡ Err n
name_refused [] n h = rw (h.0) refl
name_refused (count ∷ l) n h = elim (either_way (is_name count l)) [
  | inl k ↦ let f = name_fits count l k in absurd (h.1 (take count l) (drop count l) f.0 f.1)
  | inr k ↦ rw (k, h.0) refl
]

pub right_name : Right reads.name format.name
right_name = record { sound = name_sound; complete = name_complete; refuses = name_refuses; refused = name_refused }

-- ---- a format and then another

module _ {A B : Type 0} (p : Reader A) (q : A → Reader B) (P : Format A) (Q : A → Format B) (g : Right p P) (h : (a : A) → Right (q a) (Q a)) where
  then_sound : (l r : List ℕ) (b : B) (o : Outcome A) → p l ≡ o → and_then o q ≡ Ok (b, r) → (format.◌>>=◌ P Q).Fits l r b
  then_sound l r b (Ok x) e done = (x.1, x.0, g.sound l x.1 x.0 e, (h x.0).sound x.1 r b done)
  then_sound l r b (Err n) e done = absurd cc

  then_complete : (l r : List ℕ) (b : B) → (format.◌>>=◌ P Q).Fits l r b → and_then (p l) q ≡ Ok (b, r)
  then_complete l r b (m, a, f, k) = rw (g.complete l m a f) ((h a).complete m r b k)

  then_refuses : (l : List ℕ) (n : ℕ) (o : Outcome A) → p l ≡ o → and_then o q ≡ Err n → (format.◌>>=◌ P Q).Refuses l n
  then_refuses l n (Ok x) e done = inr (x.1, x.0, g.sound l x.1 x.0 e, (h x.0).refuses x.1 n done)
  then_refuses l n (Err m) e done = inl (g.refuses l n (e ∙ ap Err (same_err {A = B} m n done)))

  then_refused : (l : List ℕ) (n : ℕ) → (format.◌>>=◌ P Q).Refuses l n → and_then (p l) q ≡ Err n
  then_refused l n (inl f) = rw (g.refused l n f) refl
  then_refused l n (inr (m, a, f, k)) = rw (g.complete l m a f) ((h a).refused m n k)

  pub right_then : Right (reads.◌>>=◌ p q) (format.◌>>=◌ P Q)
  right_then = record {
    sound = λ l r b e. then_sound l r b (p l) refl e;
    complete = then_complete;
    refuses = λ l n e. then_refuses l n (p l) refl e;
    refused = then_refused;
  }

pub right_each : {A : Type 0} (p : List A → Reader A) (P : List A → Format A) → ((found : List A) → Right (p found) (P found)) → (n : ℕ) (found : List A) → Right (reads.each p n found) (format.each P n found)
unfolding reads.each format.each
right_each p P g zero found = right_nothing found
right_each p P g (suc n) found = right_then (p found) (λ x. reads.each p n (found ++ x ∷ [])) (P found) (λ x. format.each P n (found ++ x ∷ [])) (g found) (λ x. right_each p P g n (found ++ x ∷ []))

pub right_times : {A : Type 0} (p : Reader A) (P : Format A) → Right p P → (n : ℕ) (found : List A) → Right (reads.times p n found) (format.times P n found)
right_times p P g n found = right_each (λ _. p) (λ _. P) (λ _. g) n found

-- ---- the byte 0, or another format

module _ {A : Type 0} (p : Reader A) (P : Format A) (g : Right p P) where
  abbrev other : Reader (Option A)
  other = reads.◌>>=◌ p (λ a. reads.nothing (Some a))

  not_zero : (b : ℕ) (l m : List ℕ) → eqb b 0 ≡ false → b ∷ l ≡ 0 ∷ m → ⊥
  not_zero b l m e f = eqb-false b 0 e cc

  is_other : (b : ℕ) (l : List ℕ) → ((m : List ℕ) → b ∷ l ≡ 0 ∷ m → ⊥) → eqb b 0 ≡ false
  is_other b l free = elim (eqb_tells b 0) [ inl h ↦ absurd (free l (rw (h.1) refl)) | inr h ↦ h.0 ]

  right_other : Right other (format.◌>>=◌ P (λ a. format.nothing (Some a)))
  right_other = right_then p (λ a. reads.nothing (Some a)) P (λ a. format.nothing (Some a)) g (λ a. right_nothing (Some a))

  other_sound : (l r : List ℕ) (x : Option A) → other l ≡ Ok (x, r) → (a : A) × P.Fits l r a × (x ≡ Some a)
  other_sound l r x e = let f = right_other.sound l r x e in (f.1, subst (λ t. P.Fits l t f.1) f.3.0 f.2, sym f.3.1)

  zero_sound : (l r : List ℕ) (x : Option A) → reads.or_zero p l ≡ Ok (x, r) → (format.or_zero P).Fits l r x
  zero_sound [] r x e = inr (λ m f. absurd cc, other_sound [] r x e)
  zero_sound (b ∷ l) r x e = by (eqb b 0) refl e
    where
      by : (t : Bool) → eqb b 0 ≡ t → (if t then Ok (None, l) else other (b ∷ l)) ≡ Ok (x, r) → (format.or_zero P).Fits (b ∷ l) r x
      by true f e = let k = read_same None l x r e in inl (rw (eqb-true b 0 f, k.1) refl, sym k.0)
      by false f e = inr (λ m k. not_zero b l m f k, other_sound (b ∷ l) r x e)

  zero_complete : (l r : List ℕ) (x : Option A) → (format.or_zero P).Fits l r x → reads.or_zero p l ≡ Ok (x, r)
  zero_complete l r x (inl (e, f)) = rw (e, f) refl
  zero_complete [] r x (inr (free, (a, f, e))) = rw (g.complete [] r a f, e) refl
  zero_complete (b ∷ l) r x (inr (free, (a, f, e))) = rw (is_other b l free, g.complete (b ∷ l) r a f, e) refl

  none_refused : (l : List ℕ) (n : ℕ) → other l ≡ Err n → P.Refuses l n
  none_refused l n e = elim (right_other.refuses l n e) [ inl h ↦ h | inr h ↦ absurd h.3 ]

  zero_refuses : (l : List ℕ) (n : ℕ) → reads.or_zero p l ≡ Err n → (format.or_zero P).Refuses l n
  zero_refuses [] n e = (λ m f. absurd cc, none_refused [] n e)
  zero_refuses (b ∷ l) n e = by (eqb b 0) refl e
    where
      by : (t : Bool) → eqb b 0 ≡ t → (if t then Ok (None, l) else other (b ∷ l)) ≡ Err n → (format.or_zero P).Refuses (b ∷ l) n
      by true f e = absurd cc
      by false f e = (λ m k. not_zero b l m f k, none_refused (b ∷ l) n e)

  zero_refused : (l : List ℕ) (n : ℕ) → (format.or_zero P).Refuses l n → reads.or_zero p l ≡ Err n
  zero_refused [] n h = rw (g.refused [] n h.1) refl
  zero_refused (b ∷ l) n h = rw (is_other b l h.0, g.refused (b ∷ l) n h.1) refl

  pub right_or_zero : Right (reads.or_zero p) (format.or_zero P)
  right_or_zero = record { sound = zero_sound; complete = zero_complete; refuses = zero_refuses; refused = zero_refused }

-- ---- a test of what a format means

module _ {A : Type 0} (test : A → Bool) (p : Reader A) (P : Format A) (g : Right p P) where
  passed_sound : (l r : List ℕ) (x : A) (o : Outcome A) → p l ≡ o → passed test l o ≡ Ok (x, r) → (format.passing test P).Fits l r x
  passed_sound l r x (Ok y) e done = by (test y.0) refl done
    where
      by : (t : Bool) → test y.0 ≡ t → taken_if t l y.0 y.1 ≡ Ok (x, r) → (format.passing test P).Fits l r x
      by true f done = let k = read_same y.0 y.1 x r done in (g.sound l r x (e ∙ done), ap test (sym k.0) ∙ f)
      by false f done = absurd cc
  passed_sound l r x (Err n) e done = absurd cc

  passed_refuses : (l : List ℕ) (n : ℕ) (o : Outcome A) → p l ≡ o → passed test l o ≡ Err n → (format.passing test P).Refuses l n
  passed_refuses l n (Ok y) e done = by (test y.0) refl done
    where
      by : (t : Bool) → test y.0 ≡ t → taken_if t l y.0 y.1 ≡ Err n → (format.passing test P).Refuses l n
      by true f done = absurd cc
      by false f done = inr (sym (same_err {A = A} (length l) n done), y.1, y.0, g.sound l y.1 y.0 e, f)
  passed_refuses l n (Err m) e done = inl (g.refuses l n (e ∙ done))

  pub right_passing : Right (reads.passing test p) (format.passing test P)
  right_passing = record {
    sound = λ l r x e. passed_sound l r x (p l) refl e;
    complete = λ l r x h. rw (g.complete l r x h.0, h.1) refl;
    refuses = λ l n e. passed_refuses l n (p l) refl e;
    refused = λ l n h. elim h [ inl k ↦ rw (g.refused l n k) refl | inr (e, r, x, fits, f) ↦ rw (g.complete l r x fits, f, e) refl ];
  }

-- ---- the end of all bytes

module _ {A : Type 0} (p : Reader A) (P : Format A) (g : Right p P) where
  whole_sound : (l r : List ℕ) (x : A) (o : Outcome A) → p l ≡ o → and_then o ended ≡ Ok (x, r) → (format.whole P).Fits l r x
  whole_sound l r x (Ok (a, [])) e done = let k = read_same a [] x r done in (g.sound l [] x (e ∙ ap (λ t. ok (t, [])) k.0), sym k.1)
  whole_sound l r x (Ok (a, b ∷ m)) e done = absurd cc
  whole_sound l r x (Err n) e done = absurd cc

  whole_refuses : (l : List ℕ) (n : ℕ) (o : Outcome A) → p l ≡ o → and_then o ended ≡ Err n → (format.whole P).Refuses l n
  whole_refuses l n (Ok (a, [])) e done = absurd cc
  whole_refuses l n (Ok (a, b ∷ m)) e done = inr (b, m, a, g.sound l (b ∷ m) a e, sym (same_err {A = A} (length (b ∷ m)) n done))
  whole_refuses l n (Err m) e done = inl (g.refuses l n (e ∙ done))

  pub right_whole : Right (reads.whole p) (format.whole P)
  right_whole = record {
    sound = λ l r x e. whole_sound l r x (p l) refl e;
    complete = λ l r x h. rw (g.complete l [] x h.0, h.1) refl;
    refuses = λ l n e. whole_refuses l n (p l) refl e;
    refused = λ l n h. elim h [ inl k ↦ rw (g.refused l n k) refl | inr (b, r, x, fits, e) ↦ rw (g.complete l (b ∷ r) x fits, e) refl ];
  }
