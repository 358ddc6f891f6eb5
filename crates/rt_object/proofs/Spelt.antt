-- Formats of which what fits is a spelling in bytes, made of others.
use Rattle.std.proofs.Common.{◌≡◌, ℕ, ◌%◌, ◌^◌, ◌<◌, ◌≤◌, Bool, true, false, leb, ltb, ◌&&◌, List, [], ◌∷◌, ◌++◌, length, Option, Some, refl, sym, ap, subst, ◌∙◌, arith, append_assoc}
use Rattle.std.specs.List.{AllByRecursion}
use Rattle.std.proofs.lemmas.Bool.{leb-true, le-leb, ltb-true, lt-ltb}
use Rattle.rt_words.specs.Bytes.{word_bytes}
use Rattle.rt_words.specs.Format.{Format, nothing, byte, word, block, tag, name, where_true, any, within, ◌>>=◌, each, times, passing}
use Rattle.rt_words.specs.Spelling.{spell_all, words_bytes, name_bytes}
use Rattle.rt_words.proofs.Spelled.{AreBytes, bytes_left, bytes_append, word_are_bytes, all_are_bytes, IsSpelled, spelled_word, spelled_byte, spelled_name, spelled_block, spelled_times, any_is, AllStand, each_there, each_back, all_stand, stand_all, true_is, true_back}
use Rattle.rt_object.specs.Ranges.{IsWord, IsName}
use Rattle.rt_object.specs.Grammar.{below}
use Rattle.rt_object.specs.Spelling.{count_spelling, counted_spelling}

-- what fits is a spelling, and that is bytes
pub record Spelt {A : Type 0} (P : Format A) (spell : A → List ℕ) (Stands : A → Type 0) : Type 0 where
  pub spelled : IsSpelled P spell Stands
  pub bytes : (x : A) → Stands x → AreBytes (spell x)

-- ---- one field

pub spelt_word : (of : ℕ → Option ℕ) → ((n x : ℕ) → of n ≡ Some x → n ≡ x) → Spelt (word of) word_bytes (λ x. (x < 2 ^ 16) × (of x ≡ Some x))
spelt_word of is = record { spelled = spelled_word of is; bytes = λ x h. word_are_bytes x h.0 }

pub spelt_name : Spelt name name_bytes IsName
spelt_name = record {
  spelled = record {
    there = λ l r x h f. let k = spelled_name.there l r x h f in (k.0, record { size = k.1.0; each_letter = k.1.1 });
    back = λ r x h. spelled_name.back r x (h.size, h.each_letter);
  };
  bytes = λ x h. let short = h.size.1 in (omega arith, h.each_letter);
}

pub spelt_block : (count : ℕ) → Spelt (block count) (λ x. x) (λ x. (length x ≡ count) × AreBytes x)
spelt_block count = record { spelled = spelled_block count; bytes = λ x h. h.1 }

-- what stands can be said otherwise, and so can the spelling
pub spelt_same : {A : Type 0} (P : Format A) (s t : A → List ℕ) (K L : A → Type 0) → Spelt P s K → ((x : A) → K x → s x ≡ t x) → ((x : A) → K x → L x) → ((x : A) → L x → K x) → Spelt P t L
spelt_same P s t K L g same to from = record {
  spelled = record {
    there = λ l r x h f. let k = g.spelled.there l r x h f in (k.0 ∙ ap (λ z. z ++ r) (same x k.1), to x k.1);
    back = λ r x h. subst (λ z. P.Fits (z ++ r) r x) (same x (from x h)) (g.spelled.back r x (from x h));
  };
  bytes = λ x h. subst AreBytes (same x (from x h)) (g.bytes x (from x h));
}

pub spelt_passing : {A : Type 0} (test : A → Bool) (P : Format A) (s : A → List ℕ) (K : A → Type 0) → Spelt P s K → Spelt (passing test P) s (λ x. K x × (test x ≡ true))
spelt_passing test P s K g = record {
  spelled = record { there = λ l r x h f. let k = g.spelled.there l r x h f.0 in (k.0, (k.1, f.1)); back = λ r x h. (g.spelled.back r x h.0, h.1) };
  bytes = λ x h. g.bytes x h.0;
}

-- ---- words in a range

pub both_true : (a b : Bool) → (a && b) ≡ true → (a ≡ true) × (b ≡ true)
both_true true b e = (refl, e)
both_true false b e = absurd cc

pub spelt_any : Spelt (word any) word_bytes IsWord
spelt_any = spelt_same (word any) word_bytes word_bytes (λ x. (x < 2 ^ 16) × (any x ≡ Some x)) IsWord (spelt_word any any_is) (λ x h. refl) (λ x h. h.0) (λ x h. (h, refl))

abbrev in_range : ℕ → ℕ → ℕ → Bool
in_range least most n = leb least n && leb n most

within_same : (least most n x : ℕ) → within least most n ≡ Some x → n ≡ x
within_same least most n x e = (true_is (in_range least most) n x e).0

within_is : (least most x : ℕ) → within least most x ≡ Some x → (least ≤ x) × (x ≤ most)
within_is least most x e = let b = both_true (leb least x) (leb x most) (true_is (in_range least most) x x e).1 in (leb-true least x b.0, leb-true x most b.1)

within_back : (least most x : ℕ) → least ≤ x → x ≤ most → within least most x ≡ Some x
within_back least most x h k = true_back (in_range least most) x (rw (le-leb least x h, le-leb x most k) refl)

pub spelt_within : (least most : ℕ) → most < 2 ^ 16 → Spelt (word (within least most)) word_bytes (λ x. (least ≤ x) × (x ≤ most))
spelt_within least most small = spelt_same (word (within least most)) word_bytes word_bytes (λ x. (x < 2 ^ 16) × (within least most x ≡ Some x)) (λ x. (least ≤ x) × (x ≤ most))
    (spelt_word (within least most) (within_same least most)) (λ x h. refl) (λ x h. within_is least most x h.1) (λ x h. let m = h.1 in (omega arith, within_back least most x h.0 h.1))

pub spelt_below : (count : ℕ) → count ≤ 2 ^ 16 → Spelt (word (below count)) word_bytes (λ k. k < count)
spelt_below count small = spelt_same (word (below count)) word_bytes word_bytes (λ x. (x < 2 ^ 16) × (below count x ≡ Some x)) (λ k. k < count)
    (spelt_word (below count) (λ n x e. (true_is (λ k. ltb k count) n x e).0)) (λ x h. refl) (λ x h. ltb-true x count (true_is (λ k. ltb k count) x x h.1).1)
    (λ x h. (omega arith, true_back (λ k. ltb k count) x (lt-ltb x count h)))

-- a word that passes a test
pub spelt_test : (test : ℕ → Bool) → Spelt (word (where_true test)) word_bytes (λ x. (x < 2 ^ 16) × (test x ≡ true))
spelt_test test = spelt_same (word (where_true test)) word_bytes word_bytes (λ x. (x < 2 ^ 16) × (where_true test x ≡ Some x)) (λ x. (x < 2 ^ 16) × (test x ≡ true))
    (spelt_word (where_true test) (λ n x e. (true_is test n x e).0)) (λ x h. refl) (λ x h. (h.0, (true_is test x x h.1).1)) (λ x h. (h.0, true_back test x h.1))

-- a byte that stands for one of a few
pub spelt_code : {A : Type 0} (of : ℕ → Option A) (code : A → ℕ) → ((b : ℕ) (a : A) → of b ≡ Some a → b ≡ code a) → ((a : A) → code a < 256) → Spelt (byte of) (λ a. code a ∷ []) (λ a. of (code a) ≡ Some a)
spelt_code of code is small = record {
  spelled = record { there = λ l r a h (b, e, f). let same = is b a f in (e ∙ ap (λ c. c ∷ r) same, subst (λ c. of c ≡ Some a) same f); back = λ r a h. (code a, refl, h) };
  bytes = λ a h. (small a, tt);
}

-- no bytes at all
pub spelt_nothing : {A : Type 0} (a : A) → Spelt (nothing a) (λ b. []) (λ b. a ≡ b)
spelt_nothing a = record { spelled = record { there = λ l r x h f. (f.0, f.1); back = λ r x h. (refl, h) }; bytes = λ x h. tt }

-- these bytes
pub spelt_tag : (bytes : List ℕ) → AreBytes bytes → Spelt (tag bytes) (λ u. bytes) (λ u. Unit {0})
spelt_tag bytes h = record { spelled = record { there = λ l r x k f. (f, tt); back = λ r x k. refl }; bytes = λ x k. h }

-- ---- one format behind another

module _ {A B : Type 0} (P : Format A) (s : A → List ℕ) (K : A → Type 0) (g : Spelt P s K) where
  -- the first of a value of two parts
  module _ (Q : A → Format B) (t : B → List ℕ) (L : A → B → Type 0) (first : B → A) (q : (a : A) → K a → Spelt (Q a) t (L a)) (is : (a : A) (b : B) → L a b → a ≡ first b) where
    then_there : (l r : List ℕ) (b : B) → AreBytes l → (P >>= Q).Fits l r b → (l ≡ (s (first b) ++ t b) ++ r) × (K (first b) × L (first b) b)
    then_there l r b h (m, a, f, k) =
        let x = g.spelled.there l m a h f in
        let y = (q a x.1).spelled.there m r b (bytes_left l (s a) m x.0 h) k in
        let e = is a b y.1 in
        let whole : l ≡ (s a ++ t b) ++ r = x.0 ∙ ap (λ z. s a ++ z) y.0 ∙ sym (append_assoc (s a) (t b) r) in
        (whole ∙ ap (λ c. (s c ++ t b) ++ r) e, subst (λ c. K c × L c b) e (x.1, y.1))

    then_back : (r : List ℕ) (b : B) → K (first b) × L (first b) b → (P >>= Q).Fits ((s (first b) ++ t b) ++ r) r b
    then_back r b h = (
      t b ++ r,
      first b,
      subst (λ z. P.Fits z (t b ++ r) (first b)) (sym (append_assoc (s (first b)) (t b) r)) (g.spelled.back (t b ++ r) (first b) h.0),
      (q (first b) h.0).spelled.back r b h.1,
    )

    pub spelt_then : Spelt (P >>= Q) (λ b. s (first b) ++ t b) (λ b. K (first b) × L (first b) b)
    spelt_then = record {
      spelled = record { there = then_there; back = then_back };
      bytes = λ b h. bytes_append (s (first b)) (t b) (g.bytes (first b) h.0) ((q (first b) h.0).bytes b h.1);
    }

  -- a value that is made of what the format means
  module _ (f : A → B) (last : B → A) (inverse : (a : A) → last (f a) ≡ a) where
    made_there : (l r : List ℕ) (b : B) → AreBytes l → (P >>= (λ x. nothing (f x))).Fits l r b → (l ≡ s (last b) ++ r) × (K (last b) × (f (last b) ≡ b))
    made_there l r b h (m, a, k, (e, is)) =
        let x = g.spelled.there l m a h k in
        let same : a ≡ last b = sym (inverse a) ∙ ap last is in
        (x.0 ∙ ap (λ z. s a ++ z) e ∙ ap (λ c. s c ++ r) same, (subst K same x.1, ap f (sym same) ∙ is))

    made_back : (r : List ℕ) (b : B) → K (last b) × (f (last b) ≡ b) → (P >>= (λ x. nothing (f x))).Fits (s (last b) ++ r) r b
    made_back r b h = (r, last b, g.spelled.back r (last b) h.0, (refl, h.1))

    pub spelt_made : Spelt (P >>= (λ x. nothing (f x))) (λ b. s (last b)) (λ b. K (last b) × (f (last b) ≡ b))
    spelt_made = record { spelled = record { there = made_there; back = made_back }; bytes = λ b h. g.bytes (last b) h.0 }

-- ---- lists behind their number

pub few_spelled : (n : ℕ) → n < 2 ^ 16 → word_bytes n ≡ count_spelling n
few_spelled n small = let e : n % 65536 ≡ n = omega arith in ap word_bytes (sym e)

stand_bytes : {A : Type 0} (s : A → List ℕ) (S : List A → A → Type 0) → ((before : List A) (x : A) → S before x → AreBytes (s x)) → (before more : List A) → AllStand S before more → AreBytes (spell_all s more)
stand_bytes s S g before [] h = tt
stand_bytes s S g before (x ∷ more) h = bytes_append (s x) (spell_all s more) (g before x h.0) (stand_bytes s S g (before ++ x ∷ []) more h.1)

module _ {A : Type 0} (P : ℕ → List A → Format A) (s : A → List ℕ) (S : ℕ → List A → A → Type 0) (g : (n : ℕ) → n < 2 ^ 16 → (before : List A) → Spelt (P n before) s (S n before)) where
  abbrev Counted : List A → Type 0
  Counted xs = (length xs < 2 ^ 16) × AllStand (S (length xs)) [] xs

  counted_there : (l r : List ℕ) (xs : List A) → AreBytes l → (word any >>= (λ n. each (P n) n [])).Fits l r xs → (l ≡ counted_spelling s xs ++ r) × Counted xs
  counted_there l r xs h (m, n, w, f) =
      let a = spelt_any.spelled.there l m n h w in
      let t = each_there (P n) s (S n) (λ before. (g n a.1 before).spelled) n [] m r xs (bytes_left l (word_bytes n) m a.0 h) f in
      let same : t.more ≡ xs = sym t.whole in
      let size : n ≡ length xs = sym t.count ∙ ap length same in
      let spelled : m ≡ spell_all s xs ++ r = subst (λ z. m ≡ spell_all s z ++ r) same t.spelled in
      let stand : AllStand (S n) [] xs = subst (AllStand (S n) []) same t.stand in
      let small : length xs < 2 ^ 16 = subst (λ k. k < 2 ^ 16) size a.1 in
      let front : word_bytes n ≡ count_spelling (length xs) = ap word_bytes size ∙ few_spelled (length xs) small in
      (a.0 ∙ ap (λ z. word_bytes n ++ z) spelled ∙ ap (λ z. z ++ (spell_all s xs ++ r)) front ∙ sym (append_assoc (count_spelling (length xs)) (spell_all s xs) r), (small, subst (λ k. AllStand (S k) [] xs) size stand))

  counted_back : (r : List ℕ) (xs : List A) → Counted xs → (word any >>= (λ n. each (P n) n [])).Fits (counted_spelling s xs ++ r) r xs
  counted_back r xs h =
      let rest : List ℕ = spell_all s xs ++ r in
      let order : counted_spelling s xs ++ r ≡ word_bytes (length xs) ++ rest = append_assoc (count_spelling (length xs)) (spell_all s xs) r ∙ ap (λ z. z ++ rest) (sym (few_spelled (length xs) h.0)) in (
        rest,
        length xs,
        subst (λ z. (word any).Fits z rest (length xs)) (sym order) (spelt_any.spelled.back rest (length xs) h.0),
        each_back (P (length xs)) s (S (length xs)) (λ before. (g (length xs) h.0 before).spelled) xs [] r h.1,
      )

  pub spelt_counted : Spelt (word any >>= (λ n. each (P n) n [])) (counted_spelling s) (λ xs. (length xs < 2 ^ 16) × AllStand (S (length xs)) [] xs)
  spelt_counted = record {
    spelled = record { there = counted_there; back = counted_back };
    bytes = λ xs h. bytes_append (count_spelling (length xs)) (spell_all s xs) (subst AreBytes (few_spelled (length xs) h.0) (word_are_bytes (length xs) h.0)) (stand_bytes s (S (length xs)) (λ before x k. (g (length xs) h.0 before).bytes x k) [] xs h.1);
  }

-- each stands by itself
module _ {A : Type 0} (P : Format A) (s : A → List ℕ) (S : A → Type 0) (g : Spelt P s S) where
  pub spelt_times : (n : ℕ) → Spelt (times P n []) (spell_all s) (λ xs. (length xs ≡ n) × AllByRecursion S xs)
  spelt_times n = record { spelled = spelled_times P s S g.spelled n; bytes = λ xs h. all_are_bytes s S g.bytes xs h.1 }

  pub spelt_list : Spelt (word any >>= (λ n. times P n [])) (counted_spelling s) (λ xs. (length xs < 2 ^ 16) × AllByRecursion S xs)
  spelt_list = spelt_same (word any >>= (λ n. times P n [])) (counted_spelling s) (counted_spelling s) (λ xs. (length xs < 2 ^ 16) × AllStand (λ _. S) [] xs) (λ xs. (length xs < 2 ^ 16) × AllByRecursion S xs) (spelt_counted (λ _ _. P) s (λ _ _. S) (λ n small before. g))
      (λ xs h. refl) (λ xs h. (h.0, all_stand S [] xs h.1)) (λ xs h. (h.0, stand_all S [] xs h.1))

-- words, and bytes up to a mark
pub weaker : {A : Type 0} (P Q : A → Type 0) → ((x : A) → P x → Q x) → (xs : List A) → AllByRecursion P xs → AllByRecursion Q xs
weaker P Q g [] h = tt
weaker P Q g (x ∷ xs) h = (g x h.0, weaker P Q g xs h.1)

pub spelt_words : (n : ℕ) → Spelt (times (word any) n []) words_bytes (λ xs. (length xs ≡ n) × AllByRecursion IsWord xs)
spelt_words n = spelt_times (word any) word_bytes IsWord spelt_any n

abbrev alone : ℕ → List ℕ
alone x = x ∷ []

singles : (xs : List ℕ) → spell_all alone xs ≡ xs
singles [] = refl
singles (x ∷ xs) = ap (λ t. x ∷ t) (singles xs)

spelt_mark : Spelt (byte (within 0 2)) alone (λ x. x ≤ 2)
spelt_mark = record {
  spelled = record {
    there = λ l r x h f. let k = (spelled_byte (within 0 2) (within_same 0 2)).there l r x h f in (k.0, (within_is 0 2 x k.1.1).1);
    back = λ r x h. (spelled_byte (within 0 2) (within_same 0 2)).back r x (omega arith, within_back 0 2 x (omega arith) h);
  };
  bytes = λ x h. (omega arith, tt);
}

pub spelt_marks : (n : ℕ) → Spelt (times (byte (within 0 2)) n []) (λ xs. xs) (λ xs. (length xs ≡ n) × AllByRecursion (λ x. x ≤ 2) xs)
spelt_marks n = spelt_same (times (byte (within 0 2)) n []) (spell_all alone) (λ xs. xs) (λ xs. (length xs ≡ n) × AllByRecursion (λ x. x ≤ 2) xs) (λ xs. (length xs ≡ n) × AllByRecursion (λ x. x ≤ 2) xs)
    (spelt_times (byte (within 0 2)) alone (λ x. x ≤ 2) spelt_mark n) (λ xs h. singles xs) (λ xs h. h) (λ xs h. h)
