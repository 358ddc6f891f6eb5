-- What fits a field, or many of one format, is its spelling, and the other way round.
use Rattle.std.proofs.Common.{◌≡◌, ℕ, zero, suc, ◌+◌, ◌*◌, ◌/◌, ◌%◌, ◌^◌, ◌<◌, Bool, true, false, if◌then◌else◌, List, [], ◌∷◌, ◌++◌, length, Option, Some, None, get_or, Fits, w8, w16, refl, sym, ap, subst, ◌∙◌, arith, append_assoc}
use Rattle.std.specs.List.{AllByRecursion}
use Rattle.std.proofs.lemmas.List.{append-nil}
use Rattle.rt_words.specs.Bytes.{word_bytes}
use Rattle.rt_words.specs.Named.{IsNameLength}
use Rattle.rt_words.specs.Format.{Format, byte, word, block, name, where_true, any, each, times}
use Rattle.rt_words.specs.Spelling.{spell_all, name_bytes}

abbrev pub AreBytes : List ℕ → Type 0
AreBytes = AllByRecursion (λ b. b < 256)

pub bytes_after : (xs ys : List ℕ) → AreBytes (xs ++ ys) → AreBytes ys
bytes_after [] ys h = h
bytes_after (x ∷ xs) ys h = bytes_after xs ys h.1

pub bytes_before : (xs ys : List ℕ) → AreBytes (xs ++ ys) → AreBytes xs
bytes_before [] ys h = tt
bytes_before (x ∷ xs) ys h = (h.0, bytes_before xs ys h.1)

pub bytes_left : (l xs ys : List ℕ) → l ≡ xs ++ ys → AreBytes l → AreBytes ys
bytes_left l xs ys e h = bytes_after xs ys (subst AreBytes e h)

pub bytes_append : (xs ys : List ℕ) → AreBytes xs → AreBytes ys → AreBytes (xs ++ ys)
bytes_append [] ys h k = k
bytes_append (x ∷ xs) ys h k = (h.0, bytes_append xs ys h.1 k)

pub fit_bytes : (l : List ℕ) → ((i : ℕ) → Fits w8 (get_or l i 0)) → AreBytes l
fit_bytes [] h = tt
fit_bytes (x ∷ l) h = let f = h 0 in (omega arith, fit_bytes l (λ i. h (suc i)))

pub fit_words : (l : List ℕ) → ((i : ℕ) → Fits w16 (get_or l i 0)) → AllByRecursion (λ w. w < 2 ^ 16) l
fit_words [] h = tt
fit_words (x ∷ l) h = let f = h 0 in (omega arith, fit_words l (λ i. h (suc i)))

pub word_are_bytes : (w : ℕ) → w < 2 ^ 16 → AreBytes (word_bytes w)
word_are_bytes w h = (omega arith, (omega arith, tt))

pub all_are_bytes : {A : Type 0} (spell : A → List ℕ) (S : A → Type 0) → ((x : A) → S x → AreBytes (spell x)) → (xs : List A) → AllByRecursion S xs → AreBytes (spell_all spell xs)
all_are_bytes spell S g [] h = tt
all_are_bytes spell S g (x ∷ xs) h = bytes_append (spell x) (spell_all spell xs) (g x h.0) (all_are_bytes spell S g xs h.1)

-- a number that passes a test
pub true_is : (test : ℕ → Bool) (n x : ℕ) → where_true test n ≡ Some x → (n ≡ x) × (test x ≡ true)
true_is test n x e = by (test n) refl e
  where
    by : (b : Bool) → test n ≡ b → (if b then Some n else None) ≡ Some x → (n ≡ x) × (test x ≡ true)
    by true f e = let g : n ≡ x = cc in (g, rw (sym g) f)
    by false f e = absurd cc

pub true_back : (test : ℕ → Bool) (x : ℕ) → test x ≡ true → where_true test x ≡ Some x
true_back test x e = rw e refl

-- ---- words

pub record IsWordThere (l r : List ℕ) (x : ℕ) : Type 0 where
  pub spelled : l ≡ word_bytes x ++ r
  pub small : x < 2 ^ 16

word_is : (l r : List ℕ) (low high x : ℕ) → AreBytes l → l ≡ low ∷ (high ∷ r) → low + 256 * high ≡ x → IsWordThere l r x
word_is l r low high x h e f =
    let bytes : AreBytes (low ∷ (high ∷ r)) = subst AreBytes e h in
    let small : low < 256 = bytes.0 in
    let great : high < 256 = bytes.1.0 in
    let one : low ≡ x % 256 = omega arith in
    let two : high ≡ x / 256 = omega arith in
    record { spelled = e ∙ rw (one, two) refl; small = omega arith }

-- a table of words at which each word that means something stands for itself
pub word_there : (of : ℕ → Option ℕ) → ((n x : ℕ) → of n ≡ Some x → n ≡ x) → (l r : List ℕ) (x : ℕ) → AreBytes l → (word of).Fits l r x → IsWordThere l r x × (of x ≡ Some x)
word_there of is l r x h (low, high, e, f) = let g = is (low + 256 * high) x f in (word_is l r low high x h e g, subst (λ t. of t ≡ Some x) g f)

pub word_back : (of : ℕ → Option ℕ) (r : List ℕ) (x : ℕ) → of x ≡ Some x → (word of).Fits (word_bytes x ++ r) r x
word_back of r x e = let f : x % 256 + 256 * (x / 256) ≡ x = omega arith in (x % 256, x / 256, refl, rw f e)

-- a word that passes a test
pub test_there : (test : ℕ → Bool) (l r : List ℕ) (x : ℕ) → AreBytes l → (word (where_true test)).Fits l r x → (test x ≡ true) × (l ≡ word_bytes x ++ r)
test_there test l r x h (low, high, e, f) = let g = true_is test (low + 256 * high) x f in (g.1, (word_is l r low high x h e g.0).spelled)

pub test_back : (test : ℕ → Bool) (r : List ℕ) (x : ℕ) → test x ≡ true → (word (where_true test)).Fits (word_bytes x ++ r) r x
test_back test r x e = word_back (where_true test) r x (true_back test x e)

pub any_is : (n x : ℕ) → any n ≡ Some x → n ≡ x
any_is n x e = cc

-- ---- formats of which what fits is a spelling

-- What fits is what spell spells, and stands; and what stands fits where it is spelled.
pub record IsSpelled {A : Type 0} (P : Format A) (spell : A → List ℕ) (Stands : A → Type 0) : Type 0 where
  pub there : (l r : List ℕ) (x : A) → AreBytes l → P.Fits l r x → (l ≡ spell x ++ r) × Stands x
  pub back : (r : List ℕ) (x : A) → Stands x → P.Fits (spell x ++ r) r x

pub spelled_word : (of : ℕ → Option ℕ) → ((n x : ℕ) → of n ≡ Some x → n ≡ x) → IsSpelled (word of) word_bytes (λ x. (x < 2 ^ 16) × (of x ≡ Some x))
spelled_word of is = record {
  there = λ l r x h f. let w = word_there of is l r x h f in (w.0.spelled, (w.0.small, w.1));
  back = λ r x h. word_back of r x h.1;
}

pub spelled_byte : (of : ℕ → Option ℕ) → ((n x : ℕ) → of n ≡ Some x → n ≡ x) → IsSpelled (byte of) (λ x. x ∷ []) (λ x. (x < 2 ^ 8) × (of x ≡ Some x))
spelled_byte of is = record {
  there = λ l r x h (b, e, f). let g = is b x f in let small : b < 256 = (subst AreBytes e h).0 in (e ∙ rw g refl, (omega arith, subst (λ t. of t ≡ Some x) g f));
  back = λ r x h. (x, refl, h.1);
}

pub spelled_block : (count : ℕ) → IsSpelled (block count) (λ x. x) (λ x. (length x ≡ count) × AreBytes x)
spelled_block count = record {
  there = λ l r x h (e, f). (e, (f, bytes_before x r (subst AreBytes e h)));
  back = λ r x h. (refl, h.0);
}

pub spelled_name : IsSpelled name name_bytes (λ x. IsNameLength (length x) × AreBytes x)
spelled_name = record {
  there = λ l r x h (e, f). (e, (f, bytes_before x r (subst AreBytes e h).1));
  back = λ r x h. (refl, h.0);
}

-- ---- many of one format

-- a list whose elements stand, each behind those before it
abbrev pub AllStand : {A : Type 0} → (List A → A → Type 0) → List A → List A → Type 0
AllStand Stands found [] = Unit {0}
AllStand Stands found (x ∷ more) = Stands found x × AllStand Stands (found ++ x ∷ []) more

pub record Each {A : Type 0} (spell : A → List ℕ) (Stands : List A → A → Type 0) (n : ℕ) (found : List A) (l r : List ℕ) (all : List A) : Type 0 where
  pub more : List A
  pub whole : all ≡ found ++ more
  pub count : length more ≡ n
  pub spelled : l ≡ spell_all spell more ++ r
  pub stand : AllStand Stands found more

module _ {A : Type 0} (P : List A → Format A) (spell : A → List ℕ) (Stands : List A → A → Type 0) (g : (found : List A) → IsSpelled (P found) spell (Stands found)) where
  pub each_there : (n : ℕ) (found : List A) (l r : List ℕ) (all : List A) → AreBytes l → (each P n found).Fits l r all → Each spell Stands n found l r all
  unfolding each
  each_there zero found l r all h (e, f) = record { more = []; whole = sym f ∙ sym (append-nil found); count = refl; spelled = e; stand = tt }
  each_there (suc n) found l r all h (m, x, fits, rest) =
      let one = (g found).there l m x h fits in
      let t = each_there n (found ++ x ∷ []) m r all (bytes_left l (spell x) m one.0 h) rest in
      record {
        more = x ∷ t.more;
        whole = t.whole ∙ append_assoc found (x ∷ []) t.more;
        count = ap suc t.count;
        spelled = one.0 ∙ ap (λ rest. spell x ++ rest) t.spelled ∙ sym (append_assoc (spell x) (spell_all spell t.more) r);
        stand = (one.1, t.stand);
      }

  pub each_back : (more found : List A) (r : List ℕ) → AllStand Stands found more → (each P (length more) found).Fits (spell_all spell more ++ r) r (found ++ more)
  unfolding each
  each_back [] found r h = (refl, sym (append-nil found))
  each_back (x ∷ more) found r h = (
    spell_all spell more ++ r,
    x,
    rw (append_assoc (spell x)) ((g found).back (spell_all spell more ++ r) x h.0),
    rw (sym (append_assoc found (x ∷ []) more)) (each_back more (found ++ x ∷ []) r h.1),
  )

-- the same format so many times: each element stands by itself
pub all_stand : {A : Type 0} (S : A → Type 0) (found more : List A) → AllStand (λ _. S) found more → AllByRecursion S more
all_stand S found [] h = tt
all_stand S found (x ∷ more) h = (h.0, all_stand S (found ++ x ∷ []) more h.1)

pub stand_all : {A : Type 0} (S : A → Type 0) (found more : List A) → AllByRecursion S more → AllStand (λ _. S) found more
stand_all S found [] h = tt
stand_all S found (x ∷ more) h = (h.0, stand_all S (found ++ x ∷ []) more h.1)

-- all of a list, from nothing found
pub spelled_times : {A : Type 0} (P : Format A) (spell : A → List ℕ) (S : A → Type 0) → IsSpelled P spell S → (n : ℕ) → IsSpelled (times P n []) (spell_all spell) (λ xs. (length xs ≡ n) × AllByRecursion S xs)
spelled_times P spell S g n = record {
  there = λ l r xs h f.
      let t = each_there (λ _. P) spell (λ _. S) (λ _. g) n [] l r xs h f in
      let same : t.more ≡ xs = sym t.whole in
      (subst (λ m. l ≡ spell_all spell m ++ r) same t.spelled, (subst (λ m. length m ≡ n) same t.count, subst (AllByRecursion S) same (all_stand S [] t.more t.stand)));
  back = λ r xs (e, h). subst (λ k. (times P k []).Fits (spell_all spell xs ++ r) r xs) e (each_back (λ _. P) spell (λ _. S) (λ _. g) xs [] r (stand_all S [] xs h));
}
