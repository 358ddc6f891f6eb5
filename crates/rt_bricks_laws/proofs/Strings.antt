-- Strings that rise, part by part of a grammar.
use Rattle.std.proofs.Common.{◌≡◌, ℕ, zero, suc, ◌+◌, ◌-◌, ◌<◌, ◌≤◌, List, [], ◌∷◌, ◌++◌, length, Option, Some, None, slice_get, inl, inr, sym, ap, ◌∙◌, subst, arith}
use Rattle.std.specs.List.{AllByRecursion}
use Rattle.rt_pieces.specs.declared.item.Item.{Item}
use Rattle.rt_grammar.specs.declared.at.At.{At}
use Rattle.rt_grammar.specs.Parts.{Part, nothing, never, ◌>>=◌, either, optional, Turns, stop, turn, turns, at_most, within, here, text}
use Rattle.rt_grammar.proofs.Tails.{Tail, all, past, Tail-length, Tail-then}
use Rattle.rt_items.specs.Ranges.{InRange, KindInRange}
use Rattle.rt_syntax.specs.Strings.{Texts, Finds, one}
use Rattle.rt_bricks_laws.proofs.Parts.{Counts}
use Rattle.rt_bricks_laws.specs.Strings.{Rise, IsItemText, IsShortText, AreSome, none, taken, left, SomeRise, SomeAreShort}

-- ---- strings that rise

rise_through : (low high : ℕ) (ts : Texts) → Rise low high ts → low ≤ high
rise_through low high [] h = h
rise_through low high (t ∷ ts) h = let a = h.0 in let b = h.1 in omega arith

pub wider : (low high more : ℕ) (ts : Texts) → high ≤ more → Rise low high ts → Rise low more ts
wider low high more [] le h = omega arith
wider low high more (t ∷ ts) le h = let b = h.1 in (h.0, omega arith, wider (t.0 + 1) high more ts le h.2)

pub one_more : (low high : ℕ) (ts : Texts) (bytes : List ℕ) → Rise low high ts → Rise low (high + 1) (one high bytes ts)
one_more low high [] bytes h = (h, omega arith, omega arith)
one_more low high (t ∷ ts) bytes h = let b = h.1 in (h.0, omega arith, one_more (t.0 + 1) high ts bytes h.2)

lower : (low less high : ℕ) (ts : Texts) → less ≤ low → Rise low high ts → Rise less high ts
lower low less high [] le h = omega arith
lower low less high (t ∷ ts) le h = let a = h.0 in (omega arith, h.1, h.2)

some_rise : {xs ys : Texts} (low high : ℕ) → AreSome xs ys → Rise low high ys → Rise low high xs
some_rise low high none h = h
some_rise low high (taken {t = t} more) h = (h.0, h.1, some_rise (t.0 + 1) high more h.2)
some_rise low high (left {t = t} more) h = some_rise low high more (let a = h.0 in lower (t.0 + 1) low high _ (omega arith) h.2)

pub some_strings_rise : SomeRise
some_strings_rise low high xs ys h rise = some_rise low high h rise

-- ---- strings of items

-- what begins at a tail of a list stands there in the list
tail_get : {items : List Item} {i : Item} {r : List Item} → Tail items (i ∷ r) → slice_get items (length items - length (i ∷ r)) ≡ Some i
tail_get {i = i} {r = r} all = ap (λ (k : ℕ). slice_get (i ∷ r) k) (let e : length (i ∷ r) - length (i ∷ r) ≡ 0 = omega arith in e)
tail_get {i = i} {r = r} (past {i = j} {l = l} t) =
    let e : length (j ∷ l) - length (i ∷ r) ≡ suc (length l - length (i ∷ r)) = omega (arith, Tail-length t) in
    ap (λ (k : ℕ). slice_get (j ∷ l) k) e ∙ tail_get t

all_and_one : {A : Type 0} (P : A → Type 0) (xs : List A) (x : A) → AllByRecursion P xs → P x → AllByRecursion P (xs ++ x ∷ [])
all_and_one P [] x h k = (k, tt)
all_and_one P (y ∷ ys) x h k = (h.0, all_and_one P ys x h.1 k)

some_are_short : {xs ys : Texts} → AreSome xs ys → AllByRecursion IsShortText ys → AllByRecursion IsShortText xs
some_are_short none h = tt
some_are_short (taken more) h = (h.0, some_are_short more h.1)
some_are_short (left more) h = some_are_short more h.1

pub some_strings_are_short : SomeAreShort
some_strings_are_short xs ys h short = some_are_short h short

held_at : {A : Type 0} (P : A → Type 0) (xs : List A) (k : ℕ) (x : A) → AllByRecursion P xs → slice_get xs k ≡ Some x → P x
held_at P [] k x h e = absurd cc
held_at P (y ∷ ys) zero x h e = let same : y ≡ x = cc in subst P same h.0
held_at P (y ∷ ys) (suc k) x h e = held_at P ys k x h.1 e

-- those of items that are in range are short
pub short_texts : (items : List Item) (ts : Texts) → AllByRecursion InRange items → AllByRecursion (IsItemText items) ts → AllByRecursion IsShortText ts
short_texts items [] range h = tt
short_texts items (t ∷ ts) range h = (subst KindInRange h.0.is (held_at InRange items t.0 h.0.item range h.0.there), short_texts items ts range h.1)

-- ---- parts

-- In a list of so many items: where the strings that were found rise up to the part, they rise with those of the part up to its
-- end; and where they are those of items, so are those of the part.
pub record Strung {A : Type 0} (total : ℕ) (p : Part A) (found : Texts) (t : A → Texts) : Type 0 where
  pub tails : (l r : List Item) (a : A) → p.Fits l r a → Tail l r
  pub strung : (l r : List Item) (a : A) → length l ≤ total → p.Fits l r a → Rise 0 (total - length l) found → Rise 0 (total - length r) (t a)
  pub theirs : (items : List Item) → length items ≡ total → (l r : List Item) (a : A) → Tail items l → p.Fits l r a → AllByRecursion (IsItemText items) found → AllByRecursion (IsItemText items) (t a)

pub it : {A : Type 0} {total : ℕ} {a : A} {found : Texts} {t : A → Texts} → t a ≡ found → Strung total (nothing a) found t
it {total = total} {found = found} {t = t} e = record {
  tails = λ l r x (same, is). subst (Tail l) same all;
  strung = λ l r x within (same, is) rise. let h = ap length same in subst (Rise 0 (total - length r)) (sym e ∙ sym (ap t is)) (wider 0 (total - length l) (total - length r) found (omega arith) rise);
  theirs = λ items n l r x from (same, is) h. subst (AllByRecursion (IsItemText items)) (sym e ∙ sym (ap t is)) h;
}

pub not : {A : Type 0} {total : ℕ} {found : Texts} {t : A → Texts} → Strung total never found t
not = record { tails = λ l r x fits. absurd fits; strung = λ l r x within fits. absurd fits; theirs = λ items n l r x from fits. absurd fits }

pub thn : {A B : Type 0} {total : ℕ} {p : Part A} {q : A → Part B} {found : Texts} {f : A → Texts} {g : B → Texts}
    → Strung total p found f → ((a : A) → Strung total (q a) (f a) g) → Strung total (p >>= q) found g
thn h k = record {
  tails = λ l r b (m, a, fits, rest). Tail-then (h.tails l m a fits) ((k a).tails m r b rest);
  strung = λ l r b within (m, a, fits, rest) rise. let x = Tail-length (h.tails l m a fits) in (k a).strung m r b (omega arith) rest (h.strung l m a within fits rise);
  theirs = λ items n l r b from (m, a, fits, rest) known. (k a).theirs items n m r b (Tail-then from (h.tails l m a fits)) rest (h.theirs items n l m a from fits known);
}

-- a part without strings
pub plain : {A : Type 0} {total : ℕ} {p : Part A} {f : A → ℕ} {found : Texts} → Counts 0 p f → Strung total p found (λ _. found)
plain {total = total} {found = found} h = record {
  tails = h.tails;
  strung = λ l r a within fits rise. let x = Tail-length (h.tails l r a fits) in wider 0 (total - length l) (total - length r) found (omega arith) rise;
  theirs = λ items n l r a from fits known. known;
}

-- and what stands behind it
pub behind : {A B : Type 0} {total : ℕ} {p : Part A} {q : A → Part B} {f : A → ℕ} {found : Texts} {g : B → Texts} → Counts 0 p f → ((a : A) → Strung total (q a) found g) → Strung total (p >>= q) found g
behind h k = thn (plain h) k

pub so : {A : Type 0} {total : ℕ} {p : Part A} {found : Texts} {f g : A → Texts} → Strung total p found f → ((a : A) → g a ≡ f a) → Strung total p found g
so {total = total} h e = record {
  tails = h.tails;
  strung = λ l r a within fits rise. subst (Rise 0 (total - length r)) (sym (e a)) (h.strung l r a within fits rise);
  theirs = λ items n l r a from fits known. subst (AllByRecursion (IsItemText items)) (sym (e a)) (h.theirs items n l r a from fits known);
}

pub or_else : {A : Type 0} {total : ℕ} {p q : Part A} {found : Texts} {t : A → Texts} → Strung total p found t → Strung total q found t → Strung total (either p q) found t
or_else h k = record {
  tails = λ l r a. elim [ inl x ↦ h.tails l r a x | inr x ↦ k.tails l r a x ];
  strung = λ l r a within. elim [ inl x ↦ h.strung l r a within x | inr x ↦ k.strung l r a within x ];
  theirs = λ items n l r a from. elim [ inl x ↦ h.theirs items n l r a from x | inr x ↦ k.theirs items n l r a from x ];
}

pub maybe : {A : Type 0} {total : ℕ} {p : Part A} {found : Texts} {f : A → Texts} {g : Option A → Texts} → Strung total p found f → ((a : A) → g (Some a) ≡ f a) → g None ≡ found → Strung total (optional p) found g
maybe h one other = or_else (thn h (λ a. it (one a))) (it other)

module _ {A B : Type 0} (total : ℕ) (step : A → B → A) (p : Part B) (f : A → Texts) (g : B → Finds) (h : (found : Texts) → Strung total p found (λ b. g b found)) (adds : (a : A) (b : B) → f (step a b) ≡ g b (f a)) where
  turned_tails : {a c : A} {l r : List Item} → Turns step p a l r c → Tail l r
  turned_tails stop = all
  turned_tails (turn {b = b} {l = l} {m = m} fits more) = Tail-then ((h []).tails l m b fits) (turned_tails more)

  turned_rise : {a c : A} {l r : List Item} → length l ≤ total → Turns step p a l r c → Rise 0 (total - length l) (f a) → Rise 0 (total - length r) (f c)
  turned_rise within stop rise = rise
  turned_rise within (turn {a = a} {b = b} {l = l} {m = m} fits more) rise =
      let x = Tail-length ((h (f a)).tails l m b fits) in
      turned_rise (omega arith) more (subst (Rise 0 (total - length m)) (sym (adds a b)) ((h (f a)).strung l m b within fits rise))

  turned_theirs : {a c : A} {l r : List Item} (items : List Item) → length items ≡ total → Tail items l → Turns step p a l r c → AllByRecursion (IsItemText items) (f a) → AllByRecursion (IsItemText items) (f c)
  turned_theirs items n from stop known = known
  turned_theirs items n from (turn {a = a} {b = b} {l = l} {m = m} fits more) known =
      turned_theirs items n (Tail-then from ((h (f a)).tails l m b fits)) more (subst (AllByRecursion (IsItemText items)) (sym (adds a b)) ((h (f a)).theirs items n l m b from fits known))

  pub turned : {a : A} {found : Texts} → f a ≡ found → Strung total (turns step a p) found f
  turned e = record {
    tails = λ l r c fits. turned_tails fits;
    strung = λ l r c within fits rise. turned_rise within fits (subst (Rise 0 (total - length l)) (sym e) rise);
    theirs = λ items n l r c from fits known. turned_theirs items n from fits (subst (AllByRecursion (IsItemText items)) (sym e) known);
  }

pub limited : {A : Type 0} {total : ℕ} {p : Part A} {found : Texts} {t : A → Texts} (k : ℕ) → Strung total p found t → Strung total (at_most k p) found t
limited k h = record {
  tails = λ l r a fits. h.tails l r a fits.0;
  strung = λ l r a within fits rise. h.strung l r a within fits.0 rise;
  theirs = λ items n l r a from fits known. h.theirs items n l r a from fits.0 known;
}

-- a string, which stands where the part begins
pub a_string : {A : Type 0} {total : ℕ} {found : Texts} (make : List ℕ → At → A) (t : A → Texts) → total < 65536 → ((bytes : List ℕ) (at : At) → t (make bytes at) ≡ one at.item bytes found)
    → Strung total (here total >>= λ at. text >>= λ bytes. nothing (make bytes at)) found t
a_string {total = total} {found = found} make t few tells = record {
  tails = λ l r x (m, at, (same, is), (n, bytes, (i, e, k), (ends, made))). subst (λ (y : List Item). Tail y r) (sym (same ∙ e)) (subst (λ (y : List Item). Tail (i ∷ n) y) ends (past all));
  strung = λ l r x within (m, at, (same, is), (n, bytes, (i, e, k), (ends, made))) rise.
      let a = ap length same in
      let b = ap length e in
      let c = ap length ends in
      let place : at.item ≡ total - length l = ap (λ (y : At). y.item) is ∙ omega arith in
      let last : total - length l + 1 ≡ total - length r = omega arith in
      let more : Rise 0 (total - length l + 1) (one (total - length l) bytes found) = one_more 0 (total - length l) found bytes rise in
      let here_it_is : one (total - length l) bytes found ≡ t x = ap (λ (y : ℕ). one y bytes found) (sym place) ∙ sym (tells bytes at) ∙ sym (ap t made) in
      subst (Rise 0 (total - length r)) here_it_is (subst (λ (y : ℕ). Rise 0 y (one (total - length l) bytes found)) last more);
  theirs = λ items size l r x from (m, at, (same, is), (n, bytes, (i, e, k), (ends, made))) known.
      let a = ap length (same ∙ e) in
      let place : at.item ≡ length items - length (i ∷ n) = ap (λ (y : At). y.item) is ∙ omega (arith, size) in
      let there : slice_get items at.item ≡ Some i = ap (λ (y : ℕ). slice_get items y) place ∙ tail_get (subst (Tail items) (same ∙ e) from) in
      let text_is : IsItemText items (at.item, bytes) = record { item = i; there = there; is = k } in
      subst (AllByRecursion (IsItemText items)) (sym (tells bytes at) ∙ sym (ap t made)) (all_and_one (IsItemText items) found (at.item, bytes) known text_is);
}
