-- Pieces of code, one behind the other, where places and labels are known.
use Rattle.std.proofs.Common.{◌≡◌, ℕ, ◌+◌, List, [], ◌∷◌, ◌++◌, length, refl, sym, ap, ◌∙◌, subst, append_assoc, arith, length-append}
use Rattle.std.proofs.lemmas.List.{append-nil, length-map}
use Rattle.std.proofs.Math.Seq.{set-append_seam}
use Rattle.std.specs.Prelude.{slice_set}
use Rattle.rt_icode.specs.declared.ins.Ins.{Ins}
use Rattle.rt_lower.specs.declared.draft.Draft.{Draft}
use Rattle.rt_lower.specs.declared.draft.Piece.{Piece}
use Rattle.rt_lower.specs.declared.draft.Piece.TheVariants as piece
use Rattle.rt_lower.specs.Code.{Leads}
use Rattle.rt_lower.specs.Drafts.{whole, put, add, opened, here, note, laid, laid_from}

abbrev pub Places : Type 0
Places = ℕ → ℕ

-- the places from number n on
abbrev pub HasFrom : Places → ℕ → List ℕ → Type 0
HasFrom E n [] = Unit {0}
HasFrom E n (p ∷ ps) = (E n ≡ p) × HasFrom E (n + 1) ps

pub has_at : (E : Places) (m n : ℕ) (ps : List ℕ) → m ≡ n → HasFrom E m ps → HasFrom E n ps
has_at E m n ps e h = subst (λ k. HasFrom E k ps) e h

pub has_left : (E : Places) (n : ℕ) (xs ys : List ℕ) → HasFrom E n (xs ++ ys) → HasFrom E n xs
has_left E n [] ys h = tt
has_left E n (x ∷ xs) ys h = (h.0, has_left E (n + 1) xs ys h.1)

pub has_right : (E : Places) (n m : ℕ) (xs ys : List ℕ) → m ≡ n + length xs → HasFrom E n (xs ++ ys) → HasFrom E m ys
has_right E n m [] ys e h = has_at E n m ys (omega arith) h
has_right E n m (x ∷ xs) ys e h = has_right E (n + 1) m xs ys (omega arith) h.1

pub laid_append : (E : Places) (L : Leads) (k m : ℕ) (xs ys : List Piece) → m ≡ k + length xs → laid_from E L k (xs ++ ys) ≡ laid_from E L k xs ++ laid_from E L m ys
laid_append E L k m [] ys e = ap (λ n. laid_from E L n ys) (omega arith)
laid_append E L k m (x ∷ xs) ys e = ap (λ is. laid E L k x ∷ is) (laid_append E L (k + 1) m xs ys (omega arith))

pub laid_whole : (E : Places) (L : Leads) (k : ℕ) (is : List Ins) → laid_from E L k (whole is) ≡ is
laid_whole E L k [] = refl
laid_whole E L k (i ∷ is) = ap (λ js. i ∷ js) (laid_whole E L (k + 1) is)

-- What is written from one draft to another becomes this code, wherever labels lead, where the places that it opened are known, and
-- others are what P says.
pub record Drafts (d e : Draft) (P : Places → Type 0) (is : Leads → List Ins) : Type 0 where
  pub pieces : List Piece
  pub ps : List ℕ
  pub code : e.code ≡ d.code ++ pieces
  pub places : e.places ≡ d.places ++ ps
  pub size : (L : Leads) → length pieces ≡ length (is L)
  pub right : (E : Places) (L : Leads) → HasFrom E (length d.places) ps → P E → laid_from E L (length d.code) pieces ≡ is L

abbrev pub Always : Places → Type 0
Always E = Unit {0}

pub puts : (is : List Ins) (d : Draft) → Drafts d (put is d) Always (λ L. is)
puts is d = record {
  pieces = whole is;
  ps = [];
  code = refl;
  places = sym (append-nil d.places);
  size = λ L. length-map is piece.Whole;
  right = λ E L h p. laid_whole E L (length d.code) is;
}

pub stays : (d : Draft) (P : Places → Type 0) → Drafts d d P (λ L. [])
stays d P = record {
  pieces = [];
  ps = [];
  code = sym (append-nil d.code);
  places = sym (append-nil d.places);
  size = λ L. refl;
  right = λ E L h p. refl;
}

pub adds : (x : Piece) (d : Draft) (P : Places → Type 0) (i : Leads → Ins) → ((E : Places) (L : Leads) → P E → laid E L (length d.code) x ≡ i L) → Drafts d (add (x ∷ []) d) P (λ L. i L ∷ [])
adds x d P i h = record {
  pieces = x ∷ [];
  ps = [];
  code = refl;
  places = sym (append-nil d.places);
  size = λ L. refl;
  right = λ E L g p. ap (λ j. j ∷ []) (h E L p);
}

pub grows : (d e : Draft) (P : Places → Type 0) (is : Leads → List Ins) (L : Leads) → Drafts d e P is → length e.code ≡ length d.code + length (is L)
grows d e P is L a = omega (arith, ap length a.code, length-append d.code a.pieces, a.size L)

pub thens : (d e f : Draft) (P Q R : Places → Type 0) (is js : Leads → List Ins) → Drafts d e P is → Drafts e f Q js → ((E : Places) → R E → P E) → ((E : Places) → R E → Q E) → Drafts d f R (λ L. is L ++ js L)
thens d e f P Q R is js a b p q = record {
  pieces = a.pieces ++ b.pieces;
  ps = a.ps ++ b.ps;
  code = b.code ∙ ap (λ v. v ++ b.pieces) a.code ∙ append_assoc d.code a.pieces b.pieces;
  places = b.places ∙ ap (λ v. v ++ b.ps) a.places ∙ append_assoc d.places a.ps b.ps;
  size = λ L. omega (arith, a.size L, b.size L, length-append a.pieces b.pieces, length-append (is L) (js L));
  right = λ E L h r.
      let far : length e.code ≡ length d.code + length a.pieces = omega (arith, ap length a.code, length-append d.code a.pieces) in
      let more : length e.places ≡ length d.places + length a.ps = omega (arith, ap length a.places, length-append d.places a.ps) in
      laid_append E L (length d.code) (length e.code) a.pieces b.pieces far
      ∙ ap (λ v. v ++ laid_from E L (length e.code) b.pieces) (a.right E L (has_left E (length d.places) a.ps b.ps h) (p E r))
      ∙ ap (λ v. is L ++ v) (b.right E L (has_right E (length d.places) (length e.places) a.ps b.ps more h) (q E r));
}

-- the same code in other words
pub same : (d e : Draft) (P : Places → Type 0) (is js : Leads → List Ins) → ((L : Leads) → is L ≡ js L) → Drafts d e P is → Drafts d e P js
same d e P is js w a = record {
  pieces = a.pieces;
  ps = a.ps;
  code = a.code;
  places = a.places;
  size = λ L. a.size L ∙ ap length (w L);
  right = λ E L h p. a.right E L h p ∙ w L;
}

-- a place that is opened before, and is where the code ends
pub closes : (d e : Draft) (P Q : Places → Type 0) (is : Leads → List Ins) → Drafts (opened d) e P is → ((E : Places) → E (length d.places) ≡ length e.code → Q E → P E) → Drafts d (here (length d.places) e) Q is
closes d e P Q is a p = record {
  pieces = a.pieces;
  ps = length e.code ∷ a.ps;
  code = a.code;
  places = ap (λ v. slice_set v (length d.places) (length e.code)) (a.places ∙ append_assoc d.places (0 ∷ []) a.ps) ∙ set-append_seam d.places 0 a.ps (length e.code);
  size = a.size;
  right = λ E L h q. a.right E L (has_at E (length d.places + 1) (length (d.places ++ 0 ∷ [])) a.ps (omega (arith, length-append d.places (0 ∷ []))) h.1) (p E h.0 q);
}

-- what is noted of labels changes no code
pub noted_before : (k : ℕ) (d e : Draft) (P : Places → Type 0) (is : Leads → List Ins) → Drafts (note k d) e P is → Drafts d e P is
noted_before k d e P is a = record {
  pieces = a.pieces;
  ps = a.ps;
  code = a.code;
  places = a.places;
  size = a.size;
  right = a.right;
}

-- one instruction more is laid
pub laid_more : (E : Places) (L : Leads) (made new : List Ins) (ps : List Piece) (p : Piece) (i : Ins) (k : ℕ) → made ≡ laid_from E L 0 ps → length made ≡ length ps → k ≡ length made → i ≡ laid E L k p → new ≡ made ++ i ∷ []
    → new ≡ laid_from E L 0 (ps ++ p ∷ [])
laid_more E L made new ps p i k e n f g h = h ∙ ap (λ v. v ++ i ∷ []) e ∙ ap (λ v. laid_from E L 0 ps ++ v ∷ []) g ∙ sym (laid_append E L 0 k ps (p ∷ []) (omega (arith, f, n)))

pub longer : (made new : List Ins) (ps : List Piece) (p : Piece) (i : Ins) → length made ≡ length ps → new ≡ made ++ i ∷ [] → length new ≡ length (ps ++ p ∷ [])
longer made new ps p i n h = omega (arith, n, ap length h, length-append made (i ∷ []), length-append ps (p ∷ []))
