-- What the code sees at a place.
use Rattle.std.proofs.Common.{◌≡◌, ℕ, ◌+◌, ◌-◌, ◌*◌, ◌<◌, ◌≤◌, List, length, take, drop, Option, Some, None, refl, sym, ap, subst, ◌∙◌, arith, length-drop}
use Rattle.rt_pieces.specs.declared.number.Base.{Base}
use Rattle.rt_pieces.specs.declared.number.Opened.{Opened}
use Rattle.rt_pieces.specs.declared.step.Step.{Step}
use Rattle.rt_pieces.specs.declared.step.Step.TheVariants as step
use Rattle.rt_pieces.specs.declared.cut.Seen.{Seen}
use Rattle.rt_pieces.specs.declared.cut.Seen.TheVariants as seen
use Rattle.rt_pieces.specs.Pieces.{base_of}
use Rattle.rt_pieces.specs.Cutting.{Piece, place, piece_at, digits_of}
use Rattle.rt_pieces.specs.Begins.{IsInside, BeginsWith, found_piece}
use Rattle.rt_pieces.specs.Steps.{next_step, IsWithin, SeesAt, GoesOn, before, cuts_of, weight, pending}
use Rattle.rt_pieces.proofs.Steps.{step_within}
use Rattle.rt_pieces.proofs.Cuts.{cut_is, cuts_only, cuts_skip, cuts_base, cuts_piece, cuts_digits}

pub within_by : (o p : Option Opened) (bytes : List ℕ) (s : Step) → o ≡ p → s ≡ next_step p bytes → IsWithin o (length bytes) s
within_by o p bytes s e is = subst (λ (t : Option Opened). IsWithin t (length bytes) s) (sym e) (subst (λ (t : Step). IsWithin p (length bytes) t) (sym is) (step_within p bytes))

there : (total : ℕ) (o : Option Opened) (n : ℕ) (bytes : List ℕ) (q : Option Opened) (m : ℕ) (rest : List ℕ) → q ≡ o → m ≡ n → rest ≡ bytes → cuts_of total o n bytes ≡ cuts_of total q m rest
there total o n bytes q m rest q-is m-is is =
    ap (λ (t : Option Opened). cuts_of total t n bytes) (sym q-is) ∙ ap (λ (t : ℕ). cuts_of total q t bytes) (sym m-is) ∙ ap (cuts_of total q m) (sym is)

inside_there : (total n m len : ℕ) (bytes : List ℕ) (k : ℕ) (rest : List ℕ) → IsInside total n bytes → n ≤ m → m ≤ n + len → len ≤ length bytes → k ≡ m → rest ≡ drop len bytes → IsInside total k rest
inside_there total n m len bytes k rest h low high le k-is is =
    let first = h.first in let last = h.last in
    let size : length rest ≡ length bytes - len = ap length is ∙ length-drop len bytes in
    record { first = omega arith; last = omega arith }

weight_there : (o p q : Option Opened) (len : ℕ) (bytes rest : List ℕ) → len ≤ length bytes → pending p < 2 * len + pending o → q ≡ p → rest ≡ drop len bytes → weight q rest < weight o bytes
weight_there o p q len bytes rest le less q-is is =
    let size : length rest ≡ length bytes - len = ap length is ∙ length-drop len bytes in
    let same : pending q ≡ pending p = ap pending q-is in
    omega arith

-- a place with the cut that begins there
abbrev PlaceAt : ℕ → Option Opened → ℕ → List ℕ → Option Opened → ℕ → List ℕ → Type 0
PlaceAt total o n bytes q m rest = GoesOn total o n bytes q m rest (cuts_of total q m rest)

pub skip_goes : (total : ℕ) (o : Option Opened) (n : ℕ) (bytes : List ℕ) (len lines : ℕ) (q : Option Opened) (m : ℕ) (rest : List ℕ) → step.Skip len lines ≡ next_step o bytes → IsWithin o (length bytes) (step.Skip len lines) → IsInside total n bytes
    → q ≡ o → m ≡ n + lines → rest ≡ drop len bytes → PlaceAt total o n bytes q m rest
skip_goes total o n bytes len lines q m rest is h inside q-is m-is rest-is = record {
  is = cuts_skip total o n bytes len lines is h.0 h.1 ∙ there total o (n + lines) (drop len bytes) q m rest q-is m-is rest-is;
  inside = let few = h.2 in inside_there total n (n + lines) len bytes m rest inside (omega arith) (omega arith) h.1 m-is rest-is;
  smaller = let some = h.0 in weight_there o o q len bytes rest h.1 (omega arith) q-is rest-is;
}

pub base_goes : (total : ℕ) (o : Option Opened) (n : ℕ) (bytes : List ℕ) (len : ℕ) (b : Base) (q : Option Opened) (rest : List ℕ) → o ≡ None → step.Cut len ≡ next_step o bytes → IsWithin o (length bytes) (step.Cut len) → IsInside total n bytes → base_of (take len bytes) ≡ Some b
    → q ≡ Some (record { base = b; line = n; from = place total bytes }) → rest ≡ drop len bytes → PlaceAt total o n bytes q n rest
base_goes total o n bytes len b q rest none is h inside k q-is rest-is =
    subst (λ (t : Option Opened). step.Cut len ≡ next_step t bytes → IsWithin t (length bytes) (step.Cut len) → PlaceAt total t n bytes q n rest) (sym none) plain is h
  where
    plain : step.Cut len ≡ next_step None bytes → IsWithin None (length bytes) (step.Cut len) → PlaceAt total None n bytes q n rest
    plain is h = let some = h.0 in record {
      is = cuts_base total n bytes len b is (omega arith) h.1 k ∙ there total (Some (record { base = b; line = n; from = place total bytes })) n (drop len bytes) q n rest q-is refl rest-is;
      inside = inside_there total n n len bytes n rest inside (omega arith) (omega arith) h.1 refl rest-is;
      smaller = weight_there None (Some (record { base = b; line = n; from = place total bytes })) q len bytes rest h.1 (omega arith) q-is rest-is;
    }

-- a piece, and behind it the rest
abbrev PieceAt : ℕ → Option Opened → ℕ → List ℕ → Piece → ℕ → List ℕ → Type 0
PieceAt total o n bytes p m rest = GoesOn total o n bytes None m rest (before p (cuts_of total None m rest))

pub piece_goes : (total : ℕ) (o : Option Opened) (n : ℕ) (bytes : List ℕ) (len : ℕ) (p : Piece) (rest : List ℕ) → o ≡ None → step.Cut len ≡ next_step o bytes → IsWithin o (length bytes) (step.Cut len) → IsInside total n bytes → base_of (take len bytes) ≡ None
    → p ≡ piece_at total n bytes (take len bytes) (drop len bytes) → rest ≡ drop len bytes → PieceAt total o n bytes p n rest
piece_goes total o n bytes len p rest none is h inside k p-is rest-is =
    subst (λ (t : Option Opened). step.Cut len ≡ next_step t bytes → IsWithin t (length bytes) (step.Cut len) → PieceAt total t n bytes p n rest) (sym none) plain is h
  where
    plain : step.Cut len ≡ next_step None bytes → IsWithin None (length bytes) (step.Cut len) → PieceAt total None n bytes p n rest
    plain is h = let some = h.0 in record {
      is = cuts_piece total n bytes len is (omega arith) h.1 k ∙ ap (λ (t : Piece). before t (cuts_of total None n (drop len bytes))) (sym p-is) ∙ ap (λ (t : List ℕ). before p (cuts_of total None n t)) (sym rest-is);
      inside = inside_there total n n len bytes n rest inside (omega arith) (omega arith) h.1 refl rest-is;
      smaller = weight_there None None None len bytes rest h.1 (omega arith) refl rest-is;
    }

pub digits_go : (total : ℕ) (o : Option Opened) (x : Opened) (n : ℕ) (bytes : List ℕ) (len : ℕ) (p : Piece) (rest : List ℕ) → o ≡ Some x → step.Cut len ≡ next_step o bytes → IsWithin o (length bytes) (step.Cut len) → IsInside total n bytes
    → p ≡ digits_of total x (take len bytes) (drop len bytes) → rest ≡ drop len bytes → PieceAt total o n bytes p n rest
digits_go total o x n bytes len p rest some is h inside p-is rest-is =
    subst (λ (t : Option Opened). step.Cut len ≡ next_step t bytes → IsWithin t (length bytes) (step.Cut len) → PieceAt total t n bytes p n rest) (sym some) plain is h
  where
    plain : step.Cut len ≡ next_step (Some x) bytes → IsWithin (Some x) (length bytes) (step.Cut len) → PieceAt total (Some x) n bytes p n rest
    plain is h = record {
      is = cuts_digits total n x bytes len is h.1 ∙ ap (λ (t : Piece). before t (cuts_of total None n (drop len bytes))) (sym p-is) ∙ ap (λ (t : List ℕ). before p (cuts_of total None n t)) (sym rest-is);
      inside = inside_there total n n len bytes n rest inside (omega arith) (omega arith) h.1 refl rest-is;
      smaller = weight_there (Some x) None None len bytes rest h.1 (omega arith) refl rest-is;
    }

-- what is seen at a place that the cut comes to is what it began with
pub begins_with : (total n : ℕ) (bytes : List ℕ) (o : Option Opened) (m : ℕ) (rest : List ℕ) (s : Seen) → cuts_of total None n bytes ≡ cuts_of total o m rest → weight o rest ≤ weight None bytes → SeesAt total o m rest s → BeginsWith total n bytes s
begins_with total n bytes o m rest seen.End same le h = cut_is (same ∙ h)
begins_with total n bytes o m rest (seen.Fault f) same le h = cut_is (same ∙ h)
begins_with total n bytes o m rest (seen.Piece found left) same le h = record {
  cut = λ ps e c. cut_is (same ∙ h.is ∙ ap (before (found_piece found)) (cuts_only c));
  inside = h.inside;
  shorter = let less = h.smaller in omega arith;
}
