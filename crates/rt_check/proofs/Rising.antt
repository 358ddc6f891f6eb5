-- Items that rise are all there once they are inserted in their order.
use Rattle.std.proofs.lemmas.Bool.Decides.{nat_tests}
use Rattle.std.proofs.Common.{◌≡◌, ℕ, ◌+◌, ◌==◌, ◌<◌, ◌≤◌, Bool, false, List, [], ◌∷◌, ◌++◌, length, drop, get_or, map, refl, sym, ap, ◌∙◌, subst, append_assoc, arith}
use Rattle.std.specs.Prelude.{if◌then◌else◌, ◌||◌}
use Rattle.std.specs.List.{list_any}
use Rattle.std.proofs.lemmas.List.{append-nil}
use Rattle.indexmap.specs.IndexSet.{insert_key}
use Rattle.rt_check.specs.Whole.{Rise}
use Rattle.rt_check_declared.proofs.RecordSteps.{drop_next}
use Rattle.rt_syntax.specs.declared.strings.Text.{Text}
use Rattle.rt_syntax.specs.Strings.{Texts, text_of}

abbrev pub AllBelow : ℕ → List ℕ → Type 0
AllBelow n [] = Unit {0}
AllBelow n (k ∷ ks) = (k < n) × AllBelow n ks

abbrev pub items : Texts → List ℕ
items ts = map (λ (t : ℕ × List ℕ). t.0) ts

below_more : (n m : ℕ) (ks : List ℕ) → n ≤ m → AllBelow n ks → AllBelow m ks
below_more n m [] h b = tt
below_more n m (k ∷ ks) h b = ((let less : k < n = b.0 in let more : k < m = omega arith in more), below_more n m ks h b.1)

below_joined : (n : ℕ) (ks ls : List ℕ) → AllBelow n ks → AllBelow n ls → AllBelow n (ks ++ ls)
below_joined n [] ls a b = b
below_joined n (k ∷ ks) ls a b = (a.0, below_joined n ks ls a.1 b)

-- what was inserted, and what is still to come
pub record Kept (keys : List ℕ) (rest all : Texts) : Type 0 where
  pub from : ℕ
  pub rises : Rise from rest
  pub below : AllBelow from keys
  pub same : keys ++ items rest ≡ items all

pub kept_first : (low : ℕ) (keys : List ℕ) (all : Texts) → keys ≡ [] → Rise low all → Kept keys all all
kept_first low keys all e rises = record {
  from = low;
  rises = rises;
  below = subst (AllBelow low) (sym e) tt;
  same = ap (λ (ks : List ℕ). ks ++ items all) e;
}

module _ (eq : ℕ → ℕ → Bool) (differ : (k n : ℕ) → k < n → eq n k ≡ false) where
  none_there : (n : ℕ) (ks : List ℕ) → AllBelow n ks → list_any (eq n) ks ≡ false
  none_there n [] b = refl
  none_there n (k ∷ ks) b = ap (λ (x : Bool). x || list_any (eq n) ks) (differ k n b.0) ∙ none_there n ks b.1

  inserted_last : (n : ℕ) (ks : List ℕ) → AllBelow n ks → insert_key eq ks n ≡ ks ++ n ∷ []
  inserted_last n ks b = ap (λ (x : Bool). if x then ks else ks ++ n ∷ []) (none_there n ks b)

  kept_by : (keys : List ℕ) (t : ℕ × List ℕ) (rest all : Texts) → Kept keys (t ∷ rest) all → Kept (insert_key eq keys t.0) rest all
  kept_by keys t rest all k =
      let from_is : k.from ≤ t.0 = k.rises.0 in
      let here : AllBelow t.0 keys = below_more k.from t.0 keys from_is k.below in
      let more : AllBelow (t.0 + 1) keys = below_more t.0 (t.0 + 1) keys (omega arith) here in
      let last : AllBelow (t.0 + 1) (t.0 ∷ []) = ((omega arith), tt) in
      let is : insert_key eq keys t.0 ≡ keys ++ t.0 ∷ [] = inserted_last t.0 keys here in
      record {
        from = t.0 + 1;
        rises = k.rises.1;
        below = subst (AllBelow (t.0 + 1)) (sym is) (below_joined (t.0 + 1) keys (t.0 ∷ []) more last);
        same = ap (λ (ks : List ℕ). ks ++ items rest) is ∙ append_assoc keys (t.0 ∷ []) (items rest) ∙ k.same;
      }

  pub kept_next : (keys more : List ℕ) (ts : List Text) (i : ℕ) (t : Text) (all : Texts) → i < length ts → t ≡ get_or ts i t → more ≡ insert_key eq keys t.item → Kept keys (map text_of (drop i ts)) all → Kept more (map text_of (drop (i + 1) ts)) all
  kept_next keys more ts i t all h e is k =
      subst (λ (ks : List ℕ). Kept ks (map text_of (drop (i + 1) ts)) all) (sym is)
      (kept_by keys (text_of t) (map text_of (drop (i + 1) ts)) all (subst (λ (xs : List Text). Kept keys (map text_of xs) all) (drop_next ts i t h e) k))

pub kept_all : (keys : List ℕ) (rest all : Texts) → rest ≡ [] → Kept keys rest all → keys ≡ items all
kept_all keys rest all e k = sym (append-nil keys) ∙ ap (λ (xs : Texts). keys ++ items xs) (sym e) ∙ k.same

pub greater_differs : (k n : ℕ) → k < n → (n == k) ≡ false
greater_differs k n h = grind (arith, nat_tests)
