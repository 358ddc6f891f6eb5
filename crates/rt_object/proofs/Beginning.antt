-- Formats that begin with a byte that passes a test.
use Rattle.std.proofs.Common.{◌≡◌, ℕ, Bool, true, false, if◌then◌else◌, List, [], ◌∷◌, ◌++◌, length, Ok, Err, inl, inr, refl, sym, subst, ◌∙◌, arith}
use Rattle.rt_words.specs.Format.{Format}
use Rattle.rt_words.specs.FormatLaws.{IsReadBack}
use Rattle.rt_words.specs.Reading.{Outcome, Reader}
use Rattle.rt_words.proofs.Right.{Right, same_err}
use Rattle.rt_words.proofs.Within.{Within}
use Rattle.rt_object.specs.Grammar.{begins, beginning}
use Rattle.rt_object.specs.Reading as reads
use Rattle.rt_object.proofs.Spelt.{Spelt}

module _ {A : Type 0} (test : ℕ → Bool) (p : Reader A) (P : Format A) (g : Right p P) where
  abbrev read_by : Bool → List ℕ → Outcome A
  read_by b l = if b then p l else Err (length l)

  sound_by : (l r : List ℕ) (x : A) (b : Bool) → begins test l ≡ b → read_by b l ≡ Ok (x, r) → (beginning test P).Fits l r x
  sound_by l r x true f e = (f, g.sound l r x e)
  sound_by l r x false f e = absurd cc

  refuses_by : (l : List ℕ) (n : ℕ) (b : Bool) → begins test l ≡ b → read_by b l ≡ Err n → (beginning test P).Refuses l n
  refuses_by l n true f e = inr (f, g.refuses l n e)
  refuses_by l n false f e = inl (f, sym (same_err {A = A} (length l) n e))

  pub right_beginning : Right (reads.beginning test p) (beginning test P)
  right_beginning = record {
    sound = λ l r x e. sound_by l r x (begins test l) refl e;
    complete = λ l r x h. rw h.0 (g.complete l r x h.1);
    refuses = λ l n e. refuses_by l n (begins test l) refl e;
    refused = λ l n h. elim h [ inl k ↦ rw (k.0, k.1) refl | inr k ↦ rw k.0 (g.refused l n k.1) ];
  }

module _ {A : Type 0} (test : ℕ → Bool) (P : Format A) where
  pub in_beginning : Within P → Within (beginning test P)
  in_beginning g = record {
    left = λ l r x h. g.left l r x h.1;
    field = λ l n h. elim h [ inl k ↦ let e = k.1 in omega arith | inr k ↦ g.field l n k.1 ];
  }

  -- what fits has a first byte
  pub front_beginning : IsReadBack P → ((r : List ℕ) (x : A) → P.Fits [] r x → ⊥) → IsReadBack (beginning test P)
  front_beginning g some = record { back = λ l r x (b, f). let k = g.back l r x f in (k.0, k.1, λ s. (begun k.0 r s x k.2 (subst (λ t. begins test t ≡ true) k.1 b), k.2 s)) }
    where
      begun : (front r s : List ℕ) (x : A) → ((z : List ℕ) → P.Fits (front ++ z) z x) → begins test (front ++ r) ≡ true → begins test (front ++ s) ≡ true
      begun [] r s x f b = absurd (some [] x (f []))
      begun (c ∷ front) r s x f b = b

  -- the first byte is that of the spelling
  pub spelt_beginning : (s : A → List ℕ) (K : A → Type 0) → ((x : A) → (b : ℕ) × (t : List ℕ) × (s x ≡ b ∷ t)) → Spelt P s K → Spelt (beginning test P) s (λ x. K x × (begins test (s x) ≡ true))
  spelt_beginning s K some g = record {
    spelled = record {
      there = λ l r x h (b, f). let k = g.spelled.there l r x h f in (k.0, (k.1, sym (same (s x) r (some x)) ∙ subst (λ t. begins test t ≡ true) k.0 b));
      back = λ r x h. (same (s x) r (some x) ∙ h.1, g.spelled.back r x h.0);
    };
    bytes = λ x h. g.bytes x h.0;
  }
    where
      same : (xs r : List ℕ) → (b : ℕ) × (t : List ℕ) × (xs ≡ b ∷ t) → begins test (xs ++ r) ≡ begins test xs
      same [] r (b, t, e) = absurd cc
      same (x ∷ xs) r h = refl
