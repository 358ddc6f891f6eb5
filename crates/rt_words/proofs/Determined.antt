-- A format that has a right function is determined.
use Rattle.std.proofs.Common.{◌≡◌, ℕ, List, Ok, Err, ◌⊎◌, inl, inr, refl, sym, ◌∙◌}
use Rattle.rt_words.specs.Format.{Format}
use Rattle.rt_words.specs.FormatLaws.{IsDetermined}
use Rattle.rt_words.specs.Reading.{Outcome, Reader}
use Rattle.rt_words.proofs.Right.{Right, ok, err, read_same, same_err}

module _ {A : Type 0} (p : Reader A) (P : Format A) (g : Right p P) where
  either : (l : List ℕ) → ((r : List ℕ) × (a : A) × P.Fits l r a) ⊎ ((n : ℕ) × P.Refuses l n)
  either l = by (p l) refl
    where
      by : (o : Outcome A) → p l ≡ o → ((r : List ℕ) × (a : A) × P.Fits l r a) ⊎ ((n : ℕ) × P.Refuses l n)
      by (Ok x) e = inl (x.1, x.0, g.sound l x.1 x.0 e)
      by (Err n) e = inr (n, g.refuses l n e)

  pub never_both : (l r : List ℕ) (a : A) (n : ℕ) → P.Fits l r a → P.Refuses l n → ⊥
  never_both l r a n f h = let e : ok (a, r) ≡ err n = sym (g.complete l r a f) ∙ g.refused l n h in cc

  pub one_meaning : (l r s : List ℕ) (a b : A) → P.Fits l r a → P.Fits l s b → (r ≡ s) × (a ≡ b)
  one_meaning l r s a b f h = let k = read_same a r b s (sym (g.complete l r a f) ∙ g.complete l s b h) in (k.1, k.0)

  pub one_place : (l : List ℕ) (m n : ℕ) → P.Refuses l m → P.Refuses l n → m ≡ n
  one_place l m n f h = same_err {A = A} m n (sym (g.refused l m f) ∙ g.refused l n h)

  pub determined : IsDetermined P
  determined = record { either = either; never_both = never_both; one_meaning = one_meaning; one_place = one_place }
