-- Lines one after another.
use Rattle.std.proofs.Common.{◌≡◌, ℕ, suc, ◌+◌, ◌-◌, ◌<◌, ◌≤◌, List, ◌++◌, Result, Ok, Err, refl, sym, ap, ◌∙◌, subst, arith, append_assoc, append-nil}
use Rattle.std.specs.Prelude.{OnOk}
use Rattle.rt_generated.specs.Texts.{each_from}

module _ (f : ℕ → List ℕ) where
  next : (k end : ℕ) → k < end → each_from f k (end - k) ≡ f k ++ each_from f (k + 1) (end - (k + 1))
  next k end h = let e : end - k ≡ suc (end - (k + 1)) = omega (arith, h) in subst (λ (n : ℕ). each_from f k n ≡ f k ++ each_from f (k + 1) (end - (k + 1))) (sym e) refl

  -- one more line was put
  pub one_more : (old new all : List ℕ) (k end : ℕ) → k < end → new ≡ old ++ f k → old ++ each_from f k (end - k) ≡ all → new ++ each_from f (k + 1) (end - (k + 1)) ≡ all
  one_more old new all k end h e is =
      ap (λ (xs : List ℕ). xs ++ each_from f (k + 1) (end - (k + 1))) e ∙ append_assoc old (f k) (each_from f (k + 1) (end - (k + 1))) ∙ ap (λ (xs : List ℕ). old ++ xs) (sym (next k end h)) ∙ is

  -- none is left
  pub all_of : (out all : List ℕ) (k end : ℕ) → end ≤ k → out ++ each_from f k (end - k) ≡ all → out ≡ all
  all_of out all k end h is =
      let e : end - k ≡ 0 = omega (arith, h) in
      sym (append-nil out) ∙ ap (λ (n : ℕ). out ++ each_from f k n) (sym e) ∙ is

  -- all lines, counted from the number behind the last
  pub all_counted : (out front : List ℕ) (k count : ℕ) → count + 1 ≤ k → out ++ each_from f k (count + 1 - k) ≡ front ++ each_from f 1 (count + 1 - 1) → out ≡ front ++ each_from f 1 count
  all_counted out front k count h is = let e : count + 1 - 1 ≡ count = omega arith in all_of out (front ++ each_from f 1 (count + 1 - 1)) k (count + 1) h is ∙ ap (λ (n : ℕ). front ++ each_from f 1 n) e

-- five pieces were put
pub five_put : {A E : Type 0} (r : Result A E) (o o1 o2 o3 o4 o5 a b c d e : List ℕ) → o1 ≡ o ++ a → o2 ≡ o1 ++ b → o3 ≡ o2 ++ c → o4 ≡ o3 ++ d → OnOk r (o5 ≡ o4 ++ e) → OnOk r (o5 ≡ o ++ (a ++ (b ++ (c ++ (d ++ e)))))
five_put (Ok x) o o1 o2 o3 o4 o5 a b c d e p q s t u =
    u ∙ ap (λ (xs : List ℕ). xs ++ e) (t ∙ ap (λ (xs : List ℕ). xs ++ d) (s ∙ ap (λ (xs : List ℕ). xs ++ c) (q ∙ ap (λ (xs : List ℕ). xs ++ b) p))) ∙ simp append_assoc
five_put (Err x) o o1 o2 o3 o4 o5 a b c d e p q s t u = tt
