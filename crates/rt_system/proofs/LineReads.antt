-- The first line of a text is read.
use Rattle.std.proofs.Common.{◌≡◌, ℕ, suc, ◌+◌, ◌-◌, ◌≤◌, Bool, true, false, ◌&&◌, cond, eqb, List, [], ◌∷◌, length, get_or, take, drop, refl, sym, ap, ◌∙◌, arith}
use Rattle.std.proofs.lemmas.Bool.Decides.{nat_tests}
use Rattle.std.proofs.lemmas.List.Sums.{take_while-cons}
use Rattle.rt_system.specs.Lines.{in_front, lines}
use Rattle.rt_system.specs.Reading.{is_inside, inside, without_return, first_line, after_line}

by_last : (b : Bool) (c : ℕ) (k x : List ℕ) → cond b (c ∷ k) (c ∷ x) ≡ c ∷ cond b k x
by_last true c k x = refl
by_last false c k x = refl

without_more : (c d : ℕ) (x : List ℕ) → without_return (c ∷ d ∷ x) ≡ c ∷ without_return (d ∷ x)
without_more c d x =
    let e : length (c ∷ d ∷ x) - 1 ≡ suc (length x) = omega arith in
    let k : length (d ∷ x) - 1 ≡ length x = omega arith in
    rw (e, k) (by_last (eqb (get_or (d ∷ x) (length x) 0) 13) c (take (length x) (d ∷ x)) (d ∷ x))

inside_end : (c : ℕ) (cs : List ℕ) → eqb c 10 ≡ true → inside (c ∷ cs) ≡ 0
inside_end c cs h = ap length (take_while-cons is_inside c cs) ∙ rw h refl

inside_more : (c : ℕ) (cs : List ℕ) → eqb c 10 ≡ false → inside (c ∷ cs) ≡ suc (inside cs)
inside_more c cs h = ap length (take_while-cons is_inside c cs) ∙ rw h refl

-- the first line and the text after it, where so many bytes stand before the first LF
abbrev first_at : ℕ → List ℕ → List ℕ
first_at n text = cond (eqb n (length text)) text (without_return (take n text))

abbrev parts_at : ℕ → List ℕ → List (List ℕ)
parts_at n text = first_at n text ∷ lines (drop (n + 1) text)

parts_are : (text : List ℕ) → parts_at (inside text) text ≡ first_line text ∷ lines (after_line text)
unfolding first_line after_line
parts_are text = refl

not_same : (n m : ℕ) → (n ≡ m → ⊥) → eqb n m ≡ false
not_same n m h = grind (arith, nat_tests)

no_return : (b : Bool) → (b && false) ≡ false
no_return true = refl
no_return false = refl

ends_now : (c : ℕ) (cs : List ℕ) → eqb c 10 ≡ true → lines (c ∷ cs) ≡ parts_at 0 (c ∷ cs)
unfolding lines
ends_now c cs h = let far : eqb 0 (length (c ∷ cs)) ≡ false = not_same 0 (length (c ∷ cs)) (omega arith) in rw (h, far) refl

last_byte : (c : ℕ) → eqb c 10 ≡ false → lines (c ∷ []) ≡ parts_at 1 (c ∷ [])
unfolding lines
last_byte c h = rw (h, no_return (eqb c 13)) refl

return_line : (b : Bool) (c : ℕ) (r : List (List ℕ)) → cond (b && true) ([] ∷ r) ((c ∷ []) ∷ r) ≡ cond b [] (c ∷ []) ∷ r
return_line true c r = refl
return_line false c r = refl

-- a byte before LF
before_end : (c d : ℕ) (ds : List ℕ) → eqb c 10 ≡ false → eqb d 10 ≡ true → lines (c ∷ d ∷ ds) ≡ parts_at 1 (c ∷ d ∷ ds)
unfolding lines
before_end c d ds h k =
    let far : eqb 1 (length (c ∷ d ∷ ds)) ≡ false = not_same 1 (length (c ∷ d ∷ ds)) (omega arith) in
    rw (h, k, far) (return_line (eqb c 13) c (lines ds))

test_by : (n m : ℕ) (b : Bool) → eqb n m ≡ b → eqb (suc n) (suc m) ≡ b
test_by n m true h = grind (arith, nat_tests)
test_by n m false h = grind (arith, nat_tests)

test_more : (n m : ℕ) → eqb (suc n) (suc m) ≡ eqb n m
test_more n m = test_by n m (eqb n m) refl

first_more : (b : Bool) (c d : ℕ) (x ds : List ℕ) → cond b (c ∷ d ∷ ds) (without_return (c ∷ d ∷ x)) ≡ c ∷ cond b (d ∷ ds) (without_return (d ∷ x))
first_more true c d x ds = refl
first_more false c d x ds = without_more c d x

first_at_more : (n : ℕ) (c d : ℕ) (ds : List ℕ) → first_at (suc (suc n)) (c ∷ d ∷ ds) ≡ c ∷ first_at (suc n) (d ∷ ds)
first_at_more n c d ds = rw (test_more (suc n) (length (d ∷ ds))) (first_more (eqb (suc n) (length (d ∷ ds))) c d (take n ds) ds)

parts_at_more : (n : ℕ) (c d : ℕ) (ds : List ℕ) → in_front c (parts_at (suc n) (d ∷ ds)) ≡ parts_at (suc (suc n)) (c ∷ d ∷ ds)
parts_at_more n c d ds =
    let e : suc (suc n) + 1 ≡ suc (suc n + 1) = omega arith in
    rw (e, first_at_more n c d ds) refl

-- a byte before another that isn't LF
more_line : (c d : ℕ) (ds : List ℕ) → eqb c 10 ≡ false → eqb d 10 ≡ false → lines (c ∷ d ∷ ds) ≡ in_front c (lines (d ∷ ds))
unfolding lines
more_line c d ds h k = rw (h, k, no_return (eqb c 13)) refl

abbrev Splits : List ℕ → Type 0
Splits text = lines text ≡ parts_at (inside text) text

splits_two : (c d : ℕ) (ds : List ℕ) (b : Bool) → eqb c 10 ≡ false → eqb d 10 ≡ b → Splits (d ∷ ds) → Splits (c ∷ d ∷ ds)
splits_two c d ds true h k e =
    before_end c d ds h k ∙ sym (ap (λ (n : ℕ). parts_at n (c ∷ d ∷ ds)) (inside_more c (d ∷ ds) h ∙ ap (λ (n : ℕ). suc n) (inside_end d ds k)))
splits_two c d ds false h k e =
    more_line c d ds h k ∙ ap (λ (l : List (List ℕ)). in_front c l) (e ∙ ap (λ (n : ℕ). parts_at n (d ∷ ds)) (inside_more d ds k))
    ∙ parts_at_more (inside ds) c d ds
    ∙ sym (ap (λ (n : ℕ). parts_at n (c ∷ d ∷ ds)) (inside_more c (d ∷ ds) h ∙ ap (λ (n : ℕ). suc n) (inside_more d ds k)))

splits_more : (c : ℕ) (cs : List ℕ) (b : Bool) → eqb c 10 ≡ b → (1 ≤ length cs → Splits cs) → Splits (c ∷ cs)
splits_more c cs true h more = ends_now c cs h ∙ sym (ap (λ (n : ℕ). parts_at n (c ∷ cs)) (inside_end c cs h))
splits_more c [] false h more = last_byte c h ∙ sym (ap (λ (n : ℕ). parts_at n (c ∷ [])) (inside_more c [] h))
splits_more c (d ∷ ds) false h more = splits_two c d ds (eqb d 10) h refl (more (omega arith))

splits : (text : List ℕ) → 1 ≤ length text → Splits text
splits [] some = absurd (omega arith)
splits (c ∷ cs) some = splits_more c cs (eqb c 10) refl (λ h. splits cs h)

-- a text that isn't empty has its first line, and the lines of the text after it
pub first_of_lines : (text : List ℕ) → 1 ≤ length text → lines text ≡ first_line text ∷ lines (after_line text)
first_of_lines text some = splits text some ∙ parts_are text

pub no_lines : (text : List ℕ) → length text ≡ 0 → lines text ≡ []
unfolding lines
no_lines [] h = refl
no_lines (c ∷ cs) h = absurd (omega arith)
