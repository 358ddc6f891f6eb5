-- Fronts, line ends and first words are found as they are defined.
use Rattle.std.proofs.Common.{◌≡◌, ℕ, zero, suc, ◌+◌, ◌-◌, ◌≤◌, Bool, true, false, not, cond, eqb, List, [], ◌∷◌, ◌++◌, length, get_or, take, drop, Option, Some, None, refl, sym, ap, subst, ◌∙◌, add-one, arith}
use Rattle.std.specs.Prelude.{take_while}
use Rattle.std.specs.List.{starts_with, prefix_len}
use Rattle.std.proofs.lemmas.Bool.Decides.{nat_tests, Decides-eqb}
use Rattle.std.proofs.lemmas.Bool.{eqb-true}
use Rattle.std.proofs.lemmas.Slice.Eq.{starts_is}
use Rattle.std.proofs.lemmas.List.{take_at, drop_at, length-append, length-take, length-drop}
use Rattle.rt_pieces.specs.Bytes.{Each, Ends}
use Rattle.rt_system.specs.Reading.{run}
use Rattle.rt_system.specs.ReadingSystems.{and_then}
use Rattle.rt_system.proofs.Tests.{passes, none_some, some_inj, true_false}
use Rattle.rt_system.proofs.NumberReads.{plain_by}
use Rattle.rt_system.proofs.Runs.{run_sound, run_complete}
use Rattle.rt_system.proofs.Says.{takes_next}
use Rattle.rt_replay.specs.Reading.{behind, unended, is_in_word, cut}

-- ---- steps that find something or nothing

pub record Found {A B : Type 0} (o : Option A) (f : A → Option B) (b : B) : Type 0 where
  pub value : A
  pub is : o ≡ Some value
  pub rest : f value ≡ Some b

pub found : {A B : Type 0} (o : Option A) (f : A → Option B) (b : B) → and_then o f ≡ Some b → Found o f b
found (Some a) f b e = record { value = a; is = refl; rest = e }
found None f b e = none_some e

-- ---- numbers that differ

pub less_differs : (n m : ℕ) → suc n ≤ m → eqb n m ≡ false
less_differs n m h = grind (arith, nat_tests)

pub other_byte : (c d : ℕ) → (c ≡ d → ⊥) → not (eqb c d) ≡ true
other_byte c d h = grind (arith, nat_tests)

pub none_true : {A : Type 0} → false ≡ true → A
none_true e = absurd cc

-- ---- texts that differ at a place

same_place : (i : ℕ) (s t : List ℕ) → s ≡ t → eqb (get_or s i 0) (get_or t i 0) ≡ true
same_place i s t e = let h : get_or s i 0 ≡ get_or t i 0 = ap (λ (l : List ℕ). get_or l i 0) e in grind (arith, nat_tests)

pub differ : {A : Type 0} (i : ℕ) (s t : List ℕ) → eqb (get_or s i 0) (get_or t i 0) ≡ false → s ≡ t → A
differ i s t h e = true_false (eqb (get_or s i 0) (get_or t i 0)) (same_place i s t e) h

-- ---- a front

abbrev starts : List ℕ → List ℕ → Bool
starts text front = starts_with eqb text front

pub behind_means : (front text rest : List ℕ) → behind front text ≡ Some rest → text ≡ front ++ rest
unfolding behind
behind_means front text rest e =
    let h = passes (starts text front) (drop (length front) text) rest e in
    (starts_is Decides-eqb text front (starts text front) refl).0 h.0 ∙ ap (λ (t : List ℕ). front ++ t) h.1

pub behind_is : (front rest : List ℕ) → behind front (front ++ rest) ≡ Some rest
unfolding behind
behind_is front rest =
    let yes : starts (front ++ rest) front ≡ true = (starts_is Decides-eqb (front ++ rest) front (starts (front ++ rest) front) refl).1 rest refl in
    ap (λ (b : Bool). cond b (Some (drop (length front) (front ++ rest))) None) yes ∙ ap (λ (t : List ℕ). Some t) (drop_at front rest (length front) refl)

none_by : (front text : List ℕ) → ((rest : List ℕ) → text ≡ front ++ rest → ⊥) → (o : Option (List ℕ)) → behind front text ≡ o → behind front text ≡ None
none_by front text h None e = e
none_by front text h (Some rest) e = absurd (h rest (behind_means front text rest e))

pub behind_none : (front text : List ℕ) → ((rest : List ℕ) → text ≡ front ++ rest → ⊥) → behind front text ≡ None
behind_none front text h = none_by front text h (behind front text) refl

-- ---- a line's end

at_end : (body rest : List ℕ) (c : ℕ) → get_or (body ++ c ∷ rest) (length body) 0 ≡ c
at_end [] rest c = refl
at_end (b ∷ body) rest c = at_end body rest c

pub unended_is : (body : List ℕ) → unended (body ++ 10 ∷ []) ≡ Some body
unfolding unended
unended_is body =
    let last : length (body ++ 10 ∷ []) - 1 ≡ length body = omega (arith, length-append body (10 ∷ [])) in
    rw (last, at_end body [] 10, take_at body (10 ∷ []) (length body) refl) refl

parts_at : (n : ℕ) (line : List ℕ) → length line ≡ suc n → take n line ++ get_or line n 0 ∷ [] ≡ line
parts_at n [] e = absurd (omega (arith, e))
parts_at zero (c ∷ []) e = refl
parts_at zero (c ∷ d ∷ ds) e = absurd (omega (arith, e))
parts_at (suc n) (c ∷ cs) e = ap (λ (t : List ℕ). c ∷ t) (parts_at n cs (omega (arith, e)))

pub unended_means : (line body : List ℕ) → unended line ≡ Some body → line ≡ body ++ 10 ∷ []
unfolding unended
unended_means [] body e = none_some e
unended_means (c ∷ cs) body e =
    let back : length (c ∷ cs) - 1 ≡ length cs = omega arith in
    let e' = rw back at e in
    let h = passes (eqb (get_or (c ∷ cs) (length cs) 0) 10) (take (length cs) (c ∷ cs)) body e' in
    sym (parts_at (length cs) (c ∷ cs) refl)
    ∙ ap (λ (t : List ℕ). t ++ get_or (c ∷ cs) (length cs) 0 ∷ []) h.1
    ∙ ap (λ (x : ℕ). body ++ x ∷ []) (eqb-true (get_or (c ∷ cs) (length cs) 0) 10 h.0)

-- ---- the first word

pub record IsCut (text first rest : List ℕ) : Type 0 where
  pub parts : text ≡ first ++ 32 ∷ rest
  pub word : Each is_in_word first

space_means : (c : ℕ) → is_in_word c ≡ false → c ≡ 32
space_means c h = grind (arith, nat_tests)

space_at : (n : ℕ) (text : List ℕ) → Ends is_in_word (drop n text) → suc n ≤ length text → drop n text ≡ 32 ∷ drop (suc n) text
space_at n [] h lt = absurd (omega (arith, lt))
space_at zero (c ∷ cs) h lt = ap (λ (x : ℕ). x ∷ cs) (space_means c h)
space_at (suc n) (c ∷ cs) h lt = space_at n cs h (omega (arith, lt))

before_end : (n m : ℕ) → eqb n m ≡ false → n ≤ m → suc n ≤ m
before_end n m h le = grind (arith, nat_tests)

abbrev word_len : List ℕ → ℕ
word_len text = length (take_while is_in_word text)

abbrev pair : List ℕ → List ℕ → List ℕ × List ℕ
pair a b = (a, b)

pub cut_means : (text first rest : List ℕ) → cut text ≡ Some (first, rest) → IsCut text first rest
unfolding cut
cut_means text first rest e =
    let n = word_len text in
    let h = plain_by (eqb n (length text)) (Some (pair (take n text) (drop (n + 1) text))) (first, rest) e in
    let cut_is = some_inj h.1 in
    let r = run_sound is_in_word text (take n text) (drop n text) refl in
    let le : n ≤ length text = omega (arith, length-take (prefix_len is_in_word text) text) in
    let space = space_at n text r.ends (before_end n (length text) h.0 le) in
    let one : suc n ≡ n + 1 = omega arith in
    let a : take n text ≡ first = ap (λ (x : List ℕ × List ℕ). x.0) cut_is in
    let b : drop (n + 1) text ≡ rest = ap (λ (x : List ℕ × List ℕ). x.1) cut_is in
    record {
      parts = r.parts ∙ ap (λ (t : List ℕ). take n text ++ t) space ∙ ap (λ (t : List ℕ). t ++ 32 ∷ drop (suc n) text) a ∙ ap (λ (t : List ℕ). first ++ 32 ∷ t) (ap (λ (m : ℕ). drop m text) one ∙ b);
      word = subst (λ (t : List ℕ). Each is_in_word t) a r.each;
    }

cut_at : (text first rest : List ℕ) (n : ℕ) → eqb n (length text) ≡ false → take n text ≡ first → drop (n + 1) text ≡ rest → cond (eqb n (length text)) None (Some (pair (take n text) (drop (n + 1) text))) ≡ Some (pair first rest)
cut_at text first rest n far left right = rw (far, left, right) refl

pub cut_is : (first rest : List ℕ) → Each is_in_word first → cut (first ++ 32 ∷ rest) ≡ Some (first, rest)
unfolding cut
cut_is first rest each =
    let text = first ++ 32 ∷ rest in
    let n = word_len text in
    let is : run is_in_word text ≡ (first, 32 ∷ rest) = run_complete is_in_word first (32 ∷ rest) each refl in
    let left : take n text ≡ first = ap (λ (x : List ℕ × List ℕ). x.0) is in
    let right : drop n text ≡ 32 ∷ rest = ap (λ (x : List ℕ × List ℕ). x.1) is in
    let more : drop (n + 1) text ≡ rest = rw add-one ((takes_next n text 32 rest right).left) in
    let long : suc n ≤ length text = omega (arith, length-drop n text, ap length right) in
    cut_at text first rest n (less_differs n (length text) long) left more
