-- What each step of the cut sees, and that no other step is one.
use Rattle.std.proofs.Common.{◌≡◌, ◌≢◌, ℕ, suc, ◌+◌, ◌≤◌, Bool, true, false, not, cond, eqb, ◌&&◌, ◌||◌, List, [], ◌∷◌, ◌++◌, length, take, drop, Option, Some, None, is_some, ◌⊎◌, inl, inr, refl, sym, ap, subst, ◌∙◌, arith, length-append, append_assoc}
use Rattle.std.specs.Prelude.{take_while}
use Rattle.std.proofs.lemmas.Bool.Decides.{nat_tests}
use Rattle.std.proofs.lemmas.Bool.{eqb-true, eq-eqb}
use Rattle.std.proofs.lemmas.List.{take_at, drop_at, append-nil}
use Rattle.std.proofs.lemmas.List.Sums.{count_by-le-length}
use Rattle.rt_pieces.specs.declared.number.Opened.{Opened}
use Rattle.rt_pieces.specs.declared.step.Step.{Step}
use Rattle.rt_pieces.specs.declared.step.Step.TheVariants as step
use Rattle.rt_pieces.specs.Bytes.{is_blank, is_letter, is_digit, is_letter_or_digit, is_printable, in_comment, in_string, lines_in, Each, Ends}
use Rattle.rt_pieces.specs.Pieces.{mark_of, mark_of_one, mark_of_two, mark_of_three, IsName, IsNumber, IsCharacter, IsString, IsMark, IsPiece}
use Rattle.rt_pieces.specs.Cutting.{begins_gap}
use Rattle.rt_pieces.specs.Steps.{comment_step, character_step, string_end, string_step, one_step, two_step, mark_step, step_of, digits_step, next_step, pending, IsWithin}
use Rattle.rt_pieces.proofs.Fronts.{front, while_each, each_front, ends_front, parts_front, front_length, true_false, differ, head_of, whole_front, neq_eqb}

-- ---- marks

alone : (b : ℕ) (rest : List ℕ) → is_some (mark_of_one b) ≡ true → ((c : ℕ) (r : List ℕ) → rest ≡ c ∷ r → is_some (mark_of_two b c) ≡ false)
    → ((c d : ℕ) (r : List ℕ) → rest ≡ c ∷ d ∷ r → is_some (mark_of_three b c d) ≡ false) → IsMark (b ∷ []) rest
alone b rest one two three = (one, λ more after e h. only more after e h)
  where
    only : (more after : List ℕ) → rest ≡ more ++ after → is_some (mark_of (b ∷ more)) ≡ true → more ≡ []
    only [] after e h = refl
    only (c ∷ []) after e h = absurd (true_false (is_some (mark_of_two b c)) h (two c after e))
    only (c ∷ d ∷ []) after e h = absurd (true_false (is_some (mark_of_three b c d)) h (three c d after e))
    only (c ∷ d ∷ x ∷ more) after e h = absurd (true_false false h refl)

of_two : (b c : ℕ) (rest : List ℕ) → is_some (mark_of_two b c) ≡ true → ((d : ℕ) (r : List ℕ) → rest ≡ d ∷ r → is_some (mark_of_three b c d) ≡ false) → IsMark (b ∷ c ∷ []) rest
of_two b c rest two three = (two, λ more after e h. only more after e h)
  where
    only : (more after : List ℕ) → rest ≡ more ++ after → is_some (mark_of (b ∷ c ∷ more)) ≡ true → more ≡ []
    only [] after e h = refl
    only (d ∷ []) after e h = absurd (true_false (is_some (mark_of_three b c d)) h (three d after e))
    only (d ∷ x ∷ more) after e h = absurd (true_false false h refl)

of_three : (b c d : ℕ) (rest : List ℕ) → is_some (mark_of_three b c d) ≡ true → IsMark (b ∷ c ∷ d ∷ []) rest
of_three b c d rest three = (three, λ more after e h. only more h)
  where
    only : (more : List ℕ) → is_some (mark_of (b ∷ c ∷ d ∷ more)) ≡ true → more ≡ []
    only [] h = refl
    only (x ∷ more) h = absurd (true_false false h refl)

abbrev NoMark : ℕ → List ℕ → Type 0
NoMark b bs = (more after : List ℕ) → bs ≡ more ++ after → is_some (mark_of (b ∷ more)) ≡ true → ⊥

no_mark : (b : ℕ) (bs : List ℕ) → is_some (mark_of_one b) ≡ false → ((c : ℕ) (r : List ℕ) → bs ≡ c ∷ r → is_some (mark_of_two b c) ≡ false)
    → ((c d : ℕ) (r : List ℕ) → bs ≡ c ∷ d ∷ r → is_some (mark_of_three b c d) ≡ false) → NoMark b bs
no_mark b bs one two three [] after e h = true_false (is_some (mark_of_one b)) h one
no_mark b bs one two three (c ∷ []) after e h = true_false (is_some (mark_of_two b c)) h (two c after e)
no_mark b bs one two three (c ∷ d ∷ []) after e h = true_false (is_some (mark_of_three b c d)) h (three c d after e)
no_mark b bs one two three (c ∷ d ∷ x ∷ more) after e h = true_false false h refl

abbrev NoCharacter : ℕ → List ℕ → Type 0
NoCharacter b bs = (c : ℕ) (after : List ℕ) → b ∷ bs ≡ 39 ∷ c ∷ 39 ∷ after → is_printable c ≡ true → ⊥

no_piece : (b : ℕ) (bs : List ℕ) → is_letter b ≡ false → is_digit b ≡ false → eqb b 34 ≡ false → NoCharacter b bs → NoMark b bs → (text rest : List ℕ) → b ∷ bs ≡ text ++ rest → IsPiece text rest → ⊥
no_piece b bs l d q ch mk [] rest is (inl name) = name
no_piece b bs l d q ch mk [] rest is (inr (inl number)) = number
no_piece b bs l d q ch mk [] rest is (inr (inr (inl (c, e, p)))) = cc
no_piece b bs l d q ch mk [] rest is (inr (inr (inr (inl (body, each, inl e))))) = cc
no_piece b bs l d q ch mk [] rest is (inr (inr (inr (inl (body, each, inr e))))) = let f = e.0 in cc
no_piece b bs l d q ch mk [] rest is (inr (inr (inr (inr mark)))) = true_false false mark.0 refl
no_piece b bs l d q ch mk (x ∷ text) rest is (inl name) = let same : b ≡ x = cc in true_false (is_letter x) name.0 (subst (λ (t : ℕ). is_letter t ≡ false) same l)
no_piece b bs l d q ch mk (x ∷ text) rest is (inr (inl number)) = let same : b ≡ x = cc in true_false (is_digit x) number.0 (subst (λ (t : ℕ). is_digit t ≡ false) same d)
no_piece b bs l d q ch mk (x ∷ text) rest is (inr (inr (inl (c, e, p)))) = ch c rest (is ∙ ap (λ (t : List ℕ). t ++ rest) e) p
no_piece b bs l d q ch mk (x ∷ text) rest is (inr (inr (inr (inl (body, each, inl e))))) = let same : b ≡ 34 = ap head_of is ∙ ap head_of e in differ b 34 q same
no_piece b bs l d q ch mk (x ∷ text) rest is (inr (inr (inr (inl (body, each, inr e))))) = let same : b ≡ 34 = ap head_of is ∙ ap head_of e.0 in differ b 34 q same
no_piece b bs l d q ch mk (x ∷ text) rest is (inr (inr (inr (inr mark)))) =
    let same : b ≡ x = cc in let tail : bs ≡ text ++ rest = cc in
    mk text rest tail (subst (λ (t : ℕ). is_some (mark_of (t ∷ text)) ≡ true) (sym same) mark.0)

-- ---- what each step sees

pub data Sees (o : Option Opened) (bytes : List ℕ) : Step → Type 0 where
  s_finish : o ≡ None → bytes ≡ [] → Sees o bytes step.Finish
  s_blank : (b : ℕ) (bs : List ℕ) → bytes ≡ b ∷ bs → is_blank b ≡ true → Sees o bytes (step.Skip 1 (lines_in (b ∷ [])))
  s_comment : (body rest : List ℕ) {len lines : ℕ} → bytes ≡ 37 ∷ (body ++ 37 ∷ rest) → Each in_comment body → len ≡ length body + 2 → lines ≡ lines_in body → Sees o bytes (step.Skip len lines)
  s_open : (bs : List ℕ) → bytes ≡ 37 ∷ bs → Each in_comment bs → Sees o bytes step.Open
  s_piece : (text rest : List ℕ) {len : ℕ} → o ≡ None → bytes ≡ text ++ rest → IsPiece text rest → len ≡ length text → Sees o bytes (step.Cut len)
  s_run : (x : Opened) (run rest : List ℕ) {len : ℕ} → o ≡ Some x → bytes ≡ run ++ rest → begins_gap bytes ≡ false → Each is_letter_or_digit run → Ends is_letter_or_digit rest → len ≡ length run → Sees o bytes (step.Cut len)
  s_bad : (b : ℕ) (bs : List ℕ) → o ≡ None → bytes ≡ b ∷ bs → is_blank b ≡ false → b ≢ 37 → ((text rest : List ℕ) → b ∷ bs ≡ text ++ rest → IsPiece text rest → ⊥) → Sees o bytes step.Bad

sees_name : (b : ℕ) (bs : List ℕ) → is_letter b ≡ true → Sees None (b ∷ bs) (step.Cut (length (take_while is_letter_or_digit bs) + 1))
sees_name b bs letter =
    s_piece (b ∷ front is_letter_or_digit bs) (drop (length (front is_letter_or_digit bs)) bs) refl (ap (λ (t : List ℕ). b ∷ t) (sym (parts_front is_letter_or_digit bs)))
    (inl (letter, each_front is_letter_or_digit bs, ends_front is_letter_or_digit bs)) (omega (arith, front_length is_letter_or_digit bs))

sees_number : (b : ℕ) (bs : List ℕ) → is_digit b ≡ true → Sees None (b ∷ bs) (step.Cut (length (take_while is_digit bs) + 1))
sees_number b bs digit =
    s_piece (b ∷ front is_digit bs) (drop (length (front is_digit bs)) bs) refl (ap (λ (t : List ℕ). b ∷ t) (sym (parts_front is_digit bs)))
    (inr (inl (digit, each_front is_digit bs, ends_front is_digit bs))) (omega (arith, front_length is_digit bs))

comment_rest : (xs : List ℕ) → Ends in_comment xs → (xs ≡ []) ⊎ ((rest : List ℕ) × (xs ≡ 37 ∷ rest))
comment_rest [] h = inl refl
comment_rest (x ∷ xs) h = inr (xs, ap (λ (t : ℕ). t ∷ xs) (percent x (eqb x 37) refl h))
  where
    percent : (x : ℕ) (b : Bool) → eqb x 37 ≡ b → not b ≡ false → x ≡ 37
    percent x true e h = eqb-true x 37 e
    percent x false e h = absurd cc

sees_comment : (o : Option Opened) (bs : List ℕ) → Sees o (37 ∷ bs) (comment_step bs)
sees_comment o bs = go (eqb (length (take_while in_comment bs)) (length bs)) refl (comment_rest (drop (length (front in_comment bs)) bs) (ends_front in_comment bs))
  where
    go : (t : Bool) → eqb (length (take_while in_comment bs)) (length bs) ≡ t → (drop (length (front in_comment bs)) bs ≡ []) ⊎ ((rest : List ℕ) × (drop (length (front in_comment bs)) bs ≡ 37 ∷ rest))
        → Sees o (37 ∷ bs) (cond t step.Open (step.Skip (length (take_while in_comment bs) + 2) (lines_in (take (length (take_while in_comment bs)) bs))))
    go true e rest =
        let len : length (front in_comment bs) ≡ length bs = sym (front_length in_comment bs) ∙ eqb-true (length (take_while in_comment bs)) (length bs) e in
        let whole : front in_comment bs ≡ bs = whole_front (front in_comment bs) bs (parts_front in_comment bs) len in
        s_open bs refl (subst (λ (t : List ℕ). Each in_comment t) whole (each_front in_comment bs))
    go false e (inl none) =
        let parts = ap length (parts_front in_comment bs) in
        let whole : length (front in_comment bs) ≡ length bs = omega (arith, simp length-append at parts, ap length none) in
        absurd (true_false (eqb (length (take_while in_comment bs)) (length bs)) (eq-eqb (length (take_while in_comment bs)) (length bs) (front_length in_comment bs ∙ whole)) e)
    go false e (inr (rest, is)) =
        let parts : bs ≡ front in_comment bs ++ 37 ∷ rest = sym (parts_front in_comment bs) ∙ ap (λ (t : List ℕ). front in_comment bs ++ t) is in
        s_comment (front in_comment bs) rest (ap (λ (t : List ℕ). 37 ∷ t) parts) (each_front in_comment bs) (ap (λ (n : ℕ). n + 2) (front_length in_comment bs))
        (ap lines_in (ap (λ (n : ℕ). take n bs) (front_length in_comment bs) ∙ ap (take (length (front in_comment bs))) parts ∙ take_at (front in_comment bs) (37 ∷ rest) (length (front in_comment bs)) refl))

bad_quote : (bs : List ℕ) → NoCharacter 39 bs → Sees None (39 ∷ bs) step.Bad
bad_quote bs ch = s_bad 39 bs refl refl refl (λ e. differ 39 37 refl e) (no_piece 39 bs refl refl refl ch (no_mark 39 bs refl (λ c r e. refl) (λ c d r e. refl)))

sees_character : (bs : List ℕ) → Sees None (39 ∷ bs) (character_step bs)
sees_character [] = bad_quote [] (λ c after e p. let t : [] ≡ c ∷ 39 ∷ after = cc in absurd cc)
sees_character (x ∷ []) = bad_quote (x ∷ []) (λ c after e p. let t : [] ≡ 39 ∷ after = cc in absurd cc)
sees_character (x ∷ y ∷ bs) = go (is_printable x) (eqb y 39) refl refl
  where
    go : (p q : Bool) → is_printable x ≡ p → eqb y 39 ≡ q → Sees None (39 ∷ x ∷ y ∷ bs) (cond (p && q) (step.Cut 3) step.Bad)
    go true true p q = s_piece (39 ∷ x ∷ 39 ∷ []) bs refl (ap (λ (t : ℕ). 39 ∷ x ∷ t ∷ bs) (eqb-true y 39 q)) (inr (inr (inl (x, refl, p)))) refl
    go true false p q = bad_quote (x ∷ y ∷ bs) (λ c after e h. let is : y ≡ 39 = cc in absurd (differ y 39 q is))
    go false q p e2 = bad_quote (x ∷ y ∷ bs) (λ c after e h. let is : c ≡ x = cc in absurd (true_false (is_printable x) (subst (λ (t : ℕ). is_printable t ≡ true) is h) p))

or_false : (a b : Bool) → a ≡ false → b ≡ false → (a || b) ≡ false
or_false true b h k = absurd (true_false true refl h)
or_false false b h k = k

sees_string : (bs : List ℕ) → Sees None (34 ∷ bs) (string_step bs)
sees_string bs = subst (λ (n : ℕ). Sees None (34 ∷ bs) (string_end n (drop n bs))) (sym (front_length in_string bs)) (go (drop (length (front in_string bs)) bs) refl)
  where
    go : (after : List ℕ) → drop (length (front in_string bs)) bs ≡ after → Sees None (34 ∷ bs) (string_end (length (front in_string bs)) after)
    go [] e =
        let parts : bs ≡ front in_string bs ++ [] = sym (parts_front in_string bs) ∙ ap (λ (t : List ℕ). front in_string bs ++ t) e in
        s_piece (34 ∷ front in_string bs) [] refl (ap (λ (t : List ℕ). 34 ∷ t) parts) (inr (inr (inr (inl (front in_string bs, each_front in_string bs, inr (refl, tt)))))) (omega arith)
    go (c ∷ cs) e = by_byte (eqb c 34) refl
      where
        parts : bs ≡ front in_string bs ++ c ∷ cs
        parts = sym (parts_front in_string bs) ∙ ap (λ (t : List ℕ). front in_string bs ++ t) e

        by_byte : (t : Bool) → eqb c 34 ≡ t → Sees None (34 ∷ bs) (cond t (step.Cut (length (front in_string bs) + 2)) (step.Cut (length (front in_string bs) + 1)))
        by_byte true q =
            let is = eqb-true c 34 q in
            let whole : bs ≡ (front in_string bs ++ 34 ∷ []) ++ cs = parts ∙ ap (λ (t : ℕ). front in_string bs ++ t ∷ cs) is ∙ sym (append_assoc (front in_string bs) (34 ∷ []) cs) in
            s_piece (34 ∷ (front in_string bs ++ 34 ∷ [])) cs refl (ap (λ (t : List ℕ). 34 ∷ t) whole)
            (inr (inr (inr (inl (front in_string bs, each_front in_string bs, inl refl))))) (omega (arith, length-append (front in_string bs) (34 ∷ [])))
        by_byte false q =
            let ends : in_string c ≡ false = subst (λ (t : List ℕ). Ends in_string t) e (ends_front in_string bs) in
            s_piece (34 ∷ front in_string bs) (c ∷ cs) refl (ap (λ (t : List ℕ). 34 ∷ t) parts) (inr (inr (inr (inl (front in_string bs, each_front in_string bs, inr (refl, or_false (eqb c 34) (in_string c) q ends)))))) (omega arith)

module _ (b : ℕ) (visible : is_blank b ≡ false) (percent : eqb b 37 ≡ false) (letter : is_letter b ≡ false) (digit : is_digit b ≡ false) (quote : eqb b 39 ≡ false) (double : eqb b 34 ≡ false) where
  bad_byte : (bs : List ℕ) → NoMark b bs → Sees None (b ∷ bs) step.Bad
  bad_byte bs mk = s_bad b bs refl refl visible (λ e. differ b 37 percent e) (no_piece b bs letter digit double (λ c after e p. differ b 39 quote (ap head_of e)) mk)

  sees_one : (bs : List ℕ) → ((c : ℕ) (r : List ℕ) → bs ≡ c ∷ r → is_some (mark_of_two b c) ≡ false) → ((c d : ℕ) (r : List ℕ) → bs ≡ c ∷ d ∷ r → is_some (mark_of_three b c d) ≡ false) → Sees None (b ∷ bs) (one_step b)
  sees_one bs two three = go (is_some (mark_of_one b)) refl
    where
      go : (t : Bool) → is_some (mark_of_one b) ≡ t → Sees None (b ∷ bs) (cond t (step.Cut 1) step.Bad)
      go true e = s_piece (b ∷ []) bs refl refl (inr (inr (inr (inr (alone b bs e two three))))) refl
      go false e = bad_byte bs (no_mark b bs e two three)

  sees_two : (c : ℕ) (bs : List ℕ) → ((d : ℕ) (r : List ℕ) → bs ≡ d ∷ r → is_some (mark_of_three b c d) ≡ false) → Sees None (b ∷ c ∷ bs) (two_step b c)
  sees_two c bs three = go (is_some (mark_of_two b c)) refl
    where
      go : (t : Bool) → is_some (mark_of_two b c) ≡ t → Sees None (b ∷ c ∷ bs) (cond t (step.Cut 2) (one_step b))
      go true e = s_piece (b ∷ c ∷ []) bs refl refl (inr (inr (inr (inr (of_two b c bs e three))))) refl
      go false e = sees_one (c ∷ bs) (λ x r is. let same : c ≡ x = cc in subst (λ (t : ℕ). is_some (mark_of_two b t) ≡ false) same e)
          (λ x d r is. let same : c ≡ x = cc in let tail : bs ≡ d ∷ r = cc in subst (λ (t : ℕ). is_some (mark_of_three b t d) ≡ false) same (three d r tail))

  sees_mark : (bs : List ℕ) → Sees None (b ∷ bs) (mark_step b bs)
  sees_mark [] = sees_one [] (λ c r e. absurd cc) (λ c d r e. absurd cc)
  sees_mark (c ∷ []) = sees_two c [] (λ d r e. absurd cc)
  sees_mark (c ∷ d ∷ bs) = go (is_some (mark_of_three b c d)) refl
    where
      go : (t : Bool) → is_some (mark_of_three b c d) ≡ t → Sees None (b ∷ c ∷ d ∷ bs) (cond t (step.Cut 3) (two_step b c))
      go true e = s_piece (b ∷ c ∷ d ∷ []) bs refl refl (inr (inr (inr (inr (of_three b c d bs e))))) refl
      go false e = sees_two c (d ∷ bs) (λ x r is. let same : d ≡ x = cc in subst (λ (t : ℕ). is_some (mark_of_three b c t) ≡ false) same e)

sees_plain : (bytes : List ℕ) → Sees None bytes (step_of bytes)
unfolding step_of
sees_plain [] = s_finish refl refl
sees_plain (b ∷ bs) = go (is_blank b) (eqb b 37) (is_letter b) (is_digit b) (eqb b 39) (eqb b 34) refl refl refl refl refl refl
  where
    go : (w p l d q s : Bool) → is_blank b ≡ w → eqb b 37 ≡ p → is_letter b ≡ l → is_digit b ≡ d → eqb b 39 ≡ q → eqb b 34 ≡ s
        → Sees None (b ∷ bs) (cond w (step.Skip 1 (lines_in (b ∷ []))) (cond p (comment_step bs) (cond l (step.Cut (length (take_while is_letter_or_digit bs) + 1)) (cond d (step.Cut (length (take_while is_digit bs) + 1)) (cond q (character_step bs) (cond s (string_step bs) (mark_step b bs)))))))
    go true p l d q s w-is p-is l-is d-is q-is s-is = s_blank b bs refl w-is
    go false true l d q s w-is p-is l-is d-is q-is s-is = let is = eqb-true b 37 p-is in subst (λ (t : ℕ). Sees None (t ∷ bs) (comment_step bs)) (sym is) (sees_comment None bs)
    go false false true d q s w-is p-is l-is d-is q-is s-is = sees_name b bs l-is
    go false false false true q s w-is p-is l-is d-is q-is s-is = sees_number b bs d-is
    go false false false false true s w-is p-is l-is d-is q-is s-is = let is = eqb-true b 39 q-is in subst (λ (t : ℕ). Sees None (t ∷ bs) (character_step bs)) (sym is) (sees_character bs)
    go false false false false false true w-is p-is l-is d-is q-is s-is = let is = eqb-true b 34 s-is in subst (λ (t : ℕ). Sees None (t ∷ bs) (string_step bs)) (sym is) (sees_string bs)
    go false false false false false false w-is p-is l-is d-is q-is s-is = sees_mark b w-is p-is l-is d-is q-is s-is bs

sees_digits : (x : Opened) (bytes : List ℕ) → Sees (Some x) bytes (digits_step bytes)
unfolding digits_step
sees_digits x [] = s_run x [] [] refl refl refl tt tt refl
sees_digits x (b ∷ bs) = go (is_blank b) (eqb b 37) refl refl
  where
    go : (w p : Bool) → is_blank b ≡ w → eqb b 37 ≡ p → Sees (Some x) (b ∷ bs) (cond w (step.Skip 1 (lines_in (b ∷ []))) (cond p (comment_step bs) (step.Cut (length (take_while is_letter_or_digit (b ∷ bs))))))
    go true p w-is p-is = s_blank b bs refl w-is
    go false true w-is p-is = let is = eqb-true b 37 p-is in subst (λ (t : ℕ). Sees (Some x) (t ∷ bs) (comment_step bs)) (sym is) (sees_comment (Some x) bs)
    go false false w-is p-is =
        s_run x (front is_letter_or_digit (b ∷ bs)) (drop (length (front is_letter_or_digit (b ∷ bs))) (b ∷ bs)) refl (sym (parts_front is_letter_or_digit (b ∷ bs)))
        (rw (w-is, p-is) refl) (each_front is_letter_or_digit (b ∷ bs)) (ends_front is_letter_or_digit (b ∷ bs)) (front_length is_letter_or_digit (b ∷ bs))

pub sees : (o : Option Opened) (bytes : List ℕ) → Sees o bytes (next_step o bytes)
sees None bytes = sees_plain bytes
sees (Some x) bytes = sees_digits x bytes

-- ---- each piece is seen

letter_first : (b : ℕ) → is_letter b ≡ true → (is_blank b ≡ false) × (eqb b 37 ≡ false)
letter_first b h = grind (arith, nat_tests)

digit_first : (b : ℕ) → is_digit b ≡ true → (is_blank b ≡ false) × (eqb b 37 ≡ false) × (is_letter b ≡ false)
digit_first b h = grind (arith, nat_tests)

name_cut : (b : ℕ) (bs rest : List ℕ) → IsName (b ∷ bs) rest → step_of (b ∷ (bs ++ rest)) ≡ step.Cut (length (b ∷ bs))
unfolding step_of
name_cut b bs rest name =
    let no = letter_first b name.0 in
    let whole : take_while is_letter_or_digit (bs ++ rest) ≡ bs = while_each is_letter_or_digit bs rest name.1 name.2 in
    let len : length bs + 1 ≡ suc (length bs) = omega arith in
    rw (no.0, no.1, name.0, whole, len) refl

number_cut : (b : ℕ) (bs rest : List ℕ) → IsNumber (b ∷ bs) rest → step_of (b ∷ (bs ++ rest)) ≡ step.Cut (length (b ∷ bs))
unfolding step_of
number_cut b bs rest number =
    let no = digit_first b number.0 in
    let whole : take_while is_digit (bs ++ rest) ≡ bs = while_each is_digit bs rest number.1 number.2 in
    let len : length bs + 1 ≡ suc (length bs) = omega arith in
    rw (no.0, no.1, no.2, number.0, whole, len) refl

character_cut : (text rest : List ℕ) → IsCharacter text → step_of (text ++ rest) ≡ step.Cut (length text)
unfolding step_of
character_cut text rest (c, e, p) = rw (e, p) refl

closed_cut : (body rest : List ℕ) → Each in_string body → step_of (34 ∷ ((body ++ 34 ∷ []) ++ rest)) ≡ step.Cut (length (34 ∷ (body ++ 34 ∷ [])))
unfolding step_of
closed_cut body rest each =
    let whole : take_while in_string (body ++ 34 ∷ rest) ≡ body = while_each in_string body (34 ∷ rest) each refl in
    let len : suc (length (body ++ 34 ∷ [])) ≡ length body + 2 = omega (arith, length-append body (34 ∷ [])) in
    rw (append_assoc body (34 ∷ []) rest, len) (ap (λ (t : List ℕ). string_end (length t) (drop (length t) (body ++ 34 ∷ rest))) whole ∙ ap (string_end (length body)) (drop_at body (34 ∷ rest) (length body) refl))

open_cut : (body rest : List ℕ) → Each in_string body → Ends (λ b. eqb b 34 || in_string b) rest → step_of (34 ∷ (body ++ rest)) ≡ step.Cut (length (34 ∷ body))
unfolding step_of
open_cut body rest each ends =
    let whole : take_while in_string (body ++ rest) ≡ body = while_each in_string body rest each (no_more rest ends) in
    let len : suc (length body) ≡ length body + 1 = omega arith in
    rw len (ap (λ (t : List ℕ). string_end (length t) (drop (length t) (body ++ rest))) whole ∙ ap (string_end (length body)) (drop_at body rest (length body) refl) ∙ at_end rest ends)
  where
    or_right : (a b : Bool) → (a || b) ≡ false → b ≡ false
    or_right true b h = absurd (true_false true refl h)
    or_right false b h = h

    or_left : (a b : Bool) → (a || b) ≡ false → a ≡ false
    or_left true b h = h
    or_left false b h = refl

    no_more : (rest : List ℕ) → Ends (λ b. eqb b 34 || in_string b) rest → Ends in_string rest
    no_more [] h = tt
    no_more (c ∷ cs) h = or_right (eqb c 34) (in_string c) h

    at_end : (rest : List ℕ) → Ends (λ b. eqb b 34 || in_string b) rest → string_end (length body) rest ≡ step.Cut (length body + 1)
    at_end [] h = refl
    at_end (c ∷ cs) h = rw (or_left (eqb c 34) (in_string c) h) refl

string_cut : (text rest : List ℕ) → IsString text rest → step_of (text ++ rest) ≡ step.Cut (length text)
string_cut text rest (body, each, inl e) = rw e (closed_cut body rest each)
string_cut text rest (body, each, inr (e, ends)) = rw e (open_cut body rest each ends)

-- a byte that begins a mark begins nothing else
abbrev MarkByte : ℕ → Type 0
MarkByte b = (is_blank b ≡ false) × (eqb b 37 ≡ false) × (is_letter b ≡ false) × (is_digit b ≡ false) × (eqb b 39 ≡ false) × (eqb b 34 ≡ false)

mark_byte : (b n : ℕ) → MarkByte n → eqb b n ≡ true → MarkByte b
mark_byte b n h e = subst (λ (t : ℕ). MarkByte t) (sym (eqb-true b n e)) h

one_byte : (b : ℕ) → is_some (mark_of_one b) ≡ true → MarkByte b
one_byte b h = grind (arith, nat_tests)

two_byte : (b c : ℕ) → is_some (mark_of_two b c) ≡ true → MarkByte b
two_byte b c h = grind (arith, nat_tests)

three_byte : (b c d : ℕ) → is_some (mark_of_three b c d) ≡ true → MarkByte b
three_byte b c d h = grind (arith, nat_tests)

step_mark : (b : ℕ) (bs : List ℕ) → MarkByte b → step_of (b ∷ bs) ≡ mark_step b bs
unfolding step_of
step_mark b bs h = rw (h.0, h.1, h.2, h.3, h.4, h.5) refl

some_none : (A : Type 0) (t : Bool) (x y z : A) → t ≡ false → y ≡ z → cond t x y ≡ z
some_none A true x y z h e = absurd (true_false true refl h)
some_none A false x y z h e = e

decide_false : (t : Bool) → (t ≡ true → ⊥) → t ≡ false
decide_false true h = absurd (h refl)
decide_false false h = refl

none_empty : (c : ℕ) (bs : List ℕ) → c ∷ bs ≡ [] → ⊥
none_empty c bs e = cc

one_cut : (b : ℕ) (rest : List ℕ) → IsMark (b ∷ []) rest → mark_step b rest ≡ step.Cut 1
one_cut b [] (one, longest) = rw one refl
one_cut b (c ∷ []) (one, longest) =
    some_none Step (is_some (mark_of_two b c)) _ _ _ (decide_false _ (λ h. none_empty c [] (longest (c ∷ []) [] refl h))) (rw one refl)
one_cut b (c ∷ d ∷ bs) (one, longest) =
    some_none Step (is_some (mark_of_three b c d)) _ _ _ (decide_false _ (λ h. none_empty c (d ∷ []) (longest (c ∷ d ∷ []) bs refl h)))
    (some_none Step (is_some (mark_of_two b c)) _ _ _ (decide_false _ (λ h. none_empty c [] (longest (c ∷ []) (d ∷ bs) refl h))) (rw one refl))

two_cut : (b c : ℕ) (rest : List ℕ) → IsMark (b ∷ c ∷ []) rest → mark_step b (c ∷ rest) ≡ step.Cut 2
two_cut b c [] (two, longest) = rw two refl
two_cut b c (d ∷ bs) (two, longest) = some_none Step (is_some (mark_of_three b c d)) _ _ _ (decide_false _ (λ h. none_empty d [] (longest (d ∷ []) bs refl h))) (rw two refl)

mark_cut : (text rest : List ℕ) → IsMark text rest → step_of (text ++ rest) ≡ step.Cut (length text)
mark_cut [] rest m = absurd (true_false false m.0 refl)
mark_cut (b ∷ []) rest m = step_mark b rest (one_byte b m.0) ∙ one_cut b rest m
mark_cut (b ∷ c ∷ []) rest m = step_mark b (c ∷ rest) (two_byte b c m.0) ∙ two_cut b c rest m
mark_cut (b ∷ c ∷ d ∷ []) rest m = step_mark b (c ∷ d ∷ rest) (three_byte b c d m.0) ∙ rw (m.0) refl
mark_cut (b ∷ c ∷ d ∷ x ∷ text) rest m = absurd (true_false false m.0 refl)

pub piece_step : (text rest : List ℕ) → IsPiece text rest → step_of (text ++ rest) ≡ step.Cut (length text)
piece_step [] rest (inl name) = absurd name
piece_step (b ∷ bs) rest (inl name) = name_cut b bs rest name
piece_step [] rest (inr (inl number)) = absurd number
piece_step (b ∷ bs) rest (inr (inl number)) = number_cut b bs rest number
piece_step text rest (inr (inr (inl character))) = character_cut text rest character
piece_step text rest (inr (inr (inr (inl string)))) = string_cut text rest string
piece_step text rest (inr (inr (inr (inr mark)))) = mark_cut text rest mark

-- no piece is empty
pub piece_some : (text rest : List ℕ) → IsPiece text rest → 1 ≤ length text
piece_some [] rest (inl h) = absurd h
piece_some [] rest (inr (inl h)) = absurd h
piece_some [] rest (inr (inr (inl (c, e, p)))) = absurd cc
piece_some [] rest (inr (inr (inr (inl (body, each, inl e))))) = absurd cc
piece_some [] rest (inr (inr (inr (inl (body, each, inr e))))) = let f = e.0 in absurd cc
piece_some [] rest (inr (inr (inr (inr m)))) = absurd (true_false false m.0 refl)
piece_some (b ∷ bs) rest h = omega arith

pub run_step : (run rest : List ℕ) → begins_gap (run ++ rest) ≡ false → Each is_letter_or_digit run → Ends is_letter_or_digit rest → digits_step (run ++ rest) ≡ step.Cut (length run)
unfolding digits_step
run_step [] [] gap each ends = refl
run_step [] (b ∷ bs) gap each ends =
    let none : take_while is_letter_or_digit (b ∷ bs) ≡ [] = while_each is_letter_or_digit [] (b ∷ bs) tt ends in
    rw (gap_left (is_blank b) (eqb b 37) gap, gap_right (is_blank b) (eqb b 37) gap) (ap (λ (t : List ℕ). step.Cut (length t)) none)
  where
    gap_left : (p q : Bool) → (p || q) ≡ false → p ≡ false
    gap_left true q h = h
    gap_left false q h = refl

    gap_right : (p q : Bool) → (p || q) ≡ false → q ≡ false
    gap_right true q h = absurd (true_false true refl h)
    gap_right false q h = h
run_step (b ∷ bs) rest gap each ends =
    let whole : take_while is_letter_or_digit (b ∷ (bs ++ rest)) ≡ b ∷ bs = while_each is_letter_or_digit (b ∷ bs) rest each ends in
    let no = follower_first b each.0 in
    rw (no.0, no.1) (ap (λ (t : List ℕ). step.Cut (length t)) whole)
  where
    follower_first : (b : ℕ) → is_letter_or_digit b ≡ true → (is_blank b ≡ false) × (eqb b 37 ≡ false)
    follower_first b h = grind (arith, nat_tests)

-- ---- layout, comments and places that can't be cut

pub blank_step : (o : Option Opened) (b : ℕ) (bs : List ℕ) → is_blank b ≡ true → next_step o (b ∷ bs) ≡ step.Skip 1 (lines_in (b ∷ []))
unfolding step_of digits_step
blank_step None b bs h = rw h refl
blank_step (Some x) b bs h = rw h refl

comment_next : (o : Option Opened) (bs : List ℕ) → next_step o (37 ∷ bs) ≡ comment_step bs
unfolding step_of digits_step
comment_next None bs = refl
comment_next (Some x) bs = refl

pub open_step : (o : Option Opened) (bs : List ℕ) → Each in_comment bs → next_step o (37 ∷ bs) ≡ step.Open
open_step o bs h =
    let all : take_while in_comment bs ≡ bs = ap (take_while in_comment) (sym (append-nil bs)) ∙ while_each in_comment bs [] h tt in
    comment_next o bs ∙ rw (all, eq-eqb (length bs) (length bs) refl) refl

pub comment_is : (o : Option Opened) (body rest : List ℕ) → Each in_comment body → next_step o (37 ∷ (body ++ 37 ∷ rest)) ≡ step.Skip (length body + 2) (lines_in body)
comment_is o body rest h =
    let front_of : take_while in_comment (body ++ 37 ∷ rest) ≡ body = while_each in_comment body (37 ∷ rest) h refl in
    let shorter : eqb (length body) (length (body ++ 37 ∷ rest)) ≡ false = neq_eqb (length body) (length (body ++ 37 ∷ rest)) (λ e. absurd (omega (arith, simp length-append at e))) in
    comment_next o (body ++ 37 ∷ rest) ∙ rw (front_of, shorter, take_at body (37 ∷ rest) (length body) refl) refl

pub bad_step : (b : ℕ) (bs : List ℕ) → is_blank b ≡ false → b ≢ 37 → ((text rest : List ℕ) → b ∷ bs ≡ text ++ rest → IsPiece text rest → ⊥) → step_of (b ∷ bs) ≡ step.Bad
bad_step b bs w p h = go (step_of (b ∷ bs)) (sees_plain (b ∷ bs))
  where
    go : (s : Step) → Sees None (b ∷ bs) s → s ≡ step.Bad
    go _ (s_finish o is) = absurd cc
    go _ (s_blank c cs is w2) = let same : b ≡ c = ap head_of is in absurd (true_false (is_blank c) w2 (subst (λ (t : ℕ). is_blank t ≡ false) same w))
    go _ (s_comment body rest is each len lines) = absurd (p (ap head_of is))
    go _ (s_open cs is each) = absurd (p (ap head_of is))
    go _ (s_piece text rest o is g len) = absurd (h text rest is g)
    go _ (s_run x run rest o is gap each ends len) = absurd cc
    go _ (s_bad c cs o is w2 p2 h2) = refl

-- ---- a step stays in the text

pub step_within : (o : Option Opened) (bytes : List ℕ) → IsWithin o (length bytes) (next_step o bytes)
step_within o bytes = go (next_step o bytes) (sees o bytes)
  where
    go : (s : Step) → Sees o bytes s → IsWithin o (length bytes) s
    go _ (s_finish none e) = tt
    go _ (s_blank b bs e w) = let size = ap length e in let few : lines_in (b ∷ []) ≤ 1 = count_by-le-length (λ x. eqb x 10) (b ∷ []) in (omega arith, omega arith, few)
    go _ (s_comment body rest e h len-is lines-is) = let size = ap length e in let few : lines_in body ≤ length body = count_by-le-length (λ x. eqb x 10) body in (omega arith, omega (arith, simp length-append at size), omega arith)
    go _ (s_open bs e h) = tt
    go _ (s_piece text rest none e g len-is) = let size = ap length e in let some = piece_some text rest g in (omega arith, omega (arith, simp length-append at size))
    go _ (s_run x run rest some e gap each ends len-is) = let size = ap length e in let one : pending o ≡ 1 = ap pending some in (omega arith, omega (arith, simp length-append at size))
    go _ (s_bad b bs none e w p h) = tt
