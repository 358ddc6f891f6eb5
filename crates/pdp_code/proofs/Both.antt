-- Decoding words, against the words of instructions.
use Rattle.std.proofs.Common.{◌≡◌, ℕ, suc, ◌+◌, ◌<◌, ◌≤◌, List, [], ◌∷◌, ◌++◌, length, get_or, drop, refl, sym, ap, ◌∙◌, subst, arith, append_assoc, Option, Some, None, length-append, drop-cons}
use Rattle.std.specs.Prelude.{slice_get, IfSome}
use Rattle.std.proofs.lemmas.Option.{slice_get_within, get_or_from_slice_get}
use Rattle.pdp_code.specs.declared.instruction.Operand.{Operand}
use Rattle.pdp_code.specs.declared.instruction.Operand.TheVariants.{Register, Deferred, Increment, IncrementDeferred, Decrement, DecrementDeferred, Index, IndexDeferred, Immediate, Absolute}
use Rattle.pdp_code.specs.declared.instruction.Instr.{Instr}
use Rattle.pdp_code.specs.declared.instruction.Instr.TheVariants.{Double, Sum, Single, OnWord, OnRegister, Branch, Loop, Jump, Call, Return, Trap, Flags}
use Rattle.pdp_code.specs.Code.{operand_code, operand_words, first_word, more_words, words_of, IsCodable}
use Rattle.pdp_code.specs.First.{first_of, blank_operand, blank}
use Rattle.pdp_code.specs.Decode.{chain, count, filled, completed, decoded, Begins}
use Rattle.pdp_code.proofs.Table.{first_of-first_word, first_word-first_of}

-- ---- what an instruction's words decode to

count_blank : (o : Operand) → count (blank_operand o) ≡ length (operand_words o)
count_blank (Register r) = refl
count_blank (Deferred r) = refl
count_blank (Increment r) = refl
count_blank (IncrementDeferred r) = refl
count_blank (Decrement r) = refl
count_blank (DecrementDeferred r) = refl
count_blank (Index r x) = refl
count_blank (IndexDeferred r x) = refl
count_blank (Immediate x) = refl
count_blank (Absolute x) = refl

at_seam : (pre : List ℕ) (x : ℕ) (rest : List ℕ) → slice_get (pre ++ x ∷ rest) (length pre) ≡ Some x
at_seam [] x rest = refl
at_seam (y ∷ pre) x rest = at_seam pre x rest

-- an operand's words stand after so many
fill_after : (o : Operand) (pre rest : List ℕ) → filled (blank_operand o) (pre ++ (operand_words o ++ rest)) (length pre) ≡ Some o
fill_after (Register r) pre rest = refl
fill_after (Deferred r) pre rest = refl
fill_after (Increment r) pre rest = refl
fill_after (IncrementDeferred r) pre rest = refl
fill_after (Decrement r) pre rest = refl
fill_after (DecrementDeferred r) pre rest = refl
fill_after (Index r x) pre rest = ap (λ v. chain v (λ w. Some (Index r w))) (at_seam pre x rest)
fill_after (IndexDeferred r x) pre rest = ap (λ v. chain v (λ w. Some (IndexDeferred r w))) (at_seam pre x rest)
fill_after (Immediate x) pre rest = ap (λ v. chain v (λ w. Some (Immediate w))) (at_seam pre x rest)
fill_after (Absolute x) pre rest = ap (λ v. chain v (λ w. Some (Absolute w))) (at_seam pre x rest)

-- an instruction of one operand
one_operand : (make : Operand → Instr) (d : Operand) (f : ℕ) (rest : List ℕ) →
    chain {B = Instr × ℕ} (filled (blank_operand d) (f ∷ (operand_words d ++ rest)) 1) (λ d2. Some (make d2, 1 + count (blank_operand d))) ≡ Some (make d, length (f ∷ operand_words d))
one_operand make d f rest =
    let n : 1 + count (blank_operand d) ≡ length (f ∷ operand_words d) = omega (arith, count_blank d) in
    ap (λ v. chain {B = Instr × ℕ} v (λ d2. Some (make d2, 1 + count (blank_operand d)))) (fill_after d (f ∷ []) rest) ∙ ap (λ k. Some (make d, k)) n

-- an instruction of two operands
two_operands : (make : Operand → Operand → Instr) (s d : Operand) (f : ℕ) (rest : List ℕ) →
    chain {B = Instr × ℕ} (filled (blank_operand s) (f ∷ ((operand_words s ++ operand_words d) ++ rest)) 1) (λ s2. chain {B = Instr × ℕ} (filled (blank_operand d) (f ∷ ((operand_words s ++ operand_words d) ++ rest)) (1 + count (blank_operand s))) (λ d2. Some (make s2 d2, 1 + count (blank_operand s) + count (blank_operand d)))) ≡ Some (make s d, length (f ∷ (operand_words s ++ operand_words d)))
two_operands make s d f rest =
    let os = operand_words s in
    let od = operand_words d in
    let e : f ∷ ((os ++ od) ++ rest) ≡ f ∷ (os ++ (od ++ rest)) = ap (λ v. f ∷ v) (append_assoc os od rest) in
    let g : 1 + count (blank_operand s) ≡ length (f ∷ os) = omega (arith, count_blank s) in
    let n : length (f ∷ os) + count (blank_operand d) ≡ length (f ∷ (os ++ od)) = omega (arith, count_blank d, length-append os od) in
    ap (λ ws. chain {B = Instr × ℕ} (filled (blank_operand s) ws 1) (λ s2. chain {B = Instr × ℕ} (filled (blank_operand d) ws (1 + count (blank_operand s))) (λ d2. Some (make s2 d2, 1 + count (blank_operand s) + count (blank_operand d))))) e
    ∙ ap (λ v. chain {B = Instr × ℕ} v (λ s2. chain {B = Instr × ℕ} (filled (blank_operand d) (f ∷ (os ++ (od ++ rest))) (1 + count (blank_operand s))) (λ d2. Some (make s2 d2, 1 + count (blank_operand s) + count (blank_operand d))))) (fill_after s (f ∷ []) (od ++ rest))
    ∙ ap (λ k. chain {B = Instr × ℕ} (filled (blank_operand d) (f ∷ (os ++ (od ++ rest))) k) (λ d2. Some (make s d2, k + count (blank_operand d)))) g
    ∙ ap (λ v. chain {B = Instr × ℕ} v (λ d2. Some (make s d2, length (f ∷ os) + count (blank_operand d)))) (fill_after d (f ∷ os) rest)
    ∙ ap (λ k. Some (make s d, k)) n

completed_blank : (i : Instr) (rest : List ℕ) → completed (blank i) (words_of i ++ rest) ≡ Some (i, length (words_of i))
completed_blank (Double o z s d) rest = two_operands (Double o z) s d (first_word (Double o z s d)) rest
completed_blank (Sum o s d) rest = two_operands (Sum o) s d (first_word (Sum o s d)) rest
completed_blank (Single o z d) rest = one_operand (Single o z) d (first_word (Single o z d)) rest
completed_blank (OnWord o d) rest = one_operand (OnWord o) d (first_word (OnWord o d)) rest
completed_blank (OnRegister o r s) rest = one_operand (OnRegister o r) s (first_word (OnRegister o r s)) rest
completed_blank (Branch c n) rest = refl
completed_blank (Loop r n) rest = refl
completed_blank (Jump d) rest = one_operand Jump d (first_word (Jump d)) rest
completed_blank (Call r d) rest = one_operand (Call r) d (first_word (Call r d)) rest
completed_blank (Return r) rest = refl
completed_blank (Trap n) rest = refl
completed_blank (Flags u n z v c) rest = refl

-- the words of an instruction decode to it, whatever follows
pub decoded_words : (i : Instr) (ws : List ℕ) → Begins i ws → decoded ws ≡ Some (i, length (words_of i))
decoded_words i ws b =
    ap decoded b.1.1
    ∙ ap (λ v. chain {B = Instr × ℕ} v (λ j. completed j (words_of i ++ b.1.0))) (first_of-first_word i b.0)
    ∙ completed_blank i b.1.0

-- ---- what words decode to

-- these words stand at this place among those
abbrev HasAt : List ℕ → ℕ → List ℕ → Type 0
HasAt ws at [] = Unit {0}
HasAt ws at (x ∷ xs) = (slice_get ws at ≡ Some x) × HasAt ws (at + 1) xs

has_both : (ws : List ℕ) (at : ℕ) (xs ys : List ℕ) → HasAt ws at xs → HasAt ws (at + length xs) ys → HasAt ws at (xs ++ ys)
has_both ws at [] ys h k = let e : at + 0 ≡ at = omega arith in subst (λ n. HasAt ws n ys) e k
has_both ws at (x ∷ xs) ys h k =
    let e : at + length (x ∷ xs) ≡ at + 1 + length xs = omega arith in
    (h.0, has_both ws (at + 1) xs ys h.1 (subst (λ n. HasAt ws n ys) e k))

has_drop : (ws : List ℕ) (at : ℕ) (xs : List ℕ) → HasAt ws at xs → drop at ws ≡ xs ++ drop (at + length xs) ws
has_drop ws at [] h = let e : at ≡ at + 0 = omega arith in ap (λ n. drop n ws) e
has_drop ws at (x ∷ xs) h =
    let within = slice_get_within ws at x h.0 in
    let e : at + 1 + length xs ≡ at + length (x ∷ xs) = omega arith in
    let g : at + 1 ≡ suc at = omega arith in
    drop-cons ws at 0 within ∙ ap (λ v. v ∷ drop (suc at) ws) (get_or_from_slice_get ws at x 0 h.0)
    ∙ ap (λ n. x ∷ drop n ws) (sym g) ∙ ap (λ v. x ∷ v) (has_drop ws (at + 1) xs h.1) ∙ ap (λ n. x ∷ (xs ++ drop n ws)) e

-- what filling gives
record IsFilled (o p : Operand) (ws : List ℕ) (at : ℕ) : Type 0 where
  code : operand_code p ≡ operand_code o
  has : HasAt ws at (operand_words p)
  many : count o ≡ length (operand_words p)

some_same : {A : Type 0} {x y : A} → Some x ≡ Some y → x ≡ y
some_same e = cc

filled_same : (o q p : Operand) (ws : List ℕ) (at : ℕ) → Some q ≡ Some p → IsFilled o q ws at → IsFilled o p ws at
filled_same o q p ws at e f = subst (λ v. IsFilled o v ws at) (some_same e) f

filled_word : (o p : Operand) (make : ℕ → Operand) (ws : List ℕ) (at : ℕ) (v : Option ℕ) → slice_get ws at ≡ v → chain v (λ w. Some (make w)) ≡ Some p → ((w : ℕ) → slice_get ws at ≡ Some w → IsFilled o (make w) ws at) → IsFilled o p ws at
filled_word o p make ws at None e q f = cc
filled_word o p make ws at (Some w) e q f = filled_same o (make w) p ws at q (f w e)

filled_is : (o p : Operand) (ws : List ℕ) (at : ℕ) → filled o ws at ≡ Some p → IsFilled o p ws at
filled_is (Register r) p ws at e = filled_same _ _ p ws at e (record { code = refl; has = tt; many = refl })
filled_is (Deferred r) p ws at e = filled_same _ _ p ws at e (record { code = refl; has = tt; many = refl })
filled_is (Increment r) p ws at e = filled_same _ _ p ws at e (record { code = refl; has = tt; many = refl })
filled_is (IncrementDeferred r) p ws at e = filled_same _ _ p ws at e (record { code = refl; has = tt; many = refl })
filled_is (Decrement r) p ws at e = filled_same _ _ p ws at e (record { code = refl; has = tt; many = refl })
filled_is (DecrementDeferred r) p ws at e = filled_same _ _ p ws at e (record { code = refl; has = tt; many = refl })
filled_is (Index r x) p ws at e = filled_word (Index r x) p (Index r) ws at (slice_get ws at) refl e (λ w h. record { code = refl; has = (h, tt); many = refl })
filled_is (IndexDeferred r x) p ws at e = filled_word (IndexDeferred r x) p (IndexDeferred r) ws at (slice_get ws at) refl e (λ w h. record { code = refl; has = (h, tt); many = refl })
filled_is (Immediate x) p ws at e = filled_word (Immediate x) p Immediate ws at (slice_get ws at) refl e (λ w h. record { code = refl; has = (h, tt); many = refl })
filled_is (Absolute x) p ws at e = filled_word (Absolute x) p Absolute ws at (slice_get ws at) refl e (λ w h. record { code = refl; has = (h, tt); many = refl })

-- what completing gives
record IsCompleted (i j : Instr) (n : ℕ) (ws : List ℕ) : Type 0 where
  word : first_word j ≡ first_word i
  codable : IsCodable i → IsCodable j
  has : HasAt ws 1 (more_words j)
  many : n ≡ length (words_of j)

abbrev Result : Instr → List ℕ → Option (Instr × ℕ) → Type 0
Result i ws None = Unit {0}
Result i ws (Some r) = IsCompleted i r.0 r.1 ws

by_one : (make : Operand → Instr) (d : Operand) (ws : List ℕ) (v : Option Operand) → filled d ws 1 ≡ v → ((p : Operand) → IsFilled d p ws 1 → IsCompleted (make d) (make p) (1 + count d) ws) → Result (make d) ws (chain {B = Instr × ℕ} v (λ p. Some (make p, 1 + count d)))
by_one make d ws None e f = tt
by_one make d ws (Some p) e f = f p (filled_is d p ws 1 e)

by_two : (make : Operand → Operand → Instr) (s d : Operand) (ws : List ℕ) → ((p q : Operand) → more_words (make p q) ≡ operand_words p ++ operand_words q) → ((p q : Operand) → operand_code p ≡ operand_code s → operand_code q ≡ operand_code d → first_word (make p q) ≡ first_word (make s d)) → ((p q : Operand) → IsCodable (make s d) → IsCodable (make p q)) → Result (make s d) ws (chain {B = Instr × ℕ} (filled s ws 1) (λ s2. chain {B = Instr × ℕ} (filled d ws (1 + count s)) (λ d2. Some (make s2 d2, 1 + count s + count d))))
by_two make s d ws more word codable = on_source (filled s ws 1) refl
  where
    on_target : (s2 : Operand) → IsFilled s s2 ws 1 → (v : Option Operand) → filled d ws (1 + count s) ≡ v → Result (make s d) ws (chain {B = Instr × ℕ} v (λ d2. Some (make s2 d2, 1 + count s + count d)))
    on_target s2 h None e = tt
    on_target s2 h (Some d2) e =
        let k = filled_is d d2 ws (1 + count s) e in
        let has = has_both ws 1 (operand_words s2) (operand_words d2) h.has (subst (λ n. HasAt ws (1 + n) (operand_words d2)) h.many k.has) in
        let n : 1 + count s + count d ≡ suc (length (operand_words s2 ++ operand_words d2)) = omega (arith, h.many, k.many, length-append (operand_words s2) (operand_words d2)) in
        record {
          word = word s2 d2 h.code k.code;
          codable = codable s2 d2;
          has = subst (λ v. HasAt ws 1 v) (sym (more s2 d2)) has;
          many = n ∙ ap (λ v. suc (length v)) (sym (more s2 d2));
        }

    on_source : (v : Option Operand) → filled s ws 1 ≡ v → Result (make s d) ws (chain {B = Instr × ℕ} v (λ s2. chain {B = Instr × ℕ} (filled d ws (1 + count s)) (λ d2. Some (make s2 d2, 1 + count s + count d))))
    on_source None e = tt
    on_source (Some s2) e = on_target s2 (filled_is s s2 ws 1 e) (filled d ws (1 + count s)) refl

completed_is : (i : Instr) (ws : List ℕ) → Result i ws (completed i ws)
completed_is (Double o z s d) ws = by_two (Double o z) s d ws (λ p q. refl) (λ p q e f. rw (e, f) refl) (λ p q c. c)
completed_is (Sum o s d) ws = by_two (Sum o) s d ws (λ p q. refl) (λ p q e f. rw (e, f) refl) (λ p q c. c)
completed_is (Single o z d) ws = by_one (Single o z) d ws (filled d ws 1) refl (λ p h. record { word = rw h.code refl; codable = λ c. c; has = h.has; many = omega (arith, h.many) })
completed_is (OnWord o d) ws = by_one (OnWord o) d ws (filled d ws 1) refl (λ p h. record { word = rw h.code refl; codable = λ c. c; has = h.has; many = omega (arith, h.many) })
completed_is (OnRegister o r s) ws = by_one (OnRegister o r) s ws (filled s ws 1) refl (λ p h. record { word = rw h.code refl; codable = λ c. c; has = h.has; many = omega (arith, h.many) })
completed_is (Branch c n) ws = record { word = refl; codable = λ c. c; has = tt; many = refl }
completed_is (Loop r n) ws = record { word = refl; codable = λ c. c; has = tt; many = refl }
completed_is (Jump d) ws = by_one Jump d ws (filled d ws 1) refl (λ p h. record { word = rw h.code refl; codable = λ c. c; has = h.has; many = omega (arith, h.many) })
completed_is (Call r d) ws = by_one (Call r) d ws (filled d ws 1) refl (λ p h. record { word = rw h.code refl; codable = λ c. c; has = h.has; many = omega (arith, h.many) })
completed_is (Return r) ws = record { word = refl; codable = λ c. c; has = tt; many = refl }
completed_is (Trap n) ws = record { word = refl; codable = λ c. c; has = tt; many = refl }
completed_is (Flags u n z v c) ws = record { word = refl; codable = λ c. c; has = tt; many = refl }

-- what is decoded begins the words
pub decoded_begins : (ws : List ℕ) (j : Instr) (n : ℕ) → ((k : ℕ) → get_or ws k 0 < 65536) → decoded ws ≡ Some (j, n) → Begins j ws × (n ≡ length (words_of j))
decoded_begins ws j n small e = on_word (slice_get ws 0) refl e
  where
    on_first : (w : ℕ) → slice_get ws 0 ≡ Some w → (v : Option Instr) → first_of w ≡ v → chain {B = Instr × ℕ} v (λ i. completed i ws) ≡ Some (j, n) → Begins j ws × (n ≡ length (words_of j))
    on_first w g None f q = cc
    on_first w g (Some i) f q =
        let below : w < 65536 = subst (λ x. x < 65536) (get_or_from_slice_get ws 0 w 0 g) (small 0) in
        let h = first_word-first_of w below i f in
        let c : IsCompleted i j n ws = subst (λ v. Result i ws v) q (completed_is i ws) in
        let has : HasAt ws 0 (words_of j) = (g ∙ ap Some (sym (c.word ∙ h.1)), c.has) in
        ((c.codable h.0, (drop (0 + length (words_of j)) ws, has_drop ws 0 (words_of j) has)), c.many)

    on_word : (v : Option ℕ) → slice_get ws 0 ≡ v → chain {B = Instr × ℕ} v (λ w. chain {B = Instr × ℕ} (first_of w) (λ i. completed i ws)) ≡ Some (j, n) → Begins j ws × (n ≡ length (words_of j))
    on_word None g q = cc
    on_word (Some w) g q = on_first w g (first_of w) refl q

pub decoded_found : (ws : List ℕ) → ((k : ℕ) → get_or ws k 0 < 65536) → IfSome (decoded ws) (λ d. Begins d.0 ws × (d.1 ≡ length (words_of d.0)))
decoded_found ws small = by_value (decoded ws) refl
  where
    by_value : (v : Option (Instr × ℕ)) → decoded ws ≡ v → IfSome v (λ d. Begins d.0 ws × (d.1 ≡ length (words_of d.0)))
    by_value None e = tt
    by_value (Some d) e = decoded_begins ws d.0 d.1 small e

-- ---- how many words

operand_few : (o : Operand) → length (operand_words o) ≤ 1
operand_few (Register r) = omega arith
operand_few (Deferred r) = omega arith
operand_few (Increment r) = omega arith
operand_few (IncrementDeferred r) = omega arith
operand_few (Decrement r) = omega arith
operand_few (DecrementDeferred r) = omega arith
operand_few (Index r x) = omega arith
operand_few (IndexDeferred r x) = omega arith
operand_few (Immediate x) = omega arith
operand_few (Absolute x) = omega arith

both_few : (s d : Operand) → length (operand_words s ++ operand_words d) ≤ 2
both_few s d = omega (arith, length-append (operand_words s) (operand_words d), operand_few s, operand_few d)

more_few : (i : Instr) → length (more_words i) ≤ 2
more_few (Double o z s d) = both_few s d
more_few (Sum o s d) = both_few s d
more_few (Single o z d) = omega (arith, operand_few d)
more_few (OnWord o d) = omega (arith, operand_few d)
more_few (OnRegister o r s) = omega (arith, operand_few s)
more_few (Branch c n) = omega arith
more_few (Loop r n) = omega arith
more_few (Jump d) = omega (arith, operand_few d)
more_few (Call r d) = omega (arith, operand_few d)
more_few (Return r) = omega arith
more_few (Trap n) = omega arith
more_few (Flags u n z v c) = omega arith

begins_long : (i : Instr) (ws : List ℕ) (n : ℕ) → Begins i ws × (n ≡ length (words_of i)) → (1 ≤ n) × (n ≤ 3) × (n ≤ length ws)
begins_long i ws n b =
    let more = more_few i in
    let whole : length ws ≡ length (words_of i) + length b.0.1.0 = ap length b.0.1.1 ∙ length-append (words_of i) b.0.1.0 in
    (omega (arith, b.1), omega (arith, b.1, more), omega (arith, b.1, whole))

pub decoded_long : (ws : List ℕ) → ((k : ℕ) → get_or ws k 0 < 65536) → IfSome (decoded ws) (λ d. (1 ≤ d.1) × (d.1 ≤ 3) × (d.1 ≤ length ws))
decoded_long ws small = by_value (decoded ws) refl
  where
    by_value : (v : Option (Instr × ℕ)) → decoded ws ≡ v → IfSome v (λ d. (1 ≤ d.1) × (d.1 ≤ 3) × (d.1 ≤ length ws))
    by_value None e = tt
    by_value (Some d) e = begins_long d.0 ws d.1 (decoded_begins ws d.0 d.1 small e)
