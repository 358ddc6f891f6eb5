-- What a format leaves, and the field that it refuses, lie within the bytes that stand there.
use Rattle.std.proofs.Common.{◌≡◌, ℕ, zero, suc, ◌+◌, ◌≤◌, Bool, List, [], ◌∷◌, ◌++◌, length, Option, inl, inr, ap, ◌∙◌, arith}
use Rattle.std.proofs.lemmas.List.{length-append}
use Rattle.rt_words.specs.Format.{Format, nothing, never, byte, word, block, tag, name, ◌>>=◌, each, times, or_zero, passing, whole}

pub record Within {A : Type 0} (P : Format A) : Type 0 where
  pub left : (l r : List ℕ) (a : A) → P.Fits l r a → length r ≤ length l
  pub field : (l : List ℕ) (n : ℕ) → P.Refuses l n → n ≤ length l

pub in_nothing : {A : Type 0} (a : A) → Within (nothing a)
in_nothing a = record { left = λ l r x h. let e = ap length h.0 in omega arith; field = λ l n h. absurd h }

pub in_never : {A : Type 0} → Within (never {A = A})
in_never = record { left = λ l r x h. absurd h; field = λ l n h. omega arith }

pub in_byte : {A : Type 0} (of : ℕ → Option A) → Within (byte of)
in_byte of = record { left = λ l r x h. let e = ap length h.1 in omega arith; field = λ l n h. let e = h.0 in omega arith }

pub in_word : {A : Type 0} (of : ℕ → Option A) → Within (word of)
in_word of = record { left = λ l r x h. let e = ap length h.2 in omega arith; field = λ l n h. let e = h.0 in omega arith }

pub in_block : (count : ℕ) → Within (block count)
in_block count = record { left = λ l r x h. let e : length l ≡ length x + length r = ap length h.0 ∙ length-append x r in omega arith; field = λ l n h. let e = h.0 in omega arith }

pub in_tag : (bytes : List ℕ) → Within (tag bytes)
in_tag bytes = record { left = λ l r x h. let e : length l ≡ length bytes + length r = ap length h ∙ length-append bytes r in omega arith; field = λ l n h. let e = h.0 in omega arith }

pub in_name : Within name
in_name = record { left = λ l r x h. let e : length l ≡ suc (length x + length r) = ap length h.0 ∙ ap suc (length-append x r) in omega arith; field = λ l n h. let e = h.0 in omega arith }

pub in_then : {A B : Type 0} (P : Format A) (Q : A → Format B) → Within P → ((a : A) → Within (Q a)) → Within (P >>= Q)
in_then P Q g h = record {
  left = λ l r b f. let one = g.left l f.0 f.1 f.2 in let two = (h f.1).left f.0 r b f.3 in omega arith;
  field = λ l n f. elim f [ inl k ↦ g.field l n k | inr (m, a, fits, k) ↦ let one = g.left l m a fits in let two = (h a).field m n k in omega arith ];
}

pub in_each : {A : Type 0} (P : List A → Format A) → ((found : List A) → Within (P found)) → (n : ℕ) (found : List A) → Within (each P n found)
unfolding each
in_each P g zero found = in_nothing found
in_each P g (suc n) found = in_then (P found) (λ x. each P n (found ++ x ∷ [])) (g found) (λ x. in_each P g n (found ++ x ∷ []))

pub in_times : {A : Type 0} (P : Format A) (n : ℕ) (found : List A) → Within P → Within (times P n found)
in_times P n found g = in_each (λ _. P) (λ _. g) n found

pub in_or_zero : {A : Type 0} (P : Format A) → Within P → Within (or_zero P)
in_or_zero P g = record {
  left = λ l r x f. elim f [ inl k ↦ let e = ap length k.0 in omega arith | inr (_, (a, fits, e)) ↦ g.left l r a fits ];
  field = λ l n f. g.field l n f.1;
}

pub in_passing : {A : Type 0} (test : A → Bool) (P : Format A) → Within P → Within (passing test P)
in_passing test P g = record {
  left = λ l r x f. g.left l r x f.0;
  field = λ l n f. elim f [ inl k ↦ g.field l n k | inr k ↦ let e = k.0 in omega arith ];
}

pub in_whole : {A : Type 0} (P : Format A) → Within P → Within (whole P)
in_whole P g = record {
  left = λ l r x f. let e = ap length f.1 in omega arith;
  field = λ l n f. elim f [ inl k ↦ g.field l n k | inr (b, r, x, fits, e) ↦ let one = g.left l (b ∷ r) x fits in omega arith ];
}
