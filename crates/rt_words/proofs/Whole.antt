-- What a right function answers of all bytes.
use Rattle.std.proofs.Common.{◌≡◌, ℕ, ◌-◌, ◌≤◌, List, [], length, Ok, Err, ◌⊎◌, inl, inr, refl, sym, ◌∙◌, arith}
use Rattle.rt_words.specs.Format.{Format, Spell, AreRefusedAt}
use Rattle.rt_words.specs.Reading.{Outcome, Reader}
use Rattle.rt_words.specs.Reading as reads
use Rattle.rt_words.proofs.Right.{Right, ok, err, read_same, same_err, right_whole}
use Rattle.rt_words.proofs.Within.{Within, in_whole}

module _ {A : Type 0} (p : Reader A) (P : Format A) (g : Right p P) (w : Within P) (bytes : List ℕ) where
  pub spelled : (a : A) (r : List ℕ) → reads.whole p bytes ≡ Ok (a, r) → Spell P bytes a
  spelled a r e = ((right_whole p P g).sound bytes r a e).0

  pub was_spelled : (a : A) → Spell P bytes a → reads.whole p bytes ≡ Ok (a, [])
  was_spelled a f = (right_whole p P g).complete bytes [] a (f, refl)

  pub field_inside : (n : ℕ) → reads.whole p bytes ≡ Err n → n ≤ length bytes
  field_inside n e = (in_whole P w).field bytes n ((right_whole p P g).refuses bytes n e)

  pub refused : (n : ℕ) → reads.whole p bytes ≡ Err n → AreRefusedAt P bytes (length bytes - n)
  refused n e =
      let inside = field_inside n e in
      let k : length bytes - (length bytes - n) ≡ n = omega arith in
      record { inside = omega arith; refused = rw k ((right_whole p P g).refuses bytes n e) }

  pub was_refused : (q : ℕ) → AreRefusedAt P bytes q → reads.whole p bytes ≡ Err (length bytes - q)
  was_refused q h = (right_whole p P g).refused bytes (length bytes - q) h.refused

  -- what is read is the one that the bytes are, and no field is refused
  pub same_value : (a b : A) (r : List ℕ) → reads.whole p bytes ≡ Ok (a, r) → Spell P bytes b → a ≡ b
  same_value a b r e f = (read_same a r b [] (sym e ∙ was_spelled b f)).0

  pub not_refused : (a : A) (r : List ℕ) → reads.whole p bytes ≡ Ok (a, r) → (q : ℕ) → AreRefusedAt P bytes q → ⊥
  not_refused a r e q h = let k : ok (a, r) ≡ err (length bytes - q) = sym e ∙ was_refused q h in absurd cc

  -- the field that is refused is the one, and the bytes are nothing of the format
  pub same_field : (n : ℕ) → reads.whole p bytes ≡ Err n → (q : ℕ) → AreRefusedAt P bytes q → length bytes - n ≡ q
  same_field n e q h = let k = same_err {A = A} n (length bytes - q) (sym e ∙ was_refused q h) in let i = h.inside in omega arith

  pub not_spelled : (n : ℕ) → reads.whole p bytes ≡ Err n → (a : A) → Spell P bytes a → ⊥
  not_spelled n e a f = let k : err n ≡ ok (a, []) = sym e ∙ was_spelled a f in absurd cc

  -- ---- all bytes are something of the format, or are refused at one place

  pub either : ((a : A) × Spell P bytes a) ⊎ ((q : ℕ) × AreRefusedAt P bytes q)
  either = by (reads.whole p bytes) refl
    where
      by : (o : Outcome A) → reads.whole p bytes ≡ o → ((a : A) × Spell P bytes a) ⊎ ((q : ℕ) × AreRefusedAt P bytes q)
      by (Ok x) e = inl (x.0, spelled x.0 x.1 e)
      by (Err n) e = inr (length bytes - n, refused n e)

  pub apart : (a : A) (q : ℕ) → Spell P bytes a → AreRefusedAt P bytes q → ⊥
  apart a q f h = not_refused a [] (was_spelled a f) q h

  pub one_field : (q s : ℕ) → AreRefusedAt P bytes q → AreRefusedAt P bytes s → q ≡ s
  one_field q s h k = let e = same_field (length bytes - q) (was_refused q h) s k in let i = h.inside in omega arith
