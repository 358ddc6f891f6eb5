-- Marks that are set, cleared and searched.
use Rattle.std.proofs.Common.{◌≡◌, ◌≢◌, ℕ, ◌+◌, ◌*◌, ◌/◌, ◌%◌, ◌^◌, ◌<◌, List, length, get_or, set, sym, ◌∙◌, ap, subst, inl, inr, arith, w64}
use Rattle.std.specs.Int.{bit_at, trailing_zeros}
use Rattle.std.proofs.lemmas.Bool.{cases_eq, cases_lt}
use Rattle.std.proofs.lemmas.List.{get_or-set_same, get_or-set_other}
use Rattle.std.proofs.lemmas.Nat.Bits.{bit_at-zero, bit_at-trailing_zeros}
use Rattle.rt_run.specs.Marks.{mark_of, IsLeastMark}

-- the word of priority p is replaced
pub changed_here : (ws : List ℕ) (p at v m : ℕ) → length ws ≡ 4 → p < 256 → at ≡ p / 64 → bit_at v (p % 64) ≡ m → mark_of (set ws at v) p ≡ m
changed_here ws p at v m n low e b =
    subst (λ a. mark_of (set ws a v) p ≡ m) (sym e)
    (ap (λ w. bit_at w (p % 64)) (get_or-set_same ws (p / 64) v 0 (omega arith)) ∙ b)

pub changed_others : (ws : List ℕ) (p at v q : ℕ) → length ws ≡ 4 → p < 256 → at ≡ p / 64 → q ≢ p → ((i : ℕ) → i < 64 → i ≢ p % 64 → bit_at v i ≡ bit_at (get_or ws at 0) i) → mark_of (set ws at v) q ≡ mark_of ws q
changed_others ws p at v q n low e d kept =
    elim (cases_eq (q / 64) at) [
      | inl same ↦
          subst (λ a. bit_at (get_or (set ws at v) a 0) (q % 64) ≡ bit_at (get_or ws a 0) (q % 64)) (sym same)
          (ap (λ w. bit_at w (q % 64)) (get_or-set_same ws at v 0 (omega arith)) ∙ kept (q % 64) (omega arith) (λ (f : q % 64 ≡ p % 64). d (omega arith)))
      | inr other ↦ ap (λ w. bit_at w (q % 64)) (get_or-set_other ws at (q / 64) v 0 other)
    ]

-- a word without a mark
pub none_in_word : (ws : List ℕ) (at : ℕ) → get_or ws at 0 ≡ 0 → ((q : ℕ) → q < at * 64 → mark_of ws q ≡ 0) → (q : ℕ) → q < (at + 1) * 64 → mark_of ws q ≡ 0
none_in_word ws at e below q h =
    elim (cases_lt q (at * 64)) [
      | inl low ↦ below q low
      | inr high ↦
          let here : q / 64 ≡ at = omega arith in
          ap (λ w. bit_at w (q % 64)) (ap (λ a. get_or ws a 0) here ∙ e) ∙ bit_at-zero (q % 64)
    ]

-- the least mark of the first word that has one
pub least_in_word : (ws : List ℕ) (at p : ℕ) → 0 < get_or ws at 0 → get_or ws at 0 < 2 ^ 64 → p ≡ at * 64 + trailing_zeros w64 (get_or ws at 0) → ((q : ℕ) → q < at * 64 → mark_of ws q ≡ 0) → IsLeastMark ws p
least_in_word ws at p some fits e below =
    let found = bit_at-trailing_zeros w64 (get_or ws at 0) some fits in
    let low = found.0 in
    let place : p / 64 ≡ at = omega arith in
    let bit : p % 64 ≡ trailing_zeros w64 (get_or ws at 0) = omega arith in
    record {
      marked = ap (λ a. bit_at (get_or ws a 0) (p % 64)) place ∙ (ap (λ i. bit_at (get_or ws at 0) i) bit ∙ found.1);
      least = λ q h.
          elim (cases_lt q (at * 64)) [
            | inl lower ↦ below q lower
            | inr high ↦
                let here : q / 64 ≡ at = omega arith in
                ap (λ a. bit_at (get_or ws a 0) (q % 64)) here ∙ found.2 (q % 64) (omega arith)
          ];
    }
