-- The definitions that are still to come.
use Rattle.std.proofs.Common.{◌≡◌, ℕ, zero, suc, ◌+◌, ◌-◌, ◌^◌, ◌<◌, List, [], ◌∷◌, ◌++◌, Some, None, codes, append_assoc, length, refl, sym, arith}
use Rattle.rt_modes.specs.declared.mode.Field.{Field}
use Rattle.std.specs.List.{slice_get}
use Rattle.rt_modes.specs.declared.mode.ModeTable.{ModeTable}
use Rattle.rt_modes.specs.FullMode.{Word, Says, name_of, fields_of, fields_inside, mentioned, with_new}
use Rattle.rt_modes.specs.Left.{words_left, lead, defined_from, Puts}

no_more : (t : ModeTable) (fuel : ℕ) (known : List ℕ) (place : ℕ) → None ≡ slice_get known place → defined_from t fuel known place ≡ []
unfolding defined_from
no_more t zero known place e = refl
no_more t (suc fuel) known place e = rw (sym e, defined_from) refl

pub none_left : (t : ModeTable) (order : List ℕ) (place : ℕ) → None ≡ slice_get order place → words_left t order place [] ≡ []
none_left t order place e = no_more t (2 ^ 64 + length t.records - place) order place e

one_more : (t : ModeTable) (fuel rest : ℕ) (known : List ℕ) (place k : ℕ) → fuel ≡ suc rest → Some k ≡ slice_get known place
    → defined_from t fuel known place ≡ Says (lead place ++ (name_of t k ++ codes "(")) ∷ (fields_inside (fields_of t k) ++ defined_from t rest (with_new known (mentioned t (fields_inside (fields_of t k)))) (place + 1))
unfolding defined_from
one_more t fuel rest known place k e f = rw (e, sym f, defined_from) refl

pub one_left : (t : ModeTable) (order : List ℕ) (place k : ℕ) → place < 2 ^ 64 → Some k ≡ slice_get order place
    → words_left t order place [] ≡ Says (lead place ++ (name_of t k ++ codes "(")) ∷ words_left t order (place + 1) (fields_inside (fields_of t k))
one_left t order place k h e = one_more t (2 ^ 64 + length t.records - place) (2 ^ 64 + length t.records - (place + 1)) order place k (omega arith) e

-- the definition of a record is begun
pub begins : (t : ModeTable) (order : List ℕ) (place k : ℕ) (inside : List Field) (after : List Word) (name old new : List ℕ) → place + 1 < 2 ^ 64 → Some k ≡ slice_get order place
    → name ≡ name_of t k → inside ≡ fields_of t k → new ≡ ((old ++ lead place) ++ name) ++ 40 ∷ [] → after ≡ words_left t order (place + 1) (fields_inside inside)
    → Puts t (words_left t order place []) after old new
begins t order place k inside after name old new h e n i f g =
    rw (one_left t order place k (omega arith) e, g, f, n, i) (record { text = simp append_assoc; words = omega arith })
