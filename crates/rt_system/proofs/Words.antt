-- Words in any mixture of cases.
use Rattle.std.proofs.Common.{◌≡◌, ◌≢◌, ℕ, true, false, List, length, map, ap, ◌∙◌}
use Rattle.std.specs.Str.{bytes_eq}
use Rattle.std.proofs.lemmas.Slice.Eq.{bytes_eq-Decides}
use Rattle.std.proofs.lemmas.List.{length-map}
use Rattle.rt_pieces.specs.Bytes.{upper}
use Rattle.rt_system.proofs.Tests.{not_true}

pub same_means : (a b : List ℕ) → bytes_eq a b ≡ true → a ≡ b
same_means a b h = (bytes_eq-Decides a b).0 h

pub same_is : (a b : List ℕ) → a ≡ b → bytes_eq a b ≡ true
same_is a b h = (bytes_eq-Decides a b).1 h

pub other_word : (a b : List ℕ) → (a ≡ b → ⊥) → bytes_eq a b ≡ false
other_word a b h = not_true (bytes_eq a b) (λ e. h (same_means a b e))

pub other_length : (word text : List ℕ) → length word ≢ length text → bytes_eq word (map upper text) ≡ false
other_length word text h = other_word word (map upper text) (λ e. h (ap length e ∙ length-map text upper))
