-- How long words, lines and names are.
use Rattle.std.proofs.Common.{◌≡◌, ℕ, zero, suc, ◌+◌, ◌-◌, ◌<◌, ◌≤◌, ◌^◌, List, [], ◌∷◌, ◌++◌, length, codes, decimal, refl, sym, ap, ◌∙◌, arith, length-append, append-nil, append_assoc}
use Rattle.std.specs.Prelude.{slice_get}
use Rattle.std.proofs.lemmas.Fmt.{length-decimal-le}
use Rattle.pdp_core.specs.declared.cpu.Kind.{Kind}
use Rattle.pdp_core.specs.declared.cpu.Kind.TheVariants as kind
use Rattle.rt_words.specs.Operators.{octal6}
use Rattle.rt_report.specs.Faults.{kind_text, machine_words, console_words}
use Rattle.rt_report.specs.Lines.{behind, line}
use Rattle.rt_report.specs.Reports.{name_at, name_or_none, names_room}

-- ---- numbers

pub word_short : (n : ℕ) → n < 2 ^ 16 → length (decimal n) ≤ 5
word_short n h = length-decimal-le 5 n (omega arith) (omega (arith, h)) (omega (arith, h))

pub number_short : (n : ℕ) → n < 2 ^ 64 → length (decimal n) ≤ 20
number_short n h = length-decimal-le 20 n (omega arith) (omega (arith, h)) h

-- ---- lines

-- words, each with what stands before it, and the line's end
abbrev pub total : List (List ℕ) → ℕ
total [] = 1
total (w ∷ ws) = length w + 1 + total ws

behind_length : (ws : List (List ℕ)) → length (behind ws) ≡ total ws
behind_length [] = refl
behind_length (w ∷ ws) = omega (arith, length-append w (behind ws), behind_length ws)

pub line_length : (w : List ℕ) (ws : List (List ℕ)) → length (line (w ∷ ws)) ≡ length w + total ws
line_length w ws = omega (arith, length-append w (behind ws), behind_length ws)

-- a word that is lent as its bytes, and a number
pub count_room : (w bytes : List ℕ) (n : ℕ) → bytes ≡ w → n < 2 ^ 64 → length (line (bytes ∷ decimal n ∷ [])) ≤ length w + 22
count_room w bytes n e h = let same : length bytes ≡ length w = ap (λ (l : List ℕ). length l) e in omega (arith, line_length bytes (decimal n ∷ []), number_short n h, same)

pub console_room : (status : ℕ) (stream : List ℕ) → status < 2 ^ 64 → length (line (console_words status stream)) ≤ length stream + 28
console_room status stream h = omega (arith, line_length (codes "FAULT") (decimal status ∷ stream ∷ []), number_short status h)

kind_short : (k : Kind) → length (kind_text k) ≤ 8
kind_short kind.Odd = omega arith
kind_short kind.Reserved = omega arith
kind_short kind.Access = omega arith
kind_short kind.BadJump = omega arith

pub machine_room : (task : List ℕ) (k : Kind) (at : ℕ) → length (line (machine_words task k at)) ≤ length task + 50
machine_room task k at = omega (arith, line_length (codes "FAULT") (decimal 4 ∷ task ∷ kind_text k ∷ octal6 at ∷ []), number_short 4 (omega arith), kind_short k)

-- ---- parts

pub three_parts : (o a b c x y z : List ℕ) → x ≡ o ++ a → y ≡ x ++ b → z ≡ y ++ c → z ≡ o ++ (a ++ (b ++ (c ++ [])))
three_parts o a b c x y z p q r =
    r ∙ ap (λ (l : List ℕ). l ++ c) (q ∙ ap (λ (l : List ℕ). l ++ b) p) ∙ append_assoc (o ++ a) b c ∙ append_assoc o a (b ++ c)
    ∙ ap (λ (l : List ℕ). o ++ (a ++ (b ++ l))) (sym (append-nil c))

pub four_parts : (o a b c d x y z v : List ℕ) → x ≡ o ++ a → y ≡ x ++ b → z ≡ y ++ c → v ≡ z ++ d → v ≡ o ++ (a ++ (b ++ (c ++ d)))
four_parts o a b c d x y z v p q r s =
    s ∙ ap (λ (l : List ℕ). l ++ d) (r ∙ ap (λ (l : List ℕ). l ++ c) (q ∙ ap (λ (l : List ℕ). l ++ b) p)) ∙ append_assoc ((o ++ a) ++ b) c d ∙ append_assoc (o ++ a) b (c ++ d) ∙ append_assoc o a (b ++ (c ++ d))

pub only_line : (o ws x : List ℕ) → x ≡ o ++ ws → x ≡ o ++ (ws ++ [])
only_line o ws x e = e ∙ ap (λ (l : List ℕ). o ++ l) (sym (append-nil ws))

-- ---- names

named_room : (names : List (List ℕ)) (i : ℕ) → length (name_or_none (slice_get names i)) ≤ names_room names
named_room [] i = omega arith
named_room (n ∷ ns) zero = omega arith
named_room (n ∷ ns) (suc i) = omega (arith, named_room ns i)

pub name_room : (names : List (List ℕ)) (i : ℕ) → length (name_at names i) ≤ names_room names
name_room names i = named_room names (i - 1)
