-- Modes are the same exactly where they are equal.
use Rattle.std.proofs.Common.{◌≡◌, ℕ, ◌==◌, ◌&&◌, Bool, true, false, List, [], ◌∷◌, Option, Some, None, map, option_map, arith, refl, sym, ap, ◌∙◌, subst}
use Rattle.std.proofs.lemmas.Bool.{false≢true}
use Rattle.std.proofs.lemmas.Bool.Decides.{nat_tests}
use Rattle.rt_modes.specs.declared.mode.Mode.{Mode, out-Mode, roll-Mode, map-Mode, the_lemmas}
use Rattle.rt_modes.specs.declared.mode.Mode.TheFolds.{ind-Mode, fold_out-Mode}
use Rattle.rt_modes.specs.declared.mode.Mode.TheOpen.{Mode-F}
use Rattle.rt_tree_nodes.specs.Scopes.{Layer, same, layer_same, all_same, result_same}

-- one layer, with the tests of the modes inside it
abbrev tests : Layer → Mode-F (Mode → Bool)
tests = map-Mode Mode (Mode → Bool) same

same_at : (m n : Mode) (l : Layer) → out-Mode m ≡ l → same m n ≡ layer_same (tests l) (out-Mode n)
same_at m n l e =
    ap (λ (f : Mode → Bool). f n) (fold_out-Mode (Mode → Bool) (λ f m. layer_same f (out-Mode m)) m)
    ∙ ap (λ (k : Layer). layer_same (tests k) (out-Mode n)) e

roll_out : (m : Mode) → roll-Mode (out-Mode m) ≡ m
roll_out m = search the_lemmas

out_roll : (l : Layer) → out-Mode (roll-Mode l) ≡ l
out_roll l = search the_lemmas

pub out_same : (m n : Mode) → out-Mode m ≡ out-Mode n → m ≡ n
out_same m n e = sym (roll_out m) ∙ ap roll-Mode e ∙ roll_out n

never : {A : Type 0} → false ≡ true → A
never e = absurd (false≢true e)

left_of : (a b : Bool) → a && b ≡ true → a ≡ true
left_of true b e = refl
left_of false b e = e

right_of : (a b : Bool) → a && b ≡ true → b ≡ true
right_of true b e = e
right_of false b e = never e

equal_numbers : (k n : ℕ) → (k == n) ≡ true → k ≡ n
equal_numbers k n e = grind (arith, nat_tests)

abbrev Known : Mode → Type 0
Known m = (n : Mode) → same m n ≡ true → m ≡ n

abbrev Pair : Type 0
Pair = (m : Mode) × Known m

rows_equal : (m n : Mode) (ms ns : List Mode) → m ≡ n → ms ≡ ns → m ∷ ms ≡ n ∷ ns
rows_equal m n ms ns e h = rw (e, h) refl

all_equal : (ps : List Pair) (qs : List Mode) → all_same (map same (map (λ e. e.0) ps)) qs ≡ true → map (λ e. e.0) ps ≡ qs
all_equal [] [] e = refl
all_equal [] (q ∷ qs) e = never e
all_equal (p ∷ ps) [] e = never e
all_equal (p ∷ ps) (q ∷ qs) e =
    let first : p.0 ≡ q = p.1 q (left_of (same p.0 q) (all_same (map same (map (λ e. e.0) ps)) qs) e) in
    let rest : map (λ e. e.0) ps ≡ qs = all_equal ps qs (right_of (same p.0 q) (all_same (map same (map (λ e. e.0) ps)) qs) e) in
    rows_equal p.0 q (map (λ e. e.0) ps) qs first rest

result_equal : (r : Option Pair) (q : Option Mode) → result_same (option_map same (option_map (λ e. e.0) r)) q ≡ true → option_map (λ e. e.0) r ≡ q
result_equal None None e = refl
result_equal None (Some q) e = never e
result_equal (Some p) None e = never e
result_equal (Some p) (Some q) e = ap (λ (m : Mode). Some m) (p.1 q e)

abbrev plain : Mode-F Pair → Layer
plain y = map-Mode Pair Mode (λ e. e.0) y

array_equal : (k j : ℕ) (m n : Mode) → k ≡ j → m ≡ n → Mode-F.Array k m ≡ Mode-F.Array j n
array_equal k j m n e h = rw (e, h) refl

proc_equal : (ps qs : List Mode) (r q : Option Mode) → ps ≡ qs → r ≡ q → Mode-F.Proc ps r ≡ Mode-F.Proc qs q
proc_equal ps qs r q e h = rw (e, h) refl

level_equal : (y : Mode-F Pair) (l : Layer) → layer_same (tests (plain y)) l ≡ true → plain y ≡ l
level_equal Mode-F.Byte Mode-F.Byte e = refl
level_equal Mode-F.Byte _ e = never e
level_equal Mode-F.Int Mode-F.Int e = refl
level_equal Mode-F.Int _ e = never e
level_equal Mode-F.Frac Mode-F.Frac e = refl
level_equal Mode-F.Frac _ e = never e
level_equal Mode-F.Label Mode-F.Label e = refl
level_equal Mode-F.Label _ e = never e
level_equal (Mode-F.Ref p) (Mode-F.Ref n) e = ap (λ (m : Mode). Mode-F.Ref m) (p.1 n e)
level_equal (Mode-F.Ref p) _ e = never e
level_equal (Mode-F.RefArray p) (Mode-F.RefArray n) e = ap (λ (m : Mode). Mode-F.RefArray m) (p.1 n e)
level_equal (Mode-F.RefArray p) _ e = never e
level_equal (Mode-F.Array k p) (Mode-F.Array j n) e =
    let counts : k ≡ j = equal_numbers k j (left_of (k == j) (same p.0 n) e) in
    let of : p.0 ≡ n = p.1 n (right_of (k == j) (same p.0 n) e) in
    array_equal k j p.0 n counts of
level_equal (Mode-F.Array k p) _ e = never e
level_equal (Mode-F.Record k) (Mode-F.Record n) e = ap (λ (r : ℕ). Mode-F.Record r) (equal_numbers k n e)
level_equal (Mode-F.Record k) _ e = never e
level_equal (Mode-F.Proc ps None) (Mode-F.Proc qs q) e =
    let params : map (λ e. e.0) ps ≡ qs = all_equal ps qs (left_of (all_same (map same (map (λ e. e.0) ps)) qs) (result_same None q) e) in
    let answer : None ≡ q = result_equal None q (right_of (all_same (map same (map (λ e. e.0) ps)) qs) (result_same None q) e) in
    proc_equal _ _ _ _ params answer
level_equal (Mode-F.Proc ps None) _ e = never e
level_equal (Mode-F.Proc ps (Some r)) (Mode-F.Proc qs q) e =
    let params : map (λ e. e.0) ps ≡ qs = all_equal ps qs (left_of (all_same (map same (map (λ e. e.0) ps)) qs) (result_same (Some (same r.0)) q) e) in
    let answer : Some r.0 ≡ q = result_equal (Some r) q (right_of (all_same (map same (map (λ e. e.0) ps)) qs) (result_same (Some (same r.0)) q) e) in
    proc_equal _ _ _ _ params answer
level_equal (Mode-F.Proc ps (Some r)) _ e = never e

opened : (m : Mode) (y : Mode-F Pair) → out-Mode m ≡ plain y → Known m
opened m y o n e =
    out_same m n (o ∙ level_equal y (out-Mode n) (sym (same_at m n (plain y) o) ∙ e))

pub same_equal : (m : Mode) → Known m
same_equal = ind-Mode Known (λ x y is. opened (roll-Mode x) y (out_roll x ∙ sym is))

-- ---- a mode is the same as itself

abbrev Itself : Mode → Type 0
Itself m = same m m ≡ true

abbrev SelfPair : Type 0
SelfPair = (m : Mode) × Itself m

abbrev plain_self : Mode-F SelfPair → Layer
plain_self y = map-Mode SelfPair Mode (λ e. e.0) y

both_true : (a b : Bool) → a ≡ true → b ≡ true → a && b ≡ true
both_true a b e h = rw e h

number_itself : (k : ℕ) → (k == k) ≡ true
number_itself k = grind (arith, nat_tests)

all_themselves : (ps : List SelfPair) → all_same (map same (map (λ e. e.0) ps)) (map (λ e. e.0) ps) ≡ true
all_themselves [] = refl
all_themselves (p ∷ ps) = both_true (same p.0 p.0) (all_same (map same (map (λ e. e.0) ps)) (map (λ e. e.0) ps)) p.1 (all_themselves ps)

level_itself : (y : Mode-F SelfPair) → layer_same (tests (plain_self y)) (plain_self y) ≡ true
level_itself Mode-F.Byte = refl
level_itself Mode-F.Int = refl
level_itself Mode-F.Frac = refl
level_itself Mode-F.Label = refl
level_itself (Mode-F.Ref p) = p.1
level_itself (Mode-F.RefArray p) = p.1
level_itself (Mode-F.Array k p) = both_true (k == k) (same p.0 p.0) (number_itself k) p.1
level_itself (Mode-F.Record k) = number_itself k
level_itself (Mode-F.Proc ps None) = both_true (all_same (map same (map (λ e. e.0) ps)) (map (λ e. e.0) ps)) true (all_themselves ps) refl
level_itself (Mode-F.Proc ps (Some r)) = both_true (all_same (map same (map (λ e. e.0) ps)) (map (λ e. e.0) ps)) (same r.0 r.0) (all_themselves ps) r.1

self_opened : (m : Mode) (y : Mode-F SelfPair) → out-Mode m ≡ plain_self y → Itself m
self_opened m y o = same_at m m (plain_self y) o ∙ subst (λ (l : Layer). layer_same (tests (plain_self y)) l ≡ true) (sym o) (level_itself y)

pub same_itself : (m : Mode) → Itself m
same_itself = ind-Mode Itself (λ x y is. self_opened (roll-Mode x) y (out_roll x ∙ sym is))

pub equal_same : (m n : Mode) → m ≡ n → same m n ≡ true
equal_same m n e = subst (λ (k : Mode). same m k ≡ true) e (same_itself m)
