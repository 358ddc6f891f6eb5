-- Sums, greater numbers and depths in 16 bits.
use Rattle.std.proofs.Common.{◌≡◌, ◌≤◌, ◌<◌, ℕ, zero, suc, ◌+◌, max, ◌∙◌, refl, sym, ap, arith}
use Rattle.rt_tree.specs.Depth.{depth, arguments_depth, above, behind}
use Rattle.rt_tree_nodes.specs.Tree.{Terms, NoTerm, MoreTerms}
use Rattle.rt_frames.specs.Saturated.{saturated}

pub small_kept : (n : ℕ) → n < 65536 → saturated n ≡ n
small_kept n h = grind (arith, h)

pub saturated_twice : (a : ℕ) → saturated (saturated a) ≡ saturated a
saturated_twice a = grind arith

pub next_saturated : (a : ℕ) → saturated (suc (saturated a)) ≡ saturated (suc a)
next_saturated a = grind arith

pub sum_saturated : (a b : ℕ) → saturated (saturated a + b) ≡ saturated (a + b)
sum_saturated a b = grind arith

pub max_saturated : (a b : ℕ) → max (saturated a) (saturated b) ≡ saturated (max a b)
max_saturated a b = grind arith

pub above_saturated : (a b : ℕ) → saturated (above (saturated a) (saturated b)) ≡ saturated (above a b)
above_saturated a b = grind arith

behind_some : (a v : ℕ) → 1 ≤ a → behind a v ≡ above a v
behind_some zero v h = absurd (omega (arith, h))
behind_some (suc a) v h = refl

pub behind_saturated : (a v : ℕ) → saturated (behind (saturated a) (saturated v)) ≡ saturated (behind a v)
behind_saturated zero v = grind arith
behind_saturated (suc a) v = rw (behind_some (saturated (suc a)) (saturated v) (grind arith)) (above_saturated (suc a) v)

pub three_saturated : (d a : ℕ) → saturated (max (max 1 d) a) ≡ max (max 1 (saturated d)) (saturated a)
three_saturated d a = grind arith

pub joined_depths : (s o d a : ℕ) → max (max s (saturated (o + saturated d))) (saturated a) ≡ max s (saturated (max (o + d) a))
joined_depths s o d a = grind arith

-- ---- arguments

deeper_saturated : (k d x y : ℕ) → saturated x ≡ saturated y → saturated (max (saturated k + d) x) ≡ saturated (max (k + d) y)
deeper_saturated k d x y e = grind (arith, e)

pub arguments_saturated : (k : ℕ) (ts : Terms) → saturated (arguments_depth (saturated k) ts) ≡ saturated (arguments_depth k ts)
arguments_saturated k NoTerm = refl
arguments_saturated k (MoreTerms v vs) =
    deeper_saturated k (depth v) (arguments_depth (suc (saturated k)) vs) (arguments_depth (suc k) vs)
    (sym (arguments_saturated (suc (saturated k)) vs) ∙ ap (λ (n : ℕ). saturated (arguments_depth n vs)) (next_saturated k) ∙ arguments_saturated (suc k) vs)
