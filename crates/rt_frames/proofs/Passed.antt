-- What is known of arguments that were walked one after the other.
use Rattle.std.proofs.Common.{◌≡◌, ◌==◌, ◌≤◌, drop, map, ℕ, suc, ◌+◌, max, Bool, true, false, ◌&&◌, List, [], ◌∷◌, ◌++◌, length, Option, refl, sym, ap, ◌∙◌, arith, append_assoc}
use Rattle.std.proofs.lemmas.Bool.Decides.{nat_tests}
use Rattle.std.proofs.lemmas.List.{append-nil, drop_all, map-append}
use Rattle.rt_modes.specs.declared.mode.Mode.{Mode}
use Rattle.rt_tree_nodes.specs.declared.value.Value.{Value}
use Rattle.rt_tree.specs.Depth.{depth, arguments_depth}
use Rattle.rt_tree_nodes.specs.Scopes.{Scope}
use Rattle.rt_tree_nodes.specs.Typing.{all_suit, suits, terms_of}
use Rattle.rt_frames.specs.Measures.{Passing, pass_one, pass_all, is_none, first_suits, after_first}
use Rattle.rt_frames.specs.Points.{ValuePoints, value_points, values_of, arguments_points}
use Rattle.rt_frames.specs.Saturated.{saturated, saturated_point, saturated_points}
use Rattle.rt_frames.proofs.Shifted.{arguments_shift}
use Rattle.rt_frames.proofs.Sums.{arguments_saturated, joined_depths}

and_assoc : (a b c : Bool) → (a && b) && c ≡ a && (b && c)
and_assoc true b c = refl
and_assoc false b c = refl

and_false : (a : Bool) → a && false ≡ false
and_false true = refl
and_false false = refl

first_of_none : (a : Bool) (m : Option Mode) (n : Option ℕ) → a && first_suits m n [] ≡ false
first_of_none a m n = and_false a

some_left : (n : ℕ) → (suc n == 0) ≡ false
some_left n = grind (arith, nat_tests)

pub all_passed : (s : Passing) (vs : List ValuePoints) → (pass_all s vs).suit && is_none (pass_all s vs).wanted ≡ s.suit && all_suit s.wanted (values_of vs)
all_passed s [] = in_end s.wanted where
  in_end : (ws : List Mode) → s.suit && is_none ws ≡ s.suit && (length ws == 0)
  in_end [] = refl
  in_end (w ∷ ws) = ap (λ (b : Bool). s.suit && b) (sym (some_left (length ws)))
all_passed s (v ∷ vs) = all_passed (pass_one s v) vs ∙ next s.wanted where
  next : (ws : List Mode) → (s.suit && first_suits v.valued.mode v.valued.number ws) && all_suit (after_first ws) (values_of vs) ≡ s.suit && all_suit ws (v.valued ∷ values_of vs)
  next [] = rw (and_false s.suit) refl
  next (w ∷ ws) = and_assoc s.suit (suits w v.valued) (all_suit ws (values_of vs))

max_zero : (a : ℕ) → max a 0 ≡ a
max_zero a = grind arith

one_more : (a : ℕ) → a + 1 ≡ suc a
one_more a = grind arith

pub depth_passed : (s : Passing) (vs : List ValuePoints) → (pass_all s vs).depth ≡ max s.depth (saturated (arguments_depth s.offset (terms_of (values_of vs))))
depth_passed s [] = sym (max_zero s.depth)
depth_passed s (v ∷ vs) =
    let ts = terms_of (values_of vs) in
    depth_passed (pass_one s v) vs ∙ ap (λ (d : ℕ). max (pass_one s v).depth d) (arguments_saturated (s.offset + 1) ts)
    ∙ rw (one_more s.offset) (joined_depths s.depth s.offset (depth v.valued.tree) (arguments_depth (suc s.offset) ts))

module _ (c : Scope) where
  abbrev points_of : List Value → List ValuePoints
  points_of vs = map (value_points c) vs

  pub calls_passed : (s : Passing) (vs : List Value) → (pass_all s (map (value_points c) vs)).calls ≡ s.calls ++ saturated_points (arguments_points s.at (map (value_points c) vs))
  calls_passed s [] = sym (append-nil s.calls)
  calls_passed s (v ∷ vs) =
      let x = value_points c v in
      calls_passed (pass_one s x) vs ∙ ap (λ ps. (s.calls ++ saturated_points (x.points s.at)) ++ ps) (arguments_shift c vs (s.at + 1))
      ∙ rw (one_more s.at) (append_assoc s.calls (saturated_points (x.points s.at)) (saturated_points (arguments_points (suc s.at) (points_of vs))))
      ∙ ap (λ ps. s.calls ++ ps) (sym (map-append saturated_point (x.points s.at) (arguments_points (suc s.at) (points_of vs))))

zero_max : (a : ℕ) → max 0 a ≡ a
zero_max a = grind arith

-- behind the last argument
pub loop_done : (f : Value → ValuePoints) (s s0 : Passing) (vs : List Value) (i : ℕ) → length vs ≤ i → pass_all s (map f (drop i vs)) ≡ pass_all s0 (map f vs) → s ≡ pass_all s0 (map f vs)
loop_done f s s0 vs i l e = sym (ap (λ (x : List Value). pass_all s (map f x)) (drop_all i vs l)) ∙ e

pub depth_done : (s : Passing) (vs : List ValuePoints) → s.depth ≡ 0 → (pass_all s vs).depth ≡ saturated (arguments_depth s.offset (terms_of (values_of vs)))
depth_done s vs e = depth_passed s vs ∙ ap (λ (d : ℕ). max d (saturated (arguments_depth s.offset (terms_of (values_of vs))))) e ∙ zero_max (saturated (arguments_depth s.offset (terms_of (values_of vs))))
