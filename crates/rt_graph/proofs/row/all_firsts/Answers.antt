use Rattle.std.proofs.Common.{◌≡◌, inl, inr, ◌≤◌, ◌<◌, ◌+◌, ◌*◌, ◌∷◌, ◌++◌, [], ℕ, Some, length, slice_get, sym, ap, ◌∙◌, subst, arith}
use Rattle.std.proofs.lemmas.Option.{slice_get_read}
use Rattle.rt_digraph.proofs.Lists.{get_left, get_end, long_one}
use Rattle.rt_digraph.proofs.Moves.{same_or_not}
use Rattle.rt_graph.specs.Numbers.{before}
use Rattle.rt_graph.proofs.Rows.{before_more, before_none}
use Rattle.rt_graph.proofs.row.all_firsts.Goals as goal

pub loop-at-init : goal.loop-at-init
loop-at-init c =
    let none = before_none c.args.objects.now in record {
      first = (let e = c.from-first.ensures in omega arith);
      size = ap length c.in_ok-firsts.ensures;
      small = omega arith;
      each = λ m h. absurd (omega arith);
    }

pub loop-at-preserved : goal.loop-at-preserved
loop-at-preserved c =
    let objects = c.args.objects.now in
    let at = c.loop-at.at in
    let o = c.index-objects-at.result in
    let there : slice_get objects at ≡ Some o = slice_get_read objects (length objects) at o (omega arith) (omega arith) c.index-objects-at.is in
    let more : before objects (at + 1) ≡ before objects at + length o.bricks = before_more objects at o there in
    let long : c.len-first.result ≡ length o.bricks = c.len-first.ensures ∙ ap (λ p. length p.bricks) c.parts.ensures.parts in
    let few : length o.bricks ≤ 65535 = c.parts.ensures.ranges.bricks in
    let first : c.loop-at.first ≡ 11 + before objects at = c.loop-at.invariant.first in
    let small : before objects at ≤ 65535 * at = c.loop-at.invariant.small in
    let size : length c.loop-at.firsts ≡ at = c.loop-at.invariant.size in record {
      first = omega arith;
      size = ap length c.in_ok-push.ensures.ok ∙ long_one c.loop-at.firsts c.loop-at.first ∙ ap (λ (k : ℕ). k + 1) size;
      small = omega arith;
      each = λ m h. elim (same_or_not m at) [
        | inl same ↦ (
          subst (λ (xs : _). slice_get xs m ≡ Some (11 + before objects m)) (sym c.in_ok-push.ensures.ok)
              (subst (λ (k : ℕ). slice_get (c.loop-at.firsts ++ c.loop-at.first ∷ []) k ≡ Some (11 + before objects k)) (sym same)
              (subst (λ (k : ℕ). slice_get (c.loop-at.firsts ++ c.loop-at.first ∷ []) k ≡ Some (11 + before objects at)) size
              (get_end c.loop-at.firsts c.loop-at.first ∙ ap (λ (k : ℕ). Some k) first))),
          subst (λ (k : ℕ). before objects k ≤ 65535 * k) (sym same) small,
        )
        | inr other ↦ (let old = c.loop-at.invariant.each m (below m at h other) in
            (subst (λ (xs : _). slice_get xs m ≡ Some (11 + before objects m)) (sym c.in_ok-push.ensures.ok) (get_left c.loop-at.firsts (c.loop-at.first ∷ []) m (11 + before objects m) old.0), old.1))
      ];
    }
  where
    below : (m n : ℕ) → m < n + 1 → (m ≡ n → ⊥) → m < n
    below m n h other = grind (arith, h, other)
