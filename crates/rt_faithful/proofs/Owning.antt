-- The parts of an image's tasks lie apart, behind code and data.
use Rattle.std.proofs.Common.{◌≡◌, ◌≢◌, ◌⊎◌, ℕ, ◌+◌, ◌<◌, ◌≤◌, Bool, true, false, ◌||◌, length, refl, inl, inr, arith}
use Rattle.std.proofs.lemmas.Bool.Decides.{nat_tests}
use Rattle.pdp_core.specs.Protection.{usable, within}
use Rattle.rt_image.specs.declared.image.ImageParts.{ImageParts}
use Rattle.rt_image.specs.Laws.{LieInOrder}
use Rattle.rt_image.specs.Memory.{code_end, data_end, block_at, brick_at, brick_end}
use Rattle.rt_tasks.specs.Start.{places_of}

out_by : (low high a : ℕ) → (a < low) ⊎ (high ≤ a) → within low high a ≡ false
out_by low high a h = grind (arith, nat_tests)

-- what lies in no part of three may not be used
none_of : (x y z : Bool) → x ≡ false → y ≡ false → z ≡ false → (x || y || z) ≡ false
none_of false false false e f g = refl
none_of true y z e f g = absurd cc
none_of false true z e f g = absurd cc
none_of false false true e f g = absurd cc

less_or_more : (n m : ℕ) → (n ≡ m → ⊥) → (n < m) ⊎ (m < n)
less_or_more n m h = grind arith

module _ (image : ImageParts) (order : LieInOrder image) where
  pub others_may_not : (n m a : ℕ) → n < length image.tasks → m < length image.tasks → n ≢ m → block_at image m ≤ a → a < brick_end image m → usable (places_of image n) a ≡ false
  others_may_not n m a inn inm ne low high =
      let data_before = order.blocks_behind_data m in
      let own = order.bricks_behind_blocks n inn in
      none_of _ _ _
      (out_by (code_end image) (data_end image) a (inr (omega (arith, data_before, low))))
      (out_by (block_at image n) (block_at image n + 16) a (elim (less_or_more n m ne) [
        | inl h ↦ inr (let p = order.blocks_behind_bricks n m h inm in omega (arith, p, own, low))
        | inr h ↦ inl (let p = order.blocks_behind_bricks m n h inn in omega (arith, p, high))
      ]))
      (out_by (brick_at image n) (brick_end image n) a (elim (less_or_more n m ne) [
        | inl h ↦ inr (let p = order.blocks_behind_bricks n m h inm in omega (arith, p, low))
        | inr h ↦ inl (let p = order.blocks_behind_bricks m n h inn in omega (arith, p, high))
      ]))

  pub none_may : (n a : ℕ) → a < code_end image → usable (places_of image n) a ≡ false
  none_may n a less =
      let data_before = order.blocks_behind_data n in
      let code_before = order.data_behind_code in
      none_of _ _ _
      (out_by (code_end image) (data_end image) a (inl less)) (out_by (block_at image n) (block_at image n + 16) a (inl (omega (arith, less, data_before, code_before))))
      (out_by (brick_at image n) (brick_end image n) a (inl (omega (arith, less, data_before, code_before))))
