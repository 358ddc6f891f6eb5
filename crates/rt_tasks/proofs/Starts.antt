-- A task at the start.
use Rattle.std.proofs.Common.{◌≡◌, ℕ, zero, suc, ◌+◌, ◌*◌, ◌<◌, List, [], ◌∷◌, length, get_or, Option, Some, refl, sym, ap, ◌∙◌, subst, arith, length-append}
use Rattle.std.specs.Prelude.{slice_get, IfSome, replicate}
use Rattle.std.specs.List.{AllByRecursion}
use Rattle.std.proofs.lemmas.Option.{slice_get_read}
use Rattle.std.proofs.lemmas.List.{length-replicate}
use Rattle.pdp_core.specs.declared.cpu.Regs.{Regs}
use Rattle.pdp_core.specs.declared.memory.Protection.{Protection}
use Rattle.rt_image.specs.declared.image.ImageParts.{ImageParts}
use Rattle.rt_image.specs.declared.image.ImageTask.{ImageTask}
use Rattle.rt_image.specs.Memory.{words_bytes, task_bytes}
use Rattle.rt_image.specs.Ranges.{HasImageRanges, HasTaskRanges}
use Rattle.rt_tasks.specs.Parts.{Task, LieInOrder}
use Rattle.rt_tasks.proofs.Words.{length-words_bytes}
use Rattle.rt_tasks.specs.Start.{places_of, start_regs, start_task, IsStart, IsPlaced}

-- the block has 16 bytes
pub long : (i : ImageParts) → HasImageRanges i → (n : ℕ) (t : ImageTask) → slice_get i.tasks n ≡ Some t → length (task_bytes t) ≡ 16 + 2 * t.stack
long i h n t e =
    let r : HasTaskRanges (2 * length i.code) t = each i.tasks n h.each_task e in
    length-append (words_bytes t.block) (replicate (2 * t.stack) 0) ∙ omega (arith, length-words_bytes t.block, length-replicate {A = ℕ} (2 * t.stack) 0, r.block)
  where
    each : (ts : List ImageTask) (k : ℕ) → AllByRecursion (HasTaskRanges (2 * length i.code)) ts → slice_get ts k ≡ Some t → HasTaskRanges (2 * length i.code) t
    each [] k a q = absurd cc
    each (u ∷ us) zero a q = let same : u ≡ t = cc in subst (λ (x : ImageTask). HasTaskRanges (2 * length i.code) x) same a.0
    each (u ∷ us) (suc k) a q = each us k a.1 q

pub starts_at : (i j : ImageParts) (n k : ℕ) (task : Task) → i ≡ j → n ≡ k → IsStart i n task → IsStart j k task
starts_at i j n k task e f h = subst (λ (x : ImageParts). IsStart x k task) e (subst (λ (x : ℕ). IsStart i x task) f h)

module _ (i : ImageParts) (n : ℕ) (t : ImageTask) (there : n < length i.tasks) (is : t ≡ get_or i.tasks n t) (p : Protection) (own : List ℕ) (bytes : own ≡ task_bytes t) where
  got : slice_get i.tasks n ≡ Some t
  got = slice_get_read i.tasks (length i.tasks) n t refl there is

  pub starts : (g : Regs) → p ≡ places_of i n → g ≡ start_regs p t.entry → IsStart i n (record { regs = g; own = own; places = p })
  starts g e f =
      let same : record { regs = g; own = own; places = p } ≡ start_task i n t = rw (f, bytes, e) refl in
      subst (λ (o : Option ImageTask). IfSome o (λ u. record { regs = g; own = own; places = p } ≡ start_task i n u)) (sym got) same

  pub lies : HasImageRanges i → IfSome (slice_get i.tasks n) (IsPlaced p) → LieInOrder own p
  lies h q =
      let k : IsPlaced p t = subst (λ (o : Option ImageTask). IfSome o (IsPlaced p)) got q in
      let l : length own ≡ 16 + 2 * t.stack = ap length bytes ∙ long i h n t got in
      record {
        code = k.code;
        block = k.block;
        brick = k.brick;
        brick_end = omega (arith, k.brick_end);
        all_own = omega (arith, l, k.brick, k.brick_end, k.inside);
        low = omega (arith, k.inside);
        even_data = k.even_data;
        even_block = k.even_block;
        even_end = omega (arith, k.even_block, k.brick, k.brick_end);
      }
