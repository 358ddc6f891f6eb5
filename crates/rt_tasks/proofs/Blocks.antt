-- Where blocks lie, one task after another.
use Rattle.std.proofs.Common.{◌≡◌, ℕ, suc, ◌+◌, ◌-◌, ◌*◌, ◌%◌, ◌<◌, ◌≤◌, List, [], ◌∷◌, length, get_or, drop, map, sum, refl, sym, ap, ◌∙◌, arith, drop-cons, add-one, inl, inr}
use Rattle.std.proofs.lemmas.List.Sums.{sum_by-cons}
use Rattle.std.proofs.lemmas.Option.{slice_get_cases}
use Rattle.std.specs.Prelude.{slice_get, IfSome}
use Rattle.rt_image.specs.declared.image.ImageTask.{ImageTask}
use Rattle.rt_image.specs.Memory.{block_from}
use Rattle.rt_image.specs.Ranges.{task_size}

-- the first i of n blocks are behind
pub record IsOnTheWay (ts : List ImageTask) (n start i at : ℕ) : Type 0 where
  pub value : block_from (drop i ts) (n - i) at ≡ block_from ts n start
  pub room : at + sum (map task_size (drop i ts)) ≡ start + sum (map task_size ts)
  pub behind : start ≤ at
  pub even : start % 2 ≡ 0 → at % 2 ≡ 0

pub way_begins : (ts : List ImageTask) (n start : ℕ) → IsOnTheWay ts n start 0 start
way_begins ts n start = record { value = (let z : n - 0 ≡ n = omega arith in ap (λ (k : ℕ). block_from ts k start) z); room = refl; behind = omega arith; even = λ h. h }

here : (ts : List ImageTask) (i : ℕ) (t : ImageTask) → i < length ts → t ≡ get_or ts i t → drop i ts ≡ t ∷ drop (i + 1) ts
here ts i t h e = drop-cons ts i t h ∙ ap (λ (x : ImageTask). x ∷ drop (suc i) ts) (sym e) ∙ ap (λ (k : ℕ). t ∷ drop k ts) (sym (add-one i))

pub way_goes_on : (ts : List ImageTask) (n start i at : ℕ) (t : ImageTask) → i < n → i < length ts → t ≡ get_or ts i t → IsOnTheWay ts n start i at → IsOnTheWay ts n start (i + 1) (at + (16 + 2 * t.stack))
way_goes_on ts n start i at t k h e w =
    let d : drop i ts ≡ t ∷ drop (i + 1) ts = here ts i t h e in
    let m : n - i ≡ suc (n - (i + 1)) = omega arith in
    let v = w.value in
    let r = w.room in
    let r2 : at + sum (map task_size (t ∷ drop (i + 1) ts)) ≡ start + sum (map task_size ts) = rw d at r in
    let c : sum (map task_size (t ∷ drop (i + 1) ts)) ≡ task_size t + sum (map task_size (drop (i + 1) ts)) = sum_by-cons (λ (x : ℕ). x) (task_size t) (map task_size (drop (i + 1) ts)) in
    record { value = rw (d, m) at v; room = omega (arith, r2, c); behind = omega (arith, w.behind); even = λ z. omega (arith, w.even z) }

-- the block of the task that is next
at_front : (ts : List ImageTask) (a : ℕ) → block_from ts 0 a ≡ a
at_front [] a = refl
at_front (t ∷ ts) a = refl

pub way_ends : (ts : List ImageTask) (n start at : ℕ) → IsOnTheWay ts n start n at → at ≡ block_from ts n start
way_ends ts n start at w =
    let z : n - n ≡ 0 = omega arith in
    let v = w.value in
    let e : block_from (drop n ts) 0 at ≡ block_from ts n start = rw z at v in
    sym (at_front (drop n ts) at) ∙ e

pub way_has_room : (ts : List ImageTask) (n start at : ℕ) (t : ImageTask) → n < length ts → t ≡ get_or ts n t → IsOnTheWay ts n start n at → start + sum (map task_size ts) ≤ 57344 → at + task_size t ≤ 57344
way_has_room ts n start at t h e w room =
    let d : drop n ts ≡ t ∷ drop (n + 1) ts = here ts n t h e in
    let r = w.room in
    let r2 : at + sum (map task_size (t ∷ drop (n + 1) ts)) ≡ start + sum (map task_size ts) = rw d at r in
    let c : sum (map task_size (t ∷ drop (n + 1) ts)) ≡ task_size t + sum (map task_size (drop (n + 1) ts)) = sum_by-cons (λ (x : ℕ). x) (task_size t) (map task_size (drop (n + 1) ts)) in
    omega (arith, r2, c, room)

pub way_is_inside : (ts : List ImageTask) (n start at : ℕ) → IsOnTheWay ts n start n at → start + sum (map task_size ts) ≤ 57344 → IfSome (slice_get ts n) (λ t. at + task_size t ≤ 57344)
way_is_inside ts n start at w room =
    elim (slice_get_cases ts n).1 [
      | inl r ↦ rw r.2 (way_has_room ts n start at r.0 r.1 (sym r.3) w room)
      | inr r ↦ rw r.1 tt
    ]
