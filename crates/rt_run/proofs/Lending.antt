-- The one memory is the same, whether a task's block and brick stand with it or with what all share.
use Rattle.std.proofs.Common.{◌≡◌, ℕ, zero, suc, ◌+◌, ◌-◌, ◌*◌, ◌<◌, ◌≤◌, Bool, true, false, ◌&&◌, nat_lt, nat_le, if◌then◌else◌, List, [], ◌∷◌, length, Some, None, refl, sym, ap, ◌∙◌, inl, inr, arith, lt-ltb, le-ltb, ltb-true, leb-true}
use Rattle.std.specs.Prelude.{slice_get, slice_set, slice_index}
use Rattle.std.proofs.Math.Path.{fun_ext}
use Rattle.std.proofs.lemmas.Bool.Decides.{leb_tells, nat_tests}
use Rattle.std.proofs.lemmas.List.{get_or_past}
use Rattle.pdp_core.specs.Protection.{within}
use Rattle.rt_tasks.specs.Parts.{Sharing, Task, LieInOrder, EndAt, at_rest, with_task}
use Rattle.rt_tasks.specs.Whole.{memory_of, whole}
use Rattle.rt_run.specs.Picture.{task_byte, tasks_memory, others_memory}

-- no task before another reaches its block
pub record LieApart (ts : List Task) : Type 0 where
  pub order : (j k : ℕ) (t u : Task) → j < k → slice_get ts j ≡ Some t → slice_get ts k ≡ Some u → t.places.brick_end ≤ u.places.block
  pub each : (k : ℕ) (t : Task) → slice_get ts k ≡ Some t → LieInOrder t.own t.places

rest : (t : Task) (ts : List Task) → LieApart (t ∷ ts) → LieApart ts
rest t ts h = record { order = λ j k u v l e f. h.order (suc j) (suc k) u v (omega arith) e f; each = λ k u e. h.each (suc k) u e }

within_at : (low end a : ℕ) → within low end a ≡ true → (low ≤ a) × (a < end)
within_at low end a h = by (nat_le low a) (nat_lt a end) refl refl h
  where
    by : (l u : Bool) → nat_le low a ≡ l → nat_lt a end ≡ u → (l && u) ≡ true → (low ≤ a) × (a < end)
    by true true e f q = (leb-true low a e, ltb-true a end f)
    by true false e f q = absurd cc
    by false u e f q = absurd cc

above : (low end a : ℕ) → end ≤ a → within low end a ≡ false
above low end a h = rw (le-ltb a end h) (and_false (nat_le low a))
  where
    and_false : (x : Bool) → (x && false) ≡ false
    and_false true = refl
    and_false false = refl

below : (low end a : ℕ) → a < low → within low end a ≡ false
below low end a h = let e : nat_le low a ≡ false = grind (arith, nat_tests) in rw e refl

-- the bytes of all tasks are those of one, and else of the others
split : (ts : List Task) (k : ℕ) (t : Task) (a : ℕ) → LieApart ts → slice_get ts k ≡ Some t → task_byte t a (others_memory k ts a) ≡ tasks_memory ts a
unfolding tasks_memory others_memory
split [] k t a h e = absurd (let no : None ≡ Some t = e in cc)
split (u ∷ us) zero t a h e = let same : u ≡ t = cc in ap (λ (x : Task). task_byte x a (tasks_memory us a)) (sym same)
split (u ∷ us) (suc k) t a h e = by (within u.places.block u.places.brick_end a) refl (split us k t a (rest u us h) e)
  where
    by : (b : Bool) → within u.places.block u.places.brick_end a ≡ b → task_byte t a (others_memory k us a) ≡ tasks_memory us a → task_byte t a (others_memory (suc k) (u ∷ us) a) ≡ tasks_memory (u ∷ us) a
    by true f ih =
        let i = within_at u.places.block u.places.brick_end a f in
        let far : u.places.brick_end ≤ t.places.block = h.order 0 (suc k) u t (omega arith) refl e in
        let out : within t.places.block t.places.brick_end a ≡ false = below t.places.block t.places.brick_end a (omega (arith, i.1, far)) in
        rw (f, out) refl
    by false f ih = rw (f) ih

-- no task has a byte from 160000 octal on
none_high : (ts : List Task) (a : ℕ) → LieApart ts → 57344 ≤ a → tasks_memory ts a ≡ 0
unfolding tasks_memory
none_high [] a h l = refl
none_high (t ∷ ts) a h l =
    let o = h.each 0 t refl in
    let z : slice_index t.own (a - t.places.block) ≡ 0 = get_or_past t.own (a - t.places.block) 0 (omega (arith, o.all_own, l)) in
    by (within t.places.block t.places.brick_end a) z (none_high ts a (rest t ts h) l)
  where
    by : (b : Bool) → slice_index t.own (a - t.places.block) ≡ 0 → tasks_memory ts a ≡ 0 → (if b then slice_index t.own (a - t.places.block) else tasks_memory ts a) ≡ 0
    by true z y = z
    by false z y = y

-- what is read behind the data while no task runs
pub at_rest_byte : (s : Sharing) (ts : List Task) (a : ℕ) → LieApart ts → 2 * length s.code + length s.bytes ≤ a → whole (at_rest s) (tasks_memory ts) a ≡ tasks_memory ts a
unfolding memory_of
at_rest_byte s ts a h l = rw (le-ltb a (2 * length s.code) (omega arith), le-ltb a (2 * length s.code + length s.bytes) l) (by (within 57344 57360 a) refl)
  where
    by : (b : Bool) → within 57344 57360 a ≡ b → (if b then slice_index [] (a - 57344) else tasks_memory ts a) ≡ tasks_memory ts a
    by true e = sym (none_high ts a h (within_at 57344 57360 a e).0)
    by false e = refl

pub lent : (s : Sharing) (t : Task) (k : ℕ) (ts : List Task) → LieApart ts → slice_get ts k ≡ Some t → EndAt s.code s.bytes t.places → whole (with_task s t) (others_memory k ts) ≡ whole (at_rest s) (tasks_memory ts)
unfolding memory_of
lent s t k ts h e d = fun_ext (λ a. by a)
  where
    by : (a : ℕ) → whole (with_task s t) (others_memory k ts) a ≡ whole (at_rest s) (tasks_memory ts) a
    by a =
        elim (leb_tells (2 * length s.code + length s.bytes) a) [
          | inl q ↦ rw (le-ltb a t.places.code_end (omega (arith, d.0, q.1)), le-ltb a t.places.data_end (omega (arith, d.1, q.1))) (split ts k t a h e ∙ sym (at_rest_byte s ts a h q.1))
          | inr q ↦ elim (leb_tells (2 * length s.code) a) [
            | inl r ↦ rw (le-ltb a t.places.code_end (omega (arith, d.0, r.1)), lt-ltb a t.places.data_end (omega (arith, d.1, q.1)), le-ltb a (2 * length s.code) r.1, lt-ltb a (2 * length s.code + length s.bytes) q.1) (ap (λ (x : ℕ). slice_index s.bytes (a - x)) d.0)
            | inr r ↦ rw (lt-ltb a t.places.code_end (omega (arith, d.0, r.1)), lt-ltb a (2 * length s.code) r.1) refl
          ]
        ]

-- the others stay where a task changes
pub others_stay : (ts : List Task) (k : ℕ) (t : Task) (a : ℕ) → others_memory k (slice_set ts k t) a ≡ others_memory k ts a
unfolding others_memory
others_stay [] k t a = refl
others_stay (u ∷ us) zero t a = refl
others_stay (u ∷ us) (suc k) t a = ap (λ (x : ℕ). task_byte u a x) (others_stay us k t a)
