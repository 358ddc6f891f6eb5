-- A task that runs and is parked again.
use Rattle.std.proofs.Common.{◌≡◌, ◌⊎◌, ℕ, zero, suc, ◌+◌, ◌*◌, ◌<◌, ◌≤◌, List, [], ◌∷◌, length, map, Option, Some, None, refl, sym, ap, ◌∙◌, subst, inl, inr, arith, length-set}
use Rattle.std.specs.Prelude.{slice_get, slice_set}
use Rattle.std.proofs.Math.Path.{fun_ext}
use Rattle.std.proofs.lemmas.Bool.Decides.{eqb_tells}
use Rattle.pdp_core.specs.declared.cpu.Regs.{Regs}
use Rattle.pdp_core.specs.declared.memory.Protection.{Protection}
use Rattle.rt_image.specs.declared.image.ImageParts.{ImageParts}
use Rattle.rt_image.specs.declared.image.ImageTask.{ImageTask}
use Rattle.rt_image.specs.Memory.{block_from, stack_words, data_end}
use Rattle.rt_image.specs.Ranges.{task_size}
use Rattle.rt_rules.specs.Roster.{Roster}
use Rattle.rt_tasks.specs.Parts.{Sharing, Task, LieInOrder, EndAt, at_rest, with_task}
use Rattle.rt_tasks.specs.Start.{places_of}
use Rattle.rt_tasks.specs.Whole.{whole}
use Rattle.rt_run.specs.declared.carry.Carried.{Carried}
use Rattle.rt_run.specs.Ticking.{Ticking}
use Rattle.rt_run.specs.Boundaries.{State}
use Rattle.rt_run.specs.Picture.{ShowsRunning, Stands, Standing, Shows, tasks_memory, regs_of}
use Rattle.rt_run.specs.Turn.{Lasts, IsStopped, Goes, Turned}
use Rattle.rt_run.proofs.Lending.{LieApart, lent, others_stay}

-- ---- where the tasks of an image lie

from_rises : (ts : List ImageTask) (n a : ℕ) → a ≤ block_from ts n a
from_rises [] n a = omega arith
from_rises (t ∷ ts) zero a = omega arith
from_rises (t ∷ ts) (suc n) a = omega (arith, from_rises ts n (a + task_size t))

one_after : (ts : List ImageTask) (j k a : ℕ) → j < k → block_from ts j a + 16 + 2 * stack_words (slice_get ts j) ≤ block_from ts k a ⊎ length ts ≤ j
one_after [] j k a h = inr (omega arith)
one_after (t ∷ ts) zero zero a h = absurd (omega arith)
one_after (t ∷ ts) zero (suc k) a h = inl (omega (arith, from_rises ts k (a + task_size t)))
one_after (t ∷ ts) (suc j) zero a h = absurd (omega arith)
one_after (t ∷ ts) (suc j) (suc k) a h = elim (one_after ts j k (a + task_size t) (omega arith)) [ inl q ↦ inl q | inr q ↦ inr (omega arith) ]

pub get_below : (ts : List Task) (k : ℕ) (t : Task) → slice_get ts k ≡ Some t → k < length ts
get_below [] k t h = absurd (let no : None ≡ Some t = h in cc)
get_below (u ∷ us) zero t h = omega arith
get_below (u ∷ us) (suc k) t h = omega (arith, get_below us k t h)

pub apart : (image : ImageParts) (s : Sharing) (ts : List Task) → Stands image s ts → LieApart ts
apart image s ts w = record { order = order; each = λ k t e. (w.each k t e).1 }
  where
    order : (j k : ℕ) (t u : Task) → j < k → slice_get ts j ≡ Some t → slice_get ts k ≡ Some u → t.places.brick_end ≤ u.places.block
    order j k t u h e f =
        let p = (w.each j t e).0 in
        let q = (w.each k u f).0 in
        elim (one_after image.tasks j k (data_end image) h) [
          | inl r ↦ rw (p, q) r
          | inr r ↦ absurd (omega (arith, get_below ts j t e, w.count, r))
        ]

pub ends_at : (image : ImageParts) (s : Sharing) (ts : List Task) (k : ℕ) (t : Task) → Stands image s ts → slice_get ts k ≡ Some t → EndAt s.code s.bytes t.places
ends_at image s ts k t w e =
    let p = (w.each k t e).0 in
    let c = ap (λ (ws : List ℕ). length ws) w.code in
    rw p (omega (arith, c), omega (arith, c, w.bytes))

-- ---- lists of tasks

set_same : (ts : List Task) (k : ℕ) (t : Task) → slice_get ts k ≡ Some t → map regs_of ts ≡ slice_set (map regs_of ts) k t.regs
set_same [] k t h = refl
set_same (u ∷ us) zero t h = let same : u ≡ t = cc in ap (λ (x : Task). x.regs ∷ map regs_of us) same
set_same (u ∷ us) (suc k) t h = ap (λ (xs : List Regs). u.regs ∷ xs) (set_same us k t h)

map_set : (ts : List Task) (k : ℕ) (t : Task) → slice_set (map regs_of ts) k t.regs ≡ map regs_of (slice_set ts k t)
map_set [] k t = refl
map_set (u ∷ us) zero t = refl
map_set (u ∷ us) (suc k) t = ap (λ (xs : List Regs). u.regs ∷ xs) (map_set us k t)

pub get_set_same : (ts : List Task) (k : ℕ) (t : Task) → k < length ts → slice_get (slice_set ts k t) k ≡ Some t
get_set_same [] k t h = absurd (omega arith)
get_set_same (u ∷ us) zero t h = refl
get_set_same (u ∷ us) (suc k) t h = get_set_same us k t (omega arith)

pub get_set_other : (ts : List Task) (k j : ℕ) (t : Task) → (j ≡ k → ⊥) → slice_get (slice_set ts k t) j ≡ slice_get ts j
get_set_other [] k j t h = refl
get_set_other (u ∷ us) zero zero t h = absurd (h refl)
get_set_other (u ∷ us) zero (suc j) t h = refl
get_set_other (u ∷ us) (suc k) zero t h = refl
get_set_other (u ∷ us) (suc k) (suc j) t h = get_set_other us k j t (λ e. h (ap suc e))

-- ---- the turn

same_order : (own own2 : List ℕ) (p q : Protection) → p ≡ q → length own2 ≡ length own → LieInOrder own p → LieInOrder own2 q
same_order own own2 p q e l o =
    let k : LieInOrder own2 p = record { code = o.code; block = o.block; brick = o.brick; brick_end = o.brick_end; all_own = omega (arith, o.all_own, l); low = o.low; even_data = o.even_data; even_block = o.even_block; even_end = o.even_end } in
    subst (λ (x : Protection). LieInOrder own2 x) e k

pub running_shown : (image : ImageParts) (s : State) (d : Standing) (k : ℕ) (t : Task) → Shows image d s → slice_get d.tasks k ≡ Some t → ShowsRunning image s k d.tasks t.regs (with_task d.shared t)
running_shown image s d k t shows got = record {
  regs = shows.regs ∙ set_same d.tasks k t got;
  memory = shows.memory ∙ sym (lent d.shared t k d.tasks (apart image d.shared d.tasks shows.stands) got (ends_at image d.shared d.tasks k t shows.stands got));
  there = get_below d.tasks k t got;
  code = (shows.stands).code;
  marks = (shows.stands).marks;
  places = ((shows.stands).each k t got).0;
}

module _ (image : ImageParts) (gaps all : List ℕ) (s : State) (d d2 : Standing) (k : ℕ) (t t2 : Task) (sh2 : Sharing) (r2 : Roster) (given : List ℕ) (count marks : ℕ) (written written2 : Option (List ℕ)) (shows : Shows image d s) (got : slice_get d.tasks k ≡ Some t) (l : Lasts (with_task d.shared t) d.rules count (with_task sh2 t2) r2) (shared : d2.shared ≡ sh2) (tasks : d2.tasks ≡ slice_set d.tasks k t2) (rules : d2.rules ≡ r2) (ticking : d2.ticking ≡ record { gaps = (d.ticking).gaps; since = (d.ticking).since + count; placements = (d.ticking).placements }) (counted : d2.count ≡ d.count + count) (marked : d2.marks ≡ d.marks + marks) (w : Goes image gaps all s k d.tasks given count marks t2.regs (with_task sh2 t2) r2 written written2) where
  stands : Stands image d.shared d.tasks
  stands = shows.stands

  there : k < length d.tasks
  there = get_below d.tasks k t got

  stands_then : Stands image sh2 (slice_set d.tasks k t2)
  stands_then = record {
    code = l.code ∙ stands.code;
    marks = l.marks ∙ stands.marks;
    bytes = l.bytes ∙ stands.bytes;
    count = length-set d.tasks k t2 ∙ stands.count;
    each = λ j u e. each j u e;
  }
    where
      each : (j : ℕ) (u : Task) → slice_get (slice_set d.tasks k t2) j ≡ Some u → (u.places ≡ places_of image j) × LieInOrder u.own u.places
      each j u e =
          elim (eqb_tells j k) [
            | inl q ↦
                let here : slice_get (slice_set d.tasks k t2) k ≡ Some u = subst (λ (x : ℕ). slice_get (slice_set d.tasks k t2) x ≡ Some u) q.1 e in
                let both : Some t2 ≡ Some u = sym (get_set_same d.tasks k t2 there) ∙ here in
                let same : t2 ≡ u = cc in
                let was = stands.each k t got in
                let own : length t2.own ≡ length t.own = l.own in
                let places : t2.places ≡ t.places = l.places in
                subst (λ (x : Task). (x.places ≡ places_of image j) × LieInOrder x.own x.places) same (places ∙ was.0 ∙ ap (places_of image) (sym q.1), same_order t.own t2.own t.places t2.places (sym places) own was.1)
            | inr q ↦ stands.each j u (sym (get_set_other d.tasks k j t2 q.1) ∙ e)
          ]

  got_then : slice_get (slice_set d.tasks k t2) k ≡ Some t2
  got_then = get_set_same d.tasks k t2 there

  memory_then : (w.state).memory ≡ whole (at_rest sh2) (tasks_memory (slice_set d.tasks k t2))
  memory_then =
      (w.shows).memory
      ∙ ap (λ (others : ℕ → ℕ). whole (with_task sh2 t2) others) (fun_ext (λ a. sym (others_stay d.tasks k t2 a)))
      ∙ lent sh2 t2 k (slice_set d.tasks k t2) (apart image sh2 (slice_set d.tasks k t2) stands_then) got_then (ends_at image sh2 (slice_set d.tasks k t2) k t2 stands_then got_then)

  shows_then : Shows image d2 w.state
  shows_then = record {
    regs = (w.shows).regs ∙ map_set d.tasks k t2 ∙ ap (map regs_of) (sym tasks);
    memory = memory_then ∙ ap (λ (x : Sharing). whole (at_rest x) (tasks_memory (slice_set d.tasks k t2))) (sym shared) ∙ ap (λ (ts : List Task). whole (at_rest d2.shared) (tasks_memory ts)) (sym tasks);
    rules = w.rules ∙ sym rules;
    gaps = w.ticks_left ∙ shows.gaps ∙ ap (λ (x : Ticking). x.gaps) (sym ticking);
    since = w.since ∙ ap (λ (n : ℕ). n + count) shows.since ∙ ap (λ (x : Ticking). x.since) (sym ticking);
    placements = w.placements ∙ shows.placements ∙ ap (λ (x : Ticking). x.placements) (sym ticking);
    count = w.counted ∙ ap (λ (n : ℕ). n + count) shows.count ∙ sym counted;
    steps_taken = w.marked ∙ ap (λ (n : ℕ). n + marks) shows.steps_taken ∙ sym marked;
    stands = subst (λ (x : Sharing). Stands image x d2.tasks) (sym shared) (subst (λ (ts : List Task). Stands image sh2 ts) (sym tasks) stands_then);
  }

  pub turned : (x : Carried) (i : ℕ) → IsStopped x image all w.state i → Turned x image gaps all s i given d2 written written2
  turned x i stopped = record {
    comes = record { state = w.state; shows = shows_then; reached = w.reached; taken = w.taken; bytes = w.bytes; output = w.output; appended = w.appended };
    stopped = stopped;
  }
