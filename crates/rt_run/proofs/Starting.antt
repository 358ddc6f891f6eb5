-- The start of a run.
use Rattle.std.proofs.Common.{◌≡◌, ◌⊎◌, ℕ, zero, suc, ◌+◌, ◌-◌, ◌*◌, ◌<◌, ◌≤◌, Bool, true, false, ◌&&◌, nat_le, List, [], ◌∷◌, ◌++◌, length, get_or, map, replicate, Option, Some, None, refl, sym, ap, ◌∙◌, subst, inl, inr, arith, lt-ltb, le-ltb, le-leb, length-append}
use Rattle.std.specs.Prelude.{slice_get, IfSome}
use Rattle.std.specs.List.{AllByRecursion}
use Rattle.std.proofs.Math.Path.{fun_ext}
use Rattle.std.proofs.lemmas.Bool.Decides.{leb_tells}
use Rattle.std.proofs.lemmas.List.{get_or_append_left, get_or-append_right, length-replicate}
use Rattle.pdp_core.specs.declared.cpu.Regs.{Regs}
use Rattle.pdp_core.specs.Protection.{within}
use Rattle.rt_image.specs.declared.image.ImageParts.{ImageParts}
use Rattle.rt_image.specs.declared.image.ImageTask.{ImageTask}
use Rattle.rt_image.specs.Memory.{words_bytes, task_bytes, tasks_bytes, block_from, data_end, start_memory, stack_words}
use Rattle.rt_image.specs.Ranges.{task_size, HasImageRanges, HasTaskRanges}
use Rattle.rt_tasks.specs.Parts.{Sharing, Task, LieInOrder, EndAt, at_rest}
use Rattle.rt_tasks.specs.Start.{places_of, start_regs, start_task, start_sharing, IsStart}
use Rattle.rt_tasks.specs.Whole.{memory_of, whole}
use Rattle.rt_tasks.specs.Laws.{LieSideBySide}
use Rattle.rt_run.specs.Ticking.{Ticking}
use Rattle.rt_run.specs.Boundaries.{all_regs, start, priority_of}
use Rattle.rt_run.specs.Picture.{present, HaveStarted, tasks_memory, regs_of, Stands, Standing, Shows, HasOpened, IsComplete}
use Rattle.rt_rules.specs.Roster.{Roster}
use Rattle.rt_rules.specs.Rules as rules
use Rattle.rt_run.specs.declared.machine.Machine.{Machine}
use Rattle.rt_run.proofs.Lending.{at_rest_byte}
use Rattle.rt_run.proofs.Turning.{apart, ends_at, get_below}
use Rattle.rt_run.proofs.Slots.{all_some, length_there}

-- ---- tasks that are put in their places one after another

present_push : (os : List (Option Task)) (t : Task) → present (os ++ Some t ∷ []) ≡ present os ++ t ∷ []
present_push [] t = refl
present_push (None ∷ os) t = present_push os t
present_push (Some u ∷ os) t = ap (λ (x : List Task). u ∷ x) (present_push os t)

some_push : (ts : List Task) (t : Task) → all_some (ts ++ t ∷ []) ≡ all_some ts ++ Some t ∷ []
some_push [] t = refl
some_push (u ∷ us) t = ap (λ (x : List (Option Task)). Some u ∷ x) (some_push us t)

get_push : (ts : List Task) (t : Task) (k : ℕ) (u : Task) → slice_get (ts ++ t ∷ []) k ≡ Some u → (slice_get ts k ≡ Some u) ⊎ ((k ≡ length ts) × (t ≡ u))
get_push [] t zero u h = inr (refl, let e : Some t ≡ Some u = h in cc)
get_push [] t (suc k) u h = absurd (let no : None ≡ Some u = h in cc)
get_push (x ∷ xs) t zero u h = inl h
get_push (x ∷ xs) t (suc k) u h = elim (get_push xs t k u h) [ inl q ↦ inl q | inr q ↦ inr (ap suc q.0, q.1) ]

pub one_more : (image : ImageParts) (n : ℕ) (os : List (Option Task)) (t : Task) → HaveStarted image n os → IsStart image n t → LieInOrder t.own t.places → HaveStarted image (n + 1) (os ++ Some t ∷ [])
one_more image n os t h start order = record {
  all_there = ap (λ (x : List (Option Task)). x ++ Some t ∷ []) h.all_there ∙ sym (some_push (present os) t) ∙ ap all_some (sym (present_push os t));
  count = length-append os (Some t ∷ []) ∙ omega (arith, h.count);
  each = λ k u e. elim (get_push (present os) t k u (subst (λ (x : List Task). slice_get x k ≡ Some u) (present_push os t) e)) [
    | inl q ↦ h.each k u q
    | inr q ↦
        let place : k ≡ n = q.0 ∙ sym (length_there os h.all_there) ∙ h.count in
        subst (λ (x : Task). IsStart image k x × LieInOrder x.own x.places) q.1 (subst (λ (j : ℕ). IsStart image j t) (sym place) start, order)
  ];
}

pub none_yet : (image : ImageParts) → HaveStarted image 0 []
none_yet image = record { all_there = refl; count = refl; each = λ k t e. absurd (no k t e) }
  where
    no : (k : ℕ) (t : Task) → slice_get [] k ≡ Some t → ⊥
    no k t e = let bad : None ≡ Some t = e in cc

-- ---- what stands at the start

started : (image : ImageParts) (n : ℕ) (t : Task) (u : ImageTask) → IsStart image n t → slice_get image.tasks n ≡ Some u → t ≡ start_task image n u
started image n t u h e = subst (λ (o : Option ImageTask). IfSome o (λ v. t ≡ start_task image n v)) e h

regs_from : (image : ImageParts) (n : ℕ) (vs : List ImageTask) (ts : List Task) → length ts ≡ length vs → ((k : ℕ) (t : Task) (u : ImageTask) → slice_get ts k ≡ Some t → slice_get vs k ≡ Some u → t.regs ≡ start_regs (places_of image (n + k)) u.entry) → all_regs image n vs ≡ map regs_of ts
regs_from image n [] [] l h = refl
regs_from image n [] (t ∷ ts) l h = absurd (omega (arith, l))
regs_from image n (v ∷ vs) [] l h = absurd (omega (arith, l))
regs_from image n (v ∷ vs) (t ∷ ts) l h =
    let first : t.regs ≡ start_regs (places_of image n) v.entry = h 0 t v refl refl ∙ ap (λ (j : ℕ). start_regs (places_of image j) v.entry) (omega arith) in
    ap (λ (x : Regs). x ∷ all_regs image (n + 1) vs) (sym first) ∙ ap (λ (xs : List Regs). t.regs ∷ xs) (regs_from image (n + 1) vs ts (omega (arith, l)) (λ k u w e f. h (suc k) u w e f ∙ ap (λ (j : ℕ). start_regs (places_of image j) w.entry) (omega arith)))

-- the bytes of the tasks
memory_from : (vs : List ImageTask) (ts : List Task) (b a : ℕ) → length ts ≡ length vs → b ≤ a → ((k : ℕ) (t : Task) (u : ImageTask) → slice_get ts k ≡ Some t → slice_get vs k ≡ Some u → (t.places.block ≡ block_from vs k b) × (t.places.brick_end ≡ block_from vs k b + task_size u) × (t.own ≡ task_bytes u) × (length (task_bytes u) ≡ task_size u)) → tasks_memory ts a ≡ get_or (tasks_bytes vs) (a - b) 0
unfolding tasks_memory
memory_from [] [] b a l low h = refl
memory_from [] (t ∷ ts) b a l low h = absurd (omega (arith, l))
memory_from (v ∷ vs) [] b a l low h = absurd (omega (arith, l))
memory_from (v ∷ vs) (t ∷ ts) b a l low h =
    let q = h 0 t v refl refl in
    elim (leb_tells (b + task_size v) a) [
      | inl r ↦
          let out : within t.places.block t.places.brick_end a ≡ false = rw (q.1, le-ltb a (b + task_size v) r.1) (and_false (nat_le t.places.block a)) in
          rw (out) (memory_from vs ts (b + task_size v) a (omega (arith, l)) r.1 (λ k u w e f. h (suc k) u w e f)
          ∙ ap (λ (j : ℕ). get_or (tasks_bytes vs) j 0) (omega arith)
          ∙ sym (get_or-append_right (task_bytes v) (tasks_bytes vs) (task_size v) (a - b) 0 q.3 (omega (arith, r.1))))
      | inr r ↦
          let in_it : within t.places.block t.places.brick_end a ≡ true = rw (q.0, q.1, le-leb b a low, lt-ltb a (b + task_size v) r.1) refl in
          rw (in_it, q.0, q.2) (sym (get_or_append_left (task_bytes v) (tasks_bytes vs) 0 (a - b) (omega (arith, q.3, r.1))))
    ]
  where
    and_false : (x : Bool) → (x && false) ≡ false
    and_false true = refl
    and_false false = refl

-- ---- the whole of it

length-words : (ws : List ℕ) → length (words_bytes ws) ≡ 2 * length ws
length-words [] = refl
length-words (w ∷ ws) = omega (arith, length-words ws)

ranges_at : (c : ℕ) (vs : List ImageTask) (k : ℕ) (u : ImageTask) → AllByRecursion (HasTaskRanges c) vs → slice_get vs k ≡ Some u → HasTaskRanges c u
ranges_at c [] k u a e = absurd (let no : None ≡ Some u = e in cc)
ranges_at c (v ∷ vs) zero u a e = let same : v ≡ u = cc in subst (λ (x : ImageTask). HasTaskRanges c x) same a.0
ranges_at c (v ∷ vs) (suc k) u a e = ranges_at c vs k u a.1 e

get_under : (vs : List ImageTask) (k : ℕ) → k < length vs → (u : ImageTask) × (slice_get vs k ≡ Some u)
get_under [] k h = absurd (omega arith)
get_under (v ∷ vs) zero h = (v, refl)
get_under (v ∷ vs) (suc k) h = get_under vs k (omega arith)

module _ (image : ImageParts) (ranges : HasImageRanges image) (os : List (Option Task)) (h : HaveStarted image (length image.tasks) os) where
  long : (u : ImageTask) (k : ℕ) → slice_get image.tasks k ≡ Some u → length (task_bytes u) ≡ task_size u
  long u k e =
      let r = ranges_at (2 * length image.code) image.tasks k u ranges.each_task e in
      length-append (words_bytes u.block) (replicate (2 * u.stack) 0) ∙ omega (arith, length-words u.block, length-replicate {A = ℕ} (2 * u.stack) 0, r.block)

  pub same_number : length (present os) ≡ length image.tasks
  same_number = sym (length_there os h.all_there) ∙ h.count

  is_started : (k : ℕ) (t : Task) → slice_get (present os) k ≡ Some t → (u : ImageTask) × (slice_get image.tasks k ≡ Some u) × (t ≡ start_task image k u)
  is_started k t e =
      let g = get_under image.tasks k (omega (arith, get_below (present os) k t e, same_number)) in
      (g.0, g.1, started image k t g.0 (h.each k t e).0 g.1)

  pub stands : Stands image (start_sharing image) (present os)
  stands = record { code = refl; marks = refl; bytes = refl; count = same_number; each = λ k t e. let q = is_started k t e in (ap (λ (x : Task). x.places) q.2, (h.each k t e).1) }

  with_start : (k : ℕ) (t : Task) (u : ImageTask) → slice_get (present os) k ≡ Some t → slice_get image.tasks k ≡ Some u → t ≡ start_task image k u
  with_start k t u e f = started image k t u (h.each k t e).0 f

  pub regs : all_regs image 0 image.tasks ≡ map regs_of (present os)
  regs = regs_from image 0 image.tasks (present os) same_number (λ k t u e f. ap (λ (x : Task). x.regs) (with_start k t u e f) ∙ ap (λ (j : ℕ). start_regs (places_of image j) u.entry) (omega arith))

  behind : (a : ℕ) → data_end image ≤ a → start_memory image a ≡ tasks_memory (present os) a
  behind a low =
      get_or-append_right (words_bytes image.code) (image.bytes ++ tasks_bytes image.tasks) (2 * length image.code) a 0 (length-words image.code) (omega arith)
      ∙ get_or-append_right image.bytes (tasks_bytes image.tasks) (length image.bytes) (a - 2 * length image.code) 0 refl (omega arith)
      ∙ ap (λ (j : ℕ). get_or (tasks_bytes image.tasks) j 0) (omega arith)
      ∙ sym (memory_from image.tasks (present os) (data_end image) a same_number low (λ k t u e f.
      let q = with_start k t u e f in
      let size : stack_words (slice_get image.tasks k) ≡ u.stack = ap stack_words f in
      (ap (λ (x : Task). x.places.block) q, ap (λ (x : Task). x.places.brick_end) q ∙ omega (arith, size), ap (λ (x : Task). x.own) q, long u k f)))

  module _ (law : LieSideBySide) where
    front : (a : ℕ) → a < data_end image → whole (at_rest (start_sharing image)) (tasks_memory (present os)) a ≡ start_memory image a
    unfolding memory_of
    front a high =
        let g = get_under image.tasks 0 (omega (arith, ranges.some_task)) in
        let l = law image ranges 0 g.0 g.1 a in
        elim (leb_tells (2 * length image.code) a) [
          | inl r ↦ rw (le-ltb a (2 * length image.code) r.1, lt-ltb a (2 * length image.code + length image.bytes) high) (rw (le-ltb a (2 * length image.code) r.1, lt-ltb a (2 * length image.code + length image.bytes) high) at l)
          | inr r ↦ rw (lt-ltb a (2 * length image.code) r.1) (rw (lt-ltb a (2 * length image.code) r.1) at l)
        ]

    pub memory : start_memory image ≡ whole (at_rest (start_sharing image)) (tasks_memory (present os))
    memory = fun_ext (λ a. elim (leb_tells (data_end image) a) [
      | inl r ↦ behind a r.1 ∙ sym (at_rest_byte (start_sharing image) (present os) a (apart image (start_sharing image) (present os) stands) r.1)
      | inr r ↦ sym (front a r.1)
    ])

    pub shows_start : (gaps : List ℕ) (d : Standing) → d.shared ≡ start_sharing image → d.tasks ≡ present os → d.rules ≡ rules.start (map priority_of image.tasks) → d.ticking ≡ record { gaps = gaps; since = 0; placements = [] } → d.count ≡ 0 → d.marks ≡ 0 → Shows image d (start image gaps)
    shows_start gaps d a b c e f g = record {
      regs = regs ∙ ap (map regs_of) (sym b);
      memory = memory ∙ ap (λ (x : Sharing). whole (at_rest x) (tasks_memory (present os))) (sym a) ∙ ap (λ (ts : List Task). whole (at_rest d.shared) (tasks_memory ts)) (sym b);
      rules = sym c;
      gaps = ap (λ (t : Ticking). t.gaps) (sym e);
      since = ap (λ (t : Ticking). t.since) (sym e);
      placements = ap (λ (t : Ticking). t.placements) (sym e);
      count = sym f;
      steps_taken = sym g;
      stands = subst (λ (x : Sharing). Stands image x d.tasks) (sym a) (subst (λ (ts : List Task). Stands image (start_sharing image) ts) (sym b) stands);
    }

pub length-rows : (n : ℕ) (ps : List ℕ) → length (rules.rows_from n ps) ≡ length ps
length-rows n [] = refl
length-rows n (p ∷ ps) = ap suc (length-rows (n + 1) ps)

pub length-priorities : (ts : List ImageTask) → length (map priority_of ts) ≡ length ts
length-priorities [] = refl
length-priorities (t ∷ ts) = ap suc (length-priorities ts)

-- a machine that was just opened is complete
pub opened_complete : (image : ImageParts) (m : Machine) (t : Ticking) → HasImageRanges image → HasOpened image t m → t.since ≡ 0 → length t.gaps ≤ 200000 → IsComplete m
opened_complete image m t ranges o fresh few =
    let st : Stands image (start_sharing image) (present m.tasks.items) = stands image ranges m.tasks.items o.started in
    let gaps : length m.timetable.gaps ≡ length t.gaps = ap (λ (x : Ticking). length x.gaps) o.timetable in
    let stamp : m.supervisor.stamp ≡ length (map priority_of image.tasks) = ap (λ (x : Roster). x.stamp) o.supervisor in
    let clock : m.supervisor.clock ≡ 0 = ap (λ (x : Roster). x.clock) o.supervisor in
    let tasks : length m.supervisor.tasks ≡ length (map priority_of image.tasks) = ap (λ (x : Roster). length x.tasks) o.supervisor ∙ length-rows 0 (map priority_of image.tasks) in
    record {
      all_there = (o.started).all_there;
      same_count = tasks ∙ length-priorities image.tasks ∙ sym (o.started).count;
      few_tasks = omega (arith, (o.started).count, ranges.tasks);
      few = omega (arith, o.count);
      low_stamp = omega (arith, stamp, length-priorities image.tasks, ranges.tasks, gaps, few, o.count);
      low_clock = omega (arith, clock, gaps, few);
      low_since = omega (arith, ap (λ (x : Ticking). x.since) o.timetable, fresh);
      low_steps = omega (arith, o.marks);
      rests = o.shared ∙ ap at_rest (sym o.shared);
      ends = λ k u e. subst (λ (x : Sharing). EndAt x.code x.bytes u.places) (sym o.shared) (ends_at image (start_sharing image) (present m.tasks.items) k u st e);
    }
