-- The two runs go side by side: an induction over the number of instructions.
use Rattle.std.proofs.Common.{◌≡◌, ℕ, zero, suc, ◌+◌, ◌-◌, ◌<◌, ◌≤◌, ◌==◌, Bool, true, false, ◌&&◌, if◌then◌else◌, List, [], ◌∷◌, ◌++◌, length, refl, sym, ap, ◌∙◌, subst, inl, inr, arith, Option, Some, None, eq-eqb}
use Rattle.std.specs.Prelude.{slice_get, slice_set, slice_index_or, nat_lt}
use Rattle.std.proofs.lemmas.Bool.Decides.{eqb_tells}
use Rattle.std.proofs.lemmas.List.{length-set, length-map}
use Rattle.pdp_code.specs.declared.instruction.Reg.TheVariants.{Pc}
use Rattle.pdp_core.specs.declared.cpu.Regs.{Regs}
use Rattle.pdp_core.specs.declared.cpu.Stop.{Stop}
use Rattle.pdp_core.specs.declared.cpu.Stop.TheVariants.{Went, Trap, Fault}
use Rattle.pdp_core.specs.declared.memory.Protection.{Protection}
use Rattle.pdp_core.specs.Execute.{Outcome, execute, reg}
use Rattle.pdp_core.specs.Protection.{protected, usable}
use Rattle.pdp_symbolic.specs.Machine.{protection}
use Rattle.pdp_symbolic.proofs.Memory.{stack_agrees}
use Rattle.rt_image.specs.declared.image.ImageParts.{ImageParts}
use Rattle.rt_image.specs.Memory.{code_end, block_at, brick_end, mark_at}
use Rattle.rt_tasks.specs.Start.{places_of}
use Rattle.rt_rules.specs.Roster.{Roster, IsAlive, no_row, has_ended}
use Rattle.rt_rules.specs.Rules as rules
use Rattle.rt_rules.specs.declared.task.State.{State as Condition}
use Rattle.rt_rules.specs.declared.task.State.TheVariants as condition
use Rattle.rt_rules.specs.declared.task.TaskRow.{TaskRow}
use Rattle.rt_run.specs.Boundaries.{State, steps, is_due, ticked, settle, all_ended, AllEnded, Stalled, Faulted, Reached, At, Over, judge_by, boundary_at, made_by, landed_by, landed, instruction, go_by, onward, priority_of, start, boundary}
use Rattle.rt_run.specs.Services as machine
use Rattle.rt_work_state.specs.declared.request.Request.{Request}
use Rattle.rt_work_state.specs.Stores.{Store}
use Rattle.rt_tree.specs.Stored.{System}
use Rattle.rt_resolve.specs.World.{World}
use Rattle.rt_meaning.specs.declared.begin.SourceTask.{SourceTask}
use Rattle.rt_meaning.specs.Roots.{roots, priorities}
use Rattle.rt_meaning.specs.Roots as meant
use Rattle.rt_meaning.specs.Run as source
use Rattle.rt_meaning.specs.Run.{Served, serve, task_in, task_at}
use Rattle.rt_meaning.specs.Step.{Task, Over as Ended, Failed, Doing}
use Rattle.rt_meaning.specs.Whole.{beginning}
use Rattle.rt_meaning_laws.specs.Ends.{EndsAs, EndAsRows, Agree}
use Rattle.rt_meaning_laws.specs.Makes.{HasntEnded, Makes}
use Rattle.rt_meaning_laws.specs.Runs.{AllFit, NoneLacks, StateFits}
use Rattle.rt_meaning_laws.specs.SourceRuns.{AreBytes}
use Rattle.rt_meaning_laws.specs.Tasks.{TaskFits}
use Rattle.rt_meaning.specs.Runs as runs
use Rattle.rt_meaning.specs.Runs.{bytes_of, then_ticks}
use Rattle.rt_follows.specs.Whole.{Whole, Home, meaning}
use Rattle.rt_follows.specs.Held.{layout, memory}
use Rattle.rt_follows.specs.Follows.{IsFine, asked_by, answered, quiet_after, OwnIs, Stays, Agreed, Follows}
use Rattle.rt_faithful.specs.Faithful.{home_of, quiet}
use Rattle.rt_faithful.specs.Imaged.{Imaged}
use Rattle.rt_faithful.specs.Services.{SameService}
use Rattle.rt_faithful.specs.Joined.{Joined}
use Rattle.rt_faithful.proofs.Joined.{Given}
use Rattle.rt_meaning.proofs.Longer.{one_more_tick}
use Rattle.rt_meaning_laws.proofs.SourceRuns.{byte_comes}
use Rattle.rt_faithful.proofs.Placed.{placed_more, rise_last}
use Rattle.rt_faithful.proofs.Came.{get_set, found_by, Came, comes}
use Rattle.rt_faithful.proofs.Begun.{get_less}

-- ---- small facts

get_other : {A : Type 0} (xs : List A) (k l : ℕ) (x : A) → (k ≡ l → ⊥) → slice_get (slice_set xs k x) l ≡ slice_get xs l
get_other [] k l x ne = refl
get_other (y ∷ ys) zero zero x ne = absurd (ne refl)
get_other (y ∷ ys) zero (suc l) x ne = refl
get_other (y ∷ ys) (suc k) zero x ne = refl
get_other (y ∷ ys) (suc k) (suc l) x ne = get_other ys k l x (λ e. ne (ap suc e))

fits_at : (ps : System) (w : World) (ts : List Task) (k : ℕ) (t : Task) → AllFit ps w ts → slice_get ts k ≡ Some t → TaskFits ps w t
fits_at ps w [] k t h e = absurd cc
fits_at ps w (u ∷ us) zero t h e = let same : u ≡ t = cc in subst (λ (z : Task). TaskFits ps w z) same h.0
fits_at ps w (u ∷ us) (suc k) t h e = fits_at ps w us k t h.1 e

-- whose row says that it hasn't ended hasn't
by_row : (t : Task) (c : Condition) → EndsAs t c → has_ended c ≡ false → HasntEnded t
by_row (Ended own) c h e = let no : has_ended condition.Ended ≡ false = sym (ap has_ended h) ∙ e in absurd cc
by_row (Failed n own) c h e = let no : has_ended (condition.Failed n) ≡ false = sym (ap has_ended h) ∙ e in absurd cc
by_row (Doing a cs own) c h e = tt

goes_on_by : (ts : List Task) (rows : List TaskRow) (k : ℕ) → EndAsRows ts rows → has_ended (slice_index_or rows k no_row).state ≡ false → HasntEnded (task_in (slice_get ts k))
goes_on_by [] [] k h e = let no : true ≡ false = e in absurd cc
goes_on_by [] (r ∷ rs) k h e = absurd h
goes_on_by (t ∷ ts) [] k h e = absurd h
goes_on_by (t ∷ ts) (r ∷ rs) zero h e = by_row t r.state h.0 e
goes_on_by (t ∷ ts) (r ∷ rs) (suc k) h e = goes_on_by ts rs k h.1 e

and_false : (b : Bool) → b && false ≡ false
and_false true = refl
and_false false = refl

one_less : (i j : ℕ) → 1 ≤ i → 1 ≤ j → (i ≡ j → ⊥) → i - 1 ≡ j - 1 → ⊥
one_less i j a b ne e = ne (omega (arith, a, b, e))

-- ---- another memory with the same brick and block

own_kept : (w : Whole) (h : Home) (m m' : ℕ → ℕ) (t : Task) → ((a : ℕ) → h.block ≤ a → a < h.block + 16 → m' a ≡ m a) → OwnIs w h t m → OwnIs w h t m'
own_kept w h m m' t block s =
    let eight = s.eight in
    record { words = s.words; at = stack_agrees m m' h.block s.words (λ x p q. block x p (omega (arith, q, eight))) s.at; eight = s.eight; lies = s.lies }

stays_kept : (w : Whole) (h : Home) (q : ℕ) (g : Regs) (m m' : ℕ → ℕ) (t : Task) → ((a : ℕ) → h.block ≤ a → a < h.block + 16 → m' a ≡ m a) → Stays w h q g m t → Stays w h q g m' t
stays_kept w h q g m m' t block s = record { above = s.above; below = s.below; own = own_kept w h m m' t block s.own; quiet = s.quiet }

follows_kept : (w : Whole) (h : Home) (k q : ℕ) (g : Regs) (m m' : ℕ → ℕ) (t : Task) → ((a : ℕ) → h.low ≤ a → a < h.high → m' a ≡ m a) → ((a : ℕ) → h.block ≤ a → a < h.block + 16 → m' a ≡ m a) → Follows w h k q g m t → Follows w h k q g m' t
follows_kept w h zero q g m m' t brick block s = stays_kept w h q g m m' t block s
follows_kept w h (suc k) q g m m' t brick block f = (
  stays_kept w h q g m m' t block f.0,
  λ alive fits S m0 typed kept lies o may.
      f.1 alive fits S m0 typed (record { brick = λ a x y. kept.brick a x y ∙ brick a x y; block = λ a x y. kept.block a x y ∙ block a x y; code = kept.code }) lies o may,
)

module _ (given : Given) (w : Whole) (image : ImageParts) (ts : List SourceTask) (is : Imaged w image ts) (input : List ℕ) (typed : AreBytes input) where
  abbrev J : State → Type 0
  J s = Joined w image ts input s

  -- as many tasks as the source has
  pub count : length image.tasks ≡ length ts
  count = sym (length-map image.tasks priority_of) ∙ ap (λ (xs : List ℕ). length xs) is.same_priorities ∙ length-map ts meant.priority_of

  -- who has registers is a task of the image
  is_task : (s : State) → J s → (i : ℕ) (g : Regs) → 1 ≤ i → slice_get s.regs (i - 1) ≡ Some g → i - 1 < length image.tasks
  is_task s j i g one had = let less = get_less s.regs (i - 1) g had in let all = j.registers in let c = count in omega (arith, less, all, c)

  -- what the laws of the source's run say of the state that it came to
  pub fits : (s : State) (j : J s) → StateFits w.ps (meaning w) j.reached.state × NoneLacks (meaning w) j.reached.state.tasks × Agree (roots ts) j.reached.state
  fits s j = given.fit w.ps ts s.placements input (steps s) j.reached is.modules is.match typed (rw j.placed j.run)

  -- ---- ticks

  pub ticked_joined : (s : State) (left : List ℕ) → J s → J (ticked s left)
  ticked_joined s left j =
      let r = j.reached in
      record {
        reached = record { state = source.tick r.state; output = r.output };
        placed = rise_last s.placements 0 (steps s) (omega arith) j.placed;
        run = one_more_tick (meaning w) (beginning w.ps ts) s.placements input (steps s) ∙ ap (λ (o : Option runs.Reached). then_ticks 1 o) j.run;
        output = j.output;
        taken = j.taken;
        rules = ap rules.tick j.rules;
        shared = j.shared;
        code = j.code;
        registers = j.registers;
        follows = j.follows;
      }

  settle_by : (s t : State) (b : Bool) → J s → J t → J (if b then t else s)
  settle_by s t true x y = y
  settle_by s t false x y = x

  settled : (gaps : List ℕ) (s : State) → J s → J (settle gaps s)
  settled [] s j = j
  settled (gap ∷ gaps) s j = settle_by s (settle gaps (ticked s gaps)) (is_due gap s.rules s.since) j (settled gaps (ticked s gaps) (ticked_joined s gaps j))

  abbrev pub Fine : Reached → Type 0
  Fine (At s) = J s
  Fine (Over AllEnded s) = J s
  Fine (Over Stalled s) = J s
  Fine (Over (Faulted i kind at) s) = ⊥

  over_by : (s : State) (b : Bool) → J s → Fine (Over (if b then AllEnded else Stalled) s)
  over_by s true j = j
  over_by s false j = j

  judged : (s : State) (o : Option ℕ) → J s → Fine (judge_by s o)
  judged s None j = over_by s (all_ended s.rules.tasks) j
  judged s (Some i) j = j

  at_boundary : (s : State) → J s → Fine (boundary_at s)
  at_boundary s j = let t = settle s.gaps s in judged t (rules.running t.rules) (settled s.gaps s j)

  -- ---- one instruction

  same_protection : (i : ℕ) → protection (layout w (home_of image i)) ≡ places_of image (i - 1)
  same_protection i =
      let h = home_of image i in
      ap (λ c. record { code_end = c; data_end = w.data_end; block = h.block; brick = h.low; brick_end = h.high }) is.code_ends
      ∙ ap (λ d. record { code_end = code_end image; data_end = d; block = h.block; brick = h.low; brick_end = h.high }) is.data_ends

  module _ (s : State) (j : J s) (i : ℕ) (g : Regs) (runs_is : rules.running s.rules ≡ Some i) (had : slice_get s.regs (i - 1) ≡ Some g) where
    abbrev h : Home
    h = home_of image i

    abbrev x : Outcome
    x = execute (memory w h s.memory) g

    abbrev n : ℕ
    n = w.marks (reg g Pc)

    abbrev r : runs.Reached
    r = j.reached

    abbrev A : Request
    A = asked_by x.stop x.regs

    -- what comes of it, by the source's rules, by the same from the machine's state, and by the machine's
    abbrev vr : Served
    vr = serve r.state.rules r.state.taken i (slice_get input r.state.taken) A

    abbrev vs : Served
    vs = serve s.rules s.taken i (slice_get input s.taken) A

    abbrev v : machine.Served
    v = machine.serve s.rules s.taken (slice_get input s.taken) i (machine.asked_by x.stop x.regs)

    abbrev Q : ℕ → Request → Task → Store → Type 0
    Q k asked t S = Agreed w h x vr.outcome asked t S (Follows w h k (quiet_after n (quiet i s.made)) (answered x.stop vr.outcome x.regs) x.world.bytes t)

    same_served : vr ≡ vs
    same_served = ap (λ (z : Roster). serve z r.state.taken i (slice_get input r.state.taken) A) j.rules ∙ ap (λ (z : ℕ). serve s.rules z i (slice_get input z) A) j.taken

    service : SameService x.stop x.regs v vs
    service = given.services s.rules s.taken i (slice_get input s.taken) x.stop x.regs

    state_fits : StateFits w.ps (meaning w) r.state
    state_fits = (fits s j).0

    runs_r : rules.running r.state.rules ≡ Some i
    runs_r = ap rules.running j.rules ∙ runs_is

    is_alive : IsAlive r.state.rules i
    is_alive = given.runs_alive r.state.rules i state_fits.rules runs_r

    one : 1 ≤ i
    one = is_alive.0.0

    there : i - 1 < length image.tasks
    there = is_task s j i g one had

    alive : HasntEnded (task_at r.state.tasks i)
    alive = goes_on_by r.state.tasks r.state.rules.tasks (i - 1) (fits s j).2.ends is_alive.1

    found : slice_get r.state.tasks (i - 1) ≡ Some (task_at r.state.tasks i)
    found = found_by (slice_get r.state.tasks (i - 1)) (task_at r.state.tasks i) refl alive

    makes : (k : ℕ) → Makes (meaning w) n (task_at r.state.tasks i) r.state.store vr.outcome (Q k)
    makes k =
        (j.follows i g one had (suc k)).1 alive (fits_at w.ps (meaning w) r.state.tasks (i - 1) (task_at r.state.tasks i) state_fits.tasks found) r.state.store s.memory state_fits.typed
        (record { brick = λ a y z. refl; block = λ a y z. refl; code = j.code }) j.shared vr.outcome
        (given.may_come r.state.rules r.state.taken i (slice_get input r.state.taken) A state_fits.rules runs_r (byte_comes input r.state.taken typed))

    c : Came (meaning w) (beginning w.ps ts) s.placements input i A Q (λ a t S z. z.asks) (steps s) n r
    c = comes (meaning w) (beginning w.ps ts) s.placements input i A Q (λ a t S z. z.asks) (steps s) n r (task_at r.state.tasks i) j.placed j.run runs_r refl alive makes

    -- the state after it
    abbrev s1 : State
    s1 = made_by s i n x v

    task_here : task_at c.reached.state.tasks i ≡ c.task
    task_here = ap (λ (us : List Task). task_at us i) c.tasks ∙ ap task_in (get_set r.state.tasks (i - 1) c.task (task_at r.state.tasks i) found)

    task_there : (l : ℕ) → 1 ≤ l → (i ≡ l → ⊥) → task_at c.reached.state.tasks l ≡ task_at r.state.tasks l
    task_there l some ne = ap (λ (us : List Task). task_at us l) c.tasks ∙ ap task_in (get_other r.state.tasks (i - 1) (l - 1) c.task (one_less i l one some ne))

    -- bytes that it may not use are as they were
    kept_byte : (a : ℕ) → usable (places_of image (i - 1)) a ≡ false → x.world.bytes a ≡ s.memory a
    kept_byte a out =
        let not_its : usable (protection (layout w h)) a ≡ false = subst (λ (p : Protection). usable p a ≡ false) (sym (same_protection i)) out in
        (given.framed (memory w h s.memory) g a (ap (λ b. nat_lt a 57344 && b) not_its ∙ and_false (nat_lt a 57344))).byte

    registers_are : answered x.stop vr.outcome x.regs ≡ machine.answered x.regs v.answer
    registers_are = ap (λ (z : Served). answered x.stop z.outcome x.regs) same_served ∙ sym service.registers

    regs_here : (l : Regs) → slice_get (slice_set s.regs (i - 1) (machine.answered x.regs v.answer)) (i - 1) ≡ Some l → answered x.stop vr.outcome x.regs ≡ l
    regs_here l e =
        let f : Some (machine.answered x.regs v.answer) ≡ Some l = sym (get_set s.regs (i - 1) (machine.answered x.regs v.answer) g had) ∙ e in
        registers_are ∙ cc

    quiet_here : quiet i s1.made ≡ quiet_after n (quiet i s.made)
    quiet_here = ap (λ b. if b then quiet_after n (quiet i s.made) else quiet i s.made) (eq-eqb i i refl)

    follows_here : (l : Regs) → slice_get s1.regs (i - 1) ≡ Some l → (k : ℕ) → Follows w (home_of image i) k (quiet i s1.made) l s1.memory (task_at c.reached.state.tasks i)
    follows_here l e k =
        subst (λ q. Follows w h k q l x.world.bytes (task_at c.reached.state.tasks i)) (sym quiet_here)
        (subst (λ (t : Task). Follows w h k (quiet_after n (quiet i s.made)) l x.world.bytes t) (sym task_here)
        (subst (λ (z : Regs). Follows w h k (quiet_after n (quiet i s.made)) z x.world.bytes c.task) (regs_here l e) (c.holds k).next))

    -- a byte of another task's part is as it was
    others_byte : (o a : ℕ) → 1 ≤ o → (i ≡ o → ⊥) → o - 1 < length image.tasks → block_at image (o - 1) ≤ a → a < brick_end image (o - 1) → x.world.bytes a ≡ s.memory a
    others_byte o a some ne is_one low high = kept_byte a (given.own image (i - 1) (o - 1) a is.ranges there is_one (one_less i o one some ne) low high)

    follows_there : (o : ℕ) (l : Regs) → 1 ≤ o → (i ≡ o → ⊥) → (i == o) ≡ false → slice_get s1.regs (o - 1) ≡ Some l → (k : ℕ) → Follows w (home_of image o) k (quiet o s1.made) l s1.memory (task_at c.reached.state.tasks o)
    follows_there o l some ne other e k =
        subst (λ q. Follows w (home_of image o) k q l x.world.bytes (task_at c.reached.state.tasks o)) (sym (ap (λ b. if b then quiet_after n (quiet o s.made) else quiet o s.made) other))
        (subst (λ (t : Task). Follows w (home_of image o) k (quiet o s.made) l x.world.bytes t) (sym (task_there o some ne))
        (follows_kept w (home_of image o) k (quiet o s.made) l s.memory x.world.bytes (task_at r.state.tasks o)
        (λ a y z. others_byte o a some ne is_one (omega (arith, y)) z) (λ a y z. others_byte o a some ne is_one y (let brick = (given.in_order image is.ranges).bricks_behind_blocks (o - 1) is_one in omega (arith, z, brick)))
        (j.follows o l some before k)))
      where
        before : slice_get s.regs (o - 1) ≡ Some l
        before = sym (get_other s.regs (i - 1) (o - 1) (machine.answered x.regs v.answer) (one_less i o one some ne)) ∙ e

        is_one : o - 1 < length image.tasks
        is_one = is_task s j o l some before

    joined : J s1
    joined = record {
      reached = c.reached;
      placed = placed_more s.placements (steps s) (steps s + n) (omega arith) j.placed;
      run = c.run;
      output = c.output ∙ ap (λ (z : List ℕ). z ++ bytes_of vr.byte) j.output ∙ ap (λ (z : Served). s.output ++ bytes_of z.byte) same_served ∙ ap (λ (z : List ℕ). s.output ++ z) (sym service.bytes);
      taken = c.taken ∙ ap (λ (z : Served). z.taken) same_served ∙ sym service.taken;
      rules = c.rules ∙ ap (λ (z : Served). z.rules) same_served ∙ sym service.rules;
      shared = (c.holds 0).lies;
      code = λ a less. kept_byte a (given.code_own image (i - 1) a is.ranges (let end = is.code_ends in omega (arith, less, end))) ∙ j.code a less;
      registers = length-set s.regs (i - 1) (machine.answered x.regs v.answer) ∙ j.registers;
      follows = λ o l some e k. elim (eqb_tells i o) as (λ _. Follows w (home_of image o) k (quiet o s1.made) l s1.memory (task_at c.reached.state.tasks o)) [
        | inl p ↦ subst (λ z. slice_get s1.regs (z - 1) ≡ Some l → Follows w (home_of image z) k (quiet z s1.made) l s1.memory (task_at c.reached.state.tasks z)) p.1 (λ f. follows_here l f k) e
        | inr p ↦ follows_there o l some p.1 p.0 e k
      ];
    }

    landed_is : (y : Stop) → IsFine y → landed_by input s i n x y ≡ boundary_at (made_by s i n x (machine.serve s.rules s.taken (slice_get input s.taken) i (machine.asked_by y x.regs)))
    landed_is Went f = refl
    landed_is (Trap t) f = refl
    landed_is (Fault kind at) f = absurd f

    landed_fine : Fine (landed input s i n x)
    landed_fine = subst Fine (sym (landed_is x.stop (c.holds 0).fine)) (at_boundary s1 joined)

    -- what the instruction leaves, with this mark
    abbrev Keeps : ℕ → Outcome → Type 0
    Keeps m y = IsFine y.stop × J (made_by s i m y (machine.serve s.rules s.taken (slice_get input s.taken) i (machine.asked_by y.stop y.regs)))

    pub kept : Keeps (mark_at image (reg g Pc)) (execute (protected (places_of image (i - 1)) s.memory) g)
    kept =
        subst (λ m. Keeps m (execute (protected (places_of image (i - 1)) s.memory) g)) (is.marks (reg g Pc))
        (subst (λ (p : Protection). Keeps n (execute (protected p s.memory) g)) (same_protection i) ((c.holds 0).fine, joined))

    instruction_fine : Fine (landed input s i (mark_at image (reg g Pc)) (execute (protected (places_of image (i - 1)) s.memory) g))
    instruction_fine =
        subst (λ m. Fine (landed input s i m (execute (protected (places_of image (i - 1)) s.memory) g))) (is.marks (reg g Pc))
        (subst (λ (p : Protection). Fine (landed input s i n (execute (protected p s.memory) g))) (same_protection i) landed_fine)

  -- ---- runs

  by_regs : (s : State) → J s → (i : ℕ) → rules.running s.rules ≡ Some i → (o : Option Regs) → slice_get s.regs (i - 1) ≡ o → Fine (instruction image input s i o)
  by_regs s j i runs_is None e = j
  by_regs s j i runs_is (Some g) e = instruction_fine s j i g runs_is e

  by_running : (s : State) → J s → (o : Option ℕ) → rules.running s.rules ≡ o → Fine (go_by image input s o)
  by_running s j None e = j
  by_running s j (Some i) e = by_regs s j i e (slice_get s.regs (i - 1)) refl

  onward_fine : (o : Reached) → Fine o → Fine (onward image input o)
  onward_fine (At s) j = by_running s j (rules.running s.rules) refl
  onward_fine (Over AllEnded s) j = j
  onward_fine (Over Stalled s) j = j
  onward_fine (Over (Faulted i kind at) s) j = absurd j

  pub fine : (gaps : List ℕ) → J (start image gaps) → (k : ℕ) → Fine (boundary image gaps input k)
  fine gaps j zero = at_boundary (start image gaps) j
  fine gaps j (suc k) = onward_fine (boundary image gaps input k) (fine gaps j k)
