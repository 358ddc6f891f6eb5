-- Where the source's run comes to by the steps of one instruction.
use Rattle.std.proofs.Common.{◌≡◌, ℕ, zero, suc, ◌+◌, ◌-◌, true, List, [], ◌∷◌, ◌++◌, refl, sym, ap, ◌∙◌, subst, arith, Option, Some, None}
use Rattle.std.specs.Prelude.{slice_get, slice_set}
use Rattle.std.proofs.lemmas.List.{append-nil}
use Rattle.rt_rules.specs.Rules as rules
use Rattle.rt_rules.specs.declared.service.Outcome.TheVariants as came
use Rattle.rt_work_state.specs.declared.request.Request.{Request}
use Rattle.rt_work_state.specs.declared.request.Request.TheVariants.{Nothing}
use Rattle.rt_work_state.specs.Stores.{Store}
use Rattle.rt_resolve.specs.World.{World}
use Rattle.rt_meaning.specs.Run.{State, Served, Stepped, serve, moved, moved_by, stepped_by, one_step, step_by, task_in, task_at}
use Rattle.rt_meaning.specs.Step.{Task, request, task_step}
use Rattle.rt_meaning_laws.specs.Makes.{HasntEnded, Makes}
use Rattle.rt_meaning.specs.Runs.{Reached, bytes_of, reached_by, then_step, after, are_placements}
use Rattle.rt_meaning.proofs.Longer.{one_more_step}
use Rattle.rt_faithful.proofs.Placed.{placed_more}

-- ---- lists

pub set_same : {A : Type 0} (xs : List A) (k : ℕ) (x : A) → slice_get xs k ≡ Some x → slice_set xs k x ≡ xs
set_same [] k x e = refl
set_same (y ∷ ys) zero x e = let f : y ≡ x = cc in ap (λ z. z ∷ ys) (sym f)
set_same (y ∷ ys) (suc k) x e = ap (λ zs. y ∷ zs) (set_same ys k x e)

pub get_set : {A : Type 0} (xs : List A) (k : ℕ) (x y : A) → slice_get xs k ≡ Some y → slice_get (slice_set xs k x) k ≡ Some x
get_set [] k x y e = cc
get_set (z ∷ zs) zero x y e = refl
get_set (z ∷ zs) (suc k) x y e = get_set zs k x y e

pub set_twice : {A : Type 0} (xs : List A) (k : ℕ) (x y : A) → slice_set (slice_set xs k x) k y ≡ slice_set xs k y
set_twice [] k x y = refl
set_twice (z ∷ zs) zero x y = refl
set_twice (z ∷ zs) (suc k) x y = ap (λ ws. z ∷ ws) (set_twice zs k x y)

-- a task that goes on stands in the list
pub found_by : (o : Option Task) (t : Task) → task_in o ≡ t → HasntEnded t → o ≡ Some t
found_by None t e alive = absurd (subst HasntEnded (sym e) alive)
found_by (Some x) t e alive = ap (λ z. Some z) e

-- ---- steps

module _ (W : World) (B : State) (ps input : List ℕ) (i : ℕ) (A : Request) (Q : ℕ → Request → Task → Store → Type 0) (asks : (a : Request) (t : Task) (S : Store) → Q 0 a t S → a ≡ A) where
  -- what comes of the request
  abbrev pub come : State → Served
  come s = serve s.rules s.taken i (slice_get input s.taken) A

  -- where the run comes to by n more steps of task i
  pub record Came (m n : ℕ) (r : Reached) : Type 0 where
    pub task : Task
    pub reached : Reached
    pub run : after W B ps input (m + n) ≡ Some reached
    pub rules : reached.state.rules ≡ (come r.state).rules
    pub taken : reached.state.taken ≡ (come r.state).taken
    pub output : reached.output ≡ r.output ++ bytes_of (come r.state).byte
    pub tasks : reached.state.tasks ≡ slice_set r.state.tasks (i - 1) task
    pub holds : (k : ℕ) → Q k A task reached.state.store

  -- the state after a step with this request and task
  abbrev stepped_to : State → Task → Request → Stepped
  stepped_to s t q = let v = serve s.rules s.taken i (slice_get input s.taken) q in stepped_by s.tasks i (moved_by v (task_step W t s.store v.outcome))

  one_step_is : (s : State) (t : Task) (q : Request) → rules.running s.rules ≡ Some i → task_at s.tasks i ≡ t → request W t ≡ q → one_step W s (slice_get input s.taken) ≡ Some (stepped_to s t q)
  one_step_is s t q runs here is =
      ap (λ o. step_by W s o (slice_get input s.taken)) runs
      ∙ ap (λ (x : Task). Some (stepped_by s.tasks i (moved W x s.store s.rules s.taken i (slice_get input s.taken)))) here
      ∙ ap (λ (x : Request). Some (stepped_to s t x)) is

  run_step : (m : ℕ) (r : Reached) (t : Task) (q : Request) → are_placements ps m ≡ true → after W B ps input m ≡ Some r → rules.running r.state.rules ≡ Some i → task_at r.state.tasks i ≡ t → request W t ≡ q
      → after W B ps input (suc m) ≡ Some (record { state = (stepped_to r.state t q).state; output = r.output ++ bytes_of (stepped_to r.state t q).byte })
  run_step m r t q placed run runs here is =
      one_more_step W B ps input m placed ∙ ap (λ (o : Option Reached). then_step W input o) run ∙ ap (λ (o : Option Stepped). reached_by r.output o) (one_step_is r.state t q runs here is)

  pub comes : (m n : ℕ) (r : Reached) (t : Task) → are_placements ps m ≡ true → after W B ps input m ≡ Some r → rules.running r.state.rules ≡ Some i → task_at r.state.tasks i ≡ t → HasntEnded t
      → ((k : ℕ) → Makes W n t r.state.store (come r.state).outcome (Q k)) → Came m n r
  comes m zero r t placed run runs here alive h =
      let e : Nothing ≡ A = asks Nothing t r.state.store (h 0) in
      let z : m ≡ m + 0 = omega arith in
      record {
        task = t;
        reached = r;
        run = subst (λ x. after W B ps input x ≡ Some r) z run;
        rules = subst (λ (q : Request). r.state.rules ≡ (serve r.state.rules r.state.taken i (slice_get input r.state.taken) q).rules) e refl;
        taken = subst (λ (q : Request). r.state.taken ≡ (serve r.state.rules r.state.taken i (slice_get input r.state.taken) q).taken) e refl;
        output = subst (λ (q : Request). r.output ≡ r.output ++ bytes_of (serve r.state.rules r.state.taken i (slice_get input r.state.taken) q).byte) e (sym (append-nil r.output));
        tasks = sym (set_same r.state.tasks (i - 1) t (found_by (slice_get r.state.tasks (i - 1)) t here alive));
        holds = λ k. subst (λ (q : Request). Q k q t r.state.store) e (h k);
      }
  comes m (suc zero) r t placed run runs here alive h =
      let a = task_step W t r.state.store (come r.state).outcome in
      let e : request W t ≡ A = asks (request W t) a.task a.store (h 0) in
      let z : suc m ≡ m + 1 = omega arith in
      record {
        task = a.task;
        reached = record { state = (stepped_to r.state t A).state; output = r.output ++ bytes_of (stepped_to r.state t A).byte };
        run = subst (λ x. after W B ps input x ≡ Some (record { state = (stepped_to r.state t A).state; output = r.output ++ bytes_of (stepped_to r.state t A).byte })) z (run_step m r t A placed run runs here e);
        rules = refl;
        taken = refl;
        output = refl;
        tasks = refl;
        holds = λ k. subst (λ (q : Request). Q k q a.task a.store) e (h k);
      }
  comes m (suc (suc n)) r t placed run runs here alive h =
      let a = task_step W t r.state.store (came.Go 0) in
      let r1 : Reached = record { state = (stepped_to r.state t Nothing).state; output = r.output ++ [] } in
      let there = found_by (slice_get r.state.tasks (i - 1)) t here alive in
      let c = comes (suc m) (suc n) r1 a.task (placed_more ps m (suc m) (omega arith) placed) (run_step m r t Nothing placed run runs here (h 0).0) runs (ap task_in (get_set r.state.tasks (i - 1) a.task t there)) (h 0).1 (λ k. (h k).2) in
      let z : suc m + suc n ≡ m + suc (suc n) = omega arith in
      record {
        task = c.task;
        reached = c.reached;
        run = subst (λ x. after W B ps input x ≡ Some c.reached) z c.run;
        rules = c.rules;
        taken = c.taken;
        output = c.output ∙ ap (λ (xs : List ℕ). xs ++ bytes_of (come r.state).byte) (append-nil r.output);
        tasks = c.tasks ∙ set_twice r.state.tasks (i - 1) a.task c.task;
        holds = c.holds;
      }
