-- A linked image is faithful.
use Rattle.std.proofs.Common.{◌≡◌, ℕ, zero, suc, ◌+◌, ◌-◌, ◌<◌, ◌≤◌, List, [], ◌∷◌, length, refl, sym, ap, ◌∙◌, subst, arith, Some}
use Rattle.std.specs.Prelude.{slice_get}
use Rattle.pdp_core.specs.declared.cpu.Regs.{Regs}
use Rattle.rt_image.specs.declared.image.ImageParts.{ImageParts}
use Rattle.rt_image.specs.declared.image.ImageTask.{ImageTask}
use Rattle.rt_image.specs.Memory.{start_memory}
use Rattle.rt_tasks.specs.Start.{places_of, start_regs}
use Rattle.rt_rules.specs.Roster.{Roster}
use Rattle.rt_rules.specs.Rules as rules
use Rattle.rt_run.specs.Boundaries.{State, AllEnded, Stalled, Faulted, Reached, At, Over, all_regs, start, boundary}
use Rattle.rt_meaning.specs.declared.begin.SourceTask.{SourceTask}
use Rattle.rt_meaning.specs.Roots.{root_of, roots}
use Rattle.rt_meaning.specs.Run.{task_of, tasks_of, task_in, task_at}
use Rattle.rt_meaning.specs.Step.{Task}
use Rattle.rt_meaning.specs.Whole.{beginning}
use Rattle.rt_meaning_laws.specs.Ends.{EndAsRows}
use Rattle.rt_meaning_laws.specs.SourceRuns.{AreBytes}
use Rattle.rt_follows.specs.Whole.{Whole}
use Rattle.rt_follows.specs.Follows.{Follows}
use Rattle.rt_faithful.specs.Faithful.{home_of, IsFaithfulAt, Meets, Faithful}
use Rattle.rt_faithful.specs.Imaged.{Imaged}
use Rattle.rt_faithful.specs.Laws.{LinkedImagesAreFaithful, StartsAreJoined, TicksKeepJoined, InstructionsKeepJoined}
use Rattle.rt_faithful.specs.Joined.{Joined}
use Rattle.rt_faithful.proofs.Joined.{Given}
use Rattle.rt_faithful.proofs.Begun as begun
use Rattle.rt_faithful.proofs.Joining as joining

-- ---- lists

get_some : {A : Type 0} (xs : List A) (k : ℕ) → k < length xs → (x : A) × (slice_get xs k ≡ Some x)
get_some [] k h = absurd (omega arith)
get_some (x ∷ xs) zero h = (x, refl)
get_some (x ∷ xs) (suc k) h = get_some xs k (omega (arith, h))

task_is : (ts : List SourceTask) (k : ℕ) (x : SourceTask) → slice_get ts k ≡ Some x → slice_get (tasks_of (roots ts)) k ≡ Some (task_of (root_of x))
task_is [] k x e = absurd cc
task_is (t ∷ ts) zero x e = let f : t ≡ x = cc in ap (λ (z : SourceTask). Some (task_of (root_of z))) f
task_is (t ∷ ts) (suc k) x e = task_is ts k x e

module _ (image : ImageParts) where
  length-regs : (n : ℕ) (us : List ImageTask) → length (all_regs image n us) ≡ length us
  length-regs n [] = refl
  length-regs n (t ∷ us) = ap suc (length-regs (n + 1) us)

  -- the registers of a task at the start
  regs_at : (n k : ℕ) (us : List ImageTask) (g : Regs) → slice_get (all_regs image n us) k ≡ Some g → (t : ImageTask) × (slice_get us k ≡ Some t) × (start_regs (places_of image (n + k)) t.entry ≡ g)
  regs_at n k [] g e = absurd cc
  regs_at n zero (t ∷ us) g e = (t, refl, (let here : n + 0 ≡ n = omega arith in let same : start_regs (places_of image n) t.entry ≡ g = cc in ap (λ (j : ℕ). start_regs (places_of image j) t.entry) here ∙ same))
  regs_at n (suc k) (t ∷ us) g e =
      let f = regs_at (n + 1) k us g e in
      let on : n + suc k ≡ n + 1 + k = omega arith in
      (f.0, f.1, ap (λ (j : ℕ). start_regs (places_of image j) f.0.entry) on ∙ f.2)

module _ (given : Given) (w : Whole) (image : ImageParts) (ts : List SourceTask) (is : Imaged w image ts) where
  module _ (input : List ℕ) (typed : AreBytes input) where
    count : length image.tasks ≡ length ts
    count = joining.count given w image ts is input typed

    follows_first : (i : ℕ) (g : Regs) → 1 ≤ i → slice_get (all_regs image 0 image.tasks) (i - 1) ≡ Some g → (k : ℕ) → Follows w (home_of image i) k 0 g (start_memory image) (task_at (tasks_of (roots ts)) i)
    follows_first i g one e k =
        let u = regs_at image 0 (i - 1) image.tasks g e in
        let less = begun.get_less image.tasks (i - 1) u.0 u.1 in
        let x = get_some ts (i - 1) (omega (arith, less, count)) in
        let here : 0 + (i - 1) ≡ i - 1 = omega arith in
        let regs_are : start_regs (places_of image (i - 1)) u.0.entry ≡ g = ap (λ (j : ℕ). start_regs (places_of image j) u.0.entry) (sym here) ∙ u.2 in
        subst (λ (t : Task). Follows w (home_of image i) k 0 g (start_memory image) t) (sym (ap task_in (task_is ts (i - 1) x.0 x.1)))
        (subst (λ (z : Regs). Follows w (home_of image i) k 0 z (start_memory image) (task_of (root_of x.0))) regs_are (begun.follows given w image ts is i u.0 x.0 one u.1 x.1 k))

    pub first : (gaps : List ℕ) → Joined w image ts input (start image gaps)
    first gaps = record {
      reached = record { state = beginning w.ps ts; output = [] };
      placed = refl;
      run = refl;
      output = refl;
      taken = refl;
      rules = ap rules.start (sym is.same_priorities);
      shared = is.shared;
      code = λ a less. is.code a (let end = is.code_ends in omega (arith, less, end));
      registers = length-regs image 0 image.tasks ∙ count;
      follows = λ i g one e k. follows_first i g one e k;
    }

    good : (s : State) → Joined w image ts input s → IsFaithfulAt w image ts input s
    good s j = record {
      same = record {
        reached = j.reached;
        run = rw j.placed j.run;
        output = j.output;
        taken = j.taken;
        rules = j.rules;
        ends = subst (λ (r : Roster). EndAsRows j.reached.state.tasks r.tasks) j.rules (joining.fits given w image ts is input typed s j).2.ends;
        shared = j.shared;
        blocks = λ i one top. let g = get_some s.regs (i - 1) (let all = j.registers in omega (arith, one, top, all)) in (j.follows i g.0 one g.1 0).own;
      };
      registers = j.registers;
      stacks = λ i g one e. let f = j.follows i g one e 0 in (f.above, f.below);
      progress = λ i one top. let g = get_some s.regs (i - 1) (let all = j.registers in omega (arith, one, top, all)) in (j.follows i g.0 one g.1 0).quiet;
    }

    meets : (r : Reached) → joining.Fine given w image ts is input typed r → Meets w image ts input r
    meets (At s) j = good s j
    meets (Over AllEnded s) j = good s j
    meets (Over Stalled s) j = good s j
    meets (Over (Faulted i kind at) s) j = absurd j

  faithful : Faithful w image ts
  faithful = record {
    ranges = is.ranges;
    code_ends = is.code_ends;
    data_ends = is.data_ends;
    lays = is.linked.lays;
    each = λ gaps input typed k. meets input typed (boundary image gaps input k) (joining.fine given w image ts is input typed gaps (first input typed gaps) k);
  }

pub linked_faithful : Given → LinkedImagesAreFaithful
linked_faithful given w image ts is = faithful given w image ts is

-- ---- side by side

pub starts_are_joined : Given → StartsAreJoined
starts_are_joined given w image ts gaps input is typed = first given w image ts is input typed gaps

pub ticks_keep_joined : Given → TicksKeepJoined
ticks_keep_joined given w image ts input s left is typed j = joining.ticked_joined given w image ts is input typed s left j

pub instructions_keep_joined : Given → InstructionsKeepJoined
instructions_keep_joined given w image ts input s i g is typed j runs had = joining.kept given w image ts is input typed s j i g runs had
