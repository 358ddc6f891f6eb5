-- How many tasks and ticks a run has that came from its start.
use Rattle.std.proofs.Common.{◌≡◌, ℕ, suc, ◌≤◌, List, [], ◌∷◌, length, Option, Some, None, refl, sym, ap, subst, ◌∙◌, arith}
use Rattle.std.proofs.Common.{append-nil}
use Rattle.rt_image.specs.declared.image.ImageParts.{ImageParts}
use Rattle.rt_image.specs.declared.image.ImageTask.{ImageTask}
use Rattle.rt_report.specs.Reports.{room_for}
use Rattle.rt_rules.specs.Rules.{running}
use Rattle.rt_run.specs.declared.machine.End.{End}
use Rattle.rt_run.specs.Boundaries.{State, Reached, state_of, judge_by, boundary_at, instructions, start}
use Rattle.rt_run.specs.Inputs.{Feed}
use Rattle.rt_run.specs.Laws.{IsCounted, BoundariesAreCounted}
use Rattle.rt_run.specs.Picture.{Standing, Shows}
use Rattle.rt_run.specs.Runs.{Runs, Reaches, IsSettled}
use Rattle.rt_top.specs.declared.running.Ready.{Ready}
use Rattle.rt_headline.specs.Carrying.{names_of}
use Rattle.rt_top.specs.Running.{Begins}

judged_state : (s : State) (o : Option ℕ) → state_of (judge_by s o) ≡ s
judged_state s None = refl
judged_state s (Some i) = refl

settled_state : (s : State) → IsSettled s → state_of (boundary_at s) ≡ s
settled_state s e = ap (λ (t : State). state_of (judge_by t (running t.rules))) e ∙ judged_state s (running s.rules)

-- the standing has the tasks of the image, and no more ticks than the list
pub record Counts (image : ImageParts) (gaps : List ℕ) (d : Standing) : Type 0 where
  pub tasks : length (d.rules).tasks ≡ length image.tasks
  pub ticks : length (d.ticking).placements ≤ length gaps

counts_of : (image : ImageParts) (gaps : List ℕ) (d : Standing) (s : State) → Shows image d s → IsCounted image gaps s → Counts image gaps d
counts_of image gaps d s shows c = record {
  tasks = subst (λ r. length r.tasks ≡ length image.tasks) shows.rules c.tasks;
  ticks = subst (λ (ps : List ℕ). length ps ≤ length gaps) shows.placements (omega (arith, c.ticks));
}

pub counted : BoundariesAreCounted → (image : ImageParts) (gaps : List ℕ) (limit : ℕ) (end : End) (d d2 : Standing) (from to : Feed) (written written2 : Option (List ℕ)) → Shows image d (start image gaps) → Runs limit end d from written d2 to written2 → Counts image gaps d2
counted law image gaps limit end d d2 from to written written2 shows runs =
    let r : Reaches image gaps runs.given limit (start image gaps) runs.given end d2 written written2 =
    runs.reaches image gaps runs.given [] (start image gaps) shows refl (record { next = sym (append-nil runs.given); last = λ e. refl }) in
    let s = r.rests.comes.state in
    counts_of image gaps d2 s r.rests.comes.shows
    (subst (IsCounted image gaps) (settled_state s r.rests.settled)
    (subst (λ (b : Reached). IsCounted image gaps (state_of b)) (sym r.rests.comes.reached) (law image gaps runs.given (instructions s))))

-- ---- the needs of a report

length_names : (ts : List ImageTask) → length (names_of ts) ≡ length ts
length_names [] = refl
length_names (t ∷ ts) = ap suc (length_names ts)

module _ (ready : Ready) (b : Begins ready) (d : Standing) (c : Counts b.image b.gaps d) (names : List (List ℕ)) (e : names ≡ ready.names) where
  pub enough_names : length names ≡ length (d.rules).tasks
  enough_names = ap (λ (ns : List (List ℕ)). length ns) (e ∙ b.ready.names) ∙ length_names (b.image).tasks ∙ sym c.tasks

  pub enough_room : room_for names (length (d.ticking).placements) ≤ ready.report.spare
  enough_room = subst (λ (ns : List (List ℕ)). room_for ns (length (d.ticking).placements) ≤ ready.report.spare) (sym e) (omega (arith, c.ticks, b.ready.room))
