-- What is written as the report of a run is a report.
use Rattle.std.proofs.Common.{◌≡◌, ℕ, zero, suc, ◌-◌, ◌<◌, ◌≤◌, Bool, true, false, if◌then◌else◌, List, [], ◌∷◌, ◌++◌, length, map, codes, append_assoc, refl, sym, ap, subst, ◌∙◌, arith}
use Rattle.std.specs.Prelude.{slice_get}
use Rattle.std.specs.List.{AllByRecursion}
use Rattle.std.proofs.lemmas.List.{map-append}
use Rattle.pdp_core.specs.declared.cpu.Kind.{Kind}
use Rattle.rt_image.specs.declared.image.ImageParts.{ImageParts}
use Rattle.rt_rules.specs.declared.task.TaskRow.{TaskRow}
use Rattle.rt_rules.specs.Roster.{IsTask}
use Rattle.rt_run.specs.declared.machine.End.{End}
use Rattle.rt_run.specs.declared.machine.End.TheVariants as end
use Rattle.rt_run.specs.Boundaries.{State, Reached, At, Over, Faulted, state_of, instructions, steps, boundary}
use Rattle.rt_run.specs.Picture.{Standing}
use Rattle.rt_run.specs.Runs.{IsEnd}
use Rattle.rt_run.specs.Laws.{IsCounted}
use Rattle.rt_run.proofs.Counted.{counted as is_counted}
use Rattle.rt_report.specs.Lines.{line, lines}
use Rattle.rt_report.specs.Reports as report
use Rattle.rt_report.specs.Reports.{any_failed, run_status, counted, tick_lines, task_lines, count_lines, end_lines, name_or_none, name_at}
use Rattle.rt_meaning.specs.Runs.{rise_from}
use Rattle.rt_replay.specs.declared.report.ReportedTask.{ReportedTask}
use Rattle.rt_replay.specs.Reports.{Line, Task, Ticks, Tick, words, Ending, Plain, Machine, Input, Output, status_of, fault_lines, report_text, HasEndingRange, HasTaskRange, IsReportName, IsReport, reported_tasks}
use Rattle.rt_replay.specs.Laws.{said_of, HasRowRange, HasPlaceRange, IsRunOf, WrittenReportsAreRead}
use Rattle.rt_replay.proofs.Placed.{IsPlaced, EndsWell, ends_well}

-- ---- the text

lines_append : (a b : List (List (List ℕ))) → lines (a ++ b) ≡ lines a ++ lines b
lines_append [] b = refl
lines_append (l ∷ a) b = ap (λ (t : List ℕ). line l ++ t) (lines_append a b) ∙ sym (append_assoc (line l) (lines a) (lines b))

four_parts : (a b c d : List (List (List ℕ))) → lines a ++ (lines b ++ (lines c ++ lines d)) ≡ lines (a ++ (b ++ (c ++ d)))
four_parts a b c d =
    ap (λ (t : List ℕ). lines a ++ (lines b ++ t)) (sym (lines_append c d))
    ∙ ap (λ (t : List ℕ). lines a ++ t) (sym (lines_append b (c ++ d)))
    ∙ sym (lines_append a (b ++ (c ++ d)))

ending_of : List (List ℕ) → End → List TaskRow → Ending
ending_of names end.Ended ts = Plain (run_status end.Ended ts)
ending_of names end.Limit ts = Plain 2
ending_of names end.Stalled ts = Plain 3
ending_of names (end.Fault i k at) ts = Machine (name_at names i) k at
ending_of names end.ReadFault ts = Input
ending_of names end.WriteFault ts = Output

abbrev lines_of_tasks : List ReportedTask → List Line
lines_of_tasks ts = map (λ t. Task t) ts

abbrev lines_of_ticks : List ℕ → List Line
lines_of_ticks ps = map (λ p. Tick p) ps

words_of_tasks : (names : List (List ℕ)) (ts : List TaskRow) → task_lines names ts ≡ map words (lines_of_tasks (reported_tasks names ts))
words_of_tasks [] ts = refl
words_of_tasks (n ∷ ns) [] = refl
words_of_tasks (n ∷ ns) (t ∷ ts) = ap (λ (l : List (List (List ℕ))). report.task_words n t.state ∷ l) (words_of_tasks ns ts)

words_of_ticks : (ps : List ℕ) → tick_lines ps ≡ map words (lines_of_ticks ps)
words_of_ticks [] = refl
words_of_ticks (p ∷ ps) = ap (λ (l : List (List (List ℕ))). counted (codes "TICK") p ∷ l) (words_of_ticks ps)

words_of_end : (names : List (List ℕ)) (e : End) (ts : List TaskRow) → end_lines names e ≡ map words (fault_lines (ending_of names e ts))
unfolding ending_of
words_of_end names end.Ended ts = refl
words_of_end names end.Limit ts = refl
words_of_end names end.Stalled ts = refl
words_of_end names (end.Fault i k at) ts = refl
words_of_end names end.ReadFault ts = refl
words_of_end names end.WriteFault ts = refl

status_is : (names : List (List ℕ)) (e : End) (ts : List TaskRow) → run_status e ts ≡ status_of (ending_of names e ts)
unfolding ending_of
status_is names end.Ended ts = refl
status_is names end.Limit ts = refl
status_is names end.Stalled ts = refl
status_is names (end.Fault i k at) ts = refl
status_is names end.ReadFault ts = refl
status_is names end.WriteFault ts = refl

words_behind : (names : List (List ℕ)) (d : Standing) (e : End) → task_lines names d.rules.tasks ++ ((counted (codes "TICKS") (length d.ticking.placements) ∷ tick_lines d.ticking.placements) ++ end_lines names e)
    ≡ map words (lines_of_tasks (reported_tasks names d.rules.tasks) ++ (Ticks (length d.ticking.placements) ∷ (lines_of_ticks d.ticking.placements ++ fault_lines (ending_of names e d.rules.tasks))))
words_behind names d e =
    let ts = d.rules.tasks in
    let ps = d.ticking.placements in
    let count = counted (codes "TICKS") (length ps) in
    let fault = fault_lines (ending_of names e ts) in
    let tail : (count ∷ tick_lines ps) ++ end_lines names e ≡ map words (Ticks (length ps) ∷ (lines_of_ticks ps ++ fault)) =
    ap (λ (l : List (List (List ℕ))). (count ∷ l) ++ end_lines names e) (words_of_ticks ps)
    ∙ ap (λ (l : List (List (List ℕ))). count ∷ (map words (lines_of_ticks ps) ++ l)) (words_of_end names e ts)
    ∙ ap (λ (l : List (List (List ℕ))). count ∷ l) (sym (map-append words (lines_of_ticks ps) fault)) in
    ap (λ (l : List (List (List ℕ))). l ++ ((count ∷ tick_lines ps) ++ end_lines names e)) (words_of_tasks names ts)
    ∙ ap (λ (l : List (List (List ℕ))). map words (lines_of_tasks (reported_tasks names ts)) ++ l) tail
    ∙ sym (map-append words (lines_of_tasks (reported_tasks names ts)) (Ticks (length ps) ∷ (lines_of_ticks ps ++ fault)))

text_is : (names : List (List ℕ)) (d : Standing) (e : End) → report.report_text names d e ≡ report_text (said_of names d) d.count (ending_of names e d.rules.tasks)
text_is names d e =
    let ts = d.rules.tasks in
    let ps = d.ticking.placements in
    let behind = task_lines names ts ++ ((counted (codes "TICKS") (length ps) ∷ tick_lines ps) ++ end_lines names e) in
    four_parts (count_lines (run_status e ts) d) (task_lines names ts) (counted (codes "TICKS") (length ps) ∷ tick_lines ps) (end_lines names e)
    ∙ ap (λ (s : ℕ). lines (count_lines s d ++ behind)) (status_is names e ts)
    ∙ ap (λ (l : List (List (List ℕ))). lines (count_lines (status_of (ending_of names e ts)) d ++ l)) (words_behind names d e)

-- ---- the ranges

same_length : (names : List (List ℕ)) (ts : List TaskRow) → length names ≡ length ts → length (reported_tasks names ts) ≡ length names
same_length [] ts e = refl
same_length (n ∷ ns) [] e = absurd (omega (arith, e))
same_length (n ∷ ns) (t ∷ ts) e = let h = same_length ns ts (omega (arith, e)) in omega (arith, h)

tasks_ranged : (names : List (List ℕ)) (ts : List TaskRow) → AllByRecursion IsReportName names → AllByRecursion HasRowRange ts → AllByRecursion HasTaskRange (reported_tasks names ts)
tasks_ranged [] ts h k = tt
tasks_ranged (n ∷ ns) [] h k = tt
tasks_ranged (n ∷ ns) (t ∷ ts) h k = (record { name = h.0; state = k.0 }, tasks_ranged ns ts h.1 k.1)

name_found : (names : List (List ℕ)) (k : ℕ) → k < length names → AllByRecursion IsReportName names → IsReportName (name_or_none (slice_get names k))
name_found [] k lt h = absurd (omega (arith, lt))
name_found (n ∷ ns) zero lt h = h.0
name_found (n ∷ ns) (suc k) lt h = name_found ns k (omega (arith, lt)) h.1

-- what the end of a run says of its fault
abbrev FaultFits : List (List ℕ) → End → Type 0
FaultFits names (end.Fault i k at) = (1 ≤ i) × (i ≤ length names)
FaultFits names _ = Unit {0}

low_status : (b : Bool) → (if b then 1 else 0) ≤ 3
low_status true = omega arith
low_status false = omega arith

ending_ranged : (names : List (List ℕ)) (e : End) (ts : List TaskRow) → AllByRecursion IsReportName names → FaultFits names e → HasPlaceRange e → HasEndingRange (ending_of names e ts)
unfolding ending_of
ending_ranged names end.Ended ts h f p = low_status (any_failed ts)
ending_ranged names end.Limit ts h f p = omega arith
ending_ranged names end.Stalled ts h f p = omega arith
ending_ranged names (end.Fault i k at) ts h f p = (name_found names (i - 1) (omega (arith, f.0, f.1)) h, p)
ending_ranged names end.ReadFault ts h f p = tt
ending_ranged names end.WriteFault ts h f p = tt

-- ---- the state at the end

pub record IsAtEnd (image : ImageParts) (gaps : List ℕ) (names : List (List ℕ)) (s : State) (e : End) : Type 0 where
  pub placed : IsPlaced s
  pub counts : IsCounted image gaps s
  pub fault : FaultFits names e

placed_of : (r : Reached) → EndsWell r → IsPlaced (state_of r)
placed_of (At s) h = h
placed_of (Over why s) h = h.0

fault_of : (r : Reached) (i : ℕ) (k : Kind) (at : ℕ) (s : State) → r ≡ Over (Faulted i k at) s → EndsWell r → IsTask s.rules i
fault_of r i k at s e h = let w : EndsWell (Over (Faulted i k at) s) = subst EndsWell e h in w.1

module _ (image : ImageParts) (gaps all : List ℕ) (limit : ℕ) (names : List (List ℕ)) (d : Standing) (end_is : End) (run : IsRunOf image gaps all limit names d end_is) where
  at_end : (k : ℕ) (e : End) → state_of (boundary image gaps all k) ≡ run.state → FaultFits names e → IsAtEnd image gaps names run.state e
  at_end k e same f = record {
    placed = subst IsPlaced same (placed_of (boundary image gaps all k) (ends_well image run.ranges.each_mark gaps all k));
    counts = subst (IsCounted image gaps) same (is_counted image gaps all k);
    fault = f;
  }

  by_end : (e : End) → HasPlaceRange e → IsEnd image gaps all limit e run.state → IsAtEnd image gaps names run.state e
  by_end end.Ended p h = at_end limit end.Ended (ap state_of h) tt
  by_end end.Stalled p h = at_end limit end.Stalled (ap state_of h) tt
  by_end end.Limit p h = at_end limit end.Limit (ap state_of h.0) tt
  by_end (end.Fault i k at) p h =
      let t = fault_of (boundary image gaps all limit) i k at run.state h (ends_well image run.ranges.each_mark gaps all limit) in
      let c = subst (IsCounted image gaps) (ap state_of h) (is_counted image gaps all limit) in
      at_end limit (end.Fault i k at) (ap state_of h) (t.0, omega (arith, t.1, c.tasks, run.count))
  by_end end.ReadFault p h = at_end (instructions run.state) end.ReadFault (ap state_of h.at) tt
  by_end end.WriteFault p h = at_end (instructions run.state) end.WriteFault (ap state_of h.at) tt

  is_read : IsReport (report.report_text names d end_is) (said_of names d)
  is_read =
      let e = by_end end_is run.place run.ends in
      let s = run.state in
      let rules : length s.rules.tasks ≡ length d.rules.tasks = ap (λ r. length r.tasks) run.shows.rules in
      let same : length names ≡ length d.rules.tasks = omega (arith, run.count, e.counts.tasks, rules) in
      let size = same_length names d.rules.tasks same in
      let ticks : length s.placements ≡ length d.ticking.placements = ap length run.shows.placements in
      let marks : steps s ≡ d.marks = run.shows.steps_taken in
      record {
        instructions = d.count;
        ending = ending_of names end_is d.rules.tasks;
        text = text_is names d end_is;
        few_instructions = run.few;
        ended = ending_ranged names end_is d.rules.tasks run.names_are e.fault run.place;
        ranges = record {
          few_steps = omega (arith, e.placed.low, run.few, run.shows.count, marks);
          some_task = omega (arith, size, run.count, run.ranges.some_task);
          few_tasks = omega (arith, size, run.count, run.ranges.tasks);
          tasks = tasks_ranged names d.rules.tasks run.names_are run.conditions;
          few_ticks = omega (arith, ticks, e.counts.ticks, run.few_ticks);
          placed = ap (λ (n : ℕ). rise_from 0 n d.ticking.placements) (sym marks) ∙ ap (λ (ps : List ℕ). rise_from 0 (steps s) ps) (sym run.shows.placements) ∙ e.placed.placed;
        };
      }

pub written_is_read : WrittenReportsAreRead
written_is_read image gaps all limit names d e run = is_read image gaps all limit names d e run
