-- What was read of a report, up to some line.
use Rattle.std.proofs.Common.{◌≡◌, ℕ, zero, suc, ◌+◌, ◌-◌, ◌≤◌, ◌⊎◌, inl, inr, Bool, true, false, ◌&&◌, eqb, leb, ltb, List, [], ◌∷◌, ◌++◌, length, map, codes, append_assoc, append-nil, Option, Some, None, refl, sym, ap, subst, ◌∙◌, arith}
use Rattle.std.specs.List.{AllByRecursion}
use Rattle.std.proofs.lemmas.Bool.{leb-true, le-leb}
use Rattle.std.proofs.lemmas.Bool.Decides.{nat_tests}
use Rattle.std.proofs.lemmas.List.{length-append, map-append}
use Rattle.pdp_core.specs.declared.cpu.Kind.TheVariants as kind
use Rattle.rt_rules.specs.declared.task.State.TheVariants as state
use Rattle.rt_meaning.specs.Runs.{rise_from}
use Rattle.rt_system.proofs.Tests.{passes, none_some, some_inj, and_parts, and_both}
use Rattle.rt_system.proofs.TickLineReads.{gap_by}
use Rattle.rt_replay.specs.declared.report.Report.{Report}
use Rattle.rt_replay.specs.declared.report.ReportedTask.{ReportedTask}
use Rattle.rt_replay.specs.declared.draft.Draft.{Draft}
use Rattle.rt_replay.specs.declared.draft.Next.{Next}
use Rattle.rt_replay.specs.declared.draft.Next.TheVariants as next
use Rattle.rt_replay.specs.Reports.{Line, Status, Instructions, Steps, Task, Ticks, Tick, MachineFault, InputFault, OutputFault, printed, Ending, Plain, Machine, Input, Output, status_of, fault_lines, report_lines, HasEndingRange, HasTaskRange, HasReportRanges, IsReportName}
use Rattle.rt_replay.specs.Reading.{counted_in, task_in, is_status, is_fault, with_status, with_instructions, with_steps, with_ticks, with_task, with_tick, take_fault, take_by, take_line, is_complete_by, is_complete, report_of, start, task_of}
use Rattle.rt_replay.proofs.Pieces.{none_true}
use Rattle.rt_replay.proofs.DecimalReads.{counted_means, counted_is}
use Rattle.rt_replay.proofs.LineReads.{task_means}
use Rattle.rt_replay.proofs.FaultReads.{fault_means}
use Rattle.rt_replay.proofs.TextLines.{IsRanged}

-- ---- whole reports, by their lines

-- the lines are those of a report
pub record IsWhole (r : Report) (ls : List Line) : Type 0 where
  pub instructions : ℕ
  pub ending : Ending
  pub few_instructions : instructions ≤ 4000000000
  pub ended : HasEndingRange ending
  pub ranges : HasReportRanges r
  pub are : ls ≡ report_lines r instructions ending

abbrev pub tasks_of : List ReportedTask → List Line
tasks_of ts = map (λ t. Task t) ts

abbrev pub ticks_of : List ℕ → List Line
ticks_of ps = map (λ p. Tick p) ps

-- ---- what stands so far

-- a report may have this status
pub record CanEnd (status : ℕ) : Type 0 where
  pub ending : Ending
  pub range : HasEndingRange ending
  pub is : status_of ending ≡ status

pub record IsOpened (d : Draft) (ls : List Line) : Type 0 where
  pub can : CanEnd d.status
  pub steps : d.steps ≡ 0
  pub tasks : d.tasks ≡ []
  pub placements : d.placements ≡ []
  pub low : d.least ≡ 0
  pub are : ls ≡ Status d.status ∷ []

pub record IsCounted (d : Draft) (ls : List Line) : Type 0 where
  pub instructions : ℕ
  pub few_instructions : instructions ≤ 4000000000
  pub can : CanEnd d.status
  pub steps : d.steps ≡ 0
  pub tasks : d.tasks ≡ []
  pub placements : d.placements ≡ []
  pub low : d.least ≡ 0
  pub are : ls ≡ Status d.status ∷ Instructions instructions ∷ []

pub record IsAtTasks (d : Draft) (ls : List Line) : Type 0 where
  pub instructions : ℕ
  pub few_instructions : instructions ≤ 4000000000
  pub can : CanEnd d.status
  pub few_steps : d.steps ≤ 8000000000
  pub few_tasks : length d.tasks ≤ 32
  pub tasks : AllByRecursion HasTaskRange d.tasks
  pub placements : d.placements ≡ []
  pub low : d.least ≡ 0
  pub are : ls ≡ Status d.status ∷ Instructions instructions ∷ Steps d.steps ∷ tasks_of d.tasks

pub record IsAtTicks (left : ℕ) (d : Draft) (ls : List Line) : Type 0 where
  pub instructions : ℕ
  pub few_instructions : instructions ≤ 4000000000
  pub can : CanEnd d.status
  pub few_steps : d.steps ≤ 8000000000
  pub some_task : 1 ≤ length d.tasks
  pub few_tasks : length d.tasks ≤ 32
  pub tasks : AllByRecursion HasTaskRange d.tasks
  pub few_ticks : length d.placements + left ≤ 200000
  pub low : d.least ≤ d.steps
  pub rises : (more : List ℕ) → rise_from d.least d.steps more ≡ true → rise_from 0 d.steps (d.placements ++ more) ≡ true
  pub are : ls ≡ Status d.status ∷ Instructions instructions ∷ Steps d.steps ∷ (tasks_of d.tasks ++ (Ticks (length d.placements + left) ∷ ticks_of d.placements))

abbrev pub SoFarBy : Next → Draft → List Line → Type 0
SoFarBy next.Status d ls = (d ≡ start) × (ls ≡ [])
SoFarBy next.Instructions d ls = IsOpened d ls
SoFarBy next.Steps d ls = IsCounted d ls
SoFarBy next.Tasks d ls = IsAtTasks d ls
SoFarBy (next.Ticks left) d ls = IsAtTicks left d ls
SoFarBy next.Nothing d ls = IsWhole (report_of d) ls

-- these lines were read
abbrev pub IsSoFar : Draft → List Line → Type 0
IsSoFar d ls = SoFarBy d.next d ls

pub starts_so : IsSoFar start []
starts_so = (refl, refl)

-- ---- the statuses

one_letter : IsReportName (codes "A")
one_letter = record { short = (omega arith, omega arith); inside = ((λ e. absurd (omega (arith, e)), λ e. absurd (omega (arith, e))), tt) }

status_by : (s : ℕ) → s ≤ 21 → is_status s ≡ true → (s ≤ 3) ⊎ ((s ≡ 4) ⊎ ((s ≡ 20) ⊎ (s ≡ 21)))
status_by s h e = grind (arith, nat_tests)

can_end : (s : ℕ) → s ≤ 21 → is_status s ≡ true → CanEnd s
can_end s h e =
    elim (status_by s h e) [
      | inl low ↦ record { ending = Plain s; range = low; is = refl }
      | inr a ↦ elim a [
        | inl four ↦ record { ending = Machine (codes "A") kind.Odd 0; range = (one_letter, omega arith); is = sym four }
        | inr b ↦ elim b [
          | inl twenty ↦ record { ending = Input; range = tt; is = sym twenty }
          | inr last ↦ record { ending = Output; range = tt; is = sym last }
        ]
      ]
    ]

low_status : (s : ℕ) → s ≤ 3 → is_status s ≡ true
low_status s h = grind (arith, nat_tests)

pub is_status_of : (e : Ending) → HasEndingRange e → is_status (status_of e) ≡ true
is_status_of (Plain s) h = low_status s h
is_status_of (Machine t k a) h = refl
is_status_of Input h = refl
is_status_of Output h = refl

pub status_within : (e : Ending) → HasEndingRange e → status_of e ≤ 21
status_within (Plain s) h = omega (arith, h)
status_within (Machine t k a) h = omega arith
status_within Input h = omega arith
status_within Output h = omega arith

-- ---- a line more

-- the line that was taken, and what stands so far with it
pub record Goes (d : Draft) (ls : List Line) (text : List ℕ) : Type 0 where
  pub line : Line
  pub is : text ≡ printed line
  pub range : IsRanged line
  pub so_far : IsSoFar d (ls ++ line ∷ [])

goes_as : (d e : Draft) (ls : List Line) (text : List ℕ) → d ≡ e → Goes d ls text → Goes e ls text
goes_as d e ls text s g = subst (λ (x : Draft). Goes x ls text) s g

by_status : (d e : Draft) (ls : List Line) (text : List ℕ) (o : Option ℕ) → counted_in (codes "STATUS ") 21 text ≡ o → (d ≡ start) × (ls ≡ []) → with_status d o ≡ Some e → Goes e ls text
by_status d e ls text None f h w = none_some w
by_status d e ls text (Some s) f h w =
    let p = passes (is_status s) (record d { status = s; next = next.Instructions }) e w in
    let k = counted_means (codes "STATUS ") 21 text s (omega arith) f in
    goes_as (record d { status = s; next = next.Instructions }) e ls text p.1 (record {
      line = Status s;
      is = k.0;
      range = omega (arith, k.1);
      so_far = record {
        can = can_end s k.1 p.0;
        steps = ap (λ (x : Draft). x.steps) h.0;
        tasks = ap (λ (x : Draft). x.tasks) h.0;
        placements = ap (λ (x : Draft). x.placements) h.0;
        low = ap (λ (x : Draft). x.least) h.0;
        are = ap (λ (l : List Line). l ++ Status s ∷ []) h.1;
      };
    })

by_instructions : (d e : Draft) (ls : List Line) (text : List ℕ) (o : Option ℕ) → counted_in (codes "INSTRUCTIONS ") 4000000000 text ≡ o → IsOpened d ls → with_instructions d o ≡ Some e → Goes e ls text
by_instructions d e ls text None f h w = none_some w
by_instructions d e ls text (Some n) f h w =
    let k = counted_means (codes "INSTRUCTIONS ") 4000000000 text n (omega arith) f in
    goes_as (record d { next = next.Steps }) e ls text (some_inj w) (record {
      line = Instructions n;
      is = k.0;
      range = omega (arith, k.1);
      so_far = record {
        instructions = n;
        few_instructions = k.1;
        can = h.can;
        steps = h.steps;
        tasks = h.tasks;
        placements = h.placements;
        low = h.low;
        are = ap (λ (l : List Line). l ++ Instructions n ∷ []) h.are;
      };
    })

all_none : (ts : List ReportedTask) → ts ≡ [] → AllByRecursion HasTaskRange ts
all_none ts e = subst (λ (l : List ReportedTask). AllByRecursion HasTaskRange l) (sym e) tt

by_steps : (d e : Draft) (ls : List Line) (text : List ℕ) (o : Option ℕ) → counted_in (codes "STEPS ") 8000000000 text ≡ o → IsCounted d ls → with_steps d o ≡ Some e → Goes e ls text
by_steps d e ls text None f h w = none_some w
by_steps d e ls text (Some n) f h w =
    let k = counted_means (codes "STEPS ") 8000000000 text n (omega arith) f in
    let none : length d.tasks ≡ 0 = ap length h.tasks in
    goes_as (record d { steps = n; next = next.Tasks }) e ls text (some_inj w) (record {
      line = Steps n;
      is = k.0;
      range = k.1;
      so_far = record {
        instructions = h.instructions;
        few_instructions = h.few_instructions;
        can = h.can;
        few_steps = k.1;
        few_tasks = omega (arith, none);
        tasks = all_none d.tasks h.tasks;
        placements = h.placements;
        low = h.low;
        are = ap (λ (l : List Line). l ++ Steps n ∷ []) h.are ∙ ap (λ (ts : List ReportedTask). Status d.status ∷ Instructions h.instructions ∷ Steps n ∷ tasks_of ts) (sym h.tasks);
      };
    })

all_more : (ts : List ReportedTask) (t : ReportedTask) → AllByRecursion HasTaskRange ts → HasTaskRange t → AllByRecursion HasTaskRange (ts ++ t ∷ [])
all_more [] t h k = (k, tt)
all_more (x ∷ ts) t h k = (h.0, all_more ts t h.1 k)

tasks_more : (ts : List ReportedTask) (t : ReportedTask) → tasks_of ts ++ Task t ∷ [] ≡ tasks_of (ts ++ t ∷ [])
tasks_more ts t = sym (map-append (λ t. Task t) ts (t ∷ []))

ticks_begin : (d : Draft) (n : ℕ) → d.placements ≡ [] → length d.placements + n ≡ n → Ticks n ∷ [] ≡ Ticks (length d.placements + n) ∷ ticks_of d.placements
ticks_begin d n e none = ap (λ (m : ℕ). Ticks m ∷ []) (sym none) ∙ ap (λ (ps : List ℕ). Ticks (length d.placements + n) ∷ ticks_of ps) (sym e)

from_none : (d : Draft) (more : List ℕ) → d.placements ≡ [] → d.least ≡ 0 → rise_from d.least d.steps more ≡ true → rise_from 0 d.steps (d.placements ++ more) ≡ true
from_none d more e low r = ap (λ (ps : List ℕ). rise_from 0 d.steps (ps ++ more)) e ∙ ap (λ (l : ℕ). rise_from l d.steps more) (sym low) ∙ r

by_ticks : (d e : Draft) (ls : List Line) (text : List ℕ) (o : Option ℕ) → counted_in (codes "TICKS ") 200000 text ≡ o → 1 ≤ length d.tasks → IsAtTasks d ls → with_ticks d o ≡ Some e → Goes e ls text
by_ticks d e ls text None f some h w = none_some w
by_ticks d e ls text (Some n) f some h w =
    let k = counted_means (codes "TICKS ") 200000 text n (omega arith) f in
    let none : length d.placements + n ≡ n = omega (arith, ap length h.placements) in
    goes_as (record d { next = next.Ticks n }) e ls text (some_inj w) (record {
      line = Ticks n;
      is = k.0;
      range = omega (arith, k.1);
      so_far = record {
        instructions = h.instructions;
        few_instructions = h.few_instructions;
        can = h.can;
        few_steps = h.few_steps;
        some_task = some;
        few_tasks = h.few_tasks;
        tasks = h.tasks;
        few_ticks = omega (arith, none, k.1);
        low = omega (arith, h.low);
        rises = λ more r. from_none d more h.placements h.low r;
        are = ap (λ (l : List Line). l ++ Ticks n ∷ []) h.are ∙ ap (λ (l : List Line). Status d.status ∷ Instructions h.instructions ∷ Steps d.steps ∷ (tasks_of d.tasks ++ l)) (ticks_begin d n h.placements none);
      };
    })

less_means : (n m : ℕ) → ltb n m ≡ true → suc n ≤ m
less_means n m h = grind (arith, nat_tests)

abbrev with_this : Draft → ReportedTask → Draft
with_this d t = record d { tasks = d.tasks ++ t ∷ [] }

at_tasks_again : (d : Draft) (ls : List Line) (t : ReportedTask) → IsAtTasks d ls → suc (length d.tasks) ≤ 32 → HasTaskRange t → IsAtTasks (with_this d t) (ls ++ Task t ∷ [])
at_tasks_again d ls t h few range = record {
  instructions = h.instructions;
  few_instructions = h.few_instructions;
  can = h.can;
  few_steps = h.few_steps;
  few_tasks = omega (arith, few, length-append d.tasks (t ∷ []));
  tasks = all_more d.tasks t h.tasks range;
  placements = h.placements;
  low = h.low;
  are = ap (λ (l : List Line). l ++ Task t ∷ []) h.are ∙ ap (λ (l : List Line). Status d.status ∷ Instructions h.instructions ∷ Steps d.steps ∷ l) (tasks_more d.tasks t);
}

by_task : (d e : Draft) (ls : List Line) (text : List ℕ) (o : Option ReportedTask) → task_in text ≡ o → d.next ≡ next.Tasks → IsAtTasks d ls → with_task d text o ≡ Some e → Goes e ls text
by_task d e ls text None f n h w =
    let p = gap_by (leb 1 (length d.tasks)) (with_ticks d (counted_in (codes "TICKS ") 200000 text)) e w in
    by_ticks d e ls text (counted_in (codes "TICKS ") 200000 text) refl (leb-true 1 (length d.tasks) p.0) h p.1
by_task d e ls text (Some t) f n h w =
    let p = passes (ltb (length d.tasks) 32) (with_this d t) e w in
    let k = task_means text t f in
    let few : suc (length d.tasks) ≤ 32 = less_means (length d.tasks) 32 p.0 in
    goes_as (with_this d t) e ls text p.1 (record {
      line = Task t;
      is = k.line_is;
      range = k.range;
      so_far = subst (λ (m : Next). SoFarBy m (with_this d t) (ls ++ Task t ∷ [])) (sym n) (at_tasks_again d ls t h few k.range);
    })

-- ---- a tick

abbrev with_that : Draft → ℕ → ℕ → Draft
with_that d left p = record d { least = p; placements = d.placements ++ p ∷ []; next = next.Ticks left }

rises_more : (d : Draft) (p : ℕ) → d.least ≤ p → p ≤ d.steps → ((more : List ℕ) → rise_from d.least d.steps more ≡ true → rise_from 0 d.steps (d.placements ++ more) ≡ true) → (more : List ℕ) → rise_from p d.steps more ≡ true → rise_from 0 d.steps ((d.placements ++ p ∷ []) ++ more) ≡ true
rises_more d p le within h more r =
    let front : rise_from d.least d.steps (p ∷ more) ≡ true = and_both (leb d.least p) (leb p d.steps && rise_from p d.steps more) (le-leb d.least p le) (and_both (leb p d.steps) (rise_from p d.steps more) (le-leb p d.steps within) r) in
    ap (λ (l : List ℕ). rise_from 0 d.steps l) (append_assoc d.placements (p ∷ []) more) ∙ h (p ∷ more) front

ticks_more : (ts : List Line) (n m : ℕ) (ps : List ℕ) (p : ℕ) → n ≡ m → (ts ++ (Ticks n ∷ ticks_of ps)) ++ Tick p ∷ [] ≡ ts ++ (Ticks m ∷ ticks_of (ps ++ p ∷ []))
ticks_more ts n m ps p e =
    append_assoc ts (Ticks n ∷ ticks_of ps) (Tick p ∷ [])
    ∙ ap (λ (l : List Line). ts ++ (Ticks n ∷ l)) (sym (map-append (λ p. Tick p) ps (p ∷ [])))
    ∙ ap (λ (k : ℕ). ts ++ (Ticks k ∷ ticks_of (ps ++ p ∷ []))) e

at_ticks_again : (d : Draft) (ls : List Line) (left p : ℕ) → IsAtTicks (suc left) d ls → d.least ≤ p → p ≤ d.steps → IsAtTicks left (with_that d left p) (ls ++ Tick p ∷ [])
at_ticks_again d ls left p h le within =
    let same : length d.placements + suc left ≡ length (d.placements ++ p ∷ []) + left = omega (arith, length-append d.placements (p ∷ [])) in
    record {
      instructions = h.instructions;
      few_instructions = h.few_instructions;
      can = h.can;
      few_steps = h.few_steps;
      some_task = h.some_task;
      few_tasks = h.few_tasks;
      tasks = h.tasks;
      few_ticks = omega (arith, same, h.few_ticks);
      low = within;
      rises = rises_more d p le within h.rises;
      are = ap (λ (l : List Line). l ++ Tick p ∷ []) h.are ∙ ap (λ (l : List Line). Status d.status ∷ Instructions h.instructions ∷ Steps d.steps ∷ l) (ticks_more (tasks_of d.tasks) (length d.placements + suc left) (length (d.placements ++ p ∷ []) + left) d.placements p same);
    }

by_tick : (d e : Draft) (ls : List Line) (text : List ℕ) (left : ℕ) (o : Option ℕ) → counted_in (codes "TICK ") d.steps text ≡ o → IsAtTicks (suc left) d ls → with_tick d left o ≡ Some e → Goes e ls text
by_tick d e ls text left None f h w = none_some w
by_tick d e ls text left (Some p) f h w =
    let t = passes (leb d.least p) (with_that d left p) e w in
    let k = counted_means (codes "TICK ") d.steps text p (omega (arith, h.few_steps)) f in
    goes_as (with_that d left p) e ls text t.1 (record {
      line = Tick p;
      is = k.0;
      range = omega (arith, k.1, h.few_steps);
      so_far = at_ticks_again d ls left p h (leb-true d.least p t.0) k.1;
    })

-- ---- the end

more_left : (n : ℕ) → eqb (suc n) 0 ≡ true → ⊥
more_left n e = grind (arith, nat_tests)

none_left : {A : Type 0} (n : ℕ) → eqb (suc n) 0 ≡ true → A
none_left n e = absurd (more_left n e)

-- the ranges of what was read, where no tick is left
whole_ranges : (d : Draft) (ls : List Line) → IsAtTicks 0 d ls → HasReportRanges (report_of d)
whole_ranges d ls h = record {
  few_steps = h.few_steps;
  some_task = h.some_task;
  few_tasks = h.few_tasks;
  tasks = h.tasks;
  few_ticks = omega (arith, h.few_ticks);
  placed = ap (λ (l : List ℕ). rise_from 0 d.steps l) (sym (append-nil d.placements)) ∙ h.rises [] refl;
}

-- the lines up to the ticks, and those of an ending behind them
whole_lines : (d : Draft) (ls : List Line) (h : IsAtTicks 0 d ls) (e : Ending) → status_of e ≡ d.status → ls ++ fault_lines e ≡ report_lines (report_of d) h.instructions e
whole_lines d ls h e s =
    let none : length d.placements + 0 ≡ length d.placements = omega arith in
    let ts = tasks_of d.tasks in
    let ps = ticks_of d.placements in
    ap (λ (l : List Line). l ++ fault_lines e) h.are
    ∙ ap (λ (n : ℕ). Status d.status ∷ Instructions h.instructions ∷ Steps d.steps ∷ ((ts ++ (Ticks n ∷ ps)) ++ fault_lines e)) none
    ∙ ap (λ (l : List Line). Status d.status ∷ Instructions h.instructions ∷ Steps d.steps ∷ l) (append_assoc ts (Ticks (length d.placements) ∷ ps) (fault_lines e))
    ∙ ap (λ (n : ℕ). Status n ∷ Instructions h.instructions ∷ Steps d.steps ∷ (ts ++ (Ticks (length d.placements) ∷ (ps ++ fault_lines e)))) (sym s)

whole_with : (d : Draft) (ls : List Line) → IsAtTicks 0 d ls → (e : Ending) → HasEndingRange e → status_of e ≡ d.status → IsWhole (report_of d) (ls ++ fault_lines e)
whole_with d ls h e range s = record {
  instructions = h.instructions;
  ending = e;
  few_instructions = h.few_instructions;
  ended = range;
  ranges = whole_ranges d ls h;
  are = whole_lines d ls h e s;
}

fault_ranged : (e : Ending) (l : Line) → fault_lines e ≡ l ∷ [] → HasEndingRange e → IsRanged l
fault_ranged (Plain s) l a h = absurd cc
fault_ranged (Machine t k at) l a h = let same : MachineFault t k at ≡ l = cc in subst IsRanged same h.0
fault_ranged Input l a h = let same : InputFault ≡ l = cc in subst IsRanged same tt
fault_ranged Output l a h = let same : OutputFault ≡ l = cc in subst IsRanged same tt

by_fault : (d e : Draft) (ls : List Line) (text : List ℕ) → IsAtTicks 0 d ls → take_fault d text ≡ Some e → Goes e ls text
by_fault d e ls text h w =
    let p = passes (is_fault d.status text) (record d { next = next.Nothing }) e w in
    let f = fault_means d.status text p.0 in
    goes_as (record d { next = next.Nothing }) e ls text p.1 (record {
      line = f.fault;
      is = f.line_is;
      range = fault_ranged f.ending f.fault f.alone f.range;
      so_far = subst (λ (l : List Line). IsWhole (report_of d) (ls ++ l)) f.alone (whole_with d ls h f.ending f.range f.status_is);
    })

pub some_left : (n : ℕ) → eqb (suc n) 0 ≡ false
some_left n = grind (arith, nat_tests)

by_left : (d e : Draft) (ls : List Line) (text : List ℕ) (left : ℕ) → IsAtTicks left d ls → take_by (next.Ticks left) d text ≡ Some e → Goes e ls text
by_left d e ls text zero h w = by_fault d e ls text h w
by_left d e ls text (suc left) h w =
    let back : suc left - 1 ≡ left = omega arith in
    by_tick d e ls text left (counted_in (codes "TICK ") d.steps text) refl h (rw (some_left left, back) at w)

by_next : (d e : Draft) (ls : List Line) (text : List ℕ) (n : Next) → d.next ≡ n → SoFarBy n d ls → take_by n d text ≡ Some e → Goes e ls text
by_next d e ls text next.Status n h w = by_status d e ls text (counted_in (codes "STATUS ") 21 text) refl h w
by_next d e ls text next.Instructions n h w = by_instructions d e ls text (counted_in (codes "INSTRUCTIONS ") 4000000000 text) refl h w
by_next d e ls text next.Steps n h w = by_steps d e ls text (counted_in (codes "STEPS ") 8000000000 text) refl h w
by_next d e ls text next.Tasks n h w = by_task d e ls text (task_in text) refl n h w
by_next d e ls text (next.Ticks left) n h w = by_left d e ls text left h w
by_next d e ls text next.Nothing n h w = none_some w

-- the line that is taken is one of a report, and stands behind those before it
pub goes : (d e : Draft) (ls : List Line) (text : List ℕ) → IsSoFar d ls → take_line d text ≡ Some e → Goes e ls text
unfolding take_line
goes d e ls text h w = by_next d e ls text d.next refl h w

ended_left : (d : Draft) (ls : List Line) (left : ℕ) → IsAtTicks left d ls → (eqb left 0 && leb d.status 3) ≡ true → IsWhole (report_of d) ls
ended_left d ls (suc left) h c = none_left left (and_parts (eqb (suc left) 0) (leb d.status 3) c).0
ended_left d ls zero h c =
    let low : d.status ≤ 3 = leb-true d.status 3 (and_parts (eqb 0 0) (leb d.status 3) c).1 in
    subst (λ (l : List Line). IsWhole (report_of d) l) (append-nil ls) (whole_with d ls h (Plain d.status) low refl)

ends_by : (n : Next) (d : Draft) (ls : List Line) → SoFarBy n d ls → is_complete_by n d.status ≡ true → IsWhole (report_of d) ls
ends_by next.Status d ls h c = none_true c
ends_by next.Instructions d ls h c = none_true c
ends_by next.Steps d ls h c = none_true c
ends_by next.Tasks d ls h c = none_true c
ends_by (next.Ticks left) d ls h c = ended_left d ls left h c
ends_by next.Nothing d ls h c = h

-- what was read to its end is a report
pub ends : (d : Draft) (ls : List Line) → IsSoFar d ls → is_complete d ≡ true → IsWhole (report_of d) ls
ends d ls h c = ends_by d.next d ls h c

steps_by : (n : Next) (d : Draft) (ls : List Line) → SoFarBy n d ls → d.steps ≤ 8000000000
steps_by next.Status d ls h = let none : d.steps ≡ 0 = ap (λ (x : Draft). x.steps) h.0 in omega (arith, none)
steps_by next.Instructions d ls h = omega (arith, h.steps)
steps_by next.Steps d ls h = omega (arith, h.steps)
steps_by next.Tasks d ls h = h.few_steps
steps_by (next.Ticks left) d ls h = h.few_steps
steps_by next.Nothing d ls h = h.ranges.few_steps

pub few_steps : (d : Draft) (ls : List Line) → IsSoFar d ls → d.steps ≤ 8000000000
few_steps d ls h = steps_by d.next d ls h

-- ---- what may follow

-- a report begins with these lines
pub record Continues (ls : List Line) : Type 0 where
  pub more : List Line
  pub report : Report
  pub whole : IsWhole report (ls ++ more)

without_last : (ls : List Line) (l : Line) → Continues (ls ++ l ∷ []) → Continues ls
without_last ls l c = record { more = l ∷ c.more; report = c.report; whole = subst (λ (x : List Line). IsWhole c.report x) (append_assoc ls (l ∷ []) c.more) c.whole }

ticks_continue : (left : ℕ) (d : Draft) (ls : List Line) → IsAtTicks left d ls → Continues ls
ticks_continue zero d ls h = record { more = fault_lines h.can.ending; report = report_of d; whole = whole_with d ls h h.can.ending h.can.range h.can.is }
ticks_continue (suc left) d ls h =
    without_last ls (Tick d.least) (ticks_continue left (with_that d left d.least) (ls ++ Tick d.least ∷ []) (at_ticks_again d ls left d.least h (omega arith) h.low))

counted_continue : (d : Draft) (ls : List Line) → 1 ≤ length d.tasks → IsAtTasks d ls → Continues ls
counted_continue d ls some h =
    let g = by_ticks d (record d { next = next.Ticks 0 }) ls (printed (Ticks 0)) (Some 0) (counted_is (codes "TICKS ") 200000 0 (omega arith) (omega arith)) some h refl in
    without_last ls g.line (ticks_continue 0 (record d { next = next.Ticks 0 }) (ls ++ g.line ∷ []) g.so_far)

task_range : HasTaskRange (task_of (codes "A") state.Ready)
task_range = record { name = one_letter; state = tt }

no_some : (n : ℕ) → leb 1 n ≡ false → n ≡ 0
no_some n h = grind (arith, nat_tests)

tasks_continue : (d : Draft) (ls : List Line) (b : Bool) → leb 1 (length d.tasks) ≡ b → IsAtTasks d ls → Continues ls
tasks_continue d ls true e h = counted_continue d ls (leb-true 1 (length d.tasks) e) h
tasks_continue d ls false e h =
    let t = task_of (codes "A") state.Ready in
    let none : length d.tasks ≡ 0 = no_some (length d.tasks) e in
    let more = at_tasks_again d ls t h (omega (arith, none)) task_range in
    without_last ls (Task t) (counted_continue (with_this d t) (ls ++ Task t ∷ []) (omega (arith, length-append d.tasks (t ∷ []))) more)

steps_continue : (d : Draft) (ls : List Line) → IsCounted d ls → Continues ls
steps_continue d ls h =
    let e = record d { steps = 0; next = next.Tasks } in
    let g = by_steps d e ls (printed (Steps 0)) (Some 0) (counted_is (codes "STEPS ") 8000000000 0 (omega arith) (omega arith)) h refl in
    without_last ls g.line (tasks_continue e (ls ++ g.line ∷ []) (leb 1 (length d.tasks)) refl g.so_far)

instructions_continue : (d : Draft) (ls : List Line) → IsOpened d ls → Continues ls
instructions_continue d ls h =
    let e = record d { next = next.Steps } in
    let g = by_instructions d e ls (printed (Instructions 0)) (Some 0) (counted_is (codes "INSTRUCTIONS ") 4000000000 0 (omega arith) (omega arith)) h refl in
    without_last ls g.line (steps_continue e (ls ++ g.line ∷ []) g.so_far)

start_continues : (d : Draft) (ls : List Line) → (d ≡ start) × (ls ≡ []) → Continues ls
start_continues d ls h =
    let e = record d { status = 0; next = next.Instructions } in
    let g = by_status d e ls (printed (Status 0)) (Some 0) (counted_is (codes "STATUS ") 21 0 (omega arith) (omega arith)) h refl in
    without_last ls g.line (instructions_continue e (ls ++ g.line ∷ []) g.so_far)

whole_continues : (r : Report) (ls : List Line) → IsWhole r ls → Continues ls
whole_continues r ls h = record { more = []; report = r; whole = subst (λ (x : List Line). IsWhole r x) (sym (append-nil ls)) h }

continues_by : (n : Next) (d : Draft) (ls : List Line) → SoFarBy n d ls → Continues ls
continues_by next.Status d ls h = start_continues d ls h
continues_by next.Instructions d ls h = instructions_continue d ls h
continues_by next.Steps d ls h = steps_continue d ls h
continues_by next.Tasks d ls h = tasks_continue d ls (leb 1 (length d.tasks)) refl h
continues_by (next.Ticks left) d ls h = ticks_continue left d ls h
continues_by next.Nothing d ls h = whole_continues (report_of d) ls h

-- the report of some run begins with what was read
pub continues : (d : Draft) (ls : List Line) → IsSoFar d ls → Continues ls
continues d ls h = continues_by d.next d ls h
