-- The lines of each report are taken one by one, up to its end.
use Rattle.std.proofs.Common.{◌≡◌, ℕ, suc, ◌+◌, ◌-◌, ◌≤◌, Bool, true, ◌&&◌, cond, leb, ltb, List, [], ◌∷◌, ◌++◌, length, map, codes, append_assoc, append-nil, Option, Some, None, refl, sym, ap, subst, ◌∙◌, arith}
use Rattle.std.specs.List.{AllByRecursion}
use Rattle.std.proofs.lemmas.Bool.{leb-true, le-leb}
use Rattle.std.proofs.lemmas.Bool.Decides.{nat_tests}
use Rattle.std.proofs.lemmas.List.{length-append, map-append}
use Rattle.rt_meaning.specs.Runs.{rise_from}
use Rattle.rt_system.specs.ReadingSystems.{and_then}
use Rattle.rt_system.proofs.Tests.{some_inj, and_parts}
use Rattle.rt_replay.specs.declared.report.Report.{Report}
use Rattle.rt_replay.specs.declared.report.ReportedTask.{ReportedTask}
use Rattle.rt_replay.specs.declared.draft.Draft.{Draft}
use Rattle.rt_replay.specs.declared.draft.Next.{Next}
use Rattle.rt_replay.specs.declared.draft.Next.TheVariants as next
use Rattle.rt_replay.specs.Reports.{Line, Status, Instructions, Steps, Task, Ticks, Tick, MachineFault, InputFault, OutputFault, printed, Ending, Plain, Machine, Input, Output, status_of, fault_lines, report_lines, HasEndingRange, HasTaskRange, HasReportRanges}
use Rattle.rt_replay.specs.Reading.{counted_in, is_status, is_fault, with_status, with_instructions, with_steps, with_ticks, with_task, with_tick, with_fault, take_fault, take_tick, take_by, take_line, is_complete, report_of, start}
use Rattle.rt_replay.proofs.Pieces.{found, differ}
use Rattle.rt_replay.proofs.DecimalReads.{counted_is}
use Rattle.rt_replay.proofs.LineReads.{task_is, no_task}
use Rattle.rt_replay.proofs.FaultReads.{machine_is, input_is, output_is}
use Rattle.rt_replay.proofs.Drafts.{IsWhole, tasks_of, ticks_of, is_status_of, status_within, some_left}

-- what was read with these lines more, where each is in its place
abbrev pub reads : Draft → List (List ℕ) → Option Draft
reads d [] = Some d
reads d (l ∷ ls) = and_then (take_line d l) (λ e. reads e ls)

read_on : (d e : Draft) (l : List ℕ) (ls : List (List ℕ)) → take_line d l ≡ Some e → reads d (l ∷ ls) ≡ reads e ls
read_on d e l ls h = ap (λ (o : Option Draft). and_then o (λ x. reads x ls)) h

pub reads_append : (a b : List (List ℕ)) (d e : Draft) → reads d a ≡ Some e → reads d (a ++ b) ≡ reads e b
reads_append [] b d e h = ap (λ (x : Draft). reads x b) (some_inj h)
reads_append (l ∷ a) b d e h =
    let f = found (take_line d l) (λ (x : Draft). reads x a) e h in
    read_on d f.value l (a ++ b) f.is ∙ reads_append a b f.value e f.rest

-- ---- shapes

abbrev opened : ℕ → Draft
opened s = record { status = s; steps = 0; tasks = []; placements = []; least = 0; next = next.Instructions }

abbrev counted : ℕ → Draft
counted s = record { status = s; steps = 0; tasks = []; placements = []; least = 0; next = next.Steps }

abbrev at_tasks : ℕ → ℕ → List ReportedTask → Draft
at_tasks s n ts = record { status = s; steps = n; tasks = ts; placements = []; least = 0; next = next.Tasks }

abbrev at_ticks : ℕ → ℕ → List ReportedTask → List ℕ → ℕ → ℕ → Draft
at_ticks s n ts ps least left = record { status = s; steps = n; tasks = ts; placements = ps; least = least; next = next.Ticks left }

-- ---- the counts

takes_status : (s : ℕ) → s ≤ 21 → is_status s ≡ true → take_line start (printed (Status s)) ≡ Some (opened s)
unfolding take_line
takes_status s h is = ap (with_status start) (counted_is (codes "STATUS ") 21 s h (omega arith)) ∙ ap (λ (b : Bool). cond b (Some (opened s)) None) is

takes_instructions : (s i : ℕ) → i ≤ 4000000000 → take_line (opened s) (printed (Instructions i)) ≡ Some (counted s)
unfolding take_line
takes_instructions s i h = ap (with_instructions (opened s)) (counted_is (codes "INSTRUCTIONS ") 4000000000 i h (omega arith))

takes_steps : (s n : ℕ) → n ≤ 8000000000 → take_line (counted s) (printed (Steps n)) ≡ Some (at_tasks s n [])
unfolding take_line
takes_steps s n h = ap (with_steps (counted s)) (counted_is (codes "STEPS ") 8000000000 n h (omega arith))

reads_head : (s i n : ℕ) (rest : List (List ℕ)) → s ≤ 21 → is_status s ≡ true → i ≤ 4000000000 → n ≤ 8000000000 → reads start (printed (Status s) ∷ printed (Instructions i) ∷ printed (Steps n) ∷ rest) ≡ reads (at_tasks s n []) rest
reads_head s i n rest h is k m =
    read_on start (opened s) (printed (Status s)) (printed (Instructions i) ∷ printed (Steps n) ∷ rest) (takes_status s h is)
    ∙ read_on (opened s) (counted s) (printed (Instructions i)) (printed (Steps n) ∷ rest) (takes_instructions s i k)
    ∙ read_on (counted s) (at_tasks s n []) (printed (Steps n)) rest (takes_steps s n m)

-- ---- the tasks

less_is : (n m : ℕ) → suc n ≤ m → ltb n m ≡ true
less_is n m h = grind (arith, nat_tests)

takes_task : (s n : ℕ) (done : List ReportedTask) (t : ReportedTask) → suc (length done) ≤ 32 → HasTaskRange t → take_line (at_tasks s n done) (printed (Task t)) ≡ Some (at_tasks s n (done ++ t ∷ []))
unfolding take_line
takes_task s n done t few h =
    ap (with_task (at_tasks s n done) (printed (Task t))) (task_is t h) ∙ ap (λ (b : Bool). cond b (Some (at_tasks s n (done ++ t ∷ []))) None) (less_is (length done) 32 few)

reads_tasks : (s n : ℕ) (done ts : List ReportedTask) (rest : List (List ℕ)) → length done + length ts ≤ 32 → AllByRecursion HasTaskRange ts → reads (at_tasks s n done) (map printed (tasks_of ts) ++ rest) ≡ reads (at_tasks s n (done ++ ts)) rest
reads_tasks s n done [] rest few h = ap (λ (l : List ReportedTask). reads (at_tasks s n l) rest) (sym (append-nil done))
reads_tasks s n done (t ∷ ts) rest few h =
    read_on (at_tasks s n done) (at_tasks s n (done ++ t ∷ [])) (printed (Task t)) (map printed (tasks_of ts) ++ rest) (takes_task s n done t (omega (arith, few)) h.0)
    ∙ reads_tasks s n (done ++ t ∷ []) ts rest (omega (arith, few, length-append done (t ∷ []))) h.1
    ∙ ap (λ (l : List ReportedTask). reads (at_tasks s n l) rest) (append_assoc done (t ∷ []) ts)

-- ---- the ticks

takes_count : (s n k : ℕ) (ts : List ReportedTask) → 1 ≤ length ts → k ≤ 200000 → take_line (at_tasks s n ts) (printed (Ticks k)) ≡ Some (at_ticks s n ts [] 0 k)
unfolding take_line
takes_count s n k ts some h =
    let d = at_tasks s n ts in
    let text = printed (Ticks k) in
    ap (with_task d text) (no_task text (λ r e. differ 1 text (codes "TASK " ++ r) refl e))
    ∙ ap (λ (b : Bool). cond b (with_ticks d (counted_in (codes "TICKS ") 200000 text)) None) (le-leb 1 (length ts) some)
    ∙ ap (with_ticks d) (counted_is (codes "TICKS ") 200000 k h (omega arith))

takes_tick : (s n : ℕ) (ts : List ReportedTask) (done : List ℕ) (m left p : ℕ) → n ≤ 8000000000 → m ≤ p → p ≤ n → take_line (at_ticks s n ts done m (suc left)) (printed (Tick p)) ≡ Some (at_ticks s n ts (done ++ p ∷ []) p left)
unfolding take_line
takes_tick s n ts done m left p big le within =
    let back : suc left - 1 ≡ left = omega arith in
    let d = at_ticks s n ts done m (suc left) in
    ap (λ (b : Bool). cond b (take_fault d (printed (Tick p))) (take_tick (suc left - 1) d (printed (Tick p)))) (some_left left)
    ∙ ap (λ (k : ℕ). take_tick k d (printed (Tick p))) back
    ∙ ap (with_tick d left) (counted_is (codes "TICK ") n p within (omega (arith, big)))
    ∙ ap (λ (b : Bool). cond b (Some (at_ticks s n ts (done ++ p ∷ []) p left)) None) (le-leb m p le)

pub record ReadsTicks (s n : ℕ) (ts : List ReportedTask) (done : List ℕ) (m : ℕ) (ps : List ℕ) (rest : List (List ℕ)) : Type 0 where
  pub last : ℕ
  pub are : reads (at_ticks s n ts done m (length ps)) (map printed (ticks_of ps) ++ rest) ≡ reads (at_ticks s n ts (done ++ ps) last 0) rest

reads_ticks : (s n : ℕ) (ts : List ReportedTask) (done : List ℕ) (m : ℕ) (ps : List ℕ) (rest : List (List ℕ)) → n ≤ 8000000000 → rise_from m n ps ≡ true → ReadsTicks s n ts done m ps rest
reads_ticks s n ts done m [] rest big h = record { last = m; are = ap (λ (l : List ℕ). reads (at_ticks s n ts l m 0) rest) (sym (append-nil done)) }
reads_ticks s n ts done m (p ∷ ps) rest big h =
    let a = and_parts (leb m p) (leb p n && rise_from p n ps) h in
    let b = and_parts (leb p n) (rise_from p n ps) a.1 in
    let more = reads_ticks s n ts (done ++ p ∷ []) p ps rest big b.1 in
    record {
      last = more.last;
      are =
          read_on (at_ticks s n ts done m (suc (length ps))) (at_ticks s n ts (done ++ p ∷ []) p (length ps)) (printed (Tick p)) (map printed (ticks_of ps) ++ rest) (takes_tick s n ts done m (length ps) p big (leb-true m p a.0) (leb-true p n b.0))
          ∙ more.are
          ∙ ap (λ (l : List ℕ). reads (at_ticks s n ts l more.last 0) rest) (append_assoc done (p ∷ []) ps);
    }

-- ---- the end

pub record ReadsWhole (d : Draft) (texts : List (List ℕ)) (r : Report) : Type 0 where
  pub draft : Draft
  pub are : reads d texts ≡ Some draft
  pub complete : is_complete draft ≡ true
  pub report : report_of draft ≡ r

takes_fault : (d : Draft) (status : ℕ) (l : Line) → d.next ≡ next.Ticks 0 → d.status ≡ status → is_fault status (printed l) ≡ true → take_line d (printed l) ≡ Some (record d { next = next.Nothing })
unfolding take_line
takes_fault d status l n s h =
    ap (λ (m : Next). take_by m d (printed l)) n
    ∙ ap (λ (k : ℕ). with_fault d (is_fault k (printed l))) s
    ∙ ap (with_fault d) h

fault_whole : (s n : ℕ) (ts : List ReportedTask) (ps : List ℕ) (m : ℕ) (l : Line) → is_fault s (printed l) ≡ true → ReadsWhole (at_ticks s n ts ps m 0) (printed l ∷ []) (report_of (at_ticks s n ts ps m 0))
fault_whole s n ts ps m l h =
    let d = at_ticks s n ts ps m 0 in
    let e = record d { next = next.Nothing } in
    record { draft = e; are = read_on d e (printed l) [] (takes_fault d s l refl refl h); complete = refl; report = refl }

reads_end : (e : Ending) (n : ℕ) (ts : List ReportedTask) (ps : List ℕ) (m : ℕ) → HasEndingRange e → ReadsWhole (at_ticks (status_of e) n ts ps m 0) (map printed (fault_lines e)) (report_of (at_ticks (status_of e) n ts ps m 0))
reads_end (Plain s) n ts ps m h = record { draft = at_ticks s n ts ps m 0; are = refl; complete = le-leb s 3 h; report = refl }
reads_end (Machine t k a) n ts ps m h = fault_whole 4 n ts ps m (MachineFault t k a) (machine_is t k a h.0 h.1)
reads_end Input n ts ps m h = fault_whole 20 n ts ps m InputFault input_is
reads_end Output n ts ps m h = fault_whole 21 n ts ps m OutputFault output_is

along : (d e : Draft) (a b : List (List ℕ)) (r : Report) → reads d a ≡ reads e b → ReadsWhole e b r → ReadsWhole d a r
along d e a b r same w = record { draft = w.draft; are = same ∙ w.are; complete = w.complete; report = w.report }

reads_report : (r : Report) (i : ℕ) (e : Ending) → i ≤ 4000000000 → HasEndingRange e → HasReportRanges r → ReadsWhole start (map printed (report_lines r i e)) r
reads_report r i e few end h =
    let s = status_of e in
    let n = r.steps in
    let ts = r.tasks in
    let ps = r.placements in
    let k = length ps in
    let fault = map printed (fault_lines e) in
    let behind_tasks = Ticks k ∷ (ticks_of ps ++ fault_lines e) in
    let tasks = map printed (tasks_of ts) in
    let ticks = map printed (ticks_of ps) in
    let split_tasks : map printed (tasks_of ts ++ behind_tasks) ≡ tasks ++ map printed behind_tasks = map-append printed (tasks_of ts) behind_tasks in
    let split_ticks : map printed behind_tasks ≡ printed (Ticks k) ∷ (ticks ++ fault) = ap (λ (l : List (List ℕ)). printed (Ticks k) ∷ l) (map-append printed (ticks_of ps) (fault_lines e)) in
    let read_ticks = reads_ticks s n ts [] 0 ps fault h.few_steps h.placed in
    let same =
    ap (λ (l : List (List ℕ)). reads start (printed (Status s) ∷ printed (Instructions i) ∷ printed (Steps n) ∷ l)) (split_tasks ∙ ap (λ (l : List (List ℕ)). tasks ++ l) split_ticks)
    ∙ reads_head s i n (tasks ++ (printed (Ticks k) ∷ (ticks ++ fault))) (status_within e end) (is_status_of e end) few h.few_steps
    ∙ reads_tasks s n [] ts (printed (Ticks k) ∷ (ticks ++ fault)) (omega (arith, h.few_tasks)) h.tasks
    ∙ read_on (at_tasks s n ts) (at_ticks s n ts [] 0 k) (printed (Ticks k)) (ticks ++ fault) (takes_count s n k ts h.some_task h.few_ticks)
    ∙ read_ticks.are in
    along start (at_ticks s n ts ps read_ticks.last 0) (map printed (report_lines r i e)) fault r same (reads_end e n ts ps read_ticks.last end)

pub whole_reads : (r : Report) (ls : List Line) → IsWhole r ls → ReadsWhole start (map printed ls) r
whole_reads r ls h =
    subst (λ (l : List Line). ReadsWhole start (map printed l) r) (sym h.are) (reads_report r h.instructions h.ending h.few_instructions h.ended h.ranges)
