-- A report is read line by line.
use Rattle.std.proofs.Common.{◌≡◌, ℕ, suc, ◌+◌, ◌-◌, ◌<◌, ◌≤◌, ◌⊎◌, inl, inr, true, false, List, [], ◌∷◌, ◌++◌, length, take, drop, map, append_assoc, append-nil, Option, Some, None, Result, Ok, Err, IfOk, IfErr, refl, sym, ap, subst, ◌∙◌, add-one, arith}
use Rattle.std.specs.List.{AllByRecursion}
use Rattle.std.proofs.lemmas.List.{length-append, length-map, map-append, take_at, take-append-drop}
use Rattle.rt_system.specs.ReadingSystems.{and_then}
use Rattle.rt_system.proofs.Tests.{some_inj, none_some, true_false}
use Rattle.rt_system.proofs.Says.{take_front}
use Rattle.rt_replay.specs.Texts.{lines_of}
use Rattle.rt_replay.specs.declared.report.Report.{Report}
use Rattle.rt_replay.specs.declared.report.ReportedTask.{ReportedTask}
use Rattle.rt_replay.specs.declared.draft.Draft.{Draft}
use Rattle.rt_replay.specs.declared.fault.ReportFault.{ReportFault}
use Rattle.rt_replay.specs.declared.fault.ReportFault.TheVariants.{Memory, BadReport}
use Rattle.rt_replay.specs.Reports.{Line, Ticks, printed, Ending, Plain, Machine, Input, Output, fault_lines, report_lines, HasEndingRange, HasTaskRange, HasReportRanges, IsReport, BeginsReport, IsBadReportLine, RefusesReport}
use Rattle.rt_system.specs.Reading.{after_line}
use Rattle.rt_replay.specs.Reading.{first_line, take_line, is_complete, report_of, start, Refuses}
use Rattle.rt_meaning.specs.Runs.{rise_from}
use Rattle.rt_system.proofs.Tests.{and_parts}
use Rattle.std.specs.Prelude.{nat_le, ◌&&◌}
use Rattle.std.proofs.lemmas.Bool.{leb-true}
use Rattle.rt_replay.proofs.TextLines.{no_lines, first_is, IsRanged, print, lines_printed, printed_some, print_append}
use Rattle.rt_replay.proofs.Drafts.{IsWhole, IsSoFar, starts_so, goes, ends, few_steps, Continues, continues, status_within, tasks_of, ticks_of}
use Rattle.rt_replay.proofs.WholeReads.{reads, reads_append, ReadsWhole, whole_reads}

-- ---- the lines of a whole report are in range

ticks_ranged : (least n : ℕ) (ps : List ℕ) → n ≤ 8000000000 → rise_from least n ps ≡ true → AllByRecursion IsRanged (ticks_of ps)
ticks_ranged least n [] h r = tt
ticks_ranged least n (p ∷ ps) h r =
    let a = and_parts (nat_le least p) (nat_le p n && rise_from p n ps) r in
    let b = and_parts (nat_le p n) (rise_from p n ps) a.1 in
    (omega (arith, h, leb-true p n b.0), ticks_ranged p n ps h b.1)

tasks_ranged : (ts : List ReportedTask) → AllByRecursion HasTaskRange ts → AllByRecursion IsRanged (tasks_of ts)
tasks_ranged [] h = tt
tasks_ranged (t ∷ ts) h = (h.0, tasks_ranged ts h.1)

fault_ranged : (e : Ending) → HasEndingRange e → AllByRecursion IsRanged (fault_lines e)
fault_ranged (Plain s) h = tt
fault_ranged (Machine t k a) h = (h.0, tt)
fault_ranged Input h = (tt, tt)
fault_ranged Output h = (tt, tt)

all_append : (ls ms : List Line) → AllByRecursion IsRanged ls → AllByRecursion IsRanged ms → AllByRecursion IsRanged (ls ++ ms)
all_append [] ms h k = k
all_append (l ∷ ls) ms h k = (h.0, all_append ls ms h.1 k)

report_ranged : (r : Report) (i : ℕ) (e : Ending) → i ≤ 4000000000 → HasEndingRange e → HasReportRanges r → AllByRecursion IsRanged (report_lines r i e)
report_ranged r i e few end h =
    let tail : AllByRecursion IsRanged (Ticks (length r.placements) ∷ (ticks_of r.placements ++ fault_lines e)) =
    (omega (arith, h.few_ticks), all_append (ticks_of r.placements) (fault_lines e) (ticks_ranged 0 r.steps r.placements h.few_steps h.placed) (fault_ranged e end)) in
    (omega (arith, status_within e end), (omega (arith, few), (h.few_steps, all_append (tasks_of r.tasks) (Ticks (length r.placements) ∷ (ticks_of r.placements ++ fault_lines e)) (tasks_ranged r.tasks h.tasks) tail)))

whole_ranged : (r : Report) (ls : List Line) → IsWhole r ls → AllByRecursion IsRanged ls
whole_ranged r ls h = subst (λ (l : List Line). AllByRecursion IsRanged l) (sym h.are) (report_ranged r h.instructions h.ending h.few_instructions h.ended h.ranges)

-- ---- reports and their lines

whole_report : (r : Report) (ls : List Line) (bytes : List ℕ) → bytes ≡ print ls → IsWhole r ls → IsReport bytes r
whole_report r ls bytes e h = record {
  instructions = h.instructions;
  ending = h.ending;
  text = e ∙ ap print h.are;
  few_instructions = h.few_instructions;
  ended = h.ended;
  ranges = h.ranges;
}

abbrev lines_in : (bytes : List ℕ) (r : Report) → IsReport bytes r → List Line
lines_in bytes r h = report_lines r h.instructions h.ending

report_whole : (bytes : List ℕ) (r : Report) (h : IsReport bytes r) → IsWhole r (lines_in bytes r h)
report_whole bytes r h = record { instructions = h.instructions; ending = h.ending; few_instructions = h.few_instructions; ended = h.ended; ranges = h.ranges; are = refl }

printed_lines : (ls : List Line) → AllByRecursion IsRanged ls → lines_of (print ls) ≡ map printed ls ++ [] ∷ []
printed_lines ls h =
    ap lines_of (sym (append-nil (print ls))) ∙ lines_printed ls [] h ∙ ap (λ (l : List (List ℕ)). map printed ls ++ l) no_lines

lines_of_report : (bytes : List ℕ) (r : Report) (h : IsReport bytes r) → lines_of bytes ≡ map printed (lines_in bytes r h) ++ [] ∷ []
lines_of_report bytes r h = ap lines_of h.text ∙ printed_lines (lines_in bytes r h) (whole_ranged r (lines_in bytes r h) (report_whole bytes r h))

-- ---- lists that end in one element

pub record GoesOn {A : Type 0} (a b : List A) (y : A) : Type 0 where
  pub more : List A
  pub parts : a ≡ b ++ y ∷ more

same_head : {A : Type 0} (x y : A) (xs ys : List A) → x ∷ xs ≡ y ∷ ys → x ≡ y
same_head x y xs ys e = cc

same_tail : {A : Type 0} (x y : A) (xs ys : List A) → x ∷ xs ≡ y ∷ ys → xs ≡ ys
same_tail x y xs ys e = cc

no_cons : {A B : Type 0} (x : A) (xs : List A) → [] ≡ x ∷ xs → B
no_cons x xs e = absurd cc

no_end : {A B : Type 0} (b : List A) (y : A) (ys : List A) → [] ≡ b ++ y ∷ ys → B
no_end [] y ys e = no_cons y ys e
no_end (c ∷ b) y ys e = no_cons c (b ++ y ∷ ys) e

split_last : {A : Type 0} (a b : List A) (z y : A) (ys : List A) → a ++ z ∷ [] ≡ b ++ y ∷ ys → ((a ≡ b) × (y ≡ z)) ⊎ GoesOn a b y
split_last [] [] z y ys e = inl (refl, sym (same_head z y [] ys e))
split_last [] (c ∷ b) z y ys e = no_end b y ys (same_tail z c [] (b ++ y ∷ ys) e)
split_last (c ∷ a) [] z y ys e = inr (record { more = a; parts = ap (λ x. x ∷ a) (same_head c y (a ++ z ∷ []) ys e) })
split_last {A} (c ∷ a) (d ∷ b) z y ys e =
    let first : c ≡ d = same_head c d (a ++ z ∷ []) (b ++ y ∷ ys) e in
    elim (split_last a b z y ys (same_tail c d (a ++ z ∷ []) (b ++ y ∷ ys) e)) [
      | inl h ↦ inl (ap (λ (l : List A). c ∷ l) h.0 ∙ ap (λ (x : A). x ∷ b) first, h.1)
      | inr g ↦ inr (record { more = g.more; parts = ap (λ (l : List A). c ∷ l) g.parts ∙ ap (λ (x : A). x ∷ (b ++ y ∷ g.more)) first })
    ]

no_empty_line : {B : Type 0} (ls : List Line) (b : List (List ℕ)) (cs : List (List ℕ)) → map printed ls ≡ b ++ [] ∷ cs → B
no_empty_line [] b cs e = no_end b [] cs e
no_empty_line (l ∷ ls) [] cs e = absurd (printed_some l (same_head (printed l) [] (map printed ls) cs e))
no_empty_line (l ∷ ls) (c ∷ b) cs e = no_empty_line ls b cs (same_tail (printed l) c (map printed ls) (b ++ [] ∷ cs) e)

-- ---- the lines that are read

-- so many lines are read, each of them one of a report, and say this
pub record IsRead (bytes rest : List ℕ) (number : ℕ) (d : Draft) : Type 0 where
  pub found : List Line
  pub parts : bytes ≡ print found ++ rest
  pub ranged : AllByRecursion IsRanged found
  pub count : length found ≡ number
  pub so_far : IsSoFar d found
  pub read : reads start (map printed found) ≡ Some d

pub starts : (bytes : List ℕ) → IsRead bytes bytes 0 start
starts bytes = record { found = []; parts = refl; ranged = tt; count = refl; so_far = starts_so; read = refl }

pub steps_within : (bytes rest : List ℕ) (n : ℕ) (d : Draft) → IsRead bytes rest n d → d.steps ≤ 8000000000
steps_within bytes rest n d r = few_steps d r.found r.so_far

print_one : (l : Line) → print (l ∷ []) ≡ printed l
print_one l = append-nil (printed l)

more_parts : (bytes rest line after : List ℕ) (ls : List Line) (l : Line) → bytes ≡ print ls ++ rest → rest ≡ line ++ after → line ≡ printed l → bytes ≡ print (ls ++ l ∷ []) ++ after
more_parts bytes rest line after ls l parts cut is =
    parts ∙ ap (λ (t : List ℕ). print ls ++ t) (cut ∙ ap (λ (t : List ℕ). t ++ after) (is ∙ sym (print_one l)))
    ∙ sym (append_assoc (print ls) (print (l ∷ [])) after)
    ∙ ap (λ (t : List ℕ). t ++ after) (sym (print_append ls (l ∷ [])))

more_reads : (ls : List Line) (l : Line) (line : List ℕ) (d e : Draft) → reads start (map printed ls) ≡ Some d → line ≡ printed l → take_line d line ≡ Some e → reads start (map printed (ls ++ l ∷ [])) ≡ Some e
more_reads ls l line d e read is taken =
    ap (reads start) (map-append printed ls (l ∷ [])) ∙ reads_append (map printed ls) (printed l ∷ []) start d read
    ∙ ap (λ (t : List ℕ). reads d (t ∷ [])) (sym is) ∙ ap (λ (o : Option Draft). and_then o (λ x. reads x [])) taken

next : (bytes rest : List ℕ) (n : ℕ) (d e : Draft) → IsRead bytes rest n d → 1 ≤ length rest → take_line d (first_line rest) ≡ Some e → IsRead bytes (after_line rest) (suc n) e
next bytes rest n d e r some taken =
    let f = first_is rest some in
    let g = goes d e r.found (first_line rest) r.so_far taken in
    record {
      found = r.found ++ g.line ∷ [];
      parts = more_parts bytes rest (first_line rest) (after_line rest) r.found g.line r.parts f.parts g.is;
      ranged = all_append r.found (g.line ∷ []) r.ranged (g.range, tt);
      count = omega (arith, length-append r.found (g.line ∷ []), r.count);
      so_far = g.so_far;
      read = more_reads r.found g.line (first_line rest) d e r.read g.is taken;
    }

pub goes_on : (bytes rest line after : List ℕ) (n : ℕ) (d e : Draft) → IsRead bytes rest n d → 1 ≤ length rest → line ≡ first_line rest → after ≡ after_line rest → take_line d line ≡ Some e → IsRead bytes after (n + 1) e
goes_on bytes rest line after n d e r some is rests taken =
    rw (add-one, rests) (next bytes rest n d e r some (subst (λ (l : List ℕ). take_line d l ≡ Some e) is taken))

pub finds_end : (bytes rest : List ℕ) (n : ℕ) (d : Draft) → IsRead bytes rest n d → length rest ≡ 0 → is_complete d ≡ true → IsReport bytes (report_of d)
finds_end bytes [] n d r none c = whole_report (report_of d) r.found bytes (r.parts ∙ append-nil (print r.found)) (ends d r.found r.so_far c)
finds_end bytes (b ∷ bs) n d r none c = absurd (omega (arith, none))

-- ---- the line that is refused

all_lines : (bytes rest : List ℕ) (n : ℕ) (d : Draft) (r : IsRead bytes rest n d) → lines_of bytes ≡ map printed r.found ++ lines_of rest
all_lines bytes rest n d r = ap lines_of r.parts ∙ lines_printed r.found rest r.ranged

begins_front : (ls : List Line) → Continues ls → BeginsReport (map printed ls)
begins_front ls c =
    let all = ls ++ c.more in
    let w = whole_ranged c.report all c.whole in
    record {
      text = print all;
      report = c.report;
      is = whole_report c.report all (print all) refl c.whole;
      more = map printed c.more ++ [] ∷ [];
      parts = printed_lines all w ∙ ap (λ (l : List (List ℕ)). l ++ [] ∷ []) (map-append printed ls c.more) ∙ append_assoc (map printed ls) (map printed c.more) ([] ∷ []);
    }

-- a report that begins with the lines that are read goes on with one that would be taken, or ends there
pub record Clashes (d : Draft) (line : List ℕ) : Type 0 where
  pub taken : take_line d line ≡ None → 1 ≤ length line → ⊥
  pub ended : line ≡ [] → is_complete d ≡ false → ⊥

taken_then : (d x : Draft) (line : List ℕ) (more : List (List ℕ)) → reads d (line ∷ more) ≡ Some x → take_line d line ≡ None → ⊥
taken_then d x line more h none = none_some (ap (λ (o : Option Draft). and_then o (λ x. reads x more)) (sym none) ∙ h)

no_bytes : (line : List ℕ) → line ≡ [] → 1 ≤ length line → ⊥
no_bytes line e h = absurd (omega (arith, ap length e, h))

goes_further : (ls ms : List Line) (r : Report) (d : Draft) (line : List ℕ) → reads start (map printed ls) ≡ Some d → ReadsWhole start (map printed ms) r → GoesOn (map printed ms) (map printed ls) line → Clashes d line
goes_further ls ms r d line read w g =
    let h : reads d (line ∷ g.more) ≡ Some w.draft = sym (reads_append (map printed ls) (line ∷ g.more) start d read) ∙ ap (reads start) (sym g.parts) ∙ w.are in
    record {
      taken = λ none some. taken_then d w.draft line g.more h none;
      ended = λ e c. no_empty_line ms (map printed ls) g.more (g.parts ∙ ap (λ (t : List ℕ). map printed ls ++ t ∷ g.more) e);
    }

goes_no_further : (ls ms : List Line) (r : Report) (d : Draft) (line : List ℕ) → reads start (map printed ls) ≡ Some d → ReadsWhole start (map printed ms) r → map printed ms ≡ map printed ls → line ≡ [] → Clashes d line
goes_no_further ls ms r d line read w same e =
    let h : d ≡ w.draft = some_inj (sym read ∙ ap (reads start) (sym same) ∙ w.are) in
    record {
      taken = λ none some. no_bytes line e some;
      ended = λ k c. true_false (is_complete d) (ap is_complete h ∙ w.complete) c;
    }

clashes : (ls : List Line) (d : Draft) (line : List ℕ) → reads start (map printed ls) ≡ Some d → BeginsReport (map printed ls ++ line ∷ []) → Clashes d line
clashes ls d line read b =
    let ms = lines_in b.text b.report b.is in
    let w = whole_reads b.report ms (report_whole b.text b.report b.is) in
    let e = sym (lines_of_report b.text b.report b.is) ∙ b.parts ∙ append_assoc (map printed ls) (line ∷ []) b.more in
    elim (split_last (map printed ms) (map printed ls) [] line b.more e) [
      | inl h ↦ goes_no_further ls ms b.report d line read w h.0 h.1
      | inr g ↦ goes_further ls ms b.report d line read w g
    ]

bad_line : (bytes rest line : List ℕ) (more : List (List ℕ)) (n : ℕ) (d : Draft) → IsRead bytes rest n d → lines_of rest ≡ line ∷ more → (Clashes d line → ⊥) → IsBadReportLine bytes (n + 1)
bad_line bytes rest line more n d r head never =
    let ls = r.found in
    let all : lines_of bytes ≡ map printed ls ++ line ∷ more = all_lines bytes rest n d r ∙ ap (λ (l : List (List ℕ)). map printed ls ++ l) head in
    let long : length (map printed ls) ≡ n = length-map ls printed ∙ r.count in
    let front : take n (lines_of bytes) ≡ map printed ls = ap (take n) all ∙ take_at (map printed ls) (line ∷ more) n long in
    let one : length (map printed ls ++ line ∷ []) ≡ n + 1 = omega (arith, length-append (map printed ls) (line ∷ []), long) in
    let front_one : take (n + 1) (lines_of bytes) ≡ map printed ls ++ line ∷ [] = ap (take (n + 1)) (all ∙ sym (append_assoc (map printed ls) (line ∷ []) more)) ∙ take_at (map printed ls ++ line ∷ []) more (n + 1) one in
    let back : n + 1 - 1 ≡ n = omega arith in
    record {
      before = rw back (subst BeginsReport (sym front) (begins_front ls (continues d ls r.so_far)));
      with_it = λ b. never (clashes ls d line r.read (subst BeginsReport front_one b));
    }

pub finds_bad : (bytes rest line : List ℕ) (n : ℕ) (d : Draft) → IsRead bytes rest n d → 1 ≤ length rest → line ≡ first_line rest → take_line d line ≡ None → IsBadReportLine bytes (n + 1)
finds_bad bytes rest line n d r some is none =
    let f = first_is rest some in
    bad_line bytes rest (first_line rest) f.more n d r f.head (λ c. c.taken (subst (λ (l : List ℕ). take_line d l ≡ None) is none) f.some)

pub ends_early : (bytes rest : List ℕ) (n : ℕ) (d : Draft) → IsRead bytes rest n d → length rest ≡ 0 → is_complete d ≡ false → IsBadReportLine bytes (n + 1)
ends_early bytes [] n d r none c = bad_line bytes [] [] [] n d r no_lines (λ k. k.ended refl c)
ends_early bytes (b ∷ bs) n d r none c = absurd (omega (arith, none))

pub refuses : (bytes rest line : List ℕ) (n : ℕ) (d : Draft) (f : ReportFault) → IsRead bytes rest n d → 1 ≤ length rest → line ≡ first_line rest → Refuses d line (n + 1) f → RefusesReport bytes f
refuses bytes rest line n d Memory r some is bad = tt
refuses bytes rest line n d (BadReport m) r some is bad = subst (λ (k : ℕ). IsBadReportLine bytes k) (sym bad.0) (finds_bad bytes rest line n d r some is bad.1)

-- ---- one reading

pub one_report : (bytes : List ℕ) (r q : Report) → IsReport bytes r → IsReport bytes q → r ≡ q
one_report bytes r q h k =
    let ls = lines_in bytes r h in
    let ms = lines_in bytes q k in
    let a = whole_reads r ls (report_whole bytes r h) in
    let b = whole_reads q ms (report_whole bytes q k) in
    let e = sym (lines_of_report bytes r h) ∙ lines_of_report bytes q k in
    elim (split_last (map printed ls) (map printed ms) [] [] [] e) [
      | inl s ↦ sym a.report ∙ ap report_of (some_inj (sym a.are ∙ ap (reads start) s.0 ∙ b.are)) ∙ b.report
      | inr g ↦ no_empty_line ls (map printed ms) g.more g.parts
    ]

begins_less : (a b : List (List ℕ)) → BeginsReport (a ++ b) → BeginsReport a
begins_less a b h = record { text = h.text; report = h.report; is = h.is; more = b ++ h.more; parts = h.parts ∙ append_assoc a b h.more }

pub none_bad : (bytes : List ℕ) (r : Report) (n : ℕ) → IsReport bytes r → IsBadReportLine bytes n → ⊥
none_bad bytes r n h bad =
    bad.with_it (record { text = bytes; report = r; is = h; more = drop n (lines_of bytes); parts = sym (take-append-drop n (lines_of bytes)) })

not_before : (bytes : List ℕ) (n m : ℕ) → IsBadReportLine bytes n → IsBadReportLine bytes m → n < m → ⊥
not_before bytes n m h k lt =
    h.with_it (begins_less (take n (lines_of bytes)) (drop n (take (m - 1) (lines_of bytes))) (subst BeginsReport (take_front n (m - 1) (lines_of bytes) (omega (arith, lt))) k.before))

pub same_by : (n m : ℕ) → (n < m → ⊥) → (m < n → ⊥) → n ≡ m
same_by n m h k = omega arith

pub one_bad : (bytes : List ℕ) (n m : ℕ) → IsBadReportLine bytes n → IsBadReportLine bytes m → n ≡ m
one_bad bytes n m h k = same_by n m (not_before bytes n m h k) (not_before bytes m n k h)

-- ---- the answer

pub only_report : (bytes : List ℕ) (a : Result Report ReportFault) → IfOk a (IsReport bytes) → IfErr a (RefusesReport bytes) → (r : Report) → IsReport bytes r → (a ≡ Ok r) ⊎ (a ≡ Err Memory)
only_report bytes (Ok q) ok err r is = inl (ap (λ (x : Report). Ok x) (one_report bytes q r ok is))
only_report bytes (Err Memory) ok err r is = inr refl
only_report bytes (Err (BadReport n)) ok err r is = absurd (none_bad bytes r n is err)

pub only_line : (bytes : List ℕ) (a : Result Report ReportFault) → IfOk a (IsReport bytes) → IfErr a (RefusesReport bytes) → (n : ℕ) → IsBadReportLine bytes n → (a ≡ Err (BadReport n)) ⊎ (a ≡ Err Memory)
only_line bytes (Ok r) ok err n bad = absurd (none_bad bytes r n ok bad)
only_line bytes (Err Memory) ok err n bad = inr refl
only_line bytes (Err (BadReport m)) ok err n bad = inl (ap (λ (k : ℕ). Err (BadReport k)) (one_bad bytes m n err bad))
