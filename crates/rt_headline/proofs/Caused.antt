-- What follows of each answer, and of the files.
use Rattle.std.proofs.Common.{◌≡◌, ◌⊎◌, inl, inr, ℕ, ◌≤◌, ◌==◌, ◌&&◌, Bool, true, false, if◌then◌else◌, List, [], ◌∷◌, ◌++◌, Option, Some, None, refl, sym, ap, ◌∙◌, subst, arith, append-nil, le_trans}
use Rattle.rt_words.specs.Causes.{Rose}
use Rattle.std.specs.Prelude.{codes, slice_index, drop, length}
use Rattle.std.proofs.lemmas.List.{append_cancel_left}
use Rattle.rt_outside.specs.Files.{Files, WhereTold, Has, ChangesOnly}
use Rattle.rt_outside.specs.Deeds.{Deed, Writes, Outside, HasFailed, Performed, done, failed}
use Rattle.rt_outside.specs.Laws.{Both, Among}
use Rattle.rt_report.specs.declared.fault.FaultLine.{FaultLine}
use Rattle.rt_report.specs.Faults.{status_of}
use Rattle.rt_run.specs.declared.machine.End.{End}
use Rattle.rt_run.specs.declared.machine.End.TheVariants as end
use Rattle.rt_meaning.specs.Run as source
use Rattle.rt_run.specs.Boundaries.{all_ended, is_none}
use Rattle.rt_rules.specs.Rules.{running}
use Rattle.rt_report.specs.Reports.{any_failed}
use Rattle.rt_accept.specs.Calls.{Call, before, after, NothingDone, Reports, Answers, all_done, one_failed}
use Rattle.rt_headline.specs.Go.{Go, image_name, report_name}
use Rattle.rt_headline.specs.Outcome.{System, Refuses}
use Rattle.rt_headline.proofs.Following.{bytes_of}
use Rattle.rt_headline.proofs.Refusing.{IsTold, told}
use Rattle.rt_headline.specs.Headline.{Ran, Carried, Goes, no_memory, refused, unread, unwritten, carried}
use Rattle.rt_headline.specs.Causes as cause
use Rattle.rt_headline.specs.Meaning.{status_of as status_by_end}

-- ---- one file is written

alone : (d : Deed) (a b : Outside) (all : Bool) → all ≡ false → Performed (d ∷ []) a b all → HasFailed d a b
alone d a c all e (done {b = b} h k) = absurd (none b c all e k)
  where
    none : (x y : Outside) (b2 : Bool) → b2 ≡ false → Performed [] x y b2 → ⊥
    none x y b2 f Performed.nothing = let no : true ≡ false = f in cc
alone d a b all e (failed h) = h

-- a file was written, and the answer is that for which it was; or its write failed, and it is 21
split : (name text : List ℕ) (n status : ℕ) (a b : Outside) → Reports name text n a b status → (status ≡ n) ⊎ ((status ≡ 21) × Rose (a.writes name) (b.writes name))
split name text n status a b h = by h.all status h.performed h.answer
  where
    by : (all : Bool) (s : ℕ) → Performed (Writes name text ∷ []) a b all → Answers n all s → (s ≡ n) ⊎ ((s ≡ 21) × Rose (a.writes name) (b.writes name))
    by true s p all_done = inl refl
    by false s p one_failed = inr (refl, (alone (Writes name text) a b false refl p).0)

-- ---- files

K : List (List ℕ) → Option Files → Option Files → Type 0
K names x y = Both x y (λ old new. (n : List ℕ) → (Among names n → ⊥) → new n ≡ old n)

kept_on : (names : List (List ℕ)) (x y z : Option Files) → K names x y → K names y z → K names x z
unfolding K
kept_on names None y z p q = tt
kept_on names (Some f) None z p q = absurd p
kept_on names (Some f) (Some g) None p q = absurd q
kept_on names (Some f) (Some g) (Some h) p q = λ n free. q n free ∙ p n free

kept_same : (names : List (List ℕ)) (x y : Option Files) → y ≡ x → K names x y
unfolding K
kept_same names x y e = subst (λ (z : Option Files). K names x z) (sym e) (here x)
  where
    here : (z : Option Files) → K names z z
    here None = tt
    here (Some f) = λ n free. refl

kept_but : (names : List (List ℕ)) (name : List ℕ) (x y : Option Files) → Among names name → ChangesOnly name x y → K names x y
unfolding K
kept_but names name None y among h = tt
kept_but names name (Some f) None among h = absurd h
kept_but names name (Some f) (Some g) among h = λ n free. h n (λ e. free (subst (Among names) (sym e) among))

kept_written : (names : List (List ℕ)) (name text : List ℕ) (a b : Outside) (all : Bool) → Among names name → Performed (Writes name text ∷ []) a b all → K names a.files b.files
kept_written names name text a c all among (done {b = b} h k) = kept_on names a.files b.files c.files (kept_but names name a.files b.files among h.1) (last b c all k)
  where
    last : (x y : Outside) (b2 : Bool) → Performed [] x y b2 → K names x.files y.files
    last x y b2 Performed.nothing = kept_same names x.files x.files refl
kept_written names name text a b all among (failed h) = kept_but names name a.files b.files among h.1

module _ (files : Option Files) (c : Call) (g : Go) where
  abbrev two : List (List ℕ)
  two = image_name g ∷ report_name g ∷ []

  reported : (text : List ℕ) (n status : ℕ) → Reports (report_name g) text n (before c) (after c) status → K two c.files c.files_after
  reported text n status h = kept_written two (report_name g) text (before c) (after c) h.all (inr (inl refl)) h.performed

  others : (status : ℕ) → Goes files c g status → K two c.files c.files_after
  others status (no_memory h) = kept_same two c.files c.files_after h.files
  others status (refused r h) = reported _ _ status h.reported
  others status (unread t r h) = reported _ _ status h.reported
  others status (unwritten a h) = kept_but two (image_name g) c.files c.files_after (inl refl) h.failed.1
  others status (carried a h) =
      kept_on two c.files h.made.files c.files_after (kept_but two (image_name g) c.files h.made.files (inl refl) h.written.1)
      (kept_on two h.made.files h.ran.files c.files_after (kept_same two h.made.files h.ran.files h.files)
      (kept_written two (report_name g) h.report h.ran (after c) h.reported.all (inr (inl refl)) h.reported.performed))

pub others_kept : cause.OthersAreKept
unfolding K
others_kept files c g status h = others files c g status h

-- ---- answers of a run

parts : (a f s : Bool) → cause.IsAnswer (if a then (if f then 1 else 0) else (if s then 3 else 2))
parts true true s = cause.failed
parts true false s = cause.ended
parts false f true = cause.stalled
parts false f false = cause.at_limit

run_answer : (e : End) (s : source.State) (left : ℕ) → cause.IsAnswer (status_by_end e s left)
run_answer end.Ended s left = parts (all_ended s.rules.tasks) (any_failed s.rules.tasks) (is_none (running s.rules) && (left == 0))
run_answer end.Limit s left = parts (all_ended s.rules.tasks) (any_failed s.rules.tasks) (is_none (running s.rules) && (left == 0))
run_answer end.Stalled s left = parts (all_ended s.rules.tasks) (any_failed s.rules.tasks) (is_none (running s.rules) && (left == 0))
run_answer (end.Fault i k at) s left = parts (all_ended s.rules.tasks) (any_failed s.rules.tasks) (is_none (running s.rules) && (left == 0))
run_answer end.ReadFault s left = cause.unread
run_answer end.WriteFault s left = cause.unwritten

-- 20 and 21 come of the console alone
no_console : (a f s : Bool) (n : ℕ) → 20 ≤ n → (if a then (if f then 1 else 0) else (if s then 3 else 2)) ≡ n → ⊥
no_console true true s n h e = omega (arith, h, e)
no_console true false s n h e = omega (arith, h, e)
no_console false f true n h e = omega (arith, h, e)
no_console false f false n h e = omega (arith, h, e)

answered_20 : (e : End) (s : source.State) (left : ℕ) → status_by_end e s left ≡ 20 → e ≡ end.ReadFault
answered_20 end.Ended s left h = absurd (no_console (all_ended s.rules.tasks) (any_failed s.rules.tasks) (is_none (running s.rules) && (left == 0)) 20 (omega arith) h)
answered_20 end.Limit s left h = absurd (no_console (all_ended s.rules.tasks) (any_failed s.rules.tasks) (is_none (running s.rules) && (left == 0)) 20 (omega arith) h)
answered_20 end.Stalled s left h = absurd (no_console (all_ended s.rules.tasks) (any_failed s.rules.tasks) (is_none (running s.rules) && (left == 0)) 20 (omega arith) h)
answered_20 (end.Fault i k at) s left h = absurd (no_console (all_ended s.rules.tasks) (any_failed s.rules.tasks) (is_none (running s.rules) && (left == 0)) 20 (omega arith) h)
answered_20 end.ReadFault s left h = refl
answered_20 end.WriteFault s left h = absurd (omega (arith, h))

answered_21 : (e : End) (s : source.State) (left : ℕ) → status_by_end e s left ≡ 21 → e ≡ end.WriteFault
answered_21 end.Ended s left h = absurd (no_console (all_ended s.rules.tasks) (any_failed s.rules.tasks) (is_none (running s.rules) && (left == 0)) 21 (omega arith) h)
answered_21 end.Limit s left h = absurd (no_console (all_ended s.rules.tasks) (any_failed s.rules.tasks) (is_none (running s.rules) && (left == 0)) 21 (omega arith) h)
answered_21 end.Stalled s left h = absurd (no_console (all_ended s.rules.tasks) (any_failed s.rules.tasks) (is_none (running s.rules) && (left == 0)) 21 (omega arith) h)
answered_21 (end.Fault i k at) s left h = absurd (no_console (all_ended s.rules.tasks) (any_failed s.rules.tasks) (is_none (running s.rules) && (left == 0)) 21 (omega arith) h)
answered_21 end.ReadFault s left h = absurd (omega (arith, h))
answered_21 end.WriteFault s left h = refl

never_30 : (e : End) (s : source.State) (left : ℕ) → status_by_end e s left ≡ 30 → ⊥
never_30 end.Ended s left h = no_console (all_ended s.rules.tasks) (any_failed s.rules.tasks) (is_none (running s.rules) && (left == 0)) 30 (omega arith) h
never_30 end.Limit s left h = no_console (all_ended s.rules.tasks) (any_failed s.rules.tasks) (is_none (running s.rules) && (left == 0)) 30 (omega arith) h
never_30 end.Stalled s left h = no_console (all_ended s.rules.tasks) (any_failed s.rules.tasks) (is_none (running s.rules) && (left == 0)) 30 (omega arith) h
never_30 (end.Fault i k at) s left h = no_console (all_ended s.rules.tasks) (any_failed s.rules.tasks) (is_none (running s.rules) && (left == 0)) 30 (omega arith) h
never_30 end.ReadFault s left h = omega (arith, h)
never_30 end.WriteFault s left h = omega (arith, h)

-- ---- answers

-- the run over just the bytes that were given
some_run : (c : Call) (g : Go) (a : System) (status : ℕ) (h : Carried c g a status) → Ran g a h.image h.given h.given h.end h.made h.ran h.report h.answer
some_run c g a status h = h.runs h.given (record { rest = []; parts = sym (append-nil h.given); last = λ e. refl; bytes = bytes_of h.given h.gives.small })

refusal_answer : (files : Option Files) (c : Call) (g : Go) (f : FaultLine) → Refuses files g f → cause.IsAnswer (status_of f)
refusal_answer files c g f r = by (told files g f r)
  where
    by : IsTold f → cause.IsAnswer (status_of f)
    by (inl (name, e)) = subst cause.IsAnswer (sym (ap status_of e)) cause.unread
    by (inr (inl e)) = subst cause.IsAnswer (sym e) cause.no_module
    by (inr (inr (inl e))) = subst cause.IsAnswer (sym e) cause.no_lines
    by (inr (inr (inr e))) = subst cause.IsAnswer (sym e) cause.no_link

either : (status n : ℕ) (R : Type 0) → cause.IsAnswer n → (status ≡ n) ⊎ ((status ≡ 21) × R) → cause.IsAnswer status
either status n R h (inl e) = subst cause.IsAnswer (sym e) h
either status n R h (inr e) = subst cause.IsAnswer (sym e.0) cause.unwritten

pub only_these : cause.OnlyTheseAnswers
only_these files c g _ (no_memory h) = cause.no_memory
only_these files c g status (refused {f = f} r h) = either status (status_of f) _ (refusal_answer files c g f r) (split _ _ _ status (before c) (after c) h.reported)
only_these files c g status (unread t r h) = either status 20 _ cause.unread (split _ _ _ status (before c) (after c) h.reported)
only_these files c g _ (unwritten a h) = cause.unwritten
only_these files c g status (carried {a = a} k h) =
    let r = some_run c g a status h in
    either status h.answer _ (subst cause.IsAnswer (sym r.status) (run_answer h.end r.means.reached.state _)) (split _ _ _ status h.ran (after c) h.reported)

-- ---- causes

refused_20 : (files : Option Files) (c : Call) (g : Go) (f : FaultLine) → Refuses files g f → 20 ≡ status_of f → cause.IsUnread files c g
refused_20 files c g f r e = by (told files g f r)
  where
    by : IsTold f → cause.IsUnread files c g
    by (inl (name, is)) = cause.missing {name = name} (subst (Refuses files g) is r)
    by (inr (inl h)) = absurd (omega (arith, e, h))
    by (inr (inr (inl h))) = absurd (omega (arith, e, h))
    by (inr (inr (inr h))) = absurd (omega (arith, e, h))

twenty_by : (files : Option Files) (c : Call) (g : Go) (status : ℕ) → status ≡ 20 → Goes files c g status → cause.IsUnread files c g
twenty_by files c g _ e (no_memory h) = absurd (omega (arith, e))
twenty_by files c g status e (refused {f = f} r h) = by (split _ _ _ status (before c) (after c) h.reported)
  where
    by : (status ≡ status_of f) ⊎ ((status ≡ 21) × Rose (c.writes (report_name g)) (c.writes_after (report_name g))) → cause.IsUnread files c g
    by (inl k) = refused_20 files c g f r (sym e ∙ k)
    by (inr k) = let no = k.0 in absurd (omega (arith, e, no))
twenty_by files c g status e (unread t r h) = cause.read t r
twenty_by files c g _ e (unwritten a h) = absurd (omega (arith, e))
twenty_by files c g status e (carried {a = a} k h) = by (split _ _ _ status h.ran (after c) h.reported)
  where
    by : (status ≡ h.answer) ⊎ ((status ≡ 21) × Rose (h.ran.writes (report_name g)) (c.writes_after (report_name g))) → cause.IsUnread files c g
    by (inl n) = let r = some_run c g a status h in cause.input k (h.read_failed (answered_20 h.end r.means.reached.state _ (sym r.status ∙ sym n ∙ e)))
    by (inr n) = let no = n.0 in absurd (omega (arith, e, no))

pub twenty : cause.TwentyHasCause
twenty files c g h = twenty_by files c g 20 refl h

rose_from : (a b d : ℕ) → a ≤ b → Rose b d → Rose a d
rose_from a b d h r = omega (arith, h, r)

refused_21 : (files : Option Files) (c : Call) (g : Go) (f : FaultLine) → Refuses files g f → 21 ≡ status_of f → ⊥
refused_21 files c g f r e = by (told files g f r)
  where
    by : IsTold f → ⊥
    by (inl (name, is)) = let k = ap status_of is in omega (arith, e, k)
    by (inr (inl h)) = omega (arith, e, h)
    by (inr (inr (inl h))) = omega (arith, e, h)
    by (inr (inr (inr h))) = omega (arith, e, h)

twenty_one_by : (files : Option Files) (c : Call) (g : Go) (status : ℕ) → status ≡ 21 → Goes files c g status → cause.IsUnwritten files c g
twenty_one_by files c g _ e (no_memory h) = absurd (omega (arith, e))
twenty_one_by files c g status e (refused {f = f} r h) = by (split _ _ _ status (before c) (after c) h.reported)
  where
    by : (status ≡ status_of f) ⊎ ((status ≡ 21) × Rose (c.writes (report_name g)) (c.writes_after (report_name g))) → cause.IsUnwritten files c g
    by (inl k) = absurd (refused_21 files c g f r (sym e ∙ k))
    by (inr k) = cause.report k.1
twenty_one_by files c g status e (unread t r h) = by (split _ _ _ status (before c) (after c) h.reported)
  where
    by : (status ≡ 20) ⊎ ((status ≡ 21) × Rose (c.writes (report_name g)) (c.writes_after (report_name g))) → cause.IsUnwritten files c g
    by (inl k) = absurd (omega (arith, e, k))
    by (inr k) = cause.report k.1
twenty_one_by files c g _ e (unwritten a h) = cause.image h.failed.0
twenty_one_by files c g status e (carried {a = a} k h) = by (split _ _ _ status h.ran (after c) h.reported)
  where
    by : (status ≡ h.answer) ⊎ ((status ≡ 21) × Rose (h.ran.writes (report_name g)) (c.writes_after (report_name g))) → cause.IsUnwritten files c g
    by (inl n) = let r = some_run c g a status h in cause.output k (h.write_failed (answered_21 h.end r.means.reached.state _ (sym r.status ∙ sym n ∙ e)))
    by (inr n) = cause.report (rose_from (c.writes (report_name g)) (h.ran.writes (report_name g)) (c.writes_after (report_name g)) (le_trans (h.written.3.writes (report_name g)) (h.later.writes (report_name g))) n.1)

pub twenty_one : cause.TwentyOneHasCause
twenty_one files c g h = twenty_one_by files c g 21 refl h

thirty_by : (files : Option Files) (c : Call) (g : Go) (status : ℕ) → status ≡ 30 → Goes files c g status → NothingDone c
thirty_by files c g _ e (no_memory h) = h
thirty_by files c g status e (refused {f = f} r h) = by (split _ _ _ status (before c) (after c) h.reported) (told files g f r)
  where
    by : (status ≡ status_of f) ⊎ ((status ≡ 21) × Rose (c.writes (report_name g)) (c.writes_after (report_name g))) → IsTold f → NothingDone c
    by (inr k) t = let no = k.0 in absurd (omega (arith, e, no))
    by (inl k) (inl (name, is)) = let m = ap status_of is in absurd (omega (arith, e, k, m))
    by (inl k) (inr (inl m)) = absurd (omega (arith, e, k, m))
    by (inl k) (inr (inr (inl m))) = absurd (omega (arith, e, k, m))
    by (inl k) (inr (inr (inr m))) = absurd (omega (arith, e, k, m))
thirty_by files c g status e (unread t r h) = by (split _ _ _ status (before c) (after c) h.reported)
  where
    by : (status ≡ 20) ⊎ ((status ≡ 21) × Rose (c.writes (report_name g)) (c.writes_after (report_name g))) → NothingDone c
    by (inl k) = absurd (omega (arith, e, k))
    by (inr k) = let no = k.0 in absurd (omega (arith, e, no))
thirty_by files c g _ e (unwritten a h) = absurd (omega (arith, e))
thirty_by files c g status e (carried {a = a} k h) = by (split _ _ _ status h.ran (after c) h.reported)
  where
    by : (status ≡ h.answer) ⊎ ((status ≡ 21) × Rose (h.ran.writes (report_name g)) (c.writes_after (report_name g))) → NothingDone c
    by (inl n) = absurd (never_30 h.end (some_run c g a status h).means.reached.state _ (sym (some_run c g a status h).status ∙ sym n ∙ e))
    by (inr n) = let no = n.0 in absurd (omega (arith, e, no))

pub thirty : cause.ThirtyChangesNothing
thirty files c g h = thirty_by files c g 30 refl h

-- ---- the image stays

unlike : (name : List ℕ) → name ++ codes ".IMG" ≡ name ++ codes ".RPT" → ⊥
unlike name e =
    let same = append_cancel_left name (codes ".IMG") (codes ".RPT") e in
    let k : ◌≡◌ {A = ℕ} 73 82 = ap (λ (xs : List ℕ). slice_index xs 1) same in
    omega (arith, k)

holds_on : (name bytes other text : List ℕ) (a b : Outside) (all : Bool) (x : Option Files) → (name ≡ other → ⊥) → Both x a.files (λ old new. Has name bytes new) → Performed (Writes other text ∷ []) a b all → Both x b.files (λ old new. Has name bytes new)
holds_on name bytes other text a c all x ne h (done {b = b} d k) = last b c all k (but x a.files b.files h d.1)
  where
    but : (p q r : Option Files) → Both p q (λ old new. Has name bytes new) → ChangesOnly other q r → Both p r (λ old new. Has name bytes new)
    but None q r w o = tt
    but (Some f) None r w o = absurd w
    but (Some f) (Some g) None w o = absurd o
    but (Some f) (Some g) (Some h2) w o = o name ne ∙ w

    last : (y z : Outside) (b2 : Bool) → Performed [] y z b2 → Both x y.files (λ old new. Has name bytes new) → Both x z.files (λ old new. Has name bytes new)
    last y z b2 Performed.nothing w = w
holds_on name bytes other text a b all x ne h (failed d) = but x a.files b.files h d.1
  where
    but : (p q r : Option Files) → Both p q (λ old new. Has name bytes new) → ChangesOnly other q r → Both p r (λ old new. Has name bytes new)
    but None q r w o = tt
    but (Some f) None r w o = absurd w
    but (Some f) (Some g) None w o = absurd o
    but (Some f) (Some g) (Some h2) w o = o name ne ∙ w

held : (name bytes : List ℕ) (x y : Option Files) → WhereTold y (Has name bytes) → ChangesOnly name x y → Both x y (λ old new. Has name bytes new)
held name bytes None y w o = tt
held name bytes (Some f) None w o = absurd o
held name bytes (Some f) (Some g) w o = w

pub images_stay : cause.ImagesStay
images_stay c g a status h =
    let first = held (image_name g) h.bytes c.files h.made.files h.written.0 h.written.1 in
    let then_run : Both c.files h.ran.files (λ old new. Has (image_name g) h.bytes new) = subst (λ (y : Option Files). Both c.files y (λ old new. Has (image_name g) h.bytes new)) (sym h.files) first in
    holds_on (image_name g) h.bytes (report_name g) h.report h.ran (after c) h.reported.all c.files (unlike g.name) then_run h.reported.performed

-- ---- told inputs

drop_behind : (xs ys : List ℕ) → drop (length xs) (xs ++ ys) ≡ ys
drop_behind [] ys = refl
drop_behind (x ∷ xs) ys = drop_behind xs ys

pub told_inputs : cause.ToldInputsAreRun
told_inputs c g a status h xs e bytes =
    let t = h.gives.told xs e in
    (record { rest = t.0; parts = t.1; last = t.3; bytes = bytes }, (t.2 ∙ ap (λ (ys : List ℕ). Some ys) (sym (ap (drop (length h.given)) t.1 ∙ drop_behind h.given t.0))))
