-- A task that runs on: instructions one after another.
use Rattle.std.proofs.Common.{◌≡◌, ℕ, ◌+◌, ◌-◌, ◌*◌, ◌<◌, ◌≤◌, Bool, true, false, List, [], ◌++◌, ◌||◌, length, map, Option, Some, refl, sym, ap, ◌∙◌, subst, arith, append_assoc, append-nil, length-append}
use Rattle.std.specs.Prelude.{slice_get}
use Rattle.std.specs.Io.KnownBytes.{Keeps}
use Rattle.pdp_code.specs.declared.instruction.Reg.TheVariants.{Pc}
use Rattle.pdp_core.specs.declared.cpu.Kind.{Kind}
use Rattle.pdp_core.specs.declared.cpu.Regs.{Regs}
use Rattle.pdp_core.specs.declared.cpu.Stop.TheVariants.{Fault}
use Rattle.pdp_core.specs.declared.memory.Protection.{Protection}
use Rattle.pdp_core.specs.Protection.{protected}
use Rattle.pdp_core.specs.Execute.{Outcome, execute, reg}
use Rattle.rt_image.specs.declared.image.ImageParts.{ImageParts}
use Rattle.rt_image.specs.Memory.{mark_at}
use Rattle.rt_rules.specs.Roster.{Roster}
use Rattle.rt_rules.specs.Rules.{running}
use Rattle.rt_tasks.specs.Parts.{Sharing, Task}
use Rattle.rt_tasks.specs.Start.{places_of}
use Rattle.rt_tasks.specs.Traps.{mark_of, trap_at}
use Rattle.rt_tasks.specs.Whole.{whole}
use Rattle.rt_run.specs.declared.carry.Carried.{Carried}
use Rattle.rt_run.specs.declared.carry.Carried.TheVariants.{Went, Served, Fault as Failed, ReadFault, WriteFault}
use Rattle.rt_run.specs.Inputs.{Feed, Gives, Ahead}
use Rattle.rt_run.specs.Boundaries.{State, Made, Over, Faulted, go_by, instruction, landed, instructions, steps, steps_of}
use Rattle.pdp_core.specs.declared.cpu.Done.{Done}
use Rattle.pdp_core.specs.declared.cpu.Done.TheVariants.{Went as Finished, Stopped}
use Rattle.rt_run.specs.Carrying.{Carries, Faulting, IsCarried, carried_of}
use Rattle.rt_run.specs.Picture.{ShowsRunning, others_memory, regs_of}
use Rattle.rt_run.specs.Runs.{Asks}
use Rattle.rt_run.specs.Turn.{counts, is_gone, ended_by, IsReady, IsStopped, Begins, Counted, Goes, Halts, Stretches}
use Rattle.rt_run.proofs.Feeding.{gives_nothing, gives_more, gives_still, ahead_first, ahead_then, appends, appends_nothing, appends_still, kept_same}
use Rattle.rt_run.proofs.Settling.{unticked}
use Rattle.rt_run.proofs.Reaching.{one_later}
use Rattle.rt_run.proofs.Stepping.{get_set, length-regs, goes_on}

-- a fault is the machine's
faults_on : (image : ImageParts) (all : List ℕ) (s : State) (i k : ℕ) (ts : List Task) (g h : Regs) (sh sh2 : Sharing) (r r2 : Roster) (kind : Kind) (at : ℕ) → ShowsRunning image s k ts g sh → i - 1 ≡ k → Faulting kind at g sh r h sh2 r2 → go_by image all s (Some i) ≡ Over (Faulted i kind at) s
faults_on image all s i k ts g h sh sh2 r r2 kind at w place f =
    let mark = mark_at image (reg g Pc) in
    let x : Outcome = record { stop = Fault kind at; regs = h; world = protected sh.places (whole sh2 (others_memory k ts)) } in
    let did : execute (protected (places_of image (i - 1)) s.memory) g ≡ x =
    ap (λ (m : ℕ → ℕ). execute (protected (places_of image (i - 1)) m) g) w.memory
    ∙ ap (λ (p : Protection). execute (protected p (whole sh (others_memory k ts))) g) (ap (places_of image) place ∙ sym w.places)
    ∙ (f.steps).executed (others_memory k ts) in
    let there : slice_get s.regs (i - 1) ≡ Some g = rw (place, w.regs) (get_set (map regs_of ts) k g (omega (arith, w.there, length-regs ts))) in
    ap (λ (o : Option Regs). instruction image all s i o) there ∙ ap (λ (y : Outcome). landed all s i mark y) did

asking : (image : ImageParts) (s : State) (i k n : ℕ) (ts : List Task) (g : Regs) (sh : Sharing) → ShowsRunning image s k ts g sh → i - 1 ≡ k → trap_at sh.code (reg g Pc) ≡ Some n → Asks image s i n
asking image s i k n ts g sh w place trap = record {
  regs = g;
  is = rw (place, w.regs) (get_set (map regs_of ts) k g (omega (arith, w.there, length-regs ts)));
  trap = ap (λ (ws : List ℕ). trap_at ws (reg g Pc)) (sym w.code) ∙ trap;
}

begins : (image : ImageParts) (gaps all : List ℕ) (s : State) (i k most : ℕ) (ts : List Task) (g : Regs) (sh : Sharing) (r : Roster) (written : Option (List ℕ)) → Begins image gaps all s i k most ts g sh r → Goes image gaps all s k ts [] 0 0 g sh r written written
begins image gaps all s i k most ts g sh r written b = record {
  state = s;
  shows = b.shows;
  rules = b.rules;
  ticks_left = refl;
  since = omega arith;
  placements = refl;
  counted = omega arith;
  marked = omega arith;
  reached = b.reached;
  taken = omega arith;
  bytes = [];
  output = sym (append-nil s.output);
  appended = appends_nothing written;
}

module _ (image : ImageParts) (gaps all : List ℕ) (s : State) (i k most : ℕ) (ts : List Task) (g0 : Regs) (sh0 : Sharing) (r : Roster) (b : Begins image gaps all s i k most ts g0 sh0 r) (runs : running r ≡ Some i) (given : List ℕ) (count marks : ℕ) (few : count < most) (g : Regs) (sh : Sharing) (written written2 : Option (List ℕ)) (w : Goes image gaps all s k ts given count marks g sh r written written2) where
  ready : IsReady w.state i
  ready =
      let going : running (w.state).rules ≡ Some i = ap running w.rules ∙ runs in
      record {
        settled = unticked w.state i going (λ gap e. omega (arith, w.since, few, b.early gap (ap (λ (gs : List ℕ). slice_get gs 0) (sym w.ticks_left) ∙ e)));
        runs = going;
      }

  -- one instruction more
  one_more : (mark : ℕ) (h : Regs) (sh2 : Sharing) (r2 : Roster) (from to : Feed) (written3 : Option (List ℕ)) (rest : List ℕ) (c : Carries i from written2 g sh r to written3 h sh2 r2) → Ahead all (w.state).taken c.given c.over rest → mark ≡ mark_of sh.marks (reg g Pc) → Goes image gaps all s k ts (given ++ c.given) (count + 1) (marks + mark) h sh2 r2 written written3
  one_more mark h sh2 r2 from to written3 rest c ahead is =
      let u = w.state in
      let on = goes_on image all u i k ts g h sh sh2 from to written2 written3 r r2 rest w.shows b.place w.rules c ahead in
      let n = on.next in
      let later : instructions n ≡ instructions u + 1 = ap (λ (ms : List Made). length ms) on.made ∙ omega arith in
      let same : mark ≡ mark_at image (reg g Pc) = is ∙ ap (λ (ms : List ℕ). mark_of ms (reg g Pc)) (w.shows).marks in
      let added : steps n ≡ steps u + mark = ap steps_of on.made ∙ ap (λ (m : ℕ). steps u + m) (sym same) in
      record {
        state = n;
        shows = on.shows;
        rules = on.rules;
        ticks_left = on.gaps ∙ w.ticks_left;
        since = omega (arith, on.since, w.since);
        placements = on.placements ∙ w.placements;
        counted = omega (arith, later, w.counted);
        marked = omega (arith, added, w.marked);
        reached = one_later image gaps all u n i w.reached ready.settled ready.runs on.goes later;
        taken = omega (arith, on.taken, w.taken, length-append given c.given);
        bytes = w.bytes ++ on.bytes;
        output = on.output ∙ ap (λ (x : List ℕ). x ++ on.bytes) w.output ∙ append_assoc s.output w.bytes on.bytes;
        appended = appends written written2 written3 w.bytes on.bytes w.appended on.appended;
      }

  -- one that isn't carried out
  still : (x : Carried) (h : Regs) (sh2 : Sharing) (r2 : Roster) (written3 : Option (List ℕ)) → h ≡ g → sh2 ≡ sh → r2 ≡ r → Keeps written2 written3 → IsStopped x image all w.state i → Halts x image gaps all s i k ts given count marks h sh2 r2 written written3
  still x h sh2 r2 written3 same_regs same_shared same_rules kept stopped = record {
    goes = record {
      state = w.state;
      shows = subst (λ (y : Regs). ShowsRunning image w.state k ts y sh2) (sym same_regs) (subst (λ (y : Sharing). ShowsRunning image w.state k ts g y) (sym same_shared) w.shows);
      rules = w.rules ∙ sym same_rules;
      ticks_left = w.ticks_left;
      since = w.since;
      placements = w.placements;
      counted = w.counted;
      marked = w.marked;
      reached = w.reached;
      taken = w.taken;
      bytes = w.bytes;
      output = w.output;
      appended = appends_still written written2 written3 w.bytes w.appended kept;
    };
    stopped = stopped;
  }

  none_more : (x : Carried) (h : Regs) (sh2 : Sharing) (r2 : Roster) (from to : Feed) (written3 : Option (List ℕ)) → counts x ≡ false → IsCarried x i from written2 g sh r to written3 h sh2 r2 → Halts x image gaps all s i k ts given count marks h sh2 r2 written written3
  none_more Went h sh2 r2 from to written3 f c = absurd cc
  none_more Served h sh2 r2 from to written3 f c = absurd cc
  none_more (Failed kind at) h sh2 r2 from to written3 f c = let q = c.0 in still (Failed kind at) h sh2 r2 written3 q.regs q.shared q.rules (kept_same written2 written3 c.2) (ready, faults_on image all w.state i k ts g h sh sh2 r r2 kind at w.shows b.place q)
  none_more ReadFault h sh2 r2 from to written3 f c = let q = c.0 in still ReadFault h sh2 r2 written3 q.regs q.shared q.rules (kept_same written2 written3 c.2) (ready, asking image w.state i k 1 ts g sh w.shows b.place q.trap)
  none_more WriteFault h sh2 r2 from to written3 f c = let q = c.0 in still WriteFault h sh2 r2 written3 q.regs q.shared q.rules c.2 (ready, asking image w.state i k 2 ts g sh w.shows b.place q.trap)

-- ---- whatever the image

-- the instructions so far of a task that goes on
pub record IsOnTheWay (i most count marks : ℕ) (from : Feed) (written : Option (List ℕ)) (g0 : Regs) (sh0 : Sharing) (r : Roster) (to : Feed) (written2 : Option (List ℕ)) (g : Regs) (sh : Sharing) : Type 0 where
  pub given : List ℕ
  pub over : Bool
  pub gives : Gives from given over to
  pub goes : (image : ImageParts) (gaps all rest : List ℕ) (s : State) (k : ℕ) (ts : List Task) → Begins image gaps all s i k most ts g0 sh0 r → Ahead all s.taken given over rest → Goes image gaps all s k ts given count marks g sh r written written2

pub way_begins : (i most : ℕ) (from : Feed) (written : Option (List ℕ)) (g : Regs) (sh : Sharing) (r : Roster) → IsOnTheWay i most 0 0 from written g sh r from written g sh
way_begins i most from written g sh r = record {
  given = [];
  over = false;
  gives = gives_nothing from;
  goes = λ image gaps all rest s k ts b ahead. begins image gaps all s i k most ts g sh r written b;
}

done_stops : (x : Carried) → counts x ≡ true → (image : ImageParts) (all : List ℕ) (s : State) (i : ℕ) → IsStopped x image all s i
done_stops Went h image all s i = tt
done_stops Served h image all s i = tt
done_stops (Failed kind at) h image all s i = absurd cc
done_stops ReadFault h image all s i = absurd cc
done_stops WriteFault h image all s i = absurd cc

-- what was carried out and asked nobody
pub gone_counts : (x : Carried) → is_gone x ≡ true → counts x ≡ true
gone_counts Went e = refl
gone_counts Served e = absurd cc
gone_counts (Failed kind at) e = absurd cc
gone_counts ReadFault e = absurd cc
gone_counts WriteFault e = absurd cc

-- how an instruction ended by which a stretch ends
pub ended_so : (x : Carried) (count marks mark : ℕ) → (ended_by x count marks mark).carried ≡ x
ended_so Went count marks mark = refl
ended_so Served count marks mark = refl
ended_so (Failed kind at) count marks mark = refl
ended_so ReadFault count marks mark = refl
ended_so WriteFault count marks mark = refl

-- and how many were carried out then
pub gone_went : (x : Carried) → is_gone x ≡ true → x ≡ Went
gone_went Went e = refl
gone_went Served e = absurd cc
gone_went (Failed kind at) e = absurd cc
gone_went ReadFault e = absurd cc
gone_went WriteFault e = absurd cc

-- what became of an instruction that hasn't gone is told beside
pub not_gone : (d : Done) (x : Carried) → is_gone (carried_of d x) ≡ false → carried_of d x ≡ x
not_gone Finished x e = absurd cc
not_gone Stopped x e = refl

pub counted_so : (x : Carried) (count marks mark most : ℕ) → is_gone x ≡ false → count < most → marks ≤ 255 * count → mark ≤ 255 → Counted (ended_by x count marks mark) most
counted_so Went count marks mark most e few m k = absurd cc
counted_so Served count marks mark most e few m k = record { within = omega (arith, few); marks = omega (arith, m, k); some = λ h. omega arith; full = λ h. absurd cc; fewer = λ h. absurd cc }
counted_so (Failed kind at) count marks mark most e few m k = record { within = omega (arith, few); marks = m; some = λ h. absurd cc; full = λ h. absurd cc; fewer = λ h. few }
counted_so ReadFault count marks mark most e few m k = record { within = omega (arith, few); marks = m; some = λ h. absurd cc; full = λ h. absurd cc; fewer = λ h. few }
counted_so WriteFault count marks mark most e few m k = record { within = omega (arith, few); marks = m; some = λ h. absurd cc; full = λ h. absurd cc; fewer = λ h. few }

-- one instruction more is one less that is left
pub one_less : (most left : ℕ) → 0 < left → left ≤ most → (most - left) + 1 ≡ most - (left - 1)
one_less most left some few = omega (arith, some, few)

module _ (x : Carried) (i : ℕ) (from to : Feed) (written written2 : Option (List ℕ)) (g h : Regs) (sh sh2 : Sharing) (r r2 : Roster) where
  pub carries_of : counts x ≡ true → IsCarried x i from written g sh r to written2 h sh2 r2 → Carries i from written g sh r to written2 h sh2 r2
  carries_of e c = by x e c
    where
      by : (y : Carried) → counts y ≡ true → IsCarried y i from written g sh r to written2 h sh2 r2 → Carries i from written g sh r to written2 h sh2 r2
      by Went e c = c.0
      by Served e c = c
      by (Failed kind at) e c = absurd cc
      by ReadFault e c = absurd cc
      by WriteFault e c = absurd cc

  pub gives_of : counts x ≡ false → IsCarried x i from written g sh r to written2 h sh2 r2 → Gives from [] false to
  gives_of e c = by x e c
    where
      by : (y : Carried) → counts y ≡ false → IsCarried y i from written g sh r to written2 h sh2 r2 → Gives from [] false to
      by Went e c = absurd cc
      by Served e c = absurd cc
      by (Failed kind at) e c = subst (λ (f : Feed). Gives from [] false f) (sym c.1) (gives_nothing from)
      by ReadFault e c = c.1
      by WriteFault e c = subst (λ (f : Feed). Gives from [] false f) (sym c.1) (gives_nothing from)

  -- where nobody was asked the rules are as they were
  pub same_rules : is_gone x ≡ true → IsCarried x i from written g sh r to written2 h sh2 r2 → r2 ≡ r
  same_rules e c = by x e c
    where
      by : (y : Carried) → is_gone y ≡ true → IsCarried y i from written g sh r to written2 h sh2 r2 → r2 ≡ r
      by Went e c = c.1
      by Served e c = absurd cc
      by (Failed kind at) e c = absurd cc
      by ReadFault e c = absurd cc
      by WriteFault e c = absurd cc

module _ (i most count marks : ℕ) (few : count < most) (from mid to : Feed) (written written2 written3 : Option (List ℕ)) (g0 g h : Regs) (sh0 sh sh2 : Sharing) (r r2 : Roster) (runs : running r ≡ Some i) (a : IsOnTheWay i most count marks from written g0 sh0 r mid written2 g sh) where
  goes_then : (mark : ℕ) (c : Carries i mid written2 g sh r to written3 h sh2 r2) → mark ≡ mark_of sh.marks (reg g Pc) → (image : ImageParts) (gaps all rest : List ℕ) (s : State) (k : ℕ) (ts : List Task) → Begins image gaps all s i k most ts g0 sh0 r → Ahead all s.taken (a.given ++ c.given) (a.over || c.over) rest → Goes image gaps all s k ts (a.given ++ c.given) (count + 1) (marks + mark) h sh2 r2 written written3
  goes_then mark c is image gaps all rest s k ts b ahead =
      let first = ahead_first all s.taken a.given c.given rest a.over c.over ahead (λ e. ((c.gives).none ((a.gives).shut e)).0) in
      let w = a.goes image gaps all (c.given ++ rest) s k ts b first in
      one_more image gaps all s i k most ts g0 sh0 r b runs a.given count marks few g sh written written2 w mark h sh2 r2 mid to written3 rest c (ahead_then all s.taken (w.state).taken a.given c.given rest a.over c.over ahead w.taken) is

  pub way_done : (x : Carried) (mark : ℕ) → counts x ≡ true → IsCarried x i mid written2 g sh r to written3 h sh2 r2 → mark ≡ mark_of sh.marks (reg g Pc) → Stretches i most (record { carried = x; count = count + 1; marks = marks + mark }) from written g0 sh0 r to written3 h sh2 r2
  way_done x mark e carried is =
      let c = carries_of x i mid to written2 written3 g h sh sh2 r r2 e carried in
      record {
        given = a.given ++ c.given;
        over = a.over || c.over;
        gives = gives_more from mid to a.given c.given a.over c.over a.gives c.gives;
        halts = λ image gaps all rest s k ts b ahead.
            let w = goes_then mark c is image gaps all rest s k ts b ahead in
            record { goes = w; stopped = done_stops x e image all w.state i };
      }

  pub way_undone : (x : Carried) → counts x ≡ false → IsCarried x i mid written2 g sh r to written3 h sh2 r2 → Stretches i most (record { carried = x; count = count; marks = marks }) from written g0 sh0 r to written3 h sh2 r2
  way_undone x e carried = record {
    given = a.given;
    over = a.over;
    gives = gives_still from mid to a.given a.over a.gives (gives_of x i mid to written2 written3 g h sh sh2 r r2 e carried);
    halts = λ image gaps all rest s k ts b ahead. none_more image gaps all s i k most ts g0 sh0 r b runs a.given count marks few g sh written written2 (a.goes image gaps all rest s k ts b ahead) x h sh2 r2 mid to written3 e carried;
  }

  pub way_ended : (x : Carried) (mark : ℕ) → IsCarried x i mid written2 g sh r to written3 h sh2 r2 → mark ≡ mark_of sh.marks (reg g Pc) → Stretches i most (ended_by x count marks mark) from written g0 sh0 r to written3 h sh2 r2
  way_ended Went mark carried is = way_done Went mark refl carried is
  way_ended Served mark carried is = way_done Served mark refl carried is
  way_ended (Failed kind at) mark carried is = way_undone (Failed kind at) refl carried
  way_ended ReadFault mark carried is = way_undone ReadFault refl carried
  way_ended WriteFault mark carried is = way_undone WriteFault refl carried

  pub way_goes_on : (mark : ℕ) (c : Carries i mid written2 g sh r to written3 h sh2 r2) → r2 ≡ r → mark ≡ mark_of sh.marks (reg g Pc) → IsOnTheWay i most (count + 1) (marks + mark) from written g0 sh0 r to written3 h sh2
  way_goes_on mark c same is = record {
    given = a.given ++ c.given;
    over = a.over || c.over;
    gives = gives_more from mid to a.given c.given a.over c.over a.gives c.gives;
    goes = λ image gaps all rest s k ts b ahead. subst (λ (q : Roster). Goes image gaps all s k ts (a.given ++ c.given) (count + 1) (marks + mark) h sh2 q written written3) same (goes_then mark c is image gaps all rest s k ts b ahead);
  }
