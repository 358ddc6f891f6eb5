-- A run from call to call, and from turn to turn.
use Rattle.std.proofs.Common.{◌≡◌, ℕ, ◌+◌, ◌≤◌, ◌<◌, Bool, false, if◌then◌else◌, ◌||◌, List, [], ◌++◌, drop, Option, Some, None, refl, sym, ap, ◌∙◌, subst, arith, append_assoc, append-nil, length-append}
use Rattle.std.specs.Prelude.{slice_get}
use Rattle.rt_image.specs.declared.image.ImageParts.{ImageParts}
use Rattle.rt_rules.specs.Roster.{Roster}
use Rattle.rt_rules.specs.Rules.{running}
use Rattle.rt_run.specs.declared.carry.Carried.{Carried}
use Rattle.rt_run.specs.declared.carry.Carried.TheVariants.{Went, Served, Fault as Failed, ReadFault as NoRead, WriteFault as NoWrite}
use Rattle.rt_run.specs.declared.machine.End.{End}
use Rattle.rt_run.specs.declared.machine.End.TheVariants.{Ended, Limit, Stalled}
use Rattle.rt_run.specs.declared.machine.Machine.{Machine}
use Rattle.rt_run.specs.Ticking.{room_before}
use Rattle.rt_run.specs.Inputs.{Feed, Gives, Ahead}
use Rattle.rt_run.specs.Boundaries.{State, settle, all_ended, boundary}
use Rattle.rt_run.specs.Picture.{Standing, Shows, IsComplete}
use Rattle.rt_run.specs.Turn.{counts, end_of, IsEarly, Turned, Turns, Advances}
use Rattle.rt_run.specs.Runs.{IsAtBoundary, IsSettled, Comes, Rests, Reaches, Runs}
use Rattle.rt_run.specs.Laws.{RunsOverTold}
use Rattle.rt_run.proofs.Feeding.{gives_nothing, gives_more, ahead_first, ahead_then, ahead_rest, appends, appends_nothing}
use Rattle.rt_run.proofs.Settling.{settle_again, gap_left, room_is_early}
use Rattle.rt_run.proofs.Reaching.{settle_keeps, somebody, after_ticks, fault_over, nobody_ends}

module _ (image : ImageParts) (gaps all : List ℕ) where
  -- nothing was done
  stays : (s : State) (d : Standing) (written : Option (List ℕ)) → Shows image d s → IsSettled s → IsAtBoundary image gaps all s → Rests image gaps all s [] d written written
  stays s d written shows settled at = record {
    comes = record { state = s; shows = shows; reached = at; taken = omega arith; bytes = []; output = sym (append-nil s.output); appended = appends_nothing written };
    settled = settled;
  }

  -- the ticks before the first instruction
  first_ticks : (s : State) (d : Standing) (written : Option (List ℕ)) → Shows image d (settle s.gaps s) → IsAtBoundary image gaps all s → Rests image gaps all s [] d written written
  first_ticks s d written shows at =
      let k = settle_keeps s.gaps s in
      record {
        comes = record { state = settle s.gaps s; shows = shows; reached = after_ticks image gaps all s at; taken = omega (arith, k.taken); bytes = []; output = k.output ∙ sym (append-nil s.output); appended = appends_nothing written };
        settled = settle_again s.gaps s refl;
      }

  -- the ticks after a turn
  ticks_on : (s : State) (given : List ℕ) (d e : Standing) (written written2 : Option (List ℕ)) (w : Comes image gaps all s given d written written2) → Shows image e (settle (w.state).gaps w.state) → Rests image gaps all s given e written written2
  ticks_on s given d e written written2 w shows =
      let n = w.state in
      let k = settle_keeps n.gaps n in
      record {
        comes = record { state = settle n.gaps n; shows = shows; reached = after_ticks image gaps all n w.reached; taken = k.taken ∙ w.taken; bytes = w.bytes; output = k.output ∙ w.output; appended = w.appended };
        settled = settle_again n.gaps n refl;
      }

  -- one way after another
  follows : (s : State) (x y : List ℕ) (d e : Standing) (written written2 written3 : Option (List ℕ)) (a : Comes image gaps all s x d written written2) → Rests image gaps all a.state y e written2 written3 → Rests image gaps all s (x ++ y) e written written3
  follows s x y d e written written2 written3 a b =
      let c = b.comes in
      record {
        comes = record {
          state = c.state;
          shows = c.shows;
          reached = c.reached;
          taken = omega (arith, c.taken, a.taken, length-append x y);
          bytes = a.bytes ++ c.bytes;
          output = c.output ∙ ap (λ (z : List ℕ). z ++ c.bytes) a.output ∙ append_assoc s.output a.bytes c.bytes;
          appended = appends written written2 written3 a.bytes c.bytes a.appended c.appended;
        };
        settled = b.settled;
      }

  follows_end : (s : State) (limit : ℕ) (end : End) (x y : List ℕ) (d e : Standing) (written written2 written3 : Option (List ℕ)) (a : Comes image gaps all s x d written written2) → Reaches image gaps all limit a.state y end e written2 written3 → Reaches image gaps all limit s (x ++ y) end e written written3
  unfolding follows
  follows_end s limit end x y d e written written2 written3 a b = record { rests = follows s x y d e written written2 written3 a b.rests; ends = b.ends }

  -- how a turn whose last instruction wasn't carried out ends the run
  not_done : (s : State) (i limit : ℕ) (given : List ℕ) (x : Carried) (d : Standing) (written written2 : Option (List ℕ)) → counts x ≡ false → (w : Turned x image gaps all s i given d written written2) → d.count < limit → Reaches image gaps all limit s given (end_of x i) d written written2
  not_done s i limit given Went d written written2 h w few = absurd cc
  not_done s i limit given Served d written written2 h w few = absurd cc
  not_done s i limit given (Failed kind at) d written written2 h w few =
      let c = w.comes in
      let r = (w.stopped).0 in
      record { rests = record { comes = c; settled = r.settled }; ends = fault_over image gaps all c.state i limit kind at r.settled c.reached r.runs (omega (arith, (c.shows).count, few)) (w.stopped).1 }
  not_done s i limit given NoRead d written written2 h w few =
      let c = w.comes in
      let r = (w.stopped).0 in
      record { rests = record { comes = c; settled = r.settled }; ends = record { few = omega (arith, (c.shows).count, few); task = i; at = somebody image gaps all c.state i c.reached r.settled r.runs; runs = r.runs; asks = (w.stopped).1 } }
  not_done s i limit given NoWrite d written written2 h w few =
      let c = w.comes in
      let r = (w.stopped).0 in
      record { rests = record { comes = c; settled = r.settled }; ends = record { few = omega (arith, (c.shows).count, few); task = i; at = somebody image gaps all c.state i c.reached r.settled r.runs; runs = r.runs; asks = (w.stopped).1 } }

-- ---- a step of the loop

pub idle : (limit : ℕ) (d : Standing) (from : Feed) (written : Option (List ℕ)) → None ≡ running d.rules → d.count ≤ limit → Advances limit (Some (if all_ended (d.rules).tasks then Ended else Stalled)) d from written d from written
unfolding stays
idle limit d from written none few = record {
  given = [];
  over = false;
  gives = gives_nothing from;
  goes = λ image gaps all rest s shows settled at ahead. record {
    rests = stays image gaps all s d written shows settled at;
    ends = nobody_ends image gaps all s limit (all_ended (d.rules).tasks) settled at (ap running shows.rules ∙ sym none) (omega (arith, shows.count, few)) (ap (λ (r : Roster). all_ended r.tasks) shows.rules);
  };
}

pub at_limit : (i limit : ℕ) (d : Standing) (from : Feed) (written : Option (List ℕ)) → Some i ≡ running d.rules → d.count ≡ limit → Advances limit (Some Limit) d from written d from written
unfolding stays
at_limit i limit d from written runs full = record {
  given = [];
  over = false;
  gives = gives_nothing from;
  goes = λ image gaps all rest s shows settled at ahead. record {
    rests = stays image gaps all s d written shows settled at;
    ends = (ap (boundary image gaps all) (sym (shows.count ∙ full)) ∙ somebody image gaps all s i at settled (ap running shows.rules ∙ sym runs), shows.count ∙ full);
  };
}

-- a turn within the room up to the next tick
module _ (i most left : ℕ) (x : Carried) (d d2 : Standing) (from to : Feed) (written written2 : Option (List ℕ)) (runs : Some i ≡ running d.rules) (room : most ≡ room_before left (slice_get (d.ticking).gaps 0) (d.ticking).since) (w : Turns i most x d from written d2 to written2) where
  comes_on : (image : ImageParts) (gaps all rest : List ℕ) (s : State) → Shows image d s → IsSettled s → IsAtBoundary image gaps all s → Ahead all s.taken w.given w.over rest → Turned x image gaps all s i w.given d2 written written2
  comes_on image gaps all rest s shows settled at ahead = w.comes image gaps all rest s shows settled at early ahead
    where
      going : running s.rules ≡ Some i
      going = ap running shows.rules ∙ sym runs

      early : IsEarly s most
      early gap e =
          let next : slice_get (d.ticking).gaps 0 ≡ Some gap = ap (λ (gs : List ℕ). slice_get gs 0) (sym shows.gaps) ∙ e in
          let same : most ≡ room_before left (Some gap) s.since = room ∙ ap (λ (o : Option ℕ). room_before left o (d.ticking).since) next ∙ ap (room_before left (Some gap)) (sym shows.since) in
          subst (λ (n : ℕ). s.since + n ≤ gap) (sym same) (room_is_early left gap s.since (gap_left s i gap going settled e))

  pub turn_on : (limit : ℕ) (e : Standing) → ((image : ImageParts) (s : State) → Shows image d2 s → Shows image e (settle s.gaps s)) → Advances limit None d from written e to written2
  turn_on limit e ticks = record {
    given = w.given;
    over = w.over;
    gives = w.gives;
    goes = λ image gaps all rest s shows settled at ahead.
        let c = (comes_on image gaps all rest s shows settled at ahead).comes in
        ticks_on image gaps all s w.given d2 e written written2 c (ticks image c.state c.shows);
  }

  pub turn_ends : (limit : ℕ) → counts x ≡ false → d2.count < limit → Advances limit (Some (end_of x i)) d from written d2 to written2
  turn_ends limit h few = record {
    given = w.given;
    over = w.over;
    gives = w.gives;
    goes = λ image gaps all rest s shows settled at ahead. not_done image gaps all s i limit w.given x d2 written written2 h (comes_on image gaps all rest s shows settled at ahead) few;
  }

-- ---- the loop

-- a run on its way to its limit
pub record IsUnderWay (m m2 : Machine) (limit reads reads2 writes writes2 : ℕ) : Type 0 where
  pub complete : IsComplete m2
  pub later : m.instructions ≤ m2.instructions
  pub few : m2.instructions ≤ limit
  pub reads_later : reads ≤ reads2
  pub writes_later : writes ≤ writes2

-- what it has come to
pub record RunsSoFar (d : Standing) (from : Feed) (written : Option (List ℕ)) (d2 : Standing) (to : Feed) (written2 : Option (List ℕ)) : Type 0 where
  pub given : List ℕ
  pub over : Bool
  pub gives : Gives from given over to
  pub rests : (image : ImageParts) (gaps all rest : List ℕ) (s : State) → Shows image d s → IsAtBoundary image gaps all s → Ahead all s.taken given over rest → Rests image gaps all s given d2 written written2

pub run_begins : (d e : Standing) (from : Feed) (written : Option (List ℕ)) → ((image : ImageParts) (s : State) → Shows image d s → Shows image e (settle s.gaps s)) → RunsSoFar d from written e from written
run_begins d e from written ticks = record {
  given = [];
  over = false;
  gives = gives_nothing from;
  rests = λ image gaps all rest s shows at ahead. first_ticks image gaps all s e written (ticks image s shows) at;
}

module _ (limit : ℕ) (d d2 d3 : Standing) (from mid to : Feed) (written written2 written3 : Option (List ℕ)) (a : RunsSoFar d from written d2 mid written2) where
  pub run_on : Advances limit None d2 mid written2 d3 to written3 → RunsSoFar d from written d3 to written3
  run_on b = record {
    given = a.given ++ b.given;
    over = a.over || b.over;
    gives = gives_more from mid to a.given b.given a.over b.over a.gives b.gives;
    rests = λ image gaps all rest s shows at ahead.
        let first = ahead_first all s.taken a.given b.given rest a.over b.over ahead (λ e. ((b.gives).none ((a.gives).shut e)).0) in
        let r = a.rests image gaps all (b.given ++ rest) s shows at first in
        let c = r.comes in
        follows image gaps all s a.given b.given d2 d3 written written2 written3 c (b.goes image gaps all rest c.state c.shows r.settled c.reached (ahead_then all s.taken (c.state).taken a.given b.given rest a.over b.over ahead c.taken));
  }

  pub run_ends : (end : End) → Advances limit (Some end) d2 mid written2 d3 to written3 → Runs limit end d from written d3 to written3
  run_ends end b = record {
    given = a.given ++ b.given;
    over = a.over || b.over;
    gives = gives_more from mid to a.given b.given a.over b.over a.gives b.gives;
    reaches = λ image gaps all rest s shows at ahead.
        let first = ahead_first all s.taken a.given b.given rest a.over b.over ahead (λ e. ((b.gives).none ((a.gives).shut e)).0) in
        let r = a.rests image gaps all (b.given ++ rest) s shows at first in
        let c = r.comes in
        follows_end image gaps all s limit end a.given b.given d2 d3 written written2 written3 c (b.goes image gaps all rest c.state c.shows r.settled c.reached (ahead_then all s.taken (c.state).taken a.given b.given rest a.over b.over ahead c.taken));
  }

-- ---- laws

-- a call is a run so far, and one step of a longer one
so_far : (limit : ℕ) (end : End) (d d2 : Standing) (from to : Feed) (written written2 : Option (List ℕ)) → Runs limit end d from written d2 to written2 → RunsSoFar d from written d2 to written2
so_far limit end d d2 from to written written2 a = record { given = a.given; over = a.over; gives = a.gives; rests = λ image gaps all rest s shows at ahead. (a.reaches image gaps all rest s shows at ahead).rests }

one_step : (limit : ℕ) (end : End) (d d2 : Standing) (from to : Feed) (written written2 : Option (List ℕ)) → Runs limit end d from written d2 to written2 → Advances limit (Some end) d from written d2 to written2
one_step limit end d d2 from to written written2 b = record { given = b.given; over = b.over; gives = b.gives; goes = λ image gaps all rest s shows settled at ahead. b.reaches image gaps all rest s shows at ahead }

pub two_calls : (limit limit2 : ℕ) (end end2 : End) (d d2 d3 : Standing) (from mid to : Feed) (written written2 written3 : Option (List ℕ)) → Runs limit end d from written d2 mid written2 → Runs limit2 end2 d2 mid written2 d3 to written3 → Runs limit2 end2 d from written d3 to written3
two_calls limit limit2 end end2 d d2 d3 from mid to written written2 written3 a b = run_ends limit2 d d2 d3 from mid to written written2 written3 (so_far limit end d d2 from mid written written2 a) end2 (one_step limit2 end2 d2 d3 mid to written2 written3 b)

pub over_told : (limit : ℕ) (end : End) (d d2 : Standing) (from to : Feed) (written written2 : Option (List ℕ)) → Runs limit end d from written d2 to written2 → (image : ImageParts) (gaps all : List ℕ) (s : State) → Shows image d s → IsAtBoundary image gaps all s → from.left ≡ Some (drop s.taken all) → RunsOverTold image gaps all limit s end d2 to written written2
over_told limit end d d2 from to written written2 p image gaps all s shows at told =
    let t = (p.gives).told (drop s.taken all) told in
    let ahead : Ahead all s.taken p.given p.over t.0 = record { next = t.1; last = t.3 } in
    let r = p.reaches image gaps all t.0 s shows at ahead in
    let c = (r.rests).comes in
    record {
      given = p.given;
      reaches = r;
      left = t.2 ∙ ap Some (sym (ahead_rest all s.taken (c.state).taken p.given t.0 p.over ahead c.taken));
    }
