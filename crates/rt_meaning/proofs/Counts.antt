-- A tick and a service change the number of tasks by nothing; the conditions are renewed one by one.
use Rattle.std.proofs.Common.{◌≡◌, ℕ, zero, suc, ◌+◌, ◌<◌, ◌≤◌, List, [], ◌∷◌, Option, Some, None, IsSome, IfSome, length, get_or, take, refl, sym, ap, subst, ◌∙◌, arith}
use Rattle.std.proofs.Math.ListN.{set}
use Rattle.rt_rules.specs.declared.task.State.{State}
use Rattle.rt_rules.specs.declared.task.State.TheVariants.{Ready}
use Rattle.rt_rules.specs.declared.task.TaskRow.{TaskRow}
use Rattle.rt_rules.specs.declared.service.Svc.{Svc}
use Rattle.rt_rules.specs.declared.service.Outcome.{Outcome}
use Rattle.std.proofs.lemmas.List.{length-map}
use Rattle.rt_rules.specs.Roster.{Roster, InRanges}
use Rattle.rt_rules.specs.Rules.{first, awaits_facility, running, with_owner, arrives_if, tick, give_to, give, give_if_owned, gives_from, serve}
use Rattle.rt_rules.proofs.Rows.{if_by, length-with_row, length-arrives}
use Rattle.rt_rules.proofs.Walks.{gives_from_goes, serve_goes}
use Rattle.rt_rules.proofs.Raises.{service_raises}
use Rattle.rt_rules.proofs.Delays.{length-counted_rows}
use Rattle.rt_work_state.specs.declared.request.Request.{Request}
use Rattle.rt_work_state.specs.declared.request.Request.TheVariants as request
use Rattle.rt_meaning.specs.Run.{by_rules, take as take_byte, serve as serve_request}
use Rattle.rt_meaning.specs.Conditions.{condition_of, conditions_of}

length_give_to : (r : Roster) (n : ℕ) (o : Option ℕ) → length (give_to r n o).tasks ≡ length r.tasks
length_give_to r n None = refl
length_give_to r n (Some i) = length-arrives (with_owner r n i) i Ready

length_give : (r : Roster) (n : ℕ) → length (give r n).tasks ≡ length r.tasks
length_give r n = length_give_to r n (first (awaits_facility n) r)

-- the number of tasks stays
SameCount : Roster → Roster → Type 0
SameCount r q = length q.tasks ≡ length r.tasks

length_given : (r q : Roster) (i n : ℕ) → SameCount r q → SameCount r (give_if_owned q i n)
unfolding SameCount
length_given r q i n h = if_by (λ (p : Roster). length p.tasks ≡ length r.tasks) _ (give q n) q (λ _. length_give q n ∙ h) (λ _. h)

pub length_serve : (r : Roster) (i : ℕ) (svc : Svc) → InRanges r → length (serve r i svc).0.tasks ≡ length r.tasks
unfolding SameCount
length_serve r i svc g =
    serve_goes (SameCount r) r i svc g (record {
      nothing = refl;
      anew = λ n e. length-arrives r i _;
      delayed = λ n e. length-arrives r i _;
      flagged = λ n b k. refl;
      waiting = λ n e k. length-arrives r i _;
      woken = λ n j e k s. length-arrives r j _;
      secured = λ n e k f. refl;
      queued = λ n e k f h. length-arrives r i _;
      released = λ n e k f. length_give r n;
      ended = λ s e h. length-with_row (gives_from i 1 32 r) i _ ∙ gives_from_goes (λ n q. SameCount r q) i (λ n q k h. length_given r q i n h) 32 1 r (omega arith) refl refl;
    })

length_arrives_if : (r : Roster) (o : Option ℕ) → length (arrives_if r o).tasks ≡ length r.tasks
length_arrives_if r None = refl
length_arrives_if r (Some i) = length-arrives r i Ready

pub length_tick : (r : Roster) → length (tick r).tasks ≡ length r.tasks
length_tick r = length-counted_rows _ _ ∙ length_arrives_if (record r { clock = r.clock + 1 }) (running r)

length_call_by : (r q : Roster) (o : Option ℕ) (svc : Svc) (out : Outcome) → InRanges r → IsSome o → IfSome o (λ i. (q, out) ≡ serve r i svc) → length q.tasks ≡ length r.tasks
length_call_by r q None svc out g some e = absurd (cc some)
length_call_by r q (Some i) svc out g some e = ap (λ (p : Roster × Outcome). length p.0.tasks) e ∙ length_serve r i svc g

pub length_call : (r q : Roster) (svc : Svc) (out : Outcome) → InRanges r → IsSome (running r) → IfSome (running r) (λ i. (q, out) ≡ serve r i svc) → length q.tasks ≡ length r.tasks
length_call r q svc out g some e = length_call_by r q (running r) svc out g some e

-- as many conditions as there are tasks, also after the rules have changed
pub as_many : (ends : List State) (r q : Roster) → ends ≡ conditions_of r.tasks → length q.tasks ≡ length r.tasks → length ends ≡ length q.tasks
as_many ends r q e h = ap length e ∙ length-map r.tasks condition_of ∙ sym h

pub renewed : (rows : List TaskRow) (ends : List State) (k : ℕ) (d : TaskRow) → k < length rows → length ends ≡ length rows → take k ends ≡ take k (conditions_of rows) → take (suc k) (set ends k (get_or rows k d).state) ≡ take (suc k) (conditions_of rows)
renewed [] ends k d h l e = absurd (omega arith)
renewed (t ∷ ts) [] k d h l e = absurd (omega arith)
renewed (t ∷ ts) (s ∷ ss) zero d h l e = refl
renewed (t ∷ ts) (s ∷ ss) (suc k) d h l e =
    let tail : take k ss ≡ take k (conditions_of ts) = cc in
    let head : s ≡ t.state = cc in
    let rest = renewed ts ss k d (omega arith) (omega arith) tail in
    cc

-- a served request keeps the number of tasks
length_by_rules : (n : ℕ) (s : Roster × Outcome) → (by_rules n s).rules ≡ s.0
length_by_rules n (r, o) = refl

length_take : (r : Roster) (n : ℕ) (input : Option ℕ) → length (take_byte r n input).rules.tasks ≡ length r.tasks
length_take r n None = refl
length_take r n (Some b) = refl

pub length_served : (r : Roster) (n i : ℕ) (input : Option ℕ) (q : Request) → InRanges r → length (serve_request r n i input q).rules.tasks ≡ length r.tasks
length_served r n i input request.Nothing g = refl
length_served r n i input request.Takes g = length_take r n input
length_served r n i input (request.Puts b) g = refl
length_served r n i input (request.Rules svc) g = ap (λ (p : Roster). length p.tasks) (length_by_rules n (serve r i svc)) ∙ length_serve r i svc g

-- how far a served request raises the clock and the next stamp
Raised : Roster → Roster → Type 0
Raised r q = (q.clock ≡ r.clock) × (q.stamp ≤ r.stamp + 32)

still_raised : (r : Roster) → Raised r r
unfolding Raised
still_raised r = (refl, omega arith)

raised_take : (r : Roster) (n : ℕ) (input : Option ℕ) → Raised r (take_byte r n input).rules
raised_take r n None = still_raised r
raised_take r n (Some b) = still_raised r

raised_served_by : (r : Roster) (n i : ℕ) (input : Option ℕ) (q : Request) → InRanges r → running r ≡ Some i → Raised r (serve_request r n i input q).rules
unfolding Raised
raised_served_by r n i input request.Nothing g e = still_raised r
raised_served_by r n i input request.Takes g e = raised_take r n input
raised_served_by r n i input (request.Puts b) g e = still_raised r
raised_served_by r n i input (request.Rules svc) g e =
    let p = service_raises r i svc g e in
    subst (λ (x : Roster). (x.clock ≡ r.clock) × (x.stamp ≤ r.stamp + 32)) (sym (length_by_rules n (serve r i svc))) p

pub raised_served : (r : Roster) (n i : ℕ) (input : Option ℕ) (q : Request) → InRanges r → running r ≡ Some i → ((serve_request r n i input q).rules.clock ≡ r.clock) × ((serve_request r n i input q).rules.stamp ≤ r.stamp + 32)
unfolding Raised
raised_served r n i input q g e = raised_served_by r n i input q g e
