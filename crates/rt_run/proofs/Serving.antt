-- What services keep of the rules.
use Rattle.std.proofs.Common.{◌≡◌, ℕ, zero, suc, ◌+◌, ◌≤◌, Bool, true, false, if◌then◌else◌, ◌==◌, List, [], ◌++◌, length, Option, Some, None, refl, sym, ap, ◌∙◌, subst, arith, length-set}
use Rattle.std.specs.Prelude.{slice_get}
use Rattle.rt_rules.specs.declared.task.State.{State as Condition}
use Rattle.rt_rules.specs.declared.task.TaskRow.{TaskRow}
use Rattle.rt_rules.specs.declared.service.Svc.{Svc}
use Rattle.rt_rules.specs.declared.service.Svc.TheVariants.{Delay, Wait, Signal, Secure, Release, Clock, TaskNo, Gel, End}
use Rattle.rt_rules.specs.declared.service.Outcome.{Outcome}
use Rattle.rt_rules.specs.Roster.{Roster, InRanges, owner_of, flag_of}
use Rattle.rt_rules.specs.Rules.{running, with_row, arrives, becomes, give, give_to, give_if_owned, gives_from, first, awaits_facility, awaits_event, raise_for, serve as serve_rules, is_number, is_delay}
use Rattle.rt_rules.specs.Laws.{ServiceRaises}
use Rattle.rt_run.specs.declared.service.Request.{Request}
use Rattle.rt_run.specs.declared.service.Request.TheVariants.{Nothing, Reads, Puts, Calls}
use Rattle.rt_run.specs.Services.{Served, serve, asked_by}
use Rattle.pdp_core.specs.declared.cpu.Regs.{Regs}
use Rattle.rt_tasks.specs.Parts.{Sharing}
use Rattle.rt_run.specs.Inputs.{Feed}
use Rattle.rt_run.specs.declared.carry.Carried.{Carried}
use Rattle.rt_run.specs.declared.carry.Carried.TheVariants.{Went, Served as Asked, Fault as Failed, ReadFault, WriteFault}
use Rattle.rt_run.specs.Carrying.{Carries, IsCarried}
use Rattle.rt_run.specs.Turn.{Lasts, ended_by}

abbrev pub Kept : Roster → Roster → Type 0
Kept r q = length q.tasks ≡ length r.tasks

kept_row : (r : Roster) (i : ℕ) (t : TaskRow) → Kept r (with_row r i t)
kept_row r i t = simp length-set

kept_arrives : (r : Roster) (i : ℕ) (c : Condition) → Kept r (arrives r i c)
kept_arrives r i c = simp length-set

kept_becomes : (r : Roster) (i : ℕ) (c : Condition) → Kept r (becomes r i c)
kept_becomes r i c = simp length-set

kept_give_to : (r : Roster) (n : ℕ) (o : Option ℕ) → Kept r (give_to r n o)
kept_give_to r n None = refl
kept_give_to r n (Some i) = simp length-set

kept_if : (r a b : Roster) (c : Bool) → Kept r a → Kept r b → Kept r (if c then a else b)
kept_if r a b true h k = h
kept_if r a b false h k = k

kept_gives : (i n k : ℕ) (r : Roster) → Kept r (gives_from i n k r)
unfolding gives_from
kept_gives i n zero r = refl
kept_gives i n (suc k) r = kept_gives i (n + 1) k (give_if_owned r i n) ∙ kept_if r (give r n) r (owner_of r n == i) (kept_give_to r n (first (awaits_facility n) r)) refl

kept_raise : (r : Roster) (n : ℕ) (o : Option ℕ) → Kept r (raise_for r n o)
kept_raise r n None = refl
kept_raise r n (Some i) = simp length-set

either : (r : Roster) (c : Bool) (a b : Roster × Outcome) → Kept r a.0 → Kept r b.0 → Kept r (if c then a else b).0
either r true a b h k = h
either r false a b h k = k

pub kept_service : (r : Roster) (i : ℕ) (svc : Svc) → Kept r (serve_rules r i svc).0
kept_service r i (Delay n) = either r (is_delay n) _ _ (kept_arrives r i _) (kept_arrives r i _)
kept_service r i (Wait n) = either r (is_number n) _ _ (either r (flag_of r n) _ _ refl (kept_arrives r i _)) refl
kept_service r i (Signal n) = either r (is_number n) _ _ (kept_raise r n (first (awaits_event n) r)) refl
kept_service r i (Secure n) = either r (is_number n) _ _ (either r (owner_of r n == i) _ _ refl (either r (owner_of r n == 0) _ _ refl (kept_arrives r i _))) refl
kept_service r i (Release n) = either r (is_number n) _ _ (either r (owner_of r n == i) _ _ (kept_give_to r n (first (awaits_facility n) r)) refl) refl
kept_service r i Clock = refl
kept_service r i TaskNo = refl
kept_service r i (Gel n) = kept_becomes (gives_from i 1 32 r) i _ ∙ kept_gives i 1 32 r
kept_service r i End = kept_becomes (gives_from i 1 32 r) i _ ∙ kept_gives i 1 32 r

-- what an instruction and its service leave of the rules: as many tasks, the same clock, and a stamp that is a little later
pub record Rises (r q : Roster) : Type 0 where
  pub tasks : length q.tasks ≡ length r.tasks
  pub clock : q.clock ≡ r.clock
  pub stamp : q.stamp ≤ r.stamp + 32

stays : (r : Roster) → Rises r r
stays r = record { tasks = refl; clock = refl; stamp = omega arith }

served : ServiceRaises → (r : Roster) (taken : ℕ) (next : Option ℕ) (i : ℕ) (q : Request) → InRanges r → running r ≡ Some i → Rises r (serve r taken next i q).rules
served law r taken next i Nothing ranges runs = stays r
served law r taken None i Reads ranges runs = stays r
served law r taken (Some b) i Reads ranges runs = stays r
served law r taken next i (Puts b) ranges runs = stays r
served law r taken next i (Calls svc) ranges runs = let l = law r i svc ranges runs in record { tasks = kept_service r i svc; clock = l.0; stamp = l.1 }

rises : ServiceRaises → (i : ℕ) (from to : Feed) (written written2 : Option (List ℕ)) (g h : Regs) (sh sh2 : Sharing) (r r2 : Roster) → InRanges r → running r ≡ Some i → Carries i from written g sh r to written2 h sh2 r2 → Rises r r2
rises law i from to written written2 g h sh sh2 r r2 ranges runs c =
    subst (λ (q : Roster). Rises r q) (ap (λ (v : Served). v.rules) (c.service 0 [] (λ e. refl))) (served law r 0 (slice_get (c.given ++ []) 0) i (asked_by c.stop c.after) ranges runs)

-- ---- what lasts

pub lasts_none : (sh : Sharing) (r : Roster) → Lasts sh r 0 sh r
lasts_none sh r = record { code = refl; marks = refl; places = refl; bytes = refl; own = refl; tasks = refl; clock = refl; stamp = omega arith }

pub lasts_more : ServiceRaises → (i count : ℕ) (from to : Feed) (written written2 : Option (List ℕ)) (g h : Regs) (sh0 sh sh2 : Sharing) (r r2 : Roster) → InRanges r → running r ≡ Some i → Lasts sh0 r count sh r → Carries i from written g sh r to written2 h sh2 r2 → Lasts sh0 r (count + 1) sh2 r2
lasts_more law i count from to written written2 g h sh0 sh sh2 r r2 ranges runs l c =
    let q = rises law i from to written written2 g h sh sh2 r r2 ranges runs c in
    record {
      code = (c.steps).code ∙ l.code;
      marks = (c.steps).marks ∙ l.marks;
      places = (c.steps).places ∙ l.places;
      bytes = (c.steps).bytes ∙ l.bytes;
      own = (c.steps).own ∙ l.own;
      tasks = q.tasks;
      clock = q.clock;
      stamp = omega (arith, q.stamp);
    }

pub lasts_before : (count : ℕ) (sh0 sh : Sharing) (r r2 : Roster) → Lasts sh0 r count sh r2 → r2 ≡ r → Lasts sh0 r count sh r
lasts_before count sh0 sh r r2 l same = subst (λ (q : Roster). Lasts sh0 r count sh q) same l

lasts_still : (count : ℕ) (sh0 sh sh2 : Sharing) (r r2 : Roster) → Lasts sh0 r count sh r → sh2 ≡ sh → r2 ≡ r → Lasts sh0 r count sh2 r2
lasts_still count sh0 sh sh2 r r2 l shared rules = subst (λ (x : Sharing). Lasts sh0 r count x r2) (sym shared) (subst (λ (q : Roster). Lasts sh0 r count sh q) (sym rules) l)

-- an instruction by which a stretch ends
pub lasts_ended : ServiceRaises → (x : Carried) (i count marks mark : ℕ) (from to : Feed) (written written2 : Option (List ℕ)) (g h : Regs) (sh0 sh sh2 : Sharing) (r r2 : Roster) → InRanges r → running r ≡ Some i → Lasts sh0 r count sh r → IsCarried x i from written g sh r to written2 h sh2 r2 → Lasts sh0 r (ended_by x count marks mark).count sh2 r2
lasts_ended law Went i count marks mark from to written written2 g h sh0 sh sh2 r r2 ranges runs l c = lasts_more law i count from to written written2 g h sh0 sh sh2 r r2 ranges runs l c.0
lasts_ended law Asked i count marks mark from to written written2 g h sh0 sh sh2 r r2 ranges runs l c = lasts_more law i count from to written written2 g h sh0 sh sh2 r r2 ranges runs l c
lasts_ended law (Failed kind at) i count marks mark from to written written2 g h sh0 sh sh2 r r2 ranges runs l c = lasts_still count sh0 sh sh2 r r2 l (c.0).shared (c.0).rules
lasts_ended law ReadFault i count marks mark from to written written2 g h sh0 sh sh2 r r2 ranges runs l c = lasts_still count sh0 sh sh2 r r2 l (c.0).shared (c.0).rules
lasts_ended law WriteFault i count marks mark from to written written2 g h sh0 sh sh2 r r2 ranges runs l c = lasts_still count sh0 sh sh2 r r2 l (c.0).shared (c.0).rules
