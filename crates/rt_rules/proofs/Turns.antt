-- SIGNAL and RELEASE leave the running task's row as it was; a tick puts it behind its equals.
use Rattle.std.proofs.Common.{◌≡◌, ◌≢◌, ℕ, ◌+◌, ◌-◌, ◌<◌, List, length, get_or, refl, sym, ◌∙◌, ap, subst, inl, inr, arith}
use Rattle.rt_rules.specs.declared.task.State.TheVariants.{Ready, Event}
use Rattle.rt_rules.specs.declared.task.State.{State}
use Rattle.rt_rules.specs.declared.task.TaskRow.{TaskRow}
use Rattle.rt_rules.specs.declared.service.Svc.{Svc}
use Rattle.rt_rules.specs.declared.service.Svc.TheVariants.{Delay, Wait, Signal, Secure, Release, Gel, End}
use Rattle.rt_rules.specs.Roster.{Roster, no_row, row, IsTask, IsReady, InRanges}
use Rattle.rt_rules.specs.First.{Before}
use Rattle.rt_rules.specs.Rules.{with_owner, arrives, counted_from, counted_rows, count_down, arrives_if, serve}
use Rattle.rt_rules.specs.Laws.{KeepsRow, TickEndsTurn, IsEnd}
use Rattle.rt_rules.proofs.Rows.{row-with_row_same, row-arrives_other, length-arrives, ready-arrives_other}
use Rattle.rt_rules.proofs.Giving.{not_ready, give_cases}
use Rattle.rt_rules.proofs.Walks.{running_is_ready, serve_goes}
use Rattle.rt_rules.proofs.Delays.{counted_at}

-- a service that is none of the running task's own waits and ends
record IsForOthers (svc : Svc) : Type 0 where
  delay : (n : ℕ) → svc ≢ Delay n
  wait : (n : ℕ) → svc ≢ Wait n
  secure : (n : ℕ) → svc ≢ Secure n
  end : IsEnd svc → ⊥

event_not_ready : (r : Roster) (i j n : ℕ) → IsReady r i → (row r j).state ≡ Event n → i ≢ j
event_not_ready r i j n h s e =
    let t : (row r j).state ≡ Ready = subst (λ k. (row r k).state ≡ Ready) e h.1 in
    cc

turn_kept : (r : Roster) (i : ℕ) (svc : Svc) → InRanges r → IsReady r i → IsForOthers svc → row (serve r i svc).0 i ≡ row r i
turn_kept r i svc g h o =
    serve_goes (λ q. row q i ≡ row r i) r i svc g
    (record {
      nothing = refl;
      anew = λ n e. absurd (o.delay n e);
      delayed = λ n e. absurd (o.delay n e);
      flagged = λ n b _. refl;
      waiting = λ n e _. absurd (o.wait n e);
      woken = λ n j _ there waits. row-arrives_other r j i Ready there.0 h.0.0 (event_not_ready r i j n h waits);
      secured = λ n e _ _. absurd (o.secure n e);
      queued = λ n e _ _ _. absurd (o.secure n e);
      released = λ n _ _ _.
          give_cases (λ q. row q i ≡ row r i) r n g (λ _. refl)
          (λ j there waits. row-arrives_other (with_owner r n j) j i Ready there.0 h.0.0 (not_ready r i j n h waits));
      ended = λ s e _. absurd (o.end e);
    })

no_end : (svc : Svc) → svc ≢ End → ((n : ℕ) → svc ≢ Gel n) → IsEnd svc → ⊥
no_end svc a b e = elim e [ inl f ↦ a f | inr f ↦ b f.0 f.1 ]

pub signal_keeps_turn : KeepsRow Signal
signal_keeps_turn r i n g e =
    turn_kept r i (Signal n) g (running_is_ready r i g e)
    (record { delay = λ m f. cc; wait = λ m f. cc; secure = λ m f. cc; end = no_end (Signal n) (λ f. cc) (λ m f. cc) })

pub release_keeps_turn : KeepsRow Release
release_keeps_turn r i n g e =
    turn_kept r i (Release n) g (running_is_ready r i g e)
    (record { delay = λ m f. cc; wait = λ m f. cc; secure = λ m f. cc; end = no_end (Release n) (λ f. cc) (λ m f. cc) })

-- ---- a tick

ready_counted : (ts : List TaskRow) (stamp k : ℕ) → k < length ts → (get_or ts k no_row).state ≡ Ready → get_or (counted_rows stamp ts) k no_row ≡ get_or ts k no_row
ready_counted ts stamp k h e =
    counted_at (λ t. t ≡ get_or ts k no_row) ts stamp k h (λ s. ap (λ (v : State). counted_from v s (get_or ts k no_row)) e)

ready_after : (q : Roster) (i : ℕ) → IsReady q i → row (count_down q) i ≡ row q i
ready_after q i h = ready_counted q.tasks q.stamp (i - 1) (let one = h.0.0 in let last = h.0.1 in omega arith) h.1

pub tick_ends_turn : TickEndsTurn
tick_ends_turn r i j g runs h other same =
    let own = running_is_ready r i g runs in
    let c : Roster = record r { clock = r.clock + 1 } in
    let q : Roster = arrives c i Ready in
    let anew : row q i ≡ record { state = Ready; priority = (row r i).priority; stamp = r.stamp } = row-with_row_same c i _ own.0 in
    let kept : row q j ≡ row r j = row-arrives_other c i j Ready own.0.0 h.0.0 other in
    let there : IsTask q i = (own.0.0, let last = own.0.1 in let l : length q.tasks ≡ length r.tasks = length-arrives c i Ready in omega arith) in
    let first : row (count_down q) i ≡ row q i = ready_after q i (there, ap (λ (t : TaskRow). t.state) anew) in
    let second : row (count_down q) j ≡ row q j = ready_after q j (ready-arrives_other c i j Ready own.0.0 h other) in
    let before : Before (row r j) (record { state = Ready; priority = (row r i).priority; stamp = r.stamp }) = inr (same, g.earlier j h.0) in
    let turned : Before (row (count_down q) j) (row (count_down q) i) =
    subst (λ t. Before t (row (count_down q) i)) (sym (second ∙ kept))
    (subst (λ t. Before (row r j) t) (sym (first ∙ anew)) before) in
    subst (λ o. Before (row (count_down (arrives_if c o)) j) (row (count_down (arrives_if c o)) i)) (sym runs) turned
