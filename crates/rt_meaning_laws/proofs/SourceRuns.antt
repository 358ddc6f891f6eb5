-- Whatever a source run comes to, some ticks and steps lead there.
use Rattle.std.proofs.Common.{◌≡◌, ℕ, zero, suc, List, [], ◌∷◌, ◌++◌, Option, Some, None, slice_get, refl, sym, ap, ◌∙◌, subst}
use Rattle.rt_tree.specs.Opened.{FullModesOpen}
use Rattle.rt_tree.specs.Stored.{HoldsInside, HoldsWritten}
use Rattle.rt_resolve.specs.World.{World}
use Rattle.rt_resolve.specs.Systems.{world}
use Rattle.rt_meaning.specs.Roots.{roots}
use Rattle.rt_meaning.specs.Run.{State, Stepped, one_step}
use Rattle.rt_meaning.specs.Whole.{beginning}
use Rattle.rt_meaning.specs.Runs.{Reached, reached_by, then_step, ticks, then_ticks, ticks_after, are_placements}
use Rattle.rt_meaning.specs.Runs as runs
use Rattle.rt_meaning_laws.specs.Ends.{Agree}
use Rattle.rt_meaning_laws.specs.Runs.{StateFits, NoneLacks, IsInput, Happening, a_tick, a_step, state_after, happens, after, MayHappen}
use Rattle.rt_meaning_laws.specs.SourceRuns.{AreBytes, SourceRunsKeep, SystemRunsFit}
use Rattle.rt_meaning_laws.proofs.Ending.{ends_agree}
use Rattle.rt_meaning_laws.proofs.Running.{runs_keep}
use Rattle.rt_meaning_laws.proofs.Small.{if_some}
use Rattle.rt_meaning_laws.proofs.Whole.{stores_stay_typed}

may_join : (hs ks : List Happening) → MayHappen hs → MayHappen ks → MayHappen (hs ++ ks)
may_join [] ks a b = b
may_join (a_tick ∷ hs) ks a b = may_join hs ks a b
may_join (a_step input ∷ hs) ks a b = (a.0, may_join hs ks a.1 b)

pub byte_comes : (input : List ℕ) (k : ℕ) → AreBytes input → IsInput (slice_get input k)
byte_comes [] k h = tt
byte_comes (b ∷ input) zero h = h.0
byte_comes (b ∷ input) (suc k) h = byte_comes input k h.1

module _ (w : World) (s : State) where
  joined : (u : State) (hs ks : List Happening) → after w u (hs ++ ks) ≡ after w (after w u hs) ks
  joined u [] ks = refl
  joined u (h ∷ hs) ks = joined (happens w u h) hs ks

  -- ticks and steps lead to a state
  abbrev pub Leads : State → Type 0
  Leads u = (hs : List Happening) × MayHappen hs × (u ≡ after w s hs)

  then_one : (h : Happening) (u : State) → MayHappen (h ∷ []) → Leads u → Leads (happens w u h)
  then_one h u may l = (l.0 ++ h ∷ [], may_join l.0 (h ∷ []) l.1 may, ap (λ (v : State). happens w v h) l.2 ∙ sym (joined s l.0 (h ∷ [])))

  ticked : (n : ℕ) (u : State) → Leads u → Leads (ticks n u)
  ticked zero u l = l
  ticked (suc n) u l = then_one a_tick (ticks n u) tt (ticked n u l)

  one_stepped : (u : State) (input : Option ℕ) (x : Stepped) → IsInput input → one_step w u input ≡ Some x → Leads u → Leads x.state
  one_stepped u input x may e l = subst (λ (v : State). Leads v) (ap (λ (o : Option Stepped). state_after u o) e) (then_one (a_step input) u (may, tt) l)

  state_of : (p q : Reached) → Some p ≡ Some q → p.state ≡ q.state
  state_of p q e = let same : p ≡ q = cc in ap (λ (r : Reached). r.state) same

  pub leads_there : (placements input : List ℕ) (n : ℕ) (q : Reached) → AreBytes input → runs.after w s placements input n ≡ Some q → Leads q.state
  leads_there placements input zero q bytes e = subst (λ (u : State). Leads u) (state_of _ q e) (ticked (ticks_after placements 0) s ([], tt, refl))
  leads_there placements input (suc n) q bytes e = by_before (λ p g. leads_there placements input n p bytes g) (runs.after w s placements input n) refl e
    where
      t : ℕ
      t = ticks_after placements (suc n)

      by_step : (p : Reached) (x : Option Stepped) → Leads p.state → one_step w p.state (slice_get input p.state.taken) ≡ x → then_ticks t (reached_by p.output x) ≡ Some q → Leads q.state
      by_step p None l g e = absurd cc
      by_step p (Some x) l g e = subst (λ (u : State). Leads u) (state_of _ q e) (ticked t x.state (one_stepped p.state (slice_get input p.state.taken) x (byte_comes input p.state.taken bytes) g l))

      by_before : ((p : Reached) → runs.after w s placements input n ≡ Some p → Leads p.state) → (o : Option Reached) → runs.after w s placements input n ≡ o → then_ticks t (then_step w input o) ≡ Some q → Leads q.state
      by_before go None g e = absurd cc
      by_before go (Some p) g e = by_step p (one_step w p.state (slice_get input p.state.taken)) (go p g) refl e

pub source_runs_keep : HoldsInside → HoldsWritten → SourceRunsKeep
source_runs_keep holds_inside holds_written ps w s placements input n r wf fits bytes e =
    let l = leads_there w s placements input n r bytes (if_some (are_placements placements n) (runs.after w s placements input n) r e).1 in
    subst (λ (u : State). StateFits ps w u × NoneLacks w u.tasks) (sym l.2) (runs_keep holds_inside holds_written ps w s l.0 wf fits l.1)

pub system_runs_fit : HoldsInside → HoldsWritten → FullModesOpen → SystemRunsFit
system_runs_fit holds_inside holds_written open_them ps ts placements input n r f tasks bytes e =
    let w : World = world ps in
    let s : State = beginning ps ts in
    let l = leads_there w s placements input n r bytes (if_some (are_placements placements n) (runs.after w s placements input n) r e).1 in
    let typed = stores_stay_typed holds_inside holds_written open_them ps ts l.0 f tasks l.1 in
    subst (λ (u : State). StateFits ps w u × NoneLacks w u.tasks × Agree (roots ts) u) (sym l.2) (typed.0, typed.1, ends_agree holds_inside holds_written open_them ps ts l.0 f tasks l.1)
