-- A visible step of a task that fits, over a typed store, leaves a task that fits and a typed store.
use Rattle.std.proofs.Common.{◌≡◌, inl, inr, ℕ, ◌<◌, false, List, [], ◌∷◌, Option, Some, None, option_map, length, slice_get, refl, sym, ap, ◌∙◌, subst}
use Rattle.rt_modes.specs.declared.mode.Mode.{Mode, out-Mode}
use Rattle.rt_modes.specs.declared.mode.Mode.TheOpen.{Mode-F}
use Rattle.rt_modes.specs.declared.mode.Mode.TheVariants as mode
use Rattle.rt_modes.specs.declared.mode.ModeTable.{ModeTable}
use Rattle.rt_modes.specs.FullMode.{FullMode}
use Rattle.rt_tree_nodes.specs.declared.brick.Local.{Local}
use Rattle.rt_tree_nodes.specs.declared.brick.Local.TheVariants as local
use Rattle.rt_tree_nodes.specs.declared.store.Datum.{Datum}
use Rattle.rt_tree_nodes.specs.declared.store.Datum.TheVariants.{Word, Reference}
use Rattle.rt_tree_nodes.specs.declared.store.Location.{Location}
use Rattle.rt_tree_nodes.specs.declared.store.Location.TheVariants as location
use Rattle.rt_tree_nodes.specs.declared.store.Proc.{Proc}
use Rattle.rt_tree_nodes.specs.Typing.{is_value}
use Rattle.rt_rules.specs.declared.service.Outcome.{Outcome}
use Rattle.rt_rules.specs.declared.service.Outcome.TheVariants.{Go, Waits, Error, Ends}
use Rattle.rt_rules.specs.declared.service.Svc.TheVariants as svc
use Rattle.rt_tree.specs.Stored as s
use Rattle.rt_tree.specs.Stored.{System, StandsAt, Suits, TypedOwn, HoldsInside, HoldsWritten}
use Rattle.rt_work_state.specs.declared.request.Request.{Request}
use Rattle.rt_work_state.specs.declared.request.Request.TheVariants.{Nothing, Takes, Puts, Rules}
use Rattle.rt_work_state.specs.Stores.{Store, read, write, write_own, erp, erl_in}
use Rattle.rt_work_state.specs.Items.{Item, Fetch, Report, GiveUp, Leave, Next, Reads, Writes, Calls, Returns, Jumps, Leaps, Asks, Recovers, Errors, Lacks}
use Rattle.rt_resolve.specs.World.{Code, World}
use Rattle.rt_meaning.specs.Step.{Act, Task, Over, Failed, Doing, After, with_todo, entered, on_values, returned, leapt, served, act, next_of, asked}
use Rattle.rt_tree.specs.Opened.{EachSame, AnySame, LevelSame}
use Rattle.rt_meaning_laws.specs.Levels.{IsTableOf}
use Rattle.rt_meaning_laws.specs.Slots.{LeadsTo, IsInt, IsByte, Slot, AValue, AnOwn, IsOf, FillAll, AreOf, result_on}
use Rattle.rt_meaning_laws.specs.Slots as slots
use Rattle.rt_meaning_laws.specs.Trees.{Started, Site, table, mode_of_local}
use Rattle.rt_resolve.specs.Matching.{int_taken}
use Rattle.rt_meaning_laws.specs.Work.{AskFits, TodoFits, LocalsFit, Ready, Awaits, AnswerFits, IsPlace, NextFits}
use Rattle.rt_meaning_laws.specs.Grounds.{Sound}
use Rattle.rt_meaning_laws.specs.Tasks.{IsAt, WorldFits, WaitsFor, CallersFit, ActFits, TaskFits, TypedStore, NeverLacks}
use Rattle.rt_meaning.specs.Answers.{MayCome}
use Rattle.rt_meaning_laws.proofs.Modes.{out_int, out_proc, int_is_number, number_is, byte_is}
use Rattle.rt_meaning_laws.proofs.Errors.{int_taken_stands, erp_full}
use Rattle.rt_meaning_laws.proofs.Stores.{suits_over, read_leads, read_own}
use Rattle.rt_meaning_laws.proofs.Writing.{typed_written, own_written}
use Rattle.rt_meaning_laws.proofs.Following.{next_fits}
use Rattle.rt_meaning_laws.proofs.Passing.{parts_stand, values_pass, result_passes, answers_as}
use Rattle.rt_meaning_laws.specs.Laws.{StepsKeep}

abbrev IsShared : Location → Type 0
IsShared (location.Shared o path) = Unit {0}
IsShared (location.Own k) = ⊥

-- a task's own data are no place that all tasks share
no_own : {ps : System} {k : ℕ} {u : ModeTable} {v : Mode} → StandsAt ps (location.Own k) u v → ⊥
no_own {ps} {k} {u} {v} h = shared_only h
  where
    shared_only : {l : Location} {u : ModeTable} {v : Mode} → StandsAt ps l u v → IsShared l
    shared_only (s.in_brick a b c d e) = tt
    shared_only (s.in_text a b c) = tt

module _ (holds_inside : HoldsInside) (holds_written : HoldsWritten) (ps : System) (w : World) (wf : WorldFits ps w) where
  so : Sound ps
  so = wf.sound

  -- what goes on after a result, or after none
  goes_on : (x : Site) (o : Option Mode) (todo : List Item) (vs ls : List Datum) (v : Option Datum) → AnswerFits ps x o v → Awaits ps x o todo vs ls → (ss : List Slot) × Ready ps x todo ss (on_values v vs) ls
  goes_on x None todo vs ls None h a = (a.slots, record { has = a.has; fits = a.fits; filled = a.filled; locals = a.locals })
  goes_on x None todo vs ls (Some d) h a = absurd h
  goes_on x (Some m) todo vs ls None h a = absurd h
  goes_on x (Some m) todo vs ls (Some d) h a = (AValue m ∷ a.slots, record { has = a.has; fits = a.fits; filled = (h, a.filled); locals = a.locals })

  -- a task whose activation goes on with other work
  abbrev Onward : Site → Act → List Act → List Datum → List Item → List Datum → List Datum → Type 0
  Onward x a callers own todo vs ls = (ss : List Slot) × Ready ps x todo ss vs ls

  doing : (x : Site) (a : Act) (callers : List Act) (own : List Datum) (todo : List Item) (vs ls : List Datum) → IsAt ps w a.proc x → CallersFit ps w x callers → TypedOwn ps own → ((ss : List Slot) × Ready ps x todo ss vs ls) → TaskFits ps w (Doing (with_todo a todo vs ls) callers own)
  doing x a callers own todo vs ls at cs g r = (record { site = x; slots = r.0; stays = at; fits = r.1; callers_fit = cs }, g)

  -- a caller goes on with the result
  back : (y : Site) (callers : List Act) (own : List Datum) (v : Option Datum) → AnswerFits ps y y.answer v → CallersFit ps w y callers → IsTableOf ps (table y) → TypedOwn ps own → TaskFits ps w (returned v callers own)
  back y [] own v h cs k g = g
  back y (a ∷ callers) own v h cs k g =
      let r = result_passes ps so y cs.0.site cs.0.answer v k cs.0.stays.grounds.known cs.0.gives h in
      doing cs.0.site a callers own a.todo (on_values v a.values) a.locals cs.0.stays cs.1 g (goes_on cs.0.site cs.0.answer a.todo a.values a.locals v r cs.0.fits)

  -- the locals of a service's procedure
  no_locals : (x : Site) (k : Started) (ls : List Datum) → x.locals ≡ [] → length ls ≡ length x.locals → LocalsFit ps x k ls
  no_locals x k ls e c = record {
    count = c;
    started = λ i m h q. let no : None ≡ Some m = sym (ap (λ (ys : List Local). option_map mode_of_local (slice_get ys i)) e) ∙ h in absurd cc;
    loops = λ i h. let no : None ≡ Some local.Loop = sym (ap (λ (ys : List Local). slice_get ys i) e) ∙ h in absurd cc;
  }

  abbrev Kept : After → Type 0
  Kept r = TypedStore ps r.store × TaskFits ps w r.task

  asks : (x : Site) (r : Request) (todo : List Item) (a : Act) (callers : List Act) (own : List Datum) (o : Outcome) → x.locals ≡ [] → length a.locals ≡ length x.locals → AskFits x.answer r todo → MayCome r o → IsAt ps w a.proc x → CallersFit ps w x callers → TypedOwn ps own
      → TaskFits ps w (served r o todo a callers own)
  asks x r todo a callers own o e c h m at cs g = by_request r o h m
    where
      nothing_known : Started
      nothing_known i = false

      fit : LocalsFit ps x nothing_known a.locals
      fit = no_locals x nothing_known a.locals e c

      given : (n : ℕ) (q : Mode) → x.answer ≡ Some q → IsOf ps (table x) q (Word n) → TaskFits ps w (Doing (with_todo a (GiveUp ∷ []) (Word n ∷ []) a.locals) callers own)
      given n q i f = doing x a callers own (GiveUp ∷ []) (Word n ∷ []) a.locals at cs g (AValue q ∷ [], record { has = nothing_known; fits = i; filled = (f, tt); locals = fit })

      goes : (answer_none : x.answer ≡ None) → todo ≡ Leave ∷ [] → TaskFits ps w (Doing (with_todo a todo [] a.locals) callers own)
      goes n i = doing x a callers own todo [] a.locals at cs g ([], record { has = nothing_known; fits = subst (λ (z : List Item). TodoFits ps x nothing_known z []) (sym i) n; filled = tt; locals = fit })

      fails : (n : ℕ) → n < 65536 → x.answer ≡ None → todo ≡ Leave ∷ [] → TaskFits ps w (Doing (with_todo a (Fetch ∷ Report n ∷ todo) (Reference erp ∷ []) a.locals) callers own)
      fails n r2 none i = doing x a callers own (Fetch ∷ Report n ∷ todo) (Reference erp ∷ []) a.locals at cs g (
        AnOwn int_taken ∷ [],
        record {
          has = nothing_known;
          fits = (ap is_value (out_proc (mode.Int ∷ []) None), (mode.Int, out_proc (mode.Int ∷ []) None, out_int, r2, subst (λ (z : List Item). TodoFits ps x nothing_known z []) (sym i) none));
          filled = ((int_taken_stands (table x), slots.erp (out_proc (mode.Int ∷ []) None) (erp_full (table x))), tt);
          locals = fit;
        },
      )

      by_request : (r : Request) (o : Outcome) → AskFits x.answer r todo → MayCome r o → TaskFits ps w (served r o todo a callers own)
      by_request Nothing o h m = absurd h
      by_request Takes (Go n) h m = given n h.0 h.1 (byte_is ps (table x) h.0 n h.2 m)
      by_request Takes _ h m = absurd m
      by_request (Rules svc.Clock) (Go n) h m = given n h.0 h.1 (number_is ps (table x) h.0 n (int_is_number h.0 h.2) m)
      by_request (Rules svc.Clock) _ h m = absurd m
      by_request (Rules svc.TaskNo) (Go n) h m = given n h.0 h.1 (number_is ps (table x) h.0 n (int_is_number h.0 h.2) m)
      by_request (Rules svc.TaskNo) _ h m = absurd m
      by_request (Rules (svc.Gel n)) Ends h m = g
      by_request (Rules (svc.Gel n)) _ h m = absurd m
      by_request (Rules svc.End) Ends h m = g
      by_request (Rules svc.End) _ h m = absurd m
      by_request (Puts n) (Go k) h m = goes h.0 h.1
      by_request (Puts n) _ h m = absurd m
      by_request (Rules (svc.Delay k)) (Go n) h m = goes h.0 h.1
      by_request (Rules (svc.Delay k)) Waits h m = goes h.0 h.1
      by_request (Rules (svc.Delay k)) _ h m = absurd m
      by_request (Rules s) (Go n) h m = goes h.0 h.1
      by_request (Rules s) Waits h m = goes h.0 h.1
      by_request (Rules s) (Error n) h m = fails n m.1 h.0 h.1
      by_request (Rules s) Ends h m = absurd m

  entered_proc : (c : Option Code) (f : Proc) (args : List Datum) (kept : Datum) → (entered c f args kept).proc ≡ f
  entered_proc None f args kept = refl
  entered_proc (Some c) f args kept = refl

  -- what a write leaves of the store and of the task's own data
  kept_by : (x : Site) (m : Mode) (l : Location) (d : Datum) (own : List Datum) (S : Store) → IsPlace ps x m l → IsTableOf ps (table x) → IsOf ps (table x) m d → TypedOwn ps own → TypedStore ps S → TypedStore ps (write S l d) × TypedOwn ps (write_own own l d)
  kept_by x m (location.Shared o path) d own S (inl p) k h g t = (typed_written holds_written p.at S d t (suits_over ps so (table x) p.table k p.known m p.is d (inl p.here) p.there (sym p.same) h.0), g)
  kept_by x m (location.Own i) d own S (inl p) k h g t = absurd (no_own p.at)
  kept_by x m (location.Own i) d own S (inr p) k h g t = (t, own_written ps (table x) own i m d g p.1 h.0)
  kept_by x m (location.Shared o path) d own S (inr p) k h g t = absurd p.1

  act_keeps : (x : Site) (n : Next) (a : Act) (callers : List Act) (own : List Datum) (S : Store) (o : Outcome) → length a.locals ≡ length x.locals → NextFits ps x (w.env a.proc.module) n → MayCome (asked n) o → IsAt ps w a.proc x → CallersFit ps w x callers → TypedOwn ps own → TypedStore ps S
      → Kept (act w n a callers own S o)
  act_keeps x (Reads l todo vs ls) a callers own S o c h m at cs g t =
      let d : IsOf ps (table x) h.0 (read S own l) = elim h.2 [
        | inl p ↦ read_leads holds_inside ps so (table x) at.grounds.known S own h.0 l t p h.1
        | inr p ↦ read_own ps so (table x) at.grounds.known S own h.0 l g p.0 p.1
      ] in
      (t, doing x a callers own todo (read S own l ∷ vs) ls at cs g (goes_on x (Some h.0) todo vs ls (Some (read S own l)) d h.3))
  act_keeps x (Writes l d todo vs ls) a callers own S o c h m at cs g t =
      let k = kept_by x h.0 l d own S h.2 at.grounds.known h.3 g t in
      (k.0, doing x a callers own2 todo vs ls at cs k.1 (goes_on x None todo vs ls None tt h.4))
    where
      own2 : List Datum
      own2 = write_own own l d
  act_keeps x (Calls f args todo vs ls) a callers own S o c h m at cs g t =
      let is = h.5.0 in
      let e = wf.enters f is in
      let y = e.site in
      let same : FullMode (table x) h.0 ≡ FullMode (table y) e.is = sym h.5.1 ∙ sym e.full_is in
      let level : LevelSame (table x) (table y) (out-Mode h.0) (out-Mode e.is) = so.tells (table x) (table y) at.grounds.known e.stays.grounds.known h.0 e.is (inl h.4) (inl e.stands) same in
      let procs : EachSame (table x) (table y) h.1 e.parameters × AnySame (table x) (table y) h.2 y.answer = subst (λ (l : Mode-F Mode). LevelSame (table x) (table y) (Mode-F.Proc h.1 h.2) l) e.opens (subst (λ (l : Mode-F Mode). LevelSame (table x) (table y) l (out-Mode e.is)) h.3 level) in
      let there = parts_stand (table y) e.is e.parameters y.answer e.opens e.stands in
      let here = parts_stand (table x) h.0 h.1 h.2 h.3 h.4 in
      let begins = e.begins args (erl_in own) (values_pass ps so (table x) (table y) at.grounds.known e.stays.grounds.known h.1 e.parameters args here.0 there.0 procs.0 h.6) in
      let stays : IsAt ps w (entered (w.code f) f args (erl_in own)).proc y = subst (λ (p : Proc). IsAt ps w p y) (sym (entered_proc (w.code f) f args (erl_in own))) e.stays in
      let waits : WaitsFor ps w y (with_todo a todo vs ls) = record { site = x; answer = h.2; gives = answers_as ps so y x h.2 y.answer refl here.1 there.1 procs.1; stays = at; fits = h.7 } in
      (t, (record { site = y; slots = begins.0; stays = stays; fits = begins.1; callers_fit = (waits, cs) }, g))
  act_keeps x (Returns v) a callers own S o c h m at cs g t = (t, back x callers own v h cs at.grounds.known g)
  act_keeps x (Jumps todo vs ls) a callers own S o c h m at cs g t = (t, doing x a callers own todo vs ls at cs g (goes_on x None todo vs ls None tt h))
  act_keeps x (Leaps l ls) a callers own S o c h m at cs g t =
      (t, doing x a callers own (leapt (w.code a.proc) l) [] ls at cs g ([], record { has = h.0; fits = at.labels l h.0 h.1; filled = tt; locals = h.2 }))
  act_keeps x (Asks r todo) a callers own S o c h m at cs g t = (t, asks x r todo a callers own o h.0 c h.1 m at cs g)
  act_keeps x (Recovers l todo vs ls) a callers own S o c h m at cs g t = (t, doing x a callers own todo vs ls at cs g (goes_on x None todo vs ls None tt h))
  act_keeps x (Errors n) a callers own S o c h m at cs g t = (t, g)
  act_keeps x Lacks a callers own S o c h m at cs g t = absurd h

next_fits_of : (ps : System) (w : World) (wf : WorldFits ps w) (a : Act) (callers : List Act) (h : ActFits ps w a callers) → NextFits ps h.site (w.env a.proc.module) (next_of w a)
next_fits_of ps w wf a callers h = next_fits ps h.site (w.env a.proc.module) wf.sound h.stays.grounds a.todo h.fits.has h.slots h.fits.fits a.values a.locals h.fits.filled h.fits.locals

pub never_lacks : (ps : System) (w : World) (wf : WorldFits ps w) (t : Task) → TaskFits ps w t → NeverLacks w t
never_lacks ps w wf (Over own) h = tt
never_lacks ps w wf (Failed n own) h = tt
never_lacks ps w wf (Doing a callers own) h = λ e. subst (λ (z : Next). NextFits ps h.0.site (w.env a.proc.module) z) e (next_fits_of ps w wf a callers h.0)

pub steps_keep : HoldsInside → HoldsWritten → StepsKeep
steps_keep holds_inside holds_written ps w (Over own) S o wf t h m = (tt, t, h)
steps_keep holds_inside holds_written ps w (Failed n own) S o wf t h m = (tt, t, h)
steps_keep holds_inside holds_written ps w (Doing a callers own) S o wf t h m =
    let k = act_keeps holds_inside holds_written ps w wf h.0.site (next_of w a) a callers own S o h.0.fits.locals.count (next_fits_of ps w wf a callers h.0) m h.0.stays h.0.callers_fit h.1 t in
    (never_lacks ps w wf (Doing a callers own) h, k.0, k.1)
