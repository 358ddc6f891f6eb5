-- A task of a linked image follows its source's task from the start.
use Rattle.std.proofs.Common.{◌≡◌, ℕ, zero, suc, ◌+◌, ◌*◌, ◌≤◌, true, List, [], ◌∷◌, length, refl, sym, ap, ◌∙◌, subst, inl, inr, arith, Option, Some, None}
use Rattle.std.specs.Prelude.{◌⊎◌, slice_get}
use Rattle.rt_words.specs.Word.{wrap_add, wrap_sub}
use Rattle.rt_modes.specs.declared.mode.Mode.{Mode, out-Mode}
use Rattle.rt_modes.specs.declared.mode.Mode.TheOpen.{Mode-F}
use Rattle.rt_modes.specs.declared.mode.ModeTable.{ModeTable}
use Rattle.rt_tree_nodes.specs.declared.brick.Brick.{Brick}
use Rattle.rt_tree_nodes.specs.declared.brick.BrickSort.TheVariants as sort
use Rattle.rt_tree_nodes.specs.declared.brick.ModuleParts.{ModuleParts}
use Rattle.rt_tree_nodes.specs.declared.store.Datum.{Datum}
use Rattle.rt_tree_nodes.specs.declared.store.Datum.TheVariants.{Word}
use Rattle.rt_tree_nodes.specs.declared.store.Proc.{Proc}
use Rattle.rt_tree.specs.Modules.{is_here}
use Rattle.rt_tree.specs.Stored.{System, Suits, module_of}
use Rattle.rt_tree.specs.Stored as stored
use Rattle.rt_rules.specs.declared.service.Outcome as rules
use Rattle.rt_rules.specs.declared.service.Outcome.TheVariants as came
use Rattle.rt_rules.specs.declared.service.Svc.TheVariants as svc
use Rattle.rt_work_state.specs.Items.{Serve, Next, Asks}
use Rattle.rt_work_state.specs.Stores.{Store, erl_in, first_own}
use Rattle.rt_work_state.specs.declared.request.Request.{Request}
use Rattle.rt_work_state.specs.declared.request.Request.TheVariants.{Rules}
use Rattle.rt_resolve.specs.World.{World}
use Rattle.rt_meaning.specs.Answers.{MayCome}
use Rattle.rt_meaning.specs.Step.{Act, Over, Doing, with_todo, on_values, entered, next_of, asked}
use Rattle.rt_meaning.specs.Step as meant
use Rattle.rt_meaning_laws.specs.Starting.{IsRoot}
use Rattle.rt_meaning_laws.specs.Work.{IsProcedure, of_module}
use Rattle.rt_icode_meaning.specs.Typed.{ArgsFit, ResultFits, AnswerOf, to_module}
use Rattle.rt_icode_meaning.specs.Typed as passed
use Rattle.pdp_code.specs.declared.instruction.Operand.TheVariants.{Absolute}
use Rattle.pdp_code.specs.declared.instruction.Reg.TheVariants.{Pc}
use Rattle.pdp_code.specs.declared.instruction.Instr.TheVariants.{Call, Trap as Service}
use Rattle.pdp_code.specs.Code.{words_of}
use Rattle.pdp_core.specs.declared.cpu.Regs.{Regs}
use Rattle.pdp_core.specs.declared.cpu.Stop.TheVariants.{Trap}
use Rattle.pdp_core.specs.Execute.{Outcome, execute, settle}
use Rattle.pdp_symbolic.specs.Machine.{Machine, regs, Stands}
use Rattle.pdp_symbolic.proofs.Runs.{plan_sound}
use Rattle.rt_follows.specs.Whole.{Whole, Home, meaning, Lays, Sits, Lies}
use Rattle.rt_follows.specs.Held.{layout, memory}
use Rattle.rt_follows.specs.Follows.{Stays, Follows, Agreed, asked_by}
use Rattle.rt_follows.specs.Runs.{Tracks, GoesOn}
use Rattle.rt_follows.specs.Linked.{Linked, Starts, first_act}
use Rattle.rt_follows.specs.Laws.{TasksFollow}
use Rattle.rt_follows.proofs.Step.{laid, holds_kept, stays, Comes, visibly}
use Rattle.rt_follows.proofs.Induction.{all_run}

-- ---- a task that has ended

pub over : (w : Whole) (h : Home) (k : ℕ) (g : Regs) (m : ℕ → ℕ) (own : List Datum) → Stays w h 0 g m (Over own) → Follows w h k 0 g m (Over own)
over w h zero g m own s = s
over w h (suc k) g m own s = (s, λ alive. absurd alive)

-- only its end comes of the end of a task
end_comes : (o : rules.Outcome) → MayCome (Rules svc.End) o → o ≡ came.Ends
end_comes (came.Go n) h = absurd h
end_comes came.Waits h = absurd h
end_comes (came.Error n) h = absurd h
end_comes came.Ends h = refl

-- TRAP 11, where the source's next step is the end of the task
module _ (w : Whole) (lays : Lays w) (h : Home) (sits : Sits w h) (u : Machine) (a : Act) (own : List Datum) (code : Stands (layout w h) u.pc (words_of (Service 11))) (mark : w.marks u.pc ≡ 1) (asks : next_of (meaning w) a ≡ Asks (Rules svc.End) []) where
  -- past the trap
  abbrev u2 : Machine
  u2 = record u { pc = wrap_add u.pc 2 }

  abbrev outcome : (ℕ → ℕ) → Outcome
  outcome m0 = record { stop = Trap 11; regs = regs u2; world = memory w h m0 }

  -- what comes of the source's step, where this is its next one
  abbrev AfterEnd : ℕ → Store → (ℕ → ℕ) → Next → Type 0
  AfterEnd k S m0 n =
      let z = meant.act (meaning w) n a [] own S came.Ends in
      Agreed w h (outcome m0) came.Ends (asked n) z.task z.store (Follows w h k 0 (regs u2) m0 z.task)

  ended : (k q : ℕ) (S : Store) (m0 : ℕ → ℕ) → Lies w S m0 → Stays w h 0 (regs u2) m0 (Over own) → Comes w h k q (Doing a [] own) S came.Ends 1 (outcome m0)
  ended k q S m0 lies s =
      subst (λ (n : Next). AfterEnd k S m0 n) (sym asks)
      (record { fine = tt; asks = refl; goes_on = λ f. absurd (f refl); world = refl; lies = lies; next = over w h k (regs u2) m0 own s })

  abbrev asked_of : Outcome → Request
  asked_of y = asked_by y.stop y.regs

  trapped : (k q : ℕ) → q ≤ w.bound → Tracks w h k q u a [] own
  trapped zero q few m is = stays w h q u a [] own m few is
  trapped (suc k) q few m is = (
    stays w h q u a [] own m few is,
    λ alive fits S m0 typed kept lies o may.
        let is0 = holds_kept w h u own m m0 is kept in
        let f = plan_sound (layout w h) (laid w h lays sits) m0 (Service 11) u (omega arith) is0.task code refl in
        let does : execute (memory w h m0) (regs u) ≡ outcome m0 = ap (settle (memory w h m0) (regs u)) f.0 in
        let over_now : o ≡ came.Ends = end_comes o (subst (λ (y : Outcome). MayCome (asked_of y) o) does may) in
        let rest : Stays w h 0 (regs u2) m0 (Over own) = record { above = is0.task.low; below = omega (arith, is0.task.full); own = (stays w h q u a [] own m0 few is0).own; quiet = omega arith } in
        subst (λ i. Comes w h k q (Doing a [] own) S o i (execute (memory w h m0) (regs u))) (sym mark)
        (subst (λ y. Comes w h k q (Doing a [] own) S o 1 y) (sym does)
        (subst (λ (z : rules.Outcome). Comes w h k q (Doing a [] own) S z 1 (outcome m0)) (sym over_now) (ended k q S m0 lies rest))),
  )

-- ---- the start

-- an INT is a word
int_is : (ps : System) (t : ModeTable) (m : Mode) (d : Datum) → out-Mode m ≡ Mode-F.Int → Suits ps t m d → (n : ℕ) × (d ≡ Word n)
int_is ps t m _ e (stored.byte {n = n} f less) = (n, refl)
int_is ps t m _ e (stored.int {n = n} f less) = (n, refl)
int_is ps t m _ e (stored.frac {n = n} f less) = (n, refl)
int_is ps t m _ e (stored.unset f) = absurd cc
int_is ps t m _ e (stored.reference f at same) = absurd cc
int_is ps t m _ e (stored.row f at opens same) = absurd cc
int_is ps t m _ e (stored.procedure f is) = absurd cc

-- a root gives nothing, or a word
abbrev GivesWord : Option Datum → Type 0
GivesWord v = (v ≡ None) ⊎ ((n : ℕ) × (v ≡ Some (Word n)))

answer_is : (ps : System) (t : ModeTable) (o : Option Mode) (v : Option Datum) → ((o ≡ None) ⊎ ((m : Mode) × (o ≡ Some m) × (out-Mode m ≡ Mode-F.Int))) → AnswerOf ps t o v → GivesWord v
answer_is ps t None None e a = inl refl
answer_is ps t None (Some d) e a = absurd a
answer_is ps t (Some m) None e a = absurd a
answer_is ps t (Some m) (Some d) (inl e) a = absurd cc
answer_is ps t (Some m) (Some d) (inr e) a =
    let same : e.0 ≡ m = cc in
    let x = int_is ps t m d (subst (λ (z : Mode). out-Mode z ≡ Mode-F.Int) same e.2) a.0 in inr (x.0, ap (λ (z : Datum). Some z) x.1)

same_parts : {A : Type 0} {x y : A} (o : Option A) → o ≡ Some x → o ≡ Some y → x ≡ y
same_parts o e f = cc

result_is : (ps : System) (f : Proc) (v : Option Datum) → IsRoot ps f → ResultFits ps f v → GivesWord v
result_is ps _ v is (passed.of_supplied {k = k} one opens a) =
    let e : 0 ≡ is.home = ap (λ (f : Proc). f.module) is.is in
    let none : module_of ps 0 ≡ Some is.parts = subst (λ n. module_of ps n ≡ Some is.parts) (sym e) is.has.of in
    absurd cc
result_is ps _ v is (passed.of_module {m = m} {b = b} {p = p} {d = d} {w = w} {body = body} {ws = ws} {o = o} has here so opens a) =
    let e : m ≡ is.home = ap (λ (f : Proc). f.module) is.is in
    let g : b ≡ is.number = ap (λ (f : Proc). f.brick) is.is in
    let q : p ≡ is.parts = same_parts (module_of ps m) has.of (subst (λ n. module_of ps n ≡ Some is.parts) (sym e) is.has.of) in
    let at : slice_get p.bricks b ≡ Some is.brick_is = subst (λ (z : ModuleParts). slice_get z.bricks b ≡ Some is.brick_is) (sym q) (subst (λ n. slice_get is.parts.bricks n ≡ Some is.brick_is) (sym g) is.has.at) in
    let r : d ≡ is.brick_is = same_parts (slice_get p.bricks b) has.at at in
    let one : sort.Proc w body ≡ sort.Proc is.mode is.body = sym so ∙ ap (λ (z : Brick). z.sort) r ∙ is.sort_is in
    let mode_is : w ≡ is.mode = cc in
    let gives : (o ≡ None) ⊎ ((n : Mode) × (o ≡ Some n) × (out-Mode n ≡ Mode-F.Int)) = elim is.opens [
      | inl h ↦ inl (let x : Mode-F.Proc ws o ≡ Mode-F.Proc [] None = sym opens ∙ ap out-Mode mode_is ∙ h in cc)
      | inr h ↦ inr (h.0, (let x : Mode-F.Proc ws o ≡ Mode-F.Proc [] (Some h.0) = sym opens ∙ ap out-Mode mode_is ∙ h.1 in cc), h.2)
    ] in
    answer_is ps p.modes o v gives a

module _ (w : Whole) (h : Home) (root : Proc) (u : Machine) (linked : Linked w) (s : Starts w h root u) where
  abbrev W : World
  W = meaning w

  -- the task once its root is called
  abbrev caller : Act
  caller = with_todo (first_act root) (Serve 11 ∷ []) [] []

  abbrev back : ℕ
  back = wrap_add (wrap_add u.pc 2) 2

  abbrev called : Machine
  called = record u { sp = wrap_sub u.sp 2; pc = w.entry root; stack = back ∷ u.stack }

  room : h.low + 2 * (1 + length u.stack) ≤ h.high
  room = let least = linked.lays.least 0 root in let r = s.room in let e = ap length s.stack in omega (arith, least, r, e)

  here : is_here s.is_root.brick_is.kind ≡ true
  here = ap is_here s.is_root.enters

  is_procedure : IsProcedure w.ps root
  is_procedure = subst (λ (f : Proc). IsProcedure w.ps f) (sym s.is_root.is) (of_module s.is_root.has here s.is_root.sort_is)

  no_args : ArgsFit w.ps root []
  no_args = subst (λ (f : Proc). ArgsFit w.ps f []) (sym s.is_root.is) (elim s.is_root.opens [
    | inl e ↦ to_module s.is_root.has here s.is_root.sort_is e tt
    | inr e ↦ to_module s.is_root.has here s.is_root.sort_is e.1 tt
  ])

  -- the end, whatever the root gives
  ends_by : (vs : List Datum) → next_of W (with_todo caller caller.todo vs caller.locals) ≡ Asks (Rules svc.End) [] → (k : ℕ) (own : List Datum) (v : Machine) → v.pc ≡ back → Tracks w h k 0 v (with_todo caller caller.todo vs caller.locals) [] own
  ends_by vs asks k own v at =
      let c = s.enters.2.0 in
      trapped w linked.lays h s.sits v (with_todo caller caller.todo vs caller.locals) own (subst (λ a. Stands (layout w h) a (words_of (Service 11))) (sym at) c) (ap w.marks at ∙ s.enters.2.1) asks k 0 (omega arith)

  goes_on : (k : ℕ) → GoesOn w h k root back u.r5 0 [] caller []
  goes_on k = record {
    returns = λ j less v fits own x xs count at. elim (result_is w.ps root v s.is_root fits) [
      | inl e ↦ subst (λ (o : Option Datum). Tracks w h j 0 x (with_todo caller caller.todo (on_values o []) caller.locals) [] own) (sym e) (ends_by [] refl j own x at.pc)
      | inr e ↦ subst (λ (o : Option Datum). Tracks w h j 0 x (with_todo caller caller.todo (on_values o []) caller.locals) [] own) (sym e.1) (ends_by (Word e.0 ∷ []) refl j own x at.pc)
    ];
  }

  into : (k : ℕ) → Tracks w h k 0 called (entered (W.code root) root [] (erl_in first_own)) (caller ∷ []) first_own
  into k =
      all_run w linked h s.sits k root is_procedure s.reached called back u.r5 [] [] caller [] first_own
      (record { pc = refl; r5 = refl; stack = ap (λ xs. back ∷ xs) s.stack; fits = no_args; room = let r = s.room in omega (arith, r) }) (goes_on k)

  pub starts : (k : ℕ) → Tracks w h k 0 u (first_act root) [] first_own
  starts zero = λ m is. stays w h 0 u (first_act root) [] first_own m (omega arith) is
  starts (suc k) =
      visibly w linked.lays h s.sits (Call Pc (Absolute (w.entry root))) u (first_act root) [] first_own k 0 tt s.enters.0 (entered (W.code root) root [] (erl_in first_own)) (caller ∷ []) s.enters.1 (omega arith) (λ S o. refl) (λ S o. refl) refl
      (λ m is. (room, (refl, refl, into k)))

pub tasks_follow : TasksFollow
tasks_follow w h root u linked s k = starts w h root u linked s k
