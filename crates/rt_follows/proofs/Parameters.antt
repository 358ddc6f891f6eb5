-- A procedure that assigns to its parameter, from its entry to its return.
use Rattle.std.proofs.Common.{ℕ, zero, suc, ◌+◌, ◌*◌, ◌≤◌, false, List, [], ◌∷◌, length, refl, sym, subst, arith, Option, Some}
use Rattle.rt_words.specs.Word.{wrap_add, wrap_sub}
use Rattle.rt_tree_nodes.specs.declared.store.Proc.{Proc}
use Rattle.rt_tree_nodes.specs.declared.store.Datum.{Datum}
use Rattle.rt_tree_nodes.specs.declared.store.Datum.TheVariants.{Word}
use Rattle.rt_work_state.specs.Stores.{erl_in}
use Rattle.rt_resolve.specs.World.{Code}
use Rattle.rt_meaning.specs.Step.{Act, with_todo, entered}
use Rattle.rt_icode_meaning.specs.Typed.{ResultFits}
use Rattle.pdp_code.specs.declared.instruction.Reg.TheVariants.{R0, R5, Sp, Pc}
use Rattle.pdp_code.specs.declared.instruction.Pointer.TheVariants.{PSp}
use Rattle.pdp_code.specs.declared.instruction.Operand.TheVariants.{Register, Increment, Decrement, Index, Immediate}
use Rattle.pdp_code.specs.declared.instruction.Size.TheVariants.{Word as AsWord}
use Rattle.pdp_code.specs.declared.instruction.DoubleOp.TheVariants.{Mov}
use Rattle.pdp_code.specs.declared.instruction.SumOp.TheVariants.{Add}
use Rattle.pdp_code.specs.declared.instruction.Instr.TheVariants.{Double, Sum, Return}
use Rattle.pdp_symbolic.specs.Machine.{Machine}
use Rattle.pdp_symbolic.specs.Acts.{flagged, flagged_sum}
use Rattle.rt_follows.specs.Whole.{Whole, Home, Lays, Sits}
use Rattle.rt_follows.specs.Held.{CodeAt}
use Rattle.rt_follows.specs.Runs.{Tracks, GoesOn}
use Rattle.rt_follows.specs.Calls.{adder, adder_code}
use Rattle.rt_follows.specs.Laws.{ParametersMayChange}
use Rattle.rt_follows.proofs.Step.{stays, quietly, visibly}

module _ (w : Whole) (lays : Lays w) (h : Home) (sits : Sits w h) (u : Machine) (f : Proc) (n x back : ℕ) (below : List ℕ) (c : Act) (cs : List Act) (own : List Datum) (k : ℕ) (gives : ResultFits w.ps f (Some (Word (wrap_add n x)))) (code : CodeAt w h u.pc (adder_code x)) (room : h.low + 2 * (3 + length below) ≤ h.high)
    (goes : GoesOn w h k f back u.r5 1 below c cs) where
  -- the procedure's activation, up to its return
  abbrev a : Act
  a = entered (Some (adder x)) f (Word n ∷ []) (erl_in own)

  -- the task before each instruction
  abbrev v0 : Machine
  v0 = record u { stack = back ∷ n ∷ below }

  abbrev v1 : Machine
  v1 = flagged (record v0 { pc = wrap_add u.pc 2; sp = wrap_sub u.sp 2; stack = u.r5 ∷ back ∷ n ∷ below }) u.r5 false u.c

  abbrev v2 : Machine
  v2 = flagged (record v1 { pc = wrap_add v1.pc 2; r5 = v1.sp }) v1.sp false v1.c

  abbrev v3 : Machine
  v3 = flagged_sum (record v2 { pc = wrap_add (wrap_add (wrap_add v2.pc 2) 2) 2; stack = u.r5 ∷ back ∷ wrap_add n x ∷ below }) n x

  abbrev v4 : Machine
  v4 = flagged (record v3 { pc = wrap_add (wrap_add v3.pc 2) 2; r0 = wrap_add n x }) (wrap_add n x) false v3.c

  abbrev v5 : Machine
  v5 = flagged (record v4 { pc = wrap_add v4.pc 2; sp = v4.r5 }) v4.r5 false v4.c

  abbrev v6 : Machine
  v6 = flagged (record v5 { pc = wrap_add v5.pc 2; sp = wrap_add v5.sp 2; r5 = u.r5; stack = back ∷ wrap_add n x ∷ below }) u.r5 false v5.c

  abbrev v7 : Machine
  v7 = record v6 { pc = back; sp = wrap_add v6.sp 2; stack = wrap_add n x ∷ below }

  abbrev Goes : ℕ → Machine → Type 0
  Goes q v = (j : ℕ) → j ≤ k → Tracks w h j q v a (c ∷ cs) own

  few : 144 ≤ w.bound
  few = lays.room

  returns : Goes 6 v6
  returns zero = λ less m is. stays w h 6 v6 a (c ∷ cs) own m (omega (arith, few)) is
  returns (suc j) = λ less.
      let at = code.2.2.2.2.2.2 in
      visibly w lays h sits (Return Pc) v6 a (c ∷ cs) own j 6 tt at.0 (with_todo c c.todo (Word (wrap_add n x) ∷ c.values) c.locals) cs at.1 (omega (arith, few)) (λ S o. refl) (λ S o. refl) refl
      (λ m is. (refl, refl, goes.returns j (omega (arith, less)) (Some (Word (wrap_add n x))) gives own v7 (wrap_add n x ∷ []) refl (record { pc = refl; r5 = refl; answer = refl; stack = refl })))

  gives_frame : Goes 5 v5
  gives_frame zero = λ less m is. stays w h 5 v5 a (c ∷ cs) own m (omega (arith, few)) is
  gives_frame (suc j) = λ less.
      let at = code.2.2.2.2.2 in
      quietly w lays h sits (Double Mov AsWord (Increment PSp) (Register R5)) v5 a (c ∷ cs) own j 5 tt at.0 at.1 (omega (arith, few)) (λ m is. (refl, refl, returns j (omega (arith, less))))

  cuts : Goes 4 v4
  cuts zero = λ less m is. stays w h 4 v4 a (c ∷ cs) own m (omega (arith, few)) is
  cuts (suc j) = λ less.
      let at = code.2.2.2.2 in
      quietly w lays h sits (Double Mov AsWord (Register R5) (Register Sp)) v4 a (c ∷ cs) own j 4 tt at.0 at.1 (omega (arith, few)) (λ m is. (0, omega arith, omega arith, (refl, refl, gives_frame j (omega (arith, less)))))

  answers : Goes 3 v3
  answers zero = λ less m is. stays w h 3 v3 a (c ∷ cs) own m (omega (arith, few)) is
  answers (suc j) = λ less.
      let at = code.2.2.2 in
      quietly w lays h sits (Double Mov AsWord (Index R5 4) (Register R0)) v3 a (c ∷ cs) own j 3 tt at.0 at.1 (omega (arith, few))
      (λ m is. (2, (let full = is.task.full in omega (arith, full, sits.top)), omega arith, (refl, refl, cuts j (omega (arith, less)))))

  adds : Goes 2 v2
  adds zero = λ less m is. stays w h 2 v2 a (c ∷ cs) own m (omega (arith, few)) is
  adds (suc j) = λ less.
      let at = code.2.2 in
      quietly w lays h sits (Sum Add (Immediate x) (Index R5 4)) v2 a (c ∷ cs) own j 2 tt at.0 at.1 (omega (arith, few))
      (λ m is. (2, (let full = is.task.full in omega (arith, full, sits.top)), omega arith, (2, (let full = is.task.full in omega (arith, full, sits.top)), omega arith, (refl, refl, answers j (omega (arith, less))))))

  takes_frame : Goes 1 v1
  takes_frame zero = λ less m is. stays w h 1 v1 a (c ∷ cs) own m (omega (arith, few)) is
  takes_frame (suc j) = λ less.
      let at = code.2 in
      quietly w lays h sits (Double Mov AsWord (Register Sp) (Register R5)) v1 a (c ∷ cs) own j 1 tt at.0 at.1 (omega (arith, few)) (λ m is. (refl, refl, adds j (omega (arith, less))))

  runs : Goes 0 v0
  runs zero = λ less m is. stays w h 0 v0 a (c ∷ cs) own m (omega arith) is
  runs (suc j) = λ less.
      quietly w lays h sits (Double Mov AsWord (Register R5) (Decrement Sp)) v0 a (c ∷ cs) own j 0 tt code.0 code.1 (omega (arith, few)) (λ m is. (omega (arith, room), (refl, refl, takes_frame j (omega (arith, less)))))

pub parameters_may_change : ParametersMayChange
parameters_may_change w h u f n x back below c cs own k lays sits is_code gives code need called goes =
    let here : CodeAt w h u.pc (adder_code x) = subst (λ p. CodeAt w h p (adder_code x)) (sym called.pc) code in
    let room : h.low + 2 * (3 + length below) ≤ h.high = let r = called.room in omega (arith, r, need) in
    let t : Tracks w h k 0 (record u { stack = back ∷ n ∷ below }) (entered (Some (adder x)) f (Word n ∷ []) (erl_in own)) (c ∷ cs) own = runs w lays h sits u f n x back below c cs own k gives here room goes k (omega arith) in
    subst (λ (o : Option Code). Tracks w h k 0 u (entered o f (Word n ∷ []) (erl_in own)) (c ∷ cs) own) (sym is_code)
    (subst (λ (s : List ℕ). Tracks w h k 0 (record u { stack = s }) (entered (Some (adder x)) f (Word n ∷ []) (erl_in own)) (c ∷ cs) own) (sym called.stack) t)
