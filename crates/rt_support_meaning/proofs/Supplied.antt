-- Each supplied procedure runs.
use Rattle.std.proofs.Common.{inl, inr, ◌≡◌, ℕ, zero, suc, ◌+◌, ◌*◌, ◌%◌, ◌<◌, ◌≤◌, true, List, [], ◌∷◌, length, map, codes, take, drop, refl, sym, ap, ◌∙◌, subst, arith, Some, None}
use Rattle.std.specs.Prelude.{◌⊎◌, slice_get}
use Rattle.rt_modes.specs.declared.mode.Mode.{Mode}
use Rattle.rt_modes.specs.declared.mode.Mode.TheVariants as mode
use Rattle.rt_tree_nodes.specs.declared.store.Proc.{Proc}
use Rattle.rt_tree_nodes.specs.declared.store.Datum.{Datum}
use Rattle.rt_tree_nodes.specs.declared.store.Datum.TheVariants.{Word, Procedure}
use Rattle.rt_tree.specs.Stored.{TypedOwn, IsCandidate, rrgel as standard_rrgel, standard}
use Rattle.rt_work_state.specs.Stores.{supplied, erl_in}
use Rattle.rt_work_state.specs.Items.{Serve, Leave, Asks}
use Rattle.rt_work_state.specs.declared.request.Request.{Request}
use Rattle.rt_work_state.specs.declared.request.Request.TheVariants.{Takes, Puts, Rules}
use Rattle.rt_resolve.specs.Matching.{IsSupplied, rrin, rrout, delay, wait, signal, secure, release, clock, taskno, rrgel}
use Rattle.rt_rules.specs.declared.service.Svc.TheVariants as svc
use Rattle.rt_rules.specs.declared.service.Outcome as rules
use Rattle.rt_rules.specs.declared.service.Outcome.TheVariants as came
use Rattle.rt_meaning.specs.Answers.{MayCome}
use Rattle.rt_meaning.specs.Step.{Act, Doing, with_todo, served, entered, next_of}
use Rattle.rt_icode_meaning.specs.Typed.{ResultFits}
use Rattle.pdp_code.specs.declared.instruction.Reg.TheVariants.{R0, Sp}
use Rattle.pdp_code.specs.declared.instruction.Operand.TheVariants.{Register, Index}
use Rattle.pdp_code.specs.declared.instruction.Size.TheVariants.{Word as AsWord}
use Rattle.pdp_code.specs.declared.instruction.DoubleOp.TheVariants.{Mov}
use Rattle.pdp_code.specs.declared.instruction.Instr.TheVariants.{Double}
use Rattle.pdp_core.specs.declared.cpu.Stop.TheVariants.{Trap}
use Rattle.pdp_symbolic.specs.Machine.{Machine, regs}
use Rattle.rt_templates.specs.Supported.{asked as asked_lines, failed, begins, routines}
use Rattle.rt_follows.specs.Whole.{Whole, Home, meaning, pushed, Lays, Sits}
use Rattle.rt_follows.specs.Held.{CodeAt, quiet}
use Rattle.rt_follows.specs.Follows.{answered}
use Rattle.rt_follows.specs.Runs.{Tracks, GoesOn, Before, Called, ProcRuns, ErrorRuns}
use Rattle.rt_follows.proofs.Step.{stays}
use Rattle.rt_support_meaning.specs.Support.{marked, support_code, SupportAt, Reports, AllReport}
use Rattle.rt_support_meaning.proofs.Pieces.{past_code, code_drop, code_take}
use Rattle.rt_support_meaning.proofs.Passed.{no_argument, one_number, one_byte, gives_byte, gives_clock, gives_number, gives_nothing, rrout_gives_nothing}
use Rattle.rt_support_meaning.proofs.Services.{answering, taking, argument_in, loaded}
use Rattle.rt_support_meaning.proofs.Asking.{WasGranted, WasRefused, at_once, by_branch, asking}
use Rattle.rt_support_meaning.proofs.Ended.{ends, error_runs}

-- ---- what comes of services

byte_comes : (o : rules.Outcome) → MayCome Takes o → (x : ℕ) × (o ≡ came.Go x) × (x < 256)
byte_comes (came.Go n) m = (n, refl, m)
byte_comes came.Waits m = absurd m
byte_comes (came.Error n) m = absurd m
byte_comes came.Ends m = absurd m

clock_comes : (o : rules.Outcome) → MayCome (Rules svc.Clock) o → (x : ℕ) × (o ≡ came.Go x) × (x < 65536)
clock_comes (came.Go n) m = (n, refl, m)
clock_comes came.Waits m = absurd m
clock_comes (came.Error n) m = absurd m
clock_comes came.Ends m = absurd m

number_comes : (o : rules.Outcome) → MayCome (Rules svc.TaskNo) o → (x : ℕ) × (o ≡ came.Go x) × (x < 65536)
number_comes (came.Go n) m = (n, refl, m)
number_comes came.Waits m = absurd m
number_comes (came.Error n) m = absurd m
number_comes came.Ends m = absurd m

abbrev Plain : ℕ → Request → rules.Outcome → Type 0
Plain n r o = ((a : Act) (ds : List Act) (own : List Datum) → served r o (Leave ∷ []) a ds own ≡ Doing (with_todo a (Leave ∷ []) [] a.locals) ds own) × ((v : Machine) → answered (Trap n) o (regs v) ≡ regs v)

put_comes : (b : ℕ) (o : rules.Outcome) → MayCome (Puts b) o → Plain 2 (Puts b) o
put_comes b (came.Go n) m = ((λ a ds own. refl), (λ v. refl))
put_comes b came.Waits m = absurd m
put_comes b (came.Error n) m = absurd m
put_comes b came.Ends m = absurd m

delay_comes : (n : ℕ) (o : rules.Outcome) → MayCome (Rules (svc.Delay n)) o → Plain 3 (Rules (svc.Delay n)) o
delay_comes n (came.Go k) m = ((λ a ds own. refl), (λ v. refl))
delay_comes n came.Waits m = ((λ a ds own. refl), (λ v. refl))
delay_comes n (came.Error k) m = absurd m
delay_comes n came.Ends m = absurd m

abbrev Either : ℕ → Request → rules.Outcome → Type 0
Either n r o = WasGranted n r o ⊎ WasRefused n r o

wait_comes : (n : ℕ) (o : rules.Outcome) → MayCome (Rules (svc.Wait n)) o → Either 4 (Rules (svc.Wait n)) o
wait_comes n (came.Go k) m = inl (record { task = λ a ds own. refl; puts = λ v. refl })
wait_comes n came.Waits m = inl (record { task = λ a ds own. refl; puts = λ v. refl })
wait_comes n (came.Error k) m = inr (record { error = k; positive = m.0; small = m.1; task = λ a ds own. refl; puts = λ v. refl })
wait_comes n came.Ends m = absurd m

signal_comes : (n : ℕ) (o : rules.Outcome) → MayCome (Rules (svc.Signal n)) o → Either 5 (Rules (svc.Signal n)) o
signal_comes n (came.Go k) m = inl (record { task = λ a ds own. refl; puts = λ v. refl })
signal_comes n came.Waits m = inl (record { task = λ a ds own. refl; puts = λ v. refl })
signal_comes n (came.Error k) m = inr (record { error = k; positive = m.0; small = m.1; task = λ a ds own. refl; puts = λ v. refl })
signal_comes n came.Ends m = absurd m

secure_comes : (n : ℕ) (o : rules.Outcome) → MayCome (Rules (svc.Secure n)) o → Either 6 (Rules (svc.Secure n)) o
secure_comes n (came.Go k) m = inl (record { task = λ a ds own. refl; puts = λ v. refl })
secure_comes n came.Waits m = inl (record { task = λ a ds own. refl; puts = λ v. refl })
secure_comes n (came.Error k) m = inr (record { error = k; positive = m.0; small = m.1; task = λ a ds own. refl; puts = λ v. refl })
secure_comes n came.Ends m = absurd m

release_comes : (n : ℕ) (o : rules.Outcome) → MayCome (Rules (svc.Release n)) o → Either 7 (Rules (svc.Release n)) o
release_comes n (came.Go k) m = inl (record { task = λ a ds own. refl; puts = λ v. refl })
release_comes n came.Waits m = inl (record { task = λ a ds own. refl; puts = λ v. refl })
release_comes n (came.Error k) m = inr (record { error = k; positive = m.0; small = m.1; task = λ a ds own. refl; puts = λ v. refl })
release_comes n came.Ends m = absurd m

some_is : {A : Type 0} {x y : A} → Some x ≡ Some y → x ≡ y
some_is e = cc

procedure_is : {f g : Proc} → Procedure f ≡ Procedure g → f ≡ g
procedure_is e = cc

-- ---- the procedures

module _ (w : Whole) (lays : Lays w) (h : Home) (sits : Sits w h) (support : SupportAt w h) (k : ℕ) where
  few : (q : ℕ) → q ≤ 144 → q ≤ w.bound
  few q less = let b = lays.room in omega (arith, b, less)

  -- so many instructions of the support code from one on
  piece : (n size : ℕ) → CodeAt w h (past_code n 0 support_code) (take size (drop n support_code))
  piece n size = code_take w h size (past_code n 0 support_code) (drop n support_code) (code_drop w h n 0 support_code support.code)

  entry : (n at : ℕ) → 1 ≤ n → n ≤ 10 → at ≡ begins 0 routines n → w.entry (supplied n) ≡ at
  entry n at least most e = support.procs n least most ∙ support.entries n least (omega (arith, most)) ∙ sym e

  -- ---- the end of a task by RRGEL

  at_end : CodeAt w h 90 (map marked failed)
  at_end = piece 35 8

  at_rrgel : (u : Machine) (back x : ℕ) (below : List ℕ) (a : Act) (c : Act) (cs : List Act) (own : List Datum) → CodeAt w h 86 (quiet (Double Mov AsWord (Index Sp 2) (Register R0)) ∷ []) → next_of (meaning w) a ≡ Asks (Rules (svc.Gel x)) (Leave ∷ []) → (j : ℕ) → Tracks w h j 0 (record u { pc = 86; stack = back ∷ x ∷ below }) a (c ∷ cs) own
  at_rrgel u back x below a c cs own code is zero = λ m s. stays w h 0 (record u { pc = 86; stack = back ∷ x ∷ below }) a (c ∷ cs) own m (omega arith) s
  at_rrgel u back x below a c cs own code is (suc j) =
      argument_in w lays h sits (record u { pc = 86 }) back x below a (c ∷ cs) own j 0 code.0 code.1 (few 1 (omega arith))
      (ends w lays h sits at_end x (loaded (record u { pc = 86 }) back x below) a (c ∷ cs) own (Asks (Rules (svc.Gel x)) (Leave ∷ [])) (λ o. served (Rules (svc.Gel x)) o (Leave ∷ []) a (c ∷ cs) own) refl is refl refl (λ S o. refl) (λ S o. refl) j 1 (few 3 (omega arith)))

  -- ---- those that take nothing and give a word

  module _ (n at : ℕ) (here : w.entry (supplied n) ≡ at) (u : Machine) (back kept : ℕ) (args : List Datum) (below : List ℕ) (c : Act) (cs : List Act) (own : List Datum) (called : Called w h (supplied n) u back kept args below (c ∷ cs)) where
    -- with no arguments
    with_none : args ≡ [] → Tracks w h k 0 (record u { pc = at; stack = back ∷ below }) (entered None (supplied n) [] (erl_in own)) (c ∷ cs) own → Tracks w h k 0 u (entered ((meaning w).code (supplied n)) (supplied n) args (erl_in own)) (c ∷ cs) own
    with_none none t =
        subst (λ (z : List Datum). Tracks w h k 0 u (entered None (supplied n) z (erl_in own)) (c ∷ cs) own) (sym none)
        (subst (λ (s : List ℕ). Tracks w h k 0 (record u { stack = s }) (entered None (supplied n) [] (erl_in own)) (c ∷ cs) own) (sym (called.stack ∙ ap (λ (z : List Datum). back ∷ pushed w z below) none))
        (subst (λ p. Tracks w h k 0 (record u { pc = p; stack = back ∷ below }) (entered None (supplied n) [] (erl_in own)) (c ∷ cs) own) (sym (called.pc ∙ here)) t))

    -- with a word
    with_one : (x : ℕ) → args ≡ Word x ∷ [] → Tracks w h k 0 (record u { pc = at; stack = back ∷ x ∷ below }) (entered None (supplied n) (Word x ∷ []) (erl_in own)) (c ∷ cs) own → Tracks w h k 0 u (entered ((meaning w).code (supplied n)) (supplied n) args (erl_in own)) (c ∷ cs) own
    with_one x one t =
        subst (λ (z : List Datum). Tracks w h k 0 u (entered None (supplied n) z (erl_in own)) (c ∷ cs) own) (sym one)
        (subst (λ (s : List ℕ). Tracks w h k 0 (record u { stack = s }) (entered None (supplied n) (Word x ∷ []) (erl_in own)) (c ∷ cs) own) (sym (called.stack ∙ ap (λ (z : List Datum). back ∷ pushed w z below) one))
        (subst (λ p. Tracks w h k 0 (record u { pc = p; stack = back ∷ x ∷ below }) (entered None (supplied n) (Word x ∷ []) (erl_in own)) (c ∷ cs) own) (sym (called.pc ∙ here)) t))

    goes_none : args ≡ [] → GoesOn w h k (supplied n) back kept (length args) below c cs → GoesOn w h k (supplied n) back kept 0 below c cs
    goes_none none goes = subst (λ (z : List Datum). GoesOn w h k (supplied n) back kept (length z) below c cs) none goes

    goes_one : (x : ℕ) → args ≡ Word x ∷ [] → GoesOn w h k (supplied n) back kept (length args) below c cs → GoesOn w h k (supplied n) back kept 1 below c cs
    goes_one x one goes = subst (λ (z : List Datum). GoesOn w h k (supplied n) back kept (length z) below c cs) one goes

  rrin_runs : ProcRuns w h k (supplied 1)
  rrin_runs u back kept args below c cs own called goes =
      let here = entry 1 0 (omega arith) (omega arith) refl in
      let none : args ≡ [] = no_argument w.ps 1 (Some mode.Byte) args refl called.fits in
      let value : (o : rules.Outcome) → MayCome Takes o → (x : ℕ) × (o ≡ came.Go x) × (x < 65536) × ResultFits w.ps (supplied 1) (Some (Word x)) = λ o m. (let g = byte_comes o m in (g.0, g.1, (let less = g.2 in omega (arith, less)), gives_byte w.ps g.0 g.2)) in
      with_none 1 0 here u back kept args below c cs own called none
      (answering w lays h sits k (supplied 1) back kept below c cs 1 Takes refl (omega arith) (λ x. refl) refl value (λ x v. refl) (record u { pc = 0; stack = back ∷ below }) (entered None (supplied 1) [] (erl_in own)) [] own (piece 0 2) refl refl called.r5
      (goes_none 1 0 here u back kept args below c cs own called none goes) k 0 (omega arith) (omega arith))

  clock_runs : ProcRuns w h k (supplied 8)
  clock_runs u back kept args below c cs own called goes =
      let here = entry 8 66 (omega arith) (omega arith) refl in
      let none : args ≡ [] = no_argument w.ps 8 (Some mode.Int) args refl called.fits in
      let value : (o : rules.Outcome) → MayCome (Rules svc.Clock) o → (x : ℕ) × (o ≡ came.Go x) × (x < 65536) × ResultFits w.ps (supplied 8) (Some (Word x)) = λ o m. (let g = clock_comes o m in (g.0, g.1, g.2, gives_clock w.ps g.0 g.2)) in
      with_none 8 66 here u back kept args below c cs own called none
      (answering w lays h sits k (supplied 8) back kept below c cs 8 (Rules svc.Clock) refl (omega arith) (λ x. refl) refl value (λ x v. refl) (record u { pc = 66; stack = back ∷ below }) (entered None (supplied 8) [] (erl_in own)) [] own (piece 26 2) refl refl called.r5
      (goes_none 8 66 here u back kept args below c cs own called none goes) k 0 (omega arith) (omega arith))

  taskno_runs : ProcRuns w h k (supplied 9)
  taskno_runs u back kept args below c cs own called goes =
      let here = entry 9 70 (omega arith) (omega arith) refl in
      let none : args ≡ [] = no_argument w.ps 9 (Some mode.Int) args refl called.fits in
      let value : (o : rules.Outcome) → MayCome (Rules svc.TaskNo) o → (x : ℕ) × (o ≡ came.Go x) × (x < 65536) × ResultFits w.ps (supplied 9) (Some (Word x)) = λ o m. (let g = number_comes o m in (g.0, g.1, g.2, gives_number w.ps g.0 g.2)) in
      with_none 9 70 here u back kept args below c cs own called none
      (answering w lays h sits k (supplied 9) back kept below c cs 9 (Rules svc.TaskNo) refl (omega arith) (λ x. refl) refl value (λ x v. refl) (record u { pc = 70; stack = back ∷ below }) (entered None (supplied 9) [] (erl_in own)) [] own (piece 28 2) refl refl called.r5
      (goes_none 9 70 here u back kept args below c cs own called none goes) k 0 (omega arith) (omega arith))

  -- ---- those that take a word and are never refused

  rrout_runs : ProcRuns w h k (supplied 2)
  rrout_runs u back kept args below c cs own called goes =
      let here = entry 2 4 (omega arith) (omega arith) refl in
      let g = one_byte w.ps args called.fits in
      let x : ℕ = g.0 in
      with_one 2 4 here u back kept args below c cs own called x g.1
      (taking w lays h sits k (supplied 2) back kept below c cs 2 (Puts (x % 256)) refl (omega arith) x refl (rrout_gives_nothing w.ps) (put_comes (x % 256)) (record u { pc = 4 }) (entered None (supplied 2) (Word x ∷ []) (erl_in own)) own (piece 2 3) refl called.r5
      (goes_one 2 4 here u back kept args below c cs own called x g.1 goes) k (omega arith))

  delay_runs : ProcRuns w h k (supplied 3)
  delay_runs u back kept args below c cs own called goes =
      let here = entry 3 12 (omega arith) (omega arith) refl in
      let g = one_number w.ps 3 args refl called.fits in
      let x : ℕ = g.0 in
      with_one 3 12 here u back kept args below c cs own called x g.1
      (taking w lays h sits k (supplied 3) back kept below c cs 3 (Rules (svc.Delay x)) refl (omega arith) x refl (gives_nothing w.ps 3 delay) (λ o m. delay_comes x o m) (record u { pc = 12 }) (entered None (supplied 3) (Word x ∷ []) (erl_in own)) own (piece 5 3) refl called.r5
      (goes_one 3 12 here u back kept args below c cs own called x g.1 goes) k (omega arith))

  -- ---- RRGEL

  rrgel_runs : ProcRuns w h k (supplied 10)
  rrgel_runs u back kept args below c cs own called goes =
      let here = entry 10 86 (omega arith) (omega arith) refl in
      let g = one_number w.ps 10 args refl called.fits in
      let x : ℕ = g.0 in
      let a : Act = entered None (supplied 10) (Word x ∷ []) (erl_in own) in
      let code : CodeAt w h 86 (quiet (Double Mov AsWord (Index Sp 2) (Register R0)) ∷ []) = piece 34 1 in
      let from : (j : ℕ) → Tracks w h j 0 (record u { pc = 86; stack = back ∷ x ∷ below }) a (c ∷ cs) own = at_rrgel u back x below a c cs own code refl in
      with_one 10 86 here u back kept args below c cs own called x g.1 (from k)

  -- ---- those that may be refused

  asked_code : CodeAt w h 50 (map marked asked_lines)
  asked_code = piece 19 7

  module _ (ready : Before w h k) (all : AllReport w) where
    -- a candidate's need and those of the words pushed for it are within that of the procedure
    room_for : (n : ℕ) → 4 ≤ n → n ≤ 7 → w.reached (supplied n) ≡ true → (below : List ℕ) → h.low + 2 * (w.needs 0 (supplied n) + (1 + length below)) ≤ h.high
        → (g : Proc) (own : List Datum) → TypedOwn w.ps own → slice_get own 2 ≡ Some (Procedure g) → Reports w g × (h.low + 2 * (w.needs 0 g + (3 + length below)) ≤ h.high)
    room_for n least most reached below room g own typed is =
        let t = typed.erp in
        let same : Procedure t.0 ≡ Procedure g = some_is (sym t.2 ∙ is) in
        let one : t.0 ≡ g = procedure_is same in
        let r : Reports w g = all n least most reached g (subst (λ (f : Proc). IsCandidate w.ps (codes "PROC(INT)") f) one t.1) in
        (r, (let needs = r.room n least most reached in omega (arith, needs, room)))

    some_room : (n : ℕ) → 4 ≤ n → n ≤ 7 → w.reached (supplied n) ≡ true → (below : List ℕ) → h.low + 2 * (w.needs 0 (supplied n) + (1 + length below)) ≤ h.high → h.low + 2 * (4 + length below) ≤ h.high
    some_room n least most reached below room =
        let r : Reports w (supplied 10) = all n least most reached (supplied 10) (standard standard_rrgel) in
        let needs = r.room n least most reached in
        let one = lays.least 0 (supplied 10) in
        omega (arith, needs, one, room)

    room_of : (n x : ℕ) (u : Machine) (back kept : ℕ) (args : List Datum) (below : List ℕ) (cs : List Act) → args ≡ Word x ∷ [] → Called w h (supplied n) u back kept args below cs → h.low + 2 * (w.needs 0 (supplied n) + (1 + length below)) ≤ h.high
    room_of n x u back kept args below cs one called = subst (λ (z : List Datum). h.low + 2 * (w.needs 0 (supplied n) + (length z + length below)) ≤ h.high) one called.room

    wait_runs : w.reached (supplied 4) ≡ true → ProcRuns w h k (supplied 4)
    wait_runs reached u back kept args below c cs own called goes =
        let here = entry 4 20 (omega arith) (omega arith) refl in
        let g = one_number w.ps 4 args refl called.fits in
        let x : ℕ = g.0 in
        let room = room_of 4 x u back kept args below (c ∷ cs) g.1 called in
        let goes1 = goes_one 4 20 here u back kept args below c cs own called x g.1 goes in
        let most = room_for 4 (omega arith) (omega arith) reached below room in
        let some = some_room 4 (omega arith) (omega arith) reached below room in
        let gives = gives_nothing w.ps 4 wait in
        with_one 4 20 here u back kept args below c cs own called x g.1
        (asking w lays h sits asked_code k (supplied 4) back kept x below c cs gives goes1 ready most some 4 20 (Rules (svc.Wait x)) refl (omega arith) refl (λ o m. wait_comes x o m)
        (by_branch w lays h sits asked_code k (supplied 4) back kept x below c cs gives goes1 ready most some 26 11 (omega arith) (piece 10 1) refl) (piece 8 2) u (erl_in own) (Serve 4 ∷ Leave ∷ []) (Word x ∷ []) own called.r5 refl k (omega arith))

    signal_runs : w.reached (supplied 5) ≡ true → ProcRuns w h k (supplied 5)
    signal_runs reached u back kept args below c cs own called goes =
        let here = entry 5 28 (omega arith) (omega arith) refl in
        let g = one_number w.ps 5 args refl called.fits in
        let x : ℕ = g.0 in
        let room = room_of 5 x u back kept args below (c ∷ cs) g.1 called in
        let goes1 = goes_one 5 28 here u back kept args below c cs own called x g.1 goes in
        let most = room_for 5 (omega arith) (omega arith) reached below room in
        let some = some_room 5 (omega arith) (omega arith) reached below room in
        let gives = gives_nothing w.ps 5 signal in
        with_one 5 28 here u back kept args below c cs own called x g.1
        (asking w lays h sits asked_code k (supplied 5) back kept x below c cs gives goes1 ready most some 5 28 (Rules (svc.Signal x)) refl (omega arith) refl (λ o m. signal_comes x o m)
        (by_branch w lays h sits asked_code k (supplied 5) back kept x below c cs gives goes1 ready most some 34 7 (omega arith) (piece 13 1) refl) (piece 11 2) u (erl_in own) (Serve 5 ∷ Leave ∷ []) (Word x ∷ []) own called.r5 refl k (omega arith))

    secure_runs : w.reached (supplied 6) ≡ true → ProcRuns w h k (supplied 6)
    secure_runs reached u back kept args below c cs own called goes =
        let here = entry 6 36 (omega arith) (omega arith) refl in
        let g = one_number w.ps 6 args refl called.fits in
        let x : ℕ = g.0 in
        let room = room_of 6 x u back kept args below (c ∷ cs) g.1 called in
        let goes1 = goes_one 6 36 here u back kept args below c cs own called x g.1 goes in
        let most = room_for 6 (omega arith) (omega arith) reached below room in
        let some = some_room 6 (omega arith) (omega arith) reached below room in
        let gives = gives_nothing w.ps 6 secure in
        with_one 6 36 here u back kept args below c cs own called x g.1
        (asking w lays h sits asked_code k (supplied 6) back kept x below c cs gives goes1 ready most some 6 36 (Rules (svc.Secure x)) refl (omega arith) refl (λ o m. secure_comes x o m)
        (by_branch w lays h sits asked_code k (supplied 6) back kept x below c cs gives goes1 ready most some 42 3 (omega arith) (piece 16 1) refl) (piece 14 2) u (erl_in own) (Serve 6 ∷ Leave ∷ []) (Word x ∷ []) own called.r5 refl k (omega arith))

    release_runs : w.reached (supplied 7) ≡ true → ProcRuns w h k (supplied 7)
    release_runs reached u back kept args below c cs own called goes =
        let here = entry 7 44 (omega arith) (omega arith) refl in
        let g = one_number w.ps 7 args refl called.fits in
        let x : ℕ = g.0 in
        let room = room_of 7 x u back kept args below (c ∷ cs) g.1 called in
        let goes1 = goes_one 7 44 here u back kept args below c cs own called x g.1 goes in
        let most = room_for 7 (omega arith) (omega arith) reached below room in
        let some = some_room 7 (omega arith) (omega arith) reached below room in
        let gives = gives_nothing w.ps 7 release in
        with_one 7 44 here u back kept args below c cs own called x g.1
        (asking w lays h sits asked_code k (supplied 7) back kept x below c cs gives goes1 ready most some 7 44 (Rules (svc.Release x)) refl (omega arith) refl (λ o m. release_comes x o m)
        (at_once w lays h sits asked_code k (supplied 7) back kept x below c cs gives goes1 ready most some) (piece 17 2) u (erl_in own) (Serve 7 ∷ Leave ∷ []) (Word x ∷ []) own called.r5 refl k (omega arith))

    -- ---- all of them

    pub supplied_run : {n : ℕ} {m : Mode} → IsSupplied n m → w.reached (supplied n) ≡ true → ProcRuns w h k (supplied n)
    supplied_run rrin reached = rrin_runs
    supplied_run rrout reached = rrout_runs
    supplied_run delay reached = delay_runs
    supplied_run wait reached = wait_runs reached
    supplied_run signal reached = signal_runs reached
    supplied_run secure reached = secure_runs reached
    supplied_run release reached = release_runs reached
    supplied_run clock reached = clock_runs
    supplied_run taskno reached = taskno_runs
    supplied_run rrgel reached = rrgel_runs

  -- the routine of a subscript's error
  pub error_routine_runs : ErrorRuns w h k 1
  error_routine_runs = error_runs w lays h sits at_end (piece 32 2) (support.entries 11 (omega arith) (omega arith)) k
