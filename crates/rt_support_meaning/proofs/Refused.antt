-- The supplied procedures whose services may be refused: WAIT, SIGNAL, SECURE, RELEASE. Where one is refused, the procedure in ERP is called
-- with the number of the error.
use Rattle.std.proofs.Common.{eqb-true, ◌≡◌, ℕ, zero, suc, ◌+◌, ◌*◌, ◌<◌, ◌≤◌, true, false, ◌==◌, List, [], ◌∷◌, ◌++◌, length, map, refl, sym, ap, ◌∙◌, subst, arith, Some, None}
use Rattle.std.specs.Prelude.{slice_index, slice_get}
use Rattle.rt_words.specs.Word.{wrap_add, wrap_sub}
use Rattle.rt_tree_nodes.specs.declared.store.Proc.{Proc}
use Rattle.rt_tree_nodes.specs.declared.store.Datum.{Datum}
use Rattle.rt_tree_nodes.specs.declared.store.Datum.TheVariants.{Word, Reference, Procedure}
use Rattle.rt_tree.specs.Stored.{TypedOwn}
use Rattle.rt_work_state.specs.Stores.{Store, erp, erl_in, datum_in}
use Rattle.rt_work_state.specs.Items.{Item, Fetch, Report, Leave, Next, Calls}
use Rattle.rt_work_state.specs.declared.request.Request.{Request}
use Rattle.rt_work_state.specs.declared.request.Request.TheVariants.{Nothing}
use Rattle.rt_rules.specs.declared.service.Outcome as rules
use Rattle.rt_meaning.specs.Step.{Act, Task, Doing, on_values, entered, next_of, asked, task_step, request}
use Rattle.rt_meaning.specs.Step as meant
use Rattle.rt_icode_meaning.specs.Typed.{ResultFits}
use Rattle.pdp_code.specs.declared.instruction.Reg.TheVariants.{R1, R4, Sp, Pc}
use Rattle.pdp_code.specs.declared.instruction.Pointer.TheVariants.{PSp}
use Rattle.pdp_code.specs.declared.instruction.Operand.TheVariants.{Register, Increment, IncrementDeferred, Decrement, Index}
use Rattle.pdp_code.specs.declared.instruction.Size.TheVariants.{Word as AsWord}
use Rattle.pdp_code.specs.declared.instruction.Condition.TheVariants.{Equal}
use Rattle.pdp_code.specs.declared.instruction.DoubleOp.TheVariants.{Mov}
use Rattle.pdp_code.specs.declared.instruction.SingleOp.TheVariants.{Tst}
use Rattle.pdp_code.specs.declared.instruction.Instr.{Instr}
use Rattle.pdp_code.specs.declared.instruction.Instr.TheVariants.{Double, Single, Branch, Call, Return}
use Rattle.pdp_code.specs.Code.{words_of, IsCodable}
use Rattle.pdp_symbolic.specs.Machine.{Machine, regs, Stands}
use Rattle.pdp_symbolic.specs.Acts.{act, flagged, flagged_one}
use Rattle.pdp_symbolic.specs.Plans.{Access, Shows, Asked, done}
use Rattle.rt_templates.specs.Supported.{asked as asked_lines}
use Rattle.rt_follows.specs.Whole.{Whole, Home, meaning, word_of, OwnLies, Lays, Sits, own_at}
use Rattle.rt_follows.specs.Held.{layout, Holds, CodeAt, shown}
use Rattle.rt_follows.specs.Follows.{Follows, Agreed}
use Rattle.rt_follows.specs.Runs.{Tracks, GoesOn, Before}
use Rattle.rt_follows.proofs.Step.{SameShared, lies_same, stays, quietly, visibly}
use Rattle.rt_support_meaning.specs.Support.{marked, Reports}
use Rattle.rt_follows.proofs.Once.{one}
use Rattle.rt_support_meaning.proofs.Traps.{returns}

never : true ≡ false → ⊥
never e = absurd cc

module _ (w : Whole) (lays : Lays w) (h : Home) (sits : Sits w h) where
  few : (q : ℕ) → q ≤ 144 → q ≤ w.bound
  few q less = let b = lays.room in omega (arith, b, less)

  -- a visible step that uses no store, where the task's own data are typed
  module _ (i : Instr) (k q : ℕ) (u : Machine) (a : Act) (cs : List Act) (own : List Datum) (b : Act) (ds : List Act) where
    pub typed_shows : q ≤ w.bound → ((S : Store) (o : rules.Outcome) → (task_step (meaning w) (Doing a cs own) S o).task ≡ Doing b ds own) → ((S : Store) (o : rules.Outcome) → (task_step (meaning w) (Doing a cs own) S o).store ≡ S) → request (meaning w) (Doing a cs own) ≡ Nothing
        → IsCodable i → Stands (layout w h) u.pc (words_of i) → w.marks u.pc ≡ 1 → ((m : ℕ → ℕ) → Holds w h u own m → Asked (layout w h) (act i u) (λ e v. (e ≡ []) × (v.block ≡ u.block) × (TypedOwn w.ps own → Tracks w h k 0 v b ds own))) → Tracks w h (suc k) q u a cs own
    typed_shows few task store asks codable code mark asked_all =
        one w lays h sits i u a cs own k q codable code 1 (λ e v. (e ≡ []) × (v.block ≡ u.block) × (TypedOwn w.ps own → Tracks w h k 0 v b ds own)) mark few asked_all
        (λ S m0 m' o e v typed fits lies shows matches own_lies p.
        let same : SameShared w m0 m' = subst (λ (d : List Access). Shows (layout w h) m0 m' d) p.0 shows in
        let own_data : OwnLies w own v.block = subst (λ b. OwnLies w own b) (sym p.1) own_lies in
        let Q : Request → Task → Store → Type 0 = λ r t' S'. Agreed w h (done (layout w h) v m') o r t' S' (Follows w h k 0 (regs v) m' t') in
        subst (λ r. Q r (task_step (meaning w) (Doing a cs own) S o).task (task_step (meaning w) (Doing a cs own) S o).store) (sym asks)
        (subst (λ t. Q Nothing t (task_step (meaning w) (Doing a cs own) S o).store) (sym (task S o))
        (subst (λ R. Q Nothing (Doing b ds own) R) (sym (store S o))
        (record { fine = tt; asks = refl; goes_on = λ f. tt; world = refl; lies = lies_same w lays S m0 m' same lies; next = p.2 fits.1 m' (record { task = matches; own_data = own_data }) }))))

  -- ---- behind the service

  module _ (code : CodeAt w h 50 (map marked asked_lines)) (k : ℕ) (f : Proc) (back kept x : ℕ) (below : List ℕ) (c : Act) (cs : List Act) (gives : ResultFits w.ps f None) (goes : GoesOn w h k f back kept 1 below c cs) where
    -- the procedure's own activation
    abbrev pub me : Datum → List Item → List Datum → Act
    me erl todo vs = record { proc = f; todo = todo; values = vs; locals = []; kept = erl }

    -- before the test
    abbrev pub before : Machine → Machine
    before u = record u { pc = 50; stack = back ∷ x ∷ below }

    abbrev tested : Machine → Machine
    tested u = flagged_one (record (before u) { pc = 52 }) Tst u.r1

    -- ---- where it was not refused

    good : (u : Machine) (erl : Datum) (vs : List Datum) (own : List Datum) → u.pc ≡ 64 → u.stack ≡ back ∷ x ∷ below → u.r5 ≡ kept → (j q : ℕ) → j ≤ k → q ≤ w.bound → Tracks w h j q u (me erl (Leave ∷ []) vs) (c ∷ cs) own
    good u erl vs own pc stack r5 j q less room =
        returns w lays h sits k f back kept below c cs u (me erl (Leave ∷ []) vs) None (x ∷ []) own (subst (λ p. CodeAt w h p (shown (Return Pc) ∷ [])) (sym pc) code.2.2.2.2.2.2) refl stack r5 tt gives goes j q less room

    skips : (u : Machine) (erl : Datum) (own : List Datum) → u.r1 ≡ 0 → u.r5 ≡ kept → (j q : ℕ) → j ≤ k → q + 1 ≤ w.bound → Tracks w h j q (tested u) (me erl (Leave ∷ []) []) (c ∷ cs) own
    skips u erl own none r5 zero q less room = λ m s. stays w h q (tested u) (me erl (Leave ∷ []) []) (c ∷ cs) own m (omega (arith, room)) s
    skips u erl own none r5 (suc j) q less room =
        quietly w lays h sits (Branch Equal 5) (tested u) (me erl (Leave ∷ []) []) (c ∷ cs) own j q (omega arith) code.2.0 code.2.1 room
        (λ m s. (
          (λ e. (refl, refl, good (record (tested u) { pc = 64 }) erl [] own refl refl r5 j (suc q) (omega (arith, less)) (omega (arith, room)))),
          (λ e. absurd (never (sym (ap (λ i. i == 0) none) ∙ e))),
        ))

    pub unrefused : (u : Machine) (erl : Datum) (own : List Datum) → u.r1 ≡ 0 → u.r5 ≡ kept → (j q : ℕ) → j ≤ k → q + 2 ≤ w.bound → Tracks w h j q (before u) (me erl (Leave ∷ []) []) (c ∷ cs) own
    unrefused u erl own none r5 zero q less room = λ m s. stays w h q (before u) (me erl (Leave ∷ []) []) (c ∷ cs) own m (omega (arith, room)) s
    unrefused u erl own none r5 (suc j) q less room =
        quietly w lays h sits (Single Tst AsWord (Register R1)) (before u) (me erl (Leave ∷ []) []) (c ∷ cs) own j q tt code.0 code.1 (omega (arith, room)) (λ m s. (refl, refl, skips u erl own none r5 j (suc q) (omega (arith, less)) (omega (arith, room))))

    -- ---- where it was refused

    module _ (ready : Before w h k) (all : (g : Proc) → (own : List Datum) → TypedOwn w.ps own → slice_get own 2 ≡ Some (Procedure g) → Reports w g × (h.low + 2 * (w.needs 0 g + (3 + length below)) ≤ h.high)) (some : h.low + 2 * (4 + length below) ≤ h.high)
        (n : ℕ) (positive : 1 ≤ n) (small : n < 65536) (u : Machine) (erl : Datum) (own : List Datum) (number : u.r1 ≡ n) (r5 : u.r5 ≡ kept) where
      abbrev fetching : Act
      fetching = me erl (Fetch ∷ Report n ∷ Leave ∷ []) (Reference erp ∷ [])

      abbrev reporting : Act
      reporting = me erl (Report n ∷ Leave ∷ []) (own_at own 2 ∷ [])

      abbrev leaving : List Datum → Act
      leaving vs = me erl (Leave ∷ []) vs

      abbrev branched : Machine
      branched = record (tested u) { pc = 54 }

      -- the number is pushed
      abbrev told : Machine
      told = flagged (record branched { pc = 56; sp = wrap_sub u.sp 2; stack = u.r1 ∷ back ∷ x ∷ below }) u.r1 false branched.c

      -- and ERP
      abbrev at_call : Machine
      at_call = flagged (record told { pc = 60; sp = wrap_sub told.sp 2; stack = slice_index u.block 5 ∷ u.r1 ∷ back ∷ x ∷ below }) (slice_index u.block 5) false told.c

      -- the number is taken off again
      dropped : (y : Machine) (t : ℕ) (vs own2 : List Datum) → y.r5 ≡ kept → (j : ℕ) → j ≤ k → Tracks w h j 0 (record y { pc = 62; stack = t ∷ back ∷ x ∷ below }) (leaving vs) (c ∷ cs) own2
      dropped y t vs own2 r5_is zero less = λ m s. stays w h 0 (record y { pc = 62; stack = t ∷ back ∷ x ∷ below }) (leaving vs) (c ∷ cs) own2 m (omega arith) s
      dropped y t vs own2 r5_is (suc j) less =
          quietly w lays h sits (Single Tst AsWord (Increment PSp)) (record y { pc = 62; stack = t ∷ back ∷ x ∷ below }) (leaving vs) (c ∷ cs) own2 j 0 tt code.2.2.2.2.2.0 code.2.2.2.2.2.1 (few 1 (omega arith))
          (λ m s. (refl, refl, good (flagged_one (record y { pc = 64; sp = wrap_add y.sp 2; stack = back ∷ x ∷ below }) Tst t) erl vs own2 refl refl r5_is j 1 (omega (arith, less)) (few 1 (omega arith))))

      came_back : (xs : List ℕ) (y : Machine) (vs own2 : List Datum) → length xs ≡ 1 → y.pc ≡ 62 → y.r5 ≡ kept → y.stack ≡ xs ++ (back ∷ x ∷ below) → (j : ℕ) → j ≤ k → Tracks w h j 0 y (leaving vs) (c ∷ cs) own2
      came_back [] y vs own2 one_word pc r5_is stack j less = absurd cc
      came_back (t ∷ []) y vs own2 one_word pc r5_is stack j less =
          subst (λ p. Tracks w h j 0 (record y { pc = p }) (leaving vs) (c ∷ cs) own2) (sym pc) (subst (λ (z : List ℕ). Tracks w h j 0 (record y { pc = 62; stack = z }) (leaving vs) (c ∷ cs) own2) (sym stack) (dropped y t vs own2 r5_is j less))
      came_back (t ∷ t2 ∷ ts) y vs own2 one_word pc r5_is stack j less = absurd (omega (arith, one_word))

      abbrev called : ℕ → Machine
      called to = record at_call { pc = to; sp = wrap_sub (wrap_add at_call.sp 2) 2; stack = 62 ∷ u.r1 ∷ back ∷ x ∷ below }

      calls : (g : Proc) → Reports w g → h.low + 2 * (w.needs 0 g + (3 + length below)) ≤ h.high → own_at own 2 ≡ Procedure g → slice_index u.block 5 ≡ w.entry g → (j : ℕ) → j < k → Tracks w h j 0 at_call reporting (c ∷ cs) own
      calls g r room is at zero less = λ m s. stays w h 0 at_call reporting (c ∷ cs) own m (omega arith) s
      calls g r room is at (suc j) less =
          let next_is : next_of (meaning w) reporting ≡ Calls g (Word n ∷ []) (Leave ∷ []) [] [] = ap (λ (d : Datum). next_of (meaning w) (me erl (Report n ∷ Leave ∷ []) (d ∷ []))) is in
          visibly w lays h sits (Call Pc (IncrementDeferred PSp)) at_call reporting (c ∷ cs) own j 0 tt code.2.2.2.2.0 (entered ((meaning w).code g) g (Word n ∷ []) (erl_in own)) (leaving [] ∷ c ∷ cs) code.2.2.2.2.1 (omega arith)
          (λ S o. ap (λ (z : Next). (meant.act (meaning w) z reporting (c ∷ cs) own S o).task) next_is) (λ S o. ap (λ (z : Next). (meant.act (meaning w) z reporting (c ∷ cs) own S o).store) next_is) (ap asked next_is)
          (λ m s. (
            omega (arith, some),
            (
              refl,
              refl,
              (ready.procs j (omega (arith, less)) g r.is r.reached (called (slice_index u.block 5)) 62 kept (Word n ∷ []) (back ∷ x ∷ below) (leaving []) (c ∷ cs) own
                  (record { pc = at; r5 = r5; stack = ap (λ i. 62 ∷ i ∷ back ∷ x ∷ below) number; fits = r.takes n small; room = omega (arith, room) })
                  (record { returns = λ i fewer v fits own2 y xs count b. came_back xs y (on_values v []) own2 count b.pc b.r5 b.stack i (omega (arith, fewer, less)) })),
            ),
          ))

      -- ERP is read
      fetches : (j q : ℕ) → j ≤ k → q ≤ w.bound → Tracks w h j q told fetching (c ∷ cs) own
      fetches zero q less room = λ m s. stays w h q told fetching (c ∷ cs) own m room s
      fetches (suc j) q less room =
          typed_shows (Double Mov AsWord (Index R4 10) (Decrement Sp)) j q told fetching (c ∷ cs) own reporting (c ∷ cs) room (λ S o. refl) (λ S o. refl) refl tt code.2.2.2.0 code.2.2.2.1
          (λ m s. (
            5,
            refl,
            omega arith,
            (
              omega (arith, some),
              (
                refl,
                refl,
                (λ typed.
                    let g = typed.erp in
                    let is : own_at own 2 ≡ Procedure g.0 = ap datum_in g.2 in
                    let r = all g.0 own typed g.2 in
                    calls g.0 r.0 r.1 is (s.own_data.items 2 (omega arith) (omega arith) ∙ ap (word_of w) is) j (omega (arith, less))),
              ),
            ),
          ))

      pushes : (j q : ℕ) → j ≤ k → q + 1 ≤ w.bound → Tracks w h j q branched fetching (c ∷ cs) own
      pushes zero q less room = λ m s. stays w h q branched fetching (c ∷ cs) own m (omega (arith, room)) s
      pushes (suc j) q less room =
          quietly w lays h sits (Double Mov AsWord (Register R1) (Decrement Sp)) branched fetching (c ∷ cs) own j q tt code.2.2.0 code.2.2.1 room (λ m s. (omega (arith, some), (refl, refl, fetches j (suc q) (omega (arith, less)) (omega (arith, room)))))

      branches : (j q : ℕ) → j ≤ k → q + 2 ≤ w.bound → Tracks w h j q (tested u) fetching (c ∷ cs) own
      branches zero q less room = λ m s. stays w h q (tested u) fetching (c ∷ cs) own m (omega (arith, room)) s
      branches (suc j) q less room =
          quietly w lays h sits (Branch Equal 5) (tested u) fetching (c ∷ cs) own j q (omega arith) code.2.0 code.2.1 (omega (arith, room))
          (λ m s. ((λ e. absurd (let z : u.r1 ≡ 0 = eqb-true u.r1 0 e in omega (arith, z, number, positive))), (λ e. (refl, refl, pushes j (suc q) (omega (arith, less)) (omega (arith, room))))))

      pub refused : (j q : ℕ) → j ≤ k → q + 3 ≤ w.bound → Tracks w h j q (before u) fetching (c ∷ cs) own
      refused zero q less room = λ m s. stays w h q (before u) fetching (c ∷ cs) own m (omega (arith, room)) s
      refused (suc j) q less room =
          quietly w lays h sits (Single Tst AsWord (Register R1)) (before u) fetching (c ∷ cs) own j q tt code.0 code.1 (omega (arith, room)) (λ m s. (refl, refl, branches j (suc q) (omega (arith, less)) (omega (arith, room))))
