-- The instructions that call.
use Rattle.std.proofs.Common.{◌≡◌, ℕ, zero, suc, ◌+◌, ◌<◌, ◌≤◌, ◌==◌, Bool, true, false, if◌then◌else◌, List, [], ◌∷◌, ◌++◌, length, refl, sym, ap, ◌∙◌, subst, arith, Option, le_refl, eqb-true}
use Rattle.std.specs.Prelude.{slice_index, nat_lt}
use Rattle.std.proofs.lemmas.Bool.{ltb-false}
use Rattle.rt_words.specs.Word.{wrap_add, wrap_sub}
use Rattle.rt_words.specs.Operators.{wrap_mul}
use Rattle.rt_tree_nodes.specs.declared.store.Proc.{Proc}
use Rattle.rt_tree_nodes.specs.declared.store.Datum.{Datum}
use Rattle.rt_tree_nodes.specs.declared.store.Datum.TheVariants.{Word, Procedure, Reference, Row, Truth, Label}
use Rattle.rt_work_state.specs.Items.{Item, Next}
use Rattle.rt_work_state.specs.Stores.{erl_in}
use Rattle.rt_work.specs.Task.{next, taken, left}
use Rattle.rt_meaning.specs.Step.{leapt, with_todo, on_values, entered, asked}
use Rattle.rt_meaning.specs.Step as meant
use Rattle.rt_object.specs.declared.object.Relocated.TheVariants.{Brick}
use Rattle.rt_icode.specs.declared.ins.Ins.{Ins}
use Rattle.rt_icode.specs.declared.ins.Ins.TheVariants as ins
use Rattle.rt_icode.specs.Weights.{words_of as weight_of, unmarked_of, kept_words}
use Rattle.rt_icode_meaning.specs.Move.{invoke, invoke_under, invoke_by}
use Rattle.rt_icode_meaning.specs.Typed.{ResultFits}
use Rattle.rt_icode_meaning.specs.Lowered.{Agrees, is_there, kept_of}
use Rattle.rt_templates.specs.Lines.{mov, on, top, quiet as quiet_line}
use Rattle.rt_templates.specs.Calls.{drop_words, kept as kept_lines}
use Rattle.pdp_code.specs.declared.instruction.Reg.TheVariants.{R0, Sp, Pc}
use Rattle.pdp_code.specs.declared.instruction.Pointer.TheVariants.{PSp}
use Rattle.pdp_code.specs.declared.instruction.Operand.TheVariants.{Register, Deferred, IncrementDeferred, Index, Absolute}
use Rattle.pdp_code.specs.declared.instruction.SingleOp.TheVariants.{Clr}
use Rattle.pdp_code.specs.declared.instruction.Instr.TheVariants.{Call}
use Rattle.pdp_symbolic.specs.Machine.{Machine}
use Rattle.pdp_symbolic.specs.Acts.{flagged}
use Rattle.rt_follows.specs.Whole.{meaning, word_of, words_of, pushed}
use Rattle.rt_follows.specs.Runs.{Tracks, Before, Back}
use Rattle.rt_follows.proofs.Step.{stays, quietly}
use Rattle.rt_template_meaning.specs.Lines.{LinesAt}
use Rattle.rt_template_meaning.specs.Picture.{proc_of, env_of, place, Follows}
use Rattle.rt_template_meaning.proofs.Frames.{stack_long}
use Rattle.rt_template_meaning.proofs.Steps.{shows}
use Rattle.rt_template_meaning.proofs.Opening.{Running, Here, Goes, before, doing, few, lines, room, further}
use Rattle.rt_call_meaning.proofs.Words.{joined_long}
use Rattle.rt_template_meaning.proofs.All.{OpenedTo}
use Rattle.rt_call_meaning.proofs.Calling.{is_procedure, pushed_so, taken_long, left_long, under_at, CallsNext, calls_next, keeps, drops}

module _ (r : Running) (most : ℕ) (ready : Before r.w r.h most) where
  -- an address of code as a relocated word
  entry_word : (g : Proc) (a : ℕ) → a ≡ r.w.entry g → wrap_add a 0 ≡ r.w.entry g
  entry_word g a e =
      let less = r.lays.entries g in
      let up = r.lays.order in
      let high = r.lays.top in
      omega (arith, e, less, up, high)

  -- what is called runs, where the caller goes on after it
  into : {i : Ins} {n k pc : ℕ} {ks : List Datum} {u : Machine} {q : ℕ} {frame : List ℕ} → Here r i n k pc ks u q frame → n ≤ most → (g : Proc) (args : List Datum) (un : ℕ) (gives : Bool) (us : List Datum) (todo : List Item) (vs ls own : List Datum) → (x : CallsNext r k pc g args un gives us ks (next (env_of r.w r.b) todo vs ls))
      → (back : ℕ) (under : List ℕ) → length under ≡ un + length frame
      → ((j : ℕ) (v : Option Datum) (own2 : List Datum) (y : Machine) (xs : List ℕ) → j < n → ResultFits r.w.ps g v → length xs ≡ length args → Back r.w y back u.r5 v (xs ++ under) → Goes r j 0 y x.todo (on_values v x.vs) x.ls own2)
      → (y : Machine) → y.pc ≡ r.w.entry g → y.r5 ≡ u.r5 → y.stack ≡ back ∷ pushed r.w args under → (j : ℕ) → j < n → Tracks r.w r.h j 0 y (entered ((meaning r.w).code g) g args (erl_in own)) (with_todo (doing r todo vs ls) x.todo x.vs x.ls ∷ r.cs) own
  into {u = u} {frame = frame} s least g args un gives us todo vs ls own x back under long after y pc r5 stack j less =
      ready.procs j (omega (arith, less, least)) g (is_procedure r.w.ps g args x.fits) x.reached y back u.r5 args under (with_todo (doing r todo vs ls) x.todo x.vs x.ls) r.cs own
      (record {
        pc = pc;
        r5 = r5;
        stack = stack;
        fits = x.fits;
        room = (let a = x.room in let b = r.room in let l = s.is.long in omega (arith, a, b, l, long));
      })
      (record { returns = λ i fewer v f own2 z xs count b. after i v own2 z xs (omega (arith, fewer, less)) f count b })

  -- a task that came back, with its pieces written out
  came : (j : ℕ) (y : Machine) (pc : ℕ) (stack : List ℕ) (todo : List Item) (vs ls own : List Datum) → y.pc ≡ pc → y.stack ≡ stack → Goes r j 0 (record y { pc = pc; stack = stack }) todo vs ls own → Goes r j 0 y todo vs ls own
  came j y pc stack todo vs ls own e f t =
      subst (λ p. Goes r j 0 (record y { pc = p }) todo vs ls own) (sym e) (subst (λ (z : List ℕ). Goes r j 0 (record y { pc = pc; stack = z }) todo vs ls own) (sym f) t)

  -- ---- a call by name

  module _ (b m : ℕ) (gives : Bool) where
    abbrev i : Ins
    i = ins.Invoke b m gives

    -- behind the call, by whether there are arguments
    behind : {n k pc : ℕ} {ks : List Datum} {u : Machine} {q : ℕ} {frame : List ℕ} → Here r i n k pc ks u q frame → (us : List Datum) (todo : List Item) (vs ls own : List Datum) (z : Bool) → (m == 0) ≡ z → LinesAt r.w r.h r.at (wrap_add (wrap_add (place r.w r.b pc) 2) 2) ((if z then [] else drop_words m) ++ kept_lines gives)
        → (v : Option Datum) → (gives ≡ true → is_there v ≡ true) → Follows r.w r.b k (pc + 1) (on_values (kept_of gives v) us) ks todo vs ls → (y : Machine) (xs : List ℕ) → length xs ≡ m → Back r.w y (wrap_add (wrap_add (place r.w r.b pc) 2) 2) u.r5 v (xs ++ (words_of r.w us ++ frame)) → (j : ℕ) → j < n → Goes r j 0 y todo vs ls own
    behind {n} {k} {pc} {ks} {u} {q} {frame} s us todo vs ls own true e code v wanted follows y [] count back j less =
        let weight : weight_of i ≡ kept_words gives + 2 = ap (λ z. kept_words gives + (if z then 2 else 4)) e in
        let made : unmarked_of i ≡ kept_words gives + 0 = ap (λ z. kept_words gives + (if z then 0 else 1)) e in
        let at = wrap_add (wrap_add (place r.w r.b pc) 2) 2 in
        came j y at (words_of r.w us ++ frame) todo vs ls own back.pc back.stack
        (keeps s (kept_words gives + 2) weight us todo vs ls own gives v wanted at code (omega arith) follows y back.answer back.r5 0 (omega (arith, made)) (omega arith) j less)
    behind {n} {k} {pc} {ks} {u} {q} {frame} s us todo vs ls own true e code v wanted follows y (w ∷ xs) count back j less = absurd (let z : m ≡ 0 = eqb-true m 0 e in omega (arith, z, count))
    behind {n} {k} {pc} {ks} {u} {q} {frame} s us todo vs ls own false e code v wanted follows y xs count back j less =
        let weight : weight_of i ≡ kept_words gives + 4 = ap (λ z. kept_words gives + (if z then 2 else 4)) e in
        let made : unmarked_of i ≡ kept_words gives + 1 = ap (λ z. kept_words gives + (if z then 0 else 1)) e in
        let at = wrap_add (wrap_add (place r.w r.b pc) 2) 2 in
        came j y at (xs ++ (words_of r.w us ++ frame)) todo vs ls own back.pc back.stack
        (drops s (kept_words gives + 4) weight us todo vs ls own m xs count gives v wanted at code (omega arith) follows y back.answer back.r5 0 (omega (arith, made)) j less)

    found : {n k pc : ℕ} {ks : List Datum} {u : Machine} {q : ℕ} {frame : List ℕ} (us : List Datum) → Here r i n k pc ks u q frame → n ≤ most → (todo : List Item) (vs ls own : List Datum) → (fewer : nat_lt (length us) m ≡ false) → CallsNext r k pc ((env_of r.w r.b).leads b) (taken m [] us) (length (left m us)) gives (left m us) ks (next (env_of r.w r.b) todo vs ls)
        → Goes r n q (before r pc us u frame) todo vs ls own
    found {n} {k} {pc} {ks} {u} {q} {frame} us s least todo vs ls own fewer x =
        let cd = lines s in
        let g : Proc = (env_of r.w r.b).leads b in
        let at = place r.w r.b pc in
        let addr = wrap_add (r.at (Brick b)) 0 in
        let enough : m ≤ length us = ltb-false (length us) m fewer in
        let count : length (taken m [] us) ≡ m + 0 = taken_long m [] us enough in
        let rest = left_long m us enough in
        let long = stack_long r.w (left m us) frame in
        let one = r.lays.least 0 g in
        let y : Machine = record (before r pc us u frame) { sp = wrap_sub u.sp 2; pc = addr; stack = wrap_add (wrap_add at 2) 2 ∷ (words_of r.w us ++ frame) } in
        shows r.w r.lays r.h r.sits (Call Pc (Absolute addr)) n q (before r pc us u frame) (doing r todo vs ls) r.cs own (entered ((meaning r.w).code g) g (taken m [] us) (erl_in own)) (with_todo (doing r todo vs ls) x.todo x.vs x.ls ∷ r.cs) (let f = few s in omega (arith, f))
        (λ S o. ap (λ (z : Next). (meant.act (meaning r.w) z (doing r todo vs ls) r.cs own S o).task) x.is) (λ S o. ap (λ (z : Next). (meant.act (meaning r.w) z (doing r todo vs ls) r.cs own S o).store) x.is) (ap asked x.is) tt cd.0 cd.1
        (λ mm h. (
          room s us (let a = x.room in omega (arith, a, count, rest, one)),
          (
            refl,
            refl,
            into s least g (taken m [] us) (length (left m us)) gives (left m us) todo vs ls own x (wrap_add (wrap_add at 2) 2) (words_of r.w (left m us) ++ frame) long
                (λ j v own2 y2 xs less fits size back. (let f = x.on v fits in behind s (left m us) x.todo (on_values v x.vs) x.ls own2 (m == 0) refl cd.2 v f.0 f.2 y2 xs (omega (arith, size, count)) back j less))
                y (entry_word g (r.at (Brick b)) (r.stands.invoked pc b m gives s.here)) refl (ap (λ z. wrap_add (wrap_add at 2) 2 ∷ z) (pushed_so r.w m [] us frame enough)),
          ),
        )) n (le_refl n)

    pub invokes : OpenedTo most r i
    invokes n k pc us ks todo vs ls own u q frame least s now = by (nat_lt (length us) m) refl now.5
      where
        by : (t : Bool) → nat_lt (length us) m ≡ t → Agrees r.w.ps r.b.parts (env_of r.w r.b) (proc_of r.b) (λ l. leapt ((meaning r.w).code (proc_of r.b)) l) (r.w.needs 0) r.w.reached r.b.size pc (invoke t ((env_of r.w r.b).leads b) m gives pc us ks) (next (env_of r.w r.b) todo vs ls) todo vs ls (Follows r.w r.b k)
            → Goes r n q (before r pc us u frame) todo vs ls own
        by true e a = absurd a
        by false e a = found us s least todo vs ls own e (calls_next r k pc ((env_of r.w r.b).leads b) (taken m [] us) (length (left m us)) gives (left m us) ks (next (env_of r.w r.b) todo vs ls) todo vs ls a)

  -- ---- a report of an error

  pub reports : OpenedTo most r ins.Report
  reports n k pc (Procedure g ∷ d ∷ us) ks todo vs ls own u q frame least s now =
      let cd = lines s in
      let at = place r.w r.b pc in
      let x = calls_next r k pc g (d ∷ []) (length us) false (Word 0 ∷ us) ks (next (env_of r.w r.b) todo vs ls) todo vs ls now.5 in
      let y : Machine = record (before r pc (Procedure g ∷ d ∷ us) u frame) { sp = wrap_sub (wrap_add u.sp 2) 2; pc = r.w.entry g; stack = wrap_add at 2 ∷ word_of r.w d ∷ (words_of r.w us ++ frame) } in
      shows r.w r.lays r.h r.sits (Call Pc (IncrementDeferred PSp)) n q (before r pc (Procedure g ∷ d ∷ us) u frame) (doing r todo vs ls) r.cs own (entered ((meaning r.w).code g) g (d ∷ []) (erl_in own)) (with_todo (doing r todo vs ls) x.todo x.vs x.ls ∷ r.cs) (let f = few s in omega (arith, f))
      (λ S o. ap (λ (z : Next). (meant.act (meaning r.w) z (doing r todo vs ls) r.cs own S o).task) x.is) (λ S o. ap (λ (z : Next). (meant.act (meaning r.w) z (doing r todo vs ls) r.cs own S o).store) x.is) (ap asked x.is) tt cd.0 cd.1
      (λ mm h. (
        room s (d ∷ us) (let l = now.0 in omega (arith, l)),
        (
          refl,
          refl,
          into s least g (d ∷ []) (length us) false (Word 0 ∷ us) todo vs ls own x (wrap_add at 2) (words_of r.w us ++ frame) (stack_long r.w us frame)
              (λ j v own2 y2 xs less fits size back. (let f = x.on v fits in cleared s us x.todo x.vs x.ls own2 cd.2 v f.2 y2 xs size back j less)) y refl refl refl,
        ),
      )) n (le_refl n)
    where
      cleared : {n k pc : ℕ} {ks : List Datum} {u : Machine} {q : ℕ} {frame : List ℕ} → Here r ins.Report n k pc ks u q frame → (us : List Datum) (todo : List Item) (vs ls own : List Datum) → LinesAt r.w r.h r.at (wrap_add (place r.w r.b pc) 2) (quiet_line (on Clr top) ∷ [])
          → (v : Option Datum) → Follows r.w r.b k (pc + 1) (Word 0 ∷ us) ks todo (on_values v vs) ls → (y : Machine) (xs : List ℕ) → length xs ≡ 1 → Back r.w y (wrap_add (place r.w r.b pc) 2) u.r5 v (xs ++ (words_of r.w us ++ frame)) → (j : ℕ) → j < n → Goes r j 0 y todo (on_values v vs) ls own
      cleared s us todo vs ls own code v follows y [] count back j less = absurd (omega (arith, count))
      cleared s us todo vs ls own code v follows y (t ∷ t2 ∷ ts) count back j less = absurd (omega (arith, count))
      cleared {n = lim} {pc = pc} {u = u} {frame = frame} s us todo vs ls own code v follows y (t ∷ []) count back j less =
          let at = wrap_add (place r.w r.b pc) 2 in came j y at (t ∷ (words_of r.w us ++ frame)) todo (on_values v vs) ls own back.pc back.stack (clears j less)
        where
          clears : (j : ℕ) → j < lim → Goes r j 0 (record y { pc = wrap_add (place r.w r.b pc) 2; stack = t ∷ (words_of r.w us ++ frame) }) todo (on_values v vs) ls own
          clears zero less = λ m x. stays r.w r.h 0 (record y { pc = wrap_add (place r.w r.b pc) 2; stack = t ∷ (words_of r.w us ++ frame) }) (doing r todo (on_values v vs) ls) r.cs own m (omega arith) x
          clears (suc j) less =
              quietly r.w r.lays r.h r.sits (on Clr top) (record y { pc = wrap_add (place r.w r.b pc) 2; stack = t ∷ (words_of r.w us ++ frame) }) (doing r todo (on_values v vs) ls) r.cs own j 0 tt code.0 code.1 (let f = few s in omega (arith, f))
              (λ m x. (refl, refl, further s (Word 0 ∷ us) 2 todo (on_values v vs) ls refl follows (omega arith) back.r5 refl (omega arith) j (omega (arith, less))))
  reports n k pc us ks todo vs ls own u q frame least s now = absurd now.5

  -- ---- a call of a value

  module _ (m : ℕ) (gives : Bool) where
    abbrev by : Ins
    by = ins.InvokeBy m gives

    procedure_words : (g : Proc) (us vs : List Datum) (frame xs : List ℕ) → xs ++ (r.w.entry g ∷ (words_of r.w vs ++ frame)) ≡ (xs ++ r.w.entry g ∷ []) ++ (words_of r.w vs ++ frame)
    procedure_words g us vs frame [] = refl
    procedure_words g us vs frame (x ∷ xs) = ap (λ z. x ∷ z) (procedure_words g us vs frame xs)

    valued : {n k pc : ℕ} {ks : List Datum} {u : Machine} {q : ℕ} {frame : List ℕ} (g : Proc) (us vs2 : List Datum) → Here r by n k pc ks u q frame → n ≤ most → (todo : List Item) (vs ls own : List Datum) → m ≤ length us → left m us ≡ Procedure g ∷ vs2 → CallsNext r k pc g (taken m [] us) (suc (length vs2)) gives vs2 ks (next (env_of r.w r.b) todo vs ls)
        → length us ≤ r.b.size → Goes r n q (before r pc us u frame) todo vs ls own
    valued {n} {k} {pc} {ks} {u} {q} {frame} g us vs2 s least todo vs ls own enough is x fitting =
        let cd = lines s in
        let at = place r.w r.b pc in
        let count : length (taken m [] us) ≡ m + 0 = taken_long m [] us enough in
        let rest = left_long m us enough in
        let rest_is : length (left m us) ≡ suc (length vs2) = ap length is in
        let size_us = stack_long r.w us frame in
        let size_vs = stack_long r.w vs2 frame in
        let one = r.lays.least 0 g in
        let addr = r.w.entry g in
        let value : slice_index (words_of r.w us ++ frame) m ≡ addr = under_at r.w m us vs2 (Procedure g) frame enough is in
        let pushed_is : words_of r.w us ++ frame ≡ pushed r.w (taken m [] us) (addr ∷ (words_of r.w vs2 ++ frame)) = pushed_so r.w m [] us frame enough ∙ ap (λ (z : List Datum). pushed r.w (taken m [] us) (words_of r.w z ++ frame)) is in
        let back = wrap_add (wrap_add (wrap_add at 2) 2) 2 in
        let loads : ℕ → Machine = λ e. flagged (record u { pc = wrap_add (wrap_add at 2) 2; r0 = e; stack = words_of r.w us ++ frame }) e false u.c in
        let y : Machine = record (loads addr) { sp = wrap_sub u.sp 2; pc = addr; stack = back ∷ (words_of r.w us ++ frame) } in
        let shown_call : (j : ℕ) → j < n → Goes r j (suc q) (loads addr) todo vs ls own = λ j less.
        shows r.w r.lays r.h r.sits (Call Pc (Deferred R0)) j (suc q) (loads addr) (doing r todo vs ls) r.cs own (entered ((meaning r.w).code g) g (taken m [] us) (erl_in own)) (with_todo (doing r todo vs ls) x.todo x.vs x.ls ∷ r.cs) (let f = few s in omega (arith, f))
        (λ S o. ap (λ (z : Next). (meant.act (meaning r.w) z (doing r todo vs ls) r.cs own S o).task) x.is) (λ S o. ap (λ (z : Next). (meant.act (meaning r.w) z (doing r todo vs ls) r.cs own S o).store) x.is) (ap asked x.is) tt cd.2.0 cd.2.1
        (λ mm h. (
          room s us (let a = x.room in omega (arith, a, count, rest, rest_is, one)),
          (
            refl,
            refl,
            λ i fewer. into s least g (taken m [] us) (suc (length vs2)) gives vs2 todo vs ls own x back (addr ∷ (words_of r.w vs2 ++ frame)) (omega (arith, size_vs))
                (λ j2 v own2 y2 xs less2 fits size b. (let f = x.on v fits in
                came j2 y2 back ((xs ++ addr ∷ []) ++ (words_of r.w vs2 ++ frame)) x.todo (on_values v x.vs) x.ls own2 b.pc (b.stack ∙ procedure_words g us vs2 frame xs)
                (drops s (5 + kept_words gives) refl vs2 x.todo (on_values v x.vs) x.ls own2 (wrap_add m 1) (xs ++ addr ∷ []) (let l = joined_long xs (addr ∷ []) in let hh = s.is.long in let rr = r.room in let tt2 = r.sits.top in omega (arith, l, size, count, rest, fitting, rr, tt2)) gives v f.0 back cd.2.2 (omega arith) f.2 y2 b.answer b.r5 0 (omega arith) j2 less2)))
                y refl refl (ap (λ z. back ∷ z) pushed_is) i (omega (arith, fewer, less)),
          ),
        )) j (le_refl j) in
        loading n (λ j less. shown_call j less) (le_refl n)
      where
        loading : (j : ℕ) → ((i : ℕ) → i < n → Goes r i (suc q) (flagged (record u { pc = wrap_add (wrap_add (place r.w r.b pc) 2) 2; r0 = r.w.entry g; stack = words_of r.w us ++ frame }) (r.w.entry g) false u.c) todo vs ls own) → j ≤ n → Goes r j q (before r pc us u frame) todo vs ls own
        loading zero t less = λ mm h. stays r.w r.h q (before r pc us u frame) (doing r todo vs ls) r.cs own mm (let f = few s in omega (arith, f)) h
        loading (suc j) t less =
            let value : slice_index (words_of r.w us ++ frame) m ≡ r.w.entry g = under_at r.w m us vs2 (Procedure g) frame enough is in
            let rest = left_long m us enough in
            let rest_is : length (left m us) ≡ suc (length vs2) = ap length is in
            let size_us = stack_long r.w us frame in
            quietly r.w r.lays r.h r.sits (mov (Index Sp (wrap_mul 2 m)) (Register R0)) (before r pc us u frame) (doing r todo vs ls) r.cs own j q tt (lines s).0 (lines s).1 (let f = few s in omega (arith, f))
            (λ mm h. (
              m,
              (let full = h.task.full in let high = r.sits.top in omega (arith, full, high, size_us, rest, rest_is)),
              omega (arith, size_us, rest, rest_is),
              (refl, refl, subst (λ e. Goes r j (suc q) (flagged (record u { pc = wrap_add (wrap_add (place r.w r.b pc) 2) 2; r0 = e; stack = words_of r.w us ++ frame }) e false u.c) todo vs ls own) (sym value) (t j (omega (arith, less)))),
            ))

    pub invokes_by : OpenedTo most r by
    invokes_by n k pc us ks todo vs ls own u q frame least s now = first (nat_lt (length us) m) refl now.5
      where
        second : (us2 : List Datum) → left m us ≡ us2 → nat_lt (length us) m ≡ false → Agrees r.w.ps r.b.parts (env_of r.w r.b) (proc_of r.b) (λ l. leapt ((meaning r.w).code (proc_of r.b)) l) (r.w.needs 0) r.w.reached r.b.size pc (invoke_under us2 gives pc (taken m [] us) ks) (next (env_of r.w r.b) todo vs ls) todo vs ls (Follows r.w r.b k) → Goes r n q (before r pc us u frame) todo vs ls own
        second [] is e a = absurd a
        second (Word x ∷ us2) is e a = absurd a
        second (Reference l ∷ us2) is e a = absurd a
        second (Row l x ∷ us2) is e a = absurd a
        second (Truth x ∷ us2) is e a = absurd a
        second (Label l x ∷ us2) is e a = absurd a
        second (Procedure g ∷ us2) is e a =
            valued g us us2 s least todo vs ls own (ltb-false (length us) m e) is (calls_next r k pc g (taken m [] us) (suc (length us2)) gives us2 ks (next (env_of r.w r.b) todo vs ls) todo vs ls a) now.0

        first : (t : Bool) → nat_lt (length us) m ≡ t → Agrees r.w.ps r.b.parts (env_of r.w r.b) (proc_of r.b) (λ l. leapt ((meaning r.w).code (proc_of r.b)) l) (r.w.needs 0) r.w.reached r.b.size pc (invoke_by t m gives pc us ks) (next (env_of r.w r.b) todo vs ls) todo vs ls (Follows r.w r.b k)
            → Goes r n q (before r pc us u frame) todo vs ls own
        first true e a = absurd a
        first false e a = second (left m us) refl e a
