-- A call from compiled code, with arguments and a result: the call, what the procedure does, and what the caller does then.
use Rattle.std.proofs.Common.{◌≡◌, ℕ, zero, suc, ◌+◌, ◌*◌, ◌<◌, ◌≤◌, false, List, [], ◌∷◌, ◌++◌, length, drop, refl, sym, ap, ◌∙◌, subst, arith, Option, Some}
use Rattle.rt_words.specs.Word.{wrap_add, wrap_sub}
use Rattle.rt_tree_nodes.specs.declared.store.Proc.{Proc}
use Rattle.rt_tree_nodes.specs.declared.store.Datum.{Datum}
use Rattle.rt_tree_nodes.specs.declared.store.Datum.TheVariants.{Word}
use Rattle.rt_work_state.specs.Items.{Item, Next}
use Rattle.rt_work_state.specs.Stores.{erl_in}
use Rattle.rt_resolve.specs.World.{World}
use Rattle.rt_meaning.specs.Step.{Act, with_todo, on_values, entered, asked}
use Rattle.rt_meaning.specs.Step as meant
use Rattle.rt_icode_meaning.specs.Typed.{ResultFits}
use Rattle.pdp_code.specs.declared.instruction.Reg.TheVariants.{R0, Sp, Pc}
use Rattle.pdp_code.specs.declared.instruction.Operand.TheVariants.{Register, Decrement, Immediate, Absolute}
use Rattle.pdp_code.specs.declared.instruction.Size.TheVariants.{Word as AsWord}
use Rattle.pdp_code.specs.declared.instruction.DoubleOp.TheVariants.{Mov}
use Rattle.pdp_code.specs.declared.instruction.SumOp.TheVariants.{Add}
use Rattle.pdp_code.specs.declared.instruction.Instr.TheVariants.{Double, Sum, Call}
use Rattle.pdp_code.specs.Code.{words_of}
use Rattle.pdp_symbolic.specs.Machine.{Machine, Stands}
use Rattle.pdp_symbolic.specs.Acts.{flagged, flagged_sum}
use Rattle.pdp_symbolic.specs.Laws as template
use Rattle.rt_follows.specs.Whole.{Whole, Home, meaning, word_of, pushed, Sits}
use Rattle.rt_follows.specs.Held.{layout}
use Rattle.rt_follows.specs.Runs.{Tracks, GoesOn, AnswerIn}
use Rattle.rt_follows.specs.Linked.{Linked}
use Rattle.rt_follows.specs.Calls.{Calling, GoesOnBehind}
use Rattle.rt_follows.specs.Laws.{CallsGoThrough, NumbersArePassed}
use Rattle.rt_follows.proofs.Step.{stays, quietly, visibly}
use Rattle.rt_follows.proofs.Induction.{all_run}

pushed_length : (w : Whole) (ds : List Datum) (xs : List ℕ) → length (pushed w ds xs) ≡ length ds + length xs
pushed_length w [] xs = omega arith
pushed_length w (d ∷ ds) xs = let e = pushed_length w ds (word_of w d ∷ xs) in omega (arith, e)

-- what stands under the first words
dropped : (xs ys : List ℕ) → drop (length xs) (xs ++ ys) ≡ ys
dropped [] ys = refl
dropped (x ∷ xs) ys = dropped xs ys

joined_length : (xs ys : List ℕ) → length (xs ++ ys) ≡ length xs + length ys
joined_length [] ys = omega arith
joined_length (x ∷ xs) ys = let e = joined_length xs ys in omega (arith, e)

module _ (w : Whole) (h : Home) (linked : Linked w) (sits : Sits w h) (u : Machine) (f : Proc) (args : List Datum) (below : List ℕ) (a : Act) (cs : List Act) (todo : List Item) (vs ls : List Datum) (x : Calling w h u f args below a cs todo vs ls) where
  abbrev W : World
  W = meaning w

  -- the caller, while the procedure runs
  abbrev c : Act
  c = with_todo a todo vs ls

  abbrev n : ℕ
  n = length args

  abbrev back : ℕ
  back = wrap_add (wrap_add u.pc 2) 2

  abbrev called : Machine
  called = record u { sp = wrap_sub u.sp 2; pc = w.entry f; stack = back ∷ u.stack }

  -- with the arguments taken off
  abbrev took : Machine → Machine
  took y = record (flagged_sum (record y { pc = wrap_add (wrap_add y.pc 2) 2 }) y.sp (2 * n)) { sp = wrap_add y.sp (2 * n); stack = drop n y.stack }

  -- and the result kept
  abbrev kept : Machine → Machine
  kept y = flagged (record (took y) { pc = wrap_add (took y).pc 2; sp = wrap_sub (took y).sp 2; stack = y.r0 ∷ drop n y.stack }) y.r0 false (took y).c

  least : 1 ≤ w.needs 0 f
  least = linked.lays.least 0 f

  few : 144 ≤ w.bound
  few = linked.lays.room

  room : h.low + 2 * (1 + length u.stack) ≤ h.high
  room = let e = ap length x.stack ∙ pushed_length w args below in let r = x.room in omega (arith, least, e, r)

  -- the result is kept
  keeps : (y : Machine) (d : Datum) (own : List Datum) (k : ℕ) → GoesOnBehind w h k u f below a cs todo vs ls → ResultFits w.ps f (Some d) → y.pc ≡ back → y.r5 ≡ u.r5 → y.r0 ≡ word_of w d → drop n y.stack ≡ below → (j : ℕ) → j < k → Tracks w h j 1 (took y) (with_todo a todo (d ∷ vs) ls) cs own
  keeps y d own k after fits pc r5 r0 rest zero = λ less m is. stays w h 1 (took y) (with_todo a todo (d ∷ vs) ls) cs own m (omega (arith, few)) is
  keeps y d own k after fits pc r5 r0 rest (suc j) = λ less.
      let code = x.code.2.2 in
      let at : (took y).pc ≡ wrap_add (wrap_add back 2) 2 = ap (λ p. wrap_add (wrap_add p 2) 2) pc in
      let len : length (drop n y.stack) ≡ length below = ap length rest in
      quietly w linked.lays h sits (Double Mov AsWord (Register R0) (Decrement Sp)) (took y) (with_todo a todo (d ∷ vs) ls) cs own j 1 tt
      (subst (λ p. Stands (layout w h) p (words_of (Double Mov AsWord (Register R0) (Decrement Sp)))) (sym at) code.0) (ap w.marks at ∙ code.1) (omega (arith, few))
      (λ m is. (
        (let r = x.room in omega (arith, len, r, least)),
        (refl, refl, after j d own (kept y) (omega (arith, less)) fits (ap (λ p. wrap_add (wrap_add (wrap_add p 2) 2) 2) pc) r5 (ap (λ z. z ∷ drop n y.stack) r0 ∙ ap (λ zs. word_of w d ∷ zs) rest)),
      ))

  -- the arguments are taken off, whatever they are now
  takes : (y : Machine) (xs : List ℕ) (d : Datum) (own : List Datum) (k : ℕ) → GoesOnBehind w h k u f below a cs todo vs ls → ResultFits w.ps f (Some d) → y.pc ≡ back → y.r5 ≡ u.r5 → y.r0 ≡ word_of w d → length xs ≡ n → y.stack ≡ xs ++ below → (j : ℕ) → j < k → Tracks w h j 0 y (with_todo a todo (d ∷ vs) ls) cs own
  takes y xs d own k after fits pc r5 r0 count stack zero = λ less m is. stays w h 0 y (with_todo a todo (d ∷ vs) ls) cs own m (omega arith) is
  takes y xs d own k after fits pc r5 r0 count stack (suc j) = λ less.
      let code = x.code.2 in
      let rest : drop n y.stack ≡ below = ap (λ zs. drop n zs) stack ∙ subst (λ i. drop i (xs ++ below) ≡ below) count (dropped xs below) in
      let len : length y.stack ≡ n + length below = ap length stack ∙ joined_length xs below ∙ ap (λ i. i + length below) count in
      quietly w linked.lays h sits (Sum Add (Immediate (2 * n)) (Register Sp)) y (with_todo a todo (d ∷ vs) ls) cs own j 0 tt
      (subst (λ p. Stands (layout w h) p (words_of (Sum Add (Immediate (2 * n)) (Register Sp)))) (sym pc) code.0) (ap w.marks pc ∙ code.1) (omega (arith, few))
      (λ m is. (n, (let full = is.task.full in omega (arith, full, len, sits.top)), omega (arith, len), (refl, refl, keeps y d own k after fits pc r5 r0 rest j (omega (arith, less)))))

  goes_on : (k : ℕ) → GoesOnBehind w h k u f below a cs todo vs ls → GoesOn w h k f back u.r5 n below c cs
  goes_on k after = record {
    returns = λ j less v fits own y xs count at.
        let g = x.gives v fits in
        let fit : ResultFits w.ps f (Some g.0) = subst (λ (o : Option Datum). ResultFits w.ps f o) g.1 fits in
        let r0 : AnswerIn w y (Some g.0) = subst (λ (o : Option Datum). AnswerIn w y o) g.1 at.answer in
        subst (λ (o : Option Datum). Tracks w h j 0 y (with_todo c c.todo (on_values o c.values) c.locals) cs own) (sym g.1) (takes y xs g.0 own k after fit at.pc at.r5 r0 count at.stack j less);
  }

  through : (k q : ℕ) (own : List Datum) → q ≤ w.bound → GoesOnBehind w h k u f below a cs todo vs ls → Tracks w h k q u a cs own
  through zero q own fits after = λ m is. stays w h q u a cs own m fits is
  through (suc k) q own fits after =
      visibly w linked.lays h sits (Call Pc (Absolute (w.entry f))) u a cs own k q tt x.code.0 (entered (W.code f) f args (erl_in own)) (c ∷ cs) x.code.1 fits
      (λ S o. ap (λ (z : Next). (meant.act W z a cs own S o).task) x.asks) (λ S o. ap (λ (z : Next). (meant.act W z a cs own S o).store) x.asks) (ap asked x.asks)
      (λ m is. (room, (refl, refl, all_run w linked h sits k f x.is x.reached called back u.r5 args below c cs own (record { pc = refl; r5 = refl; stack = ap (λ zs. back ∷ zs) x.stack; fits = x.fits; room = x.room }) (goes_on k (λ j d own2 v less. after j d own2 v (omega (arith, less)))))))

pub calls_go_through : CallsGoThrough
calls_go_through w h u f args below a cs todo vs ls own k q linked sits fits x after = through w h linked sits u f args below a cs todo vs ls x k q own fits after

pub numbers_are_passed : NumbersArePassed
numbers_are_passed w h u f n a cs todo vs ls own zero q linked sits fits code mark x after = λ m is. stays w h q u a cs own m (omega (arith, fits)) is
numbers_are_passed w h u f n a cs todo vs ls own (suc k) q linked sits fits code mark x after =
    let least = linked.lays.least 0 f in
    let room : h.low + 2 * (1 + length u.stack) ≤ h.high = let r = x.room in omega (arith, r, least) in
    quietly w linked.lays h sits (Double Mov AsWord (Immediate n) (Decrement Sp)) u a cs own k q tt code.0 mark fits
    (λ m is. (room, (refl, refl, calls_go_through w h (template.pushed u n) f (Word n ∷ []) u.stack a cs todo vs ls own k (suc q) linked sits (omega (arith, fits)) x (λ j d own2 v less. after j d own2 v (omega (arith, less))))))
