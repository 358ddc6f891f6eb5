-- Some templates, each a plan with one line for an instruction.
use Rattle.std.proofs.Common.{ℕ, false, List, [], ◌∷◌, refl, sym, subst}
use Rattle.std.specs.Prelude.{slice_index}
use Rattle.rt_words.specs.Word.{wrap_add}
use Rattle.pdp_code.specs.declared.instruction.Reg.TheVariants.{R5, Pc}
use Rattle.pdp_code.specs.declared.instruction.Pointer.TheVariants.{PSp}
use Rattle.pdp_code.specs.declared.instruction.Operand.TheVariants.{Register, Increment}
use Rattle.pdp_code.specs.declared.instruction.Size.TheVariants.{Word}
use Rattle.pdp_code.specs.declared.instruction.DoubleOp.TheVariants.{Mov}
use Rattle.pdp_code.specs.declared.instruction.Instr.TheVariants.{Double, Return}
use Rattle.pdp_symbolic.specs.Machine.{Layout, Machine}
use Rattle.pdp_symbolic.specs.Acts.{flagged}
use Rattle.pdp_symbolic.specs.Plans.{Plans}
use Rattle.pdp_symbolic.specs.Laws.{ActsAreDone, IsCode, Silent, ReadsOne, on, push_number, pushed, NumbersArePushed, push_item, ItemsArePushed, fetch_word, fetched, WordsAreFetched, end_procedure, returned, ProceduresEnd}
use Rattle.pdp_symbolic.proofs.Runs.{plan_sound, goes}

pub acts_are_done : ActsAreDone
acts_are_done l m i t laid c h s = plan_sound l laid m i t c h s

pub numbers_are_pushed : NumbersArePushed
numbers_are_pushed l t n laid code room = goes l laid (push_number n) (Silent 1 (pushed t n)) t (tt, code.0, (room, (refl, refl)))

pub items_are_pushed : ItemsArePushed
items_are_pushed l t k inside laid code room =
    goes l laid (push_item k) (Silent 1 (pushed t (slice_index t.block k))) t (tt, code.0, (k, refl, inside, (room, (refl, refl))))

pub words_are_fetched : WordsAreFetched
words_are_fetched l t a ws laid code room shared =
    goes l laid fetch_word (ReadsOne a (fetched t ws)) (on t (a ∷ ws)) (tt, code.0, (shared, λ x b. (room, (x, b, refl, refl))))

-- once the stack is cut back to the frame
frame_left : (l : Layout) (t : Machine) (kept back : ℕ) (below : List ℕ) → IsCode l t.pc end_procedure →
    Plans l (Double Mov Word (Increment PSp) (Register R5) ∷ Return Pc ∷ []) (λ es v. Silent 3 (returned t kept back below) ([] ∷ es) v) (flagged (record t { pc = wrap_add t.pc 2; sp = t.r5; stack = kept ∷ back ∷ below }) t.r5 false t.c)
frame_left l t kept back below code = (tt, code.1.0, (tt, code.1.1.0, (refl, refl)))

pub procedures_end : ProceduresEnd
procedures_end l t k kept back below laid code frame inside is =
    let then = subst (λ ws. Plans l (Double Mov Word (Increment PSp) (Register R5) ∷ Return Pc ∷ []) (λ es v. Silent 3 (returned t kept back below) ([] ∷ es) v) (flagged (record t { pc = wrap_add t.pc 2; sp = t.r5; stack = ws }) t.r5 false t.c)) (sym is) (frame_left l t kept back below code) in
    goes l laid end_procedure (Silent 3 (returned t kept back below)) t (tt, code.0, (k, frame, inside, then))
