-- The services of the machine's run are those of the source's.
use Rattle.std.proofs.Common.{◌≡◌, ℕ, ◌%◌, ◌==◌, Bool, true, false, if◌then◌else◌, refl, sym, ap, subst, Option, Some, None}
use Rattle.pdp_code.specs.declared.instruction.Reg.TheVariants.{R0}
use Rattle.pdp_core.specs.declared.cpu.Regs.{Regs}
use Rattle.pdp_core.specs.declared.cpu.Stop.{Stop}
use Rattle.pdp_core.specs.declared.cpu.Stop.TheVariants.{Went, Trap, Fault}
use Rattle.pdp_core.specs.Execute.{reg}
use Rattle.rt_rules.specs.declared.service.Svc.TheVariants.{Delay, Wait, Signal, Secure, Release, Clock, TaskNo, Gel, End}
use Rattle.rt_rules.specs.Roster.{Roster}
use Rattle.rt_run.specs.declared.service.Answer.{Answer}
use Rattle.rt_run.specs.declared.service.Request.{Request as Want}
use Rattle.rt_run.specs.declared.service.Request.TheVariants as want
use Rattle.rt_run.specs.Services as machine
use Rattle.rt_work_state.specs.declared.request.Request.{Request}
use Rattle.rt_work_state.specs.declared.request.Request.TheVariants.{Nothing, Takes, Puts, Rules}
use Rattle.rt_meaning.specs.Run as source
use Rattle.rt_meaning.specs.Runs.{bytes_of}
use Rattle.rt_follows.specs.Follows.{asked_by, answer_of}
use Rattle.rt_faithful.specs.Laws.{ServicesAreOfTheSource}
use Rattle.rt_faithful.specs.Services.{SameService}

-- the source's request, by the machine's
abbrev meant : Want → Request
meant want.Nothing = Nothing
meant want.Reads = Takes
meant (want.Puts b) = Puts b
meant (want.Calls s) = Rules s

-- of each number of a TRAP
trap_is : (a b c d e f g h j k : Bool) (x : ℕ)
    → (if a then Takes else (if b then Puts (x % 256) else (if c then Rules (Delay x) else (if d then Rules (Wait x) else (if e then Rules (Signal x) else (if f then Rules (Secure x) else (if g then Rules (Release x) else (if h then Rules Clock else (if j then Rules TaskNo else (if k then Rules (Gel x) else Rules End))))))))))
    ≡ meant (if a then want.Reads else (if b then want.Puts (x % 256) else want.Calls (if c then Delay x else (if d then Wait x else (if e then Signal x else (if f then Secure x else (if g then Release x else (if h then Clock else (if j then TaskNo else (if k then Gel x else End))))))))))
trap_is true b c d e f g h j k x = refl
trap_is false true c d e f g h j k x = refl
trap_is false false true d e f g h j k x = refl
trap_is false false false true e f g h j k x = refl
trap_is false false false false true f g h j k x = refl
trap_is false false false false false true g h j k x = refl
trap_is false false false false false false true h j k x = refl
trap_is false false false false false false false true j k x = refl
trap_is false false false false false false false false true k x = refl
trap_is false false false false false false false false false true x = refl
trap_is false false false false false false false false false false x = refl

asked_is : (stop : Stop) (g : Regs) → asked_by stop g ≡ meant (machine.asked_by stop g)
asked_is Went g = refl
asked_is (Trap n) g = trap_is (n == 1) (n == 2) (n == 3) (n == 4) (n == 5) (n == 6) (n == 7) (n == 8) (n == 9) (n == 10) (reg g R0)
asked_is (Fault kind at) g = refl

-- the same is left, and the answer is that to the outcome
abbrev IsSame : Want → machine.Served → source.Served → Type 0
IsSame q v z = (v.rules ≡ z.rules) × (v.taken ≡ z.taken) × (v.bytes ≡ bytes_of z.byte) × (v.answer ≡ answer_of q z.outcome)

served_is : (r : Roster) (taken i : ℕ) (next : Option ℕ) (q : Want) → IsSame q (machine.serve r taken next i q) (source.serve r taken i next (meant q))
served_is r taken i next want.Nothing = (refl, refl, refl, refl)
served_is r taken i None want.Reads = (refl, refl, refl, refl)
served_is r taken i (Some b) want.Reads = (refl, refl, refl, refl)
served_is r taken i next (want.Puts b) = (refl, refl, refl, refl)
served_is r taken i next (want.Calls s) = (refl, refl, refl, refl)

pub services_agree : ServicesAreOfTheSource
services_agree r taken i next stop g =
    let q : Want = machine.asked_by stop g in
    let s = served_is r taken i next q in
    subst (λ (a : Request). SameService stop g (machine.serve r taken next i q) (source.serve r taken i next a)) (sym (asked_is stop g))
    (record { rules = s.0; taken = s.1; bytes = s.2; registers = ap (λ (x : Answer). machine.answered g x) s.3 })
