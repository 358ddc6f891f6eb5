-- One instruction with its service is one step of the machine.
use Rattle.std.proofs.Common.{◌≡◌, ℕ, zero, suc, ◌+◌, ◌-◌, ◌<◌, List, [], ◌∷◌, ◌++◌, length, drop, map, Option, Some, refl, sym, ap, ◌∙◌, arith}
use Rattle.std.specs.Prelude.{slice_get, slice_set}
use Rattle.std.specs.Io.KnownBytes.{Appends}
use Rattle.pdp_code.specs.declared.instruction.Reg.TheVariants.{Pc}
use Rattle.pdp_core.specs.declared.cpu.Kind.{Kind}
use Rattle.pdp_core.specs.declared.cpu.Regs.{Regs}
use Rattle.pdp_core.specs.declared.cpu.Stop.{Stop}
use Rattle.pdp_core.specs.declared.cpu.Stop.TheVariants.{Went, Trap, Fault}
use Rattle.pdp_core.specs.declared.memory.Protection.{Protection}
use Rattle.pdp_core.specs.Protection.{protected}
use Rattle.pdp_core.specs.Execute.{Outcome, execute, reg}
use Rattle.rt_image.specs.declared.image.ImageParts.{ImageParts}
use Rattle.rt_image.specs.Memory.{mark_at}
use Rattle.rt_rules.specs.Roster.{Roster}
use Rattle.rt_tasks.specs.Parts.{Sharing, Task}
use Rattle.rt_tasks.specs.Start.{places_of}
use Rattle.rt_tasks.specs.Whole.{whole}
use Rattle.rt_run.specs.Services.{Served, serve, asked_by, answered}
use Rattle.rt_run.specs.Inputs.{Feed, Ahead}
use Rattle.rt_run.specs.Carrying.{Carries}
use Rattle.rt_run.specs.Boundaries.{State, Made, boundary_at, made_by, landed_by, landed, instruction, go_by}
use Rattle.rt_run.specs.Picture.{ShowsRunning, others_memory, regs_of}

-- ---- the console

get_drop : (xs : List ℕ) (n : ℕ) → slice_get xs n ≡ slice_get (drop n xs) 0
get_drop [] zero = refl
get_drop [] (suc n) = refl
get_drop (x ∷ xs) zero = refl
get_drop (x ∷ xs) (suc n) = get_drop xs n

-- ---- the instruction

lands : (all : List ℕ) (s : State) (i mark : ℕ) (x : Outcome) (stop : Stop) → ((kind : Kind) (at : ℕ) → stop ≡ Fault kind at → ⊥) → landed_by all s i mark x stop ≡ boundary_at (made_by s i mark x (serve s.rules s.taken (slice_get all s.taken) i (asked_by stop x.regs)))
lands all s i mark x Went h = refl
lands all s i mark x (Trap n) h = refl
lands all s i mark x (Fault k a) h = absurd (h k a refl)

pub get_set : (xs : List Regs) (k : ℕ) (g : Regs) → k < length xs → slice_get (slice_set xs k g) k ≡ Some g
get_set [] k g h = absurd (omega arith)
get_set (x ∷ xs) zero g h = refl
get_set (x ∷ xs) (suc k) g h = get_set xs k g (omega arith)

set_twice : (xs : List Regs) (k : ℕ) (g h : Regs) → slice_set (slice_set xs k g) k h ≡ slice_set xs k h
set_twice [] k g h = refl
set_twice (x ∷ xs) zero g h = refl
set_twice (x ∷ xs) (suc k) g h = ap (λ (ys : List Regs). x ∷ ys) (set_twice xs k g h)

pub length-regs : (ts : List Task) → length (map regs_of ts) ≡ length ts
length-regs [] = refl
length-regs (t ∷ ts) = ap suc (length-regs ts)

-- what an instruction of the running task makes of a state
pub record GoesOn (image : ImageParts) (all : List ℕ) (s : State) (i k : ℕ) (ts : List Task) (g : Regs) (given : List ℕ) (written written2 : Option (List ℕ)) (h : Regs) (s2 : Sharing) (r2 : Roster) : Type 0 where
  pub next : State
  pub goes : go_by image all s (Some i) ≡ boundary_at next
  pub shows : ShowsRunning image next k ts h s2
  pub rules : next.rules ≡ r2
  pub gaps : next.gaps ≡ s.gaps
  pub since : next.since ≡ s.since + 1
  pub placements : next.placements ≡ s.placements
  pub made : next.made ≡ (let m : Made = record { task = i; mark = mark_at image (reg g Pc) } in m) ∷ s.made
  pub taken : next.taken ≡ s.taken + length given
  pub bytes : List ℕ
  pub output : next.output ≡ s.output ++ bytes
  pub appended : Appends written written2 bytes

pub goes_on : (image : ImageParts) (all : List ℕ) (s : State) (i k : ℕ) (ts : List Task) (g h : Regs) (sh s2 : Sharing) (from to : Feed) (written written2 : Option (List ℕ)) (r r2 : Roster) (rest : List ℕ) → ShowsRunning image s k ts g sh → i - 1 ≡ k → s.rules ≡ r → (c : Carries i from written g sh r to written2 h s2 r2) → Ahead all s.taken c.given c.over rest → GoesOn image all s i k ts g c.given written written2 h s2 r2
goes_on image all s i k ts g h sh s2 from to written written2 r r2 rest w place same c ahead =
    let mark = mark_at image (reg g Pc) in
    let x : Outcome = record { stop = c.stop; regs = c.after; world = protected sh.places (whole s2 (others_memory k ts)) } in
    let did : execute (protected (places_of image (i - 1)) s.memory) g ≡ x =
    ap (λ (m : ℕ → ℕ). execute (protected (places_of image (i - 1)) m) g) w.memory
    ∙ ap (λ (p : Protection). execute (protected p (whole sh (others_memory k ts))) g) (ap (places_of image) place ∙ sym w.places)
    ∙ (c.steps).executed (others_memory k ts) in
    let there : slice_get s.regs (i - 1) ≡ Some g = rw (place, w.regs) (get_set (map regs_of ts) k g (omega (arith, w.there, length-regs ts))) in
    let v : Served = record { rules = r2; taken = s.taken + length c.given; bytes = c.bytes; answer = c.answer } in
    let served : serve s.rules s.taken (slice_get all s.taken) i (asked_by c.stop c.after) ≡ v =
    ap (λ (q : Roster). serve q s.taken (slice_get all s.taken) i (asked_by c.stop c.after)) same
    ∙ ap (λ (o : Option ℕ). serve r s.taken o i (asked_by c.stop c.after)) (get_drop all s.taken ∙ ap (λ (xs : List ℕ). slice_get xs 0) ahead.next)
    ∙ c.service s.taken rest ahead.last in
    let next : State = made_by s i mark x v in
    record {
      next = next;
      goes =
          ap (λ (o : Option Regs). instruction image all s i o) there
          ∙ ap (λ (y : Outcome). landed all s i mark y) did
          ∙ lands all s i mark x c.stop c.goes
          ∙ ap (λ (u : Served). boundary_at (made_by s i mark x u)) served;
      shows = record {
        regs = rw (place, w.regs) (set_twice (map regs_of ts) k g (answered c.after c.answer)) ∙ ap (slice_set (map regs_of ts) k) (sym c.answers);
        memory = refl;
        there = w.there;
        code = (c.steps).code ∙ w.code;
        marks = (c.steps).marks ∙ w.marks;
        places = (c.steps).places ∙ w.places;
      };
      rules = refl;
      gaps = refl;
      since = refl;
      placements = refl;
      made = refl;
      taken = refl;
      bytes = c.bytes;
      output = refl;
      appended = c.puts;
    }
