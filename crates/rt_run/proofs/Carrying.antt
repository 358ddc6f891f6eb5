-- Instructions with their services.
use Rattle.std.proofs.Common.{◌≡◌, ℕ, true, false, List, Option, Some, None, Ok, refl, sym, ap, ◌∙◌, subst, arith, ◌+◌, ◌%◌, [], ◌∷◌}
use Rattle.std.specs.Prelude.{slice_get, slice_index, Result, Err}
use Rattle.std.proofs.Math.Seq.{set-set}
use Rattle.std.specs.Io.KnownBytes.{Appends}
use Rattle.std.proofs.lemmas.List.{get_or-set_other, set-get_or}
use Rattle.rt_words.specs.Word.{wrap_add}
use Rattle.pdp_code.specs.declared.instruction.Reg.TheVariants.{R0, Pc}
use Rattle.pdp_core.specs.declared.cpu.Regs.{Regs}
use Rattle.pdp_core.specs.declared.cpu.Stop.{Stop}
use Rattle.pdp_core.specs.declared.cpu.Stop.TheVariants.{Went as Done, Trap, Fault}
use Rattle.pdp_core.specs.Execute.{reg, with_reg, past_word}
use Rattle.rt_tasks.specs.Parts.{Sharing}
use Rattle.rt_tasks.specs.Steps.{Steps, KeepsAtFault, AsksByTrap}
use Rattle.rt_tasks.specs.Traps.{trap_at}
use Rattle.rt_rules.specs.Roster.{Roster}
use Rattle.rt_run.specs.declared.carry.Carried.{Carried}
use Rattle.rt_run.specs.declared.carry.Carried.TheVariants.{Went, Served, Fault as Failed, ReadFault, WriteFault}
use Rattle.rt_run.specs.declared.carry.Granted.{Granted}
use Rattle.rt_run.specs.declared.carry.Granted.TheVariants.{Nothing, Gave, Took}
use Rattle.rt_run.specs.declared.service.Answer.TheVariants.{Silence, Value}
use Rattle.rt_run.specs.Inputs.{Feed}
use Rattle.rt_run.specs.Carrying.{Takes, Reads, Given, Putting, Calling, Carries, IsAsked, IsServedBy, IsAnswered, EndsBy, IsCarried, byte_or_end}
use Rattle.rt_run.proofs.Feeding.{gives_nothing, appends_nothing}

-- ---- what the instruction came to

same_taken : (taken : ℕ) → taken ≡ taken + 0
same_taken taken = omega arith

module _ (i : ℕ) (from to : Feed) (written written2 : Option (List ℕ)) (g h : Regs) (s s2 : Sharing) (r r2 : Roster) where
  from_reading : (n : ℕ) → Reads n from to → Given n g s h s2 → Carries i from written g s r to written h s2 r
  from_reading n a b = by a.next refl
    where
      by : (o : Option ℕ) → a.next ≡ o → Carries i from written g s r to written h s2 r
      by None e = record {
        stop = Trap 1;
        after = b.after;
        given = [];
        over = true;
        bytes = [];
        answer = Value 4;
        steps = b.steps;
        goes = λ k l f. absurd cc;
        service = λ taken rest last. let none : rest ≡ [] = last refl in rw (none, sym (same_taken taken)) refl;
        answers = b.answers ∙ ap (with_reg b.after R0) (a.number ∙ ap byte_or_end e);
        gives = subst (λ (x : Option ℕ). Takes from x to) e a.takes;
        puts = appends_nothing written;
      }
      by (Some v) e = record {
        stop = Trap 1;
        after = b.after;
        given = v ∷ [];
        over = false;
        bytes = [];
        answer = Value v;
        steps = b.steps;
        goes = λ k l f. absurd cc;
        service = λ taken rest last. refl;
        answers = b.answers ∙ ap (with_reg b.after R0) (a.number ∙ ap byte_or_end e);
        gives = subst (λ (x : Option ℕ). Takes from x to) e a.takes;
        puts = appends_nothing written;
      }

  from_writing : Appends written written2 (reg g R0 % 256 ∷ []) → Putting g s h s2 → Carries i from written g s r from written2 h s2 r
  from_writing puts a = record {
    stop = Trap 2;
    after = h;
    given = [];
    over = false;
    bytes = reg h R0 % 256 ∷ [];
    answer = Silence;
    steps = a.steps;
    goes = λ k l f. absurd cc;
    service = λ taken rest last. rw (sym (same_taken taken)) refl;
    answers = refl;
    gives = gives_nothing from;
    puts = subst (λ (v : ℕ). Appends written written2 (v % 256 ∷ [])) (sym a.argument) puts;
  }

  from_went : Steps g s Done h s2 → Carries i from written g s r from written h s2 r
  from_went a = record {
    stop = Done;
    after = h;
    given = [];
    over = false;
    bytes = [];
    answer = Silence;
    steps = a;
    goes = λ k l f. absurd cc;
    service = λ taken rest last. rw (sym (same_taken taken)) refl;
    answers = refl;
    gives = gives_nothing from;
    puts = appends_nothing written;
  }

  from_calling : Calling i g s r h s2 r2 → Carries i from written g s r from written h s2 r2
  from_calling a = record {
    stop = Trap a.number;
    after = a.after;
    given = [];
    over = false;
    bytes = [];
    answer = (a.served).answer;
    steps = a.steps;
    goes = λ k l f. absurd cc;
    service = λ taken rest last. rw (sym (same_taken taken)) ((a.served).service taken (slice_get rest 0));
    answers = (a.served).given;
    gives = gives_nothing from;
    puts = appends_nothing written;
  }

  from_went_on : (x : Carried) → x ≡ Went → r2 ≡ r → Carries i from written g s r to written2 h s2 r → IsCarried x i from written g s r to written2 h s2 r2
  from_went_on x e same c = subst (λ (y : Carried). IsCarried y i from written g s r to written2 h s2 r2) (sym e) (subst (λ (q : Roster). Carries i from written g s r to written2 h s2 q) (sym same) c, same)

  -- an instruction that wants nothing of the console
  pub carried_on : Steps g s Done h s2 → IsCarried Went i from written g s r from written h s2 r
  carried_on a = (from_went a, refl)

-- a TRAP changes no register but the program counter
argument_kept : (g after : Regs) → after ≡ past_word g → reg after R0 ≡ reg g R0
argument_kept g after e = ap (λ (k : Regs). reg k R0) e ∙ get_or-set_other g.r 7 0 (wrap_add (reg g Pc) 2) 0 (λ (q : 0 ≡ 7). absurd (omega (arith, q)))

-- the console granted a TRAP something, and its task was served
pub served_by : (x : Carried) (a : Granted) (i n : ℕ) (from to : Feed) (written written2 : Option (List ℕ)) (g after h : Regs) (s s2 : Sharing) (r r2 : Roster) → after ≡ past_word g → Steps g s (Trap n) after s2 → IsAsked (Ok a) n from written after to written2 → IsServedBy x a i n r after r2 h → IsCarried x i from written g s r to written2 h s2 r2
served_by x Nothing i n from to written written2 g after h s s2 r r2 past steps q d =
    subst (λ (y : Carried). IsCarried y i from written g s r to written2 h s2 r2) (sym d.0)
    (subst (λ (f : Feed). Carries i from written g s r f written2 h s2 r2) (sym q.1)
    (subst (λ (o : Option (List ℕ)). Carries i from written g s r from o h s2 r2) (sym q.2)
    (from_calling i from to written written2 g h s s2 r r2 (record { number = n; after = after; no_read = (q.0).0; no_put = (q.0).1; steps = steps; served = d.1 }))))
served_by x (Gave v) i n from to written written2 g after h s s2 r r2 past steps q d =
    subst (λ (o : Option (List ℕ)). IsCarried x i from written g s r to o h s2 r2) (sym q.2)
    (from_went_on i from to written written g h s s2 r r2 x d.0 d.2 (from_reading i from to written written2 g h s s2 r r2 v q.1 (record { after = after; steps = subst (λ (m : ℕ). Steps g s (Trap m) after s2) q.0 steps; answers = d.1 })))
served_by x Took i n from to written written2 g after h s s2 r r2 past steps q d =
    let put : Appends written written2 (reg g R0 % 256 ∷ []) = subst (λ (v : ℕ). Appends written written2 (v % 256 ∷ [])) (argument_kept g after past) q.2 in
    let did : Steps g s (Trap 2) h s2 = subst (λ (k : Regs). Steps g s (Trap 2) k s2) (sym d.1) (subst (λ (m : ℕ). Steps g s (Trap m) after s2) q.0 steps) in
    subst (λ (f : Feed). IsCarried x i from written g s r f written2 h s2 r2) (sym q.1)
    (from_went_on i from from written written2 g h s s2 r r2 x d.0 d.2 (from_writing i from to written written2 g h s s2 r r2 put (record { steps = did; argument = ap (λ (k : Regs). reg k R0) d.1 ∙ argument_kept g after past })))

-- ---- what a stop comes to

-- the program counter back where it was
counter_back : (g : Regs) (a : ℕ) → with_reg (with_reg g Pc a) Pc (reg g Pc) ≡ g
counter_back g a = ap (λ (l : List ℕ). record g { r = l }) (set-set g.r 7 a (slice_index g.r 7) ∙ set-get_or g.r 7 0)

module _ (i at : ℕ) (from to : Feed) (written written2 : Option (List ℕ)) (g mid h : Regs) (s mids : Sharing) (r r2 : Roster) where
  -- where nothing more is done
  all_same : (x y : Carried) → x ≡ y → to ≡ from → written2 ≡ written → h ≡ mid → r2 ≡ r → IsCarried y i from written g s r from written mid mids r → IsCarried x i from written g s r to written2 h mids r2
  all_same x y a b c d e q =
      subst (λ (z : Carried). IsCarried z i from written g s r to written2 h mids r2) (sym a)
      (subst (λ (f : Feed). IsCarried y i from written g s r f written2 h mids r2) (sym b)
      (subst (λ (o : Option (List ℕ)). IsCarried y i from written g s r from o h mids r2) (sym c)
      (subst (λ (k : Regs). IsCarried y i from written g s r from written k mids r2) (sym d)
      (subst (λ (w : Roster). IsCarried y i from written g s r from written mid mids w) (sym e) q))))

  went_back : at ≡ reg g Pc → mid ≡ past_word g → h ≡ with_reg mid Pc at → h ≡ g
  went_back a m e = e ∙ ap (λ (k : Regs). with_reg k Pc at) m ∙ ap (with_reg (past_word g) Pc) a ∙ counter_back g (wrap_add (reg g Pc) 2)

  refused_so : (x e : Carried) (n : ℕ) → at ≡ reg g Pc → (trap_at s.code (reg g Pc) ≡ Some n) × (mid ≡ past_word g) × (mids ≡ s) → IsAsked (Err e) n from written mid to written2 → x ≡ e → h ≡ with_reg mid Pc at → r2 ≡ r → IsCarried x i from written g s r to written2 h mids r2
  refused_so x ReadFault n a t q is back same =
      subst (λ (z : Carried). IsCarried z i from written g s r to written2 h mids r2) (sym is)
      (record { trap = subst (λ (k : ℕ). trap_at s.code (reg g Pc) ≡ Some k) q.0 t.0; regs = went_back a t.1 back; shared = t.2; rules = same }, q.1, q.2)
  refused_so x WriteFault n a t q is back same =
      subst (λ (z : Carried). IsCarried z i from written g s r to written2 h mids r2) (sym is)
      (record { trap = subst (λ (k : ℕ). trap_at s.code (reg g Pc) ≡ Some k) q.0 t.0; regs = went_back a t.1 back; shared = t.2; rules = same }, q.1, q.2)
  refused_so x Went n a t q is back same = absurd q
  refused_so x Served n a t q is back same = absurd q
  refused_so x (Failed kind f) n a t q is back same = absurd q

  trap_by : (x : Carried) (n : ℕ) (w : Result Granted Carried) → at ≡ reg g Pc → Steps g s (Trap n) mid mids → (trap_at s.code (reg g Pc) ≡ Some n) × (mid ≡ past_word g) × (mids ≡ s) → IsAsked w n from written mid to written2 → EndsBy w x i n at mid r h r2 → IsCarried x i from written g s r to written2 h mids r2
  trap_by x n (Ok w) a steps t q d = served_by x w i n from to written written2 g mid h s mids r r2 t.1 steps q d
  trap_by x n (Err e) a steps t q d = refused_so x e n a t q d.0 d.1 d.2

  pub answered_so : (stop : Stop) (x : Carried) → at ≡ reg g Pc → Steps g s stop mid mids → KeepsAtFault g s stop mid mids → AsksByTrap g s stop mid mids → IsAnswered stop x i at from written mid r to written2 h r2 → IsCarried x i from written g s r to written2 h mids r2
  answered_so Done x a steps keeps asks q = all_same x Went q.0 q.1 q.2 q.3 q.4 (carried_on i from from written written g mid s mids r r steps)
  answered_so (Trap n) x a steps keeps asks q = trap_by x n q.granted a steps (asks n refl) q.asked q.ends
  answered_so (Fault kind f) x a steps keeps asks q =
      let k = keeps kind f refl in
      all_same x (Failed kind f) q.0 q.1 q.2 q.3 q.4 (record { steps = steps; regs = k.0; shared = k.1; rules = refl }, refl, refl)
