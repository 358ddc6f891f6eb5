-- The places of relocations, and the addresses that are put there.
use Rattle.std.proofs.Common.{◌≡◌, ℕ, zero, suc, ◌+◌, ◌≤◌, ◌==◌, ◌&&◌, Bool, true, false, if◌then◌else◌, List, [], ◌∷◌, ◌++◌, length, replicate, refl, sym, ap, ◌∙◌, append_assoc, arith, length-append, subst, Option, Some, None}
use Rattle.std.specs.Prelude.{slice_set}
use Rattle.pdp_code.specs.declared.instruction.SingleOp.TheVariants.{Clr, Asl}
use Rattle.pdp_code.specs.declared.instruction.Instr.TheVariants.{OnRegister}
use Rattle.pdp_code.specs.declared.instruction.Operand.TheVariants.{Register, Immediate}
use Rattle.pdp_code.specs.declared.instruction.Reg.TheVariants.{R1}
use Rattle.pdp_code.specs.declared.instruction.RegisterOp.TheVariants.{Mul}
use Rattle.pdp_code.specs.Code.{first_word, more_words, words_of as instr_words}
use Rattle.rt_icode.specs.declared.ins.Ins.{Ins}
use Rattle.rt_icode.specs.declared.ins.Ins.TheVariants as ins
use Rattle.rt_icode.specs.declared.ins.Alter.TheVariants as alter
use Rattle.rt_icode.specs.declared.ins.Merge.TheVariants as merge
use Rattle.rt_icode.specs.declared.ins.Width.TheVariants as width
use Rattle.rt_object.specs.declared.object.Relocated.{Relocated}
use Rattle.rt_object.specs.declared.object.Relocation.{Relocation}
use Rattle.rt_templates.specs.declared.layout.Layout.{Layout}
use Rattle.rt_templates.specs.declared.line.Hole.{Hole}
use Rattle.rt_templates.specs.declared.line.Line.{Line}
use Rattle.rt_templates.specs.Lines.{words, hole_at, relocations, quiet, on, put}
use Rattle.rt_templates.specs.Layouts.{layout_of}
use Rattle.rt_templates.specs.Places.{scale, element_of, element_behind}
use Rattle.rt_templates.specs.Calls.{recovery, drop_words, kept}
use Rattle.rt_templates.specs.Templates.{template, templates}
use Rattle.rt_templates.specs.Expanded.{code_of, lines_of}
use Rattle.rt_templates_laws.specs.Laws.{Rise, address, with_address, filled, relocated}
use Rattle.rt_templates_laws.proofs.Marking.{and_first, and_second}

abbrev TrueOnly : Bool → Type 0
TrueOnly true = Unit {0}
TrueOnly false = ⊥

no_false : {B : Type 0} → false ≡ true → B
no_false e = elim (subst TrueOnly (sym e) tt) [ ]

-- ---- a line that waits for an address has a word for it

abbrev has_room : Option Hole → List ℕ → Bool
has_room None ws = true
has_room (Some h) [] = false
has_room (Some h) (w ∷ ws) = true

abbrev roomy : List Line → Bool
roomy [] = true
roomy (l ∷ ls) = has_room l.hole (more_words l.instr) && roomy ls

roomy_append : (xs ys : List Line) → roomy xs ≡ true → roomy ys ≡ true → roomy (xs ++ ys) ≡ true
roomy_append [] ys e h = h
roomy_append (l ∷ xs) ys e h = rw (and_first (has_room l.hole (more_words l.instr)) (roomy xs) e, roomy_append xs ys (and_second (has_room l.hole (more_words l.instr)) (roomy xs) e) h) refl

cleared : (n : ℕ) → roomy (replicate n (quiet (on Clr put))) ≡ true
cleared zero = refl
cleared (suc n) = cleared n

recorded : (r : Bool) → roomy (recovery r) ≡ true
recorded true = refl
recorded false = refl

scaled : (size : ℕ) → roomy (scale size) ≡ true
scaled size = by (size == 1) (size == 2) where
  by : (a b : Bool) → roomy (if a then [] else (if b then quiet (on Asl (Register R1)) ∷ [] else quiet (OnRegister Mul R1 (Immediate size)) ∷ [])) ≡ true
  by true b = refl
  by false true = refl
  by false false = refl

kept_roomy : (gives : Bool) → roomy (kept gives) ≡ true
kept_roomy true = refl
kept_roomy false = refl

dropped : (n : ℕ) → roomy (if n == 0 then [] else drop_words n) ≡ true
dropped n = by (n == 0) where
  by : (b : Bool) → roomy (if b then [] else drop_words n) ≡ true
  by true = refl
  by false = refl

template_roomy : (f : Layout) (k : ℕ) (i : Ins) → roomy (template f k i) ≡ true
template_roomy f k (ins.Enter b p l r) = roomy_append (replicate l (quiet (on Clr put))) (recovery r) (cleared l) (recorded r)
template_roomy f k (ins.ElementAt p n s) = roomy_append (scale s) (element_of p) (scaled s) refl
template_roomy f k (ins.Element n s) = roomy_append (scale s) element_behind (scaled s) refl
template_roomy f k (ins.ElementRow s) = roomy_append (scale s) element_behind (scaled s) refl
template_roomy f k (ins.Invoke b n gives) = roomy_append (if n == 0 then [] else drop_words n) (kept gives) (dropped n) (kept_roomy gives)
template_roomy f k (ins.InvokeBy n gives) = kept_roomy gives
template_roomy f k (ins.Save width.Byte p) = refl
template_roomy f k (ins.Save width.Word p) = refl
template_roomy f k (ins.Store width.Byte) = refl
template_roomy f k (ins.Store width.Word) = refl
template_roomy f k (ins.Const n) = refl
template_roomy f k (ins.Text n) = refl
template_roomy f k (ins.Routine b) = refl
template_roomy f k (ins.LoadLocal i) = refl
template_roomy f k (ins.SaveLocal i) = refl
template_roomy f k (ins.ClearLocal i) = refl
template_roomy f k ins.Discard = refl
template_roomy f k (ins.Reach p) = refl
template_roomy f k (ins.ReachRow p n) = refl
template_roomy f k (ins.LoadOwn j) = refl
template_roomy f k (ins.SaveOwn j) = refl
template_roomy f k (ins.Load width.Byte p) = refl
template_roomy f k (ins.Load width.Word p) = refl
template_roomy f k (ins.Into j o) = refl
template_roomy f k (ins.IntoRow j o n) = refl
template_roomy f k (ins.Fetch width.Byte) = refl
template_roomy f k (ins.Fetch width.Word) = refl
template_roomy f k (ins.Tell n) = refl
template_roomy f k ins.Length = refl
template_roomy f k (ins.Alter alter.Negate) = refl
template_roomy f k (ins.Alter alter.Absolute) = refl
template_roomy f k (ins.Alter alter.Complement) = refl
template_roomy f k (ins.Alter alter.LowByte) = refl
template_roomy f k (ins.Merge merge.Plus) = refl
template_roomy f k (ins.Merge merge.Minus) = refl
template_roomy f k (ins.Merge merge.Times) = refl
template_roomy f k (ins.Merge merge.FracTimes) = refl
template_roomy f k (ins.Merge merge.Land) = refl
template_roomy f k (ins.Merge merge.Lor) = refl
template_roomy f k (ins.Merge merge.Nev) = refl
template_roomy f k (ins.Merge merge.Sll) = refl
template_roomy f k (ins.Merge merge.Srl) = refl
template_roomy f k (ins.Merge merge.Sla) = refl
template_roomy f k (ins.Merge merge.Sra) = refl
template_roomy f k (ins.Divide d) = refl
template_roomy f k (ins.DivideOr d) = refl
template_roomy f k ins.Report = refl
template_roomy f k (ins.Test r w n) = refl
template_roomy f k (ins.Skip n) = refl
template_roomy f k (ins.Go to) = refl
template_roomy f k (ins.Case to) = refl
template_roomy f k (ins.CountFor j n) = refl
template_roomy f k (ins.CountTo j n) = refl
template_roomy f k (ins.TurnFor j to) = refl
template_roomy f k (ins.TurnTo j to) = refl
template_roomy f k ins.GiveUp = refl
template_roomy f k ins.Leave = refl
template_roomy f k (ins.Recover to) = refl
template_roomy f k ins.Restore = refl

templates_roomy : (f : Layout) (k : ℕ) (is : List Ins) → roomy (templates f k is) ≡ true
templates_roomy f k [] = refl
templates_roomy f k (i ∷ is) = roomy_append (template f k i) (templates f (k + 1) is) (template_roomy f k i) (templates_roomy f (k + 1) is)

-- ---- places

-- behind a word that waits for an address, or none
rise_one : (o : Option Hole) (more : List ℕ) (at low high : ℕ) (rs : List Relocation) → has_room o more ≡ true → low ≤ at + 1 → at + suc (length more) ≤ high
    → ((next : ℕ) → next ≤ at + suc (length more) + 1 → Rise next high rs) → Rise low high (hole_at at o ++ rs)
rise_one None more at low high rs e h g go = go low (omega arith)
rise_one (Some hole) [] at low high rs e h g go = no_false e
rise_one (Some hole) (w ∷ more) at low high rs e h g go = (h, omega arith, go (at + 1 + 1) (omega arith))

rises : (ls : List Line) (at low high : ℕ) → roomy ls ≡ true → low ≤ at + 1 → high ≡ at + length (words ls) → Rise low high (relocations at ls)
rises [] at low high e h g = tt
rises (l ∷ ls) at low high e h g =
    let there = and_first (has_room l.hole (more_words l.instr)) (roomy ls) e in
    let others = and_second (has_room l.hole (more_words l.instr)) (roomy ls) e in
    let far : high ≡ (at + length (instr_words l.instr)) + length (words ls) = omega (arith, length-append (instr_words l.instr) (words ls)) in
    rise_one l.hole (more_words l.instr) at low high _ there h (omega arith) (λ next k. rises ls (at + length (instr_words l.instr)) next high others (omega arith) far)

pub places_rise : (code : List Ins) → Rise 1 (length (code_of code).words) (code_of code).relocations
places_rise code = rises (lines_of code) 0 1 (length (code_of code).words) (templates_roomy (layout_of code) 0 code) (omega arith) (omega arith)

-- ---- addresses

set_behind : (pre : List ℕ) (w x v : ℕ) (rest : List ℕ) (k : ℕ) → k ≡ length pre + 1 → slice_set (pre ++ w ∷ x ∷ rest) k v ≡ pre ++ w ∷ v ∷ rest
set_behind [] w x v rest zero e = absurd (omega arith)
set_behind [] w x v rest (suc zero) e = refl
set_behind [] w x v rest (suc (suc k)) e = absurd (omega arith)
set_behind (y ∷ pre) w x v rest zero e = absurd (omega arith)
set_behind (y ∷ pre) w x v rest (suc k) e = ap (λ l. y ∷ l) (set_behind pre w x v rest k (omega arith))

module _ (at : Relocated → ℕ) where
  -- one line, whose words stand behind others
  fill_one : (o : Option Hole) (pre : List ℕ) (w : ℕ) (more rest : List ℕ) (n : ℕ) (rs : List Relocation) → length pre ≡ n → has_room o more ≡ true
      → relocated at (hole_at n o ++ rs) (pre ++ ((w ∷ more) ++ rest)) ≡ relocated at rs (pre ++ (with_address at o (w ∷ more) ++ rest))
  fill_one None pre w more rest n rs h e = refl
  fill_one (Some hole) pre w [] rest n rs h e = no_false e
  fill_one (Some hole) pre w (x ∷ more) rest n rs h e = ap (λ l. relocated at rs l) (set_behind pre w x (address at hole) (more ++ rest) (n + 1) (omega arith))

  same_length : (o : Option Hole) (ws : List ℕ) → length (with_address at o ws) ≡ length ws
  same_length None ws = refl
  same_length (Some h) [] = refl
  same_length (Some h) (w ∷ []) = refl
  same_length (Some h) (w ∷ x ∷ ws) = refl

  fills : (ls : List Line) (pre : List ℕ) (n : ℕ) → roomy ls ≡ true → length pre ≡ n → relocated at (relocations n ls) (pre ++ words ls) ≡ pre ++ filled at ls
  fills [] pre n e h = refl
  fills (l ∷ ls) pre n e h =
      let there = and_first (has_room l.hole (more_words l.instr)) (roomy ls) e in
      let others = and_second (has_room l.hole (more_words l.instr)) (roomy ls) e in
      let made = with_address at l.hole (instr_words l.instr) in
      let far : length (pre ++ made) ≡ n + length (instr_words l.instr) = omega (arith, length-append pre made, same_length l.hole (instr_words l.instr)) in
      fill_one l.hole pre (first_word l.instr) (more_words l.instr) (words ls) n _ h there
      ∙ ap (λ v. relocated at (relocations (n + length (instr_words l.instr)) ls) v) (sym (append_assoc pre made (words ls)))
      ∙ fills ls (pre ++ made) (n + length (instr_words l.instr)) others far
      ∙ append_assoc pre made (filled at ls)

pub addresses_are_filled : (at : Relocated → ℕ) (code : List Ins) → relocated at (code_of code).relocations (code_of code).words ≡ filled at (lines_of code)
addresses_are_filled at code = fills at (lines_of code) [] 0 (templates_roomy (layout_of code) 0 code) refl
