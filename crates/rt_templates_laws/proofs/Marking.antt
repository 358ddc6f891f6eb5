-- The marks of templates.
use Rattle.std.proofs.Common.{◌≡◌, ℕ, zero, suc, ◌+◌, ◌==◌, ◌&&◌, nat_le, Bool, true, false, if◌then◌else◌, List, [], ◌∷◌, ◌++◌, length, map, replicate, refl, ap, arith, length-append}
use Rattle.std.specs.List.{AllByRecursion}
use Rattle.std.proofs.lemmas.Bool.{leb-true}
use Rattle.pdp_code.specs.declared.instruction.SingleOp.TheVariants.{Clr, Asl}
use Rattle.pdp_code.specs.declared.instruction.Instr.TheVariants.{OnRegister}
use Rattle.pdp_code.specs.declared.instruction.Operand.TheVariants.{Register, Immediate}
use Rattle.pdp_code.specs.declared.instruction.Reg.TheVariants.{R1}
use Rattle.pdp_code.specs.declared.instruction.RegisterOp.TheVariants.{Mul}
use Rattle.pdp_code.specs.Code.{more_words, words_of as instr_words}
use Rattle.rt_icode.specs.declared.ins.Ins.{Ins}
use Rattle.rt_icode.specs.declared.ins.Ins.TheVariants as ins
use Rattle.rt_icode.specs.declared.ins.Alter.TheVariants as alter
use Rattle.rt_icode.specs.declared.ins.Merge.TheVariants as merge
use Rattle.rt_icode.specs.declared.ins.Width.TheVariants as width
use Rattle.rt_templates.specs.declared.layout.Layout.{Layout}
use Rattle.rt_templates.specs.declared.line.Line.{Line}
use Rattle.rt_templates.specs.Lines.{words, marks, quiet, on, put}
use Rattle.rt_templates.specs.Layouts.{layout_of}
use Rattle.rt_templates.specs.Places.{scale, element_of, element_behind}
use Rattle.rt_templates.specs.Calls.{recovery, drop_words, kept}
use Rattle.rt_templates.specs.Templates.{template, templates}
use Rattle.rt_templates.specs.Expanded.{code_of}
use Rattle.rt_templates_laws.specs.Laws.{IsSmall}

zeros_long : (ws : List ℕ) → length {A = ℕ} (map (λ _. 0) ws) ≡ length ws
zeros_long [] = refl
zeros_long (w ∷ ws) = ap suc (zeros_long ws)

pub one_each : (ls : List Line) → length (marks ls) ≡ length (words ls)
one_each [] = refl
one_each (l ∷ ls) = omega (arith, length-append (l.mark ∷ map (λ _. 0) (more_words l.instr)) (marks ls), zeros_long (more_words l.instr), length-append (instr_words l.instr) (words ls), one_each ls)

-- ---- lines with marks of 0 and 1

abbrev pub small : List Line → Bool
small [] = true
small (l ∷ ls) = nat_le l.mark 1 && small ls

pub and_first : (a b : Bool) → (a && b) ≡ true → a ≡ true
and_first true b e = refl
and_first false b e = e

pub and_second : (a b : Bool) → (a && b) ≡ true → b ≡ true
and_second true b e = e
and_second false true e = refl
and_second false false e = e

small_append : (xs ys : List Line) → small xs ≡ true → small ys ≡ true → small (xs ++ ys) ≡ true
small_append [] ys e h = h
small_append (l ∷ xs) ys e h = rw (and_first (nat_le l.mark 1) (small xs) e, small_append xs ys (and_second (nat_le l.mark 1) (small xs) e) h) refl

zeros_small : (ws rest : List ℕ) → AllByRecursion IsSmall rest → AllByRecursion IsSmall (map (λ _. 0) ws ++ rest)
zeros_small [] rest h = h
zeros_small (w ∷ ws) rest h = (omega arith, zeros_small ws rest h)

marks_small : (ls : List Line) → small ls ≡ true → AllByRecursion IsSmall (marks ls)
marks_small [] e = tt
marks_small (l ∷ ls) e = (leb-true l.mark 1 (and_first (nat_le l.mark 1) (small ls) e), zeros_small (more_words l.instr) (marks ls) (marks_small ls (and_second (nat_le l.mark 1) (small ls) e)))

-- ---- each template

cleared : (n : ℕ) → small (replicate n (quiet (on Clr put))) ≡ true
cleared zero = refl
cleared (suc n) = cleared n

recorded : (r : Bool) → small (recovery r) ≡ true
recorded true = refl
recorded false = refl

scaled : (size : ℕ) → small (scale size) ≡ true
scaled size = by (size == 1) (size == 2) where
  by : (a b : Bool) → small (if a then [] else (if b then quiet (on Asl (Register R1)) ∷ [] else quiet (OnRegister Mul R1 (Immediate size)) ∷ [])) ≡ true
  by true b = refl
  by false true = refl
  by false false = refl

kept_small : (gives : Bool) → small (kept gives) ≡ true
kept_small true = refl
kept_small false = refl

dropped : (n : ℕ) → small (if n == 0 then [] else drop_words n) ≡ true
dropped n = by (n == 0) where
  by : (b : Bool) → small (if b then [] else drop_words n) ≡ true
  by true = refl
  by false = refl

template_small : (f : Layout) (k : ℕ) (i : Ins) → small (template f k i) ≡ true
template_small f k (ins.Enter b p l r) = small_append (replicate l (quiet (on Clr put))) (recovery r) (cleared l) (recorded r)
template_small f k (ins.ElementAt p n s) = small_append (scale s) (element_of p) (scaled s) refl
template_small f k (ins.Element n s) = small_append (scale s) element_behind (scaled s) refl
template_small f k (ins.ElementRow s) = small_append (scale s) element_behind (scaled s) refl
template_small f k (ins.Invoke b n gives) = small_append (if n == 0 then [] else drop_words n) (kept gives) (dropped n) (kept_small gives)
template_small f k (ins.InvokeBy n gives) = kept_small gives
template_small f k (ins.Const n) = refl
template_small f k (ins.Text n) = refl
template_small f k (ins.Routine b) = refl
template_small f k (ins.LoadLocal i) = refl
template_small f k (ins.SaveLocal i) = refl
template_small f k (ins.ClearLocal i) = refl
template_small f k ins.Discard = refl
template_small f k (ins.Reach p) = refl
template_small f k (ins.ReachRow p n) = refl
template_small f k (ins.LoadOwn j) = refl
template_small f k (ins.SaveOwn j) = refl
template_small f k (ins.Load width.Byte p) = refl
template_small f k (ins.Load width.Word p) = refl
template_small f k (ins.Save width.Byte p) = refl
template_small f k (ins.Save width.Word p) = refl
template_small f k (ins.Into j o) = refl
template_small f k (ins.IntoRow j o n) = refl
template_small f k (ins.Fetch width.Byte) = refl
template_small f k (ins.Fetch width.Word) = refl
template_small f k (ins.Store width.Byte) = refl
template_small f k (ins.Store width.Word) = refl
template_small f k (ins.Tell n) = refl
template_small f k ins.Length = refl
template_small f k (ins.Alter alter.Negate) = refl
template_small f k (ins.Alter alter.Absolute) = refl
template_small f k (ins.Alter alter.Complement) = refl
template_small f k (ins.Alter alter.LowByte) = refl
template_small f k (ins.Merge merge.Plus) = refl
template_small f k (ins.Merge merge.Minus) = refl
template_small f k (ins.Merge merge.Times) = refl
template_small f k (ins.Merge merge.FracTimes) = refl
template_small f k (ins.Merge merge.Land) = refl
template_small f k (ins.Merge merge.Lor) = refl
template_small f k (ins.Merge merge.Nev) = refl
template_small f k (ins.Merge merge.Sll) = refl
template_small f k (ins.Merge merge.Srl) = refl
template_small f k (ins.Merge merge.Sla) = refl
template_small f k (ins.Merge merge.Sra) = refl
template_small f k (ins.Divide d) = refl
template_small f k (ins.DivideOr d) = refl
template_small f k ins.Report = refl
template_small f k (ins.Test r w n) = refl
template_small f k (ins.Skip n) = refl
template_small f k (ins.Go to) = refl
template_small f k (ins.Case to) = refl
template_small f k (ins.CountFor j n) = refl
template_small f k (ins.CountTo j n) = refl
template_small f k (ins.TurnFor j to) = refl
template_small f k (ins.TurnTo j to) = refl
template_small f k ins.GiveUp = refl
template_small f k ins.Leave = refl
template_small f k (ins.Recover to) = refl
template_small f k ins.Restore = refl

templates_small : (f : Layout) (k : ℕ) (is : List Ins) → small (templates f k is) ≡ true
templates_small f k [] = refl
templates_small f k (i ∷ is) = small_append (template f k i) (templates f (k + 1) is) (template_small f k i) (templates_small f (k + 1) is)

pub code_marked : (code : List Ins) → length (code_of code).marks ≡ length (code_of code).words
code_marked code = one_each (templates (layout_of code) 0 code)

pub code_small : (code : List Ins) → AllByRecursion IsSmall (code_of code).marks
code_small code = marks_small (templates (layout_of code) 0 code) (templates_small (layout_of code) 0 code)

-- of any lines, the support code's among them
pub lines_small : (ls : List Line) → small ls ≡ true → AllByRecursion IsSmall (marks ls)
lines_small = marks_small
