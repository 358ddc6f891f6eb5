-- How many words each template has.
use Rattle.std.proofs.Common.{◌≡◌, ℕ, ◌+◌, ◌==◌, Bool, true, false, if◌then◌else◌, List, [], ◌∷◌, ◌++◌, length, replicate, refl, ap, ◌∙◌, arith, length-append}
use Rattle.pdp_code.specs.declared.instruction.Instr.TheVariants.{OnRegister}
use Rattle.pdp_code.specs.declared.instruction.Operand.TheVariants.{Register, Immediate}
use Rattle.pdp_code.specs.declared.instruction.Reg.TheVariants.{R1}
use Rattle.pdp_code.specs.declared.instruction.RegisterOp.TheVariants.{Mul}
use Rattle.pdp_code.specs.declared.instruction.SingleOp.TheVariants.{Clr, Asl}
use Rattle.rt_icode.specs.declared.ins.Ins.{Ins}
use Rattle.rt_icode.specs.declared.ins.Ins.TheVariants as ins
use Rattle.rt_icode.specs.declared.ins.Alter.TheVariants as alter
use Rattle.rt_icode.specs.declared.ins.Merge.TheVariants as merge
use Rattle.rt_icode.specs.declared.ins.OwnItem.TheVariants as item
use Rattle.rt_icode.specs.declared.ins.Width.TheVariants as width
use Rattle.rt_icode.specs.Weights.{words_of, scale_words, kept_words, recovery_words}
use Rattle.rt_templates.specs.declared.layout.Layout.{Layout}
use Rattle.rt_templates.specs.declared.line.Line.{Line}
use Rattle.rt_templates.specs.Lines.{words, quiet, on, put}
use Rattle.rt_templates.specs.Places.{scale, element_of, element_behind}
use Rattle.rt_templates.specs.Calls.{recovery, drop_words, kept}
use Rattle.rt_templates.specs.Templates.{template}
use Rattle.rt_templates.proofs.Behind.{words_append, cleared_long}

pub long : (xs ys : List Line) → length (words (xs ++ ys)) ≡ length (words xs) + length (words ys)
long xs ys = ap length (words_append xs ys) ∙ length-append (words xs) (words ys)

-- ---- the parts whose length goes by an operand

recorded : (r : Bool) → length (words (recovery r)) ≡ recovery_words r
recorded true = refl
recorded false = refl

entered : (f : Layout) (k b p l : ℕ) (r : Bool) → length (words (template f k (ins.Enter b p l r))) ≡ words_of (ins.Enter b p l r)
entered f k b p l true = omega (arith, long (replicate l (quiet (on Clr put))) (recovery true), cleared_long l, recorded true)
entered f k b p l false = omega (arith, long (replicate l (quiet (on Clr put))) (recovery false), cleared_long l, recorded false)

scaled : (size : ℕ) → length (words (scale size)) ≡ scale_words size
scaled size = by (size == 1) (size == 2) where
  by : (a b : Bool) → length (words (if a then [] else (if b then quiet (on Asl (Register R1)) ∷ [] else quiet (OnRegister Mul R1 (Immediate size)) ∷ []))) ≡ (if a then 0 else (if b then 1 else 2))
  by true b = refl
  by false true = refl
  by false false = refl

scaled_before : (size : ℕ) (rest : List Line) → length (words (scale size ++ rest)) ≡ scale_words size + length (words rest)
scaled_before size rest = omega (arith, long (scale size) rest, scaled size)

kept_long : (gives : Bool) → length (words (kept gives)) ≡ kept_words gives
kept_long true = refl
kept_long false = refl

dropped : (n : ℕ) (gives : Bool) → length (words ((if n == 0 then [] else drop_words n) ++ kept gives)) + 2 ≡ kept_words gives + (if n == 0 then 2 else 4)
dropped n gives = by (n == 0) where
  by : (b : Bool) → length (words ((if b then [] else drop_words n) ++ kept gives)) + 2 ≡ kept_words gives + (if b then 2 else 4)
  by true = omega (arith, kept_long gives)
  by false = omega (arith, kept_long gives)

-- ---- each template

pub weighs : (f : Layout) (k : ℕ) (i : Ins) → length (words (template f k i)) ≡ words_of i
weighs f k (ins.Enter b p l r) = entered f k b p l r
weighs f k (ins.ElementAt p n s) = omega (arith, scaled_before s (element_of p))
weighs f k (ins.Element n s) = omega (arith, scaled_before s element_behind)
weighs f k (ins.ElementRow s) = omega (arith, scaled_before s element_behind)
weighs f k (ins.Invoke b n gives) = omega (arith, dropped n gives)
weighs f k (ins.InvokeBy n gives) = omega (arith, kept_long gives)
weighs f k (ins.Const n) = refl
weighs f k (ins.Text n) = refl
weighs f k (ins.Routine b) = refl
weighs f k (ins.LoadLocal i) = refl
weighs f k (ins.SaveLocal i) = refl
weighs f k (ins.ClearLocal i) = refl
weighs f k ins.Discard = refl
weighs f k (ins.Reach p) = refl
weighs f k (ins.ReachRow p n) = refl
weighs f k (ins.LoadOwn item.Ern) = refl
weighs f k (ins.LoadOwn item.Erp) = refl
weighs f k (ins.LoadOwn item.In) = refl
weighs f k (ins.LoadOwn item.Out) = refl
weighs f k (ins.SaveOwn item.Ern) = refl
weighs f k (ins.SaveOwn item.Erp) = refl
weighs f k (ins.SaveOwn item.In) = refl
weighs f k (ins.SaveOwn item.Out) = refl
weighs f k (ins.Load width.Byte p) = refl
weighs f k (ins.Load width.Word p) = refl
weighs f k (ins.Save width.Byte p) = refl
weighs f k (ins.Save width.Word p) = refl
weighs f k (ins.Into j o) = refl
weighs f k (ins.IntoRow j o n) = refl
weighs f k (ins.Fetch width.Byte) = refl
weighs f k (ins.Fetch width.Word) = refl
weighs f k (ins.Store width.Byte) = refl
weighs f k (ins.Store width.Word) = refl
weighs f k (ins.Tell n) = refl
weighs f k ins.Length = refl
weighs f k (ins.Alter alter.Negate) = refl
weighs f k (ins.Alter alter.Absolute) = refl
weighs f k (ins.Alter alter.Complement) = refl
weighs f k (ins.Alter alter.LowByte) = refl
weighs f k (ins.Merge merge.Plus) = refl
weighs f k (ins.Merge merge.Minus) = refl
weighs f k (ins.Merge merge.Times) = refl
weighs f k (ins.Merge merge.FracTimes) = refl
weighs f k (ins.Merge merge.Land) = refl
weighs f k (ins.Merge merge.Lor) = refl
weighs f k (ins.Merge merge.Nev) = refl
weighs f k (ins.Merge merge.Sll) = refl
weighs f k (ins.Merge merge.Srl) = refl
weighs f k (ins.Merge merge.Sla) = refl
weighs f k (ins.Merge merge.Sra) = refl
weighs f k (ins.Divide d) = refl
weighs f k (ins.DivideOr d) = refl
weighs f k ins.Report = refl
weighs f k (ins.Test r true n) = refl
weighs f k (ins.Test r false n) = refl
weighs f k (ins.Skip n) = refl
weighs f k (ins.Go to) = refl
weighs f k (ins.Case to) = refl
weighs f k (ins.CountFor j n) = refl
weighs f k (ins.CountTo j n) = refl
weighs f k (ins.TurnFor j to) = refl
weighs f k (ins.TurnTo j to) = refl
weighs f k ins.GiveUp = refl
weighs f k ins.Leave = refl
weighs f k (ins.Recover to) = refl
weighs f k ins.Restore = refl
