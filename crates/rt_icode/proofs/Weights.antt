-- Each instruction weighs something.
use Rattle.std.proofs.Common.{◌≡◌, ◌+◌, ◌≤◌, ◌==◌, Bool, true, false, if◌then◌else◌, List, [], ◌∷◌, length, map, sum, refl, arith}
use Rattle.std.proofs.lemmas.Bool.{leb-true}
use Rattle.std.proofs.lemmas.List.Sums.{sum-map, sum_by-cons}
use Rattle.rt_icode.specs.declared.ins.Ins.{Ins}
use Rattle.rt_icode.specs.declared.ins.Ins.TheVariants as ins
use Rattle.rt_icode.specs.declared.ins.Alter.TheVariants as alter
use Rattle.rt_icode.specs.declared.ins.Merge.TheVariants as merge
use Rattle.rt_icode.specs.declared.ins.Width.TheVariants as width
use Rattle.rt_icode.specs.Weights.{words_of, kept_words}

-- an instruction has a word
pub weighs_some : (i : Ins) → 1 ≤ words_of i
weighs_some (ins.Enter b p l true) = omega arith
weighs_some (ins.Enter b p l false) = omega arith
weighs_some (ins.ElementAt p n s) = omega arith
weighs_some (ins.Element n s) = omega arith
weighs_some (ins.ElementRow s) = omega arith
weighs_some (ins.Invoke b n gives) = by (n == 0) where
  by : (t : Bool) → 1 ≤ kept_words gives + (if t then 2 else 4)
  by true = omega arith
  by false = omega arith
weighs_some (ins.InvokeBy n gives) = omega arith
weighs_some (ins.Const n) = leb-true 1 _ refl
weighs_some (ins.Text n) = leb-true 1 _ refl
weighs_some (ins.Routine b) = leb-true 1 _ refl
weighs_some (ins.LoadLocal i) = leb-true 1 _ refl
weighs_some (ins.SaveLocal i) = leb-true 1 _ refl
weighs_some (ins.ClearLocal i) = leb-true 1 _ refl
weighs_some ins.Discard = leb-true 1 _ refl
weighs_some (ins.Reach p) = leb-true 1 _ refl
weighs_some (ins.ReachRow p n) = leb-true 1 _ refl
weighs_some (ins.LoadOwn j) = leb-true 1 _ refl
weighs_some (ins.SaveOwn j) = leb-true 1 _ refl
weighs_some (ins.Load width.Byte p) = leb-true 1 _ refl
weighs_some (ins.Load width.Word p) = leb-true 1 _ refl
weighs_some (ins.Save z p) = leb-true 1 _ refl
weighs_some (ins.Into j o) = leb-true 1 _ refl
weighs_some (ins.IntoRow j o n) = leb-true 1 _ refl
weighs_some (ins.Fetch width.Byte) = leb-true 1 _ refl
weighs_some (ins.Fetch width.Word) = leb-true 1 _ refl
weighs_some (ins.Store z) = leb-true 1 _ refl
weighs_some (ins.Tell n) = leb-true 1 _ refl
weighs_some ins.Length = leb-true 1 _ refl
weighs_some (ins.Alter alter.Negate) = leb-true 1 _ refl
weighs_some (ins.Alter alter.Absolute) = leb-true 1 _ refl
weighs_some (ins.Alter alter.Complement) = leb-true 1 _ refl
weighs_some (ins.Alter alter.LowByte) = leb-true 1 _ refl
weighs_some (ins.Merge merge.Plus) = leb-true 1 _ refl
weighs_some (ins.Merge merge.Minus) = leb-true 1 _ refl
weighs_some (ins.Merge merge.Times) = leb-true 1 _ refl
weighs_some (ins.Merge merge.FracTimes) = leb-true 1 _ refl
weighs_some (ins.Merge merge.Land) = leb-true 1 _ refl
weighs_some (ins.Merge merge.Lor) = leb-true 1 _ refl
weighs_some (ins.Merge merge.Nev) = leb-true 1 _ refl
weighs_some (ins.Merge merge.Sll) = leb-true 1 _ refl
weighs_some (ins.Merge merge.Srl) = leb-true 1 _ refl
weighs_some (ins.Merge merge.Sla) = leb-true 1 _ refl
weighs_some (ins.Merge merge.Sra) = leb-true 1 _ refl
weighs_some (ins.Divide d) = leb-true 1 _ refl
weighs_some (ins.DivideOr d) = leb-true 1 _ refl
weighs_some ins.Report = leb-true 1 _ refl
weighs_some (ins.Test r w n) = leb-true 1 _ refl
weighs_some (ins.Skip n) = leb-true 1 _ refl
weighs_some (ins.Go to) = leb-true 1 _ refl
weighs_some (ins.Case to) = leb-true 1 _ refl
weighs_some (ins.CountFor j n) = leb-true 1 _ refl
weighs_some (ins.CountTo j n) = leb-true 1 _ refl
weighs_some (ins.TurnFor j to) = leb-true 1 _ refl
weighs_some (ins.TurnTo j to) = leb-true 1 _ refl
weighs_some ins.GiveUp = leb-true 1 _ refl
weighs_some ins.Leave = leb-true 1 _ refl
weighs_some (ins.Recover to) = leb-true 1 _ refl
weighs_some ins.Restore = leb-true 1 _ refl

pub weigh_cons : (i : Ins) (is : List Ins) → sum (map words_of (i ∷ is)) ≡ words_of i + sum (map words_of is)
weigh_cons i is =
    let a = sum-map words_of (i ∷ is) in
    let b = sum_by-cons words_of i is in
    let c = sum-map words_of is in
    omega arith

-- so code has no more instructions than words
pub weigh_all : (is : List Ins) → length is ≤ sum (map words_of is)
weigh_all [] = omega arith
weigh_all (i ∷ is) = omega (arith, weighs_some i, weigh_all is, weigh_cons i is)
