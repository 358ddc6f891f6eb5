-- The texts of instructions: the name, and its operands behind spaces.
use Rattle.std.specs.Prelude.{ℕ, Bool, if◌then◌else◌, List, [], ◌∷◌, ◌++◌, codes, decimal}
use Rattle.rt_tree_nodes.specs.declared.operators.Rel.{Rel}
use Rattle.rt_tree_nodes.specs.declared.operators.Rel.TheVariants as rel
use Rattle.rt_icode.specs.declared.ins.Alter.{Alter}
use Rattle.rt_icode.specs.declared.ins.Alter.TheVariants as alter
use Rattle.rt_icode.specs.declared.ins.Division.{Division}
use Rattle.rt_icode.specs.declared.ins.Division.TheVariants as division
use Rattle.rt_icode.specs.declared.ins.Fixed.{Fixed}
use Rattle.rt_icode.specs.declared.ins.Merge.{Merge}
use Rattle.rt_icode.specs.declared.ins.Merge.TheVariants as merge
use Rattle.rt_icode.specs.declared.ins.OwnItem.{OwnItem}
use Rattle.rt_icode.specs.declared.ins.OwnItem.TheVariants as item
use Rattle.rt_icode.specs.declared.ins.Width.{Width}
use Rattle.rt_icode.specs.declared.ins.Width.TheVariants as width
use Rattle.rt_icode.specs.declared.ins.Ins.{Ins}
use Rattle.rt_icode.specs.declared.ins.Ins.TheVariants as ins

-- ---- operands

abbrev pub numbers : List ℕ → List ℕ
numbers [] = []
numbers (n ∷ ns) = codes " " ++ decimal n ++ numbers ns

abbrev pub parts : List ℕ → List ℕ
parts [] = []
parts (n ∷ ns) = codes "." ++ decimal n ++ parts ns

-- the brick, the item and the fields, and how many bytes of the brick stand before the place
abbrev pub place_text : Fixed → List ℕ
place_text f = codes " " ++ decimal f.brick ++ parts (f.item ∷ f.fields) ++ codes "+" ++ decimal f.offset

abbrev pub width_text : Width → List ℕ
width_text width.Byte = codes " Byte"
width_text width.Word = codes " Word"

abbrev pub item_text : OwnItem → List ℕ
item_text item.Ern = codes " ERN"
item_text item.Erp = codes " ERP"
item_text item.In = codes " IN"
item_text item.Out = codes " OUT"

abbrev pub alter_text : Alter → List ℕ
alter_text alter.Negate = codes " -"
alter_text alter.Absolute = codes " ABS"
alter_text alter.Complement = codes " NOT"
alter_text alter.LowByte = codes " BYTE"

abbrev pub merge_text : Merge → List ℕ
merge_text merge.Plus = codes " +"
merge_text merge.Minus = codes " -"
merge_text merge.Times = codes " *"
merge_text merge.FracTimes = codes " * of FRAC"
merge_text merge.Land = codes " LAND"
merge_text merge.Lor = codes " LOR"
merge_text merge.Nev = codes " NEV"
merge_text merge.Sll = codes " SLL"
merge_text merge.Srl = codes " SRL"
merge_text merge.Sla = codes " SLA"
merge_text merge.Sra = codes " SRA"

abbrev pub division_text : Division → List ℕ
division_text division.Quotient = codes " :/"
division_text division.Remainder = codes " MOD"

abbrev pub relation_text : Rel → List ℕ
relation_text rel.Equal = codes " ="
relation_text rel.Unequal = codes " #"
relation_text rel.Less = codes " <"
relation_text rel.LessOrEqual = codes " <="
relation_text rel.Greater = codes " >"
relation_text rel.GreaterOrEqual = codes " >="
relation_text rel.Same = codes " :=:"
relation_text rel.Different = codes " :#:"

abbrev pub truth_text : Bool → List ℕ
truth_text b = if b then codes " true" else codes " false"

-- whether a result is kept
abbrev pub kept_text : Bool → List ℕ
kept_text b = if b then codes " kept" else []

abbrev pub recovers_text : Bool → List ℕ
recovers_text b = if b then codes " recovers" else []

-- ---- instructions

abbrev pub name_of : Ins → List ℕ
name_of (ins.Enter b p l r) = codes "Enter"
name_of (ins.Const n) = codes "Const"
name_of (ins.Text n) = codes "Text"
name_of (ins.Routine b) = codes "Routine"
name_of (ins.LoadLocal i) = codes "LoadLocal"
name_of (ins.SaveLocal i) = codes "SaveLocal"
name_of (ins.ClearLocal i) = codes "ClearLocal"
name_of ins.Discard = codes "Discard"
name_of (ins.Reach f) = codes "Reach"
name_of (ins.ReachRow f n) = codes "ReachRow"
name_of (ins.Load z f) = codes "Load"
name_of (ins.Save z f) = codes "Save"
name_of (ins.ElementAt f n s) = codes "ElementAt"
name_of (ins.LoadOwn k) = codes "LoadOwn"
name_of (ins.SaveOwn k) = codes "SaveOwn"
name_of (ins.Into k o) = codes "Into"
name_of (ins.IntoRow k o n) = codes "IntoRow"
name_of (ins.Element n s) = codes "Element"
name_of (ins.ElementRow s) = codes "ElementRow"
name_of (ins.Fetch z) = codes "Fetch"
name_of (ins.Store z) = codes "Store"
name_of (ins.Tell n) = codes "Tell"
name_of ins.Length = codes "Length"
name_of (ins.Alter a) = codes "Alter"
name_of (ins.Merge m) = codes "Merge"
name_of (ins.Divide d) = codes "Divide"
name_of (ins.DivideOr d) = codes "DivideOr"
name_of ins.Report = codes "Report"
name_of (ins.Test r w n) = codes "Test"
name_of (ins.Skip n) = codes "Skip"
name_of (ins.Go to) = codes "Go"
name_of (ins.Case to) = codes "Case"
name_of (ins.CountFor i n) = codes "CountFor"
name_of (ins.CountTo i n) = codes "CountTo"
name_of (ins.TurnFor i to) = codes "TurnFor"
name_of (ins.TurnTo i to) = codes "TurnTo"
name_of (ins.Invoke b n gives) = codes "Invoke"
name_of (ins.InvokeBy n gives) = codes "InvokeBy"
name_of ins.GiveUp = codes "GiveUp"
name_of ins.Leave = codes "Leave"
name_of (ins.Recover to) = codes "Recover"
name_of ins.Restore = codes "Restore"

abbrev pub operands_of : Ins → List ℕ
operands_of (ins.Enter b p l r) = numbers (b ∷ p ∷ l ∷ []) ++ recovers_text r
operands_of (ins.Const n) = numbers (n ∷ [])
operands_of (ins.Text n) = numbers (n ∷ [])
operands_of (ins.Routine b) = numbers (b ∷ [])
operands_of (ins.LoadLocal i) = numbers (i ∷ [])
operands_of (ins.SaveLocal i) = numbers (i ∷ [])
operands_of (ins.ClearLocal i) = numbers (i ∷ [])
operands_of (ins.Reach f) = place_text f
operands_of (ins.ReachRow f n) = place_text f ++ numbers (n ∷ [])
operands_of (ins.Load z f) = width_text z ++ place_text f
operands_of (ins.Save z f) = width_text z ++ place_text f
operands_of (ins.ElementAt f n s) = place_text f ++ numbers (n ∷ s ∷ [])
operands_of (ins.LoadOwn k) = item_text k
operands_of (ins.SaveOwn k) = item_text k
operands_of (ins.Into k o) = numbers (k ∷ o ∷ [])
operands_of (ins.IntoRow k o n) = numbers (k ∷ o ∷ n ∷ [])
operands_of (ins.Element n s) = numbers (n ∷ s ∷ [])
operands_of (ins.ElementRow s) = numbers (s ∷ [])
operands_of (ins.Fetch z) = width_text z
operands_of (ins.Store z) = width_text z
operands_of (ins.Tell n) = numbers (n ∷ [])
operands_of (ins.Alter a) = alter_text a
operands_of (ins.Merge m) = merge_text m
operands_of (ins.Divide d) = division_text d
operands_of (ins.DivideOr d) = division_text d
operands_of (ins.Test r w n) = relation_text r ++ truth_text w ++ numbers (n ∷ [])
operands_of (ins.Skip n) = numbers (n ∷ [])
operands_of (ins.Go to) = numbers (to ∷ [])
operands_of (ins.Case to) = numbers (to ∷ [])
operands_of (ins.CountFor i n) = numbers (i ∷ n ∷ [])
operands_of (ins.CountTo i n) = numbers (i ∷ n ∷ [])
operands_of (ins.TurnFor i to) = numbers (i ∷ to ∷ [])
operands_of (ins.TurnTo i to) = numbers (i ∷ to ∷ [])
operands_of (ins.Invoke b n gives) = numbers (b ∷ n ∷ []) ++ kept_text gives
operands_of (ins.InvokeBy n gives) = numbers (n ∷ []) ++ kept_text gives
operands_of (ins.Recover to) = numbers (to ∷ [])
operands_of _ = []

abbrev pub text_of : Ins → List ℕ
text_of i = name_of i ++ operands_of i
