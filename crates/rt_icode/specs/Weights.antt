-- What instructions weigh on the machine: the words that they become, and the instructions without a visible step that they make
-- there at the most.
use Rattle.std.specs.Prelude.{ℕ, ◌+◌, ◌==◌, Bool, if◌then◌else◌}
use Rattle.rt_icode.specs.declared.ins.Alter.{Alter}
use Rattle.rt_icode.specs.declared.ins.Alter.TheVariants as alter
use Rattle.rt_icode.specs.declared.ins.Merge.{Merge}
use Rattle.rt_icode.specs.declared.ins.Merge.TheVariants as merge
use Rattle.rt_icode.specs.declared.ins.Width.{Width}
use Rattle.rt_icode.specs.declared.ins.Width.TheVariants as width
use Rattle.rt_icode.specs.declared.ins.Ins.{Ins}
use Rattle.rt_icode.specs.declared.ins.Ins.TheVariants as ins

-- ---- words

-- a subscript is scaled by the bytes of an element: not at all, by ASL or by MUL
abbrev pub scale_words : ℕ → ℕ
scale_words size = if size == 1 then 0 else if size == 2 then 1 else 2

abbrev pub alter_words : Alter → ℕ
alter_words alter.Negate = 1
alter_words alter.Complement = 1
alter_words alter.LowByte = 2
alter_words alter.Absolute = 3

abbrev pub merge_words : Merge → ℕ
merge_words merge.Plus = 1
merge_words merge.Minus = 1
merge_words merge.Lor = 1
merge_words merge.Land = 2
merge_words merge.Nev = 2
merge_words merge.Times = 3
merge_words merge.FracTimes = 5
merge_words merge.Sll = 6
merge_words merge.Sla = 6
merge_words merge.Sra = 7
merge_words merge.Srl = 8

abbrev pub load_words : Width → ℕ
load_words width.Byte = 3
load_words width.Word = 2

abbrev pub fetch_words : Width → ℕ
fetch_words width.Byte = 3
fetch_words width.Word = 1

-- a result that is kept is put on the stack
abbrev pub kept_words : Bool → ℕ
kept_words gives = if gives then 1 else 0

-- a procedure that recovers keeps a record in its frame
abbrev pub recovery_words : Bool → ℕ
recovery_words recovers = if recovers then 5 else 0

abbrev pub words_of : Ins → ℕ
words_of (ins.Enter b p l r) = l + (2 + recovery_words r)
words_of ins.Discard = 1
words_of (ins.Load z f) = load_words z
words_of (ins.Fetch z) = fetch_words z
words_of (ins.Store z) = 1
words_of (ins.ElementAt f n s) = 10 + scale_words s
words_of (ins.Element n s) = 10 + scale_words s
words_of (ins.ElementRow s) = 10 + scale_words s
words_of ins.Length = 1
words_of (ins.Alter a) = alter_words a
words_of (ins.Merge m) = merge_words m
words_of (ins.Divide d) = 3
words_of (ins.DivideOr d) = 4
words_of (ins.Test r w n) = 4
words_of (ins.Case to) = 5
words_of (ins.CountFor i n) = 12
words_of (ins.TurnFor i to) = 10
words_of (ins.CountTo i n) = 7
words_of (ins.TurnTo i to) = 7
words_of (ins.Invoke b n gives) = kept_words gives + (if n == 0 then 2 else 4)
words_of (ins.InvokeBy n gives) = 5 + kept_words gives
words_of ins.GiveUp = 3
words_of (ins.Recover to) = 4
words_of _ = 2

-- ---- instructions without a visible step

abbrev pub alter_unmarked : Alter → ℕ
alter_unmarked alter.Absolute = 3
alter_unmarked _ = 1

abbrev pub merge_unmarked : Merge → ℕ
merge_unmarked merge.Plus = 1
merge_unmarked merge.Minus = 1
merge_unmarked merge.Lor = 1
merge_unmarked merge.Land = 2
merge_unmarked merge.Nev = 2
merge_unmarked merge.Times = 3
merge_unmarked merge.FracTimes = 5
merge_unmarked merge.Sll = 5
merge_unmarked merge.Sla = 5
merge_unmarked merge.Sra = 6
merge_unmarked merge.Srl = 7

abbrev pub load_unmarked : Width → ℕ
load_unmarked width.Byte = 1
load_unmarked width.Word = 0

abbrev pub fetch_unmarked : Width → ℕ
fetch_unmarked width.Byte = 2
fetch_unmarked width.Word = 0

-- those of the support code's routines are counted: 11 of a division, 7 of an error in a subscript, 17 of the count of turns, 2 of the end
-- of a procedure
abbrev pub unmarked_of : Ins → ℕ
unmarked_of (ins.Enter b p l r) = l + (if r then 6 else 2)
unmarked_of (ins.Load z f) = load_unmarked z
unmarked_of (ins.Fetch z) = fetch_unmarked z
unmarked_of (ins.Save z f) = 0
unmarked_of (ins.LoadOwn k) = 0
unmarked_of (ins.SaveOwn k) = 0
unmarked_of (ins.Store z) = 0
unmarked_of (ins.Go to) = 0
unmarked_of ins.Restore = 0
unmarked_of (ins.ElementAt f n s) = 12
unmarked_of (ins.Element n s) = 12
unmarked_of (ins.ElementRow s) = 12
unmarked_of (ins.Alter a) = alter_unmarked a
unmarked_of (ins.Merge m) = merge_unmarked m
unmarked_of (ins.Divide d) = 13
unmarked_of (ins.DivideOr d) = 14
unmarked_of (ins.Test r w n) = 3
unmarked_of (ins.Case to) = 3
unmarked_of (ins.CountFor i n) = 24
unmarked_of (ins.TurnFor i to) = 4
unmarked_of (ins.CountTo i n) = 5
unmarked_of (ins.TurnTo i to) = 3
unmarked_of (ins.Invoke b n gives) = kept_words gives + (if n == 0 then 0 else 1)
unmarked_of (ins.InvokeBy n gives) = 2 + kept_words gives
unmarked_of ins.GiveUp = 4
unmarked_of ins.Leave = 3
unmarked_of _ = 1
