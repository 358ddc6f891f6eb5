-- The intermediate code of values and places. Operands and arguments are put from left to right.
use Rattle.std.specs.Prelude.{ℕ, ◌+◌, ◌==◌, Bool, true, false, ◌||◌, not, if◌then◌else◌, List, [], ◌∷◌, ◌++◌}
use Rattle.rt_modes.specs.declared.mode.Mode.{Mode}
use Rattle.rt_tree_nodes.specs.declared.operators.Op1.{Op1}
use Rattle.rt_tree_nodes.specs.declared.operators.Op1.TheVariants as one
use Rattle.rt_tree_nodes.specs.declared.operators.Op2.{Op2}
use Rattle.rt_tree_nodes.specs.declared.operators.Op2.TheVariants as two
use Rattle.rt_tree_nodes.specs.Tree.{Term, Num, Str, Name, Own, Get, Ref, RefRow, Count, CountRow, One, Two, Over, Apply, ApplyBy, Path, ItemAt, Svc, FieldOf, Elem, ElemRow, Past, Terms, NoTerm, MoreTerms}
use Rattle.rt_tree_nodes.specs.Typing.{is_byte}
use Rattle.rt_work_state.specs.Items.{how_many}
use Rattle.rt_icode.specs.declared.ins.Alter.TheVariants as alter
use Rattle.rt_icode.specs.declared.ins.Division.{Division}
use Rattle.rt_icode.specs.declared.ins.Division.TheVariants as division
use Rattle.rt_icode.specs.declared.ins.Fixed.{Fixed}
use Rattle.rt_icode.specs.declared.ins.Merge.TheVariants as merge
use Rattle.rt_icode.specs.declared.ins.OwnItem.{OwnItem}
use Rattle.rt_icode.specs.declared.ins.OwnItem.TheVariants as item
use Rattle.rt_icode.specs.declared.ins.Width.{Width}
use Rattle.rt_icode.specs.declared.ins.Width.TheVariants as width
use Rattle.rt_icode.specs.declared.ins.Ins.{Ins}
use Rattle.rt_icode.specs.declared.ins.Ins.TheVariants as ins
use Rattle.rt_lower.specs.declared.layouts.Layouts.{Layouts}
use Rattle.rt_lower.specs.declared.site.Site.{Site}
use Rattle.rt_lower.specs.declared.site.Site.TheVariants as site
use Rattle.rt_lower.specs.Layouts.{item_offset, field_offset, bytes}

-- ---- what a place is

-- a BYTE is read and written as one, and all else as a word
abbrev pub width_of : Mode → Width
width_of m = if is_byte m then width.Byte else width.Word

-- the items of the task's own data from 1 on; ERL, which is 0, is neither read nor written
abbrev pub own_item : ℕ → OwnItem
own_item k = if k == 1 then item.Ern else if k == 2 then item.Erp else if k == 3 then item.In else item.Out

-- field k of record r in a fixed place
abbrev pub inside : Layouts → ℕ → ℕ → Fixed → Fixed
inside l r k f = record { brick = f.brick; item = f.item; fields = f.fields ++ k ∷ []; offset = f.offset + field_offset l r k }

abbrev pub field_site : Layouts → ℕ → ℕ → Site → Site
field_site l r k (site.Fixed f) = site.Fixed (inside l r k f)
field_site l r k _ = site.Stacked

-- what a place is: the task's own, fixed, or one whose address is put on the stack
abbrev pub site_of : Layouts → Path → Site
site_of l (ItemAt b i) = site.Fixed (record { brick = b; item = i; fields = []; offset = item_offset l b i })
site_of l (Svc k) = site.Own (own_item k)
site_of l (FieldOf p r k) = field_site l r k (site_of l p)
site_of l _ = site.Stacked

-- the code of an address, where it is wanted
abbrev pub wanted : Site → List Ins → List Ins
wanted site.Stacked code = code
wanted _ code = []

-- ---- what is done with a place, behind the code of its address where that is wanted

abbrev pub read : Width → Site → Ins
read z (site.Own k) = ins.LoadOwn k
read z (site.Fixed f) = ins.Load z f
read z site.Stacked = ins.Fetch z

abbrev pub written : Width → Site → Ins
written z (site.Own k) = ins.SaveOwn k
written z (site.Fixed f) = ins.Save z f
written z site.Stacked = ins.Store z

-- its address; that of the task's own is put nowhere
abbrev pub reached : Site → List Ins
reached (site.Fixed f) = ins.Reach f ∷ []
reached _ = []

-- the row of an array of n, where `otherwise` makes it of the address
abbrev pub row_reached : ℕ → List Ins → Site → List Ins
row_reached n otherwise (site.Fixed f) = ins.ReachRow f n ∷ []
row_reached n otherwise _ = otherwise

-- the LENGTH of an array of n
abbrev pub told : ℕ → Site → Ins
told n (site.Fixed f) = ins.Const n
told n _ = ins.Tell n

-- an element of s bytes of an array of n, behind the code of its subscript
abbrev pub element : ℕ → ℕ → Site → Ins
element n s (site.Fixed f) = ins.ElementAt f n s
element n s _ = ins.Element n s

-- ---- operators

-- the plus sign, INT and FRAC change no word
abbrev pub altered : Op1 → List Ins
altered one.Minus = ins.Alter alter.Negate ∷ []
altered one.Abs = ins.Alter alter.Absolute ∷ []
altered one.Not = ins.Alter alter.Complement ∷ []
altered one.Byte = ins.Alter alter.LowByte ∷ []
altered _ = []

-- of which operand a division is; MOD is the other
abbrev pub division_of : Op2 → Division
division_of two.Divide = division.Quotient
division_of _ = division.Remainder

abbrev pub merged : Op2 → Ins
merged two.Sll = ins.Merge merge.Sll
merged two.Srl = ins.Merge merge.Srl
merged two.Sla = ins.Merge merge.Sla
merged two.Sra = ins.Merge merge.Sra
merged two.Times = ins.Merge merge.Times
merged two.FracTimes = ins.Merge merge.FracTimes
merged two.Land = ins.Merge merge.Land
merged two.Plus = ins.Merge merge.Plus
merged two.Minus = ins.Merge merge.Minus
merged two.Lor = ins.Merge merge.Lor
merged two.Nev = ins.Merge merge.Nev
merged o = ins.Divide (division_of o)

-- whether a division by this number can't fail: by neither 0 nor -1
abbrev pub is_safe : ℕ → Bool
is_safe n = not (n == 0 || n == 65535)

-- a number item; what is computed may be any number
abbrev pub is_sure : Term → Bool
is_sure (Num n) = is_safe n
is_sure _ = false

abbrev pub divided : Op2 → Bool → List Ins
divided o true = ins.Divide (division_of o) ∷ []
divided o false = ins.DivideOr (division_of o) ∷ ins.LoadOwn item.Erp ∷ ins.Report ∷ []

-- ---- values, and the addresses that are put on the stack

module _ (l : Layouts) where
  abbrev mutual
    pub value : Term → List Ins
    value (Num n) = ins.Const n ∷ []
    value (Str n) = ins.Text n ∷ []
    value (Name b) = ins.Routine b ∷ []
    value (Own i) = ins.LoadLocal i ∷ []
    value (Get m p) = wanted (site_of l p) (address p) ++ read (width_of m) (site_of l p) ∷ []
    value (Ref p) = wanted (site_of l p) (address p) ++ reached (site_of l p)
    value (RefRow (FieldOf p r k) n) = wanted (site_of l (FieldOf p r k)) (address p) ++ row_reached n (ins.IntoRow k (field_offset l r k) n ∷ []) (site_of l (FieldOf p r k))
    value (RefRow p n) = wanted (site_of l p) (address p) ++ row_reached n [] (site_of l p)
    value (Count p n) = wanted (site_of l p) (address p) ++ told n (site_of l p) ∷ []
    value (CountRow v) = value v ++ ins.Length ∷ []
    value (One o v) = value v ++ altered o
    value (Two o a b) = value a ++ (value b ++ merged o ∷ [])
    value (Over o a b) = value a ++ (value b ++ divided o (is_sure b))
    value (Apply b vs) = values vs ++ ins.Invoke b (how_many vs) true ∷ []
    value (ApplyBy m f vs) = value f ++ (values vs ++ ins.InvokeBy (how_many vs) true ∷ [])

    pub address : Path → List Ins
    address (FieldOf p r k) = address p ++ ins.Into k (field_offset l r k) ∷ []
    address (Elem p v n m) = wanted (site_of l p) (address p) ++ (value v ++ element n (bytes l m) (site_of l p) ∷ [])
    address (ElemRow a v m) = value a ++ (value v ++ ins.ElementRow (bytes l m) ∷ [])
    address (Past v) = value v
    address _ = []

    pub values : Terms → List Ins
    values NoTerm = []
    values (MoreTerms v vs) = value v ++ values vs

  -- a call that stands alone: its result isn't kept, and what isn't a call is dropped
  abbrev pub alone : Term → List Ins
  alone (Apply b vs) = values vs ++ ins.Invoke b (how_many vs) false ∷ []
  alone (ApplyBy m f vs) = value f ++ (values vs ++ ins.InvokeBy (how_many vs) false ∷ [])
  alone v = value v ++ ins.Discard ∷ []
