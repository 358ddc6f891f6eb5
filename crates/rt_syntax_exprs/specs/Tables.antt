-- Operators, relations and first words, by what comes next.
use Rattle.std.specs.Prelude.{Bool, true, false, Option, Some, None}
use Rattle.rt_pieces.specs.declared.item.Mark.TheVariants as m
use Rattle.rt_pieces.specs.declared.item.Word.TheVariants as w
use Rattle.rt_grammar.specs.declared.next.Next.{Next}
use Rattle.rt_grammar.specs.declared.next.Next.TheVariants as next
use Rattle.rt_syntax_exprs.specs.declared.tree.Op1.{Op1}
use Rattle.rt_syntax_exprs.specs.declared.tree.Op1.TheVariants as one
use Rattle.rt_syntax_exprs.specs.declared.tree.Op2.{Op2}
use Rattle.rt_syntax_exprs.specs.declared.tree.Op2.TheVariants as two
use Rattle.rt_syntax_exprs.specs.declared.tree.Rel.{Rel}
use Rattle.rt_syntax_exprs.specs.declared.tree.Rel.TheVariants as rel
use Rattle.rt_syntax_exprs.specs.declared.tree.BasicMode.{BasicMode}
use Rattle.rt_syntax_exprs.specs.declared.tree.BasicMode.TheVariants as basic
use Rattle.rt_syntax_exprs.specs.declared.table.Level.{Level}
use Rattle.rt_syntax_exprs.specs.declared.table.Level.TheVariants as level

unfoldable pub monadic_of : Next → Option Op1
monadic_of (next.Mark m.Plus) = Some one.Plus
monadic_of (next.Mark m.Minus) = Some one.Minus
monadic_of (next.Word w.Abs) = Some one.Abs
monadic_of (next.Word w.Not) = Some one.Not
monadic_of (next.Word w.Length) = Some one.Length
monadic_of (next.Word w.Byte) = Some one.Byte
monadic_of (next.Word w.Int) = Some one.Int
monadic_of (next.Word w.Frac) = Some one.Frac
monadic_of _ = None

unfoldable pub shift_of : Next → Option Op2
shift_of (next.Word w.Sll) = Some two.Sll
shift_of (next.Word w.Srl) = Some two.Srl
shift_of (next.Word w.Sla) = Some two.Sla
shift_of (next.Word w.Sra) = Some two.Sra
shift_of _ = None

unfoldable pub product_of : Next → Option Op2
product_of (next.Mark m.Times) = Some two.Times
product_of (next.Mark m.Divide) = Some two.Divide
product_of (next.Word w.Mod) = Some two.Mod
product_of _ = None

unfoldable pub land_of : Next → Option Op2
land_of (next.Word w.Land) = Some two.Land
land_of _ = None

unfoldable pub sum_of : Next → Option Op2
sum_of (next.Mark m.Plus) = Some two.Plus
sum_of (next.Mark m.Minus) = Some two.Minus
sum_of (next.Word w.Lor) = Some two.Lor
sum_of (next.Word w.Nev) = Some two.Nev
sum_of _ = None

-- the dyadic operators of a level
unfoldable pub dyadic_of : Level → Next → Option Op2
dyadic_of level.Shift = shift_of
dyadic_of level.Product = product_of
dyadic_of level.Land = land_of
dyadic_of level.Sum = sum_of

unfoldable pub relation_of : Next → Option Rel
relation_of (next.Mark m.Equal) = Some rel.Equal
relation_of (next.Mark m.Unequal) = Some rel.Unequal
relation_of (next.Mark m.Less) = Some rel.Less
relation_of (next.Mark m.LessOrEqual) = Some rel.LessOrEqual
relation_of (next.Mark m.Greater) = Some rel.Greater
relation_of (next.Mark m.GreaterOrEqual) = Some rel.GreaterOrEqual
relation_of (next.Mark m.Same) = Some rel.Same
relation_of (next.Mark m.Different) = Some rel.Different
relation_of _ = None

unfoldable pub basic_of : Next → Option BasicMode
basic_of (next.Word w.Byte) = Some basic.Byte
basic_of (next.Word w.Int) = Some basic.Int
basic_of (next.Word w.Frac) = Some basic.Frac
basic_of (next.Word w.Label) = Some basic.Label
basic_of _ = None

-- what a result begins with
unfoldable pub begins_result : Next → Bool
begins_result (next.Word w.Byte) = true
begins_result (next.Word w.Int) = true
begins_result (next.Word w.Frac) = true
begins_result (next.Word w.Ref) = true
begins_result (next.Word w.Proc) = true
begins_result _ = false

-- the reserved words that a mode begins with
unfoldable pub begins_mode_by_word : Next → Bool
begins_mode_by_word (next.Word w.Byte) = true
begins_mode_by_word (next.Word w.Int) = true
begins_mode_by_word (next.Word w.Frac) = true
begins_mode_by_word (next.Word w.Label) = true
begins_mode_by_word (next.Word w.Array) = true
begins_mode_by_word (next.Word w.Ref) = true
begins_mode_by_word (next.Word w.Proc) = true
begins_mode_by_word _ = false

-- what a mode begins with
unfoldable pub begins_mode : Next → Bool
begins_mode next.Name = true
begins_mode (next.Word w.Byte) = true
begins_mode (next.Word w.Int) = true
begins_mode (next.Word w.Frac) = true
begins_mode (next.Word w.Label) = true
begins_mode (next.Word w.Array) = true
begins_mode (next.Word w.Ref) = true
begins_mode (next.Word w.Proc) = true
begins_mode _ = false

-- anything but ARRAY
unfoldable pub is_no_array : Next → Bool
is_no_array (next.Word w.Array) = false
is_no_array _ = true

-- what a link of a chain begins with
unfoldable pub is_link : Next → Bool
is_link (next.Mark m.Dot) = true
is_link (next.Mark m.Open) = true
is_link _ = false

-- what an expression begins with
unfoldable pub begins_expression : Next → Bool
begins_expression next.Name = true
begins_expression next.Number = true
begins_expression next.Text = true
begins_expression (next.Mark m.Open) = true
begins_expression (next.Mark m.Plus) = true
begins_expression (next.Mark m.Minus) = true
begins_expression (next.Word w.Val) = true
begins_expression (next.Word w.Abs) = true
begins_expression (next.Word w.Not) = true
begins_expression (next.Word w.Length) = true
begins_expression (next.Word w.Byte) = true
begins_expression (next.Word w.Int) = true
begins_expression (next.Word w.Frac) = true
begins_expression _ = false
