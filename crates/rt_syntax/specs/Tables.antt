-- What a statement begins with.
use Rattle.std.specs.Prelude.{Bool, true, false}
use Rattle.rt_pieces.specs.declared.item.Word.TheVariants as w
use Rattle.rt_grammar.specs.declared.next.Next.{Next}
use Rattle.rt_grammar.specs.declared.next.Next.TheVariants as next

-- what a statement without its labels begins with
unfoldable pub begins_simple : Next → Bool
begins_simple next.Name = true
begins_simple (next.Word w.Val) = true
begins_simple (next.Word w.Goto) = true
begins_simple (next.Word w.Return) = true
begins_simple (next.Word w.Switch) = true
begins_simple (next.Word w.Block) = true
begins_simple (next.Word w.If) = true
begins_simple (next.Word w.For) = true
begins_simple (next.Word w.To) = true
begins_simple (next.Word w.While) = true
begins_simple _ = false
