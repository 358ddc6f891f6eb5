-- Signs and first words, by what comes next.
use Rattle.std.specs.Prelude.{Bool, true, false, Option, Some, None}
use Rattle.rt_pieces.specs.declared.item.Mark.TheVariants as m
use Rattle.rt_pieces.specs.declared.item.Word.TheVariants as w
use Rattle.rt_grammar.specs.declared.next.Next.{Next}
use Rattle.rt_grammar.specs.declared.next.Next.TheVariants as next
use Rattle.rt_bricks.specs.declared.tree.Sign.{Sign}
use Rattle.rt_bricks.specs.declared.tree.Sign.TheVariants as sign

unfoldable pub sign_of : Next → Option Sign
sign_of (next.Mark m.Plus) = Some sign.Plus
sign_of (next.Mark m.Minus) = Some sign.Minus
sign_of _ = None

-- any item but ;
unfoldable pub but_semicolon : Next → Option (Unit {0})
but_semicolon (next.Mark m.Semicolon) = None
but_semicolon next.End = None
but_semicolon _ = Some tt

-- what a declaration begins with
unfoldable pub begins_declaration : Next → Bool
begins_declaration (next.Word w.Mode) = true
begins_declaration (next.Word w.Data) = true
begins_declaration (next.Word w.Stack) = true
begins_declaration (next.Word w.Proc) = true
begins_declaration (next.Word w.Ent) = true
begins_declaration (next.Word w.Ext) = true
begins_declaration (next.Word w.Svc) = true
begins_declaration _ = false
