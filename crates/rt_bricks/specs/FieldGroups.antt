-- The line of fields as the language has it, mode by mode.
use Rattle.std.specs.Prelude.{ℕ, List, [], ◌∷◌}
use Rattle.rt_pieces.specs.declared.item.Item.{Item}
use Rattle.rt_pieces.specs.declared.item.Mark.TheVariants as m
use Rattle.rt_grammar.specs.declared.at.Ident.{Ident}
use Rattle.rt_grammar.specs.Parts.{Part, nothing, ◌>>=◌, turns, here, mark, ident, push}
use Rattle.rt_syntax_exprs.specs.declared.limits.Context.{Context}
use Rattle.rt_syntax_exprs.specs.declared.tree.WrittenMode.{WrittenMode}
use Rattle.rt_syntax_exprs.specs.Modes.{written_mode}
use Rattle.rt_bricks.specs.declared.tree.Fields.{Fields}
use Rattle.rt_bricks.specs.Declarations.{fields}

-- , name
abbrev pub further_name : Context → Part Ident
further_name c = do _ ← mark m.Comma; ident c.total

-- mode name {, name}
abbrev pub group : Context → Part WrittenMode → Part Fields
group c mode = do
  at ← here c.total
  md ← mode
  n ← ident c.total
  ns ← turns push (n ∷ []) (further_name c)
  nothing (record { mode = md; names = ns; at = at })

-- , mode name {, name}
abbrev pub further_group : Context → Part WrittenMode → Part Fields
further_group c mode = do _ ← mark m.Comma; group c mode

-- mode name {, name} {, mode name {, name}}
abbrev pub groups : Context → Part WrittenMode → Part (List Fields)
groups c mode = do
  first ← group c mode
  turns push (first ∷ []) (further_group c mode)

-- two parts that say the same
pub record SayTheSame {A : Type 0} (P Q : Part A) : Type 0 where
  pub fits : (l r : List Item) (a : A) → P.Fits l r a → Q.Fits l r a
  pub fits_back : (l r : List Item) (a : A) → Q.Fits l r a → P.Fits l r a
  pub begins : (l r : List Item) → P.Begins l r → Q.Begins l r
  pub begins_back : (l r : List Item) → Q.Begins l r → P.Begins l r

-- Fields by groups and fields name by name say the same.
abbrev pub FieldsAreGroups : Context → ℕ → ℕ → Type 0
FieldsAreGroups c modes parentheses = SayTheSame (groups c (written_mode c modes parentheses)) (fields c (written_mode c modes parentheses))
