-- How the names of a module's records, and of the items of its data, are spelled.
use Rattle.std.specs.Prelude.{List}
use Rattle.std.specs.List.{AllByRecursion}
use Rattle.rt_pieces.specs.declared.item.Item.{Item}
use Rattle.rt_grammar.specs.declared.at.Ident.{Ident}
use Rattle.rt_bricks.specs.declared.tree.DataItem.{DataItem}
use Rattle.rt_bricks.specs.declared.tree.DataLine.{DataLine}
use Rattle.rt_bricks.specs.declared.tree.Declaration.{Declaration}
use Rattle.rt_bricks.specs.declared.tree.Declaration.TheVariants as declaration
use Rattle.rt_bricks.specs.declared.tree.Fields.{Fields}
use Rattle.rt_bricks.specs.declared.tree.Module.{Module}
use Rattle.rt_bricks.specs.Derives.{Derives}
use Rattle.rt_bricks_laws.specs.Spelled.{IsSpelledName, IsSpelled}

abbrev pub IdentSpelled : Ident → Type 0
IdentSpelled i = IsSpelledName i.name

-- the names of fields, or of items of imported data
abbrev pub FieldsSpelled : Fields → Type 0
FieldsSpelled g = AllByRecursion IdentSpelled g.names

abbrev pub ItemSpelled : DataItem → Type 0
ItemSpelled i = IdentSpelled i.name

-- the names of items of data
abbrev pub LineSpelled : DataLine → Type 0
LineSpelled l = AllByRecursion ItemSpelled l.items

-- A MODE's name and those of its fields are well spelled, and so are those of the items of data, be it of the module or imported.
abbrev pub DeclarationSpelled : Declaration → Type 0
DeclarationSpelled (declaration.Record r) = IdentSpelled r.name × AllByRecursion FieldsSpelled r.fields
DeclarationSpelled (declaration.Data b) = AllByRecursion LineSpelled b.lines
DeclarationSpelled (declaration.ImportedData x) = AllByRecursion FieldsSpelled x.lines
DeclarationSpelled _ = Unit {0}

-- Where each item is well spelled, so is each declaration.
abbrev pub DeclarationsAreSpelled : Type 0
DeclarationsAreSpelled = (items : List Item) (it : Module) → AllByRecursion IsSpelled items → Derives items it → AllByRecursion DeclarationSpelled it.declarations
