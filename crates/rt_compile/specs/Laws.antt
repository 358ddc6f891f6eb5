-- Laws of what is compiled of texts.
use Rattle.std.specs.Prelude.{◌≡◌, ℕ, List}
use Rattle.rt_tree_nodes.specs.declared.brick.ModuleParts.{ModuleParts}
use Rattle.rt_check.specs.Texts.{IsTree}
use Rattle.rt_object.specs.declared.object.ObjectParts.{ObjectParts}
use Rattle.rt_compile.specs.Texts.{IsObjectOfText, HasLongCode}

-- a text has one object at most
abbrev pub OneObject : Type 0
OneObject = (text : List ℕ) (o q : ObjectParts) → IsObjectOfText text o → IsObjectOfText text q → o ≡ q

-- two texts of one tree have one object: of layout, comments and LETs nothing is left but how many items procedures have
abbrev pub OneOfTree : Type 0
OneOfTree = (text other : List ℕ) (tree : ModuleParts) (o : ObjectParts) → IsTree text tree → IsTree other tree → IsObjectOfText text o → IsObjectOfText other o

-- a text has none where the code of a procedure is too long
abbrev pub NoneWithLongCode : Type 0
NoneWithLongCode = (text : List ℕ) (o : ObjectParts) (name : List ℕ) → IsObjectOfText text o → HasLongCode text name → ⊥

-- the first procedure whose code is too long is one
abbrev pub OneLongCode : Type 0
OneLongCode = (text name other : List ℕ) → HasLongCode text name → HasLongCode text other → name ≡ other
