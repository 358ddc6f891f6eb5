-- The listing of an object. Lines end by a line feed, the last too; one space stands between fields.
use Rattle.std.specs.Prelude.{◌≡◌, ℕ, suc, ◌+◌, ◌*◌, List, [], ◌∷◌, ◌++◌, length, drop, codes, decimal, Some, slice_get}
use Rattle.rt_words.specs.Operators.{octal6}
use Rattle.rt_modes.specs.declared.mode.ModeTable.{ModeTable}
use Rattle.rt_object.specs.declared.object.Brick.{Brick}
use Rattle.rt_object.specs.declared.object.BrickKind.{BrickKind}
use Rattle.rt_object.specs.declared.object.BrickKind.TheVariants as kind
use Rattle.rt_object.specs.declared.object.Content.{Content}
use Rattle.rt_object.specs.declared.object.Content.TheVariants as content
use Rattle.rt_object.specs.declared.object.ObjectParts.{ObjectParts}
use Rattle.rt_match.specs.Signatures.{form_of, full_mode}
use Rattle.pdp_code.specs.Code.{words_of}
use Rattle.pdp_code.specs.Decode.{Begins}
use Rattle.pdp_code.specs.Text.{text_of}
use Rattle.pdp_code.specs.declared.instruction.Instr.{Instr}

-- ---- lines

abbrev pub title_line : List ℕ → List ℕ
title_line title = codes "TITLE " ++ title ++ codes "\n"

abbrev pub kind_text : BrickKind → List ℕ
kind_text (kind.Own c) = codes "OWN"
kind_text (kind.Ent c) = codes "ENT"
kind_text (kind.Ext e) = codes "EXT"
kind_text (kind.Svc s) = codes "SVC"

-- whose the brick is, its name, and its full mode over the records of the module
abbrev pub brick_line : ModeTable → Brick → List ℕ
brick_line t b = codes "BRICK " ++ kind_text b.kind ++ codes " " ++ b.name ++ codes " " ++ full_mode t (form_of b.kind) ++ codes "\n"

-- words in octal, each behind a space
abbrev pub words_text : List ℕ → List ℕ
words_text [] = []
words_text (w ∷ ws) = codes " " ++ octal6 w ++ words_text ws

-- the offset of the first word in bytes, the words, the mark of the first of them, and a text
abbrev pub code_line : ℕ → List ℕ → ℕ → List ℕ → List ℕ
code_line at words mark text = octal6 at ++ words_text words ++ codes " " ++ decimal mark ++ codes " " ++ text ++ codes "\n"

-- ---- code

-- The text of a code from a word on, of which each has a mark: instructions, each behind the one before. A word that begins no
-- instruction is a line of its own, and the next line begins behind it.
module _ (words marks : List ℕ) where
  pub data ListsFrom : ℕ → List ℕ → Type 0 where
    end : ListsFrom (length words) []
    instruction : {at mark : ℕ} (i : Instr) {rest : List ℕ} → Begins i (drop at words) → slice_get marks at ≡ Some mark → ListsFrom (at + length (words_of i)) rest
        → ListsFrom at (code_line (2 * at) (words_of i) mark (text_of i) ++ rest)
    word : {at w mark : ℕ} {rest : List ℕ} → slice_get words at ≡ Some w → ((i : Instr) → Begins i (drop at words) → ⊥) → slice_get marks at ≡ Some mark → ListsFrom (suc at) rest
        → ListsFrom at (code_line (2 * at) (w ∷ []) mark (codes "WORD") ++ rest)

-- the lines behind that of a brick: those of the code of a procedure of this module
abbrev pub ListsContent : Content → List ℕ → Type 0
ListsContent (content.Proc p) text = ListsFrom p.words p.marks 0 text
ListsContent (content.Data d) text = text ≡ []
ListsContent (content.Stack n) text = text ≡ []

abbrev pub ListsCode : BrickKind → List ℕ → Type 0
ListsCode (kind.Own c) text = ListsContent c text
ListsCode (kind.Ent c) text = ListsContent c text
ListsCode (kind.Ext e) text = text ≡ []
ListsCode (kind.Svc s) text = text ≡ []

-- ---- the object

pub data ListsBricks (t : ModeTable) : List Brick → List ℕ → Type 0 where
  none : ListsBricks t [] []
  one : {b : Brick} {bs : List Brick} (code : List ℕ) {rest : List ℕ} → ListsCode b.kind code → ListsBricks t bs rest → ListsBricks t (b ∷ bs) (brick_line t b ++ code ++ rest)

-- the text is the listing of the object
pub record IsListing (o : ObjectParts) (text : List ℕ) : Type 0 where
  pub bricks : List ℕ
  pub are : ListsBricks o.records o.bricks bricks
  pub all : text ≡ title_line o.title ++ bricks
