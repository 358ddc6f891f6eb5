-- The bytes of an object, as they are written.
use Rattle.std.specs.Prelude.{ℕ, ◌%◌, List, [], ◌∷◌, ◌++◌, length, codes}
use Rattle.rt_words.specs.Spelling.{spell_all, words_bytes, name_bytes}
use Rattle.rt_modes.specs.Spelling.{spelling}
use Rattle.rt_modes.specs.declared.mode.Field.{Field}
use Rattle.rt_modes.specs.declared.mode.RecordDef.{RecordDef}
use Rattle.rt_words.specs.Bytes.{word_bytes}
use Rattle.rt_object.specs.declared.object.Brick.{Brick}
use Rattle.rt_object.specs.declared.object.BrickKind.{BrickKind}
use Rattle.rt_object.specs.declared.object.BrickKind.TheVariants.{Own, Ent, Ext, Svc}
use Rattle.rt_object.specs.declared.object.Call.{Call}
use Rattle.rt_object.specs.declared.object.Content.{Content}
use Rattle.rt_object.specs.declared.object.Content.TheVariants as content
use Rattle.rt_object.specs.declared.object.DataContent.{DataContent}
use Rattle.rt_object.specs.declared.object.External.{External}
use Rattle.rt_object.specs.declared.object.External.TheVariants as external
use Rattle.rt_object.specs.declared.object.ObjectParts.{ObjectParts}
use Rattle.rt_object.specs.declared.object.ProcContent.{ProcContent}
use Rattle.rt_object.specs.declared.object.Relocated.{Relocated}
use Rattle.rt_object.specs.declared.object.Relocated.TheVariants as relocated
use Rattle.rt_object.specs.declared.object.Relocation.{Relocation}
use Rattle.rt_object.specs.declared.object.Supplied.{Supplied}
use Rattle.rt_object.specs.declared.object.Supplied.TheVariants as supplied
use Rattle.rt_object.specs.declared.object.Target.{Target}
use Rattle.rt_object.specs.declared.object.Target.TheVariants as target

-- A number of elements is a word: in an object it is at most 65,535.
abbrev pub count_spelling : ℕ → List ℕ
count_spelling n = word_bytes (n % 65536)

-- a list behind its number of elements
abbrev pub counted_spelling : {A : Type 0} → (A → List ℕ) → List A → List ℕ
counted_spelling spell xs = count_spelling (length xs) ++ spell_all spell xs

-- ---- records and strings

abbrev pub field_spelling : Field → List ℕ
field_spelling f = name_bytes f.name ++ spelling f.mode

abbrev pub fields_spelling : List Field → List ℕ
fields_spelling = counted_spelling field_spelling

abbrev pub record_spelling : RecordDef → List ℕ
record_spelling r = name_bytes r.name ++ fields_spelling r.fields

-- bytes behind their number
abbrev pub block_spelling : List ℕ → List ℕ
block_spelling bytes = count_spelling (length bytes) ++ bytes

-- ---- relocations and calls

abbrev pub relocated_spelling : Relocated → List ℕ
relocated_spelling (relocated.Brick k) = 1 ∷ word_bytes k
relocated_spelling (relocated.String k) = 2 ∷ word_bytes k
relocated_spelling (relocated.Support k) = 3 ∷ word_bytes k

abbrev pub relocation_spelling : Relocation → List ℕ
relocation_spelling r = word_bytes r.place ++ (relocated_spelling r.of ++ word_bytes r.offset)

abbrev pub relocations_spelling : List Relocation → List ℕ
relocations_spelling = counted_spelling relocation_spelling

abbrev pub target_spelling : Target → List ℕ
target_spelling (target.Brick k) = 1 ∷ word_bytes k
target_spelling (target.Mode m) = 2 ∷ spelling m
target_spelling target.Error = 3 ∷ []

abbrev pub call_spelling : Call → List ℕ
call_spelling c = word_bytes c.depth ++ (word_bytes c.args ++ target_spelling c.target)

-- ---- bricks

-- the words of a code behind their number, and the marks
abbrev pub code_spelling : List ℕ → List ℕ → List ℕ
code_spelling words marks = count_spelling (length words) ++ (words_bytes words ++ marks)

abbrev pub proc_spelling : ProcContent → List ℕ
proc_spelling p = spelling p.mode ++ (word_bytes p.items ++ (word_bytes p.locals ++ (word_bytes p.deep ++ (counted_spelling call_spelling p.calls ++ (code_spelling p.words p.marks ++ relocations_spelling p.relocations)))))

abbrev pub data_spelling : DataContent → List ℕ
data_spelling d = fields_spelling d.fields ++ (block_spelling d.bytes ++ relocations_spelling d.relocations)

-- the sort of a brick
abbrev pub content_sort : Content → ℕ
content_sort (content.Proc p) = 1
content_sort (content.Data d) = 2
content_sort (content.Stack n) = 3

abbrev pub external_sort : External → ℕ
external_sort (external.Proc m) = 1
external_sort (external.Data fields) = 2
external_sort external.Stack = 3

abbrev pub supplied_sort : Supplied → ℕ
supplied_sort (supplied.Proc m) = 1
supplied_sort (supplied.Data fields) = 2

-- the kind and the sort of a brick
abbrev pub kind_spelling : BrickKind → List ℕ
kind_spelling (Own c) = 1 ∷ content_sort c ∷ []
kind_spelling (Ent c) = 2 ∷ content_sort c ∷ []
kind_spelling (Ext e) = 3 ∷ external_sort e ∷ []
kind_spelling (Svc s) = 4 ∷ supplied_sort s ∷ []

abbrev pub content_spelling : Content → List ℕ
content_spelling (content.Proc p) = proc_spelling p
content_spelling (content.Data d) = data_spelling d
content_spelling (content.Stack n) = word_bytes n

abbrev pub external_spelling : External → List ℕ
external_spelling (external.Proc m) = spelling m
external_spelling (external.Data fields) = fields_spelling fields
external_spelling external.Stack = []

abbrev pub supplied_spelling : Supplied → List ℕ
supplied_spelling (supplied.Proc m) = spelling m
supplied_spelling (supplied.Data fields) = fields_spelling fields

-- what it holds
abbrev pub holds_spelling : BrickKind → List ℕ
holds_spelling (Own c) = content_spelling c
holds_spelling (Ent c) = content_spelling c
holds_spelling (Ext e) = external_spelling e
holds_spelling (Svc s) = supplied_spelling s

abbrev pub brick_spelling : Brick → List ℕ
brick_spelling b = kind_spelling b.kind ++ (name_bytes b.name ++ holds_spelling b.kind)

-- ---- the object

-- what stands behind the title
abbrev pub lists_spelling : ObjectParts → List ℕ
lists_spelling o = counted_spelling record_spelling o.records.records ++ (counted_spelling block_spelling o.strings ++ (counted_spelling brick_spelling o.bricks ++ counted_spelling word_bytes o.taken))

abbrev pub object_spelling : ObjectParts → List ℕ
object_spelling o = (codes "RTO" ++ 1 ∷ []) ++ (name_bytes o.title ++ lists_spelling o)
