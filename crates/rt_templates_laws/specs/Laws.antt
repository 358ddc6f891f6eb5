-- What the templates keep.
use Rattle.std.specs.Prelude.{◌≡◌, ℕ, ◌+◌, ◌*◌, ◌<◌, ◌≤◌, List, [], ◌∷◌, ◌++◌, length, Option, Some, slice_get, slice_set, slice_index}
use Rattle.std.specs.List.{AllByRecursion}
use Rattle.rt_words.specs.Word.{wrap_add}
use Rattle.pdp_code.specs.Code.{words_of as instr_words}
use Rattle.rt_object.specs.declared.object.Relocated.{Relocated}
use Rattle.rt_object.specs.declared.object.Relocation.{Relocation}
use Rattle.rt_icode.specs.declared.ins.Ins.{Ins}
use Rattle.rt_icode.specs.declared.procedure.IProc.{IProc}
use Rattle.rt_icode.specs.Weights.{words_of}
use Rattle.rt_icode.specs.Within.{IsWithin, leads}
use Rattle.rt_templates.specs.declared.code.Support.{Support}
use Rattle.rt_templates.specs.declared.layout.Layout.{Layout}
use Rattle.rt_templates.specs.declared.line.Hole.{Hole}
use Rattle.rt_templates.specs.declared.line.Line.{Line}
use Rattle.rt_templates.specs.Lines.{words}
use Rattle.rt_templates.specs.Layouts.{layout_of}
use Rattle.rt_templates.specs.Templates.{template}
use Rattle.rt_templates.specs.Expanded.{most, lines_of, code_of, size_of}
use Rattle.rt_templates.specs.Supported.{IsSupport}

-- ---- weights

abbrev pub TemplatesWeigh : Type 0
TemplatesWeigh = (f : Layout) (k : ℕ) (i : Ins) → length (words (template f k i)) ≡ words_of i

abbrev pub NoneIsEmpty : Type 0
NoneIsEmpty = (f : Layout) (k : ℕ) (i : Ins) → 1 ≤ length (words (template f k i))

abbrev pub CodeWeighs : Type 0
CodeWeighs = (code : List Ins) → length (code_of code).words ≡ size_of code

abbrev pub CodeIsWithin : Type 0
CodeIsWithin = (p : IProc) → IsWithin p → length (code_of p.code).words ≤ 12 * p.items + 16

abbrev pub NeverTooLong : Type 0
NeverTooLong = (p : IProc) → IsWithin p → p.items ≤ 1363 → size_of p.code ≤ most

-- ---- marks

abbrev pub CodeIsMarked : Type 0
CodeIsMarked = (code : List Ins) → length (code_of code).marks ≡ length (code_of code).words

abbrev pub IsSmall : ℕ → Type 0
IsSmall mark = mark ≤ 1

abbrev pub MarksAreSmall : Type 0
MarksAreSmall = (code : List Ins) → AllByRecursion IsSmall (code_of code).marks

-- ---- where instructions stand

-- Some words stand in others, at an address of theirs.
pub record StandsAt (part : List ℕ) (all : List ℕ) (at : ℕ) : Type 0 where
  pub before : List ℕ
  pub behind : List ℕ
  pub is : all ≡ before ++ (part ++ behind)
  pub place : 2 * length before ≡ at

-- instruction k begins at its start
abbrev pub TemplatesStand : Type 0
TemplatesStand = (code : List Ins) (k : ℕ) (i : Ins) → slice_get code k ≡ Some i → StandsAt (words (template (layout_of code) k i)) (code_of code).words (slice_index (layout_of code).starts k)

-- where an instruction may lead, an instruction of the procedure begins
abbrev pub WaysLeadInside : Type 0
WaysLeadInside = (p : IProc) → IsWithin p → (k : ℕ) (i : Ins) (to : ℕ) → slice_get p.code k ≡ Some i → leads k i ≡ Some to → slice_index (layout_of p.code).starts to < 2 * length (code_of p.code).words

-- ---- relocations

-- places that rise, from one on and before another
abbrev pub Rise : ℕ → ℕ → List Relocation → Type 0
Rise low high [] = Unit {0}
Rise low high (r ∷ rs) = (low ≤ r.place) × (r.place < high) × Rise (r.place + 1) high rs

abbrev pub PlacesRise : Type 0
PlacesRise = (code : List Ins) → Rise 1 (length (code_of code).words) (code_of code).relocations

-- the address that a word waits for, where things have these addresses
abbrev pub address : (Relocated → ℕ) → Hole → ℕ
address at h = wrap_add (at h.of) h.offset

-- words of an instruction, with its address in the second one
abbrev pub with_address : (Relocated → ℕ) → Option Hole → List ℕ → List ℕ
with_address at (Some h) (w ∷ x ∷ ws) = w ∷ address at h ∷ ws
with_address at _ ws = ws

-- the words of lines, with their addresses
abbrev pub filled : (Relocated → ℕ) → List Line → List ℕ
filled at [] = []
filled at (l ∷ ls) = with_address at l.hole (instr_words l.instr) ++ filled at ls

-- words in which addresses are put at the places of relocations
abbrev pub relocated : (Relocated → ℕ) → List Relocation → List ℕ → List ℕ
relocated at [] ws = ws
relocated at (r ∷ rs) ws = relocated at rs (slice_set ws r.place (wrap_add (at r.of) r.offset))

abbrev pub AddressesAreFilled : Type 0
AddressesAreFilled = (at : Relocated → ℕ) (code : List Ins) → relocated at (code_of code).relocations (code_of code).words ≡ filled at (lines_of code)

-- ---- support code

pub record IsShort (s : Support) : Type 0 where
  pub words : length s.words ≤ 600
  pub one_each : length s.marks ≡ length s.words
  pub small : AllByRecursion IsSmall s.marks
  pub entries : length s.entries ≡ 17

abbrev pub SupportIsShort : Type 0
SupportIsShort = (s : Support) → IsSupport s → IsShort s
