-- The full mode: the text of a mode with the records that it reaches.
use Rattle.std.specs.Prelude.{ℕ, zero, suc, List, [], ◌∷◌, ◌++◌, length, codes, decimal, Option, None, Some, map, if◌then◌else◌, ◌==◌, nat_lt, slice_get}
use Rattle.std.specs.List.{list_any}
use Rattle.rt_modes.specs.declared.mode.Mode.{Mode}
use Rattle.rt_modes.specs.declared.mode.Mode.TheOpen.{Mode-F}
use Rattle.rt_modes.specs.declared.mode.Mode.TheFolds.{fold-Mode}
use Rattle.rt_modes.specs.declared.mode.Field.{Field}
use Rattle.rt_modes.specs.declared.mode.RecordDef.{RecordDef}
use Rattle.rt_modes.specs.declared.mode.ModeTable.{ModeTable}

-- A word of a text: bytes as they stand, or the name of a record of the table.
pub data Word : Type 0 where
  Says : List ℕ → Word
  Mentions : ℕ → Word

abbrev pub joined : {A : Type 0} → List (List A) → List A
joined [] = []
joined (xs ∷ xss) = xs ++ joined xss

abbrev pub after_commas : List (List Word) → List Word
after_commas [] = []
after_commas (m ∷ ms) = Says (codes ",") ∷ (m ++ after_commas ms)

abbrev pub between_commas : List (List Word) → List Word
between_commas [] = []
between_commas (m ∷ ms) = m ++ after_commas ms

abbrev pub result_words : Option (List Word) → List Word
result_words None = Says (codes ")") ∷ []
result_words (Some m) = Says (codes ") ") ∷ m

-- one mode, with the words of the modes inside it
abbrev pub one_mode : Mode-F (List Word) → List Word
one_mode Mode-F.Byte = Says (codes "BYTE") ∷ []
one_mode Mode-F.Int = Says (codes "INT") ∷ []
one_mode Mode-F.Frac = Says (codes "FRAC") ∷ []
one_mode Mode-F.Label = Says (codes "LABEL") ∷ []
one_mode (Mode-F.Ref m) = Says (codes "REF ") ∷ m
one_mode (Mode-F.RefArray m) = Says (codes "REF ARRAY ") ∷ m
one_mode (Mode-F.Array n m) = Says (codes "ARRAY(" ++ decimal n ++ codes ") ") ∷ m
one_mode (Mode-F.Record k) = Mentions k ∷ []
one_mode (Mode-F.Proc ps r) = Says (codes "PROC(") ∷ (between_commas ps ++ result_words r)

abbrev pub mode_words : Mode → List Word
mode_words = fold-Mode (List Word) one_mode

-- the mode and the name of a field
abbrev pub field_words : Field → List Word
field_words f = mode_words f.mode ++ Says (32 ∷ f.name) ∷ []

-- The name and the fields of a record. A number that the table lacks has none.
abbrev pub name_in : Option RecordDef → List ℕ
name_in None = []
name_in (Some r) = r.name

abbrev pub fields_in : Option RecordDef → List Field
fields_in None = []
fields_in (Some r) = r.fields

abbrev pub name_of : ModeTable → ℕ → List ℕ
name_of t k = name_in (slice_get t.records k)

abbrev pub fields_of : ModeTable → ℕ → List Field
fields_of t k = fields_in (slice_get t.records k)

-- the fields, with the parenthesis that closes them
abbrev pub fields_inside : List Field → List Word
fields_inside fs = between_commas (map field_words fs) ++ Says (codes ")") ∷ []

-- NAME(fields)
abbrev pub definition : ModeTable → ℕ → List Word
definition t k = Says (name_of t k ++ codes "(") ∷ fields_inside (fields_of t k)

-- DATA(fields)
abbrev pub data_words : List Field → List Word
data_words fs = Says (codes "DATA(") ∷ fields_inside fs

-- the bytes of words
abbrev pub spelled : ModeTable → List Word → List ℕ
spelled t [] = []
spelled t (Says b ∷ ws) = b ++ spelled t ws
spelled t (Mentions k ∷ ws) = name_of t k ++ spelled t ws

-- The numbers of the records that words mention, as often as they do. A number that the table lacks is no
-- record: it has no name and no definition.
abbrev pub mentioned : ModeTable → List Word → List ℕ
mentioned t [] = []
mentioned t (Says b ∷ ws) = mentioned t ws
mentioned t (Mentions k ∷ ws) = if nat_lt k (length t.records) then k ∷ mentioned t ws else mentioned t ws

-- the numbers known, and one more, where it is not among them
abbrev pub with_one : List ℕ → ℕ → List ℕ
with_one known k = if list_any (λ x. k == x) known then known else known ++ k ∷ []

-- the numbers known, and those of a list that are new, each once, in the order of the list
abbrev pub with_new : List ℕ → List ℕ → List ℕ
with_new known [] = known
with_new known (k ∷ ks) = with_new (with_one known k) ks

-- The records that words reach, in the order of first mention: those that the words mention and that the
-- definitions of the records known so far mention, round by round.
unfoldable pub reached : ModeTable → List Word → ℕ → List ℕ
reached t ws zero = []
reached t ws (suc rounds) = with_new [] (mentioned t (ws ++ joined (map (definition t) (reached t ws rounds))))

-- WHERE and the definitions of the records, where there are any
abbrev pub where_words : ModeTable → List ℕ → List Word
where_words t [] = []
where_words t (k ∷ ks) = Says (codes " WHERE ") ∷ (definition t k ++ after_commas (map (definition t) ks))

-- There is a round for each record of the table, and one more: further rounds would add nothing.
abbrev pub reached_by : ModeTable → List Word → List ℕ
reached_by t ws = reached t ws (suc (length t.records))

-- the text of words, with the definitions of the records that they reach
abbrev pub full_text : ModeTable → List Word → List ℕ
full_text t ws = spelled t (ws ++ where_words t (reached_by t ws))

-- the full mode of a mode
abbrev pub FullMode : ModeTable → Mode → List ℕ
FullMode t m = full_text t (mode_words m)

-- the full mode of a data brick with these fields, and of every stack
abbrev pub FullData : ModeTable → List Field → List ℕ
FullData t fs = full_text t (data_words fs)

abbrev pub FullStack : List ℕ
FullStack = codes "STACK"
