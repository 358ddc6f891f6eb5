-- What is left of a text while it is written piece by piece, as the code keeps it.
use Rattle.std.specs.Prelude.{◌≡◌, ℕ, zero, suc, ◌+◌, ◌-◌, ◌^◌, List, [], ◌∷◌, ◌++◌, length, drop, codes, Option, None, Some, map, option_map, slice_get, if◌then◌else◌, ◌==◌}
use Rattle.rt_modes.specs.FullMode.{Word, Says, mode_words, after_commas, between_commas, result_words, field_words, fields_inside, data_words, name_of, fields_of, spelled, mentioned, with_new}
use Rattle.rt_modes.specs.declared.mode.Field.{Field}
use Rattle.rt_modes.specs.declared.mode.Mode.{Mode}
use Rattle.rt_modes.specs.declared.mode.ModeTable.{ModeTable}
use Rattle.rt_modes.specs.declared.pieces.Pieces.{Pieces}
use Rattle.rt_modes.specs.declared.pieces.Todo.{Todo}
use Rattle.rt_modes.specs.declared.pieces.Todo.TheVariants as todo
use Rattle.rt_modes.specs.declared.same.Reader.{Reader}

-- the parameters, with the parenthesis that closes them and the result
abbrev pub parameters_inside : List Mode → Option Mode → List Word
parameters_inside ps r = between_commas (map mode_words ps) ++ result_words (option_map mode_words r)

-- the same, where other parameters stand before them
abbrev pub parameters_after : List Mode → Option Mode → List Word
parameters_after ps r = after_commas (map mode_words ps) ++ result_words (option_map mode_words r)

-- the fields, with the parenthesis that closes them, where other fields stand before them
abbrev pub fields_after : List Field → List Word
fields_after fs = after_commas (map field_words fs) ++ Says (codes ")") ∷ []

abbrev pub todo_words : Todo → List Word
todo_words (todo.Mode m) = mode_words m.now
todo_words (todo.Parameters ps r) = parameters_after ps.now r.now
todo_words (todo.Name n) = Says (32 ∷ n.now) ∷ []
todo_words (todo.Fields fs) = fields_after fs.now
todo_words (todo.Data fs) = data_words fs.now

-- the words of the parts, the last part first
abbrev pub stacked : List Todo → List Word
stacked [] = []
stacked (t ∷ ts) = stacked ts ++ todo_words t

-- what stands before the definition of a record, by its place among them
abbrev pub lead : ℕ → List ℕ
lead place = if place == 0 then codes " WHERE " else codes ","

-- the words of the definitions from a place on, where so many records are known before
unfoldable pub defined_from : ModeTable → ℕ → List ℕ → ℕ → List Word
defined_from t zero known place = []
defined_from t (suc fuel) known place = elim (slice_get known place) [
  | None ↦ []
  | Some k ↦ Says (lead place ++ (name_of t k ++ codes "(")) ∷ (fields_inside (fields_of t k) ++ defined_from t fuel (with_new known (mentioned t (fields_inside (fields_of t k)))) (place + 1))
]

-- the words left, where these are the next
abbrev pub words_left : ModeTable → List ℕ → ℕ → List Word → List Word
words_left t order place ws = ws ++ defined_from t (2 ^ 64 + length t.records - place) (with_new order (mentioned t ws)) place

-- the words left, where these stand before all others
abbrev pub begun : Pieces → List Word → List Word
begun p ws = words_left p.table.now p.order.keys p.place (ws ++ stacked p.todo)

abbrev pub left : Pieces → List Word
left p = begun p []

-- over these records, with nothing to come and nothing mentioned
pub record IsEmpty (p : Pieces) (t : ModeTable) : Type 0 where
  pub table : p.table.now ≡ t
  pub todo : p.todo ≡ []
  pub order : p.order.keys ≡ []
  pub place : p.place ≡ 0

-- one word was taken from those that were left, and its bytes were appended
pub record Puts (t : ModeTable) (before after : List Word) (old new : List ℕ) : Type 0 where
  pub text : new ++ spelled t after ≡ old ++ spelled t before
  pub words : length after + 1 ≡ length before

-- the text of the words left
abbrev pub text_of : Pieces → List ℕ
text_of p = spelled p.table.now (left p)

-- the bytes of a reader that are left
abbrev pub rest_of : Reader → List ℕ
rest_of r = drop r.place r.piece.items ++ text_of r.pieces
