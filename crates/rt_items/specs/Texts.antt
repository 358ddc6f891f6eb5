-- What a string's bytes are.
use Rattle.std.specs.Prelude.{◌≡◌, ℕ, ◌<◌, Bool, true, ◌||◌, ◌==◌, nat_le, nat_lt, if◌then◌else◌, List, [], ◌∷◌, ◌++◌, length, drop, take_while, Option, Some, None, Result, Ok, Err}
use Rattle.std.specs.List.{list_all}
use Rattle.rt_pieces.specs.declared.item.ItemKind.{ItemKind}
use Rattle.rt_pieces.specs.declared.item.ItemKind.TheVariants as kind
use Rattle.rt_pieces.specs.declared.fault.TextFault.{TextFault}
use Rattle.rt_pieces.specs.declared.fault.TextFault.TheVariants.{Memory, BadCharacter, OpenString, BadInsert}
use Rattle.rt_pieces.specs.Bytes.{is_blank, is_capital, is_digit, is_printable, in_string, number_of}

-- the text that each LET name in force stands for
abbrev pub Lets : Type 0
Lets = List ℕ → Option (List ItemKind)

-- bytes, and the fault that comes behind them, if one does
pub record Given : Type 0 where
  pub bytes : List ℕ
  pub fault : Option TextFault

abbrev pub just : List ℕ → Given
just bytes = record { bytes = bytes; fault = None }

abbrev pub failing : TextFault → Given
failing f = record { bytes = []; fault = Some f }

-- one after the other, up to the first fault
abbrev pub behind_fault : Option TextFault → List ℕ → Given → Given
behind_fault (Some f) bytes next = record { bytes = bytes; fault = Some f }
behind_fault None bytes next = record { bytes = bytes ++ next.bytes; fault = next.fault }

abbrev pub followed : Given → Given → Given
followed first next = behind_fault first.fault first.bytes next

-- the parts of a text between the separators
abbrev pub onto_first : ℕ → List (List ℕ) → List (List ℕ)
onto_first b [] = (b ∷ []) ∷ []
onto_first b (part ∷ parts) = (b ∷ part) ∷ parts

abbrev pub parts : ℕ → List ℕ → List (List ℕ)
parts separator [] = [] ∷ []
parts separator (b ∷ bs) = if b == separator then [] ∷ parts separator bs else onto_first b (parts separator bs)

-- what stands outside inserts: each byte for itself, up to the first that is none of 32 to 126
abbrev pub characters : ℕ → List ℕ → Given
characters n part = let bytes = take_while is_printable part in record { bytes = bytes; fault = if length bytes == length part then None else Some (BadCharacter n) }

abbrev pub past_blanks : List ℕ → List ℕ
past_blanks bs = drop (length (take_while is_blank bs)) bs

-- the fault of a byte that has no place in an insert
abbrev pub strange : ℕ → ℕ → TextFault
strange n b = if is_printable b then BadInsert n else BadCharacter n

abbrev pub nothing_more : ℕ → List ℕ → Given
nothing_more n [] = just []
nothing_more n (b ∷ bs) = failing (strange n b)

-- a number up to 255
abbrev pub small : ℕ → Option ℕ
small v = if nat_le v 255 then Some v else None

-- what a LET name's text gives: one number
abbrev pub one_number : Option (List ItemKind) → Option ℕ
one_number (Some (kind.Number v ∷ [])) = small v
one_number _ = None

-- a decimal number, or a LET name in force
abbrev pub byte_of : Lets → List ℕ → Option ℕ
byte_of lets run = if list_all is_digit run then small (number_of 10 run) else one_number (lets run)

abbrev pub or_bad : ℕ → Option ℕ → Given
or_bad n (Some v) = just (v ∷ [])
or_bad n None = failing (BadInsert n)

abbrev pub in_value : ℕ → Bool
in_value b = is_capital b || is_digit b

-- one value of an insert, with layout around it; missing is the fault where the layout is all
-- the fault of an insert that ends where a value or a # must come, in a string that is closed or left open
abbrev pub unfinished : ℕ → Bool → TextFault
unfinished n closed = if closed then BadInsert n else OpenString n

abbrev pub value_in : Lets → ℕ → Bool → List ℕ → Given
value_in lets n closed [] = failing (unfinished n closed)
value_in lets n closed (b ∷ bs) =
    let run = take_while in_value (b ∷ bs) in
    if in_value b then followed (or_bad n (byte_of lets run)) (nothing_more n (past_blanks (drop (length run) (b ∷ bs)))) else failing (strange n b)

-- one value of an insert, with layout around it
abbrev pub value : Lets → ℕ → Bool → List ℕ → Given
value lets n closed field = value_in lets n closed (past_blanks field)

-- the values of an insert, which has an end (closed) or is left open behind the last of them
unfoldable pub values : Lets → ℕ → Bool → List (List ℕ) → Given
values lets n closed [] = just []
values lets n closed (field ∷ []) = value lets n closed field
values lets n closed (field ∷ next ∷ fields) = followed (value lets n true field) (values lets n closed (next ∷ fields))

abbrev pub closing : ℕ → Bool → Given
closing n closed = if closed then just [] else failing (OpenString n)

-- the parts of a string between its #: characters and inserts in turn
unfoldable pub in_turn : Lets → ℕ → Bool → List (List ℕ) → Given
in_turn lets n closed [] = just []
in_turn lets n closed (outside ∷ []) = followed (characters n outside) (closing n closed)
in_turn lets n closed (outside ∷ inside ∷ []) = followed (characters n outside) (followed (values lets n closed (parts 44 inside)) (failing (unfinished n closed)))
in_turn lets n closed (outside ∷ inside ∷ next ∷ rest) =
    followed (characters n outside) (followed (values lets n true (parts 44 inside)) (in_turn lets n closed (next ∷ rest)))

-- at most 8,191 bytes
abbrev pub or_fault : List ℕ → Option TextFault → Result (List ℕ) TextFault
or_fault bytes (Some f) = Err f
or_fault bytes None = Ok bytes

abbrev pub limited : ℕ → Given → Result (List ℕ) TextFault
limited n given = if nat_le (length given.bytes) 8191 then or_fault given.bytes given.fault else Err (BadInsert n)

-- the bytes of the string behind whose quotation mark, in line n, this stands
abbrev pub string_of : Lets → ℕ → List ℕ → Result (List ℕ) TextFault
string_of lets n bs = let body = take_while in_string bs in limited n (in_turn lets n (nat_lt (length body) (length bs)) (parts 35 body))

-- ---- what the code writes

-- what is given behind the bytes that stand already
abbrev pub with_bytes : List ℕ → Given → Given
with_bytes old given = record { bytes = old ++ given.bytes; fault = given.fault }

-- this is all that is given, unless memory runs out
abbrev pub Gives : Given → List ℕ → Result (Unit {0}) TextFault → Type 0
Gives given new (Ok done) = given ≡ record { bytes = new; fault = None }
Gives given new (Err Memory) = Unit {0}
Gives given new (Err f) = given ≡ record { bytes = new; fault = Some f }

abbrev pub result_map : {A B E : Type 0} → (A → B) → Result A E → Result B E
result_map f (Ok x) = Ok (f x)
result_map f (Err e) = Err e

-- The parts of these bytes begin with characters and an insert: with the rest, what is to be given is the same; with none, this is all.
abbrev pub PairGives : Lets → ℕ → Bool → List ℕ → List ℕ → List ℕ → Result (Option (List ℕ)) TextFault → Type 0
PairGives lets n closed bytes old new (Ok None) = with_bytes old (in_turn lets n closed (parts 35 bytes)) ≡ record { bytes = new; fault = None }
PairGives lets n closed bytes old new (Ok (Some rest)) = (with_bytes old (in_turn lets n closed (parts 35 bytes)) ≡ with_bytes new (in_turn lets n closed (parts 35 rest))) × (length rest < length bytes)
PairGives lets n closed bytes old new (Err Memory) = Unit {0}
PairGives lets n closed bytes old new (Err f) = with_bytes old (in_turn lets n closed (parts 35 bytes)) ≡ record { bytes = new; fault = Some f }

-- what follows characters: an insert, and what follows that
abbrev pub from_insert : Lets → ℕ → Bool → List (List ℕ) → Given
from_insert lets n closed [] = just []
from_insert lets n closed (inside ∷ []) = followed (values lets n closed (parts 44 inside)) (failing (unfinished n closed))
from_insert lets n closed (inside ∷ next ∷ rest) = followed (values lets n true (parts 44 inside)) (in_turn lets n closed (next ∷ rest))

abbrev pub InsertGives : Lets → ℕ → Bool → List ℕ → List ℕ → List ℕ → Result (Option (List ℕ)) TextFault → Type 0
InsertGives lets n closed bytes old new (Ok None) = with_bytes old (from_insert lets n closed (parts 35 bytes)) ≡ record { bytes = new; fault = None }
InsertGives lets n closed bytes old new (Ok (Some rest)) = (with_bytes old (from_insert lets n closed (parts 35 bytes)) ≡ with_bytes new (in_turn lets n closed (parts 35 rest))) × (length rest < length bytes)
InsertGives lets n closed bytes old new (Err Memory) = Unit {0}
InsertGives lets n closed bytes old new (Err f) = with_bytes old (from_insert lets n closed (parts 35 bytes)) ≡ record { bytes = new; fault = Some f }
