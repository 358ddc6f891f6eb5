-- LETs are taken out of the pieces, and their names are replaced.
use Rattle.std.specs.Prelude.{◌≡◌, ℕ, ◌+◌, ◌<◌, ◌≤◌, Bool, true, false, nat_le, if◌then◌else◌, List, [], ◌∷◌, ◌++◌, map, length, Option, Some, None, Result, Ok, Err}
use Rattle.std.specs.Str.{bytes_eq}
use Rattle.rt_pieces.specs.declared.item.Word.TheVariants as w
use Rattle.rt_pieces.specs.declared.item.Mark.TheVariants as m
use Rattle.rt_pieces.specs.declared.item.Item.{Item}
use Rattle.rt_pieces.specs.declared.item.ItemKind.{ItemKind}
use Rattle.rt_pieces.specs.declared.item.ItemKind.TheVariants as kind
use Rattle.rt_pieces.specs.declared.fault.TextFault.{TextFault}
use Rattle.rt_pieces.specs.declared.fault.TextFault.TheVariants.{Memory, BadLet, TooManyItems}
use Rattle.rt_items.specs.Texts.{Lets}
use Rattle.rt_pieces.specs.Cutting.{Piece, End, Clean, Stops, Cut}
use Rattle.rt_items.specs.Meaning.{Meant, meaning}

-- no LET name is in force
abbrev pub no_lets : Lets
no_lets name = None

-- from here on the name stands for this text
abbrev pub with_let : List ℕ → List ItemKind → Lets → Lets
with_let name text lets q = if bytes_eq q name then Some text else lets q

abbrev pub or_itself : ItemKind → Option (List ItemKind) → List ItemKind
or_itself k (Some text) = text
or_itself k None = k ∷ []

-- a LET name is replaced by its text; anything else stays
abbrev pub replaced : Lets → ItemKind → List ItemKind
replaced lets (kind.Name name) = or_itself (kind.Name name) (lets name)
replaced lets k = k ∷ []

-- the items of a use carry the line and the span of the use
abbrev pub item_at : ℕ → ℕ → ℕ → ItemKind → Item
item_at n from to k = record { kind = k; line = n; from = from; to = to }

abbrev pub items_at : ℕ → ℕ → ℕ → List ItemKind → List Item
items_at n from to = map (item_at n from to)

abbrev pub is_let : ItemKind → Bool
is_let (kind.Word w.Let) = true
is_let _ = false

abbrev pub is_semicolon : ItemKind → Bool
is_semicolon (kind.Mark m.Semicolon) = true
is_semicolon _ = false

abbrev pub is_equal : ItemKind → Bool
is_equal (kind.Mark m.Equal) = true
is_equal _ = false

abbrev pub name_of : ItemKind → Option (List ℕ)
name_of (kind.Name name) = Some name
name_of _ = None

-- the items, or the first fault
abbrev pub Reading : Type 0
Reading = Result (List Item) TextFault

abbrev pub with_items : List Item → Reading → Reading
with_items items (Ok others) = Ok (items ++ others)
with_items items (Err f) = Err f

-- how the list ends outside a LET, and in a LET of line n
abbrev pub at_end : End → Reading
at_end Clean = Ok []
at_end (Stops f) = Err f

abbrev pub cut_off : End → ℕ → TextFault
cut_off Clean n = BadLet n
cut_off (Stops f) n = f

-- ---- one declaration, LET name = text ; in line n: the pieces behind LET, with the LET names in force there

-- what a LET declares, and the pieces behind its semicolon
pub record Declared : Type 0 where
  pub name : List ℕ
  pub text : List ItemKind
  pub rest : List Piece

abbrev pub LetText : Type 0
LetText = Result (List ItemKind × List Piece) TextFault

abbrev pub with_text : List ItemKind → LetText → LetText
with_text text (Ok others) = Ok (text ++ others.0, others.1)
with_text text (Err f) = Err f

-- the items of one piece of the text go before the rest of it, where they are at most 65,535 with the count before
abbrev pub text_goes_on : (ℕ → LetText) → ℕ → ℕ → List ItemKind → LetText
text_goes_on more count n new = if nat_le (count + length new) 65535 then with_text new (more (count + length new)) else Err (TooManyItems n)

abbrev pub text_piece : Lets → (ℕ → LetText) → ℕ → ℕ → List Piece → Meant → LetText
text_piece lets more count n rest (Err f) = Err f
text_piece lets more count n rest (Ok k) = if is_semicolon k then Ok ([], rest) else text_goes_on more count n (replaced lets k)

-- the text up to the semicolon, earlier LET names replaced, where so many items of it stand already
unfoldable pub let_text : Lets → End → ℕ → List Piece → ℕ → LetText
let_text lets e n [] count = Err (cut_off e n)
let_text lets e n (p ∷ ps) count = text_piece lets (let_text lets e n ps) count p.line ps (meaning lets p)

abbrev pub declares : List ℕ → LetText → Result Declared TextFault
declares name (Ok text) = Ok (record { name = name; text = text.0; rest = text.1 })
declares name (Err f) = Err f

abbrev pub behind_equal : Lets → End → ℕ → List ℕ → List Piece → Meant → Result Declared TextFault
behind_equal lets e n name ps (Err f) = Err f
behind_equal lets e n name ps (Ok k) = if is_equal k then declares name (let_text lets e n ps 0) else Err (BadLet n)

abbrev pub behind_name : Lets → End → ℕ → List ℕ → List Piece → Result Declared TextFault
behind_name lets e n name [] = Err (cut_off e n)
behind_name lets e n name (p ∷ ps) = behind_equal lets e n name ps (meaning lets p)

abbrev pub if_named : Lets → End → ℕ → List Piece → Option (List ℕ) → Result Declared TextFault
if_named lets e n ps (Some name) = behind_name lets e n name ps
if_named lets e n ps None = Err (BadLet n)

abbrev pub named_by : Lets → End → ℕ → List Piece → Meant → Result Declared TextFault
named_by lets e n ps (Err f) = Err f
named_by lets e n ps (Ok k) = if_named lets e n ps (name_of k)

abbrev pub declaration : Lets → End → ℕ → List Piece → Result Declared TextFault
declaration lets e n [] = Err (cut_off e n)
declaration lets e n (p ∷ ps) = named_by lets e n ps (meaning lets p)

-- ---- the whole list

-- With these LET names in force, and behind so many items, the pieces, behind which the cut ends so, have this reading.
pub data Expands (e : End) : Lets → ℕ → List Piece → Reading → Type 0 where
  ended : {lets : Lets} {count : ℕ} → Expands e lets count [] (at_end e)
  spoiled : {lets : Lets} {count : ℕ} {p : Piece} {ps : List Piece} {f : TextFault} → meaning lets p ≡ Err f → Expands e lets count (p ∷ ps) (Err f)
  item : {lets : Lets} {count : ℕ} {p : Piece} {ps : List Piece} {r : Reading} (k : ItemKind) → meaning lets p ≡ Ok k → is_let k ≡ false → count + length (replaced lets k) ≤ 65535
      → Expands e lets (count + length (replaced lets k)) ps r → Expands e lets count (p ∷ ps) (with_items (items_at p.line p.from p.to (replaced lets k)) r)
  too_many : {lets : Lets} {count : ℕ} {p : Piece} {ps : List Piece} (k : ItemKind) → meaning lets p ≡ Ok k → is_let k ≡ false → 65535 < count + length (replaced lets k) → Expands e lets count (p ∷ ps) (Err (TooManyItems p.line))
  declared : {lets : Lets} {count : ℕ} {p : Piece} {ps : List Piece} {r : Reading} (k : ItemKind) (d : Declared) → meaning lets p ≡ Ok k → is_let k ≡ true → declaration lets e p.line ps ≡ Ok d
      → Expands e (with_let d.name d.text lets) count d.rest r → Expands e lets count (p ∷ ps) r
  undeclared : {lets : Lets} {count : ℕ} {p : Piece} {ps : List Piece} {f : TextFault} (k : ItemKind) → meaning lets p ≡ Ok k → is_let k ≡ true → declaration lets e p.line ps ≡ Err f → Expands e lets count (p ∷ ps) (Err f)

-- The text has these items, or this first fault: the cut of the whole text, and then its LETs, with at most 65,535 items.
abbrev pub Items : List ℕ → Reading → Type 0
Items bytes r = (ps : List Piece) × (e : End) × Cut (length bytes) None 1 bytes ps e × Expands e no_lets 0 ps r

-- no text has two readings, and each text has one
abbrev pub HaveOneReading : Type 0
HaveOneReading = (bytes : List ℕ) → (r s : Reading) → Items bytes r → Items bytes s → r ≡ s

abbrev pub HaveSomeReading : Type 0
HaveSomeReading = (bytes : List ℕ) → (r : Reading) × Items bytes r

-- what is added to so many items, where they are at most 65,535 then
abbrev pub Adds : List ItemKind → ℕ → ℕ → Type 0 → Result (Unit {0}) TextFault → Type 0
Adds new count n Added (Ok done) = (count + length new ≤ 65535) × Added
Adds new count n Added (Err Memory) = Unit {0}
Adds new count n Added (Err f) = (65535 < count + length new) × (f ≡ TooManyItems n)
