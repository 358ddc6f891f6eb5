-- The LETs are taken out piece by piece.
use Rattle.std.specs.Prelude.{◌≡◌, ℕ, ◌+◌, nat_le, if◌then◌else◌, List, [], ◌∷◌, ◌++◌, length, Option, Some, None, Result, Ok, Err}
use Rattle.rt_pieces.specs.declared.item.Item.{Item}
use Rattle.rt_pieces.specs.declared.item.ItemKind.{ItemKind}
use Rattle.rt_pieces.specs.declared.fault.TextFault.{TextFault}
use Rattle.rt_pieces.specs.declared.fault.TextFault.TheVariants.{Memory, BadLet, TooManyItems}
use Rattle.rt_items.specs.declared.expand.State.{State as Code}
use Rattle.rt_items.specs.declared.expand.State.TheVariants as code
use Rattle.rt_pieces.specs.Cutting.{Piece, End}
use Rattle.rt_pieces.specs.Steps.{Cuts, cuts_of}
use Rattle.rt_items.specs.Texts.{Lets}
use Rattle.rt_items.specs.Meaning.{Meant, meaning}
use Rattle.rt_items.specs.Table.{Known, lets_of}
use Rattle.rt_items.specs.Lets.{Reading, no_lets, with_items, at_end, cut_off, replaced, items_at, with_let, is_let, is_semicolon, is_equal, name_of}

-- outside a LET, behind LET, behind its name, and in its text, with the line of LET
pub data State : Type 0 where
  Plain : State
  Behind : (line : ℕ) → State
  Named : (line : ℕ) (name : List ℕ) → State
  Within : (line : ℕ) (name : List ℕ) (text : List ItemKind) → State

-- the code's state, where the LET that is being read has this text
abbrev pub state_of : List ItemKind → Code → State
state_of text code.Plain = Plain
state_of text (code.Behind n) = Behind n
state_of text (code.Named n name) = Named n name
state_of text (code.Within n name) = Within n name text

pub data Next : Type 0 where
  Goes : (state : State) (lets : Lets) (out : List Item) → Next
  Fails : (fault : TextFault) → Next

abbrev pub plain : Lets → ℕ → ℕ → ℕ → ℕ → ItemKind → Next
plain lets count n from to k =
    if is_let k then Goes (Behind n) lets []
    else (if nat_le (count + length (replaced lets k)) 65535 then Goes Plain lets (items_at n from to (replaced lets k)) else Fails (TooManyItems n))

abbrev pub behind : Lets → ℕ → Option (List ℕ) → Next
behind lets n (Some name) = Goes (Named n name) lets []
behind lets n None = Fails (BadLet n)

abbrev pub named : Lets → ℕ → List ℕ → ItemKind → Next
named lets n name k = if is_equal k then Goes (Within n name []) lets [] else Fails (BadLet n)

abbrev pub within : Lets → ℕ → ℕ → List ℕ → List ItemKind → ItemKind → Next
within lets line n name text k =
    if is_semicolon k then Goes Plain (with_let name text lets) []
    else (if nat_le (length text + length (replaced lets k)) 65535 then Goes (Within n name (text ++ replaced lets k)) lets [] else Fails (TooManyItems line))

abbrev pub turn : State → Lets → ℕ → ℕ → ℕ → ℕ → ItemKind → Next
turn Plain lets count line from to k = plain lets count line from to k
turn (Behind n) lets count line from to k = behind lets n (name_of k)
turn (Named n name) lets count line from to k = named lets n name k
turn (Within n name text) lets count line from to k = within lets line n name text k

abbrev pub turn_meant : State → Lets → ℕ → ℕ → ℕ → ℕ → Meant → Next
turn_meant state lets count line from to (Ok k) = turn state lets count line from to k
turn_meant state lets count line from to (Err f) = Fails f

abbrev pub end_of : State → End → Reading
end_of Plain e = at_end e
end_of (Behind n) e = Err (cut_off e n)
end_of (Named n name) e = Err (cut_off e n)
end_of (Within n name text) e = Err (cut_off e n)

abbrev pub after_turn : (State → Lets → ℕ → Reading) → ℕ → Next → Reading
after_turn go count (Goes state lets out) = with_items out (go state lets (count + length out))
after_turn go count (Fails f) = Err f

-- the reading of what is left, behind so many items
unfoldable pub expand : End → List Piece → State → Lets → ℕ → Reading
expand e [] state lets count = end_of state e
expand e (p ∷ ps) state lets count = after_turn (expand e ps) count (turn_meant state lets count p.line p.from p.to (meaning lets p))

-- what is answered, unless memory runs out
abbrev pub Answers : {A : Type 0} → Result A TextFault → Result A TextFault → Type 0
Answers r (Err Memory) = Unit {0}
Answers r answer = r ≡ answer

-- what one turn leaves
abbrev pub Turns : Next → List Item → Known → List Item → Result Code TextFault → Type 0
Turns (Goes state lets out) before table now (Ok found) = (state_of table.text found ≡ state) × ((q : List ℕ) → lets_of table q ≡ lets q) × (now ≡ before ++ out)
Turns (Goes state lets out) before table now (Err Memory) = Unit {0}
Turns (Goes state lets out) before table now (Err f) = ⊥
Turns (Fails g) before table now (Ok found) = ⊥
Turns (Fails g) before table now (Err Memory) = Unit {0}
Turns (Fails g) before table now (Err f) = f ≡ g

-- the reading of the text from a place on, in this state
abbrev pub reading_from : Cuts → State → Lets → ℕ → Reading
reading_from cuts state lets count = expand cuts.1 cuts.0 state lets count

-- what the text's reading comes to
unfoldable pub reading_of : List ℕ → Reading
reading_of bytes = reading_from (cuts_of (length bytes) None 1 bytes) Plain no_lets 0
