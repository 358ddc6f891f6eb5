-- Steps of a parser that goes from the left.
use Rattle.std.specs.Prelude.{◌≡◌, ℕ, zero, suc, ◌-◌, Bool, true, false, if◌then◌else◌, leb, List, [], ◌∷◌, length, Option, Some, None, Result, Ok, Err}
use denote.Enum.Bare.{sameb}
use Rattle.rt_pieces.specs.declared.item.Item.{Item}
use Rattle.rt_pieces.specs.declared.item.ItemKind.{ItemKind}
use Rattle.rt_pieces.specs.declared.item.ItemKind.TheVariants as kind
use Rattle.rt_pieces.specs.declared.item.Mark.{Mark}
use Rattle.rt_pieces.specs.declared.item.Mark.TheVariants.{Colon as colon}
use Rattle.rt_pieces.specs.declared.item.Word.{Word}
use Rattle.rt_pieces.specs.contracts.item.Mark as mark_type
use Rattle.rt_pieces.specs.contracts.item.Word as word_type
use Rattle.rt_grammar.specs.declared.next.Next.{Next}
use Rattle.rt_grammar.specs.declared.next.Next.TheVariants as next
use Rattle.rt_grammar.specs.declared.stop.Stop.{Stop}
use Rattle.rt_grammar.specs.declared.stop.Stop.TheVariants.{Memory, Unfit}
use Rattle.rt_grammar.specs.declared.at.At.{At}
use Rattle.rt_grammar.specs.declared.at.Ident.{Ident}
use Rattle.rt_grammar.specs.Parts.{next_of, next_by, at_of}

-- What was read with the items after it, or how many items there are from the unfit one on.
abbrev pub Outcome : Type 0 → Type 0
Outcome A = Result (A × List Item) ℕ

abbrev pub Parser : Type 0 → Type 0
Parser A = List Item → Outcome A

abbrev pub and_then : {A B : Type 0} → Outcome A → (A → Parser B) → Outcome B
and_then (Ok x) f = f x.0 x.1
and_then (Err n) f = Err n

infixl 10 ◌>>=◌
abbrev pub ◌>>=◌ : {A B : Type 0} → Parser A → (A → Parser B) → Parser B
p >>= q = λ l. and_then (p l) q

abbrev pub pure : {A : Type 0} → A → Parser A
pure a = λ l. Ok (a, l)

abbrev pub refuse : {A : Type 0} → Parser A
refuse = λ l. Err (length l)

abbrev pub here : ℕ → Parser At
here total = λ l. Ok (at_of total l, l)

-- as the next item says
abbrev pub by_next : {A : Type 0} → (Next → Parser A) → Parser A
by_next f = λ l. f (next_of l) l

-- where the next item passes the test, p, and else q
abbrev pub choose : {A : Type 0} → (Next → Bool) → Parser A → Parser A → Parser A
choose test p q = λ l. if test (next_of l) then p l else q l

-- one item that the test takes
abbrev pub item_by : {A : Type 0} → Item → List Item → Option A → Outcome A
item_by i l (Some a) = Ok (a, l)
item_by i l None = Err (length (i ∷ l))

abbrev pub item : {A : Type 0} → (Item → Option A) → Parser A
item test [] = Err 0
item test (i ∷ l) = item_by i l (test i)

unfoldable pub same_mark : Mark → Mark → Bool
same_mark = sameb mark_type.the_type

unfoldable pub same_word : Word → Word → Bool
same_word = sameb word_type.the_type

abbrev pub some_if : Bool → Option (Unit {0})
some_if true = Some tt
some_if false = None

abbrev pub mark_in : Mark → ItemKind → Option (Unit {0})
mark_in m (kind.Mark k) = some_if (same_mark m k)
mark_in m _ = None

abbrev pub word_in : Word → ItemKind → Option (Unit {0})
word_in w (kind.Word k) = some_if (same_word w k)
word_in w _ = None

abbrev pub name_in : ItemKind → Option (List ℕ)
name_in (kind.Name s) = Some s
name_in _ = None

abbrev pub number_in : ItemKind → Option ℕ
number_in (kind.Number n) = Some n
number_in _ = None

abbrev pub text_in : ItemKind → Option (List ℕ)
text_in (kind.Text s) = Some s
text_in _ = None

abbrev pub is_mark : Mark → Next → Bool
is_mark m (next.Mark k) = same_mark m k
is_mark m _ = false

abbrev pub is_word : Word → Next → Bool
is_word w (next.Word k) = same_word w k
is_word w _ = false

abbrev pub mark_comes : Mark → List Item → Bool
mark_comes m l = is_mark m (next_of l)

abbrev pub word_comes : Word → List Item → Bool
word_comes w l = is_word w (next_of l)

unfoldable pub mark : Mark → Parser (Unit {0})
mark m = item (λ i. mark_in m i.kind)

unfoldable pub word : Word → Parser (Unit {0})
word w = item (λ i. word_in w i.kind)

unfoldable pub name : Parser (List ℕ)
name = item (λ i. name_in i.kind)

unfoldable pub number : Parser ℕ
number = item (λ i. number_in i.kind)

unfoldable pub text : Parser (List ℕ)
text = item (λ i. text_in i.kind)

-- the first item, where it was found to mean something
abbrev pub found_in : {A : Type 0} → Option A → List Item → Outcome A
found_in o [] = Err 0
found_in o (i ∷ l) = item_by i l o

-- an item of a table
abbrev pub listed_in : {A : Type 0} → (Next → Option A) → Parser A
listed_in table l = found_in (table (next_of l)) l

abbrev pub is_some : {A : Type 0} → Option A → Bool
is_some (Some a) = true
is_some None = false

-- whether the table has it
abbrev pub in_table : {A : Type 0} → (Next → Option A) → Next → Bool
in_table table n = is_some (table n)

unfoldable pub ident : ℕ → Parser Ident
ident total = do
  at ← here total
  s ← name
  pure (record { name = s; at = at })

unfoldable pub label : ℕ → Parser Ident
label total = do
  n ← ident total
  _ ← mark colon
  pure n

abbrev pub is_name : Next → Bool
is_name next.Name = true
is_name _ = false

abbrev pub is_number : Next → Bool
is_number next.Number = true
is_number _ = false

abbrev pub is_text : Next → Bool
is_text next.Text = true
is_text _ = false

-- whether a name and a colon come next
abbrev pub label_comes : List Item → Bool
label_comes [] = false
label_comes (i ∷ l) = if is_name (next_by i.kind) then is_mark colon (next_of l) else false

-- what opens one more level, where so many may still open
unfoldable pub within : {A : Type 0} → ℕ → Parser A → Parser A
within zero p = refuse
within (suc levels) p = p

-- where the next item passes the test, p
abbrev pub starting : {A : Type 0} → (Next → Bool) → Parser A → Parser A
starting test p = choose test p refuse

-- where the next item passes the test, p, and else nothing
abbrev pub optional : {A : Type 0} → (Next → Bool) → Parser A → Parser (Option A)
optional test p = choose test (p >>= λ a. pure (Some a)) (pure None)

-- as often as go says that another turn comes, which takes at least one item
abbrev pub turns_from : {A B : Type 0} → ℕ → (List Item → Bool) → (A → B → A) → Parser B → A → Parser A
turns_from zero go step p a = λ l. Ok (a, l)
turns_from (suc n) go step p a = λ l. if go l then and_then (p l) (λ b. turns_from n go step p (step a b)) else Ok (a, l)

abbrev pub turns : {A B : Type 0} → (List Item → Bool) → (A → B → A) → Parser B → A → Parser A
turns go step p a = λ l. turns_from (length l) go step p a l

-- what was read is counted afterwards, and the first item too many is the unfit one
abbrev pub left : {A : Type 0} → Outcome A → ℕ
left (Ok x) = length x.1
left (Err n) = n

abbrev pub counted_as : {A : Type 0} → ℕ → List Item → Outcome A → Outcome A
counted_as n l o = if leb (length l - n) (left o) then o else Err (length l - n)

abbrev pub counted : {A : Type 0} → ℕ → Parser A → Parser A
counted n p = λ l. counted_as n l (p l)

-- ---- what a function that parses ensures: the parser's outcome, unless memory fails

abbrev pub Fails : {Y : Type 0} → Stop → Result Y ℕ → Type 0
Fails Memory read = Unit {0}
Fails (Unfit n) read = read ≡ Err n

abbrev pub Gives : {X Y : Type 0} → (X → Y) → Result X Stop → Result Y ℕ → Type 0
Gives view (Ok x) read = read ≡ Ok (view x)
Gives view (Err e) read = Fails e read
