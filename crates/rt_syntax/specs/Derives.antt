-- What a body is, which item of a list is unfit for a part of the grammar, and what the parser of the part may answer.
use Rattle.std.specs.Prelude.{◌≡◌, ℕ, ◌+◌, ◌-◌, ◌<◌, ◌≤◌, List, length, drop, Option, Some, None, Result, Ok, Err, ◌⊎◌, slice_get}
use Rattle.rt_pieces.specs.declared.item.Item.{Item}
use Rattle.rt_syntax_exprs.specs.declared.limits.Limits.{Limits}
use Rattle.rt_syntax_exprs.specs.declared.limits.Context.{Context}
use Rattle.rt_syntax.specs.declared.tree.Body.{Body}
use Rattle.rt_syntax.specs.declared.fault.SyntaxFault.{SyntaxFault}
use Rattle.rt_syntax.specs.declared.fault.SyntaxFault.TheVariants.{Memory, Syntax}
use Rattle.rt_syntax.specs.Statements.{closed}
use Rattle.rt_grammar.specs.Parts.{Part}

-- the limits of the language
abbrev pub language_limits : Limits
language_limits = record { parentheses = 100; statements = 100; modes = 100; items = 500; parameters = 32; references = 8 }

-- within these limits, in this list of items
abbrev pub in_list : List Item → Limits → Context
in_list items limits = record { total = length items; limits = limits }

-- The items from at on, up to place, are this body, within the limits of the language, and the item at
-- place is the ENDPROC or ENDBLOCK that ends it.
unfoldable pub Derives : List Item → ℕ → Body → ℕ → Type 0
Derives items at b place = (place < length items) × (closed (in_list items language_limits)).Fits (drop at items) (drop (place + 1) items) b

-- The items from at on, up to n, begin this part, within these limits.
unfoldable pub BeginsWithin : {A : Type 0} → (Context → Part A) → Limits → List Item → ℕ → ℕ → Type 0
BeginsWithin part limits items at n = (part (in_list items limits)).Begins (drop at items) (drop n items)

-- They do so within some limits: no limit is asked of them.
unfoldable pub IsViable : {A : Type 0} → (Context → Part A) → List Item → ℕ → ℕ → Type 0
IsViable part items at n = (limits : Limits) × BeginsWithin part limits items at n

-- Item n passes a limit: with it the items begin this part, and not within the limits of the language.
unfoldable pub PassesLimit : {A : Type 0} → (Context → Part A) → List Item → ℕ → ℕ → Type 0
PassesLimit part items at n = IsViable part items at (n + 1) × (BeginsWithin part language_limits items at (n + 1) → ⊥)

-- Item n is the first one with which the items from at on do not begin this part, or which passes a limit.
pub record IsUnfit {A : Type 0} (part : Context → Part A) (items : List Item) (at n : ℕ) : Type 0 where
  pub from : at ≤ n
  pub there : n < length items
  pub before : (k : ℕ) → at ≤ k → k ≤ n → BeginsWithin part language_limits items at k
  pub with_it : IsViable part items at (n + 1) → PassesLimit part items at n

abbrev pub line_or_one : Option Item → ℕ
line_or_one (Some i) = i.line
line_or_one None = 1

-- the line of the last item, or 1
abbrev pub last_line : List Item → ℕ
last_line items = line_or_one (slice_get items (length items - 1))

-- The number of the unfit item; where there is none, how many items there are.
abbrev pub IsRefusedBy : {A : Type 0} → (Context → Part A) → List Item → ℕ → ℕ → Type 0
IsRefusedBy part items at item =
    IsUnfit part items at item ⊎ (((k : ℕ) → at ≤ k → k ≤ length items → BeginsWithin part language_limits items at k) × (item ≡ length items))

-- The line of the unfit item; where there is none, of the last item, or 1.
abbrev pub IsRefusedAt : {A : Type 0} → (Context → Part A) → List Item → ℕ → ℕ → Type 0
IsRefusedAt part items at line =
    ((n : ℕ) × (i : Item) × IsUnfit part items at n × (slice_get items n ≡ Some i) × (line ≡ i.line))
    ⊎ (((k : ℕ) → at ≤ k → k ≤ length items → BeginsWithin part language_limits items at k) × (line ≡ last_line (drop at items)))

-- this meaning, unless memory runs out
abbrev pub IsOrMemory : {X : Type 0} → X → Result X SyntaxFault → Type 0
IsOrMemory x (Ok y) = y ≡ x
IsOrMemory x (Err Memory) = Unit {0}
IsOrMemory x (Err (Syntax item line)) = ⊥

-- a fault other than want of memory has the number and the line of the unfit item
abbrev pub Refuses : {A : Type 0} → (Context → Part A) → List Item → ℕ → SyntaxFault → Type 0
Refuses part items at Memory = Unit {0}
Refuses part items at (Syntax item line) = IsRefusedBy part items at item × IsRefusedAt part items at line

-- the line of the item from which so many are left; where none is left, of the last item, or 1
abbrev pub line_left_by : List Item → Option Item → ℕ
line_left_by items (Some i) = i.line
line_left_by items None = last_line items

abbrev pub line_left : List Item → ℕ → ℕ
line_left items left = line_left_by items (slice_get items (length items - left))
