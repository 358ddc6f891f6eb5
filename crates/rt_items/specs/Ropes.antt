-- LET texts in parts: each text is a run of items, or two earlier texts, one behind the other.
use Rattle.std.specs.Prelude.{◌≡◌, ℕ, zero, suc, ◌+◌, ◌*◌, ◌-◌, ◌≤◌, List, [], ◌∷◌, ◌++◌, length, Option, Some, None}
use Rattle.rt_pieces.specs.declared.item.ItemKind.{ItemKind}
use Rattle.rt_pieces.specs.declared.item.ItemKind.TheVariants as kind
use Rattle.rt_items.specs.declared.rope.Node.{Node}
use Rattle.rt_items.specs.declared.rope.Node.TheVariants as node

abbrev pub Kinds : Type 0
Kinds = List ItemKind

-- the text of this number, and nothing where there is none
abbrev pub nth_text : List Kinds → ℕ → Kinds
nth_text [] i = []
nth_text (t ∷ ts) zero = t
nth_text (t ∷ ts) (suc i) = nth_text ts i

abbrev pub text_at : List Kinds → Option ℕ → Kinds
text_at texts None = []
text_at texts (Some i) = nth_text texts i

-- what a node stands for, behind these texts
abbrev pub node_text : List Kinds → Node → Kinds
node_text done (node.Run run) = run
node_text done (node.Join join) = nth_text done join.left ++ nth_text done join.right

-- the texts of the nodes, behind these
abbrev pub grown : List Kinds → List Node → List Kinds
grown done [] = done
grown done (n ∷ ns) = grown (done ++ node_text done n ∷ []) ns

-- no node's text is empty, and a join knows its size
abbrev pub IsBuilt : List Kinds → Node → Type 0
IsBuilt done (node.Run run) = 1 ≤ length run
IsBuilt done (node.Join join) = (1 ≤ length (nth_text done join.left)) × (1 ≤ length (nth_text done join.right)) × (join.size ≡ length (nth_text done join.left) + length (nth_text done join.right))

abbrev pub AreBuilt : List Kinds → List Node → Type 0
AreBuilt done [] = Unit {0}
AreBuilt done (n ∷ ns) = IsBuilt done n × AreBuilt (done ++ node_text done n ∷ []) ns

-- a text that is not empty stays what it is
abbrev pub Keeps : List Kinds → List Kinds → Type 0
Keeps old new = (i : ℕ) → 1 ≤ length (nth_text old i) → nth_text new i ≡ nth_text old i

-- no text, or one that is not empty
abbrev pub IsRoot : List Kinds → Option ℕ → Type 0
IsRoot texts None = Unit {0}
IsRoot texts (Some i) = 1 ≤ length (nth_text texts i)

-- the texts that are still to be written, the last of them first
abbrev pub rest_text : List Kinds → List ℕ → Kinds
rest_text texts [] = []
rest_text texts (i ∷ is) = rest_text texts is ++ nth_text texts i

-- at least the steps in which they are written
abbrev pub steps_left : List Kinds → List ℕ → ℕ
steps_left texts [] = 0
steps_left texts (i ∷ is) = steps_left texts is + (2 * length (nth_text texts i) - 2 + 1)

-- the number that a text is, where it is exactly one
abbrev pub one_number : Kinds → Option ℕ
one_number (kind.Number v ∷ []) = Some v
one_number _ = None
