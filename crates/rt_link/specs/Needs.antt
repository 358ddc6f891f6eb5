-- The needs of roots, as they are found among the needs of an order.
use Rattle.std.specs.Prelude.{ℕ, min, List, map, Option, Some, None}
use Rattle.rt_tree_nodes.specs.declared.store.Proc.{Proc}
use Rattle.rt_graph.specs.Scans.{told_need}

-- a need as far as one word counts; what isn't told counts as 0
abbrev pub word : Option ℕ → ℕ
word None = 0
word (Some n) = min n 65535

-- of each root the need that is told with an order
abbrev pub root_words : List Proc → List ℕ → List Proc → List ℕ
root_words order needs roots = map (λ f. word (told_need order needs f)) roots
