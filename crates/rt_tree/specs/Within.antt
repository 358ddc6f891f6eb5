-- The modules whose procedures stay within what the code of a procedure may take.
use Rattle.std.specs.Prelude.{ℕ, ◌+◌, ◌*◌, ◌<◌, ◌≤◌, length, Option, Some, None}
use Rattle.std.specs.List.{AllByRecursion}
use Rattle.rt_modes.specs.declared.mode.Mode.{Mode, out-Mode}
use Rattle.rt_tree_nodes.specs.declared.brick.BrickSort.{BrickSort}
use Rattle.rt_tree_nodes.specs.declared.brick.BrickSort.TheVariants as sort
use Rattle.rt_tree_nodes.specs.declared.brick.ModuleParts.{ModuleParts}
use Rattle.rt_tree_nodes.specs.declared.brick.ProcBody.{ProcBody}
use Rattle.rt_tree.specs.Depth.{sequence_depth, local_words}
use Rattle.rt_tree_nodes.specs.Scopes.{scope_of, with_locals}
use Rattle.rt_tree.specs.Statements.{body_tree}
use Rattle.rt_tree_nodes.specs.Tree.{Seq}
use Rattle.rt_tree_nodes.specs.Typing.{Signature, signature_by}
use Rattle.rt_tree.specs.Weights.{unmarked, sequence_weight}

-- The plain tree of a procedure of a module.
abbrev pub tree_of : ModuleParts → ProcBody → Seq
tree_of p b = body_tree (with_locals (scope_of p) b.locals) b.body

-- the number of parameters of a procedure
abbrev pub parameters_by : Option Signature → ℕ
parameters_by None = 0
parameters_by (Some s) = length s.parameters

abbrev pub parameters_of : Mode → ℕ
parameters_of m = parameters_by (signature_by (out-Mode m))

-- The beginning and the end of a procedure may take so many words, and make so many unmarked instructions: what the six items of its
-- heading and its end are worth, and 16 words more.
abbrev pub frame_words : ℕ
frame_words = 88

abbrev pub frame_unmarked : ℕ
frame_unmarked = 144

-- A procedure with so many parameters, of one word each. The arguments of a call stand on the stack, so they are among its depth.
pub record ProcWithin (p : ModuleParts) (count : ℕ) (b : ProcBody) : Type 0 where
  pub parameters : count < 65536
  pub locals : local_words count b (tree_of p b) < 65536
  pub depth : sequence_depth (tree_of p b) < 65536
  pub words : sequence_weight (tree_of p b) + frame_words ≤ 12 * b.items + 16
  pub unmarked_made : unmarked (sequence_weight (tree_of p b)) + frame_unmarked ≤ 24 * b.items

abbrev pub BodyWithin : ModuleParts → ℕ → Option ProcBody → Type 0
BodyWithin p parameters None = Unit {0}
BodyWithin p parameters (Some b) = ProcWithin p parameters b

abbrev pub SortWithin : ModuleParts → BrickSort → Type 0
SortWithin p (sort.Proc m body) = BodyWithin p (parameters_of m) body
SortWithin p (sort.Data fs ss) = Unit {0}
SortWithin p (sort.Stack n) = Unit {0}

-- every own or ENT procedure is within
abbrev pub Within : ModuleParts → Type 0
Within p = AllByRecursion (λ b. SortWithin p b.sort) p.bricks
