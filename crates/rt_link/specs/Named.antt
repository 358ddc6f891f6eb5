-- The addresses of what relocations name. What has none counts as being at 0.
use Rattle.std.specs.Prelude.{ℕ, nat_le, if◌then◌else◌, List, Option, Some, None}
use Rattle.rt_words.specs.Word.{wrap_add}
use Rattle.rt_tree_nodes.specs.declared.store.Proc.{Proc}
use Rattle.rt_object.specs.declared.object.ObjectParts.{ObjectParts}
use Rattle.rt_object.specs.declared.object.Relocated.{Relocated}
use Rattle.rt_object.specs.declared.object.Relocated.TheVariants as relocated
use Rattle.rt_object.specs.declared.object.Relocation.{Relocation}
use Rattle.rt_match.specs.declared.bindings.Bound.{Bound}
use Rattle.rt_match.specs.declared.bindings.Bound.TheVariants as bound
use Rattle.rt_graph.specs.Calls.{brick, numbered, bound_in}
use Rattle.rt_templates.specs.Supported.{begins, routines}
use Rattle.rt_link.specs.Addresses.{brick_address, string_address}

-- where a routine of the support code begins, by its number
unfoldable pub routine_address : ℕ → ℕ
routine_address k = begins 0 routines k

-- a supplied procedure is the routine of its number; supplied data have no address, since each task has its own
abbrev pub supplied_address : ℕ → ℕ
supplied_address k = if nat_le k 10 then routine_address k else 0

-- the objects of a system, the stack bricks of its tasks, and to what its bricks are bound
module _ (objects : List ObjectParts) (stacks : List Proc) (of : List (List Bound)) where
  -- brick b of module m, which is bound so
  abbrev pub bound_address : ℕ → ℕ → Option Bound → ℕ
  bound_address m b None = 0
  bound_address m b (Some bound.Own) = brick_address objects stacks (brick m b)
  bound_address m b (Some (bound.Brick n c)) = brick_address objects stacks (brick n c)
  bound_address m b (Some (bound.Supplied k)) = supplied_address k

  -- what a relocation of module m names
  abbrev pub named_address : ℕ → Relocated → ℕ
  named_address m (relocated.Brick b) = bound_address m b (bound_in (numbered of m) b)
  named_address m (relocated.String k) = string_address objects stacks m k
  named_address m (relocated.Support k) = routine_address k

  -- the word of a relocation
  abbrev pub relocated_word : ℕ → Relocation → ℕ
  relocated_word m r = wrap_add (named_address m r.of) r.offset
