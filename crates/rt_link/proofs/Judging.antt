-- The stages of the verdict.
use Rattle.std.proofs.Common.{◌≡◌, ◌≤◌, ◌<◌, ℕ, List, length, sym, ap, subst, arith}
use Rattle.rt_tree_nodes.specs.declared.store.Proc.{Proc}
use Rattle.rt_object.specs.declared.object.ObjectParts.{ObjectParts}
use Rattle.rt_match.specs.declared.bindings.Bound.{Bound}
use Rattle.rt_match.specs.Matching.{Match, AreBound}
use Rattle.rt_match.specs.Signatures.{system_of}
use Rattle.rt_system.specs.declared.parts.Task.{Task}
use Rattle.rt_graph.specs.declared.fault.GraphFault.{GraphFault}
use Rattle.rt_graph.specs.declared.fault.GraphFault.TheVariants as graph
use Rattle.rt_graph.specs.Needs.{AreNeeds}
use Rattle.rt_graph.specs.Reach.{IsCallOrder}
use Rattle.rt_graph.specs.Tasks.{AreRoots, AreFound, IsSmall}
use Rattle.rt_link.specs.Room.{room}
use Rattle.rt_link.specs.declared.fault.LinkFault.{LinkFault}
use Rattle.rt_link.specs.declared.fault.LinkFault.TheVariants as fault
use Rattle.rt_link.specs.Faults.{of_graph}
use Rattle.rt_link.specs.Verdict.{memory, stack_bricks, IsOrdered, IsDeep, IsFault}
use Rattle.rt_link.proofs.TaskStacks.{few_stacks}

module _ (objects : List ObjectParts) (tasks : List Task) (of : List (List Bound)) (roots order : List Proc) (needs : List ℕ) where
  pub ordered : (lent : List Proc) → Match (system_of objects) → AreBound (system_of objects) of → AreRoots objects tasks roots → lent ≡ roots → IsCallOrder objects of lent order → AreNeeds objects of order needs → IsOrdered objects tasks of roots order needs
  ordered lent m b r e o n = record {
    rooted = record { matched = record { match = m; bound = b }; are_roots = r };
    is_order = subst (λ (rs : List Proc). IsCallOrder objects of rs order) e o;
    are_needs = n;
  }

  -- needs that are lent are those that were found
  pub found : (lent : List ℕ) → lent ≡ needs → IsOrdered objects tasks of roots order needs → AreFound objects tasks of order lent
  found lent e h = record {
    roots = roots;
    are_roots = (h.rooted).are_roots;
    is_order = h.is_order;
    are_needs = subst (λ (ns : List ℕ). AreNeeds objects of order ns) (sym e) h.are_needs;
  }

  pub small_fault : IsOrdered objects tasks of roots order needs → (f : GraphFault) → IsSmall objects tasks of f → IsFault objects tasks (of_graph f)
  small_fault h graph.Memory k = tt
  small_fault h (graph.SmallStack task need has) k = record { of = of; roots = roots; order = order; needs = needs; ordered = h; small = k }
  small_fault h (graph.BadTask line) k = absurd k
  small_fault h (graph.Recursion cycle) k = absurd k

  pub full_fault : IsDeep objects tasks of roots order needs → (lent : List Proc) → lent ≡ stack_bricks objects tasks → (f : LinkFault) → f ≡ fault.NoRoom (room objects lent) → memory < room objects lent → IsFault objects tasks f
  full_fault h lent e f is large = subst (IsFault objects tasks) (sym is) (record {
    of = of;
    roots = roots;
    order = order;
    needs = needs;
    deep = h;
    sum = ap (λ (fs : List Proc). room objects fs) e;
    large = large;
  })

pub few_lent : (objects : List ObjectParts) (tasks : List Task) (lent : List Proc) → lent ≡ stack_bricks objects tasks → length tasks ≤ 32 → length lent ≤ 32
few_lent objects tasks lent e h = let same : length lent ≡ length (stack_bricks objects tasks) = ap (λ (fs : List Proc). length fs) e in omega (arith, same, few_stacks objects tasks, h)
