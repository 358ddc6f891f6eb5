-- All that Lays asks.
use Rattle.std.proofs.Common.{true, false, Bool, ◌≡◌, ℕ, zero, suc, ◌<◌, ◌≤◌, nat_le, if◌then◌else◌, List, Option, Some, None, refl, arith}
use Rattle.rt_tree_nodes.specs.declared.store.Proc.{Proc}
use Rattle.rt_tree.specs.FullModes.{FullModesTell}
use Rattle.rt_tree.specs.Opened.{FullModesOpen}
use Rattle.rt_object.specs.declared.object.Content.{Content}
use Rattle.rt_object.specs.declared.object.Content.TheVariants as content
use Rattle.rt_object.specs.declared.object.ObjectParts.{ObjectParts}
use Rattle.rt_graph.specs.Scans.{told_need}
use Rattle.rt_link.specs.Addresses.{code_at}
use Rattle.rt_link.specs.Named.{routine_address}
use Rattle.rt_link.specs.Room.{held, code_end, room}
use Rattle.rt_laid.proofs.Laying.{places_lie}
use Rattle.rt_bases.proofs.Lying.{code_end_even}
use Rattle.rt_bases.proofs.Coding.{entries_are_inside}
use Rattle.rt_bases.proofs.Supporting.{supports_are_inside}
use Rattle.rt_imaged.specs.Whole.{entry_in, entry_by, need_in, sizes_of, whole_of}
use Rattle.rt_imaged.specs.Laid.{HaveWords, SystemsAreLaid}
use Rattle.rt_imaged.proofs.Fixing.{fixed_are_laid}
use Rattle.rt_imaged.proofs.Lying.{laid}

module _ (objects : List ObjectParts) (stacks : List Proc) (have : HaveWords objects) where
  some_code : 0 < code_end objects stacks
  some_code = let a = supports_are_inside objects stacks 0 in omega arith

  if_inside : (b : Bool) (n : ℕ) → (if b then routine_address n else 0) < code_end objects stacks
  if_inside true n = supports_are_inside objects stacks n
  if_inside false n = some_code

  held_inside : (f : Proc) (q : Option Content) → held objects f ≡ q → entry_in q (code_at objects stacks f) < code_end objects stacks
  held_inside f None e = some_code
  held_inside f (Some (content.Proc p)) e = entries_are_inside objects stacks f p e (have f p e)
  held_inside f (Some (content.Data d)) e = some_code
  held_inside f (Some (content.Stack n)) e = some_code

  entry_inside : (f : Proc) (m : ℕ) → entry_by objects stacks f m < code_end objects stacks
  entry_inside f zero = if_inside (nat_le f.brick 10) f.brick
  entry_inside f (suc m) = held_inside f (held objects f) refl

some_need : (q : Option ℕ) → 1 ≤ need_in q
some_need None = omega arith
some_need (Some n) = omega arith

pub systems_are_laid : FullModesOpen → FullModesTell → SystemsAreLaid
systems_are_laid opens tells counted ps ls objects tasks image mapped s trees so tables alike have =
    let known = s.linked.known in
    let r : room objects known.stacks ≤ 57344 = s.linked.judged.room in
    record {
      order = omega arith;
      top = omega arith;
      room = omega arith;
      even_code = code_end_even objects known.stacks;
      places = places_lie opens tells (whole_of ps ls objects known image) (sizes_of ls) so tables (laid opens tells counted ps ls objects tasks image mapped s trees so tables);
      fixed = fixed_are_laid opens counted ps ls objects tasks image mapped s trees tables alike;
      entries = λ f. entry_inside objects known.stacks have f f.module;
      supports = λ n. supports_are_inside objects known.stacks n;
      least = λ live f. some_need (told_need known.order.procs known.needs f);
    }
