-- A procedure that has a word begins in the code.
use Rattle.std.proofs.Common.{◌≡◌, ℕ, zero, suc, ◌*◌, ◌<◌, ◌≤◌, List, length, Option, Some, None, slice_get, refl, ap, arith}
use Rattle.rt_tree_nodes.specs.declared.store.Proc.{Proc}
use Rattle.rt_object.specs.declared.object.Brick.{Brick}
use Rattle.rt_object.specs.declared.object.Content.TheVariants as content
use Rattle.rt_object.specs.declared.object.ObjectParts.{ObjectParts}
use Rattle.rt_object.specs.declared.object.ProcContent.{ProcContent}
use Rattle.rt_graph.specs.Calls.{brick, content_at, content_of}
use Rattle.rt_link.specs.Addresses.{nth_at, code_at, module_code_at}
use Rattle.rt_link.specs.Room.{bricks_in, bricks_of, code_in, code_bytes, module_code, code_start, code_end}
use Rattle.rt_bases.specs.Bases.{EntriesAreInside}
use Rattle.rt_bases.proofs.Lying.{within}

module _ (objects : List ObjectParts) (stacks : List Proc) where
  brick_left : (q : Option Brick) (p : ProcContent) → content_at q ≡ Some (content.Proc p) → (d : Brick) × (q ≡ Some d) × (content_of d.kind ≡ Some (content.Proc p))
  brick_left None p e = absurd cc
  brick_left (Some d) p e = (d, refl, e)

  none_there : (b : ℕ) (p : ProcContent) → content_at (slice_get (bricks_in None) b) ≡ Some (content.Proc p) → ⊥
  none_there b p e = cc

  in_module : (i b : ℕ) (p : ProcContent) (q : Option ObjectParts) → slice_get objects i ≡ q → content_at (slice_get (bricks_in q) b) ≡ Some (content.Proc p) → 1 ≤ length p.words → code_at objects stacks (brick (suc i) b) < code_end objects stacks
  in_module i b p None at e some = absurd (none_there b p e)
  in_module i b p (Some o) at e some =
      let d = brick_left (slice_get o.bricks b) p e in
      let bytes : code_bytes d.0 ≡ 2 * length p.words = ap code_in d.2 in
      let first = within code_bytes o.bricks (module_code_at objects stacks (suc i)) b d.0 d.1 in
      let all = within module_code objects (code_start objects stacks) i o at in
      let place : code_at objects stacks (brick (suc i) b) ≡ nth_at code_bytes o.bricks (module_code_at objects stacks (suc i)) b = ap (λ (z : Option ObjectParts). nth_at code_bytes (bricks_in z) (module_code_at objects stacks (suc i)) b) at in
      omega arith

  by_module : (m b : ℕ) (p : ProcContent) → content_at (slice_get (bricks_of objects m) b) ≡ Some (content.Proc p) → 1 ≤ length p.words → code_at objects stacks (brick m b) < code_end objects stacks
  by_module zero b p e some = absurd (none_there b p e)
  by_module (suc i) b p e some = in_module i b p (slice_get objects i) refl e some

pub entries_are_inside : EntriesAreInside
entries_are_inside objects stacks f p e some = by_module objects stacks f.module f.brick p e some
