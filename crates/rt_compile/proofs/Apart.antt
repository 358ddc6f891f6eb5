-- The code of the procedures of a module is taken in their order.
use Rattle.std.proofs.Common.{◌≡◌, ℕ, ◌+◌, List, [], ◌∷◌, ◌++◌, map, Option, Some, None, refl, ap, ◌∙◌}
use Rattle.rt_tree_nodes.specs.declared.brick.Brick.{Brick}
use Rattle.rt_tree_nodes.specs.declared.brick.BrickSort.{BrickSort}
use Rattle.rt_tree_nodes.specs.declared.brick.BrickSort.TheVariants as sort
use Rattle.rt_tree_nodes.specs.declared.brick.ModuleParts.{ModuleParts}
use Rattle.rt_object.specs.declared.object.Brick.{Brick as Compiled}
use Rattle.rt_object.specs.declared.object.ObjectParts.{ObjectParts}
use Rattle.rt_icode.specs.declared.procedure.IProc.{IProc}
use Rattle.rt_lower.specs.declared.layouts.Layouts.{Layouts}
use Rattle.rt_lower.specs.Code.{procedure_by, procedures, intermediate}
use Rattle.rt_templates.specs.declared.code.ProcCode.{ProcCode}
use Rattle.rt_templates.specs.Expanded.{proc_of}
use Rattle.rt_compile.specs.Objects.{brick_by, code_by, bricks, AreShort, IsObjectWith}
use Rattle.rt_compile.specs.Walks.{first, behind, compiled, IsJoined}

module _ (l : Layouts) (p : ModuleParts) where
  first_is : (k : ℕ) (d : Brick) (s : BrickSort) (qs : List IProc) → first s (map proc_of (procedure_by l p k d s ++ qs)) ≡ code_by l p k d s
  first_is k d (sort.Proc m (Some b)) qs = refl
  first_is k d (sort.Proc m None) qs = refl
  first_is k d (sort.Data fs ss) qs = refl
  first_is k d (sort.Stack n) qs = refl

  behind_is : (k : ℕ) (d : Brick) (s : BrickSort) (qs : List IProc) → behind s (map proc_of (procedure_by l p k d s ++ qs)) ≡ map proc_of qs
  behind_is k d (sort.Proc m (Some b)) qs = refl
  behind_is k d (sort.Proc m None) qs = refl
  behind_is k d (sort.Data fs ss) qs = refl
  behind_is k d (sort.Stack n) qs = refl

  pub apart : (k : ℕ) (ds : List Brick) → compiled l p k ds (map proc_of (procedures l p k ds)) ≡ bricks l p k ds
  apart k [] = refl
  apart k (d ∷ ds) =
      let qs = procedures l p (k + 1) ds in
      ap (λ (c : Option ProcCode). brick_by l p k d c ∷ compiled l p (k + 1) ds (behind d.sort (map proc_of (procedure_by l p k d d.sort ++ qs)))) (first_is k d d.sort qs)
      ∙ ap (λ (cs : List ProcCode). brick_by l p k d (code_by l p k d d.sort) ∷ compiled l p (k + 1) ds cs) (behind_is k d d.sort qs)
      ∙ ap (λ (bs : List (Option Compiled)). brick_by l p k d (code_by l p k d d.sort) ∷ bs) (apart (k + 1) ds)

  -- the parts that are put together are the object's
  pub is_object : (o : ObjectParts) (bs : List Compiled) (cs : List ProcCode) → AreShort (intermediate l p) → cs ≡ map proc_of (intermediate l p).procs → map (λ b. Some b) bs ≡ compiled l p 0 p.bricks cs → IsJoined p bs o
      → IsObjectWith l p o
  is_object o bs cs short code made j = record {
    short = short;
    title = j.title;
    records = j.records;
    strings = j.strings;
    bricks = ap (λ (ds : List Compiled). map (λ b. Some b) ds) j.bricks ∙ made ∙ ap (compiled l p 0 p.bricks) code ∙ apart 0 p.bricks;
    taken = j.taken;
  }
