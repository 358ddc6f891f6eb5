-- The intermediate code of each procedure of a module is measured by its frame.
use Rattle.std.proofs.Common.{◌≡◌, ℕ, suc, ◌+◌, ◌-◌, true, List, [], ◌∷◌, ◌++◌, length, Option, Some, None, slice_get, refl, sym, ap, ◌∙◌, subst, arith}
use Rattle.std.specs.List.{AllByRecursion}
use Rattle.rt_modes.specs.declared.mode.Mode.{Mode}
use Rattle.rt_tree_nodes.specs.declared.brick.Brick.{Brick}
use Rattle.rt_tree_nodes.specs.declared.brick.BrickSort.{BrickSort}
use Rattle.rt_tree_nodes.specs.declared.brick.BrickSort.TheVariants as sort
use Rattle.rt_tree_nodes.specs.declared.brick.ModuleParts.{ModuleParts}
use Rattle.rt_tree_nodes.specs.declared.brick.ProcBody.{ProcBody}
use Rattle.rt_tree_nodes.specs.Scopes.{with}
use Rattle.rt_tree.specs.Modules.{every_node_fits}
use Rattle.rt_tree.specs.Within.{parameters_of, tree_of}
use Rattle.rt_frames.specs.Frames.{body_frame, frame_in}
use Rattle.rt_frames_laws.specs.Laws.{tree_in, PointsArePlain}
use Rattle.rt_icode.specs.declared.procedure.IProc.{IProc}
use Rattle.rt_icode.specs.declared.procedure.IModule.{IModule}
use Rattle.rt_lower.specs.declared.layouts.Layouts.{Layouts}
use Rattle.rt_lower.specs.Code.{procedure, procedure_by, procedures}
use Rattle.rt_lower_frames_laws.specs.Laws.{IsMeasured, IntermediateCodeIsMeasured}
use Rattle.rt_lower_frames_laws.proofs.Whole.{all_framed}

module _ (plain : PointsArePlain) (l : Layouts) (p : ModuleParts) (fits : every_node_fits p ≡ true) where
  measured : (k : ℕ) (d : Brick) (m : Mode) (b : ProcBody) → slice_get p.bricks k ≡ Some d → d.sort ≡ sort.Proc m (Some b) → IsMeasured p (procedure l p k d m b)
  measured k d m b e s =
      let its = ap (λ (o : Option Brick). with o (λ x. frame_in p x.sort)) e ∙ ap (frame_in p) s in
      let tree = ap (λ (o : Option Brick). with o (λ x. tree_in p x.sort)) e ∙ ap (tree_in p) s in
      record {
        number = k;
        brick = d;
        frame = body_frame p (parameters_of m) b;
        at = e;
        named = refl;
        counted = its;
        framed = all_framed plain l p k (parameters_of m) (length b.locals - parameters_of m) (body_frame p (parameters_of m) b) (tree_of p b) fits its tree;
      }

  -- a brick, and what stands behind it
  brick_measured : (k : ℕ) (d : Brick) (s : BrickSort) (rest : List IProc) → slice_get p.bricks k ≡ Some d → d.sort ≡ s → AllByRecursion (IsMeasured p) rest → AllByRecursion (IsMeasured p) (procedure_by l p k d s ++ rest)
  brick_measured k d (sort.Proc m (Some b)) rest e s h = (measured k d m b e s, h)
  brick_measured k d (sort.Proc m None) rest e s h = h
  brick_measured k d (sort.Data fs ss) rest e s h = h
  brick_measured k d (sort.Stack n) rest e s h = h

  bricks_measured : (k : ℕ) (ds : List Brick) → ((j : ℕ) (d : Brick) → slice_get ds j ≡ Some d → slice_get p.bricks (k + j) ≡ Some d) → AllByRecursion (IsMeasured p) (procedures l p k ds)
  bricks_measured k [] at = tt
  bricks_measured k (d ∷ ds) at =
      let here : k + 0 ≡ k = omega arith in
      brick_measured k d d.sort (procedures l p (k + 1) ds) (ap (slice_get p.bricks) (sym here) ∙ at 0 d refl) refl (bricks_measured (k + 1) ds (λ j x e. let next : k + 1 + j ≡ k + suc j = omega arith in
      ap (slice_get p.bricks) next ∙ at (suc j) x e))

pub all_measured : PointsArePlain → IntermediateCodeIsMeasured
all_measured plain p m fits i =
    subst (λ (x : IModule). AllByRecursion (IsMeasured p) x.procs) (sym i.code)
    (bricks_measured plain i.layouts p fits 0 p.bricks (λ j d e. let same : 0 + j ≡ j = omega arith in ap (slice_get p.bricks) same ∙ e))
