-- Each brick of a module whose nodes fit is one of an object.
use Rattle.std.proofs.Common.{◌≡◌, ℕ, suc, ◌+◌, Bool, true, false, not, List, [], ◌∷◌, map, Option, Some, None, option_map, refl, sym, ap, ◌∙◌, arith}
use Rattle.std.specs.Prelude.{slice_get}
use Rattle.rt_modes.specs.declared.mode.Mode.{Mode}
use Rattle.rt_tree_nodes.specs.declared.brick.Brick.{Brick}
use Rattle.rt_tree_nodes.specs.declared.brick.BrickSort.{BrickSort}
use Rattle.rt_tree_nodes.specs.declared.brick.BrickSort.TheVariants as sort
use Rattle.rt_tree_nodes.specs.declared.brick.Kind.{Kind}
use Rattle.rt_tree_nodes.specs.declared.brick.Kind.TheVariants as kind
use Rattle.rt_tree_nodes.specs.declared.brick.ModuleParts.{ModuleParts}
use Rattle.rt_tree_nodes.specs.declared.brick.ProcBody.{ProcBody}
use Rattle.rt_tree_nodes.specs.Scopes.{with, scope_of}
use Rattle.rt_tree.specs.Modules.{is_here, sort_fits, every_node_fits}
use Rattle.rt_frames.specs.Frames.{frame_in, frame}
use Rattle.rt_object.specs.declared.object.Brick.{Brick as Compiled}
use Rattle.rt_lower.specs.declared.layouts.Layouts.{Layouts}
use Rattle.rt_compile.specs.Objects.{named, kind_by, code_by, brick, bricks}
use Rattle.rt_meaning_laws.proofs.Nodes.{brick_fit, proc_opens}

abbrev There : {A : Type 0} → Option A → Type 0
There {A} o = (x : A) × (o ≡ Some x)

mapped : {A B : Type 0} (f : A → B) (o : Option A) → There o → There (option_map f o)
mapped f o (x, e) = (f x, ap (option_map f) e)

module _ (l : Layouts) (p : ModuleParts) (fits : every_node_fits p ≡ true) where
  frame_there : (k : ℕ) (d : Brick) (m : Mode) (b : ProcBody) → slice_get p.bricks k ≡ Some d → d.sort ≡ sort.Proc m (Some b) → There (frame p k)
  frame_there k d m b at is = (_, ap (λ (o : Option Brick). with o (λ e. frame_in p e.sort)) at ∙ ap (frame_in p) is)

  -- an own or ENT procedure has a body
  has_body : (kd : Kind) (k : ℕ) (d : Brick) (m : Mode) → slice_get p.bricks k ≡ Some d → d.kind ≡ kd → d.sort ≡ sort.Proc m None → is_here kd ≡ true → ⊥
  has_body kd k d m at same is here =
      let r = proc_opens p fits k d m None at is in
      absurd_not (is_here d.kind) (ap is_here same ∙ here) r.4 where
        absurd_not : (b : Bool) → b ≡ true → not b ≡ true → ⊥
        absurd_not true e h = absurd cc
        absurd_not false e h = absurd cc

  -- a stack is none of the supervisor's
  no_stack : (k : ℕ) (d : Brick) (n : ℕ) → slice_get p.bricks k ≡ Some d → d.kind ≡ kind.Svc → d.sort ≡ sort.Stack n → ⊥
  no_stack k d n at same is =
      let h : sort_fits (scope_of p) kind.Svc d.name (sort.Stack n) ≡ true = ap (λ (x : BrickSort). sort_fits (scope_of p) kind.Svc d.name x) (sym is) ∙ ap (λ (x : Kind). sort_fits (scope_of p) x d.name d.sort) (sym same) ∙ brick_fit p fits k d at in
      let bad : false ≡ true = h in
      absurd cc

  kind_there : (k : ℕ) (d : Brick) (kd : Kind) (s : BrickSort) → slice_get p.bricks k ≡ Some d → d.kind ≡ kd → d.sort ≡ s → There (kind_by l p k kd s (code_by l p k d s))
  kind_there k d kind.Own (sort.Proc m (Some b)) at same is = mapped _ _ (mapped _ (frame p k) (frame_there k d m b at is))
  kind_there k d kind.Own (sort.Proc m None) at same is = absurd (has_body kind.Own k d m at same is refl)
  kind_there k d kind.Own (sort.Data fs ss) at same is = (_, refl)
  kind_there k d kind.Own (sort.Stack n) at same is = (_, refl)
  kind_there k d kind.Ent (sort.Proc m (Some b)) at same is = mapped _ _ (mapped _ (frame p k) (frame_there k d m b at is))
  kind_there k d kind.Ent (sort.Proc m None) at same is = absurd (has_body kind.Ent k d m at same is refl)
  kind_there k d kind.Ent (sort.Data fs ss) at same is = (_, refl)
  kind_there k d kind.Ent (sort.Stack n) at same is = (_, refl)
  kind_there k d kind.Ext s at same is = (_, refl)
  kind_there k d kind.Svc (sort.Proc m body) at same is = (_, refl)
  kind_there k d kind.Svc (sort.Data fs ss) at same is = (_, refl)
  kind_there k d kind.Svc (sort.Stack n) at same is = absurd (no_stack k d n at same is)

  brick_there : (k : ℕ) (d : Brick) → slice_get p.bricks k ≡ Some d → There (brick l p k d)
  brick_there k d at = mapped (named d.name) (kind_by l p k d.kind d.sort (code_by l p k d d.sort)) (kind_there k d d.kind d.sort at refl refl)

  bricks_there : (ds : List Brick) (k : ℕ) → ((i : ℕ) (d : Brick) → slice_get ds i ≡ Some d → slice_get p.bricks (k + i) ≡ Some d) → (bs : List Compiled) × (map Some bs ≡ bricks l p k ds)
  bricks_there [] k at = ([], refl)
  bricks_there (d ∷ ds) k at =
      let here : slice_get p.bricks k ≡ Some d = ap (slice_get p.bricks) (let e : k ≡ k + 0 = omega arith in e) ∙ at 0 d refl in
      let one = brick_there k d here in
      let rest = bricks_there ds (k + 1) (λ i x e. ap (slice_get p.bricks) (let q : (k + 1) + i ≡ k + suc i = omega arith in q) ∙ at (suc i) x e) in
      (one.0 ∷ rest.0, ap (λ (o : Option Compiled). o ∷ map Some rest.0) (sym one.1) ∙ ap (λ (os : List (Option Compiled)). brick l p k d ∷ os) rest.1)

  pub all_there : (bs : List Compiled) × (map Some bs ≡ bricks l p 0 p.bricks)
  all_there = bricks_there p.bricks 0 (λ i d e. ap (slice_get p.bricks) (let q : 0 + i ≡ i = omega arith in q) ∙ e)
