-- The roots of an accepted system are roots of the source.
use Rattle.std.proofs.Common.{◌≡◌, ◌⊎◌, ℕ, zero, suc, ◌+◌, inl, inr, List, [], ◌∷◌, length, map, Option, Some, None, option_map, slice_get, refl, sym, ap, ◌∙◌, subst, arith}
use Rattle.std.specs.List.{AllByRecursion}
use Rattle.std.proofs.lemmas.Option.{slice_get_within}
use Rattle.rt_modes.specs.declared.mode.Mode.{Mode, out-Mode}
use Rattle.rt_modes.specs.declared.mode.Mode.TheOpen.{Mode-F}
use Rattle.rt_tree_nodes.specs.declared.brick.Brick.{Brick}
use Rattle.rt_tree_nodes.specs.declared.brick.BrickSort.{BrickSort}
use Rattle.rt_tree_nodes.specs.declared.brick.BrickSort.TheVariants as sort
use Rattle.rt_tree_nodes.specs.declared.brick.Kind.{Kind}
use Rattle.rt_tree_nodes.specs.declared.brick.Kind.TheVariants as kind
use Rattle.rt_tree_nodes.specs.declared.brick.ModuleParts.{ModuleParts}
use Rattle.rt_tree_nodes.specs.declared.brick.ProcBody.{ProcBody}
use Rattle.rt_tree_nodes.specs.declared.store.Proc.{Proc}
use Rattle.rt_tree_nodes.specs.Scopes.{scope_of}
use Rattle.rt_compile.specs.Data.{data_of}
use Rattle.rt_object.specs.declared.object.Supplied.{Supplied}
use Rattle.rt_tree.specs.Stored.{System, brick}
use Rattle.rt_sizes.proofs.Layers.{some_is}
use Rattle.rt_object.specs.declared.object.Brick.{Brick as Compiled}
use Rattle.rt_object.specs.declared.object.BrickKind.{BrickKind}
use Rattle.rt_object.specs.declared.object.BrickKind.TheVariants as whose
use Rattle.rt_object.specs.declared.object.Content.{Content}
use Rattle.rt_object.specs.declared.object.Content.TheVariants as content
use Rattle.rt_object.specs.declared.object.ObjectParts.{ObjectParts}
use Rattle.rt_object.specs.declared.object.ProcContent.{ProcContent}
use Rattle.rt_frames.specs.declared.frame.Frame.{Frame}
use Rattle.rt_frames.specs.Frames.{frame}
use Rattle.rt_templates.specs.declared.code.ProcCode.{ProcCode}
use Rattle.rt_graph.specs.Calls.{numbered}
use Rattle.rt_graph.specs.Tasks.{IsRootLayer, IsIntLayer, IsRootNamed}
use Rattle.rt_lower.specs.declared.layouts.Layouts.{Layouts}
use Rattle.rt_compile.specs.Objects as objects
use Rattle.rt_system.specs.declared.parts.Task.{Task}
use Rattle.rt_image.specs.declared.image.ImageParts.{ImageParts}
use Rattle.rt_image.specs.declared.map.Map.{Map}
use Rattle.rt_meaning.specs.Roots.{root_of}
use Rattle.rt_meaning_laws.specs.Slots.{IsInt}
use Rattle.rt_meaning_laws.specs.Starting.{IsRoot}
use Rattle.rt_imaged.specs.Whole.{source_tasks, IsSystem}
use Rattle.rt_imaged.specs.Tasks.{RootsAreRoots}
use Rattle.rt_imaged.proofs.Trees.{its_brick}
use Rattle.rt_imaged.proofs.Resolving.{there_is}

-- ---- what a compiled ENT procedure is compiled of

named_left : (name : List ℕ) (q : Option BrickKind) (c : Compiled) → option_map (objects.named name) q ≡ Some c → q ≡ Some c.kind
named_left name None c e = absurd cc
named_left name (Some k) c e = let is : objects.named name k ≡ c = some_is (objects.named name k) c e in ap (λ (z : Compiled). Some z.kind) is

ent_left : (q : Option Content) (c : Content) → option_map whose.Ent q ≡ Some (whose.Ent c) → q ≡ Some c
ent_left None c e = absurd cc
ent_left (Some x) c e = let is : whose.Ent x ≡ whose.Ent c = some_is (whose.Ent x) (whose.Ent c) e in (let q : x ≡ c = cc in ap (λ (z : Content). Some z) q)

own_right : (q : Option Content) (c : Content) → option_map whose.Own q ≡ Some (whose.Ent c) → ⊥
own_right None c e = cc
own_right (Some x) c e = let is : whose.Own x ≡ whose.Ent c = some_is (whose.Own x) (whose.Ent c) e in cc

frame_left : (m : Mode) (items : ℕ) (c : ProcCode) (o : Option Frame) (b : ProcContent) → option_map (λ f. content.Proc (objects.procedure_of m items f c)) o ≡ Some (content.Proc b) → b.mode ≡ m
frame_left m items c None b e = absurd cc
frame_left m items c (Some f) b e = let is : content.Proc (objects.procedure_of m items f c) ≡ content.Proc b = some_is (content.Proc (objects.procedure_of m items f c)) (content.Proc b) e in (let q : objects.procedure_of m items f c ≡ b = cc in sym (ap (λ (z : ProcContent). z.mode) q))

procedure_left : (l : Layouts) (p : ModuleParts) (k : ℕ) (m : Mode) (body : Option ProcBody) (c : Option ProcCode) (b : ProcContent) → objects.procedure_by l p k m body c ≡ Some (content.Proc b) → b.mode ≡ m
procedure_left l p k m (Some x) (Some c) b e = frame_left m x.items c (frame p k) b e
procedure_left l p k m (Some x) None b e = absurd cc
procedure_left l p k m None c b e = absurd cc

-- what holds a procedure is a procedure
record IsProc (d : BrickSort) (b : ProcContent) : Type 0 where
  pub mode : Mode
  pub body : Option ProcBody
  pub is : d ≡ sort.Proc mode body
  pub same : b.mode ≡ mode

content_left : (l : Layouts) (p : ModuleParts) (k : ℕ) (d : BrickSort) (c : Option ProcCode) (b : ProcContent) → objects.content_by l p k d c ≡ Some (content.Proc b) → IsProc d b
content_left l p k (sort.Proc m body) c b e = record { mode = m; body = body; is = refl; same = procedure_left l p k m body c b e }
content_left l p k (sort.Data fs ss) c b e = absurd (never e)
  where
    never : Some (content.Data (objects.items_of fs (data_of l (scope_of p) fs ss))) ≡ Some (content.Proc b) → ⊥
    never e = cc
content_left l p k (sort.Stack n) c b e = absurd (let bad : content.Stack n ≡ content.Proc b = some_is (content.Stack n) (content.Proc b) e in cc)

kind_left : (l : Layouts) (p : ModuleParts) (k : ℕ) (w : Kind) (d : BrickSort) (c : Option ProcCode) (b : ProcContent) → objects.kind_by l p k w d c ≡ Some (whose.Ent (content.Proc b)) → (w ≡ kind.Ent) × IsProc d b
kind_left l p k kind.Own d c b e = absurd (own_right (objects.content_by l p k d c) (content.Proc b) e)
kind_left l p k kind.Ent d c b e = (refl, content_left l p k d c b (ent_left (objects.content_by l p k d c) (content.Proc b) e))
kind_left l p k kind.Ext d c b e = absurd (let bad : whose.Ext (objects.external_of d) ≡ whose.Ent (content.Proc b) = some_is (whose.Ext (objects.external_of d)) (whose.Ent (content.Proc b)) e in cc)
kind_left l p k kind.Svc d c b e = absurd (svc_left (objects.supplied_of d) e)
  where
    svc_left : (q : Option Supplied) → option_map whose.Svc q ≡ Some (whose.Ent (content.Proc b)) → ⊥
    svc_left None e = cc
    svc_left (Some x) e = let is : whose.Svc x ≡ whose.Ent (content.Proc b) = some_is (whose.Svc x) (whose.Ent (content.Proc b)) e in cc

root_by : (z : Mode-F Mode) → IsRootLayer z → (z ≡ Mode-F.Proc [] None) ⊎ ((i : Mode) × (z ≡ Mode-F.Proc [] (Some i)) × IsInt i)
root_by (Mode-F.Proc [] None) h = inl refl
root_by (Mode-F.Proc [] (Some r)) h = inr (r, refl, int_by (out-Mode r) h)
  where
    int_by : (z : Mode-F Mode) → IsIntLayer z → z ≡ Mode-F.Int
    int_by Mode-F.Int h = refl
    int_by _ h = absurd h
root_by _ h = absurd h

pub bricks_long : (l : Layouts) (p : ModuleParts) (n : ℕ) (ds : List Brick) → length (objects.bricks l p n ds) ≡ length ds
bricks_long l p n [] = refl
bricks_long l p n (d ∷ ds) = ap suc (bricks_long l p (n + 1) ds)

pub map_long : {A B : Type 0} (f : A → B) (xs : List A) → length (map f xs) ≡ length xs
map_long f [] = refl
map_long f (x ∷ xs) = ap suc (map_long f xs)

module _ (ps : System) (ls : List Layouts) (os : List ObjectParts) (tasks : List Task) (image : ImageParts) (mapped : Map) (s : IsSystem ps ls os tasks image mapped) where
  -- the brick of the tree that an ENT procedure of an object is compiled of
  root_is : (name : List ℕ) (f : Proc) (m : ℕ) → f.module ≡ m → IsRootNamed os name f → IsRoot ps f
  root_is name f zero e h = absurd (let at : numbered os zero ≡ Some h.entry.entry.object = ap (numbered os) (sym e) ∙ h.entry.entry.of in none_at at)
    where
      none_at : numbered os zero ≡ Some h.entry.entry.object → ⊥
      none_at x = cc
  root_is name f (suc i) e h =
      let it = h.entry.entry in
      let at : slice_get os i ≡ Some it.object = ap (numbered os) (sym e) ∙ it.of in
      let less = slice_get_within os i it.object at in
      let longs = s.layouts in
      let sames = s.same in
      let p = there_is ps i (omega arith) in
      let l = there_is ls i (omega arith) in
      let tree = s.trees i p.0 l.0 it.object p.1 l.1 at in
      let in_bricks = slice_get_within it.object.bricks f.brick it.found it.at in
      let many : length it.object.bricks ≡ length p.0.bricks = sym (map_long (λ (c : Compiled). Some c) it.object.bricks) ∙ ap length tree.object.bricks ∙ bricks_long l.0 p.0 0 p.0.bricks in
      let d = there_is p.0.bricks f.brick (omega arith) in
      let c = its_brick l.0 p.0 it.object f.brick d.0 tree.object.bricks d.1 in
      let same : c.0 ≡ it.found = some_is c.0 it.found (sym c.1 ∙ it.at) in
      let kind_is = named_left d.0.name (objects.kind_by l.0 p.0 f.brick d.0.kind d.0.sort (objects.code_by l.0 p.0 f.brick d.0 d.0.sort)) c.0 c.2 in
      let both = kind_left l.0 p.0 f.brick d.0.kind d.0.sort (objects.code_by l.0 p.0 f.brick d.0 d.0.sort) h.body (kind_is ∙ ap (λ (z : Compiled). Some z.kind) same ∙ ap (λ (z : BrickKind). Some z) it.ent) in
      let opens = root_by (out-Mode both.1.mode) (subst (λ (z : Mode). IsRootLayer (out-Mode z)) both.1.same h.mode) in
      record {
        home = suc i;
        number = f.brick;
        parts = p.0;
        brick_is = d.0;
        has = record { of = p.1; at = d.1 };
        enters = both.0;
        mode = both.1.mode;
        body = both.1.body;
        sort_is = both.1.is;
        opens = opens;
        is = ap (λ (z : ℕ). brick z f.brick) e;
      }

  all_roots : (ts : List Task) (fs : List Proc) → length fs ≡ length ts → ((i : ℕ) (f : Proc) → slice_get fs i ≡ Some f → IsRoot ps f) → AllByRecursion (λ t. IsRoot ps (root_of t)) (source_tasks ts fs)
  all_roots [] fs e h = tt
  all_roots (t ∷ ts) [] e h = tt
  all_roots (t ∷ ts) (f ∷ fs) e h = (h 0 f refl, all_roots ts fs (omega arith) (λ i g at. h (suc i) g at))

  pub roots_are : AllByRecursion (λ t. IsRoot ps (root_of t)) (source_tasks tasks s.linked.known.roots)
  roots_are =
      let roots = s.linked.judged.deep.ordered.rooted.are_roots in
      all_roots tasks s.linked.known.roots roots.one_each (λ i f at.
      let less = slice_get_within s.linked.known.roots i f at in
      let many = roots.one_each in
      let t = there_is tasks i (omega arith) in
      let its = roots.each i t.0 t.1 in
      let same : its.0 ≡ f = some_is its.0 f (sym its.3 ∙ at) in
      subst (λ (g : Proc). IsRoot ps g) same (root_is t.0.root its.0 its.0.module refl its.2.root))

pub roots_are_roots : RootsAreRoots
roots_are_roots ps ls os tasks image mapped s = roots_are ps ls os tasks image mapped s
