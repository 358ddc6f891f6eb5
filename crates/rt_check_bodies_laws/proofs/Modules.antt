-- The procedures of a module whose nodes fit stay within their items.
use Rattle.std.proofs.Common.{◌≡◌, ℕ, zero, suc, ◌≤◌, ◌&&◌, Bool, true, false, List, [], ◌∷◌, length, Option, Some, None, arith, refl, sym, subst}
use Rattle.std.specs.List.{AllByRecursion, list_all}
use Rattle.std.specs.Prelude.{slice_get}
use Rattle.rt_bricks.specs.declared.tree.Declaration.TheVariants as declaration
use Rattle.rt_bricks.specs.declared.tree.Module.{Module}
use Rattle.rt_bricks.specs.declared.tree.ProcedureBrick.{ProcedureBrick}
use Rattle.rt_modes.specs.declared.mode.Mode.{Mode, out-Mode}
use Rattle.rt_tree_nodes.specs.declared.brick.Brick.{Brick}
use Rattle.rt_tree_nodes.specs.declared.brick.BrickSort.{BrickSort}
use Rattle.rt_tree_nodes.specs.declared.brick.BrickSort.TheVariants as sort
use Rattle.rt_tree_nodes.specs.declared.brick.Kind.{Kind}
use Rattle.rt_tree_nodes.specs.declared.brick.Local.{Local}
use Rattle.rt_tree_nodes.specs.declared.brick.Local.TheVariants as local
use Rattle.rt_tree_nodes.specs.declared.brick.ModuleParts.{ModuleParts}
use Rattle.rt_tree_nodes.specs.declared.brick.ProcBody.{ProcBody}
use Rattle.rt_tree_nodes.specs.Scopes.{Scope, same, passes, faces, sort_of, scope_of}
use Rattle.rt_tree_nodes.specs.Typing.{Signature, signature_by}
use Rattle.rt_tree.specs.Modules.{record_stands, item_stands, stands_alone, data_starts, body_fits, proc_fits, sort_fits, brick_fits, is_here, is_short, parameters_first, local_stands, every_node_fits}
use Rattle.rt_tree.specs.Within.{ProcWithin, SortWithin, parameters_by}
use Rattle.rt_exprs.specs.Sights.{Sight}
use Rattle.rt_check_bodies.specs.Procedures.{procedure}
use Rattle.rt_bricks_laws.specs.Laws.{ItemsCounted, BodyIsBroad}
use Rattle.rt_bricks_laws.proofs.BroadBricks.{bodies_broad}
use Rattle.rt_bricks_laws.proofs.Items.{items_counted}
use Rattle.rt_check_bodies_laws.specs.Within.{IsSound, IsHeld, IsRead, SortRead, IsMade, ModulesAreWithin}
use Rattle.rt_check_bodies_laws.specs.Modes.{sort_stands, face_stands, ModesStand}
use Rattle.rt_check_bodies_laws.proofs.Procedures.{procedures_within}

left_of : (a b : Bool) → a && b ≡ true → a ≡ true
left_of true b e = refl
left_of false b e = e

right_of : (a b : Bool) → a && b ≡ true → b ≡ true
right_of true b e = e
right_of false b e = absurd cc

both_true : (a b : Bool) → a ≡ true → b ≡ true → a && b ≡ true
both_true a b e h = rw (e, h) refl

held_at : {A : Type 0} (P : A → Type 0) (xs : List A) (k : ℕ) (x : A) → AllByRecursion P xs → slice_get xs k ≡ Some x → P x
held_at P [] k x h e = absurd cc
held_at P (y ∷ ys) zero x h e = let same_one : y ≡ x = cc in subst P same_one h.0
held_at P (y ∷ ys) (suc k) x h e = held_at P ys k x h.1 e

-- ---- the modes of a module whose nodes fit

module _ (c : Scope) where
  signed : (k : Kind) (m : Mode) (body : Option ProcBody) (o : Option Signature) → passes (λ s. stands_alone (length c.records) m && body_fits c k s body) o ≡ true → stands_alone (length c.records) m ≡ true
  signed k m body None h = absurd cc
  signed k m body (Some s) h = left_of (stands_alone (length c.records) m) (body_fits c k s body) h

  sort_fitting : (k : Kind) (name : List ℕ) (x : BrickSort) → sort_fits c k name x ≡ true → sort_stands (length c.records) k name (sort_of x) ≡ true
  sort_fitting k name (sort.Proc m body) h = signed k m body (signature_by (out-Mode m)) h
  sort_fitting k name (sort.Data fs ss) h = left_of (list_all (item_stands (length c.records) k name) fs) (data_starts c k fs ss) h
  sort_fitting k name (sort.Stack n) h = refl

  faces_fitting : (bs : List Brick) → list_all (brick_fits c) bs ≡ true → list_all (face_stands (length c.records)) (faces bs) ≡ true
  faces_fitting [] h = refl
  faces_fitting (b ∷ bs) h =
      both_true (sort_stands (length c.records) b.kind b.name (sort_of b.sort)) (list_all (face_stands (length c.records)) (faces bs)) (sort_fitting b.kind b.name b.sort (left_of (brick_fits c b) (list_all (brick_fits c) bs) h))
      (faces_fitting bs (right_of (brick_fits c b) (list_all (brick_fits c) bs) h))

module _ (p : ModuleParts) (fits : every_node_fits p ≡ true) where
  records_fit : list_all (record_stands (length p.modes.records)) p.modes.records ≡ true
  records_fit = left_of (list_all (record_stands (length p.modes.records)) p.modes.records) (list_all (brick_fits (scope_of p)) p.bricks && list_all is_short p.strings) fits

  bricks_fit : list_all (brick_fits (scope_of p)) p.bricks ≡ true
  bricks_fit =
      left_of (list_all (brick_fits (scope_of p)) p.bricks) (list_all is_short p.strings)
      (right_of (list_all (record_stands (length p.modes.records)) p.modes.records) (list_all (brick_fits (scope_of p)) p.bricks && list_all is_short p.strings) fits)

  pub fitting_modes : ModesStand (scope_of p)
  fitting_modes = record { records = records_fit; bricks = faces_fitting (scope_of p) p.bricks bricks_fit; errors = refl; streams = refl }

-- ---- procedures

leading : (ms : List Mode) (ls : List Local) → parameters_first ms ls ≡ true → length ms ≤ length ls
leading [] ls h = omega arith
leading (m ∷ ms) [] h = absurd cc
leading (m ∷ ms) (local.Variable n ∷ ls) h = omega (arith, leading ms ls (right_of (same m n) (parameters_first ms ls) h))
leading (m ∷ ms) (local.Loop ∷ ls) h = absurd cc

module _ (p : ModuleParts) (s : Sight) (it : Module) (made : IsMade p s it) (modes : ModesStand (scope_of p)) (broad : AllByRecursion BodyIsBroad it.declarations) (counted : AllByRecursion ItemsCounted it.declarations) where
  sound_at : (b : ProcedureBrick) (k : ℕ) → slice_get it.declarations k ≡ Some (declaration.Procedure b) → IsSound b
  sound_at b k e =
      let n = held_at ItemsCounted it.declarations k (declaration.Procedure b) counted e in
      record { broad = held_at BodyIsBroad it.declarations k (declaration.Procedure b) broad e; parts = n.0; few = n.1 }

  -- a body that fits, with the parameters ms
  body_within : (ms : List Mode) (r : Option Mode) (body : ProcBody) → proc_fits (scope_of p) ms r body ≡ true → IsRead s it body → ProcWithin p (length ms) body
  body_within ms r body h x =
      let here = subst (λ (b : ProcBody). proc_fits (scope_of p) ms r b ≡ true) x.is h in
      let first : Bool = parameters_first ms (procedure s x.brick).locals in
      let all : Bool = list_all (local_stands (length p.modes.records)) (procedure s x.brick).locals in
      let held : IsHeld p s x.brick = record { outside = made.outside (procedure s x.brick).locals; modes = modes; standing = left_of all _ (right_of first _ here) } in
      subst (λ (b : ProcBody). ProcWithin p (length ms) b) (sym x.is)
      (procedures_within p s x.brick (length ms) (sound_at x.brick x.place x.there) held x.none (leading ms (procedure s x.brick).locals (left_of first _ here)))

  signed_within : (k : Kind) (m : Mode) (body : ProcBody) (o : Option Signature) → passes (λ g. stands_alone (length p.modes.records) m && body_fits (scope_of p) k g (Some body)) o ≡ true → IsRead s it body → ProcWithin p (parameters_by o) body
  signed_within k m body None h x = absurd cc
  signed_within k m body (Some g) h x =
      let fits = right_of (is_here k) (proc_fits (scope_of p) g.parameters g.answer body) (right_of (stands_alone (length p.modes.records) m) (body_fits (scope_of p) k g (Some body)) h) in
      body_within g.parameters g.answer body fits x

  sort_within : (k : Kind) (name : List ℕ) (x : BrickSort) → sort_fits (scope_of p) k name x ≡ true → SortRead s it x → SortWithin p x
  sort_within k name (sort.Proc m None) h x = tt
  sort_within k name (sort.Proc m (Some body)) h x = signed_within k m body (signature_by (out-Mode m)) h x
  sort_within k name (sort.Data fs ss) h x = tt
  sort_within k name (sort.Stack n) h x = tt

  bricks_within : (bs : List Brick) → list_all (brick_fits (scope_of p)) bs ≡ true → AllByRecursion (λ b. SortRead s it b.sort) bs → AllByRecursion (λ b. SortWithin p b.sort) bs
  bricks_within [] h x = tt
  bricks_within (b ∷ bs) h x = (
    sort_within b.kind b.name b.sort (left_of (brick_fits (scope_of p) b) (list_all (brick_fits (scope_of p)) bs) h) x.0,
    bricks_within bs (right_of (brick_fits (scope_of p) b) (list_all (brick_fits (scope_of p)) bs) h) x.1,
  )

pub modules_within : ModulesAreWithin
modules_within items it p s few derived fits made =
    bricks_within p s it made (fitting_modes p fits) (bodies_broad items it derived) (items_counted items it few derived) p.bricks (bricks_fit p fits) made.bodies
