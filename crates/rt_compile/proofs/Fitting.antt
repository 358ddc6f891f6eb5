-- What holds of the bricks of a module of which every node fits.
use Rattle.std.proofs.Common.{◌≡◌, ℕ, zero, suc, ◌&&◌, ◌==◌, Bool, true, false, if◌then◌else◌, List, [], ◌∷◌, length, Some, refl, sym, ap, ◌∙◌, subst}
use Rattle.std.specs.Prelude.{slice_get}
use Rattle.std.specs.List.{list_all}
use Rattle.rt_modes.specs.declared.mode.Field.{Field}
use Rattle.rt_modes.specs.declared.mode.Mode.{Mode, out-Mode}
use Rattle.rt_modes.specs.declared.mode.Mode.TheOpen.{Mode-F}
use Rattle.rt_tree_nodes.specs.declared.brick.Brick.{Brick}
use Rattle.rt_tree_nodes.specs.declared.brick.BrickSort.{BrickSort}
use Rattle.rt_tree_nodes.specs.declared.brick.BrickSort.TheVariants as sort
use Rattle.rt_tree_nodes.specs.declared.brick.DataStart.{DataStart}
use Rattle.rt_tree_nodes.specs.declared.brick.Kind.{Kind}
use Rattle.rt_tree_nodes.specs.declared.brick.ModuleParts.{ModuleParts}
use Rattle.rt_tree_nodes.specs.Scopes.{Scope, faces, sort_of, proc_in, proc_mode, scope_of}
use Rattle.rt_tree_nodes.specs.Typing.{Signature, signature_by}
use Rattle.rt_tree.specs.Modules.{is_here, items_start, body_fits, stands_alone, item_stands, data_starts, sort_fits, brick_fits, record_stands, is_short, every_node_fits}
use Rattle.rt_object.specs.Ranges.{IsProcMode, IsProcLayer}
use Rattle.rt_compile.specs.DataLaws.{IsDataBrick}
use Rattle.rt_compile.proofs.Tests.{left_of, right_of, passed}

one_of : {A : Type 0} (test : A → Bool) (xs : List A) (k : ℕ) (x : A) → list_all test xs ≡ true → slice_get xs k ≡ Some x → test x ≡ true
one_of test [] k x all e = absurd cc
one_of test (y ∷ ys) zero x all e = let is : y ≡ x = cc in ap test (sym is) ∙ left_of (test y) (list_all test ys) all
one_of test (y ∷ ys) (suc k) x all e = one_of test ys k x (right_of (test y) (list_all test ys) all) e

chosen : (b x y : Bool) → b ≡ true → (if b then x else y) ≡ true → x ≡ true
chosen true x y e h = h
chosen false x y e h = absurd cc

signed : (z : Mode-F Mode) (s : Signature) → signature_by z ≡ Some s → IsProcLayer z
signed (Mode-F.Proc ps r) s e = tt
signed _ s e = absurd cc

proc_there : (bs : List Brick) (b : ℕ) (m : Mode) → proc_mode (faces bs) b ≡ Some m → (d : Brick) × (slice_get bs b ≡ Some d) × (proc_in (sort_of d.sort) ≡ Some m)
proc_there [] b m e = absurd cc
proc_there (d ∷ bs) zero m e = (d, refl, e)
proc_there (d ∷ bs) (suc b) m e = proc_there bs b m e

proc_sort : (c : Scope) (k : Kind) (name : List ℕ) (z : BrickSort) (m : Mode) → proc_in (sort_of z) ≡ Some m → sort_fits c k name z ≡ true → IsProcMode m
proc_sort c k name (sort.Proc w body) m e fit =
    let is : w ≡ m = cc in
    let s = passed (λ (s : Signature). stands_alone (length c.records) w && body_fits c k s body) (signature_by (out-Mode w)) fit in
    subst (λ v. IsProcMode v) is (signed (out-Mode w) s.0 s.1)
proc_sort c k name (sort.Data fs ss) m e fit = absurd cc
proc_sort c k name (sort.Stack n) m e fit = absurd cc

data_sort : (c : Scope) (k : Kind) (name : List ℕ) (z : BrickSort) (fs : List Field) (ss : List DataStart) → z ≡ sort.Data fs ss → is_here k ≡ true → sort_fits c k name z ≡ true → items_start c ss fs ≡ true
data_sort c k name z fs ss e here fit =
    let whole : sort_fits c k name (sort.Data fs ss) ≡ true = sym (ap (sort_fits c k name) e) ∙ fit in
    chosen (is_here k) (items_start c ss fs) (length ss == 0) here (right_of (list_all (item_stands (length c.records) k name) fs) (data_starts c k fs ss) whole)

module _ (p : ModuleParts) (fits : every_node_fits p ≡ true) where
  brick_there : (b : ℕ) (d : Brick) → slice_get p.bricks b ≡ Some d → brick_fits (scope_of p) d ≡ true
  brick_there b d e =
      let behind : (list_all (brick_fits (scope_of p)) p.bricks && list_all is_short p.strings) ≡ true =
      right_of (list_all (record_stands (length p.modes.records)) p.modes.records) (list_all (brick_fits (scope_of p)) p.bricks && list_all is_short p.strings) fits in
      one_of (brick_fits (scope_of p)) p.bricks b d (left_of (list_all (brick_fits (scope_of p)) p.bricks) (list_all is_short p.strings) behind) e

  -- procedures have PROC modes
  pub procs_are_proc : (b : ℕ) (m : Mode) → proc_mode (faces p.bricks) b ≡ Some m → IsProcMode m
  procs_are_proc b m e =
      let there = proc_there p.bricks b m e in
      proc_sort (scope_of p) there.0.kind there.0.name there.0.sort m there.2 (brick_there b there.0 there.1)

  -- the starts of an own or ENT data brick fit its items
  pub starts_fit : (fs : List Field) (ss : List DataStart) → IsDataBrick p fs ss → items_start (scope_of p) ss fs ≡ true
  starts_fit fs ss b = data_sort (scope_of p) b.brick.kind b.brick.name b.brick.sort fs ss b.sort_is b.here (brick_there b.number b.brick b.there)
