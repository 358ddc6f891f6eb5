-- Another bound of a recursion changes nothing of what fits.
use Rattle.std.proofs.Common.{◌≡◌, ℕ, zero, suc, ◌<◌, ◌≤◌, List, [], ◌∷◌, Some, None, length, slice_set, slice_index_or, Vec, vec_len, Global, refl, sym, arith}
use Rattle.std.specs.List.{list_all}
use Rattle.rt_tree_nodes.specs.declared.brick.Brick.{Brick}
use Rattle.rt_tree_nodes.specs.declared.brick.BrickSort.{BrickSort}
use Rattle.rt_tree_nodes.specs.declared.brick.BrickSort.TheVariants as sort
use Rattle.rt_tree_nodes.specs.declared.brick.Kind.{Kind}
use Rattle.rt_tree_nodes.specs.declared.brick.ModuleParts.{ModuleParts}
use Rattle.rt_tree.specs.Modules.{every_node_fits, with_most, bricks_with, sort_with, brick_fits, sort_fits}
use Rattle.rt_tree_nodes.specs.Scopes.{Scope, faces, sort_of, scope_of, supplied_of}

sorts : (most : ℕ) (s : BrickSort) → sort_of (sort_with most s) ≡ sort_of s
sorts most (sort.Proc m None) = refl
sorts most (sort.Proc m (Some b)) = refl
sorts most (sort.Data fs ss) = refl
sorts most (sort.Stack n) = refl

faces_stay : (most : ℕ) (bs : List Brick) (k : ℕ) → faces (bricks_with bs k most) ≡ faces bs
faces_stay most [] k = refl
faces_stay most (b ∷ bs) zero = rw (sorts most b.sort) refl
faces_stay most (b ∷ bs) (suc k) = rw (faces_stay most bs k) refl

sort_stays : (most : ℕ) (c : Scope) (k : Kind) (name : List ℕ) (s : BrickSort) → sort_fits c k name (sort_with most s) ≡ sort_fits c k name s
sort_stays most c k name (sort.Proc m None) = refl
sort_stays most c k name (sort.Proc m (Some b)) = refl
sort_stays most c k name (sort.Data fs ss) = refl
sort_stays most c k name (sort.Stack n) = refl

bricks_stay : (most : ℕ) (c : Scope) (bs : List Brick) (k : ℕ) → list_all (brick_fits c) (bricks_with bs k most) ≡ list_all (brick_fits c) bs
bricks_stay most c [] k = refl
bricks_stay most c (b ∷ bs) zero = rw (sort_stays most c b.kind b.name b.sort) refl
bricks_stay most c (b ∷ bs) (suc k) = rw (bricks_stay most c bs k) refl

scope_stays : (p : ModuleParts) (k most : ℕ) → scope_of (with_most p k most) ≡ scope_of p
scope_stays p k most = rw (faces_stay most p.bricks k) refl

pub fits_still : (p : ModuleParts) (k most : ℕ) → every_node_fits (with_most p k most) ≡ every_node_fits p
fits_still p k most = rw (scope_stays p k most, bricks_stay most (scope_of p) p.bricks k) refl

pub supplied_still : (most : ℕ) (bs : List Brick) (k : ℕ) → supplied_of (bricks_with bs k most) ≡ supplied_of bs
supplied_still most bs k = rw (faces_stay most bs k) refl

-- the bricks with another one at a place
pub set_there : (most : ℕ) (bs : List Brick) (k : ℕ) (b : Brick) (s : BrickSort) → k < length bs → b ≡ slice_index_or bs k b → s ≡ sort_with most b.sort
    → slice_set bs k (record { kind = b.kind; name = b.name; sort = s }) ≡ bricks_with bs k most
set_there most [] k b s l e h = absurd (grind arith)
set_there most (x ∷ xs) zero b s l e h = rw (h, e) refl
set_there most (x ∷ xs) (suc k) b s l e h = rw (set_there most xs k b s (grind arith) e h) refl

pub past_end : (most : ℕ) (bs : List Brick) (k : ℕ) → length bs ≤ k → bricks_with bs k most ≡ bs
past_end most [] k l = refl
past_end most (b ∷ bs) zero l = absurd (grind arith)
past_end most (b ∷ bs) (suc k) l = rw (past_end most bs k (grind arith)) refl

-- the same of a Vec of the bricks
pub put_there : (v : Vec Brick Global) (most : ℕ) (bs : List Brick) (i k : ℕ) (b : Brick) (s : BrickSort) → v.items ≡ bs → i ≡ k → i < vec_len v → b ≡ slice_index_or v.items i b
    → s ≡ sort_with most b.sort → slice_set v.items i (record { kind = b.kind; name = b.name; sort = s }) ≡ bricks_with bs k most
put_there v most bs i k b s e h l f g = rw (sym e, sym h) (set_there most v.items i b s (rw (sym v.ok.0) l) f g)

pub left_there : (v : Vec Brick Global) (most : ℕ) (bs : List Brick) (i k : ℕ) → v.items ≡ bs → i ≡ k → vec_len v ≤ i → v.items ≡ bricks_with bs k most
left_there v most bs i k e h l = rw (sym e, sym h) (sym (past_end most v.items i (rw (sym v.ok.0) l)))
