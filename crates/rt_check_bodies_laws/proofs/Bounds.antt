-- A module stays within where the bound of a recursion is set.
use Rattle.std.proofs.Common.{◌≡◌, ℕ, zero, suc, ◌+◌, ◌*◌, ◌<◌, ◌≤◌, List, [], ◌∷◌, length, Some, None, refl, sym, ap, subst}
use Rattle.std.specs.List.{AllByRecursion}
use Rattle.rt_tree_nodes.specs.declared.brick.Brick.{Brick}
use Rattle.rt_tree_nodes.specs.declared.brick.BrickSort.{BrickSort}
use Rattle.rt_tree_nodes.specs.declared.brick.BrickSort.TheVariants as sort
use Rattle.rt_tree_nodes.specs.declared.brick.ModuleParts.{ModuleParts}
use Rattle.rt_tree_nodes.specs.declared.brick.ProcBody.{ProcBody}
use Rattle.rt_tree_nodes.specs.Scopes.{Scope, Face, Sort, faces, sort_of, errors_of, streams_of, scope_of, with_locals}
use Rattle.rt_tree_nodes.specs.Tree.{Seq}
use Rattle.rt_tree.specs.Depth.{sequence_depth, local_words}
use Rattle.rt_tree.specs.Modules.{sort_with, bricks_with, with_most}
use Rattle.rt_tree.specs.Statements.{body_tree}
use Rattle.rt_tree.specs.Weights.{unmarked, sequence_weight}
use Rattle.rt_tree.specs.Within.{frame_words, frame_unmarked, ProcWithin, SortWithin, parameters_of, tree_of}
use Rattle.rt_check_bodies_laws.specs.Within.{BoundsStayWithin}

sort_same : (most : ℕ) (s : BrickSort) → sort_of (sort_with most s) ≡ sort_of s
sort_same most (sort.Proc m body) = refl
sort_same most (sort.Data fs ss) = refl
sort_same most (sort.Stack n) = refl

faces_same : (most : ℕ) (bs : List Brick) (k : ℕ) → faces (bricks_with bs k most) ≡ faces bs
faces_same most [] k = refl
faces_same most (b ∷ bs) zero = ap (λ (s : Sort). record { kind = b.kind; name = b.name; sort = s } ∷ faces bs) (sort_same most b.sort)
faces_same most (b ∷ bs) (suc k) = ap (λ (fs : List Face). record { kind = b.kind; name = b.name; sort = sort_of b.sort } ∷ fs) (faces_same most bs k)

module _ (p : ModuleParts) (at most : ℕ) where
  abbrev bounded : ModuleParts
  bounded = with_most p at most

  scope_same : scope_of bounded ≡ scope_of p
  scope_same =
      ap (λ (fs : List Face). record { records = p.modes.records; bricks = fs; strings = length p.strings; errors = errors_of fs; streams = streams_of fs; locals = [] }) (faces_same most p.bricks at)

  tree_same : (b : ProcBody) → tree_of bounded b ≡ tree_of p b
  tree_same b = ap (λ (c : Scope). body_tree (with_locals c b.locals) b.body) scope_same

  body_within : (count : ℕ) (b : ProcBody) (n : ℕ) → ProcWithin p count b → ProcWithin bounded count (record { locals = b.locals; labels = b.labels; items = b.items; most = n; body = b.body })
  body_within count b n h = record {
    parameters = h.parameters;
    locals = subst (λ (q : Seq). local_words count b q < 65536) (sym (tree_same b)) h.locals;
    depth = subst (λ (q : Seq). sequence_depth q < 65536) (sym (tree_same b)) h.depth;
    words = subst (λ (q : Seq). sequence_weight q + frame_words ≤ 12 * b.items + 16) (sym (tree_same b)) h.words;
    unmarked_made = subst (λ (q : Seq). unmarked (sequence_weight q) + frame_unmarked ≤ 24 * b.items) (sym (tree_same b)) h.unmarked_made;
  }

  sort_within : (s : BrickSort) → SortWithin p s → SortWithin bounded s
  sort_within (sort.Proc m None) h = tt
  sort_within (sort.Proc m (Some b)) h = body_within (parameters_of m) b b.most h
  sort_within (sort.Data fs ss) h = tt
  sort_within (sort.Stack n) h = tt

  bounded_within : (s : BrickSort) → SortWithin p s → SortWithin bounded (sort_with most s)
  bounded_within (sort.Proc m None) h = tt
  bounded_within (sort.Proc m (Some b)) h = body_within (parameters_of m) b most h
  bounded_within (sort.Data fs ss) h = tt
  bounded_within (sort.Stack n) h = tt

  all_within : (bs : List Brick) → AllByRecursion (λ b. SortWithin p b.sort) bs → AllByRecursion (λ b. SortWithin bounded b.sort) bs
  all_within [] h = tt
  all_within (b ∷ bs) h = (sort_within b.sort h.0, all_within bs h.1)

  bricks_within : (bs : List Brick) (k : ℕ) → AllByRecursion (λ b. SortWithin p b.sort) bs → AllByRecursion (λ b. SortWithin bounded b.sort) (bricks_with bs k most)
  bricks_within [] k h = tt
  bricks_within (b ∷ bs) zero h = (bounded_within b.sort h.0, all_within bs h.1)
  bricks_within (b ∷ bs) (suc k) h = (sort_within b.sort h.0, bricks_within bs k h.1)

pub bounds_within : BoundsStayWithin
bounds_within p k most h = bricks_within p k most p.bricks k h
