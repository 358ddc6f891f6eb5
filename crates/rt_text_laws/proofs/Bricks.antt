-- What holds of each brick of a tree, declaration by declaration.
use Rattle.std.proofs.Common.{◌≡◌, List, [], ◌∷◌, ◌++◌, drop, sym, ap, subst}
use Rattle.std.specs.List.{AllByRecursion}
use Rattle.rt_bricks.specs.declared.tree.Declaration.{Declaration}
use Rattle.rt_tree_nodes.specs.declared.brick.Brick.{Brick}
use Rattle.rt_exprs.specs.Sights.{Sight}
use Rattle.rt_check_declared.specs.Written.{Names}
use Rattle.rt_check_declared.specs.Names.{bricks_in as brick_count}
use Rattle.rt_check_declared.specs.declared.bricks.Heading.{Heading}
use Rattle.rt_check_declared.specs.Bricks.{bricks_in, bricks}
use Rattle.rt_check_module.specs.declared.filling.Filling.{Filling}
use Rattle.rt_check_module.specs.Tree.{first, filled, gathered, fillings_in}
use Rattle.rt_bricks_laws.proofs.AllLists.{all_joined}
use Rattle.rt_check_module_laws.proofs.Bricks.{headings_counted, fillings_counted, drop_joined, filled_joined}

-- Where P holds of each declaration, Q holds of each brick, if it holds of those of one declaration.
module _ (s : Sight) (names : Names) (P : Declaration → Type 0) (Q : Brick → Type 0) (one : (d : Declaration) (hs : List Heading) → P d → AllByRecursion Q (filled (bricks_in names d) (fillings_in s (first (bricks_in names d ++ hs)) d))) where
  pub each_brick : (ds : List Declaration) → AllByRecursion P ds → AllByRecursion Q (filled (bricks names ds) (gathered (fillings_in s) (bricks names ds) ds))
  each_brick [] h = tt
  each_brick (d ∷ ds) h =
      let xs : List Heading = bricks_in names d in
      let ys : List Heading = bricks names ds in
      let fs : List Filling = fillings_in s (first (xs ++ ys)) d in
      let rest : gathered (fillings_in s) (drop (brick_count d) (xs ++ ys)) ds ≡ gathered (fillings_in s) ys ds = ap (λ (hs : List Heading). gathered (fillings_in s) hs ds) (drop_joined xs ys (brick_count d) (headings_counted names d)) in
      subst (λ (gs : List Filling). AllByRecursion Q (filled (xs ++ ys) (fs ++ gs))) (sym rest)
      (subst (AllByRecursion Q) (sym (filled_joined xs ys fs (gathered (fillings_in s) ys ds) (fillings_counted s names d (first (xs ++ ys)))))
      (all_joined Q (filled xs fs) (filled ys (gathered (fillings_in s) ys ds)) (one d ys h.0) (each_brick ds h.1)))
