-- The bodies of the tree are those of the module's procedures, so that each is within.
use Rattle.std.proofs.Common.{◌≡◌, ℕ, zero, suc, ◌+◌, List, [], ◌∷◌, ◌++◌, length, drop, replicate, Some, refl, sym, ap, ◌∙◌, subst, arith}
use Rattle.std.specs.Prelude.{slice_get}
use Rattle.std.specs.List.{AllByRecursion}
use Rattle.rt_bricks.specs.declared.tree.Declaration.{Declaration}
use Rattle.rt_bricks.specs.declared.tree.Declaration.TheVariants as declares
use Rattle.rt_bricks.specs.declared.tree.Module.{Module}
use Rattle.rt_pieces.specs.declared.item.Item.{Item}
use Rattle.rt_tree_nodes.specs.declared.brick.Brick.{Brick}
use Rattle.rt_tree.specs.Within.{Within}
use Rattle.rt_check_declared.specs.Written.{Names}
use Rattle.rt_exprs.specs.Sights.{Sight}
use Rattle.rt_check_bodies.specs.Procedures.{procedure, faults}
use Rattle.rt_check_declared.specs.Names.{bricks_in as brick_count}
use Rattle.rt_check_declared.specs.declared.bricks.Heading.{Heading}
use Rattle.rt_check_declared.specs.declared.bricks.Sort.{Sort}
use Rattle.rt_check_declared.specs.declared.bricks.Sort.TheVariants as sort
use Rattle.rt_check_declared.specs.declared.parts.Given.{Given}
use Rattle.rt_check_declared.specs.declared.parts.Given.TheVariants as given
use Rattle.rt_check_declared.specs.Bricks.{bricks_in, bricks}
use Rattle.rt_check_declared.specs.Bricks.{procedure as heading_of}
use Rattle.rt_check_bodies_laws.specs.Within.{SortRead}
use Rattle.rt_check_bodies_laws.proofs.Modules.{modules_within}
use Rattle.rt_check_module.specs.declared.filling.Filling.{Filling}
use Rattle.rt_check_module.specs.Tree.{nothing, first, sort_by, filled, gathered, fillings_in, records, sight, tree, modes_seen}
use Rattle.rt_check_module.specs.Faults.{inside}
use Rattle.rt_check_module_laws.specs.Modules.{IsText, IsFaultless}
use Rattle.rt_check_module_laws.proofs.Bricks.{headings_counted, fillings_counted, drop_joined, filled_joined}
use Rattle.rt_check_module_laws.proofs.Holding.{names_are_held}
use Rattle.rt_check_module_laws.proofs.Records.{nothing_in}
use Rattle.rt_bricks_laws.proofs.AllLists.{all_joined}
use Rattle.rt_check_module_laws.proofs.Whole.{NoneInside, none_inside, module_fits}

module _ (s : Sight) (m : Module) where
  abbrev BrickRead : Brick → Type 0
  BrickRead b = SortRead s m b.sort

  empty_read : (x : Sort) → SortRead s m (sort_by x nothing)
  empty_read (sort.Procedure (given.Mode w)) = tt
  empty_read (sort.Procedure given.Unknown) = tt
  empty_read (sort.Items ps) = tt
  empty_read (sort.Stack n) = tt

  all_empty : (hs : List Heading) (n : ℕ) → AllByRecursion BrickRead (filled hs (replicate n nothing))
  all_empty [] n = tt
  all_empty (h ∷ hs) zero = tt
  all_empty (h ∷ hs) (suc n) = (empty_read h.sort, all_empty hs n)

  module _ (names : Names) where
    one_read : (d : Declaration) (k : ℕ) (hs : List Heading) → NoneInside (records m.declarations) s names d → slice_get m.declarations k ≡ Some d
        → AllByRecursion BrickRead (filled (bricks_in names d) (fillings_in s (first (bricks_in names d ++ hs)) d))
    one_read (declares.Record r) k hs h e = tt
    one_read (declares.Data d) k hs h e = (tt, tt)
    one_read (declares.Stack x) k hs h e = (tt, tt)
    one_read (declares.Procedure p) k hs h e = (by_heading (heading_of names p), tt) where
      by_heading : (g : Given) → SortRead s m (sort_by (sort.Procedure g) (record { body = Some (procedure s p); starts = [] }))
      by_heading (given.Mode w) = record { brick = p; place = k; there = e; none = nothing_in (faults s p) h; is = refl }
      by_heading given.Unknown = tt
    one_read (declares.ImportedProcedures p) k hs h e = all_empty (bricks_in names (declares.ImportedProcedures p)) (length p.names)
    one_read (declares.ImportedData d) k hs h e = (tt, tt)
    one_read (declares.ImportedStacks x) k hs h e = all_empty (bricks_in names (declares.ImportedStacks x)) (length x.names)

    all_read : (ds : List Declaration) (k : ℕ) → ((i : ℕ) (d : Declaration) → slice_get ds i ≡ Some d → slice_get m.declarations (k + i) ≡ Some d) → AllByRecursion (NoneInside (records m.declarations) s names) ds
        → AllByRecursion BrickRead (filled (bricks names ds) (gathered (fillings_in s) (bricks names ds) ds))
    all_read [] k at h = tt
    all_read (d ∷ ds) k at h =
        let xs : List Heading = bricks_in names d in
        let ys : List Heading = bricks names ds in
        let fs : List Filling = fillings_in s (first (xs ++ ys)) d in
        let here : slice_get m.declarations k ≡ Some d = ap (slice_get m.declarations) (let e : k ≡ k + 0 = omega arith in e) ∙ at 0 d refl in
        let next : (i : ℕ) (x : Declaration) → slice_get ds i ≡ Some x → slice_get m.declarations (suc k + i) ≡ Some x = λ i x e. ap (slice_get m.declarations) (let q : suc k + i ≡ k + suc i = omega arith in q) ∙ at (suc i) x e in
        let rest : gathered (fillings_in s) (drop (brick_count d) (xs ++ ys)) ds ≡ gathered (fillings_in s) ys ds = ap (λ (hs : List Heading). gathered (fillings_in s) hs ds) (drop_joined xs ys (brick_count d) (headings_counted names d)) in
        subst (λ (gs : List Filling). AllByRecursion BrickRead (filled (xs ++ ys) (fs ++ gs))) (sym rest)
        (subst (AllByRecursion BrickRead) (sym (filled_joined xs ys fs (gathered (fillings_in s) ys ds) (fillings_counted s names d (first (xs ++ ys)))))
        (all_joined BrickRead (filled xs fs) (filled ys (gathered (fillings_in s) ys ds)) (one_read d k ys h.0 here) (all_read ds (suc k) next h.1)))

pub module_within : (items : List Item) (m : Module) → IsText items m → IsFaultless m.declarations → Within (tree m)
module_within items m t h =
    let ds : List Declaration = m.declarations in
    let s : Sight = sight ds in
    let none = none_inside (records ds) s (modes_seen ds) ds (λ g k. h g (inside k)) in
    let read = all_read s m (modes_seen ds) ds 0 (λ i d q. ap (slice_get ds) (let z : 0 + i ≡ i = omega arith in z) ∙ q) none in
    modules_within items m (tree m) s t.few t.derived (module_fits items m t h) (record { outside = λ ls seen. names_are_held items m ls seen t h; bodies = read })
