-- The bodies of a tree are those of the module's procedures.
use Rattle.std.proofs.Common.{◌≡◌, ℕ, zero, suc, ◌<◌, ◌≤◌, List, [], ◌∷◌, ◌++◌, length, replicate, Some, arith, refl, sym, ap, ◌∙◌, subst}
use Rattle.std.specs.Prelude.{slice_get}
use Rattle.std.specs.List.{AllByRecursion}
use Rattle.rt_pieces.specs.declared.item.Item.{Item}
use Rattle.rt_bricks.specs.Counted.{items_of}
use Rattle.rt_bricks.specs.Derives.{Derives}
use Rattle.rt_bricks.specs.declared.tree.Declaration.{Declaration}
use Rattle.rt_bricks.specs.declared.tree.Declaration.TheVariants as declares
use Rattle.rt_bricks.specs.declared.tree.Module.{Module}
use Rattle.rt_bricks.specs.declared.tree.ProcedureBrick.{ProcedureBrick}
use Rattle.rt_modes.specs.declared.mode.Mode.{Mode}
use Rattle.rt_tree_nodes.specs.declared.brick.Brick.{Brick}
use Rattle.rt_tree_nodes.specs.declared.brick.BrickSort.{BrickSort}
use Rattle.rt_tree_nodes.specs.declared.brick.BrickSort.TheVariants as brick_sort
use Rattle.rt_tree_nodes.specs.declared.brick.ProcBody.{ProcBody}
use Rattle.rt_exprs.specs.Sights.{Sight}
use Rattle.rt_tree.specs.Depth.{sequence_recovers}
use Rattle.rt_tree.specs.Within.{tree_of}
use Rattle.rt_check_bodies.specs.Procedures.{procedure}
use Rattle.rt_check_declared.specs.Written.{Names}
use Rattle.rt_check_declared.specs.declared.bricks.Heading.{Heading}
use Rattle.rt_check_declared.specs.declared.bricks.Sort.{Sort}
use Rattle.rt_check_declared.specs.declared.bricks.Sort.TheVariants as sort
use Rattle.rt_check_declared.specs.declared.parts.Given.{Given}
use Rattle.rt_check_declared.specs.declared.parts.Given.TheVariants as given
use Rattle.rt_check_declared.specs.Bricks.{bricks_in}
use Rattle.rt_check_declared.specs.Bricks.{procedure as heading_of}
use Rattle.rt_check_module.specs.Tree.{first, nothing, sort_by, filled, fillings_in, modes_seen, sight, tree}
use Rattle.rt_bricks_laws.specs.Counts.{in_procedure}
use Rattle.rt_bricks_laws.specs.Laws.{ItemsCounted}
use Rattle.rt_bricks_laws.proofs.AllLists.{all_get}
use Rattle.rt_bricks_laws.proofs.Items.{items_counted}
use Rattle.rt_text_laws.specs.Trees.{NothingRecovers, ItemsAreSome, ItemsAreFew}
use Rattle.rt_text_laws.proofs.Bricks.{each_brick}
use Rattle.rt_text_laws.proofs.Plain.{procedure_plain}

-- a body is that of a procedure of the text, of so many items
record IsMade (s : Sight) (body : ProcBody) : Type 0 where
  brick : ProcedureBrick
  is : body ≡ procedure s brick
  some : 6 ≤ items_of brick
  few : items_of brick < 65536

module _ (s : Sight) where
  abbrev SortMade : BrickSort → Type 0
  SortMade (brick_sort.Proc m (Some body)) = IsMade s body
  SortMade _ = Unit {0}

  abbrev BrickMade : Brick → Type 0
  BrickMade b = SortMade b.sort

  empty_made : (x : Sort) → SortMade (sort_by x nothing)
  empty_made (sort.Procedure (given.Mode w)) = tt
  empty_made (sort.Procedure given.Unknown) = tt
  empty_made (sort.Items ps) = tt
  empty_made (sort.Stack n) = tt

  all_empty : (hs : List Heading) (n : ℕ) → AllByRecursion BrickMade (filled hs (replicate n nothing))
  all_empty [] n = tt
  all_empty (h ∷ hs) zero = tt
  all_empty (h ∷ hs) (suc n) = (empty_made h.sort, all_empty hs n)

  six : (p : ProcedureBrick) → 6 ≤ in_procedure p
  six p = omega arith

  by_heading : (p : ProcedureBrick) → ItemsCounted (declares.Procedure p) → (g : Given) → SortMade (sort_by (sort.Procedure g) (record { body = Some (procedure s p); starts = [] }))
  by_heading p h (given.Mode w) = record { brick = p; is = refl; some = (let e = six p in let k = h.0 in omega arith); few = h.1 }
  by_heading p h given.Unknown = tt

  one_made : (names : Names) (d : Declaration) (hs : List Heading) → ItemsCounted d → AllByRecursion BrickMade (filled (bricks_in names d) (fillings_in s (first (bricks_in names d ++ hs)) d))
  one_made names (declares.Record r) hs h = tt
  one_made names (declares.Data d) hs h = (tt, tt)
  one_made names (declares.Stack x) hs h = (tt, tt)
  one_made names (declares.Procedure p) hs h = (by_heading p h (heading_of names p), tt)
  one_made names (declares.ImportedProcedures p) hs h = all_empty (bricks_in names (declares.ImportedProcedures p)) (length p.names)
  one_made names (declares.ImportedData d) hs h = (tt, tt)
  one_made names (declares.ImportedStacks x) hs h = all_empty (bricks_in names (declares.ImportedStacks x)) (length x.names)

-- each body of a tree is made so
module _ (items : List Item) (m : Module) (few : length items < 65536) (derived : Derives items m) where
  abbrev s : Sight
  s = sight m.declarations

  made_at : (k : ℕ) (d : Brick) (w : Mode) (body : ProcBody) → slice_get (tree m).bricks k ≡ Some d → d.sort ≡ brick_sort.Proc w (Some body) → IsMade s body
  made_at k d w body at is =
      let all = each_brick s (modes_seen m.declarations) ItemsCounted (BrickMade s) (one_made s (modes_seen m.declarations)) m.declarations (items_counted items m few derived) in
      subst (SortMade s) is (all_get (BrickMade s) (tree m).bricks k d all at)

  pub nothing_recovers : NothingRecovers (tree m)
  nothing_recovers k d w body at is =
      let b = made_at k d w body at is in
      ap (λ (x : ProcBody). sequence_recovers (tree_of (tree m) x)) b.is ∙ procedure_plain (tree m) s b.brick

  pub items_are_some : ItemsAreSome (tree m)
  items_are_some k d w body at is = let b = made_at k d w body at is in subst (λ (x : ProcBody). 6 ≤ x.items) (sym b.is) b.some

  pub items_are_few : ItemsAreFew (tree m)
  items_are_few k d w body at is = let b = made_at k d w body at is in subst (λ (x : ProcBody). x.items < 65536) (sym b.is) b.few
