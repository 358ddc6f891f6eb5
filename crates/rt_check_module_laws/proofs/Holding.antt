-- What a procedure sees outside of itself is there in the tree.
use Rattle.std.proofs.Common.{◌≡◌, suc, drop, List, [], ◌∷◌, length, map, replicate, Option, refl, sym, ap, ◌∙◌, arith}
use Rattle.std.specs.List.{AllByRecursion}
use Rattle.rt_bricks.specs.declared.tree.Declaration.{Declaration}
use Rattle.rt_bricks.specs.declared.tree.Declaration.TheVariants as declares
use Rattle.rt_bricks.specs.declared.tree.Module.{Module}
use Rattle.rt_pieces.specs.declared.item.Item.{Item}
use Rattle.rt_tree_nodes.specs.declared.brick.Local.{Local}
use Rattle.rt_tree_nodes.specs.Scopes.{Scope, scope_of, with_locals}
use Rattle.rt_tree.specs.Statements.{Sight as Seen}
use Rattle.rt_exprs.specs.Sights.{Sight}
use Rattle.rt_check_declared.specs.Names.{scope}
use Rattle.rt_check_declared.specs.Names.{bricks_in as brick_count}
use Rattle.rt_check_declared.specs.declared.bricks.Heading.{Heading}
use Rattle.rt_check_declared.specs.Bricks.{import_kind, imported_procedure, imported_stack, variable, bricks_in, bricks, brick_faults}
use Rattle.rt_check_bodies_laws.specs.Held.{Holds}
use Rattle.rt_check_module.specs.declared.filling.Filling.{Filling}
use Rattle.rt_check_module.specs.Tree.{modes_seen, records, first, headings, fillings, nothing, gathered, fillings_in, texts, sight, tree}
use Rattle.rt_check_module.specs.Faults.{in_bricks}
use Rattle.rt_check_module_laws.specs.Modules.{IsText, IsFaultless}
use Rattle.rt_check_module_laws.proofs.Headings.{headings_good}
use Rattle.rt_bricks_laws.proofs.AllLists.{length_mapped, length_joined}
use Rattle.rt_check_module_laws.proofs.Modes.{records_have_items}
use Rattle.rt_check_module_laws.proofs.Records.{modes_are_records, text_shallow, nothing_in, modes_fit}
use Rattle.rt_check_module_laws.proofs.There.{HeadingGood, names_hold}

-- ---- what has no fault

pub no_brick_faults : (ds : List Declaration) → IsFaultless ds → brick_faults (modes_seen ds) ds ≡ []
no_brick_faults ds h = nothing_in (brick_faults (modes_seen ds) ds) (λ g k. h g (in_bricks k))

-- ---- as many fillings as bricks

module _ {A B C : Type 0} (f : A → B) (x : C) where
  as_many_copies : (is : List A) → length (replicate (length is) x) ≡ length (map f is)
  as_many_copies [] = refl
  as_many_copies (i ∷ is) = ap suc (as_many_copies is)

pub one_filled : (s : Sight) (h : Option Heading) (d : Declaration) (ds : List Declaration) → length (fillings_in s h d) ≡ length (bricks_in (modes_seen ds) d)
one_filled s h (declares.Record r) ds = refl
one_filled s h (declares.Data d) ds = refl
one_filled s h (declares.Stack x) ds = refl
one_filled s h (declares.Procedure p) ds = refl
one_filled s h (declares.ImportedProcedures p) ds = as_many_copies (imported_procedure (import_kind p.import) (variable (modes_seen ds) p.mode)) nothing p.names
one_filled s h (declares.ImportedData d) ds = refl
one_filled s h (declares.ImportedStacks x) ds = as_many_copies imported_stack nothing x.names

-- over the names of MODEs of a module, for some of its declarations
pub all_filled : (s : Sight) (hs : List Heading) (of ds : List Declaration) → length (gathered (fillings_in s) hs ds) ≡ length (bricks (modes_seen of) ds)
all_filled s hs of [] = refl
all_filled s hs of (d ∷ ds) =
    let rest : List Filling = gathered (fillings_in s) (drop (brick_count d) hs) ds in
    let one = one_filled s (first hs) d of in
    let go = all_filled s (drop (brick_count d) hs) of ds in
    omega (arith, one, go, length_joined (fillings_in s (first hs) d) rest, length_joined (bricks_in (modes_seen of) d) (bricks (modes_seen of) ds))

pub headings_filled : (ds : List Declaration) → length (fillings ds) ≡ length (headings ds)
headings_filled ds = all_filled (sight ds) (headings ds) ds ds

-- ---- strings

-- ---- the whole

pub good_headings : (items : List Item) (m : Module) → IsText items m → IsFaultless m.declarations → AllByRecursion HeadingGood (headings m.declarations)
good_headings items m t h =
    headings_good (modes_seen m.declarations) (length (records m.declarations).records) (modes_are_records m.declarations) m.declarations (no_brick_faults m.declarations h) (text_shallow items m t)

pub names_are_held : (items : List Item) (m : Module) (ls : List Local) (seen : Seen) → IsText items m → IsFaultless m.declarations → Holds (with_locals (scope_of (tree m)) ls) (sight m.declarations) seen
names_are_held items m ls seen t h =
    let ds : List Declaration = m.declarations in
    let c : Scope = with_locals (scope_of (tree m)) ls in
    record {
      records = refl;
      fields = records_have_items (modes_seen ds) (length (records ds).records) (modes_are_records ds) ds (text_shallow items m t) (modes_fit ds h);
      strings = length_mapped _ (texts ds) ∙ sym (length_mapped _ (texts ds));
      levels = (names_hold c refl refl (headings ds) (fillings ds) (headings_filled ds) refl (good_headings items m t h) seen (scope ds), tt);
    }
