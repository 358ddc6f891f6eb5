-- What the typed tree of a text has.
use Rattle.std.proofs.Common.{◌≡◌, ◌≤◌, true, List, [], ◌∷◌, length, Some, arith, sym, subst}
use Rattle.std.specs.List.{AllByRecursion}
use Rattle.rt_pieces.specs.declared.item.Item.{Item}
use Rattle.rt_bricks.specs.declared.tree.Module.{Module}
use Rattle.rt_modes.specs.declared.mode.Mode.{Mode}
use Rattle.rt_modes.specs.declared.mode.Mode.TheOpen.{Mode-F}
use Rattle.rt_tree_nodes.specs.declared.brick.Local.{Local}
use Rattle.rt_tree_nodes.specs.declared.brick.Local.TheVariants as local
use Rattle.rt_tree_nodes.specs.declared.brick.ModuleParts.{ModuleParts}
use Rattle.rt_tree_nodes.specs.Scopes.{same, scope_of}
use Rattle.rt_tree_nodes.specs.Typing.{signature_by}
use Rattle.rt_tree.specs.Modules.{is_here, parameters_first, proc_fits, every_node_fits}
use Rattle.rt_tree.specs.Within.{parameters_by}
use Rattle.rt_bricks_laws.specs.Spelled.{IsSpelled, NamesAreWords}
use Rattle.rt_bricks_laws.proofs.AllLists.{left_of, right_of}
use Rattle.rt_check_module.specs.Tree.{tree}
use Rattle.rt_check_module_laws.specs.Modules.{IsText, IsFaultless, ModulesFit, ModulesStayWithin}
use Rattle.rt_check_module_laws.specs.Tables.{RecordsAreTables, DataItemsAreFields}
use Rattle.rt_meaning_laws.proofs.Nodes.{proc_opens}
use Rattle.rt_meaning_sound.specs.Numbers.{StartsAreWords, StringsAreBytes}
use Rattle.rt_meaning_sound.specs.Procedures.{ModulesAreNamed}
use Rattle.rt_meaning_sound.proofs.Few.{few_items}
use Rattle.rt_text_laws.specs.Trees.{ItemsAreRanged, ParametersAreLocals, TreePromise, TreesPromise}
use Rattle.rt_text_laws.proofs.Bodies.{nothing_recovers, items_are_some, items_are_few}
use Rattle.rt_text_laws.proofs.Named.{items_are_named}
use Rattle.rt_text_laws.proofs.Some.{records_have_fields}

-- ---- parameters

leading : (ms : List Mode) (ls : List Local) → parameters_first ms ls ≡ true → length ms ≤ length ls
leading [] ls h = omega arith
leading (m ∷ ms) [] h = absurd cc
leading (m ∷ ms) (local.Variable n ∷ ls) h = omega (arith, leading ms ls (right_of (same m n) (parameters_first ms ls) h))
leading (m ∷ ms) (local.Loop ∷ ls) h = absurd cc

parameters_are_locals : (p : ModuleParts) → every_node_fits p ≡ true → ParametersAreLocals p
parameters_are_locals p fits k d w body at is =
    let r = proc_opens p fits k d w (Some body) at is in
    let first = left_of (parameters_first r.0 body.locals) _ (right_of (is_here d.kind) (proc_fits (scope_of p) r.0 r.1 body) r.4) in
    subst (λ (l : Mode-F Mode). parameters_by (signature_by l) ≤ length body.locals) (sym r.2) (leading r.0 body.locals first)

-- ---- all

-- the laws of the checker that are cited
pub record Checked : Type 0 where
  pub starts : StartsAreWords
  pub strings : StringsAreBytes
  pub named : ModulesAreNamed
  pub nodes : ModulesFit
  pub within : ModulesStayWithin
  pub tables : RecordsAreTables
  pub fields : DataItemsAreFields

module _ (laws : Checked) (items : List Item) (m : Module) (text : IsText items m) (spelled : AllByRecursion IsSpelled items) (fine : IsFaultless m.declarations) where
  promised : TreePromise (tree m)
  promised =
      let fits : every_node_fits (tree m) ≡ true = laws.nodes items m text fine in
      record {
        nodes_fit = fits;
        numbers_fit = record { starts = laws.starts items m text; bytes = laws.strings items m text };
        records_are_table = laws.tables items m text spelled fine;
        records_have_fields = records_have_fields items m text.derived;
        items_are_fields = λ b d fs ss at is own. laws.fields items m text spelled fine b d fs ss at is own;
        items_are_named = items_are_named items m spelled text.derived fine;
        procedures_are_within = laws.within items m text fine;
        parameters_are_locals = parameters_are_locals (tree m) fits;
        locals_have_values = λ k d w body at is ws o opens. laws.named items m text fine k d at w body ws o is opens;
        nothing_recovers = nothing_recovers items m text.few text.derived;
        items_are_some = items_are_some items m text.few text.derived;
        items_are_few = items_are_few items m text.few text.derived;
      }

pub trees_promise : ItemsAreRanged → NamesAreWords → Checked → TreesPromise
trees_promise ranged words laws text p t =
    let s = t.is_source in
    let read : IsText s.items t.source = record { few = few_items text s.items s.read; range = ranged text s.items s.read; derived = s.derived } in
    subst TreePromise (sym t.typed.is) (promised laws s.items t.source read (words text s.items s.read) t.typed.fit)
