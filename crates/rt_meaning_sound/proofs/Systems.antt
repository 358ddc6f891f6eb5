-- Modules of texts have all that the law of typed stores asks for.
use Rattle.std.proofs.Common.{◌≡◌, ℕ, true, false, List, Option, Some, slice_get, sym, ap, ◌∙◌, subst}
use Rattle.std.specs.List.{AllByRecursion}
use Rattle.rt_bricks.specs.declared.tree.Module.{Module}
use Rattle.rt_modes.specs.declared.mode.Field.{Field}
use Rattle.rt_modes.specs.declared.mode.Mode.{Mode, out-Mode}
use Rattle.rt_modes.specs.declared.mode.Mode.TheOpen.{Mode-F}
use Rattle.rt_tree_nodes.specs.declared.brick.Brick.{Brick}
use Rattle.rt_tree_nodes.specs.declared.brick.BrickSort.TheVariants as sort
use Rattle.rt_tree_nodes.specs.declared.brick.DataStart.{DataStart}
use Rattle.rt_tree_nodes.specs.declared.brick.ModuleParts.{ModuleParts}
use Rattle.rt_tree_nodes.specs.declared.brick.ProcBody.{ProcBody}
use Rattle.rt_tree_nodes.specs.Scopes.{is_svc}
use Rattle.rt_pieces.specs.declared.item.Item.{Item}
use Rattle.rt_items.specs.Ranges.{ItemsAreInRange}
use Rattle.rt_tree.specs.Modules.{every_node_fits}
use Rattle.rt_tree.specs.Stored.{module_of}
use Rattle.rt_tree.specs.Opened.{IsTable, IsField}
use Rattle.rt_check_module.specs.Tree.{tree}
use Rattle.rt_check_module_laws.specs.Modules.{IsText, IsFaultless, ModulesFit as NodesFit}
use Rattle.rt_meaning_laws.specs.Modules.{BodyNamed}
use Rattle.rt_meaning_laws.specs.Starting.{NumbersFit}
use Rattle.rt_meaning_sound.specs.Numbers.{StartsAreWords, StringsAreBytes}
use Rattle.rt_tree_laws.specs.DataItems.{FullDataOpen}
use Rattle.rt_meaning_sound.specs.Procedures.{ModulesAreNamed}
use Rattle.rt_bricks_laws.specs.Spelled.{IsSpelled, NamesAreWords}
use Rattle.rt_check_module_laws.specs.Tables.{RecordsAreTables, DataItemsAreFields}
use Rattle.rt_meaning_sound.specs.Systems.{IsOfText, TextsMakeSystems}
use Rattle.rt_meaning_sound.proofs.Few.{few_items}

-- what is known of a module of a text: it is the tree of a module in which no fault stands
record IsKnown (p : ModuleParts) : Type 0 where
  items : List Item
  source : Module
  text : IsText items source
  spelled : AllByRecursion IsSpelled items
  faultless : IsFaultless source.declarations
  is : p ≡ tree source

module _ (ranged : ItemsAreInRange) (words : NamesAreWords) (starts : StartsAreWords) (strings : StringsAreBytes) (bodies : ModulesAreNamed) (nodes : NodesFit) (tabled : RecordsAreTables) (fields : DataItemsAreFields) (opened : FullDataOpen) where
  known : (p : ModuleParts) → IsOfText p → IsKnown p
  known p o =
      let t = o.is_tree in
      let s = t.is_source in
      record {
        items = s.items;
        source = t.source;
        text = record { few = few_items o.text s.items s.read; range = ranged o.text s.items o.bytes s.read; derived = s.derived };
        spelled = words o.text s.items s.read;
        faultless = t.typed.fit;
        is = t.typed.is;
      }

  module _ (p : ModuleParts) (k : IsKnown p) where
    numbers : NumbersFit p
    numbers = subst NumbersFit (sym k.is) (record { starts = starts k.items k.source k.text; bytes = strings k.items k.source k.text })

    node : every_node_fits p ≡ true
    node = ap every_node_fits k.is ∙ nodes k.items k.source k.text k.faultless

    table : IsTable p.modes
    table = subst (λ (q : ModuleParts). IsTable q.modes) (sym k.is) (tabled k.items k.source k.text k.spelled k.faultless)

    named : (b : ℕ) (d : Brick) → slice_get p.bricks b ≡ Some d → (w : Mode) (body : ProcBody) (ws : List Mode) (o : Option Mode) → d.sort ≡ sort.Proc w (Some body) → out-Mode w ≡ Mode-F.Proc ws o → BodyNamed p body ws o
    named b d at w body ws o is opens =
        subst (λ (q : ModuleParts). BodyNamed q body ws o) (sym k.is) (bodies k.items k.source k.text k.faultless b d (ap (λ (q : ModuleParts). slice_get q.bricks b) (sym k.is) ∙ at) w body ws o is opens)

    are_fields : (b : ℕ) (d : Brick) (fs : List Field) (ss : List DataStart) → slice_get p.bricks b ≡ Some d → d.sort ≡ sort.Data fs ss → is_svc d.kind ≡ false → AllByRecursion (IsField p.modes) fs
    are_fields b d fs ss at is own =
        subst (λ (q : ModuleParts). AllByRecursion (IsField q.modes) fs) (sym k.is) (fields k.items k.source k.text k.spelled k.faultless b d fs ss (ap (λ (q : ModuleParts). slice_get q.bricks b) (sym k.is) ∙ at) is own)

  pub texts_make_systems : TextsMakeSystems
  texts_make_systems ps texts matched =
      let seen : (m : ℕ) (p : ModuleParts) → module_of ps m ≡ Some p → IsKnown p = λ m p e. known p (texts m p e) in
      let table_of : (m : ℕ) (p : ModuleParts) → module_of ps m ≡ Some p → IsTable p.modes = λ m p e. table p (seen m p e) in
      record {
        nodes = λ m {p} e. node p (seen m p e);
        numbers = λ m p e. numbers p (seen m p e);
        named = λ {m} {b} {p} {d} has here w body ws o is opens. named p (seen m p has.of) b d has.at w body ws o is opens;
        matched = matched;
        tables = λ m {p} e. table_of m p e;
        data_modes = λ m b n c p q d e fs gs ss ts hd sd own he se other same.
            opened p.modes q.modes fs gs (table_of m p hd.of) (table_of n q he.of) (are_fields p (seen m p hd.of) b d fs ss hd.at sd own) (are_fields q (seen n q he.of) c e gs ts he.at se other) same;
      }
