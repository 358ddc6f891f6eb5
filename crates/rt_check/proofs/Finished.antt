-- What is answered of a whole module.
use Rattle.std.proofs.Common.{◌≡◌, inl, inr, ℕ, List, [], ◌∷◌, map, Option, Some, None, Result, Ok, Err, refl, ap, ◌∙◌, subst}
use Rattle.std.specs.Prelude.{IfOk, IfErr}
use Rattle.rt_bricks.specs.declared.tree.Declaration.{Declaration}
use Rattle.rt_bricks.specs.declared.tree.Module.{Module}
use Rattle.rt_check_declared.specs.declared.bricks.Heading.{Heading}
use Rattle.rt_modes.specs.declared.mode.ModeTable.{ModeTable}
use Rattle.rt_modes.specs.declared.mode.RecordDef.{RecordDef}
use Rattle.rt_tree_nodes.specs.declared.brick.Brick.{Brick}
use Rattle.rt_tree_nodes.specs.declared.brick.ModuleParts.{ModuleParts}
use Rattle.rt_check_faults.specs.declared.fault.CheckFault.{CheckFault}
use Rattle.rt_check_faults.proofs.Joins.{told}
use Rattle.rt_check_faults.specs.Outcomes.{IsAnswered, IsLeast, UnlessMemory}
use Rattle.rt_sizes.specs.Capped.{AreSizes}
use Rattle.rt_sizes.specs.declared.size.Size.{Size}
use Rattle.rt_sizes.specs.Sizes.{Table}
use Rattle.rt_check_declared.specs.Heads.{noted}
use Rattle.rt_check_declared.specs.Records.{Counts}
use Rattle.rt_syntax.specs.Strings.{Texts}
use Rattle.rt_exprs.specs.Sights.{Sight, Names as Level}
use Rattle.rt_check_declared.specs.Names.{scope}
use Rattle.rt_check_module.specs.Levels.{module_names}
use Rattle.rt_check_module.specs.declared.filling.Filling.{Filling}
use Rattle.rt_check_module.specs.Tree.{tree, records, headings, texts, texts_from, sight, Somewhere, gathered, fillings_in, fillings, filled, tree_bricks}
use Rattle.rt_check_module.specs.Faults.{Stands, Inside}
use Rattle.rt_check_module.specs.Typed.{IsTyped}
use Rattle.rt_check_module.specs.Scenes.{StandsOutside}
use Rattle.rt_check.specs.Whole.{Refuses}
use Rattle.rt_check.proofs.Joined.{whole_counts}

-- What was read of a module.
pub record Read (ds : List Declaration) : Type 0 where
  pub modes : ModeTable
  pub sizes : List (Option Size)
  pub bricks : List Heading
  pub level : Level
  pub outside : Option CheckFault
  pub found : Texts
  pub strings : List ℕ
  pub names : Sight
  pub held : List Filling
  pub within : Option CheckFault
  pub records_are : modes.records ≡ (records ds).records
  pub sizes_are : AreSizes (records ds) sizes
  pub bricks_are : bricks ≡ headings ds
  pub level_is : level ≡ module_names bricks (scope ds)
  pub outside_counts : Counts (StandsOutside ds) outside
  pub found_are : found ≡ texts_from modes.records [] bricks ds
  pub strings_are : strings ≡ map (λ t. t.0) found
  pub names_are : names ≡ record { records = modes.records; strings = strings; levels = level ∷ [] }
  pub within_counts : (t : Table) → AreSizes t sizes → Counts (λ g. Somewhere (Inside names t g) bricks ds) within
  pub held_are : outside ≡ None → within ≡ None → held ≡ gathered (fillings_in names) bricks ds

abbrev sight_with : List RecordDef → List ℕ → Level → Sight
sight_with rs ks l = record { records = rs; strings = ks; levels = l ∷ [] }

-- what the tree of a module is made of
pub record AreParts (ds : List Declaration) (modes : ModeTable) (bricks : List Brick) (ts : Texts) : Type 0 where
  pub none : (g : CheckFault) → Stands ds g → ⊥
  pub modes_are : modes ≡ record { records = (records ds).records }
  pub bricks_are : bricks ≡ tree_bricks ds
  pub texts_are : ts ≡ texts ds

abbrev parts_with : Module → ModeTable → List Brick → Texts → ModuleParts
parts_with m modes bricks ts = record { title = m.title; modes = modes; bricks = bricks; strings = map (λ t. t.1) ts }

pub typed_with : (m : Module) (modes : ModeTable) (bricks : List Brick) (ts : Texts) (p : ModuleParts) → AreParts m.declarations modes bricks ts → p ≡ parts_with m modes bricks ts → IsTyped m p
typed_with m modes bricks ts p a is = record {
  fit = a.none;
  is =
      is ∙ ap (λ (x : ModeTable). parts_with m x bricks ts) a.modes_are ∙ ap (λ (xs : List Brick). parts_with m (record { records = (records m.declarations).records }) xs ts) a.bricks_are
      ∙ ap (λ (xs : Texts). parts_with m (record { records = (records m.declarations).records }) (tree_bricks m.declarations) xs) a.texts_are;
}

no_first : (f g : Option CheckFault) → noted f g ≡ None → f ≡ None
no_first None g e = refl
no_first (Some f) None e = absurd cc
no_first (Some f) (Some g) e = absurd cc

no_second : (f g : Option CheckFault) → noted f g ≡ None → g ≡ None
no_second f None e = refl
no_second None (Some g) e = absurd cc
no_second (Some f) (Some g) e = absurd cc

module _ (ds : List Declaration) (r : Read ds) where
  all_found : r.found ≡ texts ds
  all_found = r.found_are ∙ ap (λ (rs : List RecordDef). texts_from rs [] r.bricks ds) r.records_are ∙ ap (λ (hs : List Heading). texts_from (records ds).records [] hs ds) r.bricks_are

  names_seen : r.names ≡ sight ds
  names_seen =
      r.names_are ∙ ap (λ (rs : List RecordDef). sight_with rs r.strings r.level) r.records_are
      ∙ ap (λ (ks : List ℕ). sight_with (records ds).records ks r.level) (r.strings_are ∙ ap (map (λ (t : ℕ × List ℕ). t.0)) all_found)
      ∙ ap (λ (l : Level). sight_with (records ds).records (map (λ t. t.0) (texts ds)) l) (r.level_is ∙ ap (λ (hs : List Heading). module_names hs (scope ds)) r.bricks_are)

  abbrev Within : Sight → List Heading → Option CheckFault → Type 0
  Within s hs o = Counts (λ g. Somewhere (Inside s (records ds) g) hs ds) o

  within_all : Within (sight ds) (headings ds) r.within
  within_all = subst (λ (hs : List Heading). Within (sight ds) hs r.within) r.bricks_are (subst (λ (s : Sight). Within s r.bricks r.within) names_seen (r.within_counts (records ds) r.sizes_are))

  pub all_counts : Counts (Stands ds) (noted r.outside r.within)
  all_counts = whole_counts ds r.outside r.within r.outside_counts within_all

  abbrev Held : Sight → List Heading → Type 0
  Held s hs = r.held ≡ gathered (fillings_in s) hs ds

  all_held : r.outside ≡ None → r.within ≡ None → r.held ≡ fillings ds
  all_held fit none = subst (λ (hs : List Heading). Held (sight ds) hs) r.bricks_are (subst (λ (s : Sight). Held s r.bricks) names_seen (r.held_are fit none))

  none_stands : (o : Option CheckFault) → o ≡ None → Counts (Stands ds) o → (g : CheckFault) → Stands ds g → ⊥
  none_stands None e c = c
  none_stands (Some g) e c = absurd cc

  pub are_parts : noted r.outside r.within ≡ None → AreParts ds r.modes (filled r.bricks r.held) r.found
  are_parts none = record {
    none = none_stands (noted r.outside r.within) none all_counts;
    modes_are = ap (λ (rs : List RecordDef). record { records = rs }) r.records_are;
    bricks_are = ap (λ (hs : List Heading). filled hs r.held) r.bricks_are ∙ ap (filled (headings ds)) (all_held (no_first r.outside r.within none) (no_second r.outside r.within none));
    texts_are = all_found;
  }

  refused_by : (o : Option CheckFault) (g : CheckFault) → o ≡ Some g → Counts (Stands ds) o → Refuses ds g
  refused_by None g e c = absurd cc
  refused_by (Some f) g e c = let same : f ≡ g = cc in subst (λ (x : CheckFault). IsLeast (Stands ds) x) same c

  pub is_refused : (g : CheckFault) → noted r.outside r.within ≡ Some g → Refuses ds g
  is_refused g some = refused_by (noted r.outside r.within) g some all_counts

-- ---- so the tree is answered

pub answered : (m : Module) → ((g : CheckFault) → Stands m.declarations g → ⊥) → (x : Result ModuleParts CheckFault) → IfOk x (IsTyped m) → IfErr x (λ g. UnlessMemory g (Refuses m.declarations g)) → IsAnswered (tree m) x
answered m none (Ok p) typed refused = inl (ap Ok typed.is)
answered m none (Err g) typed refused = elim (told g (Refuses m.declarations g) refused) [ inl e ↦ inr (ap Err e) | inr r ↦ absurd (none g r.stands) ]
