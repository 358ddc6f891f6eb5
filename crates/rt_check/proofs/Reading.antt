-- What is answered of a module once its parts are read.
use Rattle.std.proofs.Common.{◌≡◌, Bool, true, false, not, ℕ, List, [], ◌∷◌, map, Option, Some, None, refl, sym, ap, ◌∙◌, subst}
use Rattle.std.specs.Option.{is_some}
use Rattle.rt_bricks.specs.declared.tree.Declaration.{Declaration}
use Rattle.rt_check_declared.specs.declared.bricks.Heading.{Heading}
use Rattle.rt_modes.specs.declared.mode.ModeTable.{ModeTable}
use Rattle.rt_modes.specs.declared.mode.RecordDef.{RecordDef}
use Rattle.rt_tree_nodes.specs.declared.brick.Brick.{Brick}
use Rattle.rt_tree_nodes.specs.declared.brick.ModuleParts.{ModuleParts}
use Rattle.rt_check_faults.specs.declared.fault.CheckFault.{CheckFault}
use Rattle.rt_sizes.specs.Capped.{AreSizes}
use Rattle.rt_sizes.specs.declared.size.Size.{Size}
use Rattle.rt_sizes.specs.Sizes.{Table}
use Rattle.rt_check_declared.specs.Heads.{noted}
use Rattle.rt_check_declared.specs.Records.{Counts}
use Rattle.rt_syntax.specs.declared.strings.Text.{Text}
use Rattle.rt_syntax.specs.Strings.{text_of}
use Rattle.rt_exprs.specs.Sights.{Sight, Names as Level}
use Rattle.rt_check_declared.specs.Names.{scope}
use Rattle.rt_check_module.specs.Levels.{module_names}
use Rattle.rt_check_module.specs.declared.filling.Filling.{Filling}
use Rattle.rt_check_module.specs.Tree.{records, headings, texts_from, Somewhere, gathered, fillings_in, filled}
use Rattle.rt_check_module.specs.Faults.{Inside}
use Rattle.rt_check_module.specs.Scenes.{StandsOutside}
use Rattle.rt_check.specs.Whole.{Refuses, Rise, StringsRise, TextsRise, sight_of}
use Rattle.rt_check.proofs.Finished.{Read, AreParts, are_parts, is_refused}

abbrev pub parts_of : List ℕ → ModeTable → List Brick → List (List ℕ) → ModuleParts
parts_of title modes bricks strings = record { title = title; modes = modes; bricks = bricks; strings = strings }

pub same_parts : (modes : ModeTable) (a b : List ℕ) (xs ys : List Brick) (ss ts : List (List ℕ)) → a ≡ b → xs ≡ ys → ss ≡ ts → parts_of a modes xs ss ≡ parts_of b modes ys ts
same_parts modes a b xs ys ss ts e f g = ap (λ (x : List ℕ). parts_of x modes xs ss) e ∙ ap (λ (zs : List Brick). parts_of b modes zs ss) f ∙ ap (parts_of b modes ys) g

-- what is kept of the strings' items, where each stands behind the one before it, is what the names see
pub names_see : (ds : List Declaration) (table modes : ModeTable) (bricks : List Heading) (level : Level) (ts lent : List Text) (keys : List ℕ) (names : Sight) → table ≡ modes → map text_of ts ≡ texts_from table.records [] bricks ds → lent ≡ ts → ((low : ℕ) → Rise low (map text_of lent) → keys ≡ map (λ t. t.0) (map text_of lent))
    → names ≡ record { records = modes.records; strings = keys; levels = level ∷ [] } → TextsRise modes.records bricks ds → names ≡ sight_of modes.records bricks ds level
names_see ds table modes bricks level ts lent keys names e found same k n rise =
    let all : map text_of lent ≡ texts_from modes.records [] bricks ds = ap (map text_of) same ∙ found ∙ ap (λ (t : ModeTable). texts_from t.records [] bricks ds) e in
    let items : keys ≡ map (λ (t : ℕ × List ℕ). t.0) (texts_from modes.records [] bricks ds) = k 0 (subst (Rise 0) (sym all) rise) ∙ ap (map (λ (t : ℕ × List ℕ). t.0)) all in
    n ∙ ap (λ (ks : List ℕ). record { records = modes.records; strings = ks; levels = level ∷ [] }) items

-- where no fault stands outside of what bricks hold
pub fit_by : (outside : Option CheckFault) (fit : Bool) → is_some outside ≡ not fit → outside ≡ None → fit ≡ true
fit_by None true e none = refl
fit_by None false e none = absurd cc
fit_by (Some f) fit e none = absurd cc

-- where lists are lent they are the same
module _ (ds : List Declaration) (modes : ModeTable) (sizes lent_sizes : List (Option Size)) (bricks lent_bricks : List Heading) (level : Level) (outside : Option CheckFault) (held : List Filling) (within : Option CheckFault)
    (same_sizes : lent_sizes ≡ sizes) (same_bricks : lent_bricks ≡ bricks) (records_are : modes.records ≡ (records ds).records) (sizes_are : AreSizes (records ds) sizes)
    (bricks_are : bricks ≡ headings ds) (level_is : level ≡ module_names bricks (scope ds)) (outside_counts : Counts (StandsOutside ds) outside)
    (within_counts : (t : Table) → AreSizes t lent_sizes → TextsRise modes.records lent_bricks ds → Counts (λ g. Somewhere (Inside (sight_of modes.records lent_bricks ds level) t g) lent_bricks ds) within)
    (is_fit : Bool) (fit_where : outside ≡ None → is_fit ≡ true)
    (held_are : (t : Table) → AreSizes t lent_sizes → TextsRise modes.records lent_bricks ds → is_fit ≡ true → within ≡ None → held ≡ gathered (fillings_in (sight_of modes.records lent_bricks ds level)) lent_bricks ds)
    (rise : StringsRise ds) where
  all_rise : TextsRise modes.records lent_bricks ds
  all_rise = subst (λ (hs : List Heading). TextsRise modes.records hs ds) (sym same_bricks) (subst (λ (rs : List RecordDef). TextsRise rs bricks ds) (sym records_are) (rise bricks))

  lent : (t : Table) → AreSizes t sizes → AreSizes t lent_sizes
  lent t = subst (AreSizes t) (sym same_sizes)

  all_counts : (t : Table) → AreSizes t sizes → Counts (λ g. Somewhere (Inside (sight_of modes.records bricks ds level) t g) bricks ds) within
  all_counts t s =
      subst (λ (hs : List Heading). Counts (λ g. Somewhere (Inside (sight_of modes.records hs ds level) t g) hs ds) within) same_bricks (within_counts t (lent t s) all_rise)

  all_held : outside ≡ None → within ≡ None → held ≡ gathered (fillings_in (sight_of modes.records bricks ds level)) bricks ds
  all_held fit none =
      subst (λ (hs : List Heading). held ≡ gathered (fillings_in (sight_of modes.records hs ds level)) hs ds) same_bricks (held_are (records ds) (lent (records ds) sizes_are) all_rise (fit_where fit) none)

  abbrev read : Read ds
  read = record {
    modes = modes;
    sizes = sizes;
    bricks = bricks;
    level = level;
    outside = outside;
    found = texts_from modes.records [] bricks ds;
    strings = map (λ (t : ℕ × List ℕ). t.0) (texts_from modes.records [] bricks ds);
    names = sight_of modes.records bricks ds level;
    held = held;
    within = within;
    records_are = records_are;
    sizes_are = sizes_are;
    bricks_are = bricks_are;
    level_is = level_is;
    outside_counts = outside_counts;
    found_are = refl;
    strings_are = refl;
    names_are = refl;
    within_counts = all_counts;
    held_are = all_held;
  }

  pub read_refuses : (g : CheckFault) → noted outside within ≡ Some g → Refuses ds g
  read_refuses g some = is_refused ds read g some

  pub read_parts : noted outside within ≡ None → AreParts ds modes (filled bricks held) (texts_from modes.records [] bricks ds)
  read_parts none = are_parts ds read none
