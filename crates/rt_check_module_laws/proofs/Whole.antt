-- Each node of the tree of a module in which no fault stands fits.
use Rattle.std.proofs.Common.{◌≡◌, inl, inr, ℕ, ◌&&◌, Bool, true, List, [], ◌∷◌, ◌++◌, length, Option, Some, None, refl, sym, subst}
use Rattle.std.specs.List.{list_all, AllByRecursion}
use Rattle.rt_bricks.specs.declared.tree.DataBrick.{DataBrick}
use Rattle.rt_bricks.specs.declared.tree.Declaration.{Declaration}
use Rattle.rt_bricks.specs.declared.tree.Declaration.TheVariants as declares
use Rattle.rt_bricks.specs.declared.tree.Module.{Module}
use Rattle.rt_bricks.specs.declared.tree.ProcedureBrick.{ProcedureBrick}
use Rattle.rt_modes.specs.declared.mode.Mode.{Mode}
use Rattle.rt_tree_nodes.specs.declared.brick.Local.{Local}
use Rattle.rt_tree_nodes.specs.Scopes.{Scope, scope_of, with_locals}
use Rattle.rt_check_faults.specs.declared.fault.CheckFault.{CheckFault}
use Rattle.rt_exprs.specs.Names.{find}
use Rattle.rt_pieces.specs.declared.item.Item.{Item}
use Rattle.rt_sizes.specs.Sizes.{Table}
use Rattle.rt_tree.specs.Modules.{record_stands, brick_fits, is_short, every_node_fits}
use Rattle.rt_tree.specs.Statements.{Sight as Seen}
use Rattle.rt_exprs_laws.specs.Agreeing.{Agree}
use Rattle.rt_check_declared.specs.declared.site.Site.TheVariants as site
use Rattle.rt_check_declared.specs.Verdicts.{IsIn}
use Rattle.rt_check_declared.specs.Written.{Names}
use Rattle.rt_exprs.specs.Sights.{Sight}
use Rattle.rt_check_bodies.specs.Procedures.{procedure, faults, nothing_yet, parameters, answer_in}
use Rattle.rt_check_declared.specs.Names.{scope}
use Rattle.rt_check_module.specs.Levels.{module_names}
use Rattle.rt_check_declared.specs.Names.{bricks_in as brick_count}
use Rattle.rt_check_declared.specs.Fields.{written_fields, mode_faults}
use Rattle.rt_check_declared.specs.declared.bricks.Heading.{Heading}
use Rattle.rt_check_declared.specs.declared.parts.Part.{Part}
use Rattle.rt_check_declared.specs.Bricks.{result_faults, bricks_in, bricks, faults_in, brick_faults}
use Rattle.rt_check_declared.specs.Parts.{recovers, parts, item_parts}
use Rattle.rt_check_module.specs.Bricks.{BrickFault, in_items}
use Rattle.rt_check_module.specs.Items.{brick_starts}
use Rattle.rt_check_module.specs.Items.{brick_faults as start_faults}
use Rattle.rt_check_bodies_laws.specs.Held.{Holds, IsKnown, AllKnown, ResultIs}
use Rattle.rt_check_bodies_laws.specs.Standing.{AreRecords}
use Rattle.rt_check_bodies_laws.proofs.Brick.{procedure_accepted}
use Rattle.rt_check_bodies_laws.proofs.Holding.{agrees}
use Rattle.rt_bricks_laws.specs.Laws.{ItemsCounted, BodyIsBroad, LabelsFew}
use Rattle.rt_bricks_laws.specs.Modes.{ModesShallow}
use Rattle.rt_bricks_laws.specs.Strings.{in_lines}
use Rattle.rt_bricks_laws.proofs.BroadBricks.{bodies_broad}
use Rattle.rt_bricks_laws.proofs.Items.{items_counted}
use Rattle.rt_bricks_laws.proofs.Labels.{labels_few}
use Rattle.rt_check_bodies_laws.specs.Named.{IsRecord, NamesRecords}
use Rattle.rt_check_bodies_laws.proofs.Procedures.{few_locals}
use Rattle.rt_check_bodies_laws.proofs.StandingBodies.{locals_stand}
use Rattle.rt_check_module_laws.specs.Starts.{GivenStands, IsReady}
use Rattle.rt_check_module_laws.proofs.StartBricks.{starts_fit, each_item_has_a_part}
use Rattle.rt_check_module.specs.Tree.{first, Somewhere, nothing, modes_seen, records, headings, gathered, fillings_in, filled, texts, sight, tree}
use Rattle.rt_check_module.specs.Faults.{inside}
use Rattle.rt_check_module.specs.Faults.{Inside}
use Rattle.rt_check_module_laws.specs.Modules.{IsText, IsFaultless}
use Rattle.rt_check_module_laws.proofs.Below.{names_below}
use Rattle.rt_check_module_laws.proofs.Bricks.{drop_joined, headings_counted, Fits, all_fit, stack_fits, stacks_fit, imported_procedures_fit, procedure_brick_fits, own_data_fits, imported_data_fits}
use Rattle.rt_check_module_laws.proofs.Headings.{ItemStands, ItemAllowed, items_stand, parts_allowed, is_headed}
use Rattle.rt_check_module_laws.proofs.Heads.{modes_of, ResultValue, heads_are, result_is}
use Rattle.rt_check_module_laws.proofs.Holding.{no_brick_faults, good_headings, names_are_held}
use Rattle.rt_check_module_laws.proofs.Knowing.{names_known}
use Rattle.rt_check_bodies_laws.proofs.Each.{found_each}
use Rattle.rt_exprs_laws.proofs.Passing.{alone_is_item}
use Rattle.rt_exprs.specs.declared.scope.Meaning.{Meaning}
use Rattle.rt_tree.specs.declared.standing.Standing.TheVariants as standing
use Rattle.rt_check_declared.specs.declared.parts.Given.{Given}
use Rattle.rt_check_declared.specs.declared.parts.Given.TheVariants as given
use Rattle.rt_check_module_laws.proofs.Known.{scope_once, scope_below}
use Rattle.rt_check_module_laws.proofs.Levels.{SameModes, same_modes}
use Rattle.rt_bricks_laws.proofs.AllLists.{both_true, first_nothing, second_nothing}
use Rattle.rt_check_module_laws.proofs.Parts.{PartHas, GivenHas, are_fields}
use Rattle.rt_check_module_laws.proofs.Procs.{ModeIsProc, modes_are_proc}
use Rattle.rt_check_module_laws.proofs.Records.{record_count, modes_are_records, text_shallow, nothing_in, all_stand, records_whole, held_below}
use Rattle.rt_check_module_laws.proofs.Texts.{ShortIn, texts_short, short_bytes, module_short, TextsThere, all_there}

-- no fault stands inside a declaration
abbrev pub NoneInside : Table → Sight → Names → Declaration → Type 0
NoneInside t s names (declares.Data d) = (g : CheckFault) → BrickFault t s d.lines (item_parts names d.lines) g → ⊥
NoneInside t s names (declares.Procedure p) = (g : CheckFault) → IsIn g (faults s p) → ⊥
NoneInside t s names _ = Unit {0}

module _ (t : Table) (s : Sight) (names : Names) where
  one_inside : (d : Declaration) (hs : List Heading) → ((g : CheckFault) → Inside s t g (first (bricks_in names d ++ hs)) d → ⊥) → NoneInside t s names d
  one_inside (declares.Data d) hs h = h
  one_inside (declares.Procedure p) hs h = h
  one_inside (declares.Record r) hs h = tt
  one_inside (declares.Stack x) hs h = tt
  one_inside (declares.ImportedProcedures p) hs h = tt
  one_inside (declares.ImportedData d) hs h = tt
  one_inside (declares.ImportedStacks x) hs h = tt

  pub none_inside : (ds : List Declaration) → ((g : CheckFault) → Somewhere (Inside s t g) (bricks names ds) ds → ⊥) → AllByRecursion (NoneInside t s names) ds
  none_inside [] h = tt
  none_inside (d ∷ ds) h =
      let xs : List Heading = bricks_in names d in
      let ys : List Heading = bricks names ds in (
        one_inside d ys (λ g k. h g (inl k)),
        none_inside ds (λ g k. h g (inr (subst (λ (hs : List Heading). Somewhere (Inside s t g) hs ds) (sym (drop_joined xs ys (brick_count d) (headings_counted names d))) k))),
      )

-- what the grammar gives of a declaration, and what no fault in it means
record Known (t : Table) (s : Sight) (names : Names) (ts : List (ℕ × List ℕ)) (d : Declaration) : Type 0 where
  none : faults_in names d ≡ []
  shallow : ModesShallow d
  proc : ModeIsProc d
  broad : BodyIsBroad d
  items : ItemsCounted d
  labels : LabelsFew d
  short : ShortIn d
  there : TextsThere t.records names ts d
  fits : NoneInside t s names d

module _ (items : List Item) (m : Module) (text : IsText items m) (fine : IsFaultless m.declarations) where
  abbrev ds : List Declaration
  ds = m.declarations

  abbrev c : Scope
  c = scope_of (tree m)

  abbrev s : Sight
  s = sight ds

  abbrev names : Names
  names = modes_seen ds

  abbrev n : ℕ
  n = length (records ds).records

  abbrev known : AreRecords n names
  known = modes_are_records ds

  holds : (ls : List Local) (seen : Seen) → Holds (with_locals c ls) s seen
  holds ls seen = names_are_held items m ls seen text fine

  agree : Agree s c
  agree = agrees c s (record { seen = []; outermost = 0; result = None }) (holds [] (record { seen = []; outermost = 0; result = None }))

  all_seen_known : AllKnown s
  all_seen_known = (names_known (headings ds) (good_headings items m text fine) (scope ds), tt)

  known_names : (name : List ℕ) (is : Meaning) → find s name ≡ Some is → IsKnown is
  known_names name is e = found_each IsKnown name s.levels is all_seen_known e

  -- the items of own data may stand, and the records that they hold are there
  parts_stand : (ps : List Part) → AllByRecursion (PartHas (ItemStands n)) ps → AllByRecursion (λ (p : Part). GivenStands (records ds).records p.has) ps
  parts_stand [] h = tt
  parts_stand (p ∷ ps) h = (by_given p.has h.0, parts_stand ps h.1) where
    by_given : (g : Given) → GivenHas (ItemStands n) p.name g → GivenStands (records ds).records g
    by_given (given.Mode x) h = (alone_is_item n x h, λ r q. held_below n x standing.Alone 100 8 r h q)
    by_given given.Unknown h = tt

  same : SameModes names (find s)
  same = same_modes (headings ds) (scope ds) (scope_once ds)

  named : NamesRecords n s
  named = (subst (λ (k : ℕ). AllByRecursion (λ x. IsRecord k x.1) (module_names (headings ds) (scope ds))) (sym (record_count ds)) (names_below _ (headings ds) (scope ds) (scope_below ds)), tt)

  -- ---- procedures

  procedure_fits : (p : ProcedureBrick) → Known (records ds) s names (texts ds) (declares.Procedure p) → Fits c s names (declares.Procedure p)
  procedure_fits p k hs =
      let z = is_headed names n known p k.none k.shallow in
      let none : faults s p ≡ [] = nothing_in (faults s p) k.fits in
      let heads = heads_are names s same [] p.fields nothing_yet (first_nothing (mode_faults names site.Variable p.fields) (result_faults names p.name p.result) k.none) in
      let answers = result_is names s same p.at p.name p.result (parameters s [] p.fields nothing_yet).1 (second_nothing (mode_faults names site.Variable p.fields) (result_faults names p.name p.result) k.none) (subst ResultValue z.written_so z.value) in
      let answered : ResultIs (answer_in s p.at p.result (parameters s [] p.fields nothing_yet).1).0 z.result = subst (λ (r : Option Mode). ResultIs (answer_in s p.at p.result (parameters s [] p.fields nothing_yet).1).0 r) (sym z.written_so) answers in
      let few = few_locals s p (record { broad = k.broad; parts = k.items.0; few = k.items.1 }) in
      let standing_all = locals_stand n s p k.shallow named in
      let fits = procedure_accepted c s p (modes_of (written_fields names site.Variable p.fields)) z.result (λ seen. holds (procedure s p).locals seen) all_seen_known few standing_all heads answered k.broad k.labels none in
      both_true _ true (procedure_brick_fits c n refl names known s p z fits) refl

  -- ---- data

  data_fits : (d : DataBrick) → Known (records ds) s names (texts ds) (declares.Data d) → Fits c s names (declares.Data d)
  data_fits d k hs =
      let ps : List Part = item_parts names d.lines in
      let z = are_fields (ItemStands n) ps (items_stand names n known d.lines k.none k.shallow) in
      let none : start_faults s d.lines ps ≡ [] = nothing_in (start_faults s d.lines ps) (λ g e. k.fits g (in_items e)) in
      let ready : IsReady s c d.lines ps = record { agree = agree; known = known_names; whole = records_whole ds (text_shallow items m text) fine; stand = parts_stand ps (items_stand names n known d.lines k.none k.shallow); parts = each_item_has_a_part names d.lines; bytes = short_bytes (in_lines d.lines []) k.short; strings = k.there } in
      both_true _ true (own_data_fits c n refl d ps (brick_starts s d.lines ps) z (starts_fit s c d.lines ps z.fields ready z.is none)) refl

  -- ---- all bricks

  one_fits : (d : Declaration) → Known (records ds) s names (texts ds) d → Fits c s names d
  one_fits (declares.Record r) k hs = refl
  one_fits (declares.Data d) k hs = data_fits d k hs
  one_fits (declares.Stack x) k hs = both_true _ true (stack_fits c n refl x nothing k.none) refl
  one_fits (declares.Procedure p) k hs = procedure_fits p k hs
  one_fits (declares.ImportedProcedures p) k hs = imported_procedures_fit c n refl names known p.import p.mode p.names k.shallow k.proc k.none
  one_fits (declares.ImportedData d) k hs =
      let erl : Bool = recovers d.import d.name.name in
      both_true _ true (imported_data_fits c n refl d.import d.name.name (parts names erl d.lines) (are_fields (ItemAllowed n erl) (parts names erl d.lines) (parts_allowed names n known erl d.lines k.none k.shallow))) refl
  one_fits (declares.ImportedStacks x) k hs = stacks_fit c n refl x.names

  all_known : (es : List Declaration) → brick_faults names es ≡ [] → AllByRecursion ModesShallow es → AllByRecursion ModeIsProc es → AllByRecursion BodyIsBroad es → AllByRecursion ItemsCounted es → AllByRecursion LabelsFew es → AllByRecursion ShortIn es
      → AllByRecursion (TextsThere (records ds).records names (texts ds)) es → AllByRecursion (NoneInside (records ds) s names) es → AllByRecursion (Fits c s names) es
  all_known [] e a b d f g h i j = tt
  all_known (x ∷ es) e a b d f g h i j = (
    one_fits x (record { none = first_nothing (faults_in names x) (brick_faults names es) e; shallow = a.0; proc = b.0; broad = d.0; items = f.0; labels = g.0; short = h.0; there = i.0; fits = j.0 }),
    all_known es (second_nothing (faults_in names x) (brick_faults names es) e) a.1 b.1 d.1 f.1 g.1 h.1 i.1 j.1,
  )

  bricks_fit : list_all (brick_fits c) (filled (headings ds) (gathered (fillings_in s) (headings ds) ds)) ≡ true
  bricks_fit =
      all_fit c s names ds (all_known ds (no_brick_faults ds fine) (text_shallow items m text) (modes_are_proc items m text.derived) (bodies_broad items m text.derived) (items_counted items m text.few text.derived) (labels_few items m text.few text.derived)
      (texts_short items m text)
      (all_there (records ds).records names [] ds (texts ds) refl)
      (none_inside (records ds) s names ds (λ g k. fine g (inside k))))

  pub module_fits : every_node_fits (tree m) ≡ true
  module_fits =
      both_true (list_all (record_stands n) (records ds).records) (list_all (brick_fits c) (tree m).bricks && list_all is_short (tree m).strings) (all_stand ds (text_shallow items m text) fine)
      (both_true (list_all (brick_fits c) (tree m).bricks) (list_all is_short (tree m).strings) bricks_fit (module_short (records ds).records (headings ds) ds (texts_short items m text)))
