-- Each procedure of a module in which no fault stands names locals where these have a value.
use Rattle.std.proofs.Common.{◌≡◌, ℕ, zero, suc, ◌&&◌, Bool, true, List, [], ◌∷◌, ◌++◌, length, map, drop, replicate, Option, Some, sym, ap, ◌∙◌, subst}
use Rattle.std.specs.List.{AllByRecursion}
use Rattle.rt_bricks.specs.declared.tree.Declaration.{Declaration}
use Rattle.rt_bricks.specs.declared.tree.Declaration.TheVariants as declares
use Rattle.rt_bricks.specs.declared.tree.Module.{Module}
use Rattle.rt_bricks.specs.declared.tree.ProcedureBrick.{ProcedureBrick}
use Rattle.rt_modes.specs.declared.mode.Mode.{Mode, out-Mode}
use Rattle.rt_modes.specs.declared.mode.Mode as mode_lemmas
use Rattle.rt_modes.specs.declared.mode.Mode.TheOpen.{Mode-F}
use Rattle.rt_modes.specs.declared.mode.Mode.TheVariants as mode
use Rattle.rt_tree_nodes.specs.declared.brick.Brick.{Brick}
use Rattle.rt_tree_nodes.specs.declared.brick.BrickSort.{BrickSort}
use Rattle.rt_tree_nodes.specs.declared.brick.BrickSort.TheVariants as brick_sort
use Rattle.rt_tree_nodes.specs.declared.brick.ProcBody.{ProcBody}
use Rattle.rt_exprs.specs.Names.{find}
use Rattle.rt_pieces.specs.declared.item.Item.{Item}
use Rattle.rt_check_declared.specs.declared.site.Site.TheVariants as site
use Rattle.rt_check_declared.specs.Written.{Names}
use Rattle.rt_exprs.specs.Sights.{Sight}
use Rattle.rt_check_bodies.specs.Procedures.{procedure, faults, nothing_yet}
use Rattle.rt_check_declared.specs.Names.{scope}
use Rattle.rt_check_declared.specs.Names.{bricks_in as brick_count}
use Rattle.rt_check_module.specs.Levels.{module_names}
use Rattle.rt_check_declared.specs.Fields.{written_fields, mode_faults}
use Rattle.rt_check_declared.specs.declared.bricks.Heading.{Heading}
use Rattle.rt_check_declared.specs.declared.bricks.Sort.{Sort}
use Rattle.rt_check_declared.specs.declared.bricks.Sort.TheVariants as sort
use Rattle.rt_check_declared.specs.declared.parts.Given.{Given}
use Rattle.rt_check_declared.specs.declared.parts.Given.TheVariants as given
use Rattle.rt_check_declared.specs.Bricks.{result_faults, bricks_in, bricks, faults_in, brick_faults}
use Rattle.rt_check_declared.specs.Bricks.{procedure as heading_of}
use Rattle.rt_check_bodies_laws.specs.Standing.{AreRecords}
use Rattle.rt_bricks_laws.specs.Laws.{ItemsCounted, BodyIsBroad, LabelsFew}
use Rattle.rt_bricks_laws.specs.Modes.{ModesShallow}
use Rattle.rt_bricks_laws.specs.Numbers.{words_in_fields, words_in_result, words_in_body, words_in_declaration}
use Rattle.rt_bricks_laws.proofs.BroadBricks.{bodies_broad}
use Rattle.rt_bricks_laws.proofs.Items.{items_counted}
use Rattle.rt_bricks_laws.proofs.Labels.{labels_few}
use Rattle.rt_bricks_laws.proofs.RangedBricks.{numbers_are_words}
use Rattle.rt_bricks_laws.specs.Bodies.{all}
use Rattle.rt_check_bodies_laws.specs.Named.{IsRecord, NamesRecords}
use Rattle.rt_check_bodies_laws.proofs.Modules.{fitting_modes}
use Rattle.rt_check_bodies_laws.proofs.Procedures.{few_locals}
use Rattle.rt_check_bodies_laws.proofs.StandingBodies.{locals_stand}
use Rattle.rt_check_module.specs.declared.filling.Filling.{Filling}
use Rattle.rt_check_module.specs.Tree.{nothing, first, sort_by, filled, gathered, fillings_in, headings, records, sight, tree, modes_seen}
use Rattle.rt_check_module.specs.Faults.{inside}
use Rattle.rt_check_module_laws.specs.Modules.{IsText, IsFaultless}
use Rattle.rt_check_module_laws.proofs.Below.{names_below}
use Rattle.rt_check_module_laws.proofs.Bricks.{drop_joined, filled_joined, headings_counted, fillings_counted}
use Rattle.rt_check_module_laws.proofs.Headings.{is_headed}
use Rattle.rt_check_module_laws.proofs.Heads.{modes_of, heads_are}
use Rattle.rt_check_module_laws.proofs.Holding.{no_brick_faults, names_are_held}
use Rattle.rt_check_module_laws.proofs.Known.{scope_once, scope_below}
use Rattle.rt_check_module_laws.proofs.Levels.{SameModes, same_modes}
use Rattle.rt_bricks_laws.proofs.AllLists.{right_of, first_nothing, second_nothing, all_joined, all_get}
use Rattle.rt_check_module_laws.proofs.Records.{record_count, modes_are_records, text_shallow, nothing_in}
use Rattle.rt_check_module_laws.proofs.Whole.{NoneInside, none_inside, module_fits}
use Rattle.rt_meaning_laws.specs.Modules.{BodyNamed}
use Rattle.rt_meaning_sound.specs.Procedures.{IsSound, IsHeld, ModulesAreNamed}
use Rattle.rt_meaning_sound.proofs.Procedures.{procedures_named}

-- the modes of a PROC
same_modes_of : (ms ws : List Mode) (r o : Option Mode) (l : Mode-F Mode) → l ≡ Mode-F.Proc ms r → l ≡ Mode-F.Proc ws o → (ms ≡ ws) × (r ≡ o)
same_modes_of ms ws r o l e h = let a : ms ≡ ws = cc in let b : r ≡ o = cc in (a, b)

module _ (items : List Item) (m : Module) (text : IsText items m) (fine : IsFaultless m.declarations) where
  abbrev ds : List Declaration
  ds = m.declarations

  abbrev s : Sight
  s = sight ds

  abbrev names : Names
  names = modes_seen ds

  abbrev n : ℕ
  n = length (records ds).records

  known : AreRecords n names
  known = modes_are_records ds

  same : SameModes names (find s)
  same = same_modes (headings ds) (scope ds) (scope_once ds)

  name_records : NamesRecords n s
  name_records = (subst (λ (k : ℕ). AllByRecursion (λ x. IsRecord k x.1) (module_names (headings ds) (scope ds))) (sym (record_count ds)) (names_below _ (headings ds) (scope ds) (scope_below ds)), tt)

  -- what the grammar gives of a declaration in which no fault stands
  record Read (d : Declaration) : Type 0 where
    none : faults_in names d ≡ []
    shallow : ModesShallow d
    broad : BodyIsBroad d
    items_are : ItemsCounted d
    labels : LabelsFew d
    words : words_in_declaration d ≡ true
    fits : NoneInside (records ds) s names d

  -- ---- one brick

  abbrev SortNamed : BrickSort → Type 0
  SortNamed x = (w : Mode) (body : ProcBody) (ws : List Mode) (o : Option Mode) → x ≡ brick_sort.Proc w (Some body) → out-Mode w ≡ Mode-F.Proc ws o → BodyNamed (tree m) body ws o

  abbrev BrickNamed : Brick → Type 0
  BrickNamed b = SortNamed b.sort

  proc_named : (q : ProcedureBrick) → Read (declares.Procedure q) → SortNamed (sort_by (sort.Procedure (heading_of names q)) (record { body = Some (procedure s q); starts = [] }))
  proc_named q k w body ws o e h =
      let z = is_headed names n known q k.none k.shallow in
      let ms : List Mode = modes_of (written_fields names site.Variable q.fields) in
      let whole : brick_sort.Proc (mode.Proc ms z.result) (Some (procedure s q)) ≡ brick_sort.Proc w (Some body) = ap (λ (g : Given). sort_by (sort.Procedure g) (record { body = Some (procedure s q); starts = [] })) (sym z.is) ∙ e in
      let is_mode : mode.Proc ms z.result ≡ w = cc in
      let is_body : procedure s q ≡ body = cc in
      let layer : out-Mode (mode.Proc ms z.result) ≡ Mode-F.Proc ms z.result = search mode_lemmas.the_lemmas in
      let same_so = same_modes_of ms ws z.result o (out-Mode (mode.Proc ms z.result)) layer (ap out-Mode is_mode ∙ h) in
      let fields_words : Bool = all (map words_in_fields q.fields) in
      let held : IsHeld (tree m) s q = record {
        outside = λ ls seen. names_are_held items m ls seen text fine;
        modes = fitting_modes (tree m) (module_fits items m text fine);
        few = few_locals s q (record { broad = k.broad; parts = k.items_are.0; few = k.items_are.1 });
        standing = locals_stand n s q k.shallow name_records;
      } in
      let sound : IsSound q = record { words = right_of (words_in_result q.result) (words_in_body q.body) (right_of fields_words (words_in_result q.result && words_in_body q.body) k.words); labels = k.labels } in
      let heads = heads_are names s same [] q.fields nothing_yet (first_nothing (mode_faults names site.Variable q.fields) (result_faults names q.name q.result) k.none) in
      let none : faults s q ≡ [] = nothing_in (faults s q) k.fits in
      subst (λ (b : ProcBody). BodyNamed (tree m) b ws o) is_body
      (subst (λ (y : List Mode). BodyNamed (tree m) (procedure s q) y o) same_so.0
      (subst (λ (y : Option Mode). BodyNamed (tree m) (procedure s q) ms y) same_so.1 (procedures_named (tree m) s q ms z.result sound held none heads)))

  no_body : (x : Sort) → SortNamed (sort_by x nothing)
  no_body (sort.Procedure (given.Mode y)) w body ws o e h = absurd cc
  no_body (sort.Procedure given.Unknown) w body ws o e h = absurd cc
  no_body (sort.Items ps) w body ws o e h = absurd cc
  no_body (sort.Stack k) w body ws o e h = absurd cc

  no_bodies : (hs : List Heading) (k : ℕ) → AllByRecursion BrickNamed (filled hs (replicate k nothing))
  no_bodies [] k = tt
  no_bodies (h ∷ hs) zero = tt
  no_bodies (h ∷ hs) (suc k) = (no_body h.sort, no_bodies hs k)

  -- ---- from declaration to declaration

  one_named : (d : Declaration) (hs : List Heading) → Read d → AllByRecursion BrickNamed (filled (bricks_in names d) (fillings_in s (first (bricks_in names d ++ hs)) d))
  one_named (declares.Record r) hs k = tt
  one_named (declares.Data d) hs k = (λ w body ws o e h. absurd cc, tt)
  one_named (declares.Stack x) hs k = (λ w body ws o e h. absurd cc, tt)
  one_named (declares.Procedure q) hs k = (proc_named q k, tt)
  one_named (declares.ImportedProcedures x) hs k = no_bodies (bricks_in names (declares.ImportedProcedures x)) (length x.names)
  one_named (declares.ImportedData d) hs k = (λ w body ws o e h. absurd cc, tt)
  one_named (declares.ImportedStacks x) hs k = no_bodies (bricks_in names (declares.ImportedStacks x)) (length x.names)

  all_named : (es : List Declaration) → AllByRecursion Read es → AllByRecursion BrickNamed (filled (bricks names es) (gathered (fillings_in s) (bricks names es) es))
  all_named [] k = tt
  all_named (d ∷ es) k =
      let xs : List Heading = bricks_in names d in
      let ys : List Heading = bricks names es in
      let fs : List Filling = fillings_in s (first (xs ++ ys)) d in
      let rest : gathered (fillings_in s) (drop (brick_count d) (xs ++ ys)) es ≡ gathered (fillings_in s) ys es = ap (λ (hs : List Heading). gathered (fillings_in s) hs es) (drop_joined xs ys (brick_count d) (headings_counted names d)) in
      subst (λ (gs : List Filling). AllByRecursion BrickNamed (filled (xs ++ ys) (fs ++ gs))) (sym rest)
      (subst (AllByRecursion BrickNamed) (sym (filled_joined xs ys fs (gathered (fillings_in s) ys es) (fillings_counted s names d (first (xs ++ ys)))))
      (all_joined BrickNamed (filled xs fs) (filled ys (gathered (fillings_in s) ys es)) (one_named d ys k.0) (all_named es k.1)))

  all_read : (es : List Declaration) → brick_faults names es ≡ [] → AllByRecursion ModesShallow es → AllByRecursion BodyIsBroad es → AllByRecursion ItemsCounted es → AllByRecursion LabelsFew es → AllByRecursion (λ d. words_in_declaration d ≡ true) es
      → AllByRecursion (NoneInside (records ds) s names) es → AllByRecursion Read es
  all_read [] e a b f g h j = tt
  all_read (x ∷ es) e a b f g h j = (
    record { none = first_nothing (faults_in names x) (brick_faults names es) e; shallow = a.0; broad = b.0; items_are = f.0; labels = g.0; words = h.0; fits = j.0 },
    all_read es (second_nothing (faults_in names x) (brick_faults names es) e) a.1 b.1 f.1 g.1 h.1 j.1,
  )

  bricks_named : AllByRecursion BrickNamed (tree m).bricks
  bricks_named =
      all_named ds (all_read ds (no_brick_faults ds fine) (text_shallow items m text) (bodies_broad items m text.derived) (items_counted items m text.few text.derived) (labels_few items m text.few text.derived)
      (numbers_are_words items m text.range text.derived)
      (none_inside (records ds) s names ds (λ g k. fine g (inside k))))

pub modules_named : ModulesAreNamed
modules_named items m text fine k d e w body ws o is h =
    all_get (BrickNamed items m text fine) (tree m).bricks k d (bricks_named items m text fine) e w body ws o is h
