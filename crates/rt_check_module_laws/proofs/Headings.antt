-- The bricks of a module, as they are declared, where no fault stands in them.
use Rattle.std.proofs.Common.{◌≡◌, ◌⊎◌, inl, inr, ℕ, ◌≤◌, ◌&&◌, Bool, true, false, List, [], ◌∷◌, length, map, Option, Some, None, if◌then◌else◌, refl, sym, ap, ◌∙◌, subst, arith}
use Rattle.std.specs.Prelude.{codes, nat_le}
use Rattle.std.specs.List.{AllByRecursion}
use Rattle.rt_grammar.specs.declared.at.Ident.{Ident}
use Rattle.rt_syntax_exprs.specs.declared.tree.WrittenMode.{WrittenMode, out-WrittenMode}
use Rattle.rt_bricks.specs.declared.tree.DataLine.{DataLine}
use Rattle.rt_bricks.specs.declared.tree.Declaration.{Declaration}
use Rattle.rt_bricks.specs.declared.tree.Declaration.TheVariants as declares
use Rattle.rt_bricks.specs.declared.tree.Fields.{Fields}
use Rattle.rt_bricks.specs.declared.tree.Import.{Import}
use Rattle.rt_bricks.specs.declared.tree.Import.TheVariants as import
use Rattle.rt_bricks.specs.declared.tree.ProcedureBrick.{ProcedureBrick}
use Rattle.rt_modes.specs.declared.mode.Field.{Field}
use Rattle.rt_modes.specs.declared.mode.Mode.{Mode, out-Mode, map-Mode, the_lemmas}
use Rattle.rt_modes.specs.declared.mode.Mode.TheFolds.{fold_out-Mode}
use Rattle.rt_modes.specs.declared.mode.Mode.TheOpen.{Mode-F}
use Rattle.rt_modes.specs.declared.mode.Mode.TheVariants as mode
use Rattle.rt_tree_nodes.specs.declared.brick.Kind.{Kind}
use Rattle.rt_tree_nodes.specs.Scopes.{is_svc, is_label_layer}
use Rattle.rt_check_faults.specs.declared.fault.CheckFault.{CheckFault}
use Rattle.rt_tree.specs.declared.standing.Standing.{Standing}
use Rattle.rt_tree.specs.declared.standing.Standing.TheVariants as standing
use Rattle.rt_tree.specs.Modules.{Stands, stands, layer_stands, all_passed, stands_alone}
use Rattle.rt_exprs_laws.proofs.Passing.{alone_is_item, passed_is_value}
use Rattle.rt_check_declared.specs.declared.site.Site.TheVariants as site
use Rattle.rt_check_declared.specs.declared.written.Resolved.{Resolved}
use Rattle.rt_check_declared.specs.declared.written.Resolved.TheVariants as resolved
use Rattle.rt_check_declared.specs.Verdicts.{Verdict, fit, unfit, with_faults}
use Rattle.rt_check_declared.specs.Written.{Names, written}
use Rattle.rt_check_declared.specs.Names.{idents}
use Rattle.rt_check_declared.specs.Fields.{fields_of_mode, fields_by, written_fields, faults_by, mode_faults}
use Rattle.rt_check_declared.specs.declared.bricks.Sort.TheVariants as sort
use Rattle.rt_check_declared.specs.declared.parts.Given.{Given}
use Rattle.rt_check_declared.specs.declared.parts.Given.TheVariants as given
use Rattle.rt_check_declared.specs.declared.parts.Line.TheVariants as line
use Rattle.rt_check_declared.specs.declared.parts.Part.{Part}
use Rattle.rt_check_declared.specs.Bricks.{own_kind, import_kind, headed, result_by, imported_procedure, imported_stack, variable, result_line, result_faults, procedure_faults, procedure, bricks_in, faults_in, bricks, brick_faults}
use Rattle.rt_check_declared.specs.Parts.{line_by, part, is_label, is_only, recovers, is_recovery, imported_line, imported_line_faults, parts, parts_faults, item_parts, item_faults}
use Rattle.rt_check_bodies_laws.specs.Standing.{AreRecords}
use Rattle.rt_bricks_laws.specs.Shallow.{shallow}
use Rattle.rt_bricks_laws.specs.Modes.{FieldsShallow, LineShallow, ResultShallow, IsShallowProcedure, ModesShallow, names_in}
use Rattle.rt_bricks_laws.proofs.Deeper.{deeper_shallow}
use Rattle.rt_check_module_laws.proofs.Heads.{modes_of, ResultValue}
use Rattle.rt_check_module_laws.proofs.Known.{same_text}
use Rattle.rt_bricks_laws.proofs.AllLists.{left_of, right_of, both_true, first_nothing, second_nothing, all_joined, all_so, length_joined, at_most, length_mapped}
use Rattle.rt_check_module_laws.proofs.Modes.{mode_stands, FieldIs, fields_stand}
use Rattle.rt_check_module_laws.proofs.Parts.{GivenHas, PartHas, line_has}
use Rattle.rt_check_module_laws.proofs.There.{ItemGood, ItemPlain, SortGood, HeadingGood}

-- ---- what holds of items

pub parts_so : (P Q : List ℕ → Mode → Type 0) → ((n : List ℕ) (m : Mode) → P n m → Q n m) → (ps : List Part) → AllByRecursion (PartHas P) ps → AllByRecursion (PartHas Q) ps
parts_so P Q f ps h = all_so (PartHas P) (PartHas Q) ps (λ p k. by_given p.name p.has k) h where
  by_given : (n : List ℕ) (g : Given) → GivenHas P n g → GivenHas Q n g
  by_given n (given.Mode m) k = f n m k
  by_given n given.Unknown k = k

-- the mode may stand as that of an item of n records
abbrev pub ItemStands : ℕ → List ℕ → Mode → Type 0
ItemStands n name m = stands_alone n m ≡ true

-- it may, or is that of ERL
abbrev pub ItemAllowed : ℕ → Bool → List ℕ → Mode → Type 0
ItemAllowed n erl name m = ItemStands n name m ⊎ ((erl ≡ true) × (name ≡ codes "ERL") × (m ≡ mode.Label))

label_out : (m : Mode) → m ≡ mode.Label → is_label_layer (out-Mode m) ≡ true
label_out m e = let o : out-Mode mode.Label ≡ Mode-F.Label = search the_lemmas in ap (λ (k : Mode). is_label_layer (out-Mode k)) e ∙ ap is_label_layer o

true_false : {P : Type 0} (b : Bool) → b ≡ true → b ≡ false → P
true_false b e h = absurd cc

module _ (n : ℕ) where
  pub stands_plain : (name : List ℕ) (m : Mode) → ItemStands n name m → ItemPlain name m
  stands_plain name m h = alone_is_item n m h

  allowed_good : (erl : Bool) (name : List ℕ) (m : Mode) → ItemAllowed n erl name m → ItemGood name m
  allowed_good erl name m (inl h) = λ e. alone_is_item n m h
  allowed_good erl name m (inr h) = λ e. true_false (is_label_layer (out-Mode m)) (label_out m h.2) e

  allowed_plain : (name : List ℕ) (m : Mode) → ItemAllowed n false name m → ItemPlain name m
  allowed_plain name m (inl h) = alone_is_item n m h
  allowed_plain name m (inr h) = absurd (let bad = h.0 in cc)

  -- ---- modes of procedures

  stands_at : (m : Mode) (l : Mode-F Mode) (p : Standing) (levels refs : ℕ) → out-Mode m ≡ l → layer_stands n (map-Mode Mode Stands (stands n) l) p levels refs ≡ stands n m p levels refs
  stands_at m l p levels refs o = sym (ap (λ (f : Stands). f p levels refs) (let e : stands n m ≡ layer_stands n (map-Mode Mode Stands (stands n) l) = rw (fold_out-Mode, o) refl in e))

  -- a mode that may be passed may stand alone
  pub passed_alone : (m : Mode) (levels refs : ℕ) → stands n m standing.Passed levels refs ≡ true → stands n m standing.Alone levels refs ≡ true
  passed_alone m levels refs h = by_layer (out-Mode m) refl where
    at : (l : Mode-F Mode) → out-Mode m ≡ l → layer_stands n (map-Mode Mode Stands (stands n) l) standing.Passed levels refs ≡ true
    at l o = stands_at m l standing.Passed levels refs o ∙ h

    by_layer : (l : Mode-F Mode) → out-Mode m ≡ l → stands n m standing.Alone levels refs ≡ true
    by_layer Mode-F.Byte o = sym (stands_at m Mode-F.Byte standing.Alone levels refs o) ∙ at Mode-F.Byte o
    by_layer Mode-F.Int o = sym (stands_at m Mode-F.Int standing.Alone levels refs o) ∙ at Mode-F.Int o
    by_layer Mode-F.Frac o = sym (stands_at m Mode-F.Frac standing.Alone levels refs o) ∙ at Mode-F.Frac o
    by_layer Mode-F.Label o = sym (stands_at m Mode-F.Label standing.Alone levels refs o) ∙ at Mode-F.Label o
    by_layer (Mode-F.Ref k) o = sym (stands_at m (Mode-F.Ref k) standing.Alone levels refs o) ∙ at (Mode-F.Ref k) o
    by_layer (Mode-F.RefArray k) o = sym (stands_at m (Mode-F.RefArray k) standing.Alone levels refs o) ∙ at (Mode-F.RefArray k) o
    by_layer (Mode-F.Array j k) o = absurd (let bad = at (Mode-F.Array j k) o in cc)
    by_layer (Mode-F.Record r) o = absurd (let bad = at (Mode-F.Record r) o in cc)
    by_layer (Mode-F.Proc ps None) o = sym (stands_at m (Mode-F.Proc ps None) standing.Alone levels refs o) ∙ at (Mode-F.Proc ps None) o
    by_layer (Mode-F.Proc ps (Some r)) o = sym (stands_at m (Mode-F.Proc ps (Some r)) standing.Alone levels refs o) ∙ at (Mode-F.Proc ps (Some r)) o

  -- a PROC of modes that may be passed may be passed
  abbrev ResultPasses : Option Mode → Type 0
  ResultPasses None = Unit {0}
  ResultPasses (Some m) = stands n m standing.Passed 99 8 ≡ true

  all_pass : (ms : List Mode) → AllByRecursion (λ m. stands n m standing.Passed 99 8 ≡ true) ms → all_passed 99 (map (stands n) ms) ≡ true
  all_pass [] h = refl
  all_pass (m ∷ ms) h = both_true (stands n m standing.Passed 99 8) (all_passed 99 (map (stands n) ms)) h.0 (all_pass ms h.1)

  pub proc_stands : (ms : List Mode) (r : Option Mode) (p : Standing) → length ms ≤ 32 → AllByRecursion (λ m. stands n m standing.Passed 99 8 ≡ true) ms → ResultPasses r → stands n (mode.Proc ms r) p 100 8 ≡ true
  proc_stands ms None p few h g =
      let o : out-Mode (mode.Proc ms None) ≡ Mode-F.Proc ms None = search the_lemmas in
      sym (stands_at (mode.Proc ms None) (Mode-F.Proc ms None) p 100 8 o)
      ∙ both_true (nat_le (length (map (stands n) ms)) 32) (all_passed 99 (map (stands n) ms) && true) (at_most (length (map (stands n) ms)) 32 (let e = length_mapped (stands n) ms in omega (arith, e, few))) (both_true (all_passed 99 (map (stands n) ms)) true (all_pass ms h) refl)
  proc_stands ms (Some r) p few h g =
      let o : out-Mode (mode.Proc ms (Some r)) ≡ Mode-F.Proc ms (Some r) = search the_lemmas in
      sym (stands_at (mode.Proc ms (Some r)) (Mode-F.Proc ms (Some r)) p 100 8 o)
      ∙ both_true (nat_le (length (map (stands n) ms)) 32) (all_passed 99 (map (stands n) ms) && stands n r standing.Passed 99 8) (at_most (length (map (stands n) ms)) 32 (let e = length_mapped (stands n) ms in omega (arith, e, few))) (both_true (all_passed 99 (map (stands n) ms)) (stands n r standing.Passed 99 8) (all_pass ms h) g)

module _ (names : Names) (n : ℕ) (known : AreRecords n names) where
  -- ---- items of the module's own data

  pub items_stand : (ls : List DataLine) → item_faults names ls ≡ [] → AllByRecursion LineShallow ls → AllByRecursion (PartHas (ItemStands n)) (item_parts names ls)
  items_stand [] e h = tt
  items_stand (l ∷ ls) e h =
      let v : Verdict Resolved = written names l.mode site.Item in
      all_joined (PartHas (ItemStands n)) (map (part (line_by v)) (idents l.items)) (item_parts names ls)
      (line_has (ItemStands n) v (idents l.items) (first_nothing (faults_by v (idents l.items)) (item_faults names ls) e) (λ m q name. mode_stands names n known l.mode site.Item m 100 8 h.0 q))
      (items_stand ls (second_nothing (faults_by v (idents l.items)) (item_faults names ls) e) h.1)

  -- ---- items of imported data

  module _ (erl : Bool) where
    only_name : (is : List Ident) → is_only (codes "ERL") is ≡ true → AllByRecursion (λ (i : Ident). i.name ≡ codes "ERL") is
    only_name [] e = tt
    only_name (i ∷ []) e = (same_text i.name (codes "ERL") e, tt)
    only_name (i ∷ j ∷ is) e = absurd cc

    named_label : (is : List Ident) → AllByRecursion (λ (i : Ident). i.name ≡ codes "ERL") is → erl ≡ true → AllByRecursion (PartHas (ItemAllowed n erl)) (map (part (line.Mode mode.Label)) is)
    named_label [] h e = tt
    named_label (i ∷ is) h e = (inr (e, h.0, refl), named_label is h.1 e)

    line_allowed : (g : Fields) → imported_line_faults names erl g ≡ [] → FieldsShallow 100 g → AllByRecursion (PartHas (ItemAllowed n erl)) (map (part (imported_line names erl g)) g.names)
    line_allowed g e h = by_recovery (is_recovery erl g) refl e where
      by_recovery : (t : Bool) → is_recovery erl g ≡ t → (if t then [] else faults_by (written names g.mode site.Item) g.names) ≡ [] → AllByRecursion (PartHas (ItemAllowed n erl)) (map (part (if t then line.Mode mode.Label else line_by (written names g.mode site.Item))) g.names)
      by_recovery true q e =
          let label : Bool = is_label (out-WrittenMode g.mode) in
          let only : Bool = is_only (codes "ERL") g.names in
          named_label g.names (only_name g.names (right_of label only (right_of erl (label && only) q))) (left_of erl (label && only) q)
      by_recovery false q e = line_has (ItemAllowed n erl) (written names g.mode site.Item) g.names e (λ m k name. inl (mode_stands names n known g.mode site.Item m 100 8 h k))

    pub parts_allowed : (gs : List Fields) → parts_faults names erl gs ≡ [] → AllByRecursion (FieldsShallow 100) gs → AllByRecursion (PartHas (ItemAllowed n erl)) (parts names erl gs)
    parts_allowed [] e h = tt
    parts_allowed (g ∷ gs) e h =
        all_joined (PartHas (ItemAllowed n erl)) (map (part (imported_line names erl g)) g.names) (parts names erl gs)
        (line_allowed g (first_nothing (imported_line_faults names erl g) (parts_faults names erl gs) e) h.0)
        (parts_allowed gs (second_nothing (imported_line_faults names erl g) (parts_faults names erl gs) e) h.1)

  -- ---- procedures

  -- the modes of parameters and result, where no fault stands in the heading
  pub record IsHeaded (p : ProcedureBrick) : Type 0 where
    pub result : Option Mode
    pub written_so : result ≡ result_by (result_line names p.result)
    pub is : procedure names p ≡ given.Mode (mode.Proc (modes_of (written_fields names site.Variable p.fields)) result)
    pub passes : ResultPasses n result
    pub value : ResultValue result
    pub few : length (modes_of (written_fields names site.Variable p.fields)) ≤ 32
    pub pass : AllByRecursion (λ m. stands n m standing.Passed 99 8 ≡ true) (modes_of (written_fields names site.Variable p.fields))

  of_mode_few : (m : Mode) (is : List Ident) → length (fields_of_mode m is) ≤ length is
  of_mode_few m [] = omega arith
  of_mode_few m (i ∷ is) = let e = of_mode_few m is in omega (arith, e)

  one_line_few : (v : Verdict Resolved) (is : List Ident) → length (fields_by v is) ≤ length is
  one_line_few (fit (resolved.Mode m)) is = of_mode_few m is
  one_line_few (fit resolved.BadLength) is = of_mode_few mode.Label is
  one_line_few (unfit f fs) is = of_mode_few mode.Label is

  few_fields : (gs : List Fields) → length (modes_of (written_fields names site.Variable gs)) ≤ names_in gs
  few_fields gs = let e = counted (written_fields names site.Variable gs) in let h = fields_few gs in omega (arith, e, h) where
    counted : (fs : List Field) → length (modes_of fs) ≡ length fs
    counted [] = refl
    counted (f ∷ fs) = let e = counted fs in omega (arith, e)

    fields_few : (gs : List Fields) → length (written_fields names site.Variable gs) ≤ names_in gs
    fields_few [] = omega arith
    fields_few (g ∷ gs) =
        let v : Verdict Resolved = written names g.mode site.Variable in
        let e = fields_few gs in
        omega (arith, e, one_line_few v g.names, length_joined (fields_by v g.names) (written_fields names site.Variable gs))

  modes_pass : (fs : List Field) → AllByRecursion (FieldIs names n known standing.Passed 99) fs → AllByRecursion (λ m. stands n m standing.Passed 99 8 ≡ true) (modes_of fs)
  modes_pass [] h = tt
  modes_pass (f ∷ fs) h = (h.0, modes_pass fs h.1)

  result_passes : (i : Ident) (w : Option WrittenMode) → result_faults names i w ≡ [] → ResultShallow w → ResultPasses n (result_by (result_line names w))
  result_passes i None e h = tt
  result_passes i (Some w) e h = by_written (written names w site.Variable) refl e where
    by_written : (v : Verdict Resolved) → written names w site.Variable ≡ v → faults_by v (i ∷ []) ≡ [] → ResultPasses n (result_by (Some (line_by v)))
    by_written (fit (resolved.Mode m)) q e = mode_stands names n known w site.Variable m 99 8 h q
    by_written (fit resolved.BadLength) q e = tt
    by_written (unfit f fs) q e = tt

  result_value : (i : Ident) (w : Option WrittenMode) → result_faults names i w ≡ [] → ResultShallow w → ResultValue (result_by (result_line names w))
  result_value i None e h = tt
  result_value i (Some w) e h = by_written (written names w site.Variable) refl e where
    by_written : (v : Verdict Resolved) → written names w site.Variable ≡ v → faults_by v (i ∷ []) ≡ [] → ResultValue (result_by (Some (line_by v)))
    by_written (fit (resolved.Mode m)) q e = passed_is_value n m (mode_stands names n known w site.Variable m 100 8 (deeper_shallow w 99 100 8 (omega arith) h) q)
    by_written (fit resolved.BadLength) q e = tt
    by_written (unfit f fs) q e = tt

  no_faults : with_faults None [] ≡ None
  unfolding with_faults
  no_faults = refl

  pub is_headed : (p : ProcedureBrick) → procedure_faults names p ≡ [] → IsShallowProcedure p → IsHeaded p
  is_headed p e h =
      let fs : List Field = written_fields names site.Variable p.fields in
      let r : Option Mode = result_by (result_line names p.result) in
      record {
        result = r;
        written_so = refl;
        is = ap (λ (o : Option CheckFault). headed o fs r) (ap (with_faults None) e ∙ no_faults);
        passes = result_passes p.name p.result (second_nothing (mode_faults names site.Variable p.fields) (result_faults names p.name p.result) e) h.result;
        value = result_value p.name p.result (second_nothing (mode_faults names site.Variable p.fields) (result_faults names p.name p.result) e) h.result;
        few = let k = few_fields p.fields in let l = h.few in omega (arith, k, l);
        pass = modes_pass fs (fields_stand names n known site.Variable 99 p.fields h.fields (first_nothing (mode_faults names site.Variable p.fields) (result_faults names p.name p.result) e));
      }

  pub headed_stands : (p : ProcedureBrick) (h : IsHeaded p) (q : Standing) → stands n (mode.Proc (modes_of (written_fields names site.Variable p.fields)) h.result) q 100 8 ≡ true
  headed_stands p h q = proc_stands n (modes_of (written_fields names site.Variable p.fields)) h.result q h.few h.pass h.passes

  -- ---- all bricks

  procedure_good : (p : ProcedureBrick) (own : Bool) → procedure_faults names p ≡ [] → IsShallowProcedure p → SortGood own (sort.Procedure (procedure names p))
  procedure_good p own e h =
      let z = is_headed p e h in
      subst (λ (g : Given). SortGood own (sort.Procedure g)) (sym z.is) (passed_is_value n (mode.Proc (modes_of (written_fields names site.Variable p.fields)) z.result) (headed_stands p z standing.Passed))

  imported_good : (k : Kind) (w : WrittenMode) (is : List Ident) → shallow w 100 8 ≡ true → faults_by (written names w site.Variable) is ≡ [] → AllByRecursion HeadingGood (map (imported_procedure k (variable names w)) is)
  imported_good k w is h e = by_written (written names w site.Variable) refl is e where
    by_written : (v : Verdict Resolved) → written names w site.Variable ≡ v → (is : List Ident) → faults_by v is ≡ [] → AllByRecursion HeadingGood (map (imported_procedure k (line_by v)) is)
    by_written v q [] e = tt
    by_written (fit (resolved.Mode m)) q (i ∷ is) e = (passed_is_value n m (mode_stands names n known w site.Variable m 100 8 h q), by_written (fit (resolved.Mode m)) q is refl)
    by_written (fit resolved.BadLength) q (i ∷ is) e = absurd cc
    by_written (unfit f fs) q (i ∷ is) e = absurd cc

  stacks_good : (is : List Ident) → AllByRecursion HeadingGood (map imported_stack is)
  stacks_good [] = tt
  stacks_good (i ∷ is) = (tt, stacks_good is)

  -- LABEL may stand in SVC data alone
  data_good : (i : Import) (name : List ℕ) (ps : List Part) → AllByRecursion (PartHas (ItemAllowed n (recovers i name))) ps → SortGood (is_svc (import_kind i)) (sort.Items ps)
  data_good import.Service name ps g = (parts_so (ItemAllowed n (recovers import.Service name)) ItemGood (allowed_good n (recovers import.Service name)) ps g, λ e. true_false true refl e)
  data_good import.External name ps g = (parts_so (ItemAllowed n false) ItemGood (allowed_good n false) ps g, λ e. parts_so (ItemAllowed n false) ItemPlain (allowed_plain n) ps g)

  one_good : (d : Declaration) → faults_in names d ≡ [] → ModesShallow d → AllByRecursion HeadingGood (bricks_in names d)
  one_good (declares.Record r) e h = tt
  one_good (declares.Data d) e h =
      let g = items_stand d.lines e h in
      ((parts_so (ItemStands n) ItemGood (λ name m k q. alone_is_item n m k) (item_parts names d.lines) g, λ q. parts_so (ItemStands n) ItemPlain (stands_plain n) (item_parts names d.lines) g), tt)
  one_good (declares.Stack x) e h = (tt, tt)
  one_good (declares.Procedure p) e h = (procedure_good p (is_svc (own_kind p.entry)) e h, tt)
  one_good (declares.ImportedProcedures p) e h = imported_good (import_kind p.import) p.mode p.names h e
  one_good (declares.ImportedData d) e h = (data_good d.import d.name.name (parts names (recovers d.import d.name.name) d.lines) (parts_allowed (recovers d.import d.name.name) d.lines e h), tt)
  one_good (declares.ImportedStacks x) e h = stacks_good x.names

  pub headings_good : (ds : List Declaration) → brick_faults names ds ≡ [] → AllByRecursion ModesShallow ds → AllByRecursion HeadingGood (bricks names ds)
  headings_good [] e h = tt
  headings_good (d ∷ ds) e h =
      all_joined HeadingGood (bricks_in names d) (bricks names ds) (one_good d (first_nothing (faults_in names d) (brick_faults names ds) e) h.0) (headings_good ds (second_nothing (faults_in names d) (brick_faults names ds) e) h.1)
