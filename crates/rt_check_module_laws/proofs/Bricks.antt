-- The bricks of a module in which no fault stands fit.
use Rattle.std.proofs.Common.{◌≡◌, inl, inr, ℕ, zero, suc, ◌==◌, ◌&&◌, not, Bool, true, false, List, [], ◌∷◌, ◌++◌, length, map, drop, replicate, Option, Some, None, if◌then◌else◌, refl, sym, ap, ◌∙◌, subst, arith}
use Rattle.std.specs.Prelude.{codes, nat_le}
use Rattle.std.specs.List.{list_all, AllByRecursion}
use Rattle.std.specs.Str.{bytes_eq}
use Rattle.rt_grammar.specs.declared.at.Ident.{Ident}
use Rattle.rt_syntax_exprs.specs.declared.tree.WrittenMode.{WrittenMode, out-WrittenMode}
use Rattle.rt_bricks.specs.declared.tree.DataBrick.{DataBrick}
use Rattle.rt_bricks.specs.declared.tree.Declaration.{Declaration}
use Rattle.rt_bricks.specs.declared.tree.Declaration.TheVariants as declares
use Rattle.rt_bricks.specs.declared.tree.Import.{Import}
use Rattle.rt_bricks.specs.declared.tree.Import.TheVariants as import
use Rattle.rt_bricks.specs.declared.tree.ProcedureBrick.{ProcedureBrick}
use Rattle.rt_bricks.specs.declared.tree.StackBrick.{StackBrick}
use Rattle.rt_modes.specs.declared.mode.Field.{Field}
use Rattle.rt_modes.specs.declared.mode.Mode.{Mode, out-Mode, the_lemmas}
use Rattle.rt_modes.specs.declared.mode.Mode.TheOpen.{Mode-F}
use Rattle.rt_modes.specs.declared.mode.Mode.TheVariants as mode
use Rattle.rt_tree_nodes.specs.declared.brick.Brick.{Brick}
use Rattle.rt_tree_nodes.specs.declared.brick.DataStart.{DataStart}
use Rattle.rt_tree_nodes.specs.declared.brick.Kind.{Kind}
use Rattle.rt_tree_nodes.specs.declared.brick.Kind.TheVariants as kind
use Rattle.rt_tree_nodes.specs.declared.brick.ProcBody.{ProcBody}
use Rattle.rt_tree_nodes.specs.Scopes.{Scope, passes, is_label_layer, field_is}
use Rattle.rt_tree_nodes.specs.Typing.{Signature, signature_by}
use Rattle.rt_check_faults.specs.declared.fault.CheckFault.TheVariants as fault
use Rattle.rt_tree.specs.declared.standing.Standing.TheVariants as standing
use Rattle.rt_tree.specs.Modules.{stands_alone, field_stands, is_recovery_label, item_stands, is_here, is_ext, body_fits, procedure_fits, proc_fits, items_start, data_starts, words_fit, brick_fits}
use Rattle.rt_check_declared.specs.declared.site.Site.TheVariants as site
use Rattle.rt_check_declared.specs.declared.written.Resolved.{Resolved}
use Rattle.rt_check_declared.specs.declared.written.Resolved.TheVariants as resolved
use Rattle.rt_check_declared.specs.Verdicts.{Verdict, fit, unfit}
use Rattle.rt_check_declared.specs.Written.{Names, written}
use Rattle.rt_exprs.specs.Sights.{Sight}
use Rattle.rt_check_bodies.specs.Procedures.{procedure}
use Rattle.rt_check_declared.specs.Names.{bricks_in as brick_count}
use Rattle.rt_check_declared.specs.Fields.{written_fields, faults_by}
use Rattle.rt_check_declared.specs.declared.bricks.Heading.{Heading}
use Rattle.rt_check_declared.specs.declared.bricks.Sort.TheVariants as sort
use Rattle.rt_check_declared.specs.declared.parts.Given.{Given}
use Rattle.rt_check_declared.specs.declared.parts.Part.{Part}
use Rattle.rt_check_declared.specs.Bricks.{own_kind, import_kind, stack_faults, imported_procedure, imported_stack, variable, bricks_in, bricks}
use Rattle.rt_check_declared.specs.Bricks.{procedure as heading_of}
use Rattle.rt_check_declared.specs.Parts.{line_by, recovers}
use Rattle.rt_check_bodies_laws.specs.Standing.{AreRecords}
use Rattle.rt_bricks_laws.specs.Shallow.{shallow}
use Rattle.rt_check_module.specs.declared.filling.Filling.{Filling}
use Rattle.rt_check_module.specs.Tree.{first, nothing, or_none, brick_by, filled, gathered, fillings_in}
use Rattle.rt_check_module_laws.proofs.Headings.{ItemStands, ItemAllowed, passed_alone, IsHeaded, headed_stands}
use Rattle.rt_check_module_laws.proofs.Heads.{modes_of}
use Rattle.rt_check_module_laws.proofs.Known.{text_same}
use Rattle.rt_bricks_laws.proofs.AllLists.{both_true, all_true, all_so, length_mapped, left_of, right_of, or_left, or_right}
use Rattle.rt_check_module_laws.proofs.Modes.{read, mode_stands}
use Rattle.rt_check_module_laws.proofs.Parts.{AreFields, FieldHas}
use Rattle.rt_check_module_laws.proofs.Procs.{is_proc, IsProc, written_proc}

-- ---- lists

list_joined : {A : Type 0} (test : A → Bool) (xs ys : List A) → list_all test xs ≡ true → list_all test ys ≡ true → list_all test (xs ++ ys) ≡ true
list_joined test [] ys h g = g
list_joined test (x ∷ xs) ys h g = both_true (test x) (list_all test (xs ++ ys)) (left_of (test x) (list_all test xs) h) (list_joined test xs ys (right_of (test x) (list_all test xs) h) g)

pub drop_joined : {A : Type 0} (xs ys : List A) (n : ℕ) → length xs ≡ n → drop n (xs ++ ys) ≡ ys
drop_joined [] ys zero e = refl
drop_joined [] ys (suc n) e = absurd (omega (arith, e))
drop_joined (x ∷ xs) ys zero e = absurd (omega (arith, e))
drop_joined (x ∷ xs) ys (suc n) e = drop_joined xs ys n (omega (arith, e))

pub filled_joined : (hs ks : List Heading) (fs gs : List Filling) → length fs ≡ length hs → filled (hs ++ ks) (fs ++ gs) ≡ filled hs fs ++ filled ks gs
filled_joined [] ks [] gs e = refl
filled_joined [] ks (f ∷ fs) gs e = absurd (omega (arith, e))
filled_joined (h ∷ hs) ks [] gs e = absurd (omega (arith, e))
filled_joined (h ∷ hs) ks (f ∷ fs) gs e = ap (λ (bs : List Brick). brick_by h f ∷ bs) (filled_joined hs ks fs gs (omega (arith, e)))

-- ---- kinds

own_here : (b : Bool) → is_here (own_kind b) ≡ true
own_here true = refl
own_here false = refl

import_not_here : (i : Import) → is_here (import_kind i) ≡ false
import_not_here import.External = refl
import_not_here import.Service = refl

module _ (c : Scope) (n : ℕ) (count : length c.records ≡ n) where
  stands_here : (m : Mode) → stands_alone n m ≡ true → stands_alone (length c.records) m ≡ true
  stands_here m e = ap (λ (k : ℕ). stands_alone k m) count ∙ e

  -- ---- stacks

  pub stack_fits : (x : StackBrick) (f : Filling) → stack_faults x ≡ [] → brick_fits c (brick_by (record { kind = own_kind x.entry; name = x.name.name; sort = sort.Stack x.length }) f) ≡ true
  stack_fits x f e = by_words (nat_le 1 x.length && nat_le x.length 28672) refl e where
    by_words : (t : Bool) → nat_le 1 x.length && nat_le x.length 28672 ≡ t → (if t then [] else fault.BadStart x.name.at ∷ []) ≡ [] → words_fit (own_kind x.entry) x.length ≡ true
    by_words true q h = ap (λ (t : Bool). if t then nat_le 1 x.length && nat_le x.length 28672 else is_ext (own_kind x.entry) && x.length == 0) (own_here x.entry) ∙ q
    by_words false q h = absurd cc

  pub stacks_fit : (is : List Ident) → list_all (brick_fits c) (filled (map imported_stack is) (replicate (length is) nothing)) ≡ true
  stacks_fit [] = refl
  stacks_fit (i ∷ is) = stacks_fit is

  -- ---- procedures of other modules

  proc_signature : (m : Mode) → IsProc m → (s : Signature) × (signature_by (out-Mode m) ≡ Some s)
  proc_signature m p = by_result p.parameters p.result p.is where
    by_result : (ms : List Mode) (r : Option Mode) → m ≡ mode.Proc ms r → (s : Signature) × (signature_by (out-Mode m) ≡ Some s)
    by_result ms None e = let o : out-Mode (mode.Proc ms None) ≡ Mode-F.Proc ms None = search the_lemmas in (record { parameters = ms; answer = None }, ap (λ (k : Mode). signature_by (out-Mode k)) e ∙ ap signature_by o)
    by_result ms (Some r) e = let o : out-Mode (mode.Proc ms (Some r)) ≡ Mode-F.Proc ms (Some r) = search the_lemmas in (record { parameters = ms; answer = Some r }, ap (λ (k : Mode). signature_by (out-Mode k)) e ∙ ap signature_by o)

  outside_fits : (i : Import) (m : Mode) → stands_alone n m ≡ true → IsProc m → procedure_fits c (import_kind i) m None ≡ true
  outside_fits i m e p =
      let s = proc_signature m p in
      ap (λ (o : Option Signature). passes (λ s. stands_alone (length c.records) m && body_fits c (import_kind i) s None) o) s.1
      ∙ both_true (stands_alone (length c.records) m) (not (is_here (import_kind i))) (stands_here m e) (ap not (import_not_here i))

  module _ (names : Names) (known : AreRecords n names) where
    imported_fit : (i : Import) (w : WrittenMode) (v : Verdict Resolved) (is : List Ident) → shallow w 100 8 ≡ true → is_proc (out-WrittenMode w) ≡ true → written names w site.Variable ≡ v → faults_by v is ≡ []
        → list_all (brick_fits c) (filled (map (imported_procedure (import_kind i) (line_by v)) is) (replicate (length is) nothing)) ≡ true
    imported_fit i w v [] h p q e = refl
    imported_fit i w (fit (resolved.Mode m)) (j ∷ is) h p q e =
        let r = read names w site.Variable m q in
        both_true (procedure_fits c (import_kind i) m None) (list_all (brick_fits c) (filled (map (imported_procedure (import_kind i) (line_by (fit (resolved.Mode m)))) is) (replicate (length is) nothing)))
        (outside_fits i m (passed_alone n m 100 8 (mode_stands names n known w site.Variable m 100 8 h q)) (written_proc names w site.Variable m p r.judges))
        (imported_fit i w (fit (resolved.Mode m)) is h p q refl)
    imported_fit i w (fit resolved.BadLength) (j ∷ is) h p q e = absurd cc
    imported_fit i w (unfit f fs) (j ∷ is) h p q e = absurd cc

    pub imported_procedures_fit : (i : Import) (w : WrittenMode) (is : List Ident) → shallow w 100 8 ≡ true → is_proc (out-WrittenMode w) ≡ true → faults_by (written names w site.Variable) is ≡ []
        → list_all (brick_fits c) (filled (map (imported_procedure (import_kind i) (variable names w)) is) (replicate (length is) nothing)) ≡ true
    imported_procedures_fit i w is h p e = imported_fit i w (written names w site.Variable) is h p refl e

    -- ---- procedures of the module

    own_fits : (entry : Bool) (ms : List Mode) (r : Option Mode) (b : ProcBody) → stands_alone n (mode.Proc ms r) ≡ true → proc_fits c ms r b ≡ true → procedure_fits c (own_kind entry) (mode.Proc ms r) (Some b) ≡ true
    own_fits entry ms None b e h =
        let o : out-Mode (mode.Proc ms None) ≡ Mode-F.Proc ms None = search the_lemmas in
        ap (λ (l : Mode-F Mode). passes (λ s. stands_alone (length c.records) (mode.Proc ms None) && body_fits c (own_kind entry) s (Some b)) (signature_by l)) o
        ∙ both_true (stands_alone (length c.records) (mode.Proc ms None)) (is_here (own_kind entry) && proc_fits c ms None b) (stands_here (mode.Proc ms None) e) (both_true (is_here (own_kind entry)) (proc_fits c ms None b) (own_here entry) h)
    own_fits entry ms (Some r) b e h =
        let o : out-Mode (mode.Proc ms (Some r)) ≡ Mode-F.Proc ms (Some r) = search the_lemmas in
        ap (λ (l : Mode-F Mode). passes (λ s. stands_alone (length c.records) (mode.Proc ms (Some r)) && body_fits c (own_kind entry) s (Some b)) (signature_by l)) o
        ∙ both_true (stands_alone (length c.records) (mode.Proc ms (Some r))) (is_here (own_kind entry) && proc_fits c ms (Some r) b) (stands_here (mode.Proc ms (Some r)) e) (both_true (is_here (own_kind entry)) (proc_fits c ms (Some r) b) (own_here entry) h)

    pub procedure_brick_fits : (s : Sight) (p : ProcedureBrick) (z : IsHeaded names n known p) → proc_fits c (modes_of (written_fields names site.Variable p.fields)) z.result (procedure s p) ≡ true
        → brick_fits c (brick_by (record { kind = own_kind p.entry; name = p.name.name; sort = sort.Procedure (heading_of names p) }) (record { body = Some (procedure s p); starts = [] })) ≡ true
    procedure_brick_fits s p z h =
        subst (λ (g : Given). brick_fits c (brick_by (record { kind = own_kind p.entry; name = p.name.name; sort = sort.Procedure g }) (record { body = Some (procedure s p); starts = [] })) ≡ true) (sym z.is)
        (own_fits p.entry (modes_of (written_fields names site.Variable p.fields)) z.result (procedure s p) (headed_stands names n known p z standing.Alone) h)

  -- ---- data

  own_items : (k : Kind) (name : List ℕ) (fs : List Field) → AllByRecursion (FieldHas (ItemStands n)) fs → list_all (item_stands (length c.records) k name) fs ≡ true
  own_items k name fs h = all_true (item_stands (length c.records) k name) fs (all_so (FieldHas (ItemStands n)) (λ f. item_stands (length c.records) k name f ≡ true) fs (λ f e. or_left (field_stands (length c.records) f) (is_recovery_label k name f) (stands_here f.mode e)) h)

  pub own_data_fits : (d : DataBrick) (ps : List Part) (ss : List DataStart) (z : AreFields (ItemStands n) ps) → items_start c ss z.fields ≡ true
      → brick_fits c (brick_by (record { kind = own_kind d.entry; name = d.name.name; sort = sort.Items ps }) (record { body = None; starts = ss })) ≡ true
  own_data_fits d ps ss z h =
      subst (λ (o : Option (List Field)). list_all (item_stands (length c.records) (own_kind d.entry) d.name.name) (or_none o) && data_starts c (own_kind d.entry) (or_none o) ss ≡ true) (sym z.is)
      (both_true (list_all (item_stands (length c.records) (own_kind d.entry) d.name.name) z.fields) (data_starts c (own_kind d.entry) z.fields ss) (own_items (own_kind d.entry) d.name.name z.fields z.has)
      (ap (λ (t : Bool). if t then items_start c ss z.fields else length ss == 0) (own_here d.entry) ∙ h))

  -- where LABEL may be the mode of ERL
  allowed_item : (i : Import) (name : List ℕ) (f : Field) → ItemAllowed n (recovers i name) f.name f.mode → item_stands (length c.records) (import_kind i) name f ≡ true
  allowed_item i name f (inl h) = or_left (field_stands (length c.records) f) (is_recovery_label (import_kind i) name f) (stands_here f.mode h)
  allowed_item import.External name f (inr h) = absurd (let bad = h.0 in cc)
  allowed_item import.Service name f (inr h) =
      let o : out-Mode mode.Label ≡ Mode-F.Label = search the_lemmas in
      let label : is_label_layer (out-Mode f.mode) ≡ true = ap (λ (k : Mode). is_label_layer (out-Mode k)) h.2 ∙ ap is_label_layer o in
      or_right (field_stands (length c.records) f) (is_recovery_label kind.Svc name f)
      (both_true (bytes_eq name (codes "RRERR")) (field_is (codes "ERL") is_label_layer f) h.0 (both_true (bytes_eq f.name (codes "ERL")) (is_label_layer (out-Mode f.mode)) (text_same f.name (codes "ERL") h.1) label))

  pub imported_data_fits : (i : Import) (name : List ℕ) (ps : List Part) → AreFields (ItemAllowed n (recovers i name)) ps → brick_fits c (brick_by (record { kind = import_kind i; name = name; sort = sort.Items ps }) nothing) ≡ true
  imported_data_fits i name ps z =
      subst (λ (o : Option (List Field)). list_all (item_stands (length c.records) (import_kind i) name) (or_none o) && data_starts c (import_kind i) (or_none o) [] ≡ true) (sym z.is)
      (both_true (list_all (item_stands (length c.records) (import_kind i) name) z.fields) (data_starts c (import_kind i) z.fields [])
      (all_true (item_stands (length c.records) (import_kind i) name) z.fields (all_so (FieldHas (ItemAllowed n (recovers i name))) (λ f. item_stands (length c.records) (import_kind i) name f ≡ true) z.fields (λ f e. allowed_item i name f e) z.has))
      (ap (λ (t : Bool). if t then items_start c [] z.fields else true) (import_not_here i)))

-- ---- from declaration to declaration

copies : {A : Type 0} (x : A) (n : ℕ) → length (replicate n x) ≡ n
copies x zero = refl
copies x (suc n) = ap suc (copies x n)

-- as many headings as bricks are declared
pub headings_counted : (names : Names) (d : Declaration) → length (bricks_in names d) ≡ brick_count d
headings_counted names (declares.Record r) = refl
headings_counted names (declares.Data d) = refl
headings_counted names (declares.Stack x) = refl
headings_counted names (declares.Procedure p) = refl
headings_counted names (declares.ImportedProcedures p) = length_mapped (imported_procedure (import_kind p.import) (variable names p.mode)) p.names
headings_counted names (declares.ImportedData d) = refl
headings_counted names (declares.ImportedStacks x) = length_mapped imported_stack x.names

-- and as many fillings
pub fillings_counted : (s : Sight) (names : Names) (d : Declaration) (h : Option Heading) → length (fillings_in s h d) ≡ length (bricks_in names d)
fillings_counted s names (declares.Record r) h = refl
fillings_counted s names (declares.Data d) h = refl
fillings_counted s names (declares.Stack x) h = refl
fillings_counted s names (declares.Procedure p) h = refl
fillings_counted s names (declares.ImportedProcedures p) h = copies nothing (length p.names) ∙ sym (length_mapped (imported_procedure (import_kind p.import) (variable names p.mode)) p.names)
fillings_counted s names (declares.ImportedData d) h = refl
fillings_counted s names (declares.ImportedStacks x) h = copies nothing (length x.names) ∙ sym (length_mapped imported_stack x.names)

module _ (c : Scope) (s : Sight) (names : Names) where
  -- what the declaration's own bricks hold fits, whatever bricks follow
  abbrev pub Fits : Declaration → Type 0
  Fits d = (hs : List Heading) → list_all (brick_fits c) (filled (bricks_in names d) (fillings_in s (first (bricks_in names d ++ hs)) d)) ≡ true

  pub all_fit : (ds : List Declaration) → AllByRecursion Fits ds → list_all (brick_fits c) (filled (bricks names ds) (gathered (fillings_in s) (bricks names ds) ds)) ≡ true
  all_fit [] h = refl
  all_fit (d ∷ ds) h =
      let xs : List Heading = bricks_in names d in
      let ys : List Heading = bricks names ds in
      let fs : List Filling = fillings_in s (first (xs ++ ys)) d in
      let rest : gathered (fillings_in s) (drop (brick_count d) (xs ++ ys)) ds ≡ gathered (fillings_in s) ys ds = ap (λ (hs : List Heading). gathered (fillings_in s) hs ds) (drop_joined xs ys (brick_count d) (headings_counted names d)) in
      ap (λ (gs : List Filling). list_all (brick_fits c) (filled (xs ++ ys) (fs ++ gs))) rest
      ∙ ap (list_all (brick_fits c)) (filled_joined xs ys fs (gathered (fillings_in s) ys ds) (fillings_counted s names d (first (xs ++ ys))))
      ∙ list_joined (brick_fits c) (filled xs fs) (filled ys (gathered (fillings_in s) ys ds)) (h.0 ys) (all_fit ds h.1)
