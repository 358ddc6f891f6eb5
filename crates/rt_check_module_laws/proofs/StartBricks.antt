-- The starts of a data brick fit its items.
use Rattle.std.proofs.Common.{◌≡◌, ℕ, suc, ◌+◌, ◌==◌, ◌||◌, ◌&&◌, Bool, true, false, List, [], ◌∷◌, ◌++◌, Option, Some, None, inl, length, map, drop, arith, refl, sym, ap, ◌∙◌, subst}
use Rattle.std.specs.List.{AllByRecursion}
use Rattle.std.proofs.lemmas.Bool.Decides.{nat_tests}
use Rattle.std.proofs.lemmas.List.{length-append, length-drop, length-map}
use Rattle.rt_bricks.specs.declared.tree.DataItem.{DataItem}
use Rattle.rt_bricks.specs.declared.tree.DataLine.{DataLine}
use Rattle.rt_bricks.specs.declared.tree.Start.{Start}
use Rattle.rt_check_declared.specs.Names.{idents}
use Rattle.rt_bricks_laws.specs.Strings.{in_start, in_any, in_items, in_lines}
use Rattle.rt_grammar.specs.declared.at.At.{At}
use Rattle.rt_check_declared.specs.declared.parts.Given.{Given}
use Rattle.rt_check_declared.specs.declared.parts.Given.TheVariants as given
use Rattle.rt_check_declared.specs.declared.parts.Part.{Part}
use Rattle.rt_check_declared.specs.Parts.{part, line_by, item_parts}
use Rattle.rt_check_declared.specs.Totals.{with_field, all_fields}
use Rattle.rt_modes.specs.declared.mode.Field.{Field}
use Rattle.rt_modes.specs.declared.mode.Mode.{Mode}
use Rattle.rt_modes.specs.declared.mode.RecordDef.{RecordDef}
use Rattle.rt_tree_nodes.specs.declared.brick.DataStart.{DataStart}
use Rattle.rt_tree_nodes.specs.Scopes.{Scope}
use Rattle.rt_check_faults.specs.declared.fault.CheckFault.{CheckFault}
use Rattle.rt_exprs.specs.Sights.{Sight}
use Rattle.rt_exprs.specs.Names.{find}
use Rattle.rt_syntax.specs.Strings.{Texts}
use Rattle.rt_tree.specs.Modules.{starts, fields_start, items_start}
use Rattle.rt_exprs.specs.declared.scope.Meaning.{Meaning}
use Rattle.rt_exprs_laws.specs.Agreeing.{Agree}
use Rattle.rt_check_bodies_laws.specs.Held.{IsKnown}
use Rattle.rt_check_declared.specs.declared.site.Site.TheVariants as site
use Rattle.rt_check_declared.specs.Verdicts.{IsIn}
use Rattle.rt_check_declared.specs.Written.{written as resolved}
use Rattle.rt_check_module.specs.Bricks.{in_items as fault_inside}
use Rattle.rt_check_module.specs.Defaults.{has_default}
use Rattle.rt_check_module.specs.Items.{or_else, bad_unless, known_faults, written_faults, start_faults, faults_by, items_faults, brick_faults, start_of, start_by, items_starts, brick_starts}
use Rattle.rt_check_module.specs.Starts.{Written, written_in}
use Rattle.rt_check_module.specs.Strings.{used, is_in, texts, start_texts, items_texts, brick_texts}
use Rattle.rt_check_module_laws.specs.Starts.{AreBytes, BeginAt, items_in, AreRecordsWhole, GivenStands, StartsFit, ReadStartsFit, EachItemHasAPart}
use Rattle.rt_check_module_laws.proofs.Tests.{left_of, all_left, all_right}
use Rattle.rt_check_module_laws.proofs.Layers.{joined_fields}
use Rattle.rt_check_module_laws.proofs.Defaults.{default_fits}
use Rattle.rt_check_module_laws.proofs.Fields.{none_left, none_right}
use Rattle.rt_check_module_laws.proofs.StartTexts.{items_keep, lines_keep}
use Rattle.rt_check_module_laws.proofs.Made.{start_fits, all_dropped}

-- ---- the strings that are used are among those that are

first_in : (x : ℕ) (xs : List ℕ) → is_in (x ∷ xs) x ≡ true
first_in x xs = let e : (x == x) ≡ true = grind (arith, nat_tests) in rw e refl

also_in : (b : Bool) (c : Bool) → c ≡ true → b || c ≡ true
also_in true c e = refl
also_in false c e = e

all_used : (items ks : List ℕ) → ((k : ℕ) → is_in ks k ≡ true → is_in items k ≡ true) → AllByRecursion (λ k. is_in items k ≡ true) ks
all_used items [] h = tt
all_used items (k ∷ ks) h = (h k (first_in k ks), all_used items ks (λ j e. h j (also_in (k == j) (is_in ks j) e)))

-- ---- no fault stands

no_first : (xs ys : List CheckFault) → or_else xs ys ≡ [] → xs ≡ []
no_first [] ys e = refl
no_first (x ∷ xs) ys e = absurd cc

no_other : (xs ys : List CheckFault) → or_else xs ys ≡ [] → ys ≡ []
no_other [] ys e = e
no_other (x ∷ xs) ys e = absurd cc

not_bad : (b : Bool) (at : At) → bad_unless b at ≡ [] → b ≡ true
not_bad true at e = refl
not_bad false at e = absurd cc

written_fits : (at : At) (w : Written) (m : Mode) → written_faults at w m ≡ [] → w.fits m ≡ true
written_fits at w m e = left_of (w.fits m) (w.copies == 1) (not_bad (w.fits m && w.copies == 1) at (no_other (w.private m) _ (no_other w.unknown (known_faults at w m) e)))

-- ---- the fields of parts

more_parts : (n : List ℕ) (m : Mode) (o : Option (List Field)) (fs : List Field) → with_field n (given.Mode m) o ≡ Some fs → (gs : List Field) × (o ≡ Some gs) × (fs ≡ record { name = n; mode = m } ∷ gs)
more_parts n m None fs e = absurd cc
more_parts n m (Some gs) fs e = (gs, refl, sym (inside (record { name = n; mode = m } ∷ gs) fs e)) where
  inside : (xs ys : List Field) → Some xs ≡ Some ys → xs ≡ ys
  inside xs ys e = cc

no_parts : (fs : List Field) → Some [] ≡ Some fs → fs ≡ []
no_parts fs e = cc

module _ (s : Sight) (c : Scope) (agree : Agree s c) (known : (name : List ℕ) (is : Meaning) → find s name ≡ Some is → IsKnown is) (whole : AreRecordsWhole s.records) where
  abbrev rs : List RecordDef
  rs = s.records

  -- ---- an item

  a_written_start : (x : Start) (prior : Texts) (m : Mode) → AreBytes (in_start x prior) → BeginAt s.strings (texts (used rs x m) x) → (written_in s x).fits m ≡ true → starts c ((written_in s x).made m) m ≡ true
  a_written_start x prior m b t h = start_fits c rs (find s) s.strings (used rs x m) agree.records agree.strings agree.names known whole.items x prior m b t (all_used (used rs x m) (used rs x m) (λ k e. e)) h

  item_fits : (at : At) (o : Option Start) (m : Mode) (prior : Texts) → GivenStands rs (given.Mode m) → AreBytes (in_any o prior) → BeginAt s.strings (start_texts rs o (given.Mode m)) → start_faults s at o m ≡ [] → starts c (start_of s o m) m ≡ true
  item_fits at None m prior k b t e = default_fits c rs agree.records whole m k.0 k.1 (not_bad (has_default rs m) at e)
  item_fits at (Some x) m prior k b t e = a_written_start x prior m b t (written_fits at (written_in s x) m e)

  -- ---- the items of a line, which have the first parts

  abbrev Ready : List DataItem → List Part → Texts → Type 0
  Ready is ps prior = AreBytes (in_items is prior) × BeginAt s.strings (items_texts rs is ps)

  -- the fields of the items, and those behind them
  pub record Split (is : List DataItem) (ps : List Part) (fs : List Field) : Type 0 where
    pub these : List Field
    pub rest : List Field
    pub together : these ++ rest ≡ fs
    pub behind : all_fields (drop (length is) ps) ≡ Some rest
    pub start : fields_start (map (starts c) (items_starts s is ps)) these ≡ true

  one_more : (i : DataItem) (is : List DataItem) (p : Part) (ps : List Part) (m : Mode) (fs gs : List Field) → p.has ≡ given.Mode m → fs ≡ record { name = p.name; mode = m } ∷ gs → starts c (start_of s i.start m) m ≡ true → Split is ps gs → Split (i ∷ is) (p ∷ ps) fs
  one_more i is p ps m fs gs has e h split = record {
    these = record { name = p.name; mode = m } ∷ split.these;
    rest = split.rest;
    together = ap (λ (xs : List Field). record { name = p.name; mode = m } ∷ xs) split.together ∙ sym e;
    behind = split.behind;
    start = ap (λ (g : Given). starts c (start_by s i.start g) m && fields_start (map (starts c) (items_starts s is ps)) split.these) has ∙ rw h split.start;
  }

  by_given : (i : DataItem) (is : List DataItem) (p : Part) (ps : List Part) (fs : List Field) (prior : Texts) (g : Given) → p.has ≡ g → GivenStands rs g → AreBytes (in_items is (in_any i.start prior)) → BeginAt s.strings (start_texts rs i.start g ++ items_texts rs is ps)
      → faults_by s i.name.at i.start g ++ items_faults s is ps ≡ [] → with_field p.name g (all_fields ps) ≡ Some fs → ((gs : List Field) → all_fields ps ≡ Some gs → Split is ps gs) → Split (i ∷ is) (p ∷ ps) fs
  by_given i is p ps fs prior given.Unknown has k b t e fields go = absurd cc
  by_given i is p ps fs prior (given.Mode m) has k b t e fields go =
      let (gs, there, is_so) = more_parts p.name m (all_fields ps) fs fields in
      one_more i is p ps m fs gs has is_so
      (item_fits i.name.at i.start m prior k (items_keep is (in_any i.start prior) b) (all_left (λ (x : ℕ × List ℕ). is_in s.strings x.0 ≡ true) (start_texts rs i.start (given.Mode m)) (items_texts rs is ps) t)
      (none_left (start_faults s i.name.at i.start m) (items_faults s is ps) e))
      (go gs there)

  items_fit : (is : List DataItem) (ps : List Part) (fs : List Field) (prior : Texts) (more : ℕ) → length ps ≡ length is + more → AllByRecursion (λ (p : Part). GivenStands rs p.has) ps → AreBytes (in_items is prior) → BeginAt s.strings (items_texts rs is ps) → items_faults s is ps ≡ [] → all_fields ps ≡ Some fs → Split is ps fs
  items_fit [] ps fs prior more n k b t e fields = record { these = []; rest = fs; together = refl; behind = fields; start = refl }
  items_fit (i ∷ is) [] fs prior more n k b t e fields = absurd (omega (arith, n))
  items_fit (i ∷ is) (p ∷ ps) fs prior more n k b t e fields =
      by_given i is p ps fs prior p.has refl k.0 b t e fields
      (λ gs there. items_fit is ps gs (in_any i.start prior) more (omega (arith, n)) k.1 b (all_right (λ (x : ℕ × List ℕ). is_in s.strings x.0 ≡ true) (start_texts rs i.start p.has) (items_texts rs is ps) t)
      (none_right (faults_by s i.name.at i.start p.has) (items_faults s is ps) e) there)

  -- ---- the lines

  lines_fit : (ls : List DataLine) (ps : List Part) (fs : List Field) (prior : Texts) → length ps ≡ items_in ls → AllByRecursion (λ (p : Part). GivenStands rs p.has) ps → AreBytes (in_lines ls prior) → BeginAt s.strings (brick_texts rs ls ps) → brick_faults s ls ps ≡ [] → all_fields ps ≡ Some fs
      → fields_start (map (starts c) (brick_starts s ls ps)) fs ≡ true
  lines_fit [] [] fs prior n k b t e fields = rw (no_parts fs fields) refl
  lines_fit [] (p ∷ ps) fs prior n k b t e fields = absurd (omega (arith, n))
  lines_fit (l ∷ ls) ps fs prior n k b t e fields =
      let split : Split l.items ps fs =
      items_fit l.items ps fs prior (items_in ls) n k (lines_keep ls (in_items l.items prior) b) (all_left (λ (x : ℕ × List ℕ). is_in s.strings x.0 ≡ true) (items_texts rs l.items ps) (brick_texts rs ls (drop (length l.items) ps)) t)
      (none_left (items_faults s l.items ps) (brick_faults s ls (drop (length l.items) ps)) e) fields in
      let left : length (drop (length l.items) ps) ≡ items_in ls = omega (arith, n, length-drop (length l.items) ps) in
      let rest : fields_start (map (starts c) (brick_starts s ls (drop (length l.items) ps))) split.rest ≡ true =
      lines_fit ls (drop (length l.items) ps) split.rest (in_items l.items prior) left (all_dropped (λ (p : Part). GivenStands rs p.has) (length l.items) ps k) b (all_right (λ (x : ℕ × List ℕ). is_in s.strings x.0 ≡ true) (items_texts rs l.items ps) (brick_texts rs ls (drop (length l.items) ps)) t)
      (none_right (items_faults s l.items ps) (brick_faults s ls (drop (length l.items) ps)) e) split.behind in
      subst (λ (gs : List Field). fields_start (map (starts c) (items_starts s l.items ps ++ brick_starts s ls (drop (length l.items) ps))) gs ≡ true) split.together
      (joined_fields c split.these split.rest (items_starts s l.items ps) (brick_starts s ls (drop (length l.items) ps)) split.start rest)

pub starts_fit : StartsFit
starts_fit s c ls ps fs ready fields e = lines_fit s c ready.agree ready.known ready.whole ls ps fs [] ready.parts ready.stand ready.bytes ready.strings e fields

-- ---- what is read

none_in : (fs : List CheckFault) → ((g : CheckFault) → IsIn g fs → ⊥) → fs ≡ []
none_in [] h = refl
none_in (f ∷ fs) h = absurd (h f (inl refl))

pub read_starts_fit : ReadStartsFit
read_starts_fit t s c ls ps fs ss ready fields h =
    ap (λ (xs : List DataStart). items_start c xs fs) h.are ∙ starts_fit s c ls ps fs ready fields (none_in (brick_faults s ls ps) (λ g i. h.no_fault g (fault_inside i)))

-- ---- the parts of lines

idents_many : (is : List DataItem) → length (idents is) ≡ length is
idents_many [] = refl
idents_many (i ∷ is) = ap suc (idents_many is)

pub each_item_has_a_part : EachItemHasAPart
each_item_has_a_part names [] = refl
each_item_has_a_part names (l ∷ ls) =
    length-append (map (part (line_by (resolved names l.mode site.Item))) (idents l.items)) (item_parts names ls)
    ∙ ap (λ (n : ℕ). n + length (item_parts names ls)) (length-map (idents l.items) (part (line_by (resolved names l.mode site.Item))) ∙ idents_many l.items)
    ∙ ap (λ (n : ℕ). length l.items + n) (each_item_has_a_part names ls)
