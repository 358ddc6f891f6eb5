-- What stands in a module is never what can't be known.
use Rattle.std.proofs.Common.{◌≡◌, ℕ, ◌&&◌, Bool, true, false, List, [], ◌∷◌, ◌++◌, map, take, drop, length, Option, Some, None, if◌then◌else◌, inl, inr, refl, sym, ◌∙◌, subst}
use Rattle.std.specs.List.{AllByRecursion}
use Rattle.std.specs.Prelude.{nat_le, ◌==◌}
use Rattle.rt_grammar.specs.declared.at.At.{At}
use Rattle.rt_grammar.specs.declared.at.Ident.{Ident}
use Rattle.rt_syntax_exprs.specs.declared.tree.WrittenMode.{WrittenMode}
use Rattle.rt_bricks.specs.declared.tree.DataItem.{DataItem}
use Rattle.rt_bricks.specs.declared.tree.DataLine.{DataLine}
use Rattle.rt_bricks.specs.declared.tree.Declaration.{Declaration}
use Rattle.rt_bricks.specs.declared.tree.Declaration.TheVariants as declares
use Rattle.rt_bricks.specs.declared.tree.Fields.{Fields}
use Rattle.rt_bricks.specs.declared.tree.RecordMode.{RecordMode}
use Rattle.rt_bricks.specs.declared.tree.Selector.{Selector}
use Rattle.rt_bricks.specs.declared.tree.Selector.TheVariants as selector
use Rattle.rt_bricks.specs.declared.tree.StackBrick.{StackBrick}
use Rattle.rt_bricks.specs.declared.tree.Start.{Start, out-Start, roll-Start, map-Start, the_lemmas}
use Rattle.rt_bricks.specs.declared.tree.Start.TheFolds.{ind-Start, fold_out-Start}
use Rattle.rt_bricks.specs.declared.tree.Start.TheOpen.{Start-F}
use Rattle.rt_modes.specs.declared.mode.Field.{Field}
use Rattle.rt_modes.specs.declared.mode.Mode.{Mode, out-Mode}
use Rattle.rt_modes.specs.declared.mode.Mode.TheOpen.{Mode-F}
use Rattle.rt_modes.specs.declared.mode.RecordDef.{RecordDef}
use Rattle.rt_tree.specs.Modules.{place_starts}
use Rattle.rt_check_faults.specs.declared.fault.CheckFault.{CheckFault}
use Rattle.rt_check_faults.specs.declared.fault.CheckFault.TheVariants as fault
use Rattle.rt_exprs.specs.declared.scope.Meaning.{Meaning}
use Rattle.rt_exprs.specs.declared.scope.Meaning.TheVariants as meaning
use Rattle.rt_exprs.specs.Names.{find}
use Rattle.rt_exprs.specs.Operands.{first_field, is_label}
use Rattle.rt_check_faults.specs.Outcomes.{is_unknown}
use Rattle.rt_exprs.specs.Sights.{Sight}
use Rattle.rt_sizes.specs.Sizes.{Table}
use Rattle.rt_check_declared.specs.declared.bricks.Heading.{Heading}
use Rattle.rt_check_declared.specs.declared.parts.Given.{Given}
use Rattle.rt_check_declared.specs.declared.parts.Given.TheVariants as given
use Rattle.rt_check_declared.specs.declared.parts.Part.{Part}
use Rattle.rt_check_declared.specs.declared.site.Site.{Site}
use Rattle.rt_check_declared.specs.declared.site.Site.TheVariants as site
use Rattle.rt_check_declared.specs.declared.written.Resolved.{Resolved}
use Rattle.rt_check_declared.specs.declared.written.Resolved.TheVariants as resolved
use Rattle.rt_check_declared.specs.Bricks.{stack_faults, result_faults, faults_in, brick_faults}
use Rattle.rt_check_declared.specs.Fields.{faults_by, mode_faults}
use Rattle.rt_check_declared.specs.Names.{Known, Named, twice, is_second, with_name, idents, names, fields_names, name_faults, second_fields}
use Rattle.rt_check_declared.specs.Parts.{is_recovery, recovers, imported_line_faults, parts_faults, item_faults}
use Rattle.rt_check_declared.specs.Records.{ModeFault, in_fields, in_itself, too_large, RecordFault, of_modes, of_names, field_faults}
use Rattle.rt_check_declared.specs.Totals.{LargeFault}
use Rattle.rt_check_declared.specs.Totals as large
use Rattle.rt_check_declared.specs.Verdicts.{Verdict, fit, unfit}
use Rattle.rt_check_declared.specs.Written.{Names, written, judged, counted}
use Rattle.rt_check_bodies_laws.specs.Faults.{FaultsAreKnown as BodiesAreKnown}
use Rattle.rt_check_bodies_laws.proofs.Faults.{AreKnown, KnownIn, one_of, then_known, written_known}
use Rattle.rt_check_module.specs.Bricks.{BrickFault, in_items, in_whole}
use Rattle.rt_check_module.specs.Defaults.{has_default}
use Rattle.rt_check_module.specs.Items as starts
use Rattle.rt_check_module.specs.Places.{Step, leads, lost, hidden, nowhere, element, leads_unless, field_by, Reached, place, unknown, unseen, no_place, on, field, step, along}
use Rattle.rt_check_module.specs.Places.{Found, not_known, procedure, shared, private, other, shared_by, private_by, by_itself, found, unfit_faults, private_faults}
use Rattle.rt_check_module.specs.Places as places
use Rattle.rt_check_module.specs.Starts.{Written, Wanted, elements, fields, nothing, wanted, in_each, in_all, in_fields as in_these, in_parts, all_unknown, written_layer, written_in}
use Rattle.rt_check_module.specs.Starts as start
use Rattle.rt_check_module.specs.Faults.{Inside, in_names, in_modes, in_bricks, inside}
use Rattle.rt_check_module.specs.Tree.{first, items_in, Somewhere, modes_seen, records, headings, sight}
use Rattle.rt_check_declared.specs.Names.{bricks_in}
use Rattle.rt_check_laws.specs.Laws.{FaultsAreKnown}

append : (fs gs : List CheckFault) → AreKnown fs → AreKnown gs → AreKnown (fs ++ gs)
append [] gs h k = k
append (f ∷ fs) gs h k = (h.0, append fs gs h.1 k)

by_test : (b : Bool) (fs gs : List CheckFault) → AreKnown fs → AreKnown gs → AreKnown (if b then fs else gs)
by_test true fs gs h k = h
by_test false fs gs h k = k

-- ---- names

twice_known : (known : Known) (ms : List Named) → AreKnown (twice known ms)
unfolding twice
twice_known known [] = tt
twice_known known (m ∷ ms) =
    by_test (is_second known m) (fault.DeclaredTwice m.at ∷ twice known ms) (twice (with_name known m) ms) (refl, twice_known known ms) (twice_known (with_name known m) ms)

-- ---- modes

at_each : (ids : List Ident) → AreKnown (map (λ i. fault.BadStart i.at) ids)
at_each [] = tt
at_each (i ∷ rest) = (refl, at_each rest)

by_known : (v : Verdict Resolved) (ids : List Ident) → KnownIn v → AreKnown (faults_by v ids)
by_known (fit (resolved.Mode m)) ids h = tt
by_known (fit resolved.BadLength) ids h = at_each ids
by_known (unfit f fs) ids h = h

module _ (seen : Names) where
  line_known : (w : WrittenMode) (at : Site) (ids : List Ident) → AreKnown (faults_by (written seen w at) ids)
  line_known w at ids = by_known (written seen w at) ids (then_known (judged seen w at) (λ m. fit (counted m)) (written_known seen w at) (λ m. tt))

  fields_known : (at : Site) (gs : List Fields) → AreKnown (mode_faults seen at gs)
  fields_known at [] = tt
  fields_known at (g ∷ gs) = append (faults_by (written seen g.mode at) g.names) (mode_faults seen at gs) (line_known g.mode at g.names) (fields_known at gs)

  items_known : (ls : List DataLine) → AreKnown (item_faults seen ls)
  items_known [] = tt
  items_known (l ∷ ls) = append (faults_by (written seen l.mode site.Item) (idents l.items)) (item_faults seen ls) (line_known l.mode site.Item (idents l.items)) (items_known ls)

  parts_known : (erl : Bool) (gs : List Fields) → AreKnown (parts_faults seen erl gs)
  parts_known erl [] = tt
  parts_known erl (g ∷ gs) =
      append (imported_line_faults seen erl g) (parts_faults seen erl gs)
      (by_test (is_recovery erl g) [] (faults_by (written seen g.mode site.Item) g.names) tt (line_known g.mode site.Item g.names)) (parts_known erl gs)

  stack_known : (s : StackBrick) → AreKnown (stack_faults s)
  stack_known s = by_test (nat_le 1 s.length && nat_le s.length 28672) [] (fault.BadStart s.name.at ∷ []) tt (refl, tt)

  result_known : (i : Ident) (r : Option WrittenMode) → AreKnown (result_faults seen i r)
  result_known i None = tt
  result_known i (Some w) = line_known w site.Variable (i ∷ [])

  declared_known : (d : Declaration) → AreKnown (faults_in seen d)
  declared_known (declares.Record r) = tt
  declared_known (declares.Data d) = items_known d.lines
  declared_known (declares.Stack s) = stack_known s
  declared_known (declares.Procedure p) = append (mode_faults seen site.Variable p.fields) (result_faults seen p.name p.result) (fields_known site.Variable p.fields) (result_known p.name p.result)
  declared_known (declares.ImportedProcedures p) = line_known p.mode site.Variable p.names
  declared_known (declares.ImportedData d) = parts_known (recovers d.import d.name.name) d.lines
  declared_known (declares.ImportedStacks s) = tt

  bricks_known : (ds : List Declaration) → AreKnown (brick_faults seen ds)
  bricks_known [] = tt
  bricks_known (d ∷ ds) = append (faults_in seen d) (brick_faults seen ds) (declared_known d) (bricks_known ds)

  mode_known : (t : Table) (k : ℕ) (r : RecordMode) (g : CheckFault) → ModeFault seen t k r g → is_unknown g ≡ false
  mode_known t k r g (in_fields i) = one_of (field_faults seen r) g (fields_known site.Item r.fields) i
  mode_known t k r g (in_itself n c) = refl
  mode_known t k r g (too_large n c p at) = refl

  record_known : (t : Table) (k : ℕ) (r : RecordMode) (g : CheckFault) → RecordFault seen t k r g → is_unknown g ≡ false
  record_known t k r g (of_modes m) = mode_known t k r g m
  record_known t k r g (of_names i) = one_of (second_fields r.fields) g (twice_known [] (fields_names 0 0 r.fields)) i

large_known : (t : Table) (ps : List Part) (g : CheckFault) → LargeFault t ps g → is_unknown g ≡ false
large_known t ps g (large.too_large e p at) = refl

-- ---- places in starts

abbrev KnownStep : Step → Type 0
KnownStep (lost f) = is_unknown f ≡ false
KnownStep _ = Unit {0}

abbrev KnownReached : Reached → Type 0
KnownReached (unknown f) = is_unknown f ≡ false
KnownReached _ = Unit {0}

abbrev KnownFound : Found → Type 0
KnownFound (places.unfit f) = is_unknown f ≡ false
KnownFound _ = Unit {0}

leads_known : (b : Bool) (k : ℕ) (m : Mode) → KnownStep (leads_unless b k m)
leads_known true k m = tt
leads_known false k m = tt

field_by_known : (at : At) (o : Option (ℕ × Mode)) → KnownStep (field_by at o)
field_by_known at None = refl
field_by_known at (Some x) = leads_known (is_label (out-Mode x.1)) x.0 x.1

if_there : (b : Bool) (s t : Step) → KnownStep s → KnownStep t → KnownStep (if b then s else t)
if_there true s t h k = h
if_there false s t h k = k

element_known : (k : ℕ) (l : Mode-F Mode) → KnownStep (element k l)
element_known k (Mode-F.Array n m) = if_there (nat_le 1 k && nat_le k n) (leads _ m) nowhere tt tt
element_known k Mode-F.Byte = tt
element_known k Mode-F.Int = tt
element_known k Mode-F.Frac = tt
element_known k Mode-F.Label = tt
element_known k (Mode-F.Ref m) = tt
element_known k (Mode-F.RefArray m) = tt
element_known k (Mode-F.Record r) = tt
element_known k (Mode-F.Proc ps r) = tt

module _ (rs : List RecordDef) where
  field_known : (i : Ident) (l : Mode-F Mode) → KnownStep (field rs i l)
  field_known i (Mode-F.Record r) = field_by_known i.at (first_field rs r i.name)
  field_known i Mode-F.Byte = tt
  field_known i Mode-F.Int = tt
  field_known i Mode-F.Frac = tt
  field_known i Mode-F.Label = tt
  field_known i (Mode-F.Ref m) = tt
  field_known i (Mode-F.RefArray m) = tt
  field_known i (Mode-F.Array n m) = tt
  field_known i (Mode-F.Proc ps r) = tt

  step_known : (s : Selector) (m : Mode) → KnownStep (step rs s m)
  step_known (selector.Dot i at) m = field_known i (out-Mode m)
  step_known (selector.Subscript p) m = element_known p.number (out-Mode m)

  on_known : (s : Step) (go : Mode → Reached) → KnownStep s → ((m : Mode) → KnownReached (go m)) → KnownReached (on s go)
  on_known (leads k m) go h g = g m
  on_known (lost f) go h g = h
  on_known hidden go h g = tt
  on_known nowhere go h g = tt

  along_known : (ss : List Selector) (m : Mode) → KnownReached (along rs ss m)
  along_known [] m = tt
  along_known (s ∷ ss) m = on_known (step rs s m) (along rs ss) (step_known s m) (along_known ss)

  shared_known : (b i : ℕ) (m : Mode) (r : Reached) → KnownReached r → KnownFound (shared_by b i m r)
  shared_known b i m (place n) h = tt
  shared_known b i m (unknown f) h = h
  shared_known b i m unseen h = tt
  shared_known b i m no_place h = tt

  private_known : (r : Reached) → KnownReached r → KnownFound (private_by r)
  private_known (place n) h = tt
  private_known (unknown f) h = h
  private_known unseen h = tt
  private_known no_place h = tt

  itself_known : (ss : List Selector) (f : Found) → KnownFound f → KnownFound (by_itself ss f)
  itself_known [] f h = h
  itself_known (s ∷ ss) f h = tt

  supplied_by : (b : Bool) (at : At) (f : Found) → KnownFound f → KnownFound (if b then places.unfit (fault.LeftOut 2 at) else f)
  supplied_by true at f h = refl
  supplied_by false at f h = h

  found_known : (at : At) (ss : List Selector) (o : Option Meaning) → KnownFound (found rs at ss o)
  found_known at ss None = refl
  found_known at ss (Some meaning.Unknown) = tt
  found_known at ss (Some meaning.UnknownProc) = itself_known ss not_known tt
  found_known at ss (Some (meaning.Proc b m)) = itself_known ss (procedure b m) tt
  found_known at ss (Some (meaning.Item b i m)) = shared_known b i m (along rs ss m) (along_known ss m)
  found_known at ss (Some (meaning.SvcItem b i m)) = private_known (along rs ss m) (along_known ss m)
  found_known at ss (Some (meaning.Svc k m)) = supplied_by (k == 0) at (private_by (along rs ss m)) (private_known (along rs ss m) (along_known ss m))
  found_known at ss (Some (meaning.Mode r)) = tt
  found_known at ss (Some (meaning.Data b)) = tt
  found_known at ss (Some (meaning.Stack b)) = tt
  found_known at ss (Some (meaning.Local k m)) = tt
  found_known at ss (Some (meaning.Loop k)) = tt
  found_known at ss (Some (meaning.Label k)) = tt

unfit_known : (f : Found) → KnownFound f → AreKnown (unfit_faults f)
unfit_known (places.unfit f) h = (h, tt)
unfit_known not_known h = tt
unfit_known (procedure b m) h = tt
unfit_known (shared b i from m) h = tt
unfit_known (private m) h = tt
unfit_known other h = tt

taken_known : (at : At) (f : Found) (w : Mode) → AreKnown (private_faults at f w)
taken_known at (private m) w = by_test (place_starts m (out-Mode w)) (fault.RefOfLocal at ∷ []) [] (refl, tt) tt
taken_known at (places.unfit f) w = tt
taken_known at not_known w = tt
taken_known at (procedure b m) w = tt
taken_known at (shared b i from m) w = tt
taken_known at other w = tt

-- ---- starts

record KnownStart (w : Written) : Type 0 where
  names : AreKnown w.unknown
  places : (m : Mode) → AreKnown (w.private m)

abbrev KnownStarts : List Written → Type 0
KnownStarts = AllByRecursion KnownStart

abbrev private_in : Written → Mode → List CheckFault
private_in w = w.private

unknown_known : (ws : List Written) → KnownStarts ws → AreKnown (all_unknown ws)
unknown_known [] h = tt
unknown_known (w ∷ ws) h = append w.unknown (all_unknown ws) h.0.names (unknown_known ws h.1)

each_known : (ws : List Written) (m : Mode) → KnownStarts ws → AreKnown (in_each (λ w. w.private) ws m)
each_known [] m h = tt
each_known (w ∷ ws) m h = append (w.private m) (in_each (λ w. w.private) ws m) (h.0.places m) (each_known ws m h.1)

all_known : (w : Written) (fs : List Field) → KnownStart w → AreKnown (in_all (λ w. w.private) w fs)
all_known w [] h = tt
all_known w (f ∷ fs) h = append (w.private f.mode) (in_all (λ w. w.private) w fs) (h.places f.mode) (all_known w fs h)

these_known : (ws : List Written) (fs : List Field) → KnownStarts ws → AreKnown (in_these (λ w. w.private) ws fs)
these_known [] fs h = tt
these_known (w ∷ ws) fs h =
    append (in_all (λ w. w.private) w (take w.copies fs)) (in_these (λ w. w.private) ws (drop w.copies fs)) (all_known w (take w.copies fs) h.0) (these_known ws (drop w.copies fs) h.1)

in_parts_known : (ws : List Written) (w : Wanted) → KnownStarts ws → AreKnown (in_parts (λ w. w.private) ws w)
in_parts_known ws (elements m) h = each_known ws m h
in_parts_known ws (fields fs) h = these_known ws fs h
in_parts_known ws nothing h = tt

module _ (rs : List RecordDef) (seen : Names) (strings : List ℕ) where
  abbrev meant : Start → Written
  meant = start.written rs seen strings

  abbrev Good : Start → Type 0
  Good s = KnownStart (meant s)

  abbrev Pair : Type 0
  Pair = (s : Start) × Good s

  abbrev inner : List Pair → List Start
  inner ps = map (λ (p : Pair). p.0) ps

  meant_here : (s : Start) (l : Start-F Start) → out-Start s ≡ l → KnownStart (written_layer rs seen strings (map-Start Start Written meant l)) → Good s
  meant_here s l o h = subst KnownStart (sym (let at : meant s ≡ written_layer rs seen strings (map-Start Start Written meant l) = rw (fold_out-Start, o) refl in at)) h

  parts_good : (ps : List Pair) → KnownStarts (map meant (inner ps))
  parts_good [] = tt
  parts_good (p ∷ ps) = (p.1, parts_good ps)

  list_good : (ws : List Written) (n : ℕ) (want : Mode → Wanted) → KnownStarts ws → KnownStart (start.written_list rs seen strings ws n want)
  list_good ws n want h = record { names = unknown_known ws h; places = λ m. in_parts_known ws (want m) h }

  opened : (s : Start) (y : Start-F Pair) → out-Start s ≡ map-Start Pair Start (λ p. p.0) y → Good s
  opened s (Start-F.Number g n c at) o = meant_here s (Start-F.Number g n c at) o (record { names = tt; places = λ m. tt })
  opened s (Start-F.Text t at) o = meant_here s (Start-F.Text t at) o (record { names = tt; places = λ m. tt })
  opened s (Start-F.Place i ss) o =
      let f = found rs i.at ss (seen i.name) in
      meant_here s (Start-F.Place i ss) o (record { names = unfit_known f (found_known rs i.at ss (seen i.name)); places = λ m. taken_known i.at f m })
  opened s (Start-F.List ps c at) o =
      meant_here s (Start-F.List (inner ps) c at) o (
      list_good (map meant (inner ps)) (start.copies_by c) (λ m. wanted rs (map (λ w. w.copies) (map meant (inner ps))) (out-Mode m)) (parts_good ps)
      )

  out_roll : (l : Start-F Start) → out-Start (roll-Start l) ≡ l
  out_roll l = search the_lemmas

  good : (s : Start) → Good s
  good = ind-Start Good (λ x y is. opened (roll-Start x) y (out_roll x ∙ sym is))

-- ---- data bricks

or_known : (fs gs : List CheckFault) → AreKnown fs → AreKnown gs → AreKnown (starts.or_else fs gs)
or_known [] gs h k = k
or_known (f ∷ fs) gs h k = h

bad_known : (b : Bool) (at : At) → AreKnown (starts.bad_unless b at)
bad_known true at = tt
bad_known false at = (refl, tt)

module _ (s : Sight) where
  here : (x : Start) → KnownStart (written_in s x)
  here x = good s.records (find s) s.strings x

  start_known : (at : At) (x : Option Start) (m : Mode) → AreKnown (starts.start_faults s at x m)
  start_known at None m = bad_known (has_default s.records m) at
  start_known at (Some x) m =
      let w = written_in s x in
      or_known w.unknown (starts.known_faults at w m) (here x).names (or_known (w.private m) (starts.bad_unless (w.fits m && w.copies == 1) at) ((here x).places m) (bad_known (w.fits m && w.copies == 1) at))

  alone_known : (x : Option Start) → AreKnown (starts.unknown_in s x)
  alone_known None = tt
  alone_known (Some x) = (here x).names

  item_known : (at : At) (x : Option Start) (g : Given) → AreKnown (starts.faults_by s at x g)
  item_known at x (given.Mode m) = start_known at x m
  item_known at x given.Unknown = alone_known x

  started_known : (is : List DataItem) (ps : List Part) → AreKnown (starts.items_faults s is ps)
  started_known [] ps = tt
  started_known (i ∷ is) [] = tt
  started_known (i ∷ is) (p ∷ ps) = append (starts.faults_by s i.name.at i.start p.has) (starts.items_faults s is ps) (item_known i.name.at i.start p.has) (started_known is ps)

  lines_known : (ls : List DataLine) (ps : List Part) → AreKnown (starts.brick_faults s ls ps)
  lines_known [] ps = tt
  lines_known (l ∷ ls) ps =
      append (starts.items_faults s l.items ps) (starts.brick_faults s ls (drop (length l.items) ps)) (started_known l.items ps) (lines_known ls (drop (length l.items) ps))

  brick_known : (t : Table) (ls : List DataLine) (ps : List Part) (g : CheckFault) → BrickFault t s ls ps g → is_unknown g ≡ false
  brick_known t ls ps g (in_items i) = one_of (starts.brick_faults s ls ps) g (lines_known ls ps) i
  brick_known t ls ps g (in_whole n l) = large_known t ps g l

-- ---- the whole

module _ (bodies : BodiesAreKnown) where
  inside_known : (s : Sight) (t : Table) (g : CheckFault) (h : Option Heading) (d : Declaration) → Inside s t g h d → is_unknown g ≡ false
  inside_known s t g h (declares.Data d) i = brick_known s t d.lines (items_in h) g i
  inside_known s t g h (declares.ImportedData d) i = large_known t (items_in h) g i
  inside_known s t g h (declares.Procedure p) i = bodies s p g i
  inside_known s t g h (declares.Record r) i = absurd i
  inside_known s t g h (declares.Stack k) i = absurd i
  inside_known s t g h (declares.ImportedProcedures p) i = absurd i
  inside_known s t g h (declares.ImportedStacks k) i = absurd i

  somewhere_known : (s : Sight) (t : Table) (g : CheckFault) (hs : List Heading) (ds : List Declaration) → Somewhere (Inside s t g) hs ds → is_unknown g ≡ false
  somewhere_known s t g hs [] i = absurd i
  somewhere_known s t g hs (d ∷ ds) i = elim i [ inl h ↦ inside_known s t g (first hs) d h | inr k ↦ somewhere_known s t g (drop (bricks_in d) hs) ds k ]

  pub faults_are_known : FaultsAreKnown
  faults_are_known ds g (in_names i) = one_of (name_faults ds) g (twice_known [] (names ds)) i
  faults_are_known ds g (in_modes m) = record_known (modes_seen ds) _ m.0 m.1 g m.3
  faults_are_known ds g (in_bricks i) = one_of (brick_faults (modes_seen ds) ds) g (bricks_known (modes_seen ds) ds) i
  faults_are_known ds g (inside i) = somewhere_known (sight ds) (records ds) g (headings ds) ds i
