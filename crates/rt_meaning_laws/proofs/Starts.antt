-- What the starts of data make suits the modes of their items.
use Rattle.std.proofs.Common.{◌≡◌, ℕ, zero, suc, ◌-◌, ◌<◌, nat_lt, nat_le, ◌==◌, Bool, true, false, if◌then◌else◌, List, [], ◌∷◌, ◌++◌, append_assoc, map, Option, Some, None, length, slice_get, refl, sym, ap, ◌∙◌, subst, arith}
use Rattle.std.specs.List.{Contains}
use Rattle.std.proofs.lemmas.Bool.Decides.{nat_tests}
use Rattle.std.proofs.lemmas.List.{append-nil}
use Rattle.std.proofs.lemmas.List.Elements.{Contains-push, Contains-append_left, Contains-append_right}
use Rattle.rt_modes.specs.declared.mode.Field.{Field}
use Rattle.rt_modes.specs.declared.mode.Mode.{Mode, out-Mode}
use Rattle.rt_modes.specs.declared.mode.Mode.TheOpen.{Mode-F}
use Rattle.rt_modes.specs.declared.mode.Mode.TheVariants as mode
use Rattle.rt_modes.specs.declared.mode.ModeTable.{ModeTable}
use Rattle.rt_modes.specs.declared.mode.RecordDef.{RecordDef}
use Rattle.rt_modes.specs.FullMode.{joined}
use Rattle.rt_tree_nodes.specs.declared.brick.Brick.{Brick}
use Rattle.rt_tree_nodes.specs.declared.brick.BrickSort.{BrickSort}
use Rattle.rt_tree_nodes.specs.declared.brick.BrickSort.TheVariants as sort
use Rattle.rt_tree_nodes.specs.declared.brick.DataStart.{DataStart, out-DataStart, roll-DataStart, map-DataStart}
use Rattle.rt_tree_nodes.specs.declared.brick.DataStart as data_start
use Rattle.rt_tree_nodes.specs.declared.brick.DataStart.TheFolds.{ind-DataStart, fold_out-DataStart}
use Rattle.rt_tree_nodes.specs.declared.brick.DataStart.TheOpen.{DataStart-F}
use Rattle.rt_tree_nodes.specs.declared.brick.ModuleParts.{ModuleParts}
use Rattle.rt_tree_nodes.specs.declared.store.Contents.{Contents, out-Contents}
use Rattle.rt_tree_nodes.specs.declared.store.Contents as store_contents
use Rattle.rt_tree_nodes.specs.declared.store.Contents.TheOpen.{Contents-F}
use Rattle.rt_tree_nodes.specs.declared.store.Contents.TheVariants as contents
use Rattle.rt_tree_nodes.specs.declared.store.Datum.{Datum}
use Rattle.rt_tree_nodes.specs.declared.store.Datum.TheVariants.{Word, Row, Procedure}
use Rattle.rt_tree_nodes.specs.declared.store.Location.{Location}
use Rattle.rt_tree_nodes.specs.declared.store.Location.TheVariants as location
use Rattle.rt_tree_nodes.specs.declared.store.Origin.{Origin}
use Rattle.rt_tree_nodes.specs.declared.store.Origin.TheVariants as origin
use Rattle.rt_tree_nodes.specs.declared.store.Proc.{Proc}
use Rattle.rt_tree_nodes.specs.Scopes.{Scope, with, passes, same, is_svc, field_at, faces, sort_of, proc_mode, scope_of}
use Rattle.rt_tree_nodes.proofs.Same.{same_equal}
use Rattle.rt_tree.specs.Modules as modules
use Rattle.rt_tree.specs.Modules.{Starts, part_mode, mode_along, shared_of, data_in, shared_mode, number_starts, text_starts, is_array_of, place_starts, all_start, fields_start, record_starts, list_starts}
use Rattle.rt_tree.specs.Stored as s
use Rattle.rt_tree.specs.Stored.{System, HasBrick, StandsFor, Suits, IsCandidate, Holds, HoldAll, HoldEach, module_of}
use Rattle.rt_tree.specs.Taken.{in_start, taken}
use Rattle.rt_tree.specs.Taken as names
use Rattle.rt_resolve.specs.Bindings.{bound, proc_or_none}
use Rattle.rt_resolve.specs.Starting as starting
use Rattle.rt_resolve.specs.Starting.{Home, Starting, lead, array_length, length_found, location_of, leads_by, elements, parts, record_parts, listed, place_start, home_of}
use Rattle.rt_resolve.specs.Systems.{env_of}
use Rattle.rt_work_state.specs.Nodes as n
use Rattle.rt_work_state.specs.Stores.{deeper}
use Rattle.rt_work_state.specs.Items.{item_of}
use Rattle.rt_work.specs.Task.{in_row}
use Rattle.rt_meaning_laws.specs.Levels.{of_module}
use Rattle.rt_meaning_laws.specs.Slots.{LeadsTo}
use Rattle.rt_meaning_laws.specs.Trees.{Site}
use Rattle.rt_meaning_laws.specs.Grounds.{Sound, Grounds}
use Rattle.rt_meaning_laws.specs.Starting.{one_number, numbers_in}
use Rattle.rt_meaning_laws.specs.Systems.{SystemFits}
use Rattle.rt_meaning_laws.proofs.Modes.{out_byte}
use Rattle.rt_meaning_laws.proofs.Places.{row_of, element_leads, field_leads, elements_stand, rows_stand}
use Rattle.rt_resolve_laws.proofs.Links.{bound_stands, brick_bound}
use Rattle.rt_meaning_laws.proofs.Grounding.{proc_there, item_leads, bound_here, module_grounds, not_svc}
use Rattle.rt_meaning_laws.proofs.Small.{left_of, right_of, passed, none_left}
use Rattle.rt_meaning_laws.proofs.Writing.{parts_out}

datum_out : (d : Datum) → out-Contents (contents.Datum d) ≡ Contents-F.Datum d
datum_out d = search store_contents.the_lemmas

out_roll : (x : DataStart-F DataStart) → out-DataStart (roll-DataStart x) ≡ x
out_roll x = search data_start.the_lemmas

module _ (ps : System) (fits : SystemFits ps) (so : Sound ps) (m : ℕ) (p : ModuleParts) (of : module_of ps m ≡ Some p) where
  abbrev t : ModeTable
  t = p.modes

  abbrev c : Scope
  c = scope_of p

  abbrev h : Home
  h = home_of ps m p

  abbrev site : Site
  site = record { parts = p; locals = []; answer = None; at_label = λ l. None }

  g : Grounds ps site (n.env (env_of ps m p))
  g = module_grounds ps fits so m site of

  -- ---- places of data

  step_in : (v w : Mode) (k : ℕ) (l : Location) (z : Mode-F Mode) → out-Mode v ≡ z → LeadsTo ps t v l → part_mode t.records k z ≡ Some w → LeadsTo ps t w (deeper l k)
  step_in v w k l (Mode-F.Record r) o lead e = field_leads ps so t (of_module m of) v w r k l lead o e
  step_in v w k l (Mode-F.Array i u) o lead e = in_array (nat_lt k i) refl e
    where
      in_array : (b : Bool) → nat_lt k i ≡ b → (if b then Some u else None) ≡ Some w → LeadsTo ps t w (deeper l k)
      in_array true q e =
          let is : u ≡ w = cc in
          let o2 : out-Mode v ≡ Mode-F.Array i w = o ∙ ap (λ (x : Mode). Mode-F.Array i x) is in
          let r : in_row (suc k) i ≡ true = grind (arith, nat_tests) in
          let back : suc k - 1 ≡ k = omega arith in
          subst (λ (j : ℕ). LeadsTo ps t w (deeper l j)) back (element_leads ps so t (of_module m of) v w i (suc k) l lead o2 (elements_stand t v w i o2 lead.here) r)
      in_array false q e = absurd cc
  step_in v w k l _ o lead e = absurd cc

  onward : (o : Origin) (q path : List ℕ) (v w : Mode) (k : ℕ) (x : Option Mode) → part_mode t.records k (out-Mode v) ≡ x → with x (mode_along t.records path) ≡ Some w → LeadsTo ps t v (location.Shared o q)
      → ((u : Mode) → LeadsTo ps t u (location.Shared o (q ++ k ∷ [])) → mode_along t.records path u ≡ Some w → LeadsTo ps t w (location.Shared o ((q ++ k ∷ []) ++ path))) → LeadsTo ps t w (location.Shared o (q ++ k ∷ path))
  onward o q path v w k None e f lead go = absurd cc
  onward o q path v w k (Some u) e f lead go =
      subst (λ (y : List ℕ). LeadsTo ps t w (location.Shared o y)) (append_assoc q (k ∷ []) path) (go u (step_in v u k (location.Shared o q) (out-Mode v) refl lead e) f)

  path_leads : (o : Origin) (path q : List ℕ) (v w : Mode) → LeadsTo ps t v (location.Shared o q) → mode_along t.records path v ≡ Some w → LeadsTo ps t w (location.Shared o (q ++ path))
  path_leads o [] q v w lead e =
      let is : v ≡ w = cc in
      subst (λ (y : List ℕ). LeadsTo ps t w (location.Shared o y)) (sym (append-nil q)) (subst (λ (x : Mode). LeadsTo ps t x (location.Shared o q)) is lead)
  path_leads o (k ∷ path) q v w lead e = onward o q path v w k (part_mode t.records k (out-Mode v)) refl e lead (λ u l2 f. path_leads o path (q ++ k ∷ []) u w l2 f)

  -- a place of data that all tasks share, and where it is
  abbrev IsPlaceOf : List Brick → ℕ → ℕ → List ℕ → Mode → Type 0
  IsPlaceOf bs b j path w = (d : Brick) × (fs : List Field) × (ss : List DataStart) × (v : Mode) × (slice_get bs b ≡ Some d) × (d.sort ≡ sort.Data fs ss) × (is_svc d.kind ≡ false) × (field_at fs j ≡ Some v) × (mode_along t.records path v ≡ Some w)

  in_fields : (fs : List Field) (j : ℕ) (path : List ℕ) (w : Mode) (o : Option Mode) → field_at fs j ≡ o → with o (mode_along t.records path) ≡ Some w → (v : Mode) × (field_at fs j ≡ Some v) × (mode_along t.records path v ≡ Some w)
  in_fields fs j path w None e f = absurd cc
  in_fields fs j path w (Some v) e f = (v, e, f)

  in_shared : (d : Brick) (j : ℕ) (path : List ℕ) (w : Mode) (b : Bool) (z : BrickSort) → is_svc d.kind ≡ b → d.sort ≡ z → with (if b then None else data_in (sort_of z)) (λ fs. with (field_at fs j) (mode_along t.records path)) ≡ Some w
      → (fs : List Field) × (ss : List DataStart) × (v : Mode) × (d.sort ≡ sort.Data fs ss) × (is_svc d.kind ≡ false) × (field_at fs j ≡ Some v) × (mode_along t.records path v ≡ Some w)
  in_shared d j path w true z k e f = absurd cc
  in_shared d j path w false (sort.Data fs ss) k e f = let r = in_fields fs j path w (field_at fs j) refl f in (fs, ss, r.0, e, k, r.1, r.2)
  in_shared d j path w false (sort.Proc v body) k e f = absurd cc
  in_shared d j path w false (sort.Stack i) k e f = absurd cc

  place_of : (bs : List Brick) (b j : ℕ) (path : List ℕ) (w : Mode) → with (slice_get (faces bs) b) (λ d. with (shared_of d) (λ fs. with (field_at fs j) (mode_along t.records path))) ≡ Some w → IsPlaceOf bs b j path w
  place_of [] b j path w e = absurd cc
  place_of (d ∷ bs) zero j path w e = let r = in_shared d j path w (is_svc d.kind) d.sort refl refl e in (d, r.0, r.1, r.2, refl, r.3, r.4, r.5, r.6)
  place_of (d ∷ bs) (suc b) j path w e = place_of bs b j path w e

  lead_is : (b : ℕ) (d : Brick) → slice_get p.bricks b ≡ Some d → lead h b ≡ bound ps m b d
  lead_is b d e = ap proc_or_none (brick_bound ps m b p d e)

  place_there : (b j : ℕ) (path : List ℕ) (w : Mode) → shared_mode c b j path ≡ Some w → LeadsTo ps t w (location_of (lead h b) j path)
  place_there b j path w e =
      let r = place_of p.bricks b j path w e in
      let has : HasBrick ps m b p r.0 = record { of = of; at = r.4 } in
      let st : StandsFor ps m b (bound ps m b r.0) = bound_stands ps fits.matched has (λ k. absurd (not_svc ps fits so r.0 r.6 k)) in
      let item : LeadsTo ps t r.3 (item_of (bound ps m b r.0) j) = item_leads ps fits so j r.3 r.1 r.2 (bound ps m b r.0) st has r.5 r.6 r.7 in
      subst (λ (f : Proc). LeadsTo ps t w (location_of f j path)) (sym (lead_is b r.0 r.4)) (path_leads (origin.Brick (bound ps m b r.0).module (bound ps m b r.0).brick) path (j ∷ []) r.3 w item r.8)

  -- ---- starts of one value

  abbrev Suit : Mode → Datum → Type 0
  Suit w d = Suits ps t w d

  one_holds : (w : Mode) (d : Datum) → Suit w d → Holds ps t w (contents.Datum d)
  one_holds w d e = s.one (datum_out d) e

  number_holds : (w : Mode) (k : ℕ) (l : Mode-F Mode) → out-Mode w ≡ l → number_starts k l ≡ true → k < 65536 → Suit w (Word k)
  number_holds w k Mode-F.Byte o e r = s.byte o (low e)
    where
      low : nat_le k 255 ≡ true → k < 256
      low e = grind (arith, nat_tests)
  number_holds w k Mode-F.Int o e r = s.int o r
  number_holds w k Mode-F.Frac o e r = s.frac o r
  number_holds w k _ o e r = absurd cc

  text_holds : (w : Mode) (k : ℕ) (l : Mode-F Mode) → out-Mode w ≡ l → text_starts c k l ≡ true → Suit w (starting.text_of h k)
  text_holds w k (Mode-F.RefArray v) o e =
      let byte : v ≡ mode.Byte = same_equal v mode.Byte (left_of (same v mode.Byte) (nat_lt k (length p.strings)) e) in
      g.texts k w v (low (right_of (same v mode.Byte) (nat_lt k (length p.strings)) e)) o (ap out-Mode byte ∙ out_byte)
    where
      low : nat_lt k (length p.strings) ≡ true → k < length p.strings
      low e = grind (arith, nat_tests)
  text_holds w k _ o e = absurd cc

  proc_holds : (w : Mode) (b : ℕ) → passes (same w) (proc_mode (faces p.bricks) b) ≡ true → Contains (taken p) b → Suit w (Procedure (lead h b))
  proc_holds w b e k =
      let r = passed (same w) (proc_mode (faces p.bricks) b) e in
      let is : w ≡ r.0 = same_equal w r.0 r.2 in
      let pm : proc_mode (faces p.bricks) b ≡ Some w = r.1 ∙ ap (λ (x : Mode). Some x) (sym is) in
      let opens = g.procs b w pm in
      let d = proc_there p.bricks b w pm in
      subst (λ (f : Proc). Suit w (Procedure f)) (bound_here ps fits so m b p d.0 d.1 ∙ sym (lead_is b d.0 d.1)) (s.procedure opens.2 (g.taken_are b w pm k))

  place_holds : (w v : Mode) (l : Location) (z y : Mode-F Mode) → out-Mode w ≡ z → out-Mode v ≡ y → LeadsTo ps t v l → modules.place_starts v z ≡ true → Suit w (leads_by z l (Some v))
  place_holds w v l (Mode-F.Ref u) y o q lead e =
      let is : u ≡ v = same_equal u v e in
      s.reference (o ∙ ap (λ (x : Mode). Mode-F.Ref x) is) lead.at lead.same
  place_holds w v l (Mode-F.RefArray u) (Mode-F.Array i x) o q lead e =
      let test : is_array_of u (Mode-F.Array i x) ≡ true = sym (ap (λ (z : Mode-F Mode). is_array_of u z) q) ∙ e in
      let is : u ≡ x = same_equal u x test in
      let o2 : out-Mode w ≡ Mode-F.RefArray x = o ∙ ap (λ (z : Mode). Mode-F.RefArray z) is in
      let row = row_of ps so t (of_module m of) v x w i l lead q o2 (rows_stand t v x w i q o2 lead.here) in
      subst (λ (k : ℕ). Suit w (Row l k)) (sym (ap array_length q)) row.0
  place_holds w v l (Mode-F.RefArray u) y o q lead e = let test : is_array_of u y ≡ true = sym (ap (λ (z : Mode-F Mode). is_array_of u z) q) ∙ e in absurd cc
  place_holds w v l _ y o q lead e = absurd cc

  -- ---- all starts

  abbrev In : List ℕ → Type 0
  In names_of = (b : ℕ) → Contains names_of b → Contains (taken p) b

  abbrev Words : List ℕ → Type 0
  Words numbers = (k : ℕ) → Contains numbers k → k < 65536

  -- What a start makes suits each mode that the start fits.
  abbrev Good : DataStart → Type 0
  Good d = (w : Mode) → modules.starts c d w ≡ true → In (in_start d) → Words (numbers_in d) → Holds ps t w (starting.starts h d w)

  abbrev Pair : Type 0
  Pair = (d : DataStart) × Good d

  abbrev firsts : List Pair → List DataStart
  firsts xs = map (λ (e : Pair). e.0) xs

  in_first : {A : Type 0} (f : DataStart → List A) (x : Pair) (xs : List Pair) (b : A) → Contains (f x.0) b → Contains (joined (map f (firsts (x ∷ xs)))) b
  in_first f x xs b e = Contains-append_left (f x.0) (joined (map f (firsts xs))) b e

  in_rest : {A : Type 0} (f : DataStart → List A) (x : Pair) (xs : List Pair) (b : A) → Contains (joined (map f (firsts xs))) b → Contains (joined (map f (firsts (x ∷ xs)))) b
  in_rest f x xs b e = Contains-append_right (f x.0) (joined (map f (firsts xs))) b e

  all_hold : (xs : List Pair) (w : Mode) → all_start (map (modules.starts c) (firsts xs)) w ≡ true → In (joined (map in_start (firsts xs))) → Words (joined (map numbers_in (firsts xs))) → HoldAll ps t w (elements (map (starting.starts h) (firsts xs)) w)
  all_hold [] w e i k = s.no_element
  all_hold (x ∷ xs) w e i k =
      s.one_element (x.1 w (left_of (modules.starts c x.0 w) (all_start (map (modules.starts c) (firsts xs)) w) e) (λ b q. i b (in_first in_start x xs b q)) (λ b q. k b (in_first numbers_in x xs b q)))
      (all_hold xs w (right_of (modules.starts c x.0 w) (all_start (map (modules.starts c) (firsts xs)) w) e) (λ b q. i b (in_rest in_start x xs b q)) (λ b q. k b (in_rest numbers_in x xs b q)))

  each_hold : (xs : List Pair) (fs : List Field) → fields_start (map (modules.starts c) (firsts xs)) fs ≡ true → In (joined (map in_start (firsts xs))) → Words (joined (map numbers_in (firsts xs))) → HoldEach ps t fs (parts (map (starting.starts h) (firsts xs)) fs)
  each_hold [] [] e i k = s.no_field
  each_hold [] (f ∷ fs) e i k = absurd (none_left (length fs) e)
  each_hold (x ∷ xs) [] e i k = absurd cc
  each_hold (x ∷ xs) (f ∷ fs) e i k =
      s.one_field (x.1 f.mode (left_of (modules.starts c x.0 f.mode) (fields_start (map (modules.starts c) (firsts xs)) fs) e) (λ b q. i b (in_first in_start x xs b q)) (λ b q. k b (in_first numbers_in x xs b q)))
      (each_hold xs fs (right_of (modules.starts c x.0 f.mode) (fields_start (map (modules.starts c) (firsts xs)) fs) e) (λ b q. i b (in_rest in_start x xs b q)) (λ b q. k b (in_rest numbers_in x xs b q)))

  elements_count : (xs : List Pair) (w : Mode) → length (elements (map (starting.starts h) (firsts xs)) w) ≡ length (map (modules.starts c) (firsts xs))
  elements_count [] w = refl
  elements_count (x ∷ xs) w = ap suc (elements_count xs w)

  record_holds : (xs : List Pair) (w : Mode) (r : ℕ) (o : Option RecordDef) → out-Mode w ≡ Mode-F.Record r → slice_get t.records r ≡ o → record_starts (map (modules.starts c) (firsts xs)) o ≡ true → In (joined (map in_start (firsts xs))) → Words (joined (map numbers_in (firsts xs)))
      → Holds ps t w (contents.Parts (record_parts (map (starting.starts h) (firsts xs)) o))
  record_holds xs w r None o q e i k = absurd cc
  record_holds xs w r (Some d) o q e i k = s.of_record o q (parts_out (parts (map (starting.starts h) (firsts xs)) d.fields)) (each_hold xs d.fields e i k)

  list_holds : (xs : List Pair) (w : Mode) (z : Mode-F Mode) → out-Mode w ≡ z → list_starts t.records (map (modules.starts c) (firsts xs)) z ≡ true → In (joined (map in_start (firsts xs))) → Words (joined (map numbers_in (firsts xs)))
      → Holds ps t w (contents.Parts (listed t.records (map (starting.starts h) (firsts xs)) z))
  list_holds xs w (Mode-F.Array j v) o e i k =
      let cs : List Contents = elements (map (starting.starts h) (firsts xs)) v in
      let count : length cs ≡ j = elements_count xs v ∙ same_count (length (map (modules.starts c) (firsts xs))) j (left_of (length (map (modules.starts c) (firsts xs)) == j) (all_start (map (modules.starts c) (firsts xs)) v) e) in
      s.of_array (o ∙ ap (λ (y : ℕ). Mode-F.Array y v) (sym count)) (parts_out cs) (all_hold xs v (right_of (length (map (modules.starts c) (firsts xs)) == j) (all_start (map (modules.starts c) (firsts xs)) v) e) i k)
    where
      same_count : (a b : ℕ) → (a == b) ≡ true → a ≡ b
      same_count a b e = grind (arith, nat_tests)
  list_holds xs w (Mode-F.Record r) o e i k = record_holds xs w r (slice_get t.records r) o refl e i k
  list_holds xs w _ o e i k = absurd cc

  -- one start, by its form
  of_form : (w : Mode) (y : DataStart-F Pair) → modules.one_start c (map-DataStart DataStart Starts (modules.starts c) (map-DataStart Pair DataStart (λ e. e.0) y)) w ≡ true
      → In (names.one_start (map-DataStart DataStart (List ℕ) in_start (map-DataStart Pair DataStart (λ e. e.0) y))) → Words (one_number (map-DataStart DataStart (List ℕ) numbers_in (map-DataStart Pair DataStart (λ e. e.0) y)))
      → Holds ps t w (starting.one_start h (map-DataStart DataStart Starting (starting.starts h) (map-DataStart Pair DataStart (λ e. e.0) y)) w)
  of_form w (DataStart-F.Number k) e i r = one_holds w (Word k) (number_holds w k (out-Mode w) refl e (r k (Contains-push [] k)))
  of_form w (DataStart-F.Text k) e i r = one_holds w (starting.text_of h k) (text_holds w k (out-Mode w) refl e)
  of_form w (DataStart-F.Proc b) e i r = one_holds w (Procedure (lead h b)) (proc_holds w b e (i b (Contains-push [] b)))
  of_form w (DataStart-F.Place b j path) e i r =
      let x = passed (λ (v : Mode). place_starts v (out-Mode w)) (shared_mode c b j path) e in
      one_holds w (place_start h b j path w) (subst (λ (o : Option Mode). Suit w (leads_by (out-Mode w) (location_of (lead h b) j path) o)) (sym x.1) (place_holds w x.0 (location_of (lead h b) j path) (out-Mode w) (out-Mode x.0) refl refl (place_there b j path x.0 x.1) x.2))
  of_form w (DataStart-F.List xs) e i r = list_holds xs w (out-Mode w) refl e i r

  by_form : (d : DataStart) (y : DataStart-F Pair) → out-DataStart d ≡ map-DataStart Pair DataStart (λ e. e.0) y → Good d
  by_form d y o w e i r =
      let one : modules.starts c d ≡ modules.one_start c (map-DataStart DataStart Starts (modules.starts c) (map-DataStart Pair DataStart (λ e. e.0) y)) = rw (fold_out-DataStart, o) refl in
      let two : in_start d ≡ names.one_start (map-DataStart DataStart (List ℕ) in_start (map-DataStart Pair DataStart (λ e. e.0) y)) = rw (fold_out-DataStart, o) refl in
      let three : numbers_in d ≡ one_number (map-DataStart DataStart (List ℕ) numbers_in (map-DataStart Pair DataStart (λ e. e.0) y)) = rw (fold_out-DataStart, o) refl in
      let four : starting.starts h d ≡ starting.one_start h (map-DataStart DataStart Starting (starting.starts h) (map-DataStart Pair DataStart (λ e. e.0) y)) = rw (fold_out-DataStart, o) refl in
      subst (λ (f : Starting). Holds ps t w (f w)) (sym four) (of_form w y (sym (ap (λ (f : Starts). f w) one) ∙ e) (subst (λ (ns : List ℕ). In ns) two i) (subst (λ (ns : List ℕ). Words ns) three r))

  pub start_holds : (d : DataStart) → Good d
  start_holds = ind-DataStart Good (λ x y is. by_form (roll-DataStart x) y (out_roll x ∙ sym is))

  -- the starts of a data brick
  pub items_hold : (ss : List DataStart) (fs : List Field) → fields_start (map (modules.starts c) ss) fs ≡ true → In (joined (map in_start ss)) → Words (joined (map numbers_in ss)) → HoldEach ps t fs (parts (map (starting.starts h) ss) fs)
  items_hold [] [] e i k = s.no_field
  items_hold [] (f ∷ fs) e i k = absurd (none_left (length fs) e)
  items_hold (x ∷ xs) [] e i k = absurd cc
  items_hold (x ∷ xs) (f ∷ fs) e i k =
      s.one_field (start_holds x f.mode (left_of (modules.starts c x f.mode) (fields_start (map (modules.starts c) xs) fs) e) (λ b q. i b (Contains-append_left (in_start x) (joined (map in_start xs)) b q)) (λ b q. k b (Contains-append_left (numbers_in x) (joined (map numbers_in xs)) b q)))
      (items_hold xs fs (right_of (modules.starts c x f.mode) (fields_start (map (modules.starts c) xs) fs) e) (λ b q. i b (Contains-append_right (in_start x) (joined (map in_start xs)) b q)) (λ b q. k b (Contains-append_right (numbers_in x) (joined (map numbers_in xs)) b q)))
