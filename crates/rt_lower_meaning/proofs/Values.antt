-- Values, and the addresses that are put on the stack: the code puts what the source does.
use Rattle.std.proofs.Common.{◌≡◌, ◌⊎◌, inl, inr, ℕ, suc, ◌+◌, ◌-◌, ◌<◌, Bool, true, false, List, [], ◌∷◌, ◌++◌, length, Option, Some, None, refl, sym, ap, ◌∙◌, subst}
use Rattle.std.specs.Prelude.{if◌then◌else◌}
use Rattle.std.specs.List.{Contains}
use Rattle.rt_modes.specs.declared.mode.Mode.{Mode, out-Mode}
use Rattle.rt_modes.specs.declared.mode.Mode.TheOpen.{Mode-F}
use Rattle.rt_modes.specs.declared.mode.Mode.TheVariants as mode
use Rattle.rt_tree_nodes.specs.declared.operators.Op2.{Op2}
use Rattle.rt_tree_nodes.specs.declared.store.Location.{Location}
use Rattle.rt_tree_nodes.specs.declared.store.Location.TheVariants as location
use Rattle.rt_tree_nodes.specs.declared.store.Datum.{Datum}
use Rattle.rt_tree_nodes.specs.declared.store.Datum.TheVariants.{Word, Reference, Row, Procedure}
use Rattle.rt_tree_nodes.specs.Tree.{Term, Num, Str, Name, Own, Get, Ref, RefRow, Count, CountRow, One, Two, Over, Apply, ApplyBy, Path, ItemAt, Svc, FieldOf, Elem, ElemRow, Past, Terms, NoTerm, MoreTerms}
use Rattle.rt_tree.specs.Stored as stored
use Rattle.rt_tree.specs.FullModes.{MayStand}
use Rattle.rt_work_state.specs.Stores.{deeper}
use Rattle.rt_work_state.specs.Items.{text, local, how_many, Item, Eval, At, Args, Fetch, Into, Pick, PickRow, Span, Tell, Length, Alter, Merge, Split, Enter, EnterBy, Next, Errors}
use Rattle.rt_tree_nodes.specs.Typing.{is_value}
use Rattle.rt_tree_nodes.specs.Scopes.{faces, field_mode, proc_mode}
use Rattle.rt_meaning.specs.Step.{on_values}
use Rattle.rt_work.specs.Task.{next, in_row, share_then}
use Rattle.rt_work.specs.Numbers.{one_of, two_of, divided}
use Rattle.rt_meaning_laws.specs.Slots.{LeadsTo, IsInt, IsOf, AreOf}
use Rattle.rt_meaning_laws.specs.Trees.{Started, table, local_mode, IsNumber, IsWord, is_division, OwnFits, TermFits, PathFits, TermsFit, CallFits}
use Rattle.rt_meaning_laws.specs.Work.{LocalsFit}
use Rattle.rt_meaning_laws.proofs.Modes.{is_ref, int_is_word, int_is_number, number_is_word, number_is}
use Rattle.rt_meaning_laws.proofs.Operators.{monadic_gives, dyadic_gives}
use Rattle.rt_meaning_laws.proofs.Numbers.{two_below, divided_below}
use Rattle.rt_meaning_laws.proofs.Places.{row_of, element_leads, row_leads, field_leads, place_is, of_suits, elements_stand, row_elements_stand, rows_stand, byte_rows_stand}
use Rattle.rt_meaning_laws.proofs.Terms.{given_one, numeral, count_terms}
use Rattle.rt_frames.specs.declared.frame.Target.TheVariants as target
use Rattle.rt_frames.specs.Points.{point}
use Rattle.rt_icode.specs.declared.ins.Fixed.{Fixed}
use Rattle.rt_icode.specs.declared.ins.Width.TheVariants as width
use Rattle.rt_icode.specs.declared.ins.Ins.{Ins}
use Rattle.rt_icode.specs.declared.ins.Ins.TheVariants as ins
use Rattle.rt_lower.specs.declared.site.Site.{Site}
use Rattle.rt_lower.specs.declared.site.Site.TheVariants as site
use Rattle.rt_lower.specs.Layouts.{field_offset, bytes}
use Rattle.rt_lower.specs.Values.{width_of, own_item, site_of, wanted, read, reached, row_reached, told, element, altered, merged, division_of, is_sure, divided as lowered_division, value, address, values, alone}
use Rattle.rt_icode_meaning.specs.Move.{Loads, local_if, sure, element as moved_to, place_of, move}
use Rattle.rt_icode_meaning.specs.Typed.{IsWide, IsSize, AreWords, HasField, IsRow as IsRowOf, Rests, AnswerOf}
use Rattle.rt_lower_meaning.specs.Setting.{Setting, Runs, Stands}
use Rattle.rt_lower_meaning.specs.Right.{above, RightTerm, RightPath, RightTerms}
use Rattle.rt_lower_meaning.proofs.Calling.{gives_some, Back, enter_runs, enter_by_runs, divide_runs}
use Rattle.rt_lower_meaning.proofs.Dividing.{sure_number, safe_gives}
use Rattle.rt_lower_meaning.proofs.Modes.{array_in_array, array_in_row}
use Rattle.rt_lower_meaning.proofs.Layers.{by_word, by_place, by_row, by_procedure, wide, own_there, own_wide, number_small, local_inside, leads_shared}
use Rattle.rt_lower_meaning.proofs.Operators.{alter_runs, merge_runs, division_same}
use Rattle.rt_lower_meaning.proofs.Rows.{row_part}
use Rattle.rt_lower_meaning.proofs.Pushed.{pushed, many}
use Rattle.rt_lower_meaning.proofs.Sites.{sited, record_stacked, fixed_next, fixed_is, found_field}
use Rattle.rt_lower_meaning.proofs.Spans.{Spans, spans_split}
use Rattle.rt_lower_meaning.proofs.Steps.{onward, puts, loads, errs}

module _ (s : Setting) (h : Stands s) where
  abbrev Goes : ℕ → ℕ → List Datum → List Datum → Next → Type 0
  Goes k pc us ks n = Runs s k pc us ks n

  abbrev Is : Mode → Datum → Type 0
  Is m d = IsOf s.system (table s.site) m d

  abbrev Leads : Mode → Location → Type 0
  Leads m l = LeadsTo s.system (table s.site) m l

  abbrev after : List Item → List Datum → List Datum → Next
  after rest vs ks = next s.env rest vs ks

  abbrev At_code : ℕ → List Ins → ℕ → Type 0
  At_code pc is to = Spans s.code pc is to

  -- the code where the site of a place is known
  by_known : (p q : Site) (pc to : ℕ) (f : Site → List Ins) → p ≡ q → At_code pc (f p) to → At_code pc (f q) to
  by_known p q pc to f e sp = subst (λ x. At_code pc (f x) to) e sp

  -- ---- locals

  own_runs : (i : ℕ) (m : Mode) (b : Started) (k pc to : ℕ) (us vs ks : List Datum) (rest : List Item) → local_mode s.site i ≡ Some m → b i ≡ true → At_code pc (ins.LoadLocal i ∷ []) to → LocalsFit s.system s.site b ks
      → ((d : Datum) → Is m d → Goes k to (d ∷ us) ks (after rest (d ∷ vs) ks)) → Goes k pc us ks (after rest (local ks i ∷ vs) ks)
  own_runs i m b k pc to us vs ks rest lm st sp l go =
      let is = l.started i m lm st in
      let less = local_inside s.site i m ks lm l.count in
      puts s h k pc to (ins.LoadLocal i) us us ks m (local ks i) (after rest (local ks i ∷ vs) ks) sp (ap (λ c. local_if c i pc us ks) less) (λ w. w) is tt (go (local ks i) is)

  -- ---- places

  -- the code of an address puts it, with what comes behind
  abbrev Addressed : Path → Mode → ℕ → List Datum → List Datum → List Datum → Type 0
  Addressed q m k us vs ks =
      (pc to : ℕ) (rest : List Item) → site_of s.layouts q ≡ site.Stacked → At_code pc (address s.layouts q) to → ((p : Location) → Leads m p → Goes k to (Reference p ∷ us) ks (after rest (Reference p ∷ vs) ks)) → Goes k pc us ks (after (At q ∷ rest) vs ks)

  -- what is read there
  read_runs : (q : Path) (w m : Mode) (b : Started) (k pc to : ℕ) (us vs ks : List Datum) (rest : List Item) → w ≡ m → is_value (out-Mode m) ≡ true → PathFits s.site b q m → At_code pc (value s.layouts (Get w q)) to → Addressed q m k us vs ks
      → ((d : Datum) → Is m d → Goes k to (d ∷ us) ks (after rest (d ∷ vs) ks)) → Goes k pc us ks (after (At q ∷ Fetch ∷ rest) vs ks)
  read_runs q w m b k pc to us vs ks rest same v f sp put go = elim (sited s h q m b f) as (λ _. Goes k pc us ks (after (At q ∷ Fetch ∷ rest) vs ks)) [
    | inl x ↦
        let st = by_known (site_of s.layouts q) (site.Fixed x.0) pc to (λ z. wanted z (address s.layouts q) ++ read (width_of w) z ∷ []) x.1 sp in
        let fixed = fixed_is s h q m b x.0 f x.1 in
        let is_wide : IsWide (width_of w) m = subst (λ y. IsWide (width_of y) m) (sym same) (wide m) in
        subst (λ n. Goes k pc us ks n) (sym (fixed_next s h q x.0 (Fetch ∷ rest) vs ks x.1))
        (loads s h k pc to (ins.Load (width_of w) x.0) us ks us (width_of w) (place_of s.env x.0) m rest vs ks st refl (λ u. u) (m, fixed, is_wide) (inl fixed.leads) is_wide v go)
    | inr e ↦
        let st = by_known (site_of s.layouts q) site.Stacked pc to (λ z. wanted z (address s.layouts q) ++ read (width_of w) z ∷ []) e sp in
        let c = spans_split s.code (address s.layouts q) (ins.Fetch (width_of w) ∷ []) pc to st in
        put pc c.0 (Fetch ∷ rest) e c.1 (λ p is.
        loads s h k c.0 to (ins.Fetch (width_of w)) (Reference p ∷ us) ks us (width_of w) p m rest vs ks c.2 refl (λ u. u.1) (leads_shared is) (inl is) (subst (λ y. IsWide (width_of y) m) (sym same) (wide m)) v go)
  ]

  own_read_runs : (q : Path) (w m : Mode) (k pc to : ℕ) (us vs ks : List Datum) (rest : List Item) → is_value (out-Mode m) ≡ true → OwnFits (table s.site) q m → MayStand (table s.site) m → At_code pc (value s.layouts (Get w q)) to
      → ((d : Datum) → Is m d → Goes k to (d ∷ us) ks (after rest (d ∷ vs) ks)) → Goes k pc us ks (after (At q ∷ Fetch ∷ rest) vs ks)
  own_read_runs (Svc i) w m k pc to us vs ks rest v f st sp go = loads s h k pc to (ins.LoadOwn (own_item i)) us ks us width.Word (location.Own i) m rest vs ks sp (ap (λ p. Loads width.Word p (pc + 1) us ks) (own_there f)) (λ u. u) tt (inr (st, f)) (own_wide f) v go
  own_read_runs (ItemAt b i) w m k pc to us vs ks rest v f st sp go = absurd f
  own_read_runs (FieldOf q r i) w m k pc to us vs ks rest v f st sp go = absurd f
  own_read_runs (Elem q x n e) w m k pc to us vs ks rest v f st sp go = absurd f
  own_read_runs (ElemRow a x e) w m k pc to us vs ks rest v f st sp go = absurd f
  own_read_runs (Past x) w m k pc to us vs ks rest v f st sp go = absurd f

  -- its address as a value
  ref_runs : (q : Path) (m : Mode) (b : Started) (k pc to : ℕ) (us vs ks : List Datum) (rest : List Item) → PathFits s.site b q m → At_code pc (value s.layouts (Ref q)) to → Addressed q m k us vs ks
      → ((p : Location) → Leads m p → Goes k to (Reference p ∷ us) ks (after rest (Reference p ∷ vs) ks)) → Goes k pc us ks (after (At q ∷ rest) vs ks)
  ref_runs q m b k pc to us vs ks rest f sp put go = elim (sited s h q m b f) as (λ _. Goes k pc us ks (after (At q ∷ rest) vs ks)) [
    | inl x ↦
        let st = by_known (site_of s.layouts q) (site.Fixed x.0) pc to (λ z. wanted z (address s.layouts q) ++ reached z) x.1 sp in
        let fixed = fixed_is s h q m b x.0 f x.1 in
        subst (λ n. Goes k pc us ks n) (sym (fixed_next s h q x.0 rest vs ks x.1))
        (puts s h k pc to (ins.Reach x.0) us us ks (mode.Ref m) (Reference (place_of s.env x.0)) (after rest (Reference (place_of s.env x.0) ∷ vs) ks) st refl (λ u. u) (place_is s.system h.sound (table s.site) h.grounds.known m (place_of s.env x.0) fixed.leads) (m, fixed) (go (place_of s.env x.0) fixed.leads))
    | inr e ↦
        let st = by_known (site_of s.layouts q) site.Stacked pc to (λ z. wanted z (address s.layouts q) ++ reached z) e sp in
        let c = spans_split s.code (address s.layouts q) [] pc to st in
        put pc to rest e (subst (λ z. At_code pc (address s.layouts q) z) c.2 c.1) go
  ]

  -- the row of a fixed array
  fixed_row_runs : (q : Path) (n : ℕ) (m w a : Mode) (b : Started) (x : Fixed) (k pc to : ℕ) (us vs ks : List Datum) (rest : List Item) → out-Mode m ≡ Mode-F.RefArray w → out-Mode a ≡ Mode-F.Array n w → PathFits s.site b q a → site_of s.layouts q ≡ site.Fixed x
      → At_code pc (ins.ReachRow x n ∷ []) to → ((d : Datum) → Is m d → Goes k to (d ∷ us) ks (after rest (d ∷ vs) ks)) → Goes k pc us ks (after (At q ∷ Span n ∷ rest) vs ks)
  fixed_row_runs q n m w a b x k pc to us vs ks rest om oa f e sp go =
      let fixed = fixed_is s h q a b x f e in
      let is = row_of s.system h.sound (table s.site) h.grounds.known a w m n (place_of s.env x) fixed.leads oa om (rows_stand (table s.site) a w m n oa om fixed.leads.here) in
      subst (λ z. Goes k pc us ks z) (sym (fixed_next s h q x (Span n ∷ rest) vs ks e))
      (puts s h k pc to (ins.ReachRow x n) us us ks m (Row (place_of s.env x) n) (after rest (Row (place_of s.env x) n ∷ vs) ks) sp refl (λ u. u) is (a, w, fixed, oa) (go (Row (place_of s.env x) n) is))

  -- what a field rests on
  field_rests : (w m : Mode) (r j : ℕ) (p : Location) → Leads w p → out-Mode w ≡ Mode-F.Record r → field_mode (table s.site).records r j ≡ Some m → HasField s.system s.site.parts s.env (Reference p) j (field_offset s.layouts r j)
  field_rests w m r j p is ow fm = let d = found_field s h r j m fm in (w, r, d.def, is, ow, d.of, h.field_begins r j d.def d.field d.of d.at)

  -- that of a field
  field_row_runs : (q : Path) (r j n : ℕ) (m w a : Mode) (b : Started) (k pc to : ℕ) (us vs ks : List Datum) (rest : List Item) → out-Mode m ≡ Mode-F.RefArray w → out-Mode a ≡ Mode-F.Array n w → (f : PathFits s.site b (FieldOf q r j) a)
      → At_code pc (value s.layouts (RefRow (FieldOf q r j) n)) to → Addressed q f.0 k us vs ks → ((d : Datum) → Is m d → Goes k to (d ∷ us) ks (after rest (d ∷ vs) ks)) → Goes k pc us ks (after (At (FieldOf q r j) ∷ Span n ∷ rest) vs ks)
  field_row_runs q r j n m w a b k pc to us vs ks rest om oa f sp put go = elim (sited s h (FieldOf q r j) a b f) as (λ _. Goes k pc us ks (after (At (FieldOf q r j) ∷ Span n ∷ rest) vs ks)) [
    | inl x ↦
        let st = by_known (site_of s.layouts (FieldOf q r j)) (site.Fixed x.0) pc to (λ z. wanted z (address s.layouts q) ++ row_reached n (ins.IntoRow j (field_offset s.layouts r j) n ∷ []) z) x.1 sp in
        fixed_row_runs (FieldOf q r j) n m w a b x.0 k pc to us vs ks rest om oa f x.1 st go
    | inr e ↦
        let st = by_known (site_of s.layouts (FieldOf q r j)) site.Stacked pc to (λ z. wanted z (address s.layouts q) ++ row_reached n (ins.IntoRow j (field_offset s.layouts r j) n ∷ []) z) e sp in
        let c = spans_split s.code (address s.layouts q) (ins.IntoRow j (field_offset s.layouts r j) n ∷ []) pc to st in
        put pc c.0 (Into q j ∷ Span n ∷ rest) (record_stacked s h q f.0 b r j f.3 e) c.1 (λ p is.
        let deep = field_leads s.system h.sound (table s.site) h.grounds.known f.0 a r j p is f.1 f.2 in
        let row = row_of s.system h.sound (table s.site) h.grounds.known a w m n (deeper p j) deep oa om (rows_stand (table s.site) a w m n oa om deep.here) in
        puts s h k c.0 to (ins.IntoRow j (field_offset s.layouts r j) n) (Reference p ∷ us) us ks m (Row (deeper p j) n) (after rest (Row (deeper p j) n ∷ vs) ks) c.2 refl (λ u. u.1) row (field_rests f.0 a r j p is f.1 f.2) (go (Row (deeper p j) n) row))
  ]

  -- the LENGTH of an array
  count_runs : (q : Path) (n : ℕ) (m a : Mode) (b : Started) (k pc to : ℕ) (us vs ks : List Datum) (rest : List Item) → IsInt m → n < 65536 → PathFits s.site b q a → At_code pc (value s.layouts (Count q n)) to → Addressed q a k us vs ks
      → ((d : Datum) → Is m d → Goes k to (d ∷ us) ks (after rest (d ∷ vs) ks)) → Goes k pc us ks (after (At q ∷ Tell n ∷ rest) vs ks)
  count_runs q n m a b k pc to us vs ks rest im small f sp put go =
      let num = number_is s.system (table s.site) m n (int_is_number m im) small in
      elim (sited s h q a b f) as (λ _. Goes k pc us ks (after (At q ∷ Tell n ∷ rest) vs ks)) [
        | inl x ↦
            let st = by_known (site_of s.layouts q) (site.Fixed x.0) pc to (λ z. wanted z (address s.layouts q) ++ told n z ∷ []) x.1 sp in
            subst (λ z. Goes k pc us ks z) (sym (fixed_next s h q x.0 (Tell n ∷ rest) vs ks x.1)) (puts s h k pc to (ins.Const n) us us ks m (Word n) (after rest (Word n ∷ vs) ks) st refl (λ u. u) num small (go (Word n) num))
        | inr e ↦
            let st = by_known (site_of s.layouts q) site.Stacked pc to (λ z. wanted z (address s.layouts q) ++ told n z ∷ []) e sp in
            let c = spans_split s.code (address s.layouts q) (ins.Tell n ∷ []) pc to st in
            put pc c.0 (Tell n ∷ rest) e c.1 (λ p is. puts s h k c.0 to (ins.Tell n) (Reference p ∷ us) us ks m (Word n) (after rest (Word n ∷ vs) ks) c.2 refl (λ u. u.1) num small (go (Word n) num))
      ]

  -- ---- elements

  -- the value of a term is put, whatever stands below it
  abbrev Evaluated : Term → Mode → ℕ → List Datum → Type 0
  Evaluated v m k ks =
      (us vs : List Datum) (pc to : ℕ) (rest : List Item) → RightTerm s.layouts s.calls v (length us) → At_code pc (value s.layouts v) to → ((d : Datum) → Is m d → Goes k to (d ∷ us) ks (after rest (d ∷ vs) ks)) → Goes k pc us ks (after (Eval v ∷ rest) vs ks)

  abbrev AllPut : Terms → List Mode → ℕ → List Datum → Type 0
  AllPut xs ws k ks =
      (us vs : List Datum) (pc to : ℕ) (rest : List Item) → RightTerms s.layouts s.calls xs (length us) → At_code pc (values s.layouts xs) to → ((ds : List Datum) → AreOf s.system (table s.site) ws ds → Goes k to (pushed ds us) ks (after rest (pushed ds vs) ks)) → Goes k pc us ks (after (Args xs ∷ rest) vs ks)

  -- what a row rests on
  row_rests : (w m : Mode) (d : Datum) → Is w d → out-Mode w ≡ Mode-F.RefArray m → MayStand (table s.site) w → IsRowOf s.system s.site.parts s.env d (bytes s.layouts m)
  row_rests w m d is o st = (w, m, is, o, h.element_size m (row_elements_stand (table s.site) w m o st) (λ i v e. array_in_row (table s.site) w m v i o e st))

  -- the element, or error 1
  picked_runs : (c : Bool) (i : Ins) (m : Mode) (p : Location) (x : ℕ) (k pc to : ℕ) (us0 us vs ks : List Datum) (rest : List Item) → At_code pc (i ∷ []) to → move s.env i pc us0 ks ≡ moved_to c p x pc us ks → (AreWords us0 → AreWords us) → Rests s.system s.site.parts s.env i us0 ks
      → (c ≡ true → Leads m (deeper p (x - 1))) → ((q : Location) → Leads m q → Goes k to (Reference q ∷ us) ks (after rest (Reference q ∷ vs) ks)) → Goes k pc us0 ks (if c then after rest (Reference (deeper p (x - 1)) ∷ vs) ks else Errors 1)
  picked_runs true i m p x k pc to us0 us vs ks rest sp mv wu r lead go =
      let is = lead refl in
      puts s h k pc to i us0 us ks (mode.Ref m) (Reference (deeper p (x - 1))) (after rest (Reference (deeper p (x - 1)) ∷ vs) ks) sp mv wu (place_is s.system h.sound (table s.site) h.grounds.known m (deeper p (x - 1)) is) r (go (deeper p (x - 1)) is)
  picked_runs false i m p x k pc to us0 us vs ks rest sp mv wu r lead go = errs s h k pc i us0 ks sp.0 mv r

  -- an element of an array
  element_runs : (q : Path) (v : Term) (n : ℕ) (e m w j : Mode) (b : Started) (k pc to : ℕ) (us vs ks : List Datum) (rest : List Item) → out-Mode w ≡ Mode-F.Array n m → IsInt j → PathFits s.site b q w → e ≡ m → RightTerm s.layouts s.calls v (above (site_of s.layouts q) (length us))
      → At_code pc (address s.layouts (Elem q v n e)) to → Addressed q w k us vs ks → Evaluated v j k ks → ((p : Location) → Leads m p → Goes k to (Reference p ∷ us) ks (after rest (Reference p ∷ vs) ks)) → Goes k pc us ks (after (At q ∷ Eval v ∷ Pick q n ∷ rest) vs ks)
  element_runs q v n e m w j b k pc to us vs ks rest o ij f same r sp put ev go = elim (sited s h q w b f) as (λ _. Goes k pc us ks (after (At q ∷ Eval v ∷ Pick q n ∷ rest) vs ks)) [
    | inl x ↦
        let st = by_known (site_of s.layouts q) (site.Fixed x.0) pc to (λ z. wanted z (address s.layouts q) ++ (value s.layouts v ++ element n (bytes s.layouts e) z ∷ [])) x.1 sp in
        let c = spans_split s.code (value s.layouts v) (ins.ElementAt x.0 n (bytes s.layouts e) ∷ []) pc to st in
        let fixed = fixed_is s h q w b x.0 f x.1 in
        let right = subst (λ z. RightTerm s.layouts s.calls v (above z (length us))) x.1 r in
        let one = elements_stand (table s.site) w m n o fixed.leads.here in
        let size = subst (λ y. IsSize (table s.site) m (bytes s.layouts y)) (sym same) (h.element_size m one (λ i y a. array_in_array (table s.site) w m y n i o a fixed.leads.here)) in
        subst (λ z. Goes k pc us ks z) (sym (fixed_next s h q x.0 (Eval v ∷ Pick q n ∷ rest) vs ks x.1))
        (ev us (Reference (place_of s.env x.0) ∷ vs) pc c.0 (Pick q n ∷ rest) right c.1 (λ d is. by_word s.system (table s.site) (λ z. Goes k c.0 (z ∷ us) ks (after (Pick q n ∷ rest) (z ∷ Reference (place_of s.env x.0) ∷ vs) ks)) j d is (int_is_word j ij) (λ i small.
        picked_runs (in_row i n) (ins.ElementAt x.0 n (bytes s.layouts e)) m (place_of s.env x.0) i k c.0 to (Word i ∷ us) us vs ks rest c.2 refl (λ u. u.1) (w, m, fixed, o, size) (λ t. element_leads s.system h.sound (table s.site) h.grounds.known w m n i (place_of s.env x.0) fixed.leads o one t) go)))
    | inr a ↦
        let st = by_known (site_of s.layouts q) site.Stacked pc to (λ z. wanted z (address s.layouts q) ++ (value s.layouts v ++ element n (bytes s.layouts e) z ∷ [])) a sp in
        let c = spans_split s.code (address s.layouts q) (value s.layouts v ++ ins.Element n (bytes s.layouts e) ∷ []) pc to st in
        let g = spans_split s.code (value s.layouts v) (ins.Element n (bytes s.layouts e) ∷ []) c.0 to c.2 in
        let right = subst (λ z. RightTerm s.layouts s.calls v (above z (length us))) a r in
        put pc c.0 (Eval v ∷ Pick q n ∷ rest) a c.1 (λ p lead.
        let one = elements_stand (table s.site) w m n o lead.here in
        let size = subst (λ y. IsSize (table s.site) m (bytes s.layouts y)) (sym same) (h.element_size m one (λ i y t. array_in_array (table s.site) w m y n i o t lead.here)) in
        ev (Reference p ∷ us) (Reference p ∷ vs) c.0 g.0 (Pick q n ∷ rest) right g.1 (λ d is. by_word s.system (table s.site) (λ z. Goes k g.0 (z ∷ Reference p ∷ us) ks (after (Pick q n ∷ rest) (z ∷ Reference p ∷ vs) ks)) j d is (int_is_word j ij) (λ i small.
        picked_runs (in_row i n) (ins.Element n (bytes s.layouts e)) m p i k g.0 to (Word i ∷ Reference p ∷ us) us vs ks rest g.2 refl (λ u. u.1.1) (w, m, lead, o, size) (λ t. element_leads s.system h.sound (table s.site) h.grounds.known w m n i p lead o one t) go)))
  ]

  -- an element behind a row
  row_element_runs : (a v : Term) (e m w j : Mode) (b : Started) (k pc to : ℕ) (us vs ks : List Datum) (rest : List Item) → out-Mode w ≡ Mode-F.RefArray m → IsInt j → e ≡ m → RightTerm s.layouts s.calls a (length us) → RightTerm s.layouts s.calls v (suc (length us))
      → At_code pc (address s.layouts (ElemRow a v e)) to → Evaluated a w k ks → Evaluated v j k ks → ((p : Location) → Leads m p → Goes k to (Reference p ∷ us) ks (after rest (Reference p ∷ vs) ks)) → Goes k pc us ks (after (Eval a ∷ Eval v ∷ PickRow ∷ rest) vs ks)
  row_element_runs a v e m w j b k pc to us vs ks rest o ij same ra rv sp eva ev go =
      let c = spans_split s.code (value s.layouts a) (value s.layouts v ++ ins.ElementRow (bytes s.layouts e) ∷ []) pc to sp in
      let g = spans_split s.code (value s.layouts v) (ins.ElementRow (bytes s.layouts e) ∷ []) c.0 to c.2 in
      eva us vs pc c.0 (Eval v ∷ PickRow ∷ rest) ra c.1 (λ d is. by_row s.system (table s.site) (λ z. Goes k c.0 (z ∷ us) ks (after (Eval v ∷ PickRow ∷ rest) (z ∷ vs) ks)) w m d is o (λ p n st row isr.
      let rests = subst (λ y. IsRowOf s.system s.site.parts s.env (Row p n) (bytes s.layouts y)) (sym same) (row_rests w m (Row p n) isr o st) in
      ev (Row p n ∷ us) (Row p n ∷ vs) c.0 g.0 (PickRow ∷ rest) rv g.1 (λ d2 is2. by_word s.system (table s.site) (λ z. Goes k g.0 (z ∷ Row p n ∷ us) ks (after (PickRow ∷ rest) (z ∷ Row p n ∷ vs) ks)) j d2 is2 (int_is_word j ij) (λ i small.
      picked_runs (in_row i n) (ins.ElementRow (bytes s.layouts e)) m p i k g.0 to (Word i ∷ Row p n ∷ us) us vs ks rest g.2 refl (λ u. u.1.1) rests (λ t. row_leads s.system h.sound (table s.site) h.grounds.known m n i p row (row_elements_stand (table s.site) w m o st) t) go))))

  -- ---- divisions

  divisor_runs : (o : Op2) (z : Term) (m n : Mode) (b : Started) (c : Bool) (k pc to : ℕ) (us vs ks : List Datum) (i : ℕ) (rest : List Item) → is_sure z ≡ c → TermFits s.site b z n → is_division o ≡ true → RightTerm s.layouts s.calls z (suc (length us)) → ((is_sure z ≡ true) ⊎ Contains s.calls (point (length us) 1 target.Error))
      → At_code pc (value s.layouts z ++ lowered_division o c) to → Evaluated z n k ks → IsNumber m → IsWord n → i < 65536 → ((d : Datum) → Is m d → Goes k to (d ∷ us) ks (after rest (d ∷ vs) ks)) → Goes k pc (Word i ∷ us) ks (after (Eval z ∷ Split o ∷ rest) (Word i ∷ vs) ks)
  divisor_runs o z m n b true k pc to us vs ks i rest known f div r at sp ev nm wn small go =
      let x = sure_number z known in
      let q = x.0 in
      let fits : TermFits s.site b (Num q) n = subst (λ y. TermFits s.site b y n) x.1 f in
      let less = number_small q (out-Mode n) fits in
      let g = safe_gives o i q div x.2 in
      let sp2 : At_code pc (ins.Const q ∷ ins.Divide (division_of o) ∷ []) to = subst (λ y. At_code pc (value s.layouts y ++ ins.Divide (division_of o) ∷ []) to) x.1 sp in
      subst (λ y. Goes k pc (Word i ∷ us) ks (after (Eval y ∷ Split o ∷ rest) (Word i ∷ vs) ks)) (sym x.1)
      (subst (λ y. Goes k pc (Word i ∷ us) ks (share_then y rest (λ xs zs. after rest xs zs) vs ks)) (sym g.1)
      (onward s h k pc (pc + 1) (ins.Const q) (Word i ∷ us) ks (Word q ∷ Word i ∷ us) ks (after rest (Word g.0 ∷ vs) ks) (sp2.0, refl) refl (λ u. (less, u)) (λ u. u) less
      (onward s h k (pc + 1) to (ins.Divide (division_of o)) (Word q ∷ Word i ∷ us) ks (Word g.0 ∷ us) ks (after rest (Word g.0 ∷ vs) ks) sp2.1 (ap (λ y. sure y (pc + 1) us ks) (division_same o i q div ∙ g.1)) (λ u. (g.2, u.1.1)) (λ u. u) tt
      (go (Word g.0) (number_is s.system (table s.site) m g.0 nm g.2)))))
  divisor_runs o z m n b false k pc to us vs ks i rest known f div r at sp ev nm wn small go =
      let c = spans_split s.code (value s.layouts z) (lowered_division o false) pc to sp in
      ev (Word i ∷ us) (Word i ∷ vs) pc c.0 (Split o ∷ rest) r c.1 (λ d is. by_word s.system (table s.site) (λ y. Goes k c.0 (y ∷ Word i ∷ us) ks (after (Split o ∷ rest) (y ∷ Word i ∷ vs) ks)) n d is wn (λ q less.
      divide_runs s h (division_of o) (divided o i q) k c.0 to us vs ks i q rest (division_same o i q div) (divided_below o i q) c.2 (error_at at) (λ y below. go (Word y) (number_is s.system (table s.site) m y nm below))))
    where
      error_at : (is_sure z ≡ true) ⊎ Contains s.calls (point (length us) 1 target.Error) → Contains s.calls (point (length us) 1 target.Error)
      error_at (inl e) = let no : true ≡ false = sym e ∙ known in absurd cc
      error_at (inr c) = c

  -- ---- calls

  -- a call of a brick, whose result is kept or not
  brick_runs : (i : ℕ) (xs : Terms) (w : Mode) (ws : List Mode) (o : Option Mode) (gives : Bool) (b : Started) (k pc to : ℕ) (us vs ks : List Datum) (rest : List Item) → proc_mode (faces s.site.parts.bricks) i ≡ Some w → out-Mode w ≡ Mode-F.Proc ws o → TermsFit s.site b xs ws
      → RightTerms s.layouts s.calls xs (length us) → Contains s.calls (point (length us) (how_many xs) (target.Brick i)) → At_code pc (values s.layouts xs ++ ins.Invoke i (how_many xs) gives ∷ []) to → AllPut xs ws k ks → (gives ≡ true → gives_some o ≡ true)
      → Back s h k to gives o us vs ks rest → Goes k pc us ks (after (Eval (Apply i xs) ∷ rest) vs ks)
  brick_runs i xs w ws o gives b k pc to us vs ks rest pm ow f r at sp all g back =
      let c = spans_split s.code (values s.layouts xs) (ins.Invoke i (how_many xs) gives ∷ []) pc to sp in
      let p = h.grounds.procs i w pm in
      all us vs pc c.0 (Enter i (how_many xs) ∷ rest) r c.1 (λ ds are.
      enter_runs s h i (how_many xs) gives k c.0 to us vs ks ds rest w ws o c.2 pm (count_terms s.site b xs ws f ∙ sym (many s.system (table s.site) ws ds are)) ow p.3 p.4 are at g back)

  -- a call of a value
  value_runs : (u : Mode) (y : Term) (xs : Terms) (w : Mode) (ws : List Mode) (o : Option Mode) (gives : Bool) (b : Started) (k pc to : ℕ) (us vs ks : List Datum) (rest : List Item) → out-Mode w ≡ Mode-F.Proc ws o → TermsFit s.site b xs ws → u ≡ w
      → RightTerm s.layouts s.calls y (length us) → RightTerms s.layouts s.calls xs (suc (length us)) → Contains s.calls (point (length us) (how_many xs) (target.Variable u)) → At_code pc (value s.layouts y ++ (values s.layouts xs ++ ins.InvokeBy (how_many xs) gives ∷ [])) to
      → Evaluated y w k ks → AllPut xs ws k ks → (gives ≡ true → gives_some o ≡ true) → Back s h k to gives o us vs ks rest → Goes k pc us ks (after (Eval (ApplyBy u y xs) ∷ rest) vs ks)
  value_runs u y xs w ws o gives b k pc to us vs ks rest ow f same ry r at sp ev all g back =
      let c = spans_split s.code (value s.layouts y) (values s.layouts xs ++ ins.InvokeBy (how_many xs) gives ∷ []) pc to sp in
      let e = spans_split s.code (values s.layouts xs) (ins.InvokeBy (how_many xs) gives ∷ []) c.0 to c.2 in
      ev us vs pc c.0 (Args xs ∷ EnterBy (how_many xs) ∷ rest) ry c.1 (λ d is. by_procedure s.system (table s.site) (λ z. Goes k c.0 (z ∷ us) ks (after (Args xs ∷ EnterBy (how_many xs) ∷ rest) (z ∷ vs) ks)) w ws o d is ow (λ q st can.
      all (Procedure q ∷ us) (Procedure q ∷ vs) c.0 e.0 (EnterBy (how_many xs) ∷ rest) r e.1 (λ ds are.
      enter_by_runs s h u (how_many xs) gives k e.0 to us vs ks ds q rest w ws o e.2 (count_terms s.site b xs ws f ∙ sym (many s.system (table s.site) ws ds are)) ow st can same are at g back)))

  -- a result that is kept
  kept_back : (m : Mode) (k to : ℕ) (us vs ks : List Datum) (rest : List Item) → ((d : Datum) → Is m d → Goes k to (d ∷ us) ks (after rest (d ∷ vs) ks)) → Back s h k to true (Some m) us vs ks rest
  kept_back m k to us vs ks rest go None a = absurd a
  kept_back m k to us vs ks rest go (Some d) a = go d a

  -- ---- all terms and paths

  mutual
    pub term_runs : (v : Term) (m : Mode) (b : Started) (k pc to : ℕ) (us vs ks : List Datum) (rest : List Item) → TermFits s.site b v m → RightTerm s.layouts s.calls v (length us) → At_code pc (value s.layouts v) to → LocalsFit s.system s.site b ks
        → ((d : Datum) → Is m d → Goes k to (d ∷ us) ks (after rest (d ∷ vs) ks)) → Goes k pc us ks (after (Eval v ∷ rest) vs ks)
    term_runs (Num n) m b k pc to us vs ks rest f r sp l go =
        let is = numeral s.system s.site s.env h.sound h.grounds n m (out-Mode m) refl f in
        puts s h k pc to (ins.Const n) us us ks m (Word n) (after rest (Word n ∷ vs) ks) sp refl (λ w. w) is (number_small n (out-Mode m) f) (go (Word n) is)
    term_runs (Str n) m b k pc to us vs ks rest f r sp l go =
        let is = of_suits s.system h.sound (table s.site) h.grounds.known (byte_rows_stand (table s.site) m f.0 f.1 f.2) (h.grounds.texts n m f.0 f.3 f.1 f.2) in
        puts s h k pc to (ins.Text n) us us ks m (text s.env n) (after rest (text s.env n ∷ vs) ks) sp refl (λ w. w) is f.3 (go (text s.env n) is)
    term_runs (Name i) m b k pc to us vs ks rest f r sp l go =
        let p = h.grounds.procs i m f.0 in
        let is : Is m (Procedure (s.env.leads i)) = (stored.procedure p.2 (h.grounds.taken_are i m f.0 f.1), p.3) in
        puts s h k pc to (ins.Routine i) us us ks m (Procedure (s.env.leads i)) (after rest (Procedure (s.env.leads i) ∷ vs) ks) sp refl (λ w. w) is (m, f.0) (go (Procedure (s.env.leads i)) is)
    term_runs (Own i) m b k pc to us vs ks rest f r sp l go = own_runs i m b k pc to us vs ks rest f.0 f.1 sp l go
    term_runs (Get w q) m b k pc to us vs ks rest f r sp l go = elim f.2 as (λ _. Goes k pc us ks (after (Eval (Get w q) ∷ rest) vs ks)) [
      | inl p ↦ read_runs q w m b k pc to us vs ks rest f.0 f.1 p sp (λ pc2 to2 rest2 e sp2 go2. address_runs q m b k pc2 to2 us vs ks rest2 p r e sp2 l go2) go
      | inr p ↦ own_read_runs q w m k pc to us vs ks rest f.1 p.0 p.1 sp go
    ]
    term_runs (Ref q) m b k pc to us vs ks rest f r sp l go =
        let same : m ≡ mode.Ref f.0 = is_ref m f.0 f.1 in
        ref_runs q f.0 b k pc to us vs ks rest f.2 sp (λ pc2 to2 rest2 e sp2 go2. address_runs q f.0 b k pc2 to2 us vs ks rest2 f.2 r e sp2 l go2)
        (λ p is. go (Reference p) (subst (λ y. Is y (Reference p)) (sym same) (place_is s.system h.sound (table s.site) h.grounds.known f.0 p is)))
    term_runs (RefRow (ItemAt i j) n) m b k pc to us vs ks rest f r sp l go = fixed_row_runs (ItemAt i j) n m f.0 f.1 b _ k pc to us vs ks rest f.2 f.3 f.4 refl sp go
    term_runs (RefRow (FieldOf q i j) n) m b k pc to us vs ks rest f r sp l go =
        field_row_runs q i j n m f.0 f.1 b k pc to us vs ks rest f.2 f.3 f.4 sp (λ pc2 to2 rest2 e sp2 go2. address_runs q f.4.0 b k pc2 to2 us vs ks rest2 f.4.3 r e sp2 l go2) go
    term_runs (RefRow q n) m b k pc to us vs ks rest f r sp l go = absurd (row_part s h q f.1 f.0 n b f.4 f.3)
    term_runs (Count q n) m b k pc to us vs ks rest f r sp l go = count_runs q n m f.0 b k pc to us vs ks rest f.1 f.2 f.3 sp (λ pc2 to2 rest2 e sp2 go2. address_runs q f.0 b k pc2 to2 us vs ks rest2 f.3 r e sp2 l go2) go
    term_runs (CountRow v) m b k pc to us vs ks rest f r sp l go =
        let c = spans_split s.code (value s.layouts v) (ins.Length ∷ []) pc to sp in
        term_runs v f.0 b k pc c.0 us vs ks (Length ∷ rest) f.4 r c.1 l (λ d is. by_row s.system (table s.site) (λ z. Goes k c.0 (z ∷ us) ks (after (Length ∷ rest) (z ∷ vs) ks)) f.0 f.1 d is f.3 (λ p n st row isr.
        let num = number_is s.system (table s.site) m n (int_is_number m f.2) (h.sound.elements p row.table row.is row.element n row.at row.array).1 in
        puts s h k c.0 to ins.Length (Row p n ∷ us) us ks m (Word n) (after rest (Word n ∷ vs) ks) c.2 refl (λ w. w.1) num (bytes s.layouts f.1, row_rests f.0 f.1 (Row p n) isr f.3 st) (go (Word n) num)))
    term_runs (One o v) m b k pc to us vs ks rest f r sp l go =
        let c = spans_split s.code (value s.layouts v) (altered o) pc to sp in
        let g = monadic_gives o f.0 m f.1 in
        term_runs v f.0 b k pc c.0 us vs ks (Alter o ∷ rest) f.2 r c.1 l (λ d is. by_word s.system (table s.site) (λ z. Goes k c.0 (z ∷ us) ks (after (Alter o ∷ rest) (z ∷ vs) ks)) f.0 d is g.0 (λ a small.
        alter_runs s h o k c.0 to us ks a (after rest (Word (one_of o a) ∷ vs) ks) c.2 small (go (Word (one_of o a)) (given_one s.system s.site s.env h.sound h.grounds o m a g.1 small))))
    term_runs (Two o y z) m b k pc to us vs ks rest f r sp l go =
        let c = spans_split s.code (value s.layouts y) (value s.layouts z ++ merged o ∷ []) pc to sp in
        let e = spans_split s.code (value s.layouts z) (merged o ∷ []) c.0 to c.2 in
        let g = dyadic_gives o f.0 f.1 m f.2 in
        term_runs y f.0 b k pc c.0 us vs ks (Eval z ∷ Merge o ∷ rest) f.3 r.0 c.1 l (λ d is. by_word s.system (table s.site) (λ u. Goes k c.0 (u ∷ us) ks (after (Eval z ∷ Merge o ∷ rest) (u ∷ vs) ks)) f.0 d is (number_is_word f.0 g.0) (λ i small.
        term_runs z f.1 b k c.0 e.0 (Word i ∷ us) (Word i ∷ vs) ks (Merge o ∷ rest) f.4 r.1 e.1 l (λ d2 is2. by_word s.system (table s.site) (λ u. Goes k e.0 (u ∷ Word i ∷ us) ks (after (Merge o ∷ rest) (u ∷ Word i ∷ vs) ks)) f.1 d2 is2 (number_is_word f.1 g.1) (λ n small2.
        merge_runs s h o k e.0 to us ks i n (after rest (Word (two_of o i n) ∷ vs) ks) f.5 e.2 small small2 (go (Word (two_of o i n)) (number_is s.system (table s.site) m (two_of o i n) g.2 (two_below o i n small small2)))))))
    term_runs (Over o y z) m b k pc to us vs ks rest f r sp l go =
        let c = spans_split s.code (value s.layouts y) (value s.layouts z ++ lowered_division o (is_sure z)) pc to sp in
        let g = dyadic_gives o f.0 f.1 m f.2 in
        term_runs y f.0 b k pc c.0 us vs ks (Eval z ∷ Split o ∷ rest) f.3 r.0 c.1 l (λ d is. by_word s.system (table s.site) (λ u. Goes k c.0 (u ∷ us) ks (after (Eval z ∷ Split o ∷ rest) (u ∷ vs) ks)) f.0 d is (number_is_word f.0 g.0) (λ i small.
        divisor_runs o z m f.1 b (is_sure z) k c.0 to us vs ks i rest refl f.4 f.5 r.1 r.2 c.2 (λ us2 vs2 pc2 to2 rest2 r2 sp2 go2. term_runs z f.1 b k pc2 to2 us2 vs2 ks rest2 f.4 r2 sp2 l go2) g.2 (number_is_word f.1 g.1) small go))
    term_runs (Apply i xs) m b k pc to us vs ks rest f r sp l go =
        brick_runs i xs f.0 f.1 (Some m) true b k pc to us vs ks rest f.2 f.3 f.4 r.0 r.1 sp (λ us2 vs2 pc2 to2 rest2 r2 sp2 go2. terms_run xs f.1 b k pc2 to2 us2 vs2 ks rest2 f.4 r2 sp2 l go2) (λ q. refl) (kept_back m k to us vs ks rest go)
    term_runs (ApplyBy u y xs) m b k pc to us vs ks rest f r sp l go =
        value_runs u y xs f.0 f.1 (Some m) true b k pc to us vs ks rest f.2 f.4 f.5 r.0 r.1 r.2 sp (λ us2 vs2 pc2 to2 rest2 r2 sp2 go2. term_runs y f.0 b k pc2 to2 us2 vs2 ks rest2 f.3 r2 sp2 l go2)
        (λ us2 vs2 pc2 to2 rest2 r2 sp2 go2. terms_run xs f.1 b k pc2 to2 us2 vs2 ks rest2 f.4 r2 sp2 l go2) (λ q. refl) (kept_back m k to us vs ks rest go)

    pub address_runs : (q : Path) (m : Mode) (b : Started) (k pc to : ℕ) (us vs ks : List Datum) (rest : List Item) → PathFits s.site b q m → RightPath s.layouts s.calls q (length us) → site_of s.layouts q ≡ site.Stacked → At_code pc (address s.layouts q) to → LocalsFit s.system s.site b ks
        → ((p : Location) → Leads m p → Goes k to (Reference p ∷ us) ks (after rest (Reference p ∷ vs) ks)) → Goes k pc us ks (after (At q ∷ rest) vs ks)
    address_runs (ItemAt i j) m b k pc to us vs ks rest f r e sp l go = absurd cc
    address_runs (Svc i) m b k pc to us vs ks rest f r e sp l go = absurd f
    address_runs (FieldOf q i j) m b k pc to us vs ks rest f r e sp l go =
        let c = spans_split s.code (address s.layouts q) (ins.Into j (field_offset s.layouts i j) ∷ []) pc to sp in
        address_runs q f.0 b k pc c.0 us vs ks (Into q j ∷ rest) f.3 r (record_stacked s h q f.0 b i j f.3 e) c.1 l (λ p is.
        let deep = field_leads s.system h.sound (table s.site) h.grounds.known f.0 m i j p is f.1 f.2 in
        puts s h k c.0 to (ins.Into j (field_offset s.layouts i j)) (Reference p ∷ us) us ks (mode.Ref m) (Reference (deeper p j)) (after rest (Reference (deeper p j) ∷ vs) ks) c.2 refl (λ u. u.1) (place_is s.system h.sound (table s.site) h.grounds.known m (deeper p j) deep) (field_rests f.0 m i j p is f.1 f.2) (go (deeper p j) deep))
    address_runs (Elem q v n w) m b k pc to us vs ks rest f r e sp l go =
        element_runs q v n w m f.0 f.1 b k pc to us vs ks rest f.2 f.3 f.4 f.6 r.1 sp (λ pc2 to2 rest2 e2 sp2 go2. address_runs q f.0 b k pc2 to2 us vs ks rest2 f.4 r.0 e2 sp2 l go2)
        (λ us2 vs2 pc2 to2 rest2 r2 sp2 go2. term_runs v f.1 b k pc2 to2 us2 vs2 ks rest2 f.5 r2 sp2 l go2) go
    address_runs (ElemRow a v w) m b k pc to us vs ks rest f r e sp l go =
        row_element_runs a v w m f.0 f.1 b k pc to us vs ks rest f.2 f.3 f.6 r.0 r.1 sp (λ us2 vs2 pc2 to2 rest2 r2 sp2 go2. term_runs a f.0 b k pc2 to2 us2 vs2 ks rest2 f.4 r2 sp2 l go2)
        (λ us2 vs2 pc2 to2 rest2 r2 sp2 go2. term_runs v f.1 b k pc2 to2 us2 vs2 ks rest2 f.5 r2 sp2 l go2) go
    address_runs (Past v) m b k pc to us vs ks rest f r e sp l go =
        term_runs v f.0 b k pc to us vs ks rest f.2 r sp l (λ d is. by_place s.system (table s.site) (λ z. Goes k to (z ∷ us) ks (after rest (z ∷ vs) ks)) f.0 m d is f.1 go)

    pub terms_run : (xs : Terms) (ws : List Mode) (b : Started) (k pc to : ℕ) (us vs ks : List Datum) (rest : List Item) → TermsFit s.site b xs ws → RightTerms s.layouts s.calls xs (length us) → At_code pc (values s.layouts xs) to → LocalsFit s.system s.site b ks
        → ((ds : List Datum) → AreOf s.system (table s.site) ws ds → Goes k to (pushed ds us) ks (after rest (pushed ds vs) ks)) → Goes k pc us ks (after (Args xs ∷ rest) vs ks)
    terms_run NoTerm ws b k pc to us vs ks rest f r sp l go = subst (λ p. Goes k p us ks (after rest vs ks)) (sym sp) (go [] (subst (λ y. AreOf s.system (table s.site) y []) (sym f) tt))
    terms_run (MoreTerms v xs) ws b k pc to us vs ks rest f r sp l go =
        let c = spans_split s.code (value s.layouts v) (values s.layouts xs) pc to sp in
        term_runs v f.0 b k pc c.0 us vs ks (Args xs ∷ rest) f.3 r.0 c.1 l (λ d is.
        terms_run xs f.1 b k c.0 to (d ∷ us) (d ∷ vs) ks rest f.4 r.1 c.2 l (λ ds are. go (d ∷ ds) (subst (λ y. AreOf s.system (table s.site) y (d ∷ ds)) (sym f.2) (is, are))))

  -- ---- calls that stand alone

  -- whose result is kept nowhere
  pub call_runs : (v : Term) (o : Option Mode) (b : Started) (k pc to : ℕ) (vs ks : List Datum) (rest : List Item) → CallFits s.site b v o → RightTerm s.layouts s.calls v 0 → At_code pc (alone s.layouts v) to → LocalsFit s.system s.site b ks
      → ((r : Option Datum) → AnswerOf s.system (table s.site) o r → Goes k to [] ks (after rest (on_values r vs) ks)) → Goes k pc [] ks (after (Eval v ∷ rest) vs ks)
  call_runs (Apply i xs) o b k pc to vs ks rest f r sp l go =
      brick_runs i xs f.0 f.1 o false b k pc to [] vs ks rest f.2 f.3 f.4 r.0 r.1 sp (λ us2 vs2 pc2 to2 rest2 r2 sp2 go2. terms_run xs f.1 b k pc2 to2 us2 vs2 ks rest2 f.4 r2 sp2 l go2) (λ q. absurd cc) go
  call_runs (ApplyBy u y xs) o b k pc to vs ks rest f r sp l go =
      value_runs u y xs f.0 f.1 o false b k pc to [] vs ks rest f.2 f.4 f.5 r.0 r.1 r.2 sp (λ us2 vs2 pc2 to2 rest2 r2 sp2 go2. term_runs y f.0 b k pc2 to2 us2 vs2 ks rest2 f.3 r2 sp2 l go2)
      (λ us2 vs2 pc2 to2 rest2 r2 sp2 go2. terms_run xs f.1 b k pc2 to2 us2 vs2 ks rest2 f.4 r2 sp2 l go2) (λ q. absurd cc) go
  call_runs _ o b k pc to vs ks rest f r sp l go = absurd f
