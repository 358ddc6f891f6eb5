-- The invisible work of terms lacks nothing, and what it leaves fits.
use Rattle.std.proofs.Common.{◌≡◌, inl, inr, ℕ, suc, ◌-◌, ◌<◌, ◌%◌, Bool, true, false, if◌then◌else◌, List, [], ◌∷◌, Option, Some, None, length, refl, sym, ap, ◌∙◌, subst, arith}
use Rattle.rt_modes.specs.declared.mode.Mode.{Mode, out-Mode}
use Rattle.rt_modes.specs.declared.mode.Mode.TheOpen.{Mode-F}
use Rattle.rt_modes.specs.declared.mode.Mode.TheVariants as mode
use Rattle.rt_modes.specs.declared.mode.ModeTable.{ModeTable}
use Rattle.rt_modes.specs.FullMode.{FullMode}
use Rattle.rt_tree_nodes.specs.declared.operators.Op1.{Op1}
use Rattle.rt_tree_nodes.specs.declared.operators.Op1.TheVariants as one
use Rattle.rt_tree_nodes.specs.declared.operators.Op2.{Op2}
use Rattle.rt_tree_nodes.specs.declared.store.Datum.{Datum}
use Rattle.rt_tree_nodes.specs.declared.store.Datum.TheVariants.{Word, Reference, Row, Procedure}
use Rattle.rt_tree_nodes.specs.declared.store.Location.TheVariants as location
use Rattle.rt_tree_nodes.specs.Scopes.{faces, field_mode, proc_mode}
use Rattle.rt_tree_nodes.specs.Tree.{Term, Num, Str, Name, Own, Get, Ref, RefRow, Count, CountRow, One, Two, Over, Apply, ApplyBy, Path, ItemAt, Svc, FieldOf, Elem, ElemRow, Past, Terms, NoTerm, MoreTerms}
use Rattle.rt_tree_nodes.specs.Typing.{is_value, monadic_mode, dyadic_mode}
use Rattle.rt_tree.specs.Stored as s
use Rattle.rt_tree.specs.Stored.{System, Suits, IsCandidate}
use Rattle.rt_work.specs.declared.numbers.Share.{Share}
use Rattle.rt_work.specs.declared.numbers.Share.TheVariants.{Gives, Fails}
use Rattle.rt_work.specs.Numbers.{one_of, two_of, divided}
use Rattle.rt_work_state.specs.Stores.{deeper}
use Rattle.rt_work_state.specs.Items.{Env, item, text, Item, Eval, Args, Fetch, Into, Pick, PickRow, Span, Tell, Length, Alter, Merge, Split, Report, Stand, Enter, EnterBy, Next, Reads, Calls, Errors, how_many}
use Rattle.rt_work.specs.Task.{Going, in_row, fetch_then, into_then, pick_then, pick_row_then, span_then, tell_then, length_then, alter_then, merge_then, share_then, split_then, enter_then, enter_by_then, taken, left, first, first_p, first_all}
use Rattle.rt_tree.specs.FullModes.{MayStand}
use Rattle.rt_meaning_laws.specs.Slots.{LeadsTo, IsInt, IsByte, IsOwn, Slot, AValue, APlace, AnOwn, IsOf, FillAll, AreOf, LeadsOwn, values_on, result_on}
use Rattle.rt_meaning_laws.specs.Slots as slots
use Rattle.rt_meaning_laws.specs.Trees.{Started, Site, table, number_fits, IsNumber, OwnFits, TermFits, PathFits, TermsFit, CallFits}
use Rattle.rt_resolve.specs.Matching.{int_taken}
use Rattle.rt_meaning_laws.specs.Work.{by_name, by_value, TodoFits, LocalsFit, Awaits, NextFits}
use Rattle.rt_meaning_laws.specs.Grounds.{Sound, Grounds}
use Rattle.rt_meaning_laws.proofs.Modes.{out_int, out_ref, out_proc, is_ref, number_is_word, int_is_number, int_is_word, number_is, byte_is}
use Rattle.rt_meaning_laws.proofs.Operators.{GivesOne, monadic_gives, dyadic_gives}
use Rattle.rt_meaning_laws.proofs.Finding.{word_found, place_found, own_found, row_found, proc_found}
use Rattle.rt_meaning_laws.proofs.Numbers.{one_below, byte_below, two_below, ShareBelow, divided_below}
use Rattle.rt_meaning_laws.proofs.Places.{row_of, element_leads, row_leads, field_leads, place_is, of_suits, elements_stand, rows_stand, row_elements_stand, byte_rows_stand}
use Rattle.rt_meaning_laws.proofs.Stacks.{popped}
use Rattle.rt_meaning_laws.proofs.Errors.{int_taken_stands, erp_full}

-- the number of terms is that of their modes
pub count_terms : (x : Site) (b : Started) (xs : Terms) (ws : List Mode) → TermsFit x b xs ws → how_many xs ≡ length ws
count_terms x b NoTerm ws h = rw h refl
count_terms x b (MoreTerms v xs) ws h = ap suc (count_terms x b xs h.1 h.4) ∙ sym (ap (λ (l : List Mode). length l) h.2)

module _ (ps : System) (x : Site) (e : Env) (so : Sound ps) (g : Grounds ps x e) where
  abbrev t : ModeTable
  t = x.parts.modes

  abbrev pub Goes : Started → List Slot → Going → Type 0
  Goes b ss go = (us ks : List Datum) → FillAll ps (table x) ss us → LocalsFit ps x b ks → NextFits ps x e (go us ks)

  abbrev pub Todo : Started → List Item → List Slot → Type 0
  Todo = TodoFits ps x

  pub awaits : (o : Option Mode) (b : Started) (rest : List Item) (ss : List Slot) (us ks : List Datum) → Todo b rest (result_on o ss) → FillAll ps (table x) ss us → LocalsFit ps x b ks → Awaits ps x o rest us ks
  awaits o b rest ss us ks r f l = record { has = b; slots = ss; fits = r; filled = f; locals = l }

  -- ---- one item

  pub fetch_goes : (b : Started) (rest : List Item) (ss : List Slot) (m k : Mode) → out-Mode k ≡ Mode-F.Ref m → is_value (out-Mode m) ≡ true → Todo b rest (AValue m ∷ ss) → Goes b (AValue k ∷ ss) (fetch_then rest)
  fetch_goes b rest ss m k o v r us ks f l = place_found ps x e m k ss us (λ p ws. Reads p rest ws ks) o f (λ p ws h f2. (m, v, inl h, awaits (Some m) b rest ss ws ks r f2 l))

  pub fetch_own_goes : (b : Started) (rest : List Item) (ss : List Slot) (m : Mode) → is_value (out-Mode m) ≡ true → Todo b rest (AValue m ∷ ss) → Goes b (AnOwn m ∷ ss) (fetch_then rest)
  fetch_own_goes b rest ss m v r us ks f l = own_found ps x e m ss us (λ p ws. Reads p rest ws ks) f (λ p ws st h f2. (m, v, inr (st, h), awaits (Some m) b rest ss ws ks r f2 l))

  pub into_goes : (b : Started) (ss : List Slot) (go : Going) (k w m : Mode) (r n : ℕ) → out-Mode k ≡ Mode-F.Ref w → out-Mode w ≡ Mode-F.Record r → field_mode t.records r n ≡ Some m → Goes b (APlace m ∷ ss) go → Goes b (AValue k ∷ ss) (into_then n go)
  into_goes b ss go k w m r n o ow fm go_on us ks f l =
      place_found ps x e w k ss us (λ p ws. go (Reference (deeper p n) ∷ ws) ks) o f (λ p ws h f2. go_on (Reference (deeper p n) ∷ ws) ks (place_is ps so t g.known m (deeper p n) (field_leads ps so t g.known w m r n p h ow fm), f2) l)

  picked_by : (c : Bool) (y : Next) → (c ≡ true → NextFits ps x e y) → NextFits ps x e (if c then y else Errors 1)
  picked_by true y h = h refl
  picked_by false y h = omega arith

  pub pick_goes : (b : Started) (ss : List Slot) (go : Going) (n : ℕ) (i k w m : Mode) → IsInt i → out-Mode k ≡ Mode-F.Ref w → out-Mode w ≡ Mode-F.Array n m → Goes b (APlace m ∷ ss) go → Goes b (AValue i ∷ AValue k ∷ ss) (pick_then n go)
  pick_goes b ss go n i k w m ii o ow go_on us ks f l =
      word_found ps x e i (AValue k ∷ ss) us _ (int_is_word i ii) f (λ j ws rj f2.
      place_found ps x e w k ss ws _ o f2 (λ p zs h f3.
      picked_by (in_row j n) (go (Reference (deeper p (j - 1)) ∷ zs) ks) (λ c.
      go_on (Reference (deeper p (j - 1)) ∷ zs) ks (place_is ps so t g.known m (deeper p (j - 1)) (element_leads ps so t g.known w m n j p h ow (elements_stand t w m n ow h.here) c), f3) l)))

  pub pick_row_goes : (b : Started) (ss : List Slot) (go : Going) (i k m : Mode) → IsInt i → out-Mode k ≡ Mode-F.RefArray m → Goes b (APlace m ∷ ss) go → Goes b (AValue i ∷ AValue k ∷ ss) (pick_row_then go)
  pick_row_goes b ss go i k m ii o go_on us ks f l =
      word_found ps x e i (AValue k ∷ ss) us _ (int_is_word i ii) f (λ j ws rj f2.
      row_found ps x e m k ss ws _ o f2 (λ p n zs st h f3.
      picked_by (in_row j n) (go (Reference (deeper p (j - 1)) ∷ zs) ks) (λ c.
      go_on (Reference (deeper p (j - 1)) ∷ zs) ks (place_is ps so t g.known m (deeper p (j - 1)) (row_leads ps so t g.known m n j p h (row_elements_stand t k m o st) c), f3) l)))

  pub span_goes : (b : Started) (ss : List Slot) (go : Going) (n : ℕ) (k a w m : Mode) → out-Mode k ≡ Mode-F.Ref a → out-Mode m ≡ Mode-F.RefArray w → out-Mode a ≡ Mode-F.Array n w → Goes b (AValue m ∷ ss) go → Goes b (AValue k ∷ ss) (span_then n go)
  span_goes b ss go n k a w m o om oa go_on us ks f l =
      place_found ps x e a k ss us _ o f (λ p ws h f2. go_on (Row p n ∷ ws) ks (row_of ps so t g.known a w m n p h oa om (rows_stand t a w m n oa om h.here), f2) l)

  pub tell_goes : (b : Started) (ss : List Slot) (go : Going) (n : ℕ) (k a m : Mode) → out-Mode k ≡ Mode-F.Ref a → IsInt m → n < 65536 → Goes b (AValue m ∷ ss) go → Goes b (AValue k ∷ ss) (tell_then n go)
  tell_goes b ss go n k a m o im r go_on us ks f l =
      place_found ps x e a k ss us _ o f (λ p ws h f2. go_on (Word n ∷ ws) ks (number_is ps t m n (int_is_number m im) r, f2) l)

  pub length_goes : (b : Started) (ss : List Slot) (go : Going) (k w m : Mode) → IsInt m → out-Mode k ≡ Mode-F.RefArray w → Goes b (AValue m ∷ ss) go → Goes b (AValue k ∷ ss) (length_then go)
  length_goes b ss go k w m im o go_on us ks f l =
      row_found ps x e w k ss us _ o f (λ p n ws st h f2. go_on (Word n ∷ ws) ks (number_is ps t m n (int_is_number m im) (so.elements p h.table h.is h.element n h.at h.array).1, f2) l)

  pub given_one : (o : Op1) (m : Mode) (n : ℕ) → GivesOne o m → n < 65536 → IsOf ps t m (Word (one_of o n))
  given_one one.Byte m n h r = byte_is ps t m (n % 256) h (byte_below n)
  given_one one.Plus m n h r = number_is ps t m (one_of one.Plus n) h (one_below one.Plus n r)
  given_one one.Minus m n h r = number_is ps t m (one_of one.Minus n) h (one_below one.Minus n r)
  given_one one.Abs m n h r = number_is ps t m (one_of one.Abs n) h (one_below one.Abs n r)
  given_one one.Not m n h r = number_is ps t m (one_of one.Not n) h (one_below one.Not n r)
  given_one one.Int m n h r = number_is ps t m (one_of one.Int n) h (one_below one.Int n r)
  given_one one.Frac m n h r = number_is ps t m (one_of one.Frac n) h (one_below one.Frac n r)

  pub alter_goes : (b : Started) (ss : List Slot) (go : Going) (o : Op1) (k m : Mode) → monadic_mode o k ≡ Some m → Goes b (AValue m ∷ ss) go → Goes b (AValue k ∷ ss) (alter_then o go)
  alter_goes b ss go o k m is go_on us ks f l =
      let h = monadic_gives o k m is in
      word_found ps x e k ss us _ h.0 f (λ n ws r f2. go_on (Word (one_of o n) ∷ ws) ks (given_one o m n h.1 r, f2) l)

  pub merge_goes : (b : Started) (ss : List Slot) (go : Going) (o : Op2) (j k m : Mode) → dyadic_mode o j k ≡ Some m → Goes b (AValue m ∷ ss) go → Goes b (AValue k ∷ AValue j ∷ ss) (merge_then o go)
  merge_goes b ss go o j k m is go_on us ks f l =
      let d = dyadic_gives o j k m is in
      word_found ps x e k (AValue j ∷ ss) us _ (number_is_word k d.1) f (λ n ws rn f2.
      word_found ps x e j ss ws _ (number_is_word j d.0) f2 (λ i zs ri f3.
      go_on (Word (two_of o i n) ∷ zs) ks (number_is ps t m (two_of o i n) d.2 (two_below o i n ri rn), f3) l))

  share_goes : (b : Started) (rest : List Item) (ss : List Slot) (go : Going) (m : Mode) (h : Share) (us ks : List Datum) → ShareBelow h → IsNumber m → Todo b rest (AValue m ∷ ss) → Goes b (AValue m ∷ ss) go → FillAll ps (table x) ss us → LocalsFit ps x b ks
      → NextFits ps x e (share_then h rest go us ks)
  share_goes b rest ss go m (Gives n) us ks h nm r go_on f l = go_on (Word n ∷ us) ks (number_is ps t m n nm h, f) l
  share_goes b rest ss go m (Fails n) us ks h nm r go_on f l =
      (int_taken, ap is_value (out_proc (mode.Int ∷ []) None), inr (int_taken_stands t, slots.erp (out_proc (mode.Int ∷ []) None) (erp_full t)), awaits (Some int_taken) b (Report n ∷ Stand 0 ∷ rest) ss us ks (mode.Int, out_proc (mode.Int ∷ []) None, out_int, h, (m, nm, omega arith, r)) f l)

  pub split_goes : (b : Started) (rest : List Item) (ss : List Slot) (go : Going) (o : Op2) (j k m : Mode) → dyadic_mode o j k ≡ Some m → Todo b rest (AValue m ∷ ss) → Goes b (AValue m ∷ ss) go → Goes b (AValue k ∷ AValue j ∷ ss) (split_then o rest go)
  split_goes b rest ss go o j k m is r go_on us ks f l =
      let d = dyadic_gives o j k m is in
      word_found ps x e k (AValue j ∷ ss) us _ (number_is_word k d.1) f (λ n ws rn f2.
      word_found ps x e j ss ws _ (number_is_word j d.0) f2 (λ i zs ri f3.
      share_goes b rest ss go m (divided o i n) zs ks (divided_below o i n) d.2 r go_on f3 l))

  -- a brick is called with the last values
  pub enter_goes : (b : Started) (rest : List Item) (ss : List Slot) (brick n : ℕ) (w : Mode) (ws : List Mode) (o : Option Mode) → proc_mode (faces x.parts.bricks) brick ≡ Some w → out-Mode w ≡ Mode-F.Proc ws o → n ≡ length ws → Todo b rest (result_on o ss)
      → Goes b (values_on ws ss) (enter_then (e.leads brick) n rest)
  enter_goes b rest ss brick n w ws o pm ow c r us ks f l =
      let p = g.procs brick w pm in
      let q = popped ps t ws ss us f in
      let at : NextFits ps x e (Calls (e.leads brick) (taken (length ws) [] us) rest (left (length ws) us) ks) = (w, ws, o, ow, p.3, p.4, q.0, awaits o b rest ss (left (length ws) us) ks r q.1 l, by_name pm) in
      subst (λ (i : ℕ). NextFits ps x e (Calls (e.leads brick) (taken i [] us) rest (left i us) ks)) (sym c) at

  pub enter_by_goes : (b : Started) (rest : List Item) (ss : List Slot) (n : ℕ) (w : Mode) (ws : List Mode) (o : Option Mode) → out-Mode w ≡ Mode-F.Proc ws o → n ≡ length ws → Todo b rest (result_on o ss)
      → Goes b (values_on ws (AValue w ∷ ss)) (enter_by_then n rest)
  enter_by_goes b rest ss n w ws o ow c r us ks f l =
      let q = popped ps t ws (AValue w ∷ ss) us f in
      subst (λ (i : ℕ). NextFits ps x e (enter_by_then i rest us ks)) (sym c)
      (proc_found ps x e w ws o ss (left (length ws) us) (λ h zs. Calls h (taken (length ws) [] us) rest zs ks) ow q.1 (λ h zs st is f2. (w, ws, o, ow, st, so.candidates (FullMode t w) h is, q.0, awaits o b rest ss zs ks r f2 l, by_value is)))

  -- ---- whole terms

  pub numeral : (n : ℕ) (m : Mode) (l : Mode-F Mode) → out-Mode m ≡ l → number_fits n l → IsOf ps t m (Word n)
  numeral n m Mode-F.Byte o h = byte_is ps t m n o h
  numeral n m Mode-F.Int o h = number_is ps t m n (int_is_number m o) h
  numeral n m _ o h = absurd h

  pub own : (q : Path) (m : Mode) (b : Started) (ss : List Slot) (go : Going) (rest : List Item) → OwnFits t q m → MayStand t m → Goes b (AnOwn m ∷ ss) go → Goes b ss (λ vs ls. first_p e q rest go vs ls)
  own (Svc k) m b ss go rest h st go_on vs ls f l = go_on (Reference (location.Own k) ∷ vs) ls ((st, h), f) l
  own (ItemAt i j) m b ss go rest h st go_on vs ls f l = absurd h
  own (FieldOf q r k) m b ss go rest h st go_on vs ls f l = absurd h
  own (Elem q v n w) m b ss go rest h st go_on vs ls f l = absurd h
  own (ElemRow a v w) m b ss go rest h st go_on vs ls f l = absurd h
  own (Past v) m b ss go rest h st go_on vs ls f l = absurd h

  mutual
    pub term_fits : (v : Term) (m : Mode) (b : Started) (rest : List Item) (ss : List Slot) (go : Going) → TermFits x b v m → Todo b rest (AValue m ∷ ss) → Goes b (AValue m ∷ ss) go → Goes b ss (λ vs ls. first e v rest go vs ls)
    term_fits (Num n) m b rest ss go h r k vs ls f l = k (Word n ∷ vs) ls (numeral n m (out-Mode m) refl h, f) l
    term_fits (Str n) m b rest ss go h r k vs ls f l = k (text e n ∷ vs) ls (of_suits ps so t g.known (byte_rows_stand t m h.0 h.1 h.2) (g.texts n m h.0 h.3 h.1 h.2), f) l
    term_fits (Name i) m b rest ss go h r k vs ls f l =
        let p = g.procs i m h.0 in
        k (Procedure (e.leads i) ∷ vs) ls ((s.procedure p.2 (g.taken_are i m h.0 h.1), p.3), f) l
    term_fits (Own i) m b rest ss go h r k vs ls f l = k (_ ∷ vs) ls (l.started i m h.0 h.1, f) l
    term_fits (Get w q) m b rest ss go h r k vs ls f l = elim h.2 [
      | inl p ↦ path_fits q m b (Fetch ∷ rest) ss (fetch_then rest) p (m, out_ref m, (h.1, r)) (fetch_goes b rest ss m (mode.Ref m) (out_ref m) h.1 r) vs ls f l
      | inr p ↦ own q m b ss (fetch_then rest) (Fetch ∷ rest) p.0 p.1 (fetch_own_goes b rest ss m h.1 r) vs ls f l
    ]
    term_fits (Ref q) m b rest ss go h r k vs ls f l =
        let same : m ≡ mode.Ref h.0 = is_ref m h.0 h.1 in
        path_fits q h.0 b rest ss go h.2 (subst (λ (y : Mode). Todo b rest (AValue y ∷ ss)) same r) (subst (λ (y : Mode). Goes b (AValue y ∷ ss) go) same k) vs ls f l
    term_fits (RefRow q n) m b rest ss go h r k vs ls f l =
        path_fits q h.1 b (Span n ∷ rest) ss (span_then n go) h.4 (h.1, out_ref h.1, (h.0, m, h.2, h.3, r)) (span_goes b ss go n (mode.Ref h.1) h.1 h.0 m (out_ref h.1) h.2 h.3 k) vs ls f l
    term_fits (Count q n) m b rest ss go h r k vs ls f l =
        path_fits q h.0 b (Tell n ∷ rest) ss (tell_then n go) h.3 (h.0, out_ref h.0, (m, h.1, h.2, r)) (tell_goes b ss go n (mode.Ref h.0) h.0 m (out_ref h.0) h.1 h.2 k) vs ls f l
    term_fits (CountRow v) m b rest ss go h r k vs ls f l = term_fits v h.0 b (Length ∷ rest) ss (length_then go) h.4 (h.1, m, h.2, h.3, r) (length_goes b ss go h.0 h.1 m h.2 h.3 k) vs ls f l
    term_fits (One o v) m b rest ss go h r k vs ls f l = term_fits v h.0 b (Alter o ∷ rest) ss (alter_then o go) h.2 (m, h.1, r) (alter_goes b ss go o h.0 m h.1 k) vs ls f l
    term_fits (Two o y z) m b rest ss go h r k vs ls f l =
        term_fits y h.0 b (Eval z ∷ Merge o ∷ rest) ss (λ us ks. first e z (Merge o ∷ rest) (merge_then o go) us ks) h.3 (h.1, h.4, (m, h.2, r))
        (term_fits z h.1 b (Merge o ∷ rest) (AValue h.0 ∷ ss) (merge_then o go) h.4 (m, h.2, r) (merge_goes b ss go o h.0 h.1 m h.2 k)) vs ls f l
    term_fits (Over o y z) m b rest ss go h r k vs ls f l =
        term_fits y h.0 b (Eval z ∷ Split o ∷ rest) ss (λ us ks. first e z (Split o ∷ rest) (split_then o rest go) us ks) h.3 (h.1, h.4, (m, h.2, r))
        (term_fits z h.1 b (Split o ∷ rest) (AValue h.0 ∷ ss) (split_then o rest go) h.4 (m, h.2, r) (split_goes b rest ss go o h.0 h.1 m h.2 r k)) vs ls f l
    term_fits (Apply i xs) m b rest ss go h r k vs ls f l =
        let c = count_terms x b xs h.1 h.4 in
        terms_fit xs h.1 b (Enter i (how_many xs) ∷ rest) ss (enter_then (e.leads i) (how_many xs) rest) h.4 (h.0, h.1, Some m, ss, h.2, h.3, c, refl, r)
        (enter_goes b rest ss i (how_many xs) h.0 h.1 (Some m) h.2 h.3 c r) vs ls f l
    term_fits (ApplyBy u y xs) m b rest ss go h r k vs ls f l =
        let c = count_terms x b xs h.1 h.4 in
        term_fits y h.0 b (Args xs ∷ EnterBy (how_many xs) ∷ rest) ss (λ us ks. first_all e xs (EnterBy (how_many xs) ∷ rest) (enter_by_then (how_many xs) rest) us ks) h.3
        (h.1, h.4, (h.0, h.1, Some m, ss, h.2, c, refl, r))
        (terms_fit xs h.1 b (EnterBy (how_many xs) ∷ rest) (AValue h.0 ∷ ss) (enter_by_then (how_many xs) rest) h.4 (h.0, h.1, Some m, ss, h.2, c, refl, r)
        (enter_by_goes b rest ss (how_many xs) h.0 h.1 (Some m) h.2 c r)) vs ls f l

    pub path_fits : (q : Path) (m : Mode) (b : Started) (rest : List Item) (ss : List Slot) (go : Going) → PathFits x b q m → Todo b rest (APlace m ∷ ss) → Goes b (APlace m ∷ ss) go → Goes b ss (λ vs ls. first_p e q rest go vs ls)
    path_fits (ItemAt i j) m b rest ss go h r k vs ls f l = k (Reference (item e i j) ∷ vs) ls (place_is ps so t g.known m (item e i j) (g.items i j m h), f) l
    path_fits (Svc i) m b rest ss go h r k vs ls f l = absurd h
    path_fits (FieldOf q i j) m b rest ss go h r k vs ls f l =
        path_fits q h.0 b (Into q j ∷ rest) ss (into_then j go) h.3 (h.0, out_ref h.0, (i, m, h.1, h.2, r)) (into_goes b ss go (mode.Ref h.0) h.0 m i j (out_ref h.0) h.1 h.2 k) vs ls f l
    path_fits (Elem q v n w) m b rest ss go h r k vs ls f l =
        path_fits q h.0 b (Eval v ∷ Pick q n ∷ rest) ss (λ us ks. first e v (Pick q n ∷ rest) (pick_then n go) us ks) h.4 (h.1, h.5, (h.0, out_ref h.0, (m, h.3, h.2, r)))
        (term_fits v h.1 b (Pick q n ∷ rest) (APlace h.0 ∷ ss) (pick_then n go) h.5 (h.0, out_ref h.0, (m, h.3, h.2, r)) (pick_goes b ss go n h.1 (mode.Ref h.0) h.0 m h.3 (out_ref h.0) h.2 k)) vs ls f l
    path_fits (ElemRow a v w) m b rest ss go h r k vs ls f l =
        term_fits a h.0 b (Eval v ∷ PickRow ∷ rest) ss (λ us ks. first e v (PickRow ∷ rest) (pick_row_then go) us ks) h.4 (h.1, h.5, (m, h.3, h.2, r))
        (term_fits v h.1 b (PickRow ∷ rest) (AValue h.0 ∷ ss) (pick_row_then go) h.5 (m, h.3, h.2, r) (pick_row_goes b ss go h.1 h.0 m h.3 h.2 k)) vs ls f l
    path_fits (Past v) m b rest ss go h r k vs ls f l =
        let same : mode.Ref m ≡ h.0 = sym (is_ref h.0 m h.1) in
        term_fits v h.0 b rest ss go h.2 (subst (λ (y : Mode). Todo b rest (AValue y ∷ ss)) same r) (subst (λ (y : Mode). Goes b (AValue y ∷ ss) go) same k) vs ls f l

    pub terms_fit : (xs : Terms) (ws : List Mode) (b : Started) (rest : List Item) (ss : List Slot) (go : Going) → TermsFit x b xs ws → Todo b rest (values_on ws ss) → Goes b (values_on ws ss) go → Goes b ss (λ vs ls. first_all e xs rest go vs ls)
    terms_fit NoTerm ws b rest ss go h r k vs ls f l = subst (λ (y : List Mode). Goes b (values_on y ss) go) h k vs ls f l
    terms_fit (MoreTerms v xs) ws b rest ss go h r k vs ls f l =
        term_fits v h.0 b (Args xs ∷ rest) ss (λ us ks. first_all e xs rest go us ks) h.3 (h.1, h.4, subst (λ (y : List Mode). Todo b rest (values_on y ss)) h.2 r)
        (terms_fit xs h.1 b rest (AValue h.0 ∷ ss) go h.4 (subst (λ (y : List Mode). Todo b rest (values_on y ss)) h.2 r) (subst (λ (y : List Mode). Goes b (values_on y ss) go) h.2 k)) vs ls f l

  -- a call with or without result
  pub call_fits : (v : Term) (o : Option Mode) (b : Started) (rest : List Item) (ss : List Slot) (go : Going) → CallFits x b v o → Todo b rest (result_on o ss) → Goes b ss (λ vs ls. first e v rest go vs ls)
  call_fits (Apply i xs) o b rest ss go h r vs ls f l =
      let c = count_terms x b xs h.1 h.4 in
      terms_fit xs h.1 b (Enter i (how_many xs) ∷ rest) ss (enter_then (e.leads i) (how_many xs) rest) h.4 (h.0, h.1, o, ss, h.2, h.3, c, refl, r)
      (enter_goes b rest ss i (how_many xs) h.0 h.1 o h.2 h.3 c r) vs ls f l
  call_fits (ApplyBy u y xs) o b rest ss go h r vs ls f l =
      let c = count_terms x b xs h.1 h.4 in
      term_fits y h.0 b (Args xs ∷ EnterBy (how_many xs) ∷ rest) ss (λ us ks. first_all e xs (EnterBy (how_many xs) ∷ rest) (enter_by_then (how_many xs) rest) us ks) h.3
      (h.1, h.4, (h.0, h.1, o, ss, h.2, c, refl, r))
      (terms_fit xs h.1 b (EnterBy (how_many xs) ∷ rest) (AValue h.0 ∷ ss) (enter_by_then (how_many xs) rest) h.4 (h.0, h.1, o, ss, h.2, c, refl, r)
      (enter_by_goes b rest ss (how_many xs) h.0 h.1 o h.2 c r)) vs ls f l
  call_fits _ o b rest ss go h r vs ls f l = absurd h
