-- What is made of a start that fits a mode starts an item of it.
use Rattle.std.proofs.Common.{◌≡◌, ℕ, zero, suc, ◌+◌, ◌==◌, ◌&&◌, ◌||◌, Bool, true, false, if◌then◌else◌, List, [], ◌∷◌, ◌++◌, Option, Some, None, length, map, take, drop, slice_get, arith, refl, sym, ap, ◌∙◌, subst}
use Rattle.std.specs.Prelude.{nat_lt, nat_le, replicate, not}
use Rattle.std.specs.List.{AllByRecursion}
use Rattle.std.proofs.lemmas.List.{length-append, length-replicate, length-drop, length-map, take-append-drop}
use Rattle.rt_bricks.specs.declared.tree.Parenthesized.{Parenthesized}
use Rattle.rt_bricks.specs.declared.tree.Sign.{Sign}
use Rattle.rt_bricks.specs.declared.tree.Start.{Start, out-Start, roll-Start, map-Start, the_lemmas}
use Rattle.rt_bricks.specs.declared.tree.Start.TheFolds.{ind-Start}
use Rattle.rt_bricks.specs.declared.tree.Start.TheOpen.{Start-F}
use Rattle.rt_grammar.specs.declared.at.At.{At}
use Rattle.rt_modes.specs.declared.mode.Field.{Field}
use Rattle.rt_modes.specs.declared.mode.Mode.{Mode, out-Mode}
use Rattle.rt_modes.specs.declared.mode.Mode.TheOpen.{Mode-F}
use Rattle.rt_modes.specs.declared.mode.Mode.TheVariants as mode
use Rattle.rt_modes.specs.declared.mode.RecordDef.{RecordDef}
use Rattle.rt_tree_nodes.specs.declared.brick.DataStart.{DataStart}
use Rattle.rt_tree_nodes.specs.declared.brick.DataStart.TheVariants as start
use Rattle.rt_tree_nodes.specs.Scopes.{Scope, same}
use Rattle.rt_tree_nodes.proofs.Same.{same_itself}
use Rattle.rt_exprs.specs.declared.scope.Meaning.{Meaning}
use Rattle.rt_exprs.specs.Modes.{is_byte}
use Rattle.rt_items.specs.Ranges.{IsByte}
use Rattle.rt_syntax.specs.Strings.{Texts, Finds, all}
use Rattle.rt_tree.specs.Modules.{number_starts, text_starts, starts, all_start, fields_start}
use Rattle.rt_exprs_laws.specs.Agreeing.{IsThere, IsItem, HasItems}
use Rattle.rt_check_bodies_laws.specs.Held.{IsKnown}
use Rattle.rt_exprs.specs.Operands.{is_label}
use Rattle.rt_exprs_laws.proofs.Standing.{is_byte as byte_mode}
use Rattle.rt_words.specs.Word.{wrap_sub}
use Rattle.rt_check_declared.specs.Written.{Names}
use Rattle.rt_bricks_laws.specs.Strings.{in_start}
use Rattle.rt_check_module.specs.Starts.{Written, copies, total, all_stand, covers, Wanted, elements, fields, nothing, if_covered, wanted_fields, wanted, each_fits, starts_field, all_fit, fields_fit, in_each, in_all, in_fields, each_made, all_made, fields_made, is_negative, number_fits, word, text_fits, text_used, text_made, number_of, written}
use Rattle.rt_check_module.specs.Strings.{is_in, all as all_texts, texts}
use Rattle.rt_check_module.proofs.Lists.{written_at, copies_seen, all_copies, list_fits, list_used, list_made}
use Rattle.rt_check_bodies_laws.proofs.Certain.{no_label}
use Rattle.rt_check_module_laws.specs.Starts.{AreBytes, BeginAt}
use Rattle.rt_check_module_laws.proofs.Tests.{left_of, right_of, both, equal_numbers, all_left, all_right}
use Rattle.rt_check_module_laws.proofs.Layers.{a_number, a_text, an_array, a_record, more_start, copies_start, more_fields}
use Rattle.rt_check_module_laws.proofs.Places.{a_name}
use Rattle.rt_check_module_laws.proofs.StartTexts.{bytes_start, number_there, found_at, texts_at, all_keep}

-- ---- numbers

unsigned : (n k : ℕ) (b : Bool) → not b && nat_le n 255 ≡ true → nat_le (if b then k else n) 255 ≡ true
unsigned n k true h = absurd cc
unsigned n k false h = h

number_made : (sign : Option Sign) (n : ℕ) (l : Mode-F Mode) → number_fits sign n l ≡ true → number_starts (word sign n) l ≡ true
number_made sign n Mode-F.Byte h = unsigned n (wrap_sub 0 n) (is_negative sign) h
number_made sign n Mode-F.Int h = refl
number_made sign n Mode-F.Frac h = refl
number_made sign n _ h = absurd cc

-- ---- parts

-- as many elements are made as there are copies
each_many : (ws : List Written) (e : Mode) → length (each_made ws e) ≡ total (map (λ (w : Written). w.copies) ws)
each_many [] e = refl
each_many (w ∷ ws) e = length-append (replicate w.copies (w.made e)) (each_made ws e) ∙ ap (λ (n : ℕ). n + length (each_made ws e)) (length-replicate w.copies (w.made e)) ∙ ap (λ (n : ℕ). w.copies + n) (each_many ws e)

covered : (n : ℕ) (cs : List ℕ) → covers n cs ≡ true → total cs ≡ n
covered n cs h = equal_numbers (total cs) n (right_of (all_stand cs) (total cs == n) h)

is_byte_mode : (m : Mode) (l : Mode-F Mode) → out-Mode m ≡ l → is_byte l ≡ true → out-Mode m ≡ Mode-F.Byte
is_byte_mode m Mode-F.Byte o h = o
is_byte_mode m _ o h = absurd cc

same_byte : (m : Mode) → out-Mode m ≡ Mode-F.Byte → same m mode.Byte ≡ true
same_byte m o = ap (λ (x : Mode). same x mode.Byte) (byte_mode m o) ∙ same_itself mode.Byte

abbrev uses : Written → Mode → List ℕ
uses w = w.used

-- what starts a field whose mode is known fits its mode
field_fits : (label fits : Bool) → label ≡ false → label || fits ≡ true → fits ≡ true
field_fits true fits e h = absurd cc
field_fits false fits e h = h

all_taken : {A : Type 0} (P : A → Type 0) (k : ℕ) (xs : List A) → AllByRecursion P xs → AllByRecursion P (take k xs)
all_taken P zero xs h = tt
all_taken P (suc k) [] h = tt
all_taken P (suc k) (x ∷ xs) h = (h.0, all_taken P k xs h.1)

pub all_dropped : {A : Type 0} (P : A → Type 0) (k : ℕ) (xs : List A) → AllByRecursion P xs → AllByRecursion P (drop k xs)
all_dropped P zero xs h = h
all_dropped P (suc k) [] h = tt
all_dropped P (suc k) (x ∷ xs) h = all_dropped P k xs h.1

module _ (c : Scope) (records : List RecordDef) (names : Names) (keys items : List ℕ) (same_records : records ≡ c.records) (count : length keys ≡ c.strings) (there : (name : List ℕ) (is : Meaning) → names name ≡ Some is → IsThere c is)
    (known : (name : List ℕ) (is : Meaning) → names name ≡ Some is → IsKnown is) (items_are : (r : ℕ) (d : RecordDef) → slice_get records r ≡ Some d → HasItems d) where
  abbrev seen : Start → Written
  seen = written records names keys

  -- without names and strings
  abbrev plain : Start → Written
  plain = written records (λ n. None) []

  abbrev AreUsed : List ℕ → Type 0
  AreUsed ks = AllByRecursion (λ k. is_in items k ≡ true) ks

  abbrev Numbered : Texts → Type 0
  Numbered ts = BeginAt keys ts

  abbrev Fits : Start → Type 0
  Fits x = (prior : Texts) (m : Mode) → AreBytes (in_start x prior) → Numbered (texts items x) → AreUsed ((plain x).used m) → (seen x).fits m ≡ true → starts c ((seen x).made m) m ≡ true

  abbrev Pair : Type 0
  Pair = (x : Start) × Fits x

  abbrev inner : List Pair → List Start
  inner ps = map (λ p. p.0) ps

  is_made : (m : Mode) (a b : DataStart) → a ≡ b → starts c b m ≡ true → starts c a m ≡ true
  is_made m a b e h = ap (λ (z : DataStart). starts c z m) e ∙ h

  -- ---- the elements of an array

  each_starts : (ps : List Pair) (prior : Texts) (e : Mode) → AreBytes (all (map in_start (inner ps)) prior) → Numbered (all_texts (map (texts items) (inner ps))) → AreUsed (in_each uses (map plain (inner ps)) e) → each_fits (map seen (inner ps)) e ≡ true
      → all_start (map (starts c) (each_made (map seen (inner ps)) e)) e ≡ true
  each_starts [] prior e b t u h = refl
  each_starts (p ∷ ps) prior e b t u h =
      let now : Bool = (seen p.0).fits e in
      let later : Bool = each_fits (map seen (inner ps)) e in
      let first : starts c ((seen p.0).made e) e ≡ true =
      p.1 prior e (all_keep (inner ps) (in_start p.0 prior) b) (all_left (λ (s : ℕ × List ℕ). is_in keys s.0 ≡ true) (texts items p.0) (all_texts (map (texts items) (inner ps))) t)
      (all_left (λ (k : ℕ). is_in items k ≡ true) ((plain p.0).used e) (in_each uses (map plain (inner ps)) e) u) (left_of now later h) in
      let rest : all_start (map (starts c) (each_made (map seen (inner ps)) e)) e ≡ true =
      each_starts ps (in_start p.0 prior) e b (all_right (λ (s : ℕ × List ℕ). is_in keys s.0 ≡ true) (texts items p.0) (all_texts (map (texts items) (inner ps))) t)
      (all_right (λ (k : ℕ). is_in items k ≡ true) ((plain p.0).used e) (in_each uses (map plain (inner ps)) e) u) (right_of now later h) in
      more_start c (replicate (seen p.0).copies ((seen p.0).made e)) (each_made (map seen (inner ps)) e) e (copies_start c (seen p.0).copies ((seen p.0).made e) e first) rest

  -- ---- the fields of a record

  -- the fields that one part starts
  some_start : (x : Start) (fits : Fits x) (prior : Texts) (gs : List Field) → AllByRecursion (λ (g : Field). IsItem g.mode) gs → AreBytes (in_start x prior) → Numbered (texts items x) → AreUsed (in_all uses (plain x) gs) → all_fit (seen x) gs ≡ true
      → AllByRecursion (λ (g : Field). starts c ((seen x).made g.mode) g.mode ≡ true) gs
  some_start x fits prior [] k b t u h = tt
  some_start x fits prior (g ∷ gs) k b t u h =
      let now : Bool = starts_field (seen x) g.mode in
      let later : Bool = all_fit (seen x) gs in (
        fits prior g.mode b t (all_left (λ (k : ℕ). is_in items k ≡ true) ((plain x).used g.mode) (in_all uses (plain x) gs) u) (field_fits (is_label (out-Mode g.mode)) ((seen x).fits g.mode) (no_label g.mode k.0) (left_of now later h)),
        some_start x fits prior gs k.1 b t (all_right (λ (k : ℕ). is_in items k ≡ true) ((plain x).used g.mode) (in_all uses (plain x) gs) u) (right_of now later h),
      )

  same_copies : (x : Start) → (plain x).copies ≡ (seen x).copies
  same_copies x = copies_seen records (λ n. None) [] x ∙ sym (copies_seen records names keys x)

  abbrev copied : List Start → ℕ
  copied xs = total (map (λ (w : Written). w.copies) (map seen xs))

  fields_start_so : (ps : List Pair) (prior : Texts) (fs : List Field) → AllByRecursion (λ (g : Field). IsItem g.mode) fs → AreBytes (all (map in_start (inner ps)) prior) → Numbered (all_texts (map (texts items) (inner ps))) → AreUsed (in_fields uses (map plain (inner ps)) fs)
      → fields_fit (map seen (inner ps)) fs ≡ true → copied (inner ps) ≡ length fs → fields_start (map (starts c) (fields_made (map seen (inner ps)) fs)) fs ≡ true
  fields_start_so [] prior [] i b t u h n = refl
  fields_start_so [] prior (f ∷ fs) i b t u h n = absurd (omega (arith, n))
  fields_start_so (p ∷ ps) prior fs i b t u h n =
      let k : ℕ = (seen p.0).copies in
      let now : Bool = all_fit (seen p.0) (take k fs) in
      let later : Bool = fields_fit (map seen (inner ps)) (drop k fs) in
      let used : AreUsed (in_all uses (plain p.0) (take k fs) ++ in_fields uses (map plain (inner ps)) (drop k fs)) =
      subst (λ (j : ℕ). AreUsed (in_all uses (plain p.0) (take j fs) ++ in_fields uses (map plain (inner ps)) (drop j fs))) (same_copies p.0) u in
      let first : AllByRecursion (λ (g : Field). starts c ((seen p.0).made g.mode) g.mode ≡ true) (take k fs) =
      some_start p.0 p.1 prior (take k fs) (all_taken (λ (g : Field). IsItem g.mode) k fs i) (all_keep (inner ps) (in_start p.0 prior) b) (all_left (λ (s : ℕ × List ℕ). is_in keys s.0 ≡ true) (texts items p.0) (all_texts (map (texts items) (inner ps))) t)
      (all_left (λ (i : ℕ). is_in items i ≡ true) (in_all uses (plain p.0) (take k fs)) (in_fields uses (map plain (inner ps)) (drop k fs)) used) (left_of now later h) in
      let left : copied (inner ps) ≡ length (drop k fs) = omega (arith, n, length-drop k fs) in
      let rest : fields_start (map (starts c) (fields_made (map seen (inner ps)) (drop k fs))) (drop k fs) ≡ true =
      fields_start_so ps (in_start p.0 prior) (drop k fs) (all_dropped (λ (g : Field). IsItem g.mode) k fs i) b (all_right (λ (s : ℕ × List ℕ). is_in keys s.0 ≡ true) (texts items p.0) (all_texts (map (texts items) (inner ps))) t)
      (all_right (λ (i : ℕ). is_in items i ≡ true) (in_all uses (plain p.0) (take k fs)) (in_fields uses (map plain (inner ps)) (drop k fs)) used) (right_of now later h) left in
      subst (λ (gs : List Field). fields_start (map (starts c) (all_made (seen p.0) (take k fs) ++ fields_made (map seen (inner ps)) (drop k fs))) gs ≡ true) (take-append-drop k fs)
      (more_fields c (seen p.0).made (take k fs) (drop k fs) (fields_made (map seen (inner ps)) (drop k fs)) first rest)

  -- ---- a list

  module _ (x : Start) (ps : List Pair) (copied_by : Option Parenthesized) (at : At) (m : Mode) (o : out-Start x ≡ Start-F.List (inner ps) copied_by at) where
    abbrev Goal : Type 0
    Goal = (prior : Texts) → AreBytes (in_start x prior) → Numbered (texts items x) → AreUsed ((plain x).used m) → (seen x).fits m ≡ true → starts c ((seen x).made m) m ≡ true

    bytes_in : (prior : Texts) → AreBytes (in_start x prior) → AreBytes (all (map in_start (inner ps)) prior)
    bytes_in prior b = subst (λ (f : Finds). AreBytes (f prior)) (found_at x (Start-F.List (inner ps) copied_by at) o) b

    texts_in : Numbered (texts items x) → Numbered (all_texts (map (texts items) (inner ps)))
    texts_in t = subst Numbered (texts_at items x (Start-F.List (inner ps) copied_by at) o) t

    nothing_fits : wanted records (map copies (inner ps)) (out-Mode m) ≡ nothing → Goal
    nothing_fits is prior b t u h = absurd (let bad : false ≡ true = sym (list_fits records names keys x (inner ps) copied_by at m nothing o is) ∙ h in cc)

    counted : map (λ (w : Written). w.copies) (map seen (inner ps)) ≡ map copies (inner ps)
    counted = all_copies records names keys (inner ps)

    elements_fit : (n : ℕ) (e : Mode) → out-Mode m ≡ Mode-F.Array n e → covers n (map copies (inner ps)) ≡ true → wanted records (map copies (inner ps)) (out-Mode m) ≡ elements e → Goal
    elements_fit n e l k is prior b t u h =
        let used : AreUsed (in_each uses (map plain (inner ps)) e) = subst AreUsed (list_used records (λ n. None) [] x (inner ps) copied_by at m (elements e) o is) u in
        let fits : each_fits (map seen (inner ps)) e ≡ true = sym (list_fits records names keys x (inner ps) copied_by at m (elements e) o is) ∙ h in
        is_made m _ _ (list_made records names keys x (inner ps) copied_by at m (elements e) o is)
        (an_array c (each_made (map seen (inner ps)) e) m n e l (each_many (map seen (inner ps)) e ∙ ap total counted ∙ covered n (map copies (inner ps)) k) (each_starts ps prior e (bytes_in prior b) (texts_in t) used fits))

    fields_fit_so : (r : ℕ) (d : RecordDef) → out-Mode m ≡ Mode-F.Record r → slice_get records r ≡ Some d → covers (length d.fields) (map copies (inner ps)) ≡ true → wanted records (map copies (inner ps)) (out-Mode m) ≡ fields d.fields → Goal
    fields_fit_so r d l there_is k is prior b t u h =
        let used : AreUsed (in_fields uses (map plain (inner ps)) d.fields) = subst AreUsed (list_used records (λ n. None) [] x (inner ps) copied_by at m (fields d.fields) o is) u in
        let fits : fields_fit (map seen (inner ps)) d.fields ≡ true = sym (list_fits records names keys x (inner ps) copied_by at m (fields d.fields) o is) ∙ h in
        is_made m _ _ (list_made records names keys x (inner ps) copied_by at m (fields d.fields) o is)
        (a_record c (fields_made (map seen (inner ps)) d.fields) m r d l (ap (λ (rs : List RecordDef). slice_get rs r) (sym same_records) ∙ there_is)
        (fields_start_so ps prior d.fields (items_are r d there_is) (bytes_in prior b) (texts_in t) used fits (ap total counted ∙ covered (length d.fields) (map copies (inner ps)) k)))

    by_cover : (n : ℕ) (w : Wanted) (k : Bool) → covers n (map copies (inner ps)) ≡ k → wanted records (map copies (inner ps)) (out-Mode m) ≡ if_covered (map copies (inner ps)) n w → (covers n (map copies (inner ps)) ≡ true → wanted records (map copies (inner ps)) (out-Mode m) ≡ w → Goal) → Goal
    by_cover n w true k is go = go k (is ∙ ap (λ (z : Bool). if z then w else nothing) k)
    by_cover n w false k is go = nothing_fits (is ∙ ap (λ (z : Bool). if z then w else nothing) k)

    by_record : (r : ℕ) (d : Option RecordDef) → out-Mode m ≡ Mode-F.Record r → slice_get records r ≡ d → wanted records (map copies (inner ps)) (out-Mode m) ≡ wanted_fields (map copies (inner ps)) d → Goal
    by_record r None l e is = nothing_fits is
    by_record r (Some d) l e is = by_cover (length d.fields) (fields d.fields) (covers (length d.fields) (map copies (inner ps))) refl is (λ k w. fields_fit_so r d l e k w)

    by_layer : (l : Mode-F Mode) → out-Mode m ≡ l → Goal
    by_layer (Mode-F.Array n e) l = by_cover n (elements e) (covers n (map copies (inner ps))) refl (ap (wanted records (map copies (inner ps))) l) (λ k w. elements_fit n e l k w)
    by_layer (Mode-F.Record r) l = by_record r (slice_get records r) l refl (ap (wanted records (map copies (inner ps))) l)
    by_layer Mode-F.Byte l = nothing_fits (ap (wanted records (map copies (inner ps))) l)
    by_layer Mode-F.Int l = nothing_fits (ap (wanted records (map copies (inner ps))) l)
    by_layer Mode-F.Frac l = nothing_fits (ap (wanted records (map copies (inner ps))) l)
    by_layer Mode-F.Label l = nothing_fits (ap (wanted records (map copies (inner ps))) l)
    by_layer (Mode-F.Ref n) l = nothing_fits (ap (wanted records (map copies (inner ps))) l)
    by_layer (Mode-F.RefArray n) l = nothing_fits (ap (wanted records (map copies (inner ps))) l)
    by_layer (Mode-F.Proc ms r) l = nothing_fits (ap (wanted records (map copies (inner ps))) l)

    list_starts_so : Goal
    list_starts_so = by_layer (out-Mode m) refl

  -- ---- a string

  string_used : (item : ℕ) (bytes : List ℕ) → is_in items item ≡ true → Numbered (if is_in items item then (item, bytes) ∷ [] else []) → is_in keys item ≡ true
  string_used item bytes e t = (let h : Numbered ((item, bytes) ∷ []) = subst (λ (b : Bool). Numbered (if b then (item, bytes) ∷ [] else [])) e t in h).0

  string_starts : (bytes : List ℕ) (item : ℕ) (m : Mode) (l : Mode-F Mode) → out-Mode m ≡ l → AllByRecursion IsByte bytes → Numbered (if is_in items item then (item, bytes) ∷ [] else []) → AreUsed (text_used item l) → text_fits (length bytes) l ≡ true
      → starts c (text_made bytes (number_of keys item) l) m ≡ true
  string_starts bytes item m (Mode-F.Array n e) o b t u h =
      an_array c (map (λ x. start.Number x) bytes) m n e o (length-map bytes (λ x. start.Number x) ∙ equal_numbers (length bytes) n (right_of (is_byte (out-Mode e)) (length bytes == n) h))
      (bytes_start c bytes e (is_byte_mode e (out-Mode e) refl (left_of (is_byte (out-Mode e)) (length bytes == n) h)) b)
  string_starts bytes item m (Mode-F.RefArray e) o b t u h =
      a_text c (number_of keys item) m ∙ ap (text_starts c (number_of keys item)) o
      ∙ both (same e mode.Byte) (nat_lt (number_of keys item) c.strings) (same_byte e (is_byte_mode e (out-Mode e) refl h))
      (ap (nat_lt (number_of keys item)) (sym count) ∙ number_there keys item (string_used item bytes u.0 t))
  string_starts bytes item m Mode-F.Byte o b t u h = absurd cc
  string_starts bytes item m Mode-F.Int o b t u h = absurd cc
  string_starts bytes item m Mode-F.Frac o b t u h = absurd cc
  string_starts bytes item m Mode-F.Label o b t u h = absurd cc
  string_starts bytes item m (Mode-F.Ref e) o b t u h = absurd cc
  string_starts bytes item m (Mode-F.Record r) o b t u h = absurd cc
  string_starts bytes item m (Mode-F.Proc ms r) o b t u h = absurd cc

  -- ---- the whole

  opened : (x : Start) (y : Start-F Pair) → out-Start x ≡ map-Start Pair Start (λ p. p.0) y → Fits x
  opened x (Start-F.Number sign n copied_by at) o prior m b t u h =
      is_made m _ _ (ap (λ (w : Written). w.made m) (written_at records names keys x (Start-F.Number sign n copied_by at) o))
      (a_number c (word sign n) m ∙ number_made sign n (out-Mode m) (sym (ap (λ (w : Written). w.fits m) (written_at records names keys x (Start-F.Number sign n copied_by at) o)) ∙ h))
  opened x (Start-F.Text bytes at) o prior m b t u h =
      let bs : AreBytes (prior ++ (at.item, bytes) ∷ []) = subst (λ (f : Finds). AreBytes (f prior)) (found_at x (Start-F.Text bytes at) o) b in
      is_made m _ _ (ap (λ (w : Written). w.made m) (written_at records names keys x (Start-F.Text bytes at) o))
      (string_starts bytes at.item m (out-Mode m) refl (all_right (λ (s : ℕ × List ℕ). AllByRecursion IsByte s.1) prior ((at.item, bytes) ∷ []) bs).0
      (subst Numbered (texts_at items x (Start-F.Text bytes at) o) t)
      (subst AreUsed (ap (λ (w : Written). w.used m) (written_at records (λ n. None) [] x (Start-F.Text bytes at) o)) u)
      (sym (ap (λ (w : Written). w.fits m) (written_at records names keys x (Start-F.Text bytes at) o)) ∙ h))
  opened x (Start-F.Place i ss) o prior m b t u h =
      is_made m _ _ (ap (λ (w : Written). w.made m) (written_at records names keys x (Start-F.Place i ss) o))
      (a_name c records same_records items_are i.at ss m (names i.name) (there i.name) (known i.name) (sym (ap (λ (w : Written). w.fits m) (written_at records names keys x (Start-F.Place i ss) o)) ∙ h))
  opened x (Start-F.List ps copied_by at) o prior m b t u h = list_starts_so x ps copied_by at m o prior b t u h

  out_roll : (l : Start-F Start) → out-Start (roll-Start l) ≡ l
  out_roll l = search the_lemmas

  pub start_fits : (x : Start) → Fits x
  start_fits = ind-Start Fits (λ x y is. opened (roll-Start x) y (out_roll x ∙ sym is))
