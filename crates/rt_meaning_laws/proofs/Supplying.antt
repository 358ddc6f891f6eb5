-- The supplied data of a module whose bricks match is as it is supplied.
use Rattle.std.proofs.Common.{◌≡◌, ◌⊎◌, inl, inr, ℕ, zero, suc, ◌-◌, nat_lt, ◌==◌, ◌||◌, Bool, true, false, if◌then◌else◌, List, [], ◌∷◌, Option, Some, None, option_map, length, codes, slice_get, refl, sym, ap, ◌∙◌, subst, arith}
use Rattle.std.proofs.lemmas.Bool.Decides.{nat_tests}
use Rattle.std.specs.Str.{bytes_eq}
use Rattle.rt_modes.specs.declared.mode.Field.{Field}
use Rattle.rt_modes.specs.declared.mode.Mode.{Mode, out-Mode}
use Rattle.rt_modes.specs.declared.mode.Mode.TheOpen.{Mode-F}
use Rattle.rt_modes.specs.declared.mode.ModeTable.{ModeTable}
use Rattle.rt_tree_nodes.specs.declared.brick.Brick.{Brick}
use Rattle.rt_tree_nodes.specs.declared.brick.BrickSort.{BrickSort}
use Rattle.rt_tree_nodes.specs.declared.brick.BrickSort.TheVariants as sort
use Rattle.rt_tree_nodes.specs.declared.brick.DataStart.{DataStart}
use Rattle.rt_tree_nodes.specs.declared.brick.Kind.{Kind}
use Rattle.rt_tree_nodes.specs.declared.brick.Kind.TheVariants as kind
use Rattle.rt_tree_nodes.specs.declared.brick.ModuleParts.{ModuleParts}
use Rattle.rt_tree_nodes.specs.Scopes.{with, passes, Layer, is_byte_layer, is_int_layer, is_label_layer, is_one, is_none, takes, gives, field_is, is_error_data, is_stream_data, is_svc, Face, face, faces, sort_of, fields_in, fields_of, is_errors, is_streams, first_fields, errors_of, streams_of, items_of, field_at, svc_mode, scope_of}
use Rattle.rt_tree_nodes.specs.Typing.{Private, kept, item_found}
use Rattle.rt_tree.specs.Stored.{System, HasBrick, module_of}
use Rattle.rt_meaning_laws.specs.Slots as slots
use Rattle.rt_resolve.specs.Matching.{Matched, SuppliedSame}
use Rattle.rt_meaning_laws.proofs.Modes.{words_stand, int_is_word, byte_is_word}
use Rattle.rt_meaning_laws.proofs.Errors.{taking_stands, giving_stands, int_taking_full, byte_taking_full, byte_giving_full}
use Rattle.rt_meaning_laws.proofs.Values.{SvcIs, erl, other}
use Rattle.rt_meaning_laws.proofs.Small.{two_true, passed, with_is, mapped_is}

-- ---- the layers of supplied items

label_layer : (l : Mode-F Mode) → is_label_layer l ≡ true → l ≡ Mode-F.Label
label_layer Mode-F.Label e = refl
label_layer _ e = absurd cc

int_layer : (l : Mode-F Mode) → is_int_layer l ≡ true → l ≡ Mode-F.Int
int_layer Mode-F.Int e = refl
int_layer _ e = absurd cc

byte_layer : (l : Mode-F Mode) → is_byte_layer l ≡ true → l ≡ Mode-F.Byte
byte_layer Mode-F.Byte e = refl
byte_layer _ e = absurd cc

no_more : {A : Type 0} (xs : List A) → length xs == 0 ≡ true → xs ≡ []
no_more [] e = refl
no_more (x ∷ xs) e = absurd (grind (arith, nat_tests))

none_is : {A : Type 0} (o : Option A) → is_none o ≡ true → o ≡ None
none_is None e = refl
none_is (Some x) e = absurd cc

one_mode_is : (test : Layer → Bool) (ms : List Mode) → is_one test ms ≡ true → (m : Mode) × (ms ≡ m ∷ []) × (test (out-Mode m) ≡ true)
one_mode_is test [] e = absurd cc
one_mode_is test (m ∷ ms) e = let k = two_true (test (out-Mode m)) (length ms == 0) e in (m, ap (λ (z : List Mode). m ∷ z) (no_more ms k.1), k.0)

takes_is : (test : Layer → Bool) (l : Layer) → takes test l ≡ true → (m : Mode) × (l ≡ Mode-F.Proc (m ∷ []) None) × (test (out-Mode m) ≡ true)
takes_is test (Mode-F.Proc ms r) e =
    let k = two_true (is_one test ms) (is_none r) e in
    let o = one_mode_is test ms k.0 in
    (o.0, ap (λ (z : List Mode). Mode-F.Proc z r) o.1 ∙ ap (λ (z : Option Mode). Mode-F.Proc (o.0 ∷ []) z) (none_is r k.1), o.2)
takes_is test _ e = absurd cc

gives_is : (test : Layer → Bool) (l : Layer) → gives test l ≡ true → (m : Mode) × (l ≡ Mode-F.Proc [] (Some m)) × (test (out-Mode m) ≡ true)
gives_is test (Mode-F.Proc ms r) e =
    let k = two_true (length ms == 0) (passes (λ m. test (out-Mode m)) r) e in
    let o = passed (λ (m : Mode). test (out-Mode m)) r k.1 in
    (o.0, ap (λ (z : List Mode). Mode-F.Proc z r) (no_more ms k.0) ∙ ap (λ (z : Option Mode). Mode-F.Proc [] z) o.1, o.2)
gives_is test _ e = absurd cc

-- an item that passes a test, by the mode that is found
item_is : (name : List ℕ) (test : Layer → Bool) (fs : List Field) (k : ℕ) (m : Mode) → passes (field_is name test) (slice_get fs k) ≡ true → field_at fs k ≡ Some m → test (out-Mode m) ≡ true
item_is name test fs k m e f =
    let x = passed (field_is name test) (slice_get fs k) e in
    let h = two_true (bytes_eq x.0.name name) (test (out-Mode x.0.mode)) x.2 in
    let is : Some x.0.mode ≡ Some m = sym (ap (λ (o : Option Field). option_map (λ (z : Field). z.mode) o) x.1) ∙ f in
    let same : x.0.mode ≡ m = cc in
    ap (λ (z : Mode). test (out-Mode z)) (sym same) ∙ h.1

past_end : (m : Mode) (xs : List Field) (i : ℕ) → nat_lt i (length xs) ≡ false → field_at xs i ≡ Some m → ⊥
past_end m [] i h e = absurd cc
past_end m (x ∷ xs) zero h e = absurd (grind (arith, nat_tests))
past_end m (x ∷ xs) (suc i) h e = past_end m xs i (grind (arith, nat_tests)) e

past : (fs : List Field) (n k : ℕ) (m : Mode) → (length fs == n) ≡ true → nat_lt k n ≡ false → field_at fs k ≡ Some m → ⊥
past fs n k m c l e = past_end m fs k (grind (arith, nat_tests)) e

module _ (t : ModeTable) where
  label_svc : (m : Mode) → is_label_layer (out-Mode m) ≡ true → SvcIs t 0 m
  label_svc m e = erl (label_layer (out-Mode m) e)

  int_svc : (m : Mode) → is_int_layer (out-Mode m) ≡ true → SvcIs t 1 m
  int_svc m e = let o = int_layer (out-Mode m) e in other (slots.ern o) (words_stand t m (int_is_word m o))

  erp_svc : (m : Mode) → takes is_int_layer (out-Mode m) ≡ true → SvcIs t 2 m
  erp_svc m e =
      let k = takes_is is_int_layer (out-Mode m) e in
      let i = int_layer (out-Mode k.0) k.2 in
      other (slots.erp k.1 (int_taking_full t m k.0 k.1 i)) (taking_stands t m k.0 k.1 (int_is_word k.0 i))

  in_svc : (m : Mode) → gives is_byte_layer (out-Mode m) ≡ true → SvcIs t 3 m
  in_svc m e =
      let k = gives_is is_byte_layer (out-Mode m) e in
      let i = byte_layer (out-Mode k.0) k.2 in
      other (slots.input k.1 (byte_giving_full t m k.0 k.1 i)) (giving_stands t m k.0 k.1 (byte_is_word k.0 i))

  out_svc : (m : Mode) → takes is_byte_layer (out-Mode m) ≡ true → SvcIs t 4 m
  out_svc m e =
      let k = takes_is is_byte_layer (out-Mode m) e in
      let i = byte_layer (out-Mode k.0) k.2 in
      other (slots.output k.1 (byte_taking_full t m k.0 k.1 i)) (taking_stands t m k.0 k.1 (byte_is_word k.0 i))

  errors_svc : (fs : List Field) (k : ℕ) (m : Mode) → nat_lt k 3 ≡ true → is_error_data fs ≡ true → field_at fs k ≡ Some m → SvcIs t k m
  errors_svc fs k m l e f =
      let a = two_true (length fs == 3) _ e in
      let b = two_true (passes (field_is (codes "ERL") is_label_layer) (slice_get fs 0)) _ a.1 in
      let d = two_true (passes (field_is (codes "ERN") is_int_layer) (slice_get fs 1)) (passes (field_is (codes "ERP") (takes is_int_layer)) (slice_get fs 2)) b.1 in
      by_number k l f (λ f. label_svc m (item_is (codes "ERL") is_label_layer fs 0 m b.0 f)) (λ f. int_svc m (item_is (codes "ERN") is_int_layer fs 1 m d.0 f)) (λ f. erp_svc m (item_is (codes "ERP") (takes is_int_layer) fs 2 m d.1 f))
    where
      by_number : (i : ℕ) → nat_lt i 3 ≡ true → field_at fs i ≡ Some m → (field_at fs 0 ≡ Some m → SvcIs t 0 m) → (field_at fs 1 ≡ Some m → SvcIs t 1 m) → (field_at fs 2 ≡ Some m → SvcIs t 2 m) → SvcIs t i m
      by_number zero l f a b d = a f
      by_number (suc zero) l f a b d = b f
      by_number (suc (suc zero)) l f a b d = d f
      by_number (suc (suc (suc i))) l f a b d = absurd (grind (arith, nat_tests))

  streams_svc : (fs : List Field) (k : ℕ) (m : Mode) → nat_lt k 3 ≡ false → is_stream_data fs ≡ true → field_at fs (k - 3) ≡ Some m → SvcIs t k m
  streams_svc fs k m l e f =
      let a = two_true (length fs == 2) _ e in
      let b = two_true (passes (field_is (codes "IN") (gives is_byte_layer)) (slice_get fs 0)) (passes (field_is (codes "OUT") (takes is_byte_layer)) (slice_get fs 1)) a.1 in
      let at : k ≡ suc (suc (suc (k - 3))) = grind (arith, nat_tests) in
      subst (λ (i : ℕ). SvcIs t i m) (sym at) (by_number (k - 3) f a.0 (λ f. in_svc m (item_is (codes "IN") (gives is_byte_layer) fs 0 m b.0 f)) (λ f. out_svc m (item_is (codes "OUT") (takes is_byte_layer) fs 1 m b.1 f)))
    where
      by_number : (i : ℕ) → field_at fs i ≡ Some m → (length fs == 2) ≡ true → (field_at fs 0 ≡ Some m → SvcIs t 3 m) → (field_at fs 1 ≡ Some m → SvcIs t 4 m) → SvcIs t (suc (suc (suc i))) m
      by_number zero f c a b = a f
      by_number (suc zero) f c a b = b f
      by_number (suc (suc i)) f c a b = absurd (past fs 2 (suc (suc i)) m c (grind (arith, nat_tests)) f)

-- ---- where they are declared

here_or_later : (test : Face → Bool) (b : Face) (fs : List Field) (o : Option (List Field)) (c : Bool) → test b ≡ c → (if c then fields_of b else o) ≡ Some fs → (o ≡ Some fs → (d : Face) × (test d ≡ true) × (fields_of d ≡ Some fs)) → (d : Face) × (test d ≡ true) × (fields_of d ≡ Some fs)
here_or_later test b fs o true h e go = (b, h, e)
here_or_later test b fs o false h e go = go e

first_passes : (test : Face → Bool) (bs : List Face) (fs : List Field) → first_fields test bs ≡ Some fs → (d : Face) × (test d ≡ true) × (fields_of d ≡ Some fs)
first_passes test [] fs e = absurd cc
first_passes test (b ∷ bs) fs e = here_or_later test b fs (first_fields test bs) (test b) refl e (λ h. first_passes test bs fs h)

passes_of : (test : List Field → Bool) (o : Option (List Field)) (fs : List Field) → o ≡ Some fs → passes test o ≡ true → test fs ≡ true
passes_of test o fs e h = sym (ap (passes test) e) ∙ h

errors_data : (bs : List Face) (fs : List Field) → errors_of bs ≡ Some fs → is_error_data fs ≡ true
errors_data bs fs e =
    let d = first_passes is_errors bs fs e in
    let a = two_true (is_svc d.0.kind) _ d.1 in
    let b = two_true (bytes_eq d.0.name (codes "RRERR")) (passes is_error_data (fields_of d.0)) a.1 in
    passes_of is_error_data (fields_of d.0) fs d.2 b.1

streams_data : (bs : List Face) (fs : List Field) → streams_of bs ≡ Some fs → is_stream_data fs ≡ true
streams_data bs fs e =
    let d = first_passes is_streams bs fs e in
    let a = two_true (is_svc d.0.kind) _ d.1 in
    let b = two_true (bytes_eq d.0.name (codes "RRSIO")) (passes is_stream_data (fields_of d.0)) a.1 in
    passes_of is_stream_data (fields_of d.0) fs d.2 b.1

-- the items of the task's own data, as a module has them
pub svc_items : (p : ModuleParts) (k : ℕ) (m : Mode) → svc_mode (scope_of p) k ≡ Some m → SvcIs p.modes k m
svc_items p k m e = by_number (nat_lt k 3) refl e
  where
    by_number : (c : Bool) → nat_lt k 3 ≡ c → (if c then with (errors_of (faces p.bricks)) (λ fs. field_at fs k) else with (streams_of (faces p.bricks)) (λ fs. field_at fs (k - 3))) ≡ Some m → SvcIs p.modes k m
    by_number true l e = let fs = with_is (errors_of (faces p.bricks)) _ m e in errors_svc p.modes fs.0 k m l (errors_data (faces p.bricks) fs.0 fs.1) fs.2
    by_number false l e = let fs = with_is (streams_of (faces p.bricks)) _ m e in streams_svc p.modes fs.0 k m l (streams_data (faces p.bricks) fs.0 fs.1) fs.2

-- ---- no other supplied data

kept_private : (c : Bool) (m v : Mode) → kept c v ≡ Private m → c ≡ true
kept_private true m v e = refl
kept_private false m v e = absurd cc

svc_kind : (k : Kind) → is_svc k ≡ true → k ≡ kind.Svc
svc_kind kind.Svc e = refl
svc_kind kind.Own e = absurd cc
svc_kind kind.Ent e = absurd cc
svc_kind kind.Ext e = absurd cc

data_is : (z : BrickSort) (fs : List Field) → fields_in (sort_of z) ≡ Some fs → (ss : List DataStart) × (z ≡ sort.Data fs ss)
data_is (sort.Data gs ss) fs e = let same : gs ≡ fs = cc in (ss, ap (λ (y : List Field). sort.Data y ss) same)
data_is (sort.Proc w body) fs e = absurd cc
data_is (sort.Stack n) fs e = absurd cc

face_there : (bs : List Brick) (b : ℕ) (d : Face) → slice_get (faces bs) b ≡ Some d → (e : Brick) × (slice_get bs b ≡ Some e) × (face e ≡ d)
face_there [] b d e = absurd cc
face_there (y ∷ bs) zero d e = (y, refl, cc)
face_there (y ∷ bs) (suc b) d e = face_there bs b d e

-- a face with items is neither of the supplied data
with_items : (a b : Bool) (o : Option (List Field)) (fs : List Field) → (if a || b then None else o) ≡ Some fs → (a ≡ false) × (b ≡ false) × (o ≡ Some fs)
with_items true b o fs e = absurd cc
with_items false true o fs e = absurd cc
with_items false false o fs e = (refl, refl, e)

pub private_none : (ps : System) → Matched ps → (m : ℕ) (p : ModuleParts) → module_of ps m ≡ Some p → (b j : ℕ) (v : Mode) → item_found (faces p.bricks) b j ≡ Some (Private v) → ⊥
private_none ps matched m p of b j v e =
    let d = with_is (slice_get (faces p.bricks) b) _ (Private v) e in
    let i = with_is (items_of d.0) _ (Private v) d.2 in
    let k = mapped_is (kept (is_svc d.0.kind)) (field_at i.0 j) (Private v) i.2 in
    let svc : is_svc d.0.kind ≡ true = kept_private (is_svc d.0.kind) v k.0 k.2 in
    let none = with_items (is_errors d.0) (is_streams d.0) (fields_of d.0) i.0 i.1 in
    let y = face_there p.bricks b d.0 d.1 in
    let is_kind : y.0.kind ≡ kind.Svc = svc_kind y.0.kind (ap (λ (z : Face). is_svc z.kind) y.2 ∙ svc) in
    let data_of = data_is y.0.sort i.0 (ap (λ (z : Face). fields_of z) y.2 ∙ none.2) in
    let has : HasBrick ps m b p y.0 = record { of = of; at = y.1 } in
    let supplied : SuppliedSame p y.0 (sort.Data i.0 data_of.0) = subst (λ (z : BrickSort). SuppliedSame p y.0 z) data_of.1 (matched.supplied has is_kind) in
    either (is_errors d.0) (is_streams d.0) none.0 none.1 (ap is_errors (sym y.2)) (ap is_streams (sym y.2)) supplied
  where
    either : (a c : Bool) → a ≡ false → c ≡ false → {x z : Bool} → a ≡ x → c ≡ z → (x ≡ true) ⊎ (z ≡ true) → ⊥
    either a c f g h k (inl e) = let no_way : false ≡ true = sym f ∙ h ∙ e in absurd cc
    either a c f g h k (inr e) = let no_way : false ≡ true = sym g ∙ k ∙ e in absurd cc
