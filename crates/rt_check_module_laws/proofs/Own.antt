-- The task's own supplied data: bricks that are declared as supplied have items of the same modes.
use Rattle.std.proofs.Common.{◌≡◌, ℕ, zero, suc, ◌<◌, ◌==◌, ◌&&◌, Bool, true, false, List, [], ◌∷◌, length, Option, Some, None, option_map, refl, sym, ap, ◌∙◌, arith}
use Rattle.std.specs.Prelude.{codes, slice_get}
use Rattle.std.specs.Str.{bytes_eq}
use Rattle.std.proofs.lemmas.Bool.Decides.{nat_tests}
use Rattle.rt_modes.specs.declared.mode.Field.{Field}
use Rattle.rt_modes.specs.declared.mode.Mode.{Mode, out-Mode}
use Rattle.rt_modes.specs.declared.mode.Mode.TheOpen.{Mode-F}
use Rattle.rt_tree_nodes.specs.Scopes.{Layer, passes, Face, is_byte_layer, is_int_layer, is_label_layer, is_one, is_none, takes, gives, field_is, is_error_data, is_stream_data, is_svc, is_errors, is_streams, fields_of, first_fields, errors_of, streams_of, field_at, mode_of}
use Rattle.rt_tree_nodes.proofs.Same.{out_same}
use Rattle.rt_bricks_laws.proofs.AllLists.{left_of, right_of, some_is, no_some}

-- ---- layers that pass a test are one

abbrev pub IsOnly : (Layer → Bool) → Type 0
IsOnly test = (m n : Mode) → test (out-Mode m) ≡ true → test (out-Mode n) ≡ true → m ≡ n

one_layer : (test : Layer → Bool) (l : Layer) → ((k : Layer) → test k ≡ true → k ≡ l) → IsOnly test
one_layer test l h m n a b = out_same m n (h (out-Mode m) a ∙ sym (h (out-Mode n) b))

byte_layer : (k : Layer) → is_byte_layer k ≡ true → k ≡ Mode-F.Byte
byte_layer Mode-F.Byte e = refl
byte_layer _ e = absurd cc

int_layer : (k : Layer) → is_int_layer k ≡ true → k ≡ Mode-F.Int
int_layer Mode-F.Int e = refl
int_layer _ e = absurd cc

label_layer : (k : Layer) → is_label_layer k ≡ true → k ≡ Mode-F.Label
label_layer Mode-F.Label e = refl
label_layer _ e = absurd cc

pub only_byte : IsOnly is_byte_layer
only_byte = one_layer is_byte_layer Mode-F.Byte byte_layer

pub only_int : IsOnly is_int_layer
only_int = one_layer is_int_layer Mode-F.Int int_layer

pub only_label : IsOnly is_label_layer
only_label = one_layer is_label_layer Mode-F.Label label_layer

module _ (test : Layer → Bool) (only : IsOnly test) where
  record One (ms : List Mode) : Type 0 where
    mode : Mode
    is : ms ≡ mode ∷ []
    passed : test (out-Mode mode) ≡ true

  one_mode : (ms : List Mode) → is_one test ms ≡ true → One ms
  one_mode [] e = absurd cc
  one_mode (m ∷ []) e = record { mode = m; is = refl; passed = left_of (test (out-Mode m)) true e }
  one_mode (m ∷ n ∷ ms) e = absurd (longer (right_of (test (out-Mode m)) _ e)) where
    longer : (length (n ∷ ms) == 0) ≡ true → ⊥
    longer h = grind (arith, nat_tests)

  none_is : (r : Option Mode) → is_none r ≡ true → r ≡ None
  none_is None e = refl
  none_is (Some m) e = absurd cc

  record Taken (l : Layer) : Type 0 where
    mode : Mode
    is : l ≡ Mode-F.Proc (mode ∷ []) None
    passed : test (out-Mode mode) ≡ true

  taken : (l : Layer) → takes test l ≡ true → Taken l
  taken (Mode-F.Proc ms r) e =
      let o = one_mode ms (left_of (is_one test ms) (is_none r) e) in
      record { mode = o.mode; is = ap (λ (ns : List Mode). Mode-F.Proc ns r) o.is ∙ ap (λ (q : Option Mode). Mode-F.Proc (o.mode ∷ []) q) (none_is r (right_of (is_one test ms) (is_none r) e)); passed = o.passed }
  taken _ e = absurd cc

  record Given (l : Layer) : Type 0 where
    mode : Mode
    is : l ≡ Mode-F.Proc [] (Some mode)
    passed : test (out-Mode mode) ≡ true

  no_modes : (ms : List Mode) → (length ms == 0) ≡ true → ms ≡ []
  no_modes [] e = refl
  no_modes (m ∷ ms) e = absurd (longer e) where
    longer : (length (m ∷ ms) == 0) ≡ true → ⊥
    longer h = grind (arith, nat_tests)

  given_by : (ms : List Mode) (r : Option Mode) → (length ms == 0) ≡ true → passes (λ m. test (out-Mode m)) r ≡ true → Given (Mode-F.Proc ms r)
  given_by ms None e h = absurd cc
  given_by ms (Some m) e h = record { mode = m; is = ap (λ (ns : List Mode). Mode-F.Proc ns (Some m)) (no_modes ms e); passed = h }

  given : (l : Layer) → gives test l ≡ true → Given l
  given (Mode-F.Proc ms r) e = given_by ms r (left_of (length ms == 0) (passes (λ m. test (out-Mode m)) r) e) (right_of (length ms == 0) (passes (λ m. test (out-Mode m)) r) e)
  given _ e = absurd cc

  pub only_takes : IsOnly (takes test)
  only_takes m n a b =
      let x = taken (out-Mode m) a in
      let y = taken (out-Mode n) b in
      out_same m n (x.is ∙ ap (λ (k : Mode). Mode-F.Proc (k ∷ []) None) (only x.mode y.mode x.passed y.passed) ∙ sym y.is)

  pub only_gives : IsOnly (gives test)
  only_gives m n a b =
      let x = given (out-Mode m) a in
      let y = given (out-Mode n) b in
      out_same m n (x.is ∙ ap (λ (k : Mode). Mode-F.Proc [] (Some k)) (only x.mode y.mode x.passed y.passed) ∙ sym y.is)

-- ---- items at one place

pub record Found (test : Layer → Bool) (fs : List Field) (k : ℕ) : Type 0 where
  pub mode : Mode
  pub is : field_at fs k ≡ Some mode
  pub passed : test (out-Mode mode) ≡ true

pub found : (name : List ℕ) (test : Layer → Bool) (fs : List Field) (k : ℕ) → passes (field_is name test) (slice_get fs k) ≡ true → Found test fs k
found name test fs k e = by_field (slice_get fs k) refl e where
  by_field : (o : Option Field) → slice_get fs k ≡ o → passes (field_is name test) o ≡ true → Found test fs k
  by_field None q h = absurd cc
  by_field (Some f) q h = record { mode = f.mode; is = ap (option_map mode_of) q; passed = right_of (bytes_eq f.name name) (test (out-Mode f.mode)) h }

pub same_found : (test : Layer → Bool) (fs gs : List Field) (k : ℕ) → IsOnly test → Found test fs k → Found test gs k → field_at fs k ≡ field_at gs k
same_found test fs gs k only a b = a.is ∙ ap (λ (m : Mode). Some m) (only a.mode b.mode a.passed b.passed) ∙ sym b.is

pub record Errors (fs : List Field) : Type 0 where
  pub count : length fs ≡ 3
  pub label : Found is_label_layer fs 0
  pub number : Found is_int_layer fs 1
  pub procedure : Found (takes is_int_layer) fs 2

pub errors : (fs : List Field) → is_error_data fs ≡ true → Errors fs
errors fs e =
    let erl : Bool = passes (field_is (codes "ERL") is_label_layer) (slice_get fs 0) in
    let ern : Bool = passes (field_is (codes "ERN") is_int_layer) (slice_get fs 1) in
    let erp : Bool = passes (field_is (codes "ERP") (takes is_int_layer)) (slice_get fs 2) in
    let rest = right_of (length fs == 3) (erl && (ern && erp)) e in
    let more = right_of erl (ern && erp) rest in
    record {
      count = equal (length fs) 3 (left_of (length fs == 3) (erl && (ern && erp)) e);
      label = found (codes "ERL") is_label_layer fs 0 (left_of erl (ern && erp) rest);
      number = found (codes "ERN") is_int_layer fs 1 (left_of ern erp more);
      procedure = found (codes "ERP") (takes is_int_layer) fs 2 (right_of ern erp more);
    } where
      equal : (a b : ℕ) → (a == b) ≡ true → a ≡ b
      equal a b h = grind (arith, nat_tests)

pub record Streams (fs : List Field) : Type 0 where
  pub count : length fs ≡ 2
  pub input : Found (gives is_byte_layer) fs 0
  pub output : Found (takes is_byte_layer) fs 1

pub streams : (fs : List Field) → is_stream_data fs ≡ true → Streams fs
streams fs e =
    let i : Bool = passes (field_is (codes "IN") (gives is_byte_layer)) (slice_get fs 0) in
    let o : Bool = passes (field_is (codes "OUT") (takes is_byte_layer)) (slice_get fs 1) in
    let rest = right_of (length fs == 2) (i && o) e in
    record {
      count = equal (length fs) 2 (left_of (length fs == 2) (i && o) e);
      input = found (codes "IN") (gives is_byte_layer) fs 0 (left_of i o rest);
      output = found (codes "OUT") (takes is_byte_layer) fs 1 (right_of i o rest);
    } where
      equal : (a b : ℕ) → (a == b) ≡ true → a ≡ b
      equal a b h = grind (arith, nat_tests)

pub same_errors : (fs gs : List Field) (k : ℕ) → Errors fs → Errors gs → k < 3 → field_at fs k ≡ field_at gs k
same_errors fs gs zero a b l = same_found is_label_layer fs gs 0 only_label a.label b.label
same_errors fs gs (suc zero) a b l = same_found is_int_layer fs gs 1 only_int a.number b.number
same_errors fs gs (suc (suc zero)) a b l = same_found (takes is_int_layer) fs gs 2 (only_takes is_int_layer only_int) a.procedure b.procedure
same_errors fs gs (suc (suc (suc k))) a b l = absurd (omega (arith, l))

pub same_streams : (fs gs : List Field) (k : ℕ) → Streams fs → Streams gs → k < 2 → field_at fs k ≡ field_at gs k
same_streams fs gs zero a b l = same_found (gives is_byte_layer) fs gs 0 (only_gives is_byte_layer only_byte) a.input b.input
same_streams fs gs (suc zero) a b l = same_found (takes is_byte_layer) fs gs 1 (only_takes is_byte_layer only_byte) a.output b.output
same_streams fs gs (suc (suc k)) a b l = absurd (omega (arith, l))

-- ---- the first brick that passes

pub first_passes : (test : Face → Bool) (bs : List Face) (b : ℕ) (x : Face) → slice_get bs b ≡ Some x → test x ≡ true → (y : Face) × (test y ≡ true) × (first_fields test bs ≡ fields_of y)
first_passes test [] b x e h = no_some x e
first_passes test (z ∷ zs) b x e h = by_test (test z) refl (first_passes test zs) b e where
  by_test : (t : Bool) → test z ≡ t → ((b : ℕ) (x : Face) → slice_get zs b ≡ Some x → test x ≡ true → (y : Face) × (test y ≡ true) × (first_fields test zs ≡ fields_of y))
      → (b : ℕ) → slice_get (z ∷ zs) b ≡ Some x → (y : Face) × (test y ≡ true) × (first_fields test (z ∷ zs) ≡ fields_of y)
  by_test true q go b e = (z, q, rw q refl)
  by_test false q go zero e = absurd (let bad : test z ≡ true = ap test (some_is z x e) ∙ h in cc)
  by_test false q go (suc b) e = let r = go b x e h in (r.0, r.1, rw q r.2)

passed : (test : List Field → Bool) (o : Option (List Field)) → passes test o ≡ true → (fs : List Field) × (o ≡ Some fs) × (test fs ≡ true)
passed test None e = absurd cc
passed test (Some fs) e = (fs, refl, e)

pub errors_found : (bs : List Face) (b : ℕ) (x : Face) → slice_get bs b ≡ Some x → is_errors x ≡ true → (fs : List Field) × (errors_of bs ≡ Some fs) × Errors fs
errors_found bs b x e h =
    let y = first_passes is_errors bs b x e h in
    let data_is : Bool = passes is_error_data (fields_of y.0) in
    let z = passed is_error_data (fields_of y.0) (right_of (bytes_eq y.0.name (codes "RRERR")) data_is (right_of (is_svc y.0.kind) (bytes_eq y.0.name (codes "RRERR") && data_is) y.1)) in
    (z.0, y.2 ∙ z.1, errors z.0 z.2)

pub streams_found : (bs : List Face) (b : ℕ) (x : Face) → slice_get bs b ≡ Some x → is_streams x ≡ true → (fs : List Field) × (streams_of bs ≡ Some fs) × Streams fs
streams_found bs b x e h =
    let y = first_passes is_streams bs b x e h in
    let data_is : Bool = passes is_stream_data (fields_of y.0) in
    let z = passed is_stream_data (fields_of y.0) (right_of (bytes_eq y.0.name (codes "RRSIO")) data_is (right_of (is_svc y.0.kind) (bytes_eq y.0.name (codes "RRSIO") && data_is) y.1)) in
    (z.0, y.2 ∙ z.1, streams z.0 z.2)
