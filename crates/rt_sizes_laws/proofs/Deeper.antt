-- What some depth, or some knowledge of the records, tells of sizes, more of it tells as well. So it tells each at most once.
use Rattle.std.proofs.Common.{◌≡◌, ℕ, zero, suc, ◌+◌, Bool, true, false, List, [], ◌∷◌, length, replicate, take, Option, Some, None, slice_get, refl, sym, ap, ◌∙◌, subst, arith}
use Rattle.rt_modes.specs.declared.mode.Field.{Field}
use Rattle.rt_modes.specs.declared.mode.Mode.{Mode, out-Mode}
use Rattle.rt_modes.specs.declared.mode.RecordDef.{RecordDef}
use Rattle.rt_sizes.specs.Capped.{table}
use Rattle.rt_sizes.specs.Sizes.{Table, within, fields_if, fields_of, begins, size, fields_end, record_layer, offset, offset_by}
use Rattle.rt_sizes.proofs.Layers.{some_is, deeper, more_mapped, more_size, more_fields_end, more_record}
use Rattle.rt_sizes_laws.specs.Laws.{AllKnown, TablesTellOnce}

-- a number that follows from the sizes of records
abbrev pub Quantity : Type 0
Quantity = (ℕ → Option ℕ) → Option ℕ

-- where the sizes f are sizes of g too
abbrev pub AreMore : (ℕ → Option ℕ) → (ℕ → Option ℕ) → Type 0
AreMore f g = (k n : ℕ) → f k ≡ Some n → g k ≡ Some n

abbrev pub Grows : Quantity → Type 0
Grows q = (f g : ℕ → Option ℕ) → AreMore f g → (n : ℕ) → q f ≡ Some n → q g ≡ Some n

-- the quantity by the records of a table
abbrev pub Has : Table → Quantity → ℕ → Type 0
Has t q n = (d : ℕ) × (q (within t d) ≡ Some n)

-- ---- the quantities

abbrev pub size_of : Mode → Quantity
size_of m f = size f m

abbrev pub end_of : List Field → Quantity
end_of fs f = fields_end f fs 0

abbrev pub place_of : List Field → ℕ → Quantity
place_of fs k f = offset f fs k

pub size_grows : (m : Mode) → Grows (size_of m)
size_grows m f g up n e = more_size f g up m n e

pub end_grows : (fs : List Field) → Grows (end_of fs)
end_grows fs f g up n e = more_fields_end f g up fs 0 n e

more_by : (f g : ℕ → Option ℕ) (o : Option Field) (a b : Option ℕ) → ((x : ℕ) → a ≡ Some x → b ≡ Some x) → (n : ℕ) → offset_by f o a ≡ Some n → offset_by g o b ≡ Some n
more_by f g None a b h n e = absurd cc
more_by f g (Some x) a b h n e = more_mapped (begins (out-Mode x.mode)) a b h n e

pub place_grows : (fs : List Field) (k : ℕ) → Grows (place_of fs k)
place_grows fs k f g up n e = more_by f g (slice_get fs k) (fields_end f (take k fs) 0) (fields_end g (take k fs) 0) (λ x. more_fields_end f g up (take k fs) 0 x) n e

-- ---- deeper

further : (t : Table) (e d m : ℕ) → m ≡ e + d → AreMore (within t d) (within t m)
further t zero d m is k n w = let same : d ≡ m = omega arith in subst (λ (x : ℕ). within t x k ≡ Some n) same w
further t (suc e) d m is k n w =
    let same : suc (e + d) ≡ m = omega arith in
    subst (λ (x : ℕ). within t x k ≡ Some n) same (deeper t (e + d) k n (further t e d (e + d) refl k n w))

pub once : (t : Table) (q : Quantity) → Grows q → (a b : ℕ) → Has t q a → Has t q b → a ≡ b
once t q grows a b x y =
    let left = grows (within t x.0) (within t (y.0 + x.0)) (further t y.0 x.0 (y.0 + x.0) refl) a x.1 in
    let right = grows (within t y.0) (within t (y.0 + x.0)) (further t x.0 y.0 (y.0 + x.0) (omega arith)) b y.1 in
    some_is a b (sym left ∙ right)

pub tables_tell_once : TablesTellOnce
tables_tell_once t = record {
  modes = λ m a b x y. once t (size_of m) (size_grows m) a b x y;
  records = λ k a b x y. once t (λ f. f k) (λ f g up n e. up k n e) a b x y;
  begins = λ fs k a b x y. once t (place_of fs k) (place_grows fs k) a b x y;
  ends = λ fs a b x y. once t (end_of fs) (end_grows fs) a b x y;
}

-- ---- more is known

pub whole_lists_are_known : (records : List RecordDef) → AllKnown (table records (replicate (length records) true))
whole_lists_are_known [] k d e = absurd cc
whole_lists_are_known (r ∷ rs) zero d e = refl
whole_lists_are_known (r ∷ rs) (suc k) d e = whole_lists_are_known rs k d e

fields_more : (b c : Option Bool) (o : Option RecordDef) → ((d : RecordDef) → o ≡ Some d → c ≡ Some true) → (fs : List Field) → fields_if b o ≡ Some fs → fields_if c o ≡ Some fs
fields_more None c o h fs e = absurd cc
fields_more (Some false) c o h fs e = absurd cc
fields_more (Some true) c None h fs e = absurd cc
fields_more (Some true) c (Some d) h fs e = ap (λ (z : Option Bool). fields_if z (Some d)) (h d refl) ∙ e

record_more : (f g : ℕ → Option ℕ) → AreMore f g → (o p : Option (List Field)) → ((fs : List Field) → o ≡ Some fs → p ≡ Some fs) → (n : ℕ) → record_layer f o ≡ Some n → record_layer g p ≡ Some n
record_more f g up None p h n e = absurd cc
record_more f g up (Some fs) p h n e = ap (record_layer g) (h fs refl) ∙ more_record f g up (Some fs) n e

known_more : (records : List RecordDef) (known others : List Bool) → AllKnown (table records others) → (d : ℕ) → AreMore (within (table records known) d) (within (table records others) d)
unfolding within
known_more records known others all zero k n e = absurd cc
known_more records known others all (suc d) k n e =
    record_more (within (table records known) d) (within (table records others) d) (known_more records known others all d) (fields_of (table records known) k) (fields_of (table records others) k)
    (fields_more (slice_get known k) (slice_get others k) (slice_get records k) (all k)) n e

-- what some knowledge of the records tells, all knowledge tells
pub known_tells : (records : List RecordDef) (known others : List Bool) (q : Quantity) → Grows q → AllKnown (table records others) → (n : ℕ) → Has (table records known) q n → Has (table records others) q n
known_tells records known others q grows all n (d, e) = (d, grows (within (table records known) d) (within (table records others) d) (known_more records known others all d) n e)
