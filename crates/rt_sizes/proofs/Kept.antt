-- What is kept of sizes, and the sizes.
use Rattle.std.proofs.Common.{◌≡◌, ℕ, zero, suc, ◌+◌, ◌*◌, ◌≤◌, ◌<◌, ◌==◌, nat_le, Bool, true, false, if◌then◌else◌, List, [], ◌∷◌, Option, Some, None, option_map, slice_get, take, map, refl, sym, ap, ◌∙◌, arith}
use Rattle.rt_modes.specs.declared.mode.Field.{Field}
use Rattle.rt_modes.specs.declared.mode.Mode.{Mode, out-Mode, roll-Mode, map-Mode}
use Rattle.rt_modes.specs.declared.mode.Mode.TheFolds.{ind-Mode}
use Rattle.rt_modes.specs.declared.mode.Mode.TheOpen.{Mode-F}
use Rattle.rt_sizes.specs.declared.size.Size.{Size}
use Rattle.rt_sizes.specs.declared.size.Size.TheVariants as sizes
use Rattle.rt_sizes.specs.Sizes.{even, most, begins, and_then, size_layer, size, field_begins, field_end, fields_end, record_layer, passes_in, offset_by, offset}
use Rattle.rt_sizes.specs.Capped as kept
use Rattle.rt_sizes.specs.Capped.{counted, elements, behind, place, rounded, is_within, size_in, size_of}
use Rattle.rt_sizes.proofs.Layers.{out_roll, size_at, kept_at, some_is}

-- ---- what is kept of them

even_at_least : (n : ℕ) → n ≤ even n
even_at_least n = omega arith

begins_at_least : {A : Type 0} (m : Mode-F A) (n : ℕ) → n ≤ begins m n
begins_at_least Mode-F.Byte n = omega arith
begins_at_least Mode-F.Int n = even_at_least n
begins_at_least Mode-F.Frac n = even_at_least n
begins_at_least Mode-F.Label n = even_at_least n
begins_at_least (Mode-F.Ref a) n = even_at_least n
begins_at_least (Mode-F.RefArray a) n = even_at_least n
begins_at_least (Mode-F.Array k a) n = even_at_least n
begins_at_least (Mode-F.Record r) n = even_at_least n
begins_at_least (Mode-F.Proc ps r) n = even_at_least n

data Kind (n : ℕ) : Type 0 where
  small : n ≤ most → counted n ≡ sizes.Bytes n → Kind n
  large : most < n → counted n ≡ sizes.TooLarge → Kind n

kind_by : (n : ℕ) (b : Bool) → nat_le n most ≡ b → Kind n
kind_by n true e = small (grind (arith, e)) (rw e refl)
kind_by n false e = large (grind (arith, e)) (rw e refl)

kind : (n : ℕ) → Kind n
kind n = kind_by n (nat_le n most) refl

large_by : (n : ℕ) → most < n → Kind n → counted n ≡ sizes.TooLarge
large_by n h (small l e) = absurd (omega arith)
large_by n h (large l e) = e

is_large : (n : ℕ) → most < n → counted n ≡ sizes.TooLarge
is_large n h = large_by n h (kind n)

elements_by : (k n : ℕ) → Kind n → elements k (counted n) ≡ counted (even (2 + k * n))
elements_by k n (small l e) = rw e refl
elements_by zero n (large l e) = let z : 2 + 0 * n ≡ 2 = omega arith in rw (e, z) refl
elements_by (suc k) n (large l e) = let z : (suc k == 0) ≡ false = grind arith in rw (e, z) (sym (is_large (even (2 + suc k * n)) (grind arith)))

elements_counted : (k n : ℕ) → elements k (counted n) ≡ counted (even (2 + k * n))
elements_counted k n = elements_by k n (kind n)

behind_by : (m : Mode-F Mode) (n s : ℕ) → n ≤ begins m n → Kind n → Kind s → behind m (counted n) (counted s) ≡ counted (begins m n + s)
behind_by m n s b (small l e) (small k d) = rw (e, d) refl
behind_by m n s b (small l e) (large k d) = rw (e, d) (sym (is_large (begins m n + s) (omega arith)))
behind_by m n s b (large l e) kind_s = rw e (sym (is_large (begins m n + s) (omega arith)))

behind_counted : (m : Mode-F Mode) (n s : ℕ) → behind m (counted n) (counted s) ≡ counted (begins m n + s)
behind_counted m n s = behind_by m n s (begins_at_least m n) (kind n) (kind s)

place_by : (m : Mode-F Mode) (n : ℕ) → n ≤ begins m n → Kind n → place m (counted n) ≡ counted (begins m n)
place_by m n b (small l e) = rw e refl
place_by m n b (large l e) = rw e (sym (is_large (begins m n) (omega arith)))

place_counted : (m : Mode-F Mode) (n : ℕ) → place m (counted n) ≡ counted (begins m n)
place_counted m n = place_by m n (begins_at_least m n) (kind n)

rounded_by : (n : ℕ) → Kind n → rounded (counted n) ≡ counted (even n)
rounded_by n (small l e) = rw e refl
rounded_by n (large l e) = rw e (sym (is_large (even n) (omega arith)))

rounded_counted : (n : ℕ) → rounded (counted n) ≡ counted (even n)
rounded_counted n = rounded_by n (kind n)

within_by : (n : ℕ) → Kind n → is_within (counted n) ≡ nat_le n most
within_by n (small l e) = rw e (grind (arith, l))
within_by n (large l e) = rw e (grind (arith, l))

pub within_counted : (n : ℕ) → is_within (counted n) ≡ nat_le n most
within_counted n = within_by n (kind n)

-- ---- what is found is kept

kept_mapped : (op : ℕ → ℕ) (op_kept : Size → Size) → ((n : ℕ) → op_kept (counted n) ≡ counted (op n)) → (a : Option ℕ) (b : Option Size) → ((n : ℕ) → a ≡ Some n → b ≡ Some (counted n)) → (n : ℕ) → option_map op a ≡ Some n
    → option_map op_kept b ≡ Some (counted n)
kept_mapped op op_kept hom None b h n e = absurd cc
kept_mapped op op_kept hom (Some x) b h n e = rw (h x refl, hom x, some_is (op x) n e) refl

pub kept_then : {B C : Type 0} (view : B → C) (a : Option ℕ) (b : Option Size) (go : ℕ → Option B) (go_kept : Size → Option C) (y : B) → ((n : ℕ) → a ≡ Some n → b ≡ Some (counted n))
    → ((n : ℕ) → go n ≡ Some y → go_kept (counted n) ≡ Some (view y)) → and_then a go ≡ Some y → and_then b go_kept ≡ Some (view y)
kept_then view None b go go_kept y h i e = absurd cc
kept_then view (Some x) b go go_kept y h i e = rw (h x refl) (i x e)

chosen : (b c : Bool) → c ≡ b → (j : ℕ) (x y v w : Option ℕ) → (x ≡ Some j → v ≡ Some j) → (y ≡ Some j → w ≡ Some j) → (if b then x else y) ≡ Some j → (if c then v else w) ≡ Some j
chosen true c e j x y v w h i is = rw e (h is)
chosen false c e j x y v w h i is = rw e (i is)

kept_number : (i j : ℕ) (a : Option ℕ) (b : Option Size) → ((n : ℕ) → a ≡ Some n → b ≡ Some (counted n)) → option_map (λ _. i) a ≡ Some j → option_map (λ _. i) b ≡ Some j
kept_number i j None b h e = absurd cc
kept_number i j (Some n) b h e = rw (h n refl) e

found_number : (i j : ℕ) (a : Option ℕ) (b : Option Size) → ((x : Size) → b ≡ Some x → option_map counted a ≡ Some x) → option_map (λ _. i) b ≡ Some j → option_map (λ _. i) a ≡ Some j
found_number i j a None h e = absurd cc
found_number i j None (Some x) h e = absurd (let bad : None ≡ Some x = h x refl in cc)
found_number i j (Some n) (Some x) h e = e

found_go : {B : Type 0} (a : Option ℕ) (b : Option Size) (go : ℕ → Option B) (go_kept : Size → Option B) (x : B) → ((y : Size) → b ≡ Some y → option_map counted a ≡ Some y)
    → ((n : ℕ) → go_kept (counted n) ≡ Some x → go n ≡ Some x) → and_then b go_kept ≡ Some x → and_then a go ≡ Some x
found_go a None go go_kept x h i e = absurd cc
found_go None (Some y) go go_kept x h i e = absurd (let bad : None ≡ Some y = h y refl in cc)
found_go (Some n) (Some y) go go_kept x h i e = i n (ap go_kept (some_is (counted n) y (h y refl)) ∙ e)

pub some_counted : (o : Option ℕ) (s : Size) → option_map counted o ≡ Some s → (n : ℕ) × (o ≡ Some n) × (counted n ≡ s)
some_counted None s e = absurd cc
some_counted (Some n) s e = (n, refl, some_is (counted n) s e)

module _ (f : ℕ → Option ℕ) (s : List (Option Size)) (up : (k n : ℕ) → f k ≡ Some n → size_in s k ≡ Some (counted n)) where
  abbrev Kept : Mode → Type 0
  Kept m = (n : ℕ) → size f m ≡ Some n → size_of s m ≡ Some (counted n)

  abbrev KeptPair : Type 0
  KeptPair = (m : Mode) × Kept m

  kept_basic : (m : Mode) (l : Mode-F Mode) (k n : ℕ) (o : out-Mode m ≡ l) → size_layer f (map-Mode Mode (Option ℕ) (size f) l) ≡ Some k
      → kept.size_layer s (map-Mode Mode (Option Size) (size_of s) l) ≡ Some (counted k) → size f m ≡ Some n → size_of s m ≡ Some (counted n)
  kept_basic m l k n o p q e = kept_at s m l o ∙ q ∙ ap (λ x. Some (counted x)) (some_is k n (sym p ∙ sym (size_at f m l o) ∙ e))

  kept_level : (m : Mode) (y : Mode-F KeptPair) → out-Mode m ≡ map-Mode KeptPair Mode (λ e. e.0) y → Kept m
  kept_level m Mode-F.Byte o n e = kept_basic m Mode-F.Byte 1 n o refl refl e
  kept_level m Mode-F.Int o n e = kept_basic m Mode-F.Int 2 n o refl refl e
  kept_level m Mode-F.Frac o n e = kept_basic m Mode-F.Frac 2 n o refl refl e
  kept_level m Mode-F.Label o n e = kept_basic m Mode-F.Label 2 n o refl refl e
  kept_level m (Mode-F.Ref a) o n e = kept_basic m (Mode-F.Ref a.0) 2 n o refl refl e
  kept_level m (Mode-F.RefArray a) o n e = kept_basic m (Mode-F.RefArray a.0) 2 n o refl refl e
  kept_level m (Mode-F.Array k a) o n e = kept_at s m (Mode-F.Array k a.0) o
      ∙ kept_mapped (λ x. even (2 + k * x)) (elements k) (elements_counted k) (size f a.0) (size_of s a.0) a.1 n (sym (size_at f m (Mode-F.Array k a.0) o) ∙ e)
  kept_level m (Mode-F.Record r) o n e = kept_at s m (Mode-F.Record r) o ∙ up r n (sym (size_at f m (Mode-F.Record r) o) ∙ e)
  kept_level m (Mode-F.Proc ps None) o n e = kept_basic m (Mode-F.Proc (map (λ (e : KeptPair). e.0) ps) None) 2 n o refl refl e
  kept_level m (Mode-F.Proc ps (Some r)) o n e = kept_basic m (Mode-F.Proc (map (λ (e : KeptPair). e.0) ps) (Some r.0)) 2 n o refl refl e

  pub kept_size : (m : Mode) → Kept m
  kept_size = ind-Mode Kept (λ x y is. kept_level (roll-Mode x) y (out_roll x ∙ sym is))

  pub kept_field_end : (field : Field) (n e : ℕ) → field_end f field n ≡ Some e → kept.field_end s field (counted n) ≡ Some (counted e)
  kept_field_end field n e is =
      kept_mapped (λ x. field_begins f field n + x) (behind (out-Mode field.mode) (counted n)) (behind_counted (out-Mode field.mode) n) (size f field.mode) (size_of s field.mode) (kept_size field.mode) e is

  pub kept_fields_end : (fs : List Field) (n e : ℕ) → fields_end f fs n ≡ Some e → kept.fields_end s fs (counted n) ≡ Some (counted e)
  kept_fields_end [] n e is = ap (λ x. Some (counted x)) (some_is n e is)
  kept_fields_end (field ∷ fs) n e is =
      kept_then counted (field_end f field n) (kept.field_end s field (counted n)) (fields_end f fs) (kept.fields_end s fs) e (kept_field_end field n) (λ x. kept_fields_end fs x e) is

  pub kept_record : (o : Option (List Field)) (n : ℕ) → record_layer f o ≡ Some n → kept.record_layer s o ≡ Some (counted n)
  kept_record None n e = absurd cc
  kept_record (Some fs) n e = kept_mapped even rounded rounded_counted (fields_end f fs 0) (kept.fields_end s fs (sizes.Bytes 0)) (kept_fields_end fs 0) n e

  kept_offset_by : (o : Option Field) (a : Option ℕ) (b : Option Size) (n : ℕ) → ((n : ℕ) → a ≡ Some n → b ≡ Some (counted n)) → offset_by f o a ≡ Some n → kept.offset_by s o b ≡ Some (counted n)
  kept_offset_by None a b n h e = absurd cc
  kept_offset_by (Some field) a b n h e = kept_mapped (field_begins f field) (place (out-Mode field.mode)) (place_counted (out-Mode field.mode)) a b h n e

  pub kept_offset : (fs : List Field) (i n : ℕ) → offset f fs i ≡ Some n → kept.offset s fs i ≡ Some (counted n)
  kept_offset fs i n e = kept_offset_by (slice_get fs i) (fields_end f (take i fs) 0) (kept.fields_end s (take i fs) (sizes.Bytes 0)) n (kept_fields_end (take i fs) 0) e

  -- ---- passing

  kept_passes_by : (e i j : ℕ) (fs : List Field) → (passes_in f fs e (i + 1) ≡ Some j → kept.passes_in s fs (counted e) (i + 1) ≡ Some j) → (if nat_le e most then passes_in f fs e (i + 1) else Some i) ≡ Some j
      → (if is_within (counted e) then kept.passes_in s fs (counted e) (i + 1) else Some i) ≡ Some j
  kept_passes_by e i j fs go is = chosen (nat_le e most) (is_within (counted e)) (within_counted e) j (passes_in f fs e (i + 1)) (Some i) (kept.passes_in s fs (counted e) (i + 1)) (Some i) go (λ q. q) is

  pub kept_passes : (fs : List Field) (n i j : ℕ) → passes_in f fs n i ≡ Some j → kept.passes_in s fs (counted n) i ≡ Some j
  kept_passes [] n i j e = absurd cc
  kept_passes (field ∷ fs) n i j e =
      kept_then (λ x. x) (field_end f field n) (kept.field_end s field (counted n)) (λ x. if nat_le x most then passes_in f fs x (i + 1) else Some i)
      (λ x. if is_within x then kept.passes_in s fs x (i + 1) else Some i) j (kept_field_end field n)
      (λ x. kept_passes_by x i j fs (kept_passes fs x (i + 1) j)) e

-- ---- what is kept is found

found_mapped : (op : ℕ → ℕ) (op_kept : Size → Size) → ((n : ℕ) → op_kept (counted n) ≡ counted (op n)) → (a : Option ℕ) (b : Option Size) → ((x : Size) → b ≡ Some x → option_map counted a ≡ Some x) → (x : Size)
    → option_map op_kept b ≡ Some x → option_map counted (option_map op a) ≡ Some x
found_mapped op op_kept hom a None h x e = absurd cc
found_mapped op op_kept hom None (Some y) h x e = absurd (let bad : None ≡ Some y = h y refl in cc)
found_mapped op op_kept hom (Some n) (Some y) h x e = ap (λ z. Some z) (sym (hom n) ∙ ap op_kept (some_is (counted n) y (h y refl)) ∙ some_is (op_kept y) x e)

pub found_then : {B C : Type 0} (view : B → C) (a : Option ℕ) (b : Option Size) (go : ℕ → Option B) (go_kept : Size → Option C) (x : C) → ((y : Size) → b ≡ Some y → option_map counted a ≡ Some y)
    → ((n : ℕ) → go_kept (counted n) ≡ Some x → option_map view (go n) ≡ Some x) → and_then b go_kept ≡ Some x → option_map view (and_then a go) ≡ Some x
found_then view a None go go_kept x h i e = absurd cc
found_then view None (Some y) go go_kept x h i e = absurd (let bad : None ≡ Some y = h y refl in cc)
found_then view (Some n) (Some y) go go_kept x h i e = i n (ap go_kept (some_is (counted n) y (h y refl)) ∙ e)

module _ (f : ℕ → Option ℕ) (s : List (Option Size)) (down : (k : ℕ) (x : Size) → size_in s k ≡ Some x → option_map counted (f k) ≡ Some x) where
  abbrev Found : Mode → Type 0
  Found m = (x : Size) → size_of s m ≡ Some x → option_map counted (size f m) ≡ Some x

  abbrev FoundPair : Type 0
  FoundPair = (m : Mode) × Found m

  found_by : (m : Mode) (l : Mode-F Mode) (x : Size) (o : out-Mode m ≡ l)
      → (kept.size_layer s (map-Mode Mode (Option Size) (size_of s) l) ≡ Some x → option_map counted (size_layer f (map-Mode Mode (Option ℕ) (size f) l)) ≡ Some x) → size_of s m ≡ Some x → option_map counted (size f m) ≡ Some x
  found_by m l x o go e = ap (option_map counted) (size_at f m l o) ∙ go (sym (kept_at s m l o) ∙ e)

  found_level : (m : Mode) (y : Mode-F FoundPair) → out-Mode m ≡ map-Mode FoundPair Mode (λ e. e.0) y → Found m
  found_level m Mode-F.Byte o x e = found_by m Mode-F.Byte x o (λ h. h) e
  found_level m Mode-F.Int o x e = found_by m Mode-F.Int x o (λ h. h) e
  found_level m Mode-F.Frac o x e = found_by m Mode-F.Frac x o (λ h. h) e
  found_level m Mode-F.Label o x e = found_by m Mode-F.Label x o (λ h. h) e
  found_level m (Mode-F.Ref a) o x e = found_by m (Mode-F.Ref a.0) x o (λ h. h) e
  found_level m (Mode-F.RefArray a) o x e = found_by m (Mode-F.RefArray a.0) x o (λ h. h) e
  found_level m (Mode-F.Array k a) o x e = found_by m (Mode-F.Array k a.0) x o (found_mapped (λ z. even (2 + k * z)) (elements k) (elements_counted k) (size f a.0) (size_of s a.0) a.1 x) e
  found_level m (Mode-F.Record r) o x e = found_by m (Mode-F.Record r) x o (down r x) e
  found_level m (Mode-F.Proc ps None) o x e = found_by m (Mode-F.Proc (map (λ (e : FoundPair). e.0) ps) None) x o (λ h. h) e
  found_level m (Mode-F.Proc ps (Some r)) o x e = found_by m (Mode-F.Proc (map (λ (e : FoundPair). e.0) ps) (Some r.0)) x o (λ h. h) e

  pub found_size : (m : Mode) → Found m
  found_size = ind-Mode Found (λ x y is. found_level (roll-Mode x) y (out_roll x ∙ sym is))

  pub found_field_end : (field : Field) (n : ℕ) (x : Size) → kept.field_end s field (counted n) ≡ Some x → option_map counted (field_end f field n) ≡ Some x
  found_field_end field n x is =
      found_mapped (λ z. field_begins f field n + z) (behind (out-Mode field.mode) (counted n)) (behind_counted (out-Mode field.mode) n) (size f field.mode) (size_of s field.mode) (found_size field.mode) x is

  pub found_fields_end : (fs : List Field) (n : ℕ) (x : Size) → kept.fields_end s fs (counted n) ≡ Some x → option_map counted (fields_end f fs n) ≡ Some x
  found_fields_end [] n x is = is
  found_fields_end (field ∷ fs) n x is =
      found_then counted (field_end f field n) (kept.field_end s field (counted n)) (fields_end f fs) (kept.fields_end s fs) x (found_field_end field n) (λ z. found_fields_end fs z x) is

  pub found_record : (o : Option (List Field)) (x : Size) → kept.record_layer s o ≡ Some x → option_map counted (record_layer f o) ≡ Some x
  found_record None x e = absurd cc
  found_record (Some fs) x e = found_mapped even rounded rounded_counted (fields_end f fs 0) (kept.fields_end s fs (sizes.Bytes 0)) (found_fields_end fs 0) x e

  found_offset_by : (o : Option Field) (a : Option ℕ) (b : Option Size) (x : Size) → ((x : Size) → b ≡ Some x → option_map counted a ≡ Some x) → kept.offset_by s o b ≡ Some x → option_map counted (offset_by f o a) ≡ Some x
  found_offset_by None a b x h e = absurd cc
  found_offset_by (Some field) a b x h e = found_mapped (field_begins f field) (place (out-Mode field.mode)) (place_counted (out-Mode field.mode)) a b h x e

  pub found_offset : (fs : List Field) (i : ℕ) (x : Size) → kept.offset s fs i ≡ Some x → option_map counted (offset f fs i) ≡ Some x
  found_offset fs i x e = found_offset_by (slice_get fs i) (fields_end f (take i fs) 0) (kept.fields_end s (take i fs) (sizes.Bytes 0)) x (found_fields_end (take i fs) 0) e

  -- ---- passing

  found_passes_by : (e i j : ℕ) (fs : List Field) → (kept.passes_in s fs (counted e) (i + 1) ≡ Some j → passes_in f fs e (i + 1) ≡ Some j)
      → (if is_within (counted e) then kept.passes_in s fs (counted e) (i + 1) else Some i) ≡ Some j
      → (if nat_le e most then passes_in f fs e (i + 1) else Some i) ≡ Some j
  found_passes_by e i j fs go is = chosen (is_within (counted e)) (nat_le e most) (sym (within_counted e)) j (kept.passes_in s fs (counted e) (i + 1)) (Some i) (passes_in f fs e (i + 1)) (Some i) go (λ q. q) is

  pub found_passes : (fs : List Field) (n i j : ℕ) → kept.passes_in s fs (counted n) i ≡ Some j → passes_in f fs n i ≡ Some j
  found_passes [] n i j e = absurd cc
  found_passes (field ∷ fs) n i j e =
      found_go (field_end f field n) (kept.field_end s field (counted n)) (λ x. if nat_le x most then passes_in f fs x (i + 1) else Some i)
      (λ x. if is_within x then kept.passes_in s fs x (i + 1) else Some i) j (found_field_end field n) (λ x. found_passes_by x i j fs (found_passes fs x (i + 1) j)) e
