-- Where modes may stand.
use Rattle.std.proofs.Common.{◌≡◌, ℕ, ◌&&◌, Bool, true, false, List, ◌∷◌, Option, Some, None, map, option_map, refl, sym, ap, ◌∙◌}
use Rattle.rt_modes.specs.declared.mode.Mode.{Mode, out-Mode, map-Mode, the_lemmas}
use Rattle.rt_modes.specs.declared.mode.Mode.TheFolds.{fold_out-Mode}
use Rattle.rt_modes.specs.declared.mode.Mode.TheOpen.{Mode-F}
use Rattle.rt_modes.specs.declared.mode.Mode.TheVariants as mode
use Rattle.rt_tree_nodes.specs.Typing.{is_value}
use Rattle.rt_tree_nodes.proofs.Same.{out_same}
use Rattle.rt_exprs.specs.Judging.{is_whole}
use Rattle.rt_exprs_laws.specs.Agreeing.{Places, stands, stands_by, all_values, answer_value, IsItem, IsValue}

pub stands_at : (m : Mode) (l : Mode-F Mode) → out-Mode m ≡ l → stands m ≡ stands_by (map-Mode Mode Places stands l)
unfolding stands
stands_at m l o = rw (fold_out-Mode, o) refl

-- ---- modes by what opens in them

pub is_byte : (m : Mode) → out-Mode m ≡ Mode-F.Byte → m ≡ mode.Byte
is_byte m e = let o : out-Mode mode.Byte ≡ Mode-F.Byte = search the_lemmas in out_same m mode.Byte (e ∙ sym o)

pub is_int : (m : Mode) → out-Mode m ≡ Mode-F.Int → m ≡ mode.Int
is_int m e = let o : out-Mode mode.Int ≡ Mode-F.Int = search the_lemmas in out_same m mode.Int (e ∙ sym o)

pub is_frac : (m : Mode) → out-Mode m ≡ Mode-F.Frac → m ≡ mode.Frac
is_frac m e = let o : out-Mode mode.Frac ≡ Mode-F.Frac = search the_lemmas in out_same m mode.Frac (e ∙ sym o)

pub is_ref_to : (m n : Mode) → out-Mode m ≡ Mode-F.Ref n → m ≡ mode.Ref n
is_ref_to m n e = let o : out-Mode (mode.Ref n) ≡ Mode-F.Ref n = search the_lemmas in out_same m (mode.Ref n) (e ∙ sym o)

pub is_row_of : (m n : Mode) → out-Mode m ≡ Mode-F.RefArray n → m ≡ mode.RefArray n
is_row_of m n e = let o : out-Mode (mode.RefArray n) ≡ Mode-F.RefArray n = search the_lemmas in out_same m (mode.RefArray n) (e ∙ sym o)

-- ---- a value stands as an item, and so does what stands inside another mode

same_for : (m : Mode) (a b : Bool) → (stands m).item ≡ a → b ≡ a → b ≡ true → IsItem m
same_for m a b e f h = e ∙ sym f ∙ h

value_layer : (m : Mode) (l : Mode-F Mode) → out-Mode m ≡ l → IsValue m → IsItem m
value_layer m (Mode-F.Array n e) o h = absurd (let bad : false ≡ true = sym (ap (λ x. x.value) (stands_at m (Mode-F.Array n e) o)) ∙ h in cc)
value_layer m (Mode-F.Record r) o h = absurd (let bad : false ≡ true = sym (ap (λ x. x.value) (stands_at m (Mode-F.Record r) o)) ∙ h in cc)
value_layer m Mode-F.Byte o h = ap (λ x. x.item) (stands_at m Mode-F.Byte o)
value_layer m Mode-F.Int o h = ap (λ x. x.item) (stands_at m Mode-F.Int o)
value_layer m Mode-F.Frac o h = ap (λ x. x.item) (stands_at m Mode-F.Frac o)
value_layer m Mode-F.Label o h = absurd (let bad : false ≡ true = sym (ap (λ x. x.value) (stands_at m Mode-F.Label o)) ∙ h in cc)
value_layer m (Mode-F.Ref n) o h = same_for m _ _ (ap (λ x. x.item) (stands_at m (Mode-F.Ref n) o)) (ap (λ x. x.value) (stands_at m (Mode-F.Ref n) o)) h
value_layer m (Mode-F.RefArray n) o h = same_for m _ _ (ap (λ x. x.item) (stands_at m (Mode-F.RefArray n) o)) (ap (λ x. x.value) (stands_at m (Mode-F.RefArray n) o)) h
value_layer m (Mode-F.Proc ps r) o h = same_for m _ _ (ap (λ x. x.item) (stands_at m (Mode-F.Proc ps r) o)) (ap (λ x. x.value) (stands_at m (Mode-F.Proc ps r) o)) h

pub value_item : (m : Mode) → IsValue m → IsItem m
value_item m h = value_layer m (out-Mode m) refl h

inner_layer : (m : Mode) (l : Mode-F Mode) → out-Mode m ≡ l → (stands m).inner ≡ true → IsItem m
inner_layer m (Mode-F.Array n e) o h = absurd (let bad : false ≡ true = sym (ap (λ x. x.inner) (stands_at m (Mode-F.Array n e) o)) ∙ h in cc)
inner_layer m (Mode-F.Record r) o h = ap (λ x. x.item) (stands_at m (Mode-F.Record r) o)
inner_layer m Mode-F.Byte o h = ap (λ x. x.item) (stands_at m Mode-F.Byte o)
inner_layer m Mode-F.Int o h = ap (λ x. x.item) (stands_at m Mode-F.Int o)
inner_layer m Mode-F.Frac o h = ap (λ x. x.item) (stands_at m Mode-F.Frac o)
inner_layer m Mode-F.Label o h = absurd (let bad : false ≡ true = sym (ap (λ x. x.inner) (stands_at m Mode-F.Label o)) ∙ h in cc)
inner_layer m (Mode-F.Ref n) o h = same_for m _ _ (ap (λ x. x.item) (stands_at m (Mode-F.Ref n) o)) (ap (λ x. x.inner) (stands_at m (Mode-F.Ref n) o)) h
inner_layer m (Mode-F.RefArray n) o h = same_for m _ _ (ap (λ x. x.item) (stands_at m (Mode-F.RefArray n) o)) (ap (λ x. x.inner) (stands_at m (Mode-F.RefArray n) o)) h
inner_layer m (Mode-F.Proc ps r) o h = same_for m _ _ (ap (λ x. x.item) (stands_at m (Mode-F.Proc ps r) o)) (ap (λ x. x.inner) (stands_at m (Mode-F.Proc ps r) o)) h

pub inner_item : (m : Mode) → (stands m).inner ≡ true → IsItem m
inner_item m h = inner_layer m (out-Mode m) refl h

-- ---- what stands inside

pub ref_inner : (m n : Mode) → out-Mode m ≡ Mode-F.Ref n → IsItem m → (stands n).inner ≡ true
ref_inner m n o h = sym (ap (λ x. x.item) (stands_at m (Mode-F.Ref n) o)) ∙ h

pub row_inner : (m n : Mode) → out-Mode m ≡ Mode-F.RefArray n → IsItem m → (stands n).inner ≡ true
row_inner m n o h = sym (ap (λ x. x.item) (stands_at m (Mode-F.RefArray n) o)) ∙ h

pub array_inner : (m : Mode) (k : ℕ) (n : Mode) → out-Mode m ≡ Mode-F.Array k n → IsItem m → (stands n).inner ≡ true
array_inner m k n o h = sym (ap (λ x. x.item) (stands_at m (Mode-F.Array k n) o)) ∙ h

left_of : (a b : Bool) → a && b ≡ true → a ≡ true
left_of true b e = refl
left_of false b e = e

right_of : (a b : Bool) → a && b ≡ true → b ≡ true
right_of true b e = e
right_of false b e = absurd cc

-- the parameters and the result of a PROC mode are values
proc_passes : (m : Mode) (ps : List Mode) (r : Option Mode) → out-Mode m ≡ Mode-F.Proc ps r → IsItem m → all_values (map stands ps) && answer_value (option_map stands r) ≡ true
proc_passes m ps None o h = sym (ap (λ x. x.item) (stands_at m (Mode-F.Proc ps None) o)) ∙ h
proc_passes m ps (Some r) o h = sym (ap (λ x. x.item) (stands_at m (Mode-F.Proc ps (Some r)) o)) ∙ h

pub parameters_stand : (m : Mode) (ps : List Mode) (r : Option Mode) → out-Mode m ≡ Mode-F.Proc ps r → IsItem m → all_values (map stands ps) ≡ true
parameters_stand m ps r o h = left_of (all_values (map stands ps)) (answer_value (option_map stands r)) (proc_passes m ps r o h)

pub answer_stands : (m : Mode) (ps : List Mode) (r : Option Mode) → out-Mode m ≡ Mode-F.Proc ps r → IsItem m → answer_value (option_map stands r) ≡ true
answer_stands m ps r o h = right_of (all_values (map stands ps)) (answer_value (option_map stands r)) (proc_passes m ps r o h)

pub first_stands : (m : Mode) (ms : List Mode) → all_values (map stands (m ∷ ms)) ≡ true → IsValue m
first_stands m ms h = left_of (stands m).value (all_values (map stands ms)) h

pub rest_stands : (m : Mode) (ms : List Mode) → all_values (map stands (m ∷ ms)) ≡ true → all_values (map stands ms) ≡ true
rest_stands m ms h = right_of (stands m).value (all_values (map stands ms)) h

-- ---- what may be read

value_read : (m : Mode) (l : Mode-F Mode) → out-Mode m ≡ l → IsValue m → is_value l ≡ true
value_read m (Mode-F.Array n e) o h = sym (ap (λ x. x.value) (stands_at m (Mode-F.Array n e) o)) ∙ h
value_read m (Mode-F.Record r) o h = sym (ap (λ x. x.value) (stands_at m (Mode-F.Record r) o)) ∙ h
value_read m Mode-F.Label o h = sym (ap (λ x. x.value) (stands_at m Mode-F.Label o)) ∙ h
value_read m _ o h = refl

pub is_read : (m : Mode) → IsValue m → is_value (out-Mode m) ≡ true
is_read m h = value_read m (out-Mode m) refl h

whole_layer : (m : Mode) (l : Mode-F Mode) → out-Mode m ≡ l → IsItem m → is_whole l ≡ false → IsValue m
whole_layer m (Mode-F.Array n e) o h w = absurd cc
whole_layer m (Mode-F.Record r) o h w = absurd cc
whole_layer m Mode-F.Label o h w = absurd (let bad : false ≡ true = sym (ap (λ x. x.item) (stands_at m Mode-F.Label o)) ∙ h in cc)
whole_layer m Mode-F.Byte o h w = ap (λ x. x.value) (stands_at m Mode-F.Byte o)
whole_layer m Mode-F.Int o h w = ap (λ x. x.value) (stands_at m Mode-F.Int o)
whole_layer m Mode-F.Frac o h w = ap (λ x. x.value) (stands_at m Mode-F.Frac o)
whole_layer m (Mode-F.Ref n) o h w = ap (λ x. x.value) (stands_at m (Mode-F.Ref n) o) ∙ sym (ap (λ x. x.item) (stands_at m (Mode-F.Ref n) o)) ∙ h
whole_layer m (Mode-F.RefArray n) o h w = ap (λ x. x.value) (stands_at m (Mode-F.RefArray n) o) ∙ sym (ap (λ x. x.item) (stands_at m (Mode-F.RefArray n) o)) ∙ h
whole_layer m (Mode-F.Proc ps r) o h w = ap (λ x. x.value) (stands_at m (Mode-F.Proc ps r) o) ∙ sym (ap (λ x. x.item) (stands_at m (Mode-F.Proc ps r) o)) ∙ h

-- an item that is no record and no array is a value
pub part_is_value : (m : Mode) → IsItem m → is_whole (out-Mode m) ≡ false → IsValue m
part_is_value m h w = whole_layer m (out-Mode m) refl h w
