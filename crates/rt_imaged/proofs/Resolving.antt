-- The words of relocations are those of the values that they stand for.
use Rattle.std.proofs.Common.{Bool, ◌≡◌, ℕ, zero, suc, ◌+◌, ◌*◌, ◌<◌, nat_lt, inl, inr, List, [], ◌∷◌, length, Option, Some, None, option_map, if◌then◌else◌, slice_get, refl, sym, ap, ◌∙◌, arith, lt-ltb}
use Rattle.std.proofs.Math.Nat.{mul_comm}
use Rattle.std.proofs.lemmas.Option.{slice_get_within}
use Rattle.rt_modes.specs.declared.mode.Field.{Field}
use Rattle.rt_modes.specs.declared.mode.Mode.{Mode, out-Mode}
use Rattle.rt_modes.specs.declared.mode.RecordDef.{RecordDef}
use Rattle.rt_tree_nodes.specs.declared.brick.ModuleParts.{ModuleParts}
use Rattle.rt_tree_nodes.specs.Scopes.{with, field_at}
use Rattle.rt_tree.specs.Modules.{part_mode}
use Rattle.rt_sizes.specs.Sizes.{offset}
use Rattle.rt_sizes.proofs.Layers.{some_is}
use Rattle.rt_sizes_laws.proofs.Deeper.{place_of, place_grows}
use Rattle.rt_lower.specs.declared.layouts.Layouts.{Layouts}
use Rattle.rt_lower.specs.Layouts.{AreLayouts, FieldsBegin, table_of, number, row, field_offset, bytes}
use Rattle.rt_compile.specs.Data.{by, part_begins, along}
use Rattle.rt_places.specs.Places.{IsField, IsElement, IsPart, Leads}
use Rattle.rt_laid.proofs.Alike.{tells}
use Rattle.rt_laid.proofs.Laying.{has_field}

pub there_is : {A : Type 0} (xs : List A) (k : ℕ) → k < length xs → (x : A) × (slice_get xs k ≡ Some x)
there_is [] k less = absurd (omega arith)
there_is (x ∷ xs) zero less = (x, refl)
there_is (x ∷ xs) (suc k) less = there_is xs k (omega arith)

module _ (p : ModuleParts) (l : Layouts) (right : AreLayouts p l) where
  abbrev S : ℕ → Option ℕ
  S k = slice_get l.sizes k

  -- the rows of layouts have the offsets that sizes tell
  field_row : (r k a : ℕ) (d : RecordDef) → slice_get p.modes.records r ≡ Some d → offset S d.fields k ≡ Some a → field_offset l r k ≡ a
  field_row r k a d at h =
      let less = slice_get_within p.modes.records r d at in
      let each : length l.fields ≡ length p.modes.records = right.fields.each in
      let ns = there_is l.fields r (omega arith) in
      let offsets : FieldsBegin (table_of p.modes.records) d ns.0 = right.fields.right r d ns.0 at ns.1 in
      let field = has_field S d.fields k a h in
      let in_fields = slice_get_within d.fields k field.0 field.1 in
      let many : length ns.0 ≡ length d.fields = offsets.each in
      let n = there_is ns.0 k (omega arith) in
      let same : n.0 ≡ a = some_is n.0 a (sym (tells p l right (place_of d.fields k) (place_grows d.fields k) n.0 (offsets.begin k n.0 n.1)) ∙ h) in
      ap (λ (z : Option (List ℕ)). number (slice_get (row z) k)) ns.1 ∙ ap number n.1 ∙ same

  element_mode : (k n : ℕ) (e : Mode) → k < n → (if nat_lt k n then Some e else None) ≡ Some e
  element_mode k n e less = ap (λ (b : Bool). if b then Some e else None) (lt-ltb k n less)

  field_step : (k n : ℕ) (m e : Mode) (a : ℕ) → IsField p.modes.records S k m e a → (part_begins l k n (out-Mode m) ≡ n + a) × (part_mode p.modes.records k (out-Mode m) ≡ Some e)
  field_step k n m e a h =
      let begin = field_row h.number k a h.def h.at h.begins in
      let layer = ap (part_begins l k n) h.is in
      let mode = ap (part_mode p.modes.records k) h.is in
      let def = ap (λ (z : Option RecordDef). with z (λ d. field_at d.fields k)) h.at in
      let its = ap (λ (z : Option Field). option_map (λ (f : Field). f.mode) z) h.has in
      (layer ∙ ap (λ (z : ℕ). n + z) begin, mode ∙ def ∙ its ∙ ap (λ (z : Mode). Some z) h.mode)

  element_step : (k n : ℕ) (m e : Mode) (a : ℕ) → IsElement p.modes.records S k m e a → (part_begins l k n (out-Mode m) ≡ n + a) × (part_mode p.modes.records k (out-Mode m) ≡ Some e)
  element_step k n m e a h =
      let layer = ap (part_begins l k n) h.is in
      let its : bytes l e ≡ h.bytes = ap number h.sized in
      let turned : k * h.bytes ≡ h.bytes * k = mul_comm k h.bytes in
      let begin : a ≡ 2 + h.bytes * k = h.begins in
      (layer ∙ ap (λ (z : ℕ). n + (2 + k * z)) its ∙ (let q : n + (2 + k * h.bytes) ≡ n + a = omega arith in q), ap (part_mode p.modes.records k) h.is ∙ element_mode k h.count e h.in_it)

  step : (k n : ℕ) (m e : Mode) (a : ℕ) → IsPart p.modes.records S k m e a → (part_begins l k n (out-Mode m) ≡ n + a) × (part_mode p.modes.records k (out-Mode m) ≡ Some e)
  step k n m e a (inl h) = field_step k n m e a h
  step k n m e a (inr h) = element_step k n m e a h

  -- what the compiler counts along a path is where the path leads
  pub along_leads : (path : List ℕ) (n : ℕ) (m v : Mode) (a : ℕ) → Leads p.modes.records S path m v a → along l p.modes.records path n m ≡ n + a
  along_leads [] n m v a h = let none : a ≡ 0 = h.1 in omega arith
  along_leads (k ∷ ks) n m v a (e, x, y, part, rest, is) =
      let one = step k n m e x part in
      let deep : along l p.modes.records ks (n + x) e ≡ n + x + y = along_leads ks (n + x) e v y rest in
      ap (λ (z : Option Mode). by (part_begins l k n (out-Mode m)) (along l p.modes.records ks (part_begins l k n (out-Mode m))) z) one.1
      ∙ ap (λ (z : ℕ). along l p.modes.records ks z e) one.0 ∙ deep ∙ (let q : n + x + y ≡ n + a = omega arith in q)
