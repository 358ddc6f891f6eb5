-- Relocations lie inside their parts.
use Rattle.std.proofs.Common.{◌≡◌, ℕ, ◌+◌, ◌*◌, ◌%◌, ◌<◌, ◌≤◌, ◌⊎◌, inl, inr, Bool, true, false, eqb, List, [], ◌∷◌, ◌++◌, length, get_or, sym, ap, ◌∙◌, subst, arith, length-append}
use Rattle.std.specs.Prelude.{if◌then◌else◌}
use Rattle.std.specs.List.{AllByRecursion}
use Rattle.std.proofs.lemmas.Bool.Decides.{eqb_tells}
use Rattle.std.proofs.lemmas.List.{get_or_default}
use Rattle.std.proofs.lemmas.List.Elements.{All-from_recursion}
use Rattle.rt_digraph.proofs.Moves.{same_or_not}
use Rattle.rt_modes.specs.declared.mode.RecordDef.{RecordDef}
use Rattle.rt_object.specs.Ranges.{HasObjectRanges, HasBrickRanges, HasKindRanges, IsByte}
use Rattle.rt_object.specs.declared.object.Brick.{Brick}
use Rattle.rt_object.specs.declared.object.BrickKind.{BrickKind}
use Rattle.rt_object.specs.declared.object.BrickKind.TheVariants.{Own, Ent, Ext, Svc}
use Rattle.rt_object.specs.declared.object.Content.TheVariants as content
use Rattle.rt_object.specs.declared.object.ObjectParts.{ObjectParts}
use Rattle.rt_object.specs.declared.object.Relocation.{Relocation}
use Rattle.rt_graph.specs.Calls.{content_of}
use Rattle.rt_link.proofs.Summed.{all_so}
use Rattle.rt_link.specs.Relocated.{padded}
use Rattle.rt_link.specs.Imaged.{HasCodeIn, HasDataIn, HasCodeInside, HasDataInside}

-- what holds of each element holds of one that was read
pub all_at : {A : Type 0} (P : A → Type 0) (xs : List A) (i : ℕ) (x : A) → AllByRecursion P xs → i < length xs → x ≡ get_or xs i x → P x
all_at P xs i x h within is = subst P (sym is) (All-from_recursion P xs h i x within)

odd_one : (n : ℕ) → (n % 2 ≡ 0 → ⊥) → n % 2 ≡ 1
odd_one n h = omega arith

pub padded_long : (xs : List ℕ) → length (padded xs) ≡ length xs + length xs % 2
padded_long xs = by (eqb_tells (length xs % 2) 0)
  where
    by : ((eqb (length xs % 2) 0 ≡ true) × (length xs % 2 ≡ 0)) ⊎ ((eqb (length xs % 2) 0 ≡ false) × (length xs % 2 ≡ 0 → ⊥)) → length (padded xs) ≡ length xs + length xs % 2
    by (inl e) = ap (λ (b : Bool). length (if b then xs else xs ++ 0 ∷ [])) e.0 ∙ (let even = e.1 in let same : length xs ≡ length xs + length xs % 2 = omega arith in same)
    by (inr o) =
        ap (λ (b : Bool). length (if b then xs else xs ++ 0 ∷ [])) o.0 ∙ length-append xs (0 ∷ []) ∙
        (let odd : length xs % 2 ≡ 1 = odd_one (length xs) o.1 in let same : length xs + length {A = ℕ} (0 ∷ []) ≡ length xs + length xs % 2 = omega arith in same)

module _ (records : List RecordDef) (strings bricks : ℕ) where
  code_in : (name : List ℕ) (k : BrickKind) → HasKindRanges records strings bricks name k → HasCodeIn (content_of k)
  code_in name (Own (content.Proc p)) h = all_so (λ r. (r.place < length p.words) × ((k : ℕ) × (r.place ≡ 1 * k))) (λ r. r.place < length p.words) p.relocations h.relocations.inside (λ r i. i.0)
  code_in name (Own (content.Data d)) h = tt
  code_in name (Own (content.Stack n)) h = tt
  code_in name (Ent (content.Proc p)) h = all_so (λ r. (r.place < length p.words) × ((k : ℕ) × (r.place ≡ 1 * k))) (λ r. r.place < length p.words) p.relocations h.relocations.inside (λ r i. i.0)
  code_in name (Ent (content.Data d)) h = tt
  code_in name (Ent (content.Stack n)) h = tt
  code_in name (Ext e) h = tt
  code_in name (Svc s) h = tt

  both_inside : (bytes : List ℕ) (r : Relocation) → (r.place < length bytes) × ((k : ℕ) × (r.place ≡ 2 * k)) → r.place + 1 < length (padded bytes)
  both_inside bytes r i =
      let within = i.0 in
      let half = i.1.0 in
      let even : r.place ≡ 2 * half = i.1.1 in
      let long = padded_long bytes in
      omega arith

  data_in : (name : List ℕ) (k : BrickKind) → HasKindRanges records strings bricks name k → HasDataIn (content_of k)
  data_in name (Own (content.Proc p)) h = tt
  data_in name (Own (content.Data d)) h = all_so (λ r. (r.place < length d.bytes) × ((k : ℕ) × (r.place ≡ 2 * k))) (λ r. r.place + 1 < length (padded d.bytes)) d.relocations h.relocations.inside (both_inside d.bytes)
  data_in name (Own (content.Stack n)) h = tt
  data_in name (Ent (content.Proc p)) h = tt
  data_in name (Ent (content.Data d)) h = all_so (λ r. (r.place < length d.bytes) × ((k : ℕ) × (r.place ≡ 2 * k))) (λ r. r.place + 1 < length (padded d.bytes)) d.relocations h.relocations.inside (both_inside d.bytes)
  data_in name (Ent (content.Stack n)) h = tt
  data_in name (Ext e) h = tt
  data_in name (Svc s) h = tt

module _ (o : ObjectParts) (h : HasObjectRanges o) where
  pub code_inside : (xs : List Brick) (i : ℕ) (x : Brick) → xs ≡ o.bricks → i < length xs → x ≡ get_or xs i x → HasCodeInside x
  code_inside xs i x e within is =
      let r = all_at (HasBrickRanges o.records.records (length o.strings) (length o.bricks)) xs i x (subst (λ (bs : List Brick). AllByRecursion (HasBrickRanges o.records.records (length o.strings) (length o.bricks)) bs) (sym e) h.each_brick) within is in
      code_in o.records.records (length o.strings) (length o.bricks) x.name x.kind r.kind

  pub data_inside : (xs : List Brick) (i : ℕ) (x : Brick) → xs ≡ o.bricks → i < length xs → x ≡ get_or xs i x → HasDataInside x
  data_inside xs i x e within is =
      let r = all_at (HasBrickRanges o.records.records (length o.strings) (length o.bricks)) xs i x (subst (λ (bs : List Brick). AllByRecursion (HasBrickRanges o.records.records (length o.strings) (length o.bricks)) bs) (sym e) h.each_brick) within is in
      data_in o.records.records (length o.strings) (length o.bricks) x.name x.kind r.kind

  pub strings_short : AllByRecursion (λ s. length s ≤ 65535) o.strings
  strings_short = all_so (λ s. (length s ≤ 8191) × AllByRecursion IsByte s) (λ s. length s ≤ 65535) o.strings h.each_string (λ s r. let l = r.0 in omega arith)

-- what holds of the elements before one, and of that one
pub one_more : {A : Type 0} (P : A → Type 0) (xs : List A) (i : ℕ) (x : A) → ((k : ℕ) (d : A) → k < i → P (get_or xs k d)) → i < length xs → x ≡ get_or xs i x → P x → (k : ℕ) (d : A) → k < i + 1 → P (get_or xs k d)
one_more P xs i x before within is here k d less = elim (same_or_not k i) [
  | inl same ↦ subst (λ j. P (get_or xs j d)) (sym same) (subst P (is ∙ get_or_default xs i x d within) here)
  | inr other ↦ before k d (omega (arith, other))
]
