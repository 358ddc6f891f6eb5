-- How the data of a module lie is determined.
use Rattle.std.proofs.Common.{◌≡◌, ℕ, zero, suc, ◌<◌, List, [], ◌∷◌, length, Option, Some, refl, sym, ap, ◌∙◌, subst, arith, slice_get}
use Rattle.std.proofs.lemmas.Option.{slice_get_within}
use Rattle.rt_modes.specs.declared.mode.Field.{Field}
use Rattle.rt_modes.specs.declared.mode.RecordDef.{RecordDef}
use Rattle.rt_sizes.specs.Sizes.{Table}
use Rattle.rt_sizes_laws.specs.Laws.{TablesTellOnce}
use Rattle.rt_tree_nodes.specs.declared.brick.ModuleParts.{ModuleParts}
use Rattle.rt_lower.specs.declared.layouts.Layouts.{Layouts}
use Rattle.rt_lower.specs.Layouts.{AreOffsets, AreRows, AreRecordSizes, AreLayouts, ItemsBegin, FieldsBegin, table_of, fields_in}
use Rattle.rt_compile.proofs.Lists.{same_lists}

-- ---- rows

there : {A : Type 0} (xs : List A) (k : ℕ) → k < length xs → (x : A) × (slice_get xs k ≡ Some x)
there [] k h = absurd (omega arith)
there (x ∷ xs) zero h = (x, refl)
there (x ∷ xs) (suc k) h = there xs k (omega arith)

one_table : {A : Type 0} (IsRow : A → List ℕ → Type 0) (xs : List A) (rows others : List (List ℕ)) → ((x : A) (ns ms : List ℕ) → IsRow x ns → IsRow x ms → ns ≡ ms)
    → AreRows xs rows IsRow → AreRows xs others IsRow → rows ≡ others
one_table IsRow xs rows others one a b =
    same_lists rows others (a.each ∙ sym b.each)
    (λ k x y e f.
    let found = there xs k (subst (λ (n : ℕ). k < n) a.each (slice_get_within rows k x e)) in
    one found.0 x y (a.right k found.0 x found.1 e) (b.right k found.0 y found.1 f))

abbrev made : List (List ℕ) → List (List ℕ) → List ℕ → Layouts
made items fields sizes = record { items = items; fields = fields; sizes = sizes }

layouts_are : (l m : Layouts) → l.items ≡ m.items → l.fields ≡ m.fields → l.sizes ≡ m.sizes → l ≡ m
layouts_are l m a b c =
    ap (λ (x : List (List ℕ)). made x l.fields l.sizes) a
    ∙ ap (λ (x : List (List ℕ)). made m.items x l.sizes) b
    ∙ ap (λ (x : List ℕ). made m.items m.fields x) c

module _ (told : TablesTellOnce) where
  one_row : (t : Table) (fs : List Field) (ns ms : List ℕ) → AreOffsets t fs ns → AreOffsets t fs ms → ns ≡ ms
  one_row t fs ns ms a b = same_lists ns ms (a.each ∙ sym b.each) (λ k x y e f. (told t).begins fs k x y (a.begin k x e) (b.begin k y f))

  one_list : (records : List RecordDef) (ns ms : List ℕ) → AreRecordSizes records ns → AreRecordSizes records ms → ns ≡ ms
  one_list records ns ms a b = same_lists ns ms (a.each ∙ sym b.each) (λ k x y e f. (told (table_of records)).records k x y (a.right k x e) (b.right k y f))

  pub one_layout : (p : ModuleParts) (l m : Layouts) → AreLayouts p l → AreLayouts p m → l ≡ m
  one_layout p l m a b =
      let t = table_of p.modes.records in
      layouts_are l m
      (one_table (ItemsBegin t) p.bricks l.items m.items (λ d ns ms. one_row t (fields_in d.sort) ns ms) a.items b.items)
      (one_table (FieldsBegin t) p.modes.records l.fields m.fields (λ r ns ms. one_row t r.fields ns ms) a.fields b.fields)
      (one_list p.modes.records l.sizes m.sizes a.sizes b.sizes)
