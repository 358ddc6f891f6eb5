-- Each module has its typed tree, or a fault that counts.
use Rattle.std.proofs.Common.{◌≡◌, ◌⊎◌, ℕ, inl, inr, List, [], ◌∷◌, Option, Some, None, slice_get, refl, sym, ap, ◌∙◌, subst}
use Rattle.rt_grammar.specs.declared.at.Ident.{Ident}
use Rattle.rt_bricks.specs.declared.tree.DataLine.{DataLine}
use Rattle.rt_bricks.specs.declared.tree.Declaration.{Declaration}
use Rattle.rt_bricks.specs.declared.tree.Declaration.TheVariants as declares
use Rattle.rt_bricks.specs.declared.tree.RecordMode.{RecordMode}
use Rattle.rt_modes.specs.declared.mode.Field.{Field}
use Rattle.rt_check_faults.specs.declared.fault.CheckFault.{CheckFault}
use Rattle.rt_check_faults.specs.declared.fault.CheckFault.TheVariants as fault
use Rattle.rt_exprs.specs.Sights.{Sight}
use Rattle.rt_sizes.specs.Containing.{Contains}
use Rattle.rt_sizes.specs.Sizes.{Table, PassWith}
use Rattle.rt_sizes_laws.specs.Decided.{IsDecided, PassesAreDecided, OnePasses, RingsAreDecided}
use Rattle.rt_check_declared.specs.declared.bricks.Heading.{Heading}
use Rattle.rt_check_declared.specs.declared.parts.Part.{Part}
use Rattle.rt_check_declared.specs.declared.site.Site.TheVariants as site
use Rattle.rt_check_declared.specs.Bricks.{brick_faults}
use Rattle.rt_check_declared.specs.Fields.{written_fields, idents}
use Rattle.rt_check_declared.specs.Names.{name_faults, second_fields}
use Rattle.rt_check_declared.specs.Records.{ModeFault, in_fields, in_itself, too_large, RecordFault, of_modes, of_names, field_faults, record_modes, table}
use Rattle.rt_check_declared.specs.Records.{Stands as StandsInModes}
use Rattle.rt_check_declared.specs.Totals.{LargeFault, all_fields}
use Rattle.rt_check_declared.specs.Totals as large
use Rattle.rt_check_declared.specs.Verdicts.{IsIn}
use Rattle.rt_check_declared.specs.Written.{Names}
use Rattle.rt_check_bodies.specs.Procedures.{faults}
use Rattle.rt_check_module.specs.Bricks.{BrickFault, in_items, in_whole}
use Rattle.rt_check_module.specs.Items as starts
use Rattle.rt_check_module.specs.Faults.{Inside, Stands, in_names, in_modes, in_bricks, inside}
use Rattle.rt_check_module.specs.Tree.{items_in, Somewhere, modes_seen, records, headings, sight, tree}
use Rattle.rt_check_laws.specs.Laws.{EachModule, OneFault}
use Rattle.rt_check_laws.proofs.Least.{Faults, HasLeast, none_stands, least_as, least_either, least_only, least_in, least_at, least_somewhere, one_place}

no_member : (g : CheckFault) (fs : List CheckFault) → fs ≡ [] → IsIn g fs → ⊥
no_member g fs e h = subst (λ (xs : List CheckFault). IsIn g xs) e h

not_empty : (f : CheckFault) (fs gs : List CheckFault) → gs ≡ f ∷ fs → gs ≡ [] → ⊥
not_empty f fs gs e n = let bad : f ∷ fs ≡ [] = sym e ∙ n in cc

-- ---- what passes the greatest size, at what is there

module _ (passes : PassesAreDecided) (one : OnePasses) (t : Table) (fs : List Field) where
  abbrev There : {A : Type 0} → List A → A → Type 0
  There xs x = (i : ℕ) × PassWith t fs i × (slice_get xs i ≡ Some x)

  there_by : {A : Type 0} (xs : List A) (i : ℕ) → PassWith t fs i → (o : Option A) → slice_get xs i ≡ o → IsDecided ((x : A) × There xs x)
  there_by xs i p (Some x) e = inl (x, (i, p, e))
  there_by {A = A} xs i p None e = inr (λ h. let same : i ≡ h.1.0 = one t fs i h.1.0 p h.1.1 in let bad : None ≡ Some h.0 = sym e ∙ ap (λ (j : ℕ). slice_get xs j) same ∙ h.1.2 in cc)

  there : {A : Type 0} (xs : List A) → IsDecided ((x : A) × There xs x)
  there xs = elim (passes t fs) [ inl p ↦ there_by xs p.0 p.1 (slice_get xs p.0) refl | inr never ↦ inr (λ h. never (h.1.0, h.1.1)) ]

  same_there : {A : Type 0} (xs : List A) (x y : A) → There xs x → There xs y → x ≡ y
  same_there xs x y a b = let same : a.0 ≡ b.0 = one t fs a.0 b.0 a.1 b.1 in let is : Some x ≡ Some y = sym a.2 ∙ ap (λ (j : ℕ). slice_get xs j) same ∙ b.2 in cc

module _ (rings : RingsAreDecided) (passes : PassesAreDecided) (one : OnePasses) where
  -- ---- MODEs

  module _ (names : Names) (t : Table) (k : ℕ) (r : RecordMode) where
    abbrev Lists : List Field
    Lists = written_fields names site.Item r.fields

    in_list : (f : CheckFault) (fs : List CheckFault) → field_faults names r ≡ f ∷ fs → (g : CheckFault) → ModeFault names t k r g → IsIn g (field_faults names r)
    in_list f fs e g (in_fields i) = i
    in_list f fs e g (in_itself n c) = absurd (not_empty f fs (field_faults names r) e n)
    in_list f fs e g (too_large n c p at) = absurd (not_empty f fs (field_faults names r) e n)

    ring_only : field_faults names r ≡ [] → Contains t.records k k → (g : CheckFault) → ModeFault names t k r g → g ≡ fault.DeclaredTwice r.name.at
    ring_only e c g (in_fields i) = absurd (no_member g (field_faults names r) e i)
    ring_only e c g (in_itself n d) = refl
    ring_only e c g (too_large n never p at) = absurd (never c)

    large_only : field_faults names r ≡ [] → (Contains t.records k k → ⊥) → (x : Ident) → There passes one t Lists (idents r.fields) x → (g : CheckFault) → ModeFault names t k r g → g ≡ fault.BadStart x.at
    large_only e never x a g (in_fields i) = absurd (no_member g (field_faults names r) e i)
    large_only e never x a g (in_itself n d) = absurd (never d)
    large_only e never x a g (too_large {i = i} {f = f} n no_ring p at) = ap (λ (y : Ident). fault.BadStart y.at) (same_there passes one t Lists (idents r.fields) f x (i, p, at) a)

    none_large : field_faults names r ≡ [] → (Contains t.records k k → ⊥) → ((x : Ident) × There passes one t Lists (idents r.fields) x → ⊥) → (g : CheckFault) → ModeFault names t k r g → ⊥
    none_large e never nor g (in_fields i) = no_member g (field_faults names r) e i
    none_large e never nor g (in_itself n d) = never d
    none_large e never nor g (too_large {i = i} {f = f} n no_ring p at) = nor (f, (i, p, at))

    large_least : field_faults names r ≡ [] → (Contains t.records k k → ⊥) → IsDecided ((x : Ident) × There passes one t Lists (idents r.fields) x) → HasLeast (ModeFault names t k r)
    large_least e never (inl h) = least_only (fault.BadStart h.0.at) (too_large e never h.1.1 h.1.2) (large_only e never h.0 h.1)
    large_least e never (inr nor) = none_stands (none_large e never nor)

    ring_least : field_faults names r ≡ [] → IsDecided (Contains t.records k k) → HasLeast (ModeFault names t k r)
    ring_least e (inl c) = least_only (fault.DeclaredTwice r.name.at) (in_itself e c) (ring_only e c)
    ring_least e (inr never) = large_least e never (there passes one t Lists (idents r.fields))

    mode_by : (fs : List CheckFault) → field_faults names r ≡ fs → HasLeast (ModeFault names t k r)
    mode_by [] e = ring_least e (rings t.records k k)
    mode_by (f ∷ fs) e = least_as (λ g i. in_fields i) (in_list f fs e) (least_in (field_faults names r))

    record_there : (g : CheckFault) → (ModeFault names t k r g) ⊎ IsIn g (second_fields r.fields) → RecordFault names t k r g
    record_there g (inl m) = of_modes m
    record_there g (inr i) = of_names i

    record_back : (g : CheckFault) → RecordFault names t k r g → (ModeFault names t k r g) ⊎ IsIn g (second_fields r.fields)
    record_back g (of_modes m) = inl m
    record_back g (of_names i) = inr i

    record_least : HasLeast (RecordFault names t k r)
    record_least = least_as record_there record_back (least_either (mode_by (field_faults names r) refl) (least_in (second_fields r.fields)))

  modes_least : (names : Names) (ds : List Declaration) → HasLeast (StandsInModes names ds)
  modes_least names ds = least_at (λ k r. RecordFault names (table names ds) k r) (record_modes ds) (λ k r. record_least names (table names ds) k r)

  -- ---- data bricks

  module _ (t : Table) (ps : List Part) where
    brick_only : (fs : List Field) → all_fields ps ≡ Some fs → (p : Part) → There passes one t fs ps p → (g : CheckFault) → LargeFault t ps g → g ≡ fault.BadStart p.at
    brick_only fs e p a g (large.too_large {fs = gs} {i = i} {p = q} d w at) =
        let same : gs ≡ fs = (let is : Some gs ≡ Some fs = sym d ∙ e in cc) in
        ap (λ (x : Part). fault.BadStart x.at) (same_there passes one t fs ps q p (i, subst (λ (xs : List Field). PassWith t xs i) same w, at) a)

    no_brick : (fs : List Field) → all_fields ps ≡ Some fs → ((p : Part) × There passes one t fs ps p → ⊥) → (g : CheckFault) → LargeFault t ps g → ⊥
    no_brick fs e never g (large.too_large {fs = gs} {i = i} {p = q} d w at) =
        let same : gs ≡ fs = (let is : Some gs ≡ Some fs = sym d ∙ e in cc) in never (q, (i, subst (λ (xs : List Field). PassWith t xs i) same w, at))

    not_all : all_fields ps ≡ None → (g : CheckFault) → LargeFault t ps g → ⊥
    not_all e g (large.too_large {fs = gs} d w at) = let bad : None ≡ Some gs = sym e ∙ d in cc

    whole_by : (fs : List Field) → all_fields ps ≡ Some fs → IsDecided ((p : Part) × There passes one t fs ps p) → HasLeast (LargeFault t ps)
    whole_by fs e (inl h) = least_only (fault.BadStart h.0.at) (large.too_large e h.1.1 h.1.2) (brick_only fs e h.0 h.1)
    whole_by fs e (inr never) = none_stands (no_brick fs e never)

    fields_by : (o : Option (List Field)) → all_fields ps ≡ o → HasLeast (LargeFault t ps)
    fields_by None e = none_stands (not_all e)
    fields_by (Some fs) e = whole_by fs e (there passes one t fs ps)

    large_brick : HasLeast (LargeFault t ps)
    large_brick = fields_by (all_fields ps) refl

    module _ (s : Sight) (ls : List DataLine) where
      whole_back : starts.brick_faults s ls ps ≡ [] → (g : CheckFault) → BrickFault t s ls ps g → LargeFault t ps g
      whole_back e g (in_items i) = absurd (no_member g (starts.brick_faults s ls ps) e i)
      whole_back e g (in_whole n l) = l

      items_back : (f : CheckFault) (fs : List CheckFault) → starts.brick_faults s ls ps ≡ f ∷ fs → (g : CheckFault) → BrickFault t s ls ps g → IsIn g (starts.brick_faults s ls ps)
      items_back f fs e g (in_items i) = i
      items_back f fs e g (in_whole n l) = absurd (not_empty f fs (starts.brick_faults s ls ps) e n)

      brick_by : (fs : List CheckFault) → starts.brick_faults s ls ps ≡ fs → HasLeast (BrickFault t s ls ps)
      brick_by [] e = least_as (λ g l. in_whole e l) (whole_back e) large_brick
      brick_by (f ∷ fs) e = least_as (λ g i. in_items i) (items_back f fs e) (least_in (starts.brick_faults s ls ps))

      brick_least : HasLeast (BrickFault t s ls ps)
      brick_least = brick_by (starts.brick_faults s ls ps) refl

  -- ---- the whole

  inside_least : (s : Sight) (t : Table) (h : Option Heading) (d : Declaration) → HasLeast (λ g. Inside s t g h d)
  inside_least s t h (declares.Data d) = brick_least t (items_in h) s d.lines
  inside_least s t h (declares.ImportedData d) = large_brick t (items_in h)
  inside_least s t h (declares.Procedure p) = least_in (faults s p)
  inside_least s t h (declares.Record r) = none_stands (λ g x. x)
  inside_least s t h (declares.Stack k) = none_stands (λ g x. x)
  inside_least s t h (declares.ImportedProcedures p) = none_stands (λ g x. x)
  inside_least s t h (declares.ImportedStacks k) = none_stands (λ g x. x)

  module _ (ds : List Declaration) where
    abbrev Anywhere : Faults
    Anywhere g = IsIn g (name_faults ds) ⊎ (StandsInModes (modes_seen ds) ds g ⊎ (IsIn g (brick_faults (modes_seen ds) ds) ⊎ Somewhere (Inside (sight ds) (records ds) g) (headings ds) ds))

    stands_there : (g : CheckFault) → Anywhere g → Stands ds g
    stands_there g (inl n) = in_names n
    stands_there g (inr (inl m)) = in_modes m
    stands_there g (inr (inr (inl b))) = in_bricks b
    stands_there g (inr (inr (inr i))) = inside i

    stands_back : (g : CheckFault) → Stands ds g → Anywhere g
    stands_back g (in_names n) = inl n
    stands_back g (in_modes m) = inr (inl m)
    stands_back g (in_bricks b) = inr (inr (inl b))
    stands_back g (inside i) = inr (inr (inr i))

    all_least : HasLeast (Stands ds)
    all_least = least_as stands_there stands_back (
        least_either (least_in (name_faults ds)) (
        least_either (modes_least (modes_seen ds) ds) (
        least_either (least_in (brick_faults (modes_seen ds) ds)) (
        least_somewhere (λ g h d. Inside (sight ds) (records ds) g h d) (headings ds) ds (λ h d. inside_least (sight ds) (records ds) h d)
        )
        )
        )
        )

  pub each_module : EachModule
  each_module m = elim (all_least m.declarations) [ inl a ↦ inr (a.0, a.1) | inr none ↦ inl (tree m, record { fit = none; is = refl }) ]

pub one_fault : OneFault
one_fault ds g h a b = one_place g h a b
