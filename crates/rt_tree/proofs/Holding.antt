-- What contents that suit a mode hold along a path.
use Rattle.std.proofs.Common.{◌≡◌, ℕ, zero, suc, ◌<◌, nat_lt, Bool, true, false, if◌then◌else◌, List, [], ◌∷◌, Option, Some, None, length, slice_get, refl, sym, ap, ◌∙◌, subst, arith}
use Rattle.std.proofs.lemmas.Bool.Decides.{nat_tests}
use Rattle.rt_modes.specs.declared.mode.Field.{Field}
use Rattle.rt_modes.specs.declared.mode.Mode.{Mode, out-Mode}
use Rattle.rt_modes.specs.declared.mode.Mode.TheOpen.{Mode-F}
use Rattle.rt_modes.specs.declared.mode.ModeTable.{ModeTable}
use Rattle.rt_modes.specs.declared.mode.RecordDef.{RecordDef}
use Rattle.rt_tree_nodes.specs.declared.store.Contents.{Contents, out-Contents, the_lemmas}
use Rattle.rt_tree_nodes.specs.declared.store.Contents.TheOpen.{Contents-F}
use Rattle.rt_tree_nodes.specs.declared.store.Contents.TheVariants as contents
use Rattle.rt_tree_nodes.specs.declared.store.Datum.{Datum}
use Rattle.rt_tree.specs.Modules.{mode_along, part_mode}
use Rattle.rt_tree_nodes.specs.Scopes.{with, field_at}
use Rattle.rt_tree.specs.Stored as s
use Rattle.rt_tree.specs.Stored.{System, Suits, Holds, HoldAll, HoldEach, HoldsInside, HoldsWritten, part, part_of, inside, change_found, changed, with_datum, with_part, written}

-- modes of one layer have the same layer
one_layer : (m : Mode) (k l : Mode-F Mode) → out-Mode m ≡ k → out-Mode m ≡ l → k ≡ l
one_layer m k l e h = sym e ∙ h

-- a value is no record and no array
no_record : {ps : System} {t : ModeTable} {m : Mode} {d : Datum} (r : ℕ) → out-Mode m ≡ Mode-F.Record r → Suits ps t m d → ⊥
no_record r o (s.byte e l) = cc
no_record r o (s.int e l) = cc
no_record r o (s.frac e l) = cc
no_record r o (s.unset e) = cc
no_record r o (s.reference e a f) = cc
no_record r o (s.row e a h f) = cc
no_record r o (s.procedure e c) = cc

no_array : {ps : System} {t : ModeTable} {m : Mode} {d : Datum} (n : ℕ) (w : Mode) → out-Mode m ≡ Mode-F.Array n w → Suits ps t m d → ⊥
no_array n w o (s.byte e l) = cc
no_array n w o (s.int e l) = cc
no_array n w o (s.frac e l) = cc
no_array n w o (s.unset e) = cc
no_array n w o (s.reference e a f) = cc
no_array n w o (s.row e a h f) = cc
no_array n w o (s.procedure e c) = cc

abbrev Found : System → ModeTable → Mode → Option Contents → Type 0
Found ps t w o = (d : Contents) × (o ≡ Some d) × Holds ps t w d

element : {ps : System} {t : ModeTable} {w : Mode} {cs : List Contents} → HoldAll ps t w cs → (k : ℕ) → k < length cs → Found ps t w (slice_get cs k)
element s.no_element k l = absurd (grind arith)
element (s.one_element {c = c} h hs) zero l = (c, refl, h)
element (s.one_element h hs) (suc k) l = element hs k (grind arith)

of_first : {ps : System} {t : ModeTable} {m w : Mode} {c : Contents} → Some m ≡ Some w → Holds ps t m c → Holds ps t w c
of_first {ps} {t} {m} {w} {c} e h = let same : m ≡ w = cc in subst (λ (v : Mode). Holds ps t v c) same h

field : {ps : System} {t : ModeTable} {fs : List Field} {cs : List Contents} → HoldEach ps t fs cs → (k : ℕ) (w : Mode) → field_at fs k ≡ Some w → Found ps t w (slice_get cs k)
field s.no_field k w e = absurd cc
field (s.one_field {c = c} h hs) zero w e = (c, refl, of_first e h)
field (s.one_field h hs) (suc k) w e = field hs k w e

moved : {ps : System} {t : ModeTable} {v w : Mode} {a b : Option Contents} → v ≡ w → a ≡ b → Found ps t v a → Found ps t w b
moved {ps} {t} {v} {w} {a} {b} e h f = subst (λ (o : Option Contents). Found ps t w o) h (subst (λ (m : Mode). Found ps t m a) e f)

chosen : (b : Bool) (u w : Mode) → (if b then Some u else None) ≡ Some w → (b ≡ true) × (u ≡ w)
chosen true u w e = (refl, cc)
chosen false u w e = absurd cc

below : (k n : ℕ) → nat_lt k n ≡ true → k < n
below k n e = grind (arith, nat_tests)

in_opened : (k : ℕ) (w : Mode) (d : RecordDef) (o : Option RecordDef) → o ≡ Some d → with o (λ r. field_at r.fields k) ≡ Some w → field_at d.fields k ≡ Some w
in_opened k w d o e f = let same : with (Some d) (λ r. field_at r.fields k) ≡ Some w = subst (λ (x : Option RecordDef). with x (λ r. field_at r.fields k) ≡ Some w) e f in same

-- the mode of a part, and the part that is there
part_holds : {ps : System} {t : ModeTable} {m : Mode} {c : Contents} → Holds ps t m c → (k : ℕ) (w : Mode) (l : Mode-F Mode) → out-Mode m ≡ l → part_mode t.records k l ≡ Some w → Found ps t w (part c k)
part_holds (s.one o d) k w (Mode-F.Record r) e f = absurd (no_record r e d)
part_holds (s.one o d) k w (Mode-F.Array n v) e f = absurd (no_array n v e d)
part_holds {c = c} (s.of_array {w = v} {cs = cs} o p hs) k w (Mode-F.Array n u) e f =
    let layers : Mode-F.Array (length cs) v ≡ Mode-F.Array n u = sym o ∙ e in
    let count : n ≡ length cs = cc in
    let of : v ≡ u = cc in
    let found : (nat_lt k n ≡ true) × (u ≡ w) = chosen (nat_lt k n) u w f in
    moved (of ∙ found.1) (sym (ap (λ x. part_of x k) p)) (element hs k (subst (λ (x : ℕ). k < x) count (below k n found.0)))
part_holds (s.of_array o p hs) k w (Mode-F.Record r) e f = absurd cc
part_holds {t = t} {c = c} (s.of_record {r = j} {d = d} {cs = cs} o g p hs) k w (Mode-F.Record r) e f =
    let layers : Mode-F.Record j ≡ Mode-F.Record r = sym o ∙ e in
    let number : r ≡ j = cc in
    moved refl (sym (ap (λ x. part_of x k) p)) (field hs k w (in_opened k w d (slice_get t.records r) (ap (λ x. slice_get t.records x) number ∙ g) f))
part_holds (s.of_record o d p hs) k w (Mode-F.Array n u) e f = absurd cc
part_holds h k w _ e f = absurd cc

onward : {ps : System} {t : ModeTable} (path : List ℕ) (w : Mode) (c : Contents) (k : ℕ) (o : Option Mode) → with o (mode_along t.records path) ≡ Some w
    → ((v : Mode) → o ≡ Some v → Found ps t v (part c k))
    → ((v : Mode) (d : Contents) → Holds ps t v d → mode_along t.records path v ≡ Some w → Found ps t w (inside (Some d) path)) → Found ps t w (inside (Some c) (k ∷ path))
onward path w c k None e f go = absurd cc
onward path w c k (Some v) e f go =
    let there : Found _ _ v (part c k) = f v refl in
    moved refl (sym (ap (λ x. inside x path) there.1)) (go v there.0 there.2 e)

along : {ps : System} {t : ModeTable} (path : List ℕ) (m w : Mode) (c : Contents) → Holds ps t m c → mode_along t.records path m ≡ Some w → Found ps t w (inside (Some c) path)
along [] m w c h e = (c, refl, of_first e h)
along {t = t} (k ∷ path) m w c h e = onward path w c k (part_mode t.records k (out-Mode m)) e (λ v q. part_holds h k v (out-Mode m) refl q) (λ v d g q. along path v w d g q)

pub holds_inside : HoldsInside
holds_inside ps t m w c path h e = along path m w c h e

-- ---- writing

datum_out : (d : Datum) → out-Contents (contents.Datum d) ≡ Contents-F.Datum d
datum_out d = search the_lemmas

parts_out : (cs : List Contents) → out-Contents (contents.Parts cs) ≡ Contents-F.Parts cs
parts_out cs = search the_lemmas

-- a datum instead of another one
datum_holds : {ps : System} {t : ModeTable} {m : Mode} {c : Contents} {d : Datum} → Holds ps t m c → Suits ps t m d → (l : Contents-F Contents) → out-Contents c ≡ l → Holds ps t m (with_datum d l)
datum_holds {d = d} (s.one o e) g (Contents-F.Datum old) h = s.one (datum_out d) g
datum_holds (s.one o e) g (Contents-F.Parts cs) h = absurd cc
datum_holds (s.of_array o p hs) g l h = absurd (no_array _ _ o g)
datum_holds (s.of_record o r p hs) g l h = absurd (no_record _ o g)

tail_by : {A : Type 0} (x : A) (xs : List A) (k : ℕ) (f : A → A) (o : Option A) → change_found o (x ∷ xs) (suc k) f ≡ x ∷ change_found o xs k f
tail_by x xs k f None = refl
tail_by x xs k f (Some y) = refl

changed_tail : {A : Type 0} (x : A) (xs : List A) (k : ℕ) (f : A → A) → changed (x ∷ xs) (suc k) f ≡ x ∷ changed xs k f
changed_tail x xs k f = tail_by x xs k f (slice_get xs k)

same_length : {A : Type 0} (xs : List A) (k : ℕ) (f : A → A) → length (changed xs k f) ≡ length xs
same_length [] k f = refl
same_length (x ∷ xs) zero f = refl
same_length (x ∷ xs) (suc k) f = rw (changed_tail x xs k f, same_length xs k f) refl

-- what is known of a part in the mode that it has, and of the changed part
abbrev Keeps : System → ModeTable → Mode → (Contents → Contents) → Type 0
Keeps ps t w f = (c : Contents) → Holds ps t w c → Holds ps t w (f c)

all_changed : {ps : System} {t : ModeTable} {w : Mode} {cs : List Contents} → HoldAll ps t w cs → (k : ℕ) (f : Contents → Contents) → Keeps ps t w f → HoldAll ps t w (changed cs k f)
all_changed s.no_element k f g = s.no_element
all_changed (s.one_element h hs) zero f g = s.one_element (g _ h) hs
all_changed {ps} {t} {w} (s.one_element {c = c} {cs = cs} h hs) (suc k) f g = subst (λ xs. HoldAll ps t w xs) (sym (changed_tail c cs k f)) (s.one_element h (all_changed hs k f g))

each_changed : {ps : System} {t : ModeTable} {fs : List Field} {cs : List Contents} → HoldEach ps t fs cs → (k : ℕ) (w : Mode) (f : Contents → Contents) → field_at fs k ≡ Some w → Keeps ps t w f
    → HoldEach ps t fs (changed cs k f)
each_changed s.no_field k w f e g = s.no_field
each_changed {ps} {t} (s.one_field {f = x} {c = c} h hs) zero w f e g =
    let same : x.mode ≡ w = cc in
    s.one_field (subst (λ (v : Mode). Holds ps t v (f c)) (sym same) (g c (subst (λ (v : Mode). Holds ps t v c) same h))) hs
each_changed {ps} {t} (s.one_field {f = x} {fs = fs} {c = c} {cs = cs} h hs) (suc k) w f e g = subst (λ xs. HoldEach ps t (x ∷ fs) xs) (sym (changed_tail c cs k f)) (s.one_field h (each_changed hs k w f e g))

-- contents with one part changed
part_changed : {ps : System} {t : ModeTable} {m : Mode} {c : Contents} → Holds ps t m c → (k : ℕ) (w : Mode) (f : Contents → Contents) (l : Mode-F Mode) → out-Mode m ≡ l → part_mode t.records k l ≡ Some w
    → Keeps ps t w f → Holds ps t m (with_part k f (out-Contents c))
part_changed (s.one o d) k w f (Mode-F.Record r) e q g = absurd (no_record r e d)
part_changed (s.one o d) k w f (Mode-F.Array n v) e q g = absurd (no_array n v e d)
part_changed {ps} {t} {m} (s.of_array {w = v} {cs = cs} o p hs) k w f (Mode-F.Array n u) e q g =
    let layers : Mode-F.Array (length cs) v ≡ Mode-F.Array n u = sym o ∙ e in
    let of : u ≡ v = cc in
    let found : (nat_lt k n ≡ true) × (u ≡ w) = chosen (nat_lt k n) u w q in
    let kept : Keeps ps t v f = subst (λ (x : Mode). Keeps ps t x f) (sym found.1 ∙ of) g in
    let parts : Holds ps t m (contents.Parts (changed cs k f)) = s.of_array (o ∙ ap (λ (n : ℕ). Mode-F.Array n v) (sym (same_length cs k f))) (parts_out (changed cs k f)) (all_changed hs k f kept) in
    subst (λ (x : Contents-F Contents). Holds ps t m (with_part k f x)) (sym p) parts
part_changed (s.of_array o p hs) k w f (Mode-F.Record r) e q g = absurd cc
part_changed {ps} {t} {m} (s.of_record {r = j} {d = d} {cs = cs} o r p hs) k w f (Mode-F.Record i) e q g =
    let layers : Mode-F.Record j ≡ Mode-F.Record i = sym o ∙ e in
    let number : i ≡ j = cc in
    let of : field_at d.fields k ≡ Some w = in_opened k w d (slice_get t.records i) (ap (λ x. slice_get t.records x) number ∙ r) q in
    let parts : Holds ps t m (contents.Parts (changed cs k f)) = s.of_record o r (parts_out (changed cs k f)) (each_changed hs k w f of g) in
    subst (λ (x : Contents-F Contents). Holds ps t m (with_part k f x)) (sym p) parts
part_changed (s.of_record o r p hs) k w f (Mode-F.Array n u) e q g = absurd cc
part_changed h k w f _ e q g = absurd cc

next_changed : {ps : System} {t : ModeTable} (path : List ℕ) (d : Datum) (w : Mode) (c : Contents) (m : Mode) (k : ℕ) (o : Option Mode) → with o (mode_along t.records path) ≡ Some w
    → ((v : Mode) → o ≡ Some v → Keeps ps t v (λ x. written path d x) → Holds ps t m (with_part k (λ x. written path d x) (out-Contents c)))
    → ((v : Mode) → mode_along t.records path v ≡ Some w → Keeps ps t v (λ x. written path d x)) → Holds ps t m (with_part k (λ x. written path d x) (out-Contents c))
next_changed path d w c m k None e f go = absurd cc
next_changed path d w c m k (Some v) e f go = f v refl (go v e)

put : {ps : System} {t : ModeTable} (path : List ℕ) (m w : Mode) (c : Contents) (d : Datum) → Holds ps t m c → mode_along t.records path m ≡ Some w → Suits ps t w d → Holds ps t m (written path d c)
put {ps} {t} [] m w c d h e g = let same : w ≡ m = cc in datum_holds h (subst (λ (v : Mode). Suits ps t v d) same g) (out-Contents c) refl
put {t = t} (k ∷ path) m w c d h e g =
    next_changed path d w c m k (part_mode t.records k (out-Mode m)) e (λ v q kept. part_changed h k v (λ x. written path d x) (out-Mode m) refl q kept) (λ v q x hx. put path v w x d hx q g)

pub holds_written : HoldsWritten
holds_written ps t m w c path d h e g = put path m w c d h e g
