-- A typed store stays typed where a value that suits its place is written; so does a task's own data.
use Rattle.std.proofs.Common.{◌≡◌, ◌≢◌, ◌⊎◌, inl, inr, ℕ, zero, suc, ◌==◌, Bool, true, false, List, ◌∷◌, Option, Some, None, option_map, slice_get, slice_set, refl, sym, ap, ◌∙◌, subst, arith}
use Rattle.std.proofs.lemmas.Bool.Decides.{nat_tests}
use Rattle.rt_modes.specs.declared.mode.Field.{Field}
use Rattle.rt_modes.specs.declared.mode.Mode.{Mode}
use Rattle.rt_modes.specs.declared.mode.ModeTable.{ModeTable}
use Rattle.rt_tree_nodes.specs.declared.brick.Brick.{Brick as BrickNode}
use Rattle.rt_tree_nodes.specs.declared.brick.BrickSort.TheVariants as sort
use Rattle.rt_tree_nodes.specs.declared.brick.DataStart.{DataStart}
use Rattle.rt_tree_nodes.specs.declared.brick.ModuleParts.{ModuleParts}
use Rattle.rt_tree_nodes.specs.declared.store.Contents.{Contents, out-Contents, the_lemmas}
use Rattle.rt_tree_nodes.specs.declared.store.Contents.TheOpen.{Contents-F}
use Rattle.rt_tree_nodes.specs.declared.store.Contents.TheVariants as contents
use Rattle.rt_tree_nodes.specs.declared.store.Datum.{Datum}
use Rattle.rt_tree_nodes.specs.declared.store.Datum.TheVariants.{Word, Procedure}
use Rattle.rt_tree_nodes.specs.declared.store.Location.{Location}
use Rattle.rt_tree_nodes.specs.declared.store.Location.TheVariants as location
use Rattle.rt_tree_nodes.specs.declared.store.Origin.{Origin}
use Rattle.rt_tree_nodes.specs.declared.store.Origin.TheVariants.{Brick, Text}
use Rattle.rt_tree_nodes.specs.Scopes.{field_at}
use Rattle.rt_tree.specs.Modules.{mode_along}
use Rattle.rt_tree.specs.Stored as s
use Rattle.rt_tree.specs.Stored.{System, HasBrick, StandsAt, Suits, Holds, HoldEach, Typed, TypedOwn, IsCandidate, change_found, changed, with_part, written, HoldsWritten}
use Rattle.rt_work_state.specs.declared.store.ModuleStore.{ModuleStore}
use Rattle.rt_work_state.specs.Stores.{Store, numbered, brick_in, text_in, origin_in, changed_number, module_written, write}
use Rattle.rt_meaning_laws.specs.Slots.{IsInt, IsOwn, IsOf}
use Rattle.rt_meaning_laws.specs.Slots as slots
use Rattle.rt_meaning_laws.specs.Tasks.{TypedStore}
use Rattle.rt_meaning_laws.proofs.Modes.{int_is_word, is_a_word, is_a_procedure}
use Rattle.rt_meaning_laws.proofs.Locals.{get_other, get_set}
use Rattle.rt_meaning_laws.proofs.Small.{some_same}

-- ---- what a write leaves at each origin

found_same : {A : Type 0} (o : Option A) (xs : List A) (k : ℕ) (f : A → A) → slice_get xs k ≡ o → slice_get (change_found o xs k f) k ≡ option_map f o
found_same None xs k f e = e
found_same (Some x) xs k f e = get_set xs k x (f x) e

changed_same : {A : Type 0} (xs : List A) (k : ℕ) (f : A → A) → slice_get (changed xs k f) k ≡ option_map f (slice_get xs k)
changed_same xs k f = found_same (slice_get xs k) xs k f refl

found_other : {A : Type 0} (o : Option A) (xs : List A) (k j : ℕ) (f : A → A) → k ≢ j → slice_get (change_found o xs k f) j ≡ slice_get xs j
found_other None xs k j f h = refl
found_other (Some x) xs k j f h = get_other xs k j (f x) h

changed_other : {A : Type 0} (xs : List A) (k j : ℕ) (f : A → A) → k ≢ j → slice_get (changed xs k f) j ≡ slice_get xs j
changed_other xs k j f h = found_other (slice_get xs k) xs k j f h

number_same : {A : Type 0} (xs : List A) (m : ℕ) (f : A → A) → numbered (changed_number xs m f) m ≡ option_map f (numbered xs m)
number_same xs zero f = refl
number_same xs (suc m) f = changed_same xs m f

number_other : {A : Type 0} (xs : List A) (m n : ℕ) (f : A → A) → m ≢ n → numbered (changed_number xs m f) n ≡ numbered xs n
number_other xs zero n f h = refl
number_other xs (suc m) zero f h = refl
number_other xs (suc m) (suc n) f h = changed_other xs m n f (λ e. h (ap suc e))

-- a number is another one or not
decide : (m n : ℕ) → (m ≡ n) ⊎ (m ≢ n)
decide m n = by_test (m == n) refl
  where
    by_test : (c : Bool) → (m == n) ≡ c → (m ≡ n) ⊎ (m ≢ n)
    by_test true e = inl (grind (arith, nat_tests))
    by_test false e = inr (λ q. grind (arith, nat_tests))

module _ (S : Store) (path : List ℕ) (d : Datum) where
  After : Origin → Origin → Type 0
  After o r = (origin_in (write S (location.Shared o path) d) r ≡ origin_in S r) ⊎ ((o ≡ r) × (origin_in (write S (location.Shared o path) d) r ≡ option_map (λ c. written path d c) (origin_in S r)))

  in_bricks : (m b c : ℕ) (o : Option ModuleStore)
      → (brick_in (option_map (λ y. module_written (Brick m b) path d y) o) c ≡ brick_in o c) ⊎ ((b ≡ c) × (brick_in (option_map (λ y. module_written (Brick m b) path d y) o) c ≡ option_map (λ y. written path d y) (brick_in o c)))
  in_bricks m b c None = inl refl
  in_bricks m b c (Some y) = elim (decide b c) [
    | inl e ↦ inr (e, ap (λ (k : ℕ). slice_get (changed y.bricks b (λ z. written path d z)) k) (sym e) ∙ changed_same y.bricks b (λ z. written path d z) ∙ ap (λ (k : ℕ). option_map (λ z. written path d z) (slice_get y.bricks k)) e)
    | inr e ↦ inl (changed_other y.bricks b c (λ z. written path d z) e)
  ]

  in_texts : (m b c : ℕ) (o : Option ModuleStore)
      → (text_in (option_map (λ y. module_written (Text m b) path d y) o) c ≡ text_in o c) ⊎ ((b ≡ c) × (text_in (option_map (λ y. module_written (Text m b) path d y) o) c ≡ option_map (λ y. written path d y) (text_in o c)))
  in_texts m b c None = inl refl
  in_texts m b c (Some y) = elim (decide b c) [
    | inl e ↦ inr (e, ap (λ (k : ℕ). slice_get (changed y.texts b (λ z. written path d z)) k) (sym e) ∙ changed_same y.texts b (λ z. written path d z) ∙ ap (λ (k : ℕ). option_map (λ z. written path d z) (slice_get y.texts k)) e)
    | inr e ↦ inl (changed_other y.texts b c (λ z. written path d z) e)
  ]

  bricks_by_text : (m b c : ℕ) (o : Option ModuleStore) → brick_in (option_map (λ y. module_written (Text m b) path d y) o) c ≡ brick_in o c
  bricks_by_text m b c None = refl
  bricks_by_text m b c (Some y) = refl

  texts_by_brick : (m b c : ℕ) (o : Option ModuleStore) → text_in (option_map (λ y. module_written (Brick m b) path d y) o) c ≡ text_in o c
  texts_by_brick m b c None = refl
  texts_by_brick m b c (Some y) = refl

  after : (o r : Origin) → After o r
  unfolding After
  after (Brick m b) (Brick n c) = elim (decide m n) [
    | inr e ↦ inl (ap (λ (y : Option ModuleStore). brick_in y c) (number_other S m n _ e))
    | inl e ↦ subst (λ (k : ℕ). After (Brick m b) (Brick k c)) e (elim (in_bricks m b c (numbered S m)) [
      | inl h ↦ inl (ap (λ (y : Option ModuleStore). brick_in y c) (number_same S m _) ∙ h)
      | inr h ↦ inr (ap (λ (k : ℕ). Brick m k) h.0, ap (λ (y : Option ModuleStore). brick_in y c) (number_same S m _) ∙ h.1)
    ])
  ]
  after (Text m b) (Text n c) = elim (decide m n) [
    | inr e ↦ inl (ap (λ (y : Option ModuleStore). text_in y c) (number_other S m n _ e))
    | inl e ↦ subst (λ (k : ℕ). After (Text m b) (Text k c)) e (elim (in_texts m b c (numbered S m)) [
      | inl h ↦ inl (ap (λ (y : Option ModuleStore). text_in y c) (number_same S m _) ∙ h)
      | inr h ↦ inr (ap (λ (k : ℕ). Text m k) h.0, ap (λ (y : Option ModuleStore). text_in y c) (number_same S m _) ∙ h.1)
    ])
  ]
  after (Brick m b) (Text n c) = elim (decide m n) [
    | inr e ↦ inl (ap (λ (y : Option ModuleStore). text_in y c) (number_other S m n _ e))
    | inl e ↦ subst (λ (k : ℕ). After (Brick m b) (Text k c)) e (inl (ap (λ (y : Option ModuleStore). text_in y c) (number_same S m _) ∙ texts_by_brick m b c (numbered S m)))
  ]
  after (Text m b) (Brick n c) = elim (decide m n) [
    | inr e ↦ inl (ap (λ (y : Option ModuleStore). brick_in y c) (number_other S m n _ e))
    | inl e ↦ subst (λ (k : ℕ). After (Text m b) (Brick k c)) e (inl (ap (λ (y : Option ModuleStore). brick_in y c) (number_same S m _) ∙ bricks_by_text m b c (numbered S m)))
  ]

-- ---- the items of a brick

tail_by : {A : Type 0} (x : A) (xs : List A) (k : ℕ) (f : A → A) (o : Option A) → change_found o (x ∷ xs) (suc k) f ≡ x ∷ change_found o xs k f
tail_by x xs k f None = refl
tail_by x xs k f (Some y) = refl

pub parts_out : (cs : List Contents) → out-Contents (contents.Parts cs) ≡ Contents-F.Parts cs
parts_out cs = search the_lemmas

items_changed : HoldsWritten → {ps : System} {t : ModeTable} {fs : List Field} {cs : List Contents} → HoldEach ps t fs cs → (k : ℕ) (v w : Mode) (path : List ℕ) (d : Datum) → field_at fs k ≡ Some v → mode_along t.records path v ≡ Some w → Suits ps t w d
    → HoldEach ps t fs (changed cs k (λ c. written path d c))
items_changed holds_written s.no_field k v w path d e a h = absurd cc
items_changed holds_written {ps} {t} (s.one_field {f = f} {c = c} g gs) zero v w path d e a h =
    let same : v ≡ f.mode = cc in
    s.one_field (holds_written ps t f.mode w c path d g (ap (λ (m : Mode). mode_along t.records path m) (sym same) ∙ a) h) gs
items_changed holds_written {ps} {t} (s.one_field {f = f} {fs = fs} {c = c} {cs = cs} g gs) (suc k) v w path d e a h =
    subst (λ (xs : List Contents). HoldEach ps t (f ∷ fs) xs) (sym (tail_by c cs k (λ c. written path d c) (slice_get cs k))) (s.one_field g (items_changed holds_written gs k v w path d e a h))

-- ---- stores

abbrev BrickHolds : (ps : System) (S : Store) (m b : ℕ) (p : ModuleParts) (fs : List Field) → Type 0
BrickHolds ps S m b p fs = (c : Contents) × (cs : List Contents) × (origin_in S (Brick m b) ≡ Some c) × (out-Contents c ≡ Contents-F.Parts cs) × HoldEach ps p.modes fs cs

-- the brick in which was written
same_brick : HoldsWritten → (ps : System) (S : Store) (m b j : ℕ) (path : List ℕ) (p : ModuleParts) (fs gs : List Field) (v w : Mode) (d : Datum) → fs ≡ gs → field_at fs j ≡ Some v → mode_along p.modes.records path v ≡ Some w → Suits ps p.modes w d → BrickHolds ps S m b p gs
    → origin_in (write S (location.Shared (Brick m b) (j ∷ path)) d) (Brick m b) ≡ option_map (λ c. written (j ∷ path) d c) (origin_in S (Brick m b)) → BrickHolds ps (write S (location.Shared (Brick m b) (j ∷ path)) d) m b p gs
same_brick holds_written ps S m b j path p fs gs v w d e f a h old q =
    let cs : List Contents = changed old.1 j (λ c. written path d c) in (
      written (j ∷ path) d old.0,
      cs,
      q ∙ ap (λ (o : Option Contents). option_map (λ c. written (j ∷ path) d c) o) old.2,
      ap (λ (l : Contents-F Contents). out-Contents (with_part j (λ c. written path d c) l)) old.3 ∙ parts_out cs,
      items_changed holds_written old.4 j v w path d (ap (λ (xs : List Field). field_at xs j) (sym e) ∙ f) a h,
    )

data_same : (fs gs : List Field) (ss ts : List DataStart) → sort.Data fs ss ≡ sort.Data gs ts → fs ≡ gs
data_same fs gs ss ts e = cc

bricks_same : (m b n c : ℕ) → Brick m b ≡ Brick n c → (m ≡ n) × (b ≡ c)
bricks_same m b n c e = (cc, cc)

texts_same : (m b n c : ℕ) → Text m b ≡ Text n c → (m ≡ n) × (b ≡ c)
texts_same m b n c e = (cc, cc)

-- each brick after a write into one
brick_kept : HoldsWritten → {ps : System} (m b j : ℕ) (path : List ℕ) {p : ModuleParts} {e : BrickNode} {fs : List Field} {ss : List DataStart} {v w : Mode} (S : Store) (d : Datum) → HasBrick ps m b p e → e.sort ≡ sort.Data fs ss → field_at fs j ≡ Some v
    → mode_along p.modes.records path v ≡ Some w → Suits ps p.modes w d → {n c : ℕ} {q : ModuleParts} {e2 : BrickNode} {gs : List Field} {ts : List DataStart} → HasBrick ps n c q e2 → e2.sort ≡ sort.Data gs ts → BrickHolds ps S n c q gs
    → After S (j ∷ path) d (Brick m b) (Brick n c) → BrickHolds ps (write S (location.Shared (Brick m b) (j ∷ path)) d) n c q gs
unfolding After
brick_kept holds_written m b j path S d h so f a hs h2 so2 old (inl k) = (old.0, old.1, k ∙ old.2, old.3, old.4)
brick_kept holds_written {ps} m b j path {p} {e} {fs} {ss} {v} {w} S d h so f a hs {n} {c} {q} {e2} {gs} {ts} h2 so2 old (inr k) =
    let num = bricks_same m b n c k.0 in
    let one : p ≡ q = some_same p q (s.module_of ps n) (ap (s.module_of ps) (sym num.0) ∙ h.of) h2.of in
    let two : e ≡ e2 = some_same e e2 (slice_get q.bricks c) (ap (λ (x : ModuleParts). slice_get x.bricks c) (sym one) ∙ ap (λ (i : ℕ). slice_get p.bricks i) (sym num.1) ∙ h.at) h2.at in
    let three : fs ≡ gs = data_same fs gs ss ts (sym so ∙ ap (λ (x : BrickNode). x.sort) two ∙ so2) in
    subst (λ (o : Origin). BrickHolds ps (write S (location.Shared o (j ∷ path)) d) n c q gs) (sym k.0)
    (same_brick holds_written ps S n c j path q fs gs v w d three f (ap (λ (x : ModuleParts). mode_along x.modes.records path v) (sym one) ∙ a) (subst (λ (x : ModuleParts). Suits ps x.modes w d) one hs) old
    (subst (λ (o : Origin). origin_in (write S (location.Shared o (j ∷ path)) d) (Brick n c) ≡ option_map (λ y. written (j ∷ path) d y) (origin_in S (Brick n c))) k.0 k.1))

abbrev TextHolds : (ps : System) (S : Store) (m k : ℕ) (p : ModuleParts) (text : List ℕ) → Type 0
TextHolds ps S m k p text = (c : Contents) × (origin_in S (Text m k) ≡ Some c) × Holds ps p.modes (s.text_mode text) c

-- each string after a write into one
text_kept : HoldsWritten → {ps : System} (m b : ℕ) (path : List ℕ) {p : ModuleParts} {text : List ℕ} {w : Mode} (S : Store) (d : Datum) → s.module_of ps m ≡ Some p → slice_get p.strings b ≡ Some text → mode_along p.modes.records path (s.text_mode text) ≡ Some w → Suits ps p.modes w d
    → (n c : ℕ) {q : ModuleParts} {other : List ℕ} → s.module_of ps n ≡ Some q → slice_get q.strings c ≡ Some other → TextHolds ps S n c q other → After S path d (Text m b) (Text n c) → TextHolds ps (write S (location.Shared (Text m b) path) d) n c q other
unfolding After
text_kept holds_written m b path S d h g a hs n c h2 g2 old (inl k) = (old.0, k ∙ old.1, old.2)
text_kept holds_written {ps} m b path {p} {text} {w} S d h g a hs n c {q} {other} h2 g2 old (inr k) =
    let num = texts_same m b n c k.0 in
    let one : p ≡ q = some_same p q (s.module_of ps n) (ap (s.module_of ps) (sym num.0) ∙ h) h2 in
    let two : text ≡ other = some_same text other (slice_get q.strings c) (ap (λ (x : ModuleParts). slice_get x.strings c) (sym one) ∙ ap (λ (i : ℕ). slice_get p.strings i) (sym num.1) ∙ g) g2 in
    let along : mode_along q.modes.records path (s.text_mode other) ≡ Some w = ap (λ (z : List ℕ). mode_along q.modes.records path (s.text_mode z)) (sym two) ∙ ap (λ (x : ModuleParts). mode_along x.modes.records path (s.text_mode text)) (sym one) ∙ a in (
      written path d old.0,
      k.1 ∙ ap (λ (o : Option Contents). option_map (λ y. written path d y) o) old.1,
      holds_written ps q.modes (s.text_mode other) w old.0 path d old.2 along (subst (λ (x : ModuleParts). Suits ps x.modes w d) one hs),
    )

other_text : (S : Store) (path : List ℕ) (d : Datum) (m b n c : ℕ) → After S path d (Brick m b) (Text n c) → origin_in (write S (location.Shared (Brick m b) path) d) (Text n c) ≡ origin_in S (Text n c)
unfolding After
other_text S path d m b n c (inl h) = h
other_text S path d m b n c (inr h) = absurd cc

other_brick : (S : Store) (path : List ℕ) (d : Datum) (m b n c : ℕ) → After S path d (Text m b) (Brick n c) → origin_in (write S (location.Shared (Text m b) path) d) (Brick n c) ≡ origin_in S (Brick n c)
unfolding After
other_brick S path d m b n c (inl h) = h
other_brick S path d m b n c (inr h) = absurd cc

pub typed_written : HoldsWritten → {ps : System} {l : Location} {u : ModeTable} {w : Mode} → StandsAt ps l u w → (S : Store) (d : Datum) → TypedStore ps S → Suits ps u w d → TypedStore ps (write S l d)
typed_written holds_written {ps} (s.in_brick {m = m} {b = b} {j = j} {path = path} {p = p} h is so f a) S d g hs = record {
  bricks = λ {m = n} {b = c} {p = q} {d = e2} {fs = gs} {ss = ts} h2 is2 so2. brick_kept holds_written m b j path S d h so f a hs h2 so2 (g.bricks h2 is2 so2) (after S (j ∷ path) d (Brick m b) (Brick n c));
  texts = λ {m = n} {k = k} {p = q} {s = text} h2 g2. let old = g.texts h2 g2 in (old.0, other_text S (j ∷ path) d m b n k (after S (j ∷ path) d (Brick m b) (Text n k)) ∙ old.1, old.2);
}
typed_written holds_written {ps} (s.in_text {m = m} {k = b} {path = path} h e a) S d g hs = record {
  bricks = λ {m = n} {b = c} {p = q} {d = e2} {fs = gs} {ss = ts} h2 is2 so2. let old = g.bricks h2 is2 so2 in (old.0, old.1, other_brick S path d m b n c (after S path d (Text m b) (Brick n c)) ∙ old.2, old.3, old.4);
  texts = λ {m = n} {k = k} {p = q} {s = text} h2 g2. text_kept holds_written m b path S d h e a hs n k h2 g2 (g.texts h2 g2) (after S path d (Text m b) (Text n k));
}

-- ---- a task's own data

one : {A : Type 0} (xs : List A) (i j : ℕ) (d : A) (o : Option A) → i ≢ j → slice_get xs j ≡ o → slice_get (slice_set xs i d) j ≡ o
one xs i j d o h e = get_other xs i j d h ∙ e

pub own_written : (ps : System) (t : ModeTable) (own : List Datum) (k : ℕ) (m : Mode) (d : Datum) → TypedOwn ps own → IsOwn t k m → Suits ps t m d → TypedOwn ps (slice_set own k d)
own_written ps t own _ m d g (slots.ern e) h =
    let n = is_a_word h (int_is_word m e) in
    record {
      erl = one own 1 0 d (Some (Word 0)) (λ q. absurd cc) g.erl;
      ern = (n.0, n.2, get_set own 1 (Word g.ern.0) d g.ern.2 ∙ ap (λ (z : Datum). Some z) n.1);
      erp = (g.erp.0, g.erp.1, one own 1 2 d (Some (Procedure g.erp.0)) (λ q. absurd cc) g.erp.2);
      input = (g.input.0, g.input.1, one own 1 3 d (Some (Procedure g.input.0)) (λ q. absurd cc) g.input.2);
      output = (g.output.0, g.output.1, one own 1 4 d (Some (Procedure g.output.0)) (λ q. absurd cc) g.output.2);
    }
own_written ps t own _ m d g (slots.erp {ws = ws} {r = r} e f) h =
    let n = is_a_procedure h ws r e in
    record {
      erl = one own 2 0 d (Some (Word 0)) (λ q. absurd cc) g.erl;
      ern = (g.ern.0, g.ern.1, one own 2 1 d (Some (Word g.ern.0)) (λ q. absurd cc) g.ern.2);
      erp = (n.0, subst (λ (z : List ℕ). IsCandidate ps z n.0) f n.2, get_set own 2 (Procedure g.erp.0) d g.erp.2 ∙ ap (λ (z : Datum). Some z) n.1);
      input = (g.input.0, g.input.1, one own 2 3 d (Some (Procedure g.input.0)) (λ q. absurd cc) g.input.2);
      output = (g.output.0, g.output.1, one own 2 4 d (Some (Procedure g.output.0)) (λ q. absurd cc) g.output.2);
    }
own_written ps t own _ m d g (slots.input {ws = ws} {r = r} e f) h =
    let n = is_a_procedure h ws r e in
    record {
      erl = one own 3 0 d (Some (Word 0)) (λ q. absurd cc) g.erl;
      ern = (g.ern.0, g.ern.1, one own 3 1 d (Some (Word g.ern.0)) (λ q. absurd cc) g.ern.2);
      erp = (g.erp.0, g.erp.1, one own 3 2 d (Some (Procedure g.erp.0)) (λ q. absurd cc) g.erp.2);
      input = (n.0, subst (λ (z : List ℕ). IsCandidate ps z n.0) f n.2, get_set own 3 (Procedure g.input.0) d g.input.2 ∙ ap (λ (z : Datum). Some z) n.1);
      output = (g.output.0, g.output.1, one own 3 4 d (Some (Procedure g.output.0)) (λ q. absurd cc) g.output.2);
    }
own_written ps t own _ m d g (slots.output {ws = ws} {r = r} e f) h =
    let n = is_a_procedure h ws r e in
    record {
      erl = one own 4 0 d (Some (Word 0)) (λ q. absurd cc) g.erl;
      ern = (g.ern.0, g.ern.1, one own 4 1 d (Some (Word g.ern.0)) (λ q. absurd cc) g.ern.2);
      erp = (g.erp.0, g.erp.1, one own 4 2 d (Some (Procedure g.erp.0)) (λ q. absurd cc) g.erp.2);
      input = (g.input.0, g.input.1, one own 4 3 d (Some (Procedure g.input.0)) (λ q. absurd cc) g.input.2);
      output = (n.0, subst (λ (z : List ℕ). IsCandidate ps z n.0) f n.2, get_set own 4 (Procedure g.output.0) d g.output.2 ∙ ap (λ (z : Datum). Some z) n.1);
    }
