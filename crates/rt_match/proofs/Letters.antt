-- The first letter of a full mode tells the sort.
use Rattle.std.proofs.Common.{◌≡◌, ℕ, zero, suc, List, [], ◌∷◌, map, Option, Some, None, option_map, slice_get, refl, sym, ap, ◌∙◌, subst, arith}
use Rattle.std.specs.List.{AllByRecursion}
use Rattle.std.proofs.lemmas.Option.{slice_get-map}
use Rattle.rt_modes.specs.FullMode.{FullMode}
use Rattle.rt_modes.specs.declared.mode.Mode.{Mode, out-Mode}
use Rattle.rt_modes.specs.declared.mode.Mode.TheFolds.{fold_out-Mode}
use Rattle.rt_modes.specs.declared.mode.Mode.TheOpen.{Mode-F}
use Rattle.rt_modes.specs.declared.mode.ModeTable.{ModeTable}
use Rattle.rt_object.specs.Ranges.{IsProcLayer, IsProcMode, HasKindRanges, HasObjectRanges}
use Rattle.rt_object.specs.declared.object.BrickKind.{BrickKind}
use Rattle.rt_object.specs.declared.object.BrickKind.TheVariants as kind
use Rattle.rt_object.specs.declared.object.Content.TheVariants as content
use Rattle.rt_object.specs.declared.object.External.TheVariants as external
use Rattle.rt_object.specs.declared.object.ObjectParts.{ObjectParts}
use Rattle.rt_object.specs.declared.object.Supplied.TheVariants as supplied
use Rattle.rt_modes.specs.declared.supplied.Supplied.{Supplied}
use Rattle.rt_modes.specs.declared.supplied.Supplied.TheVariants as brick
use Rattle.rt_match.specs.Matching as matching
use Rattle.rt_match.specs.Matching.{Sort, Signature, System, module_of, HasBrick, IsSupplied, AsksFor}
use Rattle.rt_match.specs.Laws.{DifferencesShow}
use Rattle.rt_match.specs.Signatures as signatures
use Rattle.rt_match.specs.Signatures.{Form, form_of, sort_of, full_mode, signature, system_of}
use Rattle.rt_match.specs.Walking.{supplied_as}
use Rattle.rt_match.specs.declared.bindings.Bound.{Bound}
use Rattle.rt_match.proofs.Asking.{supplied_from}

letter : Sort → ℕ
letter matching.Proc = 80
letter matching.Data = 68
letter matching.Stack = 83

IsLettered : Signature → Type 0
IsLettered s = slice_get s.mode 0 ≡ Some (letter s.sort)

same_sort : (r s : Sort) → letter r ≡ letter s → r ≡ s
unfolding letter
same_sort matching.Proc matching.Proc e = refl
same_sort matching.Data matching.Data e = refl
same_sort matching.Stack matching.Stack e = refl
same_sort matching.Proc matching.Data e = absurd (omega arith)
same_sort matching.Proc matching.Stack e = absurd (omega arith)
same_sort matching.Data matching.Proc e = absurd (omega arith)
same_sort matching.Data matching.Stack e = absurd (omega arith)
same_sort matching.Stack matching.Proc e = absurd (omega arith)
same_sort matching.Stack matching.Data e = absurd (omega arith)

-- ---- full modes of bricks

proc_letter : (t : ModeTable) (m : Mode) → IsProcMode m → slice_get (FullMode t m) 0 ≡ Some 80
proc_letter t m is = by (out-Mode m) refl is
  where
    by : (l : Mode-F Mode) → out-Mode m ≡ l → IsProcLayer l → slice_get (FullMode t m) 0 ≡ Some 80
    by (Mode-F.Proc ps None) e h = rw (fold_out-Mode, e) refl
    by (Mode-F.Proc ps (Some r)) e h = rw (fold_out-Mode, e) refl
    by Mode-F.Byte e h = absurd h
    by Mode-F.Int e h = absurd h
    by Mode-F.Frac e h = absurd h
    by Mode-F.Label e h = absurd h
    by (Mode-F.Ref o) e h = absurd h
    by (Mode-F.RefArray o) e h = absurd h
    by (Mode-F.Array n o) e h = absurd h
    by (Mode-F.Record k) e h = absurd h

-- whether a form is one that a brick has
IsOfBrick : Form → Type 0
IsOfBrick (signatures.Proc m) = IsProcMode m
IsOfBrick _ = Unit {0}

form_letter : (t : ModeTable) (f : Form) → IsOfBrick f → slice_get (full_mode t f) 0 ≡ Some (letter (sort_of f))
unfolding letter IsOfBrick
form_letter t (signatures.Proc m) is = proc_letter t m is
form_letter t (signatures.Data fs) is = refl
form_letter t signatures.Stack is = refl

form_is : (o : ObjectParts) (strings bricks : ℕ) (name : List ℕ) (k : BrickKind) → HasKindRanges o.records.records strings bricks name k → IsOfBrick (form_of k)
unfolding IsOfBrick
form_is o strings bricks name (kind.Own (content.Proc p)) h = h.is_proc
form_is o strings bricks name (kind.Own (content.Data d)) h = tt
form_is o strings bricks name (kind.Own (content.Stack n)) h = tt
form_is o strings bricks name (kind.Ent (content.Proc p)) h = h.is_proc
form_is o strings bricks name (kind.Ent (content.Data d)) h = tt
form_is o strings bricks name (kind.Ent (content.Stack n)) h = tt
form_is o strings bricks name (kind.Ext (external.Proc m)) h = h.1
form_is o strings bricks name (kind.Ext (external.Data fs)) h = tt
form_is o strings bricks name (kind.Ext external.Stack) h = tt
form_is o strings bricks name (kind.Svc (supplied.Proc m)) h = h.1
form_is o strings bricks name (kind.Svc (supplied.Data fs)) h = tt

-- ---- lists

holds_at : {A : Type 0} (P : A → Type 0) (xs : List A) (k : ℕ) (x : A) → AllByRecursion P xs → slice_get xs k ≡ Some x → P x
holds_at P [] k x h e = absurd cc
holds_at {A} P (y ∷ ys) zero x h e = let same : y ≡ x = cc in subst P same h.0
holds_at P (y ∷ ys) (suc k) x h e = holds_at P ys k x h.1 e

map_at : {A B : Type 0} (f : A → B) (xs : List A) (k : ℕ) (y : B) → slice_get (map f xs) k ≡ Some y → (x : A) × (slice_get xs k ≡ Some x) × (f x ≡ y)
map_at {A} {B} f xs k y e = by (slice_get xs k) refl (sym (slice_get-map f xs k) ∙ e)
  where
    by : (o : Option A) → slice_get xs k ≡ o → option_map f o ≡ Some y → (x : A) × (slice_get xs k ≡ Some x) × (f x ≡ y)
    by None q g = absurd cc
    by (Some x) q g = let same : f x ≡ y = cc in (x, q, same)

-- ---- signatures

object_lettered : (objects : List ObjectParts) (m b : ℕ) (s : Signature) → AllByRecursion HasObjectRanges objects → HasBrick (system_of objects) m b s → IsLettered s
unfolding IsLettered
object_lettered objects zero b s all h = let bad : None ≡ Some h.bricks = h.of in absurd cc
object_lettered objects (suc m) b s all h =
    let o = map_at signatures.signatures objects m h.bricks h.of in
    let x = map_at (signature o.0.records) o.0.bricks b s (subst (λ (ss : List Signature). slice_get ss b ≡ Some s) (sym o.2) h.at) in
    let ranges : HasObjectRanges o.0 = holds_at HasObjectRanges objects m o.0 all o.1 in
    let has = holds_at _ o.0.bricks b x.0 ranges.each_brick x.1 in
    subst (λ (t : Signature). slice_get t.mode 0 ≡ Some (letter t.sort)) x.2 (form_letter o.0.records (form_of x.0.kind) (form_is o.0 _ _ x.0.name x.0.kind has.kind))

supplied_lettered : (p : Supplied) → IsLettered (supplied_as p)
unfolding IsLettered letter
supplied_lettered brick.Rrin = refl
supplied_lettered brick.Rrout = refl
supplied_lettered brick.Delay = refl
supplied_lettered brick.Wait = refl
supplied_lettered brick.Signal = refl
supplied_lettered brick.Secure = refl
supplied_lettered brick.Release = refl
supplied_lettered brick.Clock = refl
supplied_lettered brick.Taskno = refl
supplied_lettered brick.Rrgel = refl
supplied_lettered brick.Rrerr = refl
supplied_lettered brick.Rrsio = refl

asked_lettered : (objects : List ObjectParts) (s e : Signature) (to : Bound) → AllByRecursion HasObjectRanges objects → AsksFor (system_of objects) s e to → IsLettered e
asked_lettered objects s e _ all (matching.entry {n} {c} k is named) = object_lettered objects n c e all is.is
asked_lettered objects s e _ all (matching.supplied {k = n} k is named) =
    let x = supplied_from n e is in subst IsLettered (sym x.3) (supplied_lettered x.0)

same_letters : (s e : Signature) → IsLettered s → IsLettered e → s.mode ≡ e.mode → s.sort ≡ e.sort
unfolding IsLettered
same_letters s e h k same =
    let f : Some (letter s.sort) ≡ Some (letter e.sort) = sym h ∙ (ap (λ (x : List ℕ). slice_get x 0) same ∙ k) in
    let equal : letter s.sort ≡ letter e.sort = cc in
    same_sort s.sort e.sort equal

pub differences_show : DifferencesShow
differences_show objects m name wanted found all h same =
    let d = h.2 in
    let mode : d.signature.mode ≡ d.other.mode = sym d.own ∙ (same ∙ d.its) in
    let a = object_lettered objects m d.brick d.signature all d.from.is in
    let b = asked_lettered objects d.signature d.other d.from.to all d.from.asks in
    d.from.differ (record { sort = same_letters d.signature d.other a b mode; mode = mode })
