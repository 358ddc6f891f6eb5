-- The faults of all MODEs, and the one that counts.
use Rattle.std.proofs.Common.{◌≡◌, ℕ, zero, suc, ◌+◌, ◌≤◌, ◌⊎◌, inl, inr, Bool, false, List, [], ◌∷◌, ◌++◌, Option, Some, None, length, slice_get, get_or, map, refl, sym, ap, ◌∙◌, subst, arith}
use Rattle.std.specs.Prelude.{IsTrue, is_none}
use Rattle.rt_bricks.specs.declared.tree.Declaration.{Declaration}
use Rattle.rt_bricks.specs.declared.tree.RecordMode.{RecordMode}
use Rattle.rt_modes.specs.declared.mode.RecordDef.{RecordDef}
use Rattle.rt_check_faults.specs.declared.fault.CheckFault.{CheckFault}
use Rattle.rt_check_faults.specs.Outcomes.{IsLeast, sooner, is_before}
use Rattle.rt_sizes.specs.Capped.{AreSizes, table}
use Rattle.rt_sizes.specs.Sizes.{Table}
use Rattle.rt_sizes.specs.declared.size.Size.{Size}
use Rattle.rt_check_declared.specs.Verdicts.{IsIn, with_fault, with_faults, GatheredCounts}
use Rattle.rt_check_declared.specs.Written.{Names}
use Rattle.rt_check_faults.proofs.Counting.{before_through}
use Rattle.rt_check_declared.proofs.Least.{gathers_least}
use Rattle.rt_check_declared.specs.declared.records.Head.{Head}
use Rattle.rt_check_declared.specs.Heads.{head, heads, definitions, all_noted, all_known}
use Rattle.rt_check_declared.specs.Records as spec
use Rattle.rt_check_declared.specs.Records.{field_faults, has_none, definition, record_modes, RecordFault, Counts, AllCount, Stands}
use Rattle.rt_check_declared.proofs.Judged.{get_map}

abbrev Fault : Type 0
Fault = Option CheckFault

-- ---- one more

last_or : {A : Type 0} (us : List A) (u : A) (k : ℕ) (v : A) → slice_get (us ++ u ∷ []) k ≡ Some v → (slice_get us k ≡ Some v) ⊎ ((k ≡ length us) × (u ≡ v))
last_or [] u zero v e = inr (refl, let same : u ≡ v = cc in same)
last_or [] u (suc k) v e = absurd cc
last_or (x ∷ us) u zero v e = inl e
last_or (x ∷ us) u (suc k) v e = elim (last_or us u k v e) [ inl h ↦ inl h | inr h ↦ inr (ap suc h.0, h.1) ]

one_longer : {A : Type 0} (us : List A) (u : A) → length (us ++ u ∷ []) ≡ length us + 1
one_longer [] u = refl
one_longer (x ∷ us) u = let h = one_longer us u in omega arith

got_or : {A B : Type 0} (f : A → B) (xs : List A) (i : ℕ) (x : A) (d : B) → slice_get xs i ≡ Some x → get_or (map f xs) i d ≡ f x
got_or f [] i x d e = absurd cc
got_or f (y ∷ xs) zero x d e = let same : y ≡ x = cc in ap f same
got_or f (y ∷ xs) (suc i) x d e = got_or f xs i x d e

module _ (names : Names) (t : Table) (rs : List RecordMode) where
  abbrev pub SoFar : ℕ → List Fault → Type 0
  SoFar n us = (length us ≡ n) × ((k : ℕ) (r : RecordMode) (u : Fault) → slice_get rs k ≡ Some r → slice_get us k ≡ Some u → Counts (RecordFault names t k r) u)

  pub none_so_far : (us : List Fault) → us ≡ [] → SoFar 0 us
  none_so_far us e = (ap length e, λ k r u i j. absurd (let bad : None ≡ Some u = sym (ap (λ (x : List Fault). slice_get x k) e) ∙ j in cc))

  step_by : (us : List Fault) (n i : ℕ) (u : Fault) → n ≡ length us → SoFar i us → ((r : RecordMode) → slice_get rs n ≡ Some r → Counts (RecordFault names t n r) u) → SoFar (i + 1) (us ++ u ∷ [])
  step_by us n i u e so_far counts = (
    one_longer us u ∙ ap (λ (x : ℕ). x + 1) so_far.0,
    λ k r v a b. elim (last_or us u k v b) [
      | inl h ↦ so_far.1 k r v a h
      | inr h ↦
          let here : k ≡ n = h.0 ∙ sym e in
          let there : Counts (RecordFault names t n r) u = counts r (subst (λ (x : ℕ). slice_get rs x ≡ Some r) here a) in
          subst (λ (x : ℕ). Counts (RecordFault names t x r) v) (sym here) (subst (λ (x : Fault). Counts (RecordFault names t n r) x) h.1 there)
    ],
  )

  pub more_so_far : (us : List Fault) (n i : ℕ) (u : Fault) (all : List Fault) (records : List RecordDef) (hs : List Head) (h : Head) → n ≡ length us → SoFar i us → all ≡ us ++ u ∷ [] → h ≡ get_or hs i h → hs ≡ heads names rs
      → records ≡ definitions names rs → ((r : RecordMode) → h ≡ head names r → slice_get records n ≡ Some (definition names r) → Counts (RecordFault names t n r) u) → SoFar (i + 1) all
  more_so_far us n i u all records hs h e so_far pushed is hs_are records_are counts =
      let here : n ≡ i = e ∙ so_far.0 in
      let each : (r : RecordMode) → slice_get rs n ≡ Some r → Counts (RecordFault names t n r) u = λ r g.
      counts r (is ∙ ap (λ (x : List Head). get_or x i h) hs_are ∙ got_or (head names) rs i r h (subst (λ (x : ℕ). slice_get rs x ≡ Some r) here g))
      (ap (λ (x : List RecordDef). slice_get x n) records_are ∙ get_map (definition names) rs n r g) in
      subst (λ (x : List Fault). SoFar (i + 1) x) (sym pushed) (step_by us n i u e so_far each)

  map_long : {A B : Type 0} (f : A → B) (xs : List A) → length (map f xs) ≡ length xs
  map_long f [] = refl
  map_long f (x ∷ xs) = ap suc (map_long f xs)

  beyond : {A : Type 0} (xs : List A) (i : ℕ) → length xs ≤ i → slice_get xs i ≡ None
  beyond [] i h = refl
  beyond (x ∷ xs) zero h = absurd (omega arith)
  beyond (x ∷ xs) (suc i) h = beyond xs i (omega arith)

  pub all_so_far : (i : ℕ) (us : List Fault) (hs : List Head) → length hs ≤ i → i ≤ length hs → hs ≡ heads names rs → SoFar i us → AllCount names t rs us
  all_so_far i us hs done inside hs_are so_far = record { one_each = so_far.0 ∙ (let same : i ≡ length hs = omega arith in same) ∙ ap length hs_are ∙ map_long (head names) rs; counts = so_far.1 }

-- ---- the one that counts of all

abbrev somes : List Fault → List CheckFault
somes [] = []
somes (None ∷ us) = somes us
somes (Some g ∷ us) = g ∷ somes us

noted_somes : (o : Fault) (us : List Fault) → all_noted o us ≡ with_faults o (somes us)
unfolding with_faults
noted_somes o [] = refl
noted_somes o (None ∷ us) = noted_somes o us
noted_somes o (Some g ∷ us) = noted_somes (with_fault o g) us

in_somes : (us : List Fault) (g : CheckFault) → IsIn g (somes us) → (k : ℕ) × (slice_get us k ≡ Some (Some g))
in_somes [] g h = absurd h
in_somes (None ∷ us) g h = let x = in_somes us g h in (suc x.0, x.1)
in_somes (Some f ∷ us) g (inl e) = (0, ap (λ (x : CheckFault). Some (Some x)) (sym e))
in_somes (Some f ∷ us) g (inr h) = let x = in_somes us g h in (suc x.0, x.1)

somes_in : (us : List Fault) (k : ℕ) (g : CheckFault) → slice_get us k ≡ Some (Some g) → IsIn g (somes us)
somes_in [] k g e = absurd cc
somes_in (None ∷ us) zero g e = absurd cc
somes_in (None ∷ us) (suc k) g e = somes_in us k g e
somes_in (Some f ∷ us) zero g e = inl (let same : g ≡ f = cc in same)
somes_in (Some f ∷ us) (suc k) g e = inr (somes_in us k g e)

same_there : {A B : Type 0} (xs : List A) (ys : List B) (k : ℕ) (x : A) → length xs ≡ length ys → slice_get xs k ≡ Some x → (y : B) × (slice_get ys k ≡ Some y)
same_there [] ys k x l e = absurd cc
same_there (a ∷ xs) [] k x l e = absurd cc
same_there (a ∷ xs) (b ∷ ys) zero x l e = (b, refl)
same_there (a ∷ xs) (b ∷ ys) (suc k) x l e = same_there xs ys k x (omega arith) e

module _ (names : Names) (t : Table) (rs : List RecordMode) (us : List Fault) (all : AllCount names t rs us) where
  abbrev StandsIn : CheckFault → Type 0
  StandsIn g = (k : ℕ) × (r : RecordMode) × (slice_get rs k ≡ Some r) × RecordFault names t k r g

  -- a fault that stands in a MODE has one before it among those that count
  counted_before : (h : CheckFault) (k : ℕ) (r : RecordMode) (u : Fault) → RecordFault names t k r h → Counts (RecordFault names t k r) u → slice_get us k ≡ Some u → (g : CheckFault) × IsIn g (somes us) × IsTrue (is_before g h)
  counted_before h k r None f c e = absurd (c h f)
  counted_before h k r (Some g) f c e = (g, somes_in us k g e, c.least h f)

  before_of : (h : CheckFault) → StandsIn h → (g : CheckFault) × IsIn g (somes us) × IsTrue (is_before g h)
  before_of h s = let u = same_there rs us s.0 s.1 (sym all.one_each) s.2 in counted_before h s.0 s.1 u.0 s.3 (all.counts s.0 s.1 u.0 s.2 u.1) u.1

  stands_of : (g : CheckFault) → IsIn g (somes us) → StandsIn g
  stands_of g i =
      let x = in_somes us g i in
      let r = same_there us rs x.0 (Some g) all.one_each x.1 in
      let c : IsLeast (RecordFault names t x.0 r.0) g = all.counts x.0 r.0 (Some g) r.1 x.1 in (x.0, r.0, r.1, c.stands)

  join_by : (o : Fault) → GatheredCounts (somes us) o → Counts StandsIn o
  join_by None e = λ g s. let b = before_of g s in subst (λ (x : List CheckFault). IsIn b.0 x) e b.1
  join_by (Some g) least = record {
    stands = stands_of g least.stands;
    least = λ h s. let b = before_of h s in before_through g b.0 h (least.least b.0 b.1) b.2;
  }

  pub joined : Counts StandsIn (all_noted None us)
  joined = subst (λ (x : Fault). Counts StandsIn x) (sym (noted_somes None us)) (join_by (with_faults None (somes us)) (gathers_least (somes us)))

-- ---- which records are known

none_of_some : (f : CheckFault) (fs : List CheckFault) → is_none (with_faults (Some f) fs) ≡ false
unfolding with_faults
none_of_some f [] = refl
none_of_some f (g ∷ gs) = none_of_some (sooner f g) gs

none_of : (fs : List CheckFault) → is_none (with_faults None fs) ≡ has_none fs
unfolding with_faults
none_of [] = refl
none_of (f ∷ fs) = none_of_some f fs

pub known_are : (names : Names) (rs : List RecordMode) → all_known (heads names rs) ≡ map (λ r. has_none (field_faults names r)) rs
known_are names [] = refl
known_are names (r ∷ rs) = rw (none_of (field_faults names r), known_are names rs) refl

-- ---- all records

tables_are : (names : Names) (ds : List Declaration) (records : List RecordDef) (hs : List Head) (bs : List Bool) → records ≡ definitions names (record_modes ds) → hs ≡ heads names (record_modes ds) → bs ≡ all_known hs → table records bs ≡ spec.table names ds
tables_are names ds records hs bs a b c = rw (a, c, b, known_are names (record_modes ds)) refl

module _ (names : Names) (ds : List Declaration) where
  pub sizes_are : (records : List RecordDef) (hs : List Head) (bs : List Bool) (sz : List (Option Size)) → records ≡ definitions names (record_modes ds) → hs ≡ heads names (record_modes ds) → bs ≡ all_known hs → AreSizes (table records bs) sz → AreSizes (spec.table names ds) sz
  sizes_are records hs bs sz a b c sizes = subst (λ (t : Table). AreSizes t sz) (tables_are names ds records hs bs a b c) sizes

  pub all_counted : (records again : List RecordDef) (hs : List Head) (bs : List Bool) (sz lent : List (Option Size)) (us : List Fault) → records ≡ definitions names (record_modes ds) → again ≡ definitions names (record_modes ds) → hs ≡ heads names (record_modes ds) → bs ≡ all_known hs
      → lent ≡ sz → AreSizes (table records bs) sz → (AreSizes (table again bs) lent → AllCount names (table again bs) (record_modes ds) us) → AllCount names (spec.table names ds) (record_modes ds) us
  all_counted records again hs bs sz lent us a d b c e sizes counted =
      let same : again ≡ records = d ∙ sym a in
      let here : AreSizes (table records bs) lent = subst (λ (x : List (Option Size)). AreSizes (table records bs) x) (sym e) sizes in
      subst (λ (t : Table). AllCount names t (record_modes ds) us) (tables_are names ds again hs bs d b c) (counted (subst (λ (x : List RecordDef). AreSizes (table x bs) lent) (sym same) here))

  pub least_counts : (us lent : List Fault) (o : Fault) → AllCount names (spec.table names ds) (record_modes ds) us → lent ≡ us → o ≡ all_noted None lent → Counts (Stands names ds) o
  least_counts us lent o all a b = subst (λ (x : Fault). Counts (Stands names ds) x) (sym (b ∙ ap (all_noted None) a)) (joined names (spec.table names ds) (record_modes ds) us all)
