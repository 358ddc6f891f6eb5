-- One more declaration.
use Rattle.std.proofs.Common.{◌≡◌, ◌⊎◌, Bool, true, ℕ, ◌+◌, ◌<◌, List, [], ◌∷◌, ◌++◌, length, drop, get_or, Option, Some, None, Result, Ok, Err, refl, sym, ap, ◌∙◌, subst, append_assoc}
use Rattle.std.specs.Prelude.{IfOk, IfErr, OnOk}
use Rattle.rt_bricks.specs.declared.tree.Declaration.{Declaration}
use Rattle.rt_check_declared.specs.Names.{bricks_in}
use Rattle.rt_check_declared.specs.declared.bricks.Heading.{Heading}
use Rattle.rt_modes.specs.declared.mode.RecordDef.{RecordDef}
use Rattle.rt_check_faults.specs.declared.fault.CheckFault.{CheckFault}
use Rattle.rt_check_faults.specs.declared.fault.CheckFault.TheVariants as fault
use Rattle.rt_check_faults.specs.Outcomes.{IsLeast, UnlessMemory}
use Rattle.rt_check_declared.specs.Verdicts.{with_fault}
use Rattle.rt_check_faults.proofs.Counting.{sooner_assoc}
use Rattle.rt_check_declared.specs.Heads.{noted}
use Rattle.rt_check_declared.specs.Records.{Counts}
use Rattle.rt_check_declared.proofs.RecordSteps.{drop_next}
use Rattle.rt_syntax.specs.Strings.{Texts}
use Rattle.rt_check_module.specs.declared.filling.Filling.{Filling}
use Rattle.rt_exprs.specs.Sights.{Sight}
use Rattle.rt_sizes.specs.Sizes.{Table}
use Rattle.rt_check_module.specs.Tree.{first, gathered, fillings_in, Somewhere, texts_in, texts_from}
use Rattle.rt_check_module.specs.Faults.{Inside}
use Rattle.rt_check_declared.proofs.Counted.{either_counts}
use Rattle.rt_check.specs.declared.contents.Contents.{Contents}
use Rattle.rt_check.specs.Walks.{fillings_by, added, IsJudged}

-- ---- strings

pub texts_step : (rs : List RecordDef) (ds : List Declaration) (i : ℕ) (d : Declaration) (found more all : Texts) (left behind : List Heading) → i < length ds → d ≡ get_or ds i d → more ≡ texts_in rs (first left) d found → behind ≡ drop (bricks_in d) left
    → texts_from rs found left (drop i ds) ≡ all → texts_from rs more behind (drop (i + 1) ds) ≡ all
texts_step rs ds i d found more all left behind h e is left_is kept =
    ap (λ (x : Texts). texts_from rs x behind (drop (i + 1) ds)) is ∙ ap (λ (x : List Heading). texts_from rs (texts_in rs (first left) d found) x (drop (i + 1) ds)) left_is
    ∙ sym (ap (texts_from rs found left) (drop_next ds i d h e)) ∙ kept

-- ---- the fault that counts, of those found so far and of the rest

noted_assoc : (a b c : Option CheckFault) → noted (noted a b) c ≡ noted a (noted b c)
noted_assoc a b None = refl
noted_assoc a None (Some g) = refl
noted_assoc None (Some f) (Some g) = refl
noted_assoc (Some e) (Some f) (Some g) = ap Some (sym (sooner_assoc e f g))

noted_first : (o : Option CheckFault) → o ≡ noted None o
noted_first None = refl
noted_first (Some g) = refl

-- What counts of all is what counts so far, together with what counts of the rest.
abbrev pub Leaves : (CheckFault → Type 0) → (CheckFault → Type 0) → Option CheckFault → Type 0
Leaves All Rest so_far = (o : Option CheckFault) → Counts Rest o → Counts All (noted so_far o)

pub leaves_all : (All : CheckFault → Type 0) → Leaves All All None
leaves_all All = λ o c. subst (Counts All) (noted_first o) c

pub leaves_none : (All : CheckFault → Type 0) (so_far : Option CheckFault) → Leaves All (λ g. ⊥) so_far → Counts All so_far
leaves_none All so_far leaves = leaves None (λ g h. h)

pub leaves_less : (All P Rest : CheckFault → Type 0) (so_far u : Option CheckFault) → Counts P u → Leaves All (λ g. P g ⊎ Rest g) so_far → Leaves All Rest (noted so_far u)
leaves_less All P Rest so_far u counts leaves = λ o c. subst (Counts All) (sym (noted_assoc so_far u o)) (leaves (noted u o) (either_counts P Rest u o counts c))

-- ---- what a declaration's bricks hold

abbrev fault_in : Result (Option Filling) CheckFault → Option CheckFault
fault_in (Ok f) = None
fault_in (Err g) = Some g

least_by : (P : CheckFault → Type 0) (g : CheckFault) → IsJudged {A = Option Filling} (Err g) → UnlessMemory g (IsLeast P g) → IsLeast P g
least_by P fault.Memory j s = absurd j
least_by P (fault.UnknownName at) j s = s
least_by P (fault.WrongMode at) j s = s
least_by P (fault.NotAssignable at) j s = s
least_by P (fault.WrongCount at) j s = s
least_by P (fault.RefOfLocal at) j s = s
least_by P (fault.LeftOut form at) j s = s
least_by P (fault.DeclaredTwice at) j s = s
least_by P (fault.BadStart at) j s = s
least_by P (fault.UnknownLabel at) j s = s
least_by P (fault.NoResult at) j s = s
least_by P fault.Unknown j s = s

found_counts : (P : CheckFault → Type 0) (found : Result (Option Filling) CheckFault) → IsJudged found → IfOk found (λ f. (g : CheckFault) → P g → ⊥) → IfErr found (λ f. UnlessMemory f (IsLeast P f)) → Counts P (fault_in found)
found_counts P (Ok f) j fit settles = fit
found_counts P (Err g) j fit settles = least_by P g j settles

fault_added : (n : ℕ) (c : Contents) (found : Result (Option Filling) CheckFault) → noted c.fault (fault_in found) ≡ (added n c found).fault
fault_added n c (Ok f) = refl
fault_added n c (Err g) = refl

module _ (P : CheckFault → Option Heading → Declaration → Type 0) (hs : List Heading) (ds : List Declaration) (i : ℕ) (d : Declaration) (left behind : List Heading) (n : ℕ) (c new : Contents) (found : Result (Option Filling) CheckFault) (h : i < length ds) (e : d ≡ get_or ds i d)
    (left_is : behind ≡ drop (bricks_in d) left) (is : new ≡ added n c found) where
  abbrev All : CheckFault → Type 0
  All g = Somewhere (P g) hs ds

  pub faults_step : IsJudged found → IfOk found (λ f. (g : CheckFault) → P g (first left) d → ⊥) → IfErr found (λ f. UnlessMemory f (IsLeast (λ g. P g (first left) d) f)) → Leaves All (λ g. Somewhere (P g) left (drop i ds)) c.fault → Leaves All (λ g. Somewhere (P g) behind (drop (i + 1) ds)) new.fault
  faults_step j fit settles leaves =
      let here : Leaves All (λ g. Somewhere (P g) left (d ∷ drop (i + 1) ds)) c.fault = subst (λ (x : List Declaration). Leaves All (λ g. Somewhere (P g) left x) c.fault) (drop_next ds i d h e) leaves in
      let less : Leaves All (λ g. Somewhere (P g) (drop (bricks_in d) left) (drop (i + 1) ds)) (noted c.fault (fault_in found)) =
      leaves_less All (λ g. P g (first left) d) (λ g. Somewhere (P g) (drop (bricks_in d) left) (drop (i + 1) ds)) c.fault (fault_in found) (found_counts (λ g. P g (first left) d) found j fit settles) here in
      let moved : Leaves All (λ g. Somewhere (P g) behind (drop (i + 1) ds)) (noted c.fault (fault_in found)) = subst (λ (x : List Heading). Leaves All (λ g. Somewhere (P g) x (drop (i + 1) ds)) (noted c.fault (fault_in found))) (sym left_is) less in
      subst (Leaves All (λ g. Somewhere (P g) behind (drop (i + 1) ds))) (fault_added n c found ∙ ap (λ (x : Contents). x.fault) (sym is)) moved

-- ---- fillings

abbrev pub Fills : List Filling → Contents → List Filling → Type 0
Fills all c rest = c.fault ≡ None → c.fillings ++ rest ≡ all

some_noted : (o : Option CheckFault) (g : CheckFault) → with_fault o g ≡ None → ⊥
some_noted None g e = cc
some_noted (Some f) g e = cc

fills_more : (all part rest : List Filling) (n : ℕ) (c : Contents) (found : Result (Option Filling) CheckFault) → IfOk found (λ f. fillings_by n f ≡ part) → Fills all c (part ++ rest) → Fills all (added n c found) rest
fills_more all part rest n c (Ok f) held fills = λ none. append_assoc c.fillings (fillings_by n f) rest ∙ ap (λ (x : List Filling). c.fillings ++ (x ++ rest)) held ∙ fills none
fills_more all part rest n c (Err g) held fills = λ none. absurd (some_noted c.fault g none)

pub fills_step : (part : Option Heading → Declaration → List Filling) (all : List Filling) (ds : List Declaration) (i : ℕ) (d : Declaration) (left behind : List Heading) (n : ℕ) (c new : Contents) (found : Result (Option Filling) CheckFault) → i < length ds → d ≡ get_or ds i d
    → behind ≡ drop (bricks_in d) left → new ≡ added n c found → IfOk found (λ f. fillings_by n f ≡ part (first left) d) → Fills all c (gathered part left (drop i ds)) → Fills all new (gathered part behind (drop (i + 1) ds))
fills_step part all ds i d left behind n c new found h e left_is is held fills =
    let here : Fills all c (gathered part left (d ∷ drop (i + 1) ds)) = subst (λ (x : List Declaration). Fills all c (gathered part left x)) (drop_next ds i d h e) fills in
    let more : Fills all (added n c found) (gathered part (drop (bricks_in d) left) (drop (i + 1) ds)) = fills_more all (part (first left) d) (gathered part (drop (bricks_in d) left) (drop (i + 1) ds)) n c found held here in
    let moved : Fills all (added n c found) (gathered part behind (drop (i + 1) ds)) = subst (λ (x : List Heading). Fills all (added n c found) (gathered part x (drop (i + 1) ds))) (sym left_is) more in
    subst (λ (x : Contents). Fills all x (gathered part behind (drop (i + 1) ds))) (sym is) moved

-- ---- the whole walk

-- What bricks hold is looked at where they are fit as they are declared.
abbrev pub Both : Bool → Sight → Table → List Heading → List Declaration → List Heading → List Declaration → Contents → Type 0
Both fit s t hs ds left rest c = (fit ≡ true → Fills (gathered (fillings_in s) hs ds) c (gathered (fillings_in s) left rest)) × Leaves (λ g. Somewhere (Inside s t g) hs ds) (λ g. Somewhere (Inside s t g) left rest) c.fault

pub both_first : (fit : Bool) (s : Sight) (t : Table) (hs : List Heading) (ds : List Declaration) (c : Contents) → c ≡ record { fillings = []; fault = None } → Both fit s t hs ds hs ds c
both_first fit s t hs ds c e = subst (Both fit s t hs ds hs ds) (sym e) ((λ yes none. refl), leaves_all (λ g. Somewhere (Inside s t g) hs ds))

module _ (is_fit : Bool) (own s : Sight) (same : s ≡ own) (t : Table) (hs : List Heading) (ds : List Declaration) (i : ℕ) (d : Declaration) (left behind : List Heading) (h : Option Heading) (n : ℕ) (c new : Contents) (found : Result (Option Filling) CheckFault) where
  pub both_next : i < length ds → d ≡ get_or ds i d → behind ≡ drop (bricks_in d) left → new ≡ added n c found → n ≡ bricks_in d → h ≡ first left → IsJudged found → (is_fit ≡ true → IfOk found (λ f. fillings_by (bricks_in d) f ≡ fillings_in s h d))
      → IfOk found (λ f. (g : CheckFault) → Inside s t g h d → ⊥) → IfErr found (λ f. UnlessMemory f (IsLeast (λ g. Inside s t g h d) f)) → Both is_fit own t hs ds left (drop i ds) c → Both is_fit own t hs ds behind (drop (i + 1) ds) new
  both_next less e left_is is n_is h_is judged held fit settles both =
      let held_own : is_fit ≡ true → IfOk found (λ f. fillings_by n f ≡ fillings_in own (first left) d) = λ yes.
      subst (λ (m : ℕ). IfOk found (λ f. fillings_by m f ≡ fillings_in own (first left) d)) (sym n_is)
      (subst (λ (x : Option Heading). IfOk found (λ f. fillings_by (bricks_in d) f ≡ fillings_in own x d)) h_is (subst (λ (x : Sight). IfOk found (λ f. fillings_by (bricks_in d) f ≡ fillings_in x h d)) same (held yes))) in
      let fit_own : IfOk found (λ f. (g : CheckFault) → Inside own t g (first left) d → ⊥) =
      subst (λ (x : Option Heading). IfOk found (λ f. (g : CheckFault) → Inside own t g x d → ⊥)) h_is (subst (λ (x : Sight). IfOk found (λ f. (g : CheckFault) → Inside x t g h d → ⊥)) same fit) in
      let settles_own : IfErr found (λ f. UnlessMemory f (IsLeast (λ g. Inside own t g (first left) d) f)) =
      subst (λ (x : Option Heading). IfErr found (λ f. UnlessMemory f (IsLeast (λ g. Inside own t g x d) f))) h_is (subst (λ (x : Sight). IfErr found (λ f. UnlessMemory f (IsLeast (λ g. Inside x t g h d) f))) same settles) in (
        λ yes. fills_step (fillings_in own) (gathered (fillings_in own) hs ds) ds i d left behind n c new found less e left_is is (held_own yes) (both.0 yes),
        faults_step (λ g x y. Inside own t g x y) hs ds i d left behind n c new found less e left_is is judged fit_own settles_own both.1,
      )

pub both_last : (fit : Bool) (s : Sight) (t : Table) (hs : List Heading) (ds : List Declaration) (left : List Heading) (rest : List Declaration) (c : Contents) → rest ≡ [] → Both fit s t hs ds left rest c → Counts (λ g. Somewhere (Inside s t g) hs ds) c.fault
both_last fit s t hs ds left rest c e both =
    leaves_none (λ g. Somewhere (Inside s t g) hs ds) c.fault (subst (λ (xs : List Declaration). Leaves (λ g. Somewhere (Inside s t g) hs ds) (λ g. Somewhere (Inside s t g) left xs) c.fault) e both.1)

pub judged_keeps : (P : Type 0) (found : Result (Option Filling) CheckFault) → IsJudged found → OnOk found P → IfErr found (λ g. UnlessMemory g P) → P
judged_keeps P (Ok f) j k l = k
judged_keeps P (Err fault.Memory) j k l = absurd j
judged_keeps P (Err (fault.UnknownName at)) j k l = l
judged_keeps P (Err (fault.WrongMode at)) j k l = l
judged_keeps P (Err (fault.NotAssignable at)) j k l = l
judged_keeps P (Err (fault.WrongCount at)) j k l = l
judged_keeps P (Err (fault.RefOfLocal at)) j k l = l
judged_keeps P (Err (fault.LeftOut form at)) j k l = l
judged_keeps P (Err (fault.DeclaredTwice at)) j k l = l
judged_keeps P (Err (fault.BadStart at)) j k l = l
judged_keeps P (Err (fault.UnknownLabel at)) j k l = l
judged_keeps P (Err (fault.NoResult at)) j k l = l
judged_keeps P (Err fault.Unknown) j k l = l
