-- What is still to be done fits the values that there are, one item after the other; and the next visible step fits.
use Rattle.std.specs.Prelude.{◌≡◌, ◌⊎◌, ℕ, ◌<◌, true, List, [], ◌∷◌, length, Option, Some, None}
use Rattle.rt_modes.specs.declared.mode.Mode.{Mode, out-Mode}
use Rattle.rt_modes.specs.declared.mode.Mode.TheOpen.{Mode-F}
use Rattle.rt_modes.specs.FullMode.{FullMode}
use Rattle.rt_tree_nodes.specs.declared.brick.Brick.{Brick}
use Rattle.rt_tree_nodes.specs.declared.brick.BrickSort.TheVariants as sort
use Rattle.rt_tree_nodes.specs.declared.brick.ModuleParts.{ModuleParts}
use Rattle.rt_tree_nodes.specs.declared.brick.ProcBody.{ProcBody}
use Rattle.rt_tree_nodes.specs.declared.store.Datum.{Datum}
use Rattle.rt_tree_nodes.specs.declared.store.Datum.TheVariants.{Word, Reference}
use Rattle.rt_tree_nodes.specs.declared.store.Location.{Location}
use Rattle.rt_tree_nodes.specs.declared.store.Proc.{Proc}
use Rattle.rt_tree_nodes.specs.Scopes.{faces, field_mode, proc_mode}
use Rattle.rt_tree_nodes.specs.Typing.{is_value, monadic_mode, dyadic_mode, compare_fits}
use Rattle.rt_rules.specs.declared.service.Svc.TheVariants as svc
use Rattle.rt_tree.specs.Modules.{is_here}
use Rattle.rt_tree.specs.Stored.{System, HasBrick, IsCandidate, brick}
use Rattle.rt_work_state.specs.declared.request.Request.{Request}
use Rattle.rt_work_state.specs.declared.request.Request.TheVariants.{Nothing, Takes, Rules}
use Rattle.rt_work_state.specs.Items.{Env, Item, Do, Eval, At, Args, Fetch, Into, Pick, PickRow, Span, Tell, Length, Alter, Merge, Split, Report, Stand, Enter, EnterBy, Local, Save, Drop, Compare, Try, AndThen, OrElse, Choose, PastElse, Decide, Again, CountFor, TurnFor, CountTo, TurnTo, ToLabel, GiveUp, Leave, Begin, Serve, Next, Reads, Writes, Calls, Returns, Jumps, Leaps, Asks, Recovers, Errors, Lacks}
use Rattle.rt_work.specs.Task.{service}
use Rattle.rt_work_state.specs.Items as task
use Rattle.rt_tree.specs.FullModes.{MayStand}
use Rattle.rt_resolve.specs.Matching.{no_records}
use Rattle.rt_meaning_laws.specs.Slots.{LeadsTo, IsInt, IsByte, Slot, AValue, APlace, AnOwn, ATruth, IsOf, FillAll, AreOf, LeadsOwn, values_on, result_on}
use Rattle.rt_meaning_laws.specs.Trees.{Started, Within, and_local, Site, table, local_mode, IsLoop, AreLoops, IsNumber, IsWord, TermFits, PathFits, TermsFit, CondFits, LabelsFit, SeqFits, ends}
use Rattle.rt_resolve.specs.Matching.{IsSupplied}

-- ---- what may be called

-- A procedure is there: an own or ENT one of a module, or a supplied one.
pub data IsProcedure (ps : System) : Proc → Type 0 where
  of_module : {m b : ℕ} {p : ModuleParts} {d : Brick} {w : Mode} {body : Option ProcBody} → HasBrick ps m b p d → is_here d.kind ≡ true → d.sort ≡ sort.Proc w body → IsProcedure ps (brick m b)
  of_supplied : {k : ℕ} {w : Mode} → IsSupplied k w → IsProcedure ps (brick 0 k)

abbrev pub full_of : {ps : System} {f : Proc} → IsProcedure ps f → List ℕ
full_of (of_module {p = p} {w = w} h k s) = FullMode p.modes w
full_of (of_supplied {w = w} s) = FullMode no_records w

-- a procedure of this full mode may be called
abbrev pub MayCall : System → List ℕ → Proc → Type 0
MayCall ps full f = (is : IsProcedure ps f) × (full_of is ≡ full)

-- What a call calls: what the name of a brick leads to, a candidate of its full mode, or at a task's start its root, behind
-- which there is only the service that ends the task.
pub data CalledAs (ps : System) (x : Site) (e : Env) (w : Mode) (todo : List Item) : Proc → Type 0 where
  by_name : {b : ℕ} → proc_mode (faces x.parts.bricks) b ≡ Some w → CalledAs ps x e w todo (e.leads b)
  by_value : {f : Proc} → IsCandidate ps (FullMode (table x) w) f → CalledAs ps x e w todo f
  at_start : {f : Proc} → todo ≡ Serve 11 ∷ [] → CalledAs ps x e w todo f

-- ---- services

-- what comes of a service gives its procedure a result, or its return
abbrev pub AskFits : Option Mode → Request → List Item → Type 0
AskFits answer Nothing todo = ⊥
AskFits answer Takes todo = (m : Mode) × (answer ≡ Some m) × IsByte m
AskFits answer (Rules svc.Clock) todo = (m : Mode) × (answer ≡ Some m) × IsInt m
AskFits answer (Rules svc.TaskNo) todo = (m : Mode) × (answer ≡ Some m) × IsInt m
AskFits answer (Rules (svc.Gel n)) todo = Unit {0}
AskFits answer (Rules svc.End) todo = Unit {0}
AskFits answer _ todo = (answer ≡ None) × (todo ≡ Leave ∷ [])

-- no value, or one word
abbrev pub ArgumentFits : List Slot → Type 0
ArgumentFits [] = Unit {0}
ArgumentFits (AValue m ∷ []) = IsWord m
ArgumentFits _ = ⊥

-- ---- the last values

abbrev pub OnValue : (Mode → List Slot → Type 0) → List Slot → Type 0
OnValue go (AValue m ∷ ss) = go m ss
OnValue go _ = ⊥

abbrev pub OnPlace : (Mode → List Slot → Type 0) → List Slot → Type 0
OnPlace go (AValue k ∷ ss) = (m : Mode) × (out-Mode k ≡ Mode-F.Ref m) × go m ss
OnPlace go _ = ⊥

-- a place, or an item of the task's own data
abbrev pub OnAny : (Mode → List Slot → Type 0) → List Slot → Type 0
OnAny go (AValue k ∷ ss) = (m : Mode) × (out-Mode k ≡ Mode-F.Ref m) × go m ss
OnAny go (AnOwn m ∷ ss) = go m ss
OnAny go _ = ⊥

abbrev pub OnTruth : (List Slot → Type 0) → List Slot → Type 0
OnTruth go (ATruth ∷ ss) = go ss
OnTruth go _ = ⊥

module _ (ps : System) (x : Site) where
  -- ---- what is to be done

  abbrev pub TodoFits : Started → List Item → List Slot → Type 0
  TodoFits s [] ss = ⊥
  TodoFits s (Do q ∷ rest) ss = (k : Started) × Within k s × SeqFits x k q × ((ends q ≡ true) ⊎ ((j : Started) × Within j k × TodoFits j rest ss))
  TodoFits s (Eval v ∷ rest) ss = (m : Mode) × TermFits x s v m × TodoFits s rest (AValue m ∷ ss)
  TodoFits s (At p ∷ rest) ss = (m : Mode) × PathFits x s p m × TodoFits s rest (APlace m ∷ ss)
  TodoFits s (Args vs ∷ rest) ss = (ws : List Mode) × TermsFit x s vs ws × TodoFits s rest (values_on ws ss)
  TodoFits s (Fetch ∷ rest) ss = OnAny (λ m us. (is_value (out-Mode m) ≡ true) × TodoFits s rest (AValue m ∷ us)) ss
  TodoFits s (Into p k ∷ rest) ss = OnPlace (λ w us. (r : ℕ) × (m : Mode) × (out-Mode w ≡ Mode-F.Record r) × (field_mode x.parts.modes.records r k ≡ Some m) × TodoFits s rest (APlace m ∷ us)) ss
  TodoFits s (Pick p n ∷ rest) ss = OnValue (λ i us. OnPlace (λ w ws. (m : Mode) × IsInt i × (out-Mode w ≡ Mode-F.Array n m) × TodoFits s rest (APlace m ∷ ws)) us) ss
  TodoFits s (PickRow ∷ rest) ss = OnValue (λ i us. OnValue (λ w ws. (m : Mode) × IsInt i × (out-Mode w ≡ Mode-F.RefArray m) × TodoFits s rest (APlace m ∷ ws)) us) ss
  TodoFits s (Span n ∷ rest) ss = OnPlace (λ a us. (w m : Mode) × (out-Mode m ≡ Mode-F.RefArray w) × (out-Mode a ≡ Mode-F.Array n w) × TodoFits s rest (AValue m ∷ us)) ss
  TodoFits s (Tell n ∷ rest) ss = OnPlace (λ a us. (m : Mode) × IsInt m × (n < 65536) × TodoFits s rest (AValue m ∷ us)) ss
  TodoFits s (Length ∷ rest) ss = OnValue (λ k us. (w m : Mode) × IsInt m × (out-Mode k ≡ Mode-F.RefArray w) × TodoFits s rest (AValue m ∷ us)) ss
  TodoFits s (Alter o ∷ rest) ss = OnValue (λ k us. (m : Mode) × (monadic_mode o k ≡ Some m) × TodoFits s rest (AValue m ∷ us)) ss
  TodoFits s (Merge o ∷ rest) ss = OnValue (λ k us. OnValue (λ j ws. (m : Mode) × (dyadic_mode o j k ≡ Some m) × TodoFits s rest (AValue m ∷ ws)) us) ss
  TodoFits s (Split o ∷ rest) ss = OnValue (λ k us. OnValue (λ j ws. (m : Mode) × (dyadic_mode o j k ≡ Some m) × TodoFits s rest (AValue m ∷ ws)) us) ss
  TodoFits s (Report n ∷ rest) ss = OnValue (λ w us. (a : Mode) × (out-Mode w ≡ Mode-F.Proc (a ∷ []) None) × IsInt a × (n < 65536) × TodoFits s rest us) ss
  TodoFits s (Stand n ∷ rest) ss = (m : Mode) × IsNumber m × (n < 65536) × TodoFits s rest (AValue m ∷ ss)
  TodoFits s (Enter b n ∷ rest) ss =
      (w : Mode) × (ws : List Mode) × (o : Option Mode) × (us : List Slot) × (proc_mode (faces x.parts.bricks) b ≡ Some w) × (out-Mode w ≡ Mode-F.Proc ws o) × (n ≡ length ws) × (ss ≡ values_on ws us) × TodoFits s rest (result_on o us)
  TodoFits s (EnterBy n ∷ rest) ss =
      (w : Mode) × (ws : List Mode) × (o : Option Mode) × (us : List Slot) × (out-Mode w ≡ Mode-F.Proc ws o) × (n ≡ length ws) × (ss ≡ values_on ws (AValue w ∷ us)) × TodoFits s rest (result_on o us)
  TodoFits s (Local i ∷ rest) ss = OnValue (λ m us. (k : Started) × (local_mode x i ≡ Some m) × Within k (and_local s i) × TodoFits k rest us) ss
  TodoFits s (Save p v ∷ rest) ss = OnValue (λ m us. OnAny (λ w ws. (w ≡ m) × (is_value (out-Mode m) ≡ true) × TodoFits s rest ws) us) ss
  TodoFits s (Drop ∷ rest) ss = OnValue (λ m us. TodoFits s rest us) ss
  TodoFits s (Compare r a b ∷ rest) ss = OnValue (λ k us. OnValue (λ j ws. (compare_fits r j k ≡ true) × TodoFits s rest (ATruth ∷ ws)) us) ss
  TodoFits s (Try t ∷ rest) ss = CondFits x s t × TodoFits s rest (ATruth ∷ ss)
  TodoFits s (AndThen t ∷ rest) ss = OnTruth (λ us. CondFits x s t × TodoFits s rest (ATruth ∷ us)) ss
  TodoFits s (OrElse t ∷ rest) ss = OnTruth (λ us. CondFits x s t × TodoFits s rest (ATruth ∷ us)) ss
  TodoFits s (Choose a b ∷ rest) ss =
      OnTruth (λ us. (SeqFits x s a × SeqFits x s b) × (((ends a ≡ true) × (ends b ≡ true)) ⊎ TodoFits s rest us)) ss
  TodoFits s (PastElse ∷ rest) ss = TodoFits s rest ss
  TodoFits s (Decide t q ∷ rest) ss = OnTruth (λ us. CondFits x s t × SeqFits x s q × TodoFits s rest us) ss
  TodoFits s (Again t q ∷ rest) ss = CondFits x s t × SeqFits x s q × TodoFits s rest ss
  TodoFits s (CountFor i q ∷ rest) ss = OnValue (λ m us. IsInt m × AreLoops x i × SeqFits x s q × TodoFits s rest us) ss
  TodoFits s (TurnFor i q ∷ rest) ss = AreLoops x i × SeqFits x s q × TodoFits s rest ss
  TodoFits s (CountTo i q ∷ rest) ss = OnValue (λ m us. IsInt m × AreLoops x i × SeqFits x s q × TodoFits s rest us) ss
  TodoFits s (TurnTo i q ∷ rest) ss = AreLoops x i × SeqFits x s q × TodoFits s rest ss
  TodoFits s (ToLabel ls ∷ rest) ss = OnValue (λ m us. IsInt m × LabelsFit x s ls × TodoFits s rest us) ss
  TodoFits s (GiveUp ∷ rest) ss = OnValue (λ m us. x.answer ≡ Some m) ss
  TodoFits s (Leave ∷ rest) ss = x.answer ≡ None
  TodoFits s (Begin f ∷ rest) ss = (w : Mode) × (o : Option Mode) × (out-Mode w ≡ Mode-F.Proc [] o) × MayStand (table x) w × MayCall ps (FullMode (table x) w) f × TodoFits s rest (result_on o ss) × (rest ≡ Serve 11 ∷ [])
  TodoFits s (Serve t ∷ rest) ss = (x.locals ≡ []) × ArgumentFits ss × ((n : ℕ) → AskFits x.answer (service t n) rest)

  -- ---- the locals

  -- Each local that has a value has one of its mode; a loop's own always have a word.
  pub record LocalsFit (s : Started) (ls : List Datum) : Type 0 where
    pub count : length ls ≡ length x.locals
    pub started : (i : ℕ) (m : Mode) → local_mode x i ≡ Some m → s i ≡ true → IsOf ps (table x) m (task.local ls i)
    pub loops : (i : ℕ) → IsLoop x i → (n : ℕ) × (task.local ls i ≡ Word n) × (n < 65536)

  -- ---- the next visible step

  -- what is to be done fits the values and the locals
  pub record Ready (todo : List Item) (ss : List Slot) (vs ls : List Datum) : Type 0 where
    pub has : Started
    pub fits : TodoFits has todo ss
    pub filled : FillAll ps (table x) ss vs
    pub locals : LocalsFit has ls

  -- the same, with a result to come
  pub record Awaits (o : Option Mode) (todo : List Item) (vs ls : List Datum) : Type 0 where
    pub has : Started
    pub slots : List Slot
    pub fits : TodoFits has todo (result_on o slots)
    pub filled : FillAll ps (table x) slots vs
    pub locals : LocalsFit has ls

  -- a place of mode m, or an item of the task's own data
  abbrev pub IsPlace : Mode → Location → Type 0
  IsPlace m l = LeadsTo ps (table x) m l ⊎ (MayStand (table x) m × LeadsOwn ps (table x) m (Reference l))

  abbrev pub AnswerFits : Option Mode → Option Datum → Type 0
  AnswerFits None None = Unit {0}
  AnswerFits (Some m) (Some d) = IsOf ps (table x) m d
  AnswerFits _ _ = ⊥

  -- The next visible step fits: nothing is lacking, and what is left fits. Where the numbers of the module lead is `e`.
  abbrev pub NextFits : Env → Next → Type 0
  NextFits e (Reads l todo vs ls) = (m : Mode) × (is_value (out-Mode m) ≡ true) × IsPlace m l × Awaits (Some m) todo vs ls
  NextFits e (Writes l d todo vs ls) = (m : Mode) × (is_value (out-Mode m) ≡ true) × IsPlace m l × IsOf ps (table x) m d × Awaits None todo vs ls
  NextFits e (Calls f args todo vs ls) =
      (w : Mode) × (ws : List Mode) × (o : Option Mode) × (out-Mode w ≡ Mode-F.Proc ws o) × MayStand (table x) w × MayCall ps (FullMode (table x) w) f × AreOf ps (table x) ws args × Awaits o todo vs ls × CalledAs ps x e w todo f
  NextFits e (Returns d) = AnswerFits x.answer d
  NextFits e (Jumps todo vs ls) = Awaits None todo vs ls
  NextFits e (Leaps l ls) = (k : Started) × (x.at_label l ≡ Some k) × LocalsFit k ls
  NextFits e (Asks r todo) = (x.locals ≡ []) × AskFits x.answer r todo
  NextFits e (Recovers l todo vs ls) = Awaits None todo vs ls
  NextFits e (Errors n) = n < 65536
  NextFits e Lacks = ⊥
