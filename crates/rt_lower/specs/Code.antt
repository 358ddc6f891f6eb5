-- The intermediate code of procedures and modules.
use Rattle.std.specs.Prelude.{◌≡◌, ℕ, ◌+◌, ◌-◌, ◌==◌, Bool, true, false, if◌then◌else◌, List, [], ◌∷◌, ◌++◌, length, Option, Some, None}
use Rattle.rt_modes.specs.declared.mode.Mode.{Mode}
use Rattle.rt_tree_nodes.specs.declared.brick.Brick.{Brick}
use Rattle.rt_tree_nodes.specs.declared.brick.BrickSort.{BrickSort}
use Rattle.rt_tree_nodes.specs.declared.brick.BrickSort.TheVariants as sort
use Rattle.rt_tree_nodes.specs.declared.brick.ModuleParts.{ModuleParts}
use Rattle.rt_tree_nodes.specs.declared.brick.ProcBody.{ProcBody}
use Rattle.rt_tree_nodes.specs.Tree.{Term, Cond, Is, Both, Either, Stmt, Keep, Clear, Put, Run, Toss, Goto, GiveBack, Back, Switch, Inner, If, For, To, While, Recover, Seq, Done, Then, Mark}
use Rattle.rt_tree.specs.Within.{tree_of, parameters_of}
use Rattle.rt_work_state.specs.Items.{or_else}
use Rattle.rt_icode.specs.declared.ins.Ins.{Ins}
use Rattle.rt_icode.specs.declared.ins.Ins.TheVariants as ins
use Rattle.rt_icode.specs.declared.procedure.IProc.{IProc}
use Rattle.rt_icode.specs.declared.procedure.IModule.{IModule}
use Rattle.rt_lower.specs.declared.layouts.Layouts.{Layouts}
use Rattle.rt_lower.specs.Layouts.{AreLayouts, number}
use Rattle.rt_lower.specs.Values.{site_of, wanted, written, width_of, value, address, alone}

-- where each label leads: the number of an instruction
abbrev pub Leads : Type 0
Leads = ℕ → ℕ

abbrev pub nowhere : Leads
nowhere l = 0

abbrev pub cases : Leads → List ℕ → List Ins
cases leads [] = []
cases leads (l ∷ ls) = ins.Case (leads l) ∷ cases leads ls

module _ (l : Layouts) where
  -- ---- conditions

  -- Where the truth is `when` it goes `beyond` instructions past the end of this code, and else on to its end. The right side is
  -- left out where the left one tells the truth.
  abbrev pub condition : Cond → Bool → ℕ → List Ins
  condition (Is r a b) when beyond = value l a ++ (value l b ++ ins.Test r when beyond ∷ [])
  condition (Both t u) true beyond = let right = condition u true beyond in condition t false (length right) ++ right
  condition (Both t u) false beyond = let right = condition u false beyond in condition t false (length right + beyond) ++ right
  condition (Either t u) true beyond = let right = condition u true beyond in condition t true (length right + beyond) ++ right
  condition (Either t u) false beyond = let right = condition u false beyond in condition t true (length right) ++ right

  -- ---- statements

  -- the start, the step and the end of a FOR whose variable is local i
  abbrev pub for_head : ℕ → Term → Term → Term → List Ins
  for_head i start step end = value l start ++ (ins.SaveLocal i ∷ (value l step ++ (ins.SaveLocal (i + 1) ∷ value l end)))

  -- Code that begins with instruction `at`. What a jump forward leaves out stands behind it: behind THEN what ELSE has, and behind a
  -- test or a count what it leads past, with the jump at its end.
  abbrev mutual
    pub statement : Leads → ℕ → Stmt → List Ins
    statement leads at (Keep i v) = value l v ++ ins.SaveLocal i ∷ []
    statement leads at (Clear i) = ins.ClearLocal i ∷ []
    statement leads at (Put m p v) = wanted (site_of l p) (address l p) ++ (value l v ++ written (width_of m) (site_of l p) ∷ [])
    statement leads at (Run v) = alone l v
    statement leads at (Toss v) = alone l v
    statement leads at (Goto k) = ins.Go (leads k) ∷ []
    statement leads at (GiveBack v) = value l v ++ ins.GiveUp ∷ []
    statement leads at Back = ins.Leave ∷ []
    statement leads at (Switch v ks) = value l v ++ (cases leads ks ++ ins.Discard ∷ [])
    statement leads at (Inner q) = sequence leads at q
    statement leads at (If t a b) =
        let test = condition t false (length (sequence nowhere 0 a) + 1) in
        let taken = sequence leads (at + length test) a in
        let other = sequence leads (at + length test + length taken + 1) b in
        test ++ (taken ++ (ins.Skip (length other) ∷ other))
    statement leads at (For i start step end q) =
        let head = for_head i start step end in
        let top = at + length head + 1 in
        let turn = sequence leads top q in
        head ++ (ins.CountFor i (length turn + 1) ∷ (turn ++ ins.TurnFor i top ∷ []))
    statement leads at (To i n q) =
        let top = at + length (value l n) + 1 in
        let turn = sequence leads top q in
        value l n ++ (ins.CountTo i (length turn + 1) ∷ (turn ++ ins.TurnTo i top ∷ []))
    statement leads at (While t q) =
        let test = condition t false (length (sequence nowhere 0 q) + 1) in
        test ++ (sequence leads (at + length test) q ++ ins.Go at ∷ [])
    statement leads at (Recover k) = []

    pub sequence : Leads → ℕ → Seq → List Ins
    sequence leads at Done = []
    sequence leads at (Then s q) = let first = statement leads at s in first ++ sequence leads (at + length first) q
    sequence leads at (Mark k q) = sequence leads at q

  -- how many instructions a part becomes, wherever its labels lead
  abbrev pub extent : Seq → ℕ
  extent q = length (sequence nowhere 0 q)

  abbrev pub reach : Stmt → ℕ
  reach s = length (statement nowhere 0 s)

  abbrev pub span : Cond → ℕ
  span t = length (condition t false 0)

  -- ---- where a label leads: the number of the first instruction behind it, where the code begins with instruction `at`

  abbrev mutual
    pub place : ℕ → ℕ → Seq → Option ℕ
    place k at Done = None
    place k at (Then s q) = or_else (place_inside k at s) (place k (at + reach s) q)
    place k at (Mark j q) = if j == k then Some at else place k at q

    pub place_inside : ℕ → ℕ → Stmt → Option ℕ
    place_inside k at (Inner q) = place k at q
    place_inside k at (If t a b) = or_else (place k (at + span t) a) (place k (at + span t + extent a + 1) b)
    place_inside k at (For i start step end q) = place k (at + length (for_head i start step end) + 1) q
    place_inside k at (To i n q) = place k (at + length (value l n) + 1) q
    place_inside k at (While t q) = place k (at + span t) q
    place_inside k at _ = None

  -- in a procedure, where the frame is made before all else
  abbrev pub leads_in : Seq → Leads
  leads_in q k = number (place k 1 q)

  -- ---- procedures

  -- the frame, the statements, and the end
  abbrev pub code_behind : Ins → Seq → List Ins
  code_behind enter q = enter ∷ (sequence (leads_in q) 1 q ++ ins.Leave ∷ [])

  -- a procedure with so many parameters, and locals behind them
  abbrev pub code_of : ℕ → ℕ → ℕ → Seq → List Ins
  code_of brick parameters locals q = code_behind (ins.Enter brick parameters locals false) q

  abbrev pub procedure : ModuleParts → ℕ → Brick → Mode → ProcBody → IProc
  procedure p k d m b = record { name = d.name; items = b.items; code = code_of k (parameters_of m) (length b.locals - parameters_of m) (tree_of p b) }

  abbrev pub procedure_with : ModuleParts → ℕ → Brick → Mode → Option ProcBody → List IProc
  procedure_with p k d m None = []
  procedure_with p k d m (Some b) = procedure p k d m b ∷ []

  -- an own or ENT procedure has a body
  abbrev pub procedure_by : ModuleParts → ℕ → Brick → BrickSort → List IProc
  procedure_by p k d (sort.Proc m body) = procedure_with p k d m body
  procedure_by p k d _ = []

  -- those of bricks from number k on
  abbrev pub procedures : ModuleParts → ℕ → List Brick → List IProc
  procedures p k [] = []
  procedures p k (d ∷ ds) = procedure_by p k d d.sort ++ procedures p (k + 1) ds

  abbrev pub intermediate : ModuleParts → IModule
  intermediate p = record { procs = procedures p 0 p.bricks }

-- the intermediate code of a module, by how its data lie
pub record IsIntermediate (p : ModuleParts) (m : IModule) : Type 0 where
  pub layouts : Layouts
  pub right : AreLayouts p layouts
  pub code : m ≡ intermediate layouts p
