-- What the intermediate code of a typed module keeps.
use Rattle.std.specs.Prelude.{◌≡◌, ℕ, ◌+◌, ◌≤◌, Bool, true, false, List, [], ◌∷◌, length, Option, Some, slice_get, if◌then◌else◌}
use Rattle.std.specs.List.{AllByRecursion}
use Rattle.rt_modes.specs.declared.mode.Mode.{Mode}
use Rattle.rt_tree_nodes.specs.declared.brick.ModuleParts.{ModuleParts}
use Rattle.rt_tree_nodes.specs.declared.brick.ProcBody.{ProcBody}
use Rattle.rt_tree_nodes.specs.Scopes.{scope_of}
use Rattle.rt_tree_nodes.specs.Tree.{Stmt, Keep, Clear, Inner, If, For, To, While, Seq, Done, Then, Mark}
use Rattle.rt_tree.specs.Modules.{every_node_fits, proc_fits}
use Rattle.rt_tree.specs.Within.{Within, tree_of}
use Rattle.rt_icode.specs.declared.ins.Ins.{Ins}
use Rattle.rt_icode.specs.declared.ins.Ins.TheVariants as ins
use Rattle.rt_icode.specs.declared.procedure.IProc.{IProc}
use Rattle.rt_icode.specs.declared.procedure.IModule.{IModule}
use Rattle.rt_icode.specs.Within.{AreWithin}
use Rattle.rt_lower.specs.declared.layouts.Layouts.{Layouts}
use Rattle.rt_lower.specs.Code.{IsIntermediate, code_of, leads_in, extent}

abbrev pub CodeIsWithin : Type 0
CodeIsWithin = (p : ModuleParts) (m : IModule) → every_node_fits p ≡ true → Within p → IsIntermediate p m → AreWithin m

-- ---- recovery

-- neither makes a record for recovery nor uses one
abbrev pub is_plain : Ins → Bool
is_plain (ins.Enter b p l recovers) = if recovers then false else true
is_plain (ins.Recover to) = false
is_plain ins.Restore = false
is_plain _ = true

abbrev pub IsPlain : IProc → Type 0
IsPlain p = (k : ℕ) (i : Ins) → slice_get p.code k ≡ Some i → is_plain i ≡ true

abbrev pub NoneRecovers : Type 0
NoneRecovers = (p : ModuleParts) (m : IModule) → IsIntermediate p m → AllByRecursion IsPlain m.procs

-- ---- locals

-- how many locals the nodes give room for: a start for one, a loop for three
abbrev mutual
  pub room : Stmt → ℕ
  room (Keep i v) = 1
  room (Clear i) = 1
  room (Inner q) = room_in q
  room (If t a b) = room_in a + room_in b
  room (For i start step end q) = 3 + room_in q
  room (To i n q) = 3 + room_in q
  room (While t q) = room_in q
  room _ = 0

  pub room_in : Seq → ℕ
  room_in Done = 0
  room_in (Then s q) = room s + room_in q
  room_in (Mark l q) = room_in q

abbrev pub LocalsHaveRoom : Type 0
LocalsHaveRoom = (p : ModuleParts) (ms : List Mode) (r : Option Mode) (b : ProcBody) → proc_fits (scope_of p) ms r b ≡ true → length b.locals ≤ length ms + room_in (tree_of p b)

-- ---- labels

abbrev pub LabelsLeadInside : Type 0
LabelsLeadInside = (l : Layouts) (q : Seq) (k : ℕ) → leads_in l q k ≤ 1 + extent l q

-- ---- frames

abbrev pub behind_first : List Ins → List Ins
behind_first [] = []
behind_first (i ∷ is) = is

abbrev pub FramesAloneDiffer : Type 0
FramesAloneDiffer = (l : Layouts) (b c p r n m : ℕ) (q : Seq) → behind_first (code_of l b p n q) ≡ behind_first (code_of l c r m q)
