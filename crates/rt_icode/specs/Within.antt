-- When intermediate code stays within what the machine's code of its procedure may take.
use Rattle.std.specs.Prelude.{◌≡◌, ℕ, ◌+◌, ◌*◌, ◌<◌, ◌≤◌, Bool, true, false, ◌==◌, length, map, sum, Option, Some, None, slice_get}
use Rattle.std.specs.List.{AllByRecursion}
use Rattle.rt_icode.specs.declared.ins.Division.{Division}
use Rattle.rt_icode.specs.declared.ins.OwnItem.TheVariants as item
use Rattle.rt_icode.specs.declared.ins.Ins.{Ins}
use Rattle.rt_icode.specs.declared.ins.Ins.TheVariants as ins
use Rattle.rt_icode.specs.declared.procedure.IProc.{IProc}
use Rattle.rt_icode.specs.declared.procedure.IModule.{IModule}
use Rattle.rt_icode.specs.Weights.{words_of, unmarked_of}

-- the instruction, besides the next, that instruction k may lead to
abbrev pub leads : ℕ → Ins → Option ℕ
leads k (ins.Test r w more) = Some (k + 1 + more)
leads k (ins.Skip more) = Some (k + 1 + more)
leads k (ins.CountFor i more) = Some (k + 1 + more)
leads k (ins.CountTo i more) = Some (k + 1 + more)
leads k (ins.DivideOr d) = Some (k + 3)
leads k (ins.Go to) = Some to
leads k (ins.Case to) = Some to
leads k (ins.TurnFor i to) = Some to
leads k (ins.TurnTo i to) = Some to
leads k (ins.Recover to) = Some to
leads k _ = None

-- whether the next instruction may come after it
abbrev pub goes_on : Ins → Bool
goes_on (ins.Skip more) = false
goes_on (ins.Go to) = false
goes_on ins.GiveUp = false
goes_on ins.Leave = false
goes_on _ = true

abbrev pub is_enter : Ins → Bool
is_enter (ins.Enter b p l r) = true
is_enter _ = false

-- The frame is made first, and there alone; nothing leads out of the procedure; a division that may fail has its report behind it;
-- and the procedure weighs no more than its items allow.
pub record IsWithin (p : IProc) : Type 0 where
  pub enters : (k : ℕ) (i : Ins) → slice_get p.code k ≡ Some i → is_enter i ≡ k == 0
  pub begins : 1 ≤ length p.code
  pub next : (k : ℕ) (i : Ins) → slice_get p.code k ≡ Some i → goes_on i ≡ true → k + 1 < length p.code
  pub ways : (k : ℕ) (i : Ins) (to : ℕ) → slice_get p.code k ≡ Some i → leads k i ≡ Some to → to < length p.code
  pub reports : (k : ℕ) (d : Division) → slice_get p.code k ≡ Some (ins.DivideOr d) → (slice_get p.code (k + 1) ≡ Some (ins.LoadOwn item.Erp)) × (slice_get p.code (k + 2) ≡ Some ins.Report)
  pub words : sum (map words_of p.code) ≤ 12 * p.items + 16
  pub unmarked : sum (map unmarked_of p.code) ≤ 24 * p.items

abbrev pub AreWithin : IModule → Type 0
AreWithin m = AllByRecursion IsWithin m.procs
