-- The laws of the definitions.
use Rattle.std.specs.Prelude.{◌≡◌, Bool, List}
use Rattle.rt_tree_nodes.specs.declared.store.Proc.{Proc}
use Rattle.rt_tree.specs.Stored.{System}
use Rattle.rt_guarded.specs.Families.{Family, Inside, IsHeld, IsMay}
use Rattle.rt_guarded.specs.Tests.{Guard}
use Rattle.rt_guarded.specs.Verdicts.{Verdict, IsVerdict}

-- Held is one family, and so is May
abbrev pub HeldIsOne : Type 0
HeldIsOne = (ps : System) (rs : List Proc) (H G : Family) → IsHeld ps rs H → IsHeld ps rs G → Inside H G

abbrev pub MayIsOne : Type 0
MayIsOne = (ps : System) (rs : List Proc) (M G : Family) → IsMay ps rs M → IsMay ps rs G → Inside M G

-- a system and a script have one verdict at most
abbrev pub VerdictsAreOne : Type 0
VerdictsAreOne = (ps : System) (rs : List Proc) (guards : List Guard) (order : Bool) (v w : Verdict) → IsVerdict ps rs guards order v → IsVerdict ps rs guards order w → v ≡ w
