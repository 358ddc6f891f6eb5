-- What the nodes of a procedure see is there in the tree.
use Rattle.std.specs.Prelude.{◌≡◌, ℕ, true, List, [], ◌∷◌, length, Option, Some, None, slice_get}
use Rattle.std.specs.List.{AllByRecursion}
use Rattle.rt_modes.specs.declared.mode.Mode.{Mode}
use Rattle.rt_modes.specs.declared.mode.RecordDef.{RecordDef}
use Rattle.rt_tree_nodes.specs.Scopes.{Scope}
use Rattle.rt_exprs.specs.declared.scope.Meaning.{Meaning}
use Rattle.rt_exprs.specs.declared.scope.Meaning.TheVariants as meaning
use Rattle.rt_tree.specs.Statements.{Sight as Seen, sees}
use Rattle.rt_exprs_laws.specs.Agreeing.{IsThere, HasItems, IsValue}
use Rattle.rt_exprs.specs.Sights.{Names, Sight}
use Rattle.rt_check_bodies.specs.declared.answer.Answer.{Answer}
use Rattle.rt_check_bodies.specs.declared.answer.Answer.TheVariants as answer

-- a name of a sequence's label is seen where the label is
abbrev pub LabelSeen : Seen → Meaning → Type 0
LabelSeen seen (meaning.Label k) = sees seen.seen k ≡ true
LabelSeen seen _ = Unit {0}

module _ (c : Scope) where
  abbrev pub EntryHolds : Seen → List ℕ × Meaning → Type 0
  EntryHolds seen x = IsThere c x.1 × LabelSeen seen x.1

  abbrev pub LevelHolds : Seen → Names → Type 0
  LevelHolds seen [] = Unit {0}
  LevelHolds seen (x ∷ xs) = EntryHolds seen x × LevelHolds seen xs

  abbrev pub LevelsHold : Seen → List Names → Type 0
  LevelsHold seen [] = Unit {0}
  LevelsHold seen (l ∷ ls) = LevelHolds seen l × LevelsHold seen ls

  pub record Holds (s : Sight) (seen : Seen) : Type 0 where
    pub records : s.records ≡ c.records
    pub fields : (r : ℕ) (d : RecordDef) → slice_get c.records r ≡ Some d → HasItems d
    pub strings : length s.strings ≡ c.strings
    pub levels : LevelsHold seen s.levels

-- ---- what can be known

-- the mode of what a name stands for can be known
abbrev pub IsKnown : Meaning → Type 0
IsKnown meaning.UnknownProc = ⊥
IsKnown meaning.Unknown = ⊥
IsKnown _ = Unit {0}

abbrev pub LevelKnown : Names → Type 0
LevelKnown = AllByRecursion (λ x. IsKnown x.1)

-- nothing is seen whose mode can't be known
abbrev pub AllKnown : Sight → Type 0
AllKnown s = AllByRecursion LevelKnown s.levels

-- ---- the result of the procedure

abbrev pub ResultIs : Answer → Option Mode → Type 0
ResultIs answer.Nothing None = Unit {0}
ResultIs (answer.Wanted m) (Some n) = (m ≡ n) × IsValue m
ResultIs _ _ = ⊥
