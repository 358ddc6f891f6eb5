-- What is answered of a module.
use Rattle.std.specs.Prelude.{ℕ, ◌+◌, ◌≤◌, List, [], ◌∷◌, map}
use Rattle.rt_bricks.specs.declared.tree.Declaration.{Declaration}
use Rattle.rt_check_declared.specs.declared.bricks.Heading.{Heading}
use Rattle.rt_exprs.specs.Sights.{Sight, Names as Level}
use Rattle.rt_modes.specs.declared.mode.RecordDef.{RecordDef}
use Rattle.rt_check_faults.specs.declared.fault.CheckFault.{CheckFault}
use Rattle.rt_check_faults.specs.Outcomes.{IsLeast}
use Rattle.rt_syntax.specs.Strings.{Texts}
use Rattle.rt_check_module.specs.Tree.{records, texts_from}
use Rattle.rt_check_module.specs.Faults.{Stands}

-- strings from item low on, each behind the one before it
abbrev pub Rise : ℕ → Texts → Type 0
Rise low [] = Unit {0}
Rise low (t ∷ ts) = (low ≤ t.0) × Rise (t.0 + 1) ts

-- The strings of a module stand each behind the one before it, however its bricks are declared: so they do where the grammar
-- derives the module.
abbrev pub StringsRise : List Declaration → Type 0
StringsRise ds = (hs : List Heading) → Rise 0 (texts_from (records ds).records [] hs ds)

-- The strings of bricks that are declared so stand each behind the one before it.
abbrev pub TextsRise : List RecordDef → List Heading → List Declaration → Type 0
TextsRise rs hs ds = Rise 0 (texts_from rs [] hs ds)

-- what the bricks that are declared so see, where the module's names stand for this
abbrev pub sight_of : List RecordDef → List Heading → List Declaration → Level → Sight
sight_of rs hs ds l = record { records = rs; strings = map (λ t. t.0) (texts_from rs [] hs ds); levels = l ∷ [] }

-- the fault stands in the module, and counts of all that stand
abbrev pub Refuses : List Declaration → CheckFault → Type 0
Refuses ds g = IsLeast (Stands ds) g
