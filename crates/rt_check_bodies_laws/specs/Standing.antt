-- Where the mode that is written may stand.
use Rattle.std.specs.Prelude.{◌≡◌, ℕ, true, nat_lt, List, Some}
use Rattle.rt_syntax_exprs.specs.declared.tree.WrittenMode.{WrittenMode}
use Rattle.rt_modes.specs.declared.mode.Mode.{Mode, out-Mode}
use Rattle.rt_exprs.specs.declared.scope.Meaning.TheVariants as meaning
use Rattle.rt_tree.specs.declared.standing.Standing.{Standing}
use Rattle.rt_tree.specs.declared.standing.Standing.TheVariants as standing
use Rattle.rt_tree.specs.Modules.{stands}
use Rattle.rt_check_declared.specs.declared.site.Site.{Site}
use Rattle.rt_check_declared.specs.declared.site.Site.TheVariants as site
use Rattle.rt_check_declared.specs.Verdicts.{fit}
use Rattle.rt_check_declared.specs.Written.{Names, judged, length_fits}
use Rattle.rt_bricks_laws.specs.Shallow.{shallow}

abbrev pub standing_of : Site → Standing
standing_of site.Item = standing.Alone
standing_of site.Variable = standing.Passed
standing_of site.Inside = standing.Inside
standing_of site.Argument = standing.Passed

-- a MODE is one of so many records
abbrev pub AreRecords : ℕ → Names → Type 0
AreRecords records names = (n : List ℕ) (r : ℕ) → names n ≡ Some (meaning.Mode r) → nat_lt r records ≡ true

-- The mode that is written may stand at its place, where no more modes open in what is written, and its length is in range.
abbrev pub WrittenModesStand : Type 0
WrittenModesStand = (names : Names) (records : ℕ) (w : WrittenMode) (place : Site) (m : Mode) (levels refs : ℕ) → AreRecords records names → shallow w levels refs ≡ true
    → judged names w place ≡ fit m → length_fits (out-Mode m) ≡ true → stands records m (standing_of place) levels refs ≡ true
