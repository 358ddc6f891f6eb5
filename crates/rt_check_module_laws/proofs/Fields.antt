-- What the items of a data brick are declared with, where no fault stands in their modes.
use Rattle.std.proofs.Common.{◌≡◌, ℕ, List, [], ◌∷◌, ◌++◌, map, refl}
use Rattle.std.specs.List.{AllByRecursion}
use Rattle.rt_bricks.specs.declared.tree.DataLine.{DataLine}
use Rattle.rt_modes.specs.declared.mode.Mode.{Mode}
use Rattle.rt_check_faults.specs.declared.fault.CheckFault.{CheckFault}
use Rattle.rt_check_declared.specs.declared.site.Site.TheVariants as site
use Rattle.rt_check_declared.specs.declared.written.Resolved.{Resolved}
use Rattle.rt_check_declared.specs.Fields.{faults_by}
use Rattle.rt_check_declared.specs.Names.{idents}
use Rattle.rt_check_declared.specs.Parts.{line_by, part, item_parts, item_faults}
use Rattle.rt_check_declared.specs.Verdicts.{Verdict}
use Rattle.rt_check_declared.specs.Written.{Names, written}
use Rattle.rt_bricks_laws.proofs.AllLists.{all_joined}
use Rattle.rt_check_module_laws.specs.Starts.{AllAreFields}
use Rattle.rt_check_module_laws.proofs.Parts.{PartHas, are_fields, line_has}

pub none_left : (xs ys : List CheckFault) → xs ++ ys ≡ [] → xs ≡ []
none_left [] ys e = refl
none_left (x ∷ xs) ys e = absurd cc

pub none_right : (xs ys : List CheckFault) → xs ++ ys ≡ [] → ys ≡ []
none_right [] ys e = e
none_right (x ∷ xs) ys e = absurd cc

-- ---- what items are declared with

-- whatever its mode is, it has one
abbrev Any : List ℕ → Mode → Type 0
Any n m = Unit {0}

module _ (names : Names) where
  all_have_modes : (ls : List DataLine) → item_faults names ls ≡ [] → AllByRecursion (PartHas Any) (item_parts names ls)
  all_have_modes [] e = tt
  all_have_modes (l ∷ ls) e =
      let v : Verdict Resolved = written names l.mode site.Item in
      all_joined (PartHas Any) (map (part (line_by v)) (idents l.items)) (item_parts names ls)
      (line_has Any v (idents l.items) (none_left (faults_by v (idents l.items)) (item_faults names ls) e) (λ m q name. tt)) (all_have_modes ls (none_right (faults_by v (idents l.items)) (item_faults names ls) e))

pub all_are_fields : AllAreFields
all_are_fields names ls e = let z = are_fields Any (item_parts names ls) (all_have_modes names ls e) in (z.fields, z.is)
