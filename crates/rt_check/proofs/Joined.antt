-- The faults of a whole module.
use Rattle.std.proofs.Common.{◌⊎◌, inl, inr, List, Option}
use Rattle.rt_bricks.specs.declared.tree.Declaration.{Declaration}
use Rattle.rt_check_faults.specs.declared.fault.CheckFault.{CheckFault}
use Rattle.rt_check_declared.specs.Heads.{noted}
use Rattle.rt_check_declared.specs.Records.{Counts}
use Rattle.rt_check_module.specs.Tree.{Somewhere, sight, headings, records}
use Rattle.rt_check_module.specs.Faults.{in_names, in_modes, in_bricks, inside}
use Rattle.rt_check_module.specs.Faults.{Stands, Inside}
use Rattle.rt_check_module.specs.Scenes.{StandsOutside}
use Rattle.rt_check_declared.proofs.Counted.{either_counts, counts_as}

module _ (ds : List Declaration) where
  abbrev StandsInside : CheckFault → Type 0
  StandsInside g = Somewhere (Inside (sight ds) (records ds) g) (headings ds) ds

  to : (g : CheckFault) → StandsOutside ds g ⊎ StandsInside g → Stands ds g
  to g (inl (inl (inl h))) = in_names h
  to g (inl (inl (inr h))) = in_modes h
  to g (inl (inr h)) = in_bricks h
  to g (inr h) = inside h

  from : (g : CheckFault) → Stands ds g → StandsOutside ds g ⊎ StandsInside g
  from g (in_names h) = inl (inl (inl h))
  from g (in_modes h) = inl (inl (inr h))
  from g (in_bricks h) = inl (inr h)
  from g (inside h) = inr h

  pub whole_counts : (f h : Option CheckFault) → Counts (StandsOutside ds) f → Counts StandsInside h → Counts (Stands ds) (noted f h)
  whole_counts f h outside within = counts_as (λ g. StandsOutside ds g ⊎ StandsInside g) (Stands ds) to from (noted f h) (either_counts (StandsOutside ds) StandsInside f h outside within)
