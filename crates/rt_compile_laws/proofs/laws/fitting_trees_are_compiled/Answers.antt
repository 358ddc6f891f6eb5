use Rattle.rt_compile_laws.proofs.Whole.{fitting_trees_are_compiled}
use Rattle.rt_compile_laws.proofs.laws.fitting_trees_are_compiled.Goals as goal

pub returns : goal.returns
returns c = let laws = c.modes_have_sizes.ensures in fitting_trees_are_compiled (record { modes = laws.modes; fields = laws.fields; rings = laws.rings; known = laws.known })
