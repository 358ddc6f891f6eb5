use Rattle.rt_tree_nodes.specs.Scopes.{scope_of}
use Rattle.rt_compile.proofs.Counted.{data_counts}
use Rattle.rt_compile.proofs.Fitting.{procs_are_proc, starts_fit}
use Rattle.rt_compile.proofs.data_laws.bytes_are_counted.Goals as goal

pub returns : goal.returns
returns c = λ l p fs ss n fits b end. data_counts l (scope_of p) (procs_are_proc p fits) fs ss n (starts_fit p fits fs ss b) end
