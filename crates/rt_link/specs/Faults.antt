-- The faults of the stages as faults of a system. Want of memory is one, whichever stage met it.
use Rattle.rt_match.specs.declared.fault.MatchFault.{MatchFault}
use Rattle.rt_match.specs.declared.fault.MatchFault.TheVariants as matching
use Rattle.rt_graph.specs.declared.fault.GraphFault.{GraphFault}
use Rattle.rt_graph.specs.declared.fault.GraphFault.TheVariants as graph
use Rattle.rt_link.specs.declared.fault.LinkFault.{LinkFault}
use Rattle.rt_link.specs.declared.fault.LinkFault.TheVariants as fault

abbrev pub of_match : MatchFault → LinkFault
of_match matching.Memory = fault.Memory
of_match f = fault.Unmatched f

abbrev pub of_graph : GraphFault → LinkFault
of_graph graph.Memory = fault.Memory
of_graph f = fault.Refused f
