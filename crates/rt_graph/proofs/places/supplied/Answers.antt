use Rattle.std.proofs.Common.{◌<◌, ◌-◌, arith}
use Rattle.std.proofs.lemmas.Option.{slice_get-get_or}
use Rattle.rt_modes.specs.declared.supplied.Supplied.TheVariants as brick
use Rattle.rt_modes.specs.declared.supplied.TheConstants.{SUPPLIED}
use Rattle.rt_graph.proofs.places.supplied.Goals as goal

pub returns : goal.returns
returns c = let h : c.args.number - 1 < 12 = (let a = c.requires.least in let b = c.requires.most in omega arith) in slice_get-get_or SUPPLIED (c.args.number - 1) brick.Rrin h
