use Rattle.rt_check_bodies_laws.proofs.Shallow.{written_stands}
use Rattle.rt_check_bodies_laws.proofs.laws.written_modes_stand.Goals as goal

pub returns : goal.returns
returns c names records w place m levels refs known s e f = (written_stands names records known w place m e).may levels refs s f
