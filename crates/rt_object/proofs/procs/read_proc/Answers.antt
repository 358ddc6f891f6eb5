use Rattle.std.proofs.Common.{sym}
use Rattle.rt_object.specs.Reading as reads
use Rattle.rt_object.proofs.procs.read_proc.Goals as goal

pub returns : goal.returns
unfolding reads.proc_reader reads.behind_mode
returns c =
    let known = c.args.known.now in
    rw (sym c.requires, c.in_ok-mode.ensures) (c.proc_of.ensures (reads.behind_mode known.records.now known.strings known.bricks c.in_ok-mode.mode c.in_ok-mode.rest.now) (c.read_inside.ensures c.in_ok-mode.mode))
