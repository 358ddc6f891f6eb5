use Rattle.std.proofs.Common.{refl}
use Rattle.rt_pieces.proofs.Fronts.{tail_is}
use Rattle.rt_pieces.proofs.Cuts.{cuts_finish, cuts_open, cuts_bad}
use Rattle.rt_pieces.proofs.Looking.{skip_goes}
use Rattle.rt_pieces.proofs.cut.look_at.Goals as goal

pub returns-in-Finish : goal.returns-in-Finish
returns-in-Finish c = cuts_finish c.args.total c.args.cursor.opened c.args.cursor.line c.args.cursor.rest.now c.in-Finish.ensures.step

pub returns-in-Open : goal.returns-in-Open
returns-in-Open c = cuts_open c.args.total c.args.cursor.opened c.args.cursor.line c.args.cursor.rest.now c.in-Open.ensures.step

pub returns-in-Bad : goal.returns-in-Bad
returns-in-Bad c = cuts_bad c.args.total c.args.cursor.opened c.args.cursor.line c.args.cursor.rest.now c.in-Bad.ensures.step

pub returns-in-Skip : goal.returns-in-Skip
returns-in-Skip c =
    skip_goes c.args.total c.args.cursor.opened c.args.cursor.line c.args.cursor.rest.now c.in-Skip.len c.in-Skip.lines _ _ _ c.in-Skip.ensures.step c.in-Skip.ensures.within c.requires.inside refl refl (tail_is c.args.cursor.rest.now c.in-Skip.len)
