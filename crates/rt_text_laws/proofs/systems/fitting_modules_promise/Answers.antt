use Rattle.rt_text_laws.proofs.Joined.{fitting_modules_promise}
use Rattle.rt_text_laws.proofs.systems.fitting_modules_promise.Goals as goal

pub returns : goal.returns
returns c = fitting_modules_promise c.modules_fit.ensures
