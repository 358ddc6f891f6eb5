use Rattle.rt_text_laws.proofs.Joined.{texts_promise}
use Rattle.rt_text_laws.proofs.systems.texts_promise.Goals as goal

pub returns : goal.returns
returns c = texts_promise c.trees_promise.ensures c.fitting_modules_promise.ensures c.full_data_open.ensures
