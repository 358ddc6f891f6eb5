use Rattle.rt_text_laws.proofs.Joined.{lists_have_texts}
use Rattle.rt_text_laws.proofs.systems.lists_have_texts.Goals as goal

pub returns : goal.returns
returns c = lists_have_texts
