use Rattle.rt_tree_laws.proofs.DataItems.{full_data_opens}
use Rattle.rt_tree_laws.proofs.laws.full_data_open.Goals as goal

pub returns : goal.returns
returns c t u fs gs gt gu hf hg e = full_data_opens t u gt gu fs gs hf hg e
