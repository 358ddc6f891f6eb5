use Rattle.std.proofs.Common.{ℕ, ap, drop, ◌∙◌}
use Rattle.rt_pieces.proofs.Fronts.{tail_is}
use Rattle.rt_items.proofs.texts.past_blanks.Goals as goal

pub returns : goal.returns
returns c = tail_is c.args.bytes.now c.blank_len-len.result ∙ ap (λ (k : ℕ). drop k c.args.bytes.now) c.blank_len-len.ensures
