use Rattle.std.proofs.Common.{inr, ◌∙◌}
use Rattle.rt_accept.specs.Calls.{stock}
use Rattle.rtl2.proofs.Results.{if_ok_never, if_err_by}
use Rattle.rtl2.proofs.answer.run.Goals as goal

pub returns-in_default : goal.returns-in_default
returns-in_default g c = record {
  words = if_ok_never _ _ c.in-Err.error c.in-Err.is;
  no_words = if_err_by _ _ c.in-Err.error c.in-Err.is (inr ((λ same. c.in_default.not-OutOfMemory (c.kind.ensures ∙ same)), c.refuse_words.ensures (stock g.S.Store.files g.S.Store.read_faults g.S.Store.write_faults c.args.store.now) _ _));
}
