use Rattle.std.proofs.Common.{refl, sym, subst}
use Rattle.rt_accept.specs.Calls.{outside, Tells}
use Rattle.rt_top.specs.Top.{words_line}
use Rattle.rtl2.proofs.answer.refuse_words.Goals as goal

pub returns : goal.returns
returns g c = λ store left faults. record {
  tells = subst (λ n. Tells words_line 10 (outside store.files store.writes (g.O.Sink.written c.args.output.now) (g.O.Sink.faults c.args.output.now)) (outside store.files store.writes (g.O.Sink.written c.tell-status.new.output) (g.O.Sink.faults c.tell-status.new.output)) n) (sym c.explained.ensures) (c.tell-status.ensures store.files store.writes);
  input = record { left = refl; faults = refl };
}
