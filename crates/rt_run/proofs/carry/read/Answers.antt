use Rattle.std.proofs.Common.{Some, arith}
use Rattle.rt_run.proofs.Feeding.{gives_byte}
use Rattle.rt_run.proofs.carry.read.Goals as goal

pub returns-in-Byte-clause-read : goal.returns-in-Byte-clause-read
returns-in-Byte-clause-read g c =
    let n = c.in-Byte in
    record {
      next = Some n.byte;
      takes = gives_byte (g.I.Source.left c.args.input.now) (g.I.Source.left c.next.new.self) (g.I.Source.ended c.args.input.now) (g.I.Source.ended c.next.new.self) n.byte (omega arith) n.ensures.takes n.ensures.end;
      number = c.from.ensures;
    }
