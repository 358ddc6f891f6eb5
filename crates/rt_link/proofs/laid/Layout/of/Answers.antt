use Rattle.std.proofs.Common.{◌≡◌, ◌+◌, arith}
use Rattle.rt_link.specs.Room.{code_start, code_end}
use Rattle.rt_link.proofs.Looked.{bricks_are, strings_are}
use Rattle.rt_link.proofs.laid.Layout.of.Goals as goal

pub returns : goal.returns
returns c =
    let objects = c.args.objects.now in
    let stacks = c.args.stacks.now in
    let start : c.code_start-code.result ≡ code_start objects stacks = c.code_start-code.ensures in
    let code = c.all_code.ensures.code in
    let bytes = c.all_bytes.ensures.bytes in
    let end : c.code_start-code.result + c.all_code.result ≡ code_end objects stacks = omega arith in
    record {
      code = end;
      bytes = omega arith;
      bricks = bricks_are objects stacks c.in_ok-bricks.bricks c.code_start-code.result (c.code_start-code.result + c.all_code.result) start end c.in_ok-bricks.ensures;
      strings = strings_are objects stacks c.in_ok-strings.strings (c.code_start-code.result + c.all_code.result) end c.in_ok-strings.ensures;
      tasks = c.in_ok-tasks.ensures;
    }
