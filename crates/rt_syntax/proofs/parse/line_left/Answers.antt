use Rattle.std.proofs.Common.{◌≡◌, ◌-◌, Some, None, length, slice_get, refl, arith}
use Rattle.std.proofs.lemmas.Option.{slice_get_read, slice_get_past}
use Rattle.rt_syntax.proofs.parse.line_left.Goals as goal

pub returns-in-len1-up : goal.returns-in-len1-up
returns-in-len1-up c =
    let items = c.args.items.now in
    let past : slice_get items (length items - c.args.left) ≡ None = slice_get_past items (length items - c.args.left) (omega arith) in
    let last : slice_get items (length items - 1) ≡ Some c.last-item.result = slice_get_read items (length items) (length items - 1) c.last-item.result refl (omega arith) c.last-item.is in
    rw (past, last) refl
