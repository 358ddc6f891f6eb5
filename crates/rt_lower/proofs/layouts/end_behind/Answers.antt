use Rattle.std.proofs.Common.{◌≡◌, ℕ, Some}
use Rattle.rt_modes.specs.declared.mode.Mode.{out-Mode}
use Rattle.rt_sizes.specs.declared.size.Size.TheVariants as size
use Rattle.rt_lower.proofs.Offsets.{ok_then, end_is}
use Rattle.rt_lower.proofs.layouts.end_behind.Goals as goal

pub returns : goal.returns
returns c =
    ok_then (λ (e : ℕ). Some c.behind.result ≡ Some (size.Bytes e)) _ c.few-2.result
    (λ e h t a.
    let b = c.data_size.ensures.size t a (size.Bytes c.in_ok-size.size) c.in_ok-size.ensures in
    (b.0, b.1, end_is (out-Mode c.args.mode.now) c.args.before c.in_ok-size.size e b.0 c.behind.result c.behind.ensures h b.2))
    c.few-2.ensures
