use Rattle.std.proofs.Common.{ℕ, ap}
use Rattle.rt_syntax.specs.declared.tree.Body.{Body}
use Rattle.rt_syntax.proofs.Exact.{one_body}
use Rattle.rt_syntax.proofs.parse.one_body.Goals as goal

pub returns : goal.returns
returns g = λ items at b c p q d e.
    let same = one_body items at b c p q d e in
    (ap (λ (t : Body × ℕ). t.0) same, ap (λ (t : Body × ℕ). t.1) same)
