use Rattle.std.proofs.Common.{◌≡◌, ◌-◌, ℕ, slice_get, Bool, List, Some, None, if◌then◌else◌, sym, ap, ◌∙◌, subst}
use Rattle.rt_modes.specs.Bricks.{brick_numbered, text_in}
use Rattle.rt_modes.specs.declared.supplied.TheConstants.{SUPPLIED}
use Rattle.rt_graph.proofs.Supplied.{text_is}
use Rattle.rt_graph.proofs.places.supplied_mode.Goals as goal

pub returns : goal.returns
returns c =
    let k = c.args.number in
    let tested = sym c.is_supplied.ensures ∙ c.if-not-is_supplied.false in
    ap (λ (t : List ℕ). Some t) (c.in_ok-text.ensures ∙ c.as_bytes.ensures.value ∙ c.text.ensures ∙ text_is k c.supplied-brick.result tested (subst (λ (n : ℕ). slice_get SUPPLIED (n - 1) ≡ Some c.supplied-brick.result) c.from.ensures c.supplied-brick.ensures))
    ∙ sym (ap (λ (b : Bool). if b then Some (text_in (brick_numbered k)) else None) tested)
