use Rattle.std.proofs.Common.{◌≤◌, ℕ, List, [], ◌∷◌, length, drop, arith, length-append}
use Rattle.rt_report.specs.Lines.{behind, text_of, texts_of}
use Rattle.rt_report.proofs.line.put_line.Goals as goal

some_left : (ws : List (List ℕ)) → 1 ≤ length (behind ws)
some_left [] = omega arith
some_left (w ∷ ws) = omega arith

pub returns-in_err-push_all-clause-room : goal.returns-in_err-push_all-clause-room
returns-in_err-push_all-clause-room c = λ fits.
    let whole = length-append (text_of c.args.first) (behind (texts_of c.args.rest.now)) in
    let some = some_left (texts_of (drop c.loop-word.word-index c.args.rest.now)) in
    let bad = c.in_err-push_all.ensures.succeeds (omega (arith, fits, whole, some, c.loop-word.invariant.1, c.in_ok-put_word.ensures.spare)) in
    cc
