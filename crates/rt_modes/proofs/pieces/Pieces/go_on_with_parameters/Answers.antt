use Rattle.std.proofs.Common.{arith}
use Rattle.std.proofs.lemmas.Bool.Decides.{nat_tests}
use Rattle.rt_modes.proofs.Stack.{one_more, begins, last_parameter}
use Rattle.rt_modes.proofs.pieces.Pieces.go_on_with_parameters.Goals as goal

pub returns-in_ok-push-in-Some-clause-piece : goal.returns-in_ok-push-in-Some-clause-piece
returns-in_ok-push-in-Some-clause-piece c =
    begins _ c.args.self.now.order.keys c.args.self.now.place _ _ c.args.self.now.todo c.push.new.self _ _ _
    (last_parameter c.args.rest.now c.args.answer.now _ _ (grind (arith, nat_tests)) c.in-Some.is c.get.ensures) c.in_ok-extend_from_slice-in-Some.ensures.items (one_more _ _ _ c.in_ok-push-in-Some.ensures.ok)
