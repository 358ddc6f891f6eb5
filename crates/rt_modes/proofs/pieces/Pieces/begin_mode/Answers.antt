use Rattle.std.proofs.Common.{refl}
use Rattle.rt_modes.proofs.Modes.{words_ref, words_ref_array, words_array, words_proc}
use Rattle.rt_modes.proofs.Stack.{one_more, begins, says}
use Rattle.rt_modes.proofs.pieces.Pieces.begin_mode.Goals as goal

pub returns-in_ok-push-in-Ref-clause-piece : goal.returns-in_ok-push-in-Ref-clause-piece
returns-in_ok-push-in-Ref-clause-piece c =
    begins _ c.args.self.now.order.keys c.args.self.now.place _ _ c.args.self.now.todo c.push.new.self _ _ _
    (words_ref _ _ _ c.in-Ref.is c.get.ensures) c.in_ok-extend_from_slice-in-Ref.ensures.items (one_more _ _ _ c.in_ok-push-in-Ref.ensures.ok)

pub returns-in_ok-push-in-RefArray-clause-piece : goal.returns-in_ok-push-in-RefArray-clause-piece
returns-in_ok-push-in-RefArray-clause-piece c =
    begins _ c.args.self.now.order.keys c.args.self.now.place _ _ c.args.self.now.todo c.push-in-RefArray.new.self _ _ _
    (words_ref_array _ _ _ c.in-RefArray.is c.get-in-RefArray.ensures) c.in_ok-extend_from_slice-in-RefArray.ensures.items (one_more _ _ _ c.in_ok-push-in-RefArray.ensures.ok)

pub returns-in_ok-push-in-Array-clause-piece : goal.returns-in_ok-push-in-Array-clause-piece
returns-in_ok-push-in-Array-clause-piece c =
    begins _ c.args.self.now.order.keys c.args.self.now.place _ _ c.args.self.now.todo c.push-in-Array.new.self _ _ _
    (words_array _ _ _ _ c.in-Array.is c.get-in-Array.ensures) c.in_ok-put_array-in-Array.ensures (one_more _ _ _ c.in_ok-push-in-Array.ensures.ok)

pub returns-in_ok-push_parameters-in-Proc-clause-piece : goal.returns-in_ok-push_parameters-in-Proc-clause-piece
returns-in_ok-push_parameters-in-Proc-clause-piece c =
    rw (c.in_ok-push_parameters-in-Proc.ensures.words) (says _ _ _ _ _ _ _ _ (rw (words_proc _ _ _ _ c.in-Proc.is c.as_slice.ensures) refl) c.in_ok-extend_from_slice-in-Proc.ensures.items)
