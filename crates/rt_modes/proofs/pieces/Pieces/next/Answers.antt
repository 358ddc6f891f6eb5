use Rattle.std.proofs.Common.{refl, append_assoc}
use Rattle.rt_modes.specs.Left.{stacked}
use Rattle.rt_modes.proofs.Stack.{one_more, says}
use Rattle.rt_modes.proofs.pieces.Pieces.next.Goals as goal

pub returns-in_ok-begin_mode-in-Some-Mode-clause-piece : goal.returns-in_ok-begin_mode-in-Some-Mode-clause-piece
returns-in_ok-begin_mode-in-Some-Mode-clause-piece c = rw (one_more _ _ _ c.in-Some-Mode.ensures, c.in-Some-Mode.field-0-is) c.in_ok-begin_mode-in-Some-Mode.ensures.piece

pub returns-in_ok-go_on_with_parameters-in-Some-Parameters-clause-piece : goal.returns-in_ok-go_on_with_parameters-in-Some-Parameters-clause-piece
returns-in_ok-go_on_with_parameters-in-Some-Parameters-clause-piece c =
    rw (one_more _ _ _ c.in-Some-Parameters.ensures, c.in-Some-Parameters.field-0-is) c.in_ok-go_on_with_parameters-in-Some-Parameters.ensures.piece

pub returns-in_ok-go_on_with_fields-in-Some-Fields-clause-piece : goal.returns-in_ok-go_on_with_fields-in-Some-Fields-clause-piece
returns-in_ok-go_on_with_fields-in-Some-Fields-clause-piece c =
    rw (one_more _ _ _ c.in-Some-Fields.ensures, c.in-Some-Fields.field-0-is) c.in_ok-go_on_with_fields-in-Some-Fields.ensures.piece

pub returns-in_ok-extend_from_slice-in-Some-Name-2-clause-piece : goal.returns-in_ok-extend_from_slice-in-Some-Name-2-clause-piece
returns-in_ok-extend_from_slice-in-Some-Name-2-clause-piece c =
    rw (one_more _ _ _ c.in-Some-Name.ensures, c.in-Some-Name.field-0-is)
    (says _ c.args.self.now.order.keys c.args.self.now.place _ (stacked c.pop.new.self) _ _ _ refl (rw (c.in_ok-extend_from_slice-in-Some-Name-2.ensures.items, c.in_ok-extend_from_slice-in-Some-Name.ensures.items, c.as_slice.ensures.bytes) (simp append_assoc)))

pub returns-in_ok-push_fields-in-Some-Data-clause-piece : goal.returns-in_ok-push_fields-in-Some-Data-clause-piece
returns-in_ok-push_fields-in-Some-Data-clause-piece c =
    rw (one_more _ _ _ c.in-Some-Data.ensures, c.in-Some-Data.field-0-is, c.in_ok-push_fields-in-Some-Data.ensures.words)
    (says _ _ _ _ _ _ _ _ refl c.in_ok-extend_from_slice-in-Some-Data.ensures.items)
