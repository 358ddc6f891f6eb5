use Rattle.std.proofs.Common.{refl, ◌∙◌}
use Rattle.std.proofs.lemmas.List.{append-nil}
use Rattle.rt_modes.proofs.Records.{none_left, begins}
use Rattle.rt_modes.proofs.pieces.Pieces.begin_record.Goals as goal

pub returns-in-None-clause-piece : goal.returns-in-None-clause-piece
returns-in-None-clause-piece c = λ none. let v = c.in-None.ensures.value in rw none (none_left _ _ _ c.in-None.ensures.value)

pub returns-clause-piece : goal.returns-clause-piece
returns-clause-piece c = λ none.
    rw none (begins _ _ _ _ _ _ _ _ _ c.in-Some.ensures.within c.in-Some.ensures.value c.record.ensures.name c.record.ensures.fields
    (rw (c.in_ok-extend_from_slice-3.ensures.items, c.in_ok-extend_from_slice-2.ensures.items, c.in_ok-extend_from_slice.ensures.items, c.lead.ensures) refl)
    (c.in_ok-push_fields.ensures.words ∙ rw (none, append-nil) refl))
