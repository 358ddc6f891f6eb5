use Rattle.std.proofs.Common.{inl, refl}
use Rattle.rt_words.proofs.Spelled.{fit_bytes}
use Rattle.rt_modes.proofs.ReadAt.{rest_short, field_short, found, refused, same_mode, not_refused, same_field, not_stood}
use Rattle.rt_modes.proofs.read.read_mode.Goals as goal

pub overflow_sub-result : goal.overflow_sub-result
overflow_sub-result c = rest_short c.args.records c.args.bytes.now c.args.at c.requires c.in-Ok.mode c.in-Ok.rest.now c.in-Ok.ensures

pub overflow_sub-result-in-Err-Refused : goal.overflow_sub-result-in-Err-Refused
overflow_sub-result-in-Err-Refused c = field_short c.args.records c.args.bytes.now c.args.at c.requires c.in-Err-Refused.left (rw c.in-Err-Refused.field-0-is at c.in-Err-Refused.ensures)

pub returns-in-Ok-clause-found : goal.returns-in-Ok-clause-found
returns-in-Ok-clause-found c = found c.args.records c.args.bytes.now c.args.at c.requires (fit_bytes c.args.bytes.now c.type_inv.bytes) c.in-Ok.mode c.in-Ok.rest.now c.in-Ok.ensures

pub returns-in-Ok-clause-only : goal.returns-in-Ok-clause-only
returns-in-Ok-clause-only c = λ m p h.
    let e = same_mode c.args.records c.args.bytes.now c.args.at c.requires c.in-Ok.mode c.in-Ok.rest.now c.in-Ok.ensures m p h in inl (rw (e.0, e.1) refl)

pub returns-in-Ok-clause-place : goal.returns-in-Ok-clause-place
returns-in-Ok-clause-place c = λ p h. absurd (not_refused c.args.records c.args.bytes.now c.args.at c.requires c.in-Ok.mode c.in-Ok.rest.now c.in-Ok.ensures p h)

pub returns-in-Err-Refused-clause-only : goal.returns-in-Err-Refused-clause-only
returns-in-Err-Refused-clause-only c = λ m p h.
    absurd (not_stood c.args.records c.args.bytes.now c.args.at c.requires c.in-Err-Refused.left (rw c.in-Err-Refused.field-0-is at c.in-Err-Refused.ensures) m p h)

pub returns-in-Err-Refused-clause-refused : goal.returns-in-Err-Refused-clause-refused
returns-in-Err-Refused-clause-refused c =
    refused c.args.records c.args.bytes.now c.args.at c.requires c.in-Err-Refused.left (rw c.in-Err-Refused.field-0-is at c.in-Err-Refused.ensures)

pub returns-in-Err-Refused-clause-place : goal.returns-in-Err-Refused-clause-place
returns-in-Err-Refused-clause-place c = λ p h.
    inl (rw (same_field c.args.records c.args.bytes.now c.args.at c.requires c.in-Err-Refused.left (rw c.in-Err-Refused.field-0-is at c.in-Err-Refused.ensures) p h) refl)
