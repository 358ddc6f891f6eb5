use Rattle.std.proofs.Common.{◌-◌, length, [], inl, refl, sym, subst, ◌∙◌}
use Rattle.rt_words.proofs.Spelled.{fit_bytes}
use Rattle.rt_object.specs.Grammar.{IsObject, IsNoObject}
use Rattle.rt_object.proofs.ObjectLaws.{never_both, one_place, refused_at}
use Rattle.rt_object.proofs.ReadAll.{left_within, is_object, same_object}
use Rattle.rt_object.proofs.SpellingLaws.{in_range}
use Rattle.rt_object.proofs.read.read_object.Goals as goal

pub returns-in-Some-clause-place : goal.returns-in-Some-clause-place
returns-in-Some-clause-place c = λ p h. absurd (h.version c.in-Some.found c.in-Some.ensures.some)

pub new-requires : goal.new-requires
new-requires c = in_range c.args.bytes.now c.in-Ok.parts (is_object c.args.bytes.now [] c.in-Ok.parts (fit_bytes c.args.bytes.now c.type_inv.bytes) c.in-Ok.ensures)

pub returns-in-Ok-clause-found : goal.returns-in-Ok-clause-found
returns-in-Ok-clause-found c = subst (IsObject c.args.bytes.now) (sym c.new.ensures) (is_object c.args.bytes.now [] c.in-Ok.parts (fit_bytes c.args.bytes.now c.type_inv.bytes) c.in-Ok.ensures)

pub returns-in-Ok-clause-only : goal.returns-in-Ok-clause-only
returns-in-Ok-clause-only c = λ o h.
    let found = is_object c.args.bytes.now [] c.in-Ok.parts (fit_bytes c.args.bytes.now c.type_inv.bytes) c.in-Ok.ensures in inl (rw (c.new.ensures ∙ same_object c.args.bytes.now c.in-Ok.parts o found h) refl)

pub returns-in-Ok-clause-place : goal.returns-in-Ok-clause-place
returns-in-Ok-clause-place c = λ p h.
    absurd (never_both c.args.bytes.now c.in-Ok.parts p (is_object c.args.bytes.now [] c.in-Ok.parts (fit_bytes c.args.bytes.now c.type_inv.bytes) c.in-Ok.ensures) h)

pub overflow_sub-result : goal.overflow_sub-result
overflow_sub-result c = left_within c.args.bytes.now c.in-Err-Refused.left (rw c.in-Err-Refused.field-0-is at c.in-Err-Refused.ensures)

pub returns-in-Err-Refused-clause-only : goal.returns-in-Err-Refused-clause-only
returns-in-Err-Refused-clause-only c = λ o h.
    let left = c.in-Err-Refused.left in
    absurd (never_both c.args.bytes.now o (length c.args.bytes.now - left) h (refused_at c.args.bytes.now left (rw c.in-Err-Refused.field-0-is at c.in-Err-Refused.ensures) c.in_default.ensures.none))

pub returns-in-Err-Refused-clause-refused : goal.returns-in-Err-Refused-clause-refused
returns-in-Err-Refused-clause-refused c = refused_at c.args.bytes.now c.in-Err-Refused.left (rw c.in-Err-Refused.field-0-is at c.in-Err-Refused.ensures) c.in_default.ensures.none

pub returns-in-Err-Refused-clause-place : goal.returns-in-Err-Refused-clause-place
returns-in-Err-Refused-clause-place c = λ p h.
    let left = c.in-Err-Refused.left in
    let here : IsNoObject c.args.bytes.now (length c.args.bytes.now - left) = refused_at c.args.bytes.now left (rw c.in-Err-Refused.field-0-is at c.in-Err-Refused.ensures) c.in_default.ensures.none in
    inl (rw (one_place c.args.bytes.now (length c.args.bytes.now - left) p here h) refl)

pub returns-in-Err-Refused-clause-version : goal.returns-in-Err-Refused-clause-version
returns-in-Err-Refused-clause-version c = λ v h. absurd (c.in_default.ensures.none v h)

pub returns-in-Err-Memory-clause-version : goal.returns-in-Err-Memory-clause-version
returns-in-Err-Memory-clause-version c = λ v h. absurd (c.in_default.ensures.none v h)
