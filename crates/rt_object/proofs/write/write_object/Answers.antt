use Rattle.std.proofs.Common.{sym, subst, ◌∙◌, ap, ◌++◌}
use Rattle.rt_object.specs.Grammar.{IsObject}
use Rattle.rt_object.specs.Spelling.{object_spelling}
use Rattle.rt_object.proofs.SpellingLaws.{spelling_is}
use Rattle.rt_object.proofs.write.write_object.Goals as goal

pub returns : goal.returns
returns c =
    let written = c.into_list.ensures ∙ c.in_ok-put_object.ensures ∙ ap (λ t. t ++ object_spelling c.parts.result.now) c.in_ok-out.ensures.empty ∙ ap object_spelling c.parts.ensures.parts in
    subst (λ b. IsObject b c.args.object.now) (sym written) (spelling_is c.args.object.now c.parts.ensures.ranges)
