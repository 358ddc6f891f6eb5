use Rattle.std.proofs.Common.{sym, subst, ◌∙◌, ap, ◌++◌}
use Rattle.rt_image.specs.Grammar.{IsImage}
use Rattle.rt_image.specs.Spelling.{image_spelling}
use Rattle.rt_image.proofs.ImageLaws.{spelling_is}
use Rattle.rt_image.proofs.write.write_image.Goals as goal

pub returns : goal.returns
returns c =
    let written = c.into_list.ensures ∙ c.in_ok-put_image.ensures ∙ ap (λ t. t ++ image_spelling c.parts.result.now) c.in_ok-out.ensures.empty ∙ ap image_spelling c.parts.ensures.parts in
    subst (λ b. IsImage b c.args.image.now) (sym written) (spelling_is c.args.image.now c.parts.ensures.ranges)
