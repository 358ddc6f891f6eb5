-- Laws of the bytes of images.
use Rattle.std.proofs.Common.{◌≡◌, ℕ, List, [], ◌⊎◌, inl, inr, sym, subst, ◌∙◌}
use Rattle.std.proofs.lemmas.List.{append-nil}
use Rattle.rt_words.proofs.Front.{none_begins}
use Rattle.rt_words.proofs.Whole as whole
use Rattle.rt_image.specs.declared.image.ImageParts.{ImageParts}
use Rattle.rt_image.specs.Grammar.{image_format, IsImage, IsNoImage}
use Rattle.rt_image.specs.Laws.{AreInRange, HaveASpelling, HaveOneSpelling, NoneBegins, AreOrAreNot, NeverBoth, HaveOnePlace}
use Rattle.rt_image.specs.Ranges.{HasImageRanges}
use Rattle.rt_image.specs.Reading as reads
use Rattle.rt_image.specs.Spelling.{image_spelling}
use Rattle.rt_image.proofs.Fronts.{front_image, in_image}
use Rattle.rt_image.proofs.ImageReads.{right_image}
use Rattle.rt_image.proofs.Spelled.{image_there, image_back, image_bytes}

pub in_range : AreInRange
in_range bytes i h = (image_there bytes [] i h.each_byte h.fields).1

is_spelled : (bytes : List ℕ) (i : ImageParts) → IsImage bytes i → bytes ≡ image_spelling i
is_spelled bytes i h = (image_there bytes [] i h.each_byte h.fields).0 ∙ append-nil (image_spelling i)

pub spelling_is : (i : ImageParts) → HasImageRanges i → IsImage (image_spelling i) i
spelling_is i h = record { each_byte = image_bytes i h; fields = subst (λ t. image_format.Fits t [] i) (append-nil (image_spelling i)) (image_back [] i h) }

pub some_spelling : HaveASpelling
some_spelling i h = (image_spelling i, spelling_is i h)

pub one_spelling : HaveOneSpelling
one_spelling bytes others i h k = is_spelled bytes i h ∙ sym (is_spelled others i k)

pub no_beginning : NoneBegins
no_beginning bytes rest i j h k = none_begins reads.image image_format right_image front_image bytes rest i j h.fields k.fields

pub either : AreOrAreNot
either bytes h = by (whole.either reads.image image_format right_image in_image bytes)
  where
    by : ((i : ImageParts) × image_format.Fits bytes [] i) ⊎ ((p : ℕ) × IsNoImage bytes p) → ((i : ImageParts) × IsImage bytes i) ⊎ ((p : ℕ) × IsNoImage bytes p)
    by (inl (i, f)) = inl (i, record { each_byte = h; fields = f })
    by (inr k) = inr k

pub apart : NeverBoth
apart bytes i p h k = whole.apart reads.image image_format right_image in_image bytes i p h.fields k

pub one_place : HaveOnePlace
one_place bytes p q h k = whole.one_field reads.image image_format right_image in_image bytes p q h k
