-- Objects and their spellings.
use Rattle.std.proofs.Common.{◌≡◌, ℕ, List, [], sym, subst, ◌∙◌}
use Rattle.std.proofs.lemmas.List.{append-nil}
use Rattle.rt_object.specs.Grammar.{object_format, IsObject}
use Rattle.rt_object.specs.Laws.{AreInRange, HaveASpelling, HaveOneSpelling}
use Rattle.rt_object.specs.Ranges.{HasObjectRanges}
use Rattle.rt_object.specs.Spelling.{object_spelling}
use Rattle.rt_object.specs.declared.object.ObjectParts.{ObjectParts}
use Rattle.rt_object.proofs.SpeltObject.{spelt_object}

pub in_range : AreInRange
in_range bytes o h = (spelt_object.spelled.there bytes [] o h.each_byte h.fields).1

pub spelling_is : (o : ObjectParts) → HasObjectRanges o → IsObject (object_spelling o) o
spelling_is o h = record { each_byte = spelt_object.bytes o h; fields = subst (λ t. object_format.Fits t [] o) (append-nil (object_spelling o)) (spelt_object.spelled.back [] o h) }

is_spelled : (bytes : List ℕ) (o : ObjectParts) → IsObject bytes o → bytes ≡ object_spelling o
is_spelled bytes o h = (spelt_object.spelled.there bytes [] o h.each_byte h.fields).0 ∙ append-nil (object_spelling o)

pub some_spelling : HaveASpelling
some_spelling o h = (object_spelling o, spelling_is o h)

pub one_spelling : HaveOneSpelling
one_spelling bytes others o h k = is_spelled bytes o h ∙ sym (is_spelled others o k)
