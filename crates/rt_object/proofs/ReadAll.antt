-- What reading all of some bytes says of them.
use Rattle.std.proofs.Common.{◌≡◌, ℕ, ◌≤◌, List, [], length, sym, ◌∙◌}
use Rattle.rt_words.specs.Format.{whole}
use Rattle.rt_words.proofs.Spelled.{AreBytes}
use Rattle.rt_words.proofs.Within.{in_whole}
use Rattle.rt_object.specs.Grammar.{object_format, IsObject, IsOfVersion}
use Rattle.rt_object.specs.declared.object.ObjectParts.{ObjectParts}
use Rattle.rt_object.proofs.ObjectLaws.{fourth}
use Rattle.rt_object.proofs.ObjectWithin.{in_object}
use Rattle.rt_object.proofs.Sure.{sure_object}

pub left_within : (bytes : List ℕ) (n : ℕ) → (whole object_format).Refuses bytes n → n ≤ length bytes
left_within bytes n f = (in_whole object_format in_object).field bytes n f

pub is_object : (bytes r : List ℕ) (o : ObjectParts) → AreBytes bytes → (whole object_format).Fits bytes r o → IsObject bytes o
is_object bytes r o h f = record { each_byte = h; fields = f.0 }

pub same_object : (bytes : List ℕ) (o p : ObjectParts) → IsObject bytes o → IsObject bytes p → o ≡ p
same_object bytes o p h k = (sure_object.one bytes [] [] o p h.fields k.fields).1

pub same_version : (bytes : List ℕ) (v w : ℕ) → IsOfVersion bytes v → IsOfVersion bytes w → v ≡ w
same_version bytes v w (r, e, unlike) (s, f, other) = fourth 82 84 79 v 82 84 79 w r s (sym e ∙ f)
