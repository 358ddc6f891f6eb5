-- Laws of objects.
use Rattle.std.specs.Prelude.{◌≡◌, ℕ, ◌⊎◌, List, [], ◌++◌}
use Rattle.std.specs.List.{AllByRecursion}
use Rattle.rt_image.specs.Grammar.{IsImage}
use Rattle.rt_image.specs.declared.image.ImageParts.{ImageParts}
use Rattle.rt_object.specs.declared.object.ObjectParts.{ObjectParts}
use Rattle.rt_object.specs.Grammar.{IsObject, IsNoObject, IsOfVersion}
use Rattle.rt_object.specs.Ranges.{IsByte, HasObjectRanges}

-- no bytes are both an image and an object
abbrev pub NoImageIsObject : Type 0
NoImageIsObject = (bytes : List ℕ) (i : ImageParts) (o : ObjectParts) → IsImage bytes i → IsObject bytes o → ⊥

-- no bytes that are an object begin others that are
abbrev pub NoneBegins : Type 0
NoneBegins = (bytes rest : List ℕ) (o p : ObjectParts) → IsObject bytes o → IsObject (bytes ++ rest) p → (rest ≡ []) × (o ≡ p)

-- bytes are not both an object and none, and they are none at one place
abbrev pub NeverBoth : Type 0
NeverBoth = (bytes : List ℕ) (o : ObjectParts) (at : ℕ) → IsObject bytes o → IsNoObject bytes at → ⊥

abbrev pub HaveOnePlace : Type 0
HaveOnePlace = (bytes : List ℕ) (at other : ℕ) → IsNoObject bytes at → IsNoObject bytes other → at ≡ other

-- bytes that name another version are no object
abbrev pub HaveOneVersion : Type 0
HaveOneVersion = (bytes : List ℕ) (o : ObjectParts) (found : ℕ) → IsObject bytes o → IsOfVersion bytes found → ⊥

-- ---- objects and their bytes

-- what bytes are is in the ranges, and all that is in the ranges is what some bytes are
abbrev pub AreInRange : Type 0
AreInRange = (bytes : List ℕ) (o : ObjectParts) → IsObject bytes o → HasObjectRanges o

abbrev pub HaveASpelling : Type 0
HaveASpelling = (o : ObjectParts) → HasObjectRanges o → (bytes : List ℕ) × IsObject bytes o

-- an object has one spelling
abbrev pub HaveOneSpelling : Type 0
HaveOneSpelling = (bytes others : List ℕ) (o : ObjectParts) → IsObject bytes o → IsObject others o → bytes ≡ others

-- bytes are an object, or are refused at a place, or name another version
abbrev pub AreOneOfThree : Type 0
AreOneOfThree = (bytes : List ℕ) → AllByRecursion IsByte bytes → ((o : ObjectParts) × IsObject bytes o) ⊎ (((at : ℕ) × IsNoObject bytes at) ⊎ ((found : ℕ) × IsOfVersion bytes found))
