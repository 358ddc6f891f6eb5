-- The lines of modules and the objects of lines, by their places.
use Rattle.std.proofs.Common.{◌≡◌, ℕ, zero, suc, ◌<◌, List, [], ◌∷◌, length, Option, Some, slice_get, refl, subst, arith}
use Rattle.std.proofs.lemmas.List.{length-map}
use Rattle.std.proofs.lemmas.Option.{slice_get_within}
use Rattle.rt_digraph.proofs.Lists.{no_element, some_is, get_there}
use Rattle.rt_object.specs.declared.object.ObjectParts.{ObjectParts}
use Rattle.rt_outside.specs.Files.{Files}
use Rattle.rt_match.specs.declared.fault.MatchFault.TheVariants.{Memory, Duplicate, Missing, Mismatch, NotSupplied}
use Rattle.rt_match.specs.Matching.{Signature, module_of, HasBrick}
use Rattle.rt_match.specs.Signatures.{signatures, system_of}
use Rattle.rt_graph.specs.Calls.{numbered}
use Rattle.rt_system.specs.declared.parts.Entry.{Entry}
use Rattle.rt_accept.specs.Systems.{HasEntry, HaveEntries}
use Rattle.rt_accept.specs.Laws.{ObjectsHaveTheirPlaces, FaultsHaveLines}
use Rattle.rt_accept.proofs.Lines.{as_many}

module _ (files : Option Files) where
  placed : (es : List Entry) (os : List ObjectParts) → HaveEntries files es os → (i : ℕ) (e : Entry) → slice_get es i ≡ Some e → (o : ObjectParts) × (slice_get os i ≡ Some o) × HasEntry files e o
  placed [] [] h i e q = absurd (no_element i e q)
  placed [] (o ∷ os) h i e q = absurd h
  placed (d ∷ es) [] h i e q = absurd h
  placed (d ∷ es) (o ∷ os) h zero e q = (o, refl, subst (λ x. HasEntry files x o) (some_is d e q) h.0)
  placed (d ∷ es) (o ∷ os) h (suc i) e q = placed es os h.1 i e q

pub have_places : ObjectsHaveTheirPlaces
have_places files es os h = record { one_each = as_many files es os h; each = placed files es os h }

module _ (objects : List ObjectParts) (entries : List Entry) (one_each : length objects ≡ length entries) where
  line_at : (m : ℕ) (ss : List Signature) → module_of (system_of objects) m ≡ Some ss → (e : Entry) × (numbered entries m ≡ Some e)
  line_at zero ss q = absurd cc
  line_at (suc m) ss q =
      let in_it : m < length (system_of objects) = slice_get_within (system_of objects) m ss q in
      let long : length (system_of objects) ≡ length objects = length-map objects signatures in
      get_there entries m (omega (arith, in_it, long, one_each))

  line_of_brick : (m n b : ℕ) (s : Signature) → HasBrick (system_of objects) m b s → Some m ≡ Some n → (e : Entry) × (numbered entries n ≡ Some e)
  line_of_brick m n b s h q = subst (λ k. (e : Entry) × (numbered entries k ≡ Some e)) (some_is m n q) (line_at m h.bricks h.of)

pub have_lines : FaultsHaveLines
have_lines objects entries Memory n l h q = absurd cc
have_lines objects entries (Duplicate name) n l h q = absurd cc
have_lines objects entries (Missing m name) n l h q = line_of_brick objects entries l m n h.1.brick h.1.signature ((h.1).first).is.is q
have_lines objects entries (Mismatch m name wanted found) n l h q = line_of_brick objects entries l m n h.2.brick h.2.signature ((h.2).first).is.1.is q
have_lines objects entries (NotSupplied m name) n l h q = line_of_brick objects entries l m n h.3.brick h.3.signature ((h.3).first).is.is q
