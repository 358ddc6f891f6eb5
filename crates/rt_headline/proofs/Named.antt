-- The tasks of an image have the names of their lines.
use Rattle.std.proofs.Common.{◌≡◌, ℕ, suc, List, [], ◌∷◌, length, Some, refl, ap, ◌∙◌, arith}
use Rattle.std.specs.Prelude.{slice_get}
use Rattle.rt_image.specs.declared.image.ImageParts.{ImageParts}
use Rattle.rt_image.specs.declared.image.ImageTask.{ImageTask}
use Rattle.rt_image.specs.declared.map.Map.{Map}
use Rattle.rt_object.specs.declared.object.ObjectParts.{ObjectParts}
use Rattle.rt_system.specs.declared.parts.Task.{Task}
use Rattle.rt_link.specs.Linked.{IsLinked}
use Rattle.rt_link.specs.Laws.{IsOfLine, TasksAreThoseOfTheLines}
use Rattle.rt_headline.specs.Carrying as made
use Rattle.rt_headline.specs.Headline as told

cons_same : {A : Type 0} (x y : A) (xs ys : List A) → x ≡ y → xs ≡ ys → (x ∷ xs) ≡ (y ∷ ys)
cons_same x y xs ys e f = cc

same : (objects : List ObjectParts) (ts : List Task) (us : List ImageTask) → length us ≡ length ts → ((i : ℕ) (t : Task) → slice_get ts i ≡ Some t → (u : ImageTask) × (slice_get us i ≡ Some u) × IsOfLine objects t u) → made.names_of us ≡ told.names_of ts
same objects [] [] n e = refl
same objects [] (u ∷ us) n e = absurd (omega (arith, n))
same objects (t ∷ ts) [] n e = absurd (omega (arith, n))
same objects (t ∷ ts) (u ∷ us) n e =
    let first = e 0 t refl in
    let is : u ≡ first.0 = let g : Some u ≡ Some first.0 = first.1 in cc in
    cons_same u.name t.name (made.names_of us) (told.names_of ts) (ap (λ (x : ImageTask). x.name) is ∙ first.2.name) (same objects ts us (suc_same (length us) (length ts) n) (λ i x g. e (suc i) x g))
  where
    suc_same : (a b : ℕ) → suc a ≡ suc b → a ≡ b
    suc_same a b h = omega (arith, h)

pub named : TasksAreThoseOfTheLines → (objects : List ObjectParts) (ts : List Task) (image : ImageParts) (its : Map) → IsLinked objects ts image its → made.names_of image.tasks ≡ told.names_of ts
named law objects ts image its linked = let h = (law objects ts image its linked).in_image in same objects ts image.tasks h.one_each h.each
