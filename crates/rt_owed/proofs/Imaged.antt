-- All joined: an accepted system is imaged.
use Rattle.rt_tree.specs.Opened.{FullModesOpen}
use Rattle.rt_tree.specs.Stored.{HoldsInside}
use Rattle.rt_meaning_laws.specs.Laws.{ModulesMakeSystems}
use Rattle.rt_meaning_laws.proofs.Soundness.{sound}
use Rattle.rt_templates_laws.specs.Laws.{AddressesAreFilled}
use Rattle.rt_call_meaning.specs.Laws.{LoweredCompiles, ImagesAreLinked}
use Rattle.rt_imaged.specs.Closed.{SystemsAreImagedBy}
use Rattle.rt_imaged.specs.Laid.{SystemsAreLaid}
use Rattle.rt_imaged.specs.Whole.{whole_of}
use Rattle.rt_imaged.proofs.Compiling.{they_have_words}
use Rattle.rt_imaged.proofs.Fitting.{trees_of_modules}
use Rattle.rt_imaged.proofs.Seated.{entries_do_stand}
use Rattle.rt_bound.proofs.Alike.{faces_alike}
use Rattle.rt_bound.proofs.Binding.{bound_alike}
use Rattle.rt_bound.proofs.Together.{tables, items_tell}
use Rattle.rt_seam.proofs.Laying.{lays_of}
use Rattle.rt_seam.proofs.Seam as seam
use Rattle.rt_owed.specs.Imaged.{SystemsLieRight, SystemsAreBuilt, SystemsAreImaged}
use Rattle.rt_owed.specs.Owed.{SystemsAreOwed}

module _ (opens : FullModesOpen) (systems : ModulesMakeSystems) (laid : SystemsAreLaid) where
  pub systems_lie_right : SystemsLieRight
  systems_lie_right counted lead ps ls os tasks image mapped s fit stay =
      let tell = items_tell ps fit in
      let trees = trees_of_modules ps ls os tasks image mapped s fit stay.filled in
      lays_of (whole_of ps ls os s.linked.known image) (laid counted ps ls os tasks image mapped s trees (sound ps (systems ps fit)) (tables ps fit) (faces_alike opens ps tell) (they_have_words ps ls os tasks image mapped s))

  module _ (filled : AddressesAreFilled) (compiles : LoweredCompiles) (owed : SystemsAreOwed) where
    pub systems_are_built : SystemsAreBuilt
    systems_are_built landed counted lead ps ls os tasks image mapped s fit stay =
        let trees = trees_of_modules ps ls os tasks image mapped s fit stay.filled in
        let bind = bound_alike opens lead ps ls os tasks image mapped s (items_tell ps fit) in
        let rest = owed lead ps ls os tasks image mapped s fit stay in
        let fits = systems ps fit in
        seam.systems_are_built landed filled compiles ps ls os tasks image mapped s fits (sound ps fits) trees bind (systems_lie_right counted lead ps ls os tasks image mapped s fit stay) rest.reports rest.procs

    pub systems_are_imaged : ImagesAreLinked → HoldsInside → SystemsAreImagedBy → SystemsAreImaged
    systems_are_imaged linked inside imaged landed counted lines lead ps ls os tasks image mapped s fit stay =
        let bind = bound_alike opens lead ps ls os tasks image mapped s (items_tell ps fit) in
        imaged landed counted lines ps ls os tasks image mapped s fit stay.filled (sound ps (systems ps fit)) (tables ps fit) bind (entries_do_stand landed ps ls os tasks image mapped s)
        (linked (whole_of ps ls os s.linked.known image) (systems_are_built landed counted lead ps ls os tasks image mapped s fit stay) inside)
