-- All joined: an image that is linked of objects of trees is one of the trees.
use Rattle.std.proofs.Common.{◌≤◌, refl, subst, arith}
use Rattle.rt_link.specs.Laws.{TasksAreThoseOfTheLines}
use Rattle.rt_link.specs.Linked.{IsLinked}
use Rattle.rt_imaged.specs.Whole.{whole_of, source_tasks}
use Rattle.rt_bound.specs.Laws.{BindingsLead}
use Rattle.rt_bound.specs.Supplied.{ModulesMatchSo}
use Rattle.rt_owed.specs.Imaged.{AcceptedAreImaged}
use Rattle.rt_owed.specs.Joined.{AreImagedSomehow, LinkedAreImaged}
use Rattle.rt_owed.proofs.Systems.{objects_make_systems, bounds_are_small, systems_have_procedures}

pub linked_are_imaged : TasksAreThoseOfTheLines → BindingsLead → ModulesMatchSo → AcceptedAreImaged → LinkedAreImaged
linked_are_imaged lines lead match imaged ps os tasks image mapped n promise most are ranges few linked image_ranges =
    let x = objects_make_systems ps os tasks image mapped are ranges few linked image_ranges in
    let ls = x.0 in
    let s = x.1 in
    let h = systems_have_procedures lines ps ls os tasks image mapped s in
    let long = promise.long h.home h.number h.parts h.its h.mode h.body h.has h.here h.sort_is in
    let few = most h.home h.number h.parts h.its h.mode h.body h.has h.here h.sort_is in
    let low : 6 ≤ n = omega (arith, long, few) in
    let matched = match lead ps ls os tasks image mapped s promise.tables promise.nodes promise.named in
    subst (λ (z : IsLinked os tasks image mapped). AreImagedSomehow ps n (source_tasks tasks z.known.roots) image) x.2 (record {
      whole = whole_of ps ls os s.linked.known image;
      modules = refl;
      bound = bounds_are_small ps ls os tasks image mapped s n most low;
      imaged = imaged ps ls os tasks image mapped s (promise.fit matched) promise.stay;
    })
