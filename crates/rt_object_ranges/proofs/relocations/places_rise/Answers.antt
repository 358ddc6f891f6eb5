use Rattle.std.proofs.Common.{◌≡◌, ℕ, ◌+◌, ◌<◌, List, length, map, take, get_or, sym, subst, ◌∙◌, arith}
use Rattle.std.proofs.lemmas.List.{get_or-map, length-map}
use Rattle.rt_object.specs.declared.object.Relocation.{Relocation}
use Rattle.rt_object_ranges.proofs.Rising.{RiseTo, rise_more, not_rising}
use Rattle.rt_object_ranges.proofs.relocations.places_rise.Goals as goal

abbrev places : List Relocation → List ℕ
places = map (λ r. r.place)

pub returns-then-place-least : goal.returns-then-place-least
returns-then-place-least c =
    let rs = c.args.relocations.now in
    let i = c.loop-relocation.relocation-index in
    let v = c.from-place.result in
    let here : get_or (places rs) i v ≡ v = get_or-map (λ (r : Relocation). r.place) rs i _ v (omega arith) ∙ sym c.from-place.ensures in
    let within : i < length (places rs) = omega (arith, length-map rs (λ (r : Relocation). r.place)) in
    (λ e. absurd cc, λ h. absurd (not_rising (places rs) i v c.loop-relocation.least within c.loop-relocation.invariant (omega arith) h))

pub loop-relocation-preserved : goal.loop-relocation-preserved
loop-relocation-preserved c =
    let rs = c.args.relocations.now in
    let i = c.loop-relocation.relocation-index in
    let v = c.from-place.result in
    let here : get_or (places rs) i v ≡ v = get_or-map (λ (r : Relocation). r.place) rs i _ v (omega arith) ∙ sym c.from-place.ensures in
    let within : i < length (places rs) = omega (arith, length-map rs (λ (r : Relocation). r.place)) in
    subst (λ n. RiseTo (take (i + 1) (places rs)) (n + 1)) here (rise_more (places rs) i v c.loop-relocation.least within c.loop-relocation.invariant (omega arith))
