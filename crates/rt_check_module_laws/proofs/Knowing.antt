-- In a module in which no fault stands in the modes of bricks, what each name stands for can be known.
use Rattle.std.proofs.Common.{◌≡◌, ℕ, Bool, true, false, List, [], ◌∷◌, map, Option, Some, None, if◌then◌else◌, slice_get, refl}
use Rattle.std.specs.List.{AllByRecursion}
use Rattle.rt_modes.specs.declared.mode.Mode.{Mode, out-Mode}
use Rattle.rt_modes.specs.declared.mode.Mode.TheOpen.{Mode-F}
use Rattle.rt_tree_nodes.specs.declared.brick.Kind.{Kind}
use Rattle.rt_tree_nodes.specs.Scopes.{is_svc}
use Rattle.rt_exprs.specs.declared.scope.Meaning.TheVariants as meaning
use Rattle.rt_exprs.specs.Sights.{Names as Level}
use Rattle.rt_check_declared.specs.declared.names.Declared.{Declared}
use Rattle.rt_check_declared.specs.declared.names.Declared.TheVariants as what
use Rattle.rt_check_declared.specs.Names.{Known}
use Rattle.rt_check_declared.specs.declared.bricks.Heading.{Heading}
use Rattle.rt_check_declared.specs.declared.bricks.Sort.{Sort}
use Rattle.rt_check_declared.specs.declared.bricks.Sort.TheVariants as sort
use Rattle.rt_check_declared.specs.declared.parts.Given.{Given}
use Rattle.rt_check_declared.specs.declared.parts.Given.TheVariants as given
use Rattle.rt_check_declared.specs.declared.parts.Part.{Part}
use Rattle.rt_check_module.specs.declared.supplied.Own.{Own}
use Rattle.rt_check_module.specs.Levels.{own_of, brick_by, brick_in, other_item, item_with, given_as, item_by, part_in, item_in, means, with_one, with_all, module_names}
use Rattle.rt_check_bodies_laws.specs.Held.{IsKnown, LevelKnown}
use Rattle.rt_check_bodies_laws.proofs.Each.{declared_each}
use Rattle.rt_bricks_laws.proofs.AllLists.{all_get}
use Rattle.rt_check_module_laws.proofs.Parts.{PartHas, GivenHas}
use Rattle.rt_check_module_laws.proofs.There.{SortGood, HeadingGood, ItemGood}

other_known : (b j : ℕ) (m : Mode) (l : Mode-F Mode) → IsKnown (other_item b j m l)
other_known b j m Mode-F.Label = tt
other_known b j m Mode-F.Byte = tt
other_known b j m Mode-F.Int = tt
other_known b j m Mode-F.Frac = tt
other_known b j m (Mode-F.Ref x) = tt
other_known b j m (Mode-F.RefArray x) = tt
other_known b j m (Mode-F.Array i x) = tt
other_known b j m (Mode-F.Record r) = tt
other_known b j m (Mode-F.Proc xs r) = tt

shared_known : (t : Bool) (b j : ℕ) (m : Mode) → IsKnown (if t then other_item b j m (out-Mode m) else meaning.Item b j m)
shared_known true b j m = other_known b j m (out-Mode m)
shared_known false b j m = tt

with_known : (k : Kind) (o : Option (Option Own)) (b j : ℕ) (m : Mode) → IsKnown (item_with k o b j m)
with_known k (Some (Some o)) b j m = tt
with_known k (Some None) b j m = shared_known (is_svc k) b j m
with_known k None b j m = shared_known (is_svc k) b j m

given_known : (k : Kind) (o : Option (Option Own)) (b j : ℕ) (n : List ℕ) (g : Given) → GivenHas ItemGood n g → IsKnown (given_as k o b j g)
given_known k o b j n (given.Mode m) h = with_known k o b j m
given_known k o b j n given.Unknown h = absurd h

part_known : (k : Kind) (o : Option (Option Own)) (b j : ℕ) (p : Option Part) → ((q : Part) → p ≡ Some q → PartHas ItemGood q) → IsKnown (item_by k o b j p)
part_known k o b j None h = tt
part_known k o b j (Some p) h = given_known k o b j p.name p.has (h p refl)

sort_known : (svc : Bool) (s : Sort) (j : ℕ) (q : Part) → SortGood svc s → part_in s j ≡ Some q → PartHas ItemGood q
sort_known svc (sort.Items ps) j q h e = all_get (PartHas ItemGood) ps j q h.0 e
sort_known svc (sort.Procedure g) j q h e = absurd cc
sort_known svc (sort.Stack n) j q h e = absurd cc

brick_known_by : (svc : Bool) (b : ℕ) (s : Sort) → SortGood svc s → IsKnown (brick_by b s)
brick_known_by svc b (sort.Procedure (given.Mode m)) h = tt
brick_known_by svc b (sort.Procedure given.Unknown) h = absurd h
brick_known_by svc b (sort.Items ps) h = tt
brick_known_by svc b (sort.Stack n) h = tt

module _ (hs : List Heading) (good : AllByRecursion HeadingGood hs) where
  brick_known : (b : ℕ) (o : Option Heading) → slice_get hs b ≡ o → IsKnown (brick_in b o)
  brick_known b None e = tt
  brick_known b (Some h) e = brick_known_by (is_svc h.kind) b h.sort (all_get HeadingGood hs b h good e)

  item_known : (o : Option (Option Own)) (b j : ℕ) (x : Option Heading) → slice_get hs b ≡ x → IsKnown (item_in o b j x)
  item_known o b j None e = tt
  item_known o b j (Some h) e = part_known h.kind o b j (part_in h.sort j) (λ q i. sort_known (is_svc h.kind) h.sort j q (all_get HeadingGood hs b h good e) i)

  means_known : (d : Declared) → IsKnown (means (map own_of hs) hs d)
  means_known (what.Record r) = tt
  means_known (what.Brick b) = brick_known b (slice_get hs b) refl
  means_known (what.Item b j) = item_known (slice_get (map own_of hs) b) b j (slice_get hs b) refl

  all_known : (l : Level) (ks : Known) → LevelKnown l → LevelKnown (with_all (map own_of hs) hs l ks)
  all_known l [] h = h
  all_known l (x ∷ ks) h = all_known (with_one (map own_of hs) hs l x) ks (declared_each IsKnown x.0 (means (map own_of hs) hs x.1) l h (means_known x.1))

  pub names_known : (ks : Known) → LevelKnown (module_names hs ks)
  names_known ks = all_known [] ks tt
