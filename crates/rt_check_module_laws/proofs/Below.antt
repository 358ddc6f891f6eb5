-- A name of a module that stands for a MODE stands for one of its records.
use Rattle.std.proofs.Common.{ℕ, Bool, true, false, List, [], ◌∷◌, ◌++◌, map, Option, if◌then◌else◌}
use Rattle.std.specs.Prelude.{slice_get}
use Rattle.std.specs.List.{AllByRecursion}
use Rattle.rt_exprs.specs.declared.scope.Meaning.{Meaning}
use Rattle.rt_exprs.specs.declared.scope.Meaning.TheVariants as meaning
use Rattle.rt_exprs.specs.Sights.{Names, holds, declared}
use Rattle.rt_check_declared.specs.declared.names.Declared.{Declared}
use Rattle.rt_check_declared.specs.declared.names.Declared.TheVariants as what
use Rattle.rt_check_declared.specs.Names.{Known}
use Rattle.rt_check_declared.specs.declared.bricks.Heading.{Heading}
use Rattle.rt_check_module.specs.declared.supplied.Own.{Own}
use Rattle.rt_check_module.specs.Levels.{brick_in, item_in, means, with_one, with_all, own_of, module_names}
use Rattle.rt_check_bodies_laws.specs.Named.{IsRecord, LevelNames}
use Rattle.rt_check_module_laws.proofs.Known.{IsBelow, KnownBelow}
use Rattle.rt_check_module_laws.proofs.Levels.{NoMode, brick_no_mode, item_no_mode}
use Rattle.rt_bricks_laws.proofs.AllLists.{all_joined}

abbrev EntryNames : ℕ → List ℕ × Meaning → Type 0
EntryNames n x = IsRecord n x.1

module _ (n : ℕ) where
  pub declared_below : (name : List ℕ) (m : Meaning) (l : Names) → IsRecord n m → LevelNames n l → LevelNames n (declared name m l)
  declared_below name m l b h = by_held (holds l name) where
    by_held : (t : Bool) → LevelNames n (if t then l else l ++ (name, m) ∷ [])
    by_held true = h
    by_held false = all_joined (EntryNames n) l ((name, m) ∷ []) h (b, tt)

  -- ---- the names of a module

  no_mode_below : (m : Meaning) → NoMode m → IsRecord n m
  no_mode_below (meaning.Mode r) h = absurd h
  no_mode_below (meaning.Proc k m) h = tt
  no_mode_below (meaning.Data k) h = tt
  no_mode_below (meaning.Stack k) h = tt
  no_mode_below (meaning.Item b i m) h = tt
  no_mode_below (meaning.SvcItem b i m) h = tt
  no_mode_below (meaning.Svc k m) h = tt
  no_mode_below (meaning.Local k m) h = tt
  no_mode_below (meaning.Loop k) h = tt
  no_mode_below (meaning.Label k) h = tt
  no_mode_below meaning.UnknownProc h = tt
  no_mode_below meaning.Unknown h = tt

  means_below : (owns : List (Option Own)) (hs : List Heading) (d : Declared) → IsBelow n d → IsRecord n (means owns hs d)
  means_below owns hs (what.Record r) h = h
  means_below owns hs (what.Brick b) h = no_mode_below (brick_in b (slice_get hs b)) (brick_no_mode b (slice_get hs b))
  means_below owns hs (what.Item b j) h = no_mode_below (item_in (slice_get owns b) b j (slice_get hs b)) (item_no_mode (slice_get owns b) b j (slice_get hs b))

  all_below : (owns : List (Option Own)) (hs : List Heading) (l : Names) (ks : Known) → LevelNames n l → AllByRecursion (KnownBelow n) ks → LevelNames n (with_all owns hs l ks)
  all_below owns hs l [] g h = g
  all_below owns hs l (k ∷ ks) g h = all_below owns hs (with_one owns hs l k) ks (declared_below k.0 (means owns hs k.1) l (means_below owns hs k.1 h.0) g) h.1

  pub names_below : (hs : List Heading) (ks : Known) → AllByRecursion (KnownBelow n) ks → LevelNames n (module_names hs ks)
  names_below hs ks h = all_below (map own_of hs) hs [] ks tt h
