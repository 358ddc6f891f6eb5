-- Names that are added one after another.
use Rattle.std.proofs.Common.{◌≡◌, ℕ, zero, suc, ◌+◌, List, [], ◌∷◌, Option, drop, slice_get, refl, sym, ◌∙◌, add-one}
use Rattle.rt_check_declared.specs.Names.{Known}
use Rattle.rt_check_declared.specs.declared.bricks.Heading.{Heading}
use Rattle.rt_exprs.specs.Sights.{Names}
use Rattle.rt_check_module.specs.declared.supplied.Own.{Own}
use Rattle.rt_check_module.specs.Levels.{if_any, with_mode, with_modes, with_one, with_all}

mode_next : (ks : Known) (k : ℕ) (l : Names) → with_modes l (drop k ks) ≡ with_modes (if_any with_mode l (slice_get ks k)) (drop (suc k) ks)
mode_next [] zero l = refl
mode_next [] (suc k) l = refl
mode_next (x ∷ ks) zero l = refl
mode_next (x ∷ ks) (suc k) l = mode_next ks k l

pub mode_added : (ks : Known) (k : ℕ) (l new all : Names) → new ≡ if_any with_mode l (slice_get ks k) → with_modes l (drop k ks) ≡ all → with_modes new (drop (k + 1) ks) ≡ all
mode_added ks k l new all e old = rw (e, add-one) (sym (mode_next ks k l) ∙ old)

module _ (owns : List (Option Own)) (bricks : List Heading) where
  one_next : (ks : Known) (k : ℕ) (l : Names) → with_all owns bricks l (drop k ks) ≡ with_all owns bricks (if_any (with_one owns bricks) l (slice_get ks k)) (drop (suc k) ks)
  one_next [] zero l = refl
  one_next [] (suc k) l = refl
  one_next (x ∷ ks) zero l = refl
  one_next (x ∷ ks) (suc k) l = one_next ks k l

  pub one_added : (ks : Known) (k : ℕ) (l new all : Names) → new ≡ if_any (with_one owns bricks) l (slice_get ks k) → with_all owns bricks l (drop k ks) ≡ all → with_all owns bricks new (drop (k + 1) ks) ≡ all
  one_added ks k l new all e old = rw (e, add-one) (sym (one_next ks k l) ∙ old)
