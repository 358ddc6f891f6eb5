-- What stands ready, and objects in their ranges.
use Rattle.std.proofs.Common.{◌≡◌, ℕ, ◌+◌, ◌<◌, List, [], ◌∷◌, ◌++◌, length, take, get_or, sym, ap, ◌∙◌, subst}
use Rattle.std.proofs.lemmas.List.{take_more}
use Rattle.std.specs.List.{AllByRecursion}
use Rattle.rt_top.specs.declared.carrying.Prepared.{Prepared}
use Rattle.rt_top.specs.declared.running.Accepted.{Accepted}
use Rattle.rt_headline.specs.Go.{Go}
use Rattle.rt_top.specs.Going.{IsPrepared}
use Rattle.rt_top.specs.Running.{Begins}

pub begins : (g : Go) (x : Accepted) (p : Prepared) → IsPrepared g x p → Begins p.ready
begins g x p h = record { image = x.image; gaps = x.ticks; ready = h.ready }

module _ {A : Type 0} (P : A → Type 0) where
  behind : (xs : List A) (x : A) → AllByRecursion P xs → P x → AllByRecursion P (xs ++ x ∷ [])
  behind [] x h k = (k, tt)
  behind (y ∷ ys) x h k = (h.0, behind ys x h.1 k)

  -- one more of a list
  pub one_more : (xs : List A) (i : ℕ) (x : A) → i < length xs → x ≡ get_or xs i x → AllByRecursion P (take i xs) → P x → AllByRecursion P (take (i + 1) xs)
  one_more xs i x l e h k = subst (AllByRecursion P) (sym (take_more xs i x l ∙ ap (λ (y : A). take i xs ++ y ∷ []) (sym e))) (behind (take i xs) x h k)
