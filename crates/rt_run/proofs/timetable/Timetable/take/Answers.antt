use Rattle.std.proofs.Common.{◌≡◌, ℕ, zero, suc, ◌+◌, List, [], ◌∷◌, ◌++◌, drop, refl, add-one}
use Rattle.rt_run.specs.Ticking.{Ticking}
use Rattle.rt_run.proofs.timetable.Timetable.take.Goals as goal

drop_one : (xs : List ℕ) (n : ℕ) → drop (suc n) xs ≡ drop 1 (drop n xs)
drop_one [] zero = refl
drop_one [] (suc n) = refl
drop_one (x ∷ xs) zero = refl
drop_one (x ∷ xs) (suc n) = drop_one xs n

taken : (ticks : List ℕ) (next steps : ℕ) (before after : List ℕ) → after ≡ before ++ steps ∷ [] → (let t : Ticking = record { gaps = drop (next + 1) ticks; since = 0; placements = after } in t) ≡ record { gaps = drop 1 (drop next ticks); since = 0; placements = before ++ steps ∷ [] }
taken ticks next steps before after e = rw (e, add-one, drop_one ticks next) refl

pub returns : goal.returns
returns c = rw (← c.self.view_is) (taken c.self.inside.ticks c.self.inside.next c.args.steps c.self.inside.placements.items c.push.new.self.items (rw c.unwrap.ensures at c.push.ensures.ok))
