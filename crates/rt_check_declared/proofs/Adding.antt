-- Names that are added one after another.
use Rattle.std.proofs.Common.{◌≡◌, Bool, true, false, List, [], ◌∷◌, ◌++◌, refl, ◌∙◌}
use Rattle.rt_check_declared.specs.Verdicts.{with_faults}
use Rattle.rt_check_declared.specs.Names.{Named, is_second, counting, twice}
use Rattle.rt_check_declared.specs.Naming.{State, add, add_all}

pub add_append : (s : State) (xs ys : List Named) → add_all s (xs ++ ys) ≡ add_all (add_all s xs) ys
unfolding add_all
add_append s [] ys = refl
add_append s (x ∷ xs) ys = add_append (add s x) xs ys

pub add_cons : (s : State) (x : Named) (xs : List Named) → add_all s (x ∷ xs) ≡ add_all (add s x) xs
unfolding add_all
add_cons s x xs = refl

pub add_none : (s : State) → add_all s [] ≡ s
unfolding add_all
add_none s = refl

abbrev law : State → List Named → State
law s ms = record { known = counting s.known ms; fault = with_faults s.fault (twice s.known ms) }

law_cons : (s : State) (m : Named) (ms : List Named) (b : Bool) → is_second s.known m ≡ b → law (add s m) ms ≡ law s (m ∷ ms)
unfolding counting twice with_faults
law_cons s m ms true e = rw e refl
law_cons s m ms false e = rw e refl

pub add_law : (s : State) (ms : List Named) → add_all s ms ≡ record { known = counting s.known ms; fault = with_faults s.fault (twice s.known ms) }
unfolding add_all counting twice with_faults
add_law s [] = refl
add_law s (m ∷ ms) = add_law (add s m) ms ∙ law_cons s m ms (is_second s.known m) refl

pub ruleset adding = (add_append, add_cons, add_none)
