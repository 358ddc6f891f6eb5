-- The steps of a run, joined.
use Rattle.std.proofs.Common.{◌≡◌, ℕ, Bool, true, false, List, [], ◌∷◌, ◌++◌, sym, ◌∙◌, subst}
use Rattle.rt_digraph.specs.Going.{IsGoing, IsOver, HasMet, Turned, Ended, back}
use Rattle.rt_digraph.specs.declared.walk.Walk.{Walk}

module _ (graph : List (List ℕ)) (roots : List ℕ) (stop : ℕ) where
  -- the last node is taken off the path
  pub taken : (w : Walk) (below : List ℕ) (n : ℕ) → w.path ≡ below ++ n ∷ [] → IsGoing graph roots stop w → IsGoing graph roots stop (back n (record w { path = below }))
  taken w below n e g = subst (λ (p : List ℕ). IsGoing graph roots stop (record w { path = p })) e g

  pub turned_met : (met : Bool) (w : Walk) → met ≡ true → Turned graph roots stop met w → HasMet graph roots stop w
  turned_met met w e t = subst (λ (b : Bool). Turned graph roots stop b w) e t

  pub turned_on : (met : Bool) (w : Walk) → met ≡ false → Turned graph roots stop met w → IsGoing graph roots stop w
  turned_on met w e t = subst (λ (b : Bool). Turned graph roots stop b w) e t

  pub ended_met : (met : Bool) (w : Walk) → met ≡ true → Ended graph roots stop met w → HasMet graph roots stop w
  ended_met met w e t = subst (λ (b : Bool). Ended graph roots stop b w) e t

  pub ended_on : (met : Bool) (w : Walk) → met ≡ false → Ended graph roots stop met w → IsOver graph roots stop w
  ended_on met w e t = subst (λ (b : Bool). Ended graph roots stop b w) e t

  pub over_at : (w : Walk) (p : List ℕ) → w.path ≡ [] → p ≡ [] → IsGoing graph roots stop w → IsOver graph roots stop (record w { path = p })
  over_at w p e f g = record { going = subst (λ (q : List ℕ). IsGoing graph roots stop (record w { path = q })) (e ∙ sym f) g; path = f }
