-- The fault that counts of several kinds of faults.
use Rattle.std.proofs.Common.{◌≡◌, ◌⊎◌, inl, inr, Bool, true, false, List, Option, Some, None, refl, sym, subst}
use Rattle.rt_check_faults.specs.declared.fault.CheckFault.{CheckFault}
use Rattle.rt_check_faults.specs.Outcomes.{IsLeast, sooner, is_before}
use Rattle.rt_check_declared.specs.Verdicts.{IsIn, with_faults, GatheredCounts}
use Rattle.rt_check_faults.proofs.Counting.{before_through, before_turned, sooner_yes, sooner_no}
use Rattle.rt_check_declared.proofs.Least.{gathers_least}
use Rattle.rt_check_declared.specs.Heads.{noted}
use Rattle.rt_check_declared.specs.Records.{Counts}

counts_by : (fs : List CheckFault) (o : Option CheckFault) → GatheredCounts fs o → Counts (λ g. IsIn g fs) o
counts_by fs None e = λ g h. subst (λ (x : List CheckFault). IsIn g x) e h
counts_by fs (Some g) least = least

pub gathered_counts : (fs : List CheckFault) → Counts (λ g. IsIn g fs) (with_faults None fs)
gathered_counts fs = counts_by fs (with_faults None fs) (gathers_least fs)

-- ---- of two kinds

module _ (P Q : CheckFault → Type 0) where
  abbrev pub Either : CheckFault → Type 0
  Either h = P h ⊎ Q h

  sooner_counts : (f g : CheckFault) (b : Bool) → is_before f g ≡ b → IsLeast P f → IsLeast Q g → IsLeast Either (sooner f g)
  sooner_counts f g true e p q = subst (λ (x : CheckFault). IsLeast Either x) (sym (sooner_yes f g e)) (record {
    stands = inl p.stands;
    least = λ h s. elim s [ inl a ↦ p.least h a | inr b ↦ before_through f g h e (q.least h b) ];
  })
  sooner_counts f g false e p q = subst (λ (x : CheckFault). IsLeast Either x) (sym (sooner_no f g e)) (record {
    stands = inr q.stands;
    least = λ h s. elim s [ inl a ↦ before_through g f h (before_turned f g e) (p.least h a) | inr b ↦ q.least h b ];
  })

  pub either_counts : (f g : Option CheckFault) → Counts P f → Counts Q g → Counts Either (noted f g)
  either_counts None None p q = λ h s. elim s [ inl a ↦ p h a | inr b ↦ q h b ]
  either_counts (Some f) None p q = record { stands = inl p.stands; least = λ h s. elim s [ inl a ↦ p.least h a | inr b ↦ absurd (q h b) ] }
  either_counts None (Some g) p q = record { stands = inr q.stands; least = λ h s. elim s [ inl a ↦ absurd (p h a) | inr b ↦ q.least h b ] }
  either_counts (Some f) (Some g) p q = sooner_counts f g (is_before f g) refl p q

-- what counts of some counts of the same said otherwise
pub counts_as : (P Q : CheckFault → Type 0) → ((g : CheckFault) → P g → Q g) → ((g : CheckFault) → Q g → P g) → (o : Option CheckFault) → Counts P o → Counts Q o
counts_as P Q there back None none = λ g q. none g (back g q)
counts_as P Q there back (Some g) counts = record { stands = there g counts.stands; least = λ h q. counts.least h (back h q) }
