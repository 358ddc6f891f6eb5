-- The numbers of the supplied procedures.
use Rattle.std.proofs.Common.{◌≡◌, ℕ, zero, suc, List, Some, codes, slice_get, refl, sym, ap, ◌∙◌}
use Rattle.rt_modes.specs.Bricks.{supplied_names}
use Rattle.rt_resolve.specs.Bindings.{supplied_number}

named : {x : List ℕ} (y : List ℕ) (k : ℕ) → Some y ≡ Some x → supplied_number y ≡ suc k → supplied_number x ≡ suc k
named {x} y k e h = let same : y ≡ x = cc in ap supplied_number (sym same) ∙ h

-- the number by which a supplied procedure is bound
pub number_of_name : (k : ℕ) (x : List ℕ) → slice_get supplied_names k ≡ Some x → supplied_number x ≡ suc k
number_of_name zero x e = named (codes "RRIN") 0 e refl
number_of_name (suc zero) x e = named (codes "RROUT") 1 e refl
number_of_name (suc (suc zero)) x e = named (codes "DELAY") 2 e refl
number_of_name (suc (suc (suc zero))) x e = named (codes "WAIT") 3 e refl
number_of_name (suc (suc (suc (suc zero)))) x e = named (codes "SIGNAL") 4 e refl
number_of_name (suc (suc (suc (suc (suc zero))))) x e = named (codes "SECURE") 5 e refl
number_of_name (suc (suc (suc (suc (suc (suc zero)))))) x e = named (codes "RELEASE") 6 e refl
number_of_name (suc (suc (suc (suc (suc (suc (suc zero))))))) x e = named (codes "CLOCK") 7 e refl
number_of_name (suc (suc (suc (suc (suc (suc (suc (suc zero)))))))) x e = named (codes "TASKNO") 8 e refl
number_of_name (suc (suc (suc (suc (suc (suc (suc (suc (suc zero))))))))) x e = named (codes "RRGEL") 9 e refl
number_of_name (suc (suc (suc (suc (suc (suc (suc (suc (suc (suc k)))))))))) x e = absurd cc
