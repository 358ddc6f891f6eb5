-- Registers by their numbers.
use Rattle.std.proofs.Common.{◌≡◌, ◌≢◌, ℕ, zero, suc, ◌<◌, refl, arith}
use Rattle.pdp_code.specs.Code.{reg_code}
use Rattle.pdp_code.specs.First.{reg_of, pointer_of}
use Rattle.pdp_core.specs.Execute.{pointer_reg}

pub number_of : (n : ℕ) → n < 8 → n ≡ reg_code (reg_of n)
number_of zero h = refl
number_of (suc zero) h = refl
number_of (suc (suc zero)) h = refl
number_of (suc (suc (suc zero))) h = refl
number_of (suc (suc (suc (suc zero)))) h = refl
number_of (suc (suc (suc (suc (suc zero))))) h = refl
number_of (suc (suc (suc (suc (suc (suc zero)))))) h = refl
number_of (suc (suc (suc (suc (suc (suc (suc zero))))))) h = refl
number_of (suc (suc (suc (suc (suc (suc (suc (suc n)))))))) h = absurd (omega arith)

-- a pointer is the register of that number
pub pointer_is : (n : ℕ) → n < 8 → n ≢ 7 → reg_of n ≡ pointer_reg (pointer_of n)
pointer_is zero h d = refl
pointer_is (suc zero) h d = refl
pointer_is (suc (suc zero)) h d = refl
pointer_is (suc (suc (suc zero))) h d = refl
pointer_is (suc (suc (suc (suc zero)))) h d = refl
pointer_is (suc (suc (suc (suc (suc zero))))) h d = refl
pointer_is (suc (suc (suc (suc (suc (suc zero)))))) h d = refl
pointer_is (suc (suc (suc (suc (suc (suc (suc zero))))))) h d = absurd (d refl)
pointer_is (suc (suc (suc (suc (suc (suc (suc (suc n)))))))) h d = absurd (omega arith)
