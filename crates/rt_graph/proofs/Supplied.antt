-- The texts of supplied procedures.
use Rattle.std.proofs.Common.{◌≡◌, ℕ, zero, suc, ◌-◌, ◌≤◌, arith, true, false, Some, slice_get, sym, ap}
use Rattle.rt_modes.specs.Bricks.{brick_numbered, text_in, text_of}
use Rattle.rt_modes.specs.declared.supplied.Supplied.{Supplied}
use Rattle.rt_modes.specs.declared.supplied.TheConstants.{SUPPLIED}
use Rattle.rt_graph.specs.Numbers.{is_supplied}

some_text : (s t : Supplied) → Some s ≡ Some t → text_of s ≡ text_of t
some_text s t e = let same : s ≡ t = cc in ap text_of same

pub text_is : (k : ℕ) (s : Supplied) → is_supplied k ≡ true → slice_get SUPPLIED (k - 1) ≡ Some s → text_of s ≡ text_in (brick_numbered k)
text_is zero s h e = absurd (let f : false ≡ true = h in cc)
text_is (suc zero) s h e = sym (some_text _ s e)
text_is (suc (suc zero)) s h e = sym (some_text _ s e)
text_is (suc (suc (suc zero))) s h e = sym (some_text _ s e)
text_is (suc (suc (suc (suc zero)))) s h e = sym (some_text _ s e)
text_is (suc (suc (suc (suc (suc zero))))) s h e = sym (some_text _ s e)
text_is (suc (suc (suc (suc (suc (suc zero)))))) s h e = sym (some_text _ s e)
text_is (suc (suc (suc (suc (suc (suc (suc zero))))))) s h e = sym (some_text _ s e)
text_is (suc (suc (suc (suc (suc (suc (suc (suc zero)))))))) s h e = sym (some_text _ s e)
text_is (suc (suc (suc (suc (suc (suc (suc (suc (suc zero))))))))) s h e = sym (some_text _ s e)
text_is (suc (suc (suc (suc (suc (suc (suc (suc (suc (suc zero)))))))))) s h e = sym (some_text _ s e)
text_is (suc (suc (suc (suc (suc (suc (suc (suc (suc (suc (suc k))))))))))) s h e = absurd (too_large k h)
  where
    within : (n : ℕ) → is_supplied n ≡ true → n ≤ 10
    within n h = grind (arith, h)

    too_large : (k : ℕ) → is_supplied (suc (suc (suc (suc (suc (suc (suc (suc (suc (suc (suc k))))))))))) ≡ true → ⊥
    too_large k h = let l : suc (suc (suc (suc (suc (suc (suc (suc (suc (suc (suc k)))))))))) ≤ 10 = within _ h in omega arith
