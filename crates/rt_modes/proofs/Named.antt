-- Supplied bricks by their names and numbers.
use Rattle.std.proofs.Common.{◌≡◌, ℕ, zero, suc, List, [], ◌∷◌, Bool, true, false, cond, Some, None, ◌<◌, length, slice_get, refl, sym, ap, ◌∙◌, arith}
use Rattle.std.specs.Prelude.{find}
use Rattle.std.specs.Str.{bytes_eq}
use Rattle.std.proofs.lemmas.Option.{slice_get_within}
use Rattle.std.proofs.lemmas.Slice.Eq.{bytes_eq-Decides}
use Rattle.rt_modes.specs.Bricks.{SuppliedBrick, supplied_bricks, is_of, number_of, name_of, text_of, supplied_by}
use Rattle.rt_modes.specs.SuppliedLaws.{NumbersAgree, AreFound, AreOfTheirNames, AreNumbered}
use Rattle.rt_modes.specs.declared.supplied.Supplied.{Supplied}
use Rattle.rt_modes.specs.declared.supplied.Supplied.TheVariants as brick
use Rattle.rt_modes.specs.declared.supplied.TheConstants.{SUPPLIED}

-- what is found passes the test
found_passes : {A : Type 0} (p : A → Bool) (xs : List A) (s : A) → find p xs ≡ Some s → p s ≡ true
found_passes p [] s e = absurd cc
found_passes p (x ∷ xs) s e = by (p x) refl (found_passes p xs s) e
  where
    by : (b : Bool) → p x ≡ b → (find p xs ≡ Some s → p s ≡ true) → cond b (Some x) (find p xs) ≡ Some s → p s ≡ true
    by true q rest f = cc
    by false q rest f = rest f

pub of_their_names : AreOfTheirNames
of_their_names name s e = (bytes_eq-Decides (name_of s) name).0 (found_passes (λ t. bytes_eq (name_of t) name) SUPPLIED s e)

pub are_found : AreFound
are_found brick.Rrin = refl
are_found brick.Rrout = refl
are_found brick.Delay = refl
are_found brick.Wait = refl
are_found brick.Signal = refl
are_found brick.Secure = refl
are_found brick.Release = refl
are_found brick.Clock = refl
are_found brick.Taskno = refl
are_found brick.Rrgel = refl
are_found brick.Rrerr = refl
are_found brick.Rrsio = refl

at : (s : Supplied) (b : SuppliedBrick) → Some (is_of (name_of s) (text_of s)) ≡ Some b → (t : Supplied) × (supplied_by b.name ≡ Some t) × (number_of t ≡ number_of s) × (is_of (name_of t) (text_of t) ≡ b)
at s b e = let same : is_of (name_of s) (text_of s) ≡ b = cc in (s, ap (λ x. supplied_by x.name) (sym same) ∙ are_found s, refl, same)

pub are_numbered : AreNumbered
are_numbered zero b e = absurd cc
are_numbered (suc zero) b e = at brick.Rrin b e
are_numbered (suc (suc zero)) b e = at brick.Rrout b e
are_numbered (suc (suc (suc zero))) b e = at brick.Delay b e
are_numbered (suc (suc (suc (suc zero)))) b e = at brick.Wait b e
are_numbered (suc (suc (suc (suc (suc zero))))) b e = at brick.Signal b e
are_numbered (suc (suc (suc (suc (suc (suc zero)))))) b e = at brick.Secure b e
are_numbered (suc (suc (suc (suc (suc (suc (suc zero))))))) b e = at brick.Release b e
are_numbered (suc (suc (suc (suc (suc (suc (suc (suc zero)))))))) b e = at brick.Clock b e
are_numbered (suc (suc (suc (suc (suc (suc (suc (suc (suc zero))))))))) b e = at brick.Taskno b e
are_numbered (suc (suc (suc (suc (suc (suc (suc (suc (suc (suc zero)))))))))) b e = at brick.Rrgel b e
are_numbered (suc (suc (suc (suc (suc (suc (suc (suc (suc (suc (suc zero))))))))))) b e = at brick.Rrerr b e
are_numbered (suc (suc (suc (suc (suc (suc (suc (suc (suc (suc (suc (suc zero)))))))))))) b e = at brick.Rrsio b e
are_numbered (suc (suc (suc (suc (suc (suc (suc (suc (suc (suc (suc (suc (suc k))))))))))))) b e = absurd (past k b e)
  where
    past : (k : ℕ) (b : SuppliedBrick) → slice_get supplied_bricks (suc (suc (suc (suc (suc (suc (suc (suc (suc (suc (suc (suc k)))))))))))) ≡ Some b → ⊥
    past k b e = let h : suc (suc (suc (suc (suc (suc (suc (suc (suc (suc (suc (suc k))))))))))) < 12 = slice_get_within supplied_bricks _ b e in omega arith

pub numbers_agree : NumbersAgree
numbers_agree brick.Rrin = (refl, (0, refl, refl))
numbers_agree brick.Rrout = (refl, (1, refl, refl))
numbers_agree brick.Delay = (refl, (2, refl, refl))
numbers_agree brick.Wait = (refl, (3, refl, refl))
numbers_agree brick.Signal = (refl, (4, refl, refl))
numbers_agree brick.Secure = (refl, (5, refl, refl))
numbers_agree brick.Release = (refl, (6, refl, refl))
numbers_agree brick.Clock = (refl, (7, refl, refl))
numbers_agree brick.Taskno = (refl, (8, refl, refl))
numbers_agree brick.Rrgel = (refl, (9, refl, refl))
numbers_agree brick.Rrerr = (refl, (10, refl, refl))
numbers_agree brick.Rrsio = (refl, (11, refl, refl))
