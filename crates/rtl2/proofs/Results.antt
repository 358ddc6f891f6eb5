-- What is said of results that are errors.
use Rattle.std.proofs.Common.{◌≡◌, Result, Ok, Err, IfOk, IfErr, sym, subst}

pub if_ok_never : {A E : Type 0} (P : A → Type 0) (r : Result A E) (e : E) → r ≡ Err e → IfOk r P
if_ok_never P r e h = subst (λ x. IfOk x P) (sym h) tt

pub if_err_by : {A E : Type 0} (Q : E → Type 0) (r : Result A E) (e : E) → r ≡ Err e → Q e → IfErr r Q
if_err_by Q r e h q = subst (λ x. IfErr x Q) (sym h) q
