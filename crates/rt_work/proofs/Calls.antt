-- What holds of a call's answer where it is done, by what else holds of it.
use Rattle.std.proofs.Common.{◌≡◌, Option, None, Result, Ok, Err, IfOk, OnOk, sym, subst}

-- of a call that makes no visible step
pub after_none : {A E T : Type 0} (r : Result (Option A) E) (P : Option A → Type 0) → IfOk r (λ o. o ≡ None) → OnOk r T → (T → P None) → IfOk r P
after_none (Ok o) P none done h = subst P (sym none) (h done)
after_none (Err e) P none done h = tt

pub after_ok : {A E : Type 0} (r : Result A E) (P Q : A → Type 0) → IfOk r P → ((x : A) → P x → Q x) → IfOk r Q
after_ok (Ok x) P Q p h = h x p
after_ok (Err e) P Q p h = tt
