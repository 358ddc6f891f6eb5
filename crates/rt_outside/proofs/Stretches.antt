-- Stretches of deeds, one behind the other.
use Rattle.std.proofs.Common.{◌≡◌, Bool, true, false, List, [], ◌∷◌, ◌++◌, refl, sym, ap, subst}
use Rattle.rt_outside.specs.Deeds.{Deed, Outside, IsDone, HasFailed, Performed, nothing, done, failed}
use Rattle.rt_outside.specs.Laws.{Stopped}

pub joined : (ds es : List Deed) (a b c : Outside) (all : Bool) → Performed ds a b true → Performed es b c all → Performed (ds ++ es) a c all
joined ds es a b c all nothing k = k
joined (d ∷ ds) es a b c all (done {b = m} h k) l = done h (joined ds es m b c all k l)

-- one deed more, and no other deeds
pub one_more : (ds : List Deed) (d : Deed) (qs : List Deed) {a b c : Outside} → qs ≡ ds ++ d ∷ [] → Performed ds a b true → IsDone d b c → Performed qs a c true
one_more ds d qs {a} {b} {c} e h k = subst (λ (xs : List Deed). Performed xs a c true) (sym e) (joined ds (d ∷ []) a b c true h (done k nothing))

pub one_failed : (ds : List Deed) (d : Deed) (es qs : List Deed) {a b c : Outside} → qs ≡ ds ++ d ∷ es → Performed ds a b true → HasFailed d b c → Performed qs a c false
one_failed ds d es qs {a} {b} {c} e h k = subst (λ (xs : List Deed). Performed xs a c false) (sym e) (joined ds (d ∷ es) a b c false h (failed k))

stopped_by : (all : Bool) (ds : List Deed) (a c : Outside) → all ≡ false → Performed ds a c all → Stopped ds a c
stopped_by all [] a c e nothing = absurd cc
stopped_by all (d ∷ ds) a c e (failed h) = record { before = []; deed = d; behind = ds; parts = refl; middle = a; done = nothing; failed = h }
stopped_by all (d ∷ ds) a c e (done {b = m} h k) =
    let s = stopped_by all ds m c e k in
    record { before = d ∷ s.before; deed = s.deed; behind = s.behind; parts = ap (λ xs. d ∷ xs) s.parts; middle = s.middle; done = done h s.done; failed = s.failed }

pub stopped : (ds : List Deed) (a c : Outside) → Performed ds a c false → Stopped ds a c
stopped ds a c h = stopped_by false ds a c refl h
