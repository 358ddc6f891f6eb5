-- What a command leaves.
use Rattle.std.proofs.Common.{◌≡◌, ℕ, ◌≤◌, true, false, List, Option, Some, None, refl, sym, subst, arith}
use Rattle.std.specs.Io.KnownBytes.{Keeps}
use Rattle.rt_outside.specs.Deeds.{Deed, Outside, IsLater, Performed}
use Rattle.rt_outside.specs.Files.{Files}
use Rattle.rt_accept.specs.Calls.{outside, DoesAll, all_done, one_failed, Reports}

pub keeps : (o : Option (List ℕ)) → Keeps o o
keeps None = tt
keeps (Some xs) = refl

pub all_well : (ds : List Deed) (n : ℕ) (a b : Outside) → Performed ds a b true → DoesAll ds n a b n
all_well ds n a b h = record { all = true; performed = h; answer = all_done }

pub not_well : (ds : List Deed) (n : ℕ) (a b : Outside) → Performed ds a b false → DoesAll ds n a b 21
not_well ds n a b h = record { all = false; performed = h; answer = one_failed }

-- other words for the same text and the same status
pub reworded : (name text text2 : List ℕ) (n n2 : ℕ) (a b : Outside) (status : ℕ) → text ≡ text2 → n ≡ n2 → Reports name text n a b status → Reports name text2 n2 a b status
reworded name text text2 n n2 a b status e e2 h = subst (λ t. Reports name t n2 a b status) e (subst (λ m. Reports name text m a b status) e2 h)

-- a count that rose is later, and all others are the same
pub put_later : (files : Option Files) (writes : List ℕ → ℕ) (written written2 : Option (List ℕ)) (faults faults2 : ℕ) → faults ≤ faults2 → IsLater (outside files writes written faults) (outside files writes written2 faults2)
put_later files writes written written2 faults faults2 h = record { writes = λ n. omega arith; faults = h }

pub keeps_by : (o p : Option (List ℕ)) → p ≡ o → Keeps o p
keeps_by o p e = subst (Keeps o) (sym e) (keeps o)
