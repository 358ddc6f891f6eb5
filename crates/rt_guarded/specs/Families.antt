-- Held and May: the greatest and the least family of sets of facilities, one set for each point, that keeps its rules.
use Rattle.std.specs.Prelude.{◌≡◌, ◌≢◌, ◌⊎◌, ℕ, Bool, true, List, Option, Some}
use Rattle.std.specs.List.{Contains}
use Rattle.rt_tree_nodes.specs.declared.store.Proc.{Proc}
use Rattle.rt_tree.specs.Stored.{System, brick}
use Rattle.rt_guarded.specs.Points.{Point, Divides, Recovers, ReturnsAt}
use Rattle.rt_guarded.specs.Graph.{secure, release, MeetsErrors, entry, label, Way, IsPoint, MayCall, Handles, IsReached, Rel, RelE}

-- whether facility n is in the set of a point of a procedure
abbrev pub Family : Type 0
Family = Proc → Point → ℕ → Bool

abbrev pub In : Family → Proc → Point → ℕ → Type 0
In H f t n = H f t n ≡ true

abbrev pub Inside : Family → Family → Type 0
Inside H G = (f : Proc) (t : Point) (n : ℕ) → In H f t n → In G f t n

module _ (ps : System) (rs : List Proc) where
  -- a point of a reached procedure
  abbrev pub Stands : Proc → Point → Type 0
  Stands f t = IsReached ps rs f × IsPoint ps f t

  -- where g may be called
  pub record CalledAt (f : Proc) (t : Point) (g : Proc) (n : Option ℕ) : Type 0 where
    pub stands : Stands f t
    pub calls : MayCall ps f t g n

  -- an error may be met: at a division, or in the service of WAIT, SIGNAL, SECURE or RELEASE
  pub data ErrorAt (f : Proc) : Point → Type 0 where
    at_division : {k : Point} → Stands f (Divides k) → ErrorAt f (Divides k)
    in_service : {t : Point} {j : ℕ} {n : Option ℕ} → MeetsErrors j → CalledAt f t (brick 0 j) n → ErrorAt f t

  -- a procedure has a body
  abbrev pub HasBody : Proc → Type 0
  HasBody f = (t : Point) × (entry ps f ≡ Some t)

  -- a way of control on which nothing is called
  abbrev pub IsPlain : Proc → Point → Type 0
  IsPlain f t = ((g : Proc) (n : Option ℕ) → MayCall ps f t g n → ⊥) × ((k : Point) → t ≢ Divides k)

  -- it isn't the point of RELEASE(n)
  abbrev pub NotReleasing : Proc → Point → ℕ → Type 0
  NotReleasing f t n = MayCall ps f t release (Some n) → ⊥

  -- ---- Held

  pub record KeepsHeld (H : Family) : Type 0 where
    -- At a root's entry it is empty.
    pub at_root : {f : Proc} {t : Point} → Contains rs f → entry ps f ≡ Some t → (n : ℕ) → In H f t n → ⊥
    -- At a procedure's entry it lies in the set of each call and error point from which the procedure is entered. For the error
    -- point of RELEASE(n) it lies in that set without n.
    pub at_call : {f g : Proc} {t u : Point} {a : Option ℕ} → CalledAt f t g a → entry ps g ≡ Some u → (n : ℕ) → In H g u n → In H f t n
    pub at_error : {f g : Proc} {t u : Point} → ErrorAt f t → Handles ps g → entry ps g ≡ Some u → (n : ℕ) → In H g u n → In H f t n × NotReleasing f t n
    -- Along each way of control it doesn't grow but by SECURE.
    pub along : {f : Proc} {t u : Point} → Stands f t → IsPlain f t → Way ps f t u → (n : ℕ) → In H f u n → In H f t n
    -- After a call it lies in the set before without Rel of each callee.
    pub past_call : {f g : Proc} {t u : Point} {a : Option ℕ} → CalledAt f t g a → HasBody g → Way ps f t u → (n : ℕ) → In H f u n → In H f t n × (Rel ps g n → ⊥)
    -- After SECURE(n) it lies in the set before, with n added, then without RelE.
    pub past_secure : {f : Proc} {t u : Point} {m : ℕ} → CalledAt f t secure (Some m) → Way ps f t u → (n : ℕ) → In H f u n → (In H f t n ⊎ (n ≡ m)) × (RelE ps n → ⊥)
    -- After RELEASE(n) it lies in the set before without n and without RelE.
    pub past_release : {f : Proc} {t u : Point} {m : ℕ} → CalledAt f t release (Some m) → Way ps f t u → (n : ℕ) → In H f u n → In H f t n × (n ≢ m) × (RelE ps n → ⊥)
    -- After WAIT, SIGNAL or a division's error point it lies in the set before without RelE.
    pub past_wait : {f : Proc} {t u : Point} {j : ℕ} {a : Option ℕ} → CalledAt f t (brick 0 j) a → (j ≡ 4) ⊎ (j ≡ 5) → Way ps f t u → (n : ℕ) → In H f u n → In H f t n × (RelE ps n → ⊥)
    pub past_division : {f : Proc} {k : Point} → Stands f (Divides k) → (n : ℕ) → In H f k n → In H f (Divides k) n × (RelE ps n → ⊥)
    -- (Past the other supplied procedures nothing is called.)
    pub past_supplied : {f : Proc} {t u : Point} {j : ℕ} {a : Option ℕ} → CalledAt f t (brick 0 j) a → (MeetsErrors j → ⊥) → Way ps f t u → (n : ℕ) → In H f u n → In H f t n
    -- At the label of an ERL := L it is empty.
    pub at_recovery : {f : Proc} {k u : Point} {l : ℕ} → Stands f (Recovers l k) → label ps f l ≡ Some u → (n : ℕ) → In H f u n → ⊥

  -- Held is the greatest family that keeps them.
  pub record IsHeld (H : Family) : Type 0 where
    pub keeps : KeepsHeld H
    pub greatest : (G : Family) → KeepsHeld G → Inside G H

  -- ---- May

  -- where a procedure returns
  abbrev pub Gives : Proc → Point → Type 0
  Gives g t = Stands g t × ReturnsAt t

  -- a number of SECURE in a reached procedure
  abbrev pub IsSecured : ℕ → Type 0
  IsSecured n = (f : Proc) × (t : Point) × CalledAt f t secure (Some n)

  pub record KeepsMay (M : Family) : Type 0 where
    -- At a root's entry it is empty: no rule asks for more. At a procedure's entry it holds the set of each call and error point
    -- from which the procedure is entered. For the error point of SECURE(n) it holds that set with n.
    pub at_call : {f g : Proc} {t u : Point} {a : Option ℕ} → CalledAt f t g a → entry ps g ≡ Some u → (n : ℕ) → In M f t n → In M g u n
    pub at_error : {f g : Proc} {t u : Point} → ErrorAt f t → Handles ps g → entry ps g ≡ Some u → (n : ℕ) → In M f t n ⊎ MayCall ps f t secure (Some n) → In M g u n
    -- Along each way of control it holds what was before.
    pub along : {f : Proc} {t u : Point} → Stands f t → IsPlain f t → Way ps f t u → (n : ℕ) → In M f t n → In M f u n
    -- After a call it holds what stands at the callee's returns.
    pub past_call : {f g : Proc} {t u v : Point} {a : Option ℕ} → CalledAt f t g a → Gives g v → Way ps f t u → (n : ℕ) → In M g v n → In M f u n
    -- After an error point it also holds what was before; it is a call of each candidate.
    pub past_division : {f : Proc} {k : Point} → Stands f (Divides k) → (n : ℕ) → In M f (Divides k) n → In M f k n
    pub past_error : {f g : Proc} {t u v : Point} → ErrorAt f t → Handles ps g → Gives g v → Way ps f t u → (n : ℕ) → In M g v n → In M f u n
    -- Supplied procedures have no points here. After a call of one, RELEASE and RRGEL aside, it holds what was before.
    pub past_supplied : {f : Proc} {t u : Point} {j : ℕ} {a : Option ℕ} → CalledAt f t (brick 0 j) a → j ≢ 7 → j ≢ 10 → Way ps f t u → (n : ℕ) → In M f t n → In M f u n
    -- the same of a supplied candidate that an error calls
    pub past_handler : {f : Proc} {t u : Point} {j : ℕ} → ErrorAt f t → Handles ps (brick 0 j) → j ≢ 7 → j ≢ 10 → Way ps f t u → (n : ℕ) → In M f t n → In M f u n
    -- After SECURE(n) it also holds n.
    pub past_secure : {f : Proc} {t u : Point} {m : ℕ} → CalledAt f t secure (Some m) → Way ps f t u → In M f u m
    -- After RELEASE(n) it holds what was before without n.
    pub past_release : {f : Proc} {t u : Point} {m : ℕ} → CalledAt f t release (Some m) → Way ps f t u → (n : ℕ) → n ≢ m → In M f t n → In M f u n
    -- At the label of an ERL := L it holds every number of SECURE in reached procedures.
    pub at_recovery : {f : Proc} {k u : Point} {l : ℕ} → Stands f (Recovers l k) → label ps f l ≡ Some u → (n : ℕ) → IsSecured n → In M f u n

  -- May is the least family that keeps them.
  pub record IsMay (M : Family) : Type 0 where
    pub keeps : KeepsMay M
    pub least : (G : Family) → KeepsMay G → Inside M G
