-- How the records that a record contains are found: those that are reached are marked, and those whose fields weren't looked at yet
-- wait.
use Rattle.std.specs.Prelude.{ℕ, suc, Bool, true, false, List, [], ◌∷◌, ◌++◌, Option, Some, None, slice_get, slice_set}
use Rattle.rt_modes.specs.declared.mode.Field.{Field}
use Rattle.rt_sizes.specs.Containing.{held}

pub record Reach : Type 0 where
  pub marks : List Bool
  pub waiting : List ℕ

abbrev pub reach : List Bool → List ℕ → Reach
reach ms ws = record { marks = ms; waiting = ws }

-- a record that isn't marked is marked, and waits
abbrev pub mark_by : ℕ → Reach → Option Bool → Reach
mark_by s st (Some false) = reach (slice_set st.marks s true) (st.waiting ++ s ∷ [])
mark_by s st _ = st

abbrev pub mark : Option ℕ → Reach → Reach
mark None st = st
mark (Some s) st = mark_by s st (slice_get st.marks s)

-- the records that fields have are marked
abbrev pub visit : List Field → Reach → Reach
visit [] st = st
visit (f ∷ fs) st = visit fs (mark (held f.mode) st)

-- how many records aren't marked
abbrev pub unmarked : List Bool → ℕ
unmarked [] = 0
unmarked (true ∷ ms) = unmarked ms
unmarked (false ∷ ms) = suc (unmarked ms)
