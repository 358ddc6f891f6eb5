-- What the forms in memory hold.
use Rattle.std.specs.Prelude.{ℕ, ◌-◌, ◌==◌, ◌||◌, Bool, false, if◌then◌else◌, List, [], ◌∷◌, ◌++◌}
use Rattle.rt_outside.specs.Calls.{Calls, next_fails, after_call}

-- a store: its files by name, of which the first of a name counts, the room that is left, and its calls
pub record StoreState : Type 0 where
  pub files : List (List ℕ × List ℕ)
  pub room : ℕ
  pub calls : Calls

-- a source: the bytes that are left, and its calls
pub record SourceState : Type 0 where
  pub left : List ℕ
  pub calls : Calls

-- a sink: the bytes written, the room that is left, and its calls
pub record SinkState : Type 0 where
  pub written : List ℕ
  pub room : ℕ
  pub calls : Calls

-- whether the next put fails
abbrev pub put_fails : SinkState → Bool
put_fails s = next_fails s.calls || (s.room == 0)

-- after one more put, of this byte
abbrev pub after_put : ℕ → SinkState → SinkState
after_put byte s = record {
  written = if put_fails s then s.written else s.written ++ byte ∷ [];
  room = if put_fails s then s.room else s.room - 1;
  calls = after_call (put_fails s) s.calls;
}

-- after puts of these bytes, up to the first that fails
abbrev pub after_puts : List ℕ → SinkState → SinkState
after_puts [] s = s
after_puts (byte ∷ bytes) s = if put_fails s then after_put byte s else after_puts bytes (after_put byte s)

-- whether one of these puts fails
abbrev pub puts_fail : List ℕ → SinkState → Bool
puts_fail [] s = false
puts_fail (byte ∷ bytes) s = put_fails s || puts_fail bytes (after_put byte s)

-- the files that a store keeps, and the room that is left
pub record ShelfState : Type 0 where
  pub files : List (List ℕ × List ℕ)
  pub room : ℕ
