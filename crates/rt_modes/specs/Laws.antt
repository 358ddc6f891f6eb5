-- Laws of full modes and of spellings.
use Rattle.std.specs.Prelude.{◌≡◌, ℕ, ◌+◌, ◌<◌, ◌≤◌, ◌⊎◌, List, [], ◌++◌, length}
use Rattle.std.specs.List.{AllByRecursion}
use Rattle.rt_modes.specs.declared.mode.Mode.{Mode}
use Rattle.rt_modes.specs.declared.mode.ModeTable.{ModeTable}
use Rattle.rt_modes.specs.FullMode.{Word, mentioned, with_new, where_words, reached_by}
use Rattle.rt_modes.specs.Spelling.{spelling, MayStand, IsMode, StandsAt, RefusedAt}

-- The definitions behind WHERE are those of the records that the text so written mentions, in the order of
-- first mention, each once.
abbrev pub DefineWhatIsMentioned : Type 0
DefineWhatIsMentioned = (t : ModeTable) (ws : List Word) → let ks = reached_by t ws in with_new [] (mentioned t (ws ++ where_words t ks)) ≡ ks

-- No spelling begins the spelling of another mode.
abbrev pub HaveOneSpelling : Type 0
HaveOneSpelling = (records : ℕ) (bytes rest : List ℕ) (m n : Mode) → IsMode records bytes m → IsMode records (bytes ++ rest) n → (rest ≡ []) × (m ≡ n)

-- A mode that may stand stands wherever its spelling is, whatever is around it.
abbrev pub AreReadBack : Type 0
AreReadBack = (records : ℕ) (before rest : List ℕ) (m : Mode) → MayStand records m
    → StandsAt records (before ++ (spelling m ++ rest)) (length before) m (length before + length (spelling m))

-- At each place of bytes a mode stands or a field is refused, and not both.
abbrev pub StandOrAreRefused : Type 0
StandOrAreRefused = (records : ℕ) (bytes : List ℕ) (at : ℕ) → AllByRecursion (λ b. b < 256) bytes → at ≤ length bytes
    → ((m : Mode) × (p : ℕ) × StandsAt records bytes at m p) ⊎ ((p : ℕ) × RefusedAt records bytes at p)

abbrev pub NeverBoth : Type 0
NeverBoth = (records : ℕ) (bytes : List ℕ) (at p q : ℕ) (m : Mode) → at ≤ length bytes → StandsAt records bytes at m p → RefusedAt records bytes at q → ⊥
