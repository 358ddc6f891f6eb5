-- What the program answers its words.
use Rattle.std.specs.Prelude.{ℕ, ◌≡◌, ◌≢◌, List, [], ◌∷◌, codes}
use Rattle.rt_accept.specs.Calls.{Call, Says}
use Rattle.rt_top.specs.Top.{Headline}
use Rattle.rtl2.specs.declared.texts.TheConstants.{USAGE, VERSION}

abbrev pub help : List (List ℕ)
help = codes "--help" ∷ []

abbrev pub version : List (List ℕ)
version = codes "--version" ∷ []

-- the two words that ask for a text are answered by it, and all other words as `top` answers them
pub record Answers (words : List (List ℕ)) (c : Call) (answer : ℕ) : Type 0 where
  pub helps : words ≡ help → Says USAGE.now 0 c answer
  pub versions : words ≡ version → Says VERSION.now 0 c answer
  pub commands : words ≢ help → words ≢ version → Headline words c answer
