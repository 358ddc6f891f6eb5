-- The words of the commands.
use Rattle.std.specs.Prelude.{◌≡◌, ℕ, ◌≤◌, List, [], ◌∷◌, length, codes}
use Rattle.std.specs.List.{AllByRecursion}
use Rattle.rt_system.specs.Numbers.{IsNumber}
use Rattle.rt_system.specs.Fields.{IsFile}
use Rattle.rt_commands.specs.declared.command.Command.{Command}
use Rattle.rt_commands.specs.declared.command.Command.TheVariants.{Go, Compile, Link, Stacks, Run, Show, Gen}

-- 1 to 10 digits with a value up to 4,000,000,000
pub record IsLimit (digits : List ℕ) (limit : ℕ) : Type 0 where
  pub number : IsNumber digits limit
  pub short : length digits ≤ 10
  pub most : limit ≤ 4000000000

-- 1 to 5 digits with a value from 1 to 10,000
pub record IsCount (digits : List ℕ) (count : ℕ) : Type 0 where
  pub number : IsNumber digits count
  pub short : length digits ≤ 5
  pub least : 1 ≤ count
  pub most : count ≤ 10000

-- a word that names a file
abbrev pub IsNamed : List ℕ → Type 0
IsNamed word = 1 ≤ length word

-- this word, and behind it words that name these files
pub record HasFiles (word : List ℕ) (files words : List (List ℕ)) : Type 0 where
  pub are : words ≡ word ∷ files
  pub named : AllByRecursion IsNamed files

-- this word, two files, a limit, and a third name
pub record HasLimit (word first second : List ℕ) (limit : ℕ) (last : List ℕ) (words : List (List ℕ)) : Type 0 where
  pub digits : List ℕ
  pub are : words ≡ word ∷ first ∷ second ∷ digits ∷ last ∷ []
  pub named : AllByRecursion IsNamed (first ∷ second ∷ last ∷ [])
  pub limit_is : IsLimit digits limit

-- gen N NAME
pub record IsGen (count : ℕ) (name : List ℕ) (words : List (List ℕ)) : Type 0 where
  pub digits : List ℕ
  pub are : words ≡ codes "gen" ∷ digits ∷ name ∷ []
  pub count_is : IsCount digits count
  pub file : IsFile name

-- the words are those of the command
abbrev pub IsCommand : List (List ℕ) → Command → Type 0
IsCommand words (Go system ticks limit name) = HasLimit (codes "go") system ticks limit name words
IsCommand words (Compile source object) = HasFiles (codes "compile") (source ∷ object ∷ []) words
IsCommand words (Link system image map) = HasFiles (codes "link") (system ∷ image ∷ map ∷ []) words
IsCommand words (Stacks system) = HasFiles (codes "stacks") (system ∷ []) words
IsCommand words (Run image ticks limit report) = HasLimit (codes "run") image ticks limit report words
IsCommand words (Show object) = HasFiles (codes "show") (object ∷ []) words
IsCommand words (Gen count name) = IsGen count name words

-- the same words are those of one command at most
abbrev pub HaveOneCommand : Type 0
HaveOneCommand = (words : List (List ℕ)) (c d : Command) → IsCommand words c → IsCommand words d → c ≡ d
