-- What the outside held and counted before a call and after it.
use Rattle.std.specs.Io.KnownBytes.{Keeps}
use Rattle.std.specs.Prelude.{◌≡◌, ℕ, Bool, true, false, List, [], ◌∷◌, Option}
use Rattle.rt_outside.specs.Deeds.{Deed, Writes, Puts, Outside, Performed}
use Rattle.rt_outside.specs.Laws.{Both, Among}
use Rattle.rt_outside.specs.Files.{Files}
use Rattle.rt_run.specs.Inputs.{Feed, feed}

-- the store, the output and the input
pub record Call : Type 0 where
  pub files : Option Files
  pub files_after : Option Files
  pub reads : List ℕ → ℕ
  pub reads_after : List ℕ → ℕ
  pub writes : List ℕ → ℕ
  pub writes_after : List ℕ → ℕ
  pub written : Option (List ℕ)
  pub written_after : Option (List ℕ)
  pub faults : ℕ
  pub faults_after : ℕ
  pub left : Feed
  pub left_after : Feed
  pub input_faults : ℕ
  pub input_faults_after : ℕ

-- what a call sees of a store: its files, where it tells them, and how often a read and a write of each name have failed
pub record Stock : Type 0 where
  pub files : Option Files
  pub reads : List ℕ → ℕ
  pub writes : List ℕ → ℕ

abbrev pub stock : {T : Type 0} → (T → Option Files) → (T → List ℕ → ℕ) → (T → List ℕ → ℕ) → T → Stock
stock files reads writes x = record { files = files x; reads = reads x; writes = writes x }

-- of an output: the bytes that were put, where it tells them, and how often a put has failed
pub record Sunk : Type 0 where
  pub written : Option (List ℕ)
  pub faults : ℕ

abbrev pub sunk : {T : Type 0} → (T → Option (List ℕ)) → (T → ℕ) → T → Sunk
sunk written faults x = record { written = written x; faults = faults x }

-- of an input: what it tells of its bytes, and how often a call of it has failed
pub record Fed : Type 0 where
  pub left : Feed
  pub faults : ℕ

abbrev pub fed : {T : Type 0} → (T → Option (List ℕ)) → (T → Bool) → (T → ℕ) → T → Fed
fed left ended faults x = record { left = feed (left x) (ended x); faults = faults x }

-- before a call, and after it
pub record Moved (A : Type 0) : Type 0 where
  pub before : A
  pub after : A

abbrev pub moved : {T A : Type 0} → (T → A) → T → T → Moved A
moved seen old new = record { before = seen old; after = seen new }

abbrev pub unmoved : {A : Type 0} → A → Moved A
unmoved x = record { before = x; after = x }

-- an input of which nothing was taken
abbrev pub still : Feed → ℕ → Moved Fed
still left faults = unmoved (record { left = left; faults = faults })

-- a call by what these were before and after
abbrev pub the_call : Moved Stock → Moved Sunk → Moved Fed → Call
the_call store output input = record {
  files = store.before.files;
  files_after = store.after.files;
  reads = store.before.reads;
  reads_after = store.after.reads;
  writes = store.before.writes;
  writes_after = store.after.writes;
  written = output.before.written;
  written_after = output.after.written;
  faults = output.before.faults;
  faults_after = output.after.faults;
  left = input.before.left;
  left_after = input.after.left;
  input_faults = input.before.faults;
  input_faults_after = input.after.faults;
}

abbrev pub outside : Option Files → (List ℕ → ℕ) → Option (List ℕ) → ℕ → Outside
outside files writes written faults = record { files = files; writes = writes; written = written; faults = faults }

-- what is written to, before and after
abbrev pub before : Call → Outside
before c = record { files = c.files; writes = c.writes; written = c.written; faults = c.faults }

abbrev pub after : Call → Outside
after c = record { files = c.files_after; writes = c.writes_after; written = c.written_after; faults = c.faults_after }

-- nothing was taken of the input, and no call of it failed
pub record KeepsInput (c : Call) : Type 0 where
  pub left : c.left_after ≡ c.left
  pub faults : c.input_faults_after ≡ c.input_faults

-- no file changed, and nothing was put
pub record NothingDone (c : Call) : Type 0 where
  pub files : c.files_after ≡ c.files
  pub written : Keeps c.written c.written_after
  pub input : KeepsInput c

-- told files stay told, and each of another name than these is as it was
abbrev pub KeepsOthers : List (List ℕ) → Call → Type 0
KeepsOthers names c = Both c.files c.files_after (λ old new. (n : List ℕ) → (Among names n → ⊥) → new n ≡ old n)

-- no file changed, and nothing was put
pub record IsKept (a b : Outside) : Type 0 where
  pub files : b.files ≡ a.files
  pub written : b.written ≡ a.written

-- the status of deeds: what they are done for, or 21 where one failed
pub data Answers (done : ℕ) : (all : Bool) → ℕ → Type 0 where
  all_done : Answers done true done
  one_failed : Answers done false 21

-- these deeds are all that is done
pub record DoesAll (ds : List Deed) (done : ℕ) (a b : Outside) (status : ℕ) : Type 0 where
  pub all : Bool
  pub performed : Performed ds a b all
  pub answer : Answers done all status

-- one deed is
abbrev pub Does : Deed → ℕ → Outside → Outside → ℕ → Type 0
Does d = DoesAll (d ∷ [])

-- the report gets this text
abbrev pub Reports : List ℕ → List ℕ → ℕ → Outside → Outside → ℕ → Type 0
Reports name text done a b status = Does (Writes name text) done a b status

-- this text is put
abbrev pub Tells : List ℕ → ℕ → Outside → Outside → ℕ → Type 0
Tells text done a b status = Does (Puts text) done a b status

-- a text is put, and nothing else is done
pub record Says (text : List ℕ) (done : ℕ) (c : Call) (status : ℕ) : Type 0 where
  pub tells : Tells text done (before c) (after c) status
  pub input : KeepsInput c
