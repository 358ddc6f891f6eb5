-- A memory in which a task of an image is as told: its registers, its stack and its own data.
use Rattle.std.specs.Prelude.{◌≡◌, ℕ, List, [], ◌∷◌}
use Rattle.rt_tree_nodes.specs.declared.store.Datum.{Datum}
use Rattle.pdp_code.specs.declared.instruction.Instr.{Instr}
use Rattle.pdp_code.specs.Code.{words_of}
use Rattle.pdp_core.specs.World.{World}
use Rattle.pdp_symbolic.specs.Machine.{Layout, Machine, Matches, Stands, past_words}
use Rattle.pdp_symbolic.specs.Machine as symbolic
use Rattle.rt_follows.specs.Whole.{Whole, Home, OwnLies}

abbrev pub layout : Whole → Home → Layout
layout w h = record { code = w.code; code_end = w.code_end; data_end = w.data_end; block = h.block; low = h.low; high = h.high }

-- the memory as the task meets it
abbrev pub memory : Whole → Home → (ℕ → ℕ) → World
memory w h m = symbolic.memory (layout w h) m

-- the task is so in the memory, and its own data are these
pub record Holds (w : Whole) (h : Home) (u : Machine) (own : List Datum) (m : ℕ → ℕ) : Type 0 where
  pub task : Matches (layout w h) u m
  pub own_data : OwnLies w own u.block

-- ---- code

-- an instruction with its mark
pub record Marked : Type 0 where
  pub instr : Instr
  pub mark : ℕ

abbrev pub quiet : Instr → Marked
quiet i = record { instr = i; mark = 0 }

abbrev pub shown : Instr → Marked
shown i = record { instr = i; mark = 1 }

-- these instructions stand in the code of the image, with their marks
abbrev pub CodeAt : Whole → Home → ℕ → List Marked → Type 0
CodeAt w h a [] = Unit {0}
CodeAt w h a (i ∷ is) = Stands (layout w h) a (words_of i.instr) × (w.marks a ≡ i.mark) × CodeAt w h (past_words a (words_of i.instr)) is
