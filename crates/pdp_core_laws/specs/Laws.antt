-- What an instruction leaves as it was.
use Rattle.std.specs.Prelude.{◌≡◌, ℕ, false}
use Rattle.pdp_core.specs.declared.cpu.Regs.{Regs}
use Rattle.pdp_core.specs.World.{World, may}
use Rattle.pdp_core.specs.Execute.{execute}

-- a byte is as it was, and so is who may use what
pub record Same (w : World) (a : ℕ) (after : World) : Type 0 where
  pub byte : after.bytes a ≡ w.bytes a
  pub fetches : after.fetches ≡ w.fetches
  pub touches : after.touches ≡ w.touches

-- An instruction changes no byte that its task may not use, and not who may use what.
abbrev pub OthersKeepTheirBytes : Type 0
OthersKeepTheirBytes = (w : World) (g : Regs) (a : ℕ) → may w.touches a ≡ false → Same w a (execute w g).world
