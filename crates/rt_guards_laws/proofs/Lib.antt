pub mod Owning
pub mod Rings
pub mod Ways
pub mod Moves
pub mod Steps
pub mod Invariant
pub mod Keeping
pub mod Whole
