mod Callers
mod Counts
mod Locals
mod Others
mod Steps
mod Tasks
mod Touching
pub mod Longer
mod Placements
mod Rising
