pub mod Kept
pub mod Puts
pub mod Stretches
pub mod Changes
pub mod Taken
