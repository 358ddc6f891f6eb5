mod Trees
pub mod Complete
pub mod Known
pub mod Judged
pub mod Others
mod Real
pub mod Sound
mod Levels
pub mod Same
pub mod Joins
pub mod Following
mod Indexing
mod Kept
