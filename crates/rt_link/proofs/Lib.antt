mod Judging
mod TaskStacks
mod Bricks
mod Rooted
mod TaskLines
mod Verdicts
pub mod Summed
pub mod Looked
pub mod Followed
pub mod Routines
pub mod Inside
pub mod Long
pub mod Ranged
pub mod Placed
