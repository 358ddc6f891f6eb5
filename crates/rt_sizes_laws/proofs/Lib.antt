pub mod Deeper
pub mod Alike
pub mod Lying
pub mod Leading
pub mod Sized
pub mod Ringless
mod Settled
mod Contained
