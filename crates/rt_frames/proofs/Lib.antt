mod Framed
pub mod Fused
mod Gathered
mod Passed
mod Reached
mod Shifted
mod Spread
mod Sums
pub mod Under
pub mod Within
