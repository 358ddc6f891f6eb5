pub mod Tails
pub mod Numbers
pub mod Good
pub mod Choices
pub mod OneItem
pub mod Wider
pub mod Turning
pub mod Labels
