pub mod Steps
pub mod Weights
pub mod Within
pub mod Texts
