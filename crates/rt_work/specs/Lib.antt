pub mod Numbers
pub mod Task
pub mod Weights
pub mod Steps
