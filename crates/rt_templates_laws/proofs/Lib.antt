pub mod Weighing
pub mod Marking
pub mod Standing
pub mod Filling
