pub mod Long
pub mod Objects
pub mod Kept
pub mod Faults
