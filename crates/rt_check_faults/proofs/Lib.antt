pub mod Told
pub mod Joins
pub mod Counting
