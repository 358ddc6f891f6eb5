mod Changes
mod Firsts
pub mod Sizes
