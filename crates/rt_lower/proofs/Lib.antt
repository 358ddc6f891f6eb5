mod Listing
mod Offsets
pub mod Lengths
pub mod Laying
pub mod Drafted
pub mod Labelled
pub mod Whole
pub mod Growing
pub mod Alone
