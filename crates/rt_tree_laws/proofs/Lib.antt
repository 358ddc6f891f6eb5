mod DataItems
mod Words
pub mod Telling
pub mod Opening
pub mod Defining
pub mod Reaching
