pub mod Texts
pub mod Meaning
pub mod Lets
pub mod Reading
pub mod Ropes
pub mod Table
pub mod Ranges
