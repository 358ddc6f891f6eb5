pub mod Sights
pub mod Parts
pub mod Statements
pub mod Procedures
