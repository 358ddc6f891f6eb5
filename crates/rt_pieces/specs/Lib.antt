pub mod Bytes
pub mod Pieces
pub mod Cutting
pub mod Begins
pub mod Steps
