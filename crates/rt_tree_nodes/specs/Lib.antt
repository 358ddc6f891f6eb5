pub mod Code
pub mod Scopes
pub mod Tree
pub mod Typing
