pub mod Names
pub mod Links
pub mod Resolved
mod Contents
mod Reading
