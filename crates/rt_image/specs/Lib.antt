pub mod Grammar
pub mod Laws
pub mod Memory
pub mod Ranges
pub mod Reading
pub mod Spelling
