pub mod Grammar
pub mod Known
pub mod Laws
pub mod Ranges
pub mod Reading
pub mod Spelling
