pub mod Layouts
pub mod Values
pub mod Code
pub mod Drafts
