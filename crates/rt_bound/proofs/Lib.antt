pub mod Signing
pub mod Matching
pub mod Alike
pub mod Binding
pub mod Leads
pub mod Together
pub mod Reading
pub mod Items
