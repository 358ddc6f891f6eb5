pub mod Bindings
pub mod Trees
pub mod Starting
pub mod Systems
pub mod World
pub mod Matching
