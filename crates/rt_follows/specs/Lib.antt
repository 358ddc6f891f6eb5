pub mod Whole
pub mod Held
pub mod Follows
pub mod Runs
pub mod Linked
pub mod Calls
pub mod Laws
