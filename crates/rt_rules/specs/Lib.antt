pub mod Roster
pub mod First
pub mod Rules
pub mod Code
pub mod Laws
