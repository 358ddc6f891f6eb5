pub mod Step
pub mod Once
pub mod Induction
pub mod Starting
pub mod Calls
pub mod Parameters
