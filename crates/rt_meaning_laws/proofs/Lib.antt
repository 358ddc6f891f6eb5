mod Small
pub mod Modes
pub mod Operators
mod Finding
pub mod Errors
pub mod Numbers
pub mod Places
mod Stacks
pub mod Terms
pub mod Locals
pub mod Conditions
pub mod Statements
mod Following
mod Labels
pub mod Stores
pub mod Writing
pub mod Passing
mod Steps
pub mod Running
pub mod Nodes
pub mod Soundness
pub mod Grounding
pub mod Entering
mod Starts
mod Beginning
mod Beginnings
mod Values
mod Nodings
mod Tests
mod Bodies
mod Naming
mod Closing
mod Supplying
mod Whole
mod Telling
mod Enduring
mod Ending
pub mod SourceRuns
mod Alone
pub mod Making
