pub mod Small
pub mod Short
pub mod Nodes
pub mod Words
pub mod Operands
pub mod Fitting
pub mod Conditions
pub mod Modes
pub mod Sets
pub mod Standing
pub mod Seen
pub mod Judged
pub mod Good
pub mod Lines
pub mod Locals
pub mod Inside
pub mod Bodies
pub mod Procedures
pub mod Modules
mod NumberWords
mod Defaults
mod Made
mod Bricks
mod Strings
mod Whole
pub mod Few
pub mod Systems
