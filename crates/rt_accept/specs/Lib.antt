pub mod Calls
pub mod Faulting
pub mod Reading
pub mod Systems
pub mod Verdicts
pub mod FileEnds
pub mod Laws
