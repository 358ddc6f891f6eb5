pub mod Points
pub mod Graph
pub mod Families
pub mod Names
pub mod References
pub mod Tests
pub mod Verdicts
pub mod Laws
