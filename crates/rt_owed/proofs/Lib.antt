pub mod Needs
pub mod Names
pub mod Candidates
pub mod Owed
pub mod Systems
pub mod Imaged
pub mod Joined
