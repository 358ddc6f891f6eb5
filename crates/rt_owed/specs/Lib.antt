pub mod Owed
pub mod Systems
pub mod Imaged
pub mod Joined
