pub mod Faithful
pub mod Imaged
pub mod Services
pub mod Joined
pub mod Laws
