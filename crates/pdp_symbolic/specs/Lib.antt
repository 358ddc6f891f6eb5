pub mod Machine
pub mod Acts
pub mod Plans
pub mod Laws
