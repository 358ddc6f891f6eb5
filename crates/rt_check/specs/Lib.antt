pub mod Derived
pub mod Walks
pub mod Whole
pub mod Laws
pub mod Faults
pub mod Texts
