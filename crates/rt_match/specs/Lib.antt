pub mod Laws
pub mod Matching
pub mod Shapes
pub mod Signatures
pub mod Walking
