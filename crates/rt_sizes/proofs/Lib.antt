pub mod Layers
pub mod Kept
pub mod Settling
pub mod Reaching
pub mod Rings
pub mod Cycles
