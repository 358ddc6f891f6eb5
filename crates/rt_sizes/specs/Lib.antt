pub mod Sizes
pub mod Capped
pub mod Containing
pub mod Rings
pub mod Reaching
