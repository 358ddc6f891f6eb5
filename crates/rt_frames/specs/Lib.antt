pub mod Frames
pub mod Measures
pub mod Points
pub mod Saturated
pub mod Small
pub mod Walks
