pub mod Fronts
pub mod Steps
pub mod Cuts
pub mod Looking
