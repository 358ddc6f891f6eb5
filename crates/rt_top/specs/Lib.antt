pub mod Compiling
pub mod Linking
pub mod Running
pub mod Showing
pub mod Stacking
pub mod Going
pub mod Generating
pub mod Top
