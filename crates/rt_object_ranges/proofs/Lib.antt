pub mod Each
pub mod NamesDiffer
pub mod Rising
pub mod Sized
pub mod Standing
pub mod Whole
