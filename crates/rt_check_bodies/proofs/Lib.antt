pub mod Told
pub mod Lines
pub mod Declaring
pub mod Wholes
