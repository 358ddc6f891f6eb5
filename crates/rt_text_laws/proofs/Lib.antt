pub mod Ranges
pub mod Plain
pub mod Bricks
pub mod Bodies
pub mod Some
pub mod Named
pub mod Promised
pub mod Joined
