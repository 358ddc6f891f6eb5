pub mod Sums
pub mod Calm
pub mod Leading
pub mod Weighing
pub mod Rooms
pub mod Whole
