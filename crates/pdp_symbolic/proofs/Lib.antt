pub mod Memory
pub mod Reach
pub mod Shifts
pub mod Sound
pub mod Runs
pub mod Templates
