pub mod Ropes
pub mod Tables
pub mod Strings
pub mod Expanding
pub mod Readings
pub mod Throughout
pub mod Meanings
pub mod Expanded
