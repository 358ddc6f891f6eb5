pub mod Starts
pub mod Modules
pub mod Tables
