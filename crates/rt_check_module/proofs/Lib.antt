mod Walking
mod Seeing
pub mod Pendings
pub mod StartLevels
pub mod Lists
pub mod Steps
pub mod Judged
pub mod Sets
