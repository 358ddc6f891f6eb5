mod Accepts
pub mod Declined
pub mod Statuses
mod Lines
mod Printed
mod Places
mod Whole
mod LibraryText
