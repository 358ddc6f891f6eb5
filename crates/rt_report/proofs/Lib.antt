pub mod Rooms
mod Noted
mod SameTables
mod Told
pub mod ListingLines
pub mod OneListing
