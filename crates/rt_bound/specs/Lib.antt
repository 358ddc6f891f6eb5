pub mod Signed
pub mod Laws
pub mod Supplied
pub mod Leads
