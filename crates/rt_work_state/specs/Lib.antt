pub mod Stores
pub mod Items
pub mod Nodes
pub mod Labels
