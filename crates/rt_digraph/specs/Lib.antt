pub mod Walks
pub mod Digraph
pub mod Going
pub mod Alone
pub mod Rings
