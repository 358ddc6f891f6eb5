pub mod StatementLines
pub mod Exact
