pub mod Tables
pub mod Statements
pub mod StatementParser
pub mod Derives
pub mod Strings
