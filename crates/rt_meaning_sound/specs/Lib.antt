pub mod Seen
pub mod Short
pub mod Expressions
pub mod Procedures
pub mod Numbers
pub mod Systems
