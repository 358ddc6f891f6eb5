pub mod Trees
pub mod Systems
