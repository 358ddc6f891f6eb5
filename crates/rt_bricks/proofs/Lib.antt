pub mod StartLines
pub mod Factors
pub mod DeclarationLines
pub mod GroupLines
pub mod ModuleLines
pub mod Exact
