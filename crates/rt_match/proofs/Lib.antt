pub mod Asking
pub mod Letters
pub mod Noting
pub mod Verdicts
pub mod Walking
pub mod Whose
