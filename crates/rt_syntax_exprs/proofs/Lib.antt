pub mod Applied
pub mod Rank
pub mod ExpressionLines
pub mod ModeLines
