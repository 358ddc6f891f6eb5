pub mod Tables
pub mod Expressions
pub mod Modes
pub mod ExpressionParser
pub mod ModeParser
pub mod Joins
