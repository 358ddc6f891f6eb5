pub mod Data
pub mod DataLaws
pub mod Taken
pub mod Marks
pub mod Objects
pub mod Walks
pub mod Texts
pub mod Laws
