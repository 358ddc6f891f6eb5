pub mod Moved
pub mod Results
pub mod Words
