pub mod Texts
pub mod Reports
pub mod Reading
pub mod Trace
pub mod Watching
pub mod Replays
pub mod Laws
