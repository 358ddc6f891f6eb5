mod Chosen
mod Typed
mod Walking
mod Joined
mod Finished
mod Alone
mod Rising
mod Reading
pub mod Texts
