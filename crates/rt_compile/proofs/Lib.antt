mod Tests
mod Layers
mod Places
mod Counted
mod Named
mod Fitting
pub mod Marking
mod Telling
mod Apart
mod Lists
mod OneLayout
mod OneTaken
mod OneObject
mod Answered
