pub mod Same
mod Supplying
