mod Least
mod Modules
mod Known
mod Modes
