mod Built
mod Opened
mod Worlds
