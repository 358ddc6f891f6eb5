mod Calls
mod Taken
