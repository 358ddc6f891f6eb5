mod Bounding
mod Holding
