-- The frame of signed evidence.
pub mod Shape
pub mod Checking
pub mod Shortest
