-- A unit of consent evidence.
pub mod Units
pub mod Frames
