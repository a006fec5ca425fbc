-- What is proved of a file in parts.
pub mod Counted
pub mod Fitting
pub mod Steps
pub mod Held
pub mod Arrived
