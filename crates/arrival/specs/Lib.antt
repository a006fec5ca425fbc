-- A file in parts, and its end.
pub mod Counting
pub mod Arriving
pub mod Ending
pub mod Calls
