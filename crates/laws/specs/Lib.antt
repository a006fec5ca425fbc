-- The mathematics below all other crates.
pub mod Least
pub mod Sum
pub mod Part
pub mod Joined
pub mod Tabulate
pub mod Stored
