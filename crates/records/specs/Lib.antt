-- The records of one file.
pub mod Records
pub mod Quantities
