-- The layout of an evidence file.
pub mod Tables
