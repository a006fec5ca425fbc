-- The text that people read.
pub mod Decimal
pub mod Lines
pub mod Posting
