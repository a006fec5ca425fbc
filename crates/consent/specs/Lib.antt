-- Enrolments beside their evidence.
pub mod Comparing
pub mod Marks
pub mod Matched
pub mod First
