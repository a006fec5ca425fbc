-- Requests and results matched by key, and their amounts.
pub mod Matching
pub mod Amounts
