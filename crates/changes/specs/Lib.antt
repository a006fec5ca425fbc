-- Members who change banks.
pub mod Halves
pub mod Keyed
pub mod Answers
pub mod Deciding
pub mod Says
