-- Two results of one debit request.
pub mod Comparing
pub mod Same
pub mod Gives
pub mod Says
