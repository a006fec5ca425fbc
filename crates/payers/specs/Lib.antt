-- What each payer owes and what was taken of it.
pub mod Members
pub mod Payers
pub mod Turns
