-- Laws about the definitions of specs/.
pub mod Hashing
pub mod Found
pub mod Spaced
pub mod Steps
pub mod Distinct
pub mod Chained
pub mod Searched
pub mod Same
