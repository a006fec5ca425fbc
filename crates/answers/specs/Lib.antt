-- What the treasurer is told.
pub mod Answers
pub mod Refusing
pub mod OfTwo
pub mod Storing
pub mod Lying
pub mod OfDay
